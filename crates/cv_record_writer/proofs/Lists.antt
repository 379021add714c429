-- Values that were appended one after the other.
use Rattle.std.proofs.Common.{◌≡◌, ℕ, suc, ◌+◌, ◌-◌, List, [], ◌∷◌, ◌++◌, ◌<◌, ◌≤◌, length, get_or, take, refl, sym, ap, subst, ◌∙◌, add-one, append_assoc, append-nil, arith}
use Rattle.std.proofs.Math.Seq.{take-suc}
use Rattle.std.proofs.lemmas.List.{take_all}
use Rattle.std.proofs.lemmas.Bool.{ne_eqb}
use Rattle.rv_bytes.specs.Forms.{Form, RowSpells}
use Rattle.rv_bytes.specs.Writers.{SpellsEverywhere}
use Rattle.cv_parts.specs.Puts.{Puts}
use Rattle.cv_parts.specs.Series.{count_down, so_many}
use Rattle.cv_record_writer.specs.Contents.{all_bytes}

-- each of the values is spelled
abbrev pub AllSpelled : {A : Type 0} → Form ℕ A → (A → List ℕ) → List A → Type 0
AllSpelled F f [] = Unit {0}
AllSpelled F f (x ∷ xs) = SpellsEverywhere F x (f x) × AllSpelled F f xs

-- these values were appended
pub record Written {A : Type 0} (F : Form ℕ A) (f : A → List ℕ) (xs : List A) (old new : List ℕ) : Type 0 where
  pub appended : new ≡ old ++ all_bytes f xs
  pub spells : AllSpelled F f xs

pub written_none : {A : Type 0} (F : Form ℕ A) (f : A → List ℕ) (old : List ℕ) → Written F f [] old old
written_none F f old = record { appended = sym (append-nil old); spells = tt }

-- the bytes of one value more
pub all_push : {A : Type 0} (f : A → List ℕ) (xs : List A) (x : A) → all_bytes f (xs ++ x ∷ []) ≡ all_bytes f xs ++ f x
all_push f [] x = append-nil (f x)
all_push f (y ∷ ys) x = ap (λ t. f y ++ t) (all_push f ys x) ∙ sym (append_assoc (f y) (all_bytes f ys) (f x))

spelled_push : {A : Type 0} (F : Form ℕ A) (f : A → List ℕ) (xs : List A) (x : A) → AllSpelled F f xs → SpellsEverywhere F x (f x) → AllSpelled F f (xs ++ x ∷ [])
spelled_push F f [] x h s = (s, tt)
spelled_push F f (y ∷ ys) x h s = (h.0, spelled_push F f ys x h.1 s)

pub written_push : {A : Type 0} (F : Form ℕ A) (f : A → List ℕ) (xs : List A) (x : A) (old mid new : List ℕ) → Written F f xs old mid → Puts F x (f x) mid new → Written F f (xs ++ x ∷ []) old new
written_push F f xs x old mid new a p = record {
  appended = p.appended ∙ ap (λ l. l ++ f x) a.appended ∙ append_assoc old (all_bytes f xs) (f x) ∙ ap (λ t. old ++ t) (sym (all_push f xs x));
  spells = spelled_push F f xs x a.spells p.spells;
}

-- so many values are spelled
many_spelled : {A : Type 0} (F : Form ℕ A) (f : A → List ℕ) (xs : List A) → AllSpelled F f xs → SpellsEverywhere (so_many F (length xs)) xs (all_bytes f xs)
many_spelled F f [] h n = (refl, refl)
many_spelled F f (x ∷ xs) h n =
    let left : length xs ≡ length (x ∷ xs) - 1 = omega arith in (
      ne_eqb (length (x ∷ xs)) 0 (λ e. absurd (omega (arith, e))),
      record {
        front = f x;
        back = all_bytes f xs;
        split = refl;
        is_front = h.0 n;
        is_back = subst (λ z. RowSpells (count_down F) z (n + length (f x)) xs (all_bytes f xs)) left (many_spelled F f xs h.1 (n + length (f x)));
      },
    )

pub written_many : {A : Type 0} (F : Form ℕ A) (f : A → List ℕ) (xs : List A) (old new : List ℕ) → Written F f xs old new → Puts (so_many F (length xs)) xs (all_bytes f xs) old new
written_many F f xs old new a = record { appended = a.appended; spells = many_spelled F f xs a.spells }

-- the turns of a loop over the values
pub written_more : {A : Type 0} (F : Form ℕ A) (f : A → List ℕ) (xs : List A) (i : ℕ) (d : A) (old mid new : List ℕ) → i < length xs → Written F f (take i xs) old mid → Puts F (get_or xs i d) (f (get_or xs i d)) mid new → Written F f (take (i + 1) xs) old new
written_more F f xs i d old mid new l a p =
    subst (λ ys. Written F f ys old new) (sym (ap (λ n. take n xs) (add-one i) ∙ take-suc xs i d l)) (written_push F f (take i xs) (get_or xs i d) old mid new a p)

pub written_whole : {A : Type 0} (F : Form ℕ A) (f : A → List ℕ) (xs : List A) (i : ℕ) (old new : List ℕ) → length xs ≤ i → Written F f (take i xs) old new → Puts (so_many F (length xs)) xs (all_bytes f xs) old new
written_whole F f xs i old new l a = written_many F f xs old new (subst (λ ys. Written F f ys old new) (take_all i xs l) a)
