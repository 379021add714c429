-- What is left of a line is read by a form as the value that has it.
use Rattle.std.proofs.Common.{◌≡◌, ◌∙◌, ap, subst, refl, ◌++◌, Option, Some, None}
use Rattle.std.proofs.lemmas.Option.{same_Some}
use Rattle.std.specs.Option.{option_map}
use Rattle.layout_words.specs.Spellings.{Spelling, ◌>>=◌}
use Rattle.layout_words.specs.Forms.{Left, Form, cut, take_word, take_rest, behind, nothing, nothing_of, ◌·◌, rest}
use Rattle.layout_words.proofs.Cuts.{cut_joins, cut_behind}
use Rattle.layout_words.proofs.ItemLaws.{Law, WordLaw, map_says}

-- the value that is read is the one value that has the text
pub record FormLaw {A : Type 0} (F : Form A) : Type 0 where
  pub says : (left : Left) (a : A) → F.of left ≡ Some a → (left ≡ F.text a) × F.Is a
  pub some : (a : A) → F.Is a → F.of (F.text a) ≡ Some a

pub bind_says : {A B : Type 0} (o : Option A) (f : A → Option B) (b : B) → (o >>= f) ≡ Some b → (a : A) × (o ≡ Some a) × (f a ≡ Some b)
bind_says None f b e = absurd (cc)
bind_says (Some a) f b e = (a, refl, e)

-- a word that is taken, and what follows it
pub took_says : {A : Type 0} (S : Spelling A) → WordLaw S → (left : Left) (a : A) (after : Left) → take_word S left ≡ Some (a, after) → (left ≡ Some (S.text a ++ behind after)) × S.Is a
took_says S law None a after e = absurd (cc)
took_says S law (Some line) a after e =
    let found = bind_says (S.of (cut line).0) (λ x. Some (x, (cut line).1)) (a, after) e in
    let same = same_Some (found.0, (cut line).1) (a, after) found.2 in
    let item : S.of (cut line).0 ≡ Some a = found.1 ∙ ap (λ p. Some p.0) same in
    let known = law.law.says (cut line).0 a item in
    (ap Some (cut_joins line ∙ ap (λ t. t ++ behind (cut line).1) known.0 ∙ ap (λ p. S.text a ++ behind p.1) same), known.1)

pub took_some : {A : Type 0} (S : Spelling A) → WordLaw S → (a : A) (after : Left) → S.Is a → take_word S (Some (S.text a ++ behind after)) ≡ Some (a, after)
took_some S law a after h =
    ap (λ p. S.of p.0 >>= λ x. Some (x, p.1)) (cut_behind (S.text a) after (law.lacks a h))
    ∙ ap (λ o. o >>= λ x. Some (x, after)) (law.law.some a h)

nothing_says : (left : Left) (a : Unit {0}) → nothing_of left ≡ Some a → (left ≡ None) × Unit {0}
nothing_says None a e = (refl, tt)
nothing_says (Some line) a e = absurd (cc)

pub nothing_law : FormLaw nothing
nothing_law = record { says = nothing_says; some = λ a h. refl }

pub then_law : {A B : Type 0} (S : Spelling A) (F : Form B) → WordLaw S → FormLaw F → FormLaw (S · F)
then_law {A} {B} S F law more = record { says = says; some = some }
  where
    says : (left : Left) (p : A × B) → (S · F).of left ≡ Some p → (left ≡ (S · F).text p) × (S · F).Is p
    says left p e =
        let first = bind_says (take_word S left) (λ q. F.of q.1 >>= λ b. Some (q.0, b)) p e in
        let second = bind_says (F.of first.0.1) (λ b. Some (first.0.0, b)) p first.2 in
        let same : (first.0.0, second.0) ≡ p = same_Some (first.0.0, second.0) p second.2 in
        let taken = took_says S law left first.0.0 first.0.1 first.1 in
        let known = more.says first.0.1 second.0 second.1 in
        subst (λ x. (left ≡ (S · F).text x) × (S · F).Is x) same (taken.0 ∙ ap (λ l. Some (S.text first.0.0 ++ behind l)) known.0, (taken.1, known.1))

    some : (p : A × B) → (S · F).Is p → (S · F).of ((S · F).text p) ≡ Some p
    some p h =
        ap (λ o. o >>= λ q. F.of q.1 >>= λ b. Some (q.0, b)) (took_some S law p.0 (F.text p.1) h.0)
        ∙ ap (λ o. o >>= λ b. Some (p.0, b)) (more.some p.1 h.1)

rest_says : {A : Type 0} (S : Spelling A) → Law S → (left : Left) (a : A) → take_rest S left ≡ Some a → (left ≡ Some (S.text a)) × S.Is a
rest_says S law None a e = absurd (cc)
rest_says S law (Some line) a e = let known = law.says line a e in (ap Some known.0, known.1)

pub rest_law : {A : Type 0} (S : Spelling A) → Law S → FormLaw (rest S)
rest_law S law = record { says = rest_says S law; some = law.some }

-- a value that is made of what a form reads

pub says_by : {A B : Type 0} (F : Form A) (law : FormLaw F) (f : A → B) (P : B → Type 0) (left : Left) (b : B) → option_map f (F.of left) ≡ Some b → ((a : A) → left ≡ F.text a → F.Is a → P (f a)) → P b
says_by F law f P left b e h =
    let found = map_says f (F.of left) b e in
    let known = law.says left found.0 found.1 in
    subst P found.2 (h found.0 known.0 known.1)

pub some_by : {A B : Type 0} (F : Form A) (law : FormLaw F) (f : A → B) (a : A) → F.Is a → option_map f (F.of (F.text a)) ≡ Some (f a)
some_by F law f a h = ap (option_map f) (law.some a h)
