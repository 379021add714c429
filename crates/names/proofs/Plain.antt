-- What the tests of words and plain segments say.
use Rattle.std.proofs.Common.{◌≡◌, ◌≢◌, ℕ, Bool, true, false, ◌&&◌, List, [], ◌∷◌, Option, Some, None, refl, ap, ◌∙◌, codes}
use Rattle.std.proofs.lemmas.Slice.Eq.{bytes_eq-Decides}
use Rattle.names.specs.declared.name.Name.{Name}
use Rattle.names.specs.declared.name.Seg.{Seg}
use Rattle.names.specs.Names.{plain_str}
use Rattle.names.specs.Plain.{is_word, is_none, is_empty, is_plain_str}

and_parts : (a b : Bool) → (a && b) ≡ true → (a ≡ true) × (b ≡ true)
and_parts true b e = (refl, e)
and_parts false b e = cc

pub same_word : (w other : List ℕ) → is_word w other ≡ true → w ≡ other
same_word w other e = (bytes_eq-Decides w other).0 e

pub none_is : (o : Option ℕ) → is_none o ≡ true → o ≡ None
none_is None e = refl
none_is (Some n) e = cc

pub empty_is : (xs : List Name) → is_empty xs ≡ true → xs ≡ []
empty_is [] e = refl
empty_is (x ∷ xs) e = cc

abbrev seg_with : List ℕ → Option ℕ → List Name → Seg
seg_with w m xs = record { word = w; number = m; args = xs }

built : (w w' : List ℕ) (m m' : Option ℕ) (xs xs' : List Name) → w ≡ w' → m ≡ m' → xs ≡ xs' → seg_with w m xs ≡ seg_with w' m' xs'
built w w' m m' xs xs' a b c = ap (λ l. seg_with l m xs) a ∙ ap (λ l. seg_with w' l xs) b ∙ ap (λ l. seg_with w' m' l) c

-- the plain segment `str`
pub plain_is : (s : Seg) → is_plain_str s ≡ true → s ≡ record { word = codes "str"; number = None; args = [] }
plain_is s e =
    let p = and_parts (is_word s.word (codes "str")) (is_none s.number && is_empty s.args) e in
    let q = and_parts (is_none s.number) (is_empty s.args) p.1 in
    let a = same_word s.word (codes "str") p.0 in
    let b = none_is s.number q.0 in
    let c = empty_is s.args q.1 in
    built s.word (codes "str") s.number None s.args [] a b c

first_plain : List Seg → Bool
first_plain [] = false
first_plain (s ∷ ss) = is_plain_str s

pub not_plain : (s : Seg) → is_plain_str s ≡ false → (s ∷ []) ≢ plain_str
unfolding first_plain
not_plain s e h = let no : is_plain_str s ≡ true = ap first_plain h in cc

pub longer_not_plain : (s y : Seg) (ys : List Seg) → (s ∷ y ∷ ys) ≢ plain_str
longer_not_plain s y ys h = cc
