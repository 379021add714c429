-- The numbers of constants by their names, with one symbol more in front.
use Rattle.std.proofs.Common.{◌≡◌, ◌<◌, ◌≤◌, ◌-◌, ◌+◌, arith, drop, get_or, length, map, ℕ, ℤ, Bool, true, false, cond, bytes_eq, List, [], ◌∷◌, Option, Some, None, refl, sym, ap, ◌∙◌, filter_map, if◌then◌else◌}
use Rattle.std.proofs.lemmas.List.{drop_more}
use Rattle.std.proofs.lemmas.Map.Text.{is_eq-slice_cmp}
use Rattle.std.specs.BTreeMap.{BTreeMap, Updates}
use Rattle.std.specs.Borrow.{Bor}
use Rattle.std.specs.Cmp.Lexicographic.{slice_cmp}
use Rattle.std.specs.Map.{lookup}
use Rattle.std.specs.List.{cons_option}
use Rattle.std.specs.Ordering.{is_eq, nat_cmp}
use Rattle.cv_symbol_records.specs.declared.kinds.SymKind.{SymKind}
use Rattle.cv_symbol_records.specs.declared.kinds.SymRec.{SymRec}
use Rattle.cv_type_defs.specs.Symbols.{constant_of}
use Rattle.cv_constants.specs.Named.{AreNumbers, constant_in, number_of}

abbrev constant_named : List ℕ → SymKind → Option ℤ
constant_named name (SymKind.Constant ty number text) = if bytes_eq text name then Some number else None
constant_named name _ = None

abbrev first_of : List ℤ → Option ℤ
first_of [] = None
first_of (n ∷ numbers) = Some n

abbrev in_front : List ℕ → List SymRec → Option ℤ → Option ℤ
in_front name rest o = first_of (cons_option o (filter_map (λ (s : SymRec). constant_named name s.kind) rest))

abbrev named : List ℕ → Option (List ℕ × ℤ) → Option ℤ
named q None = None
named q (Some c) = if bytes_eq c.0 q then Some c.1 else None

named_is : (q : List ℕ) (kind : SymKind) → constant_named q kind ≡ named q (constant_in kind)
named_is q (SymKind.Constant ty number text) = refl
named_is q _ = refl

-- a constant in front has its name
pub constant_added : (s : SymRec) (rest : List SymRec) (m n : BTreeMap (Bor (List ℕ)) ℤ) (name : Bor (List ℕ)) (kept number : ℤ) → kept ≡ number → Some (name.now, number) ≡ constant_in s.kind
    → Updates (λ (a b : Bor (List ℕ)). slice_cmp nat_cmp a.now b.now) m n name (Some kept) → AreNumbers rest m → AreNumbers (s ∷ rest) n
constant_added s rest m n name kept number same is updates are q =
    updates.0 q ∙ ap (λ z. cond (is_eq (slice_cmp nat_cmp name.now q.now)) (Some z) (number_of m q)) same ∙ ap (λ b. cond b (Some number) (number_of m q)) (is_eq-slice_cmp name.now q.now)
    ∙ ap (λ o. cond (bytes_eq name.now q.now) (Some number) o) (are q)
    ∙ by_test (bytes_eq name.now q.now)
    ∙ ap (λ o. in_front q.now rest (named q.now o)) is ∙ ap (in_front q.now rest) (sym (named_is q.now s.kind))
  where
    by_test : (b : Bool) → cond b (Some number) (constant_of rest q.now) ≡ in_front q.now rest (cond b (Some number) None)
    by_test true = refl
    by_test false = refl

-- every other symbol has none
pub other_added : (s : SymRec) (rest : List SymRec) (m : BTreeMap (Bor (List ℕ)) ℤ) → constant_in s.kind ≡ None → AreNumbers rest m → AreNumbers (s ∷ rest) m
other_added s rest m none are q = are q ∙ ap (in_front q.now rest) (sym (named_is q.now s.kind ∙ ap (named q.now) none))

-- without symbols there are none
pub no_numbers : (m : BTreeMap (Bor (List ℕ)) ℤ) → m.entries ≡ [] → AreNumbers [] m
no_numbers m e q = ap (lookup (λ (k : Bor (List ℕ)). is_eq (slice_cmp nat_cmp q.now k.now))) e

-- one symbol more is left
pub one_before : (xs : List (Bor SymRec)) (at : ℕ) (x : Bor SymRec) → 0 < at → at ≤ length xs → x ≡ get_or xs (at - 1) x
    → map (λ s. s.now) (drop (at - 1) xs) ≡ x.now ∷ map (λ s. s.now) (drop at xs)
one_before xs at x some few is =
    let next : (at - 1) + 1 ≡ at = omega arith in
    let within : at - 1 < length xs = omega arith in
    ap (map (λ (s : Bor SymRec). s.now)) (drop_more xs (at - 1) x within ∙ ap (λ y. y ∷ drop ((at - 1) + 1) xs) (sym is) ∙ ap (λ n. x ∷ drop n xs) next)
