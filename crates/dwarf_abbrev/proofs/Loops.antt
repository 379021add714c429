-- The turns of the loops that read pairs and declarations: what was read, before what is still to be read, is the whole.
use Rattle.std.proofs.Common.{◌≡◌, ◌<◌, ℕ, ◌-◌, true, false, List, [], ◌∷◌, ◌++◌, length, take, map, Option, Some, None, refl, ap, subst, ◌∙◌, arith, length-append}
use Rattle.std.proofs.Math.Seq.{take-append_seam}
use Rattle.rv_bytes.specs.Readers.{Res, got, bad, with_value, read_row}
use Rattle.rv_bytes.proofs.Turns.{done, failed, goes_on, shorter}
use Rattle.dwarf_abbrev.specs.Tables.{pairs, is_end, after_pair, but_last, SoFar, decls, kept}
use Rattle.dwarf_abbrev.specs.TableReaders.{read_pair, read_pairs, read_decl, read_decls}
use Rattle.dwarf_abbrev.specs.Declarations.{codes_of}
use Rattle.dwarf_abbrev.proofs.Tables.{pair_exact, pairs_byte, decls_byte, decls_all}
use Rattle.dwarf_abbrev.specs.declared.attr.Spec.{Spec}
use Rattle.dwarf_abbrev.specs.declared.decl.Abbrev.{Abbrev}

-- what stood before the last
pub but_last_push : {A : Type 0} (xs : List A) (x : A) → but_last (xs ++ x ∷ []) ≡ xs
but_last_push xs x = ap (λ n. take n (xs ++ x ∷ [])) (let e : length (xs ++ x ∷ []) - 1 ≡ length xs = omega (arith, length-append xs (x ∷ [])) in e) ∙ take-append_seam xs (x ∷ [])

abbrev pub PairsSoFar : Res ℕ (List Spec) → List Spec → ℕ → List ℕ → Type 0
PairsSoFar whole acc n t = with_value (λ vs. acc ++ vs) (read_pairs n t) ≡ whole

-- the pair 0, 0 ends the pairs, and is left out
pub pairs_end : (whole : Res ℕ (List Spec)) (acc : List Spec) (n : ℕ) (t : List ℕ) (v : Spec) (m : ℕ) (k : List ℕ) → PairsSoFar whole acc n t → read_pair n t ≡ got v m k → is_end v ≡ true → with_value but_last whole ≡ got acc m k
pairs_end whole acc n t v m k h r e =
    ap (with_value but_last) (done pairs (λ _. read_pair) 0 whole (acc ++ v ∷ []) (is_end v) m k (goes_on pairs (λ _. read_pair) 0 pairs_byte (λ s o. pair_exact) whole acc false n t v m k h refl r) e)
    ∙ ap (λ l. got l m k) (but_last_push acc v)

-- after another pair they go on
pub pairs_on : (whole : Res ℕ (List Spec)) (acc : List Spec) (n : ℕ) (t : List ℕ) (v : Spec) (m : ℕ) (k : List ℕ) → PairsSoFar whole acc n t → read_pair n t ≡ got v m k → is_end v ≡ false → PairsSoFar whole (acc ++ v ∷ []) m k
pairs_on whole acc n t v m k h r e =
    subst (λ b. with_value (λ vs. (acc ++ v ∷ []) ++ vs) (read_row (λ b. b) (λ _. read_pair) after_pair 0 b m k) ≡ whole) e
    (goes_on pairs (λ _. read_pair) 0 pairs_byte (λ s o. pair_exact) whole acc false n t v m k h refl r)

pub pairs_bad : (whole : Res ℕ (List Spec)) (acc : List Spec) (n : ℕ) (t : List ℕ) (r m : ℕ) → PairsSoFar whole acc n t → read_pair n t ≡ bad r m → with_value but_last whole ≡ bad r m
pairs_bad whole acc n t r m h e = ap (with_value but_last) (failed pairs (λ _. read_pair) 0 whole acc false n t r m h refl e)

pub pairs_shorter : (n : ℕ) (t : List ℕ) (v : Spec) (m : ℕ) (k : List ℕ) → read_pair n t ≡ got v m k → length k < length t
pairs_shorter n t v m k r = shorter pairs (λ _. read_pair) pairs_byte (λ s o. pair_exact) false n t v m k refl r

-- The same for declarations.
abbrev pub somes : List Abbrev → List (Option Abbrev)
somes xs = map (λ a. Some a) xs

-- after these declarations the table goes on
abbrev pub behind : List Abbrev → SoFar
behind list = record { codes = codes_of list; ended = false }

abbrev pub DeclsSoFar : Res ℕ (List (Option Abbrev)) → List Abbrev → ℕ → List ℕ → Type 0
DeclsSoFar whole acc n t = with_value (λ vs. somes acc ++ vs) (read_decls (behind acc) n t) ≡ whole

pub kept_end : (xs : List Abbrev) → kept (somes xs ++ None ∷ []) ≡ xs
kept_end [] = refl
kept_end (x ∷ xs) = ap (λ l. x ∷ l) (kept_end xs)

pub map_push : {A B : Type 0} (f : A → B) (xs : List A) (x : A) → map f xs ++ f x ∷ [] ≡ map f (xs ++ x ∷ [])
map_push f [] x = refl
map_push f (y ∷ xs) x = ap (λ l. f y ∷ l) (map_push f xs x)

pub decls_end : (whole : Res ℕ (List (Option Abbrev))) (acc : List Abbrev) (n : ℕ) (t : List ℕ) (m : ℕ) (k : List ℕ) → DeclsSoFar whole acc n t → read_decl (codes_of acc) n t ≡ got None m k → with_value kept whole ≡ got acc m k
decls_end whole acc n t m k h r =
    let e : SoFar = record { codes = codes_of acc; ended = true } in
    ap (with_value kept) (done decls (λ t. read_decl t.codes) 0 whole (somes acc ++ None ∷ []) e m k (goes_on decls (λ t. read_decl t.codes) 0 decls_byte decls_all whole (somes acc) (behind acc) n t None m k h refl r) refl)
    ∙ ap (λ l. got l m k) (kept_end acc)

pub decls_on : (whole : Res ℕ (List (Option Abbrev))) (acc : List Abbrev) (n : ℕ) (t : List ℕ) (a : Abbrev) (m : ℕ) (k : List ℕ) → DeclsSoFar whole acc n t → read_decl (codes_of acc) n t ≡ got (Some a) m k → DeclsSoFar whole (acc ++ a ∷ []) m k
decls_on whole acc n t a m k h r =
    subst (λ l. with_value (λ vs. l ++ vs) (read_decls (behind (acc ++ a ∷ [])) m k) ≡ whole) (map_push (λ a. Some a) acc a)
    (subst (λ c. with_value (λ vs. (somes acc ++ Some a ∷ []) ++ vs) (read_decls (record { codes = c; ended = false }) m k) ≡ whole) (map_push (λ a. a.code) acc a)
    (goes_on decls (λ t. read_decl t.codes) 0 decls_byte decls_all whole (somes acc) (behind acc) n t (Some a) m k h refl r))

pub decls_bad : (whole : Res ℕ (List (Option Abbrev))) (acc : List Abbrev) (n : ℕ) (t : List ℕ) (r m : ℕ) → DeclsSoFar whole acc n t → read_decl (codes_of acc) n t ≡ bad r m → with_value kept whole ≡ bad r m
decls_bad whole acc n t r m h e = ap (with_value kept) (failed decls (λ t. read_decl t.codes) 0 whole (somes acc) (behind acc) n t r m h refl e)

pub decls_shorter : (acc : List Abbrev) (n : ℕ) (t : List ℕ) (v : Option Abbrev) (m : ℕ) (k : List ℕ) → read_decl (codes_of acc) n t ≡ got v m k → length k < length t
decls_shorter acc n t v m k r = shorter decls (λ t. read_decl t.codes) decls_byte decls_all (behind acc) n t v m k refl r
