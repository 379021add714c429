-- Each memory is kept in one way.
use Rattle.std.proofs.Common.{◌≡◌, ◌∙◌, sym, ap, subst, refl, ℕ, suc, ◌+◌, ◌-◌, ◌<◌, ◌≤◌, List, [], ◌∷◌, length, None, arith, ⊎_elim}
use Rattle.std.proofs.lemmas.Bool.{cases_lt, cases_order}
use Rattle.std.proofs.lemmas.Option.{slice_get-get_or, same_Some}
use Rattle.std.specs.Prelude.{slice_get}
use Rattle.snapshot_file.specs.Memory.{Run, end_of, byte_at, Rise}
use Rattle.snapshot_file.proofs.Runs.{inside, behind, below_from}

-- the runs have the same bytes
abbrev Same : List Run → List Run → Type 0
Same runs others = (a : ℕ) → byte_at runs a ≡ byte_at others a

first_byte : (run : Run) (runs : List Run) (k : ℕ) → k < length run.bytes → byte_at (run ∷ runs) (run.at + k) ≡ slice_get run.bytes k
first_byte run runs k l =
    let off : run.at + k - run.at ≡ k = omega arith in
    inside run (run.at + k) (slice_get run.bytes (run.at + k - run.at)) (byte_at runs (run.at + k)) (omega arith) (omega arith) ∙ ap (slice_get run.bytes) off

no_byte : (xs : List ℕ) (k : ℕ) → k < length xs → slice_get xs k ≡ None → ⊥
no_byte xs k l e = let some = slice_get-get_or xs k 0 l in cc

-- a run begins where no other memory has a byte
not_below : (from other : ℕ) (run : Run) (runs others : List Run) → 0 < length run.bytes → Rise 1 other others → Same (run ∷ runs) others → run.at < other → ⊥
not_below from other run runs others some rise same l =
    let here : run.at + 0 ≡ run.at = omega arith in
    no_byte run.bytes 0 some (sym (first_byte run runs 0 some) ∙ same (run.at + 0) ∙ ap (byte_at others) here ∙ below_from 1 other run.at others rise l)

-- the first runs begin together
same_at : (from : ℕ) (r s : Run) (rs ss : List Run) → Rise 1 from (r ∷ rs) → Rise 1 from (s ∷ ss) → Same (r ∷ rs) (s ∷ ss) → r.at < s.at → ⊥
same_at from r s rs ss h k same l = not_below from s.at r rs (s ∷ ss) h.1 (omega arith, k.1, k.2, k.3) same l

-- and end together
not_longer : (from : ℕ) (r s : Run) (rs ss : List Run) → Rise 1 from (r ∷ rs) → Rise 1 from (s ∷ ss) → Same (r ∷ rs) (s ∷ ss) → r.at ≡ s.at → length r.bytes < length s.bytes → ⊥
not_longer from r s rs ss h k same at l =
    let n = length r.bytes in
    let place : s.at + n ≡ end_of r = omega arith in
    let none : byte_at (r ∷ rs) (end_of r) ≡ None = behind r (end_of r) (slice_get r.bytes (end_of r - r.at)) (byte_at rs (end_of r)) (omega arith) ∙ below_from 1 (end_of r + 1) (end_of r) rs h.3 (omega arith) in
    no_byte s.bytes n l (sym (first_byte s ss n l) ∙ sym (same (s.at + n)) ∙ ap (byte_at (r ∷ rs)) place ∙ none)

same_list : (xs ys : List ℕ) → length xs ≡ length ys → ((k : ℕ) → k < length xs → slice_get xs k ≡ slice_get ys k) → xs ≡ ys
same_list [] [] e h = refl
same_list [] (y ∷ ys) e h = absurd (omega arith)
same_list (x ∷ xs) [] e h = absurd (omega arith)
same_list (x ∷ xs) (y ∷ ys) e h =
    let rest = same_list xs ys (omega arith) (λ k l. h (suc k) (omega arith)) in
    let first : x ≡ y = same_Some x y (h 0 (omega arith)) in
    ap (λ t. t ∷ xs) first ∙ ap (λ t. y ∷ t) rest

flip : (runs others : List Run) → Same runs others → Same others runs
flip runs others same a = sym (same a)

same_size : (from : ℕ) (r s : Run) (rs ss : List Run) → Rise 1 from (r ∷ rs) → Rise 1 from (s ∷ ss) → Same (r ∷ rs) (s ∷ ss) → r.at ≡ s.at → length r.bytes ≡ length s.bytes
same_size from r s rs ss h k same at = ⊎_elim (λ e. e) (λ o. ⊎_elim
    (λ l. absurd (not_longer from r s rs ss h k same at l))
    (λ l. absurd (not_longer from s r ss rs k h (flip (r ∷ rs) (s ∷ ss) same) (sym at) l)) o) (cases_order (length r.bytes) (length s.bytes))

same_start : (from : ℕ) (r s : Run) (rs ss : List Run) → Rise 1 from (r ∷ rs) → Rise 1 from (s ∷ ss) → Same (r ∷ rs) (s ∷ ss) → r.at ≡ s.at
same_start from r s rs ss h k same = ⊎_elim (λ e. e) (λ o. ⊎_elim
    (λ l. absurd (same_at from r s rs ss h k same l))
    (λ l. absurd (same_at from s r ss rs k h (flip (r ∷ rs) (s ∷ ss) same) l)) o) (cases_order r.at s.at)

-- below the rest, no byte; from there on, the rest alone
rest_same : (r s : Run) (rs ss : List Run) → Rise 1 (end_of r + 1) rs → Rise 1 (end_of s + 1) ss → end_of r ≡ end_of s → Same (r ∷ rs) (s ∷ ss) → Same rs ss
rest_same r s rs ss h k e same a = ⊎_elim
    (λ (l : a < end_of r + 1). below_from 1 (end_of r + 1) a rs h l ∙ sym (below_from 1 (end_of s + 1) a ss k (omega arith)))
    (λ (l : end_of r + 1 ≤ a). sym (behind r a (slice_get r.bytes (a - r.at)) (byte_at rs a) (omega arith)) ∙ same a ∙ behind s a (slice_get s.bytes (a - s.at)) (byte_at ss a) (omega arith))
    (cases_lt a (end_of r + 1))

same_bytes : (r s : Run) (rs ss : List Run) → Same (r ∷ rs) (s ∷ ss) → r.at ≡ s.at → length r.bytes ≡ length s.bytes → r.bytes ≡ s.bytes
same_bytes r s rs ss same at size = same_list r.bytes s.bytes size (λ k l.
    let place : r.at + k ≡ s.at + k = omega arith in
    sym (first_byte r rs k l) ∙ same (r.at + k) ∙ ap (byte_at (s ∷ ss)) place ∙ first_byte s ss k (omega arith))

same_run : (r s : Run) → r.at ≡ s.at → r.bytes ≡ s.bytes → r ≡ s
same_run r s at bytes =
    let a : r ≡ record { at = s.at; bytes = r.bytes } = ap (λ n. record { at = n; bytes = r.bytes }) at in
    a ∙ ap (λ bs. record { at = s.at; bytes = bs }) bytes

-- runs that are kept apart and have the same bytes are the same
pub same_runs : (from : ℕ) (runs others : List Run) → Rise 1 from runs → Rise 1 from others → ((a : ℕ) → byte_at runs a ≡ byte_at others a) → runs ≡ others
same_runs from [] [] h k same = refl
same_runs from [] (s ∷ ss) h k same =
    absurd (no_byte s.bytes 0 k.1 (sym (first_byte s ss 0 k.1) ∙ sym (same (s.at + 0))))
same_runs from (r ∷ rs) [] h k same =
    absurd (no_byte r.bytes 0 h.1 (sym (first_byte r rs 0 h.1) ∙ same (r.at + 0)))
same_runs from (r ∷ rs) (s ∷ ss) h k same =
    let at = same_start from r s rs ss h k same in
    let size = same_size from r s rs ss h k same at in
    let end : end_of r ≡ end_of s = omega arith in
    let later : Rise 1 (end_of r + 1) ss = subst (λ n. Rise 1 (n + 1) ss) (sym end) k.3 in
    ap (λ t. t ∷ rs) (same_run r s at (same_bytes r s rs ss same at size)) ∙ ap (λ t. s ∷ t) (same_runs (end_of r + 1) rs ss h.3 later (rest_same r s rs ss h.3 k.3 end same))
