-- The links of the first records.
use Rattle.std.proofs.Common.{◌≡◌, ◌<◌, ◌≤◌, ◌+◌, ℕ, zero, suc, add-one, List, [], ◌∷◌, ◌++◌, append_assoc, flat_map, length, slice_get, take, zip, if◌then◌else◌, Option, Some, None, refl, sym, ap, ◌∙◌, arith, append-nil}
use Rattle.std.proofs.Math.Seq.{take-length}
use Rattle.std.specs.List.{range_with_len}
use Rattle.std.specs.Option.{option_map}
use Rattle.cv_type_records.specs.declared.kinds.TypeKind.{TypeKind}
use Rattle.cv_type_records.specs.declared.kinds.TypeRec.{TypeRec}
use Rattle.cv_type_defs.specs.Links.{Target}
use Rattle.cv_type_defs.specs.Numbering.{is_numbered}
use Rattle.cv_type_defs.specs.Uses.{kind_uses}
use Rattle.cv_uses.proofs.Marked.{marks_on}
use Rattle.cv_uses.specs.Marks.{no_marks, with_marks}
use Rattle.cv_uses.specs.Places.{uses_at}
use Rattle.cv_uses.specs.Used.{record_uses, records_uses}
use Rattle.std.proofs.Common.{Bool}

-- those of the records before this place
abbrev pub first_uses : List TypeRec → ℕ → List Target
first_uses records zero = []
first_uses records (suc place) = first_uses records place ++ uses_at records place

abbrev from_place : (ℕ × TypeRec → List Target) → ℕ → List TypeRec → List Target
from_place f k [] = []
from_place f k (r ∷ rest) = f (k, r) ++ from_place f (k + 1) rest

numbered_list : (f : ℕ × TypeRec → List Target) (k : ℕ) (rest : List TypeRec) → flat_map f (zip (range_with_len k (length rest)) rest) ≡ from_place f k rest
numbered_list f k [] = refl
numbered_list f k (r ∷ rest) = ap (λ l. f (k, r) ++ l) (numbered_list f (k + 1) rest)

one_longer : (f : ℕ × TypeRec → List Target) (k : ℕ) (xs : List TypeRec) (i : ℕ) (x : TypeRec) → slice_get xs i ≡ Some x
    → from_place f k (take (suc i) xs) ≡ from_place f k (take i xs) ++ f (k + i, x)
one_longer f k [] i x e = absurd (cc)
one_longer f k (y ∷ ys) zero x e =
    let same : y ≡ x = cc in
    let none : k ≡ k + 0 = omega arith in
    append-nil (f (k, y)) ∙ ap (λ z. f (k, z)) same ∙ ap (λ n. f (n, x)) none
one_longer f k (y ∷ ys) (suc i) x e =
    let there : (k + 1) + i ≡ k + suc i = omega arith in
    ap (λ l. f (k, y) ++ l) (one_longer f (k + 1) ys i x e ∙ ap (λ n. from_place f (k + 1) (take i ys) ++ f (n, x)) there)
    ∙ sym (append_assoc (f (k, y)) (from_place f (k + 1) (take i ys)) (f (k + suc i, x)))

there_is : (records : List TypeRec) (i : ℕ) → i < length records → (r : TypeRec) × (slice_get records i ≡ Some r)
there_is [] i h = absurd (omega (arith, h))
there_is (r ∷ records) zero h = (r, refl)
there_is (r ∷ records) (suc i) h = there_is records i (omega (arith, h))

abbrev uses_by : List TypeRec → ℕ → Option TypeKind → List Target
uses_by records place (Some kind) = if is_numbered kind then kind_uses records place kind else []
uses_by records place None = []

uses_there : (records : List TypeRec) (i : ℕ) (r : TypeRec) → slice_get records i ≡ Some r → uses_at records i ≡ record_uses records (i, r)
uses_there records i r e = ap (λ (o : Option TypeRec). uses_by records i (option_map (λ x. x.kind) o)) e

first_are : (records : List TypeRec) (n : ℕ) → n ≤ length records → first_uses records n ≡ from_place (record_uses records) 0 (take n records)
first_are records zero h = refl
first_are records (suc i) h =
    let within : i < length records = omega (arith, h) in
    let r = there_is records i within in
    let start : i ≡ 0 + i = omega arith in
    ap (λ l. l ++ uses_at records i) (first_are records i (omega (arith, h)))
    ∙ ap (λ l. from_place (record_uses records) 0 (take i records) ++ l) (uses_there records i r.0 r.1 ∙ ap (λ n. record_uses records (n, r.0)) start)
    ∙ sym (one_longer (record_uses records) 0 records i r.0 r.1)

-- those of all
pub all_first : (records : List TypeRec) → first_uses records (length records) ≡ records_uses records
all_first records =
    first_are records (length records) (omega arith) ∙ ap (from_place (record_uses records) 0) (take-length records)
    ∙ sym (numbered_list (record_uses records) 0 records)

-- one record more
pub one_record : (records : List TypeRec) (place : ℕ) (old new : List Bool) → old ≡ with_marks no_marks (first_uses records place) → new ≡ with_marks old (uses_at records place)
    → new ≡ with_marks no_marks (first_uses records (place + 1))
one_record records place old new before is =
    is ∙ ap (λ m. with_marks m (uses_at records place)) before ∙ sym (marks_on no_marks (first_uses records place) (uses_at records place))
    ∙ ap (λ n. with_marks no_marks (first_uses records n)) (sym (add-one place))
