-- What the call that reads a numeric leaf takes and refuses, by its kind and what follows it.
use Rattle.std.proofs.Common.{◌≡◌, ℕ, ℤ, None, Ok, Err, ap, ◌∙◌, refl}
use Rattle.rv_bytes.specs.Places.{Place}
use Rattle.rv_bytes.specs.Readers.{got, bad, and_then, as_item}
use Rattle.rv_bytes.specs.Reads.{Takes, IsRefused, rule_of, place_of, IsSameRule}
use Rattle.rv_bytes.specs.Leaves.{numeric}
use Rattle.rv_bytes.specs.NumberReaders.{read_number, read_leaf, read_numeric}
use Rattle.rv_bytes.specs.declared.err.CutErr.{CutErr}
use Rattle.rv_bytes.proofs.Calls.{taken, refused}
use Rattle.rv_bytes.proofs.Leaves.{numeric_exact}

-- a number is taken
pub numeric_taken : (old mid new : Place) (kind : ℕ) (z : ℤ) → read_number 2 old.at old.rest ≡ got kind mid.at mid.rest → read_leaf kind mid.at mid.rest ≡ got z new.at new.rest → Takes numeric old new z
numeric_taken old mid new kind z h k =
    let whole : read_numeric old.at old.rest ≡ got z new.at new.rest = ap (λ x. as_item (λ _. None) old.at (and_then x read_leaf)) h ∙ ap (as_item (λ _. None) old.at) k in
    taken numeric read_numeric numeric_exact (λ y. y) old new (Ok z) whole

-- or refused, at its first byte
pub numeric_refused : (old mid : Place) (kind : ℕ) (d e : CutErr) → read_number 2 old.at old.rest ≡ got kind mid.at mid.rest → read_leaf kind mid.at mid.rest ≡ bad (rule_of d) (place_of d) → IsSameRule d old.at e → IsRefused numeric old e
numeric_refused old mid kind d e h k i =
    let whole : read_numeric old.at old.rest ≡ bad (rule_of d) old.at = ap (λ x. as_item (λ _. None) old.at (and_then x read_leaf)) h ∙ ap (as_item (λ _. None) old.at) k in
    refused numeric read_numeric numeric_exact (λ y. y) old old (Err e) (whole ∙ rw (i.0, i.1) refl)
