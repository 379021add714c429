use Rattle.std.proofs.Common.{◌≡◌, ℕ, Some, length, slice_get}
use Rattle.cv_type_defs.specs.Numbering.{numbered_before}
use Rattle.cv_links.proofs.numbers.read_numbers.Given as goal

-- the numbers so far are those of the places so far
abbrev pub invariant-loop-next : goal.invariant-loop-next
invariant-loop-next l = record {
  each : (place n : ℕ) → slice_get l.numbers.items place ≡ Some n → n ≡ numbered_before l.records place;
  many : length l.numbers.items ≡ l.next-index;
  count : l.count ≡ numbered_before l.records l.next-index;
}
