use Rattle.std.proofs.Common.{◌≡◌, ◌==◌, find, length}
use Rattle.dwarf_units.specs.Entries.{Attribute}
use Rattle.dwarf_units.proofs.attributes.Attributes.find.Given as goal

-- what is found among those that are left is found among all
abbrev pub invariant-loop-attribute : goal.invariant-loop-attribute
invariant-loop-attribute l = find (λ (a : Attribute). a.attr == l.code) l.self ≡ find (λ (a : Attribute). a.attr == l.code) l.fn.self

abbrev pub decreases-loop-attribute : goal.decreases-loop-attribute
decreases-loop-attribute l = length l.self
