use Rattle.std.proofs.Common.{◌≡◌, ◌++◌, All, length}
use Rattle.rv_bytes.specs.Readers.{with_value}
use Rattle.dwarf_abbrev.specs.TableReaders.{read_pairs}
use Rattle.dwarf_abbrev.specs.Declarations.{IsSpec}
use Rattle.dwarf_abbrev.proofs.decl.read_specs.Given as goal

-- what was read, before what is still to be read, is the whole, and is sound
abbrev pub invariant-loop-specs : goal.invariant-loop-specs
invariant-loop-specs l = record {
  whole : with_value (λ vs. l.specs ++ vs) (read_pairs l.cut.at l.cut.rest) ≡ read_pairs l.fn.cut.at l.fn.cut.rest;
  sound : All IsSpec l.specs;
}

abbrev pub decreases-loop-specs : goal.decreases-loop-specs
decreases-loop-specs l = length l.cut.rest
