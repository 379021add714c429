use Rattle.rv_bytes.specs.Writers.{Extends}
use Rattle.dwarf_lists.proofs.Written.{ArePut}
use Rattle.dwarf_lists.proofs.put.put_entries.Given as goal

-- the entries so far were appended, after what was there
abbrev pub invariant-loop-zone : goal.invariant-loop-zone
invariant-loop-zone l = record {
  put : ArePut l.zones l.zone-index l.fn.out l.out;
  kept : Extends l.fn.out l.out;
}
