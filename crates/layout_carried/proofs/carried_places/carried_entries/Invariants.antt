use Rattle.std.proofs.Common.{◌≡◌, take}
use Rattle.std.specs.List.{filter}
use Rattle.layout_carried.specs.Carried.{entry_carries}
use Rattle.layout_carried.proofs.carried_places.carried_entries.Given as goal

-- the entries so far that are carried
abbrev pub invariant-loop-entry : goal.invariant-loop-entry
invariant-loop-entry l = l.found ≡ filter entry_carries (take l.entry-index l.entries)
