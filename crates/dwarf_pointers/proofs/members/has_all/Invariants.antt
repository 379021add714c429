use Rattle.std.proofs.Common.{◌≡◌, take, true}
use Rattle.std.specs.List.{list_all}
use Rattle.dwarf_entries.specs.Lookups.{has}
use Rattle.dwarf_pointers.proofs.members.has_all.Given as goal

-- the entry has the attributes of the codes so far
abbrev pub invariant-loop-code : goal.invariant-loop-code
invariant-loop-code l = list_all (λ code. has code l.die.die.entry) (take l.code-index l.codes) ≡ true
