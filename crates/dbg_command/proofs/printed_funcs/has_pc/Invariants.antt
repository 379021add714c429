use Rattle.std.proofs.Common.{◌≡◌, drop}
use Rattle.std.specs.List.{list_any}
use Rattle.dbg_command.specs.Lines.{is_in}
use Rattle.dbg_command.proofs.printed_funcs.has_pc.Given as goal

abbrev pub invariant-loop-zone : goal.invariant-loop-zone
invariant-loop-zone l = list_any (is_in l.pc) (drop l.zone-index l.zones) ≡ list_any (is_in l.pc) l.zones
