use Rattle.std.proofs.Common.{map, length}
use Rattle.expr_bytes.specs.Operations.{oper_of}
use Rattle.expr_reader.specs.Nexts.{HasRead}
use Rattle.expr_reader.proofs.reader.read_place.Given as goal

-- the operations up to here were read
abbrev pub invariant-loop-frame : goal.invariant-loop-frame
invariant-loop-frame l = HasRead l.fn.frame l.fn.addrs l.fn.cut l.cut (map oper_of l.opers) l.last

abbrev pub decreases-loop-frame : goal.decreases-loop-frame
decreases-loop-frame l = length l.cut.rest
