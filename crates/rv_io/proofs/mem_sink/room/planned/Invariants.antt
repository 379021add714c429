use Rattle.std.proofs.Common.{◌≡◌, drop}
use Rattle.rv_io.specs.MemSink.{planned}
use Rattle.rv_io.proofs.mem_sink.room.planned.Given as goal

-- none of the entries so far is for this put
abbrev pub invariant-loop-fail : goal.invariant-loop-fail
invariant-loop-fail l = planned (drop l.fail-index l.failing) l.call ≡ planned l.failing l.call
