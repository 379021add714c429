use Rattle.std.proofs.Common.{sym}
use Rattle.rv_io.proofs.FilesByName.{found_at, passed_at}
use Rattle.rv_io.proofs.mem_inputs.find.Goals as goal

pub returns-then-eq : goal.returns-then-eq
returns-then-eq c = rw (c.as_bytes-then-eq.ensures) (found_at c.args.name.now c.args.files.now c.loop-file.file-index c.file-item.result c.loop-file-test.true c.file-item.is (rw (← c.as_bytes.ensures) (sym c.if-eq.ensures)) c.loop-file.invariant)

pub loop-file-preserved : goal.loop-file-preserved
loop-file-preserved c = passed_at c.args.name.now c.args.files.now c.loop-file.file-index c.file-item.result c.loop-file-test.true c.file-item.is (rw (← c.as_bytes.ensures) (sym c.if-eq.ensures)) c.loop-file.invariant
