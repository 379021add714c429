-- The reader's words carry over to the whole file, since it is exact.
use Rattle.std.proofs.Common.{Ok, Err, subst}
use Rattle.rv_bytes.specs.Places.{Place}
use Rattle.rv_bytes.specs.Results.{Reads}
use Rattle.bundle_file.specs.Readers.{read_file}
use Rattle.bundle_file.proofs.Files.{spelled, refused}
use Rattle.bundle_file.proofs.read.read_bundle.Goals as goal

pub returns-in-Ok-clause-spelled : goal.returns-in-Ok-clause-spelled
returns-in-Ok-clause-spelled c =
    let P : Place → Type 0 = λ q. Reads (read_file q.at q.rest) (Ok c.in-Ok.bundle) c.read_file.new.cut in
    spelled c.args.bytes.now c.read_file.new.cut (Ok c.in-Ok.bundle) (subst P c.new-cut.ensures c.in-Ok.ensures.reads)

pub returns-in-Err-clause-refused : goal.returns-in-Err-clause-refused
returns-in-Err-clause-refused c =
    let P : Place → Type 0 = λ q. Reads (read_file q.at q.rest) (Err c.in-Err.e) c.read_file.new.cut in
    rw c.in_bundle.ensures (refused c.args.bytes.now c.read_file.new.cut c.in-Err.e (subst P c.new-cut.ensures c.in-Err.ensures.reads))
