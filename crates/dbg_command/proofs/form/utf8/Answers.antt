use Rattle.std.proofs.Common.{refl}
use Rattle.dbg_command.proofs.Text.{text, no_text}
use Rattle.dbg_command.proofs.form.utf8.Goals as goal

pub returns-in-Ok : goal.returns-in-Ok
returns-in-Ok c = let h = c.in-Ok.ensures.cases in rw (text c.args.bytes.now h.1, h.0) refl

pub returns-in-Err : goal.returns-in-Err
returns-in-Err c = let h = c.in-Err.ensures.cases in rw (no_text c.args.bytes.now h.0) refl
