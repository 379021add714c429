use Rattle.std.proofs.Common.{◌∙◌, sym}
use Rattle.rust_names.proofs.RustLaws.{holds_some, holds_none}
use Rattle.rust_names.proofs.fitting.holds.Goals as goal

pub returns-then-inner-gt0 : goal.returns-then-inner-gt0
returns-then-inner-gt0 c = c.is_within.ensures ∙ sym (holds_some c.args.inner c.args.member.now c.if-inner-gt0.true)

pub returns-else-inner-gt0 : goal.returns-else-inner-gt0
returns-else-inner-gt0 c = holds_none c.args.inner c.args.member.now c.if-inner-gt0.false
