use Rattle.std.proofs.Common.{◌≡◌, drop}
use Rattle.layout_honest.specs.Lies.{plain_holder}
use Rattle.layout_honest.proofs.honesty.plain_holder.Given as goal

abbrev pub invariant-loop-field : goal.invariant-loop-field
invariant-loop-field l = plain_holder 8 l.types l.width l.off (drop l.field-index l.fields) ≡ plain_holder 8 l.types l.width l.off l.fields
