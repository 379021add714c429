use Rattle.std.proofs.Common.{◌≡◌, ◌+◌, ◌-◌, ◌∙◌, sym, ap, arith, take, drop, Some}
use Rattle.image_view.proofs.OneChunk.{slice_items, slice_past}
use Rattle.image_view.proofs.whole.slice_bytes.Goals as goal

pub returns-then-off-len : goal.returns-then-off-len
returns-then-off-len c =
    let size : c.args.off + c.args.len - c.args.off ≡ c.args.len = omega arith in
    ap (λ k. Some (take k (drop c.args.off c.args.bytes.now))) size ∙ sym (slice_items c.args.bytes.now c.args.off c.args.len c.if-off-len.true)

pub returns-else-off-len : goal.returns-else-off-len
returns-else-off-len c = sym (slice_past c.args.bytes.now c.args.off c.args.len c.if-off-len.false c.requires.some)
