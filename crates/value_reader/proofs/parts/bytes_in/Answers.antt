-- One more byte is found, or is missing.
use Rattle.std.proofs.Common.{◌∙◌, ap, arith}
use Rattle.snapshot_file.specs.Memory.{bytes_of, number}
use Rattle.image_view.specs.Places.{part_of}
use Rattle.value_reader.proofs.Places.{byte_missing, byte_step, sub-part, length-part}
use Rattle.value_reader.proofs.parts.bytes_in.Goals as goal

pub loop-i-preserved : goal.loop-i-preserved
loop-i-preserved c =
    let part = part_of c.args.image.now in
    rw (c.in_ok-push-in-Some-number.ensures.items)
    (byte_step part c.loop-i.i c.in-Some-number.byte c.loop-i.found.items (bytes_of part)
    (omega (arith, c.loop-i-test.true, c.len-i-end.ensures, length-part c.args.image.now))
    (c.in-Some-number.ensures.number ∙ ap number (sub-part c.args.image.now c.loop-i.i 1)) c.loop-i.invariant)

pub returns-in-None : goal.returns-in-None
returns-in-None c =
    let part = part_of c.args.image.now in
    byte_missing part c.loop-i.i c.loop-i.found.items (bytes_of part)
    (omega (arith, c.loop-i-test.true, c.len-i-end.ensures, length-part c.args.image.now))
    (c.in-None.ensures.number ∙ ap number (sub-part c.args.image.now c.loop-i.i 1)) c.loop-i.invariant
