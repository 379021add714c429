-- The bytes that are read at once are all of the places.
use Rattle.std.proofs.Common.{◌≡◌, ◌∙◌, ◌<◌, ◌^◌, sym, ap, subst, length, Some, arith}
use Rattle.image_view.specs.Places.{places, part_of}
use Rattle.image_view.proofs.ByteNumbers.{number_of_bytes, length_of_bytes}
use Rattle.image_view.proofs.Ranges.{length_part}
use Rattle.image_view.proofs.numbers.number_at.Goals as goal

pub bytes_number-requires : goal.bytes_number-requires
bytes_number-requires c =
    let a = c.args in
    let part = part_of (places a.mem.now a.source a.from a.width) in
    let e : length c.in-Some.bytes.now ≡ a.width = length_of_bytes part c.in-Some.bytes.now c.in-Some.ensures.1 ∙ length_part a.mem.now a.source a.from a.width in
    omega (arith, e, c.requires.narrow)

pub returns-in-Some-clause-number : goal.returns-in-Some-clause-number
returns-in-Some-clause-number c =
    let a = c.args in
    let part = part_of (places a.mem.now a.source a.from a.width) in
    ap Some c.bytes_number.ensures.number ∙ sym (number_of_bytes part c.in-Some.bytes.now c.in-Some.ensures.1)

pub returns-in-Some-clause-bound : goal.returns-in-Some-clause-bound
returns-in-Some-clause-bound c =
    let a = c.args in
    let part = part_of (places a.mem.now a.source a.from a.width) in
    let e : length c.in-Some.bytes.now ≡ a.width = length_of_bytes part c.in-Some.bytes.now c.in-Some.ensures.1 ∙ length_part a.mem.now a.source a.from a.width in
    subst (λ n. c.bytes_number.result < 256 ^ n) e c.bytes_number.ensures.bound
