use Rattle.std.proofs.Common.{◌<◌, ◌^◌, length, arith}
use Rattle.byteorder.specs.Endian.{little_number}
use Rattle.byteorder.specs.Numbers.{little_from-lt}
use Rattle.image_view.proofs.numbers.bytes_number.Goals as goal

pub returns-clause-bound : goal.returns-clause-bound
returns-clause-bound c =
    let bytes = c.args.bytes.now in
    let small : little_number (length bytes) bytes < 256 ^ length bytes = little_from-lt 0 (length bytes) bytes (λ k. (c.type_inv.bytes k).fits) in
    omega (arith, c.read_uint128.ensures, small)
