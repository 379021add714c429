use Rattle.std.proofs.Common.{◌≡◌, ◌∙◌, ap, ◌+◌, ◌≤◌, length, arith}
use Rattle.std.specs.List.{slice_range}
use Rattle.expr_eval.proofs.AddressParts.{address_is}
use Rattle.expr_eval.proofs.addresses.address_from.Goals as goal

-- the eight bytes are those of the address
pub returns : goal.returns
returns c =
    let section = c.args.section.now in
    let bytes = c.in_ok-bytes.bytes.now in
    let found = c.in_ok-bytes.ensures.lookup.0 in
    let ending : c.in_ok-end.end ≡ c.args.at + 8 = omega (arith, c.in_ok-end.ensures) in
    let within : c.args.at + 8 ≤ length section = omega (arith, found.1) in
    let few : length bytes ≤ 8 = omega (arith, found.3) in
    let part = found.2 ∙ ap (slice_range section c.args.at) ending in
    address_is section bytes c.args.at c.little_endian.result within part (c.little_endian.ensures.whole few)
