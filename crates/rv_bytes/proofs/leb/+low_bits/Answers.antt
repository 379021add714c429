use Rattle.std.proofs.Common.{◌≤◌, ◌-◌, length, drop, take, arith, length-drop}
use Rattle.std.proofs.lemmas.List.{length-take-le}
use Rattle.rv_bytes.proofs.Bits.{group_holds}
use Rattle.rv_bytes.proofs.leb.+low_bits.Goals as goal

pub overflow_mul-result : goal.overflow_mul-result
overflow_mul-result t c =
    let s = c.args.bytes.now in let rest = length s - 1 in
    let long : length (take rest (drop 1 s)) ≤ 9 = omega (arith, length-drop 1 s, length-take-le rest (drop 1 s) (omega (arith, length-drop 1 s)), c.requires) in
    omega (arith, group_holds _ 0 c.low_bits.result long c.low_bits.ensures.fits (omega arith))

pub overflow_add-result : goal.overflow_add-result
overflow_add-result t c =
    let s = c.args.bytes.now in let rest = length s - 1 in
    let long : length (take rest (drop 1 s)) ≤ 9 = omega (arith, length-drop 1 s, length-take-le rest (drop 1 s) (omega (arith, length-drop 1 s)), c.requires) in
    omega (arith, group_holds _ c.from.result c.low_bits.result long c.low_bits.ensures.fits (omega (arith, c.from.ensures)))
