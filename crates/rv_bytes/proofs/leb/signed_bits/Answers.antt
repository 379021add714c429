use Rattle.std.proofs.Common.{◌-◌, ◌%◌, ◌*◌, ◌^◌, pos, length, w64, arith, sym, ap, ◌∙◌}
use Rattle.std.proofs.lemmas.Int.{to_z_pos}
use Rattle.rv_bytes.specs.Numbers.{zero_or}
use Rattle.rv_bytes.proofs.Bits.{ten_bytes, shifted, clear_where, set_where, below_is}
use Rattle.rv_bytes.proofs.leb.signed_bits.Goals as goal

pub overflow_cast-result : goal.overflow_cast-result
overflow_cast-result c =
    let s = clear_where c.args.bytes.now c.requires c.if-bytes-lt64.true in
    record { sfits = omega (arith, s.fits, c.low_bits-n.ensures.value) }

pub overflow_sub-result-else-bytes-lt64 : goal.overflow_sub-result-else-bytes-lt64
overflow_sub-result-else-bytes-lt64 c =
    let t = c.args.bytes.now in let s = set_where t c.requires c.if-bytes-lt64.false in
    omega (arith, s.whole, c.low_bits-n.ensures.value, shifted (length t) (ten_bytes (zero_or 127) t c.requires))

pub overflow_cast-result-else-bytes-lt64-2 : goal.overflow_cast-result-else-bytes-lt64-2
overflow_cast-result-else-bytes-lt64-2 c =
    let t = c.args.bytes.now in let s = set_where t c.requires c.if-bytes-lt64.false in
    record { sfits = omega (arith, s.whole, s.fits, c.low_bits-n.ensures.value, shifted (length t) (ten_bytes (zero_or 127) t c.requires)) }

pub returns-then-bytes-lt64 : goal.returns-then-bytes-lt64
returns-then-bytes-lt64 c =
    let s = clear_where c.args.bytes.now c.requires c.if-bytes-lt64.true in
    to_z_pos w64 c.low_bits-n.result (omega (arith, s.fits, c.low_bits-n.ensures.value)) ∙ ap pos c.low_bits-n.ensures.value ∙ sym s.is

pub returns-else-bytes-lt64 : goal.returns-else-bytes-lt64
returns-else-bytes-lt64 c =
    let t = c.args.bytes.now in let s = set_where t c.requires c.if-bytes-lt64.false in
    below_is (1 * 2 ^ (7 * length t) % 2 ^ 128 - 1 - c.low_bits-n.result) s.below (omega (arith, s.whole, c.low_bits-n.ensures.value, shifted (length t) (ten_bytes (zero_or 127) t c.requires))) s.fits ∙ sym s.is
