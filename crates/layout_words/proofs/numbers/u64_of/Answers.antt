use Rattle.std.proofs.Common.{sym, arith}
use Rattle.layout_words.proofs.Decimals.{number_says}
use Rattle.layout_words.proofs.numbers.u64_of.Goals as goal

pub overflow_cast-result : goal.overflow_cast-result
overflow_cast-result c = omega (arith, (number_says 64 c.args.word.now c.in_ok-n.n (sym c.in_ok-n.ensures)).0)
