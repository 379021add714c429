use Rattle.std.proofs.Common.{arith}
use Rattle.layout_words.proofs.SignedNumbers.{number_fits}
use Rattle.layout_words.proofs.places.signed_of.Goals as goal

pub positive-requires : goal.positive-requires
positive-requires c = omega (arith, number_fits c.args.bits 63 c.args.word.now c.in_ok-n-in-None.n c.requires c.in_ok-n-in-None.ensures)
