use Rattle.std.proofs.Common.{◌∙◌, sym, ap, Some, arith, lit≤, FitsSigned, w32}
use Rattle.layout_words.proofs.SignedNumbers.{signed_says, as_wide, as_narrow}
use Rattle.layout_words.proofs.places.i32_of.Goals as goal

pub overflow_cast-result : goal.overflow_cast-result
overflow_cast-result c =
    let n = c.in_ok-n.n in
    let fits : FitsSigned w32 n = omega (arith, (signed_says 31 c.args.word.now n (sym c.in_ok-n.ensures)).1) in
    (as_narrow w32 n _ (as_wide 31 c.args.word.now n (lit≤ tt) c.in_ok-n.ensures) fits).0

pub returns : goal.returns
returns c =
    let n = c.in_ok-n.n in
    let fits : FitsSigned w32 n = omega (arith, (signed_says 31 c.args.word.now n (sym c.in_ok-n.ensures)).1) in
    ap Some (as_narrow w32 n _ (as_wide 31 c.args.word.now n (lit≤ tt) c.in_ok-n.ensures) fits).1 ∙ c.in_ok-n.ensures
