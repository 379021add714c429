use Rattle.std.proofs.Common.{List, map, drop, sym, subst}
use Rattle.cv_symbol_records.specs.declared.kinds.SymRec.{SymRec}
use Rattle.cv_constants.specs.Named.{AreNumbers}
use Rattle.cv_constants.proofs.Constants.{one_before}
use Rattle.cv_constants.proofs.numbers.read_numbers.Goals as goal

pub loop-at-preserved : goal.loop-at-preserved
loop-at-preserved c =
    subst (λ (l : List SymRec). AreNumbers l c.put.new.numbers)
    (sym (one_before c.args.symbols.now c.loop-at.at c.index-symbols-at.result c.loop-at-test.true c.loop-at.auto.at c.index-symbols-at.is))
    (c.in_ok-put.ensures (map (λ s. s.now) (drop c.loop-at.at c.args.symbols.now)) c.loop-at.invariant)
