use Rattle.std.proofs.Common.{arith}
use Rattle.cv_type_refs.proofs.Few.{few_before}
use Rattle.cv_type_refs.proofs.info.TypeInfo.number_at.Goals as goal

pub overflow_cast-result : goal.overflow_cast-result
overflow_cast-result c = let few = few_before c.self.inside.links.now c.args.place in omega (arith, few, c.self.invariant, c.numbered_before.ensures)
