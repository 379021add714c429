use Rattle.std.proofs.Common.{length, arith}
use Rattle.cv_type_refs.proofs.Few.{few_before, few_below}
use Rattle.cv_type_refs.proofs.info.TypeInfo.pointer_number.Goals as goal

pub overflow_add-result : goal.overflow_add-result
overflow_add-result c =
    let before = few_before c.self.inside.links.now (length c.self.inside.links.now) in
    let below = few_below c.args.ty c.self.inside.used.now in
    omega (arith, before, below, c.self.invariant, c.numbered.ensures, c.count_below.ensures)

pub overflow_cast-result : goal.overflow_cast-result
overflow_cast-result c =
    let before = few_before c.self.inside.links.now (length c.self.inside.links.now) in
    let below = few_below c.args.ty c.self.inside.used.now in
    omega (arith, before, below, c.self.invariant, c.numbered.ensures, c.count_below.ensures)
