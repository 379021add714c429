-- One of three.
use Rattle.std.proofs.Common.{map, refl}
use Rattle.std.proofs.lemmas.Bool.Decides.{not_from_Decides}
use Rattle.expr_bytes.specs.Operations.{oper_of}
use Rattle.expr_reader.proofs.Begins.{expression_begins, before_begins, begins_before, decided_by}
use Rattle.expr_reader.proofs.order.begin_place.Goals as goal

pub returns-then-branch : goal.returns-then-branch
returns-then-branch c =
    let opers = map oper_of c.args.opers.now in
    ((λ t. expression_begins opers (not_from_Decides c.are_one.result c.are_one.ensures c.if-are_one.false) (c.in_ok-are_expression.ensures.0 c.if-branch.true)), (λ b. refl))

pub returns : goal.returns
returns c =
    let opers = map oper_of c.args.opers.now in
    let m = not_from_Decides c.are_one.result c.are_one.ensures c.if-are_one.false in
    let n = not_from_Decides c.in_ok-are_expression.field-0 c.in_ok-are_expression.ensures c.if-branch.false in
    decided_by c.are_before_number.result c.are_before_number.ensures (before_begins opers) (begins_before opers m n)
