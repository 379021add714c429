-- What follows the code, operation by operation.
use Rattle.std.proofs.Common.{◌≡◌, true, rules, w64, to_z, of_z, sym, ap, subst, ◌∙◌}
use Rattle.rv_bytes.specs.Numbers.{sleb}
use Rattle.rv_bytes.specs.Writers.{AppendsShortest}
use Rattle.rv_bytes.proofs.Puts.{on_ok}
use Rattle.expr_eval.specs.Invariant.{is_sound}
use Rattle.expr_eval.specs.declared.operation.Op.TheVariants as op
use Rattle.expr_bytes.proofs.Written.{const_put, plus_put, sum_put, entry_put}
use Rattle.expr_bytes.proofs.put.put_operands.Goals as goal

pub returns-in-Const-clause-put : goal.returns-in-Const-clause-put
returns-in-Const-clause-put c frame addrs =
    rw c.in-Const.is (on_ok (const_put frame addrs c.in-Const.n c.args.out.now c.put_uleb.new.out) c.put_uleb.result c.put_uleb.ensures.appended)

pub returns-in-PlusConst-clause-put : goal.returns-in-PlusConst-clause-put
returns-in-PlusConst-clause-put c frame addrs =
    rw c.in-PlusConst.is (on_ok (plus_put frame addrs c.in-PlusConst.n c.args.out.now c.put_uleb-in-PlusConst.new.out) c.put_uleb-in-PlusConst.result c.put_uleb-in-PlusConst.ensures.appended)

pub returns-in-RegPlus-clause-put : goal.returns-in-RegPlus-clause-put
returns-in-RegPlus-clause-put c frame addrs =
    let reg = c.in-RegPlus.field-0 in
    let z = c.in-RegPlus.n in
    let e : to_z w64 (of_z w64 z) ≡ z = search rules in
    let h : is_sound (op.RegPlus reg z) ≡ true = ap is_sound (sym c.in-RegPlus.is) ∙ c.requires in
    rw c.in-RegPlus.is (on_ok (λ a. sum_put frame addrs reg z c.args.out.now c.put_sleb.new.out h (subst (λ z. AppendsShortest sleb z c.args.out.now c.put_sleb.new.out) e a)) c.put_sleb.result c.put_sleb.ensures.appended)

pub returns-in-Entry-clause-put : goal.returns-in-Entry-clause-put
returns-in-Entry-clause-put c frame addrs =
    rw c.in-Entry.is (on_ok (entry_put frame addrs c.args.out.now c.put_uleb-in-Entry.new.out) c.put_uleb-in-Entry.result c.put_uleb-in-Entry.ensures.appended)
