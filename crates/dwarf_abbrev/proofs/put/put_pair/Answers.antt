-- The parts of a pair, one after the other.
use Rattle.std.proofs.Common.{◌≡◌, rules, w64, to_z, of_z, subst}
use Rattle.rv_bytes.specs.Numbers.{sleb}
use Rattle.rv_bytes.specs.Writers.{AppendsShortest}
use Rattle.dwarf_abbrev.proofs.Written.{implicit_put, pair_put}
use Rattle.dwarf_abbrev.proofs.put.put_pair.Goals as goal

pub returns-in_ok-put_sleb-clause-put : goal.returns-in_ok-put_sleb-clause-put
returns-in_ok-put_sleb-clause-put c =
    let e : to_z w64 (of_z w64 c.args.spec.now.fixed) ≡ c.args.spec.now.fixed = search rules in
    implicit_put c.args.spec.now c.args.out.now c.put_uleb.new.out c.put_uleb-2.new.out c.put_sleb.new.out c.requires c.if-spec-eq-IMPLICIT_CONST.true c.in_ok-put_uleb.ensures.appended c.in_ok-put_uleb-2.ensures.appended
    (subst (λ z. AppendsShortest sleb z c.put_uleb-2.new.out c.put_sleb.new.out) e c.in_ok-put_sleb.ensures.appended)

pub returns-else-spec-eq-IMPLICIT_CONST-clause-put : goal.returns-else-spec-eq-IMPLICIT_CONST-clause-put
returns-else-spec-eq-IMPLICIT_CONST-clause-put c =
    pair_put c.args.spec.now c.args.out.now c.put_uleb.new.out c.put_uleb-2.new.out c.requires c.if-spec-eq-IMPLICIT_CONST.false c.in_ok-put_uleb.ensures.appended c.in_ok-put_uleb-2.ensures.appended
