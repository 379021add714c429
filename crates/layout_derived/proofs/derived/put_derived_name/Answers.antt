-- A lawful set's types stand in order, and each has a derived name.
use Rattle.std.proofs.Common.{sym, subst}
use Rattle.layout_derived.specs.DerivedTexts.{AppendsDerived, HasDerived, StandInOrder}
use Rattle.layout_derived.proofs.Lawful.{has_derived, in_order}
use Rattle.layout_derived.proofs.derived.put_derived_name.Goals as goal

pub put_name-requires : goal.put_name-requires
put_name-requires c = record {
  named = subst (λ types. HasDerived types c.args.ty) (sym c.as_slice.ensures) (has_derived c.args.set.now c.args.ty c.requires.lawful c.requires.within);
  ordered = subst StandInOrder (sym c.as_slice.ensures) (in_order c.args.set.now c.requires.lawful);
}

pub returns-in-Ok-clause-put : goal.returns-in-Ok-clause-put
returns-in-Ok-clause-put c =
    subst (λ types. AppendsDerived types c.args.ty c.args.out.now c.put_name.new.out) c.as_slice.ensures c.in-Ok.ensures.put
