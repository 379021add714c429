use Rattle.std.specs.Prelude.{IfSome}
use Rattle.std.proofs.lemmas.List.Elements.{All-append}
use Rattle.layout_set.specs.DerivedNames.{name_of}
use Rattle.layout_set.specs.IsSet.{IsNamed}
use Rattle.case_tables.proofs.sets.join.Goals as goal

pub returns : goal.returns
returns c =
    let front = c.args.front in
    let back = c.args.back in
    record {
      types = rw c.in_ok-types.ensures (All-append (λ t. IfSome (name_of t) IsNamed) front.types back.types c.requires.front.types c.requires.back.types);
      statics = rw c.in_ok-statics.ensures (All-append (λ s. IsNamed s.name) front.statics back.statics c.requires.front.statics c.requires.back.statics);
      funcs = rw c.in_ok-funcs.ensures (All-append (λ f. IsNamed f.name) front.funcs back.funcs c.requires.front.funcs c.requires.back.funcs);
    }
