-- A type that the set lacks has size 0.
use Rattle.std.proofs.Common.{◌∙◌, sym, ap, length, arith}
use Rattle.std.proofs.lemmas.Option.{slice_get_past}
use Rattle.layout_set.specs.Sizes.{size, size_by, size_at}
use Rattle.value_reader.proofs.lookups.size_in.Goals as goal

pub returns-in-User-clause-value : goal.returns-in-User-clause-value
unfolding size size_by
returns-in-User-clause-value c =
    let types = c.args.set.now.types in
    sym (ap (size 8 types) c.in-User.is ∙ ap (size_at 8 (size_by 8 256 types))
    (slice_get_past types c.in-User.i (omega (arith, c.if-i-as_slice.true, ap length c.as_slice.ensures))))
