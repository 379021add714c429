use Rattle.std.proofs.Common.{◌∙◌, sym, ap, Some, SFits, w32, rules}
use Rattle.std.specs.Option.{option_copied}
use Rattle.std.proofs.lemmas.Int.{to_z-of_z}
use Rattle.value_reader.proofs.ChunkItems.{past_register}
use Rattle.value_reader.proofs.sources.address_by.Goals as goal

pub returns-in-Some : goal.returns-in-Some
returns-in-Some c =
    let fits : SFits w32 c.args.n = search rules in
    let at = rw (to_z-of_z w32 c.args.n fits) at c.displaced.ensures in
    ap Some at ∙ past_register c.args.snap.now c.args.reg c.args.n c.in-Some.bytes.now c.low_number.result
    (sym c.bytes.ensures ∙ ap option_copied c.in-Some.is) c.low_number.ensures
