-- Each item's names are words.
use Rattle.std.proofs.Common.{sym, subst, rules}
use Rattle.rust_value.specs.declared.held.ValIn.{the_lemmas}
use Rattle.rust_value.specs.Held.{value_of, part_of}
use Rattle.rust_value.specs.Named.{AreWords, names_of, part_names}
use Rattle.rust_value.proofs.HeldItems.{words_in}
use Rattle.rust_value.proofs.copying.+copying.Goals as goal

pub copy_parts-copy_part-requires : goal.copy_parts-copy_part-requires
copy_parts-copy_part-requires t c =
    (search (rules, the_lemmas), words_in part_names part_of c.args.parts.now c.loop-part.part-index _ c.requires c.loop-part-test.true)

pub copy_values-copy_out-requires : goal.copy_values-copy_out-requires
copy_values-copy_out-requires t c =
    let i = c.loop-value.value-index in
    let h : AreWords (names_of (value_of c.value-item.result)) =
    subst (λ v. AreWords (names_of (value_of v))) (sym c.value-item.is)
    (words_in names_of value_of c.args.values.now i c.value-item.result c.requires c.loop-value-test.true) in
    (search (rules, the_lemmas), h)
