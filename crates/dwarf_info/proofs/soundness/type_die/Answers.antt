use Rattle.std.proofs.Common.{◌≡◌, ◌∙◌, Some, slice_get, option_map, length, refl, sym, ap, subst, arith}
use Rattle.std.proofs.lemmas.Option.{slice_get_past, slice_get_read}
use Rattle.std.proofs.lemmas.Bool.{ltb-true}
use Rattle.dwarf_entries.specs.Dies.{Info}
use Rattle.dwarf_dies.specs.Handles.{among}
use Rattle.dwarf_dies.specs.Laws.{AreLinked}
use Rattle.dwarf_dies.specs.Views.{die_of}
use Rattle.dwarf_links.specs.SetTypes.{numbers_of_types}
use Rattle.dwarf_info.proofs.TypeDies.{numbered}
use Rattle.dwarf_info.proofs.soundness.type_die.Goals as goal

pub returns-then-number-len : goal.returns-then-number-len
returns-then-number-len c =
    let info = c.args.links.now in
    let laws = subst AreLinked c.dies-dies.ensures c.len.ensures.laws in
    let at : slice_get (numbers_of_types info) c.args.place ≡ Some c.in_ok-number.number.now =
    ap (λ l. slice_get l c.args.place) (sym c.types.ensures)
    ∙ slice_get_read c.types.result.now (length c.types.result.now) c.args.place c.in_ok-number.number.now refl (ltb-true c.args.place (length c.types.result.now) (sym c.in_ok-number.ensures.lookup.0)) c.in_ok-number.ensures.lookup.1 in
    let none = slice_get_past info.dies c.in_ok-number.number.now (let long = ap (λ (i : Info). length i.dies) c.dies-dies.ensures in omega (arith, c.if-number-len.true, c.len.ensures.count, long)) in
    ap (option_map (among info)) (sym none ∙ numbered info laws c.args.place c.in_ok-number.number.now at)

pub returns : goal.returns
returns c =
    let info = c.args.links.now in
    let laws = subst AreLinked c.dies-dies.ensures c.len.ensures.laws in
    let at : slice_get (numbers_of_types info) c.args.place ≡ Some c.in_ok-number.number.now =
    ap (λ l. slice_get l c.args.place) (sym c.types.ensures)
    ∙ slice_get_read c.types.result.now (length c.types.result.now) c.args.place c.in_ok-number.number.now refl (ltb-true c.args.place (length c.types.result.now) (sym c.in_ok-number.ensures.lookup.0)) c.in_ok-number.ensures.lookup.1 in
    c.die.ensures ∙ ap (λ i. option_map (among i) (die_of i c.in_ok-number.number.now)) c.dies-dies.ensures ∙ ap (option_map (among info)) (numbered info laws c.args.place c.in_ok-number.number.now at)
