use Rattle.std.proofs.Common.{◌∙◌, Some, refl, sym, ap, subst, arith}
use Rattle.layout_set.specs.FirstBreach.{IsFirstBreach}
use Rattle.layout_set.specs.Laws.{sound_laws}
use Rattle.dwarf_entries.specs.Said.{set_of, type_dies}
use Rattle.dwarf_info.proofs.Breaches.{at_type, is_sound_law, named_inside}
use Rattle.dwarf_info.proofs.TypeDies.{entry_at, some_entry}
use Rattle.dwarf_info.proofs.soundness.refusal_at.Goals as goal

pub unreachable-requires : goal.unreachable-requires
unreachable-requires c = let t = at_type c.args.links.now c.args.law c.args.at c.requires in c.in_default.not-Def _ t.is

pub unreachable-requires-in_default-type_die : goal.unreachable-requires-in_default-type_die
unreachable-requires-in_default-type_die c =
    let info = c.args.links.now in
    let breach = subst (IsFirstBreach (set_of info) (sound_laws (set_of info)) c.args.law) c.in-Def.is c.requires in
    some_entry info (type_dies info) c.in-Def.place (named_inside info c.args.law c.in-Def.place breach) (sym c.type_die.ensures ∙ c.in_default-type_die.is)

pub overflow_add-result : goal.overflow_add-result
overflow_add-result c = let small = is_sound_law (set_of c.args.links.now) c.args.law c.args.at c.requires in omega (arith, small)

pub returns : goal.returns
returns c =
    let info = c.args.links.now in
    record {
      law = c.args.law;
      place = c.in-Def.place;
      offset = c.offset.result;
      breach = subst (IsFirstBreach (set_of info) (sound_laws (set_of info)) c.args.law) c.in-Def.is c.requires;
      entry = entry_at info (type_dies info) c.in-Def.place c.in-Some.die (sym c.type_die.ensures ∙ c.in-Some.is) ∙ ap (λ n. Some n) (sym c.offset.ensures);
      rule_is = refl;
      spot_is = refl;
    }
