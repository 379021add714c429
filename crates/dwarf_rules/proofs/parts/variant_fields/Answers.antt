use Rattle.std.proofs.Common.{List, length, ap, sym, ◌∙◌}
use Rattle.std.proofs.lemmas.List.{length-map}
use Rattle.dwarf_entries.specs.Enums.{variant_structure}
use Rattle.dwarf_entries.specs.Structures.{members_of}
use Rattle.dwarf_dies.specs.Handles.{DieIn, beside}
use Rattle.dwarf_rules.proofs.Above.{none_is, there_is}
use Rattle.dwarf_rules.proofs.Counted.{fields_are, no_fields}
use Rattle.dwarf_rules.proofs.parts.variant_fields.Goals as goal

pub returns-in_ok-members-in-Some-clause-fields : goal.returns-in_ok-members-in-Some-clause-fields
returns-in_ok-members-in-Some-clause-fields c =
    let a = c.args.variant.now in
    let s = c.in-Some.structure in
    let there = there_is a.info (variant_structure a.info a.die) s c.in-Some.ensures in
    ap (λ (l : List DieIn). length l) (c.as_slice.ensures ∙ c.in_ok-members-in-Some.ensures)
    ∙ length-map (members_of s.info s.die) (beside s)
    ∙ ap (λ i. length (members_of i s.die)) there.here
    ∙ sym (fields_are a.info (variant_structure a.info a.die) s.die there.is)

pub returns-in-None-clause-fields : goal.returns-in-None-clause-fields
returns-in-None-clause-fields c =
    let a = c.args.variant.now in
    sym (no_fields a.info (variant_structure a.info a.die) (none_is a.info (variant_structure a.info a.die) c.in-None.ensures))
