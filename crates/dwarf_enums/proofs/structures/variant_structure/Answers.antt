use Rattle.std.proofs.Common.{◌≡◌, ◌∙◌, true, false, Some, option_map, inl, inr, sym}
use Rattle.dwarf_entries.specs.Dies.{what}
use Rattle.dwarf_entries.specs.Enums.{variant_member}
use Rattle.dwarf_entries.specs.PassedOver.{is_structure}
use Rattle.dwarf_entries.specs.Tags.{passes}
use Rattle.dwarf_dies.specs.Handles.{beside}
use Rattle.dwarf_links.specs.declared.ends.End.{End}
use Rattle.dwarf_enums.proofs.Members.{reached, other, by_seen}
use Rattle.dwarf_enums.proofs.structures.variant_structure.Goals as goal

pub returns-then-is_structure : goal.returns-then-is_structure
returns-then-is_structure c =
    let a = c.args.variant.now in
    let h : Some c.in_ok-member.member ≡ option_map (beside a) (variant_member a.info a.die) = c.in_ok-member.ensures in
    let s : true ≡ passes is_structure (what c.in-Reached.structure.die) = cc in
    reached a c.in_ok-member.member c.in-Reached.structure h c.in-Reached.ensures s

pub returns-else-is_structure : goal.returns-else-is_structure
returns-else-is_structure c =
    let a = c.args.variant.now in
    let h : Some c.in_ok-member.member ≡ option_map (beside a) (variant_member a.info a.die) = c.in_ok-member.ensures in
    let s : false ≡ passes is_structure (what c.in-Reached.structure.die) = cc in
    other a c.in_ok-member.member c.in-Reached.structure h c.in-Reached.ensures s

pub returns-in-Nowhere : goal.returns-in-Nowhere
returns-in-Nowhere c =
    let a = c.args.variant.now in
    let h : Some c.in_ok-member.member ≡ option_map (beside a) (variant_member a.info a.die) = c.in_ok-member.ensures in
    elim c.in-Nowhere.is [
      | inl g ↦ by_seen a c.in_ok-member.member End.Nowhere h (sym g ∙ c.type_end.ensures)
      | inr g ↦ by_seen a c.in_ok-member.member End.Endless h (sym g ∙ c.type_end.ensures)
    ]
