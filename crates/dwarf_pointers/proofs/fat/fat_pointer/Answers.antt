use Rattle.std.proofs.Common.{◌≡◌, ◌∙◌, Some, length, ap, sym, arith}
use Rattle.layout_set.specs.NameShapes.{fat_of}
use Rattle.dwarf_entries.specs.Dies.{Info}
use Rattle.dwarf_entries.specs.Names.{name_of}
use Rattle.dwarf_entries.specs.Structures.{members_of}
use Rattle.dwarf_pointers.proofs.FatPointers.{AreTwo, fat_is, two}
use Rattle.dwarf_pointers.proofs.fat.fat_pointer.Goals as goal

pub fat_pair-requires-clause-first : goal.fat_pair-requires-clause-first
fat_pair-requires-clause-first c =
    let a = c.args.die.now in
    let n : length c.as_slice.result.now ≡ 2 = omega (arith, c.in-len2.len_at_least, c.in-len2.len_below) in
    (two a (members_of a.info a.die) c.as_slice.result.now c.first-item.result c.second-item.result (c.as_slice.ensures ∙ c.in_ok-members.ensures) n c.first-item.is c.second-item.is).first ∙ c.requires

pub fat_pair-requires-clause-second : goal.fat_pair-requires-clause-second
fat_pair-requires-clause-second c =
    let a = c.args.die.now in
    let n : length c.as_slice.result.now ≡ 2 = omega (arith, c.in-len2.len_at_least, c.in-len2.len_below) in
    (two a (members_of a.info a.die) c.as_slice.result.now c.first-item.result c.second-item.result (c.as_slice.ensures ∙ c.in_ok-members.ensures) n c.first-item.is c.second-item.is).second ∙ c.requires

pub returns-in-len2 : goal.returns-in-len2
returns-in-len2 c =
    let a = c.args.die.now in
    let n : length c.as_slice.result.now ≡ 2 = omega (arith, c.in-len2.len_at_least, c.in-len2.len_below) in
    let t = two a (members_of a.info a.die) c.as_slice.result.now c.first-item.result c.second-item.result (c.as_slice.ensures ∙ c.in_ok-members.ensures) n c.first-item.is c.second-item.is in
    let fat : fat_of c.in_ok-name.name ≡ Some (c.in-Some.kind, c.in-Some.content) = cc in
    c.fat_pair.ensures
    ∙ fat_is c.args.links.now a.die c.in_ok-name.name c.in-Some.kind c.in-Some.content c.first-item.result.die c.second-item.result.die
    (c.in_ok-name.ensures ∙ ap (λ (i : Info). name_of i a.die) c.requires) fat (sym (ap (λ (i : Info). members_of i a.die) c.requires) ∙ t.list)
