use Rattle.std.proofs.Common.{◌≡◌, ◌∙◌, [], ◌∷◌, length, ap, sym, arith}
use Rattle.dwarf_entries.specs.Dies.{Info}
use Rattle.dwarf_entries.specs.Items.{lowest}
use Rattle.dwarf_entries.specs.Structures.{members_of}
use Rattle.dwarf_pointers.proofs.FatPointers.{two}
use Rattle.dwarf_enums.proofs.TwoMembers.{length_of_two, rule_named, two_seen}
use Rattle.dwarf_enums.proofs.lengths.rule_of_fat.Goals as goal
use Rattle.dwarf_enums.proofs.lengths.rule_of_fat.Goals.{in_default, in_default-2}

pub rule_by_name-one-requires : goal.rule_by_name-one-requires
rule_by_name-one-requires c =
    let a = c.args.structure.now in
    let n : length c.as_slice.result.now ≡ 2 = omega (arith, c.in-len2.len_at_least, c.in-len2.len_below) in
    (two a (members_of a.info a.die) c.as_slice.result.now c.first-item.result c.second-item.result (c.as_slice.ensures ∙ c.in_ok-members.ensures) n c.first-item.is c.second-item.is).first ∙ c.requires.here

pub rule_by_name-other-requires : goal.rule_by_name-other-requires
rule_by_name-other-requires c =
    let a = c.args.structure.now in
    let n : length c.as_slice.result.now ≡ 2 = omega (arith, c.in-len2.len_at_least, c.in-len2.len_below) in
    (two a (members_of a.info a.die) c.as_slice.result.now c.first-item.result c.second-item.result (c.as_slice.ensures ∙ c.in_ok-members.ensures) n c.first-item.is c.second-item.is).second ∙ c.requires.here

pub returns-in-len2 : goal.returns-in-len2
returns-in-len2 c =
    let info = c.args.links.now in
    let a = c.args.structure.now in
    let x = c.first-item.result.die in
    let y = c.second-item.result.die in
    let n : length c.as_slice.result.now ≡ 2 = omega (arith, c.in-len2.len_at_least, c.in-len2.len_below) in
    let t = two a (members_of a.info a.die) c.as_slice.result.now c.first-item.result c.second-item.result (c.as_slice.ensures ∙ c.in_ok-members.ensures) n c.first-item.is c.second-item.is in
    c.lowest.ensures ∙ ap (λ r. lowest (r ∷ c.rule_by_name-other.result ∷ [])) c.rule_by_name-one.ensures ∙ ap (λ r. lowest (rule_named info x ∷ r ∷ [])) c.rule_by_name-other.ensures
    ∙ length_of_two info a.die x y c.requires.fat (sym (ap (λ (i : Info). members_of i a.die) c.requires.here) ∙ t.list)

pub returns : goal.returns
returns c =
    let n : length c.as_slice.result.now ≡ 2 = two_seen c.args.links.now c.args.structure.now c.as_slice.result.now c.requires.here (c.as_slice.ensures ∙ c.in_ok-members.ensures) c.requires.fat in
    elim c.if-as_slice-lt2.branch [
      | in_default w ↦ absurd (grind (arith, n, w.in_default))
      | in_default-2 w ↦ absurd (grind (arith, n, w.in_default))
    ]
