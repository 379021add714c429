use Rattle.std.proofs.Common.{◌≡◌, false, is_some, sym, arith}
use Rattle.dwarf_entries.specs.Pointers.{fat_pointer}
use Rattle.dwarf_enums.proofs.TwoMembers.{no_length}
use Rattle.dwarf_enums.proofs.lengths.rule_of_structure.Goals as goal

pub returns-then-not-branch : goal.returns-then-not-branch
returns-then-not-branch c =
    let info = c.args.links.now in
    let d = c.args.structure.now.die in
    let off : is_some (fat_pointer info d) ≡ false = grind (arith, c.in_ok-is_fat.ensures, c.if-not-branch.true) in
    sym (no_length info d off)
