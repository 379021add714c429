use Rattle.std.proofs.Common.{length, subst, sym}
use Rattle.dwarf_dies.specs.Units.{all_units}
use Rattle.dwarf_info.specs.Entries.{IsSplitFault}
use Rattle.dwarf_info.proofs.Splits.{refused}
use Rattle.dwarf_info.proofs.entries.read_entries.Goals as goal

pub returns-in-Err-clause-refused : goal.returns-in-Err-clause-refused
returns-in-Err-clause-refused c =
    let info = c.args.sections.info.now in
    subst (IsSplitFault (all_units c.args.abbrevs.now (length info)) info) (sym c.refusal_of.ensures) (refused c.args.abbrevs.now info c.in-Err.error c.in-Err.ensures.refused)
