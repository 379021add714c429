-- A unit is kept after those before it, or is invalid; at the section's end all are kept.
use Rattle.std.proofs.lemmas.Result.{err_from_is_err_and}
use Rattle.dwarf_units.proofs.Rows.{read_on, read_all, first_fault}
use Rattle.dwarf_units.proofs.units.read_units.Goals as goal

pub returns-in_err-at-clause-refused : goal.returns-in_err-at-clause-refused
returns-in_err-at-clause-refused c =
    let p = err_from_is_err_and c.from_residual.result c.from_residual.ensures.1 in
    rw (p.1, p.2) (first_fault c.args.abbrevs.now c.args.info.now c.loop-at.at c.loop-at.kept _ c.loop-at-test.true c.loop-at.invariant.read c.in_err-at.ensures.refused)

pub loop-at-preserved : goal.loop-at-preserved
loop-at-preserved c = record {
  read = read_on c.args.abbrevs.now c.args.info.now c.loop-at.at c.loop-at.kept c.read_unit.new.kept c.in_ok-at.at c.loop-at-test.true c.loop-at.invariant.read c.in_ok-at.ensures.taken;
  tables = c.in_ok-at.ensures.tables;
  few = c.in_ok-at.ensures.few;
  follows = c.in_ok-at.ensures.follows;
}

pub returns-clause-units : goal.returns-clause-units
returns-clause-units c = read_all c.args.abbrevs.now c.args.info.now c.loop-at.at c.loop-at.kept c.loop-at-test.false c.loop-at.invariant.read
