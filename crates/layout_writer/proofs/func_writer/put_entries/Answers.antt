use Rattle.std.proofs.Common.{arith}
use Rattle.std.proofs.lemmas.Grind.{common_steps}
use Rattle.layout_set.specs.Counts.{entry_parts}
use Rattle.layout_lines.specs.Sets.{entry_lines}
use Rattle.layout_writer.proofs.EachLine.{each_more, each_all}
use Rattle.layout_writer.proofs.FuncLines.{HasLines, all_lines}
use Rattle.layout_writer.proofs.func_writer.put_entries.Goals as goal

-- the lines of one more entry are put, and are lines where it is not too large
pub loop-entry-preserved : goal.loop-entry-preserved
loop-entry-preserved c =
    let l = c.loop-entry in
    let entry = c.entry-item in
    let entries = c.args.entries.now in
    record {
      put = grind (arith, common_steps);
      are_lines = each_more (HasLines entry_parts entry_lines) entries l.entry-index entry.result c.loop-entry-test.true entry.is c.in_ok-put_entry.ensures.lines l.invariant.are_lines;
    }

-- all of them are lines, where the entries are not too large
pub returns-clause-lines : goal.returns-clause-lines
returns-clause-lines c =
    let l = c.loop-entry in
    let entries = c.args.entries.now in
    all_lines entry_parts entry_lines entries (each_all (HasLines entry_parts entry_lines) entries l.entry-index c.loop-entry-test.false l.invariant.are_lines)
