-- Header, table and entries make a body, or the entries are invalid.
use Rattle.std.proofs.Common.{◌≡◌, None, Some, Err, refl, sym, subst}
use Rattle.rv_bytes.specs.Readers.{got, with_value}
use Rattle.rv_bytes.specs.Results.{ReadsBy}
use Rattle.dwarf_units.specs.Entries.{due_under, present}
use Rattle.dwarf_units.specs.EntryReaders.{read_entries, nodes_after}
use Rattle.dwarf_units.specs.Kept.{table_at}
use Rattle.dwarf_units.specs.UnitCalls.{so_far}
use Rattle.dwarf_units.proofs.Bodies.{body_reads, entries_back}
use Rattle.dwarf_units.proofs.UnitSteps.{entries_refused}
use Rattle.dwarf_units.proofs.unit.read_body.Goals as goal

pub returns-in-Ok-clause-taken : goal.returns-in-Ok-clause-taken
returns-in-Ok-clause-taken c =
    let list = c.in-Some.table.now in
    let before = c.args.kept.now.tree in
    let cut = c.read_header.new.cut in
    let end = c.read_entries.new.cut in
    let there : table_at c.read.new.self c.in_ok-at.at ≡ Some list = sym c.in-Some.ensures in
    let e = entries_back list c.next_number-unit.result before c.read_entries.new.tree cut.at cut.rest end.at end.rest c.in-Ok.ensures.reads in
    let reads = subst (λ unit. read_entries list unit (due_under before None) cut.at cut.rest ≡ got e.0 end.at end.rest) c.next_number-unit.ensures e.1.0 in
    record {
      table = list;
      entries = present e.0;
      reads = λ left n size. body_reads c.args.abbrevs.now (so_far left c.args.kept.now) n size c.args.cut.now.at c.args.cut.now.rest c.in_ok-at.at cut.at cut.rest list e.0 end.at end.rest
          c.in_ok-at.ensures.reads (c.in_default.ensures.tables c.in_ok-at.at list there) reads;
      headers = refl;
      tree = e.1.1;
      there = there;
      kept = c.in_default.ensures.kept;
    }

pub returns-in-Err-read_entries-clause-refused : goal.returns-in-Err-read_entries-clause-refused
returns-in-Err-read_entries-clause-refused c =
    let list = c.in-Some.table.now in
    let before = c.args.kept.now.tree in
    let cut = c.read_header.new.cut in
    let there : table_at c.read.new.self c.in_ok-at.at ≡ Some list = sym c.in-Some.ensures in
    let reads = subst (λ unit. ReadsBy (λ (x : Unit {0}). c.read_entries.new.tree) (with_value (nodes_after (due_under before None)) (read_entries list unit (due_under before None) cut.at cut.rest)) (Err c.in-Err-read_entries.e) c.read_entries.new.cut)
    c.next_number-unit.ensures c.in-Err-read_entries.ensures.reads in
    rw c.in_info.ensures
    (entries_refused c.args.abbrevs.now c.args.kept.now c.args.cut.now list c.in_ok-at.at cut.at cut.rest (λ x. c.read_entries.new.tree) c.in-Err-read_entries.e c.read_entries.new.cut
    c.in_ok-at.ensures.reads (c.in_default.ensures.tables c.in_ok-at.at list there) reads)
