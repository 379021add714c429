-- An entry goes on with the entries, ends them, or is invalid.
use Rattle.std.proofs.Common.{◌≡◌, ℕ, Option, true, false, None, refl, sym, subst, ◌∙◌, arith}
use Rattle.std.specs.Prelude.{is_some}
use Rattle.std.proofs.lemmas.Result.{err_from_is_err_and}
use Rattle.rv_bytes.specs.Readers.{with_value}
use Rattle.dwarf_units.specs.Entries.{Walk, due_under, goes_on, after}
use Rattle.dwarf_units.specs.EntryReaders.{read_entry, read_entries, nodes_after}
use Rattle.dwarf_units.proofs.Results.{handed_on}
use Rattle.dwarf_units.proofs.Follows.{entry_follows, entry_more, first_more}
use Rattle.dwarf_units.proofs.Walks.{same_walk, walk_ended, turn, turn_bad, turn_end, turn_shorter}
use Rattle.dwarf_units.proofs.entry.read_entries.Goals as goal

pub returns-in_err-under-clause-reads : goal.returns-in_err-under-clause-reads
returns-in_err-under-clause-reads c =
    let p = err_from_is_err_and c.from_residual.result c.from_residual.ensures.1 in
    rw (p.1, p.2)
    (handed_on {B = Option ℕ} {D = Unit {0}} (goes_on c.args.tree.now) (λ _. c.args.tree.now) (with_value (after (due_under c.args.tree.now None)) (read_entry c.args.table.now c.args.unit (due_under c.args.tree.now None) c.args.cut.now.at c.args.cut.now.rest)) _ _ _ _ c.in_err-under.ensures
    (λ r m e. turn_bad c.args.table.now c.args.unit (due_under c.args.tree.now None) c.args.cut.now.at c.args.cut.now.rest r m refl e))

pub loop-under-init : goal.loop-under-init
loop-under-init c = record {
  whole = turn c.args.table.now c.args.unit (due_under c.args.tree.now None) c.args.cut.now.at c.args.cut.now.rest (goes_on c.read_entry.new.tree c.in_ok-under.under) c.read_entry.new.cut.at c.read_entry.new.cut.rest refl c.in_ok-under.ensures;
  follows = entry_follows c.args.table.now c.args.unit c.args.tree.now None c.args.cut.now.at c.args.cut.now.rest c.read_entry.new.tree c.in_ok-under.under c.read_entry.new.cut.at c.read_entry.new.cut.rest c.requires c.in_ok-under.ensures;
  more = first_more c.args.table.now c.args.unit c.args.tree.now c.args.cut.now.at c.args.cut.now.rest c.read_entry.new.tree c.in_ok-under.under c.read_entry.new.cut.at c.read_entry.new.cut.rest c.in_ok-under.ensures;
}

pub returns-in_err-under-2-clause-reads : goal.returns-in_err-under-2-clause-reads
returns-in_err-under-2-clause-reads c =
    let some : is_some c.loop-under.under ≡ true = sym c.is_some.ensures ∙ c.loop-under-test.true in
    let whole = subst (λ (s : Walk). with_value (nodes_after s) (read_entries c.args.table.now c.args.unit s c.loop-under.cut.at c.loop-under.cut.rest)
    ≡ with_value (nodes_after (due_under c.args.tree.now None)) (read_entries c.args.table.now c.args.unit (due_under c.args.tree.now None) c.args.cut.now.at c.args.cut.now.rest))
    (same_walk c.loop-under.tree c.loop-under.under some) c.loop-under.invariant.whole in
    let p = err_from_is_err_and c.from_residual-in_err-under-2.result c.from_residual-in_err-under-2.ensures.1 in
    rw (p.1, p.2)
    (handed_on {B = Option ℕ} {D = Unit {0}} (goes_on c.args.tree.now) (λ _. c.args.tree.now) (with_value (after (due_under c.loop-under.tree c.loop-under.under)) (read_entry c.args.table.now c.args.unit (due_under c.loop-under.tree c.loop-under.under) c.loop-under.cut.at c.loop-under.cut.rest)) _ _ _ _ c.in_err-under-2.ensures
    (λ r m e. sym whole ∙ turn_bad c.args.table.now c.args.unit (due_under c.loop-under.tree c.loop-under.under) c.loop-under.cut.at c.loop-under.cut.rest r m refl e))

pub loop-under-smaller : goal.loop-under-smaller
loop-under-smaller c =
    turn_shorter c.args.table.now c.args.unit (due_under c.loop-under.tree c.loop-under.under) c.loop-under.cut.at c.loop-under.cut.rest (goes_on c.read_entry-in-loop-under.new.tree c.in_ok-under-2.under)
    c.read_entry-in-loop-under.new.cut.at c.read_entry-in-loop-under.new.cut.rest refl c.in_ok-under-2.ensures

pub loop-under-preserved : goal.loop-under-preserved
loop-under-preserved c =
    let some : is_some c.loop-under.under ≡ true = sym c.is_some.ensures ∙ c.loop-under-test.true in
    let whole = subst (λ (s : Walk). with_value (nodes_after s) (read_entries c.args.table.now c.args.unit s c.loop-under.cut.at c.loop-under.cut.rest)
    ≡ with_value (nodes_after (due_under c.args.tree.now None)) (read_entries c.args.table.now c.args.unit (due_under c.args.tree.now None) c.args.cut.now.at c.args.cut.now.rest))
    (same_walk c.loop-under.tree c.loop-under.under some) c.loop-under.invariant.whole in
    record {
      whole = turn c.args.table.now c.args.unit (due_under c.loop-under.tree c.loop-under.under) c.loop-under.cut.at c.loop-under.cut.rest (goes_on c.read_entry-in-loop-under.new.tree c.in_ok-under-2.under)
          c.read_entry-in-loop-under.new.cut.at c.read_entry-in-loop-under.new.cut.rest refl c.in_ok-under-2.ensures ∙ whole;
      follows = entry_follows c.args.table.now c.args.unit c.loop-under.tree c.loop-under.under c.loop-under.cut.at c.loop-under.cut.rest c.read_entry-in-loop-under.new.tree c.in_ok-under-2.under
          c.read_entry-in-loop-under.new.cut.at c.read_entry-in-loop-under.new.cut.rest c.loop-under.invariant.follows c.in_ok-under-2.ensures;
      more = omega (
        arith,
        c.loop-under.invariant.more,
        entry_more c.args.table.now c.args.unit c.loop-under.tree c.loop-under.under c.loop-under.cut.at c.loop-under.cut.rest c.read_entry-in-loop-under.new.tree c.in_ok-under-2.under
            c.read_entry-in-loop-under.new.cut.at c.read_entry-in-loop-under.new.cut.rest c.in_ok-under-2.ensures,
      );
    }

pub returns-clause-reads : goal.returns-clause-reads
returns-clause-reads c =
    let none : is_some c.loop-under.under ≡ false = sym c.is_some.ensures ∙ c.loop-under-test.false in
    sym c.loop-under.invariant.whole
    ∙ turn_end c.args.table.now c.args.unit (goes_on c.loop-under.tree c.loop-under.under) c.loop-under.cut.at c.loop-under.cut.rest (walk_ended c.loop-under.tree c.loop-under.under none)
