use Rattle.std.proofs.Common.{◌≡◌, ℕ, Bool, List, ap, arith, length, map, sym, ◌∙◌}
use Rattle.cv_uses.proofs.First.{all_first, first_uses, one_record}
use Rattle.cv_uses.proofs.Marked.{marks_on}
use Rattle.cv_uses.specs.Marks.{no_marks, with_marks}
use Rattle.cv_uses.specs.Used.{records_uses, variable_uses}
use Rattle.cv_uses.proofs.pointers.read_marks.Goals as goal

pub loop-place-preserved : goal.loop-place-preserved
loop-place-preserved c =
    one_record c.args.links.now c.loop-place.place c.loop-place.marks c.mark_record.new.marks c.loop-place.invariant c.in_ok-mark_record.ensures

pub returns : goal.returns
returns c =
    let records = c.args.links.now in
    let variables = variable_uses records (map (λ s. s.now) c.args.symbols.now) in
    let all : c.loop-place.place ≡ length records = omega (arith, c.len-place-end.ensures, c.loop-place.auto.place-end, c.loop-place-test.false) in
    c.mark_variables.ensures
    ∙ ap (λ (m : List Bool). with_marks m variables)
    (c.loop-place.invariant ∙ ap (λ (n : ℕ). with_marks no_marks (first_uses records n)) all ∙ ap (with_marks no_marks) (all_first records))
    ∙ sym (marks_on no_marks (records_uses records) variables)
