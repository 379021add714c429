use Rattle.std.proofs.Common.{◌+◌, ap, subst}
use Rattle.layout_reader.specs.Progress.{IsExceeded}
use Rattle.layout_reader.proofs.Bounds.{state_added}
use Rattle.layout_reader.proofs.reader.add.Goals as goal

pub returns : goal.returns
returns c =
    let no = subst (IsExceeded c.args.reading c.args.line) c.in-None.is c.exceeded.ensures c.requires.state in (
      c.in_ok-set.ensures,
      state_added c.args.reading c.args.line (c.in_ok-set.set, c.in_ok-set.open_entry) _ _ _ c.requires.state c.requires.follows c.requires.line no
          c.in_ok-set.ensures
          (ap (λ n. c.args.reading.parts + n) c.parts_in.ensures) (ap (λ n. c.args.reading.variables + n) c.variables_in.ensures)
          c.saturating_add-lines.ensures,
    )
