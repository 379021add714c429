use Rattle.std.proofs.Common.{◌≡◌, ◌∙◌, sym, length, true}
use Rattle.layout_lines.specs.Lines.{kind_of_line}
use Rattle.layout_lines.specs.Sets.{may_follow}
use Rattle.layout_lines.proofs.LineLaws.{line_text_of}
use Rattle.layout_reader.proofs.NoneSpelled.{misplaced_rule}
use Rattle.layout_reader.proofs.Bounds.{adds_goes_on}
use Rattle.layout_reader.proofs.reader.add_read.Goals as goal

pub add-requires-clause-line : goal.add-requires-clause-line
add-requires-clause-line c = (line_text_of (length c.args.reading.set.types) c.args.line.now c.args.read c.requires.read).1

pub returns-then-follows : goal.returns-then-follows
returns-then-follows c =
    let is = line_text_of (length c.args.reading.set.types) c.args.line.now c.args.read c.requires.read in
    let may : may_follow c.args.reading.set c.args.reading.open_entry (kind_of_line c.args.read) ≡ true = sym c.follows.ensures ∙ c.if-follows.true in
    adds_goes_on c.args.reading c.args.line.now c.args.read c.add.result is.0 may is.1 c.add.ensures

pub refuse_behind-requires : goal.refuse_behind-requires
refuse_behind-requires c = misplaced_rule c.args.reading.set c.args.reading.open_entry c.args.line.now c.args.read c.requires.read
    (sym c.follows.ensures ∙ c.if-follows.false)
