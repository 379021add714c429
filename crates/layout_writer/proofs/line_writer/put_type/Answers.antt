use Rattle.std.proofs.Common.{◌≡◌, ◌∙◌, sym, ap, subst, ◌++◌, append_assoc, OnOk}
use Rattle.std.specs.List.{flat_map}
use Rattle.std.proofs.lemmas.Result.{on_ok_weaker}
use Rattle.readers.specs.Lines.{with_end}
use Rattle.layout_lines.specs.declared.line.Line.TheVariants as lines
use Rattle.layout_lines.specs.Lines.{line_text}
use Rattle.layout_lines.specs.Sets.{part_lines, part_text}
use Rattle.layout_lines.proofs.Texts.{type_text}
use Rattle.layout_writer.proofs.TypeLines.{type_lines_are}
use Rattle.layout_writer.proofs.line_writer.put_type.Goals as goal

-- the type's line and the lines of its parts are the type's lines
pub returns-clause-put : goal.returns-clause-put
returns-clause-put c =
    let n = c.args.number in
    let def = c.args.def.now in
    let old = c.args.out.now in
    let after = c.put_parts.new.out in
    let line = with_end (line_text n (lines.Type def)) in
    let parts = flat_map part_text (part_lines def) in
    let a = subst (λ o. OnOk c.put_parts.result (after ≡ o ++ parts)) c.in_ok-put_type_line.ensures.put c.put_parts.ensures.put in
    subst (λ l. OnOk c.put_parts.result (after ≡ l)) (append_assoc old line parts ∙ ap (λ t. old ++ t) (sym (type_text n def))) a

-- the type's line is a line where its name is a name, and those of its parts are
pub returns-clause-lines : goal.returns-clause-lines
returns-clause-lines c =
    on_ok_weaker c.put_parts.result (λ parts named. type_lines_are c.args.def.now (c.in_ok-put_type_line.ensures.line named) parts) c.put_parts.ensures.lines
