use Rattle.std.proofs.Common.{◌∙◌, sym, ap, ◌++◌, append_assoc, take, IfSome}
use Rattle.std.specs.List.{All, flat_map}
use Rattle.layout_set.specs.DerivedNames.{name_of}
use Rattle.layout_set.specs.IsSet.{IsNamed}
use Rattle.layout_lines.specs.Lines.{IsLine}
use Rattle.layout_lines.specs.Sets.{type_lines, texts}
use Rattle.layout_lines.proofs.Texts.{types_text_more}
use Rattle.layout_writer.proofs.EachLine.{each_more, each_all, each_given, each_joined}
use Rattle.layout_writer.proofs.line_writer.put_types.Goals as goal

-- the lines of one more type are put, and are lines where its name is a name
pub loop-number-preserved : goal.loop-number-preserved
loop-number-preserved c =
    let l = c.loop-number in
    let n = l.number in
    let types = c.args.types.now in
    let def = c.index-types-number.result in
    let within = c.loop-number-test.true in
    let is = c.index-types-number.is in
    let old = c.args.out.now in
    let before = texts 0 (flat_map type_lines (take n types)) in
    record {
      put =
          c.in_ok-put_type.ensures.put
          ∙ ap (λ t. t ++ texts n (type_lines def)) l.invariant.put
          ∙ append_assoc old before (texts n (type_lines def))
          ∙ ap (λ t. old ++ t) (sym (types_text_more types n def within is));
      are_lines = each_more (λ t. IfSome (name_of t) IsNamed → All IsLine (type_lines t)) types n def within is c.in_ok-put_type.ensures.lines l.invariant.are_lines;
    }

-- all of them are lines, where all names are names
pub returns-clause-lines : goal.returns-clause-lines
returns-clause-lines c = λ named.
    let types = c.args.types.now in
    let each = each_all (λ t. IfSome (name_of t) IsNamed → All IsLine (type_lines t)) types c.loop-number.number c.loop-number-test.false c.loop-number.invariant.are_lines in
    each_joined IsLine type_lines types (each_given (λ t. IfSome (name_of t) IsNamed) (λ t. All IsLine (type_lines t)) types each named)
