use Rattle.std.proofs.Common.{◌≡◌, ◌∙◌, sym, ap, ◌++◌, ◌∷◌, take, flat_map, arith}
use Rattle.std.proofs.lemmas.Grind.{common_steps}
use Rattle.std.proofs.lemmas.List.Elements.{All-more}
use Rattle.layout_words.specs.PlaceSpellings.{operation, op_text, IsOp}
use Rattle.layout_words.proofs.WordLists.{words_behind}
use Rattle.layout_writer.proofs.EachLine.{each_all}
use Rattle.layout_writer.proofs.place_writer.put_ops.Goals as goal

-- one more operation is put, and its numbers are within their types
pub loop-op-preserved : goal.loop-op-preserved
loop-op-preserved c =
    let l = c.loop-op in
    record {
      put = grind (arith, common_steps);
      are_ops = All-more IsOp c.args.ops.now l.op-index _ c.loop-op-test.true l.invariant.are_ops c.in_ok-put_op.ensures.op;
    }

-- all operations are put
pub returns-clause-put : goal.returns-clause-put
returns-clause-put c =
    let old = c.args.out.now in
    let all : take c.loop-op.op-index c.args.ops.now ≡ c.args.ops.now = grind (arith, common_steps, c.loop-op-test.false) in
    c.loop-op.invariant.put
    ∙ ap (λ xs. old ++ flat_map (λ x. 32 ∷ op_text x) xs) all
    ∙ ap (λ t. old ++ t) (sym (words_behind operation c.args.ops.now))

-- the numbers of all of them are within their types
pub returns-clause-ops : goal.returns-clause-ops
returns-clause-ops c =
    let l = c.loop-op in
    each_all IsOp c.args.ops.now l.op-index c.loop-op-test.false l.invariant.are_ops
