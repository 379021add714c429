use Rattle.std.proofs.Common.{◌≡◌, ◌++◌, ◌∷◌, take}
use Rattle.std.specs.List.{flat_map, All}
use Rattle.layout_words.specs.PlaceSpellings.{op_text, IsOp}
use Rattle.layout_writer.proofs.place_writer.put_ops.Given as goal

-- the operations so far are put, and their numbers are within their types
abbrev pub invariant-loop-op : goal.invariant-loop-op
invariant-loop-op l = record {
  put : l.out ≡ l.initial.out ++ flat_map (λ o. 32 ∷ op_text o) (take l.op-index l.ops);
  are_ops : All IsOp (take l.op-index l.ops);
}
