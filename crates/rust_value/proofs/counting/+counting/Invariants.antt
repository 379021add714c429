use Rattle.std.proofs.Common.{◌≡◌, ◌+◌, ◌-◌, ◌^◌, min, map, take, sum}
use Rattle.rust_value.specs.Nodes.{nodes_of, part_nodes}
use Rattle.rust_value.proofs.counting.+counting.Given as goal

-- one, and the nodes of the parts so far
abbrev pub invariant-nodes_of_parts-loop-part : goal.invariant-nodes_of_parts-loop-part
invariant-nodes_of_parts-loop-part l = l.total ≡ min (1 + sum (map part_nodes (take l.part-index l.parts))) (2 ^ 64 - 1)

-- one, and the nodes of the values so far
abbrev pub invariant-nodes_of_values-loop-value : goal.invariant-nodes_of_values-loop-value
invariant-nodes_of_values-loop-value l = l.total ≡ min (1 + sum (map nodes_of (take l.value-index l.values))) (2 ^ 64 - 1)
