use Rattle.std.proofs.Common.{rules, ◌∙◌, sym, ap, ltb}
use Rattle.std.proofs.lemmas.List.Sorted.{IsPartitionPoint-from_clause, IsPartitionedBy-ltb}
use Rattle.entry_tree.specs.declared.node.Node.{Node}
use Rattle.entry_tree.proofs.Offsets.{nodes_rise, none_past, none_other, found_there}
use Rattle.entry_tree.proofs.search.number_at.Goals as goal

-- after the last node there is none with the offset
pub returns-in_err-node : goal.returns-in_err-node
returns-in_err-node c =
    let nodes = c.args.nodes.now in
    let place = c.partition_point-number.result in
    let parted = IsPartitionPoint-from_clause (λ (n : Node). ltb n.offset c.args.offset) nodes place c.partition_point-number.ensures.partitioned
    (IsPartitionedBy-ltb (λ (n : Node). n.offset) nodes c.args.offset (nodes_rise nodes c.requires.rising)) (λ a r f h. search rules) in
    c.from_residual.ensures ∙ none_past nodes c.args.offset place parted c.in_err-node.ensures.lookup.3

pub returns-then-node-offset : goal.returns-then-node-offset
returns-then-node-offset c =
    let there = c.in_ok-node.ensures.lookup in
    found_there c.args.nodes.now c.args.offset c.partition_point-number.result c.in_ok-node.node.now c.requires.rising there.3.0 (sym (ap (λ (n : Node). n.offset) there.1) ∙ c.if-node-offset.true)

pub returns-else-node-offset : goal.returns-else-node-offset
returns-else-node-offset c =
    let nodes = c.args.nodes.now in
    let place = c.partition_point-number.result in
    let parted = IsPartitionPoint-from_clause (λ (n : Node). ltb n.offset c.args.offset) nodes place c.partition_point-number.ensures.partitioned
    (IsPartitionedBy-ltb (λ (n : Node). n.offset) nodes c.args.offset (nodes_rise nodes c.requires.rising)) (λ a r f h. search rules) in
    let there = c.in_ok-node.ensures.lookup in
    none_other nodes c.args.offset place c.in_ok-node.node.now c.requires.rising parted there.3.0 (λ e. c.if-node-offset.false (ap (λ (n : Node). n.offset) there.1 ∙ e))
