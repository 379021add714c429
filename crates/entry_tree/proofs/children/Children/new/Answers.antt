use Rattle.std.proofs.Common.{◌∙◌, map, sym, ap, arith}
use Rattle.entry_tree.specs.Links.{entry_of, siblings_from}
use Rattle.entry_tree.proofs.Finds.{length_of_map}
use Rattle.entry_tree.proofs.Nodes.{first_there, children_are}
use Rattle.entry_tree.proofs.children.Children.new.Goals as goal

pub invariant_of-result : goal.invariant_of-result
invariant_of-result c = record {
  linked = c.requires.linked;
  there = λ k e. let h = first_there (map entry_of c.args.nodes.now) c.args.number k (sym c.first_child.ensures ∙ e) in omega (arith, length_of_map entry_of c.args.nodes.now);
}

pub returns : goal.returns
returns c = ap (siblings_from (map entry_of c.args.nodes.now)) c.first_child.ensures ∙ children_are (map entry_of c.args.nodes.now) c.args.number
