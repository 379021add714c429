use Rattle.std.proofs.Common.{◌≤◌, length, map, sym, arith}
use borrow.Author.Tests.{ltb-false}
use Rattle.entry_tree.specs.Links.{entry_of}
use Rattle.entry_tree.proofs.Finds.{length_of_map}
use Rattle.entry_tree.proofs.Ways.{earlier}
use Rattle.entry_tree.proofs.Nodes.{no_child_past}
use Rattle.entry_tree.proofs.search.first_child.Goals as goal

pub returns-in-None : goal.returns-in-None
returns-in-None c =
    let t = map entry_of c.args.nodes.now in
    let past : length c.args.nodes.now ≤ c.args.number = ltb-false _ _ (sym c.in-None.ensures.lookup.0) in
    sym (no_child_past t c.args.number (earlier t c.requires.entries.order) (omega (arith, past, length_of_map entry_of c.args.nodes.now)))
