use Rattle.std.proofs.Common.{◌≡◌, ◌∙◌, ◌++◌, ◌∷◌, [], map, None, refl, sym, ap, subst, arith}
use Rattle.entry_tree.specs.declared.node.Node.{Node}
use Rattle.entry_tree.specs.Entries.{MayPush, IsAboveLast, depth_of}
use Rattle.entry_tree.specs.Links.{entry_of, with_link}
use Rattle.entry_tree.specs.Invariant.{IsInsertion}
use Rattle.entry_tree.proofs.Finds.{length_of_map}
use Rattle.entry_tree.proofs.Pushes.{pushed_entries}
use Rattle.entry_tree.proofs.Trees.{tree_push, depth_le}
use Rattle.entry_tree.proofs.tree.Tree.push.Goals as goal

pub returns-then-insertion-gt-DEEPEST-clause-full : goal.returns-then-insertion-gt-DEEPEST-clause-full
returns-then-insertion-gt-DEEPEST-clause-full c =
    let nodes = c.self.inside.nodes.items in
    let insertion = c.insertion_under-insertion.result in
    let may : MayPush (map entry_of nodes) c.args.under = subst (λ t. MayPush t c.args.under) (sym c.self.view_is) c.requires.may_push in
    let is : IsInsertion (map entry_of nodes) c.args.under insertion = subst (λ l. IsInsertion (map entry_of l) c.args.under insertion) c.as_slice.ensures.value c.insertion_under-insertion.ensures in
    let most = depth_le (map entry_of nodes) c.args.under c.self.invariant.entries may in
    let own = ap (λ t. depth_of t c.args.under) c.self.view_is in
    let deep : depth_of c.args.self.now c.args.under ≡ 256 = omega (arith, is.depth, most, own, c.if-insertion-gt-DEEPEST.true) in
    (λ e. (cc), λ h. absurd (h.0 deep))

pub invariant_of-self-2 : goal.invariant_of-self-2
invariant_of-self-2 c =
    let nodes = c.self.inside.nodes.items in
    let x : Node = record { offset = c.args.offset; unit = c.args.unit; code = c.args.code; tag = c.args.tag; first = None; next = None; up = c.args.under } in
    let insertion = c.insertion_under-insertion.result in
    let may : MayPush (map entry_of nodes) c.args.under = subst (λ t. MayPush t c.args.under) (sym c.self.view_is) c.requires.may_push in
    let above : IsAboveLast (map entry_of nodes) c.args.offset = subst (λ t. IsAboveLast t c.args.offset) (sym c.self.view_is) c.requires.above in
    let is : IsInsertion (map entry_of nodes) c.args.under insertion = subst (λ l. IsInsertion (map entry_of l) c.args.under insertion) c.as_slice.ensures.value c.insertion_under-insertion.ensures in
    let size = c.self.inside.nodes.ok.0 in
    let few = c.self.invariant.entries.few in
    let other = c.if-len-eq-MOST.false in
    tree_push nodes c.link.new.nodes.items x c.self.inside.depth c.len-number.result c.args.under insertion c.self.invariant may above is
    c.if-insertion-gt-DEEPEST.false (omega (arith, length_of_map entry_of nodes, c.len.ensures, size, few, other)) (omega (arith, c.len-number.ensures, size)) refl refl refl
    (c.link.ensures ∙ ap (λ l. with_link l c.args.under insertion.sibling c.len-number.result) c.in_ok-push.ensures.items)

pub returns-clause-pushed : goal.returns-clause-pushed
returns-clause-pushed c =
    let nodes = c.self.inside.nodes.items in
    let x : Node = record { offset = c.args.offset; unit = c.args.unit; code = c.args.code; tag = c.args.tag; first = None; next = None; up = c.args.under } in
    let insertion = c.insertion_under-insertion.result in
    ap (map entry_of) (c.link.ensures ∙ ap (λ l. with_link l c.args.under insertion.sibling c.len-number.result) c.in_ok-push.ensures.items) ∙
    pushed_entries nodes x c.args.under insertion.sibling c.len-number.result ∙ ap (λ t. t ++ entry_of x ∷ []) c.self.view_is
