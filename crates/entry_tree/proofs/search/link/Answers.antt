use Rattle.std.proofs.Common.{◌≡◌, ◌∙◌, ◌<◌, ◌≤◌, ℕ, Vec, vec_len, length, sym, ap, refl, Some, None, Option, true, false, arith, ◌⊎◌, inl, inr}
use Rattle.std.proofs.lemmas.Bool.{cases_lt}
use Rattle.entry_tree.specs.declared.node.Node.{Node}
use Rattle.entry_tree.specs.Links.{with_link}
use Rattle.entry_tree.proofs.Changes.{changed_set, changed_past}
use Rattle.entry_tree.proofs.search.link.Goals as goal

pub returns-in-Some-get_mut : goal.returns-in-Some-get_mut
returns-in-Some-get_mut c =
    let nodes = c.args.nodes.now.items in
    changed_set nodes c.in-Some.sibling c.in-Some-get_mut.node.now (λ n. record n { next = Some c.args.number }) c.in-Some-get_mut.ensures.value ∙
    ap (λ s. with_link nodes c.args.under s c.args.number) (sym c.in-Some.is)

past : {A : Type 0} (nodes : Vec Node A) (k : ℕ) → (k < vec_len nodes → false ≡ true) → length nodes.items ≤ k
past nodes k h = by_case (cases_lt k (vec_len nodes))
  where
    by_case : (k < vec_len nodes) ⊎ (vec_len nodes ≤ k) → length nodes.items ≤ k
    by_case (inl l) = let q = h l in cc
    by_case (inr l) = omega (arith, nodes.ok.0)

pub returns-in_default-get_mut : goal.returns-in_default-get_mut
returns-in_default-get_mut c =
    let nodes = c.args.nodes.now in
    changed_past nodes.items c.in-Some.sibling (λ n. record n { next = Some c.args.number }) (past nodes c.in-Some.sibling c.in_default-get_mut.ensures.variant.1) ∙
    ap (λ s. with_link nodes.items c.args.under s c.args.number) (sym c.in-Some.is)

none_if : (o : Option ℕ) → ((x : ℕ) → o ≡ Some x → ⊥) → o ≡ None
none_if None h = refl
none_if (Some x) h = absurd (h x refl)

pub returns-in-Some-get_mut-2 : goal.returns-in-Some-get_mut-2
returns-in-Some-get_mut-2 c =
    let nodes = c.args.nodes.now.items in
    changed_set nodes c.in-Some-under.under c.in-Some-get_mut-2.node.now (λ n. record n { first = Some c.args.number }) c.in-Some-get_mut-2.ensures.value ∙
    ap (λ u. with_link nodes u None c.args.number) (sym c.in-Some-under.is) ∙
    ap (λ s. with_link nodes c.args.under s c.args.number) (sym (none_if c.args.sibling c.in_default.not-Some))

pub returns-in_default-get_mut-2 : goal.returns-in_default-get_mut-2
returns-in_default-get_mut-2 c =
    let nodes = c.args.nodes.now in
    changed_past nodes.items c.in-Some-under.under (λ n. record n { first = Some c.args.number }) (past nodes c.in-Some-under.under c.in_default-get_mut-2.ensures.variant.1) ∙
    ap (λ u. with_link nodes.items u None c.args.number) (sym c.in-Some-under.is) ∙
    ap (λ s. with_link nodes.items c.args.under s c.args.number) (sym (none_if c.args.sibling c.in_default.not-Some))
