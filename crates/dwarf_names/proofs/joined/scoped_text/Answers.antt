use Rattle.std.proofs.Common.{ℕ, ◌++◌, List, sym, ap, ◌∙◌}
use Rattle.std.specs.List.{flat_map}
use Rattle.std.proofs.lemmas.Iterator.Adapters.{YieldsList-from_rev_slice}
use Rattle.std.proofs.lemmas.Iterator.Consumers.{YieldsList-end}
use Rattle.dwarf_dies.specs.Handles.{DieIn}
use Rattle.dwarf_names.proofs.JoinedTexts.{put, scoped_is}
use Rattle.dwarf_names.proofs.joined.scoped_text.Goals as goal

pub returns : goal.returns
returns c =
    let scopes = c.args.scopes.now in
    let own = c.args.own.now in
    let all = YieldsList-end (YieldsList-from_rev_slice scopes cc) c.loop-scope.yielded _ c.loop-scope.yielded_by _ _ c.in-None.is c.next.ensures.steps in
    c.from_vec.ensures ∙ c.in_ok-extend_from_slice-3.ensures.items
    ∙ ap (λ (l : List ℕ). l ++ own) (c.loop-scope.invariant ∙ ap (λ (l : List DieIn). flat_map put l) all.0) ∙ sym (scoped_is scopes own)
