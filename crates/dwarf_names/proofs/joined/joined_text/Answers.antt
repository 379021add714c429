use Rattle.std.proofs.Common.{◌≡◌, ℕ, List, IfOk, sym, ap, subst, ◌∙◌}
use Rattle.dwarf_dies.specs.Handles.{DieIn}
use Rattle.dwarf_entries.specs.Names.{joined_text}
use Rattle.dwarf_names.specs.Scopes.{scoped_text, scopes_before}
use Rattle.dwarf_names.proofs.JoinedTexts.{joined_scoped}
use Rattle.dwarf_names.proofs.joined.joined_text.Goals as goal

pub returns : goal.returns
returns c =
    let d = c.args.die.now in
    let same : scoped_text c.as_slice.result.now c.own_text.result.now ≡ joined_text d.info d.die =
    ap (λ (l : List DieIn). scoped_text l c.own_text.result.now) (c.as_slice.ensures ∙ c.in_ok-scopes.ensures)
    ∙ ap (scoped_text (scopes_before d)) c.own_text.ensures ∙ sym (joined_scoped d) in
    subst (λ (t : List ℕ). IfOk c.scoped_text.result (λ text. text ≡ t)) same c.scoped_text.ensures
