use Rattle.std.proofs.Common.{ℕ, List, length, nat_lt, sym, ap, ◌∙◌}
use Rattle.dwarf_dies.specs.Handles.{DieIn}
use Rattle.dwarf_names.specs.Scopes.{scoped_text, scopes_before}
use Rattle.dwarf_names.proofs.JoinedTexts.{joined_scoped}
use Rattle.dwarf_names.proofs.name.is_too_long.Goals as goal

pub returns : goal.returns
returns c =
    let d = c.args.die.now in
    c.is_long.ensures
    ∙ ap (λ (l : List DieIn). nat_lt 65535 (length (scoped_text l c.own_text.result.now))) (c.as_slice.ensures ∙ c.in_ok-scopes.ensures)
    ∙ ap (λ (t : List ℕ). nat_lt 65535 (length (scoped_text (scopes_before d) t))) c.own_text.ensures
    ∙ ap (λ (t : List ℕ). nat_lt 65535 (length t)) (sym (joined_scoped d))
