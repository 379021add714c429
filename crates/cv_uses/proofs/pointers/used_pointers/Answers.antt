use Rattle.std.proofs.Common.{◌≡◌, ℕ, Bool, List, IfOk, ap, filter, map, subst, ◌∙◌}
use Rattle.cv_type_defs.specs.SimpleTypes.{primitives}
use Rattle.cv_uses.proofs.Marked.{used_is}
use Rattle.cv_uses.specs.Marks.{marked}
use Rattle.cv_uses.proofs.pointers.used_pointers.Goals as goal

pub returns : goal.returns
returns c =
    subst (λ (l : List ℕ). IfOk c.marked_types.result (λ used. used.items ≡ l))
    (ap (λ (m : List Bool). filter (marked m) primitives) c.in_ok-marks.ensures ∙ used_is c.args.links.now (map (λ s. s.now) c.args.symbols.now)) c.marked_types.ensures
