-- The names from a place on are numbered where the one there is, and those after it are.
use Rattle.std.proofs.Common.{◌∙◌, ◌&&◌, ◌+◌, sym, ap, map, drop}
use Rattle.rust_value.specs.Held.{part_of}
use Rattle.rust_value.specs.Texts.{are_numbered, shown_part}
use Rattle.rust_value.proofs.HeldLevels.{numbered_step}
use Rattle.rust_value.proofs.printing_in.is_numbered.Goals as goal

pub returns : goal.returns
returns c =
    let a = c.args in
    numbered_step a.parts.now a.i _ c.requires
    ∙ ap (λ b. b && are_numbered (a.i + 1) (map shown_part (map part_of (drop (a.i + 1) a.parts.now)))) (sym c.is_number_name.ensures)
