use Rattle.std.proofs.Common.{◌≡◌, length, sym, ap, ◌∙◌, arith, rules}
use Rattle.snapshot_file.specs.Memory.{number}
use Rattle.image_view.specs.Places.{part_of}
use Rattle.image_view.proofs.Ranges.{length_places, part_of_places}
use Rattle.image_view.proofs.image.Image.number.Goals as goal

pub overflow_add-self-inside : goal.overflow_add-self-inside
overflow_add-self-inside c =
    let s = c.self.inside in
    let e : length c.args.self.now ≡ s.len = ap length (sym c.self.view_is) ∙ length_places s.mem.now s.source s.from s.len in
    search (rules, e, c.self.invariant.0, c.requires.within)

pub number_at-requires-clause-within : goal.number_at-requires-clause-within
number_at-requires-clause-within c =
    let s = c.self.inside in
    let e : length c.args.self.now ≡ s.len = ap length (sym c.self.view_is) ∙ length_places s.mem.now s.source s.from s.len in
    omega (arith, c.self.invariant.0, c.requires.within)

pub returns-clause-number : goal.returns-clause-number
returns-clause-number c =
    let s = c.self.inside in
    let e : length c.args.self.now ≡ s.len = ap length (sym c.self.view_is) ∙ length_places s.mem.now s.source s.from s.len in
    rw (← c.self.view_is) (c.number_at.ensures.number ∙ ap (λ ps. number (part_of ps)) (sym (part_of_places s.mem.now s.source s.from s.len c.args.off c.args.width (omega (arith, c.requires.within)))))
