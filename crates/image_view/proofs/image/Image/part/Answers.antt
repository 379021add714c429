use Rattle.std.proofs.Common.{◌≡◌, length, sym, ap, ◌∙◌, arith, rules}
use Rattle.image_view.proofs.Ranges.{length_places, part_of_places}
use Rattle.image_view.proofs.image.Image.part.Goals as goal

pub overflow_add-result : goal.overflow_add-result
overflow_add-result c =
    let s = c.self.inside in
    let e : length c.args.self.now ≡ s.len = ap length (sym c.self.view_is) ∙ length_places s.mem.now s.source s.from s.len in
    search (rules, e, c.self.invariant, c.requires)

pub invariant_of-result : goal.invariant_of-result
invariant_of-result c =
    let s = c.self.inside in
    let e : length c.args.self.now ≡ s.len = ap length (sym c.self.view_is) ∙ length_places s.mem.now s.source s.from s.len in
    (omega (arith, c.self.invariant.0, c.requires), c.self.invariant.1)

pub returns : goal.returns
returns c =
    let s = c.self.inside in
    let e : length c.args.self.now ≡ s.len = ap length (sym c.self.view_is) ∙ length_places s.mem.now s.source s.from s.len in
    rw (← c.self.view_is) (sym (part_of_places s.mem.now s.source s.from s.len c.args.off c.args.len (omega (arith, c.requires))))
