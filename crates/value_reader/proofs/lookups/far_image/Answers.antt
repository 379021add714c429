-- Past the last address all items are missing.
use Rattle.std.proofs.Common.{◌≡◌, ◌∙◌, ◌+◌, sym, ap, length, arith}
use Rattle.snapshot_file.specs.Memory.{sub}
use Rattle.image_view.specs.Places.{part_of}
use Rattle.value_reader.proofs.Places.{length-items, length-part, sub-part, sub-items, items_past}
use Rattle.value_reader.proofs.lookups.far_image.Goals as goal

pub part-requires : goal.part-requires
part-requires c =
    let all = c.of_mem-in-None.result in
    let e : length all ≡ c.args.len + 1 = sym (length-part all) ∙ ap length c.of_mem-in-None.ensures.part ∙ length-items _ _ _ in
    omega (arith, e)

pub returns-in-None : goal.returns-in-None
returns-in-None c =
    ap part_of c.part.ensures ∙ sub-part c.of_mem-in-None.result 1 c.args.len
    ∙ ap (λ m. sub m 1 c.args.len) c.of_mem-in-None.ensures.part
    ∙ sub-items c.args.mem.now _ 1 c.args.len (c.args.len + 1) (omega arith)
    ∙ items_past c.args.mem.now _ _ c.args.len (omega arith) (omega (arith, c.in-None.ensures))
