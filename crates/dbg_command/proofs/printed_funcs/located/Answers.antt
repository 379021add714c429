-- The pointer size is 8, by law 3.
use Rattle.std.proofs.Common.{◌≡◌, IfOk, sym, subst}
use Rattle.std.specs.Option.{option_map}
use Rattle.image_view.specs.Places.{part_of}
use Rattle.layout_set.specs.Sizes.{size}
use Rattle.layout_set.proofs.SizeSteps.{pointer_size}
use Rattle.layout_values.specs.Places.{place_of}
use Rattle.dbg_command.proofs.printed_funcs.located.Goals as goal

pub returns : goal.returns
returns c =
    let set = c.args.set.now in
    let var = c.args.var.now in
    let places = rw c.size_of.ensures.value at c.locate.ensures.places in
    subst (λ ptr. IfOk c.locate.result (λ found. option_map (λ l. part_of l) found ≡ place_of ptr c.args.snap.now var.entries (size set.target.ptr set.types var.ty)))
    (sym (pointer_size set c.requires.sizes.small)) places
