-- The map's place of the code is the declaration's.
use Rattle.std.proofs.Common.{Some, None, sym, ◌∙◌}
use Rattle.dwarf_abbrev.proofs.Codes.{found, copied_is}
use Rattle.dwarf_abbrev.proofs.table.Table.find.Goals as goal

pub returns-in_err-place : goal.returns-in_err-place
returns-in_err-place c =
    rw (c.from_residual.ensures, ← c.self.view_is) (sym (found c.self.inside.list c.args.code None (c.in_err-place.ensures.value ∙ (c.self.invariant).0 c.args.code)))

pub returns : goal.returns
returns c =
    copied_is c.as_slice.result.now c.in_ok-place.field-0.now c.get-2.result c.get-2.ensures.lookup.0 c.get-2.ensures.lookup.1
    ∙ rw (c.as_slice.ensures, ← c.self.view_is) (sym (found c.self.inside.list c.args.code (Some c.in_ok-place.field-0.now) (c.in_ok-place.ensures.value ∙ (c.self.invariant).0 c.args.code)))
