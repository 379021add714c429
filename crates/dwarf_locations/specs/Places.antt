-- The place of a value that the operations of one place say: DWARF 5, 2.6.1.1.
use Rattle.std.specs.Prelude.{Option, Some, None}
use Rattle.expr_bytes.specs.declared.place.Simple.{Simple}
use Rattle.layout_set.specs.declared.func.Place.{Place}
use Rattle.layout_set.specs.declared.func.Place.TheVariants as places

-- the place that is said; no operations say none
abbrev pub place_of : Simple → Option Place
place_of Simple.Empty = None
place_of (Simple.Reg reg) = Some (places.Reg reg)
place_of (Simple.Mem reg n) = Some (places.Mem reg n)
place_of (Simple.Fixed address) = Some (places.Fixed address)
place_of (Simple.Value bytes) = Some (places.Value bytes)
place_of (Simple.Ops ops) = Some (places.Expr ops)
