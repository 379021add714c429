-- The value that one in an arena stands for.
use Rattle.std.specs.Prelude.{ℕ, List, Option, Some, None}
use Rattle.std.specs.Borrow.{Bor}
use Rattle.rust_value.specs.declared.held.ValIn.{ValIn, fold-ValIn}
use Rattle.rust_value.specs.declared.held.ValIn.TheOpen.{ValIn-F, PartIn-F}
use Rattle.rust_value.specs.declared.held.PartIn.{PartIn, fold-PartIn}
use Rattle.rust_value.specs.declared.value.Val.{Val}
use Rattle.rust_value.specs.declared.value.Val.TheVariants as vals
use Rattle.rust_value.specs.declared.value.Part.{Part}

-- what a reference leads to, if there is one
abbrev pub led : {A : Type 0} → Option (Bor A) → Option A
led None = None
led (Some at) = Some at.now

-- a part, whose value is already the one that it stands for
abbrev pub part_step : PartIn-F Val Part → Part
part_step part = record { name = part.name.now; val = part.val }

-- one value, with those that the values inside stand for in their places
abbrev pub val_step : ValIn-F Val Part → Val
val_step ValIn-F.Unit = vals.Unit
val_step (ValIn-F.Bool b) = vals.Bool b
val_step (ValIn-F.Char c) = vals.Char c
val_step (ValIn-F.Unsigned n) = vals.Unsigned n
val_step (ValIn-F.Signed z) = vals.Signed z
val_step (ValIn-F.Float32 n) = vals.Float32 n
val_step (ValIn-F.Float64 n) = vals.Float64 n
val_step (ValIn-F.Fields parts) = vals.Fields parts.now
val_step (ValIn-F.Variant name parts) = vals.Variant name.now parts.now
val_step (ValIn-F.Seq len shown) = vals.Seq len shown.now
val_step (ValIn-F.Pointer kind at content) = vals.Pointer kind at (led content)
val_step (ValIn-F.Slice kind at len content) = vals.Slice kind at len (led content)
val_step (ValIn-F.Str kind at len text) = vals.Str kind at len (led text)
val_step (ValIn-F.Dyn kind at vtable) = vals.Dyn kind at vtable
val_step (ValIn-F.Function at) = vals.Function at
val_step (ValIn-F.Bytes bytes) = vals.Bytes bytes.now

-- the value that one in an arena stands for
abbrev pub value_of : ValIn → Val
value_of = fold-ValIn Val Part val_step part_step

-- the part that one in an arena stands for
abbrev pub part_of : PartIn → Part
part_of = fold-PartIn Val Part val_step part_step
