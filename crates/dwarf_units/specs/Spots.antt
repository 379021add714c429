-- Places in the two sections that hold units.
use Rattle.std.specs.Prelude.{ℕ}

-- so many bytes from the start of `.debug_info`, or of `.debug_abbrev`
pub data Spot : Type 0 where
  in_info : ℕ → Spot
  in_abbrev : ℕ → Spot
