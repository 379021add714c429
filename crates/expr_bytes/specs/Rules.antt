-- The rules of operations, by their numbers.
use Rattle.std.specs.Prelude.{ℕ}

-- an operation, a register or a size is none of those that are read
abbrev pub bad_operation : ℕ
bad_operation = 35

-- operations stand in an order in which they are no place
abbrev pub bad_order : ℕ
bad_order = 36

-- an operation counts from a frame base that isn't known
abbrev pub no_frame : ℕ
no_frame = 47
