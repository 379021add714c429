-- The rules of what type records say, by their numbers.
use Rattle.std.specs.Prelude.{ℕ}

-- a count of the set is past its limit
abbrev pub too_many : ℕ
too_many = 30

-- a number doesn't fit its field
abbrev pub no_fit : ℕ
no_fit = 34

-- a name that must be a word is none
abbrev pub no_word : ℕ
no_word = 39

-- the size of an array is no multiple of that of its element
abbrev pub array_shape : ℕ
array_shape = 43

-- an index isn't below that of the record that has it, or is that of no record
abbrev pub bad_index : ℕ
bad_index = 54

-- a record or a simple type of a kind that may not stand there
abbrev pub wrong_kind : ℕ
wrong_kind = 55

-- a forward reference has no complete record
abbrev pub no_complete : ℕ
no_complete = 56

-- an enum has another shape than `enum2$` has
abbrev pub enum_shape : ℕ
enum_shape = 57

-- a static member of a variant has no S_CONSTANT
abbrev pub no_constant : ℕ
no_constant = 58
