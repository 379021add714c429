-- The first attribute of each kind, and plain values: DWARF 5, 2.2 and 7.5.5.
use Rattle.std.specs.Prelude.{ℕ, ℤ, ◌==◌, Bool, false, find, Option, Some, None, is_some, option_and_then, pos, negsuc}
use Rattle.dwarf_abbrev.specs.Values.{Val}
use Rattle.dwarf_entries.specs.Shapes.{Attribute, Entry}

-- the first attribute of an entry with this code; all others with it are passed over
abbrev pub attribute_of : ℕ → Entry → Option Attribute
attribute_of code e = find (λ a. a.code == code) e.attributes

-- whether there is one
abbrev pub has : ℕ → Entry → Bool
has code e = is_some (attribute_of code e)

-- the value of the first one
abbrev pub value_of : ℕ → Entry → Option Val
value_of code e = option_and_then (λ a. Some a.value) (attribute_of code e)

-- a constant that is no block, as a whole number
abbrev pub constant_in : Val → Option ℤ
constant_in (Val.Unsigned n) = Some (pos n)
constant_in (Val.Signed z) = Some z
constant_in (Val.Wide n) = Some (pos n)
constant_in _ = None

-- a whole number that isn't negative
abbrev pub natural : ℤ → Option ℕ
natural (pos n) = Some n
natural (negsuc n) = None

-- the number that a constant is, where it isn't negative
abbrev pub natural_in : Val → Option ℕ
natural_in v = option_and_then natural (constant_in v)

-- the number of the first attribute with this code, where it is a constant that isn't negative
abbrev pub number_of : ℕ → Entry → Option ℕ
number_of code e = option_and_then natural_in (value_of code e)

-- whether a flag is set
abbrev pub is_set : Val → Bool
is_set (Val.Flag b) = b
is_set _ = false

-- whether the first attribute with this code is a set flag
abbrev pub flag_of : Option Val → Bool
flag_of None = false
flag_of (Some v) = is_set v
