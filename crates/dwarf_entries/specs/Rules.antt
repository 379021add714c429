-- The rules of what entries say, by their numbers.
use Rattle.std.specs.Prelude.{ℕ}

-- a count of the set is past its limit
abbrev pub too_many : ℕ
too_many = 30

-- a link leads to no entry
abbrev pub no_entry : ℕ
no_entry = 32

-- a form is of the wrong class
abbrev pub wrong_class : ℕ
wrong_class = 33

-- a number doesn't fit its field
abbrev pub no_fit : ℕ
no_fit = 34

-- a name that must be a word is none
abbrev pub no_word : ℕ
no_word = 39

-- a needed attribute, or the member of a variant, is missing
abbrev pub missing : ℕ
missing = 40

-- a link to a type leads to none, or to none that may stand there
abbrev pub no_type : ℕ
no_type = 41

-- a base type is none of the primitives
abbrev pub no_primitive : ℕ
no_primitive = 42

-- an array has another shape than one subrange with a count
abbrev pub array_shape : ℕ
array_shape = 43

-- a variant part, or a variant, has another shape than an enum's
abbrev pub enum_shape : ℕ
enum_shape = 44

-- a discriminant names no member of its part
abbrev pub no_tag_member : ℕ
no_tag_member = 45

-- too many typedefs or origins follow one another
abbrev pub too_long : ℕ
too_long = 46

-- a member is a bit field
abbrev pub bit_field : ℕ
bit_field = 48

-- laws 1 to 6 of a set are rules 71 to 76
abbrev pub first_law : ℕ
first_law = 70

-- a function is there, which isn't read yet
abbrev pub not_yet : ℕ
not_yet = 99
