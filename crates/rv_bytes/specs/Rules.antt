-- The numbers of the rules that bytes may break, below those of the layers above.
use Rattle.std.specs.Prelude.{ℕ}

-- the bytes end inside an item
abbrev pub short : ℕ
short = 10

-- a LEB128 number has an eleventh byte, or bits past the 64th
abbrev pub wide : ℕ
wide = 11

-- no zero byte ends a text
abbrev pub no_zero : ℕ
no_zero = 12

-- a numeric leaf's kind is unknown
abbrev pub unknown_leaf : ℕ
unknown_leaf = 13

-- the bytes before a zero byte are no text: they aren't UTF-8, or are more than 65,535
abbrev pub no_text : ℕ
no_text = 14

-- an offset or an index leads outside its section
abbrev pub outside : ℕ
outside = 31
