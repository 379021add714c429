-- Numbers as text.
use Rattle.std.specs.Prelude.{ℕ, List, ◌++◌, false, codes}
use Rattle.std.specs.Fmt.{digits}

-- `0x` and the hexadecimal digits in lower case, without leading zeros
abbrev pub hex_text : ℕ → List ℕ
hex_text n = codes "0x" ++ digits 16 false n
