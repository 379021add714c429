-- The rules of bundle files, by their numbers.
use Rattle.std.specs.Prelude.{ℕ}

-- the first eight bytes are others, or aren't there whole
abbrev pub bad_magic : ℕ
bad_magic = 1

-- the format, the pointer size or the two bytes after it are others, or aren't there whole
abbrev pub bad_header : ℕ
bad_header = 2

-- a base or a length isn't there whole, a length leads past the end, or bytes are left over
abbrev pub bad_contents : ℕ
bad_contents = 3
