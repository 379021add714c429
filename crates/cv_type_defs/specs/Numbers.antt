-- The numbers of cases and of selectors, modulo a width, and those of 128 bits in two halves.
use Rattle.std.specs.Prelude.{ℕ, ◌+◌, ◌*◌, ◌^◌, ℤ, pos, unsigned_abs}
use Rattle.std.specs.Int.{int_rem_euclid}

-- a number modulo 2^(8 * size)
abbrev pub modulo_bytes : ℕ → ℤ → ℕ
modulo_bytes size z = unsigned_abs (int_rem_euclid z (pos (2 ^ (8 * size))))

-- the number of 128 bits with these halves, each modulo 2^64
abbrev pub of_halves : ℤ → ℤ → ℕ
of_halves lo hi = modulo_bytes 8 hi * 2 ^ 64 + modulo_bytes 8 lo
