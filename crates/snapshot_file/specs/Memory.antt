-- Memory: a finite map from addresses to bytes, kept as runs; and its parts, in which items may be missing.
use Rattle.std.specs.Prelude.{ℕ, zero, suc, ◌+◌, ◌-◌, ◌*◌, ◌^◌, ◌≤◌, ◌<◌, nat_le, nat_lt, ◌&&◌, List, [], ◌∷◌, length, take, drop, Option, Some, None, slice_get, if◌then◌else◌}
use Rattle.std.specs.Option.{option_map}

-- bytes that stand at an address and those after it
pub record Run : Type 0 where
  pub at : ℕ
  pub bytes : List ℕ

-- the address past a run
abbrev pub end_of : Run → ℕ
end_of run = run.at + length run.bytes

-- the byte at an address, by the first run that has it
abbrev pub byte_at : List Run → ℕ → Option ℕ
byte_at [] a = None
byte_at (run ∷ runs) a = if nat_le run.at a && nat_lt a (end_of run) then slice_get run.bytes (a - run.at) else byte_at runs a

-- The runs have bytes, rise from an address on with at least so many addresses between one and the next, and end at
-- 2 ^ 64 or below.
abbrev pub Rise : ℕ → ℕ → List Run → Type 0
Rise gap from [] = Unit {0}
Rise gap from (run ∷ runs) = (from ≤ run.at) × (0 < length run.bytes) × (end_of run ≤ 2 ^ 64) × Rise gap (end_of run + gap) runs

-- no two runs abut, so that each memory is kept in one way
abbrev pub AreApart : List Run → Type 0
AreApart runs = Rise 1 0 runs

-- the item at an address; it is missing from 2 ^ 64 on
abbrev pub item_at : List Run → ℕ → Option ℕ
item_at memory a = if nat_lt a (2 ^ 64) then byte_at memory a else None

-- a part of memory: the n items from an address on
abbrev pub items_at : List Run → ℕ → ℕ → List (Option ℕ)
items_at memory a zero = []
items_at memory a (suc n) = item_at memory a ∷ items_at memory (a + 1) n

-- a part of a part: the n items from `off` on
abbrev pub sub : List (Option ℕ) → ℕ → ℕ → List (Option ℕ)
sub part off n = take n (drop off part)

-- the bytes of a part, where none is missing
abbrev pub bytes_of : List (Option ℕ) → Option (List ℕ)
bytes_of [] = Some []
bytes_of (None ∷ items) = None
bytes_of (Some b ∷ items) = option_map (λ bytes. b ∷ bytes) (bytes_of items)

-- a byte below a number
abbrev pub join : Option ℕ → Option ℕ → Option ℕ
join (Some low) (Some high) = Some (low + 256 * high)
join _ _ = None

-- the little-endian number of a part, where no item is missing
abbrev pub number : List (Option ℕ) → Option ℕ
number [] = Some 0
number (item ∷ items) = join item (number items)
