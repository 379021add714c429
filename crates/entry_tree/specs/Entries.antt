-- Entries of debug information in prefix order, each with the number of its parent: DWARF 5, 2.3.
use Rattle.std.specs.Prelude.{◌≡◌, ℕ, zero, suc, ◌+◌, ◌-◌, ◌<◌, Bool, nat_eq, List, [], ◌∷◌, length, slice_get, Option, Some, None, option_and_then}
use Rattle.std.specs.Option.{option_eq}

-- an entry; numbers count from 0 in the list, and a root has no parent
pub record Entry : Type 0 where
  pub offset : ℕ
  pub unit : ℕ
  pub code : ℕ
  pub tag : ℕ
  pub up : Option ℕ

-- an entry of these parts
abbrev pub new_entry : Option ℕ → ℕ → ℕ → ℕ → ℕ → Entry
new_entry up offset unit code tag = record { offset = offset; unit = unit; code = code; tag = tag; up = up }

-- the parent of an entry is u
abbrev pub has_parent : Option ℕ → Entry → Bool
has_parent u e = option_eq nat_eq e.up u

-- the parent of entry i, if it has one
abbrev pub up_of : List Entry → ℕ → Option ℕ
up_of t i = option_and_then (λ e. e.up) (slice_get t i)

-- k is i, or above it: on the way from i to its root
pub data OnWay (t : List Entry) : ℕ → ℕ → Type 0 where
  here : {i : ℕ} → OnWay t i i
  above : {i : ℕ} (j : ℕ) {k : ℕ} → up_of t i ≡ Some j → OnWay t j k → OnWay t i k

-- the number of the last entry
abbrev pub last_of : List Entry → Option ℕ
last_of [] = None
last_of (e ∷ t) = Some (length t)

-- The next entry in prefix order may have this parent: none, or an entry on the way from the last one to its root.
abbrev pub MayPush : List Entry → Option ℕ → Type 0
MayPush t None = Unit {0}
MayPush t (Some k) = (k < length t) × OnWay t (length t - 1) k

-- the offset is above that of the last entry
abbrev pub IsAboveLast : List Entry → ℕ → Type 0
IsAboveLast t offset = (last : Entry) → slice_get t (length t - 1) ≡ Some last → last.offset < offset

-- how many entries are on the way from u to its root, both included, where no more than n are counted
abbrev pub counted_up : List Entry → ℕ → Option ℕ → ℕ
counted_up t zero u = 0
counted_up t (suc n) None = 0
counted_up t (suc n) (Some i) = counted_up t n (up_of t i) + 1

-- How many entries are on the way from u to its root, both included: the depth of entry u, and 0 for none. No way is longer
-- than the list.
abbrev pub depth_of : List Entry → Option ℕ → ℕ
depth_of t u = counted_up t (length t) u
