-- The readers of forms in other bytes, for proofs.
use Rattle.std.specs.Prelude.{ℕ, ◌+◌, nat_le, if◌then◌else◌, List, length, take, drop}
use Rattle.rv_bytes.specs.Rules.{short}
use Rattle.rv_bytes.specs.Readers.{Res, got, bad, Reader}

-- the value, and reading goes on at this place with these bytes
abbrev pub resume : {M A : Type 0} → ℕ → List ℕ → Res M A → Res M A
resume n s (got v m k) = got v n s
resume n s (bad r m) = bad r m

-- the reader of `boxed`
abbrev pub read_boxed : {M A : Type 0} → M → ℕ → Reader M A → Reader M A
read_boxed place size f n s = if nat_le size (length s) then resume (n + size) (drop size s) (f n (take size s)) else bad short place

-- the reader of `elsewhere`
abbrev pub read_elsewhere : {M A : Type 0} → List ℕ → ℕ → Reader M A → Reader M A
read_elsewhere other at f n s = resume n s (f at (drop at other))

-- the result, whose fault stands at a place of another kind
abbrev pub spotted : {M N A : Type 0} → (M → N) → Res M A → Res N A
spotted spot (got v m k) = got v m k
spotted spot (bad r m) = bad r (spot m)
