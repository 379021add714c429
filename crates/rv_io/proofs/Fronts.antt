-- A sink that takes a text, or a front of it, in several puts.
use Rattle.std.proofs.Common.{◌≡◌, ◌∙◌, sym, ap, ℕ, ◌+◌, ◌≤◌, min, List, [], ◌++◌, length, take, append_assoc, arith, Option, Some, None}
use Rattle.std.proofs.lemmas.List.{append-nil}
use Rattle.std.proofs.Math.Seq.{take-append-add}
use Rattle.std.proofs.lemmas.Grind.{common_steps}
use Rattle.std.specs.Io.KnownBytes.{Appends}
use Rattle.rv_io.specs.Faults.{Rose}
use Rattle.rv_io.specs.Puts.{AppendsSome}

pub appends_nothing : (o : Option (List ℕ)) → Appends o o []
appends_nothing None = tt
appends_nothing (Some xs) = sym (append-nil xs)

pub appends_both : (old mid new : Option (List ℕ)) (a b : List ℕ) → Appends old mid a → Appends mid new b → Appends old new (a ++ b)
appends_both None mid new a b p q = tt
appends_both (Some x) None new a b p q = absurd p
appends_both (Some x) (Some y) None a b p q = absurd q
appends_both (Some x) (Some y) (Some z) a b p q = q ∙ ap (λ t. t ++ b) p ∙ append_assoc x a b

shorter : (n : ℕ) (a b : List ℕ) → (m : ℕ) × (take m (a ++ b) ≡ take n a)
shorter n a b = (min n (length a), grind (arith, common_steps))

longer : (n : ℕ) (a b : List ℕ) → (m : ℕ) × (take m (a ++ b) ≡ a ++ take n b)
longer n a b = (length a + n, take-append-add a b n)

-- a front of the first text is a front of both
pub front_shorter : (old new : Option (List ℕ)) (a b : List ℕ) → AppendsSome old new a → AppendsSome old new (a ++ b)
front_shorter old new a b p = let m = shorter p.0 a b in (m.0, rw m.1 p.1)

-- the first text and a front of the second are a front of both
pub front_longer : (old mid new : Option (List ℕ)) (a b : List ℕ) → Appends old mid a → AppendsSome mid new b → AppendsSome old new (a ++ b)
front_longer old mid new a b p q = let m = longer q.0 a b in (m.0, rw m.1 (appends_both old mid new a (take q.0 b) p q.1))

pub rose_later : (a b c : ℕ) → a ≤ b → Rose b c → Rose a c
rose_later a b c p q = omega arith

pub rose_before : (a b c : ℕ) → Rose a b → b ≤ c → Rose a c
rose_before a b c p q = omega arith
