-- What a step of reading answers, by the readers of lists.
use Rattle.std.specs.Prelude.{◌≡◌, ℕ, ◌+◌, ◌-◌, ◌*◌, ◌&&◌, nat_le, if◌then◌else◌, List, [], ◌∷◌, Option, Some, None, Result, Ok, Err}
use Rattle.names.specs.declared.rest.StepErr.{StepErr}
use Rattle.names.specs.declared.rest.StepErr.TheVariants.{Bad, Memory}
use Rattle.names.specs.Words.{is_digit}
use Rattle.names.specs.Reading.{Res, got, bad}

-- the reader's answer, and what it leaves
abbrev pub Stepped : {A : Type 0} → Res A → Result A StepErr → List ℕ → Type 0
Stepped r (Ok v) k = r ≡ got v k
Stepped r (Err Bad) k = r ≡ bad k
Stepped r (Err Memory) k = Unit {0}

-- the number with the next digit, if there is one and it fits
abbrev pub grown : ℕ → ℕ → List ℕ → Option ℕ
grown most n [] = None
grown most n (c ∷ s) = if is_digit c && nat_le (n * 10 + (c - 48)) most then Some (n * 10 + (c - 48)) else None

-- the value of the next digit, if it is one
abbrev pub digit_at : List ℕ → Option ℕ
digit_at [] = None
digit_at (c ∷ s) = if is_digit c then Some (c - 48) else None
