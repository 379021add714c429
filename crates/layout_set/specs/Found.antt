-- What is found of one law. Private: `FirstBreach` says what it comes to.
use Rattle.std.specs.Prelude.{◌≡◌, ℕ, ◌<◌, ◌⊎◌, min, List, [], ◌∷◌, Option, Some, None, Result, Ok, Err, Bool, true, false}
use Rattle.layout_set.specs.declared.breach.Item.TheVariants.{Whole, Def, Static, Func}
use Rattle.layout_set.specs.declared.breach.CheckErr.{CheckErr}
use Rattle.layout_set.specs.declared.breach.CheckErr.TheVariants.{Breach, Memory}
use Rattle.layout_set.specs.declared.set.Set.{Set}
use Rattle.layout_set.specs.FirstBreach.{Law, Numbered, Holds, FailsAt, named}

-- the first number below n of which P is false, or none
abbrev pub IsFirst : (ℕ → Type 0) → ℕ → Option ℕ → Type 0
IsFirst P n None = (i : ℕ) → i < n → P i
IsFirst P n (Some i) = (i < n) × ((P i → ⊥) × ((j : ℕ) → j < i → P j))

-- the lesser of two places, where there are two
abbrev pub earlier : Option ℕ → Option ℕ → Option ℕ
earlier None b = b
earlier (Some i) None = Some i
earlier (Some i) (Some j) = Some (min i j)

-- what the whole, the first type, the first static and the first function of which a law is false come to
abbrev pub parts : ℕ → Bool → Option ℕ → Option ℕ → Option ℕ → Result (Unit {0}) CheckErr
parts n false d s f = Err (Breach n Whole)
parts n true (Some i) s f = Err (Breach n (named (Def i)))
parts n true None (Some i) f = Err (Breach n (named (Static i)))
parts n true None None (Some i) = Err (Breach n (named (Func i)))
parts n true None None None = Ok tt

-- what is found of one law, by its number
abbrev pub Found : Set → ℕ → Law → Result (Unit {0}) CheckErr → Type 0
Found set n law (Ok t) = Holds set law
Found set n law (Err (Breach m at)) = (m ≡ n) × FailsAt set law at
Found set n law (Err Memory) = Unit {0}

-- what is found of a row of laws, one after the other
abbrev pub InOrder : Set → List Numbered → Result (Unit {0}) CheckErr → Type 0
InOrder set [] (Ok t) = Unit {0}
InOrder set [] (Err (Breach m at)) = ⊥
InOrder set [] (Err Memory) = Unit {0}
InOrder set (l ∷ laws) (Ok t) = Holds set l.law × InOrder set laws (Ok t)
InOrder set (l ∷ laws) (Err (Breach m at)) = ((m ≡ l.number) × FailsAt set l.law at) ⊎ (Holds set l.law × InOrder set laws (Err (Breach m at)))
InOrder set (l ∷ laws) (Err Memory) = Unit {0}
