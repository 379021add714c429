-- Items that may be invalid, one after the other, of which the first that breaks a rule decides.
use Rattle.std.specs.Prelude.{ℕ, min, Bool, true, false, List, [], ◌∷◌, Option, Some, None, option_and_then}
use Rattle.std.specs.Option.{option_or}
use Rattle.layout_set.specs.declared.refusal.Section.{Section}

-- so many bytes from the start of a section
pub record Spot : Type 0 where
  pub section : Section
  pub offset : ℕ

-- an item, where it stands, and the lowest rule that it breaks
pub record Item : Type 0 where
  pub spot : Spot
  pub rule : Option ℕ

-- a place of `.debug$T`
abbrev pub in_types : ℕ → Spot
in_types offset = record { section = Section.DebugT; offset = offset }

abbrev pub item_at : Spot → Option ℕ → Item
item_at spot rule = record { spot = spot; rule = rule }

-- the rule that an item breaks, and where
abbrev pub fault_of : Item → Option (ℕ × Spot)
fault_of i = option_and_then (λ r. Some (r, i.spot)) i.rule

-- the first that breaks a rule
abbrev pub first_fault : List Item → Option (ℕ × Spot)
first_fault [] = None
first_fault (i ∷ items) = option_or (fault_of i) (first_fault items)

-- the lower of two rules, where there are two
abbrev pub lower : Option ℕ → Option ℕ → Option ℕ
lower None s = s
lower (Some r) None = Some r
lower (Some r) (Some s) = Some (min r s)

-- the lowest of some rules that are broken
abbrev pub lowest : List (Option ℕ) → Option ℕ
lowest [] = None
lowest (r ∷ rules) = lower r (lowest rules)

-- a rule that is broken where the test is true
abbrev pub rule_if : Bool → ℕ → Option ℕ
rule_if true rule = Some rule
rule_if false rule = None
