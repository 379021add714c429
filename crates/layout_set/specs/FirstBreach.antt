-- The lowest law that fails, and its first item.
use Rattle.std.specs.Prelude.{◌≡◌, ◌==◌, ℕ, ◌-◌, ◌^◌, ◌<◌, min, Bool, true, false, List, [], ◌∷◌, length, Result, Ok, Err}
use Rattle.layout_set.specs.declared.breach.Item.{Item}
use Rattle.layout_set.specs.declared.breach.Item.TheVariants.{Whole, Def, Static, Func}
use Rattle.layout_set.specs.declared.breach.CheckErr.{CheckErr}
use Rattle.layout_set.specs.declared.breach.CheckErr.TheVariants.{Breach, Memory}
use Rattle.layout_set.specs.declared.set.Set.{Set}

-- the items of a set: the whole, its types, its statics and its functions
abbrev pub IsItem : Set → Item → Type 0
IsItem set Whole = Unit {0}
IsItem set (Def i) = i < length set.types
IsItem set (Static i) = i < length set.statics
IsItem set (Func i) = i < length set.funcs

-- the order of items: the whole, then types, then statics, then functions, each by place
abbrev pub Precedes : Item → Item → Type 0
Precedes Whole Whole = ⊥
Precedes Whole (Def j) = Unit {0}
Precedes Whole (Static j) = Unit {0}
Precedes Whole (Func j) = Unit {0}
Precedes (Def i) Whole = ⊥
Precedes (Def i) (Def j) = i < j
Precedes (Def i) (Static j) = Unit {0}
Precedes (Def i) (Func j) = Unit {0}
Precedes (Static i) Whole = ⊥
Precedes (Static i) (Def j) = ⊥
Precedes (Static i) (Static j) = i < j
Precedes (Static i) (Func j) = Unit {0}
Precedes (Func i) Whole = ⊥
Precedes (Func i) (Def j) = ⊥
Precedes (Func i) (Static j) = ⊥
Precedes (Func i) (Func j) = i < j

-- a law says something of each item
abbrev pub Law : Type 1
Law = Item → Type 0

-- a law with the number that it is known by
pub record Numbered : Type 1 where
  pub number : ℕ
  pub law : Law

-- the law is true of each item
abbrev pub Holds : Set → Law → Type 0
Holds set law = (x : Item) → IsItem set x → law x

-- this is the first item of which the law is false
pub record Fails (set : Set) (law : Law) (at : Item) : Type 0 where
  pub is : IsItem set at
  pub broken : ¬ (law at)
  pub earlier : (x : Item) → IsItem set x → Precedes x at → law x

-- an item as an answer names it, where places saturate
abbrev pub named : Item → Item
named Whole = Whole
named (Def i) = Def (min i (2 ^ 32 - 1))
named (Static i) = Static (min i (2 ^ 32 - 1))
named (Func i) = Func (min i (2 ^ 32 - 1))

-- the law fails, and its first item is named so
abbrev pub FailsAt : Set → Law → Item → Type 0
FailsAt set law at = (x : Item) × (Fails set law x × (at ≡ named x))

-- the one where the test is true, the other where it is not
abbrev pub either : Bool → Law → Law → Law
either true here there = here
either false here there = there

-- the law of a row with this number; where no law has it, one that says nothing
abbrev pub law_of : List Numbered → ℕ → Law
law_of [] n = λ _. Unit {0}
law_of (l ∷ laws) n = either (l.number == n) l.law (law_of laws n)

-- of a row of laws those with lower numbers hold, and the one with this number fails first at this item
pub record IsFirstBreach (set : Set) (laws : List Numbered) (law : ℕ) (at : Item) : Type 0 where
  pub lower : (n : ℕ) → n < law → Holds set (law_of laws n)
  pub fails : FailsAt set (law_of laws law) at

-- all laws of the row hold
abbrev pub AllHold : Set → List Numbered → Type 0
AllHold set laws = (n : ℕ) → Holds set (law_of laws n)

-- what a check of these laws answers: nothing where all hold, else the first breach
abbrev pub Checked : Set → List Numbered → Result (Unit {0}) CheckErr → Type 0
Checked set laws (Ok t) = AllHold set laws
Checked set laws (Err (Breach law at)) = IsFirstBreach set laws law at
Checked set laws (Err Memory) = Unit {0}
