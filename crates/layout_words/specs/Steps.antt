-- What a step of reading a line answers.
use Rattle.std.specs.Prelude.{◌≡◌, Option, Some, None, Result, Ok, Err}
use Rattle.std.specs.Borrow.{Bor}
use Rattle.layout_words.specs.declared.cursor.Stop.{Stop}
use Rattle.layout_words.specs.declared.cursor.Stop.TheVariants.{Unfit, Memory}
use Rattle.layout_words.specs.Forms.{Left}

-- the item that was to be taken, and what is left behind it
abbrev pub Took : {A : Type 0} → Option (A × Left) → Result A Stop → Left → Type 0
Took taken (Ok a) left = taken ≡ Some (a, left)
Took taken (Err Unfit) left = taken ≡ None
Took taken (Err Memory) left = Unit {0}

-- the value that was to be read
abbrev pub Read : {A : Type 0} → Option A → Result A Stop → Type 0
Read value (Ok a) = value ≡ Some a
Read value (Err Unfit) = value ≡ None
Read value (Err Memory) = Unit {0}

-- an answer that lends a value, by the value
abbrev pub seen : {A E : Type 0} → Result (Bor A) E → Result A E
seen (Ok value) = Ok value.now
seen (Err e) = Err e

-- a value that is lent, if there is one
abbrev pub lent : {A : Type 0} → Option (Bor A) → Option A
lent None = None
lent (Some value) = Some value.now
