-- What a step of the walk answers.
use Rattle.std.specs.Prelude.{◌≡◌, ℕ, ◌+◌, ◌<◌, Result, Ok, Err}
use Rattle.layout_values.specs.Contexts.{context_at}
use Rattle.layout_values.specs.Contexts as contexts
use Rattle.value_reader.specs.declared.context.Context.{Context}
use Rattle.value_reader.specs.declared.walk.Walk.{Walk}
use Rattle.value_reader.specs.declared.checked.Checked.{Checked}
use Rattle.value_reader.specs.declared.checked.WalkErr.{WalkErr}
use Rattle.value_reader.specs.declared.checked.WalkErr.TheVariants.{TooLarge, Memory}

-- what parts are read in, where pointers have eight bytes
abbrev pub context_in : Context → contexts.Context
context_in c = context_at 8 c.set.now c.mem.now c.width

-- What a step answers, by what there is to read and to count: the nodes are taken off those that were left, and parts are
-- read in the same as before.
abbrev pub Reads : {A : Type 0} → Checked A → ℕ → Walk → Walk → Result (Checked A) WalkErr → Type 0
Reads s n old new (Ok x) = (x ≡ s) × (new.context ≡ old.context) × (new.left + n ≡ old.left)
Reads s n old new (Err TooLarge) = old.left < n
Reads s n old new (Err Memory) = Unit {0}
