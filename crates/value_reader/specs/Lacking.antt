-- Whether what is read lacks an item that is needed.
use Rattle.std.specs.Prelude.{Bool, true, false}
use Rattle.value_reader.specs.declared.checked.Checked.{Checked}
use Rattle.value_reader.specs.declared.checked.Checked.TheVariants.{Valid, Invalid, Missing}

abbrev pub misses : {A : Type 0} → Checked A → Bool
misses (Valid a) = false
misses Invalid = false
misses Missing = true
