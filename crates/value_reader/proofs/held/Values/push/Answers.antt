-- One more value's names are words, and so are those of all.
use Rattle.rust_value.specs.Held.{value_of}
use Rattle.rust_value.specs.Named.{names_of}
use Rattle.rust_value.proofs.HeldItems.{words_push}
use Rattle.value_reader.proofs.held.Values.push.Goals as goal

pub invariant_of-self-2 : goal.invariant_of-self-2
invariant_of-self-2 c =
    rw c.in_ok-push.ensures.items
    (words_push names_of value_of c.self.inside.values.items c.value.inside.val c.self.invariant c.value.invariant)
