-- What spells a set is read as that set.
use Rattle.std.proofs.Common.{ap, ℕ, List, inl, inr, Ok, Err}
use Rattle.layout_set.specs.declared.set.Set.{Set}
use Rattle.layout_lines.specs.Sets.{Spells}
use Rattle.layout_reader.specs.Claims.{IsReadAs}
use Rattle.layout_builder.proofs.Following.{one_set}
use Rattle.layout_reader.proofs.Faultless.{no_fault}
use Rattle.layout_reader.proofs.KnownLines.{lines_are_known}

-- what spells a set is read as that set
pub read_as : (set : Set) (bytes : List ℕ) → Spells set bytes → IsReadAs bytes set
read_as set bytes spells (Ok other) read = inl (ap (λ s. Ok s) (one_set lines_are_known other set bytes read spells))
read_as set bytes spells (Err e) read = inr (ap (λ f. Err f) (no_fault lines_are_known set bytes e spells read))
