use Rattle.std.proofs.Common.{◌≡◌, ◌<◌, ℕ, take, List, Option}
use Rattle.std.specs.List.{filter_map}
use Rattle.layout_name_laws.specs.RustTexts.{IsNewText, texts_of}
use Rattle.layout_name_laws.proofs.Passing.{itself}
use Rattle.layout_name_laws.proofs.rust_texts.first_repeated.Given as goal

-- the set has the texts so far, each of which was new
pub record TextsSoFar (texts : List (Option (List ℕ))) (i : ℕ) (seen : List (List ℕ)) : Type 0 where
  pub are : seen ≡ filter_map itself (take i texts)
  pub new : (j : ℕ) → j < i → IsNewText texts j

abbrev pub invariant-loop-i : goal.invariant-loop-i
invariant-loop-i l = TextsSoFar l.texts l.i (texts_of l.seen)
