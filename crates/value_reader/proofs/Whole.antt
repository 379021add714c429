-- From what is read and counted to the outcome.
use Rattle.std.proofs.Common.{◌≡◌, ◌∙◌, sym, ap, arith, ℕ, ◌+◌, ◌≤◌, false, refl}
use Rattle.std.proofs.lemmas.Bool.{false≢true}
use Rattle.rust_value.specs.declared.value.Val.{Val}
use Rattle.layout_values.specs.declared.outcome.Outcome.TheVariants as outcomes
use Rattle.layout_set.specs.declared.set.TypeRef.{TypeRef}
use Rattle.layout_values.specs.Contexts.{Items, Context}
use Rattle.layout_values.specs.Images.{levels}
use Rattle.layout_values.specs.Reached.{Lacks, Nodes, lacking}
use Rattle.layout_values.specs.Outcomes.{IsOutcome}
use Rattle.layout_values.proofs.Related.{related}
use Rattle.value_reader.specs.declared.checked.Checked.{Checked}
use Rattle.value_reader.specs.declared.checked.Checked.TheVariants.{Valid, Invalid, Missing}
use Rattle.value_reader.specs.Lacking.{misses}
use Rattle.value_reader.specs.Reads.{read, reading}
use Rattle.value_reader.proofs.Exact.{exact, invalid_valid}
use Rattle.value_reader.proofs.Missing.{lacks_related}
use Rattle.value_reader.proofs.Missing as missing

module _ (c : Context) (d : ℕ) (ty : TypeRef) (p : Items) where
  abbrev go : Checked Val
  go = read c (levels d) d ty p

  few : (left : ℕ) → left + Nodes c d ty p ≡ 65536 → Nodes c d ty p ≤ 65536
  few left h = omega (arith, h)

  there : (s : Checked Val) → s ≡ go → misses s ≡ false → Lacks c d ty p → ⊥
  there s e g l = false≢true (sym g ∙ ap misses e ∙ sym (related missing.Lacks lacking reading lacks_related c (levels d) d ty p) ∙ l)

  pub valid_outcome : (x : Val) (left : ℕ) → Valid x ≡ go → left + Nodes c d ty p ≡ 65536 → IsOutcome c d ty p (outcomes.Value x)
  valid_outcome x left e h = ((few left h, there (Valid x) e refl), (exact c (levels d)).is_read d ty p x (sym e))

  pub invalid_outcome : (left : ℕ) → Invalid ≡ go → left + Nodes c d ty p ≡ 65536 → IsOutcome c d ty p outcomes.Invalid
  invalid_outcome left e h = ((few left h, there Invalid e refl), λ x i. invalid_valid (e ∙ (exact c (levels d)).read_is d ty p x i))

  pub missing_outcome : (left : ℕ) → Missing ≡ go → left + Nodes c d ty p ≡ 65536 → IsOutcome c d ty p outcomes.Unavailable
  missing_outcome left e h = (few left h, related missing.Lacks lacking reading lacks_related c (levels d) d ty p ∙ ap misses (sym e))
