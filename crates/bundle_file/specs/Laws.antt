-- Theorems on bundle files.
use Rattle.std.specs.Prelude.{◌≡◌, ℕ, List, ◌⊎◌}
use Rattle.bundle_file.specs.Files.{IsBundleFile, IsInvalidAt}
use Rattle.bundle_file.specs.declared.sections.Bundle.{Bundle}

-- each file spells one bundle, or has one first invalid item that breaks one rule, and never both
pub record FilesHaveOneReading : Type 0 where
  pub some_reading : (file : List ℕ) → ((b : Bundle) × IsBundleFile file b) ⊎ ((rule : ℕ) × ((offset : ℕ) × IsInvalidAt file rule offset))
  pub one_bundle : (file : List ℕ) (a b : Bundle) → IsBundleFile file a → IsBundleFile file b → a ≡ b
  pub one_fault : (file : List ℕ) (r o q p : ℕ) → IsInvalidAt file r o → IsInvalidAt file q p → (r ≡ q) × (o ≡ p)
  pub never_both : (file : List ℕ) (b : Bundle) (r o : ℕ) → IsBundleFile file b → IsInvalidAt file r o → ⊥
