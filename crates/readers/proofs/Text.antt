-- What `str::from_utf8` says, as a test.
use Rattle.std.proofs.Common.{◌≡◌, sym, refl, ℕ, Bool, true, false, List, Result, Ok, Err, MatchResult, is_ok}
use Rattle.std.specs.Borrow.{Bor}
use Rattle.std.specs.Str.{is_utf8, IsUtf8, IsValidUpTo}
use Rattle.std.proofs.lemmas.Str.{IsUtf8-from_is_utf8, is_utf8-from_IsUtf8}

no_text : (bytes : List ℕ) (b : Bool) → is_utf8 bytes ≡ b → ¬ (IsUtf8 bytes) → false ≡ b
no_text bytes true e h = absurd (h (IsUtf8-from_is_utf8 bytes e))
no_text bytes false e h = refl

pub text_from_cases : (bytes : List ℕ) {E : Type 0} (v : E → ℕ) (r : Result (Bor (List ℕ)) E) → MatchResult r (λ s. (s.now ≡ bytes) × IsUtf8 bytes) (λ e. ¬ (IsUtf8 bytes) × IsValidUpTo bytes (v e)) → is_ok r ≡ is_utf8 bytes
text_from_cases bytes v (Ok s) h = sym (is_utf8-from_IsUtf8 bytes h.1)
text_from_cases bytes v (Err e) h = no_text bytes _ refl h.0
