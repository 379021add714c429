-- What the reader of whole files says is so, and a file has one reading.
use Rattle.std.proofs.Common.{◌≡◌, ◌<◌, ℕ, ◌+◌, List, [], ◌∷◌, ◌++◌, length, inl, inr, ◌⊎◌, refl, sym, ap, subst, ◌∙◌, arith, append-nil, IfOk, Result, Ok, Err}
use Rattle.rv_bytes.specs.Places.{Place}
use Rattle.rv_bytes.specs.Results.{Reads}
use Rattle.rv_bytes.specs.Readers.{Res, got, bad, and_then}
use Rattle.rv_bytes.specs.declared.err.DwErr.{DwErr}
use Rattle.rv_bytes.proofs.Exact.{Right}
use Rattle.bundle_file.specs.Rules.{bad_contents}
use Rattle.bundle_file.specs.Files.{bundle_form, IsBundleFile, IsInvalidAt, IsNoBundleFile, in_bundle}
use Rattle.bundle_file.specs.Laws.{FilesHaveOneReading}
use Rattle.bundle_file.specs.Readers.{read_bundle, at_end, read_file}
use Rattle.bundle_file.specs.declared.sections.Bundle.{Bundle}
use Rattle.bundle_file.proofs.Exact.{bundle_exact}

-- what the result says of a file
abbrev IsRight : List ℕ → Res ℕ Bundle → Type 0
IsRight file (got b n rest) = IsBundleFile file b
IsRight file (bad rule offset) = IsInvalidAt file rule offset

-- a bundle that was read, and nothing or something after it
ended : (file : List ℕ) (b : Bundle) (n : ℕ) (rest t : List ℕ) → bundle_form.spells 0 b t → file ≡ t ++ rest → n ≡ 0 + length t → IsRight file (at_end b n rest)
ended file b n [] t h p q = subst (λ z. bundle_form.spells 0 b z) (sym (p ∙ append-nil t)) h
ended file b n (x ∷ rest) t h p q = inr (refl, (b, record { front = t; back = x ∷ rest; split = p; is_front = h; is_back = (q, omega arith) }))

by_bundle : (file : List ℕ) (x : Res ℕ Bundle) → Right bundle_form 0 file x → IsRight file (and_then x at_end)
by_bundle file (got b n rest) h = ended file b n rest h.0 h.1.0 h.1.1.0 h.1.1.1
by_bundle file (bad rule offset) h = inl h

-- the reader of files is right of each
pub file_right : (file : List ℕ) → IsRight file (read_file 0 file)
file_right file = by_bundle file (read_bundle 0 file) (bundle_exact.right 0 file)

-- a file that spells a bundle is read as it
spelled_got : (file : List ℕ) (b : Bundle) → IsBundleFile file b → read_file 0 file ≡ got b (0 + length file) []
spelled_got file b h = ap (λ z. and_then (read_bundle 0 z) at_end) (sym (append-nil file)) ∙ ap (λ x. and_then x at_end) (bundle_exact.reads 0 b file [] h)

left_over : (file : List ℕ) (b : Bundle) (n : ℕ) (rest : List ℕ) → 0 < length rest → at_end b n rest ≡ bad bad_contents n
left_over file b n [] l = absurd (omega arith)
left_over file b n (x ∷ rest) l = refl

-- an invalid item of a file is refused
invalid_bad : (file : List ℕ) (rule offset : ℕ) → IsInvalidAt file rule offset → read_file 0 file ≡ bad rule offset
invalid_bad file rule offset (inl h) = ap (λ x. and_then x at_end) (bundle_exact.refuses 0 file rule offset h)
invalid_bad file rule offset (inr h) =
    let s = h.1.1 in
    ap (λ z. and_then (read_bundle 0 z) at_end) s.split ∙ ap (λ x. and_then x at_end) (bundle_exact.reads 0 h.1.0 s.front s.back s.is_front)
    ∙ left_over file h.1.0 (0 + length s.front) s.back s.is_back.1 ∙ ap (λ r. bad r (0 + length s.front)) (sym h.0) ∙ ap (bad rule) (sym s.is_back.0)

-- so a file has one reading
pub one_reading : FilesHaveOneReading
one_reading = record {
  some_reading = λ file. found file (read_file 0 file) (file_right file);
  one_bundle = λ file a b h g. let e : got a (0 + length file) [] ≡ got b (0 + length file) [] = sym (spelled_got file a h) ∙ spelled_got file b g in cc;
  one_fault = λ file r o q p h g. let e : bad r o ≡ bad q p = sym (invalid_bad file r o h) ∙ invalid_bad file q p g in (cc, cc);
  never_both = λ file b r o h g. let e : got b (0 + length file) [] ≡ bad r o = sym (spelled_got file b h) ∙ invalid_bad file r o g in cc;
}
  where
    found : (file : List ℕ) (x : Res ℕ Bundle) → IsRight file x → ((b : Bundle) × IsBundleFile file b) ⊎ ((rule : ℕ) × ((offset : ℕ) × IsInvalidAt file rule offset))
    found file (got b n rest) h = inl (b, h)
    found file (bad rule offset) h = inr (rule, (offset, h))

-- what the function for whole files read is spelled, and what it refused is invalid
pub spelled : (file : List ℕ) (new : Place) (result : Result Bundle DwErr) → Reads (read_file 0 file) result new → IfOk result (IsBundleFile file)
spelled file new (Ok b) h = subst (IsRight file) h (file_right file)
spelled file new (Err e) h = tt

pub refused : (file : List ℕ) (new : Place) (e : DwErr) → Reads (read_file 0 file) (Err e) new → IsNoBundleFile file (in_bundle e)
refused file new (DwErr.Refused offset rule) h = (refl, subst (IsRight file) h (file_right file))
refused file new DwErr.Memory h = tt
