-- Sections that begin with their signature, and what is read after it.
use Rattle.std.proofs.Common.{◌≡◌, ℕ, ◌-◌, List, [], length, sym, ap, subst, ◌∙◌, Result, Ok, Err, IfOk, IfErr}
use Rattle.rv_bytes.specs.Places.{Place}
use Rattle.rv_bytes.specs.Forms.{Form, follow}
use Rattle.rv_bytes.specs.Readers.{Res, got, bad, Reader, and_then}
use Rattle.rv_bytes.specs.Reads.{IsRefusedBy}
use Rattle.rv_bytes.specs.Results.{Reads}
use Rattle.rv_bytes.specs.declared.err.DwErr.{DwErr}
use Rattle.rv_bytes.proofs.Exact.{Right, Exact, follow_exact}
use Rattle.cv_parts.specs.Records.{signature}
use Rattle.cv_parts.specs.RecordReaders.{read_signature}
use Rattle.cv_parts.proofs.Series.{AreExact, spelled_whole}
use Rattle.cv_parts.proofs.RecordForms.{signature_exact}
use Rattle.cv_parts.proofs.Contents.{signature_place}

-- a section of so many bytes: the signature, and a value in the others
abbrev pub signed : {A : Type 0} → (ℕ → Form ℕ A) → ℕ → Form ℕ A
signed F size = follow signature (λ _. F (size - 4))

abbrev pub read_signed : {A : Type 0} → (ℕ → Reader ℕ A) → ℕ → Reader ℕ A
read_signed f size n s = and_then (read_signature n s) (λ _ m k. f (size - 4) m k)

pub signed_exact : {A : Type 0} (F : ℕ → Form ℕ A) (f : ℕ → Reader ℕ A) → AreExact F f → (size : ℕ) → Exact (signed F size) (read_signed f size)
signed_exact F f e size = follow_exact signature (λ _. F (size - 4)) read_signature (λ _ m k. f (size - 4) m k) signature_exact (λ _. e (size - 4))

-- what is read after the signature, by the count of bytes that are left
behind_signature : {A : Type 0} (f : ℕ → Reader ℕ A) (section : List ℕ) (v : ℕ) (p : Place) (x : Res ℕ A) → read_signature 0 section ≡ got v p.at p.rest → f (length p.rest) p.at p.rest ≡ x → read_signed f (length section) 0 section ≡ x
behind_signature f section v p x h r =
    ap (λ y. and_then y (λ _ m k. f (length section - 4) m k)) h ∙ ap (λ z. f z p.at p.rest) (sym (signature_place section v p h).1) ∙ r

-- what a call reads after the signature is the section's value
pub section_value : {A : Type 0} (F : ℕ → Form ℕ A) (f : ℕ → Reader ℕ A) → AreExact F f → ((n : ℕ) (s : List ℕ) (v : A) (m : ℕ) (k : List ℕ) → f (length s) n s ≡ got v m k → k ≡ [])
    → (section : List ℕ) (v : ℕ) (p q : Place) (r : Result A DwErr) → read_signature 0 section ≡ got v p.at p.rest → Reads (f (length p.rest) p.at p.rest) r q → IfOk r (λ w. (signed F (length section)).spells 0 w section)
section_value F f e taken section v p q (Ok w) h r =
    spelled_whole (signed F (length section)) (read_signed f (length section)) (signed_exact F f e (length section)) 0 section w q.at q.rest (behind_signature f section v p (got w q.at q.rest) h r) (taken p.at p.rest w q.at q.rest r)
section_value F f e taken section v p q (Err d) h r = tt

-- and what it refuses is the section's first error
pub section_fault : {A : Type 0} (F : ℕ → Form ℕ A) (f : ℕ → Reader ℕ A) → AreExact F f → (section : List ℕ) (v : ℕ) (p q : Place) (r : Result A DwErr) → read_signature 0 section ≡ got v p.at p.rest
    → Reads (f (length p.rest) p.at p.rest) r q → IfErr r (IsRefusedBy (signed F (length section)) (record { at = 0; rest = section }))
section_fault F f e section v p q (Ok w) h r = tt
section_fault F f e section v p q (Err (DwErr.Refused m rule)) h r =
    subst (Right (signed F (length section)) 0 section) (behind_signature f section v p (bad rule m) h r) ((signed_exact F f e (length section)).right 0 section)
section_fault F f e section v p q (Err DwErr.Memory) h r = tt

-- so is the refusal of the signature itself
pub signature_fault : {A : Type 0} (F : ℕ → Form ℕ A) (f : ℕ → Reader ℕ A) → AreExact F f → (section : List ℕ) (d : DwErr) (q : Place) → Reads (read_signature 0 section) (Err d) q
    → IsRefusedBy (signed F (length section)) (record { at = 0; rest = section }) d
signature_fault F f e section (DwErr.Refused m rule) q h =
    subst (Right (signed F (length section)) 0 section) (ap (λ y. and_then y (λ _ m k. f (length section - 4) m k)) h) ((signed_exact F f e (length section)).right 0 section)
signature_fault F f e section DwErr.Memory q h = tt
