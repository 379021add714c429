-- What the calls on subsections do.
use Rattle.std.specs.Prelude.{ℕ, ◌≡◌, ◌≤◌, ◌+◌, List, [], ◌++◌, drop, take, length, Result, Ok, Err}
use Rattle.rv_bytes.specs.Places.{Place}
use Rattle.rv_bytes.specs.Readers.{Res, got, bad, with_value}
use Rattle.rv_bytes.specs.NestedReaders.{resume}
use Rattle.rv_bytes.specs.declared.err.DwErr.{DwErr}
use Rattle.cv_symbol_records.specs.Subsections.{Chunk, chunk_of}
use Rattle.cv_symbol_records.specs.SubsectionReaders.{read_chunk}
use Rattle.cv_symbol_records.specs.declared.sections.Subsection.{Subsection}

-- the kind and the bytes of a subsection
abbrev pub chunk_in : Subsection → Chunk
chunk_in found = chunk_of found.kind (drop found.start found.bytes.now)

-- the bytes up to a subsection's end, and where in them its content begins, which is after the kind and the length
pub record IsSubsection (section : List ℕ) (at : ℕ) (found : Subsection) : Type 0 where
  pub starts : found.start ≡ at + 8
  pub inside : found.start ≤ length found.bytes.now
  pub bytes : found.bytes.now ≡ take (length found.bytes.now) section
  pub within : length found.bytes.now ≤ length section
  pub reads : read_chunk at (drop at section) ≡ got (chunk_in found) (length found.bytes.now) (drop (length found.bytes.now) section)

-- no subsection begins there, by this rule and at this place
abbrev pub IsNoSubsection : List ℕ → ℕ → DwErr → Type 0
IsNoSubsection section at (DwErr.Refused offset rule) = read_chunk at (drop at section) ≡ bad rule offset
IsNoSubsection section at DwErr.Memory = ⊥

-- what the reader gives was added to the old values, or the reader gives the refusal; out of memory says nothing of the bytes
abbrev pub ReadsOnto : {A B : Type 0} → List A → Res ℕ (List A) → Result B DwErr → List A → Place → Type 0
ReadsOnto old r (Ok v) new p = with_value (λ vs. old ++ vs) r ≡ got new p.at p.rest
ReadsOnto old r (Err (DwErr.Refused offset rule)) new p = r ≡ bad rule offset
ReadsOnto old r (Err DwErr.Memory) new p = Unit {0}

-- the same where the place after the values doesn't matter
abbrev pub ReadsInside : {A B : Type 0} → List A → Res ℕ (List A) → Result B DwErr → List A → Type 0
ReadsInside old r result new = ReadsOnto old (resume 0 [] r) result new (record { at = 0; rest = [] })
