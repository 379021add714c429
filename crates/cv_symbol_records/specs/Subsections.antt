-- The subsections of `.debug$S`, and the symbols in those of kind f1.
use Rattle.std.specs.Prelude.{ℕ, ◌+◌, ◌-◌, ◌%◌, ◌==◌, min, List, [], ◌∷◌, ◌++◌, length, Option, None}
use Rattle.rv_bytes.specs.Forms.{Form, nothing, follow, made, here, item, choose}
use Rattle.rv_bytes.specs.Numbers.{bytes, number}
use Rattle.cv_parts.specs.Records.{inside, signature}
use Rattle.cv_parts.specs.Series.{to_end}
use Rattle.cv_symbol_records.specs.Symbols.{symbol}
use Rattle.cv_symbol_records.specs.declared.kinds.SymRec.{SymRec}

-- a subsection's kind and its bytes
pub record Chunk : Type 0 where
  pub kind : ℕ
  pub content : List ℕ

abbrev pub chunk_of : ℕ → List ℕ → Chunk
chunk_of kind content = record { kind = kind; content = content }

-- a kind, a length and as many bytes, which are one item at the place of the kind
abbrev pub chunk : Form ℕ Chunk
chunk = item (follow (number 4) (λ kind. follow (number 4) (λ size. made (chunk_of kind) (bytes size)))) (λ _. None)

-- the kind of subsections that hold symbols
abbrev pub symbols_kind : ℕ
symbols_kind = 0xf1

-- the symbols of a subsection; one of another kind is passed over
abbrev pub symbols_in : Chunk → Form ℕ (List SymRec)
symbols_in c = choose (c.kind == symbols_kind) (to_end (λ _. symbol) (length c.content)) (nothing [])

-- the bytes that bring a length to a multiple of 4
abbrev pub pad : ℕ → ℕ
pad size = (4 - size % 4) % 4

-- a subsection, where so many bytes of the section are left; of the pad after it there are as many as the section still has
abbrev pub subsection : ℕ → Form ℕ (List SymRec)
subsection left = here (λ n. follow chunk (λ c. follow (inside (n + 8) c.content (symbols_in c)) (λ symbols. made (λ _. symbols) (bytes (min (pad (length c.content)) (left - 8 - length c.content))))))

-- one list of several
abbrev pub joined : {A : Type 0} → List (List A) → List A
joined [] = []
joined (xs ∷ more) = xs ++ joined more

-- a section of so many bytes: the number 4, and subsections to its end
abbrev pub symbols : ℕ → Form ℕ (List SymRec)
symbols size = follow signature (λ _. made joined (to_end subsection (size - 4)))

-- the section's bytes are subsections with these records
abbrev pub AreSymbols : List ℕ → List SymRec → Type 0
AreSymbols section records = (symbols (length section)).spells 0 records section
