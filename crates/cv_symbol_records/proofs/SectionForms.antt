-- The readers of subsections are exact.
use Rattle.std.proofs.Common.{◌≡◌, ◌++◌, ℕ, ◌+◌, ◌-◌, ◌==◌, min, List, [], ◌∷◌, length, None, refl, sym, ◌∙◌, lit<}
use Rattle.rv_bytes.specs.Forms.{Form, nothing, follow, made, here, item, choose}
use Rattle.rv_bytes.specs.Readers.{Res, got, bad, Reader, and_then, with_value}
use Rattle.rv_bytes.specs.Numbers.{bytes, number}
use Rattle.rv_bytes.specs.NumberReaders.{read_bytes, read_number}
use Rattle.rv_bytes.proofs.Exact.{Exact, nothing_exact, follow_exact, made_exact, here_exact, item_exact, choose_exact}
use Rattle.rv_bytes.proofs.ByteNumbers.{bytes_exact}
use Rattle.cv_parts.specs.Records.{inside}
use Rattle.cv_parts.specs.Series.{to_end}
use Rattle.cv_parts.specs.RecordReaders.{read_inside, read_to_end, read_all}
use Rattle.cv_parts.proofs.Fields.{HasByte, number_then, number_byte, front_byte}
use Rattle.cv_parts.proofs.Series.{AllHaveByte, AreExact, to_end_exact, all_taken}
use Rattle.cv_parts.proofs.RecordForms.{inside_exact}
use Rattle.cv_parts.proofs.WholeSections.{signed_exact}
use Rattle.cv_symbol_records.specs.Symbols.{symbol}
use Rattle.cv_symbol_records.specs.SymbolReaders.{read_symbol}
use Rattle.cv_symbol_records.specs.Subsections.{Chunk, chunk_of, chunk, symbols_kind, symbols_in, pad, subsection, joined, symbols}
use Rattle.cv_symbol_records.specs.SubsectionReaders.{read_chunk, read_symbols_in, read_placed, read_subsection, read_symbols}
use Rattle.cv_symbol_records.proofs.SymbolForms.{symbol_exact, symbol_byte}
use Rattle.cv_symbol_records.specs.declared.kinds.SymRec.{SymRec}

chunk_exact : Exact chunk read_chunk
chunk_exact =
    item_exact (follow (number 4) (λ kind. follow (number 4) (λ size. made (chunk_of kind) (bytes size))))
    (λ n s. and_then (read_number 4 n s) (λ kind n s. and_then (read_number 4 n s) (λ size n s. with_value (chunk_of kind) (read_bytes size n s)))) (λ _. None)
    (number_then 4 _ _ (λ kind. number_then 4 _ _ (λ size. made_exact (chunk_of kind) (bytes size) (read_bytes size) (bytes_exact size))))

symbols_in_exact : (c : Chunk) → Exact (symbols_in c) (read_symbols_in c)
symbols_in_exact c =
    choose_exact (c.kind == symbols_kind) (to_end (λ _. symbol) (length c.content)) (nothing []) (read_to_end (λ _. read_symbol) (length c.content)) (λ n s. got [] n s)
    (to_end_exact (λ _. symbol) (λ _. read_symbol) (λ _. symbol_byte) (λ _. symbol_exact) (length c.content)) (nothing_exact [])

-- what follows a subsection's content
padded_exact : (c : Chunk) (left : ℕ) (records : List SymRec) → Exact (made (λ _. records) (bytes (min (pad (length c.content)) (left - 8 - length c.content))))
    (λ n s. with_value (λ _. records) (read_bytes (min (pad (length c.content)) (left - 8 - length c.content)) n s))
padded_exact c left records = let size = min (pad (length c.content)) (left - 8 - length c.content) in made_exact (λ _. records) (bytes size) (read_bytes size) (bytes_exact size)

-- what follows a chunk, in a subsection that begins at place p
behind_exact : (p left : ℕ) (c : Chunk)
    → Exact (follow (inside (p + 8) c.content (symbols_in c)) (λ records. made (λ _. records) (bytes (min (pad (length c.content)) (left - 8 - length c.content)))))
    (λ n s. and_then (read_inside (p + 8) c.content (read_symbols_in c) n s) (λ records n s. with_value (λ _. records) (read_bytes (min (pad (length c.content)) (left - 8 - length c.content)) n s)))
behind_exact p left c =
    follow_exact (inside (p + 8) c.content (symbols_in c)) _ (read_inside (p + 8) c.content (read_symbols_in c)) _ (inside_exact (p + 8) c.content (symbols_in c) (read_symbols_in c) (symbols_in_exact c)) (padded_exact c left)

-- a subsection that begins at place p
abbrev pub placed : ℕ → ℕ → Form ℕ (List SymRec)
placed left p = follow chunk (λ c. follow (inside (p + 8) c.content (symbols_in c)) (λ records. made (λ _. records) (bytes (min (pad (length c.content)) (left - 8 - length c.content)))))

placed_exact : (left p : ℕ) → Exact (placed left p) (read_placed p left)
placed_exact left p = follow_exact chunk _ read_chunk _ chunk_exact (behind_exact p left)

pub subsection_exact : AreExact subsection read_subsection
subsection_exact left = here_exact (placed left) (λ p. read_placed p left) (placed_exact left)

chunk_byte : HasByte chunk
chunk_byte n c t w = front_byte _ _ n t (λ x y. number_byte 4 (lit< tt) n w.0.0 x y) w.0.1

pub subsection_byte : AllHaveByte subsection
subsection_byte left n v t h = front_byte _ _ n t (λ x y. chunk_byte n h.0 x y) h.1

-- the symbols of subsections to the end of so many bytes
abbrev pub rows : ℕ → Form ℕ (List SymRec)
rows size = made joined (to_end subsection size)

abbrev pub read_rows : ℕ → Reader ℕ (List SymRec)
read_rows size n s = with_value joined (read_to_end read_subsection size n s)

pub rows_exact : AreExact rows read_rows
rows_exact size = made_exact joined (to_end subsection size) (read_to_end read_subsection size) (to_end_exact subsection read_subsection subsection_byte subsection_exact size)

pub rows_taken : (n : ℕ) (s : List ℕ) (vs : List SymRec) (m : ℕ) (k : List ℕ) → read_rows (length s) n s ≡ got vs m k → k ≡ []
rows_taken n s vs m k h = by_cases (read_all read_subsection n s) refl h
  where
    by_cases : (x : Res ℕ (List (List SymRec))) → read_all read_subsection n s ≡ x → with_value joined x ≡ got vs m k → k ≡ []
    by_cases (got v j l) e h = let p : l ≡ k = cc in sym p ∙ all_taken subsection read_subsection subsection_byte subsection_exact n s v j l e
    by_cases (bad r j) e h = absurd (cc)

pub symbols_exact : (size : ℕ) → Exact (symbols size) (read_symbols size)
symbols_exact size = signed_exact rows read_rows rows_exact size

-- the first of several lists, and the others
pub joined_first : {A : Type 0} (xs : List A) (more : List (List A)) → joined (xs ∷ more) ≡ xs ++ joined more
joined_first xs more = refl
