-- The readers of subsections, for proofs.
use Rattle.std.specs.Prelude.{ℕ, ◌+◌, ◌-◌, ◌==◌, min, if◌then◌else◌, List, [], length, None}
use Rattle.rv_bytes.specs.Readers.{got, Reader, and_then, with_value, as_item}
use Rattle.rv_bytes.specs.NumberReaders.{read_bytes, read_number}
use Rattle.cv_parts.specs.RecordReaders.{read_inside, read_signature, read_to_end}
use Rattle.cv_symbol_records.specs.SymbolReaders.{read_symbol}
use Rattle.cv_symbol_records.specs.Subsections.{Chunk, chunk_of, symbols_kind, pad, joined}
use Rattle.cv_symbol_records.specs.declared.kinds.SymRec.{SymRec}

-- the reader of `chunk`
abbrev pub read_chunk : Reader ℕ Chunk
read_chunk n s = as_item (λ _. None) n (and_then (read_number 4 n s) (λ kind n s. and_then (read_number 4 n s) (λ size n s. with_value (chunk_of kind) (read_bytes size n s))))

-- the reader of `symbols_in`
abbrev pub read_symbols_in : Chunk → Reader ℕ (List SymRec)
read_symbols_in c n s = if c.kind == symbols_kind then read_to_end (λ _. read_symbol) (length c.content) n s else got [] n s

-- the reader of a subsection that begins at place p
abbrev pub read_placed : ℕ → ℕ → Reader ℕ (List SymRec)
read_placed p left n s =
    and_then (read_chunk n s) (λ c n s. and_then (read_inside (p + 8) c.content (read_symbols_in c) n s)
    (λ symbols n s. with_value (λ _. symbols) (read_bytes (min (pad (length c.content)) (left - 8 - length c.content)) n s)))

-- the reader of `subsection`
abbrev pub read_subsection : ℕ → Reader ℕ (List SymRec)
read_subsection left n s = read_placed n left n s

-- the reader of `symbols`
abbrev pub read_symbols : ℕ → Reader ℕ (List SymRec)
read_symbols size n s = and_then (read_signature n s) (λ _ n s. with_value joined (read_to_end read_subsection (size - 4) n s))
