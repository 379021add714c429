-- What was appended.
use Rattle.std.specs.Prelude.{◌≡◌, ◌<◌, ◌≤◌, ℕ, ◌+◌, List, ◌++◌, length}
use Rattle.rv_bytes.specs.Writers.{SpellsEverywhere}
use Rattle.cv_symbol_records.specs.declared.kinds.SymKind.{SymKind}
use Rattle.cv_symbol_records.specs.declared.kinds.CvRange.{CvRange}
use Rattle.cv_symbol_records.specs.Ranges.{range}
use Rattle.cv_symbol_records.specs.Symbols.{contents, sym_rec, symbol}
use Rattle.cv_record_writer.specs.SymbolBytes.{number_of, range_bytes}
use Rattle.cv_record_writer.specs.Symbols.{symbol_bytes}

-- a range, which has as many gaps as its bytes have whole, where less than a gap's bytes follow them
pub record PutsRange (r : CvRange) (old new : List ℕ) : Type 0 where
  pub appended : new ≡ old ++ range_bytes r
  pub spells : (left : ℕ) → length (range_bytes r) ≤ left → left < length (range_bytes r) + 4 → SpellsEverywhere (range left) r (range_bytes r)

-- the fields of a record, where less than four bytes follow them in it
pub record PutsFields (kind : SymKind) (bytes old new : List ℕ) : Type 0 where
  pub appended : new ≡ old ++ bytes
  pub spells : (size : ℕ) → length bytes ≤ size → size < length bytes + 4 → SpellsEverywhere (contents (number_of kind) size) kind bytes

-- a record, which is one wherever it stands
pub record PutsSymbol (kind : SymKind) (old new : List ℕ) : Type 0 where
  pub appended : new ≡ old ++ symbol_bytes kind
  pub spells : (n : ℕ) → symbol.spells n (sym_rec n kind) (symbol_bytes kind)
