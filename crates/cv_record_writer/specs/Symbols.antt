-- Symbol records as they are written, and which can be.
use Rattle.std.specs.Prelude.{ℕ, List, ◌++◌}
use Rattle.byteorder.specs.Endian.{little_bytes}
use Rattle.cv_parts.specs.Puts.{IsName}
use Rattle.cv_symbol_records.specs.declared.kinds.SymKind.{SymKind}
use Rattle.cv_record_writer.specs.Contents.{zeros, padded, record_bytes, IsNumeric}
use Rattle.cv_record_writer.specs.SymbolBytes.{number_of, fields_bytes}

-- The record's kind is known, its name can be written, and a numeric leaf holds its number.
abbrev pub HasForm : SymKind → Type 0
HasForm SymKind.End = Unit {0}
HasForm SymKind.ProcIdEnd = Unit {0}
HasForm (SymKind.FrameProc a b c d e f flags) = Unit {0}
HasForm (SymKind.Block parent end len offset section name) = IsName name
HasForm (SymKind.Constant ty value name) = IsNumeric value × IsName name
HasForm (SymKind.Udt ty name) = IsName name
HasForm (SymKind.LData variable) = IsName variable.name
HasForm (SymKind.GData variable) = IsName variable.name
HasForm (SymKind.LProc procedure) = IsName procedure.name
HasForm (SymKind.GProc procedure) = IsName procedure.name
HasForm (SymKind.LProcId procedure) = IsName procedure.name
HasForm (SymKind.GProcId procedure) = IsName procedure.name
HasForm (SymKind.Local ty flags name) = IsName name
HasForm (SymKind.RangeReg reg attributes range) = Unit {0}
HasForm (SymKind.RangeFrame offset range) = Unit {0}
HasForm (SymKind.RangeSubfield reg attributes at range) = Unit {0}
HasForm (SymKind.RangeFrameFull offset) = Unit {0}
HasForm (SymKind.RangeRel reg flags offset range) = Unit {0}
HasForm (SymKind.Other kind) = ⊥

-- the content of a record: its kind, its fields, and zeros
abbrev pub symbol_content : SymKind → List ℕ
symbol_content kind = padded zeros (little_bytes 2 (number_of kind) ++ fields_bytes kind)

-- the record
abbrev pub symbol_bytes : SymKind → List ℕ
symbol_bytes kind = record_bytes (symbol_content kind)
