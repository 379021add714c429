-- All links that may lead to simple pointers.
use Rattle.std.specs.Prelude.{ℕ, if◌then◌else◌, List, [], ◌++◌, length, flat_map, map, filter_map}
use Rattle.cv_symbol_records.specs.declared.kinds.SymRec.{SymRec}
use Rattle.cv_type_records.specs.declared.kinds.TypeRec.{TypeRec}
use Rattle.cv_type_defs.specs.Links.{Target, target}
use Rattle.cv_type_defs.specs.Numbering.{is_numbered}
use Rattle.cv_type_defs.specs.Symbols.{variable_type}
use Rattle.cv_type_defs.specs.Uses.{kind_uses, with_places}

-- those of a record
abbrev pub record_uses : List TypeRec → ℕ × TypeRec → List Target
record_uses records p = if is_numbered p.1.kind then kind_uses records p.0 p.1.kind else []

-- those of all records
abbrev pub records_uses : List TypeRec → List Target
records_uses records = flat_map (record_uses records) (with_places records)

-- those of variables
abbrev pub variable_uses : List TypeRec → List SymRec → List Target
variable_uses records symbols = map (target records (length records)) (filter_map (λ s. variable_type s.kind) symbols)

-- all of them
abbrev pub all_uses : List TypeRec → List SymRec → List Target
all_uses records symbols = records_uses records ++ variable_uses records symbols
