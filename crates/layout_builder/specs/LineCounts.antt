-- How many types, parts and variables a line adds to a set.
use Rattle.std.specs.Prelude.{ℕ, ◌+◌, length}
use Rattle.layout_set.specs.Counts.{place_parts, piece_parts}
use Rattle.layout_lines.specs.declared.line.Line.{Line}
use Rattle.layout_lines.specs.declared.line.Line.TheVariants as lines

-- how many types a line adds
abbrev pub line_types : Line → ℕ
line_types (lines.Type def) = 1
line_types l = 0

-- how many params, fields, cases, variants, scopes, zones, entries, pieces and operations
abbrev pub line_parts : Line → ℕ
line_parts (lines.Param p) = 1
line_parts (lines.Field f) = 1
line_parts (lines.Case c) = 1
line_parts (lines.Variant w sel) = 1
line_parts (lines.Scope s) = 1 + length s.zones
line_parts (lines.Whole lo hi place) = 1 + place_parts place
line_parts (lines.Pieces lo hi count) = 1
line_parts (lines.Piece p) = piece_parts p
line_parts l = 0

-- how many variables, statics among them
abbrev pub line_variables : Line → ℕ
line_variables (lines.Static s) = 1
line_variables (lines.Var v) = 1
line_variables l = 0
