-- What is around a variable: its scope, and its function. DWARF 5, 3.3 and 3.5.
use Rattle.std.specs.Prelude.{Bool, true, false, find, Option, Some, None}
use Rattle.dwarf_entries.specs.Dies.{Die, ancestors, what}
use Rattle.dwarf_entries.specs.PassedOver.{is_function}
use Rattle.dwarf_entries.specs.Tags.{passes}
use Rattle.dwarf_entries.specs.declared.tag.Tag.{Tag}
use Rattle.expr_bytes.specs.declared.place.Frame.{Frame}
use Rattle.dwarf_zones.specs.Frames.{frame_of}

-- a function's body, or a block in it
abbrev pub is_scope : Tag → Bool
is_scope Tag.Subprogram = true
is_scope Tag.LexicalBlock = true
is_scope _ = false

-- the nearest scope around an entry
abbrev pub scope_of : Die → Option Die
scope_of d = find (λ o. passes is_scope (what o)) (ancestors d)

-- the nearest function around it
abbrev pub function_of : Die → Option Die
function_of d = find (λ o. passes is_function (what o)) (ancestors d)

abbrev pub frame_in_function : Option Die → Frame
frame_in_function None = Frame.Unknown
frame_in_function (Some f) = frame_of f

-- the frame base from which the locations of a variable count
abbrev pub frame_around : Die → Frame
frame_around d = frame_in_function (function_of d)
