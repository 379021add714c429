-- Which entries are passed over, and with them all below.
use Rattle.std.specs.Prelude.{ℕ, ◌&&◌, ◌||◌, not, Bool, true, false, if◌then◌else◌, List, [], ◌∷◌, Option, Some, None}
use Rattle.std.specs.List.{list_any}
use Rattle.dwarf_entries.specs.Codes.{at_abstract_origin, at_declaration, at_low_pc, at_ranges}
use Rattle.dwarf_entries.specs.Dies.{Die, Info, ancestors, what}
use Rattle.dwarf_entries.specs.Lookups.{has, value_of, flag_of}
use Rattle.dwarf_entries.specs.Origins.{is_unnamed}
use Rattle.dwarf_entries.specs.Shapes.{Entry}
use Rattle.dwarf_entries.specs.Tags.{passes, is_type, tag_of}
use Rattle.dwarf_entries.specs.declared.tag.Tag.{Tag}

abbrev pub is_function : Tag → Bool
is_function Tag.Subprogram = true
is_function _ = false

abbrev pub is_union : Tag → Bool
is_union Tag.UnionType = true
is_union _ = false

abbrev pub is_structure : Tag → Bool
is_structure Tag.StructureType = true
is_structure _ = false

-- a function is around it
abbrev pub is_in_function : Die → Bool
is_in_function d = list_any (λ e. passes is_function (tag_of e.tag)) d.owners

abbrev nearest_is_type : List Entry → Bool
nearest_is_type [] = false
nearest_is_type (e ∷ owners) =
    if passes is_function (tag_of e.tag) then false else if passes is_type (tag_of e.tag) then true else nearest_is_type owners

-- of the functions and types around it the nearest is a type
abbrev pub is_in_type : Die → Bool
is_in_type d = nearest_is_type d.owners

-- a function without code: a declaration, or one without low_pc and ranges
abbrev pub is_codeless : Entry → Bool
is_codeless e = flag_of (value_of at_declaration e) || (not (has at_low_pc e) && not (has at_ranges e))

-- by its tag and its place an entry says nothing
abbrev pub is_out_of_place : Die → Option Tag → Bool
is_out_of_place d None = true
is_out_of_place d (Some Tag.LexicalBlock) = not (is_in_function d)
is_out_of_place d (Some Tag.FormalParameter) = is_in_type d || not (is_in_function d)
is_out_of_place d (Some Tag.Variable) = is_in_type d
is_out_of_place d (Some Tag.Subprogram) = is_codeless d.entry
is_out_of_place d (Some _) = false

abbrev pub is_variable : Tag → Bool
is_variable Tag.Variable = true
is_variable Tag.FormalParameter = true
is_variable _ = false

-- a variable without a name
abbrev pub is_unnamed_variable : Info → Die → Bool
is_unnamed_variable info d = passes is_variable (what d) && is_unnamed info d

-- what is below the entry is passed over
abbrev pub hides : Info → Die → Bool
hides info d = is_out_of_place d (what d) || (is_unnamed_variable info d || passes is_union (what d))

-- an entry around it is passed over, or is a union
abbrev pub is_hidden : Info → Die → Bool
is_hidden info d = list_any (hides info) (ancestors d)

-- the entry is passed over
abbrev pub is_passed : Info → Die → Bool
is_passed info d = is_hidden info d || (is_out_of_place d (what d) || is_unnamed_variable info d)

-- Its attributes are looked at: it isn't passed over, or only for want of a name that its origins might have had.
abbrev pub is_read : Info → Die → Bool
is_read info d =
    not (is_hidden info d || is_out_of_place d (what d)) && (has at_abstract_origin d.entry || not (is_unnamed_variable info d))
