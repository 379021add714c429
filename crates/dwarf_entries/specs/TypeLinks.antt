-- What a link to a type leads to, through typedefs: DWARF 5, 5.3 and 7.5.5, the class reference.
use Rattle.std.specs.Prelude.{ℕ, zero, suc, ◌&&◌, nat_lt, not, Bool, true, false, if◌then◌else◌, count_by, Option, Some, None, unwrap_or}
use Rattle.dwarf_entries.specs.Codes.{at_type}
use Rattle.dwarf_entries.specs.Dies.{Die, Info, linked, parent_of, what}
use Rattle.dwarf_entries.specs.Lookups.{has}
use Rattle.dwarf_entries.specs.PassedOver.{is_passed, is_structure}
use Rattle.dwarf_entries.specs.Primitives.{primitive_of}
use Rattle.dwarf_entries.specs.Rules.{missing, no_type, too_long}
use Rattle.dwarf_entries.specs.Tags.{passes, is_numbered}
use Rattle.dwarf_entries.specs.declared.tag.Tag.{Tag}
use Rattle.layout_set.specs.declared.primitive.Primitive.{Primitive}
use Rattle.layout_set.specs.declared.set.TypeRef.{TypeRef}

abbrev pub has_tag_of : (Tag → Bool) → Option Die → Bool
has_tag_of test None = false
has_tag_of test (Some d) = passes test (what d)

-- a structure in a structure, as those of variants are
abbrev pub is_inner_structure : Die → Bool
is_inner_structure d = passes is_structure (what d) && has_tag_of is_structure (parent_of d)

-- the entry is a type of the set
abbrev pub is_type_of_set : Info → Die → Bool
is_type_of_set info d = passes is_numbered (what d) && (not (is_inner_structure d) && not (is_passed info d))

-- how many types of the set are before it
abbrev pub place_in_set : Info → Die → ℕ
place_in_set info d = count_by (λ o. is_type_of_set info o && nat_lt o.entry.offset d.entry.offset) info.dies

-- where a link leads: to an entry that is no typedef, to none that says something, or through too many typedefs
pub data End : Type 0 where
  reached : Die → End
  nowhere : End
  endless : End

abbrev is_typedef : Tag → Bool
is_typedef Tag.Typedef = true
is_typedef _ = false

-- from an entry on, through at most so many typedefs
abbrev pub end_within : ℕ → Info → Option Die → End
end_within most info None = End.nowhere
end_within zero info (Some d) = if is_passed info d then End.nowhere else if passes is_typedef (what d) then End.endless else End.reached d
end_within (suc most) info (Some d) =
    if is_passed info d then End.nowhere
    else if passes is_typedef (what d) then end_within most info (linked info at_type d)
    else End.reached d

-- where the type of an entry leads, through at most 64 typedefs
abbrev pub type_end : Info → Die → End
type_end info d = end_within 64 info (linked info at_type d)

-- the type that an entry is: one of the set, or a primitive. A base type that is none is itself invalid.
abbrev pub type_at : Info → Die → Option Tag → Option TypeRef
type_at info d None = None
type_at info d (Some Tag.BaseType) = Some (TypeRef.Prim (unwrap_or (primitive_of info d) Primitive.«Unit»))
type_at info d (Some t) = if is_type_of_set info d then Some (TypeRef.User (place_in_set info d)) else None

abbrev pub type_in : Info → End → Option TypeRef
type_in info (End.reached d) = type_at info d (what d)
type_in info _ = None

-- the type of an entry, if its link leads to one
abbrev pub type_of : Info → Die → Option TypeRef
type_of info d = type_in info (type_end info d)

abbrev pub or_unit : Option TypeRef → TypeRef
or_unit ty = unwrap_or ty (TypeRef.Prim Primitive.«Unit»)

abbrev type_there : Option TypeRef → Option ℕ
type_there None = Some no_type
type_there (Some ty) = None

abbrev pub end_rule : Info → End → Option ℕ
end_rule info (End.reached d) = type_there (type_at info d (what d))
end_rule info End.nowhere = Some no_type
end_rule info End.endless = Some too_long

-- the rule that the link of an entry to its type breaks
abbrev pub type_rule : Info → Die → Option ℕ
type_rule info d = end_rule info (type_end info d)

-- the same, or that the type is missing
abbrev pub typed_rule : Info → Die → Option ℕ
typed_rule info d = if has at_type d.entry then type_rule info d else Some missing
