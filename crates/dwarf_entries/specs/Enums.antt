-- Enums: the tag, the variants and their selectors that a variant part says. DWARF 5, 5.7.10.
use Rattle.std.specs.Prelude.{ℕ, ◌&&◌, nat_le, not, Bool, true, false, if◌then◌else◌, List, [], ◌∷◌, length, filter_map, slice_get, Option, Some, None, option_and_then, unwrap_or}
use Rattle.std.specs.Option.{option_map}
use Rattle.std.specs.List.{list_any}
use Rattle.layout_set.specs.Numbers.{last_of}
use Rattle.layout_set.specs.Primitives.{prim_bytes}
use Rattle.layout_set.specs.declared.primitive.Primitive.{Primitive}
use Rattle.layout_set.specs.declared.set.Field.{Field}
use Rattle.layout_set.specs.declared.set.Selector.{Selector}
use Rattle.layout_set.specs.declared.set.Tag.{Tag as SetTag}
use Rattle.layout_set.specs.declared.set.TypeRef.{TypeRef}
use Rattle.layout_set.specs.declared.set.Variant.{Variant}
use Rattle.dwarf_entries.specs.Codes.{at_discr, at_discr_value}
use Rattle.dwarf_entries.specs.Dies.{Die, Info, linked, is_owned_by, what}
use Rattle.dwarf_entries.specs.Discriminants.{discriminant, default_first, default_last}
use Rattle.dwarf_entries.specs.Lookups.{attribute_of, has}
use Rattle.dwarf_entries.specs.PassedOver.{is_structure}
use Rattle.dwarf_entries.specs.Structures.{is_member, is_part, children_with, fields_of, location_of}
use Rattle.dwarf_entries.specs.Tags.{passes}
use Rattle.dwarf_entries.specs.Texts.{own_text}
use Rattle.dwarf_entries.specs.TypeLinks.{End, type_end, type_of}
use Rattle.dwarf_entries.specs.declared.tag.Tag.{Tag}

abbrev pub is_variant : Tag → Bool
is_variant Tag.Variant = true
is_variant _ = false

-- the variants of a part, in order
abbrev pub variants_in : Info → Die → List Die
variants_in info part = children_with is_variant info part

abbrev member_below : Die → Option Die → Option Die
member_below part None = None
member_below part (Some m) = if passes is_member (what m) && is_owned_by part.entry.offset m.owners then Some m else None

-- the member of a part that its discr names
abbrev pub tag_member : Info → Die → Option Die
tag_member info part = member_below part (linked info at_discr part)

-- whether a variant lists a number
abbrev pub is_listed : Die → Bool
is_listed v = has at_discr_value v.entry

-- The part has no tag: it has no discr, or no variant, or just one that lists no number.
abbrev pub is_tagless : Info → Die → Bool
is_tagless info part =
    if not (has at_discr part.entry) then true else if list_any is_listed (variants_in info part) then false else nat_le (length (variants_in info part)) 1

abbrev pub primitive_in : Option TypeRef → Option Primitive
primitive_in (Some (TypeRef.Prim prim)) = Some prim
primitive_in _ = None

-- the type of the tag, where the part has one and it is a primitive
abbrev pub tag_primitive : Info → Die → Option Primitive
tag_primitive info part =
    if is_tagless info part then None else option_and_then (λ m. primitive_in (type_of info m)) (tag_member info part)

-- the tag of an enum
abbrev pub tag_in : Info → Die → Option SetTag
tag_in info part =
    option_and_then (λ prim. option_map (λ m. record { off = location_of m; prim = prim }) (tag_member info part)) (tag_primitive info part)

-- the number that a variant lists for a tag of this type
abbrev pub number_in : Primitive → Die → Option ℕ
number_in prim v = option_and_then (discriminant prim) (attribute_of at_discr_value v.entry)

-- all listed numbers, in the order of their variants
abbrev pub listed_numbers : Info → Primitive → Die → List ℕ
listed_numbers info prim part = filter_map (number_in prim) (variants_in info part)

-- the span that the listed numbers leave for the default variant, where the tag has so many bytes
abbrev pub default_span : ℕ → List ℕ → Selector
default_span size [] = Selector.Span 0 0
default_span size (first ∷ rest) = Selector.Span (default_first size (last_of first rest)) (default_last size first)

abbrev exact_or_default : ℕ → List ℕ → Option ℕ → Bool → Selector
exact_or_default size numbers number true = Selector.Exact (unwrap_or number 0)
exact_or_default size numbers number false = default_span size numbers

abbrev selector_by : Info → Die → Die → Option Primitive → Selector
selector_by info part v None = Selector.Only
selector_by info part v (Some prim) = exact_or_default (prim_bytes 8 prim) (listed_numbers info prim part) (number_in prim v) (is_listed v)

-- what chooses a variant of a part
abbrev pub selector_of : Info → Die → Die → Selector
selector_of info part v = selector_by info part v (tag_primitive info part)

-- the first member of a variant
abbrev pub variant_member : Info → Die → Option Die
variant_member info v = slice_get (children_with is_member info v) 0

abbrev structure_in : End → Option Die
structure_in (End.reached d) = if passes is_structure (what d) then Some d else None
structure_in _ = None

-- the structure to which the type of a variant's member leads
abbrev pub variant_structure : Info → Die → Option Die
variant_structure info v = option_and_then (λ m. structure_in (type_end info m)) (variant_member info v)

abbrev pub fields_in : Info → Option Die → List Field
fields_in info None = []
fields_in info (Some d) = fields_of info d

abbrev text_or_empty : Info → Option Die → List ℕ
text_or_empty info None = []
text_or_empty info (Some m) = own_text info m

-- a variant: its member's name and the fields of its member's structure, which count from the start of the enum
abbrev pub variant_of : Info → Die → Die → Variant
variant_of info part v = record {
  name = text_or_empty info (variant_member info v);
  sel = selector_of info part v;
  fields = fields_in info (variant_structure info v);
}

-- the variant part of a structure
abbrev pub part_of : Info → Die → Option Die
part_of info d = slice_get (children_with is_part info d) 0
