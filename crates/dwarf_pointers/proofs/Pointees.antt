-- What pointers lead to.
use Rattle.std.proofs.Common.{◌≡◌, ◌∙◌, ℕ, Bool, true, false, if◌then◌else◌, not, Option, Some, None, refl, sym, ap}
use Rattle.layout_set.specs.declared.primitive.Primitive.{Primitive}
use Rattle.layout_set.specs.declared.set.TypeRef.{TypeRef}
use Rattle.dwarf_entries.specs.Codes.{at_type}
use Rattle.dwarf_entries.specs.Dies.{Die, Info, what}
use Rattle.dwarf_entries.specs.Lookups.{has}
use Rattle.dwarf_entries.specs.Pointers.{ends_at_function, pointee_of, pointer_rule, thin_pointee}
use Rattle.dwarf_entries.specs.Tags.{passes}
use Rattle.dwarf_entries.specs.TypeLinks.{End as LinkEnd, or_unit, type_end, type_of, type_rule}
use Rattle.dwarf_dies.specs.Handles.{DieIn}
use Rattle.dwarf_scopes.specs.Tags.{is_pointer}
use Rattle.dwarf_links.specs.declared.ends.End.{End}
use Rattle.dwarf_links.specs.Ends.{end_in}
use Rattle.dwarf_pointers.proofs.Links.{at_reached, at_nowhere, at_endless}

abbrev pointee_by : Info → Die → Bool → Bool → Option TypeRef
pointee_by info d typed function = if not typed then Some (TypeRef.Prim Primitive.«Unit») else if function then None else Some (or_unit (type_of info d))

abbrev rule_by : Info → Die → Bool → Bool → Option ℕ
rule_by info d typed function = if not typed then None else if function then None else type_rule info d

-- a pointer with a type, by whether that is a function's
pub pointee_is : (info : Info) (d : Die) (function : Bool) → has at_type d.entry ≡ true → ends_at_function (type_end info d) ≡ function → pointee_of info d ≡ pointee_by info d true function
pointee_is info d function h g = ap (λ b. pointee_by info d b (ends_at_function (type_end info d))) h ∙ ap (pointee_by info d true) g

pub rule_is : (info : Info) (d : Die) (function : Bool) → has at_type d.entry ≡ true → ends_at_function (type_end info d) ≡ function → pointer_rule info d ≡ rule_by info d true function
rule_is info d function h g = ap (λ b. rule_by info d b (ends_at_function (type_end info d))) h ∙ ap (rule_by info d true) g

-- what is at an end, where that is a pointer
abbrev pointee_at : Info → LinkEnd → Option TypeRef
pointee_at info (LinkEnd.reached d) = if passes is_pointer (what d) then pointee_of info d else None
pointee_at info _ = None

pub thin_reached : (info : Info) (d : Die) (e : DieIn) → End.Reached e ≡ end_in info (type_end info d) → (if passes is_pointer (what e.die) then pointee_of info e.die else None) ≡ thin_pointee info d
thin_reached info d e h = at_reached (pointee_at info) info e (type_end info d) h

pub thin_nowhere : (info : Info) (d : Die) → End.Nowhere ≡ end_in info (type_end info d) → None ≡ thin_pointee info d
thin_nowhere info d h = at_nowhere (pointee_at info) info (type_end info d) h

pub thin_endless : (info : Info) (d : Die) → End.Endless ≡ end_in info (type_end info d) → None ≡ thin_pointee info d
thin_endless info d h = at_endless (pointee_at info) info (type_end info d) h
