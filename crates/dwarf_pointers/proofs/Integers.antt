-- What the type of an enumeration may be.
use Rattle.std.proofs.Common.{◌≡◌, ◌∙◌, ℕ, Bool, true, if◌then◌else◌, Option, Some, None, refl, sym, ap}
use Rattle.dwarf_entries.specs.Dies.{Die, Info, what}
use Rattle.dwarf_entries.specs.Items.{lower, rule_if}
use Rattle.dwarf_entries.specs.PassC.{enumeration_rule}
use Rattle.dwarf_entries.specs.Primitives.{primitive_of}
use Rattle.dwarf_entries.specs.Rules.{no_type}
use Rattle.dwarf_entries.specs.Tags.{passes}
use Rattle.dwarf_entries.specs.TypeLinks.{End as LinkEnd, type_end, typed_rule}
use Rattle.dwarf_entries.specs.declared.tag.Tag.{Tag}
use Rattle.dwarf_dies.specs.Handles.{DieIn}
use Rattle.dwarf_scopes.specs.Tags.{is_base_type}
use Rattle.dwarf_links.specs.declared.ends.End.{End}
use Rattle.dwarf_links.specs.Ends.{end_in}
use Rattle.dwarf_pointers.specs.WholeNumbers.{is_no_integer, is_no_whole}
use Rattle.dwarf_pointers.proofs.Links.{at_reached, at_nowhere, at_endless}

-- an entry with a tag that is no whole number
abbrev is_other : Info → Die → Option Tag → Bool
is_other info d (Some Tag.BaseType) = is_no_whole (primitive_of info d)
is_other info d _ = true

other_is : (info : Info) (d : Die) (o : Option Tag) → (if passes is_base_type o then is_no_whole (primitive_of info d) else true) ≡ is_other info d o
other_is info d None = refl
other_is info d (Some Tag.ArrayType) = refl
other_is info d (Some Tag.EnumerationType) = refl
other_is info d (Some Tag.FormalParameter) = refl
other_is info d (Some Tag.LexicalBlock) = refl
other_is info d (Some Tag.Member) = refl
other_is info d (Some Tag.PointerType) = refl
other_is info d (Some Tag.CompileUnit) = refl
other_is info d (Some Tag.StructureType) = refl
other_is info d (Some Tag.SubroutineType) = refl
other_is info d (Some Tag.Typedef) = refl
other_is info d (Some Tag.UnionType) = refl
other_is info d (Some Tag.Variant) = refl
other_is info d (Some Tag.SubrangeType) = refl
other_is info d (Some Tag.BaseType) = refl
other_is info d (Some Tag.Enumerator) = refl
other_is info d (Some Tag.Subprogram) = refl
other_is info d (Some Tag.TemplateTypeParameter) = refl
other_is info d (Some Tag.VariantPart) = refl
other_is info d (Some Tag.Variable) = refl
other_is info d (Some Tag.Namespace) = refl

-- the rule of an enumeration's type, by where its link leads
abbrev integer_rule : Info → LinkEnd → Option ℕ
integer_rule info (LinkEnd.reached d) = rule_if (is_other info d (what d)) no_type
integer_rule info _ = None

abbrev with_rule : Info → Die → Option ℕ → Option ℕ
with_rule info d rule = lower (typed_rule info d) (lower rule None)

pub integer_reached : (info : Info) (d : Die) (e : DieIn) → End.Reached e ≡ end_in info (type_end info d)
    → with_rule info d (rule_if (is_no_integer info e.die) no_type) ≡ enumeration_rule info d
integer_reached info d e h = ap (with_rule info d) (ap (λ b. rule_if b no_type) (other_is info e.die (what e.die)) ∙ at_reached (integer_rule info) info e (type_end info d) h)

pub integer_nowhere : (info : Info) (d : Die) → End.Nowhere ≡ end_in info (type_end info d) → with_rule info d None ≡ enumeration_rule info d
integer_nowhere info d h = ap (with_rule info d) (at_nowhere (integer_rule info) info (type_end info d) h)

pub integer_endless : (info : Info) (d : Die) → End.Endless ≡ end_in info (type_end info d) → with_rule info d None ≡ enumeration_rule info d
integer_endless info d h = ap (with_rule info d) (at_endless (integer_rule info) info (type_end info d) h)
