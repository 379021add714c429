-- What says of an entry what it is, is read where that entry is.
use Rattle.std.proofs.Common.{◌≡◌, ◌&&◌, ◌||◌, not, Bool, true, false, Option, Some, None, refl, ap, ◌∙◌}
use Rattle.std.specs.List.{list_any}
use Rattle.dwarf_entries.specs.Codes.{at_abstract_origin}
use Rattle.dwarf_entries.specs.Dies.{Die, Info, parent_of, what}
use Rattle.dwarf_entries.specs.Lookups.{has}
use Rattle.dwarf_entries.specs.Origins.{is_unnamed}
use Rattle.dwarf_entries.specs.PassedOver.{hides, is_hidden, is_out_of_place, is_union, is_unnamed_variable, is_variable}
use Rattle.dwarf_entries.specs.Tags.{passes}
use Rattle.dwarf_entries.specs.declared.tag.Tag.{Tag}
use Rattle.dwarf_dies.proofs.Ancestors.{above_is}
use Rattle.dwarf_laws.specs.Unbroken.{AreReadWithParents, is_of_its_parent}

or_first : (a b : Bool) → (a || b) ≡ false → a ≡ false
or_first false b h = refl
or_first true b h = absurd (cc)

or_second : (a b : Bool) → (a || b) ≡ false → b ≡ false
or_second false b h = h
or_second true b h = absurd (cc)

or_both : (a b : Bool) → a ≡ false → b ≡ false → (a || b) ≡ false
or_both a b h g = ap (λ x. x || b) h ∙ g

in_place : (info : Info) (c : Die) (o : Option Tag) → passes is_of_its_parent o ≡ true → is_out_of_place c o ≡ false
in_place info c None h = absurd (cc)
in_place info c (Some Tag.Member) h = refl
in_place info c (Some Tag.TemplateTypeParameter) h = refl
in_place info c (Some Tag.VariantPart) h = refl
in_place info c (Some Tag.Variant) h = refl
in_place info c (Some Tag.Enumerator) h = refl
in_place info c (Some Tag.SubrangeType) h = refl
in_place info c (Some Tag.CompileUnit) h = absurd (cc)
in_place info c (Some Tag.Namespace) h = absurd (cc)
in_place info c (Some Tag.BaseType) h = absurd (cc)
in_place info c (Some Tag.StructureType) h = absurd (cc)
in_place info c (Some Tag.UnionType) h = absurd (cc)
in_place info c (Some Tag.PointerType) h = absurd (cc)
in_place info c (Some Tag.ArrayType) h = absurd (cc)
in_place info c (Some Tag.EnumerationType) h = absurd (cc)
in_place info c (Some Tag.SubroutineType) h = absurd (cc)
in_place info c (Some Tag.Typedef) h = absurd (cc)
in_place info c (Some Tag.Subprogram) h = absurd (cc)
in_place info c (Some Tag.LexicalBlock) h = absurd (cc)
in_place info c (Some Tag.Variable) h = absurd (cc)
in_place info c (Some Tag.FormalParameter) h = absurd (cc)

no_variable : (o : Option Tag) → passes is_of_its_parent o ≡ true → passes is_variable o ≡ false
no_variable None h = absurd (cc)
no_variable (Some Tag.Variable) h = absurd (cc)
no_variable (Some Tag.FormalParameter) h = absurd (cc)
no_variable (Some Tag.Member) h = refl
no_variable (Some Tag.TemplateTypeParameter) h = refl
no_variable (Some Tag.VariantPart) h = refl
no_variable (Some Tag.Variant) h = refl
no_variable (Some Tag.Enumerator) h = refl
no_variable (Some Tag.SubrangeType) h = refl
no_variable (Some Tag.CompileUnit) h = refl
no_variable (Some Tag.Namespace) h = refl
no_variable (Some Tag.BaseType) h = refl
no_variable (Some Tag.StructureType) h = refl
no_variable (Some Tag.UnionType) h = refl
no_variable (Some Tag.PointerType) h = refl
no_variable (Some Tag.ArrayType) h = refl
no_variable (Some Tag.EnumerationType) h = refl
no_variable (Some Tag.SubroutineType) h = refl
no_variable (Some Tag.Typedef) h = refl
no_variable (Some Tag.Subprogram) h = refl
no_variable (Some Tag.LexicalBlock) h = refl

-- an entry is hidden where its parent hides it or is hidden
hidden_is : (info : Info) (d c : Die) → parent_of c ≡ Some d → is_hidden info c ≡ (hides info d || is_hidden info d)
hidden_is info d c h = ap (list_any (hides info)) (above_is c d h)

pub read_with : (info : Info) → AreReadWithParents info
read_with info d c above passed no_union tag =
    let hidden = or_first (is_hidden info d) (is_out_of_place d (what d) || is_unnamed_variable info d) passed in
    let rest = or_second (is_hidden info d) (is_out_of_place d (what d) || is_unnamed_variable info d) passed in
    let placed = or_first (is_out_of_place d (what d)) (is_unnamed_variable info d) rest in
    let named = or_second (is_out_of_place d (what d)) (is_unnamed_variable info d) rest in
    let shows = or_both (is_out_of_place d (what d)) (is_unnamed_variable info d || passes is_union (what d)) placed (or_both (is_unnamed_variable info d) (passes is_union (what d)) named no_union) in
    let seen : is_hidden info c ≡ false = hidden_is info d c above ∙ or_both (hides info d) (is_hidden info d) shows hidden in
    let there = in_place info c (what c) tag in
    let unnamed : is_unnamed_variable info c ≡ false = ap (λ b. b && is_unnamed info c) (no_variable (what c) tag) in
    let opened : (is_hidden info c || is_out_of_place c (what c)) ≡ false = or_both (is_hidden info c) (is_out_of_place c (what c)) seen there in (
      or_both (is_hidden info c) (is_out_of_place c (what c) || is_unnamed_variable info c) seen (or_both (is_out_of_place c (what c)) (is_unnamed_variable info c) there unnamed),
      ap (λ b. not b && (has at_abstract_origin c.entry || not (is_unnamed_variable info c))) opened
          ∙ ap (λ b. has at_abstract_origin c.entry || not b) unnamed ∙ or_true (has at_abstract_origin c.entry),
    )
  where
    or_true : (a : Bool) → (a || true) ≡ true
    or_true true = refl
    or_true false = refl
