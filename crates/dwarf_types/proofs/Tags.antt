-- What a test of a tag says of the tag.
use Rattle.std.proofs.Common.{◌≡◌, Bool, true, Option, Some, None, ap, arith}
use Rattle.dwarf_entries.specs.Enums.{is_variant}
use Rattle.dwarf_entries.specs.PassedOver.{is_structure}
use Rattle.dwarf_entries.specs.Structures.{is_member, is_param_tag, is_part}
use Rattle.dwarf_entries.specs.Tags.{passes}
use Rattle.dwarf_entries.specs.Types.{is_enumerator, is_subrange}
use Rattle.dwarf_entries.specs.declared.tag.Tag.{Tag}

-- a test that just one tag passes
one_tag : (test : Tag → Bool) (tag : Tag) → ((t : Tag) → test t ≡ true → t ≡ tag) → (o : Option Tag) → passes test o ≡ true → o ≡ Some tag
one_tag test tag only None h = absurd (cc)
one_tag test tag only (Some t) h = ap (λ (x : Tag). Some x) (only t h)

pub member_is : (o : Option Tag) → passes is_member o ≡ true → o ≡ Some Tag.Member
member_is = one_tag is_member Tag.Member (λ t h. grind (arith, h))

pub param_is : (o : Option Tag) → passes is_param_tag o ≡ true → o ≡ Some Tag.TemplateTypeParameter
param_is = one_tag is_param_tag Tag.TemplateTypeParameter (λ t h. grind (arith, h))

pub part_is : (o : Option Tag) → passes is_part o ≡ true → o ≡ Some Tag.VariantPart
part_is = one_tag is_part Tag.VariantPart (λ t h. grind (arith, h))

pub variant_is : (o : Option Tag) → passes is_variant o ≡ true → o ≡ Some Tag.Variant
variant_is = one_tag is_variant Tag.Variant (λ t h. grind (arith, h))

pub enumerator_is : (o : Option Tag) → passes is_enumerator o ≡ true → o ≡ Some Tag.Enumerator
enumerator_is = one_tag is_enumerator Tag.Enumerator (λ t h. grind (arith, h))

pub subrange_is : (o : Option Tag) → passes is_subrange o ≡ true → o ≡ Some Tag.SubrangeType
subrange_is = one_tag is_subrange Tag.SubrangeType (λ t h. grind (arith, h))

pub structure_is : (o : Option Tag) → passes is_structure o ≡ true → o ≡ Some Tag.StructureType
structure_is = one_tag is_structure Tag.StructureType (λ t h. grind (arith, h))
