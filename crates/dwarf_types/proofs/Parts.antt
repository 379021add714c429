-- What variant parts and structures say, where no item of any entry breaks a rule.
use Rattle.std.proofs.Common.{◌≡◌, ◌&&◌, ℕ, zero, suc, not, if◌then◌else◌, Bool, true, false, IfSome, Option, Some, None, option_and_then, is_none, refl, sym, ap, subst, ◌∙◌}
use Rattle.dwarf_entries.specs.Codes.{at_discr, at_type}
use Rattle.dwarf_entries.specs.Dies.{Die, Info, is_owned_by, linked, parent_of, what}
use Rattle.dwarf_entries.specs.EnumRules.{variant_rule}
use Rattle.dwarf_entries.specs.Enums.{is_variant, part_of, tag_member, variant_member, variant_structure}
use Rattle.dwarf_entries.specs.Items.{rule_if}
use Rattle.dwarf_entries.specs.PassedOver.{is_passed, is_structure}
use Rattle.dwarf_entries.specs.Rules.{missing}
use Rattle.dwarf_entries.specs.Structures.{is_member, is_part}
use Rattle.dwarf_entries.specs.Tags.{is_numbered, passes}
use Rattle.dwarf_entries.specs.TypeLinks.{End, end_within, has_tag_of, is_inner_structure, is_type_of_set, type_end}
use Rattle.dwarf_entries.specs.declared.tag.Tag.{Tag}
use Rattle.dwarf_scopes.specs.Tags.{is_typedef}
use Rattle.dwarf_laws.specs.Unbroken.{IsOf}
use Rattle.dwarf_types.specs.Said.{HasFields, IsPart, IsPlaced, IsStructure, IsVariant}
use Rattle.dwarf_types.proofs.Children.{IsChild, each_child, first_child, linked_one, parent_is}
use Rattle.dwarf_types.proofs.Looks.{AreGood, IsRead, IsShown, fields_are, params_are, read_child, rule_of, sized, tag_is_placed, variant_member_is}
use Rattle.dwarf_types.proofs.Rules.{lower_first, some_there, unbroken}
use Rattle.dwarf_types.proofs.Tags.{member_is, part_is, structure_is, variant_is}

-- one of the entries, which isn't passed over
record IsOpen (info : Info) (d : Die) : Type 0 where
  is_of : IsOf info d
  shown : is_passed info d ≡ false

-- where a link leads through typedefs
end_is_open : (info : Info) (most : ℕ) (o : Option Die) (s : Die) → ((d : Die) → o ≡ Some d → IsOf info d) → end_within most info o ≡ End.reached s → IsOpen info s
end_is_open info most None s all h = absurd (cc)
end_is_open info zero (Some d) s all h = by_passed (is_passed info d) refl h
  where
    by_typedef : (t : Bool) → is_passed info d ≡ false → (if t then End.endless else End.reached d) ≡ End.reached s → IsOpen info s
    by_typedef true e g = absurd (cc)
    by_typedef false e g = let same : d ≡ s = cc in subst (IsOpen info) same (record { is_of = all d refl; shown = e })

    by_passed : (p : Bool) → is_passed info d ≡ p → (if p then End.nowhere else if passes is_typedef (what d) then End.endless else End.reached d) ≡ End.reached s → IsOpen info s
    by_passed true e g = absurd (cc)
    by_passed false e g = by_typedef (passes is_typedef (what d)) e g
end_is_open info (suc most) (Some d) s all h =
    by_passed (end_is_open info most (linked info at_type d) s (λ x q. linked_one info at_type d x q)) (is_passed info d) refl h
  where
    by_typedef : (end_within most info (linked info at_type d) ≡ End.reached s → IsOpen info s) → (t : Bool) → is_passed info d ≡ false
        → (if t then end_within most info (linked info at_type d) else End.reached d) ≡ End.reached s → IsOpen info s
    by_typedef more true e g = more g
    by_typedef more false e g = let same : d ≡ s = cc in subst (IsOpen info) same (record { is_of = all d refl; shown = e })

    by_passed : (end_within most info (linked info at_type d) ≡ End.reached s → IsOpen info s) → (p : Bool) → is_passed info d ≡ p
        → (if p then End.nowhere else if passes is_typedef (what d) then end_within most info (linked info at_type d) else End.reached d) ≡ End.reached s → IsOpen info s
    by_passed more true e g = absurd (cc)
    by_passed more false e g = by_typedef more (passes is_typedef (what d)) e g

type_is_open : (info : Info) (m s : Die) → type_end info m ≡ End.reached s → IsOpen info s
type_is_open info m s h = end_is_open info 64 (linked info at_type m) s (λ x q. linked_one info at_type m x q) h

abbrev pub in_end : End → Option Die
in_end (End.reached d) = if passes is_structure (what d) then Some d else None
in_end _ = None

-- the structure to which the type of a variant's member leads isn't passed over
structure_shown : (info : Info) (v m s : Die) → variant_member info v ≡ Some m → variant_structure info v ≡ Some s → IsShown info Tag.StructureType s
structure_shown info v m s first h = by_end (type_end info m) refl (sym (ap (option_and_then (λ (x : Die). in_end (type_end info x))) first) ∙ h)
  where
    by_tag : (d : Die) → IsOpen info d → (b : Bool) → passes is_structure (what d) ≡ b → (if b then Some d else None) ≡ Some s → IsShown info Tag.StructureType s
    by_tag d o true e g = let same : d ≡ s = cc in subst (IsShown info Tag.StructureType) same (record { is_of = o.is_of; shown = o.shown; tag_is = structure_is (what d) e })
    by_tag d o false e g = absurd (cc)

    by_end : (l : End) → type_end info m ≡ l → in_end l ≡ Some s → IsShown info Tag.StructureType s
    by_end (End.reached d) e g = by_tag d (type_is_open info m d e) (passes is_structure (what d)) refl g
    by_end End.nowhere e g = absurd (cc)
    by_end End.endless e g = absurd (cc)

if_some : (P : Die → Type 0) (o : Option Die) → ((d : Die) → o ≡ Some d → P d) → IfSome o P
if_some P None h = tt
if_some P (Some d) h = h d refl

-- a variant has a member
has_member : (info : Info) → AreGood info → (part v : Die) → IsRead info part v Tag.Variant → what part ≡ Some Tag.VariantPart → (m : Die) × (variant_member info v ≡ Some m)
has_member info g part v r is =
    some_there (variant_member info v) (unbroken (is_none (variant_member info v)) missing (lower_first (rule_if (is_none (variant_member info v)) missing) _ rule))
  where
    below : has_tag_of is_part (parent_of v) ≡ true
    below = ap (has_tag_of is_part) r.parent ∙ ap (passes is_part) is

    rule : variant_rule info v ≡ None
    rule = sym (ap (λ b. if b then variant_rule info v else None) below) ∙ rule_of info g part v Tag.Variant r

variant_good : (info : Info) → AreGood info → (part v : Die) → IsRead info part v Tag.Variant → what part ≡ Some Tag.VariantPart → IsVariant info v
variant_good info g part v r is = record {
  member = there.0;
  first = there.1;
  named = variant_member_is info g v there.0 (read_child info is_member Tag.Variant Tag.Member v there.0 shown refl (first_child info g.laws is_member v r.is_of there.0 there.1) member_is refl) r.tag_is;
  fields = if_some (HasFields info) (variant_structure info v) (λ s h. fields_are info g s (structure_shown info v there.0 s there.1 h));
}
  where
    there : (m : Die) × (variant_member info v ≡ Some m)
    there = has_member info g part v r is

    shown : IsShown info Tag.Variant v
    shown = record { is_of = r.is_of; shown = r.shown; tag_is = r.tag_is }

abbrev in_link : Die → Option Die → Option Die
in_link part None = None
in_link part (Some x) = if passes is_member (what x) && is_owned_by part.entry.offset x.owners then Some x else None

-- the tag of a part is a member of it
tag_is_child : (info : Info) → AreGood info → (part m : Die) → IsOf info part → tag_member info part ≡ Some m → IsChild info is_member part m
tag_is_child info g part m o h = by_link (linked info at_discr part) refl h
  where
    by_tests : (x : Die) → IsOf info x → (a b : Bool) → passes is_member (what x) ≡ a → is_owned_by part.entry.offset x.owners ≡ b → (if a && b then Some x else None) ≡ Some m
        → IsChild info is_member part m
    by_tests x is true true e q k =
        let same : x ≡ m = cc in
        subst (IsChild info is_member part) same (record { is_of = is; parent = parent_is info g.laws part x o is q; tag = e })
    by_tests x is true false e q k = absurd (cc)
    by_tests x is false b e q k = absurd (cc)

    by_link : (l : Option Die) → linked info at_discr part ≡ l → in_link part l ≡ Some m → IsChild info is_member part m
    by_link None e k = absurd (cc)
    by_link (Some x) e k = by_tests x (linked_one info at_discr part x e) (passes is_member (what x)) (is_owned_by part.entry.offset x.owners) refl refl k

part_good : (info : Info) → AreGood info → (part : Die) → IsShown info Tag.VariantPart part → IsPart info part
part_good info g part s = record {
  tag =
      if_some IsPlaced (tag_member info part)
      (λ m h. tag_is_placed info g part m (read_child info is_member Tag.VariantPart Tag.Member part m s refl (tag_is_child info g part m s.is_of h) member_is refl) s.tag_is);
  variants =
      each_child info g.laws is_variant part s.is_of (IsVariant info)
      (λ v c. variant_good info g part v (read_child info is_variant Tag.VariantPart Tag.Variant part v s refl c variant_is refl) s.tag_is);
}

-- a structure that isn't passed over, and isn't in another one
pub structure_good : (info : Info) → AreGood info → (d : Die) → IsShown info Tag.StructureType d → is_inner_structure d ≡ false → IsStructure info d
structure_good info g d s outer = record {
  sized = sized info g d Tag.StructureType s refl refl refl refl;
  params = params_are info g d s outer;
  fields = fields_are info g d s;
  part = if_some (IsPart info) (part_of info d) part_is_good;
}
  where
    part_is_good : (part : Die) → part_of info d ≡ Some part → IsPart info part
    part_is_good part h =
        let r = read_child info is_part Tag.StructureType Tag.VariantPart d part s refl (first_child info g.laws is_part d s.is_of part h) part_is refl in
        part_good info g part (record { is_of = r.is_of; shown = r.shown; tag_is = r.tag_is })

and_first : (a b : Bool) → (a && b) ≡ true → a ≡ true
and_first true b h = refl
and_first false b h = absurd (cc)

and_second : (a b : Bool) → (a && b) ≡ true → b ≡ true
and_second true b h = h
and_second false b h = absurd (cc)

is_not : (a : Bool) → not a ≡ true → a ≡ false
is_not true h = absurd (cc)
is_not false h = refl

-- a type of the set isn't passed over, and is no structure in a structure
pub record IsSetType (info : Info) (d : Die) : Type 0 where
  pub numbered : passes is_numbered (what d) ≡ true
  pub outer : is_inner_structure d ≡ false
  pub shown : is_passed info d ≡ false

pub set_type : (info : Info) (d : Die) → is_type_of_set info d ≡ true → IsSetType info d
set_type info d h =
    let rest = and_second (passes is_numbered (what d)) (not (is_inner_structure d) && not (is_passed info d)) h in
    record {
      numbered = and_first (passes is_numbered (what d)) (not (is_inner_structure d) && not (is_passed info d)) h;
      outer = is_not (is_inner_structure d) (and_first (not (is_inner_structure d)) (not (is_passed info d)) rest);
      shown = is_not (is_passed info d) (and_second (not (is_inner_structure d)) (not (is_passed info d)) rest);
    }
