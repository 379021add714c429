-- What entries say that belong to a type of the set, where no item of any entry breaks a rule.
use Rattle.std.proofs.Common.{◌≡◌, ◌<◌, ◌^◌, ◌&&◌, ◌||◌, ℕ, List, [], ◌∷◌, not, if◌then◌else◌, Bool, true, false, All, Option, Some, None, unwrap_or, refl, sym, ap, ◌∙◌, arith}
use Rattle.std.proofs.lemmas.List.Elements.{All-nil, All-head}
use Rattle.dwarf_entries.specs.Codes.{at_abstract_origin, at_alignment, at_byte_size, at_const_value, at_count, at_data_member_location, at_name}
use Rattle.dwarf_entries.specs.Dies.{Die, Info, parent_of, what}
use Rattle.dwarf_entries.specs.EnumRules.{is_length, is_tag_member, structure_rule}
use Rattle.dwarf_entries.specs.Enums.{is_variant}
use Rattle.dwarf_entries.specs.Items.{in_info, item_at, lower, lowest}
use Rattle.dwarf_entries.specs.Lookups.{has, number_of}
use Rattle.dwarf_entries.specs.NameRoles.{Role, has_no_part, is_beside_part, is_in_structure, is_of_variant, is_param, outer_structure, role_by}
use Rattle.dwarf_entries.specs.PassB.{pass_b, row_class}
use Rattle.dwarf_entries.specs.PassC.{bit_rule, entry_rule, member_rule, named_rule, needs, pass_c, tag_rule}
use Rattle.dwarf_entries.specs.PassedOver.{is_function, is_hidden, is_out_of_place, is_passed, is_read, is_structure, is_union, is_unnamed_variable}
use Rattle.dwarf_entries.specs.Structures.{children_with, has_part, is_member, is_param_tag}
use Rattle.dwarf_entries.specs.Tags.{passes}
use Rattle.dwarf_entries.specs.TypeLinks.{has_tag_of, is_inner_structure, typed_rule}
use Rattle.dwarf_entries.specs.Types.{count_of, is_enumerator, is_subrange, one_count}
use Rattle.dwarf_entries.specs.declared.class.Class.{Class}
use Rattle.dwarf_entries.specs.declared.tag.Tag.{Tag}
use Rattle.dwarf_dies.specs.Laws.{AreLinked}
use Rattle.dwarf_laws.specs.Unbroken.{AreUnbroken, BreaksNone, IsLookedAt, IsOf, is_of_its_parent}
use Rattle.dwarf_laws.proofs.Faults.{back, of_mapped}
use Rattle.dwarf_laws.proofs.Looks.{counts, sizes, words}
use Rattle.dwarf_laws.proofs.Parents.{read_with}
use Rattle.dwarf_types.specs.Said.{HasCases, HasFields, HasParams, IsField, IsNamed, IsPlaced, IsSized}
use Rattle.dwarf_types.proofs.Children.{IsChild, each_child}
use Rattle.dwarf_types.proofs.Rules.{by_tag, first_needed, lower_first, named_member}
use Rattle.dwarf_types.proofs.Tags.{enumerator_is, member_is, param_is, subrange_is}

-- entries that follow from their numbers, and of which no item breaks a rule
pub record AreGood (info : Info) : Type 0 where
  pub laws : AreLinked info
  pub unbroken : AreUnbroken info

pub good : (info : Info) → AreLinked info → BreaksNone info → AreGood info
good info laws h = record {
  laws = laws;
  unbroken = record {
    words = words info h;
    sizes = sizes info h;
    counts = counts info h;
    rules = λ d o. of_mapped (λ e. item_at (in_info e.entry.offset) (entry_rule info e)) info.dies (back (pass_b info) (pass_c info) h) o.0 d o.1;
  };
}

-- an entry of these that isn't passed over, with this tag
pub record IsShown (info : Info) (tag : Tag) (d : Die) : Type 0 where
  pub is_of : IsOf info d
  pub shown : is_passed info d ≡ false
  pub tag_is : what d ≡ Some tag

-- a child whose parent isn't passed over isn't either, and is read
pub record IsRead (info : Info) (d c : Die) (tag : Tag) : Type 0 where
  pub is_of : IsOf info c
  pub parent : parent_of c ≡ Some d
  pub shown : is_passed info c ≡ false
  pub read : is_read info c ≡ true
  pub tag_is : what c ≡ Some tag

pub read_child : (info : Info) (test : Tag → Bool) (above tag : Tag) (d c : Die) → IsShown info above d → is_union above ≡ false → IsChild info test d c
    → ((o : Option Tag) → passes test o ≡ true → o ≡ Some tag) → is_of_its_parent tag ≡ true → IsRead info d c tag
read_child info test above tag d c s no_union child only own = record {
  is_of = child.is_of;
  parent = child.parent;
  shown = both.0;
  read = both.1;
  tag_is = is;
}
  where
    is : what c ≡ Some tag
    is = only (what c) child.tag

    both : (is_passed info c ≡ false) × (is_read info c ≡ true)
    both = read_with info d c child.parent s.shown (ap (passes is_union) s.tag_is ∙ no_union) (ap (passes is_of_its_parent) is ∙ own)

no_member : (tag : Option Tag) (beside : Bool) → passes is_member tag ≡ false → (passes is_member tag && beside) ≡ false
no_member tag beside h = ap (λ b. b && beside) h

-- the attributes of one that is no member are looked at
pub looked_at : (info : Info) (d c : Die) (tag : Tag) → IsRead info d c tag → is_member tag ≡ false → is_function tag ≡ false → IsLookedAt info c
looked_at info d c tag r plain no_function = record {
  is_of = r.is_of;
  read = r.read;
  member = no_member (what c) (is_beside_part info c) (ap (passes is_member) r.tag_is ∙ plain);
  no_function = ap (passes is_function) r.tag_is ∙ no_function;
}

and_false : (a : Bool) → (a && false) ≡ false
and_false true = refl
and_false false = refl

-- and those of a member where it isn't beside a variant part
pub looked_at_member : (info : Info) (d m : Die) → IsRead info d m Tag.Member → is_beside_part info m ≡ false → IsLookedAt info m
looked_at_member info d m r alone = record {
  is_of = r.is_of;
  read = r.read;
  member = ap (λ b. passes is_member (what m) && b) alone ∙ and_false (passes is_member (what m));
  no_function = ap (passes is_function) r.tag_is;
}

-- it breaks no rule by its tag
pub rule_of : (info : Info) → AreGood info → (d c : Die) (tag : Tag) → IsRead info d c tag → tag_rule info c (Some tag) ≡ None
rule_of info g d c tag r = by_tag info c (Some tag) (g.unbroken.rules c r.is_of) r.shown r.tag_is

-- a name that must be a word is one
pub named : (info : Info) → AreGood info → (c : Die) (tag : Tag) → IsLookedAt info c → what c ≡ Some tag → role_by info c (Some tag) ≡ Role.word → row_class at_name (Some tag) ≡ Some Class.Text
    → has at_name c.entry ≡ true → IsNamed info c
named info g c tag l is role row there = g.unbroken.words c l (ap (role_by info c) is ∙ role) (ap (row_class at_name) is ∙ row) there

-- whether the entry above is a structure
below_structure : (d m : Die) (tag : Tag) → parent_of m ≡ Some d → what d ≡ Some tag → is_in_structure m ≡ is_structure tag
below_structure d m tag up is = ap (has_tag_of is_structure) up ∙ ap (passes is_structure) is

abbrev role_if : Bool → Role → Role → Role
role_if true r s = r
role_if false r s = s

abbrev field_type_rule : Info → Die → Option ℕ
field_type_rule info m = if is_length info (parent_of m) m then None else typed_rule info m

abbrev member_by : Info → Die → Bool → Bool → Bool → Option ℕ
member_by info m beside within of_variant =
    if beside then None
    else if within then named_rule m (field_type_rule info m)
    else if of_variant then named_rule m (structure_rule info m)
    else if is_tag_member info m then lowest (typed_rule info m ∷ bit_rule m ∷ [])
    else None

-- a member of a structure without a variant part
pub field_is : (info : Info) → AreGood info → (d m : Die) → IsRead info d m Tag.Member → what d ≡ Some Tag.StructureType → has_part info d ≡ false → IsField info m
field_is info g d m r is no_part = record {
  named = named info g m Tag.Member looks r.tag_is (ap (λ b. role_if b Role.word (role_if (is_of_variant m) Role.word Role.plain)) within) refl (named_member m (field_type_rule info m) (sym rule ∙ rule_of info g d m Tag.Member r));
  placed = g.unbroken.sizes m looks at_data_member_location refl (ap (row_class at_data_member_location) r.tag_is);
}
  where
    within : is_in_structure m ≡ true
    within = below_structure d m Tag.StructureType r.parent is

    alone : is_beside_part info m ≡ false
    alone = ap (λ b. b && not (has_no_part info (parent_of m))) within ∙ ap (λ o. not (has_no_part info o)) r.parent ∙ ap (λ b. not (not b)) no_part

    looks : IsLookedAt info m
    looks = looked_at_member info d m r alone

    rule : member_rule info m ≡ named_rule m (field_type_rule info m)
    rule = ap (λ b. member_by info m b (is_in_structure m) (is_of_variant m)) alone ∙ ap (λ b. member_by info m false b (is_of_variant m)) within

-- so the members of a structure that isn't passed over are fields
pub fields_are : (info : Info) → AreGood info → (d : Die) → IsShown info Tag.StructureType d → HasFields info d
fields_are info g d s = by_part (has_part info d) refl
  where
    by_part : (b : Bool) → has_part info d ≡ b → All (IsField info) (if b then [] else children_with is_member info d)
    by_part true e = All-nil (IsField info)
    by_part false e =
        each_child info g.laws is_member d s.is_of (IsField info)
        (λ m c. field_is info g d m (read_child info is_member Tag.StructureType Tag.Member d m s refl c member_is refl) s.tag_is e)

-- the member of a variant
pub variant_member_is : (info : Info) → AreGood info → (v m : Die) → IsRead info v m Tag.Member → what v ≡ Some Tag.Variant → IsNamed info m
variant_member_is info g v m r is =
    named info g m Tag.Member looks r.tag_is
    (ap (λ b. role_if b Role.word (role_if (is_of_variant m) Role.word Role.plain)) within ∙ ap (λ b. role_if b Role.word Role.plain) below) refl
    (named_member m (structure_rule info m) (sym rule ∙ rule_of info g v m Tag.Member r))
  where
    within : is_in_structure m ≡ false
    within = below_structure v m Tag.Variant r.parent is

    below : is_of_variant m ≡ true
    below = ap (has_tag_of is_variant) r.parent ∙ ap (passes is_variant) is

    alone : is_beside_part info m ≡ false
    alone = ap (λ b. b && not (has_no_part info (parent_of m))) within

    looks : IsLookedAt info m
    looks = looked_at_member info v m r alone

    rule : member_rule info m ≡ named_rule m (structure_rule info m)
    rule =
        ap (λ b. member_by info m b (is_in_structure m) (is_of_variant m)) alone ∙ ap (λ b. member_by info m false b (is_of_variant m)) within
        ∙ ap (λ b. member_by info m false false b) below

-- the tag of a variant part
pub tag_is_placed : (info : Info) → AreGood info → (part m : Die) → IsRead info part m Tag.Member → what part ≡ Some Tag.VariantPart → IsPlaced m
tag_is_placed info g part m r is = g.unbroken.sizes m looks at_data_member_location refl (ap (row_class at_data_member_location) r.tag_is)
  where
    looks : IsLookedAt info m
    looks = looked_at_member info part m r (ap (λ b. b && not (has_no_part info (parent_of m))) (below_structure part m Tag.VariantPart r.parent is))

-- a param of a structure that isn't in one
param_named : (info : Info) → AreGood info → (d p : Die) → IsRead info d p Tag.TemplateTypeParameter → what d ≡ Some Tag.StructureType → is_inner_structure d ≡ false → IsNamed info p
param_named info g d p r is outer =
    named info g p Tag.TemplateTypeParameter (looked_at info d p Tag.TemplateTypeParameter r refl refl) r.tag_is (ap (λ b. role_if b Role.word Role.plain) param) refl
    (first_needed at_name [] p.entry (lower_first (needs (at_name ∷ []) p.entry) (lower (typed_rule info p) None) (sym (ap (λ b. if b then lowest (needs (at_name ∷ []) p.entry ∷ typed_rule info p ∷ []) else None) param) ∙ rule_of info g d p Tag.TemplateTypeParameter r)))
  where
    param : is_param p ≡ true
    param =
        ap (λ b. b && outer_structure (parent_of p)) (below_structure d p Tag.StructureType r.parent is)
        ∙ ap outer_structure r.parent ∙ ap not outer

pub params_are : (info : Info) → AreGood info → (d : Die) → IsShown info Tag.StructureType d → is_inner_structure d ≡ false → HasParams info d
params_are info g d s outer =
    each_child info g.laws is_param_tag d s.is_of (IsNamed info)
    (λ p c. param_named info g d p (read_child info is_param_tag Tag.StructureType Tag.TemplateTypeParameter d p s refl c param_is refl) s.tag_is outer)

-- the enumerators of an enumeration
case_named : (info : Info) → AreGood info → (d c : Die) → IsRead info d c Tag.Enumerator → IsNamed info c
case_named info g d c r =
    named info g c Tag.Enumerator (looked_at info d c Tag.Enumerator r refl refl) r.tag_is refl refl
    (first_needed at_name (at_const_value ∷ []) c.entry (rule_of info g d c Tag.Enumerator r))

pub cases_are : (info : Info) → AreGood info → (d : Die) → IsShown info Tag.EnumerationType d → HasCases info d
cases_are info g d s =
    each_child info g.laws is_enumerator d s.is_of (IsNamed info)
    (λ c k. case_named info g d c (read_child info is_enumerator Tag.EnumerationType Tag.Enumerator d c s refl k enumerator_is refl))

abbrev Fits : Die → Type 0
Fits r = unwrap_or (number_of at_count r.entry) 0 < 2 ^ 64

-- the subrange of an array
count_fits : (info : Info) → AreGood info → (d r : Die) → IsRead info d r Tag.SubrangeType → unwrap_or (number_of at_count r.entry) 0 < 2 ^ 64
count_fits info g d r x = g.unbroken.counts r (looked_at info d r Tag.SubrangeType x refl refl) at_count refl (ap (row_class at_count) x.tag_is)

pub count_is : (info : Info) → AreGood info → (d : Die) → IsShown info Tag.ArrayType d → unwrap_or (count_of info d) 0 < 2 ^ 64
count_is info g d s =
    by_list (children_with is_subrange info d)
    (each_child info g.laws is_subrange d s.is_of Fits (λ r c. count_fits info g d r (read_child info is_subrange Tag.ArrayType Tag.SubrangeType d r s refl c subrange_is refl)))
  where
    by_list : (l : List Die) → All Fits l → unwrap_or (one_count l) 0 < 2 ^ 64
    by_list [] all = omega arith
    by_list (r ∷ []) all = All-head Fits r [] all
    by_list (r ∷ q ∷ l) all = omega arith

or_first : (a b : Bool) → (a || b) ≡ false → a ≡ false
or_first false b h = refl
or_first true b h = absurd (cc)

or_second : (a b : Bool) → (a || b) ≡ false → b ≡ false
or_second false b h = h
or_second true b h = absurd (cc)

or_true : (a : Bool) → (a || true) ≡ true
or_true true = refl
or_true false = refl

-- an entry that isn't passed over is read
pub shown_is_read : (info : Info) (d : Die) → is_passed info d ≡ false → is_read info d ≡ true
shown_is_read info d h =
    ap (λ b. not (b || is_out_of_place d (what d)) && (has at_abstract_origin d.entry || not (is_unnamed_variable info d))) hidden
    ∙ ap (λ b. not b && (has at_abstract_origin d.entry || not (is_unnamed_variable info d))) placed
    ∙ ap (λ b. has at_abstract_origin d.entry || not b) has_name ∙ or_true (has at_abstract_origin d.entry)
  where
    hidden : is_hidden info d ≡ false
    hidden = or_first (is_hidden info d) (is_out_of_place d (what d) || is_unnamed_variable info d) h

    rest : (is_out_of_place d (what d) || is_unnamed_variable info d) ≡ false
    rest = or_second (is_hidden info d) (is_out_of_place d (what d) || is_unnamed_variable info d) h

    placed : is_out_of_place d (what d) ≡ false
    placed = or_first (is_out_of_place d (what d)) (is_unnamed_variable info d) rest

    has_name : is_unnamed_variable info d ≡ false
    has_name = or_second (is_out_of_place d (what d)) (is_unnamed_variable info d) rest

-- a structure or a union
pub sized : (info : Info) → AreGood info → (d : Die) (tag : Tag) → IsShown info tag d → is_member tag ≡ false → is_function tag ≡ false
    → row_class at_byte_size (Some tag) ≡ Some Class.Size → row_class at_alignment (Some tag) ≡ Some Class.Size → IsSized d
sized info g d tag s plain no_function size alignment = record {
  size = g.unbroken.sizes d looks at_byte_size refl (ap (row_class at_byte_size) s.tag_is ∙ size);
  alignment = g.unbroken.sizes d looks at_alignment refl (ap (row_class at_alignment) s.tag_is ∙ alignment);
}
  where
    looks : IsLookedAt info d
    looks = record {
      is_of = s.is_of;
      read = shown_is_read info d s.shown;
      member = no_member (what d) (is_beside_part info d) (ap (passes is_member) s.tag_is ∙ plain);
      no_function = ap (passes is_function) s.tag_is ∙ no_function;
    }
