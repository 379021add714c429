-- What is carried has its parts at the same places: laws 3, 4, 7 and 9.
use Rattle.std.proofs.Common.{◌≡◌, sym, ap, subst, ℕ, ◌+◌, ◌^◌, ◌<◌, ◌≤◌, nat_lt, List, map, length, Option, Some, None, option_map, filter}
use Rattle.layout_set.specs.declared.breach.Item.TheVariants.{Whole, Def, Static, Func as OfFunc}
use Rattle.layout_set.specs.declared.set.Field.{Field}
use Rattle.layout_set.specs.declared.set.Selector.{Selector}
use Rattle.layout_set.specs.declared.set.Selector.TheVariants.{Exact, Span, Only}
use Rattle.layout_set.specs.declared.set.Set.{Set}
use Rattle.layout_set.specs.declared.set.Tag.{Tag}
use Rattle.layout_set.specs.declared.set.TypeDef.{TypeDef}
use Rattle.layout_set.specs.declared.set.TypeDef.TheVariants as defs
use Rattle.layout_set.specs.declared.set.TypeRef.TheVariants.{User}
use Rattle.layout_set.specs.declared.set.Variant.{Variant}
use Rattle.layout_set.specs.FirstBreach.{Holds}
use Rattle.layout_set.specs.Law3.{Law3}
use Rattle.layout_set.specs.Law4.{EndsWithin, FieldsEndWithin, TagEndsWithin, HasPartsWithin, Law4}
use Rattle.layout_set.specs.Law7.{HasPartsApart, Law7}
use Rattle.layout_set.specs.Law9.{LeavesTag, FieldsLeaveTag, VariantsLeaveTag, HasTagAlone, Law9}
use Rattle.layout_set.specs.Overlap.{Apart, AreApart, span_of, spans_of}
use Rattle.layout_set.specs.Sizes.{size}
use Rattle.layout_carried.specs.Carried.{carried_field, carried_variant, carried_tag, carried_type, carried}
use Rattle.layout_carried.proofs.Mapped.{place_of_map, holds_map, all_map_more}
use Rattle.layout_carried.proofs.SameTypes.{same_tag_bytes, same_size}
use Rattle.layout_carried.proofs.SameWalks.{map_map}

module _ (ptr : ℕ) (is : ptr ≡ 8) (types : List TypeDef) where
  abbrev new : List TypeDef
  new = map (carried_type ptr) types

  ends_within : (most : ℕ) (fields : List Field) → FieldsEndWithin ptr types most fields → FieldsEndWithin ptr new most (map (carried_field ptr) fields)
  ends_within most fields all =
      all_map_more (carried_field ptr) (EndsWithin ptr new most) (EndsWithin ptr types most) fields
      (λ f h. subst (λ n. f.off + n ≤ most) (sym (same_size ptr is types f.ty)) h) all

  tag_within : (most : ℕ) (tag : Option Tag) → TagEndsWithin ptr most tag → TagEndsWithin ptr most (option_map (carried_tag ptr) tag)
  tag_within most None h = tt
  tag_within most (Some tag) h = subst (λ n. tag.off + n ≤ most) (sym (same_tag_bytes ptr is tag.prim)) h

  pub parts_within : (t : TypeDef) → HasPartsWithin ptr types t → HasPartsWithin ptr new (carried_type ptr t)
  unfolding HasPartsWithin
  parts_within (defs.Struct name n align params fields) h = ends_within n fields h
  parts_within (defs.Array elem count) h = tt
  parts_within (defs.Thin kind to) h = tt
  parts_within (defs.Slice name kind first) h = tt
  parts_within (defs.Str name kind first) h = tt
  parts_within (defs.Dyn name kind first vtable) h = tt
  parts_within defs.FnPtr h = tt
  parts_within (defs.CLike name tag cases) h = tt
  parts_within (defs.Enum name n align params tag variants) h = (
    tag_within n tag h.0,
    all_map_more (carried_variant ptr) (λ v. FieldsEndWithin ptr new n v.fields) (λ v. FieldsEndWithin ptr types n v.fields) variants
        (λ v all. ends_within n v.fields all) h.1,
  )
  parts_within (defs.Bytes name n align) h = tt

  same_spans : (fields : List Field) → spans_of ptr new (map (carried_field ptr) fields) ≡ spans_of ptr types fields
  same_spans fields =
      ap (filter (λ (s : ℕ × ℕ). nat_lt 0 s.1))
      (map_map (carried_field ptr) (span_of ptr new) (span_of ptr types) (λ f i. (f.off, same_size ptr is types f.ty i)) fields)

  apart : (fields : List Field) → AreApart (spans_of ptr types fields) → AreApart (spans_of ptr new (map (carried_field ptr) fields))
  apart fields h = subst AreApart (sym (same_spans fields)) h

  pub parts_apart : (t : TypeDef) → HasPartsApart ptr types t → HasPartsApart ptr new (carried_type ptr t)
  unfolding HasPartsApart
  parts_apart (defs.Struct name n align params fields) h = apart fields h
  parts_apart (defs.Array elem count) h = subst (λ n. 0 < n) (sym (same_size ptr is types elem)) h
  parts_apart (defs.Thin kind to) h = tt
  parts_apart (defs.Slice name kind first) h = tt
  parts_apart (defs.Str name kind first) h = tt
  parts_apart (defs.Dyn name kind first vtable) h = tt
  parts_apart defs.FnPtr h = tt
  parts_apart (defs.CLike name tag cases) h = tt
  parts_apart (defs.Enum name n align params tag variants) h =
      all_map_more (carried_variant ptr) (λ v. AreApart (spans_of ptr new v.fields)) (λ v. AreApart (spans_of ptr types v.fields)) variants
      (λ v a. apart v.fields a) h
  parts_apart (defs.Bytes name n align) h = tt

  leaves : (tag : Tag) (f : Field) → LeavesTag ptr new (carried_tag ptr tag) (carried_field ptr f) ≡ LeavesTag ptr types tag f
  leaves tag f = λ i. 0 < same_size ptr is types f.ty i → Apart (f.off, same_size ptr is types f.ty i) (tag.off, same_tag_bytes ptr is tag.prim i)

  fields_leave : (tag : Tag) (sel : Selector) (fields : List Field) → FieldsLeaveTag ptr types tag sel fields
      → FieldsLeaveTag ptr new (carried_tag ptr tag) sel (map (carried_field ptr) fields)
  fields_leave tag (Exact number) fields all =
      all_map_more (carried_field ptr) (LeavesTag ptr new (carried_tag ptr tag)) (LeavesTag ptr types tag) fields
      (λ f h. subst (λ A. A) (sym (leaves tag f)) h) all
  fields_leave tag (Span first last) fields h = tt
  fields_leave tag Only fields h = tt

  variants_leave : (tag : Option Tag) (variants : List Variant) → VariantsLeaveTag ptr types tag variants
      → VariantsLeaveTag ptr new (option_map (carried_tag ptr) tag) (map (carried_variant ptr) variants)
  variants_leave None variants h = tt
  variants_leave (Some tag) variants all =
      all_map_more (carried_variant ptr) (λ v. FieldsLeaveTag ptr new (carried_tag ptr tag) v.sel v.fields) (λ v. FieldsLeaveTag ptr types tag v.sel v.fields)
      variants (λ v h. fields_leave tag v.sel v.fields h) all

  pub tag_alone : (t : TypeDef) → HasTagAlone ptr types t → HasTagAlone ptr new (carried_type ptr t)
  unfolding HasTagAlone
  tag_alone (defs.Struct name n align params fields) h = tt
  tag_alone (defs.Array elem count) h = tt
  tag_alone (defs.Thin kind to) h = tt
  tag_alone (defs.Slice name kind first) h = tt
  tag_alone (defs.Str name kind first) h = tt
  tag_alone (defs.Dyn name kind first vtable) h = tt
  tag_alone defs.FnPtr h = tt
  tag_alone (defs.CLike name tag cases) h = tt
  tag_alone (defs.Enum name n align params tag variants) h = variants_leave tag variants h
  tag_alone (defs.Bytes name n align) h = tt

pub law_3 : (set : Set) → set.target.ptr ≡ 8 → Holds set (Law3 set) → Holds (carried set) (Law3 (carried set))
law_3 set eight h Whole is = eight
law_3 set eight h (Def i) is =
    let p = set.target.ptr in
    subst (λ n. n < 2 ^ 31) (sym (same_size p eight set.types (User i))) (h (Def i) (place_of_map (carried_type p) set.types i is))
law_3 set eight h (Static i) is = tt
law_3 set eight h (OfFunc i) is = tt

pub law_4 : (set : Set) → set.target.ptr ≡ 8 → Holds set (Law4 set) → Holds (carried set) (Law4 (carried set))
law_4 set eight h Whole is = tt
law_4 set eight h (Def i) is =
    let p = set.target.ptr in
    let l : i < length set.types = place_of_map (carried_type p) set.types i is in
    holds_map (carried_type p) (HasPartsWithin p (map (carried_type p) set.types)) (HasPartsWithin p set.types) set.types i l
    (parts_within p eight set.types) (h (Def i) l)
law_4 set eight h (Static i) is = tt
law_4 set eight h (OfFunc i) is = tt

pub law_7 : (set : Set) → set.target.ptr ≡ 8 → Holds set (Law7 set) → Holds (carried set) (Law7 (carried set))
law_7 set eight h Whole is = tt
law_7 set eight h (Def i) is =
    let p = set.target.ptr in
    let l : i < length set.types = place_of_map (carried_type p) set.types i is in
    holds_map (carried_type p) (HasPartsApart p (map (carried_type p) set.types)) (HasPartsApart p set.types) set.types i l
    (parts_apart p eight set.types) (h (Def i) l)
law_7 set eight h (Static i) is = tt
law_7 set eight h (OfFunc i) is = tt

pub law_9 : (set : Set) → set.target.ptr ≡ 8 → Holds set (Law9 set) → Holds (carried set) (Law9 (carried set))
law_9 set eight h Whole is = tt
law_9 set eight h (Def i) is =
    let p = set.target.ptr in
    let l : i < length set.types = place_of_map (carried_type p) set.types i is in
    holds_map (carried_type p) (HasTagAlone p (map (carried_type p) set.types)) (HasTagAlone p set.types) set.types i l
    (tag_alone p eight set.types) (h (Def i) l)
law_9 set eight h (Static i) is = tt
law_9 set eight h (OfFunc i) is = tt
