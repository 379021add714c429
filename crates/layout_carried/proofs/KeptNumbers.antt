-- What is carried has the same numbers of cases and variants, and tags of the same width: laws 5 and 8.
use Rattle.std.proofs.Common.{◌≡◌, ◌≢◌, ◌∙◌, refl, sym, ap, subst, ℕ, ◌*◌, ◌^◌, ◌<◌, ◌≤◌, ◌↔◌, Bool, true, false, cond, List, [], ◌∷◌, map, length, Option, Some, None, option_map, is_some, IsTrue, IfSome}
use Rattle.std.specs.List.{All, count_by}
use Rattle.std.proofs.lemmas.List.{length-map}
use Rattle.std.proofs.lemmas.List.Elements.{All-weaker}
use Rattle.layout_set.specs.declared.breach.Item.TheVariants.{Whole, Def, Static, Func as OfFunc}
use Rattle.layout_set.specs.declared.primitive.Primitive.{Primitive}
use Rattle.layout_set.specs.declared.primitive.Primitive.TheVariants as prim
use Rattle.layout_set.specs.declared.set.Case.{Case}
use Rattle.layout_set.specs.declared.set.Selector.{Selector}
use Rattle.layout_set.specs.declared.set.Selector.TheVariants.{Exact, Span, Only}
use Rattle.layout_set.specs.declared.set.Set.{Set}
use Rattle.layout_set.specs.declared.set.Tag.{Tag}
use Rattle.layout_set.specs.declared.set.TypeDef.{TypeDef}
use Rattle.layout_set.specs.declared.set.TypeDef.TheVariants as defs
use Rattle.layout_set.specs.declared.set.Variant.{Variant}
use Rattle.layout_set.specs.FirstBreach.{Holds}
use Rattle.layout_set.specs.Law5.{FitsTag, HasFitCases, SelectorFits, IsFitTag, is_span, IsLone, HasFitVariants, HasFitNumbers, Law5}
use Rattle.layout_set.specs.Law8.{exact_number, exact_numbers, FollowsNumbers, SpansFollow, HasGoodNumbers, Law8}
use Rattle.layout_set.specs.Numbers.{AreDistinct}
use Rattle.layout_set.specs.Primitives.{prim_width, is_whole}
use Rattle.layout_carried.specs.Carried.{unsigned_of, signed_of, carried_tag_prim, carried_variant, carried_tag, carried_type, carried}
use Rattle.layout_carried.proofs.Mapped.{place_of_map, holds_map, all_map_more, no_more, at_most, sum_map}
use Rattle.layout_carried.proofs.SameTypes.{same_tag_bytes}

same_some : {X Y : Type 0} (f : X → Y) (o : Option X) → is_some (option_map f o) ≡ is_some o
same_some f None = refl
same_some f (Some x) = refl

abbrev IsNarrow : Primitive → Type 0
IsNarrow k = (k ≢ prim.I128) × (k ≢ prim.U128)

unsigned_is_narrow : IsNarrow prim.U64
unsigned_is_narrow = ((λ (e : prim.U64 ≡ prim.I128). cc), (λ (e : prim.U64 ≡ prim.U128). cc))

signed_is_narrow : IsNarrow prim.I64
signed_is_narrow = ((λ (e : prim.I64 ≡ prim.I128). cc), (λ (e : prim.I64 ≡ prim.U128). cc))

module _ (ptr : ℕ) (is : ptr ≡ 8) where
  same_whole : (k : Primitive) → is_whole (carried_tag_prim ptr k) ≡ is_whole k
  same_whole k = elim k as (λ k. is_whole (carried_tag_prim ptr k) ≡ is_whole k) [
    | prim.Usize ↦ subst (λ p. is_whole (unsigned_of p) ≡ true) (sym is) refl
    | prim.Isize ↦ subst (λ p. is_whole (signed_of p) ≡ true) (sym is) refl
    | _ ↦ refl
  ]

  narrow : (k : Primitive) → IsNarrow k → IsNarrow (carried_tag_prim ptr k)
  narrow k = elim k as (λ k. IsNarrow k → IsNarrow (carried_tag_prim ptr k)) [
    | prim.Usize ↦ λ h. subst (λ p. IsNarrow (unsigned_of p)) (sym is) unsigned_is_narrow
    | prim.Isize ↦ λ h. subst (λ p. IsNarrow (signed_of p)) (sym is) signed_is_narrow
    | prim.I128 ↦ λ h. absurd (h.0 refl)
    | _ ↦ λ h. h
  ]

  same_width : (k : Primitive) → prim_width ptr (carried_tag_prim ptr k) ≡ prim_width ptr k
  same_width k = ap (λ n. 8 * n) (same_tag_bytes ptr is k)

  fits : (k : Primitive) (n : ℕ) → FitsTag ptr k n → FitsTag ptr (carried_tag_prim ptr k) n
  fits k n h = subst (λ w. n < 2 ^ w) (sym (same_width k)) h

  selector_fits : (k : Primitive) (sel : Selector) → SelectorFits ptr k sel → SelectorFits ptr (carried_tag_prim ptr k) sel
  selector_fits k (Exact n) h = fits k n h
  selector_fits k (Span first last) h = (fits k first h.0, fits k last h.1)
  selector_fits k Only h = tt

  fit_tag : (variants : List Variant) (tag : Tag) → IsFitTag ptr variants tag → IsFitTag ptr (map (carried_variant ptr) variants) (carried_tag ptr tag)
  fit_tag variants tag h = (
    subst IsTrue (sym (same_whole tag.prim)) h.0,
    all_map_more (carried_variant ptr) (λ v. SelectorFits ptr (carried_tag_prim ptr tag.prim) v.sel) (λ v. SelectorFits ptr tag.prim v.sel) variants
        (λ v s. selector_fits tag.prim v.sel s) h.1,
  )

  fit_if : (variants : List Variant) (tag : Option Tag) → IfSome tag (IsFitTag ptr variants)
      → IfSome (option_map (carried_tag ptr) tag) (IsFitTag ptr (map (carried_variant ptr) variants))
  fit_if variants None h = h
  fit_if variants (Some tag) h = fit_tag variants tag h

  same_length : (variants : List Variant) → length (map (carried_variant ptr) variants) ≡ length variants
  same_length variants = length-map variants (carried_variant ptr)

  abbrev had : Option Tag → Option Tag
  had tag = option_map (carried_tag ptr) tag

  tag_had : (tag : Option Tag) (b : Bool) → is_some (had tag) ≡ b → is_some tag ≡ b
  tag_had tag b h = sym (same_some (carried_tag ptr) tag) ∙ h

  has_tag : (tag : Option Tag) (b : Bool) → is_some tag ≡ b → is_some (had tag) ≡ b
  has_tag tag b h = same_some (carried_tag ptr) tag ∙ h

  lone : (tag : Option Tag) (variants : List Variant) → IsLone tag variants → IsLone (had tag) (map (carried_variant ptr) variants)
  lone tag variants h = (has_tag tag false h.0, same_length variants ∙ h.1)

  lone_back : (tag : Option Tag) (variants : List Variant) → IsLone (had tag) (map (carried_variant ptr) variants) → IsLone tag variants
  lone_back tag variants h = (tag_had tag false h.0, sym (same_length variants) ∙ h.1)

  abbrev spans : List Variant → ℕ
  spans variants = count_by (λ v. is_span v.sel) variants

  abbrev span : Variant → ℕ
  span v = cond (is_span v.sel) 1 0

  no_more_spans : (variants : List Variant) → spans (map (carried_variant ptr) variants) ≤ spans variants
  no_more_spans variants = sum_map (carried_variant ptr) span span (λ v. no_more (span v) (span v) refl) variants

  fit_variants : (tag : Option Tag) (variants : List Variant) → HasFitVariants ptr tag variants
      → HasFitVariants ptr (had tag) (map (carried_variant ptr) variants)
  fit_variants tag variants h = record {
    fit = fit_if variants tag h.fit;
    only = all_map_more (carried_variant ptr) (λ v. (v.sel ≡ Only) ↔ IsLone (had tag) (map (carried_variant ptr) variants))
        (λ v. (v.sel ≡ Only) ↔ IsLone tag variants) variants (λ v o. (λ e. lone tag variants (o.0 e), λ l. o.1 (lone_back tag variants l))) h.only;
    spans = λ s. at_most (spans (map (carried_variant ptr) variants)) (spans variants) 1 (no_more_spans variants) (h.spans (tag_had tag true s));
    many = λ m. has_tag tag true (h.many (subst (λ n. 2 ≤ n) (same_length variants) m));
    none = λ z. has_tag tag false (h.none (sym (same_length variants) ∙ z));
  }

  fit_cases : (k : Primitive) (cases : List Case) → HasFitCases ptr k cases → HasFitCases ptr (carried_tag_prim ptr k) cases
  fit_cases k cases h = record {
    whole = subst IsTrue (sym (same_whole k)) h.whole;
    narrow = narrow k h.narrow;
    fit = All-weaker (λ (c : Case). FitsTag ptr k c.number) (λ (c : Case). FitsTag ptr (carried_tag_prim ptr k) c.number)
        (λ c n. fits k c.number n) cases h.fit;
  }

  fit_numbers : (t : TypeDef) → HasFitNumbers ptr t → HasFitNumbers ptr (carried_type ptr t)
  unfolding HasFitNumbers
  fit_numbers (defs.Struct name n align params fields) h = tt
  fit_numbers (defs.Array elem count) h = tt
  fit_numbers (defs.Thin kind to) h = tt
  fit_numbers (defs.Slice name kind first) h = tt
  fit_numbers (defs.Str name kind first) h = tt
  fit_numbers (defs.Dyn name kind first vtable) h = tt
  fit_numbers defs.FnPtr h = tt
  fit_numbers (defs.CLike name tag cases) h = fit_cases tag cases h
  fit_numbers (defs.Enum name n align params tag variants) h = fit_variants tag variants h
  fit_numbers (defs.Bytes name n align) h = tt

  same_exact : (variants : List Variant) → exact_numbers (map (carried_variant ptr) variants) ≡ exact_numbers variants
  same_exact [] = refl
  same_exact (v ∷ variants) = rw (same_exact variants) refl

  follows : (tag : Tag) (variants : List Variant) (sel : Selector) → FollowsNumbers (2 ^ prim_width ptr tag.prim) (exact_numbers variants) sel
      → FollowsNumbers (2 ^ prim_width ptr (carried_tag_prim ptr tag.prim)) (exact_numbers (map (carried_variant ptr) variants)) sel
  follows tag variants sel h =
      subst (λ w. FollowsNumbers (2 ^ w) (exact_numbers (map (carried_variant ptr) variants)) sel) (sym (same_width tag.prim))
      (subst (λ ns. FollowsNumbers (2 ^ prim_width ptr tag.prim) ns sel) (sym (same_exact variants)) h)

  spans_follow : (tag : Option Tag) (variants : List Variant) → SpansFollow ptr tag variants → SpansFollow ptr (had tag) (map (carried_variant ptr) variants)
  spans_follow None variants h = tt
  spans_follow (Some tag) variants all =
      all_map_more (carried_variant ptr)
      (λ v. FollowsNumbers (2 ^ prim_width ptr (carried_tag_prim ptr tag.prim)) (exact_numbers (map (carried_variant ptr) variants)) v.sel)
      (λ v. FollowsNumbers (2 ^ prim_width ptr tag.prim) (exact_numbers variants) v.sel)
      variants (λ v h. follows tag variants v.sel h) all

  good_numbers : (t : TypeDef) → HasGoodNumbers ptr t → HasGoodNumbers ptr (carried_type ptr t)
  unfolding HasGoodNumbers
  good_numbers (defs.Struct name n align params fields) h = tt
  good_numbers (defs.Array elem count) h = tt
  good_numbers (defs.Thin kind to) h = tt
  good_numbers (defs.Slice name kind first) h = tt
  good_numbers (defs.Str name kind first) h = tt
  good_numbers (defs.Dyn name kind first vtable) h = tt
  good_numbers defs.FnPtr h = tt
  good_numbers (defs.CLike name tag cases) h = h
  good_numbers (defs.Enum name n align params tag variants) h = (subst AreDistinct (sym (same_exact variants)) h.0, spans_follow tag variants h.1)
  good_numbers (defs.Bytes name n align) h = tt

pub law_5 : (set : Set) → set.target.ptr ≡ 8 → Holds set (Law5 set) → Holds (carried set) (Law5 (carried set))
law_5 set eight h Whole is = tt
law_5 set eight h (Def i) is =
    let p = set.target.ptr in
    let l : i < length set.types = place_of_map (carried_type p) set.types i is in
    holds_map (carried_type p) (HasFitNumbers p) (HasFitNumbers p) set.types i l (fit_numbers p eight) (h (Def i) l)
law_5 set eight h (Static i) is = tt
law_5 set eight h (OfFunc i) is = tt

pub law_8 : (set : Set) → set.target.ptr ≡ 8 → Holds set (Law8 set) → Holds (carried set) (Law8 (carried set))
law_8 set eight h Whole is = tt
law_8 set eight h (Def i) is =
    let p = set.target.ptr in
    let l : i < length set.types = place_of_map (carried_type p) set.types i is in
    holds_map (carried_type p) (HasGoodNumbers p) (HasGoodNumbers p) set.types i l (good_numbers p eight) (h (Def i) l)
law_8 set eight h (Static i) is = tt
law_8 set eight h (OfFunc i) is = tt
