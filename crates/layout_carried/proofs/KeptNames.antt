-- What is carried keeps its names, and derived names are no longer than they were: law 10.
use Rattle.std.proofs.Common.{◌≡◌, ◌∙◌, refl, sym, ap, subst, ℕ, ◌+◌, ◌<◌, ◌≤◌, List, map, length, get_or, slice_get, Some, option_map, IfSome, arith}
use Rattle.std.proofs.lemmas.List.{get_or-map}
use Rattle.names.specs.declared.name.Name.{Name}
use Rattle.names.specs.declared.name.Name.TheVariants.{Array as ArrayName}
use Rattle.names.specs.declared.name.PtrKind.{PtrKind}
use Rattle.type_names.specs.CvText.{cv_text, ends_closed}
use Rattle.type_names.specs.RustText.{rust_text}
use Rattle.layout_set.specs.declared.breach.Item.TheVariants.{Whole, Def, Static, Func as OfFunc}
use Rattle.layout_set.specs.declared.primitive.Primitive.{Primitive}
use Rattle.layout_set.specs.declared.primitive.Primitive.TheVariants as prim
use Rattle.layout_set.specs.declared.set.Set.{Set}
use Rattle.layout_set.specs.declared.set.TypeDef.{TypeDef}
use Rattle.layout_set.specs.declared.set.TypeDef.TheVariants as defs
use Rattle.layout_set.specs.declared.set.TypeRef.{TypeRef}
use Rattle.layout_set.specs.declared.set.TypeRef.TheVariants.{Prim, User}
use Rattle.layout_set.specs.DerivedNames.{prim_name, name_of, own_name, pointer_name, Link, link, Derived, of_prim, of_type, of_link, OwnDerivedName}
use Rattle.layout_set.specs.FirstBreach.{Holds}
use Rattle.layout_set.specs.IsSet.{IsNamed, IsSet}
use Rattle.layout_set.specs.Law10.{IsGoodName, HasOwnShape, HasGoodName, NamedApart, IsNewName, HasDerivedName, HasPathName, IsNamedByPath, Law10}
use Rattle.layout_name_laws.specs.NameLengths.{cv_mark}
use Rattle.layout_name_laws.proofs.CvLinks as in_cv
use Rattle.layout_name_laws.proofs.NameLengths.{some_same, clash}
use Rattle.layout_name_laws.proofs.RustLinks as in_rust
use Rattle.layout_carried.specs.Carried.{unsigned_of, signed_of, carried_prim, carried_ref, carried_type, carried_static, carried_func, carried}
use Rattle.layout_carried.proofs.Mapped.{place_of_map, holds_map, all_map_more}
use Rattle.layout_carried.proofs.SameTypes.{get_map}

same_name : (ptr : ℕ) (t : TypeDef) → name_of (carried_type ptr t) ≡ name_of t
same_name ptr (defs.Struct name n align params fields) = refl
same_name ptr (defs.Array elem count) = refl
same_name ptr (defs.Thin kind to) = refl
same_name ptr (defs.Slice name kind first) = refl
same_name ptr (defs.Str name kind first) = refl
same_name ptr (defs.Dyn name kind first vtable) = refl
same_name ptr defs.FnPtr = refl
same_name ptr (defs.CLike name tag cases) = refl
same_name ptr (defs.Enum name n align params tag variants) = refl
same_name ptr (defs.Bytes name n align) = refl

same_own : (ptr : ℕ) (t : TypeDef) → own_name (carried_type ptr t) ≡ own_name t
same_own ptr (defs.Struct name n align params fields) = refl
same_own ptr (defs.Array elem count) = refl
same_own ptr (defs.Thin kind to) = refl
same_own ptr (defs.Slice name kind first) = refl
same_own ptr (defs.Str name kind first) = refl
same_own ptr (defs.Dyn name kind first vtable) = refl
same_own ptr defs.FnPtr = refl
same_own ptr (defs.CLike name tag cases) = refl
same_own ptr (defs.Enum name n align params tag variants) = refl
same_own ptr (defs.Bytes name n align) = refl

own_shape : (ptr : ℕ) (t : TypeDef) → HasOwnShape t → HasOwnShape (carried_type ptr t)
unfolding HasOwnShape
own_shape ptr (defs.Struct name n align params fields) h = h
own_shape ptr (defs.Array elem count) h = tt
own_shape ptr (defs.Thin kind to) h = tt
own_shape ptr (defs.Slice name kind first) h = h
own_shape ptr (defs.Str name kind first) h = h
own_shape ptr (defs.Dyn name kind first vtable) h = h
own_shape ptr defs.FnPtr h = tt
own_shape ptr (defs.CLike name tag cases) h = h
own_shape ptr (defs.Enum name n align params tag variants) h = h
own_shape ptr (defs.Bytes name n align) h = h

good_name : (ptr : ℕ) (t : TypeDef) → HasGoodName t → HasGoodName (carried_type ptr t)
unfolding HasGoodName
good_name ptr t h = (subst (λ o. IfSome o IsGoodName) (sym (same_name ptr t)) h.0, own_shape ptr t h.1)

module _ (ptr : ℕ) (types : List TypeDef) where
  name_at : (i : ℕ) (d : TypeDef) → i < length types → name_of (get_or (map (carried_type ptr) types) i d) ≡ name_of (get_or types i d)
  name_at i d h = ap name_of (get_or-map (carried_type ptr) types i d d h) ∙ same_name ptr (get_or types i d)

  new_name : (i : ℕ) → i < length types → IsNewName types i → IsNewName (map (carried_type ptr) types) i
  unfolding IsNewName
  new_name i l h = λ j a b less.
      let k : j < length types = omega (arith, l, less) in
      subst (λ o. NamedApart o (name_of (get_or (map (carried_type ptr) types) i b))) (sym (name_at j a k))
      (subst (λ o. NamedApart (name_of (get_or types j a)) o) (sym (name_at i b l)) (h j a b less))

-- The new name is no longer than the old in either spelling, and ends as it does.
record Shorter (new old : Name) : Type 0 where
  rust : length (rust_text new) ≤ length (rust_text old)
  cv : length (cv_text new) ≤ length (cv_text old)
  closed : ends_closed (cv_text new) ≡ ends_closed (cv_text old)

unchanged : (name : Name) → Shorter name name
unchanged name = record { rust = omega arith; cv = omega arith; closed = refl }

-- the name of one primitive in place of another's
in_place : (new old : Primitive) → in_rust.prim_bytes_of new ≤ in_rust.prim_bytes_of old → in_cv.prim_bytes_of new ≤ in_cv.prim_bytes_of old
    → in_cv.is_unit new ≡ in_cv.is_unit old → Shorter (prim_name new) (prim_name old)
in_place new old rust cv unit =
    let a = in_rust.prim_lens new in
    let b = in_rust.prim_lens old in
    let c = in_cv.prim_lens new in
    let d = in_cv.prim_lens old in
    record {
      rust = omega (arith, a, b, rust);
      cv = omega (arith, c, d, cv);
      closed = in_cv.prim_closes new ∙ unit ∙ sym (in_cv.prim_closes old);
    }

shorter_prim : (ptr : ℕ) → ptr ≡ 8 → (k : Primitive) → Shorter (prim_name (carried_prim ptr k)) (prim_name k)
shorter_prim ptr is k = elim k as (λ k. Shorter (prim_name (carried_prim ptr k)) (prim_name k)) [
  | prim.Usize ↦ subst (λ p. Shorter (prim_name (unsigned_of p)) (prim_name prim.Usize)) (sym is)
      (in_place prim.U64 prim.Usize (omega arith) (omega arith) refl)
  | prim.Isize ↦ subst (λ p. Shorter (prim_name (signed_of p)) (prim_name prim.Isize)) (sym is)
      (in_place prim.I64 prim.Isize (omega arith) (omega arith) refl)
  | prim.Unit ↦ unchanged (prim_name prim.Unit)
  | prim.Bool ↦ unchanged (prim_name prim.Bool)
  | prim.Char ↦ unchanged (prim_name prim.Char)
  | prim.I8 ↦ unchanged (prim_name prim.I8)
  | prim.I16 ↦ unchanged (prim_name prim.I16)
  | prim.I32 ↦ unchanged (prim_name prim.I32)
  | prim.I64 ↦ unchanged (prim_name prim.I64)
  | prim.I128 ↦ unchanged (prim_name prim.I128)
  | prim.U8 ↦ unchanged (prim_name prim.U8)
  | prim.U16 ↦ unchanged (prim_name prim.U16)
  | prim.U32 ↦ unchanged (prim_name prim.U32)
  | prim.U64 ↦ unchanged (prim_name prim.U64)
  | prim.U128 ↦ unchanged (prim_name prim.U128)
  | prim.F32 ↦ unchanged (prim_name prim.F32)
  | prim.F64 ↦ unchanged (prim_name prim.F64)
]

shorter_pointer : (kind : PtrKind) (new old : Name) → Shorter new old → Shorter (pointer_name kind new) (pointer_name kind old)
shorter_pointer kind new old h =
    let a = in_rust.pointer_len kind new in
    let b = in_rust.pointer_len kind old in
    let c : length (cv_text (pointer_name kind new)) ≡ cv_mark (ends_closed (cv_text old)) kind + length (cv_text new) =
    in_cv.pointer_len kind new ∙ ap (λ e. cv_mark e kind + length (cv_text new)) h.closed in
    let d = in_cv.pointer_len kind old in
    let rust = h.rust in
    let cv = h.cv in
    record {
      rust = omega (arith, a, b, rust);
      cv = omega (arith, c, d, cv);
      closed = in_cv.pointer_closes kind new ∙ sym (in_cv.pointer_closes kind old);
    }

shorter_array : (count : ℕ) (new old : Name) → Shorter new old → Shorter (ArrayName new count) (ArrayName old count)
shorter_array count new old h =
    let a = in_rust.array_len new count in
    let b = in_rust.array_len old count in
    let c = in_cv.array_len new count in
    let d = in_cv.array_len old count in
    let rust = h.rust in
    let cv = h.cv in
    record {
      rust = omega (arith, a, b, rust);
      cv = omega (arith, c, d, cv);
      closed = in_cv.array_closes new count ∙ sym (in_cv.array_closes old count);
    }

-- what is referred to has a derived name that is no longer
record HasShorter (ptr : ℕ) (types : List TypeDef) (ty : TypeRef) (old : Name) : Type 0 where
  name : Name
  derived : Derived (map (carried_type ptr) types) (carried_ref ptr ty) name
  shorter : Shorter name old

module _ (ptr : ℕ) (types : List TypeDef) where
  at_new : (i : ℕ) (t : TypeDef) → slice_get types i ≡ Some t → slice_get (map (carried_type ptr) types) i ≡ Some (carried_type ptr t)
  at_new i t at = get_map (carried_type ptr) types i ∙ ap (option_map (carried_type ptr)) at

  abbrev array_link : TypeRef → ℕ → Link
  array_link elem count = record { to = elem; over = λ name. ArrayName name count }

  abbrev thin_link : PtrKind → TypeRef → Link
  thin_link kind to = record { to = to; over = pointer_name kind }

  -- one over a shorter name
  over : (i : ℕ) (t : TypeDef) (l : Link) (old : Name) → slice_get types i ≡ Some t → link t ≡ Some l → HasShorter ptr types l.to old
      → HasShorter ptr types (User i) (l.over old)
  over i (defs.Array elem count) l old at is =
      subst (λ (k : Link). HasShorter ptr types k.to old → HasShorter ptr types (User i) (k.over old)) (some_same (array_link elem count) l is)
      (λ h. record {
        name = ArrayName h.name count;
        derived = of_link i (defs.Array (carried_ref ptr elem) count) (array_link (carried_ref ptr elem) count) h.name
            (at_new i (defs.Array elem count) at) refl h.derived;
        shorter = shorter_array count h.name old h.shorter;
      })
  over i (defs.Thin kind to) l old at is =
      subst (λ (k : Link). HasShorter ptr types k.to old → HasShorter ptr types (User i) (k.over old)) (some_same (thin_link kind to) l is)
      (λ h. record {
        name = pointer_name kind h.name;
        derived = of_link i (defs.Thin kind (carried_ref ptr to)) (thin_link kind (carried_ref ptr to)) h.name
            (at_new i (defs.Thin kind to) at) refl h.derived;
        shorter = shorter_pointer kind h.name old h.shorter;
      })
  over i (defs.Struct name n align params fields) l old at is = clash l is
  over i (defs.Slice name kind first) l old at is = clash l is
  over i (defs.Str name kind first) l old at is = clash l is
  over i (defs.Dyn name kind first vtable) l old at is = clash l is
  over i defs.FnPtr l old at is = clash l is
  over i (defs.CLike name tag cases) l old at is = clash l is
  over i (defs.Enum name n align params tag variants) l old at is = clash l is
  over i (defs.Bytes name n align) l old at is = clash l is

has_shorter : (ptr : ℕ) → ptr ≡ 8 → (types : List TypeDef) (ty : TypeRef) (old : Name) → Derived types ty old → HasShorter ptr types ty old
has_shorter ptr eight types _ _ (of_prim k) = record {
  name = prim_name (carried_prim ptr k);
  derived = of_prim (carried_prim ptr k);
  shorter = shorter_prim ptr eight k;
}
has_shorter ptr eight types _ _ (of_type i t old at is) = record {
  name = old;
  derived = of_type i (carried_type ptr t) old (at_new ptr types i t at) (same_own ptr t ∙ is);
  shorter = unchanged old;
}
has_shorter ptr eight types _ _ (of_link i t l old at is inner) = over ptr types i t l old at is (has_shorter ptr eight types l.to old inner)

own_derived : (ptr : ℕ) → ptr ≡ 8 → (types : List TypeDef) (i : ℕ) (t : TypeDef) → OwnDerivedName types i t
    → OwnDerivedName (map (carried_type ptr) types) i (carried_type ptr t)
own_derived ptr eight types i (defs.Struct name n align params fields) h = tt
own_derived ptr eight types i (defs.Array elem count) h = let s = has_shorter ptr eight types (User i) h.0 h.1 in (s.name, s.derived)
own_derived ptr eight types i (defs.Thin kind to) h =
    let s = has_shorter ptr eight types (User i) h.0 h.1.0 in
    let shorter = s.shorter in
    let rust = shorter.rust in
    let cv = shorter.cv in
    let short = h.1.1 in
    let old_rust = short.rust in
    let old_cv = short.cv in
    (s.name, (s.derived, record { rust = omega (arith, rust, old_rust); cv = omega (arith, cv, old_cv) }))
own_derived ptr eight types i (defs.Slice name kind first) h = tt
own_derived ptr eight types i (defs.Str name kind first) h = tt
own_derived ptr eight types i (defs.Dyn name kind first vtable) h = tt
own_derived ptr eight types i defs.FnPtr h = tt
own_derived ptr eight types i (defs.CLike name tag cases) h = tt
own_derived ptr eight types i (defs.Enum name n align params tag variants) h = tt
own_derived ptr eight types i (defs.Bytes name n align) h = tt

derived_name : (ptr : ℕ) → ptr ≡ 8 → (types : List TypeDef) (i : ℕ) → i < length types → HasDerivedName types i
    → HasDerivedName (map (carried_type ptr) types) i
unfolding HasDerivedName
derived_name ptr eight types i l h =
    holds_map (carried_type ptr) (OwnDerivedName (map (carried_type ptr) types) i) (OwnDerivedName types i) types i l (own_derived ptr eight types i) h

pub law_10 : (set : Set) → set.target.ptr ≡ 8 → Holds set (Law10 set) → Holds (carried set) (Law10 (carried set))
law_10 set eight h Whole is = tt
law_10 set eight h (Def i) is =
    let p = set.target.ptr in
    let l : i < length set.types = place_of_map (carried_type p) set.types i is in
    let old = h (Def i) l in (
      (holds_map (carried_type p) HasGoodName HasGoodName set.types i l (good_name p) old.0.0, new_name p set.types i l old.0.1),
      derived_name p eight set.types i l old.1,
    )
law_10 set eight h (Static i) is =
    let p = set.target.ptr in
    let l : i < length set.statics = place_of_map (carried_static p) set.statics i is in
    holds_map (carried_static p) HasPathName HasPathName set.statics i l (λ s n. n) (h (Static i) l)
law_10 set eight h (OfFunc i) is =
    let p = set.target.ptr in
    let l : i < length set.funcs = place_of_map (carried_func p) set.funcs i is in
    holds_map (carried_func p) IsNamedByPath IsNamedByPath set.funcs i l (λ f n. n) (h (OfFunc i) l)

-- the names of what is carried are those of the set
pub named : (set : Set) → IsSet set → IsSet (carried set)
named set h =
    let p = set.target.ptr in
    record {
      types = all_map_more (carried_type p) (λ t. IfSome (name_of t) IsNamed) (λ t. IfSome (name_of t) IsNamed) set.types
          (λ t n. subst (λ o. IfSome o IsNamed) (sym (same_name p t)) n) h.types;
      statics = all_map_more (carried_static p) (λ s. IsNamed s.name) (λ s. IsNamed s.name) set.statics (λ s n. n) h.statics;
      funcs = all_map_more (carried_func p) (λ f. IsNamed f.name) (λ f. IsNamed f.name) set.funcs (λ f n. n) h.funcs;
    }
