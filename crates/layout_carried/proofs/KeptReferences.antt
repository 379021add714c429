-- What is carried refers to the same types of the set, and each pointer leads on as before: laws 1, 2, 6 and 11.
use Rattle.std.proofs.Common.{◌≡◌, ◌∙◌, refl, sym, ap, subst, ℕ, ◌<◌, List, [], ◌∷◌, ◌++◌, map, length, get_or, slice_get, Option, Some, None, option_map, IsSomeAnd}
use Rattle.std.specs.List.{All, Contains}
use Rattle.std.proofs.lemmas.List.{length-map, get_or-map, map-append}
use Rattle.std.proofs.lemmas.List.Elements.{All-head, All-tail, All-cons, All-nil, All-map, All-append}
use Rattle.layout_set.specs.declared.breach.Item.TheVariants.{Whole, Def, Static, Func as OfFunc}
use Rattle.layout_set.specs.declared.func.Func.{Func}
use Rattle.layout_set.specs.declared.func.Scope.{Scope}
use Rattle.layout_set.specs.declared.func.Var.{Var}
use Rattle.layout_set.specs.declared.primitive.Primitive.TheVariants.{U8}
use Rattle.layout_set.specs.declared.set.Field.{Field}
use Rattle.layout_set.specs.declared.set.Set.{Set}
use Rattle.layout_set.specs.declared.set.TypeDef.{TypeDef}
use Rattle.layout_set.specs.declared.set.TypeDef.TheVariants as defs
use Rattle.layout_set.specs.declared.set.TypeRef.{TypeRef}
use Rattle.layout_set.specs.declared.set.TypeRef.TheVariants.{Prim, User}
use Rattle.layout_set.specs.declared.set.Variant.{Variant}
use Rattle.layout_set.specs.FirstBreach.{Holds}
use Rattle.layout_set.specs.Law1.{IsWithin, RefersWithin, HasTypeWithin, VarWithin, VarsWithin, HasVarsWithin, Law1}
use Rattle.layout_set.specs.Law2.{Leads, IsChain, IsShallow, Law2}
use Rattle.layout_set.specs.Law6.{IsThinTo, RefersToThin, HasThinPointers, Law6}
use Rattle.layout_set.specs.Law11.{IsNameless, StandsBefore, StandsAfterNameless, Law11}
use Rattle.layout_set.specs.References.{param_types, field_types, variant_types, references, contents}
use Rattle.layout_carried.specs.Carried.{carried_ref, carried_field, carried_variant, carried_type, carried_static, carried_var, carried_scope, carried_func, carried}
use Rattle.layout_carried.proofs.Mapped.{place_of_map, holds_map, holds_back, all_map_more, all_of_map, all_before, all_after}
use Rattle.layout_carried.proofs.SameTypes.{get_map}
use Rattle.layout_carried.proofs.SameWalks.{map_map}

-- what is true of each reference of a type is true of each that is carried
module _ (ptr : ℕ) (P Q : TypeRef → Type 0) (more : (ty : TypeRef) → P ty → Q (carried_ref ptr ty)) where
  one : (ty : TypeRef) → All P (ty ∷ []) → All Q (carried_ref ptr ty ∷ [])
  one ty all = All-cons Q (carried_ref ptr ty) [] (more ty (All-head P ty [] all)) (All-nil Q)

  of_fields : (fields : List Field) → All P (field_types fields) → All Q (field_types (map (carried_field ptr) fields))
  of_fields fields all =
      All-map Q (λ (f : Field). f.ty) (map (carried_field ptr) fields)
      (all_map_more (carried_field ptr) (λ f. Q f.ty) (λ f. P f.ty) fields (λ f h. more f.ty h) (all_of_map (λ (f : Field). f.ty) P fields all))

  of_variants : (variants : List Variant) → All P (variant_types variants) → All Q (variant_types (map (carried_variant ptr) variants))
  of_variants [] all = All-nil Q
  of_variants (v ∷ variants) all =
      All-append Q (field_types (map (carried_field ptr) v.fields)) (variant_types (map (carried_variant ptr) variants))
      (of_fields v.fields (all_before P (field_types v.fields) (variant_types variants) all))
      (of_variants variants (all_after P (field_types v.fields) (variant_types variants) all))

  pub of_references : (t : TypeDef) → All P (references t) → All Q (references (carried_type ptr t))
  of_references (defs.Struct name size align params fields) all = of_fields fields (all_after P (param_types params) (field_types fields) all)
  of_references (defs.Array elem count) all = one elem all
  of_references (defs.Thin kind to) all = one to all
  of_references (defs.Slice name kind first) all = one first all
  of_references (defs.Str name kind first) all = one first all
  of_references (defs.Dyn name kind first vtable) all =
      All-cons Q (carried_ref ptr first) (carried_ref ptr vtable ∷ []) (more first (All-head P first (vtable ∷ []) all))
      (one vtable (All-tail P first (vtable ∷ []) all))
  of_references defs.FnPtr all = All-nil Q
  of_references (defs.CLike name tag cases) all = All-nil Q
  of_references (defs.Enum name size align params tag variants) all = of_variants variants (all_after P (param_types params) (variant_types variants) all)
  of_references (defs.Bytes name size align) all = All-nil Q

module _ (ptr m n : ℕ) (same : m ≡ n) where
  within_ref : (ty : TypeRef) → IsWithin m ty → IsWithin n (carried_ref ptr ty)
  within_ref (Prim k) h = tt
  within_ref (User i) h = subst (λ n. i < n) same h

  within_vars : (s : Scope) → VarsWithin m s → VarsWithin n (carried_scope ptr s)
  within_vars s all = all_map_more (carried_var ptr) (VarWithin n) (VarWithin m) s.vars (λ v h. within_ref v.ty h) all

  within_scopes : (f : Func) → HasVarsWithin m f → HasVarsWithin n (carried_func ptr f)
  within_scopes f all = all_map_more (carried_scope ptr) (VarsWithin n) (VarsWithin m) f.scopes within_vars all

same_count : (set : Set) → length set.types ≡ length (map (carried_type set.target.ptr) set.types)
same_count set = sym (length-map set.types (carried_type set.target.ptr))

pub law_1 : (set : Set) → Holds set (Law1 set) → Holds (carried set) (Law1 (carried set))
law_1 set h Whole is = tt
law_1 set h (Def i) is =
    let p = set.target.ptr in
    let old = length set.types in
    let new = length (map (carried_type p) set.types) in
    let l : i < length set.types = place_of_map (carried_type p) set.types i is in
    holds_map (carried_type p) (RefersWithin new) (RefersWithin old) set.types i l
    (λ t all. of_references p (IsWithin old) (IsWithin new) (within_ref p old new (same_count set)) t all) (h (Def i) l)
law_1 set h (Static i) is =
    let p = set.target.ptr in
    let old = length set.types in
    let new = length (map (carried_type p) set.types) in
    let l : i < length set.statics = place_of_map (carried_static p) set.statics i is in
    holds_map (carried_static p) (HasTypeWithin new) (HasTypeWithin old) set.statics i l
    (λ s r. within_ref p old new (same_count set) s.ty r) (h (Static i) l)
law_1 set h (OfFunc i) is =
    let p = set.target.ptr in
    let old = length set.types in
    let new = length (map (carried_type p) set.types) in
    let l : i < length set.funcs = place_of_map (carried_func p) set.funcs i is in
    holds_map (carried_func p) (HasVarsWithin new) (HasVarsWithin old) set.funcs i l (within_scopes p old new (same_count set)) (h (OfFunc i) l)

same_fields : (ptr : ℕ) (fields : List Field) → field_types (map (carried_field ptr) fields) ≡ map (carried_ref ptr) (field_types fields)
same_fields ptr fields =
    map_map (carried_field ptr) (λ f. f.ty) (λ f. carried_ref ptr f.ty) (λ f. refl) fields
    ∙ sym (map_map (λ (f : Field). f.ty) (carried_ref ptr) (λ f. carried_ref ptr f.ty) (λ f. refl) fields)

same_variants : (ptr : ℕ) (variants : List Variant) → variant_types (map (carried_variant ptr) variants) ≡ map (carried_ref ptr) (variant_types variants)
same_variants ptr [] = refl
same_variants ptr (v ∷ variants) =
    ap (λ xs. xs ++ variant_types (map (carried_variant ptr) variants)) (same_fields ptr v.fields)
    ∙ ap (λ xs. map (carried_ref ptr) (field_types v.fields) ++ xs) (same_variants ptr variants)
    ∙ sym (map-append (carried_ref ptr) (field_types v.fields) (variant_types variants))

-- what is contained by value is what was, as it is carried
same_contents : (ptr : ℕ) (t : TypeDef) → contents (carried_type ptr t) ≡ map (carried_ref ptr) (contents t)
same_contents ptr (defs.Struct name size align params fields) = same_fields ptr fields
same_contents ptr (defs.Array elem count) = refl
same_contents ptr (defs.Thin kind to) = refl
same_contents ptr (defs.Slice name kind first) = refl
same_contents ptr (defs.Str name kind first) = refl
same_contents ptr (defs.Dyn name kind first vtable) = refl
same_contents ptr defs.FnPtr = refl
same_contents ptr (defs.CLike name tag cases) = refl
same_contents ptr (defs.Enum name size align params tag variants) = same_variants ptr variants
same_contents ptr (defs.Bytes name size align) = refl

-- a reference to a type of the set was one
user_back : (ptr : ℕ) (ty : TypeRef) (j : ℕ) → carried_ref ptr ty ≡ User j → ty ≡ User j
user_back ptr (Prim k) j e = absurd (let c : ⊥ = cc in c)
user_back ptr (User i) j e = e

contains_back : (ptr : ℕ) (xs : List TypeRef) (j : ℕ) → Contains (map (carried_ref ptr) xs) (User j) → Contains xs (User j)
contains_back ptr xs j h =
    let l : h.0 < length xs = place_of_map (carried_ref ptr) xs h.0 h.1 in
    (h.0, l, user_back ptr (get_or xs h.0 (User j)) j (sym (get_or-map (carried_ref ptr) xs h.0 (User j) (User j) l) ∙ h.2))

module _ (ptr : ℕ) (types : List TypeDef) where
  leads_back : (i : ℕ) (rest : List ℕ) → i < length types → Leads (map (carried_type ptr) types) i rest → Leads types i rest
  leads_back i [] l h = tt
  leads_back i (j ∷ rest) l h = λ d.
      contains_back ptr (contents (get_or types i d)) j
      (subst (λ xs. Contains xs (User j)) (same_contents ptr (get_or types i d))
      (holds_back (carried_type ptr) (λ t. Contains (contents t) (User j)) types i l h d))

  chain_back : (places : List ℕ) → IsChain (map (carried_type ptr) types) places → IsChain types places
  chain_back [] h = tt
  chain_back (i ∷ rest) h =
      let l : i < length types = place_of_map (carried_type ptr) types i h.0 in
      (l, (leads_back i rest l h.1.0, chain_back rest h.1.1))

  shallow : (i : ℕ) → IsShallow types i → IsShallow (map (carried_type ptr) types) i
  unfolding IsShallow
  shallow i h = λ rest c. h rest (chain_back (i ∷ rest) c)

pub law_2 : (set : Set) → Holds set (Law2 set) → Holds (carried set) (Law2 (carried set))
law_2 set h Whole is = tt
law_2 set h (Def i) is = shallow set.target.ptr set.types i (h (Def i) (place_of_map (carried_type set.target.ptr) set.types i is))
law_2 set h (Static i) is = tt
law_2 set h (OfFunc i) is = tt

module _ (ptr : ℕ) (P Q : TypeRef → Type 0) (more : (ty : TypeRef) → P ty → Q (carried_ref ptr ty)) where
  thin_to : (o : Option TypeDef) → IsSomeAnd o (IsThinTo P) → IsSomeAnd (option_map (carried_type ptr) o) (IsThinTo Q)
  thin_to None h = h
  thin_to (Some (defs.Struct name size align params fields)) h = h
  thin_to (Some (defs.Array elem count)) h = h
  thin_to (Some (defs.Thin kind to)) h = more to h
  thin_to (Some (defs.Slice name kind first)) h = h
  thin_to (Some (defs.Str name kind first)) h = h
  thin_to (Some (defs.Dyn name kind first vtable)) h = h
  thin_to (Some defs.FnPtr) h = h
  thin_to (Some (defs.CLike name tag cases)) h = h
  thin_to (Some (defs.Enum name size align params tag variants)) h = h
  thin_to (Some (defs.Bytes name size align)) h = h

  thin_ref : (types : List TypeDef) (ty : TypeRef) → RefersToThin P types ty → RefersToThin Q (map (carried_type ptr) types) (carried_ref ptr ty)
  thin_ref types (Prim k) h = h
  thin_ref types (User i) h = subst (λ o. IsSomeAnd o (IsThinTo Q)) (sym (get_map (carried_type ptr) types i)) (thin_to (slice_get types i) h)

module _ (ptr : ℕ) (types : List TypeDef) where
  abbrev Any : TypeRef → Type 0
  Any ty = Unit {0}

  abbrev Bytes : TypeRef → Type 0
  Bytes ty = ty ≡ Prim U8

  thin : (t : TypeDef) → HasThinPointers types t → HasThinPointers (map (carried_type ptr) types) (carried_type ptr t)
  unfolding HasThinPointers
  thin (defs.Struct name size align params fields) h = tt
  thin (defs.Array elem count) h = tt
  thin (defs.Thin kind to) h = tt
  thin (defs.Slice name kind first) h = thin_ref ptr Any Any (λ ty h. h) types first h
  thin (defs.Str name kind first) h = thin_ref ptr Bytes Bytes (λ ty e. ap (carried_ref ptr) e) types first h
  thin (defs.Dyn name kind first vtable) h = (thin_ref ptr Any Any (λ ty h. h) types first h.0, thin_ref ptr Any Any (λ ty h. h) types vtable h.1)
  thin defs.FnPtr h = tt
  thin (defs.CLike name tag cases) h = tt
  thin (defs.Enum name size align params tag variants) h = tt
  thin (defs.Bytes name size align) h = tt

pub law_6 : (set : Set) → Holds set (Law6 set) → Holds (carried set) (Law6 (carried set))
law_6 set h Whole is = tt
law_6 set h (Def i) is =
    let p = set.target.ptr in
    let l : i < length set.types = place_of_map (carried_type p) set.types i is in
    holds_map (carried_type p) (HasThinPointers (map (carried_type p) set.types)) (HasThinPointers set.types) set.types i l (thin p set.types) (h (Def i) l)
law_6 set h (Static i) is = tt
law_6 set h (OfFunc i) is = tt

nameless_back : (ptr : ℕ) (o : Option TypeDef) → IsSomeAnd (option_map (carried_type ptr) o) IsNameless → IsSomeAnd o IsNameless
nameless_back ptr None h = h
nameless_back ptr (Some (defs.Struct name size align params fields)) h = h
nameless_back ptr (Some (defs.Array elem count)) h = h
nameless_back ptr (Some (defs.Thin kind to)) h = h
nameless_back ptr (Some (defs.Slice name kind first)) h = h
nameless_back ptr (Some (defs.Str name kind first)) h = h
nameless_back ptr (Some (defs.Dyn name kind first vtable)) h = h
nameless_back ptr (Some defs.FnPtr) h = h
nameless_back ptr (Some (defs.CLike name tag cases)) h = h
nameless_back ptr (Some (defs.Enum name size align params tag variants)) h = h
nameless_back ptr (Some (defs.Bytes name size align)) h = h

before : (ptr : ℕ) (types : List TypeDef) (i : ℕ) (ty : TypeRef) → StandsBefore types i ty → StandsBefore (map (carried_type ptr) types) i (carried_ref ptr ty)
before ptr types i (Prim k) h = tt
before ptr types i (User j) h = λ n. h (nameless_back ptr (slice_get types j) (subst (λ o. IsSomeAnd o IsNameless) (get_map (carried_type ptr) types j) n))

pub law_11 : (set : Set) → Holds set (Law11 set) → Holds (carried set) (Law11 (carried set))
law_11 set h Whole is = tt
law_11 set h (Def i) is =
    let p = set.target.ptr in
    let new = map (carried_type p) set.types in
    let l : i < length set.types = place_of_map (carried_type p) set.types i is in
    holds_map (carried_type p) (StandsAfterNameless new i) (StandsAfterNameless set.types i) set.types i l
    (of_references p (StandsBefore set.types i) (StandsBefore new i) (before p set.types i)) (h (Def i) l)
law_11 set h (Static i) is = tt
law_11 set h (OfFunc i) is = tt
