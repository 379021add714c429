-- So many levels are enough: more of them change nothing.
use Rattle.std.proofs.Common.{◌≡◌, ◌∙◌, sym, ap, refl, ℕ, zero, suc, ◌+◌, ◌-◌, ◌*◌, ◌<◌, ◌≤◌, Bool, true, false, cond, List, [], ◌∷◌, map, Option}
use Rattle.std.proofs.Common.{Some, None, arith, nat_lt, ◌&&◌}
use Rattle.std.proofs.lemmas.Bool.{lt-ltb}
use Rattle.std.proofs.lemmas.Option.{slice_get_within}
use Rattle.std.specs.Prelude.{slice_get, ◌↔◌}
use Rattle.std.specs.List.{AllByRecursion}
use Rattle.names.specs.declared.name.PtrKind.{PtrKind}
use Rattle.rust_value.specs.declared.value.Val.{Val}
use Rattle.layout_set.specs.declared.breach.Item.TheVariants.{Def}
use Rattle.layout_set.specs.declared.set.Set.{Set}
use Rattle.layout_set.specs.declared.set.TypeRef.{TypeRef}
use Rattle.layout_set.specs.declared.set.TypeRef.TheVariants.{Prim, User}
use Rattle.layout_set.specs.declared.set.TypeDef.{TypeDef}
use Rattle.layout_set.specs.declared.set.TypeDef.TheVariants as defs
use Rattle.layout_set.specs.declared.set.Field.{Field}
use Rattle.layout_set.specs.declared.set.Variant.{Variant}
use Rattle.layout_values.specs.Choice.{chosen}
use Rattle.layout_values.specs.Contexts.{Items, Context, number_at, tag_number, field_part, element_part, target_part, far_part, shown_of}
use Rattle.layout_set.specs.FirstBreach.{Holds}
use Rattle.layout_values.specs.Images.{levels, IsImageWithin}
use Rattle.layout_set.specs.Law2.{Law2}
use Rattle.names.specs.Pointers.{is_non_null}
use Rattle.layout_values.specs.Pointers.{below, pointee}
use Rattle.layout_set.specs.References.{contents}
use Rattle.layout_values.specs.Walk.{Doing, go_field, go_content, go_far, go_thin, go_slice, go_variant, go_enum, go_def, walk}
use Rattle.layout_set.proofs.SizeLevels.{HasChains, element_chains, shallow_chains}
use Rattle.value_reader.specs.Reads.{reading}
use Rattle.value_reader.proofs.Contained.{each_of, OfFields, of_fields, of_variants, OfSome, of_chosen}
use Rattle.value_reader.proofs.Exact.{exact}

map_all : {A B : Type 0} (P : A → Type 0) (f g : A → B) → ((a : A) → P a → f a ≡ g a) → (xs : List A) → AllByRecursion P xs → map f xs ≡ map g xs
map_all P f g e [] q = refl
map_all P f g e (x ∷ xs) q = rw (e x q.0, map_all P f g e xs q.1) refl

map_same : {A B : Type 0} (f g : A → B) → ((a : A) → f a ≡ g a) → (xs : List A) → map f xs ≡ map g xs
map_same f g e [] = refl
map_same f g e (x ∷ xs) = rw (e x, map_same f g e xs) refl

-- what is followed has less depth
abbrev Less : ℕ → Option ℕ → Type 0
Less d None = Unit {0}
Less d (Some e) = e < d

less_if : (b : Bool) (d : ℕ) → Less d (cond (b && nat_lt 0 d) (Some (d - 1)) None)
less_if false d = tt
less_if true zero = tt
less_if true (suc d) = rw (lt-ltb 0 (suc d) (omega arith)) (omega arith)

less_below : (kind : PtrKind) (d : ℕ) → Less d (below kind d)
less_below kind d = less_if (is_non_null kind) d

-- P holds of each type that is contained
abbrev Inside : (TypeRef → Type 0) → Option TypeDef → Type 0
Inside P None = Unit {0}
Inside P (Some t) = AllByRecursion P (contents t)

-- two walks agree on a type where they agree on what it contains, and on all that stands at less depth
module _ {X : Type 0} (act : Doing X) (c : Context) (new old : ℕ → TypeRef → Items → X) (d : ℕ) (P : TypeRef → Type 0)
    (near : (ty : TypeRef) (p : Items) → P ty → new d ty p ≡ old d ty p) (far : (e : ℕ) (ty : TypeRef) (p : Items) → e < d → new e ty p ≡ old e ty p)
  where
    e_fields : (fields : List Field) (p : Items) → OfFields P fields → map (go_field act c new d p) fields ≡ map (go_field act c old d p) fields
    e_fields fields p h =
        map_all (λ f. P f.ty) (go_field act c new d p) (go_field act c old d p)
        (λ f q. ap (λ x. (f.name, x)) (near f.ty (field_part c p f) q)) fields h

    e_content : (to : TypeRef) (at : ℕ) (o : Option ℕ) → Less d o → go_content act c new to at o ≡ go_content act c old to at o
    e_content to at None h = refl
    e_content to at (Some e) h = ap Some (far e to (target_part c to at) h)

    e_far : (elem : TypeRef) (at len : ℕ) (o : Option ℕ) → Less d o → go_far act c new elem at len o ≡ go_far act c old elem at len o
    e_far elem at len None h = refl
    e_far elem at len (Some e) h =
        ap (λ xs. Some (act.node (act.seq len xs)))
        (map_same (λ i. new e elem (far_part c elem at i)) (λ i. old e elem (far_part c elem at i)) (λ i. far e elem (far_part c elem at i) h) (shown_of c len))

    e_thin : (kind : PtrKind) (to : TypeRef) (o : Option ℕ) → go_thin act c new d kind to o ≡ go_thin act c old d kind to o
    e_thin kind to None = refl
    e_thin kind to (Some at) = rw (e_content to at (below kind d) (less_below kind d)) refl

    e_slice : (kind : PtrKind) (e : Option TypeRef) (o q : Option ℕ) → go_slice act c new d kind e o q ≡ go_slice act c old d kind e o q
    e_slice kind None o q = refl
    e_slice kind (Some elem) None None = refl
    e_slice kind (Some elem) None (Some len) = refl
    e_slice kind (Some elem) (Some at) None = refl
    e_slice kind (Some elem) (Some at) (Some len) = rw (e_far elem at len (below kind d) (less_below kind d)) refl

    e_variant : (p : Items) (o : Option Variant) → OfSome (λ w. OfFields P w.fields) o → go_variant act c new d p o ≡ go_variant act c old d p o
    e_variant p None h = refl
    e_variant p (Some w) h = ap (act.variant w.name) (e_fields w.fields p h)

    e_enum : (variants : List Variant) (p : Items) (o : Option ℕ) → AllByRecursion (λ w. OfFields P w.fields) variants →
        go_enum act c new d variants p o ≡ go_enum act c old d variants p o
    e_enum variants p None h = refl
    e_enum variants p (Some n) h = e_variant p (chosen variants n) (of_chosen (λ w. OfFields P w.fields) variants n h)

    e_def : (def : Option TypeDef) (p : Items) → Inside P def → go_def act c new d def p ≡ go_def act c old d def p
    unfolding go_def
    e_def None p h = refl
    e_def (Some (defs.Struct name bytes align params fields)) p h = ap act.fields (e_fields fields p (of_fields P fields h))
    e_def (Some (defs.Array elem count)) p h =
        ap (act.seq count)
        (map_same (λ i. new d elem (element_part c elem p i)) (λ i. old d elem (element_part c elem p i)) (λ i. near elem (element_part c elem p i) h.0)
        (shown_of c count))
    e_def (Some (defs.Thin kind to)) p h = e_thin kind to (number_at p 0 c.ptr)
    e_def (Some (defs.Slice name kind ptr)) p h = e_slice kind (pointee c.types ptr) (number_at p 0 c.ptr) (number_at p c.ptr c.ptr)
    e_def (Some (defs.Str name kind ptr)) p h = refl
    e_def (Some (defs.Dyn name kind ptr vtable)) p h = refl
    e_def (Some defs.FnPtr) p h = refl
    e_def (Some (defs.CLike name tag cases)) p h = refl
    e_def (Some (defs.Enum name bytes align params tag variants)) p h = e_enum variants p (tag_number c.ptr tag p) (of_variants P variants h)
    e_def (Some (defs.Bytes name bytes align)) p h = refl

-- what a type contains begins shorter chains
inside : (types : List TypeDef) (i n : ℕ) (o : Option TypeDef) → slice_get types i ≡ o → HasChains types (suc n) (User i) → Inside (HasChains types n) o
inside types i n None e all = tt
inside types i n (Some t) e all = each_of (HasChains types n) (contents t) (λ ty within. element_chains types i n t ty e within all)

-- a type of the set begins a chain of one type
nothing_inside : (types : List TypeDef) (i : ℕ) (o : Option TypeDef) → slice_get types i ≡ o → HasChains types zero (User i) → Inside (λ ty. ⊥) o
nothing_inside types i None e all = tt
nothing_inside types i (Some t) e all = absurd (let m = all [] (slice_get_within types i t e, (tt, tt)) in let z : ⊥ = omega (arith, m) in z)

-- a reference that is not of the set begins no chain
pub chains : (set : Set) → Holds set (Law2 set) → (ty : TypeRef) → HasChains set.types 256 ty
chains set shallow (Prim prim) = tt
chains set shallow (User i) = λ rest c. shallow_chains set.types i (shallow (Def i) c.0) rest c

module _ {X : Type 0} (act : Doing X) (c : Context) (short : (ty : TypeRef) → HasChains c.types 256 ty) where
  -- two numbers of levels that are enough for a type that begins no longer chain
  same_levels : (k j n d : ℕ) (ty : TypeRef) (p : Items) → HasChains c.types n ty → n + 1 + 257 * d ≤ k → n + 1 + 257 * d ≤ j →
      walk act c k d ty p ≡ walk act c j d ty p
  unfolding walk
  same_levels zero j n d ty p s h g = absurd (omega (arith, h))
  same_levels (suc k) zero n d ty p s h g = absurd (omega (arith, g))
  same_levels (suc k) (suc j) n d (Prim x) p s h g = refl
  same_levels (suc k) (suc j) zero d (User i) p s h g =
      ap act.node (e_def act c (walk act c k) (walk act c j) d (λ ty. ⊥)
      (λ ty q a. absurd a)
      (λ e ty q l. same_levels k j 256 e ty q (short ty) (omega (arith, h, l)) (omega (arith, g, l)))
      (slice_get c.types i) p (nothing_inside c.types i (slice_get c.types i) refl s))
  same_levels (suc k) (suc j) (suc n) d (User i) p s h g =
      ap act.node (e_def act c (walk act c k) (walk act c j) d (HasChains c.types n)
      (λ ty q a. same_levels k j n d ty q a (omega (arith, h)) (omega (arith, g)))
      (λ e ty q l. same_levels k j 256 e ty q (short ty) (omega (arith, h, l)) (omega (arith, g, l)))
      (slice_get c.types i) p (inside c.types i n (slice_get c.types i) refl s))

  pub suffice : (d k : ℕ) (ty : TypeRef) (p : Items) → levels d ≤ k → walk act c k d ty p ≡ walk act c (levels d) d ty p
  suffice d k ty p h = same_levels k (levels d) 256 d ty p (short ty) (omega (arith, h)) (omega arith)

-- the same values have their images
pub images_suffice : (c : Context) → ((ty : TypeRef) → HasChains c.types 256 ty) → (d k : ℕ) (ty : TypeRef) (p : Items) (x : Val) → levels d ≤ k →
    (IsImageWithin c k d ty p x ↔ IsImageWithin c (levels d) d ty p x)
images_suffice c short d k ty p x h = let same = suffice reading c short d k ty p h in (
  λ i. (exact c (levels d)).is_read d ty p x (sym same ∙ (exact c k).read_is d ty p x i),
  λ i. (exact c k).is_read d ty p x (same ∙ (exact c (levels d)).read_is d ty p x i),
)
