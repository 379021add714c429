-- What is looked up in the types that CodeView carries: the same sizes, numbers and choices.
use Rattle.std.proofs.Common.{◌≡◌, ◌∙◌, refl, sym, ap, subst, ℕ, zero, suc, ◌*◌, Bool, true, false, cond, List, [], ◌∷◌, map, option_map, slice_get, Option, Some, None}
use Rattle.layout_set.specs.declared.primitive.Primitive.{Primitive}
use Rattle.layout_set.specs.declared.primitive.Primitive.TheVariants as prim
use Rattle.layout_set.specs.declared.set.Tag.{Tag}
use Rattle.layout_set.specs.declared.set.TypeDef.{TypeDef}
use Rattle.layout_set.specs.declared.set.TypeDef.TheVariants as defs
use Rattle.layout_set.specs.declared.set.TypeRef.{TypeRef}
use Rattle.layout_set.specs.declared.set.TypeRef.TheVariants.{Prim, User}
use Rattle.layout_set.specs.declared.set.Variant.{Variant}
use Rattle.layout_carried.specs.Carried.{unsigned_of, signed_of, carried_prim, carried_tag_prim, carried_ref, carried_variant, carried_tag, carried_type}
use Rattle.layout_values.specs.Choice.{is_chosen_by, chosen}
use Rattle.layout_values.specs.Contexts.{Items, number_at, tag_number}
use Rattle.layout_values.specs.Pointers.{target_of, pointee}
use Rattle.layout_set.specs.Primitives.{prim_bytes}
use Rattle.layout_values.specs.Scalars.{prim_value}
use Rattle.layout_set.specs.Sizes.{size_at, size_by, size}

-- a number of a pointer's size has as many bytes as the pointer
unsigned_bytes : (ptr : ℕ) → ptr ≡ 8 → prim_bytes ptr (unsigned_of ptr) ≡ ptr
unsigned_bytes ptr is = subst (λ n. prim_bytes n (unsigned_of n) ≡ n) (sym is) refl

signed_bytes : (ptr : ℕ) → ptr ≡ 8 → prim_bytes ptr (signed_of ptr) ≡ ptr
signed_bytes ptr is = subst (λ n. prim_bytes n (signed_of n) ≡ n) (sym is) refl

pub same_bytes : (ptr : ℕ) → ptr ≡ 8 → (k : Primitive) → prim_bytes ptr (carried_prim ptr k) ≡ prim_bytes ptr k
same_bytes ptr is k = elim k as (λ k. prim_bytes ptr (carried_prim ptr k) ≡ prim_bytes ptr k) [
  | prim.Usize ↦ unsigned_bytes ptr is
  | prim.Isize ↦ signed_bytes ptr is
  | _ ↦ refl
]

pub same_tag_bytes : (ptr : ℕ) → ptr ≡ 8 → (k : Primitive) → prim_bytes ptr (carried_tag_prim ptr k) ≡ prim_bytes ptr k
same_tag_bytes ptr is k = elim k as (λ k. prim_bytes ptr (carried_tag_prim ptr k) ≡ prim_bytes ptr k) [
  | prim.Usize ↦ unsigned_bytes ptr is
  | prim.Isize ↦ signed_bytes ptr is
  | _ ↦ refl
]

pub same_value : (ptr : ℕ) → ptr ≡ 8 → (k : Primitive) (n : ℕ) → prim_value ptr (carried_prim ptr k) n ≡ prim_value ptr k n
same_value ptr is k n = elim k as (λ k. prim_value ptr (carried_prim ptr k) n ≡ prim_value ptr k n) [
  | prim.Usize ↦ subst (λ p. prim_value p (unsigned_of p) n ≡ prim_value p prim.Usize n) (sym is) refl
  | prim.Isize ↦ subst (λ p. prim_value p (signed_of p) n ≡ prim_value p prim.Isize n) (sym is) refl
  | _ ↦ refl
]

pub get_map : {A B : Type 0} (f : A → B) (xs : List A) (i : ℕ) → slice_get (map f xs) i ≡ option_map f (slice_get xs i)
get_map f [] i = refl
get_map f (x ∷ xs) zero = refl
get_map f (x ∷ xs) (suc i) = get_map f xs i

module _ (ptr : ℕ) (is : ptr ≡ 8) where
  same_size_at : (old new : TypeRef → ℕ) → ((ty : TypeRef) → new (carried_ref ptr ty) ≡ old ty) → (o : Option TypeDef)
      → size_at ptr new (option_map (carried_type ptr) o) ≡ size_at ptr old o
  same_size_at old new same None = refl
  same_size_at old new same (Some (defs.Struct name n align params fields)) = refl
  same_size_at old new same (Some (defs.Array elem count)) = ap (λ n. n * count) (same elem)
  same_size_at old new same (Some (defs.Thin kind to)) = refl
  same_size_at old new same (Some (defs.Slice name kind first)) = refl
  same_size_at old new same (Some (defs.Str name kind first)) = refl
  same_size_at old new same (Some (defs.Dyn name kind first vtable)) = refl
  same_size_at old new same (Some defs.FnPtr) = refl
  same_size_at old new same (Some (defs.CLike name tag cases)) = same_tag_bytes ptr is tag
  same_size_at old new same (Some (defs.Enum name n align params tag variants)) = refl
  same_size_at old new same (Some (defs.Bytes name n align)) = refl

  same_size_by : (most : ℕ) (types : List TypeDef) (ty : TypeRef)
      → size_by ptr most (map (carried_type ptr) types) (carried_ref ptr ty) ≡ size_by ptr most types ty
  unfolding size_by
  same_size_by zero types ty = refl
  same_size_by (suc most) types (Prim k) = same_bytes ptr is k
  same_size_by (suc most) types (User i) =
      ap (size_at ptr (size_by ptr most (map (carried_type ptr) types))) (get_map (carried_type ptr) types i)
      ∙ same_size_at (size_by ptr most types) (size_by ptr most (map (carried_type ptr) types)) (same_size_by most types) (slice_get types i)

  pub same_size : (types : List TypeDef) (ty : TypeRef) → size ptr (map (carried_type ptr) types) (carried_ref ptr ty) ≡ size ptr types ty
  unfolding size
  same_size types ty = same_size_by 257 types ty

same_target : (ptr : ℕ) (o : Option TypeDef) → target_of (option_map (carried_type ptr) o) ≡ option_map (carried_ref ptr) (target_of o)
same_target ptr None = refl
same_target ptr (Some (defs.Struct name n align params fields)) = refl
same_target ptr (Some (defs.Array elem count)) = refl
same_target ptr (Some (defs.Thin kind to)) = refl
same_target ptr (Some (defs.Slice name kind first)) = refl
same_target ptr (Some (defs.Str name kind first)) = refl
same_target ptr (Some (defs.Dyn name kind first vtable)) = refl
same_target ptr (Some defs.FnPtr) = refl
same_target ptr (Some (defs.CLike name tag cases)) = refl
same_target ptr (Some (defs.Enum name n align params tag variants)) = refl
same_target ptr (Some (defs.Bytes name n align)) = refl

pub same_pointee : (ptr : ℕ) (types : List TypeDef) (to : TypeRef)
    → pointee (map (carried_type ptr) types) (carried_ref ptr to) ≡ option_map (carried_ref ptr) (pointee types to)
same_pointee ptr types (Prim k) = refl
same_pointee ptr types (User i) = ap target_of (get_map (carried_type ptr) types i) ∙ same_target ptr (slice_get types i)

choose : (ptr : ℕ) (b : Bool) (w : Variant) (new old : Option Variant) → new ≡ option_map (carried_variant ptr) old
    → cond b (Some (carried_variant ptr w)) new ≡ option_map (carried_variant ptr) (cond b (Some w) old)
choose ptr true w new old e = refl
choose ptr false w new old e = e

pub same_chosen : (ptr : ℕ) (variants : List Variant) (n : ℕ)
    → chosen (map (carried_variant ptr) variants) n ≡ option_map (carried_variant ptr) (chosen variants n)
same_chosen ptr [] n = refl
same_chosen ptr (w ∷ variants) n =
    choose ptr (is_chosen_by n w) w (chosen (map (carried_variant ptr) variants) n) (chosen variants n) (same_chosen ptr variants n)

pub same_tag : (ptr : ℕ) → ptr ≡ 8 → (tag : Option Tag) (p : Items) → tag_number ptr (option_map (carried_tag ptr) tag) p ≡ tag_number ptr tag p
same_tag ptr is None p = refl
same_tag ptr is (Some tag) p = ap (number_at p tag.off) (same_tag_bytes ptr is tag.prim)
