-- Where no chain has more than 256 types, sizes are those of the definition.
use Rattle.std.proofs.Common.{◌≡◌, ℕ, zero, suc, ◌*◌, ◌<◌, ◌≤◌, List, [], ◌∷◌, length, get_or, slice_get, Option, Some, None, refl, sym, ap, ◌∙◌, arith, IsSomeAnd}
use Rattle.std.specs.List.{Contains, HoldsAt}
use Rattle.std.proofs.lemmas.Option.{slice_get_within, get_or_from_slice_get, slice_get-get_or}
use Rattle.std.proofs.lemmas.List.Elements.{at_read}
use Rattle.layout_set.specs.declared.breach.Item.TheVariants.{Def}
use Rattle.layout_set.specs.declared.set.Set.{Set}
use Rattle.layout_set.specs.declared.set.TypeRef.{TypeRef}
use Rattle.layout_set.specs.declared.set.TypeRef.TheVariants.{Prim, User}
use Rattle.layout_set.specs.declared.set.TypeDef.{TypeDef}
use Rattle.layout_set.specs.declared.set.TypeDef.TheVariants.{Struct, Array, Thin, Slice, Str, Dyn, FnPtr, CLike, Enum, Bytes}
use Rattle.layout_set.specs.FirstBreach.{Holds}
use Rattle.layout_set.specs.Law1.{IsWithin}
use Rattle.layout_set.specs.Law2.{IsChain, IsShallow, Law2}
use Rattle.layout_set.specs.References.{contents}
use Rattle.layout_set.specs.Sizes.{def_size, size_at, size_by, size, IsSizeOf}

-- no chain that begins here has more types
abbrev pub HasChains : List TypeDef → ℕ → TypeRef → Type 0
HasChains types k (Prim prim) = Unit {0}
HasChains types k (User i) = (rest : List ℕ) → IsChain types (i ∷ rest) → length (i ∷ rest) ≤ k

-- what a type contains begins shorter chains
pub element_chains : (types : List TypeDef) (i k : ℕ) (t : TypeDef) (ty : TypeRef) → slice_get types i ≡ Some t → Contains (contents t) ty → HasChains types (suc k) (User i) → HasChains types k ty
element_chains types i k t (Prim prim) at within all = tt
element_chains types i k t (User j) at within all = λ rest c.
    let h : i < length types = slice_get_within types i t at in
    let here : HoldsAt (λ t. Contains (contents t) (User j)) types i = at_read types (λ t. Contains (contents t) (User j)) i t h (sym (get_or_from_slice_get types i t t at)) within in
    let m = all (j ∷ rest) (h, (here, c)) in
    let n : length (j ∷ rest) ≤ k = omega (arith, m) in n

element : (types : List TypeDef) (i k : ℕ) (elem : TypeRef) (count : ℕ) → slice_get types i ≡ Some (Array elem count) → HasChains types (suc k) (User i) → HasChains types k elem
element types i k elem count at all = element_chains types i k (Array elem count) elem at (zero, (let z : zero < 1 = omega arith in z), refl) all

-- more levels change nothing
enough : (ptr : ℕ) (types : List TypeDef) (k : ℕ) (ty : TypeRef) → HasChains types k ty → size_by ptr (suc (suc k)) types ty ≡ size_by ptr (suc k) types ty
unfolding size_by
enough ptr types k (Prim prim) all = refl
enough ptr types zero (User i) all = by_get (slice_get types i) refl
  where
    by_get : (o : Option TypeDef) → slice_get types i ≡ o → size_at ptr (size_by ptr (suc zero) types) o ≡ size_at ptr (size_by ptr zero types) o
    by_get None e = refl
    by_get (Some t) e = elim (let m = all [] (slice_get_within types i t e, (tt, tt)) in let z : ⊥ = omega (arith, m) in z) [ ]
enough ptr types (suc k) (User i) all = by_get (slice_get types i) refl (λ elem count e. enough ptr types k elem (element types i k elem count e all))
  where
    by_get : (o : Option TypeDef) → slice_get types i ≡ o → ((elem : TypeRef) (count : ℕ) → slice_get types i ≡ Some (Array elem count) → size_by ptr (suc (suc k)) types elem ≡ size_by ptr (suc k) types elem) → size_at ptr (size_by ptr (suc (suc k)) types) o ≡ size_at ptr (size_by ptr (suc k) types) o
    by_get None e more = refl
    by_get (Some (Struct name n align params fields)) e more = refl
    by_get (Some (Array elem count)) e more = ap (λ s. s * count) (more elem count e)
    by_get (Some (Thin kind to)) e more = refl
    by_get (Some (Slice name kind first)) e more = refl
    by_get (Some (Str name kind first)) e more = refl
    by_get (Some (Dyn name kind first vtable)) e more = refl
    by_get (Some FnPtr) e more = refl
    by_get (Some (CLike name tag cases)) e more = refl
    by_get (Some (Enum name n align params tag variants)) e more = refl
    by_get (Some (Bytes name n align)) e more = refl

pub shallow_chains : (types : List TypeDef) (i : ℕ) → IsShallow types i → HasChains types 256 (User i)
unfolding IsShallow
shallow_chains types i h = h

at_last : (ptr : ℕ) (types : List TypeDef) (i : ℕ) (t : TypeDef) → slice_get types i ≡ Some t → HasChains types 256 (User i) → def_size ptr (size_by ptr 256 types) t ≡ def_size ptr (size ptr types) t
unfolding size
at_last ptr types i (Struct name n align params fields) e all = refl
at_last ptr types i (Array elem count) e all = ap (λ s. s * count) (sym (enough ptr types 255 elem (element types i 255 elem count e all)))
at_last ptr types i (Thin kind to) e all = refl
at_last ptr types i (Slice name kind first) e all = refl
at_last ptr types i (Str name kind first) e all = refl
at_last ptr types i (Dyn name kind first vtable) e all = refl
at_last ptr types i FnPtr e all = refl
at_last ptr types i (CLike name tag cases) e all = refl
at_last ptr types i (Enum name n align params tag variants) e all = refl
at_last ptr types i (Bytes name n align) e all = refl

user_size : (ptr : ℕ) (types : List TypeDef) (i : ℕ) → size ptr types (User i) ≡ size_at ptr (size_by ptr 256 types) (slice_get types i)
unfolding size size_by
user_size ptr types i = refl

within_has : (types : List TypeDef) (i : ℕ) → i < length types → slice_get types i ≡ None → ⊥
within_has types i h e = let f : Some (get_or types i FnPtr) ≡ None = sym (slice_get-get_or types i FnPtr h) ∙ e in cc

-- The size is as the definition says, where no chain is longer.
pub size_is : (set : Set) (ty : TypeRef) → Holds set (Law2 set) → IsWithin (length set.types) ty → IsSizeOf set.target.ptr set.types ty (size set.target.ptr set.types ty)
unfolding size size_by
size_is set (Prim prim) shallow h = refl
size_is set (User i) shallow h = by_get (slice_get set.types i) refl
  where
    by_get : (o : Option TypeDef) → slice_get set.types i ≡ o → IsSomeAnd o (λ t. size set.target.ptr set.types (User i) ≡ def_size set.target.ptr (size set.target.ptr set.types) t)
    by_get None e = elim (within_has set.types i h e) [ ]
    by_get (Some t) e = user_size set.target.ptr set.types i ∙ ap (size_at set.target.ptr (size_by set.target.ptr 256 set.types)) e ∙ at_last set.target.ptr set.types i t e (shallow_chains set.types i (shallow (Def i) h))
