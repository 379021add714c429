-- Each type of a lawful set has a derived name, and its types stand in order.
use Rattle.std.proofs.Common.{◌≡◌, refl, subst, ℕ, length, get_or, slice_get, Some}
use Rattle.std.proofs.lemmas.Option.{slice_get_within, get_or_from_slice_get, slice_get-get_or}
use Rattle.layout_set.specs.declared.breach.Item.TheVariants.{Def}
use Rattle.layout_set.specs.declared.set.Set.{Set}
use Rattle.layout_set.specs.declared.set.TypeDef.{TypeDef}
use Rattle.layout_set.specs.declared.set.TypeDef.TheVariants.{Struct, Array, Thin, Slice, Str, Dyn, FnPtr, CLike, Enum, Bytes}
use Rattle.layout_set.specs.declared.set.TypeRef.{TypeRef}
use Rattle.layout_set.specs.declared.set.TypeRef.TheVariants.{Prim, User}
use Rattle.layout_set.specs.DerivedNames.{prim_name, function_name, of_prim, of_type, OwnDerivedName}
use Rattle.layout_set.specs.FirstBreach.{Holds}
use Rattle.layout_set.specs.Law1.{IsWithin}
use Rattle.layout_set.specs.Law10.{HasDerivedName, Law10}
use Rattle.layout_set.specs.Laws.{IsLawful, sound_laws, further_laws}
use Rattle.layout_derived.specs.DerivedTexts.{HasDerived, StandInOrder}

law_10 : (set : Set) → IsLawful set → Holds set (Law10 set)
unfolding sound_laws further_laws
law_10 set lawful = lawful 10

pub in_order : (set : Set) → IsLawful set → StandInOrder set.types
unfolding sound_laws further_laws
in_order set lawful = λ i l. lawful 11 (Def i) l

-- law 10 at the type at a place
own_derived : (set : Set) (i : ℕ) (t : TypeDef) → IsLawful set → slice_get set.types i ≡ Some t → OwnDerivedName set.types i t
unfolding HasDerivedName
own_derived set i t lawful at =
    subst (OwnDerivedName set.types i) (get_or_from_slice_get set.types i t t at) ((law_10 set lawful (Def i) (slice_get_within set.types i t at)).1 t)

derived_at : (set : Set) (i : ℕ) (t : TypeDef) → IsLawful set → slice_get set.types i ≡ Some t → HasDerived set.types (User i)
derived_at set i (Struct name n align params fields) lawful at = (name, of_type i (Struct name n align params fields) name at refl)
derived_at set i (Array elem count) lawful at = own_derived set i (Array elem count) lawful at
derived_at set i (Thin kind to) lawful at = let h = own_derived set i (Thin kind to) lawful at in (h.0, h.1.0)
derived_at set i (Slice name kind first) lawful at = (name, of_type i (Slice name kind first) name at refl)
derived_at set i (Str name kind first) lawful at = (name, of_type i (Str name kind first) name at refl)
derived_at set i (Dyn name kind first vtable) lawful at = (name, of_type i (Dyn name kind first vtable) name at refl)
derived_at set i FnPtr lawful at = (function_name, of_type i FnPtr function_name at refl)
derived_at set i (CLike name tag cases) lawful at = (name, of_type i (CLike name tag cases) name at refl)
derived_at set i (Enum name n align params tag variants) lawful at = (name, of_type i (Enum name n align params tag variants) name at refl)
derived_at set i (Bytes name n align) lawful at = (name, of_type i (Bytes name n align) name at refl)

-- each type of a lawful set has a derived name
pub has_derived : (set : Set) (ty : TypeRef) → IsLawful set → IsWithin (length set.types) ty → HasDerived set.types ty
has_derived set (Prim prim) lawful h = (prim_name prim, of_prim prim)
has_derived set (User i) lawful h = derived_at set i (get_or set.types i FnPtr) lawful (slice_get-get_or set.types i FnPtr h)
