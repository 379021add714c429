-- The same values have their images with the types that CodeView carries.
use Rattle.std.proofs.Common.{◌≡◌, ◌∙◌, refl, sym, ap, subst, ℕ, zero, suc, ◌+◌, ◌*◌, ◌↔◌, true, List, [], ◌∷◌, map, option_map, slice_get, Option, Some, None}
use Rattle.snapshot_file.specs.Memory.{items_at, sub}
use Rattle.names.specs.declared.name.PtrKind.{PtrKind}
use Rattle.rust_value.specs.declared.value.Val.{Val}
use Rattle.rust_value.specs.declared.value.Val.TheVariants as vals
use Rattle.rust_value.specs.declared.value.Part.{Part}
use Rattle.layout_set.specs.declared.set.Case.{Case}
use Rattle.layout_set.specs.declared.set.Field.{Field}
use Rattle.layout_set.specs.declared.set.Variant.{Variant}
use Rattle.layout_set.specs.declared.set.TypeDef.{TypeDef}
use Rattle.layout_set.specs.declared.set.TypeDef.TheVariants as defs
use Rattle.layout_set.specs.declared.set.TypeRef.{TypeRef}
use Rattle.layout_set.specs.declared.set.TypeRef.TheVariants.{Prim, User}
use Rattle.layout_carried.specs.Carried.{carried_ref, carried_field, carried_variant, carried_type}
use Rattle.layout_values.specs.Choice.{chosen}
use Rattle.layout_values.specs.Contexts.{Items, Context, number_at, case_of, field_part, element_part, target_part, far_part, shown_of}
use Rattle.layout_values.specs.Images.{Paired, AreFields, AreElements, IsContent, IsFar, IsSlicePointer, IsOf, IsLayer, IsImageWithin}
use Rattle.layout_values.specs.Pointers.{may_point, may_span, below, pointee}
use Rattle.layout_carried.proofs.SameTypes.{same_bytes, same_tag_bytes, same_value, get_map, same_size, same_pointee, same_chosen, same_tag}
use Rattle.layout_carried.proofs.SameWalks.{over}

paired_map : {A B C : Type 0} (g : A → B) (R : B → C → Type 0) (S : A → C → Type 0) → ((a : A) (c : C) → R (g a) c ≡ S a c) → (xs : List A) (ys : List C)
    → Paired R (map g xs) ys ≡ Paired S xs ys
paired_map g R S e [] [] = refl
paired_map g R S e [] (y ∷ ys) = refl
paired_map g R S e (x ∷ xs) [] = refl
paired_map g R S e (x ∷ xs) (y ∷ ys) = rw (e x y, paired_map g R S e xs ys) refl

paired_same : {A C : Type 0} (R S : A → C → Type 0) → ((a : A) (c : C) → R a c ≡ S a c) → (xs : List A) (ys : List C) → Paired R xs ys ≡ Paired S xs ys
paired_same R S e [] [] = refl
paired_same R S e [] (y ∷ ys) = refl
paired_same R S e (x ∷ xs) [] = refl
paired_same R S e (x ∷ xs) (y ∷ ys) = rw (e x y, paired_same R S e xs ys) refl

paired_more : {A C : Type 0} (R S : A → C → Type 0) → ((a : A) (c : C) → R a c → S a c) → (xs : List A) (ys : List C) → Paired R xs ys → Paired S xs ys
paired_more R S e [] [] h = tt
paired_more R S e [] (y ∷ ys) h = absurd h
paired_more R S e (x ∷ xs) [] h = absurd h
paired_more R S e (x ∷ xs) (y ∷ ys) h = (e x y h.0, paired_more R S e xs ys h.1)

along : {A B : Type 0} → A ≡ B → A ↔ B
along e = (subst (λ A. A) e, subst (λ A. A) (sym e))

same_Some : {A : Type 0} {a b : A} → Some a ≡ Some b → a ≡ b
same_Some e = cc

-- what an option holds came from what it was made of
from_map : {A B : Type 0} (f : A → B) (o : Option A) (b : B) → option_map f o ≡ Some b → (a : A) × (o ≡ Some a) × (b ≡ f a)
from_map f None b e = absurd (cc)
from_map f (Some a) b e = (a, refl, sym (same_Some e))

-- a level over the types that are carried is one over the types of the set, where parts are asked for the type that is carried
module _ (c : Context) (is : c.ptr ≡ 8) (new : ℕ → TypeRef → Items → Val → Type 0) where
  abbrev at_old : ℕ → TypeRef → Items → Val → Type 0
  at_old d ty p x = new d (carried_ref c.ptr ty) p x

  fields : (d : ℕ) (fs : List Field) (p : Items) (parts : List Part)
      → AreFields (over c) new d (map (carried_field c.ptr) fs) p parts ≡ AreFields c at_old d fs p parts
  fields d fs p parts =
      paired_map (carried_field c.ptr)
      (λ f x. (x.name ≡ f.name) × new d f.ty (field_part (over c) p f) x.val)
      (λ f x. (x.name ≡ f.name) × at_old d f.ty (field_part c p f) x.val)
      (λ f x i. (x.name ≡ f.name) × new d (carried_ref c.ptr f.ty) (sub p f.off (same_size c.ptr is c.types f.ty i)) x.val) fs parts

  elements : (d : ℕ) (elem : TypeRef) (new_part part : ℕ → Items) (count : ℕ) (shown : List Val) → ((i : ℕ) → new_part i ≡ part i)
      → AreElements (over c) new d (carried_ref c.ptr elem) new_part count shown ≡ AreElements c at_old d elem part count shown
  elements d elem new_part part count shown e =
      paired_same (λ i x. new d (carried_ref c.ptr elem) (new_part i) x) (λ i x. at_old d elem (part i) x)
      (λ i x j. new d (carried_ref c.ptr elem) (e i j) x) (shown_of c count) shown

  content : (to : TypeRef) (at : ℕ) (o : Option ℕ) (v : Option Val) → IsContent (over c) new (carried_ref c.ptr to) at o v ≡ IsContent c at_old to at o v
  content to at None v = refl
  content to at (Some e) v = λ i. (x : Val) × (v ≡ Some x) × new e (carried_ref c.ptr to) (items_at c.memory at (same_size c.ptr is c.types to i)) x

  far : (elem : TypeRef) (at len : ℕ) (o : Option ℕ) (v : Option Val) → IsFar (over c) new (carried_ref c.ptr elem) at len o v ≡ IsFar c at_old elem at len o v
  far elem at len None v = refl
  far elem at len (Some e) v = λ i. (shown : List Val) × (v ≡ Some (vals.Seq len shown)) ×
      elements e elem (far_part (over c) (carried_ref c.ptr elem) at) (far_part c elem at) len shown
      (λ j. ap (λ n. items_at c.memory (at + j * n) n) (same_size c.ptr is c.types elem)) i

  slice : (d : ℕ) (kind : PtrKind) (elem : Option TypeRef) (p : Items) (x : Val)
      → IsSlicePointer (over c) new d kind (option_map (carried_ref c.ptr) elem) p x ≡ IsSlicePointer c at_old d kind elem p x
  slice d kind None p x = refl
  slice d kind (Some elem) p x = λ i.
      (at : ℕ) × (number_at p 0 c.ptr ≡ Some at) × (len : ℕ) × (number_at p c.ptr c.ptr ≡ Some len)
      × (may_span c.ptr kind (same_size c.ptr is c.types elem i) at len ≡ true)
      × (v : Option Val) × (x ≡ vals.Slice kind at len v) × far elem at len (below kind d) v i

  def : (d : ℕ) (o : Option TypeDef) (p : Items) (x : Val) → IsOf (over c) new d (option_map (carried_type c.ptr) o) p x ↔ IsOf c at_old d o p x
  def d None p x = along refl
  def d (Some (defs.Struct name bytes align params fs)) p x = along (λ i. (parts : List Part) × (x ≡ vals.Fields parts) × fields d fs p parts i)
  def d (Some (defs.Array elem count)) p x = along (λ i. (shown : List Val) × (x ≡ vals.Seq count shown) ×
      elements d elem (element_part (over c) (carried_ref c.ptr elem) p) (element_part c elem p) count shown
      (λ j. ap (λ n. sub p (j * n) n) (same_size c.ptr is c.types elem)) i)
  def d (Some (defs.Thin kind to)) p x = along (λ i.
      (at : ℕ) × (number_at p 0 c.ptr ≡ Some at) × (may_point kind at ≡ true)
      × (v : Option Val) × (x ≡ vals.Pointer kind at v) × content to at (below kind d) v i)
  def d (Some (defs.Slice name kind first)) p x =
      along (ap (λ o. IsSlicePointer (over c) new d kind o p x) (same_pointee c.ptr c.types first) ∙ slice d kind (pointee c.types first) p x)
  def d (Some (defs.Str name kind first)) p x = along refl
  def d (Some (defs.Dyn name kind first vtable)) p x = along refl
  def d (Some defs.FnPtr) p x = along refl
  def d (Some (defs.CLike name tag cases)) p x = along (λ i.
      (n : ℕ) × (number_at p 0 (same_tag_bytes c.ptr is tag i) ≡ Some n) × (y : Case) × (case_of cases n ≡ Some y) × (x ≡ vals.Variant y.name []))
  def d (Some (defs.Enum name bytes align params tag variants)) p x = (
    λ h.
        let w = from_map (carried_variant c.ptr) (chosen variants h.0) h.2 (sym (same_chosen c.ptr variants h.0) ∙ h.3) in
        let named : x ≡ vals.Variant w.0.name h.4 = h.5 ∙ ap (λ (v : Variant). vals.Variant v.name h.4) w.2 in
        let parts = subst (λ (v : Variant). AreFields (over c) new d v.fields p h.4) w.2 h.6 in
        (h.0, sym (same_tag c.ptr is tag p) ∙ h.1, w.0, w.1, h.4, named, subst (λ A. A) (fields d w.0.fields p h.4) parts),
    λ h. (
      h.0,
      same_tag c.ptr is tag p ∙ h.1,
      carried_variant c.ptr h.2,
      same_chosen c.ptr variants h.0 ∙ ap (option_map (carried_variant c.ptr)) h.3,
      h.4,
      h.5,
      subst (λ A. A) (sym (fields d h.2.fields p h.4)) h.6,
    ),
  )
  def d (Some (defs.Bytes name bytes align)) p x = along refl

  layer : (d : ℕ) (ty : TypeRef) (p : Items) (x : Val) → IsLayer (over c) new d (carried_ref c.ptr ty) p x ↔ IsLayer c at_old d ty p x
  layer d (Prim k) p x = along (λ i. (n : ℕ) × (number_at p 0 (same_bytes c.ptr is k i) ≡ Some n) × (same_value c.ptr is k n i ≡ Some x))
  layer d (User i) p x =
      let e = along (ap (λ o. IsOf (over c) new d o p x) (get_map (carried_type c.ptr) c.types i)) in
      let f = def d (slice_get c.types i) p x in
      (λ h. f.0 (e.0 h), λ h. e.1 (f.1 h))

-- where more is said of the parts, more is said of a level
module _ (c : Context) (Less More : ℕ → TypeRef → Items → Val → Type 0)
    (more : (d : ℕ) (ty : TypeRef) (p : Items) (x : Val) → Less d ty p x → More d ty p x) where
  m_fields : (d : ℕ) (fs : List Field) (p : Items) (parts : List Part) → AreFields c Less d fs p parts → AreFields c More d fs p parts
  m_fields d fs p parts h =
      paired_more (λ f x. (x.name ≡ f.name) × Less d f.ty (field_part c p f) x.val)
      (λ f x. (x.name ≡ f.name) × More d f.ty (field_part c p f) x.val) (λ f x h. (h.0, more d f.ty (field_part c p f) x.val h.1)) fs parts h

  m_elements : (d : ℕ) (elem : TypeRef) (part : ℕ → Items) (count : ℕ) (shown : List Val)
      → AreElements c Less d elem part count shown → AreElements c More d elem part count shown
  m_elements d elem part count shown h =
      paired_more (λ i x. Less d elem (part i) x) (λ i x. More d elem (part i) x) (λ i x h. more d elem (part i) x h) (shown_of c count) shown h

  m_content : (to : TypeRef) (at : ℕ) (o : Option ℕ) (v : Option Val) → IsContent c Less to at o v → IsContent c More to at o v
  m_content to at None v h = h
  m_content to at (Some e) v h = (h.0, h.1, more e to (target_part c to at) h.0 h.2)

  m_far : (elem : TypeRef) (at len : ℕ) (o : Option ℕ) (v : Option Val) → IsFar c Less elem at len o v → IsFar c More elem at len o v
  m_far elem at len None v h = h
  m_far elem at len (Some e) v h = (h.0, h.1, m_elements e elem (far_part c elem at) len h.0 h.2)

  m_slice : (d : ℕ) (kind : PtrKind) (elem : Option TypeRef) (p : Items) (x : Val)
      → IsSlicePointer c Less d kind elem p x → IsSlicePointer c More d kind elem p x
  m_slice d kind None p x h = h
  m_slice d kind (Some elem) p x h = (h.0, h.1, h.2, h.3, h.4, h.5, h.6, m_far elem h.0 h.2 (below kind d) h.5 h.7)

  m_def : (d : ℕ) (o : Option TypeDef) (p : Items) (x : Val) → IsOf c Less d o p x → IsOf c More d o p x
  m_def d None p x h = h
  m_def d (Some (defs.Struct name bytes align params fs)) p x h = (h.0, h.1, m_fields d fs p h.0 h.2)
  m_def d (Some (defs.Array elem count)) p x h = (h.0, h.1, m_elements d elem (element_part c elem p) count h.0 h.2)
  m_def d (Some (defs.Thin kind to)) p x h = (h.0, h.1, h.2, h.3, h.4, m_content to h.0 (below kind d) h.3 h.5)
  m_def d (Some (defs.Slice name kind ptr)) p x h = m_slice d kind (pointee c.types ptr) p x h
  m_def d (Some (defs.Str name kind ptr)) p x h = h
  m_def d (Some (defs.Dyn name kind ptr vtable)) p x h = h
  m_def d (Some defs.FnPtr) p x h = h
  m_def d (Some (defs.CLike name tag cases)) p x h = h
  m_def d (Some (defs.Enum name bytes align params tag variants)) p x h = (h.0, h.1, h.2, h.3, h.4, h.5, m_fields d h.2.fields p h.4 h.6)
  m_def d (Some (defs.Bytes name bytes align)) p x h = h

  m_layer : (d : ℕ) (ty : TypeRef) (p : Items) (x : Val) → IsLayer c Less d ty p x → IsLayer c More d ty p x
  m_layer d (Prim k) p x h = h
  m_layer d (User i) p x h = m_def d (slice_get c.types i) p x h

pub same_image : (c : Context) → c.ptr ≡ 8 → (k d : ℕ) (ty : TypeRef) (p : Items) (x : Val)
    → IsImageWithin (over c) k d (carried_ref c.ptr ty) p x ↔ IsImageWithin c k d ty p x
unfolding IsImageWithin
same_image c is zero d ty p x = along refl
same_image c is (suc k) d ty p x =
    let moved = layer c is (IsImageWithin (over c) k) d ty p x in (
      λ h. m_layer c (at_old c is (IsImageWithin (over c) k)) (IsImageWithin c k) (λ d ty p x. (same_image c is k d ty p x).0) d ty p x (moved.0 h),
      λ h. moved.1 (m_layer c (IsImageWithin c k) (at_old c is (IsImageWithin (over c) k)) (λ d ty p x. (same_image c is k d ty p x).1) d ty p x h),
    )
