-- Whatever is done with all that a type reaches comes out the same with the types that CodeView carries.
use Rattle.std.proofs.Common.{◌≡◌, ◌∙◌, refl, ap, ℕ, zero, suc, ◌+◌, ◌*◌, List, [], ◌∷◌, map, option_map, slice_get, Option, Some, None}
use Rattle.snapshot_file.specs.Memory.{items_at, sub}
use Rattle.names.specs.declared.name.PtrKind.{PtrKind}
use Rattle.layout_set.specs.declared.primitive.Primitive.{Primitive}
use Rattle.layout_set.specs.declared.set.Field.{Field}
use Rattle.layout_set.specs.declared.set.Variant.{Variant}
use Rattle.layout_set.specs.declared.set.TypeDef.{TypeDef}
use Rattle.layout_set.specs.declared.set.TypeDef.TheVariants as defs
use Rattle.layout_set.specs.declared.set.TypeRef.{TypeRef}
use Rattle.layout_set.specs.declared.set.TypeRef.TheVariants.{Prim, User}
use Rattle.layout_carried.specs.Carried.{carried_prim, carried_ref, carried_field, carried_variant, carried_type}
use Rattle.layout_values.specs.Choice.{chosen}
use Rattle.layout_values.specs.Contexts.{Items, Context, number_at, tag_number, field_part, element_part, target_part, far_part, shown_of}
use Rattle.layout_values.specs.Pointers.{below, pointee}
use Rattle.layout_set.specs.Primitives.{prim_bytes}
use Rattle.layout_values.specs.Scalars.{prim_value}
use Rattle.layout_values.specs.Walk.{Doing, valued, scalar_at, case_value, go_field, go_elements, go_content, go_far, go_thin, go_slice, go_variant, go_enum, go_def, go_layer, walk}
use Rattle.layout_carried.proofs.SameTypes.{same_bytes, same_tag_bytes, same_value, get_map, same_size, same_pointee, same_chosen, same_tag}

pub map_map : {A B C : Type 0} (g : A → B) (f : B → C) (h : A → C) → ((a : A) → f (g a) ≡ h a) → (xs : List A) → map f (map g xs) ≡ map h xs
map_map g f h e [] = refl
map_map g f h e (x ∷ xs) = rw (e x, map_map g f h e xs) refl

map_same : {A B : Type 0} (f h : A → B) → ((a : A) → f a ≡ h a) → (xs : List A) → map f xs ≡ map h xs
map_same f h e [] = refl
map_same f h e (x ∷ xs) = rw (e x, map_same f h e xs) refl

-- the same part is read with the types that are carried
abbrev pub over : Context → Context
over c = record c { types = map (carried_type c.ptr) c.types }

module _ {X : Type 0} (act : Doing X) (c : Context) (is : c.ptr ≡ 8) (old new : ℕ → TypeRef → Items → X)
    (same : (d : ℕ) (ty : TypeRef) (p : Items) → new d (carried_ref c.ptr ty) p ≡ old d ty p) where
  fields : (d : ℕ) (p : Items) (fs : List Field) → map (go_field act (over c) new d p) (map (carried_field c.ptr) fs) ≡ map (go_field act c old d p) fs
  fields d p fs = map_map (carried_field c.ptr) (go_field act (over c) new d p) (go_field act c old d p)
      (λ f. let named : X → List ℕ × X = λ x. (f.name, x) in
      ap named (ap (λ n. new d (carried_ref c.ptr f.ty) (sub p f.off n)) (same_size c.ptr is c.types f.ty) ∙ same d f.ty (field_part c p f))) fs

  elements : (d : ℕ) (elem : TypeRef) (new_part part : ℕ → Items) (count : ℕ) → ((i : ℕ) → new_part i ≡ part i)
      → go_elements act (over c) new d (carried_ref c.ptr elem) new_part count ≡ go_elements act c old d elem part count
  elements d elem new_part part count e =
      map_same (λ i. new d (carried_ref c.ptr elem) (new_part i)) (λ i. old d elem (part i))
      (λ i. ap (new d (carried_ref c.ptr elem)) (e i) ∙ same d elem (part i)) (shown_of c count)

  content : (to : TypeRef) (at : ℕ) (o : Option ℕ) → go_content act (over c) new (carried_ref c.ptr to) at o ≡ go_content act c old to at o
  content to at None = refl
  content to at (Some e) =
      ap Some (ap (λ n. new e (carried_ref c.ptr to) (items_at c.memory at n)) (same_size c.ptr is c.types to) ∙ same e to (target_part c to at))

  far : (elem : TypeRef) (at len : ℕ) (o : Option ℕ) → go_far act (over c) new (carried_ref c.ptr elem) at len o ≡ go_far act c old elem at len o
  far elem at len None = refl
  far elem at len (Some e) =
      ap (λ xs. Some (act.node (act.seq len xs)))
      (elements e elem (far_part (over c) (carried_ref c.ptr elem) at) (far_part c elem at) len
      (λ i. ap (λ n. items_at c.memory (at + i * n) n) (same_size c.ptr is c.types elem)))

  thin : (d : ℕ) (kind : PtrKind) (to : TypeRef) (o : Option ℕ) → go_thin act (over c) new d kind (carried_ref c.ptr to) o ≡ go_thin act c old d kind to o
  thin d kind to None = refl
  thin d kind to (Some at) = rw (content to at (below kind d)) refl

  slice : (d : ℕ) (kind : PtrKind) (elem : Option TypeRef) (a l : Option ℕ)
      → go_slice act (over c) new d kind (option_map (carried_ref c.ptr) elem) a l ≡ go_slice act c old d kind elem a l
  slice d kind None a l = refl
  slice d kind (Some elem) None None = refl
  slice d kind (Some elem) None (Some len) = refl
  slice d kind (Some elem) (Some at) None = refl
  slice d kind (Some elem) (Some at) (Some len) = rw (far elem at len (below kind d), same_size c.ptr is c.types elem) refl

  variant : (d : ℕ) (p : Items) (o : Option Variant) → go_variant act (over c) new d p (option_map (carried_variant c.ptr) o) ≡ go_variant act c old d p o
  variant d p None = refl
  variant d p (Some w) = ap (act.variant w.name) (fields d p w.fields)

  enum : (d : ℕ) (variants : List Variant) (p : Items) (o : Option ℕ)
      → go_enum act (over c) new d (map (carried_variant c.ptr) variants) p o ≡ go_enum act c old d variants p o
  enum d variants p None = refl
  enum d variants p (Some n) = ap (go_variant act (over c) new d p) (same_chosen c.ptr variants n) ∙ variant d p (chosen variants n)

  def : (d : ℕ) (o : Option TypeDef) (p : Items) → go_def act (over c) new d (option_map (carried_type c.ptr) o) p ≡ go_def act c old d o p
  unfolding go_def
  def d None p = refl
  def d (Some (defs.Struct name bytes align params fs)) p = ap act.fields (fields d p fs)
  def d (Some (defs.Array elem count)) p =
      ap (act.seq count)
      (elements d elem (element_part (over c) (carried_ref c.ptr elem) p) (element_part c elem p) count
      (λ i. ap (λ n. sub p (i * n) n) (same_size c.ptr is c.types elem)))
  def d (Some (defs.Thin kind to)) p = thin d kind to (number_at p 0 c.ptr)
  def d (Some (defs.Slice name kind first)) p =
      ap (λ o. go_slice act (over c) new d kind o (number_at p 0 c.ptr) (number_at p c.ptr c.ptr)) (same_pointee c.ptr c.types first)
      ∙ slice d kind (pointee c.types first) (number_at p 0 c.ptr) (number_at p c.ptr c.ptr)
  def d (Some (defs.Str name kind first)) p = refl
  def d (Some (defs.Dyn name kind first vtable)) p = refl
  def d (Some defs.FnPtr) p = refl
  def d (Some (defs.CLike name tag cases)) p = ap (λ n. scalar_at act (case_value cases) (number_at p 0 n)) (same_tag_bytes c.ptr is tag)
  def d (Some (defs.Enum name bytes align params tag variants)) p =
      ap (go_enum act (over c) new d (map (carried_variant c.ptr) variants) p) (same_tag c.ptr is tag p) ∙ enum d variants p (tag_number c.ptr tag p)
  def d (Some (defs.Bytes name bytes align)) p = refl

  scalar : (k : Primitive) (o : Option ℕ) → scalar_at act (prim_value c.ptr (carried_prim c.ptr k)) o ≡ scalar_at act (prim_value c.ptr k) o
  scalar k None = refl
  scalar k (Some n) = ap (valued act) (same_value c.ptr is k n)

  layer : (d : ℕ) (ty : TypeRef) (p : Items) → go_layer act (over c) new d (carried_ref c.ptr ty) p ≡ go_layer act c old d ty p
  layer d (Prim k) p =
      ap act.node (ap (λ n. scalar_at act (prim_value c.ptr (carried_prim c.ptr k)) (number_at p 0 n)) (same_bytes c.ptr is k)
      ∙ scalar k (number_at p 0 (prim_bytes c.ptr k)))
  layer d (User i) p = ap act.node (ap (λ o. go_def act (over c) new d o p) (get_map (carried_type c.ptr) c.types i) ∙ def d (slice_get c.types i) p)

pub same_walk : {X : Type 0} (act : Doing X) (c : Context) → c.ptr ≡ 8 → (k d : ℕ) (ty : TypeRef) (p : Items)
    → walk act (over c) k d (carried_ref c.ptr ty) p ≡ walk act c k d ty p
unfolding walk
same_walk act c is zero d ty p = refl
same_walk act c is (suc k) d ty p = layer act c is (walk act c k) (walk act (over c) k) (same_walk act c is k) d ty p
