-- Which value has its image in a part.
use Rattle.std.specs.Prelude.{◌≡◌, ◌≢◌, ℕ, zero, suc, ◌+◌, ◌*◌, true, List, [], ◌∷◌, Option, Some, None, slice_get}
use Rattle.std.specs.Str.{is_utf8}
use Rattle.snapshot_file.specs.Memory.{items_at, bytes_of}
use Rattle.names.specs.declared.name.PtrKind.{PtrKind}
use Rattle.rust_value.specs.declared.value.Val.{Val}
use Rattle.rust_value.specs.declared.value.Val.TheVariants as vals
use Rattle.rust_value.specs.declared.value.Part.{Part}
use Rattle.layout_set.specs.declared.primitive.Primitive.{Primitive}
use Rattle.layout_set.specs.declared.set.TypeRef.{TypeRef}
use Rattle.layout_set.specs.declared.set.TypeRef.TheVariants.{Prim, User}
use Rattle.layout_set.specs.declared.set.TypeDef.{TypeDef}
use Rattle.layout_set.specs.declared.set.TypeDef.TheVariants as defs
use Rattle.layout_set.specs.declared.set.Field.{Field}
use Rattle.layout_set.specs.declared.set.Tag.{Tag}
use Rattle.layout_set.specs.declared.set.Case.{Case}
use Rattle.layout_set.specs.declared.set.Variant.{Variant}
use Rattle.layout_set.specs.Primitives.{prim_bytes}
use Rattle.layout_set.specs.Sizes.{size}
use Rattle.layout_values.specs.Choice.{chosen}
use Rattle.layout_values.specs.Scalars.{prim_value}
use Rattle.layout_values.specs.Pointers.{may_point, may_span, below, pointee}
use Rattle.layout_values.specs.Contexts.{Items, Context, number_at, tag_number, case_of, field_part, element_part, target_part, far_part, shown_of}

-- R holds of each and its like, in order
abbrev pub Paired : {A B : Type 0} → (A → B → Type 0) → List A → List B → Type 0
Paired R [] [] = Unit {0}
Paired R [] (y ∷ ys) = ⊥
Paired R (x ∷ xs) [] = ⊥
Paired R (x ∷ xs) (y ∷ ys) = R x y × Paired R xs ys

-- One level of a type: `Is depth type part value` says of the parts, elements and contents which values have their
-- images there.
module _ (c : Context) (Is : ℕ → TypeRef → Items → Val → Type 0) where
  -- each field in order: its name, and an image of its type
  abbrev pub AreFields : ℕ → List Field → Items → List Part → Type 0
  AreFields d fields p parts = Paired (λ field x. (x.name ≡ field.name) × Is d field.ty (field_part c p field) x.val) fields parts

  -- the elements that are shown, each in its part
  abbrev pub AreElements : ℕ → TypeRef → (ℕ → Items) → ℕ → List Val → Type 0
  AreElements d elem part count shown = Paired (λ i x. Is d elem (part i) x) (shown_of c count) shown

  -- what a thin pointer leads to, at the depth below, or nothing where it is not followed
  abbrev pub IsContent : TypeRef → ℕ → Option ℕ → Option Val → Type 0
  IsContent to at None content = content ≡ None
  IsContent to at (Some e) content = (x : Val) × (content ≡ Some x) × Is e to (target_part c to at) x

  -- the elements that a slice leads to
  abbrev pub IsFar : TypeRef → ℕ → ℕ → Option ℕ → Option Val → Type 0
  IsFar elem at len None content = content ≡ None
  IsFar elem at len (Some e) content = (shown : List Val) × (content ≡ Some (vals.Seq len shown)) × AreElements e elem (far_part c elem at) len shown

  -- the text that a pointer leads to
  abbrev pub IsText : ℕ → ℕ → Option ℕ → Option (List ℕ) → Type 0
  IsText at len None content = content ≡ None
  IsText at len (Some e) content = (text : List ℕ) × (content ≡ Some text) × (bytes_of (items_at c.memory at len) ≡ Some text) × (is_utf8 text ≡ true)

  abbrev pub IsStruct : ℕ → List Field → Items → Val → Type 0
  IsStruct d fields p x = (parts : List Part) × (x ≡ vals.Fields parts) × AreFields d fields p parts

  abbrev pub IsArray : ℕ → TypeRef → ℕ → Items → Val → Type 0
  IsArray d elem count p x = (shown : List Val) × (x ≡ vals.Seq count shown) × AreElements d elem (element_part c elem p) count shown

  abbrev pub IsThinPointer : ℕ → PtrKind → TypeRef → Items → Val → Type 0
  IsThinPointer d kind to p x = (at : ℕ) × (number_at p 0 c.ptr ≡ Some at) × (may_point kind at ≡ true) × (content : Option Val) × (x ≡ vals.Pointer kind at content) × IsContent to at (below kind d) content

  abbrev pub IsSlicePointer : ℕ → PtrKind → Option TypeRef → Items → Val → Type 0
  IsSlicePointer d kind None p x = ⊥
  IsSlicePointer d kind (Some elem) p x = (at : ℕ) × (number_at p 0 c.ptr ≡ Some at) × (len : ℕ) × (number_at p c.ptr c.ptr ≡ Some len) × (may_span c.ptr kind (size c.ptr c.types elem) at len ≡ true) × (content : Option Val) × (x ≡ vals.Slice kind at len content) × IsFar elem at len (below kind d) content

  abbrev pub IsTextPointer : ℕ → PtrKind → Items → Val → Type 0
  IsTextPointer d kind p x = (at : ℕ) × (number_at p 0 c.ptr ≡ Some at) × (len : ℕ) × (number_at p c.ptr c.ptr ≡ Some len) × (may_span c.ptr kind 1 at len ≡ true) × (content : Option (List ℕ)) × (x ≡ vals.Str kind at len content) × IsText at len (below kind d) content

  abbrev pub IsDynPointer : PtrKind → Items → Val → Type 0
  IsDynPointer kind p x = (at : ℕ) × (number_at p 0 c.ptr ≡ Some at) × (vtable : ℕ) × (number_at p c.ptr c.ptr ≡ Some vtable) × (may_point kind at ≡ true) × (may_point kind vtable ≡ true) × (x ≡ vals.Dyn kind at vtable)

  abbrev pub IsFunctionPointer : Items → Val → Type 0
  IsFunctionPointer p x = (at : ℕ) × (number_at p 0 c.ptr ≡ Some at) × (at ≢ 0) × (x ≡ vals.Function at)

  abbrev pub IsCLike : Primitive → List Case → Items → Val → Type 0
  IsCLike tag cases p x = (n : ℕ) × (number_at p 0 (prim_bytes c.ptr tag) ≡ Some n) × (y : Case) × (case_of cases n ≡ Some y) × (x ≡ vals.Variant y.name [])

  abbrev pub IsEnum : ℕ → Option Tag → List Variant → Items → Val → Type 0
  IsEnum d tag variants p x = (n : ℕ) × (tag_number c.ptr tag p ≡ Some n) × (w : Variant) × (chosen variants n ≡ Some w) × (parts : List Part) × (x ≡ vals.Variant w.name parts) × AreFields d w.fields p parts

  abbrev pub IsBytes : Items → Val → Type 0
  IsBytes p x = (all : List ℕ) × (bytes_of p ≡ Some all) × (x ≡ vals.Bytes all)

  -- by the type of a set
  abbrev pub IsOf : ℕ → Option TypeDef → Items → Val → Type 0
  IsOf d None p x = ⊥
  IsOf d (Some (defs.Struct name bytes align params fields)) p x = IsStruct d fields p x
  IsOf d (Some (defs.Array elem count)) p x = IsArray d elem count p x
  IsOf d (Some (defs.Thin kind to)) p x = IsThinPointer d kind to p x
  IsOf d (Some (defs.Slice name kind ptr)) p x = IsSlicePointer d kind (pointee c.types ptr) p x
  IsOf d (Some (defs.Str name kind ptr)) p x = IsTextPointer d kind p x
  IsOf d (Some (defs.Dyn name kind ptr vtable)) p x = IsDynPointer kind p x
  IsOf d (Some defs.FnPtr) p x = IsFunctionPointer p x
  IsOf d (Some (defs.CLike name tag cases)) p x = IsCLike tag cases p x
  IsOf d (Some (defs.Enum name bytes align params tag variants)) p x = IsEnum d tag variants p x
  IsOf d (Some (defs.Bytes name bytes align)) p x = IsBytes p x

  abbrev pub IsLayer : ℕ → TypeRef → Items → Val → Type 0
  IsLayer d (Prim prim) p x = (n : ℕ) × (number_at p 0 (prim_bytes c.ptr prim) ≡ Some n) × (prim_value c.ptr prim n ≡ Some x)
  IsLayer d (User i) p x = IsOf d (slice_get c.types i) p x

-- the value has its image in the part, and the type goes at most so many levels down
unfoldable pub IsImageWithin : Context → ℕ → ℕ → TypeRef → Items → Val → Type 0
IsImageWithin c zero d ty p x = ⊥
IsImageWithin c (suc k) d ty p x = IsLayer c (IsImageWithin c k) d ty p x

-- Of 256 types that contain one another and a primitive below them there are 257 levels, for each depth.
abbrev pub levels : ℕ → ℕ
levels depth = 257 * (depth + 1)

-- the value has its image in the part, where pointers are followed so deep
abbrev pub IsImage : Context → ℕ → TypeRef → Items → Val → Type 0
IsImage c depth ty p x = IsImageWithin c (levels depth) depth ty p x
