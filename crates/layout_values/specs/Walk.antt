-- What a type reaches in a part, and what is done with it. The count of what is reached, and whether some of it is
-- missing, are instances.
use Rattle.std.specs.Prelude.{ℕ, zero, suc, ◌&&◌, Bool, true, false, List, [], map, Option, Some, None, slice_get}
use Rattle.snapshot_file.specs.Memory.{items_at, bytes_of}
use Rattle.names.specs.declared.name.PtrKind.{PtrKind}
use Rattle.rust_value.specs.declared.value.Val.{Val}
use Rattle.rust_value.specs.declared.value.Val.TheVariants as vals
use Rattle.layout_set.specs.declared.set.TypeRef.{TypeRef}
use Rattle.layout_set.specs.declared.set.TypeRef.TheVariants.{Prim, User}
use Rattle.layout_set.specs.declared.set.TypeDef.{TypeDef}
use Rattle.layout_set.specs.declared.set.TypeDef.TheVariants as defs
use Rattle.layout_set.specs.declared.set.Field.{Field}
use Rattle.layout_set.specs.declared.set.Case.{Case}
use Rattle.layout_set.specs.declared.set.Variant.{Variant}
use Rattle.layout_set.specs.Primitives.{prim_bytes}
use Rattle.layout_set.specs.Sizes.{size}
use Rattle.layout_values.specs.Choice.{chosen}
use Rattle.layout_values.specs.Scalars.{prim_value}
use Rattle.layout_values.specs.Pointers.{may_point, may_span, below, pointee}
use Rattle.layout_values.specs.Contexts.{Items, Context, number_at, tag_number, case_of, field_part, element_part, target_part, far_part, shown_of}

-- what is done with a type's number, parts, elements and contents
pub record Doing (X : Type 0) : Type 0 where
  -- one more node
  pub node : X → X
  -- there is no such type
  pub nothing : X
  -- a number is missing
  pub gone : X
  -- a number has no meaning
  pub bad : X
  pub scalar : Val → X
  pub fields : List (List ℕ × X) → X
  pub variant : List ℕ → List (List ℕ × X) → X
  pub seq : ℕ → List X → X
  pub pointer : PtrKind → ℕ → Option X → X
  pub slice : PtrKind → ℕ → ℕ → Option X → X
  -- a pointer to a text, and, where it is followed, the text's bytes if none is missing
  pub text : PtrKind → ℕ → ℕ → Option (Option (List ℕ)) → X
  -- so many bytes, if none is missing
  pub bytes : ℕ → Option (List ℕ) → X

module _ {X : Type 0} (act : Doing X) where
  abbrev pub valued : Option Val → X
  valued None = act.bad
  valued (Some x) = act.scalar x

  -- the value of a number, if it is there
  abbrev pub scalar_at : (ℕ → Option Val) → Option ℕ → X
  scalar_at value None = act.gone
  scalar_at value (Some n) = valued (value n)

  -- a pointer whose numbers may be what they are
  abbrev pub allowed : Bool → X → X
  allowed true x = x
  allowed false x = act.bad

-- the value of a pointer to a function
abbrev pub function_value : ℕ → Option Val
function_value zero = None
function_value (suc n) = Some (vals.Function (suc n))

abbrev pub case_name : Option Case → Option Val
case_name None = None
case_name (Some x) = Some (vals.Variant x.name [])

abbrev pub case_value : List Case → ℕ → Option Val
case_value cases n = case_name (case_of cases n)

-- each of these is over the walk of the parts
module _ {X : Type 0} (act : Doing X) (c : Context) (go : ℕ → TypeRef → Items → X) where
  abbrev pub go_field : ℕ → Items → Field → List ℕ × X
  go_field d p field = (field.name, go d field.ty (field_part c p field))

  abbrev pub go_elements : ℕ → TypeRef → (ℕ → Items) → ℕ → List X
  go_elements d elem part count = map (λ i. go d elem (part i)) (shown_of c count)

  abbrev pub go_content : TypeRef → ℕ → Option ℕ → Option X
  go_content to at None = None
  go_content to at (Some e) = Some (go e to (target_part c to at))

  abbrev pub go_far : TypeRef → ℕ → ℕ → Option ℕ → Option X
  go_far elem at len None = None
  go_far elem at len (Some e) = Some (act.node (act.seq len (go_elements e elem (far_part c elem at) len)))

  abbrev pub go_thin : ℕ → PtrKind → TypeRef → Option ℕ → X
  go_thin d kind to None = act.gone
  go_thin d kind to (Some at) = allowed act (may_point kind at) (act.pointer kind at (go_content to at (below kind d)))

  abbrev pub go_slice : ℕ → PtrKind → Option TypeRef → Option ℕ → Option ℕ → X
  go_slice d kind None a l = act.nothing
  go_slice d kind (Some elem) (Some at) (Some len) = allowed act (may_span c.ptr kind (size c.ptr c.types elem) at len) (act.slice kind at len (go_far elem at len (below kind d)))
  go_slice d kind (Some elem) _ _ = act.gone

  abbrev pub go_text : ℕ → ℕ → Option ℕ → Option (Option (List ℕ))
  go_text at len None = None
  go_text at len (Some e) = Some (bytes_of (items_at c.memory at len))

  abbrev pub go_str : ℕ → PtrKind → Option ℕ → Option ℕ → X
  go_str d kind (Some at) (Some len) = allowed act (may_span c.ptr kind 1 at len) (act.text kind at len (go_text at len (below kind d)))
  go_str d kind _ _ = act.gone

  abbrev pub go_dyn : PtrKind → Option ℕ → Option ℕ → X
  go_dyn kind (Some at) (Some vtable) = allowed act (may_point kind at && may_point kind vtable) (act.scalar (vals.Dyn kind at vtable))
  go_dyn kind _ _ = act.gone

  abbrev pub go_variant : ℕ → Items → Option Variant → X
  go_variant d p None = act.bad
  go_variant d p (Some w) = act.variant w.name (map (go_field d p) w.fields)

  abbrev pub go_enum : ℕ → List Variant → Items → Option ℕ → X
  go_enum d variants p None = act.gone
  go_enum d variants p (Some n) = go_variant d p (chosen variants n)

  unfoldable pub go_def : ℕ → Option TypeDef → Items → X
  go_def d None p = act.nothing
  go_def d (Some (defs.Struct name bytes align params fields)) p = act.fields (map (go_field d p) fields)
  go_def d (Some (defs.Array elem count)) p = act.seq count (go_elements d elem (element_part c elem p) count)
  go_def d (Some (defs.Thin kind to)) p = go_thin d kind to (number_at p 0 c.ptr)
  go_def d (Some (defs.Slice name kind ptr)) p = go_slice d kind (pointee c.types ptr) (number_at p 0 c.ptr) (number_at p c.ptr c.ptr)
  go_def d (Some (defs.Str name kind ptr)) p = go_str d kind (number_at p 0 c.ptr) (number_at p c.ptr c.ptr)
  go_def d (Some (defs.Dyn name kind ptr vtable)) p = go_dyn kind (number_at p 0 c.ptr) (number_at p c.ptr c.ptr)
  go_def d (Some defs.FnPtr) p = scalar_at act function_value (number_at p 0 c.ptr)
  go_def d (Some (defs.CLike name tag cases)) p = scalar_at act (case_value cases) (number_at p 0 (prim_bytes c.ptr tag))
  go_def d (Some (defs.Enum name bytes align params tag variants)) p = go_enum d variants p (tag_number c.ptr tag p)
  go_def d (Some (defs.Bytes name bytes align)) p = act.bytes bytes (bytes_of p)

  abbrev pub go_layer : ℕ → TypeRef → Items → X
  go_layer d (Prim prim) p = act.node (scalar_at act (prim_value c.ptr prim) (number_at p 0 (prim_bytes c.ptr prim)))
  go_layer d (User i) p = act.node (go_def d (slice_get c.types i) p)

-- what is done with all that a type reaches, at most so many levels down
unfoldable pub walk : {X : Type 0} → Doing X → Context → ℕ → ℕ → TypeRef → Items → X
walk act c zero d ty p = act.node act.nothing
walk act c (suc k) d ty p = go_layer act c (walk act c k) d ty p
