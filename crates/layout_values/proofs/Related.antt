-- Two things done on one walk stay related where each of their steps keeps it.
use Rattle.std.proofs.Common.{◌≡◌, refl, ℕ, zero, suc, ◌&&◌, Bool, true, false, List, [], ◌∷◌, map, Option, Some, None}
use Rattle.std.specs.Prelude.{slice_get}
use Rattle.snapshot_file.specs.Memory.{bytes_of}
use Rattle.names.specs.declared.name.PtrKind.{PtrKind}
use Rattle.rust_value.specs.declared.value.Val.{Val}
use Rattle.rust_value.specs.declared.value.Val.TheVariants as vals
use Rattle.layout_set.specs.declared.set.TypeRef.{TypeRef}
use Rattle.layout_set.specs.declared.set.TypeRef.TheVariants.{Prim, User}
use Rattle.layout_set.specs.declared.set.TypeDef.{TypeDef}
use Rattle.layout_set.specs.declared.set.TypeDef.TheVariants as defs
use Rattle.layout_set.specs.declared.set.Field.{Field}
use Rattle.layout_set.specs.declared.set.Variant.{Variant}
use Rattle.layout_set.specs.Primitives.{prim_bytes}
use Rattle.layout_set.specs.Sizes.{size}
use Rattle.layout_values.specs.Choice.{chosen}
use Rattle.layout_values.specs.Scalars.{prim_value}
use Rattle.layout_values.specs.Pointers.{may_point, may_span, below, pointee}
use Rattle.layout_values.specs.Contexts.{Items, Context, number_at, tag_number, field_part, element_part, target_part, far_part, shown_of}
use Rattle.layout_values.specs.Images.{Paired}
use Rattle.layout_values.specs.Walk.{Doing, valued, scalar_at, allowed, function_value, case_value, go_field, go_elements, go_content, go_far, go_thin, go_slice, go_text, go_str, go_dyn, go_variant, go_enum, go_def, go_layer, walk}

-- both are there and related, or neither
abbrev pub Both : {X Y : Type 0} → (X → Y → Type 0) → Option X → Option Y → Type 0
Both R None None = Unit {0}
Both R None (Some y) = ⊥
Both R (Some x) None = ⊥
Both R (Some x) (Some y) = R x y

-- the same name, and related
abbrev pub Named : {X Y : Type 0} → (X → Y → Type 0) → List ℕ × X → List ℕ × Y → Type 0
Named R x y = (x.0 ≡ y.0) × R x.1 y.1

-- each step of the one is related to that of the other, where what it is over is
pub record Related {X Y : Type 0} (R : X → Y → Type 0) (a : Doing X) (b : Doing Y) : Type 0 where
  pub node : (x : X) (y : Y) → R x y → R (a.node x) (b.node y)
  pub nothing : R a.nothing b.nothing
  pub gone : R a.gone b.gone
  pub bad : R a.bad b.bad
  pub scalar : (x : Val) → R (a.scalar x) (b.scalar x)
  pub fields : (xs : List (List ℕ × X)) (ys : List (List ℕ × Y)) → Paired (Named R) xs ys → R (a.fields xs) (b.fields ys)
  pub variant : (name : List ℕ) (xs : List (List ℕ × X)) (ys : List (List ℕ × Y)) → Paired (Named R) xs ys → R (a.variant name xs) (b.variant name ys)
  pub seq : (count : ℕ) (xs : List X) (ys : List Y) → Paired R xs ys → R (a.seq count xs) (b.seq count ys)
  pub pointer : (kind : PtrKind) (at : ℕ) (o : Option X) (q : Option Y) → Both R o q → R (a.pointer kind at o) (b.pointer kind at q)
  pub slice : (kind : PtrKind) (at len : ℕ) (o : Option X) (q : Option Y) → Both R o q → R (a.slice kind at len o) (b.slice kind at len q)
  pub text : (kind : PtrKind) (at len : ℕ) (o : Option (Option (List ℕ))) → R (a.text kind at len o) (b.text kind at len o)
  pub bytes : (count : ℕ) (o : Option (List ℕ)) → R (a.bytes count o) (b.bytes count o)

pub map_paired : {A X Y : Type 0} (R : X → Y → Type 0) (f : A → X) (g : A → Y) → ((a : A) → R (f a) (g a)) → (xs : List A) → Paired R (map f xs) (map g xs)
map_paired R f g h [] = tt
map_paired R f g h (x ∷ xs) = (h x, map_paired R f g h xs)

module _ {X Y : Type 0} (R : X → Y → Type 0) (a : Doing X) (b : Doing Y) (r : Related R a b) (c : Context) where
  module _ (f : ℕ → TypeRef → Items → X) (g : ℕ → TypeRef → Items → Y) (same : (d : ℕ) (ty : TypeRef) (p : Items) → R (f d ty p) (g d ty p)) where
    r_fields : (d : ℕ) (p : Items) (fields : List Field) → Paired (Named R) (map (go_field a c f d p) fields) (map (go_field b c g d p) fields)
    r_fields d p fields = map_paired (Named R) (go_field a c f d p) (go_field b c g d p) (λ x. (refl, same d x.ty (field_part c p x))) fields

    r_elements : (d : ℕ) (elem : TypeRef) (part : ℕ → Items) (count : ℕ) → Paired R (go_elements a c f d elem part count) (go_elements b c g d elem part count)
    r_elements d elem part count = map_paired R (λ i. f d elem (part i)) (λ i. g d elem (part i)) (λ i. same d elem (part i)) (shown_of c count)

    r_content : (to : TypeRef) (at : ℕ) (o : Option ℕ) → Both R (go_content a c f to at o) (go_content b c g to at o)
    r_content to at None = tt
    r_content to at (Some e) = same e to (target_part c to at)

    r_far : (elem : TypeRef) (at len : ℕ) (o : Option ℕ) → Both R (go_far a c f elem at len o) (go_far b c g elem at len o)
    r_far elem at len None = tt
    r_far elem at len (Some e) = r.node _ _ (r.seq len _ _ (r_elements e elem (far_part c elem at) len))

    r_allowed : (may : Bool) (x : X) (y : Y) → R x y → R (allowed a may x) (allowed b may y)
    r_allowed true x y h = h
    r_allowed false x y h = r.bad

    r_thin : (d : ℕ) (kind : PtrKind) (to : TypeRef) (o : Option ℕ) → R (go_thin a c f d kind to o) (go_thin b c g d kind to o)
    r_thin d kind to None = r.gone
    r_thin d kind to (Some at) = r_allowed (may_point kind at) _ _ (r.pointer kind at _ _ (r_content to at (below kind d)))

    r_slice : (d : ℕ) (kind : PtrKind) (e : Option TypeRef) (o q : Option ℕ) → R (go_slice a c f d kind e o q) (go_slice b c g d kind e o q)
    r_slice d kind None o q = r.nothing
    r_slice d kind (Some elem) None None = r.gone
    r_slice d kind (Some elem) None (Some len) = r.gone
    r_slice d kind (Some elem) (Some at) None = r.gone
    r_slice d kind (Some elem) (Some at) (Some len) = r_allowed (may_span c.ptr kind (size c.ptr c.types elem) at len) _ _ (r.slice kind at len _ _ (r_far elem at len (below kind d)))

    r_str : (d : ℕ) (kind : PtrKind) (o q : Option ℕ) → R (go_str a c f d kind o q) (go_str b c g d kind o q)
    r_str d kind None None = r.gone
    r_str d kind None (Some len) = r.gone
    r_str d kind (Some at) None = r.gone
    r_str d kind (Some at) (Some len) = r_allowed (may_span c.ptr kind 1 at len) _ _ (r.text kind at len (go_text a c f at len (below kind d)))

    r_dyn : (kind : PtrKind) (o q : Option ℕ) → R (go_dyn a c f kind o q) (go_dyn b c g kind o q)
    r_dyn kind None None = r.gone
    r_dyn kind None (Some vtable) = r.gone
    r_dyn kind (Some at) None = r.gone
    r_dyn kind (Some at) (Some vtable) = r_allowed (may_point kind at && may_point kind vtable) _ _ (r.scalar (vals.Dyn kind at vtable))

    r_variant : (d : ℕ) (p : Items) (o : Option Variant) → R (go_variant a c f d p o) (go_variant b c g d p o)
    r_variant d p None = r.bad
    r_variant d p (Some w) = r.variant w.name _ _ (r_fields d p w.fields)

    r_enum : (d : ℕ) (variants : List Variant) (p : Items) (o : Option ℕ) → R (go_enum a c f d variants p o) (go_enum b c g d variants p o)
    r_enum d variants p None = r.gone
    r_enum d variants p (Some n) = r_variant d p (chosen variants n)

    r_valued : (o : Option Val) → R (valued a o) (valued b o)
    r_valued None = r.bad
    r_valued (Some x) = r.scalar x

    r_scalar : (value : ℕ → Option Val) (o : Option ℕ) → R (scalar_at a value o) (scalar_at b value o)
    r_scalar value None = r.gone
    r_scalar value (Some n) = r_valued (value n)

    r_def : (d : ℕ) (def : Option TypeDef) (p : Items) → R (go_def a c f d def p) (go_def b c g d def p)
    unfolding go_def
    r_def d None p = r.nothing
    r_def d (Some (defs.Struct name bytes align params fields)) p = r.fields _ _ (r_fields d p fields)
    r_def d (Some (defs.Array elem count)) p = r.seq count _ _ (r_elements d elem (element_part c elem p) count)
    r_def d (Some (defs.Thin kind to)) p = r_thin d kind to (number_at p 0 c.ptr)
    r_def d (Some (defs.Slice name kind ptr)) p = r_slice d kind (pointee c.types ptr) (number_at p 0 c.ptr) (number_at p c.ptr c.ptr)
    r_def d (Some (defs.Str name kind ptr)) p = r_str d kind (number_at p 0 c.ptr) (number_at p c.ptr c.ptr)
    r_def d (Some (defs.Dyn name kind ptr vtable)) p = r_dyn kind (number_at p 0 c.ptr) (number_at p c.ptr c.ptr)
    r_def d (Some defs.FnPtr) p = r_scalar function_value (number_at p 0 c.ptr)
    r_def d (Some (defs.CLike name tag cases)) p = r_scalar (case_value cases) (number_at p 0 (prim_bytes c.ptr tag))
    r_def d (Some (defs.Enum name bytes align params tag variants)) p = r_enum d variants p (tag_number c.ptr tag p)
    r_def d (Some (defs.Bytes name bytes align)) p = r.bytes bytes (bytes_of p)

    r_layer : (d : ℕ) (ty : TypeRef) (p : Items) → R (go_layer a c f d ty p) (go_layer b c g d ty p)
    r_layer d (Prim prim) p = r.node _ _ (r_scalar (prim_value c.ptr prim) (number_at p 0 (prim_bytes c.ptr prim)))
    r_layer d (User i) p = r.node _ _ (r_def d (slice_get c.types i) p)

  -- what is done by the two at each type and part is related
  pub related : (k d : ℕ) (ty : TypeRef) (p : Items) → R (walk a c k d ty p) (walk b c k d ty p)
  unfolding walk
  related zero d ty p = r.node _ _ r.nothing
  related (suc k) d ty p = r_layer (walk a c k) (walk b c k) (related k) d ty p
