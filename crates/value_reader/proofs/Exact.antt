-- The walk reads a value exactly where the part is its image.
use Rattle.std.proofs.Common.{◌≡◌, ◌≢◌, ℕ, zero, suc, ◌&&◌, Bool, true, false, cond, List, [], ◌∷◌, map, Option, Some, None, refl, sym, ap, subst, ◌∙◌, arith}
use Rattle.std.specs.Prelude.{slice_get}
use Rattle.std.specs.Str.{is_utf8}
use Rattle.snapshot_file.specs.Memory.{items_at, bytes_of}
use Rattle.names.specs.declared.name.PtrKind.{PtrKind}
use Rattle.rust_value.specs.declared.value.Val.{Val}
use Rattle.rust_value.specs.declared.value.Val.TheVariants as vals
use Rattle.rust_value.specs.declared.value.Part.{Part}
use Rattle.layout_set.specs.declared.set.TypeRef.{TypeRef}
use Rattle.layout_set.specs.declared.set.TypeRef.TheVariants.{Prim, User}
use Rattle.layout_set.specs.declared.set.TypeDef.{TypeDef}
use Rattle.layout_set.specs.declared.set.TypeDef.TheVariants as defs
use Rattle.layout_set.specs.declared.set.Field.{Field}
use Rattle.layout_set.specs.declared.set.Case.{Case}
use Rattle.layout_set.specs.declared.set.Variant.{Variant}
use Rattle.layout_set.specs.Primitives.{prim_bytes}
use Rattle.layout_set.specs.Sizes.{size}
use Rattle.layout_values.specs.Choice.{chosen}
use Rattle.layout_values.specs.Scalars.{prim_value}
use Rattle.layout_values.specs.Pointers.{may_point, may_span, below, pointee}
use Rattle.layout_values.specs.Contexts.{Items, Context, number_at, tag_number, case_of, field_part, element_part, target_part, far_part, shown_of}
use Rattle.layout_values.specs.Images.{Paired, AreFields, AreElements, IsContent, IsFar, IsText, IsSlicePointer, IsOf, IsLayer, IsImageWithin}
use Rattle.layout_values.specs.Walk.{valued, scalar_at, allowed, function_value, case_name, case_value, go_field, go_elements, go_content, go_far}
use Rattle.layout_values.specs.Walk.{go_thin, go_slice, go_text, go_str, go_dyn, go_variant, go_enum, go_def, go_layer, walk}
use Rattle.value_reader.specs.declared.checked.Checked.{Checked}
use Rattle.value_reader.specs.declared.checked.Checked.TheVariants.{Valid, Invalid, Missing}
use Rattle.value_reader.specs.Checking.{map_checked, both, gather}
use Rattle.value_reader.specs.Reads.{named, or_missing, checked_text, text_content, checked_parts, all_checked, checked_content, reading, read}

abbrev valid_or : {A : Type 0} → A → Checked A → A
valid_or d (Valid a) = a
valid_or d Invalid = d
valid_or d Missing = d

pub same_valid : {A : Type 0} {a b : A} → Valid a ≡ Valid b → a ≡ b
same_valid {a = a} e = ap (valid_or a) e

abbrev is_valid : {A : Type 0} → Checked A → Bool
is_valid (Valid a) = true
is_valid Invalid = false
is_valid Missing = false

pub invalid_valid : {A : Type 0} {a : A} → Invalid ≡ Valid a → ⊥
invalid_valid e = cc

pub missing_valid : {A : Type 0} {a : A} → Missing ≡ Valid a → ⊥
missing_valid e = cc

-- what a mapped sight came from
pub map_valid : {A B : Type 0} (f : A → B) (s : Checked A) (b : B) → map_checked f s ≡ Valid b → (a : A) × (s ≡ Valid a) × (b ≡ f a)
map_valid f (Valid a) b e = (a, refl, sym (same_valid e))
map_valid f Invalid b e = absurd (invalid_valid e)
map_valid f Missing b e = absurd (missing_valid e)

both_valid : {A B C : Type 0} (f : A → B → C) (s : Checked A) (r : Checked B) (c : C) → both f s r ≡ Valid c →
    (a : A) × (b : B) × (s ≡ Valid a) × (r ≡ Valid b) × (c ≡ f a b)
both_valid f (Valid a) (Valid b) c e = (a, b, refl, refl, sym (same_valid e))
both_valid f (Valid a) Invalid c e = absurd (invalid_valid e)
both_valid f (Valid a) Missing c e = absurd (missing_valid e)
both_valid f Invalid (Valid b) c e = absurd (invalid_valid e)
both_valid f Invalid Invalid c e = absurd (invalid_valid e)
both_valid f Invalid Missing c e = absurd (missing_valid e)
both_valid f Missing r c e = absurd (missing_valid e)

pub gather_paired : {A B : Type 0} (f : A → Checked B) (R : A → B → Type 0) → ((a : A) (b : B) → R a b → f a ≡ Valid b) →
    (xs : List A) (ys : List B) → Paired R xs ys → gather f xs ≡ Valid ys
gather_paired f R h [] [] p = refl
gather_paired f R h [] (y ∷ ys) p = absurd p
gather_paired f R h (x ∷ xs) [] p = absurd p
gather_paired f R h (x ∷ xs) (y ∷ ys) p = rw (h x y p.0, gather_paired f R h xs ys p.1) refl

pub paired_gather : {A B : Type 0} (f : A → Checked B) (R : A → B → Type 0) → ((a : A) (b : B) → f a ≡ Valid b → R a b) →
    (xs : List A) (ys : List B) → gather f xs ≡ Valid ys → Paired R xs ys
paired_gather f R h [] ys e = subst (Paired R []) (same_valid e) tt
paired_gather f R h (x ∷ xs) ys e =
    let w = both_valid (λ y ys. y ∷ ys) (f x) (gather f xs) ys e in
    subst (Paired R (x ∷ xs)) (sym w.4) (h x w.0 w.2, paired_gather f R h xs w.1 w.3)

or_invalid_valid : (o : Option Val) (a : Val) → valued reading o ≡ Valid a → o ≡ Some a
or_invalid_valid None a e = absurd (invalid_valid e)
or_invalid_valid (Some b) a e = ap Some (same_valid e)

or_missing_valid : {A : Type 0} (o : Option A) (a : A) → or_missing o ≡ Valid a → o ≡ Some a
or_missing_valid None a e = absurd (missing_valid e)
or_missing_valid (Some b) a e = ap Some (same_valid e)

if_valid : (b : Bool) (s : Checked Val) (a : Val) → allowed reading b s ≡ Valid a → (b ≡ true) × (s ≡ Valid a)
if_valid true s a e = (refl, e)
if_valid false s a e = absurd (invalid_valid e)

text_valid : (o : Option (List ℕ)) (content : Option (List ℕ)) → checked_text o ≡ Valid content →
    (text : List ℕ) × (content ≡ Some text) × (o ≡ Some text) × (is_utf8 text ≡ true)
text_valid None content e = absurd (missing_valid e)
text_valid (Some text) content e = elim_text (is_utf8 text) refl e
  where
    elim_text : (b : Bool) → is_utf8 text ≡ b → cond b (Valid (Some text)) Invalid ≡ Valid content →
        (t : List ℕ) × (content ≡ Some t) × (Some text ≡ Some t) × (is_utf8 t ≡ true)
    elim_text true u e = (text, sym (same_valid e), refl, u)
    elim_text false u e = absurd (invalid_valid e)

both_true : (a b : Bool) → (a && b) ≡ true → (a ≡ true) × (b ≡ true)
both_true true b h = (refl, h)
both_true false b h = absurd (cc)

function_some : (n : ℕ) (x : Val) → function_value n ≡ Some x → (n ≢ 0) × (x ≡ vals.Function n)
function_some zero x e = absurd (cc)
function_some (suc n) x e = (λ h. absurd (omega (arith, h)), cc)

some_function : (n : ℕ) (x : Val) → n ≢ 0 → x ≡ vals.Function n → function_value n ≡ Some x
some_function zero x h e = absurd (h refl)
some_function (suc n) x h e = ap Some (sym e)

case_some : (o : Option Case) (x : Val) → case_name o ≡ Some x → (y : Case) × (o ≡ Some y) × (x ≡ vals.Variant y.name [])
case_some None x e = absurd (cc)
case_some (Some y) x e = (y, refl, cc)

gather_map : {A B C : Type 0} (f : B → Checked C) (g : A → B) (xs : List A) → gather f (map g xs) ≡ gather (λ a. f (g a)) xs
gather_map f g [] = refl
gather_map f g (x ∷ xs) = rw (gather_map f g xs) refl

module _ (c : Context) where
  -- go gives just the values of which Is says that they have their images there
  pub record Exact (Is : ℕ → TypeRef → Items → Val → Type 0) (go : ℕ → TypeRef → Items → Checked Val) : Type 0 where
    pub read_is : (d : ℕ) (ty : TypeRef) (p : Items) (x : Val) → Is d ty p x → go d ty p ≡ Valid x
    pub is_read : (d : ℕ) (ty : TypeRef) (p : Items) (x : Val) → go d ty p ≡ Valid x → Is d ty p x

  module _ (Is : ℕ → TypeRef → Items → Val → Type 0) (go : ℕ → TypeRef → Items → Checked Val) (exact : Exact Is go) where
    abbrev one : ℕ → Items → Field → Checked Part
    one d p f = map_checked (named f.name) (go d f.ty (field_part c p f))

    flat_fields : (d : ℕ) (fields : List Field) (p : Items) → checked_parts (map (go_field reading c go d p) fields) ≡ gather (one d p) fields
    flat_fields d fields p = gather_map (λ y. map_checked (named y.0) y.1) (go_field reading c go d p) fields

    flat_elements : (d : ℕ) (elem : TypeRef) (part : ℕ → Items) (is : List ℕ) →
        all_checked (map (λ i. go d elem (part i)) is) ≡ gather (λ i. go d elem (part i)) is
    flat_elements d elem part is = gather_map (λ y. y) (λ i. go d elem (part i)) is

    fields_read : (d : ℕ) (fields : List Field) (p : Items) (parts : List Part) → AreFields c Is d fields p parts →
        checked_parts (map (go_field reading c go d p) fields) ≡ Valid parts
    fields_read d fields p parts h =
        flat_fields d fields p ∙ gather_paired (one d p) (λ f x. (x.name ≡ f.name) × Is d f.ty (field_part c p f) x.val)
        (λ f x r. rw (exact.read_is d f.ty (field_part c p f) x.val r.1) (ap (λ n. Valid (named n x.val)) (sym r.0))) fields parts h

    read_fields : (d : ℕ) (fields : List Field) (p : Items) (parts : List Part) →
        checked_parts (map (go_field reading c go d p) fields) ≡ Valid parts → AreFields c Is d fields p parts
    read_fields d fields p parts e =
        paired_gather (one d p) (λ f x. (x.name ≡ f.name) × Is d f.ty (field_part c p f) x.val)
        (λ f x r. let w = map_valid (named f.name) (go d f.ty (field_part c p f)) x r in (
          ap (λ (y : Part). y.name) w.2,
          subst (Is d f.ty (field_part c p f)) (ap (λ (y : Part). y.val) (sym w.2))
              (exact.is_read d f.ty (field_part c p f) w.0 w.1),
        ))
        fields parts (sym (flat_fields d fields p) ∙ e)

    elements_read : (d : ℕ) (elem : TypeRef) (part : ℕ → Items) (count : ℕ) (shown : List Val) → AreElements c Is d elem part count shown →
        all_checked (go_elements reading c go d elem part count) ≡ Valid shown
    elements_read d elem part count shown h = flat_elements d elem part (shown_of c count)
        ∙ gather_paired (λ i. go d elem (part i)) (λ i y. Is d elem (part i) y) (λ i y r. exact.read_is d elem (part i) y r) (shown_of c count) shown h

    read_elements : (d : ℕ) (elem : TypeRef) (part : ℕ → Items) (count : ℕ) (shown : List Val) →
        all_checked (go_elements reading c go d elem part count) ≡ Valid shown → AreElements c Is d elem part count shown
    read_elements d elem part count shown e = paired_gather (λ i. go d elem (part i)) (λ i y. Is d elem (part i) y)
        (λ i y r. exact.is_read d elem (part i) y r) (shown_of c count) shown (sym (flat_elements d elem part (shown_of c count)) ∙ e)

    content_is : (to : TypeRef) (at : ℕ) (o : Option ℕ) (content : Option Val) → IsContent c Is to at o content →
        checked_content (go_content reading c go to at o) ≡ Valid content
    content_is to at None content h = ap Valid (sym h)
    content_is to at (Some e) content h = rw (exact.read_is e to (target_part c to at) h.0 h.2) (ap Valid (sym h.1))

    is_content : (to : TypeRef) (at : ℕ) (o : Option ℕ) (content : Option Val) → checked_content (go_content reading c go to at o) ≡ Valid content →
        IsContent c Is to at o content
    is_content to at None content e = sym (same_valid e)
    is_content to at (Some d) content e =
        let w = map_valid Some (go d to (target_part c to at)) content e in
        (w.0, w.2, exact.is_read d to (target_part c to at) w.0 w.1)

    far_is : (elem : TypeRef) (at len : ℕ) (o : Option ℕ) (content : Option Val) → IsFar c Is elem at len o content →
        checked_content (go_far reading c go elem at len o) ≡ Valid content
    far_is elem at len None content h = ap Valid (sym h)
    far_is elem at len (Some e) content h = rw (elements_read e elem (far_part c elem at) len h.0 h.2) (ap Valid (sym h.1))

    is_far : (elem : TypeRef) (at len : ℕ) (o : Option ℕ) (content : Option Val) →
        checked_content (go_far reading c go elem at len o) ≡ Valid content → IsFar c Is elem at len o content
    is_far elem at len None content e = sym (same_valid e)
    is_far elem at len (Some d) content e =
        let u = map_valid Some (map_checked (vals.Seq len) (all_checked (go_elements reading c go d elem (far_part c elem at) len))) content e in
        let w = map_valid (vals.Seq len) (all_checked (go_elements reading c go d elem (far_part c elem at) len)) u.0 u.1 in
        (w.0, u.2 ∙ ap Some w.2, read_elements d elem (far_part c elem at) len w.0 w.1)

    text_is : (at len : ℕ) (o : Option ℕ) (content : Option (List ℕ)) → IsText c Is at len o content →
        text_content (go_text reading c go at len o) ≡ Valid content
    text_is at len None content h = ap Valid (sym h)
    text_is at len (Some e) content h = rw (h.2, h.3) (ap Valid (sym h.1))

    is_text : (at len : ℕ) (o : Option ℕ) (content : Option (List ℕ)) → text_content (go_text reading c go at len o) ≡ Valid content →
        IsText c Is at len o content
    is_text at len None content e = sym (same_valid e)
    is_text at len (Some d) content e = text_valid (bytes_of (items_at c.memory at len)) content e

    def_read : (d : ℕ) (def : Option TypeDef) (p : Items) (x : Val) → IsOf c Is d def p x → go_def reading c go d def p ≡ Valid x
    unfolding go_def
    def_read d None p x h = absurd h
    def_read d (Some (defs.Struct name bytes align params fields)) p x h = rw (fields_read d fields p h.0 h.2) (ap Valid (sym h.1))
    def_read d (Some (defs.Array elem count)) p x h = rw (elements_read d elem (element_part c elem p) count h.0 h.2) (ap Valid (sym h.1))
    def_read d (Some (defs.Thin kind to)) p x h = rw (h.1, h.2, content_is to h.0 (below kind d) h.3 h.5) (ap Valid (sym h.4))
    def_read d (Some (defs.Slice name kind ptr)) p x h = slice_read d kind (pointee c.types ptr) p x h
      where
        slice_read : (d : ℕ) (kind : PtrKind) (e : Option TypeRef) (p : Items) (x : Val) → IsSlicePointer c Is d kind e p x →
            go_slice reading c go d kind e (number_at p 0 c.ptr) (number_at p c.ptr c.ptr) ≡ Valid x
        slice_read d kind None p x h = absurd h
        slice_read d kind (Some elem) p x h = rw (h.1, h.3, h.4, far_is elem h.0 h.2 (below kind d) h.5 h.7) (ap Valid (sym h.6))
    def_read d (Some (defs.Str name kind ptr)) p x h = rw (h.1, h.3, h.4, text_is h.0 h.2 (below kind d) h.5 h.7) (ap Valid (sym h.6))
    def_read d (Some (defs.Dyn name kind ptr vtable)) p x h = rw (h.1, h.3, h.4, h.5) (ap Valid (sym h.6))
    def_read d (Some defs.FnPtr) p x h = rw (h.1, some_function h.0 x h.2 h.3) refl
    def_read d (Some (defs.CLike name tag cases)) p x h = rw (h.1, h.3) (ap Valid (sym h.4))
    def_read d (Some (defs.Enum name bytes align params tag variants)) p x h = rw (h.1, h.3, fields_read d h.2.fields p h.4 h.6) (ap Valid (sym h.5))
    def_read d (Some (defs.Bytes name bytes align)) p x h = rw h.1 (ap Valid (sym h.2))

    read_thin : (d : ℕ) (kind : PtrKind) (to : TypeRef) (o : Option ℕ) (x : Val) → go_thin reading c go d kind to o ≡ Valid x →
        (at : ℕ) × (o ≡ Some at) × (may_point kind at ≡ true) × (content : Option Val) × (x ≡ vals.Pointer kind at content) × IsContent c Is to at
        (below kind d) content
    read_thin d kind to None x e = absurd (missing_valid e)
    read_thin d kind to (Some at) x e =
        let b = if_valid (may_point kind at) (map_checked (vals.Pointer kind at) (checked_content (go_content reading c go to at (below kind d)))) x e in
        let w = map_valid (vals.Pointer kind at) (checked_content (go_content reading c go to at (below kind d))) x b.1 in
        (at, refl, b.0, w.0, w.2, is_content to at (below kind d) w.0 w.1)

    read_span : (d : ℕ) (kind : PtrKind) (elem : TypeRef) (o q : Option ℕ) (x : Val) → go_slice reading c go d kind (Some elem) o q ≡ Valid x →
        (at : ℕ) × (o ≡ Some at) × (len : ℕ) × (q ≡ Some len) × (may_span c.ptr kind (size c.ptr c.types elem) at len ≡ true) × (content : Option Val)
        × (x ≡ vals.Slice kind at len content) × IsFar c Is elem at len (below kind d) content
    read_span d kind elem None None x e = absurd (missing_valid e)
    read_span d kind elem None (Some len) x e = absurd (missing_valid e)
    read_span d kind elem (Some at) None x e = absurd (missing_valid e)
    read_span d kind elem (Some at) (Some len) x e =
        let b =
        if_valid (may_span c.ptr kind (size c.ptr c.types elem) at len)
        (map_checked (vals.Slice kind at len) (checked_content (go_far reading c go elem at len (below kind d)))) x e in
        let w = map_valid (vals.Slice kind at len) (checked_content (go_far reading c go elem at len (below kind d))) x b.1 in
        (at, refl, len, refl, b.0, w.0, w.2, is_far elem at len (below kind d) w.0 w.1)

    read_slice : (d : ℕ) (kind : PtrKind) (e : Option TypeRef) (p : Items) (x : Val) →
        go_slice reading c go d kind e (number_at p 0 c.ptr) (number_at p c.ptr c.ptr) ≡ Valid x → IsSlicePointer c Is d kind e p x
    read_slice d kind None p x e = absurd (invalid_valid e)
    read_slice d kind (Some elem) p x e = read_span d kind elem (number_at p 0 c.ptr) (number_at p c.ptr c.ptr) x e

    read_str : (d : ℕ) (kind : PtrKind) (o q : Option ℕ) (x : Val) → go_str reading c go d kind o q ≡ Valid x →
        (at : ℕ) × (o ≡ Some at) × (len : ℕ) × (q ≡ Some len) × (may_span c.ptr kind 1 at len ≡ true) × (content : Option (List ℕ)) ×
        (x ≡ vals.Str kind at len content) × IsText c Is at len (below kind d) content
    read_str d kind None None x e = absurd (missing_valid e)
    read_str d kind None (Some len) x e = absurd (missing_valid e)
    read_str d kind (Some at) None x e = absurd (missing_valid e)
    read_str d kind (Some at) (Some len) x e =
        let b = if_valid (may_span c.ptr kind 1 at len) (map_checked (vals.Str kind at len) (text_content (go_text reading c go at len (below kind d)))) x e in
        let w = map_valid (vals.Str kind at len) (text_content (go_text reading c go at len (below kind d))) x b.1 in
        (at, refl, len, refl, b.0, w.0, w.2, is_text at len (below kind d) w.0 w.1)

    read_dyn : (kind : PtrKind) (o q : Option ℕ) (x : Val) → go_dyn reading c go kind o q ≡ Valid x →
        (at : ℕ) × (o ≡ Some at) × (vtable : ℕ) × (q ≡ Some vtable) × (may_point kind at ≡ true) × (may_point kind vtable ≡ true) ×
        (x ≡ vals.Dyn kind at vtable)
    read_dyn kind None None x e = absurd (missing_valid e)
    read_dyn kind None (Some vtable) x e = absurd (missing_valid e)
    read_dyn kind (Some at) None x e = absurd (missing_valid e)
    read_dyn kind (Some at) (Some vtable) x e =
        let b = if_valid (may_point kind at && may_point kind vtable) (Valid (vals.Dyn kind at vtable)) x e in
        let both = both_true (may_point kind at) (may_point kind vtable) b.0 in
        (at, refl, vtable, refl, both.0, both.1, sym (same_valid b.1))

    read_scalar : (value : ℕ → Option Val) (o : Option ℕ) (x : Val) → scalar_at reading value o ≡ Valid x → (n : ℕ) × (o ≡ Some n) × (value n ≡ Some x)
    read_scalar value None x e = absurd (missing_valid e)
    read_scalar value (Some n) x e = (n, refl, or_invalid_valid (value n) x e)

    read_variant : (d : ℕ) (p : Items) (o : Option Variant) (x : Val) → go_variant reading c go d p o ≡ Valid x →
        (w : Variant) × (o ≡ Some w) × (parts : List Part) × (x ≡ vals.Variant w.name parts) × AreFields c Is d w.fields p parts
    read_variant d p None x e = absurd (invalid_valid e)
    read_variant d p (Some u) x e =
        let w = map_valid (vals.Variant u.name) (checked_parts (map (go_field reading c go d p) u.fields)) x e in
        (u, refl, w.0, w.2, read_fields d u.fields p w.0 w.1)

    read_enum : (d : ℕ) (variants : List Variant) (p : Items) (o : Option ℕ) (x : Val) → go_enum reading c go d variants p o ≡ Valid x →
        (n : ℕ) × (o ≡ Some n) × (w : Variant) × (chosen variants n ≡ Some w) × (parts : List Part) × (x ≡ vals.Variant w.name parts) × AreFields c Is
        d w.fields p parts
    read_enum d variants p None x e = absurd (missing_valid e)
    read_enum d variants p (Some n) x e = let w = read_variant d p (chosen variants n) x e in (n, refl, w.0, w.1, w.2, w.3, w.4)

    read_def : (d : ℕ) (def : Option TypeDef) (p : Items) (x : Val) → go_def reading c go d def p ≡ Valid x → IsOf c Is d def p x
    unfolding go_def
    read_def d None p x e = absurd (invalid_valid e)
    read_def d (Some (defs.Struct name bytes align params fields)) p x e =
        let w = map_valid vals.Fields (checked_parts (map (go_field reading c go d p) fields)) x e in
        (w.0, w.2, read_fields d fields p w.0 w.1)
    read_def d (Some (defs.Array elem count)) p x e =
        let w = map_valid (vals.Seq count) (all_checked (go_elements reading c go d elem (element_part c elem p) count)) x e in
        (w.0, w.2, read_elements d elem (element_part c elem p) count w.0 w.1)
    read_def d (Some (defs.Thin kind to)) p x e = read_thin d kind to (number_at p 0 c.ptr) x e
    read_def d (Some (defs.Slice name kind ptr)) p x e = read_slice d kind (pointee c.types ptr) p x e
    read_def d (Some (defs.Str name kind ptr)) p x e = read_str d kind (number_at p 0 c.ptr) (number_at p c.ptr c.ptr) x e
    read_def d (Some (defs.Dyn name kind ptr vtable)) p x e = read_dyn kind (number_at p 0 c.ptr) (number_at p c.ptr c.ptr) x e
    read_def d (Some defs.FnPtr) p x e =
        let w = read_scalar function_value (number_at p 0 c.ptr) x e in
        let f = function_some w.0 x w.2 in
        (w.0, w.1, f.0, f.1)
    read_def d (Some (defs.CLike name tag cases)) p x e =
        let w = read_scalar (case_value cases) (number_at p 0 (prim_bytes c.ptr tag)) x e in
        let y = case_some (case_of cases w.0) x w.2 in
        (w.0, w.1, y.0, y.1, y.2)
    read_def d (Some (defs.Enum name bytes align params tag variants)) p x e = read_enum d variants p (tag_number c.ptr tag p) x e
    read_def d (Some (defs.Bytes name bytes align)) p x e =
        let w = map_valid vals.Bytes (or_missing (bytes_of p)) x e in
        (w.0, or_missing_valid (bytes_of p) w.0 w.1, w.2)

    layer_read : (d : ℕ) (ty : TypeRef) (p : Items) (x : Val) → IsLayer c Is d ty p x → go_layer reading c go d ty p ≡ Valid x
    layer_read d (Prim prim) p x h = rw (h.1, h.2) refl
    layer_read d (User i) p x h = def_read d (slice_get c.types i) p x h

    read_layer : (d : ℕ) (ty : TypeRef) (p : Items) (x : Val) → go_layer reading c go d ty p ≡ Valid x → IsLayer c Is d ty p x
    read_layer d (Prim prim) p x e = read_scalar (prim_value c.ptr prim) (number_at p 0 (prim_bytes c.ptr prim)) x e
    read_layer d (User i) p x e = read_def d (slice_get c.types i) p x e

  pub exact : (k : ℕ) → Exact (IsImageWithin c k) (read c k)
  unfolding IsImageWithin walk
  exact zero = record { read_is = λ d ty p x h. absurd h; is_read = λ d ty p x e. absurd (invalid_valid e) }
  exact (suc k) = record {
    read_is = layer_read (IsImageWithin c k) (read c k) (exact k);
    is_read = read_layer (IsImageWithin c k) (read c k) (exact k);
  }

  -- no two values share an image
  pub one_value : (k d : ℕ) (ty : TypeRef) (p : Items) (x y : Val) → IsImageWithin c k d ty p x → IsImageWithin c k d ty p y → x ≡ y
  one_value k d ty p x y h g = same_valid (sym ((exact k).read_is d ty p x h) ∙ (exact k).read_is d ty p y g)
