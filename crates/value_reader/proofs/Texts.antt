-- The texts of a value that has an image are UTF-8.
use Rattle.std.proofs.Common.{◌≡◌, ◌∙◌, ap, refl, ℕ, zero, suc, ◌&&◌, ◌==◌, Bool, true, false, cond, List, [], ◌∷◌, map, Option, Some, None}
use Rattle.std.specs.Prelude.{slice_get, nat_lt}
use Rattle.std.specs.Option.{option_map}
use lib.Utf8.{scalar}
use Rattle.names.specs.declared.name.PtrKind.{PtrKind}
use Rattle.rust_value.specs.declared.value.Val.{Val}
use Rattle.rust_value.specs.declared.value.Val.TheVariants as vals
use Rattle.rust_value.specs.declared.value.Part.{Part}
use Rattle.rust_value.specs.Utf8.{has_texts, part_has_texts, all_true, true_of, is_text}
use Rattle.rust_value.proofs.Parts.{texts-value}
use Rattle.rust_value.proofs.TextLevels.{texts-Fields, texts-Variant, texts-Seq, texts-Pointer, texts-Slice, texts-Str, texts-Dyn, texts-Function}
use Rattle.rust_value.proofs.TextLevels.{texts-Bytes, texts-Unit, texts-Bool, texts-Char, texts-Unsigned, texts-Signed, texts-Float32, texts-Float64}
use Rattle.layout_set.specs.declared.primitive.Primitive.{Primitive}
use Rattle.layout_set.specs.declared.primitive.Primitive.TheVariants as prim
use Rattle.layout_set.specs.declared.set.TypeRef.{TypeRef}
use Rattle.layout_set.specs.declared.set.TypeRef.TheVariants.{Prim, User}
use Rattle.layout_set.specs.declared.set.TypeDef.{TypeDef}
use Rattle.layout_set.specs.declared.set.TypeDef.TheVariants as defs
use Rattle.layout_set.specs.declared.set.Field.{Field}
use Rattle.layout_values.specs.Scalars.{prim_value}
use Rattle.layout_values.specs.Pointers.{below, pointee}
use Rattle.layout_values.specs.Contexts.{Items, Context, field_part, element_part, far_part, shown_of}
use Rattle.layout_values.specs.Images.{Paired, AreFields, IsContent, IsFar, IsText, IsSlicePointer, IsOf, IsLayer, IsImageWithin}

some_texts : (y x : Val) → Some y ≡ Some x → has_texts y ≡ true → has_texts x ≡ true
some_texts y x e h = ap has_texts (let f : x ≡ y = cc in f) ∙ h

if_texts : (b : Bool) (y x : Val) → cond b (Some y) None ≡ Some x → has_texts y ≡ true → has_texts x ≡ true
if_texts true y x e h = some_texts y x e h
if_texts false y x e h = absurd (cc)

prim_texts : (ptr : ℕ) (k : Primitive) (n : ℕ) (x : Val) → prim_value ptr k n ≡ Some x → has_texts x ≡ true
prim_texts ptr prim.Unit n x e = some_texts _ x e texts-Unit
prim_texts ptr prim.Bool n x e = if_texts (nat_lt n 2) (vals.Bool (n == 1)) x e (texts-Bool (n == 1))
prim_texts ptr prim.Char n x e = if_texts (scalar n) (vals.Char n) x e (texts-Char n)
prim_texts ptr prim.I8 n x e = some_texts _ x e (texts-Signed _)
prim_texts ptr prim.I16 n x e = some_texts _ x e (texts-Signed _)
prim_texts ptr prim.I32 n x e = some_texts _ x e (texts-Signed _)
prim_texts ptr prim.I64 n x e = some_texts _ x e (texts-Signed _)
prim_texts ptr prim.I128 n x e = some_texts _ x e (texts-Signed _)
prim_texts ptr prim.Isize n x e = some_texts _ x e (texts-Signed _)
prim_texts ptr prim.U8 n x e = some_texts _ x e (texts-Unsigned n)
prim_texts ptr prim.U16 n x e = some_texts _ x e (texts-Unsigned n)
prim_texts ptr prim.U32 n x e = some_texts _ x e (texts-Unsigned n)
prim_texts ptr prim.U64 n x e = some_texts _ x e (texts-Unsigned n)
prim_texts ptr prim.U128 n x e = some_texts _ x e (texts-Unsigned n)
prim_texts ptr prim.Usize n x e = some_texts _ x e (texts-Unsigned n)
prim_texts ptr prim.F32 n x e = some_texts _ x e (texts-Float32 n)
prim_texts ptr prim.F64 n x e = some_texts _ x e (texts-Float64 n)

both_true : (a b : Bool) → a ≡ true → b ≡ true → (a && b) ≡ true
both_true a b h g = rw h g

paired_texts : {A : Type 0} (R : A → Val → Type 0) → ((a : A) (x : Val) → R a x → has_texts x ≡ true) → (ys : List A) (xs : List Val) →
    Paired R ys xs → all_true (map has_texts xs) ≡ true
paired_texts R h [] [] p = refl
paired_texts R h [] (x ∷ xs) p = absurd p
paired_texts R h (a ∷ ys) [] p = absurd p
paired_texts R h (a ∷ ys) (x ∷ xs) p = both_true (has_texts x) (all_true (map has_texts xs)) (h a x p.0) (paired_texts R h ys xs p.1)

module _ (c : Context) (Is : ℕ → TypeRef → Items → Val → Type 0) (texts : (d : ℕ) (ty : TypeRef) (p : Items) (x : Val) → Is d ty p x → has_texts x ≡ true) where
  field_texts : (d : ℕ) (fields : List Field) (p : Items) (parts : List Part) → AreFields c Is d fields p parts → all_true (map part_has_texts parts) ≡ true
  field_texts d [] p [] h = refl
  field_texts d [] p (x ∷ xs) h = absurd h
  field_texts d (f ∷ fs) p [] h = absurd h
  field_texts d (f ∷ fs) p (x ∷ xs) h = both_true (part_has_texts x) (all_true (map part_has_texts xs))
      (texts-value x ∙ texts d f.ty (field_part c p f) x.val h.0.1) (field_texts d fs p xs h.1)

  content_texts : (to : TypeRef) (at : ℕ) (o : Option ℕ) (content : Option Val) → IsContent c Is to at o content → true_of (option_map has_texts content) ≡ true
  content_texts to at None content h = rw h refl
  content_texts to at (Some e) content h = rw h.1 (texts e to _ h.0 h.2)

  far_texts : (elem : TypeRef) (at len : ℕ) (o : Option ℕ) (content : Option Val) → IsFar c Is elem at len o content →
      true_of (option_map has_texts content) ≡ true
  far_texts elem at len None content h = rw h refl
  far_texts elem at len (Some e) content h = rw h.1
      (texts-Seq len h.0 ∙ paired_texts (λ i x. Is e elem (far_part c elem at i) x) (λ i x g. texts e elem (far_part c elem at i) x g) (shown_of c len) h.0 h.2)

  text_texts : (at len : ℕ) (o : Option ℕ) (content : Option (List ℕ)) → IsText c Is at len o content → is_text content ≡ true
  text_texts at len None content h = rw h refl
  text_texts at len (Some e) content h = rw h.1 h.3

  slice_texts : (d : ℕ) (kind : PtrKind) (e : Option TypeRef) (p : Items) (x : Val) → IsSlicePointer c Is d kind e p x → has_texts x ≡ true
  slice_texts d kind None p x h = absurd h
  slice_texts d kind (Some elem) p x h = ap has_texts h.6 ∙ texts-Slice kind h.0 h.2 h.5 ∙ far_texts elem h.0 h.2 (below kind d) h.5 h.7

  def_texts : (d : ℕ) (def : Option TypeDef) (p : Items) (x : Val) → IsOf c Is d def p x → has_texts x ≡ true
  def_texts d None p x h = absurd h
  def_texts d (Some (defs.Struct name bytes align params fields)) p x h = ap has_texts h.1 ∙ texts-Fields h.0 ∙ field_texts d fields p h.0 h.2
  def_texts d (Some (defs.Array elem count)) p x h = ap has_texts h.1 ∙ texts-Seq count h.0
      ∙ paired_texts (λ i y. Is d elem (element_part c elem p i) y) (λ i y g. texts d elem (element_part c elem p i) y g) (shown_of c count) h.0 h.2
  def_texts d (Some (defs.Thin kind to)) p x h = ap has_texts h.4 ∙ texts-Pointer kind h.0 h.3 ∙ content_texts to h.0 (below kind d) h.3 h.5
  def_texts d (Some (defs.Slice name kind ptr)) p x h = slice_texts d kind (pointee c.types ptr) p x h
  def_texts d (Some (defs.Str name kind ptr)) p x h = ap has_texts h.6 ∙ texts-Str kind h.0 h.2 h.5 ∙ text_texts h.0 h.2 (below kind d) h.5 h.7
  def_texts d (Some (defs.Dyn name kind ptr vtable)) p x h = ap has_texts h.6 ∙ texts-Dyn kind h.0 h.2
  def_texts d (Some defs.FnPtr) p x h = ap has_texts h.3 ∙ texts-Function h.0
  def_texts d (Some (defs.CLike name tag cases)) p x h = ap has_texts h.4 ∙ texts-Variant h.2.name []
  def_texts d (Some (defs.Enum name bytes align params tag variants)) p x h = ap has_texts h.5 ∙ texts-Variant h.2.name h.4 ∙ field_texts d h.2.fields p h.4 h.6
  def_texts d (Some (defs.Bytes name bytes align)) p x h = ap has_texts h.2 ∙ texts-Bytes h.0

  layer_texts : (d : ℕ) (ty : TypeRef) (p : Items) (x : Val) → IsLayer c Is d ty p x → has_texts x ≡ true
  layer_texts d (Prim k) p x h = prim_texts c.ptr k h.0 x h.2
  layer_texts d (User i) p x h = def_texts d (slice_get c.types i) p x h

-- a value that has an image has texts
pub image_texts : (c : Context) (k d : ℕ) (ty : TypeRef) (p : Items) (x : Val) → IsImageWithin c k d ty p x → has_texts x ≡ true
unfolding IsImageWithin
image_texts c zero d ty p x h = absurd h
image_texts c (suc k) d ty p x h = layer_texts c (IsImageWithin c k) (image_texts c k) d ty p x h
