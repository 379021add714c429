-- A value has as many nodes as its type reaches, in parts that are as long as their types.
use Rattle.std.proofs.Common.{◌≡◌, ◌∙◌, sym, ap, subst, refl, ℕ, zero, suc, ◌+◌, ◌*◌, ◌<◌, ◌≤◌, min, List, [], ◌∷◌, map, length, drop, sum}
use Rattle.std.proofs.Common.{length-drop, Option, Some, None, arith, IsSomeAnd}
use Rattle.std.proofs.Math.Nat.{suc-mul, mul-le-mul_right}
use Rattle.std.proofs.lemmas.List.{length-take-le}
use Rattle.std.proofs.lemmas.List.Sums.{sum_by-cons}
use Rattle.std.proofs.lemmas.Option.{slice_get_within, get_or_from_slice_get}
use Rattle.std.specs.Prelude.{slice_get}
use Rattle.std.specs.List.{AllByRecursion, range_with_len}
use Rattle.std.specs.Option.{option_map}
use Rattle.snapshot_file.specs.Memory.{items_at, sub}
use Rattle.image_view.proofs.ByteNumbers.{length_of_bytes}
use Rattle.names.specs.declared.name.PtrKind.{PtrKind}
use Rattle.rust_value.specs.declared.value.Val.{Val}
use Rattle.rust_value.specs.declared.value.Part.{Part}
use Rattle.rust_value.specs.Nodes.{nodes_of, part_nodes, content_nodes, shown_nodes}
use Rattle.layout_set.specs.declared.breach.Item.TheVariants.{Def}
use Rattle.layout_set.specs.declared.set.Set.{Set}
use Rattle.layout_set.specs.declared.set.TypeRef.{TypeRef}
use Rattle.layout_set.specs.declared.set.TypeRef.TheVariants.{Prim, User}
use Rattle.layout_set.specs.declared.set.TypeDef.{TypeDef}
use Rattle.layout_set.specs.declared.set.TypeDef.TheVariants as defs
use Rattle.layout_set.specs.declared.set.Field.{Field}
use Rattle.layout_set.specs.declared.set.Variant.{Variant}
use Rattle.layout_values.specs.Contexts.{Items, Context, number_at, tag_number, field_part, element_part, target_part, far_part, shown_of}
use Rattle.layout_set.specs.FirstBreach.{Holds}
use Rattle.layout_values.specs.Images.{Paired, AreFields, AreElements, IsContent, IsFar, IsText, IsSlicePointer, IsOf, IsLayer, IsImageWithin}
use Rattle.layout_set.specs.Law2.{Law2}
use Rattle.layout_set.specs.Law4.{EndsWithin, FieldsEndWithin, HasPartsWithin, Law4}
use Rattle.layout_values.specs.Pointers.{below, pointee}
use Rattle.layout_set.specs.Primitives.{prim_bytes}
use Rattle.layout_values.specs.Reached.{counting, named_total, total, content_total, text_total}
use Rattle.layout_values.specs.Scalars.{prim_value}
use Rattle.layout_set.specs.Sizes.{size, def_size}
use Rattle.layout_values.specs.Walk.{function_value, case_value, go_field, go_elements, go_content, go_far, go_thin, go_slice, go_text, go_str}
use Rattle.layout_values.specs.Walk.{go_enum, go_def, go_layer, walk}
use Rattle.layout_set.proofs.SizeLevels.{size_is}
use Rattle.value_reader.proofs.Contained.{of_all, OfSome, of_chosen}
use Rattle.value_reader.proofs.Levels.{scalar_counts, dyn_counts}
use Rattle.value_reader.proofs.NodeCounts.{part-nodes, nodes-Fields, nodes-Variant, nodes-Seq, nodes-Pointer, nodes-Slice, nodes-Str, nodes-Bytes}
use Rattle.value_reader.proofs.NodeCounts.{nodes-Dyn, nodes-Function, nodes-prim}
use Rattle.value_reader.proofs.Places.{length-items}

-- a part within a part has its whole length
sub_length : (p : Items) (off n : ℕ) → off + n ≤ length p → length (sub p off n) ≡ n
sub_length p off n h = length-take-le n (drop off p) (let e = length-drop off p in omega (arith, h, e))

-- an element of an array ends within it
element_ends : (s i count : ℕ) → i < count → i * s + s ≤ s * count
element_ends s i count h =
    let e = suc-mul i s in
    let l : suc i * s ≤ count * s = mul-le-mul_right s h in
    let f : count * s ≡ s * count = omega arith in
    omega (arith, e, l, f)

range_all : (P : ℕ → Type 0) (from n : ℕ) → ((i : ℕ) → i < from + n → P i) → AllByRecursion P (range_with_len from n)
range_all P from zero h = tt
range_all P from (suc n) h = (h from (omega arith), range_all P (from + 1) n (λ i l. h i (omega (arith, l))))

-- the types have the sizes that they are made of, and end around their parts
pub record Fit (ptr : ℕ) (types : List TypeDef) : Type 0 where
  pub sized : (i : ℕ) (t : TypeDef) → slice_get types i ≡ Some t → size ptr types (User i) ≡ def_size ptr (size ptr types) t
  pub ends : (i : ℕ) (t : TypeDef) → slice_get types i ≡ Some t → HasPartsWithin ptr types t

module _ (c : Context) (fit : Fit c.ptr c.types) where
  -- in parts of their types' sizes, values have as many nodes as are counted
  abbrev Agree : (ℕ → TypeRef → Items → Val → Type 0) → (ℕ → TypeRef → Items → ℕ) → Type 0
  Agree Is count = (d : ℕ) (ty : TypeRef) (p : Items) (x : Val) → length p ≡ size c.ptr c.types ty → Is d ty p x → nodes_of x ≡ count d ty p

  module _ (Is : ℕ → TypeRef → Items → Val → Type 0) (count : ℕ → TypeRef → Items → ℕ) (agree : Agree Is count) where
    fields_agree : (d bytes : ℕ) (p : Items) → length p ≡ bytes → (fields : List Field) (parts : List Part) →
        AllByRecursion (EndsWithin c.ptr c.types bytes) fields → AreFields c Is d fields p parts →
        sum (map part_nodes parts) ≡ named_total (map (go_field counting c count d p) fields)
    fields_agree d bytes p l [] [] a h = refl
    fields_agree d bytes p l [] (x ∷ parts) a h = absurd h
    fields_agree d bytes p l (f ∷ fields) [] a h = absurd h
    fields_agree d bytes p l (f ∷ fields) (x ∷ parts) a h =
        let within = a.0 in
        let long : length (field_part c p f) ≡ size c.ptr c.types f.ty = sub_length p f.off (size c.ptr c.types f.ty) (omega (arith, l, within)) in
        let one = agree d f.ty (field_part c p f) x.val long h.0.1 in
        let more = fields_agree d bytes p l fields parts a.1 h.1 in
        sum_by-cons (λ n. n) (part_nodes x) (map part_nodes parts) ∙ ap (λ n. n + sum (map part_nodes parts)) (part-nodes x ∙ one)
        ∙ ap (λ n. count d f.ty (field_part c p f) + n) more

    each_agrees : (d : ℕ) (elem : TypeRef) (part : ℕ → Items) (is : List ℕ) (xs : List Val) →
        AllByRecursion (λ i. length (part i) ≡ size c.ptr c.types elem) is → Paired (λ i x. Is d elem (part i) x) is xs →
        sum (map nodes_of xs) ≡ total (map (λ i. count d elem (part i)) is)
    each_agrees d elem part [] [] a h = refl
    each_agrees d elem part [] (x ∷ xs) a h = absurd h
    each_agrees d elem part (i ∷ is) [] a h = absurd h
    each_agrees d elem part (i ∷ is) (x ∷ xs) a h =
        let one = agree d elem (part i) x a.0 h.0 in
        let more = each_agrees d elem part is xs a.1 h.1 in
        sum_by-cons (λ n. n) (nodes_of x) (map nodes_of xs) ∙ ap (λ n. n + sum (map nodes_of xs)) one ∙ ap (λ n. count d elem (part i) + n) more

    elements_agree : (d : ℕ) (elem : TypeRef) (part : ℕ → Items) (n : ℕ) (shown : List Val) →
        ((i : ℕ) → i < n → length (part i) ≡ size c.ptr c.types elem) → AreElements c Is d elem part n shown →
        sum (map nodes_of shown) ≡ total (go_elements counting c count d elem part n)
    elements_agree d elem part n shown a h = each_agrees d elem part (shown_of c n) shown
        (range_all (λ i. length (part i) ≡ size c.ptr c.types elem) 0 (min n c.width) (λ i l. a i (omega (arith, l)))) h

    content_agrees : (to : TypeRef) (at : ℕ) (o : Option ℕ) (content : Option Val) → IsContent c Is to at o content →
        content_nodes (option_map nodes_of content) ≡ content_total (go_content counting c count to at o)
    content_agrees to at None content h = ap (λ y. content_nodes (option_map nodes_of y)) h
    content_agrees to at (Some e) content h =
        ap (λ y. content_nodes (option_map nodes_of y)) h.1
        ∙ agree e to (target_part c to at) h.0 (length-items c.memory at (size c.ptr c.types to)) h.2

    far_agrees : (elem : TypeRef) (at len : ℕ) (o : Option ℕ) (content : Option Val) → IsFar c Is elem at len o content →
        content_nodes (option_map nodes_of content) ≡ content_total (go_far counting c count elem at len o)
    far_agrees elem at len None content h = ap (λ y. content_nodes (option_map nodes_of y)) h
    far_agrees elem at len (Some e) content h =
        ap (λ y. content_nodes (option_map nodes_of y)) h.1
        ∙ nodes-Seq len h.0
        ∙ ap (λ n. 1 + n)
        (elements_agree e elem (far_part c elem at) len h.0 (λ i l. length-items c.memory (at + i * size c.ptr c.types elem) (size c.ptr c.types elem)) h.2)

    text_agrees : (at len : ℕ) (o : Option ℕ) (content : Option (List ℕ)) → IsText c Is at len o content →
        shown_nodes content ≡ text_total len (go_text counting c count at len o)
    text_agrees at len None content h = ap shown_nodes h
    text_agrees at len (Some e) content h = ap shown_nodes h.1 ∙ length_of_bytes (items_at c.memory at len) h.0 h.2 ∙ length-items c.memory at len

    slice_agrees : (d : ℕ) (kind : PtrKind) (e : Option TypeRef) (p : Items) (x : Val) → IsSlicePointer c Is d kind e p x →
        nodes_of x ≡ 1 + go_slice counting c count d kind e (number_at p 0 c.ptr) (number_at p c.ptr c.ptr)
    slice_agrees d kind None p x h = absurd h
    slice_agrees d kind (Some elem) p x h =
        let counted : go_slice counting c count d kind (Some elem) (number_at p 0 c.ptr) (number_at p c.ptr c.ptr) ≡ content_total
        (go_far counting c count elem h.0 h.2 (below kind d)) =
        rw (h.1, h.3, h.4) refl in
        ap nodes_of h.6 ∙ nodes-Slice kind h.0 h.2 h.5 ∙ ap (λ n. 1 + n) (far_agrees elem h.0 h.2 (below kind d) h.5 h.7 ∙ sym counted)

    def_agrees : (d i : ℕ) (o : Option TypeDef) (p : Items) (x : Val) → slice_get c.types i ≡ o → length p ≡ size c.ptr c.types (User i) →
        IsOf c Is d o p x → nodes_of x ≡ 1 + go_def counting c count d o p
    unfolding go_def HasPartsWithin
    def_agrees d i None p x s l h = absurd h
    def_agrees d i (Some (defs.Struct name bytes align params fields)) p x s l h =
        let fits = of_all (EndsWithin c.ptr c.types bytes) fields (fit.ends i (defs.Struct name bytes align params fields) s) in
        let long : length p ≡ bytes = l ∙ fit.sized i (defs.Struct name bytes align params fields) s in
        ap nodes_of h.1 ∙ nodes-Fields h.0 ∙ ap (λ n. 1 + n) (fields_agree d bytes p long fields h.0 fits h.2)
    def_agrees d i (Some (defs.Array elem n)) p x s l h =
        let long : length p ≡ size c.ptr c.types elem * n = l ∙ fit.sized i (defs.Array elem n) s in
        ap nodes_of h.1 ∙ nodes-Seq n h.0
        ∙ ap (λ n. 1 + n) (elements_agree d elem (element_part c elem p) n h.0
        (λ j within. sub_length p (j * size c.ptr c.types elem) (size c.ptr c.types elem)
        (subst (λ m. j * size c.ptr c.types elem + size c.ptr c.types elem ≤ m) (sym long) (element_ends (size c.ptr c.types elem) j n within)))
        h.2)
    def_agrees d i (Some (defs.Thin kind to)) p x s l h =
        let counted : go_thin counting c count d kind to (number_at p 0 c.ptr) ≡ content_total (go_content counting c count to h.0 (below kind d)) =
        rw (h.1, h.2) refl in
        ap nodes_of h.4 ∙ nodes-Pointer kind h.0 h.3 ∙ ap (λ n. 1 + n) (content_agrees to h.0 (below kind d) h.3 h.5 ∙ sym counted)
    def_agrees d i (Some (defs.Slice name kind ptr)) p x s l h = slice_agrees d kind (pointee c.types ptr) p x h
    def_agrees d i (Some (defs.Str name kind ptr)) p x s l h =
        let counted : go_str counting c count d kind (number_at p 0 c.ptr) (number_at p c.ptr c.ptr) ≡ text_total h.2
        (go_text counting c count h.0 h.2 (below kind d)) =
        rw (h.1, h.3, h.4) refl in
        ap nodes_of h.6 ∙ nodes-Str kind h.0 h.2 h.5 ∙ ap (λ n. 1 + n) (text_agrees h.0 h.2 (below kind d) h.5 h.7 ∙ sym counted)
    def_agrees d i (Some (defs.Dyn name kind ptr vtable)) p x s l h =
        ap nodes_of h.6 ∙ nodes-Dyn kind h.0 h.2 ∙ ap (λ n. 1 + n) (sym (dyn_counts c count kind (number_at p 0 c.ptr) (number_at p c.ptr c.ptr)))
    def_agrees d i (Some defs.FnPtr) p x s l h = ap nodes_of h.3 ∙ nodes-Function h.0
        ∙ ap (λ n. 1 + n) (sym (scalar_counts function_value (number_at p 0 c.ptr)))
    def_agrees d i (Some (defs.CLike name tag cases)) p x s l h =
        ap nodes_of h.4 ∙ nodes-Variant h.2.name [] ∙ ap (λ n. 1 + n) (sym (scalar_counts (case_value cases) (number_at p 0 (prim_bytes c.ptr tag))))
    def_agrees d i (Some (defs.Enum name bytes align params tag variants)) p x s l h =
        let t = defs.Enum name bytes align params tag variants in
        let P : Variant → Type 0 = λ v. FieldsEndWithin c.ptr c.types bytes v.fields in
        let here : P h.2 = subst (OfSome P) h.3 (of_chosen P variants h.0 (of_all P variants (fit.ends i t s).1)) in
        let long : length p ≡ bytes = l ∙ fit.sized i t s in
        let counted : go_enum counting c count d variants p (tag_number c.ptr tag p) ≡ named_total (map (go_field counting c count d p) h.2.fields) =
        rw (h.1, h.3) refl in
        ap nodes_of h.5 ∙ nodes-Variant h.2.name h.4
        ∙ ap (λ n. 1 + n) (fields_agree d bytes p long h.2.fields h.4 (of_all (EndsWithin c.ptr c.types bytes) h.2.fields here) h.6 ∙ sym counted)
    def_agrees d i (Some (defs.Bytes name bytes align)) p x s l h =
        ap nodes_of h.2 ∙ nodes-Bytes h.0 ∙ ap (λ n. 1 + n) (length_of_bytes p h.0 h.1 ∙ l ∙ fit.sized i (defs.Bytes name bytes align) s)

    layer_agrees : (d : ℕ) (ty : TypeRef) (p : Items) (x : Val) → length p ≡ size c.ptr c.types ty → IsLayer c Is d ty p x →
        nodes_of x ≡ go_layer counting c count d ty p
    layer_agrees d (Prim prim) p x l h = nodes-prim c.ptr prim h.0 x h.2
        ∙ ap (λ n. 1 + n) (sym (scalar_counts (prim_value c.ptr prim) (number_at p 0 (prim_bytes c.ptr prim))))
    layer_agrees d (User i) p x l h = def_agrees d i (slice_get c.types i) p x refl l h

  pub nodes_agree : (k : ℕ) → Agree (IsImageWithin c k) (walk counting c k)
  unfolding IsImageWithin walk
  nodes_agree zero d ty p x l h = absurd h
  nodes_agree (suc k) d ty p x l h = layer_agrees (IsImageWithin c k) (walk counting c k) (nodes_agree k) d ty p x l h

-- laws 2 and 4 say so
pub fits : (set : Set) → Holds set (Law2 set) → Holds set (Law4 set) → Fit set.target.ptr set.types
fits set shallow ends = record {
  sized = λ i t e. subst (λ o. IsSomeAnd o (λ t. size set.target.ptr set.types (User i) ≡ def_size set.target.ptr (size set.target.ptr set.types) t))
      e (size_is set (User i) shallow (slice_get_within set.types i t e));
  ends = λ i t e. subst (HasPartsWithin set.target.ptr set.types) (get_or_from_slice_get set.types i t t e) (ends (Def i) (slice_get_within set.types i t e) t);
}
