-- In an honest set the test accepts each leaf whose numbers are in the span.
use Rattle.std.proofs.Common.{◌≡◌, ℕ, zero, suc, ◌-◌, ◌<◌, ◌⊎◌, inl, inr, ◌==◌, ◌&&◌, ◌||◌, Bool, true, false, if◌then◌else◌, List, [], ◌∷◌, length, map, Option, Some, None, slice_get, get_or, IsSomeAnd, refl, sym, ap, subst, ◌∙◌, arith}
use Rattle.std.specs.Bool.{Decides}
use Rattle.std.specs.List.{All, Contains, list_all, cons_option}
use Rattle.std.proofs.lemmas.Grind.{common_steps}
use Rattle.std.proofs.lemmas.Option.{slice_get_within, get_or_from_slice_get}
use Rattle.std.proofs.lemmas.List.Elements.{Contains-get_or, Contains-append_left, Contains-append_right}
use Rattle.layout_set.specs.declared.breach.Item.TheVariants.{Def}
use Rattle.layout_set.specs.declared.set.Set.{Set}
use Rattle.layout_set.specs.declared.set.Field.{Field}
use Rattle.layout_set.specs.declared.set.Case.{Case}
use Rattle.layout_set.specs.declared.set.Tag.{Tag}
use Rattle.layout_set.specs.declared.set.Variant.{Variant}
use Rattle.layout_set.specs.declared.set.Selector.{Selector}
use Rattle.layout_set.specs.declared.set.Selector.TheVariants.{Exact, Span, Only}
use Rattle.layout_set.specs.declared.set.TypeRef.{TypeRef}
use Rattle.layout_set.specs.declared.set.TypeRef.TheVariants.{Prim, User}
use Rattle.layout_set.specs.declared.set.TypeDef.{TypeDef}
use Rattle.layout_set.specs.declared.set.TypeDef.TheVariants.{Struct, Array, Thin, Slice, Str, Dyn, FnPtr, CLike, Enum, Bytes}
use Rattle.layout_honest.specs.declared.honesty.Niche.{Niche}
use Rattle.layout_set.specs.FirstBreach.{Holds}
use Rattle.names.specs.Pointers.{is_non_null}
use Rattle.layout_set.specs.Law2.{Law2}
use Rattle.layout_set.specs.Law8.{exact_number, exact_numbers}
use Rattle.layout_set.specs.Primitives.{prim_bytes}
use Rattle.layout_set.specs.References.{contents, field_types, variant_types}
use Rattle.layout_honest.specs.Honest.{InSpan, holder, holds_bytes, struct_fields, IsPrimLeaf, IsTypeLeaf, HasLeaf, of_prim, of_type, in_struct, IsAddress, IsTypeNumber, HasNumber, of_prim_number, of_type_number, in_struct_number, in_span_number, LiesOnLeaf, IsHonestVariant, IsHonestType, IsHonest}
use Rattle.layout_honest.specs.Lies.{in_span, pointer_lies, field_lies, selector_lies, def_lies, def_lies_at, lies, honest_selector, honest_type}
use Rattle.layout_honest.proofs.Ranges.{in_span_decides}
use Rattle.layout_honest.proofs.Leaves.{some_same, clash, untrue, both, equals, all_pass, prim_back, pointer_back, lies_forth}
use Rattle.layout_set.proofs.SizeLevels.{HasChains, element_chains, shallow_chains}

-- the constructors of a leaf, by what it is of
record TypeLeaf (types : List TypeDef) (width i off : ℕ) : Type 0 where
  t : TypeDef
  at : slice_get types i ≡ Some t
  is : IsTypeLeaf 8 width off t

record FieldLeaf (types : List TypeDef) (width i off : ℕ) : Type 0 where
  t : TypeDef
  field : Field
  at : slice_get types i ≡ Some t
  held : holder 8 types width off (struct_fields t) ≡ Some field
  inner : HasLeaf 8 types width field.ty (off - field.off)

abbrev LeafShape : List TypeDef → ℕ → TypeRef → ℕ → Type 0
LeafShape types width (Prim prim) off = IsPrimLeaf width off prim
LeafShape types width (User i) off = TypeLeaf types width i off ⊎ FieldLeaf types width i off

leaf_shape : (types : List TypeDef) (width : ℕ) (ty : TypeRef) (off : ℕ) → HasLeaf 8 types width ty off → LeafShape types width ty off
leaf_shape types width _ _ (of_prim prim off is) = is
leaf_shape types width _ _ (of_type i off t at is) = inl (record { t = t; at = at; is = is })
leaf_shape types width _ _ (in_struct i off t field at held inner) = inr (record { t = t; field = field; at = at; held = held; inner = inner })

member_head : {X : Type 0} (x : X) (xs : List X) → Contains (x ∷ xs) x
member_head x xs = (zero, (let z : zero < suc (length xs) = omega arith in z), refl)

member_tail : {X : Type 0} (y x : X) (xs : List X) → Contains xs x → Contains (y ∷ xs) x
member_tail y x xs c = (suc c.0, (let h = c.1 in let z : suc c.0 < suc (length xs) = omega (arith, h) in z), c.2)

map_at : {X Y : Type 0} (f : X → Y) (xs : List X) (k : ℕ) (x : X) → k < length xs → get_or xs k x ≡ x → Contains (map f xs) (f x)
map_at f [] k x h e = elim (let z : ⊥ = omega (arith, h) in z) [ ]
map_at f (y ∷ ys) zero x h e = subst (λ z. Contains (f y ∷ map f ys) (f z)) e (member_head (f y) (map f ys))
map_at f (y ∷ ys) (suc k) x h e = member_tail (f y) (f x) (map f ys) (map_at f ys k x (omega (arith, h)) e)

member_map : {X Y : Type 0} (f : X → Y) (xs : List X) (x : X) → Contains xs x → Contains (map f xs) (f x)
member_map f xs x c = map_at f xs c.0 x c.1 c.2

variants_at : (variants : List Variant) (k : ℕ) (v : Variant) (ty : TypeRef) → k < length variants → get_or variants k v ≡ v → Contains (field_types v.fields) ty → Contains (variant_types variants) ty
variants_at [] k v ty h e c = elim (let z : ⊥ = omega (arith, h) in z) [ ]
variants_at (u ∷ us) zero v ty h e c = Contains-append_left (field_types u.fields) (variant_types us) ty (subst (λ (w : Variant). Contains (field_types w.fields) ty) (sym e) c)
variants_at (u ∷ us) (suc k) v ty h e c = Contains-append_right (field_types u.fields) (variant_types us) ty (variants_at us k v ty (omega (arith, h)) e c)

exact_option : (o : Option ℕ) (xs : List ℕ) (n : ℕ) → Contains xs n → Contains (cons_option o xs) n
exact_option None xs n c = c
exact_option (Some m) xs n c = member_tail m n xs c

exact_at : (variants : List Variant) (k : ℕ) (v : Variant) (n : ℕ) → k < length variants → get_or variants k v ≡ v → exact_number v.sel ≡ Some n → Contains (exact_numbers variants) n
exact_at [] k v n h e is = elim (let z : ⊥ = omega (arith, h) in z) [ ]
exact_at (u ∷ us) zero v n h e is = subst (λ o. Contains (cons_option o (exact_numbers us)) n) (sym is ∙ ap (λ (w : Variant). exact_number w.sel) (sym e)) (member_head n (exact_numbers us))
exact_at (u ∷ us) (suc k) v n h e is = exact_option (exact_number u.sel) (exact_numbers us) n (exact_at us k v n (omega (arith, h)) e is)

holder_by : (types : List TypeDef) (width off : ℕ) (field : Field) (fields : List Field) (f : Field) (b : Bool) → (holder 8 types width off fields ≡ Some f → Contains fields f) → (if b then Some field else holder 8 types width off fields) ≡ Some f → Contains (field ∷ fields) f
holder_by types width off field fields f true more e = subst (Contains (field ∷ fields)) (some_same field f e) (member_head field fields)
holder_by types width off field fields f false more e = member_tail field f fields (more e)

holder_member : (types : List TypeDef) (width off : ℕ) (fields : List Field) (f : Field) → holder 8 types width off fields ≡ Some f → Contains fields f
holder_member types width off [] f e = clash f e
holder_member types width off (field ∷ fields) f e = holder_by types width off field fields f (holds_bytes 8 types width off field) (holder_member types width off fields f) e

held_type : (types : List TypeDef) (width off : ℕ) (fields : List Field) (f : Field) → holder 8 types width off fields ≡ Some f → Contains (field_types fields) f.ty
held_type types width off fields f e = member_map (λ (g : Field). g.ty) fields f (holder_member types width off fields f e)

-- what the test says of the contents of a type
abbrev Back : List TypeDef → Niche → (TypeRef → ℕ → Bool) → List TypeRef → Type 0
Back types niche rest contained = (ty : TypeRef) (off : ℕ) → Contains contained ty → HasLeaf 8 types niche.width ty off → ((n : ℕ) → HasNumber 8 types niche.width ty off n → InSpan niche.first niche.last n) → rest ty off ≡ true

pointer_test : (types : List TypeDef) (niche : Niche) (i off : ℕ) (t : TypeDef) (to : ℕ) → slice_get types i ≡ Some t → ((n : ℕ) → IsAddress 8 n → IsTypeNumber 8 n t) → to ≡ 0 → niche.width ≡ 8 → ((n : ℕ) → HasNumber 8 types niche.width (User i) off n → InSpan niche.first niche.last n) → pointer_lies 8 niche to ≡ true
pointer_test types niche i off t to at own b w all = pointer_back niche to (record { begin = b; wide = w; addresses = λ n h. all n (of_type_number i off n t at (own n h)) })

either_true : (a b : Bool) → a ≡ true → (a || b) ≡ true
either_true a b e = grind (arith, common_steps, e)

or_true : (a b : Bool) → b ≡ true → (a || b) ≡ true
or_true true b e = refl
or_true false b e = e

dyn_test : (types : List TypeDef) (niche : Niche) (i off : ℕ) (t : TypeDef) → slice_get types i ≡ Some t → ((n : ℕ) → IsAddress 8 n → IsTypeNumber 8 n t) → (off ≡ 0) ⊎ (off ≡ 8) → niche.width ≡ 8 → ((n : ℕ) → HasNumber 8 types niche.width (User i) off n → InSpan niche.first niche.last n) → (pointer_lies 8 niche off || (off == 8 && pointer_lies 8 niche 0)) ≡ true
dyn_test types niche i off t at own (inl b) w all = either_true (pointer_lies 8 niche off) (off == 8 && pointer_lies 8 niche 0) (pointer_test types niche i off t off at own b w all)
dyn_test types niche i off t at own (inr b) w all = or_true (pointer_lies 8 niche off) (off == 8 && pointer_lies 8 niche 0) (both (off == 8) (pointer_lies 8 niche 0) (equals off 8 b) (pointer_test types niche i off t 0 at own refl w all))

-- an inner variant whose tag is this one
selector_test : (types : List TypeDef) (niche : Niche) (rest : TypeRef → ℕ → Bool) (i off : ℕ) (t : TypeDef) (tag : Tag) (sel : Selector) (fields : List Field) → off ≡ tag.off → niche.width ≡ prim_bytes 8 tag.prim
    → Back types niche rest (field_types fields)
    → ((n : ℕ) → exact_number sel ≡ Some n → InSpan niche.first niche.last n)
    → ((first last : ℕ) (f : Field) → sel ≡ Span first last → holder 8 types niche.width off fields ≡ Some f → (n : ℕ) → InSpan first last n → HasNumber 8 types niche.width f.ty (off - f.off) n → InSpan niche.first niche.last n)
    → IsHonestVariant 8 types tag sel fields → selector_lies 8 rest types niche off sel fields ≡ true
selector_test types niche rest i off t tag (Exact number) fields o w ih exact span honest = (in_span_decides niche number).1 (exact number refl)
selector_test types niche rest i off t tag Only fields o w ih exact span honest = refl
selector_test types niche rest i off t tag (Span first last) fields o w ih exact span honest =
    let same : IsSomeAnd (holder 8 types niche.width off fields) (λ f. LiesOnLeaf 8 types niche.width f.ty (off - f.off) first last) =
    subst (λ x. IsSomeAnd (holder 8 types niche.width x fields) (λ f. LiesOnLeaf 8 types niche.width f.ty (x - f.off) first last)) (sym o)
    (subst (λ y. IsSomeAnd (holder 8 types y tag.off fields) (λ f. LiesOnLeaf 8 types y f.ty (tag.off - f.off) first last)) (sym w) honest) in
    by_field (holder 8 types niche.width off fields) refl same
  where
    by_field : (h : Option Field) → holder 8 types niche.width off fields ≡ h → IsSomeAnd h (λ f. LiesOnLeaf 8 types niche.width f.ty (off - f.off) first last) → field_lies rest off h ≡ true
    by_field None e l = elim l [ ]
    by_field (Some f) e l = ih f.ty (off - f.off) (held_type types niche.width off fields f e) l.leaf (λ n h. span first last f refl e n (l.numbers n h) h)

def_back : (types : List TypeDef) (niche : Niche) (rest : TypeRef → ℕ → Bool) (i off : ℕ) (t : TypeDef) → slice_get types i ≡ Some t → IsHonestType 8 types t → Back types niche rest (contents t) → IsTypeLeaf 8 niche.width off t → ((n : ℕ) → HasNumber 8 types niche.width (User i) off n → InSpan niche.first niche.last n) → def_lies 8 rest types niche off t ≡ true
unfolding IsHonestType
def_back types niche rest i off (Struct name size align params fields) at honest ih leaf all = elim leaf [ ]
def_back types niche rest i off (Array elem count) at honest ih leaf all = elim leaf [ ]
def_back types niche rest i off (Thin kind to) at honest ih leaf all = both (is_non_null kind) (pointer_lies 8 niche off) leaf.0 (pointer_test types niche i off (Thin kind to) off at (λ n h. h) leaf.1.0 leaf.1.1 all)
def_back types niche rest i off (Slice name kind ptr) at honest ih leaf all = both (is_non_null kind) (pointer_lies 8 niche off) leaf.0 (pointer_test types niche i off (Slice name kind ptr) off at (λ n h. h) leaf.1.0 leaf.1.1 all)
def_back types niche rest i off (Str name kind ptr) at honest ih leaf all = both (is_non_null kind) (pointer_lies 8 niche off) leaf.0 (pointer_test types niche i off (Str name kind ptr) off at (λ n h. h) leaf.1.0 leaf.1.1 all)
def_back types niche rest i off (Dyn name kind ptr vtable) at honest ih leaf all = both (is_non_null kind) (pointer_lies 8 niche off || (off == 8 && pointer_lies 8 niche 0)) leaf.0 (dyn_test types niche i off (Dyn name kind ptr vtable) at (λ n h. h) leaf.1.0 leaf.1.1 all)
def_back types niche rest i off FnPtr at honest ih leaf all = pointer_test types niche i off FnPtr off at (λ n h. h) leaf.0 leaf.1 all
def_back types niche rest i off (CLike name tag cases) at honest ih leaf all =
    let test : Case → Bool = λ c. in_span niche c.number in
    both (off == 0) (niche.width == prim_bytes 8 tag && list_all test cases) (equals off 0 leaf.0) (both (niche.width == prim_bytes 8 tag) (list_all test cases) (equals niche.width (prim_bytes 8 tag) leaf.1)
    ((all_pass test cases).1 (λ k d h. (in_span_decides niche (get_or cases k d).number).1 (all (get_or cases k d).number (of_type_number i off (get_or cases k d).number (CLike name tag cases) at (member_map (λ (c : Case). c.number) cases (get_or cases k d) (Contains-get_or cases k d h)))))))
def_back types niche rest i off (Enum name size align params None variants) at honest ih leaf all = elim leaf [ ]
def_back types niche rest i off (Enum name size align params (Some tag) variants) at honest ih leaf all =
    let t = Enum name size align params (Some tag) variants in
    let test : Variant → Bool = λ v. selector_lies 8 rest types niche off v.sel v.fields in
    both (off == tag.off) (niche.width == prim_bytes 8 tag.prim && list_all test variants) (equals off tag.off leaf.0) (both (niche.width == prim_bytes 8 tag.prim) (list_all test variants) (equals niche.width (prim_bytes 8 tag.prim) leaf.1)
    ((all_pass test variants).1 (λ k d h.
    let v = get_or variants k d in
    let m : Contains variants v = Contains-get_or variants k d h in
    selector_test types niche rest i off t tag v.sel v.fields leaf.0 leaf.1
    (λ ty o c l a. ih ty o (variants_at variants m.0 v ty m.1 m.2 c) l a)
    (λ n is. all n (of_type_number i off n t at (exact_at variants m.0 v n m.1 m.2 is)))
    (λ first last f is held n s q. all n (in_span_number i off n t v first last f at m is s held q))
    (honest k d h))))
def_back types niche rest i off (Bytes name size align) at honest ih leaf all = elim leaf [ ]

struct_back : (types : List TypeDef) (niche : Niche) (rest : TypeRef → ℕ → Bool) (i off : ℕ) (t : TypeDef) (field : Field) → slice_get types i ≡ Some t → Back types niche rest (contents t) → holder 8 types niche.width off (struct_fields t) ≡ Some field → HasLeaf 8 types niche.width field.ty (off - field.off) → ((n : ℕ) → HasNumber 8 types niche.width (User i) off n → InSpan niche.first niche.last n) → def_lies 8 rest types niche off t ≡ true
struct_back types niche rest i off (Struct name size align params fields) field at ih held leaf all =
    subst (λ o. field_lies rest off o ≡ true) (sym held) (ih field.ty (off - field.off) (held_type types niche.width off fields field held) leaf (λ n h. all n (in_struct_number i off n (Struct name size align params fields) field at held h)))
struct_back types niche rest i off (Array elem count) field at ih held leaf all = clash field held
struct_back types niche rest i off (Thin kind to) field at ih held leaf all = clash field held
struct_back types niche rest i off (Slice name kind ptr) field at ih held leaf all = clash field held
struct_back types niche rest i off (Str name kind ptr) field at ih held leaf all = clash field held
struct_back types niche rest i off (Dyn name kind ptr vtable) field at ih held leaf all = clash field held
struct_back types niche rest i off FnPtr field at ih held leaf all = clash field held
struct_back types niche rest i off (CLike name tag cases) field at ih held leaf all = clash field held
struct_back types niche rest i off (Enum name size align params tag variants) field at ih held leaf all = clash field held
struct_back types niche rest i off (Bytes name size align) field at ih held leaf all = clash field held

honest_at : (types : List TypeDef) → All (IsHonestType 8 types) types → (i : ℕ) (t : TypeDef) → slice_get types i ≡ Some t → IsHonestType 8 types t
honest_at types honest i t at = subst (IsHonestType 8 types) (get_or_from_slice_get types i t t at) (honest i t (slice_get_within types i t at))

-- In an honest set the test accepts what lies on a leaf whose numbers are in the span.
pub lies_back : (k : ℕ) (types : List TypeDef) (niche : Niche) → All (IsHonestType 8 types) types → (ty : TypeRef) (off : ℕ) → HasChains types k ty → HasLeaf 8 types niche.width ty off → ((n : ℕ) → HasNumber 8 types niche.width ty off n → InSpan niche.first niche.last n) → lies 8 (suc k) types niche ty off ≡ true
unfolding lies
lies_back k types niche honest (Prim prim) off chains leaf all = prim_back niche prim off (leaf_shape types niche.width (Prim prim) off leaf) (λ n h. all n (of_prim_number prim off n h))
lies_back zero types niche honest (User i) off chains leaf all = elim (leaf_shape types niche.width (User i) off leaf) as (λ _. lies 8 (suc zero) types niche (User i) off ≡ true) [
  | inl x ↦ elim (let m = chains [] (slice_get_within types i x.t x.at, (tt, tt)) in let z : ⊥ = omega (arith, m) in z) [ ]
  | inr x ↦ elim (let m = chains [] (slice_get_within types i x.t x.at, (tt, tt)) in let z : ⊥ = omega (arith, m) in z) [ ]
]
lies_back (suc k) types niche honest (User i) off chains leaf all = elim (leaf_shape types niche.width (User i) off leaf) as (λ _. def_lies_at 8 (lies 8 (suc k) types niche) types niche off (slice_get types i) ≡ true) [
  | inl x ↦ subst (λ o. def_lies_at 8 (lies 8 (suc k) types niche) types niche off o ≡ true) (sym x.at)
      (def_back types niche (lies 8 (suc k) types niche) i off x.t x.at (honest_at types honest i x.t x.at) (λ ty o c l a. lies_back k types niche honest ty o (element_chains types i k x.t ty x.at c chains) l a) x.is all)
  | inr x ↦ subst (λ o. def_lies_at 8 (lies 8 (suc k) types niche) types niche off o ≡ true) (sym x.at)
      (struct_back types niche (lies 8 (suc k) types niche) i off x.t x.field x.at (λ ty o c l a. lies_back k types niche honest ty o (element_chains types i k x.t ty x.at c chains) l a) x.held x.inner all)
]

chains_of : (set : Set) → Holds set (Law2 set) → (ty : TypeRef) → HasChains set.types 256 ty
chains_of set shallow (Prim prim) = tt
chains_of set shallow (User j) = λ rest c. shallow_chains set.types j (shallow (Def j) c.0) rest c

selector_honest : (types : List TypeDef) (tag : Tag) (sel : Selector) (fields : List Field) → honest_selector 8 types tag sel fields ≡ true → IsHonestVariant 8 types tag sel fields
selector_honest types tag (Exact number) fields e = tt
selector_honest types tag Only fields e = tt
selector_honest types tag (Span first last) fields e = by_field (holder 8 types (prim_bytes 8 tag.prim) tag.off fields) e
  where
    by_field : (o : Option Field) → field_lies (lies 8 257 types (record { width = prim_bytes 8 tag.prim; first = first; last = last })) tag.off o ≡ true → IsSomeAnd o (λ f. LiesOnLeaf 8 types (prim_bytes 8 tag.prim) f.ty (tag.off - f.off) first last)
    by_field None e = untrue e
    by_field (Some f) e = lies_forth 257 types (record { width = prim_bytes 8 tag.prim; first = first; last = last }) f.ty (tag.off - f.off) e

selector_found : (set : Set) → Holds set (Law2 set) → All (IsHonestType 8 set.types) set.types → (tag : Tag) (sel : Selector) (fields : List Field) → IsHonestVariant 8 set.types tag sel fields → honest_selector 8 set.types tag sel fields ≡ true
selector_found set shallow honest tag (Exact number) fields h = refl
selector_found set shallow honest tag Only fields h = refl
selector_found set shallow honest tag (Span first last) fields h = by_field (holder 8 set.types (prim_bytes 8 tag.prim) tag.off fields) h
  where
    by_field : (o : Option Field) → IsSomeAnd o (λ f. LiesOnLeaf 8 set.types (prim_bytes 8 tag.prim) f.ty (tag.off - f.off) first last) → field_lies (lies 8 257 set.types (record { width = prim_bytes 8 tag.prim; first = first; last = last })) tag.off o ≡ true
    by_field None h = elim h [ ]
    by_field (Some f) h = lies_back 256 set.types (record { width = prim_bytes 8 tag.prim; first = first; last = last }) honest f.ty (tag.off - f.off) (chains_of set shallow f.ty) h.leaf h.numbers

type_honest : (types : List TypeDef) (t : TypeDef) → honest_type 8 types t ≡ true → IsHonestType 8 types t
unfolding IsHonestType
type_honest types (Struct name size align params fields) e = tt
type_honest types (Array elem count) e = tt
type_honest types (Thin kind to) e = tt
type_honest types (Slice name kind ptr) e = tt
type_honest types (Str name kind ptr) e = tt
type_honest types (Dyn name kind ptr vtable) e = tt
type_honest types FnPtr e = tt
type_honest types (CLike name tag cases) e = tt
type_honest types (Bytes name size align) e = tt
type_honest types (Enum name size align params None variants) e = tt
type_honest types (Enum name size align params (Some tag) variants) e = λ k d h. selector_honest types tag (get_or variants k d).sel (get_or variants k d).fields ((all_pass (λ (v : Variant). honest_selector 8 types tag v.sel v.fields) variants).0 e k d h)

type_found : (set : Set) → Holds set (Law2 set) → All (IsHonestType 8 set.types) set.types → (t : TypeDef) → IsHonestType 8 set.types t → honest_type 8 set.types t ≡ true
unfolding IsHonestType
type_found set shallow honest (Struct name size align params fields) h = refl
type_found set shallow honest (Array elem count) h = refl
type_found set shallow honest (Thin kind to) h = refl
type_found set shallow honest (Slice name kind ptr) h = refl
type_found set shallow honest (Str name kind ptr) h = refl
type_found set shallow honest (Dyn name kind ptr vtable) h = refl
type_found set shallow honest FnPtr h = refl
type_found set shallow honest (CLike name tag cases) h = refl
type_found set shallow honest (Bytes name size align) h = refl
type_found set shallow honest (Enum name size align params None variants) h = refl
type_found set shallow honest (Enum name size align params (Some tag) variants) h = (all_pass (λ (v : Variant). honest_selector 8 set.types tag v.sel v.fields) variants).1 (λ k d l. selector_found set shallow honest tag (get_or variants k d).sel (get_or variants k d).fields (h k d l))

-- the test of all types, at pointers of 8 bytes
types_decide : (set : Set) → Holds set (Law2 set) → Decides (list_all (honest_type 8 set.types) set.types) (All (IsHonestType 8 set.types) set.types)
types_decide set shallow = (
  (λ e k d h. type_honest set.types (get_or set.types k d) ((all_pass (honest_type 8 set.types) set.types).0 e k d h)),
  λ honest. (all_pass (honest_type 8 set.types) set.types).1 (λ k d h. type_found set shallow honest (get_or set.types k d) (honest k d h)),
)

-- The test of all types is whether the set is honest.
pub honest_decides : (set : Set) → Holds set (Law2 set) → set.target.ptr ≡ 8 → Decides (list_all (honest_type 8 set.types) set.types) (IsHonest set)
unfolding IsHonest
honest_decides set shallow pointers =
    subst (λ ptr. Decides (list_all (honest_type 8 set.types) set.types) (All (IsHonestType ptr set.types) set.types)) (sym pointers) (types_decide set shallow)
