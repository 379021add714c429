-- What the test for a leaf comes to.
use Rattle.std.proofs.Common.{◌≡◌, ℕ, zero, suc, ◌-◌, ◌^◌, ◌⊎◌, inl, inr, ◌==◌, ◌&&◌, ◌||◌, Bool, true, false, List, [], ◌∷◌, map, Option, Some, None, slice_get, get_or, IsTrue, refl, sym, ap, subst, ◌∙◌, arith}
use Rattle.std.specs.Bool.{Decides}
use Rattle.std.specs.List.{All, Contains, list_all}
use Rattle.std.proofs.lemmas.Bool.Decides.{Decides-by_and, nat_tests}
use Rattle.std.proofs.lemmas.Grind.{common_steps}
use Rattle.std.proofs.lemmas.List.Elements.{All-contains, All-map}
use Rattle.names.specs.declared.name.PtrKind.{PtrKind}
use Rattle.names.specs.Pointers.{is_non_null}
use Rattle.layout_set.specs.declared.primitive.Primitive.{Primitive}
use Rattle.layout_set.specs.declared.primitive.Primitive.TheVariants.{Bool as BoolPrim, Char}
use Rattle.layout_set.specs.declared.set.Field.{Field}
use Rattle.layout_set.specs.declared.set.Case.{Case}
use Rattle.layout_set.specs.declared.set.Tag.{Tag}
use Rattle.layout_set.specs.declared.set.Variant.{Variant}
use Rattle.layout_set.specs.declared.set.Selector.{Selector}
use Rattle.layout_set.specs.declared.set.Selector.TheVariants.{Exact, Span, Only}
use Rattle.layout_set.specs.declared.set.TypeRef.{TypeRef}
use Rattle.layout_set.specs.declared.set.TypeRef.TheVariants.{Prim, User}
use Rattle.layout_set.specs.declared.set.TypeDef.{TypeDef}
use Rattle.layout_set.specs.declared.set.TypeDef.TheVariants.{Struct, Array, Thin, Slice, Str, Dyn, FnPtr, CLike, Enum, Bytes}
use Rattle.layout_honest.specs.declared.honesty.Niche.{Niche}
use Rattle.layout_set.specs.Law8.{case_numbers, exact_number, exact_numbers}
use Rattle.layout_set.specs.Primitives.{prim_bytes}
use Rattle.layout_honest.specs.Honest.{InSpan, holder, struct_fields, variants_of, IsPrimLeaf, IsTypeLeaf, of_prim, of_type, in_struct, IsPrimNumber, IsAddress, IsTypeNumber, HasNumber, of_prim_number, of_type_number, in_struct_number, in_span_number, LiesOnLeaf}
use Rattle.layout_honest.specs.Lies.{in_span, range_lies, prim_lies, pointer_lies, field_lies, selector_lies, enum_lies, def_lies, def_lies_at, lies}
use Rattle.layout_set.proofs.ExactNumbers.{all_picked}
use Rattle.layout_honest.proofs.Ranges.{in_span_decides, range_decides}

abbrev pub value_or : {A : Type 0} → A → Option A → A
value_or d None = d
value_or d (Some x) = x

pub some_same : {A : Type 0} (a b : A) → Some a ≡ Some b → a ≡ b
some_same a b e = ap (value_or a) e

pub clash : {A B : Type 0} (a : A) → None ≡ Some a → B
clash a e = elim (let f : ⊥ = grind (arith, e) in f) [ ]

pub untrue : {A : Type 0} → false ≡ true → A
untrue e = elim (let f : ⊥ = grind (arith, e) in f) [ ]

left : (a b : Bool) → (a && b) ≡ true → a ≡ true
left true b e = refl
left false b e = e

right : (a b : Bool) → (a && b) ≡ true → b ≡ true
right true b e = e
right false b e = untrue e

pub both : (a b : Bool) → a ≡ true → b ≡ true → (a && b) ≡ true
both a b e f = grind (arith, common_steps, e, f)

pub equal : (a b : ℕ) → (a == b) ≡ true → a ≡ b
equal a b e = grind (arith, nat_tests, e)

pub equals : (a b : ℕ) → a ≡ b → (a == b) ≡ true
equals a b e = grind (arith, nat_tests, e)

pub no_member : {A B : Type 0} (x : A) → Contains [] x → B
no_member x c = elim (let h = c.1 in let f : ⊥ = omega (arith, h) in f) [ ]

-- a number by what it is of
pub record OfType (types : List TypeDef) (i number : ℕ) : Type 0 where
  pub t : TypeDef
  pub at : slice_get types i ≡ Some t
  pub is : IsTypeNumber 8 number t

pub record OfField (types : List TypeDef) (width i off number : ℕ) : Type 0 where
  pub t : TypeDef
  pub field : Field
  pub at : slice_get types i ≡ Some t
  pub held : holder 8 types width off (struct_fields t) ≡ Some field
  pub inner : HasNumber 8 types width field.ty (off - field.off) number

pub record OfSpan (types : List TypeDef) (width i off number : ℕ) : Type 0 where
  pub t : TypeDef
  pub v : Variant
  pub first : ℕ
  pub last : ℕ
  pub field : Field
  pub at : slice_get types i ≡ Some t
  pub member : Contains (variants_of t) v
  pub sel : v.sel ≡ Span first last
  pub lies : InSpan first last number
  pub held : holder 8 types width off v.fields ≡ Some field
  pub inner : HasNumber 8 types width field.ty (off - field.off) number

abbrev NumberShape : List TypeDef → ℕ → TypeRef → ℕ → ℕ → Type 0
NumberShape types width (Prim prim) off number = IsPrimNumber number prim
NumberShape types width (User i) off number = OfType types i number ⊎ (OfField types width i off number ⊎ OfSpan types width i off number)

number_shape : (types : List TypeDef) (width : ℕ) (ty : TypeRef) (off number : ℕ) → HasNumber 8 types width ty off number → NumberShape types width ty off number
number_shape types width _ _ _ (of_prim_number prim off number is) = is
number_shape types width _ _ _ (of_type_number i off number t at is) = inl (record { t = t; at = at; is = is })
number_shape types width _ _ _ (in_struct_number i off number t field at held inner) = inr (inl (record { t = t; field = field; at = at; held = held; inner = inner }))
number_shape types width _ _ _ (in_span_number i off number t v first last field at member sel in_it held inner) = inr (inr (record { t = t; v = v; first = first; last = last; field = field; at = at; member = member; sel = sel; lies = in_it; held = held; inner = inner }))

-- what holds of the numbers that a type may have by its kind holds of all its numbers
each_number : (types : List TypeDef) (width i off : ℕ) (t : TypeDef) (P : ℕ → Type 0) → slice_get types i ≡ Some t
    → ((n : ℕ) → IsTypeNumber 8 n t → P n)
    → ((f : Field) → holder 8 types width off (struct_fields t) ≡ Some f → (n : ℕ) → HasNumber 8 types width f.ty (off - f.off) n → P n)
    → ((v : Variant) (first last : ℕ) (f : Field) → Contains (variants_of t) v → v.sel ≡ Span first last → holder 8 types width off v.fields ≡ Some f → (n : ℕ) → HasNumber 8 types width f.ty (off - f.off) n → P n)
    → (n : ℕ) → HasNumber 8 types width (User i) off n → P n
each_number types width i off t P at own fields spans n h = elim (number_shape types width (User i) off n h) as (λ _. P n) [
  | inl x ↦ own n (subst (IsTypeNumber 8 n) (some_same x.t t (sym x.at ∙ at)) x.is)
  | inr y ↦ elim y as (λ _. P n) [
    | inl x ↦ fields x.field (subst (λ u. holder 8 types width off (struct_fields u) ≡ Some x.field) (some_same x.t t (sym x.at ∙ at)) x.held) n x.inner
    | inr x ↦ spans x.v x.first x.last x.field (subst (λ u. Contains (variants_of u) x.v) (some_same x.t t (sym x.at ∙ at)) x.member) x.sel x.held n x.inner
  ]
]

-- a type without fields and variants has the numbers of its kind alone
plain_numbers : (types : List TypeDef) (width i off : ℕ) (t : TypeDef) (P : ℕ → Type 0) → slice_get types i ≡ Some t → struct_fields t ≡ [] → variants_of t ≡ [] → ((n : ℕ) → IsTypeNumber 8 n t → P n) → (n : ℕ) → HasNumber 8 types width (User i) off n → P n
plain_numbers types width i off t P at no_fields no_variants own = each_number types width i off t P at own
    (λ f e n h. clash f (ap (holder 8 types width off) (sym no_fields) ∙ e))
    (λ v first last f m e q n h. no_member v (subst (λ (vs : List Variant). Contains vs v) no_variants m))

prim_forth : (types : List TypeDef) (niche : Niche) (prim : Primitive) (off : ℕ) → prim_lies niche prim off ≡ true → IsPrimLeaf niche.width off prim × ((n : ℕ) → IsPrimNumber n prim → InSpan niche.first niche.last n)
prim_forth types niche BoolPrim off e =
    let rest = right (off == 0) (niche.width == 1 && range_lies niche 0 1) e in
    ((equal off 0 (left (off == 0) (niche.width == 1 && range_lies niche 0 1) e), equal niche.width 1 (left (niche.width == 1) (range_lies niche 0 1) rest)), λ n h. (range_decides niche 0 1 (omega arith)).0 (right (niche.width == 1) (range_lies niche 0 1) rest) n (omega arith) h)
prim_forth types niche Char off e =
    let rest = right (off == 0) (niche.width == 4 && range_lies niche 0 0x10ffff) e in
    ((equal off 0 (left (off == 0) (niche.width == 4 && range_lies niche 0 0x10ffff) e), equal niche.width 4 (left (niche.width == 4) (range_lies niche 0 0x10ffff) rest)), λ n h. (range_decides niche 0 0x10ffff (omega arith)).0 (right (niche.width == 4) (range_lies niche 0 0x10ffff) rest) n (omega arith) h)
prim_forth types niche _ off e = untrue e

pub prim_back : (niche : Niche) (prim : Primitive) (off : ℕ) → IsPrimLeaf niche.width off prim → ((n : ℕ) → IsPrimNumber n prim → InSpan niche.first niche.last n) → prim_lies niche prim off ≡ true
prim_back niche BoolPrim off l all = both (off == 0) (niche.width == 1 && range_lies niche 0 1) (equals off 0 l.0) (both (niche.width == 1) (range_lies niche 0 1) (equals niche.width 1 l.1) ((range_decides niche 0 1 (omega arith)).1 (λ n a b. all n b)))
prim_back niche Char off l all = both (off == 0) (niche.width == 4 && range_lies niche 0 0x10ffff) (equals off 0 l.0) (both (niche.width == 4) (range_lies niche 0 0x10ffff) (equals niche.width 4 l.1) ((range_decides niche 0 0x10ffff (omega arith)).1 (λ n a b. all n b)))
prim_back niche _ off l all = elim l [ ]

-- where a pointer lies
pub record PointerLies (niche : Niche) (off : ℕ) : Type 0 where
  pub begin : off ≡ 0
  pub wide : niche.width ≡ 8
  pub addresses : (n : ℕ) → IsAddress 8 n → InSpan niche.first niche.last n

pointer_forth : (niche : Niche) (off : ℕ) → pointer_lies 8 niche off ≡ true → PointerLies niche off
pointer_forth niche off e =
    let range = range_lies niche 1 (2 ^ 64 - 1) in
    let rest = right (off == 0) (niche.width == 8 && range) e in
    record {
      begin = equal off 0 (left (off == 0) (niche.width == 8 && range) e);
      wide = equal niche.width 8 (left (niche.width == 8) range rest);
      addresses = λ n h. (range_decides niche 1 (2 ^ 64 - 1) (omega arith)).0 (right (niche.width == 8) range rest) n h.0 h.1;
    }

pub pointer_back : (niche : Niche) (off : ℕ) → PointerLies niche off → pointer_lies 8 niche off ≡ true
pointer_back niche off p =
    let range = range_lies niche 1 (2 ^ 64 - 1) in
    both (off == 0) (niche.width == 8 && range) (equals off 0 p.begin) (both (niche.width == 8) range (equals niche.width 8 p.wide) ((range_decides niche 1 (2 ^ 64 - 1) (omega arith)).1 (λ n a b. p.addresses n (a, b))))

pub all_pass : {X : Type 0} (p : X → Bool) (xs : List X) → Decides (list_all p xs) (All (λ x. p x ≡ true) xs)
all_pass p xs = Decides-by_and p (λ x. p x ≡ true) (list_all p) (λ x. ((λ e. e), λ e. e)) refl (λ _ _. refl) xs

mapped : {X : Type 0} (P : ℕ → Type 0) (f : X → ℕ) (xs : List X) → All (λ x. P (f x)) xs → All P (map f xs)
mapped P f xs all = All-map P f xs all

pub field_holds : (rest : TypeRef → ℕ → Bool) (off : ℕ) (o : Option Field) → field_lies rest off o ≡ true → (f : Field) × ((o ≡ Some f) × (rest f.ty (off - f.off) ≡ true))
field_holds rest off None e = untrue e
field_holds rest off (Some f) e = (f, (refl, e))

pointer_numbers : (types : List TypeDef) (niche : Niche) (i off at_off : ℕ) (t : TypeDef) → slice_get types i ≡ Some t → struct_fields t ≡ [] → variants_of t ≡ [] → ((n : ℕ) → IsTypeNumber 8 n t → IsAddress 8 n) → IsTypeLeaf 8 niche.width off t → PointerLies niche at_off → LiesOnLeaf 8 types niche.width (User i) off niche.first niche.last
pointer_numbers types niche i off at_off t at a b own leaf p = record {
  leaf = of_type i off t at leaf;
  numbers = plain_numbers types niche.width i off t (InSpan niche.first niche.last) at a b (λ n h. p.addresses n (own n h));
}

owned : (types : List TypeDef) (niche : Niche) (i off : ℕ) (t : TypeDef) → slice_get types i ≡ Some t → struct_fields t ≡ [] → variants_of t ≡ [] → ((n : ℕ) → IsTypeNumber 8 n t → IsAddress 8 n) → (kind : PtrKind) → (IsTrue (is_non_null kind) × ((off ≡ 0) × (niche.width ≡ 8)) → IsTypeLeaf 8 niche.width off t) → (is_non_null kind && pointer_lies 8 niche off) ≡ true → LiesOnLeaf 8 types niche.width (User i) off niche.first niche.last
owned types niche i off t at a b own kind leaf e =
    let p = pointer_forth niche off (right (is_non_null kind) (pointer_lies 8 niche off) e) in
    pointer_numbers types niche i off off t at a b own (leaf (left (is_non_null kind) (pointer_lies 8 niche off) e, (p.begin, p.wide))) p

split : (a b : Bool) → (a || b) ≡ true → (a ≡ true) ⊎ (b ≡ true)
split true b e = inl refl
split false b e = inr e

dyn_forth : (types : List TypeDef) (niche : Niche) (i off : ℕ) (t : TypeDef) → slice_get types i ≡ Some t → struct_fields t ≡ [] → variants_of t ≡ [] → ((n : ℕ) → IsTypeNumber 8 n t → IsAddress 8 n) → ((((off ≡ 0) ⊎ (off ≡ 8)) × (niche.width ≡ 8)) → IsTypeLeaf 8 niche.width off t) → (pointer_lies 8 niche off ≡ true) ⊎ ((off == 8 && pointer_lies 8 niche 0) ≡ true) → LiesOnLeaf 8 types niche.width (User i) off niche.first niche.last
dyn_forth types niche i off t at a b own leaf (inl e) = let p = pointer_forth niche off e in pointer_numbers types niche i off off t at a b own (leaf (inl p.begin, p.wide)) p
dyn_forth types niche i off t at a b own leaf (inr e) = let p = pointer_forth niche 0 (right (off == 8) (pointer_lies 8 niche 0) e) in pointer_numbers types niche i off 0 t at a b own (leaf (inr (equal off 8 (left (off == 8) (pointer_lies 8 niche 0) e)), p.wide)) p

exact_forth : (rest : TypeRef → ℕ → Bool) (types : List TypeDef) (niche : Niche) (off : ℕ) (sel : Selector) (fields : List Field) (n : ℕ) → selector_lies 8 rest types niche off sel fields ≡ true → exact_number sel ≡ Some n → InSpan niche.first niche.last n
exact_forth rest types niche off (Exact number) fields n e is = subst (InSpan niche.first niche.last) (some_same number n is) ((in_span_decides niche number).0 e)
exact_forth rest types niche off (Span first last) fields n e is = clash n is
exact_forth rest types niche off Only fields n e is = clash n is

-- what the test says of references, so far
abbrev Forth : List TypeDef → Niche → (TypeRef → ℕ → Bool) → Type 0
Forth types niche rest = (ty : TypeRef) (off : ℕ) → rest ty off ≡ true → LiesOnLeaf 8 types niche.width ty off niche.first niche.last

span_forth : (types : List TypeDef) (niche : Niche) (rest : TypeRef → ℕ → Bool) → Forth types niche rest → (off : ℕ) (sel : Selector) (fields : List Field) (first last : ℕ) (f : Field) → selector_lies 8 rest types niche off sel fields ≡ true → sel ≡ Span first last → holder 8 types niche.width off fields ≡ Some f → (n : ℕ) → HasNumber 8 types niche.width f.ty (off - f.off) n → InSpan niche.first niche.last n
span_forth types niche rest ih off (Exact number) fields first last f e is held n h = cc
span_forth types niche rest ih off Only fields first last f e is held n h = cc
span_forth types niche rest ih off (Span a b) fields first last f e is held n h =
    let l : rest f.ty (off - f.off) ≡ true = subst (λ o. field_lies rest off o ≡ true) held e in
    (ih f.ty (off - f.off) l).numbers n h

enum_forth : (types : List TypeDef) (niche : Niche) (rest : TypeRef → ℕ → Bool) → Forth types niche rest → (i off : ℕ) (t : TypeDef) (tag : Tag) (variants : List Variant) → slice_get types i ≡ Some t → struct_fields t ≡ [] → variants_of t ≡ variants → ((n : ℕ) → IsTypeNumber 8 n t → Contains (exact_numbers variants) n) → ((off ≡ tag.off) × (niche.width ≡ prim_bytes 8 tag.prim) → IsTypeLeaf 8 niche.width off t) → enum_lies 8 rest types niche off (Some tag) variants ≡ true → LiesOnLeaf 8 types niche.width (User i) off niche.first niche.last
enum_forth types niche rest ih i off t tag variants at no_fields same own leaf e =
    let test : Variant → Bool = λ v. selector_lies 8 rest types niche off v.sel v.fields in
    let more = right (off == tag.off) (niche.width == prim_bytes 8 tag.prim && list_all test variants) e in
    let all : All (λ v. test v ≡ true) variants = (all_pass test variants).0 (right (niche.width == prim_bytes 8 tag.prim) (list_all test variants) more) in
    let exact : All (InSpan niche.first niche.last) (exact_numbers variants) = all_picked (λ v. test v ≡ true) (InSpan niche.first niche.last) (λ v. exact_number v.sel) (λ v n p q. exact_forth rest types niche off v.sel v.fields n p q) variants all in
    record {
      leaf = of_type i off t at (leaf (equal off tag.off (left (off == tag.off) (niche.width == prim_bytes 8 tag.prim && list_all test variants) e), equal niche.width (prim_bytes 8 tag.prim) (left (niche.width == prim_bytes 8 tag.prim) (list_all test variants) more)));
      numbers = each_number types niche.width i off t (InSpan niche.first niche.last) at
          (λ n h. All-contains (InSpan niche.first niche.last) (exact_numbers variants) n exact (own n h))
          (λ f q n h. clash f (ap (holder 8 types niche.width off) (sym no_fields) ∙ q))
          (λ v first last f m is held n h. span_forth types niche rest ih off v.sel v.fields first last f (All-contains (λ v. test v ≡ true) variants v all (subst (λ (vs : List Variant). Contains vs v) same m)) is held n h);
    }

def_forth : (types : List TypeDef) (niche : Niche) (rest : TypeRef → ℕ → Bool) → Forth types niche rest → (i off : ℕ) (t : TypeDef) → slice_get types i ≡ Some t → def_lies 8 rest types niche off t ≡ true → LiesOnLeaf 8 types niche.width (User i) off niche.first niche.last
def_forth types niche rest ih i off (Struct name size align params fields) at e =
    let t = Struct name size align params fields in
    let h = field_holds rest off (holder 8 types niche.width off fields) e in
    let l = ih h.0.ty (off - h.0.off) h.1.1 in
    record {
      leaf = in_struct i off t h.0 at h.1.0 l.leaf;
      numbers = each_number types niche.width i off t (InSpan niche.first niche.last) at (λ n m. elim m [ ])
          (λ f q n m. l.numbers n (subst (λ (g : Field). HasNumber 8 types niche.width g.ty (off - g.off) n) (sym (some_same h.0 f (sym h.1.0 ∙ q))) m))
          (λ v first last f m is held n k. no_member v m);
    }
def_forth types niche rest ih i off (Array elem count) at e = untrue e
def_forth types niche rest ih i off (Thin kind to) at e = owned types niche i off (Thin kind to) at refl refl (λ n h. h) kind (λ l. l) e
def_forth types niche rest ih i off (Slice name kind ptr) at e = owned types niche i off (Slice name kind ptr) at refl refl (λ n h. h) kind (λ l. l) e
def_forth types niche rest ih i off (Str name kind ptr) at e = owned types niche i off (Str name kind ptr) at refl refl (λ n h. h) kind (λ l. l) e
def_forth types niche rest ih i off (Dyn name kind ptr vtable) at e =
    let parts = pointer_lies 8 niche off || (off == 8 && pointer_lies 8 niche 0) in
    dyn_forth types niche i off (Dyn name kind ptr vtable) at refl refl (λ n h. h) (λ l. (left (is_non_null kind) parts e, l)) (split (pointer_lies 8 niche off) (off == 8 && pointer_lies 8 niche 0) (right (is_non_null kind) parts e))
def_forth types niche rest ih i off FnPtr at e = let p = pointer_forth niche off e in pointer_numbers types niche i off off FnPtr at refl refl (λ n h. h) (p.begin, p.wide) p
def_forth types niche rest ih i off (CLike name tag cases) at e =
    let test : Case → Bool = λ c. in_span niche c.number in
    let more = right (off == 0) (niche.width == prim_bytes 8 tag && list_all test cases) e in
    let all = (all_pass test cases).0 (right (niche.width == prim_bytes 8 tag) (list_all test cases) more) in
    let numbers : All (InSpan niche.first niche.last) (case_numbers cases) = mapped (InSpan niche.first niche.last) (λ c. c.number) cases (λ k d h. (in_span_decides niche (get_or cases k d).number).0 (all k d h)) in
    record {
      leaf = of_type i off (CLike name tag cases) at (equal off 0 (left (off == 0) (niche.width == prim_bytes 8 tag && list_all test cases) e), equal niche.width (prim_bytes 8 tag) (left (niche.width == prim_bytes 8 tag) (list_all test cases) more));
      numbers = plain_numbers types niche.width i off (CLike name tag cases) (InSpan niche.first niche.last) at refl refl (λ n h. All-contains (InSpan niche.first niche.last) (case_numbers cases) n numbers h);
    }
def_forth types niche rest ih i off (Enum name size align params None variants) at e = untrue e
def_forth types niche rest ih i off (Enum name size align params (Some tag) variants) at e = enum_forth types niche rest ih i off (Enum name size align params (Some tag) variants) tag variants at refl refl (λ n h. h) (λ l. l) e
def_forth types niche rest ih i off (Bytes name size align) at e = untrue e

-- What the test accepts lies on a leaf whose numbers are in the span.
pub lies_forth : (k : ℕ) (types : List TypeDef) (niche : Niche) (ty : TypeRef) (off : ℕ) → lies 8 k types niche ty off ≡ true → LiesOnLeaf 8 types niche.width ty off niche.first niche.last
unfolding lies
lies_forth zero types niche ty off e = untrue e
lies_forth (suc k) types niche (Prim prim) off e =
    let p = prim_forth types niche prim off e in
    record { leaf = of_prim prim off p.0; numbers = λ n h. p.1 n (number_shape types niche.width (Prim prim) off n h) }
lies_forth (suc k) types niche (User i) off e = by_get (lies 8 k types niche) (lies_forth k types niche) (slice_get types i) refl e
  where
    by_get : (rest : TypeRef → ℕ → Bool) → Forth types niche rest → (o : Option TypeDef) → slice_get types i ≡ o → def_lies_at 8 rest types niche off o ≡ true → LiesOnLeaf 8 types niche.width (User i) off niche.first niche.last
    by_get rest ih None at e = untrue e
    by_get rest ih (Some t) at e = def_forth types niche rest ih i off t at e
