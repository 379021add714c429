-- How long derived names are in the spelling of CodeView, and which end with `>`.
use Rattle.std.proofs.Common.{◌≡◌, ℕ, ◌+◌, ◌<◌, inl, inr, ◌∙◌, List, [], ◌∷◌, ◌++◌, length, map, Bool, true, false, if◌then◌else◌, Some, slice_get, refl, sym, ap, arith, codes, length-append}
use Rattle.std.specs.Fmt.{decimal}
use Rattle.std.proofs.lemmas.Grind.{common_steps}
use Rattle.std.proofs.lemmas.List.{length-map}
use Rattle.names.specs.declared.name.Name.{Name}
use Rattle.names.specs.declared.name.Name.TheVariants.{Array as ArrayName, Tuple}
use Rattle.names.specs.declared.name.Seg.{Seg}
use Rattle.names.specs.declared.name.PtrKind.{PtrKind}
use Rattle.names.specs.declared.name.PtrKind.TheVariants.{Ref, RefMut, Const, Mut, Boxed}
use Rattle.type_names.specs.Joined.{joined}
use Rattle.type_names.specs.CvText.{cv_text, cv_seg_text, closed, ends_closed}
use Rattle.layout_set.specs.declared.primitive.Primitive.{Primitive}
use Rattle.layout_set.specs.declared.primitive.Primitive.TheVariants.{«Unit» as UnitPrim, Bool as BoolPrim, Char, I8, I16, I32, I64, I128, Isize, U8, U16, U32, U64, U128, Usize, F32, F64}
use Rattle.layout_set.specs.declared.set.TypeRef.{TypeRef}
use Rattle.layout_set.specs.declared.set.TypeRef.TheVariants.{Prim, User}
use Rattle.layout_set.specs.declared.set.TypeDef.{TypeDef}
use Rattle.layout_set.specs.declared.set.TypeDef.TheVariants.{Struct, Array, Thin, Slice, Str, Dyn, FnPtr, CLike, Enum, Bytes}
use Rattle.layout_name_laws.specs.declared.name_lengths.NameLength.{NameLength}
use Rattle.layout_set.specs.DerivedNames.{segment, word_name, prim_name, function_name, global_name, pointer_name, own_name, Link, link, Derived}
use Rattle.layout_name_laws.specs.NameLengths.{ended, cv_mark, cv_first, cv_firsts, own_text, closes, closes_at, closes_def}
use Rattle.type_names.proofs.CvLevels.{cv-Path, cv-Pointer, cv-Array, cv-Tuple, cv-Fn, cv-Seg}
use Rattle.layout_name_laws.proofs.CvTexts.{ends_with, after_open, closed_closes, closed_len, decimal_open}
use Rattle.layout_name_laws.proofs.NameLengths.{Spelled, Right, IsTable, shape, clash, some_same, over_right, ended_right, firsts_right}

word_seg : (word : List ℕ) → cv_seg_text (segment word []) ≡ word ++ []
word_seg word = cv-Seg (segment word [])

pub word_text_is : (word : List ℕ) → cv_text (word_name word) ≡ (word ++ []) ++ []
word_text_is word = cv-Path (segment word [] ∷ []) ∙ ap (λ t. t ++ []) (word_seg word)

three : (x y z : List ℕ) (s t u : Seg) → cv_seg_text s ≡ x → cv_seg_text t ≡ y → cv_seg_text u ≡ z → joined (codes "::") (map cv_seg_text (s ∷ t ∷ u ∷ [])) ≡ joined (codes "::") (x ∷ y ∷ z ∷ [])
three x y z s t u p q r = ap (λ v. joined (codes "::") (v ∷ cv_seg_text t ∷ cv_seg_text u ∷ [])) p ∙ ap (λ v. joined (codes "::") (x ∷ v ∷ cv_seg_text u ∷ [])) q ∙ ap (λ v. joined (codes "::") (x ∷ y ∷ v ∷ [])) r

global_text : cv_text global_name ≡ codes "alloc::alloc::Global"
global_text = cv-Path (segment (codes "alloc") [] ∷ segment (codes "alloc") [] ∷ segment (codes "Global") [] ∷ []) ∙ three (codes "alloc") (codes "alloc") (codes "Global") _ _ _ (word_seg (codes "alloc")) (word_seg (codes "alloc")) (word_seg (codes "Global"))

-- what stands in the brackets of a box
abbrev box_args : List ℕ → List ℕ
box_args x = codes "<" ++ joined (codes ",") (x ∷ codes "alloc::alloc::Global" ∷ [])

box_seg : (n : Name) → cv_seg_text (segment (codes "Box") (n ∷ global_name ∷ [])) ≡ codes "Box" ++ closed (box_args (cv_text n))
box_seg n = cv-Seg (segment (codes "Box") (n ∷ global_name ∷ [])) ∙ ap (λ g. codes "Box" ++ closed (codes "<" ++ joined (codes ",") (cv_text n ∷ g ∷ []))) global_text

box_text : (n : Name) → cv_text (pointer_name Boxed n) ≡ joined (codes "::") (codes "alloc" ∷ codes "boxed" ∷ (codes "Box" ++ closed (box_args (cv_text n))) ∷ [])
box_text n = cv-Path (segment (codes "alloc") [] ∷ segment (codes "boxed") [] ∷ segment (codes "Box") (n ∷ global_name ∷ []) ∷ []) ∙ three (codes "alloc") (codes "boxed") _ _ _ _ (word_seg (codes "alloc")) (word_seg (codes "boxed")) (box_seg n)

box_args_open : (x : List ℕ) → ends_closed (box_args x) ≡ false
box_args_open x = ap ends_closed (let e : box_args x ≡ (60 ∷ x) ++ codes ",alloc::alloc::Global" = grind (arith, common_steps) in e) ∙ ends_with (60 ∷ x) (codes "alloc::alloc::Global") 44

around : (y : List ℕ) → length (joined (codes "::") (codes "alloc" ∷ codes "boxed" ∷ (codes "Box" ++ y) ∷ [])) ≡ 17 + length y
around y = grind (arith, common_steps, length-append)

args_len : (x : List ℕ) → length (box_args x) ≡ 22 + length x
args_len x = grind (arith, common_steps, length-append)

box_len : (x : List ℕ) → length (joined (codes "::") (codes "alloc" ∷ codes "boxed" ∷ (codes "Box" ++ closed (box_args x)) ∷ [])) ≡ 40 + length x
box_len x =
    let a = around (closed (box_args x)) in
    let b : length (closed (box_args x)) ≡ 1 + length (box_args x) = closed_len (box_args x) ∙ ap (λ (c : Bool). (if c then 2 else 1) + length (box_args x)) (box_args_open x) in
    let d = args_len x in
    omega (arith, a, b, d)

box_end : (y : List ℕ) (c : ℕ) → ends_closed (joined (codes "::") (codes "alloc" ∷ codes "boxed" ∷ (codes "Box" ++ (c ∷ y)) ∷ [])) ≡ ends_closed (c ∷ y)
box_end y c = ap ends_closed (let e : joined (codes "::") (codes "alloc" ∷ codes "boxed" ∷ (codes "Box" ++ (c ∷ y)) ∷ []) ≡ codes "alloc::boxed::Box" ++ (c ∷ y) = grind (arith, common_steps) in e) ∙ ends_with (codes "alloc::boxed::Box") y c

marked : (mark x : List ℕ) → ends_closed mark ≡ false → length (closed (mark ++ x)) ≡ (length mark + 1 + (if ends_closed x then 1 else 0)) + length x
marked mark x e =
    let a : length (closed (mark ++ x)) ≡ (if ends_closed x then 2 else 1) + length (mark ++ x) = closed_len (mark ++ x) ∙ ap (λ (c : Bool). (if c then 2 else 1) + length (mark ++ x)) (after_open mark x e) in
    let b = length-append mark x in
    by_test (ends_closed x) a b
  where
    by_test : (c : Bool) → length (closed (mark ++ x)) ≡ (if c then 2 else 1) + length (mark ++ x) → length (mark ++ x) ≡ length mark + length x → length (closed (mark ++ x)) ≡ (length mark + 1 + (if c then 1 else 0)) + length x
    by_test true a b = omega (arith, a, b)
    by_test false a b = omega (arith, a, b)

pub pointer_len : (kind : PtrKind) (n : Name) → length (cv_text (pointer_name kind n)) ≡ cv_mark (ends_closed (cv_text n)) kind + length (cv_text n)
pointer_len Ref n = ap length (cv-Pointer Ref n) ∙ marked (codes "ref$<") (cv_text n) refl
pointer_len RefMut n = ap length (cv-Pointer RefMut n) ∙ marked (codes "ref_mut$<") (cv_text n) refl
pointer_len Const n = ap length (cv-Pointer Const n) ∙ marked (codes "ptr_const$<") (cv_text n) refl
pointer_len Mut n = ap length (cv-Pointer Mut n) ∙ marked (codes "ptr_mut$<") (cv_text n) refl
pointer_len Boxed n = ap length (box_text n) ∙ box_len (cv_text n)

pub pointer_closes : (kind : PtrKind) (n : Name) → ends_closed (cv_text (pointer_name kind n)) ≡ true
pointer_closes Ref n = ap ends_closed (cv-Pointer Ref n) ∙ closed_closes (codes "ref$<" ++ cv_text n)
pointer_closes RefMut n = ap ends_closed (cv-Pointer RefMut n) ∙ closed_closes (codes "ref_mut$<" ++ cv_text n)
pointer_closes Const n = ap ends_closed (cv-Pointer Const n) ∙ closed_closes (codes "ptr_const$<" ++ cv_text n)
pointer_closes Mut n = ap ends_closed (cv-Pointer Mut n) ∙ closed_closes (codes "ptr_mut$<" ++ cv_text n)
pointer_closes Boxed n = ap ends_closed (box_text n) ∙ boxed (closed (box_args (cv_text n))) (closed_closes (box_args (cv_text n)))
  where
    boxed : (y : List ℕ) → ends_closed y ≡ true → ends_closed (joined (codes "::") (codes "alloc" ∷ codes "boxed" ∷ (codes "Box" ++ y) ∷ [])) ≡ true
    boxed [] e = cc
    boxed (c ∷ y) e = box_end y c ∙ e

-- what stands in the brackets of an array
abbrev array_args : List ℕ → List ℕ → List ℕ
array_args x digits = codes "array$<" ++ x ++ codes "," ++ digits

array_open : (x digits : List ℕ) → ends_closed digits ≡ false → ends_closed (array_args x digits) ≡ false
array_open x digits e = after_open (codes "array$<" ++ x ++ codes ",") digits (ends_with (codes "array$<" ++ x) [] 44) ∙ e

array_args_len : (x digits : List ℕ) → length (array_args x digits) ≡ (8 + length digits) + length x
array_args_len x digits = grind (arith, common_steps, length-append)

pub array_len : (n : Name) (count : ℕ) → length (cv_text (ArrayName n count)) ≡ (9 + length (decimal count)) + length (cv_text n)
array_len n count =
    let x = cv_text n in
    let d = decimal count in
    let a : length (cv_text (ArrayName n count)) ≡ 1 + length (array_args x d) = ap length (cv-Array n count) ∙ closed_len (array_args x d) ∙ ap (λ (c : Bool). (if c then 2 else 1) + length (array_args x d)) (array_open x d (decimal_open count)) in
    let b = array_args_len x d in
    omega (arith, a, b)

pub array_closes : (n : Name) (count : ℕ) → ends_closed (cv_text (ArrayName n count)) ≡ true
array_closes n count = ap ends_closed (cv-Array n count) ∙ closed_closes (array_args (cv_text n) (decimal count))

pub function_text : cv_text function_name ≡ codes "fn$<tuple$<> >"
function_text = cv-Fn [] (Tuple []) ∙ ap (λ t. closed (codes "fn$<" ++ joined (codes ",") (t ∷ []))) (cv-Tuple [])

-- the first length of a pointer to a function
pub function_first : (closes_to : TypeRef → Bool) → ended (codes "fn$<tuple$<> >") ≡ cv_first (own_text cv_text FnPtr) closes_to FnPtr
function_first closes_to = ap ended (sym function_text)

-- a pointer to a function ends with `>`
pub function_closes : true ≡ closes_def FnPtr
function_closes = ap ends_closed (sym function_text)

pub empty_tuple_text : cv_text (Tuple []) ≡ codes "tuple$<>"
empty_tuple_text = cv-Tuple []

pub word_len : (word : List ℕ) → length (cv_text (word_name word)) ≡ length word
word_len word = ap length (word_text_is word) ∙ grind (arith, common_steps, length-append)

-- how long the name of a primitive is
abbrev pub prim_bytes_of : Primitive → ℕ
prim_bytes_of UnitPrim = 8
prim_bytes_of BoolPrim = 4
prim_bytes_of Char = 4
prim_bytes_of I8 = 2
prim_bytes_of I16 = 3
prim_bytes_of I32 = 3
prim_bytes_of I64 = 3
prim_bytes_of I128 = 4
prim_bytes_of Isize = 5
prim_bytes_of U8 = 2
prim_bytes_of U16 = 3
prim_bytes_of U32 = 3
prim_bytes_of U64 = 3
prim_bytes_of U128 = 4
prim_bytes_of Usize = 5
prim_bytes_of F32 = 3
prim_bytes_of F64 = 3

pub prim_lens : (prim : Primitive) → length (cv_text (prim_name prim)) ≡ prim_bytes_of prim
prim_lens UnitPrim = ap length empty_tuple_text
prim_lens BoolPrim = word_len (codes "bool")
prim_lens Char = word_len (codes "char")
prim_lens I8 = word_len (codes "i8")
prim_lens I16 = word_len (codes "i16")
prim_lens I32 = word_len (codes "i32")
prim_lens I64 = word_len (codes "i64")
prim_lens I128 = word_len (codes "i128")
prim_lens Isize = word_len (codes "isize")
prim_lens U8 = word_len (codes "u8")
prim_lens U16 = word_len (codes "u16")
prim_lens U32 = word_len (codes "u32")
prim_lens U64 = word_len (codes "u64")
prim_lens U128 = word_len (codes "u128")
prim_lens Usize = word_len (codes "usize")
prim_lens F32 = word_len (codes "f32")
prim_lens F64 = word_len (codes "f64")

-- only the empty tuple ends with `>`
abbrev pub is_unit : Primitive → Bool
is_unit UnitPrim = true
is_unit _ = false

pub prim_closes : (prim : Primitive) → ends_closed (cv_text (prim_name prim)) ≡ is_unit prim
prim_closes UnitPrim = ap ends_closed empty_tuple_text
prim_closes BoolPrim = ap ends_closed (word_text_is (codes "bool"))
prim_closes Char = ap ends_closed (word_text_is (codes "char"))
prim_closes I8 = ap ends_closed (word_text_is (codes "i8"))
prim_closes I16 = ap ends_closed (word_text_is (codes "i16"))
prim_closes I32 = ap ends_closed (word_text_is (codes "i32"))
prim_closes I64 = ap ends_closed (word_text_is (codes "i64"))
prim_closes I128 = ap ends_closed (word_text_is (codes "i128"))
prim_closes Isize = ap ends_closed (word_text_is (codes "isize"))
prim_closes U8 = ap ends_closed (word_text_is (codes "u8"))
prim_closes U16 = ap ends_closed (word_text_is (codes "u16"))
prim_closes U32 = ap ends_closed (word_text_is (codes "u32"))
prim_closes U64 = ap ends_closed (word_text_is (codes "u64"))
prim_closes U128 = ap ends_closed (word_text_is (codes "u128"))
prim_closes Usize = ap ends_closed (word_text_is (codes "usize"))
prim_closes F32 = ap ends_closed (word_text_is (codes "f32"))
prim_closes F64 = ap ends_closed (word_text_is (codes "f64"))

own_closes : (t : TypeDef) (u : Name) → own_name t ≡ Some u → ends_closed (cv_text u) ≡ closes_def t
own_closes (Array elem count) u e = clash u e
own_closes (Thin kind to) u e = clash u e
own_closes (Struct name size align params fields) u e = ap (λ n. ends_closed (cv_text n)) (sym (some_same name u e))
own_closes (Slice name kind ptr) u e = ap (λ n. ends_closed (cv_text n)) (sym (some_same name u e))
own_closes (Str name kind ptr) u e = ap (λ n. ends_closed (cv_text n)) (sym (some_same name u e))
own_closes (Dyn name kind ptr vtable) u e = ap (λ n. ends_closed (cv_text n)) (sym (some_same name u e))
own_closes FnPtr u e = ap (λ n. ends_closed (cv_text n)) (sym (some_same function_name u e))
own_closes (CLike name tag cases) u e = ap (λ n. ends_closed (cv_text n)) (sym (some_same name u e))
own_closes (Enum name size align params tag variants) u e = ap (λ n. ends_closed (cv_text n)) (sym (some_same name u e))
own_closes (Bytes name size align) u e = ap (λ n. ends_closed (cv_text n)) (sym (some_same name u e))

link_closes : (t : TypeDef) (l : Link) (n : Name) → link t ≡ Some l → ends_closed (cv_text (l.over n)) ≡ closes_def t
link_closes (Array elem count) l n e = ap (λ k. ends_closed (cv_text (k.over n))) (sym (some_same _ l e)) ∙ array_closes n count
link_closes (Thin kind to) l n e = ap (λ k. ends_closed (cv_text (k.over n))) (sym (some_same _ l e)) ∙ pointer_closes kind n
link_closes (Struct name size align params fields) l n e = clash l e
link_closes (Slice name kind ptr) l n e = clash l e
link_closes (Str name kind ptr) l n e = clash l e
link_closes (Dyn name kind ptr vtable) l n e = clash l e
link_closes FnPtr l n e = clash l e
link_closes (CLike name tag cases) l n e = clash l e
link_closes (Enum name size align params tag variants) l n e = clash l e
link_closes (Bytes name size align) l n e = clash l e

-- whether a derived name ends with `>`
closes_right : (types : List TypeDef) (to : TypeRef) (u : Name) → Derived types to u → ends_closed (cv_text u) ≡ closes types to
closes_right types (Prim prim) u d = ap (λ n. ends_closed (cv_text n)) (shape types (Prim prim) u d)
closes_right types (User i) u d = elim (shape types (User i) u d) as (λ _. ends_closed (cv_text u) ≡ closes types (User i)) [
  | inl n ↦ own_closes n.t u n.is ∙ ap closes_at (sym n.at)
  | inr k ↦ ap (λ x. ends_closed (cv_text x)) k.whole ∙ link_closes k.t k.l k.name k.is ∙ ap closes_at (sym k.at)
]

mark_some : (c : Bool) (kind : PtrKind) → 0 < cv_mark c kind
mark_some true Ref = omega arith
mark_some false Ref = omega arith
mark_some true RefMut = omega arith
mark_some false RefMut = omega arith
mark_some true Const = omega arith
mark_some false Const = omega arith
mark_some true Mut = omega arith
mark_some false Mut = omega arith
mark_some c Boxed = omega arith

abbrev pub in_cv : List TypeDef → Spelled
in_cv types = record { types = types; text = cv_text }

abbrev first_of : List TypeDef → TypeDef → NameLength
first_of types t = cv_first (own_text cv_text t) (closes types) t

first_right : (types : List TypeDef) (i : ℕ) (t : TypeDef) → slice_get types i ≡ Some t → Right (in_cv types) i (first_of types t)
first_right types i (Array elem count) at = over_right (in_cv types) i (Array elem count) _ at refl elem refl (9 + length (decimal count)) (omega arith) (λ n d. array_len n count)
first_right types i (Thin kind to) at = over_right (in_cv types) i (Thin kind to) _ at refl to refl (cv_mark (closes types to) kind) (mark_some (closes types to) kind) (λ n d. pointer_len kind n ∙ ap (λ c. cv_mark c kind + length (cv_text n)) (closes_right types to n d))
first_right types i (Struct name size align params fields) at = ended_right (in_cv types) i (Struct name size align params fields) name at refl
first_right types i (Slice name kind ptr) at = ended_right (in_cv types) i (Slice name kind ptr) name at refl
first_right types i (Str name kind ptr) at = ended_right (in_cv types) i (Str name kind ptr) name at refl
first_right types i (Dyn name kind ptr vtable) at = ended_right (in_cv types) i (Dyn name kind ptr vtable) name at refl
first_right types i FnPtr at = ended_right (in_cv types) i FnPtr function_name at refl
first_right types i (CLike name tag cases) at = ended_right (in_cv types) i (CLike name tag cases) name at refl
first_right types i (Enum name size align params tag variants) at = ended_right (in_cv types) i (Enum name size align params tag variants) name at refl
first_right types i (Bytes name size align) at = ended_right (in_cv types) i (Bytes name size align) name at refl

-- the first table in the spelling of CodeView is right
pub cv_table : (types : List TypeDef) → IsTable (in_cv types) (cv_firsts types)
cv_table types = record { right = firsts_right (in_cv types) (first_of types) (first_right types); long = length-map types (first_of types) }
