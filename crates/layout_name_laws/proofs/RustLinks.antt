-- How long derived names are in the spelling of Rust.
use Rattle.std.proofs.Common.{◌≡◌, ℕ, ◌+◌, ◌<◌, ◌∙◌, List, [], ◌∷◌, ◌++◌, length, map, min, Bool, true, if◌then◌else◌, Some, slice_get, refl, sym, ap, arith, codes, length-append}
use Rattle.std.specs.Fmt.{decimal}
use Rattle.std.proofs.lemmas.Grind.{common_steps}
use Rattle.std.proofs.lemmas.List.{length-map}
use Rattle.names.specs.declared.name.Name.{Name, out-roll-Name}
use Rattle.names.specs.declared.name.Name.TheOpen.{Name-F}
use Rattle.names.specs.declared.name.Name.TheVariants.{Array as ArrayName, Tuple, rolls-Tuple}
use Rattle.names.specs.declared.name.Seg.{Seg}
use Rattle.names.specs.declared.name.PtrKind.{PtrKind}
use Rattle.names.specs.declared.name.PtrKind.TheVariants.{Ref, RefMut, Const, Mut, Boxed}
use Rattle.type_names.specs.RustText.{rust_text, seg_text, is_empty_tuple}
use Rattle.type_names.specs.Joined.{joined}
use Rattle.type_names.proofs.RustLevels.{text-Path, text-Pointer, text-Array, text-Tuple, text-Fn, text-Seg}
use Rattle.layout_set.specs.declared.primitive.Primitive.{Primitive}
use Rattle.layout_set.specs.declared.primitive.Primitive.TheVariants.{«Unit» as UnitPrim, Bool as BoolPrim, Char, I8, I16, I32, I64, I128, Isize, U8, U16, U32, U64, U128, Usize, F32, F64}
use Rattle.layout_set.specs.declared.set.TypeDef.{TypeDef}
use Rattle.layout_set.specs.declared.set.TypeDef.TheVariants.{Struct, Array, Thin, Slice, Str, Dyn, FnPtr, CLike, Enum, Bytes}
use Rattle.layout_set.specs.DerivedNames.{segment, word_name, prim_name, function_name, global_name, pointer_name}
use Rattle.layout_name_laws.specs.NameLengths.{ended, rust_mark, rust_first, rust_firsts, own_text}
use Rattle.layout_name_laws.proofs.NameLengths.{Spelled, Right, IsTable, over_right, ended_right, firsts_right}

-- a segment that is a word
word_seg : (word : List ℕ) → seg_text (segment word []) ≡ word ++ []
word_seg word = text-Seg (segment word [])

pub word_text_is : (word : List ℕ) → rust_text (word_name word) ≡ (word ++ []) ++ []
word_text_is word = text-Path (segment word [] ∷ []) ∙ ap (λ t. t ++ []) (word_seg word)

three : (a b c x y z : List ℕ) (s t u : Seg) → seg_text s ≡ x → seg_text t ≡ y → seg_text u ≡ z → joined (codes "::") (map seg_text (s ∷ t ∷ u ∷ [])) ≡ joined (codes "::") (x ∷ y ∷ z ∷ [])
three a b c x y z s t u p q r = ap (λ v. joined (codes "::") (v ∷ seg_text t ∷ seg_text u ∷ [])) p ∙ ap (λ v. joined (codes "::") (x ∷ v ∷ seg_text u ∷ [])) q ∙ ap (λ v. joined (codes "::") (x ∷ y ∷ v ∷ [])) r

global_text : rust_text global_name ≡ codes "alloc::alloc::Global"
global_text = text-Path (segment (codes "alloc") [] ∷ segment (codes "alloc") [] ∷ segment (codes "Global") [] ∷ []) ∙ three [] [] [] (codes "alloc") (codes "alloc") (codes "Global") _ _ _ (word_seg (codes "alloc")) (word_seg (codes "alloc")) (word_seg (codes "Global"))

box_seg : (n : Name) → seg_text (segment (codes "Box") (n ∷ global_name ∷ [])) ≡ codes "Box" ++ (codes "<" ++ joined (codes ", ") (rust_text n ∷ codes "alloc::alloc::Global" ∷ []) ++ codes ">")
box_seg n = text-Seg (segment (codes "Box") (n ∷ global_name ∷ [])) ∙ ap (λ g. codes "Box" ++ (codes "<" ++ joined (codes ", ") (rust_text n ∷ g ∷ []) ++ codes ">")) global_text

pub box_text : (n : Name) → rust_text (pointer_name Boxed n) ≡ joined (codes "::") (codes "alloc" ∷ codes "boxed" ∷ (codes "Box" ++ (codes "<" ++ joined (codes ", ") (rust_text n ∷ codes "alloc::alloc::Global" ∷ []) ++ codes ">")) ∷ [])
box_text n = text-Path (segment (codes "alloc") [] ∷ segment (codes "boxed") [] ∷ segment (codes "Box") (n ∷ global_name ∷ []) ∷ []) ∙ three [] [] [] (codes "alloc") (codes "boxed") _ _ _ _ (word_seg (codes "alloc")) (word_seg (codes "boxed")) (box_seg n)

box_len : (x : List ℕ) → length (joined (codes "::") (codes "alloc" ∷ codes "boxed" ∷ (codes "Box" ++ (codes "<" ++ joined (codes ", ") (x ∷ codes "alloc::alloc::Global" ∷ []) ++ codes ">")) ∷ [])) ≡ 41 + length x
box_len x = grind (arith, common_steps, length-append)

pub pointer_len : (kind : PtrKind) (n : Name) → length (rust_text (pointer_name kind n)) ≡ rust_mark kind + length (rust_text n)
pointer_len Ref n = ap length (text-Pointer Ref n) ∙ grind (arith, common_steps, length-append)
pointer_len RefMut n = ap length (text-Pointer RefMut n) ∙ grind (arith, common_steps, length-append)
pointer_len Const n = ap length (text-Pointer Const n) ∙ grind (arith, common_steps, length-append)
pointer_len Mut n = ap length (text-Pointer Mut n) ∙ grind (arith, common_steps, length-append)
pointer_len Boxed n = ap length (box_text n) ∙ box_len (rust_text n)

pub array_len : (n : Name) (count : ℕ) → length (rust_text (ArrayName n count)) ≡ (4 + length (decimal count)) + length (rust_text n)
array_len n count = ap length (text-Array n count) ∙ grind (arith, common_steps, length-append)

pub tuple_is_empty : is_empty_tuple (Tuple []) ≡ true
tuple_is_empty = ap is_empty_tuple (sym (rolls-Tuple [])) ∙ rw (out-roll-Name (Name-F.Tuple [])) refl

pub function_len : length (rust_text function_name) ≡ 4
function_len = ap length (text-Fn [] (Tuple [])) ∙ ap (λ (b : Bool). length (codes "fn(" ++ joined (codes ", ") [] ++ codes ")" ++ (if b then [] else codes " -> " ++ rust_text (Tuple [])))) tuple_is_empty

-- the first length of a pointer to a function
pub function_first : ended (codes "fn()") ≡ rust_first (own_text rust_text FnPtr) FnPtr
function_first = let e : min 1001 4 ≡ min 1001 (length (rust_text function_name)) = ap (min 1001) (sym function_len) in cc

pub word_len : (word : List ℕ) → length (rust_text (word_name word)) ≡ length word
word_len word = ap length (word_text_is word) ∙ grind (arith, common_steps, length-append)

pub empty_tuple_len : length (rust_text (Tuple [])) ≡ 2
empty_tuple_len = ap length (text-Tuple [])

-- how long the name of a primitive is
abbrev pub prim_bytes_of : Primitive → ℕ
prim_bytes_of UnitPrim = 2
prim_bytes_of BoolPrim = 4
prim_bytes_of Char = 4
prim_bytes_of I8 = 2
prim_bytes_of I16 = 3
prim_bytes_of I32 = 3
prim_bytes_of I64 = 3
prim_bytes_of I128 = 4
prim_bytes_of Isize = 5
prim_bytes_of U8 = 2
prim_bytes_of U16 = 3
prim_bytes_of U32 = 3
prim_bytes_of U64 = 3
prim_bytes_of U128 = 4
prim_bytes_of Usize = 5
prim_bytes_of F32 = 3
prim_bytes_of F64 = 3

pub prim_lens : (prim : Primitive) → length (rust_text (prim_name prim)) ≡ prim_bytes_of prim
prim_lens UnitPrim = empty_tuple_len
prim_lens BoolPrim = word_len (codes "bool")
prim_lens Char = word_len (codes "char")
prim_lens I8 = word_len (codes "i8")
prim_lens I16 = word_len (codes "i16")
prim_lens I32 = word_len (codes "i32")
prim_lens I64 = word_len (codes "i64")
prim_lens I128 = word_len (codes "i128")
prim_lens Isize = word_len (codes "isize")
prim_lens U8 = word_len (codes "u8")
prim_lens U16 = word_len (codes "u16")
prim_lens U32 = word_len (codes "u32")
prim_lens U64 = word_len (codes "u64")
prim_lens U128 = word_len (codes "u128")
prim_lens Usize = word_len (codes "usize")
prim_lens F32 = word_len (codes "f32")
prim_lens F64 = word_len (codes "f64")

pub mark_some : (kind : PtrKind) → 0 < rust_mark kind
mark_some Ref = omega arith
mark_some RefMut = omega arith
mark_some Const = omega arith
mark_some Mut = omega arith
mark_some Boxed = omega arith

abbrev pub in_rust : List TypeDef → Spelled
in_rust types = record { types = types; text = rust_text }

first_right : (types : List TypeDef) (i : ℕ) (t : TypeDef) → slice_get types i ≡ Some t → Right (in_rust types) i (rust_first (own_text rust_text t) t)
first_right types i (Array elem count) at = over_right (in_rust types) i (Array elem count) _ at refl elem refl (4 + length (decimal count)) (omega arith) (λ n d. array_len n count)
first_right types i (Thin kind to) at = over_right (in_rust types) i (Thin kind to) _ at refl to refl (rust_mark kind) (mark_some kind) (λ n d. pointer_len kind n)
first_right types i (Struct name size align params fields) at = ended_right (in_rust types) i (Struct name size align params fields) name at refl
first_right types i (Slice name kind ptr) at = ended_right (in_rust types) i (Slice name kind ptr) name at refl
first_right types i (Str name kind ptr) at = ended_right (in_rust types) i (Str name kind ptr) name at refl
first_right types i (Dyn name kind ptr vtable) at = ended_right (in_rust types) i (Dyn name kind ptr vtable) name at refl
first_right types i FnPtr at = ended_right (in_rust types) i FnPtr function_name at refl
first_right types i (CLike name tag cases) at = ended_right (in_rust types) i (CLike name tag cases) name at refl
first_right types i (Enum name size align params tag variants) at = ended_right (in_rust types) i (Enum name size align params tag variants) name at refl
first_right types i (Bytes name size align) at = ended_right (in_rust types) i (Bytes name size align) name at refl

-- the first table in the spelling of Rust is right
pub rust_table : (types : List TypeDef) → IsTable (in_rust types) (rust_firsts types)
rust_table types = record { right = firsts_right (in_rust types) (λ t. rust_first (own_text rust_text t) t) (first_right types); long = length-map types (λ t. rust_first (own_text rust_text t) t) }
