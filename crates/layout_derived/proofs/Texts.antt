-- The texts of derived names, part by part.
use Rattle.std.proofs.Common.{◌≡◌, ◌∙◌, sym, ap, ℕ, List, [], ◌∷◌, ◌++◌, Bool, if◌then◌else◌, codes, append_assoc, arith}
use Rattle.std.specs.Fmt.{decimal}
use Rattle.std.proofs.lemmas.Grind.{common_steps}
use Rattle.std.proofs.lemmas.List.{append-nil}
use Rattle.names.specs.declared.name.Name.{Name}
use Rattle.names.specs.declared.name.Name.TheVariants.{Array as ArrayName, Tuple}
use Rattle.names.specs.declared.name.PtrKind.{PtrKind}
use Rattle.names.specs.declared.name.PtrKind.TheVariants.{Ref, RefMut, Const, Mut, Boxed}
use Rattle.type_names.specs.Joined.{joined}
use Rattle.type_names.specs.RustText.{rust_text}
use Rattle.type_names.proofs.RustLevels.{text-Pointer, text-Array, text-Tuple, text-Fn}
use Rattle.layout_set.specs.declared.primitive.Primitive.{Primitive}
use Rattle.layout_set.specs.declared.primitive.Primitive.TheVariants.{«Unit» as UnitPrim, Bool as BoolPrim, Char, I8, I16, I32, I64, I128, Isize, U8, U16, U32, U64, U128, Usize, F32, F64}
use Rattle.layout_set.specs.DerivedNames.{prim_name, function_name, pointer_name}
use Rattle.layout_name_laws.proofs.RustLinks.{word_text_is, box_text, tuple_is_empty}
use Rattle.layout_derived.specs.declared.step.Around.{Around}
use Rattle.layout_derived.specs.declared.step.Around.TheVariants.{Pointer, Array as AroundItem}
use Rattle.layout_derived.specs.DerivedTexts.{prim_word, opening, closing, count_text, before, after}

pub prim_texts : (prim : Primitive) → rust_text (prim_name prim) ≡ prim_word prim
prim_texts UnitPrim = text-Tuple []
prim_texts BoolPrim = word_text_is (codes "bool")
prim_texts Char = word_text_is (codes "char")
prim_texts I8 = word_text_is (codes "i8")
prim_texts I16 = word_text_is (codes "i16")
prim_texts I32 = word_text_is (codes "i32")
prim_texts I64 = word_text_is (codes "i64")
prim_texts I128 = word_text_is (codes "i128")
prim_texts Isize = word_text_is (codes "isize")
prim_texts U8 = word_text_is (codes "u8")
prim_texts U16 = word_text_is (codes "u16")
prim_texts U32 = word_text_is (codes "u32")
prim_texts U64 = word_text_is (codes "u64")
prim_texts U128 = word_text_is (codes "u128")
prim_texts Usize = word_text_is (codes "usize")
prim_texts F32 = word_text_is (codes "f32")
prim_texts F64 = word_text_is (codes "f64")

box_is : (x : List ℕ)
    → joined (codes "::") (codes "alloc" ∷ codes "boxed" ∷ (codes "Box" ++ (codes "<" ++ joined (codes ", ") (x ∷ codes "alloc::alloc::Global" ∷ []) ++ codes ">")) ∷ [])
    ≡ codes "alloc::boxed::Box<" ++ (x ++ codes ", alloc::alloc::Global>")
box_is x = grind (arith, common_steps)

pub pointer_text : (kind : PtrKind) (n : Name) → rust_text (pointer_name kind n) ≡ opening kind ++ (rust_text n ++ closing kind)
pointer_text Ref n = text-Pointer Ref n ∙ ap (λ t. codes "&" ++ t) (sym (append-nil (rust_text n)))
pointer_text RefMut n = text-Pointer RefMut n ∙ ap (λ t. codes "&mut " ++ t) (sym (append-nil (rust_text n)))
pointer_text Const n = text-Pointer Const n ∙ ap (λ t. codes "*const " ++ t) (sym (append-nil (rust_text n)))
pointer_text Mut n = text-Pointer Mut n ∙ ap (λ t. codes "*mut " ++ t) (sym (append-nil (rust_text n)))
pointer_text Boxed n = box_text n ∙ box_is (rust_text n)

pub array_text : (n : Name) (count : ℕ) → rust_text (ArrayName n count) ≡ codes "[" ++ (rust_text n ++ count_text count)
array_text n count =
    text-Array n count ∙ ap (λ t. t ++ codes "]") (append_assoc (codes "[" ++ rust_text n) (codes "; ") (decimal count))
    ∙ append_assoc (codes "[" ++ rust_text n) (codes "; " ++ decimal count) (codes "]")
    ∙ append_assoc (codes "[") (rust_text n) (count_text count)

pub function_text : rust_text function_name ≡ codes "fn()"
function_text =
    text-Fn [] (Tuple [])
    ∙ ap (λ (b : Bool). codes "fn(" ++ joined (codes ", ") [] ++ codes ")" ++ (if b then [] else codes " -> " ++ rust_text (Tuple []))) tuple_is_empty

-- the name that stands within the texts around it
abbrev pub over : Around → Name → Name
over (Pointer kind) name = pointer_name kind name
over (AroundItem count) name = ArrayName name count

pub around_text : (around : Around) (n : Name) → rust_text (over around n) ≡ before around ++ (rust_text n ++ after around)
around_text (Pointer kind) n = pointer_text kind n
around_text (AroundItem count) n = array_text n count
