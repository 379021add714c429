-- Words that stand for one of a few items.
use Rattle.std.proofs.Common.{◌≡◌, ◌∙◌, ap, refl, ℕ, Bool, true, false, cond, List, [], ◌∷◌, Some}
use Rattle.std.proofs.lemmas.Option.{same_Some}
use Rattle.std.proofs.lemmas.Slice.Eq.{bytes_eq-Decides}
use Rattle.std.specs.Str.{bytes_eq}
use Rattle.layout_words.specs.Spellings.{begins_with}
use Rattle.layout_words.proofs.Lacking.{is_free}
use Rattle.layout_words.proofs.Visible.{is_from}
use Rattle.layout_words.specs.declared.kinds.LineKind.{LineKind}
use Rattle.layout_words.specs.declared.kinds.LineKind.TheVariants as firsts
use Rattle.layout_words.specs.declared.kinds.TypeKind.{TypeKind}
use Rattle.layout_words.specs.declared.kinds.TypeKind.TheVariants as types
use Rattle.layout_words.specs.declared.kinds.SelectorKind.{SelectorKind}
use Rattle.layout_words.specs.declared.kinds.SelectorKind.TheVariants as selectors
use Rattle.names.specs.declared.name.PtrKind.{PtrKind}
use Rattle.names.specs.declared.name.PtrKind.TheVariants as pointers
use Rattle.layout_set.specs.declared.primitive.Primitive.{Primitive}
use Rattle.layout_set.specs.declared.primitive.Primitive.TheVariants as prims
use Rattle.layout_words.specs.Kinds.{named_in, line_kind_of, line_kind_word, all_line_kinds, type_kind_of, type_kind_word, all_type_kinds, selector_kind_of, selector_word, all_selector_kinds, pointer_of, pointer_word, all_pointers, primitive_of, primitive_word, all_primitives}

named_by : {A : Type 0} (name : A → List ℕ) (x : A) (xs : List A) (word : List ℕ) (a : A) → (b : Bool) → bytes_eq word (name x) ≡ b → (named_in name xs word ≡ Some a → word ≡ name a)
    → cond b (Some x) (named_in name xs word) ≡ Some a → word ≡ name a
named_by name x xs word a true e h k = (bytes_eq-Decides word (name x)).0 e ∙ ap name (same_Some x a k)
named_by name x xs word a false e h k = h k

-- the item that is found has the word
pub named_says : {A : Type 0} (name : A → List ℕ) (xs : List A) (word : List ℕ) (a : A) → named_in name xs word ≡ Some a → word ≡ name a
named_says name [] word a e = absurd (cc)
named_says name (x ∷ xs) word a e = named_by name x xs word a (bytes_eq word (name x)) refl (named_says name xs word a) e

-- no space stands in the word, each byte is ASCII past the space, and it doesn't begin with `#`
abbrev pub IsClear : List ℕ → Type 0
IsClear word = (is_free 32 word ≡ true) × (is_from 33 word ≡ true) × (begins_with 35 word ≡ false)

pub line_kind_found : (x : LineKind) → (line_kind_of (line_kind_word x) ≡ Some x) × IsClear (line_kind_word x)
line_kind_found firsts.Version = (refl, (refl, refl, refl))
line_kind_found firsts.Target = (refl, (refl, refl, refl))
line_kind_found firsts.Type = (refl, (refl, refl, refl))
line_kind_found firsts.Param = (refl, (refl, refl, refl))
line_kind_found firsts.Field = (refl, (refl, refl, refl))
line_kind_found firsts.Case = (refl, (refl, refl, refl))
line_kind_found firsts.Tag = (refl, (refl, refl, refl))
line_kind_found firsts.Variant = (refl, (refl, refl, refl))
line_kind_found firsts.Static = (refl, (refl, refl, refl))
line_kind_found firsts.Func = (refl, (refl, refl, refl))
line_kind_found firsts.Scope = (refl, (refl, refl, refl))
line_kind_found firsts.Var = (refl, (refl, refl, refl))
line_kind_found firsts.Arg = (refl, (refl, refl, refl))
line_kind_found firsts.At = (refl, (refl, refl, refl))
line_kind_found firsts.Piece = (refl, (refl, refl, refl))

pub line_kind_says : (word : List ℕ) (x : LineKind) → line_kind_of word ≡ Some x → word ≡ line_kind_word x
line_kind_says word x e = named_says line_kind_word all_line_kinds word x e

pub type_kind_found : (x : TypeKind) → (type_kind_of (type_kind_word x) ≡ Some x) × IsClear (type_kind_word x)
type_kind_found types.Struct = (refl, (refl, refl, refl))
type_kind_found types.Array = (refl, (refl, refl, refl))
type_kind_found types.Thin = (refl, (refl, refl, refl))
type_kind_found types.Slice = (refl, (refl, refl, refl))
type_kind_found types.Str = (refl, (refl, refl, refl))
type_kind_found types.Dyn = (refl, (refl, refl, refl))
type_kind_found types.Function = (refl, (refl, refl, refl))
type_kind_found types.CLike = (refl, (refl, refl, refl))
type_kind_found types.Enum = (refl, (refl, refl, refl))
type_kind_found types.Bytes = (refl, (refl, refl, refl))

pub type_kind_says : (word : List ℕ) (x : TypeKind) → type_kind_of word ≡ Some x → word ≡ type_kind_word x
type_kind_says word x e = named_says type_kind_word all_type_kinds word x e

pub selector_kind_found : (x : SelectorKind) → (selector_kind_of (selector_word x) ≡ Some x) × IsClear (selector_word x)
selector_kind_found selectors.Exact = (refl, (refl, refl, refl))
selector_kind_found selectors.Span = (refl, (refl, refl, refl))
selector_kind_found selectors.Only = (refl, (refl, refl, refl))

pub selector_kind_says : (word : List ℕ) (x : SelectorKind) → selector_kind_of word ≡ Some x → word ≡ selector_word x
selector_kind_says word x e = named_says selector_word all_selector_kinds word x e

pub pointer_found : (x : PtrKind) → (pointer_of (pointer_word x) ≡ Some x) × IsClear (pointer_word x)
pointer_found pointers.Ref = (refl, (refl, refl, refl))
pointer_found pointers.RefMut = (refl, (refl, refl, refl))
pointer_found pointers.Const = (refl, (refl, refl, refl))
pointer_found pointers.Mut = (refl, (refl, refl, refl))
pointer_found pointers.Boxed = (refl, (refl, refl, refl))

pub pointer_says : (word : List ℕ) (x : PtrKind) → pointer_of word ≡ Some x → word ≡ pointer_word x
pointer_says word x e = named_says pointer_word all_pointers word x e

pub primitive_found : (x : Primitive) → (primitive_of (primitive_word x) ≡ Some x) × IsClear (primitive_word x)
primitive_found prims.Unit = (refl, (refl, refl, refl))
primitive_found prims.Bool = (refl, (refl, refl, refl))
primitive_found prims.Char = (refl, (refl, refl, refl))
primitive_found prims.I8 = (refl, (refl, refl, refl))
primitive_found prims.I16 = (refl, (refl, refl, refl))
primitive_found prims.I32 = (refl, (refl, refl, refl))
primitive_found prims.I64 = (refl, (refl, refl, refl))
primitive_found prims.I128 = (refl, (refl, refl, refl))
primitive_found prims.Isize = (refl, (refl, refl, refl))
primitive_found prims.U8 = (refl, (refl, refl, refl))
primitive_found prims.U16 = (refl, (refl, refl, refl))
primitive_found prims.U32 = (refl, (refl, refl, refl))
primitive_found prims.U64 = (refl, (refl, refl, refl))
primitive_found prims.U128 = (refl, (refl, refl, refl))
primitive_found prims.Usize = (refl, (refl, refl, refl))
primitive_found prims.F32 = (refl, (refl, refl, refl))
primitive_found prims.F64 = (refl, (refl, refl, refl))

pub primitive_says : (word : List ℕ) (x : Primitive) → primitive_of word ≡ Some x → word ≡ primitive_word x
primitive_says word x e = named_says primitive_word all_primitives word x e
