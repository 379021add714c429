-- The Rust text of each variant, from the texts of its parts.
use Rattle.std.proofs.Common.{◌≡◌, ◌∙◌, sym, ap, ℕ, Bool, List, ◌++◌, map, codes}
use Rattle.std.specs.Fmt.{decimal}
use mathlib.Core.List.{map-map}
use Rattle.names.specs.declared.name.Name.{Name, para-roll-Name}
use Rattle.names.specs.declared.name.Name.TheOpen.{Name-F}
use Rattle.names.specs.declared.name.Name.TheVariants.{Path, Pointer, Slice, Array, Tuple, Str, Dyn, Fn, Number, Bind, Raw, rolls-Path}
use Rattle.names.specs.declared.name.Name.TheVariants.{rolls-Pointer, rolls-Slice, rolls-Array, rolls-Tuple, rolls-Str, rolls-Dyn, rolls-Fn}
use Rattle.names.specs.declared.name.Name.TheVariants.{rolls-Number, rolls-Bind, rolls-Raw}
use Rattle.names.specs.declared.name.Seg.{Seg, para-roll-Seg}
use Rattle.names.specs.declared.name.PtrKind.{PtrKind}
use Rattle.rust_names.specs.RustText.{rust_text, seg_text, args_text, word_text, result_text, dyn_text, name_step, seg_step}
use Rattle.names.specs.Pointers.{kind_text}
use Rattle.names.specs.Joined.{joined}
use Rattle.names.specs.Signs.{sign_text}

names : (xs : List Name) → map (λ (x : Name × List ℕ). x.1) (map (λ y. (y, rust_text y)) xs) ≡ map rust_text xs
names xs = map-map (λ (x : Name × List ℕ). x.1) (λ y. (y, rust_text y)) xs

segments : (xs : List Seg) → map (λ (x : Seg × List ℕ). x.1) (map (λ y. (y, seg_text y)) xs) ≡ map seg_text xs
segments xs = map-map (λ (x : Seg × List ℕ). x.1) (λ y. (y, seg_text y)) xs

pub text-Path : (segs : List Seg) → rust_text (Path segs) ≡ joined (codes "::") (map seg_text segs)
text-Path segs = ap rust_text (sym (rolls-Path segs)) ∙ para-roll-Name (List ℕ) (List ℕ) name_step seg_step (Name-F.Path segs) ∙
    ap (joined (codes "::")) (segments segs)

pub text-Pointer : (kind : PtrKind) (x : Name) → rust_text (Pointer kind x) ≡ kind_text kind ++ rust_text x
text-Pointer kind x = ap rust_text (sym (rolls-Pointer kind x)) ∙ para-roll-Name (List ℕ) (List ℕ) name_step seg_step (Name-F.Pointer kind x)

pub text-Slice : (x : Name) → rust_text (Slice x) ≡ codes "[" ++ rust_text x ++ codes "]"
text-Slice x = ap rust_text (sym (rolls-Slice x)) ∙ para-roll-Name (List ℕ) (List ℕ) name_step seg_step (Name-F.Slice x)

pub text-Array : (x : Name) (n : ℕ) → rust_text (Array x n) ≡ codes "[" ++ rust_text x ++ codes "; " ++ decimal n ++ codes "]"
text-Array x n = ap rust_text (sym (rolls-Array x n)) ∙ para-roll-Name (List ℕ) (List ℕ) name_step seg_step (Name-F.Array x n)

pub text-Tuple : (xs : List Name) → rust_text (Tuple xs) ≡ codes "(" ++ joined (codes ", ") (map rust_text xs) ++ codes ")"
text-Tuple xs = ap rust_text (sym (rolls-Tuple xs)) ∙ para-roll-Name (List ℕ) (List ℕ) name_step seg_step (Name-F.Tuple xs) ∙
    ap (λ l. codes "(" ++ joined (codes ", ") l ++ codes ")") (names xs)

pub text-Str : rust_text Str ≡ codes "str"
text-Str = ap rust_text (sym rolls-Str) ∙ para-roll-Name (List ℕ) (List ℕ) name_step seg_step Name-F.Str

pub text-Dyn : (xs : List Name) → rust_text (Dyn xs) ≡ dyn_text (map rust_text xs)
text-Dyn xs = ap rust_text (sym (rolls-Dyn xs)) ∙ para-roll-Name (List ℕ) (List ℕ) name_step seg_step (Name-F.Dyn xs) ∙ ap dyn_text (names xs)

pub text-Fn : (xs : List Name) (x : Name) →
    rust_text (Fn xs x) ≡ codes "fn(" ++ joined (codes ", ") (map rust_text xs) ++ codes ")" ++ result_text x (rust_text x)
text-Fn xs x = ap rust_text (sym (rolls-Fn xs x)) ∙ para-roll-Name (List ℕ) (List ℕ) name_step seg_step (Name-F.Fn xs x) ∙
    ap (λ l. codes "fn(" ++ joined (codes ", ") l ++ codes ")" ++ result_text x (rust_text x)) (names xs)

pub text-Number : (minus : Bool) (n : ℕ) → rust_text (Number minus n) ≡ sign_text minus ++ decimal n
text-Number minus n = ap rust_text (sym (rolls-Number minus n)) ∙ para-roll-Name (List ℕ) (List ℕ) name_step seg_step (Name-F.Number minus n)

pub text-Bind : (word : List ℕ) (x : Name) → rust_text (Bind word x) ≡ word ++ codes "=" ++ rust_text x
text-Bind word x = ap rust_text (sym (rolls-Bind word x)) ∙ para-roll-Name (List ℕ) (List ℕ) name_step seg_step (Name-F.Bind word x)

pub text-Raw : (t : List ℕ) → rust_text (Raw t) ≡ t
text-Raw t = ap rust_text (sym (rolls-Raw t)) ∙ para-roll-Name (List ℕ) (List ℕ) name_step seg_step (Name-F.Raw t)

pub text-Seg : (s : Seg) → seg_text s ≡ word_text s.word s.number ++ args_text (map rust_text s.args)
text-Seg s = para-roll-Seg (List ℕ) (List ℕ) name_step seg_step (record { word = s.word; number = s.number; args = s.args }) ∙
    ap (λ l. word_text s.word s.number ++ args_text l) (names s.args)

pub ruleset levels = (text-Path, text-Pointer, text-Slice, text-Array, text-Tuple, text-Str, text-Dyn, text-Fn, text-Number, text-Bind, text-Raw, text-Seg)
