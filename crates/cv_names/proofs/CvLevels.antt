-- The CodeView text of each variant, from the texts of its parts, and how a closing `>` is put.
use Rattle.std.proofs.Common.{◌≡◌, ◌∙◌, sym, ap, subst, ℕ, suc, ◌<◌, ◌-◌, ◌==◌, get_or, Bool, List, [], ◌∷◌, ◌++◌, length, map, codes, refl}
use Rattle.std.proofs.Common.{arith, append_assoc, Result, OnOk, if◌then◌else◌, flat_map}
use Rattle.std.specs.Fmt.{decimal}
use Rattle.names.specs.declared.name.Name.{Name, fold-roll-Name}
use Rattle.names.specs.declared.name.Name.TheOpen.{Name-F}
use Rattle.names.specs.declared.name.Name.TheVariants.{Path, Pointer, Slice, Array, Tuple, Str, Dyn, Fn, Number, Bind, Raw, rolls-Path}
use Rattle.names.specs.declared.name.Name.TheVariants.{rolls-Pointer, rolls-Slice, rolls-Array, rolls-Tuple, rolls-Str, rolls-Dyn, rolls-Fn}
use Rattle.names.specs.declared.name.Name.TheVariants.{rolls-Number, rolls-Bind, rolls-Raw}
use Rattle.names.specs.declared.name.Seg.{Seg, fold-roll-Seg}
use Rattle.names.specs.declared.name.PtrKind.{PtrKind}
use Rattle.names.specs.declared.name.PtrKind.TheVariants.{Ref, RefMut, Const, Mut, Boxed}
use Rattle.names.specs.Joined.{joined}
use Rattle.names.specs.Signs.{sign_text}
use Rattle.cv_names.specs.CvText.{cv_text, cv_seg_text, cv_kind_text, cv_word_text, cv_args_text, closed, closing, ends_closed, cv_step, cv_seg_step}

pub cv-Path : (segs : List Seg) → cv_text (Path segs) ≡ joined (codes "::") (map cv_seg_text segs)
cv-Path segs = ap cv_text (sym (rolls-Path segs)) ∙ fold-roll-Name (List ℕ) (List ℕ) cv_step cv_seg_step (Name-F.Path segs)

pub cv-Pointer : (kind : PtrKind) (x : Name) → cv_text (Pointer kind x) ≡ closed (cv_kind_text kind ++ cv_text x)
cv-Pointer kind x = ap cv_text (sym (rolls-Pointer kind x)) ∙ fold-roll-Name (List ℕ) (List ℕ) cv_step cv_seg_step (Name-F.Pointer kind x)

pub cv-Slice : (x : Name) → cv_text (Slice x) ≡ closed (codes "slice2$<" ++ cv_text x)
cv-Slice x = ap cv_text (sym (rolls-Slice x)) ∙ fold-roll-Name (List ℕ) (List ℕ) cv_step cv_seg_step (Name-F.Slice x)

pub cv-Array : (x : Name) (n : ℕ) → cv_text (Array x n) ≡ closed (codes "array$<" ++ cv_text x ++ codes "," ++ decimal n)
cv-Array x n = ap cv_text (sym (rolls-Array x n)) ∙ fold-roll-Name (List ℕ) (List ℕ) cv_step cv_seg_step (Name-F.Array x n)

pub cv-Tuple : (xs : List Name) → cv_text (Tuple xs) ≡ closed (codes "tuple$<" ++ joined (codes ",") (map cv_text xs))
cv-Tuple xs = ap cv_text (sym (rolls-Tuple xs)) ∙ fold-roll-Name (List ℕ) (List ℕ) cv_step cv_seg_step (Name-F.Tuple xs)

pub cv-Str : cv_text Str ≡ codes "str$"
cv-Str = ap cv_text (sym rolls-Str) ∙ fold-roll-Name (List ℕ) (List ℕ) cv_step cv_seg_step Name-F.Str

pub cv-Dyn : (xs : List Name) → cv_text (Dyn xs) ≡ closed (codes "dyn$<" ++ joined (codes ",") (map cv_text xs))
cv-Dyn xs = ap cv_text (sym (rolls-Dyn xs)) ∙ fold-roll-Name (List ℕ) (List ℕ) cv_step cv_seg_step (Name-F.Dyn xs)

pub cv-Fn : (xs : List Name) (x : Name) → cv_text (Fn xs x) ≡ closed (codes "fn$<" ++ joined (codes ",") (cv_text x ∷ map cv_text xs))
cv-Fn xs x = ap cv_text (sym (rolls-Fn xs x)) ∙ fold-roll-Name (List ℕ) (List ℕ) cv_step cv_seg_step (Name-F.Fn xs x)

pub cv-Number : (minus : Bool) (n : ℕ) → cv_text (Number minus n) ≡ sign_text minus ++ decimal n
cv-Number minus n = ap cv_text (sym (rolls-Number minus n)) ∙ fold-roll-Name (List ℕ) (List ℕ) cv_step cv_seg_step (Name-F.Number minus n)

pub cv-Bind : (word : List ℕ) (x : Name) → cv_text (Bind word x) ≡ closed (codes "assoc$<" ++ word ++ codes "," ++ cv_text x)
cv-Bind word x = ap cv_text (sym (rolls-Bind word x)) ∙ fold-roll-Name (List ℕ) (List ℕ) cv_step cv_seg_step (Name-F.Bind word x)

pub cv-Raw : (t : List ℕ) → cv_text (Raw t) ≡ t
cv-Raw t = ap cv_text (sym (rolls-Raw t)) ∙ fold-roll-Name (List ℕ) (List ℕ) cv_step cv_seg_step (Name-F.Raw t)

pub cv-Seg : (s : Seg) → cv_seg_text s ≡ cv_word_text s.word s.number ++ cv_args_text (map cv_text s.args)
cv-Seg s = fold-roll-Seg (List ℕ) (List ℕ) cv_step cv_seg_step (record { word = s.word; number = s.number; args = s.args })

pub ruleset levels = (cv-Path, cv-Pointer, cv-Slice, cv-Array, cv-Tuple, cv-Str, cv-Dyn, cv-Fn, cv-Number, cv-Bind, cv-Raw, cv-Seg)

-- only the last byte decides
ends_append : (o : List ℕ) (c : ℕ) (t : List ℕ) → ends_closed (o ++ c ∷ t) ≡ ends_closed (c ∷ t)
ends_append [] c t = refl
ends_append (a ∷ []) c t = refl
ends_append (a ∷ b ∷ o) c t = ends_append (b ∷ o) c t

-- what is closed after other bytes is closed by itself
pub closed_append : (o t : List ℕ) → 0 < length t → closed (o ++ t) ≡ o ++ closed t
closed_append o [] h = absurd (omega arith)
closed_append o (c ∷ t) h = ap (λ z. (o ++ c ∷ t) ++ (if z then codes " >" else codes ">")) (ends_append o c t) ∙ append_assoc o (c ∷ t) (closing (c ∷ t))

-- a text was put after o, and then closed
pub put_closed : {E : Type 0} (r : Result (Unit {0}) E) (new mid o t : List ℕ) → OnOk r (new ≡ closed mid) → mid ≡ o ++ t → 0 < length t →
    OnOk r (new ≡ o ++ closed t)
put_closed r new mid o t h e some = subst (λ l. OnOk r (new ≡ l)) (ap closed e ∙ closed_append o t some) h

-- the last byte of a text that is not empty
pub ends_last : (t : List ℕ) → 0 < length t → (get_or t (length t - 1) 0 == 62) ≡ ends_closed t
ends_last [] h = absurd (omega arith)
ends_last (c ∷ []) h = refl
ends_last (c ∷ d ∷ s) h =
    let last : length (c ∷ d ∷ s) - 1 ≡ suc (length s) = omega arith in
    let before : length s ≡ length (d ∷ s) - 1 = omega arith in
    ap (λ n. get_or (c ∷ d ∷ s) n 0 == 62) last ∙ ap (λ n. get_or (d ∷ s) n 0 == 62) before ∙ ends_last (d ∷ s) (omega arith)

-- a function's text, from its result and its parameters
pub fn_closed : {E : Type 0} (r : Result (Unit {0}) E) (new mid out : List ℕ) (x : Name) (xs : List Name)
    → OnOk r (new ≡ closed (mid ++ flat_map (λ t. codes "," ++ t) (map cv_text xs))) → mid ≡ out ++ (codes "fn$<" ++ cv_text x) →
    OnOk r (new ≡ out ++ cv_text (Fn xs x))
fn_closed r new mid out x xs h e =
    let more = flat_map (λ t. codes "," ++ t) (map cv_text xs) in
    let whole = codes "fn$<" ++ (cv_text x ++ more) in
    subst (λ l. OnOk r (new ≡ l))
    (ap (λ m. closed (m ++ more)) e ∙ ap closed (append_assoc out (codes "fn$<" ++ cv_text x) more) ∙ closed_append out whole (omega arith) ∙
    ap (λ l. out ++ l) (sym (cv-Fn xs x))) h

pub kind_some : (kind : PtrKind) (t : List ℕ) → 0 < length (cv_kind_text kind ++ t)
kind_some Ref t = omega arith
kind_some RefMut t = omega arith
kind_some Const t = omega arith
kind_some Mut t = omega arith
kind_some Boxed t = omega arith
