-- The CodeView spelling of a name, and its other spellings.
use Rattle.std.specs.Prelude.{◌≡◌, ◌≢◌, ℕ, zero, suc, ◌==◌, ◌<◌, ◌^◌, if◌then◌else◌, Bool, true, false, List, [], ◌∷◌, ◌++◌, Option, Some}
use Rattle.std.specs.Prelude.{None, IfSome, ◌⊎◌, codes}
use Rattle.std.specs.Fmt.{decimal}
use Rattle.names.specs.declared.name.Name.{Name, out-Name, fold-Name}
use Rattle.names.specs.declared.name.Name.TheOpen.{Name-F, Seg-F}
use Rattle.names.specs.declared.name.Seg.{Seg, fold-Seg}
use Rattle.names.specs.declared.name.PtrKind.{PtrKind}
use Rattle.names.specs.declared.name.PtrKind.TheVariants.{Ref, RefMut, Const, Mut, Boxed}
use Rattle.names.specs.Joined.{IsJoined, joined}
use Rattle.names.specs.Names.{Role, whole, arg, member, IsNoMember, IsArg, plain_str}
use Rattle.names.specs.Signs.{sign_text}
use Rattle.names.specs.Words.{IsWord}

-- no pointer name has the kind of boxes
abbrev pub cv_kind_text : PtrKind → List ℕ
cv_kind_text Ref = codes "ref$<"
cv_kind_text RefMut = codes "ref_mut$<"
cv_kind_text Const = codes "ptr_const$<"
cv_kind_text Mut = codes "ptr_mut$<"
cv_kind_text Boxed = codes "box$<"

-- the text ends with `>`
abbrev pub ends_closed : List ℕ → Bool
ends_closed [] = false
ends_closed (c ∷ []) = c == 62
ends_closed (c ∷ d ∷ s) = ends_closed (d ∷ s)

-- the closing `>`, after a space where the text before ends with `>`
abbrev pub closing : List ℕ → List ℕ
closing text = if ends_closed text then codes " >" else codes ">"

-- a text and its closing
abbrev pub closed : List ℕ → List ℕ
closed text = text ++ closing text

-- `WORD`, or `WORD$n` where there is a number
abbrev pub cv_word_text : List ℕ → Option ℕ → List ℕ
cv_word_text word None = word
cv_word_text word (Some n) = word ++ codes "$" ++ decimal n

-- the args in angle brackets, if any
abbrev pub cv_args_text : List (List ℕ) → List ℕ
cv_args_text [] = []
cv_args_text (a ∷ rest) = closed (codes "<" ++ joined (codes ",") (a ∷ rest))

-- one segment, with the text of each arg in its place
abbrev pub cv_seg_step : Seg-F (List ℕ) (List ℕ) → List ℕ
cv_seg_step s = cv_word_text s.word s.number ++ cv_args_text s.args

-- one name, with the text of each name inside in its place
abbrev pub cv_step : Name-F (List ℕ) (List ℕ) → List ℕ
cv_step (Name-F.Path segs) = joined (codes "::") segs
cv_step (Name-F.Pointer kind x) = closed (cv_kind_text kind ++ x)
cv_step (Name-F.Slice x) = closed (codes "slice2$<" ++ x)
cv_step (Name-F.Array x n) = closed (codes "array$<" ++ x ++ codes "," ++ decimal n)
cv_step (Name-F.Tuple xs) = closed (codes "tuple$<" ++ joined (codes ",") xs)
cv_step Name-F.Str = codes "str$"
cv_step (Name-F.Dyn xs) = closed (codes "dyn$<" ++ joined (codes ",") xs)
cv_step (Name-F.Fn xs x) = closed (codes "fn$<" ++ joined (codes ",") (x ∷ xs))
cv_step (Name-F.Number minus n) = sign_text minus ++ decimal n
cv_step (Name-F.Bind word x) = closed (codes "assoc$<" ++ word ++ codes "," ++ x)
cv_step (Name-F.Raw t) = t

-- the CodeView spelling of a name
abbrev pub cv_text : Name → List ℕ
cv_text = fold-Name (List ℕ) (List ℕ) cv_step cv_seg_step

-- the CodeView spelling of a segment
abbrev pub cv_seg_text : Seg → List ℕ
cv_seg_text = fold-Seg (List ℕ) (List ℕ) cv_step cv_seg_step

-- the text of args in angle brackets, each in one of its spellings; nothing where there are none
abbrev pub AreCvArgs : (Name → List ℕ → Type 0) → List Name → List ℕ → Type 0
AreCvArgs Spells [] t = t ≡ []
AreCvArgs Spells (a ∷ rest) t =
    (b : List ℕ) × (IsJoined Spells (codes ",") (a ∷ rest) b × (t ≡ closed (codes "<" ++ b)))

-- a segment in one of its spellings, whose args have one of theirs
abbrev pub CvSeg : (Role → Name → List ℕ → Type 0) → Seg → List ℕ → Type 0
CvSeg Spells s t =
    IsWord s.word × (IfSome s.number (λ n. n < 2 ^ 32) ×
    ((a : List ℕ) × (AreCvArgs (Spells arg) s.args a × (t ≡ cv_word_text s.word s.number ++ a))))

-- one level of a proper name in such a place, in one of its spellings, whose parts have one of theirs
abbrev pub CvLayer : (Role → Name → List ℕ → Type 0) → Role → Name-F Name Seg → List ℕ → Type 0
CvLayer Spells role (Name-F.Path segs) t =
    (segs ≢ []) × ((segs ≢ plain_str) × IsJoined (CvSeg Spells) (codes "::") segs t)
CvLayer Spells role (Name-F.Pointer kind x) t =
    IsNoMember role × ((kind ≢ Boxed) × ((a : List ℕ) × (Spells whole x a × (t ≡ closed (cv_kind_text kind ++ a)))))
CvLayer Spells role (Name-F.Slice x) t =
    IsNoMember role × ((a : List ℕ) × (Spells whole x a × (t ≡ closed (codes "slice2$<" ++ a))))
CvLayer Spells role (Name-F.Array x n) t =
    IsNoMember role × ((n < 2 ^ 64) ×
    ((a : List ℕ) × (Spells whole x a × (t ≡ closed (codes "array$<" ++ a ++ codes "," ++ decimal n)))))
CvLayer Spells role (Name-F.Tuple xs) t =
    IsNoMember role × ((a : List ℕ) × (IsJoined (Spells whole) (codes ",") xs a × (t ≡ closed (codes "tuple$<" ++ a))))
CvLayer Spells role Name-F.Str t = IsNoMember role × (t ≡ codes "str$")
CvLayer Spells role (Name-F.Dyn xs) t =
    IsNoMember role × ((xs ≢ []) ×
    ((a : List ℕ) × (IsJoined (Spells member) (codes ",") xs a × (t ≡ closed (codes "dyn$<" ++ a)))))
CvLayer Spells role (Name-F.Fn xs x) t =
    IsNoMember role × ((a : List ℕ) ×
    (IsJoined (Spells whole) (codes ",") (x ∷ xs) a × (t ≡ closed (codes "fn$<" ++ a))))
CvLayer Spells role (Name-F.Number minus n) t =
    IsArg role × ((n < 2 ^ 128) × ((minus ≡ true → n ≢ 0) × (t ≡ sign_text minus ++ decimal n)))
CvLayer Spells role (Name-F.Bind word x) t =
    IsArg role × (IsWord word ×
    ((a : List ℕ) × (Spells whole x a × (t ≡ closed (codes "assoc$<" ++ word ++ codes "," ++ a)))))
CvLayer Spells role (Name-F.Raw s) t = ⊥

-- a name that may stand in such a place and nests at most d deep, in one of its spellings: a path that is no member of a
-- `Dyn` may stand once as `enum2$<X>`
unfoldable pub CvSpelled : ℕ → Role → Name → List ℕ → Type 0
CvSpelled zero role n t = ⊥
CvSpelled (suc d) role n t =
    CvLayer (CvSpelled d) role (out-Name n) t
    ⊎ (IsNoMember role ×
    ((a : List ℕ) × (CvLayer (CvSpelled d) member (out-Name n) a × (t ≡ closed (codes "enum2$<" ++ a)))))

-- the name is proper, and this is its CodeView text, or that text with some paths in it as `enum2$<X>`
abbrev pub CvSpells : Name → List ℕ → Type 0
CvSpells n t = CvSpelled 64 whole n t
