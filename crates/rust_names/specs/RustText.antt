-- The Rust spelling of a name.
use Rattle.std.specs.Prelude.{◌≡◌, ℕ, if◌then◌else◌, Bool, true, false, List, [], ◌∷◌, ◌++◌, Option, Some, None, map, codes}
use Rattle.std.specs.Fmt.{decimal}
use Rattle.names.specs.declared.name.Name.{Name, out-Name, para-Name}
use Rattle.names.specs.declared.name.Name.TheOpen.{Name-F, Seg-F}
use Rattle.names.specs.declared.name.Seg.{Seg, para-Seg}
use Rattle.names.specs.Joined.{joined}
use Rattle.names.specs.Names.{IsProper}
use Rattle.names.specs.Pointers.{kind_text}
use Rattle.names.specs.Signs.{sign_text}

-- `WORD`, or `{WORD#n}` where there is a number
abbrev pub word_text : List ℕ → Option ℕ → List ℕ
word_text word None = word
word_text word (Some n) = codes "{" ++ word ++ codes "#" ++ decimal n ++ codes "}"

-- the args in angle brackets, if any
abbrev pub args_text : List (List ℕ) → List ℕ
args_text [] = []
args_text (a ∷ rest) = codes "<" ++ joined (codes ", ") (a ∷ rest) ++ codes ">"

-- `dyn A`, or `(dyn A + B)` where there is more than one member
abbrev pub dyn_text : List (List ℕ) → List ℕ
dyn_text (a ∷ b ∷ rest) = codes "(dyn " ++ joined (codes " + ") (a ∷ b ∷ rest) ++ codes ")"
dyn_text members = codes "dyn " ++ joined (codes " + ") members

-- the name is `()`, by its outermost level
abbrev pub is_empty_layer : Name-F Name Seg → Bool
is_empty_layer (Name-F.Tuple []) = true
is_empty_layer _ = false

-- the name is `()`
abbrev pub is_empty_tuple : Name → Bool
is_empty_tuple n = is_empty_layer (out-Name n)

-- the arrow and the result, or nothing where the result is the empty tuple
abbrev pub result_text : Name → List ℕ → List ℕ
result_text result text = if is_empty_tuple result then [] else codes " -> " ++ text

-- the texts beside names
abbrev texts : {A : Type 0} → List (A × List ℕ) → List (List ℕ)
texts parts = map (λ x. x.1) parts

-- one segment, with the text of each arg beside it
abbrev pub seg_step : Seg-F (Name × List ℕ) (Seg × List ℕ) → List ℕ
seg_step s = word_text s.word s.number ++ args_text (texts s.args)

-- one name, with the text of each name inside beside it
abbrev pub name_step : Name-F (Name × List ℕ) (Seg × List ℕ) → List ℕ
name_step (Name-F.Path segs) = joined (codes "::") (texts segs)
name_step (Name-F.Pointer kind x) = kind_text kind ++ x.1
name_step (Name-F.Slice x) = codes "[" ++ x.1 ++ codes "]"
name_step (Name-F.Array x n) = codes "[" ++ x.1 ++ codes "; " ++ decimal n ++ codes "]"
name_step (Name-F.Tuple xs) = codes "(" ++ joined (codes ", ") (texts xs) ++ codes ")"
name_step Name-F.Str = codes "str"
name_step (Name-F.Dyn xs) = dyn_text (texts xs)
name_step (Name-F.Fn xs x) = codes "fn(" ++ joined (codes ", ") (texts xs) ++ codes ")" ++ result_text x.0 x.1
name_step (Name-F.Number minus n) = sign_text minus ++ decimal n
name_step (Name-F.Bind word x) = word ++ codes "=" ++ x.1
name_step (Name-F.Raw t) = t

-- the Rust spelling of a name
abbrev pub rust_text : Name → List ℕ
rust_text = para-Name (List ℕ) (List ℕ) name_step seg_step

-- the Rust spelling of a segment
abbrev pub seg_text : Seg → List ℕ
seg_text = para-Seg (List ℕ) (List ℕ) name_step seg_step

-- the name is proper and has this Rust text
abbrev pub RustSpells : Name → List ℕ → Type 0
RustSpells n text = IsProper n × (text ≡ rust_text n)
