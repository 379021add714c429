-- The grammar of Rust's spelling, as it is read. Only the steps of reading and their proofs cite it.
use Rattle.std.specs.Prelude.{ℕ, zero, suc, ◌-◌, ◌^◌, ◌&&◌, ◌||◌, Bool, true, false, List, [], ◌∷◌, Option, Some, None, codes}
use Rattle.names.specs.declared.name.Name.{Name, out-Name}
use Rattle.names.specs.declared.name.Name.TheOpen.{Name-F}
use Rattle.names.specs.declared.name.Name.TheVariants.{Path, Pointer, Slice, Array, Tuple, Str, Dyn, Fn, Number, Bind}
use Rattle.names.specs.declared.name.Seg.{Seg}
use Rattle.names.specs.declared.name.PtrKind.TheVariants.{Ref, RefMut, Const, Mut}
use Rattle.names.specs.Plain.{is_word, is_plain_str, has_some}
use Rattle.names.specs.Reading.{Reader, give, never, bind, on, either, where_first, literal, many, word, number, starts_word, starts_digit}

-- readers of the names of one level
pub record Level : Type 1 where
  pub whole : Reader Name
  pub arg : Reader Name
  pub member : Reader Name
  -- a name after its first word
  pub worded : List ℕ → Reader Name
  -- a path after its first word, or `str`
  pub plain : List ℕ → Reader Name
  -- a name that begins with no word; the flag says whether it may be `()`
  pub symbol : Bool → Reader Name
  -- a member that was read among the parts of this level may stand alone in a `Dyn` of this level
  pub holds : Name → Bool

-- `<A, B>`, or nothing; the flag says whether there may be args
abbrev pub args_of : Bool → Reader Name → Reader (List Name)
args_of deep arg = on deep 60
    (bind (many arg 44 (codes " ")) (λ xs. bind (literal (codes ">")) (λ _. give xs))) (give [])

-- `WORD#n}`
abbrev pub numbered : Reader (List ℕ × ℕ)
numbered = bind word
    (λ w. bind (literal (codes "#"))
    (λ _. bind (number true (2 ^ 32 - 1)) (λ n. bind (literal (codes "}")) (λ _. give (w, n)))))

-- a segment after its word and number
abbrev pub seg_after : Bool → Reader Name → List ℕ → Option ℕ → Reader Seg
seg_after deep arg w n = bind (args_of deep arg) (λ xs. give (record { word = w; number = n; args = xs }))

-- `WORD` or `{WORD#n}`, and args
abbrev pub seg_of : Bool → Reader Name → Reader Seg
seg_of deep arg = on true 123 (bind numbered (λ x. seg_after deep arg x.0 (Some x.1)))
    (bind word (λ w. seg_after deep arg w None))

-- the path from this segment on; `str` alone is what `alone` makes of it
abbrev pub path_from : Bool → Reader Name → Reader Name → Seg → Reader Name
path_from deep arg alone s =
    on true 58 (bind (literal (codes ":"))
    (λ _. bind (many (seg_of deep arg) 58 (codes ":")) (λ rest. give (Path (s ∷ rest)))))
    (either (is_plain_str s) alone (give (Path (s ∷ []))))

-- a path after its first word or number
abbrev pub path_after : Bool → Reader Name → Reader Name → List ℕ → Option ℕ → Reader Name
path_after deep arg alone w n = bind (seg_after deep arg w n) (path_from deep arg alone)

-- after `[`
abbrev pub bracketed : Level → Reader Name
bracketed L =
    bind L.whole (λ x. on true 93 (give (Slice x))
    (bind (literal (codes "; "))
    (λ _. bind (number true (2 ^ 64 - 1)) (λ n. bind (literal (codes "]")) (λ _. give (Array x n))))))

-- after `*`
abbrev pub pointed : Level → Reader Name
pointed L =
    on true 99 (bind (literal (codes "onst ")) (λ _. bind L.whole (λ x. give (Pointer Const x))))
    (on true 109 (bind (literal (codes "ut ")) (λ _. bind L.whole (λ x. give (Pointer Mut x)))) never)

-- after `&` and a first word
abbrev pub referred_word : Level → List ℕ → Reader Name
referred_word L w =
    either (is_word w (codes "mut"))
    (on true 32 (bind L.whole (λ x. give (Pointer RefMut x))) (bind (L.plain w) (λ x. give (Pointer Ref x))))
    (bind (L.worded w) (λ x. give (Pointer Ref x)))

-- after `&`
abbrev pub referred : Level → Reader Name
referred L = where_first starts_word (bind word (referred_word L)) (bind (L.symbol true) (λ x. give (Pointer Ref x)))

-- a tuple after its first part
abbrev pub tuple_from : Level → Name → Reader Name
tuple_from L x =
    on true 44 (bind (literal (codes " "))
    (λ _. bind (many L.whole 44 (codes " ")) (λ rest. bind (literal (codes ")")) (λ _. give (Tuple (x ∷ rest))))))
    (bind (literal (codes ")")) (λ _. give (Tuple (x ∷ []))))

-- after `(dyn A`
abbrev pub dyn_from : Level → Name → Reader Name
dyn_from L a =
    on true 32 (bind (literal (codes "+ "))
    (λ _. bind (many L.member 32 (codes "+ ")) (λ rest. bind (literal (codes ")")) (λ _. give (Dyn (a ∷ rest))))))
    (either (L.holds a) (tuple_from L (Dyn (a ∷ []))) never)

-- after `(` and a first word
abbrev pub parts_word : Level → List ℕ → Reader Name
parts_word L w = either (is_word w (codes "dyn"))
    (on true 32 (bind L.member (dyn_from L)) (bind (L.plain w) (tuple_from L))) (bind (L.worded w) (tuple_from L))

-- after `(`, where something stands in the parentheses
abbrev pub parts : Level → Reader Name
parts L = where_first starts_word (bind word (parts_word L)) (bind (L.symbol true) (tuple_from L))

-- a name other than `()`
abbrev pub no_unit : Level → Reader Name
no_unit L = where_first starts_word (bind word L.worded) (L.symbol false)

-- the result after `fn(..)`
abbrev pub result_of : Level → List Name → Reader Name
result_of L xs =
    on true 32 (bind (literal (codes "-> "))
    (λ _. bind (where_first starts_word (bind word L.worded) (L.symbol false)) (λ x. give (Fn xs x))))
    (give (Fn xs (Tuple [])))

-- after `fn(`
abbrev pub function : Level → Reader Name
function L = on true 41 (result_of L [])
    (bind (many L.whole 44 (codes " ")) (λ xs. bind (literal (codes ")")) (λ _. result_of L xs)))

-- a path that begins with a number's `{`
abbrev pub numbered_path : Bool → Reader Name → Reader Name
numbered_path deep arg = on true 123 (bind numbered (λ x. path_after deep arg never x.0 (Some x.1))) never

-- a name after its first word
abbrev pub worded_of : Bool → Level → List ℕ → Reader Name
worded_of deep L w =
    on (deep && is_word w (codes "dyn")) 32 (bind L.member (λ a. give (Dyn (a ∷ []))))
    (on (deep && is_word w (codes "fn")) 40 (function L) (path_after deep L.arg (give Str) w None))

-- after `(`; the flag says whether it may be `()`
abbrev pub inside_of : Bool → Level → Bool → Reader Name
inside_of deep L unit = on unit 41 (give (Tuple [])) (either deep (parts L) never)

-- a name that begins with no word; the last flag says whether it may be `()`
abbrev pub symbol_of : Bool → Level → Bool → Reader Name
symbol_of deep L unit =
    on deep 38 (referred L)
    (on deep 42 (pointed L)
    (on deep 91 (bracketed L)
    (on (unit || deep) 40 (inside_of deep L unit) (numbered_path deep L.arg))))

-- an arg after its first word
abbrev pub arg_word : Bool → Level → List ℕ → Reader Name
arg_word deep L w = on deep 61 (bind L.whole (λ x. give (Bind w x))) (worded_of deep L w)

-- the readers of a level over those of the level below
abbrev pub level_of : (Name → Bool) → Bool → Level → Level
level_of holds deep L = record {
  whole = where_first starts_word (bind word (worded_of deep L)) (symbol_of deep L true);
  arg = where_first starts_word (bind word (arg_word deep L))
      (on true 45 (bind (number false (2 ^ 128 - 1)) (λ n. give (Number true n)))
      (where_first starts_digit (bind (number true (2 ^ 128 - 1)) (λ n. give (Number false n)))
      (symbol_of deep L true)));
  member = where_first starts_word (bind word (λ w. path_after deep L.arg never w None)) (numbered_path deep L.arg);
  worded = worded_of deep L;
  plain = λ w. path_after deep L.arg (give Str) w None;
  symbol = symbol_of deep L;
  holds = holds;
}

-- the readers of no names
abbrev pub none_level : Level
none_level = record {
  whole = never;
  arg = never;
  member = never;
  worded = λ w. never;
  plain = λ w. never;
  symbol = λ unit. never;
  holds = λ a. false;
}

-- the name, a path or an arg of one, nests at most d deep
abbrev pub all_fit : (Name → Bool) → List Name → Bool
all_fit fit [] = true
all_fit fit (x ∷ xs) = fit x && all_fit fit xs

-- the args of each segment nest at most so deep
abbrev pub segs_fit : (Name → Bool) → List Seg → Bool
segs_fit fit [] = true
segs_fit fit (s ∷ ss) = all_fit fit s.args && segs_fit fit ss

-- the parts of a name nest at most so deep
abbrev pub layer_fits : (Name → Bool) → Name-F Name Seg → Bool
layer_fits fit (Name-F.Path segs) = segs_fit fit segs
layer_fits fit (Name-F.Pointer kind x) = fit x
layer_fits fit (Name-F.Slice x) = fit x
layer_fits fit (Name-F.Array x n) = fit x
layer_fits fit (Name-F.Tuple xs) = all_fit fit xs
layer_fits fit Name-F.Str = true
layer_fits fit (Name-F.Dyn xs) = all_fit fit xs
layer_fits fit (Name-F.Fn xs x) = all_fit fit xs && fit x
layer_fits fit (Name-F.Number minus n) = true
layer_fits fit (Name-F.Bind w x) = fit x
layer_fits fit (Name-F.Raw t) = true

-- the name nests at most d deep
unfoldable pub fits : ℕ → Name → Bool
fits zero n = false
fits (suc d) n = layer_fits (fits d) (out-Name n)

-- the readers of names that nest at most d deep
unfoldable pub rust : ℕ → Level
rust zero = none_level
rust (suc d) = level_of (fits d) (has_some d) (rust d)

-- the readers of the names whose parts nest at most d deep
abbrev pub within : ℕ → Level
within d = level_of (fits d) (has_some d) (rust d)

-- what `str` alone is: a name, or none
abbrev pub alone_if : Bool → Reader Name
alone_if true = give Str
alone_if false = never
