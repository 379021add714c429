-- The grammar of CodeView's spelling, as it is read. Only the steps of reading and their proofs cite it.
use Rattle.std.specs.Prelude.{ℕ, zero, suc, ◌-◌, ◌^◌, ◌&&◌, if◌then◌else◌, Bool, true, false, List, [], ◌∷◌, Option, Some, None, codes}
use Rattle.names.specs.declared.name.Name.{Name}
use Rattle.names.specs.declared.name.Name.TheVariants.{Path, Pointer, Slice, Array, Tuple, Str, Dyn, Fn, Number, Bind}
use Rattle.names.specs.declared.name.Seg.{Seg}
use Rattle.names.specs.declared.name.PtrKind.{PtrKind}
use Rattle.names.specs.declared.name.PtrKind.TheVariants.{Ref, RefMut, Const, Mut}
use Rattle.cv_names.specs.declared.cv_form.Form.{Form}
use Rattle.names.specs.Reading.{Reader, give, never, bind, on, either, where_first, literal, many, word, number, starts_word, starts_digit}
use Rattle.names.specs.Plain.{is_word, is_plain_str, has_some}
use Rattle.cv_names.specs.Closings.{closed_by}

-- readers of the names of one level
pub record Level : Type 1 where
  pub whole : Reader Name
  pub arg : Reader Name
  pub member : Reader Name

-- the form that stands in `WORD$<..>`
abbrev pub form_named : List ℕ → Option Form
form_named w =
    if is_word w (codes "ref") then Some Form.Ref
    else if is_word w (codes "ref_mut") then Some Form.RefMut
    else if is_word w (codes "ptr_const") then Some Form.Const
    else if is_word w (codes "ptr_mut") then Some Form.Mut
    else if is_word w (codes "slice2") then Some Form.Slice
    else if is_word w (codes "array") then Some Form.Array
    else if is_word w (codes "tuple") then Some Form.Tuple
    else if is_word w (codes "dyn") then Some Form.Dyn
    else if is_word w (codes "fn") then Some Form.Fn
    else if is_word w (codes "assoc") then Some Form.Bind
    else if is_word w (codes "enum2") then Some Form.Enum
    else None

-- the form may stand here; the flags say whether there may be names in it, and whether it stands among args
abbrev pub may_stand : Bool → Bool → Form → Bool
may_stand deep in_arg Form.Ref = deep
may_stand deep in_arg Form.RefMut = deep
may_stand deep in_arg Form.Const = deep
may_stand deep in_arg Form.Mut = deep
may_stand deep in_arg Form.Slice = deep
may_stand deep in_arg Form.Array = deep
may_stand deep in_arg Form.Tuple = true
may_stand deep in_arg Form.Dyn = deep
may_stand deep in_arg Form.Fn = deep
may_stand deep in_arg Form.Bind = deep && in_arg
may_stand deep in_arg Form.Enum = true

-- nothing may stand in the form
abbrev pub is_tuple : Form → Bool
is_tuple Form.Ref = false
is_tuple Form.RefMut = false
is_tuple Form.Const = false
is_tuple Form.Mut = false
is_tuple Form.Slice = false
is_tuple Form.Array = false
is_tuple Form.Tuple = true
is_tuple Form.Dyn = false
is_tuple Form.Fn = false
is_tuple Form.Bind = false
is_tuple Form.Enum = false

-- `<A,B>`, or nothing; the flag says whether there may be args
abbrev pub args_of : Bool → Reader Name → Reader (List Name)
args_of deep arg = on deep 60 (closed_by (many arg 44 [])) (give [])

-- a segment after its word and number
abbrev pub seg_after : Bool → Reader Name → List ℕ → Option ℕ → Reader Seg
seg_after deep arg w n = bind (args_of deep arg) (λ xs. give (record { word = w; number = n; args = xs }))

-- `WORD` or `WORD$n`, and args
abbrev pub seg_of : Bool → Reader Name → Reader Seg
seg_of deep arg = bind word
    (λ w. on true 36 (bind (number true (2 ^ 32 - 1)) (λ n. seg_after deep arg w (Some n))) (seg_after deep arg w None))

-- the path from this segment on
abbrev pub path_from : Bool → Reader Name → Seg → Reader Name
path_from deep arg s =
    on true 58 (bind (literal (codes ":"))
    (λ _. bind (many (seg_of deep arg) 58 (codes ":")) (λ rest. give (Path (s ∷ rest)))))
    (either (is_plain_str s) never (give (Path (s ∷ []))))

-- a path after its first word or number
abbrev pub path_after : Bool → Reader Name → List ℕ → Option ℕ → Reader Name
path_after deep arg w n = bind (seg_after deep arg w n) (path_from deep arg)

-- a path after its first word and `$`
abbrev pub counted : Bool → Reader Name → List ℕ → Reader Name
counted deep arg w = bind (number true (2 ^ 32 - 1)) (λ n. path_after deep arg w (Some n))

-- a path
abbrev pub path_of : Bool → Reader Name → Reader Name
path_of deep arg = bind word (λ w. on true 36 (counted deep arg w) (path_after deep arg w None))

-- what a pointer of the kind points to
abbrev pub pointer_of : Level → PtrKind → Reader Name
pointer_of L kind = bind L.whole (λ x. give (Pointer kind x))

-- the item of an array and its length
abbrev pub array_of : Level → Reader Name
array_of L = bind L.whole
    (λ x. bind (literal (codes ",")) (λ _. bind (number true (2 ^ 64 - 1)) (λ n. give (Array x n))))

-- the result of a function, and then its parameters
abbrev pub function_of : Level → Reader Name
function_of L = bind L.whole (λ x. on true 44 (bind (many L.whole 44 []) (λ xs. give (Fn xs x))) (give (Fn [] x)))

-- the word and the name of a binding
abbrev pub binding_of : Level → Reader Name
binding_of L = bind word (λ w. bind (literal (codes ",")) (λ _. bind L.whole (λ x. give (Bind w x))))

-- what stands in a form, but for an empty tuple
abbrev pub content : Bool → Level → Form → Reader Name
content deep L Form.Ref = pointer_of L Ref
content deep L Form.RefMut = pointer_of L RefMut
content deep L Form.Const = pointer_of L Const
content deep L Form.Mut = pointer_of L Mut
content deep L Form.Slice = bind L.whole (λ x. give (Slice x))
content deep L Form.Array = array_of L
content deep L Form.Tuple = either deep (bind (many L.whole 44 []) (λ xs. give (Tuple xs))) never
content deep L Form.Dyn = bind (many L.member 44 []) (λ xs. give (Dyn xs))
content deep L Form.Fn = function_of L
content deep L Form.Bind = binding_of L
content deep L Form.Enum = path_of deep L.arg

-- a form after its `<`
abbrev pub form_of : Bool → Level → Form → Reader Name
form_of deep L f = on (is_tuple f) 62 (give (Tuple [])) (closed_by (content deep L f))

-- a form where one is named and may stand here, and else the other
abbrev pub formed : Bool → Level → Bool → Option Form → Reader Name → Reader Name
formed deep L in_arg None R = R
formed deep L in_arg (Some f) R = on (may_stand deep in_arg f) 60 (form_of deep L f) R

-- what is no form, after a first word and `$`
abbrev pub unformed : Bool → Reader Name → List ℕ → Reader Name
unformed deep arg w =
    either (is_word w (codes "str")) (where_first starts_digit (counted deep arg w) (give Str)) (counted deep arg w)

-- a name after its first word and `$`
abbrev pub after_dollar : Bool → Level → Bool → List ℕ → Reader Name
after_dollar deep L in_arg w = formed deep L in_arg (form_named w) (unformed deep L.arg w)

-- a name after its first word
abbrev pub worded : Bool → Level → Bool → List ℕ → Reader Name
worded deep L in_arg w = on true 36 (after_dollar deep L in_arg w) (path_after deep L.arg w None)

-- a name that begins with a word; the second flag says whether it stands among args
abbrev pub name_of : Bool → Level → Bool → Reader Name
name_of deep L in_arg = bind word (worded deep L in_arg)

-- a number as an arg
abbrev pub number_of : Reader Name
number_of = on true 45 (bind (number false (2 ^ 128 - 1)) (λ n. give (Number true n)))
    (bind (number true (2 ^ 128 - 1)) (λ n. give (Number false n)))

-- an arg: a name, a number or a binding
abbrev pub arg_of : Bool → Level → Reader Name
arg_of deep L = where_first starts_word (name_of deep L true) number_of

-- the readers of a level over those of the level below
abbrev pub level_of : Bool → Level → Level
level_of deep L = record { whole = name_of deep L false; arg = arg_of deep L; member = path_of deep L.arg }

-- the readers of no names
abbrev pub none_level : Level
none_level = record { whole = never; arg = never; member = never }

-- the readers of names that nest at most d deep
unfoldable pub cv : ℕ → Level
cv zero = none_level
cv (suc d) = level_of (has_some d) (cv d)

-- the readers of the names whose parts nest at most d deep
abbrev pub within : ℕ → Level
within d = level_of (has_some d) (cv d)
