-- What is left of a line of a function is read as the line that has it.
use Rattle.std.proofs.Common.{◌≡◌, ◌∙◌, sym, ap, subst, refl, ℕ, ◌<◌, ◌^◌, Bool, true, false, cond, List, [], ◌++◌, Option, Some, None, IfSome, lit≤}
use Rattle.std.specs.Option.{option_map}
use Rattle.std.specs.Fmt.{decimal}
use Rattle.readers.specs.Hex.{hex_text}
use Rattle.layout_set.specs.declared.func.Place.{Place}
use Rattle.layout_set.specs.declared.func.Place.TheVariants as place
use Rattle.layout_set.specs.declared.func.Piece.{Piece}
use Rattle.layout_set.specs.declared.func.Var.{Var}
use Rattle.layout_set.specs.declared.func.Scope.{Scope}
use Rattle.layout_set.specs.declared.func.Func.{Func}
use Rattle.layout_words.specs.declared.kinds.PlaceKind.{PlaceKind}
use Rattle.layout_words.specs.declared.kinds.PlaceKind.TheVariants as places
use Rattle.layout_words.specs.declared.kinds.LineKind.{LineKind}
use Rattle.layout_words.specs.declared.kinds.LineKind.TheVariants as firsts
use Rattle.layout_lines.specs.declared.line.Line.{Line}
use Rattle.layout_lines.specs.declared.line.Line.TheVariants as lines
use Rattle.layout_words.specs.Spellings.{◌>>=◌, number, word, reference, name}
use Rattle.layout_words.specs.PlaceSpellings.{register, frame, hex, signed, digits, entry_kind, piece_kind, zone}
use Rattle.layout_words.specs.Forms.{Left, take_word, behind, nothing, operations}
use Rattle.layout_lines.specs.Lines.{param_form, func_form, scope_form, reg_form, mem_form, fixed_form, value_form, count_form, kind_of_place, place_rest, kind_text, place_text, place_text_if, entry_rest, line_rest, kind_of_line, IsPlaceLine, IsLine}
use Rattle.layout_lines.specs.ReadLines.{place_of, entry_of, at_of, piece_place_of, piece_of, var_of, rest_of}
use Rattle.layout_words.proofs.ItemLaws.{number_law, word_law, reference_law, name_law, map_says}
use Rattle.layout_words.proofs.PlaceWords.{IsEntryKind, IsPieceKind}
use Rattle.layout_words.proofs.PlaceLaws.{register_law, frame_law, hex_law, signed_law, digits_law, entry_kind_law, piece_kind_law, zone_law}
use Rattle.layout_words.proofs.FormLaws.{FormLaw, bind_says, took_says, took_some, nothing_law, then_law, rest_law, says_by, some_by}
use Rattle.layout_words.proofs.WordLists.{many_law, operations_law}

-- each form

param_law : FormLaw param_form
param_law = then_law word _ word_law (then_law reference nothing reference_law nothing_law)

func_law : FormLaw func_form
func_law = then_law frame _ frame_law (rest_law name name_law)

scope_law : FormLaw scope_form
scope_law = then_law (number 32) _ (number_law 32 (lit≤ tt)) (many_law zone zone_law)

reg_law : FormLaw reg_form
reg_law = then_law register nothing register_law nothing_law

mem_law : FormLaw mem_form
mem_law = then_law register _ register_law (then_law signed nothing signed_law nothing_law)

fixed_law : FormLaw fixed_form
fixed_law = then_law hex nothing hex_law nothing_law

value_law : FormLaw value_form
value_law = then_law digits nothing digits_law nothing_law

count_law : FormLaw count_form
count_law = then_law (number 32) nothing (number_law 32 (lit≤ tt)) nothing_law

-- places

abbrev IsPlaceOf : PlaceKind → Left → Place → Type 0
IsPlaceOf kind left p = (kind ≡ kind_of_place p) × (left ≡ place_rest p) × IsPlaceLine p

place_says : (kind : PlaceKind) (left : Left) (p : Place) → place_of kind left ≡ Some p → IsPlaceOf kind left p
place_says places.Reg left p e = says_by reg_form reg_law (λ q. place.Reg q.0) (IsPlaceOf places.Reg left) left p e (λ q t i. (refl, t, i))
place_says places.Mem left p e = says_by mem_form mem_law (λ q. place.Mem q.0 q.1.0) (IsPlaceOf places.Mem left) left p e (λ q t i. (refl, t, i))
place_says places.Fixed left p e = says_by fixed_form fixed_law (λ q. place.Fixed q.0) (IsPlaceOf places.Fixed left) left p e (λ q t i. (refl, t, i))
place_says places.Value left p e = says_by value_form value_law (λ q. place.Value q.0) (IsPlaceOf places.Value left) left p e (λ q t i. (refl, t, i))
place_says places.Expr left p e = says_by operations operations_law (λ ops. place.Expr ops) (IsPlaceOf places.Expr left) left p e (λ ops t i. (refl, t, i))
place_says places.Pieces left p e = absurd (cc)
place_says places.Nowhere left p e = absurd (cc)

place_some : (p : Place) → IsPlaceLine p → place_of (kind_of_place p) (place_rest p) ≡ Some p
place_some (place.Reg reg) h = some_by reg_form reg_law (λ q. place.Reg q.0) (reg, tt) h
place_some (place.Mem reg n) h = some_by mem_form mem_law (λ q. place.Mem q.0 q.1.0) (reg, (n, tt)) h
place_some (place.Fixed at) h = some_by fixed_form fixed_law (λ q. place.Fixed q.0) (at, tt) h
place_some (place.Value text) h = some_by value_form value_law (λ q. place.Value q.0) (text, tt) h
place_some (place.Expr ops) h = some_by operations operations_law (λ ops. place.Expr ops) ops h

-- the word of the kind, and what follows, are the place
place_text_is : (kind : PlaceKind) (left : Left) (p : Place) → IsPlaceOf kind left p → kind_text kind left ≡ place_text p
place_text_is kind left p h = ap (λ k. kind_text k left) h.0 ∙ ap (kind_text (kind_of_place p)) h.1

-- entries

abbrev pub IsLineOf : ℕ → LineKind → Left → Line → Type 0
IsLineOf next kind left l = (kind ≡ kind_of_line l) × (left ≡ line_rest next l) × IsLine l

abbrev IsEntryOf : ℕ → ℕ → ℕ → PlaceKind → Left → Line → Type 0
IsEntryOf next lo hi kind left l = IsLineOf next firsts.At (entry_rest lo hi (kind_text kind left)) l

whole_says : (next lo hi : ℕ) (kind : PlaceKind) (left : Left) (l : Line) → (lo < 2 ^ 64) × (hi < 2 ^ 64) → option_map (λ p. lines.Whole lo hi p) (place_of kind left) ≡ Some l → IsEntryOf next lo hi kind left l
whole_says next lo hi kind left l small e =
    let found = map_says (λ p. lines.Whole lo hi p) (place_of kind left) l e in
    let known = place_says kind left found.0 found.1 in
    subst (IsEntryOf next lo hi kind left) found.2 (refl, ap (entry_rest lo hi) (place_text_is kind left found.0 known), (small, known.2))

entry_says : (next lo hi : ℕ) (kind : PlaceKind) (left : Left) (l : Line) → (lo < 2 ^ 64) × (hi < 2 ^ 64) → entry_of lo hi kind left ≡ Some l → IsEntryOf next lo hi kind left l
entry_says next lo hi places.Reg left l small e = whole_says next lo hi places.Reg left l small e
entry_says next lo hi places.Mem left l small e = whole_says next lo hi places.Mem left l small e
entry_says next lo hi places.Fixed left l small e = whole_says next lo hi places.Fixed left l small e
entry_says next lo hi places.Value left l small e = whole_says next lo hi places.Value left l small e
entry_says next lo hi places.Expr left l small e = whole_says next lo hi places.Expr left l small e
entry_says next lo hi places.Pieces left l small e =
    says_by count_form count_law (λ p. lines.Pieces lo hi p.0) (IsEntryOf next lo hi places.Pieces left) left l e (λ p t i. (refl, ap (λ m. entry_rest lo hi (kind_text places.Pieces m)) t, (small, i)))
entry_says next lo hi places.Nowhere left l small e = whole_says next lo hi places.Nowhere left l small e

-- the addresses, and what follows them
entry_text : (left first second : Left) (lo hi : ℕ) (text : List ℕ) → left ≡ Some (hex_text lo ++ behind first) → first ≡ Some (hex_text hi ++ behind second) → second ≡ Some text → left ≡ entry_rest lo hi text
entry_text left first second lo hi text a b c = a ∙ ap (λ m. Some (hex_text lo ++ behind m)) (b ∙ ap (λ m. Some (hex_text hi ++ behind m)) c)

same_left : (next : ℕ) (left same : Left) (l : Line) → left ≡ same → IsLineOf next firsts.At same l → IsLineOf next firsts.At left l
same_left next left same l e h = (h.0, e ∙ h.1, h.2)

pub at_says : (next : ℕ) (left : Left) (l : Line) → at_of left ≡ Some l → IsLineOf next firsts.At left l
at_says next left l e =
    let lo = bind_says (take_word hex left) (λ p. take_word hex p.1 >>= λ q. take_word entry_kind q.1 >>= λ r. entry_of p.0 q.0 r.0 r.1) l e in
    let hi = bind_says (take_word hex lo.0.1) (λ q. take_word entry_kind q.1 >>= λ r. entry_of lo.0.0 q.0 r.0 r.1) l lo.2 in
    let kind = bind_says (take_word entry_kind hi.0.1) (λ r. entry_of lo.0.0 hi.0.0 r.0 r.1) l hi.2 in
    let first = took_says hex hex_law left lo.0.0 lo.0.1 lo.1 in
    let second = took_says hex hex_law lo.0.1 hi.0.0 hi.0.1 hi.1 in
    let third = took_says entry_kind entry_kind_law hi.0.1 kind.0.0 kind.0.1 kind.1 in
    let known = entry_says next lo.0.0 hi.0.0 kind.0.0 kind.0.1 l (first.1, second.1) kind.2 in
    let text = entry_text left lo.0.1 hi.0.1 lo.0.0 hi.0.0 (kind_text kind.0.0 kind.0.1) first.0 second.0 third.0 in
    same_left next left (entry_rest lo.0.0 hi.0.0 (kind_text kind.0.0 kind.0.1)) l text known

-- an entry whose kind is the word behind its addresses
at_some : (lo hi : ℕ) (kind : PlaceKind) (left : Left) → (lo < 2 ^ 64) × (hi < 2 ^ 64) → IsEntryKind kind → at_of (entry_rest lo hi (kind_text kind left)) ≡ entry_of lo hi kind left
at_some lo hi kind left small is =
    let after = Some (kind_text kind left) in
    ap (λ o. o >>= λ p. take_word hex p.1 >>= λ q. take_word entry_kind q.1 >>= λ r. entry_of p.0 q.0 r.0 r.1) (took_some hex hex_law lo (Some (hex_text hi ++ behind after)) small.0)
    ∙ ap (λ o. o >>= λ q. take_word entry_kind q.1 >>= λ r. entry_of lo q.0 r.0 r.1) (took_some hex hex_law hi after small.1)
    ∙ ap (λ o. o >>= λ r. entry_of lo hi r.0 r.1) (took_some entry_kind entry_kind_law kind left is)

whole_of : (lo hi : ℕ) (p : Place) → IsEntryKind (kind_of_place p) × (entry_of lo hi (kind_of_place p) (place_rest p) ≡ option_map (λ q. lines.Whole lo hi q) (place_of (kind_of_place p) (place_rest p)))
whole_of lo hi (place.Reg reg) = (λ e. cc, refl)
whole_of lo hi (place.Mem reg n) = (λ e. cc, refl)
whole_of lo hi (place.Fixed at) = (λ e. cc, refl)
whole_of lo hi (place.Value text) = (λ e. cc, refl)
whole_of lo hi (place.Expr ops) = (λ e. cc, refl)

pub whole_some : (lo hi : ℕ) (p : Place) → (lo < 2 ^ 64) × (hi < 2 ^ 64) → IsPlaceLine p → at_of (entry_rest lo hi (place_text p)) ≡ Some (lines.Whole lo hi p)
whole_some lo hi p small h =
    let whole = whole_of lo hi p in
    at_some lo hi (kind_of_place p) (place_rest p) small whole.0 ∙ whole.1 ∙ ap (option_map (λ q. lines.Whole lo hi q)) (place_some p h)

pub pieces_some : (lo hi count : ℕ) → (lo < 2 ^ 64) × (hi < 2 ^ 64) → count_form.Is (count, tt) → at_of (entry_rest lo hi (kind_text places.Pieces (count_form.text (count, tt)))) ≡ Some (lines.Pieces lo hi count)
pieces_some lo hi count small h =
    at_some lo hi places.Pieces (count_form.text (count, tt)) small (λ e. cc) ∙ some_by count_form count_law (λ p. lines.Pieces lo hi p.0) (count, tt) h

-- pieces

abbrev IsPiecePlaceOf : PlaceKind → Left → Option Place → Type 0
IsPiecePlaceOf kind left found = (kind_text kind left ≡ place_text_if found) × IfSome found IsPlaceLine

piece_by : (kind : PlaceKind) (left : Left) (found : Option Place) → option_map (λ p. Some p) (place_of kind left) ≡ Some found → IsPiecePlaceOf kind left found
piece_by kind left found e =
    let p = map_says (λ p. Some p) (place_of kind left) found e in
    let known = place_says kind left p.0 p.1 in
    subst (IsPiecePlaceOf kind left) p.2 (place_text_is kind left p.0 known, known.2)

piece_place_says : (kind : PlaceKind) (left : Left) (found : Option Place) → piece_place_of kind left ≡ Some found → IsPiecePlaceOf kind left found
piece_place_says places.Reg left found e = piece_by places.Reg left found e
piece_place_says places.Mem left found e = piece_by places.Mem left found e
piece_place_says places.Fixed left found e = piece_by places.Fixed left found e
piece_place_says places.Value left found e = piece_by places.Value left found e
piece_place_says places.Expr left found e = piece_by places.Expr left found e
piece_place_says places.Pieces left found e = piece_by places.Pieces left found e
piece_place_says places.Nowhere left found e = says_by nothing nothing_law (λ _. None) (IsPiecePlaceOf places.Nowhere left) left found e (λ p t i. (ap (kind_text places.Nowhere) t, tt))

pub piece_says : (next : ℕ) (left : Left) (l : Line) → piece_of left ≡ Some l → IsLineOf next firsts.Piece left l
piece_says next left l e =
    let size = bind_says (take_word (number 32) left) (λ p. take_word piece_kind p.1 >>= λ q. option_map (λ found. lines.Piece (record { size = p.0; place = found })) (piece_place_of q.0 q.1)) l e in
    let kind = bind_says (take_word piece_kind size.0.1) (λ q. option_map (λ found. lines.Piece (record { size = size.0.0; place = found })) (piece_place_of q.0 q.1)) l size.2 in
    let found = map_says (λ found. lines.Piece (record { size = size.0.0; place = found })) (piece_place_of kind.0.0 kind.0.1) l kind.2 in
    let first = took_says (number 32) (number_law 32 (lit≤ tt)) left size.0.0 size.0.1 size.1 in
    let second = took_says piece_kind piece_kind_law size.0.1 kind.0.0 kind.0.1 kind.1 in
    let known = piece_place_says kind.0.0 kind.0.1 found.0 found.1 in
    subst (IsLineOf next firsts.Piece left) found.2 (
      refl,
      first.0 ∙ ap (λ m. Some (decimal size.0.0 ++ behind m)) (second.0 ∙ ap (λ t. Some t) known.0),
      (first.1, known.1),
    )

-- the kind of a piece, and what follows it
abbrev piece_kind_left : Option Place → PlaceKind × Left
piece_kind_left None = (places.Nowhere, None)
piece_kind_left (Some p) = (kind_of_place p, place_rest p)

piece_kind_is : (found : Option Place) → IfSome found IsPlaceLine → IsPieceKind (piece_kind_left found).0 × (place_text_if found ≡ kind_text (piece_kind_left found).0 (piece_kind_left found).1) × (piece_place_of (piece_kind_left found).0 (piece_kind_left found).1 ≡ Some found)
piece_kind_is None h = (λ e. cc, refl, refl)
piece_kind_is (Some (place.Reg reg)) h = (λ e. cc, refl, ap (option_map (λ p. Some p)) (place_some (place.Reg reg) h))
piece_kind_is (Some (place.Mem reg n)) h = (λ e. cc, refl, ap (option_map (λ p. Some p)) (place_some (place.Mem reg n) h))
piece_kind_is (Some (place.Fixed at)) h = (λ e. cc, refl, ap (option_map (λ p. Some p)) (place_some (place.Fixed at) h))
piece_kind_is (Some (place.Value text)) h = (λ e. cc, refl, ap (option_map (λ p. Some p)) (place_some (place.Value text) h))
piece_kind_is (Some (place.Expr ops)) h = (λ e. cc, refl, ap (option_map (λ p. Some p)) (place_some (place.Expr ops) h))

pub piece_some : (p : Piece) → (p.size < 2 ^ 32) × IfSome p.place IsPlaceLine → piece_of (Some (decimal p.size ++ behind (Some (place_text_if p.place)))) ≡ Some (lines.Piece p)
piece_some p h =
    let k = piece_kind_left p.place in
    let is = piece_kind_is p.place h.1 in
    ap (λ t. piece_of (Some (decimal p.size ++ behind (Some t)))) is.1
    ∙ ap (λ o. o >>= λ q. take_word piece_kind q.1 >>= λ r. option_map (λ found. lines.Piece (record { size = q.0; place = found })) (piece_place_of r.0 r.1)) (took_some (number 32) (number_law 32 (lit≤ tt)) p.size (Some (kind_text k.0 k.1)) h.0)
    ∙ ap (λ o. o >>= λ r. option_map (λ found. lines.Piece (record { size = p.size; place = found })) (piece_place_of r.0 r.1)) (took_some piece_kind piece_kind_law k.0 k.1 is.0)
    ∙ ap (option_map (λ found. lines.Piece (record { size = p.size; place = found }))) is.2

-- functions, scopes and variables

pub func_says : (next : ℕ) (left : Left) (l : Line) → rest_of next firsts.Func left ≡ Some l → IsLineOf next firsts.Func left l
func_says next left l e = says_by func_form func_law (λ p. lines.Func (record { name = p.1; frame = p.0; scopes = [] })) (IsLineOf next firsts.Func left) left l e (λ p t i. (refl, t, (i, refl)))

pub scope_says : (next : ℕ) (left : Left) (l : Line) → rest_of next firsts.Scope left ≡ Some l → IsLineOf next firsts.Scope left l
scope_says next left l e = says_by scope_form scope_law (λ p. lines.Scope (record { depth = p.0; zones = p.1; vars = [] })) (IsLineOf next firsts.Scope left) left l e (λ p t i. (refl, t, (i, refl)))

pub var_says : (next : ℕ) (param : Bool) (left : Left) (l : Line) → var_of param left ≡ Some l → IsLineOf next (cond param firsts.Arg firsts.Var) left l
var_says next param left l e = says_by param_form param_law (λ p. lines.Var (record { name = p.0; ty = p.1.0; param = param; entries = [] })) (IsLineOf next (cond param firsts.Arg firsts.Var) left) left l e (λ p t i. (refl, t, (i, refl)))

var_kind : (next : ℕ) (param : Bool) (left : Left) → rest_of next (cond param firsts.Arg firsts.Var) left ≡ var_of param left
var_kind next true left = refl
var_kind next false left = refl

pub var_some : (next : ℕ) (v : Var) → IsLine (lines.Var v) → rest_of next (kind_of_line (lines.Var v)) (line_rest next (lines.Var v)) ≡ Some (lines.Var v)
var_some next v h =
    var_kind next v.param (line_rest next (lines.Var v))
    ∙ some_by param_form param_law (λ p. lines.Var (record { name = p.0; ty = p.1.0; param = v.param; entries = [] })) (v.name, (v.ty, tt)) h.0
    ∙ ap (λ es. Some (lines.Var (record { name = v.name; ty = v.ty; param = v.param; entries = es }))) (sym h.1)

pub func_some : (next : ℕ) (f : Func) → IsLine (lines.Func f) → rest_of next firsts.Func (line_rest next (lines.Func f)) ≡ Some (lines.Func f)
func_some next f h =
    some_by func_form func_law (λ p. lines.Func (record { name = p.1; frame = p.0; scopes = [] })) (f.frame, f.name) h.0
    ∙ ap (λ ss. Some (lines.Func (record { name = f.name; frame = f.frame; scopes = ss }))) (sym h.1)

pub scope_some : (next : ℕ) (s : Scope) → IsLine (lines.Scope s) → rest_of next firsts.Scope (line_rest next (lines.Scope s)) ≡ Some (lines.Scope s)
scope_some next s h =
    some_by scope_form scope_law (λ p. lines.Scope (record { depth = p.0; zones = p.1; vars = [] })) (s.depth, s.zones) h.0
    ∙ ap (λ vs. Some (lines.Scope (record { depth = s.depth; zones = s.zones; vars = vs }))) (sym h.1)
