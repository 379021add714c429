-- The texts of functions' lines, and of a set and the entry that stands open behind it.
use Rattle.std.proofs.Common.{◌≡◌, ◌∙◌, sym, ap, refl, ℕ, ◌+◌, List, [], ◌∷◌, ◌++◌, length, map, append_assoc, Option, Some, None, arith}
use Rattle.std.proofs.lemmas.List.{append-nil}
use Rattle.std.specs.List.{flat_map}
use Rattle.readers.specs.Lines.{with_end}
use Rattle.layout_set.specs.declared.func.Func.{Func}
use Rattle.layout_set.specs.declared.func.Loc.{Loc}
use Rattle.layout_set.specs.declared.func.Loc.TheVariants.{Whole, Pieces}
use Rattle.layout_set.specs.declared.func.Piece.{Piece}
use Rattle.layout_set.specs.declared.func.Scope.{Scope}
use Rattle.layout_set.specs.declared.func.Var.{Var}
use Rattle.layout_set.specs.declared.set.Set.{Set}
use Rattle.layout_lines.specs.declared.open_entry.OpenEntry.{OpenEntry}
use Rattle.layout_lines.specs.declared.line.Line.{Line}
use Rattle.layout_lines.specs.declared.line.Line.TheVariants as lines
use Rattle.layout_lines.specs.Lines.{line_text}
use Rattle.layout_lines.specs.Sets.{type_lines, loc_lines, entry_lines, var_lines, scope_lines, func_lines, open_lines, lines_of, lines_before, texts, number_after, part_text, layout_text, text_before, head_text}
use Rattle.layout_lines.proofs.Texts.{HasNoNumber, no_line, both, number_behind, texts-append, number_behind-append, number_behind_types, of_statics}

-- a line in which no number stands, before others
one_more : (l : Line) (ls : List Line) → ((next : ℕ) → line_text next l ≡ line_text 0 l) → ((next : ℕ) → number_after next l ≡ next) → HasNoNumber ls → HasNoNumber (l ∷ ls)
one_more l ls same number r = record {
  text = λ next. ap (λ n. with_end (line_text next l) ++ texts n ls) (number next) ∙ ap (λ t. with_end t ++ texts next ls) (same next) ∙ ap (λ t. part_text l ++ t) (r.text next);
  number = λ next. ap (λ n. number_behind n ls) (number next) ∙ r.number next;
}

of_each : {A : Type 0} (L : A → List Line) → ((x : A) → HasNoNumber (L x)) → (xs : List A) → HasNoNumber (flat_map L xs)
of_each L h [] = no_line
of_each L h (x ∷ xs) = both (L x) (flat_map L xs) (h x) (of_each L h xs)

of_pieces : (ps : List Piece) → HasNoNumber (map (λ p. lines.Piece p) ps)
of_pieces [] = no_line
of_pieces (p ∷ ps) = one_more (lines.Piece p) (map (λ x. lines.Piece x) ps) (λ next. refl) (λ next. refl) (of_pieces ps)

of_loc : (lo hi : ℕ) (loc : Loc) → HasNoNumber (loc_lines lo hi loc)
of_loc lo hi (Whole place) = one_more (lines.Whole lo hi place) [] (λ next. refl) (λ next. refl) no_line
of_loc lo hi (Pieces ps) = one_more (lines.Pieces lo hi (length ps)) (map (λ p. lines.Piece p) ps) (λ next. refl) (λ next. refl) (of_pieces ps)

of_var : (v : Var) → HasNoNumber (var_lines v)
of_var v = one_more (lines.Var (record v { entries = [] })) (flat_map entry_lines v.entries) (λ next. refl) (λ next. refl) (of_each entry_lines (λ e. of_loc e.lo e.hi e.loc) v.entries)

of_scope : (s : Scope) → HasNoNumber (scope_lines s)
of_scope s = one_more (lines.Scope (record s { vars = [] })) (flat_map var_lines s.vars) (λ next. refl) (λ next. refl) (of_each var_lines of_var s.vars)

of_func : (f : Func) → HasNoNumber (func_lines f)
of_func f = one_more (lines.Func (record f { scopes = [] })) (flat_map scope_lines f.scopes) (λ next. refl) (λ next. refl) (of_each scope_lines of_scope f.scopes)

pub of_funcs : (funcs : List Func) → HasNoNumber (flat_map func_lines funcs)
of_funcs funcs = of_each func_lines of_func funcs

pub of_open : (begun : Option OpenEntry) → HasNoNumber (open_lines begun)
of_open None = no_line
of_open (Some o) = one_more (lines.Pieces o.lo o.hi o.count) (map (λ p. lines.Piece p) o.pieces) (λ next. refl) (λ next. refl) (of_pieces o.pieces)

-- what stands behind the types
behind_types : (set : Set) → HasNoNumber (map (λ s. lines.Static s) set.statics ++ flat_map func_lines set.funcs)
behind_types set = both (map (λ s. lines.Static s) set.statics) (flat_map func_lines set.funcs) (of_statics set.statics) (of_funcs set.funcs)

number_behind_set : (set : Set) → number_behind 0 (lines_of set) ≡ length set.types
number_behind_set set =
    let e : 0 + length set.types ≡ length set.types = omega arith in
    number_behind-append 0 (flat_map type_lines set.types) (map (λ s. lines.Static s) set.statics ++ flat_map func_lines set.funcs)
    ∙ (behind_types set).number (number_behind 0 (flat_map type_lines set.types))
    ∙ number_behind_types 0 set.types
    ∙ e

pub number_before : (set : Set) (begun : Option OpenEntry) → number_behind 0 (lines_before set begun) ≡ length set.types
number_before set begun = number_behind-append 0 (lines_of set) (open_lines begun) ∙ (of_open begun).number (number_behind 0 (lines_of set)) ∙ number_behind_set set

-- the text of a set and of the entry that stands open is that of their lines, behind the first two
pub text_before_is : (set : Set) (begun : Option OpenEntry) → text_before set begun ≡ head_text set.target.ptr ++ texts 0 (lines_before set begun)
text_before_is set begun =
    let head = head_text set.target.ptr in
    let before = texts 0 (lines_of set) in
    append_assoc head before (flat_map part_text (open_lines begun))
    ∙ ap (λ t. head ++ (before ++ t)) (sym ((of_open begun).text (number_behind 0 (lines_of set))))
    ∙ ap (λ t. head ++ t) (sym (texts-append 0 (lines_of set) (open_lines begun)))

pub layout_text_is : (set : Set) → layout_text set ≡ text_before set None
layout_text_is set = sym (append-nil (layout_text set))

-- the text of a set with its functions behind its statics
pub layout_text_parts : (set : Set)
    → layout_text set ≡ head_text set.target.ptr ++ (texts 0 (flat_map type_lines set.types) ++ (flat_map part_text (map (λ s. lines.Static s) set.statics) ++ flat_map part_text (flat_map func_lines set.funcs)))
layout_text_parts set =
    let types = flat_map type_lines set.types in
    let statics = map (λ s. lines.Static s) set.statics in
    let funcs = flat_map func_lines set.funcs in
    let next = number_behind 0 types in
    ap (λ t. head_text set.target.ptr ++ t) (texts-append 0 types (statics ++ funcs))
    ∙ ap (λ t. head_text set.target.ptr ++ (texts 0 types ++ t)) (texts-append next statics funcs)
    ∙ ap (λ t. head_text set.target.ptr ++ (texts 0 types ++ (t ++ texts (number_behind next statics) funcs))) ((of_statics set.statics).text next)
    ∙ ap (λ t. head_text set.target.ptr ++ (texts 0 types ++ (flat_map part_text statics ++ t))) ((of_funcs set.funcs).text (number_behind next statics))
