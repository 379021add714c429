-- The texts of lines.
use Rattle.std.proofs.Common.{◌≡◌, ◌∙◌, sym, ap, refl, ℕ, suc, ◌+◌, List, [], ◌∷◌, ◌++◌, length, map, take, get_or, ◌<◌, append_assoc, Option, Some, None, arith}
use Rattle.std.proofs.lemmas.Grind.{common_steps, flat_map-append}
use Rattle.std.proofs.lemmas.List.{append-nil, take_more}
use Rattle.std.specs.List.{flat_map}
use Rattle.readers.specs.Lines.{with_end}
use Rattle.layout_set.specs.declared.set.TypeDef.{TypeDef}
use Rattle.layout_set.specs.declared.set.TypeDef.TheVariants.{Struct, Array, Thin, Slice, Str, Dyn, FnPtr, CLike, Enum, Bytes}
use Rattle.layout_set.specs.declared.set.Param.{Param}
use Rattle.layout_set.specs.declared.set.Field.{Field}
use Rattle.layout_set.specs.declared.set.Case.{Case}
use Rattle.layout_set.specs.declared.set.Tag.{Tag}
use Rattle.layout_set.specs.declared.set.Static.{Static}
use Rattle.layout_set.specs.declared.set.Variant.{Variant}
use Rattle.layout_lines.specs.declared.line.Line.{Line}
use Rattle.layout_lines.specs.declared.line.Line.TheVariants as lines
use Rattle.layout_lines.specs.Lines.{line_text}
use Rattle.layout_lines.specs.Sets.{bare, variant_lines, tag_lines, part_lines, type_lines, texts, number_after, part_text}

-- the number of the next type behind some lines
abbrev pub number_behind : ℕ → List Line → ℕ
number_behind next [] = next
number_behind next (l ∷ ls) = number_behind (number_after next l) ls

pub texts-append : (next : ℕ) (a b : List Line) → texts next (a ++ b) ≡ texts next a ++ texts (number_behind next a) b
texts-append next [] b = refl
texts-append next (l ∷ a) b = ap (λ t. with_end (line_text next l) ++ t) (texts-append (number_after next l) a b) ∙ sym (append_assoc (with_end (line_text next l)) (texts (number_after next l) a) (texts (number_behind (number_after next l) a) b))

pub number_behind-append : (next : ℕ) (a b : List Line) → number_behind next (a ++ b) ≡ number_behind (number_behind next a) b
number_behind-append next [] b = refl
number_behind-append next (l ∷ a) b = number_behind-append (number_after next l) a b

-- lines in which no number stands, and which change none
pub record HasNoNumber (ls : List Line) : Type 0 where
  pub text : (next : ℕ) → texts next ls ≡ flat_map part_text ls
  pub number : (next : ℕ) → number_behind next ls ≡ next

pub no_line : HasNoNumber []
no_line = record { text = λ next. refl; number = λ next. refl }

pub both : (a b : List Line) → HasNoNumber a → HasNoNumber b → HasNoNumber (a ++ b)
both a b p q = record {
  text = λ next. texts-append next a b ∙ ap (λ n. texts next a ++ texts n b) (p.number next) ∙ ap (λ t. t ++ texts next b) (p.text next) ∙ ap (λ t. flat_map part_text a ++ t) (q.text next) ∙ sym (flat_map-append part_text a b);
  number = λ next. number_behind-append next a b ∙ ap (λ n. number_behind n b) (p.number next) ∙ q.number next;
}

pub of_params : (xs : List Param) → HasNoNumber (map (λ p. lines.Param p) xs)
of_params [] = no_line
of_params (x ∷ xs) = let r = of_params xs in record { text = λ next. ap (λ t. part_text (lines.Param x) ++ t) (r.text next); number = λ next. r.number next }

pub of_fields : (xs : List Field) → HasNoNumber (map (λ f. lines.Field f) xs)
of_fields [] = no_line
of_fields (x ∷ xs) = let r = of_fields xs in record { text = λ next. ap (λ t. part_text (lines.Field x) ++ t) (r.text next); number = λ next. r.number next }

pub of_cases : (xs : List Case) → HasNoNumber (map (λ c. lines.Case c) xs)
of_cases [] = no_line
of_cases (x ∷ xs) = let r = of_cases xs in record { text = λ next. ap (λ t. part_text (lines.Case x) ++ t) (r.text next); number = λ next. r.number next }

pub of_statics : (xs : List Static) → HasNoNumber (map (λ s. lines.Static s) xs)
of_statics [] = no_line
of_statics (x ∷ xs) = let r = of_statics xs in record { text = λ next. ap (λ t. part_text (lines.Static x) ++ t) (r.text next); number = λ next. r.number next }

of_variant : (v : Variant) → HasNoNumber (variant_lines v)
of_variant v = let r = of_fields v.fields in record { text = λ next. ap (λ t. part_text (lines.Variant v.name v.sel) ++ t) (r.text next); number = λ next. r.number next }

of_variants : (vs : List Variant) → HasNoNumber (flat_map variant_lines vs)
of_variants [] = no_line
of_variants (v ∷ vs) = both (variant_lines v) (flat_map variant_lines vs) (of_variant v) (of_variants vs)

of_tag : (tag : Option Tag) → HasNoNumber (tag_lines tag)
of_tag None = no_line
of_tag (Some t) = record { text = λ next. refl; number = λ next. refl }

pub of_parts : (def : TypeDef) → HasNoNumber (part_lines def)
of_parts (Struct name size align params fields) = both (map (λ p. lines.Param p) params) (map (λ f. lines.Field f) fields) (of_params params) (of_fields fields)
of_parts (Array elem count) = no_line
of_parts (Thin kind to) = no_line
of_parts (Slice name kind ptr) = no_line
of_parts (Str name kind ptr) = no_line
of_parts (Dyn name kind ptr vtable) = no_line
of_parts FnPtr = no_line
of_parts (CLike name tag cases) = of_cases cases
of_parts (Enum name size align params tag variants) = both (map (λ p. lines.Param p) params) (tag_lines tag ++ flat_map variant_lines variants) (of_params params) (both (tag_lines tag) (flat_map variant_lines variants) (of_tag tag) (of_variants variants))
of_parts (Bytes name size align) = no_line

-- no part stands in a type's line
pub bare_text : (next : ℕ) (def : TypeDef) → line_text next (lines.Type (bare def)) ≡ line_text next (lines.Type def)
bare_text next (Struct name size align params fields) = refl
bare_text next (Array elem count) = refl
bare_text next (Thin kind to) = refl
bare_text next (Slice name kind ptr) = refl
bare_text next (Str name kind ptr) = refl
bare_text next (Dyn name kind ptr vtable) = refl
bare_text next FnPtr = refl
bare_text next (CLike name tag cases) = refl
bare_text next (Enum name size align params tag variants) = refl
bare_text next (Bytes name size align) = refl

pub type_text : (next : ℕ) (def : TypeDef) → texts next (type_lines def) ≡ with_end (line_text next (lines.Type def)) ++ flat_map part_text (part_lines def)
type_text next def = ap (λ t. with_end t ++ texts (next + 1) (part_lines def)) (bare_text next def) ∙ ap (λ t. with_end (line_text next (lines.Type def)) ++ t) ((of_parts def).text (next + 1))

pub number_behind_type : (next : ℕ) (def : TypeDef) → number_behind next (type_lines def) ≡ next + 1
number_behind_type next def = (of_parts def).number (next + 1)

pub number_behind_types : (next : ℕ) (types : List TypeDef) → number_behind next (flat_map type_lines types) ≡ next + length types
number_behind_types next [] = omega arith
number_behind_types next (def ∷ types) =
    let a = number_behind-append next (type_lines def) (flat_map type_lines types) ∙ ap (λ n. number_behind n (flat_map type_lines types)) (number_behind_type next def) ∙ number_behind_types (next + 1) types in
    let b : (next + 1) + length types ≡ next + suc (length types) = omega arith in
    a ∙ b

pub types_text-append : (next : ℕ) (a b : List TypeDef) → texts next (flat_map type_lines (a ++ b)) ≡ texts next (flat_map type_lines a) ++ texts (next + length a) (flat_map type_lines b)
types_text-append next a b =
    ap (texts next) (flat_map-append type_lines a b)
    ∙ texts-append next (flat_map type_lines a) (flat_map type_lines b)
    ∙ ap (λ n. texts next (flat_map type_lines a) ++ texts n (flat_map type_lines b)) (number_behind_types next a)

pub types_text_more : (types : List TypeDef) (i : ℕ) (def : TypeDef) → i < length types → def ≡ get_or types i def
    → texts 0 (flat_map type_lines (take (i + 1) types)) ≡ texts 0 (flat_map type_lines (take i types)) ++ texts i (type_lines def)
types_text_more types i def h e =
    let front : take (i + 1) types ≡ take i types ++ def ∷ [] = take_more types i def h ∙ ap (λ d. take i types ++ d ∷ []) (sym e) in
    let number : 0 + length (take i types) ≡ i = grind (arith, common_steps) in
    ap (λ xs. texts 0 (flat_map type_lines xs)) front
    ∙ types_text-append 0 (take i types) (def ∷ [])
    ∙ ap (λ n. texts 0 (flat_map type_lines (take i types)) ++ texts n (type_lines def ++ [])) number
    ∙ ap (λ ls. texts 0 (flat_map type_lines (take i types)) ++ texts i ls) (append-nil (type_lines def))
