-- What a type with one part more has: its lines and its counts.
use Rattle.std.proofs.Common.{
  ◌≡◌,
  ◌∙◌,
  sym,
  ap,
  refl,
  ◌+◌,
  ◌&&◌,
  Bool,
  true,
  false,
  if◌then◌else◌,
  List,
  [],
  ◌∷◌,
  ◌++◌,
  length,
  map,
  append_assoc,
  Option,
  Some,
  None,
  is_none,
  arith,
}
use Rattle.std.proofs.lemmas.Grind.{flat_map-append}
use Rattle.std.proofs.lemmas.List.{append-nil, map-append, length-append}
use Rattle.std.proofs.lemmas.Bool.{not-true}
use Rattle.std.proofs.lemmas.List.Sums.{sum_by-append, sum_by-cons}
use Rattle.std.specs.List.{flat_map, sum_by}
use Rattle.layout_set.specs.Counts.{parts_of, variant_parts}
use Rattle.layout_set.specs.declared.set.TypeDef.{TypeDef}
use Rattle.layout_set.specs.declared.set.TypeDef.TheVariants.{Struct, Array, Thin, Slice, Str, Dyn, FnPtr, CLike, Enum, Bytes}
use Rattle.layout_set.specs.declared.set.Param.{Param}
use Rattle.layout_set.specs.declared.set.Field.{Field}
use Rattle.layout_set.specs.declared.set.Tag.{Tag}
use Rattle.layout_set.specs.declared.set.Variant.{Variant}
use Rattle.layout_words.specs.declared.kinds.LineKind.TheVariants as firsts
use Rattle.layout_lines.specs.declared.line.Line.{Line}
use Rattle.layout_lines.specs.declared.line.Line.TheVariants as lines
use Rattle.layout_lines.specs.Lines.{kind_of_line, IsTypeLine}
use Rattle.layout_lines.specs.Sets.{bare, variant_lines, tag_lines, part_lines, type_lines, last_of, last_may_go_on, may_go_on, is_empty}
use Rattle.layout_builder.specs.Additions.{with_last, with_field, with_part}
use Rattle.layout_builder.specs.LineCounts.{line_parts}
use Rattle.layout_builder.proofs.WithLast.{regroup}

-- a type's line is the type's only line where it has no parts
pub bare_lines : (def : TypeDef) → IsTypeLine def → type_lines def ≡ lines.Type def ∷ []
bare_lines (Struct name size align params fields) h =
    ap (λ xs. lines.Type (Struct name size align [] []) ∷ (map (λ p. lines.Param p) xs ++ map (λ f. lines.Field f) fields)) h.1.0
    ∙ ap (λ xs. lines.Type (Struct name size align [] []) ∷ map (λ f. lines.Field f) xs) h.1.1
    ∙ ap (λ xs. lines.Type (Struct name size align xs []) ∷ []) (sym h.1.0)
    ∙ ap (λ xs. lines.Type (Struct name size align params xs) ∷ []) (sym h.1.1)
bare_lines (Array elem count) h = refl
bare_lines (Thin kind to) h = refl
bare_lines (Slice name kind ptr) h = refl
bare_lines (Str name kind ptr) h = refl
bare_lines (Dyn name kind ptr vtable) h = refl
bare_lines FnPtr h = refl
bare_lines (CLike name tag cases) h =
    ap (λ xs. lines.Type (CLike name tag []) ∷ map (λ c. lines.Case c) xs) h.1
    ∙ ap (λ xs. lines.Type (CLike name tag xs) ∷ []) (sym h.1)
bare_lines (Enum name size align params tag variants) h =
    ap (λ xs. lines.Type (Enum name size align [] None []) ∷ (map (λ p. lines.Param p) xs ++ (tag_lines tag ++ flat_map variant_lines variants))) h.1.0
    ∙ ap (λ t. lines.Type (Enum name size align [] None []) ∷ (tag_lines t ++ flat_map variant_lines variants)) h.1.1.0
    ∙ ap (λ xs. lines.Type (Enum name size align [] None []) ∷ flat_map variant_lines xs) h.1.1.1
    ∙ ap (λ xs. lines.Type (Enum name size align xs None []) ∷ []) (sym h.1.0)
    ∙ ap (λ t. lines.Type (Enum name size align params t []) ∷ []) (sym h.1.1.0)
    ∙ ap (λ xs. lines.Type (Enum name size align params tag xs) ∷ []) (sym h.1.1.1)
bare_lines (Bytes name size align) h = refl

-- one more item, and its line
pub one_more : {A : Type 0} (L : A → Line) (xs : List A) (x : A) → map L (xs ++ x ∷ []) ≡ map L xs ++ L x ∷ []
one_more L xs x = map-append L xs (x ∷ [])

-- lines before and one more, where what stands between is empty
param_first : (params : List Param) (p : Param) (rest : List Line) → rest ≡ []
    → map (λ x. lines.Param x) (params ++ p ∷ []) ++ rest ≡ (map (λ x. lines.Param x) params ++ rest) ++ lines.Param p ∷ []
param_first params p rest e =
    ap (λ r. map (λ x. lines.Param x) (params ++ p ∷ []) ++ r) e
    ∙ append-nil (map (λ x. lines.Param x) (params ++ p ∷ []))
    ∙ one_more (λ x. lines.Param x) params p
    ∙ ap (λ ls. ls ++ lines.Param p ∷ []) (sym (append-nil (map (λ x. lines.Param x) params)))
    ∙ ap (λ r. (map (λ x. lines.Param x) params ++ r) ++ lines.Param p ∷ []) (sym e)

no_fields : (fields : List Field) → is_empty fields ≡ true → map (λ x. lines.Field x) fields ≡ []
no_fields [] h = refl
no_fields (f ∷ fields) h = absurd (cc)

no_variants : (variants : List Variant) → is_empty variants ≡ true → flat_map variant_lines variants ≡ []
no_variants [] h = refl
no_variants (v ∷ variants) h = absurd (cc)

field_last : (variants : List Variant) (f : Field) → is_empty variants ≡ false
    → flat_map variant_lines (with_last (with_field f) variants) ≡ flat_map variant_lines variants ++ lines.Field f ∷ []
field_last [] f h = absurd (cc)
field_last (v ∷ []) f h =
    append-nil (variant_lines (with_field f v))
    ∙ ap (λ ls. lines.Variant v.name v.sel ∷ ls) (one_more (λ x. lines.Field x) v.fields f)
    ∙ ap (λ ls. ls ++ lines.Field f ∷ []) (sym (append-nil (variant_lines v)))
field_last (v ∷ w ∷ variants) f h =
    ap (λ ls. variant_lines v ++ ls) (field_last (w ∷ variants) f refl)
    ∙ sym (append_assoc (variant_lines v) (flat_map variant_lines (w ∷ variants)) (lines.Field f ∷ []))

pub both_true : (a b : Bool) → (a && b) ≡ true → (a ≡ true) × (b ≡ true)
both_true true b h = (refl, h)
both_true false b h = absurd (cc)

no_tag : (tag : Option Tag) (variants : List Variant) → (is_none tag && is_empty variants) ≡ true → tag_lines tag ++ flat_map variant_lines variants ≡ []
no_tag None variants h = no_variants variants h
no_tag (Some t) variants h = absurd (cc)

tag_first : (tag : Option Tag) (variants : List Variant) (t : Tag) → (is_none tag && is_empty variants) ≡ true
    → lines.Tag t ∷ flat_map variant_lines variants ≡ (tag_lines tag ++ flat_map variant_lines variants) ++ lines.Tag t ∷ []
tag_first tag variants t h =
    let e = both_true (is_none tag) (is_empty variants) h in
    ap (λ ls. lines.Tag t ∷ ls) (no_variants variants e.1) ∙ ap (λ ls. ls ++ lines.Tag t ∷ []) (sym (no_tag tag variants h))

-- a variable is no part of a type
no_var : (def : TypeDef) → ((may_go_on def firsts.Arg ≡ true) → ⊥) × ((may_go_on def firsts.Var ≡ true) → ⊥)
no_var (Struct name size align params fields) = (λ h. cc, λ h. cc)
no_var (Array elem count) = (λ h. cc, λ h. cc)
no_var (Thin kind to) = (λ h. cc, λ h. cc)
no_var (Slice name kind ptr) = (λ h. cc, λ h. cc)
no_var (Str name kind ptr) = (λ h. cc, λ h. cc)
no_var (Dyn name kind ptr vtable) = (λ h. cc, λ h. cc)
no_var FnPtr = (λ h. cc, λ h. cc)
no_var (CLike name tag cases) = (λ h. cc, λ h. cc)
no_var (Enum name size align params tag variants) = (λ h. cc, λ h. cc)
no_var (Bytes name size align) = (λ h. cc, λ h. cc)

pub var_is_no_part : (def : TypeDef) (param : Bool) → may_go_on def (if param then firsts.Arg else firsts.Var) ≡ true → ⊥
var_is_no_part def true h = (no_var def).0 h
var_is_no_part def false h = (no_var def).1 h

-- the lines of a type with the part that may be its next one
part_added : (def : TypeDef) (l : Line) → may_go_on def (kind_of_line l) ≡ true → part_lines (with_part l def) ≡ part_lines def ++ l ∷ []
part_added (Struct name size align params fields) (lines.Param p) h = param_first params p (map (λ x. lines.Field x) fields) (no_fields fields h)
part_added (Struct name size align params fields) (lines.Field f) h =
    ap (λ ls. map (λ x. lines.Param x) params ++ ls) (one_more (λ x. lines.Field x) fields f)
    ∙ sym (append_assoc (map (λ x. lines.Param x) params) (map (λ x. lines.Field x) fields) (lines.Field f ∷ []))
part_added (CLike name tag cases) (lines.Case c) h = one_more (λ x. lines.Case x) cases c
part_added (Enum name size align params tag variants) (lines.Param p) h =
    param_first params p (tag_lines tag ++ flat_map variant_lines variants) (no_tag tag variants h)
part_added (Enum name size align params tag variants) (lines.Tag t) h =
    ap (λ ls. map (λ x. lines.Param x) params ++ ls) (tag_first tag variants t h)
    ∙ sym (append_assoc (map (λ x. lines.Param x) params) (tag_lines tag ++ flat_map variant_lines variants) (lines.Tag t ∷ []))
part_added (Enum name size align params tag variants) (lines.Variant w sel) h =
    let v : Variant = record { name = w; sel = sel; fields = [] } in
    ap (λ ls. map (λ x. lines.Param x) params ++ (tag_lines tag ++ ls)) (flat_map-append variant_lines variants (v ∷ []))
    ∙ ap (λ ls. map (λ x. lines.Param x) params ++ ls) (sym (append_assoc (tag_lines tag) (flat_map variant_lines variants) (lines.Variant w sel ∷ [])))
    ∙ sym (append_assoc (map (λ x. lines.Param x) params) (tag_lines tag ++ flat_map variant_lines variants) (lines.Variant w sel ∷ []))
part_added (Enum name size align params tag variants) (lines.Field f) h =
    ap (λ ls. map (λ x. lines.Param x) params ++ (tag_lines tag ++ ls)) (field_last variants f (not-true (is_empty variants) h))
    ∙ ap (λ ls. map (λ x. lines.Param x) params ++ ls) (sym (append_assoc (tag_lines tag) (flat_map variant_lines variants) (lines.Field f ∷ [])))
    ∙ sym (append_assoc (map (λ x. lines.Param x) params) (tag_lines tag ++ flat_map variant_lines variants) (lines.Field f ∷ []))
part_added def (lines.Var v) h = absurd (var_is_no_part def v.param h)
part_added def l h = absurd (cc)

-- no part stands in a type's line
same_bare : (def : TypeDef) (l : Line) → may_go_on def (kind_of_line l) ≡ true → bare (with_part l def) ≡ bare def
same_bare (Struct name size align params fields) (lines.Param p) h = refl
same_bare (Struct name size align params fields) (lines.Field f) h = refl
same_bare (CLike name tag cases) (lines.Case c) h = refl
same_bare (Enum name size align params tag variants) (lines.Param p) h = refl
same_bare (Enum name size align params tag variants) (lines.Tag t) h = refl
same_bare (Enum name size align params tag variants) (lines.Variant w sel) h = refl
same_bare (Enum name size align params tag variants) (lines.Field f) h = refl
same_bare def (lines.Var v) h = absurd (var_is_no_part def v.param h)
same_bare def l h = absurd (cc)

type_added : (def : TypeDef) (l : Line) → may_go_on def (kind_of_line l) ≡ true → type_lines (with_part l def) ≡ type_lines def ++ l ∷ []
type_added def l h = ap (λ d. lines.Type d ∷ part_lines (with_part l def)) (same_bare def l h) ∙ ap (λ ls. lines.Type (bare def) ∷ ls) (part_added def l h)

pub types_added : (types : List TypeDef) (l : Line) → last_may_go_on (last_of types) (kind_of_line l) ≡ true
    → flat_map type_lines (with_last (with_part l) types) ≡ flat_map type_lines types ++ l ∷ []
types_added [] l h = absurd (cc)
types_added (def ∷ []) l h =
    append-nil (type_lines (with_part l def)) ∙ type_added def l h ∙ ap (λ ls. ls ++ l ∷ []) (sym (append-nil (type_lines def)))
types_added (def ∷ d ∷ types) l h =
    ap (λ ls. type_lines def ++ ls) (types_added (d ∷ types) l h) ∙ sym (append_assoc (type_lines def) (flat_map type_lines (d ∷ types)) (l ∷ []))

field_counted : (variants : List Variant) (f : Field) → is_empty variants ≡ false → sum_by variant_parts (with_last (with_field f) variants)
    ≡ sum_by variant_parts variants + 1
field_counted [] f h = absurd (cc)
field_counted (v ∷ []) f h = omega (arith, length-append v.fields (f ∷ []))
field_counted (v ∷ w ∷ variants) f h =
    sum_by-cons variant_parts v (with_last (with_field f) (w ∷ variants))
    ∙ ap (λ n. variant_parts v + n) (field_counted (w ∷ variants) f refl)
    ∙ regroup (variant_parts v) (sum_by variant_parts (w ∷ variants)) 1
    ∙ ap (λ n. n + 1) (sym (sum_by-cons variant_parts v (w ∷ variants)))

part_counted : (def : TypeDef) (l : Line) → may_go_on def (kind_of_line l) ≡ true → parts_of (with_part l def) ≡ parts_of def + line_parts l
part_counted (Struct name size align params fields) (lines.Param p) h = omega (arith, length-append params (p ∷ []))
part_counted (Struct name size align params fields) (lines.Field f) h = omega (arith, length-append fields (f ∷ []))
part_counted (CLike name tag cases) (lines.Case c) h = omega (arith, length-append cases (c ∷ []))
part_counted (Enum name size align params tag variants) (lines.Param p) h = omega (arith, length-append params (p ∷ []))
part_counted (Enum name size align params tag variants) (lines.Tag t) h = omega arith
part_counted (Enum name size align params tag variants) (lines.Variant w sel) h =
    let v : Variant = record { name = w; sel = sel; fields = [] } in
    omega (arith, sum_by-append variant_parts variants (v ∷ []))
part_counted (Enum name size align params tag variants) (lines.Field f) h = omega (arith, field_counted variants f (not-true (is_empty variants) h))
part_counted def (lines.Var v) h = absurd (var_is_no_part def v.param h)
part_counted def l h = absurd (cc)

pub parts_counted : (types : List TypeDef) (l : Line) → last_may_go_on (last_of types) (kind_of_line l) ≡ true → sum_by parts_of (with_last (with_part l) types)
    ≡ sum_by parts_of types + line_parts l
parts_counted [] l h = absurd (cc)
parts_counted (def ∷ []) l h = omega (arith, part_counted def l h)
parts_counted (def ∷ d ∷ types) l h =
    sum_by-cons parts_of def (with_last (with_part l) (d ∷ types))
    ∙ ap (λ n. parts_of def + n) (parts_counted (d ∷ types) l h)
    ∙ regroup (parts_of def) (sum_by parts_of (d ∷ types)) (line_parts l)
    ∙ ap (λ n. n + line_parts l) (sym (sum_by-cons parts_of def (d ∷ types)))

pub no_parts : (def : TypeDef) → IsTypeLine def → parts_of def ≡ 0
no_parts (Struct name size align params fields) h = omega (arith, ap length h.1.0, ap length h.1.1)
no_parts (Array elem count) h = refl
no_parts (Thin kind to) h = refl
no_parts (Slice name kind ptr) h = refl
no_parts (Str name kind ptr) h = refl
no_parts (Dyn name kind ptr vtable) h = refl
no_parts FnPtr h = refl
no_parts (CLike name tag cases) h = ap length h.1
no_parts (Enum name size align params tag variants) h = omega (arith, ap length h.1.0, ap (sum_by variant_parts) h.1.1.1)
no_parts (Bytes name size align) h = refl
