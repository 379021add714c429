-- Lines that lead from a set, and the entry that stands open behind it, to others, each of which may follow with those before it.
use Rattle.std.proofs.Common.{◌≡◌, ◌∙◌, sym, ap, subst, refl, ℕ, Bool, true, false, not, List, [], ◌∷◌, ◌++◌, map, append_assoc, Option, Some, None}
use Rattle.std.proofs.lemmas.List.{append-nil}
use Rattle.std.specs.List.{flat_map}
use Rattle.layout_set.specs.declared.set.Set.{Set}
use Rattle.layout_set.specs.declared.set.Target.{Target}
use Rattle.layout_set.specs.declared.set.TypeDef.{TypeDef}
use Rattle.layout_set.specs.declared.set.TypeDef.TheVariants.{Struct, Array, Thin, Slice, Str, Dyn, FnPtr, CLike, Enum, Bytes}
use Rattle.layout_set.specs.declared.set.Param.{Param}
use Rattle.layout_set.specs.declared.set.Field.{Field}
use Rattle.layout_set.specs.declared.set.Case.{Case}
use Rattle.layout_set.specs.declared.set.Tag.{Tag}
use Rattle.layout_set.specs.declared.set.Static.{Static}
use Rattle.layout_set.specs.declared.set.Variant.{Variant}
use Rattle.layout_set.specs.declared.primitive.Primitive.{Primitive}
use Rattle.names.specs.declared.name.Name.{Name}
use Rattle.layout_words.specs.declared.kinds.LineKind.{LineKind}
use Rattle.layout_words.specs.declared.kinds.LineKind.TheVariants as firsts
use Rattle.layout_lines.specs.declared.line.Line.{Line}
use Rattle.layout_lines.specs.declared.line.Line.TheVariants as lines
use Rattle.layout_lines.specs.Lines.{kind_of_line}
use Rattle.layout_lines.specs.Sets.{bare, variant_lines, tag_lines, part_lines, type_lines, last_of, last_may_go_on, may_go_on, may_follow}
use Rattle.layout_builder.specs.Additions.{Draft, with_last, with_field, with_part, added}
use Rattle.layout_builder.proofs.WithLast.{with_last_end}
use Rattle.layout_lines.proofs.LastItems.{last_of_end, some_end}
use Rattle.layout_builder.proofs.TypeAdding.{var_is_no_part}

-- the lines lead from a set and the entry that stands open to others
abbrev pub Leads : Draft → List Line → Draft → Type 0
Leads a [] b = a ≡ b
Leads a (l ∷ ls) b = (may_follow a.0 a.1 (kind_of_line l) ≡ true) × Leads (added a.0 a.1 l) ls b

pub leads_both : (a b c : Draft) (xs ys : List Line) → Leads a xs b → Leads b ys c → Leads a (xs ++ ys) c
leads_both a b c [] ys p q = subst (λ s. Leads s ys c) (sym p) q
leads_both a b c (x ∷ xs) ys p q = (p.0, leads_both (added a.0 a.1 x) b c xs ys p.1 q)

-- one more at the end, and those after it
pub shift : {A : Type 0} (xs : List A) (x : A) (ys : List A) → (xs ++ x ∷ []) ++ ys ≡ xs ++ x ∷ ys
shift xs x ys = append_assoc xs (x ∷ []) ys

-- the lines of items lead to the set with them where those of each item do
pub each_leads : {A : Type 0} (L : A → List Line) (S : List A → Set) → ((before : List A) (x : A) → Leads (S before, None) (L x) (S (before ++ x ∷ []), None))
    → (before xs : List A) → Leads (S before, None) (flat_map L xs) (S (before ++ xs), None)
each_leads L S h before [] = ap (λ ys. (S ys, None)) (sym (append-nil before))
each_leads L S h before (x ∷ xs) =
    leads_both (S before, None) (S (before ++ x ∷ []), None) (S (before ++ x ∷ xs), None) (L x) (flat_map L xs) (h before x)
    (subst (λ ys. Leads (S (before ++ x ∷ []), None) (flat_map L xs) (S ys, None)) (shift before x xs) (each_leads L S h (before ++ x ∷ []) xs))

-- the parts lead from the type to another
abbrev PartsLead : TypeDef → List Line → TypeDef → Type 0
PartsLead a [] b = a ≡ b
PartsLead a (l ∷ ls) b = (may_go_on a (kind_of_line l) ≡ true) × PartsLead (with_part l a) ls b

parts_both : (a b c : TypeDef) (xs ys : List Line) → PartsLead a xs b → PartsLead b ys c → PartsLead a (xs ++ ys) c
parts_both a b c [] ys p q = subst (λ s. PartsLead s ys c) (sym p) q
parts_both a b c (x ∷ xs) ys p q = (p.0, parts_both (with_part x a) b c xs ys p.1 q)

params_lead : (name : Name) (size align : ℕ) (before params : List Param)
    → PartsLead (Struct name size align before []) (map (λ p. lines.Param p) params) (Struct name size align (before ++ params) [])
params_lead name size align before [] = ap (λ ps. Struct name size align ps []) (sym (append-nil before))
params_lead name size align before (p ∷ params) = (
  refl,
  subst (λ ps. PartsLead (Struct name size align (before ++ p ∷ []) []) (map (λ x. lines.Param x) params) (Struct name size align ps []))
      (shift before p params)
      (params_lead name size align (before ++ p ∷ []) params),
)

fields_lead : (name : Name) (size align : ℕ) (params : List Param) (before fields : List Field)
    → PartsLead (Struct name size align params before) (map (λ f. lines.Field f) fields) (Struct name size align params (before ++ fields))
fields_lead name size align params before [] = ap (Struct name size align params) (sym (append-nil before))
fields_lead name size align params before (f ∷ fields) = (
  refl,
  subst (λ fs. PartsLead (Struct name size align params (before ++ f ∷ [])) (map (λ x. lines.Field x) fields) (Struct name size align params fs))
      (shift before f fields)
      (fields_lead name size align params (before ++ f ∷ []) fields),
)

cases_lead : (name : Name) (tag : Primitive) (before cases : List Case)
    → PartsLead (CLike name tag before) (map (λ c. lines.Case c) cases) (CLike name tag (before ++ cases))
cases_lead name tag before [] = ap (CLike name tag) (sym (append-nil before))
cases_lead name tag before (c ∷ cases) = (
  refl,
  subst (λ cs. PartsLead (CLike name tag (before ++ c ∷ [])) (map (λ x. lines.Case x) cases) (CLike name tag cs)) (shift before c cases)
      (cases_lead name tag (before ++ c ∷ []) cases),
)

enum_params_lead : (name : Name) (size align : ℕ) (before params : List Param)
    → PartsLead (Enum name size align before None []) (map (λ p. lines.Param p) params) (Enum name size align (before ++ params) None [])
enum_params_lead name size align before [] = ap (λ ps. Enum name size align ps None []) (sym (append-nil before))
enum_params_lead name size align before (p ∷ params) = (
  refl,
  subst (λ ps. PartsLead (Enum name size align (before ++ p ∷ []) None []) (map (λ x. lines.Param x) params) (Enum name size align ps None []))
      (shift before p params)
      (enum_params_lead name size align (before ++ p ∷ []) params),
)

tag_leads : (name : Name) (size align : ℕ) (params : List Param) (tag : Option Tag)
    → PartsLead (Enum name size align params None []) (tag_lines tag) (Enum name size align params tag [])
tag_leads name size align params None = refl
tag_leads name size align params (Some t) = (refl, refl)

abbrev with_fields : Variant → List Field → Variant
with_fields v fields = record v { fields = v.fields ++ fields }

variant_fields_lead : (name : Name) (size align : ℕ) (params : List Param) (tag : Option Tag) (before : List Variant) (v : Variant) (fields : List Field)
    → PartsLead (Enum name size align params tag (before ++ v ∷ [])) (map (λ f. lines.Field f) fields)
    (Enum name size align params tag (before ++ with_fields v fields ∷ []))
variant_fields_lead name size align params tag before v [] =
    ap (λ fs. Enum name size align params tag (before ++ record v { fields = fs } ∷ [])) (sym (append-nil v.fields))
variant_fields_lead name size align params tag before v (f ∷ fields) =
    let all : Variant = with_fields v (f ∷ fields) in
    let more = variant_fields_lead name size align params tag before (with_field f v) fields in
    let same = subst (λ fs. PartsLead (Enum name size align params tag (before ++ with_field f v ∷ [])) (map (λ x. lines.Field x) fields)
    (Enum name size align params tag (before ++ record v { fields = fs } ∷ []))) (shift v.fields f fields) more in (
      ap not (some_end before v),
      subst (λ vs. PartsLead (Enum name size align params tag vs) (map (λ x. lines.Field x) fields) (Enum name size align params tag (before ++ all ∷ [])))
          (sym (with_last_end (with_field f) before v)) same,
    )

variant_leads : (name : Name) (size align : ℕ) (params : List Param) (tag : Option Tag) (before : List Variant) (v : Variant)
    → PartsLead (Enum name size align params tag before) (variant_lines v) (Enum name size align params tag (before ++ v ∷ []))
variant_leads name size align params tag before v =
    (refl, variant_fields_lead name size align params tag before (record { name = v.name; sel = v.sel; fields = [] }) v.fields)

variants_lead : (name : Name) (size align : ℕ) (params : List Param) (tag : Option Tag) (before variants : List Variant)
    → PartsLead (Enum name size align params tag before) (flat_map variant_lines variants) (Enum name size align params tag (before ++ variants))
variants_lead name size align params tag before [] = ap (Enum name size align params tag) (sym (append-nil before))
variants_lead name size align params tag before (v ∷ variants) =
    parts_both (Enum name size align params tag before) (Enum name size align params tag (before ++ v ∷ []))
    (Enum name size align params tag (before ++ v ∷ variants)) (variant_lines v) (flat_map variant_lines variants)
    (variant_leads name size align params tag before v)
    (subst (λ vs. PartsLead (Enum name size align params tag (before ++ v ∷ [])) (flat_map variant_lines variants) (Enum name size align params tag vs))
    (shift before v variants)
    (variants_lead name size align params tag (before ++ v ∷ []) variants))

-- the parts of a type lead from the bare type to it
parts_lead : (def : TypeDef) → PartsLead (bare def) (part_lines def) def
parts_lead (Struct name size align params fields) =
    parts_both (Struct name size align [] []) (Struct name size align params []) (Struct name size align params fields) (map (λ p. lines.Param p) params)
    (map (λ f. lines.Field f) fields)
    (params_lead name size align [] params) (fields_lead name size align params [] fields)
parts_lead (Array elem count) = refl
parts_lead (Thin kind to) = refl
parts_lead (Slice name kind ptr) = refl
parts_lead (Str name kind ptr) = refl
parts_lead (Dyn name kind ptr vtable) = refl
parts_lead FnPtr = refl
parts_lead (CLike name tag cases) = cases_lead name tag [] cases
parts_lead (Enum name size align params tag variants) =
    parts_both (Enum name size align [] None []) (Enum name size align params None []) (Enum name size align params tag variants)
    (map (λ p. lines.Param p) params) (tag_lines tag ++ flat_map variant_lines variants)
    (enum_params_lead name size align [] params)
    (parts_both (Enum name size align params None []) (Enum name size align params tag []) (Enum name size align params tag variants) (tag_lines tag)
    (flat_map variant_lines variants)
    (tag_leads name size align params tag) (variants_lead name size align params tag [] variants))
parts_lead (Bytes name size align) = refl

abbrev is_part : LineKind → Bool
is_part firsts.Param = true
is_part firsts.Field = true
is_part firsts.Case = true
is_part firsts.Tag = true
is_part firsts.Variant = true
is_part kind = false

goes_on_is_part : (def : TypeDef) (kind : LineKind) → may_go_on def kind ≡ true → is_part kind ≡ true
goes_on_is_part (Struct name size align params fields) firsts.Param h = refl
goes_on_is_part (Struct name size align params fields) firsts.Field h = refl
goes_on_is_part (CLike name tag cases) firsts.Case h = refl
goes_on_is_part (Enum name size align params tag variants) firsts.Param h = refl
goes_on_is_part (Enum name size align params tag variants) firsts.Tag h = refl
goes_on_is_part (Enum name size align params tag variants) firsts.Variant h = refl
goes_on_is_part (Enum name size align params tag variants) firsts.Field h = refl
goes_on_is_part def kind h = absurd (cc)

no_part : (def : TypeDef) (kind : LineKind) → is_part kind ≡ false → may_go_on def kind ≡ true → ⊥
no_part def kind e h = let p : true ≡ false = sym (goes_on_is_part def kind h) ∙ e in cc

-- a set with types alone
abbrev only_types : Target → List TypeDef → Set
only_types target types = record { target = target; types = types; statics = []; funcs = [] }

-- a set with no line behind the first two
abbrev pub empty_set : Target → Set
empty_set target = only_types target []

last_goes_on : (types : List TypeDef) (def : TypeDef) (l : Line) → may_go_on def (kind_of_line l) ≡ true
    → last_may_go_on (last_of (types ++ def ∷ [])) (kind_of_line l) ≡ true
last_goes_on types def l h = ap (λ o. last_may_go_on o (kind_of_line l)) (last_of_end types def) ∙ h

with_last_part : (target : Target) (types : List TypeDef) (def : TypeDef) (l : Line)
    → ◌≡◌ {A = Draft} (only_types target (with_last (with_part l) (types ++ def ∷ [])), None) (only_types target (types ++ with_part l def ∷ []), None)
with_last_part target types def l = ap (λ ts. (only_types target ts, None)) (with_last_end (with_part l) types def)

part_step : (target : Target) (types : List TypeDef) (def : TypeDef) (l : Line) → may_go_on def (kind_of_line l) ≡ true
    → (may_follow (only_types target (types ++ def ∷ [])) None (kind_of_line l) ≡ true)
    × (added (only_types target (types ++ def ∷ [])) None l ≡ (only_types target (types ++ with_part l def ∷ []), None))
part_step target types def (lines.Type d) h = absurd (no_part def firsts.Type refl h)
part_step target types def (lines.Param p) h = (last_goes_on types def (lines.Param p) h, with_last_part target types def (lines.Param p))
part_step target types def (lines.Field f) h = (last_goes_on types def (lines.Field f) h, with_last_part target types def (lines.Field f))
part_step target types def (lines.Case c) h = (last_goes_on types def (lines.Case c) h, with_last_part target types def (lines.Case c))
part_step target types def (lines.Tag t) h = (last_goes_on types def (lines.Tag t) h, with_last_part target types def (lines.Tag t))
part_step target types def (lines.Variant w sel) h = (last_goes_on types def (lines.Variant w sel) h, with_last_part target types def (lines.Variant w sel))
part_step target types def (lines.Static s) h = absurd (no_part def firsts.Static refl h)
part_step target types def (lines.Func f) h = absurd (no_part def firsts.Func refl h)
part_step target types def (lines.Scope s) h = absurd (no_part def firsts.Scope refl h)
part_step target types def (lines.Var v) h = absurd (var_is_no_part def v.param h)
part_step target types def (lines.Whole lo hi place) h = absurd (no_part def firsts.At refl h)
part_step target types def (lines.Pieces lo hi count) h = absurd (no_part def firsts.At refl h)
part_step target types def (lines.Piece p) h = absurd (no_part def firsts.Piece refl h)

of_parts : (target : Target) (types : List TypeDef) (a b : TypeDef) (ls : List Line) → PartsLead a ls b
    → Leads (only_types target (types ++ a ∷ []), None) ls (only_types target (types ++ b ∷ []), None)
of_parts target types a b [] p = ap (λ d. (only_types target (types ++ d ∷ []), None)) p
of_parts target types a b (l ∷ ls) p =
    let s = part_step target types a l p.0 in
    (s.0, subst (λ d. Leads d ls (only_types target (types ++ b ∷ []), None)) (sym s.1) (of_parts target types (with_part l a) b ls p.1))

of_type : (target : Target) (types : List TypeDef) (def : TypeDef)
    → Leads (only_types target types, None) (type_lines def) (only_types target (types ++ def ∷ []), None)
of_type target types def = (refl, of_parts target types (bare def) def (part_lines def) (parts_lead def))

abbrev with_statics : Target → List TypeDef → List Static → Set
with_statics target types statics = record { target = target; types = types; statics = statics; funcs = [] }

of_statics : (target : Target) (types : List TypeDef) (before statics : List Static)
    → Leads (with_statics target types before, None) (map (λ s. lines.Static s) statics) (with_statics target types (before ++ statics), None)
of_statics target types before [] = ap (λ ss. (with_statics target types ss, None)) (sym (append-nil before))
of_statics target types before (s ∷ statics) = (
  refl,
  subst (λ ss. Leads (with_statics target types (before ++ s ∷ []), None) (map (λ x. lines.Static x) statics) (with_statics target types ss, None))
      (shift before s statics)
      (of_statics target types (before ++ s ∷ []) statics),
)

-- the lines of types and statics lead to the set with them and no functions
pub types_lead : (set : Set)
    → Leads (empty_set set.target, None) (flat_map type_lines set.types ++ map (λ s. lines.Static s) set.statics) (record set { funcs = [] }, None)
types_lead set =
    leads_both (empty_set set.target, None) (only_types set.target set.types, None) (record set { funcs = [] }, None) (flat_map type_lines set.types)
    (map (λ s. lines.Static s) set.statics)
    (each_leads type_lines (only_types set.target) (of_type set.target) [] set.types) (of_statics set.target set.types [] set.statics)
