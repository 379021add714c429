-- The types to which links lead: primitives, records by their numbers, and the simple pointers that are used, which come last.
use Rattle.std.specs.Prelude.{ℕ, ◌+◌, ◌-◌, nat_lt, if◌then◌else◌, List, [], ◌∷◌, length, count_by, Option, Some, None, unwrap_or}
use Rattle.layout_set.specs.declared.primitive.Primitive.{Primitive}
use Rattle.layout_set.specs.declared.set.Field.{Field}
use Rattle.layout_set.specs.declared.set.TypeRef.{TypeRef}
use Rattle.cv_symbol_records.specs.declared.kinds.SymRec.{SymRec}
use Rattle.cv_type_records.specs.declared.kinds.TypeKind.{TypeKind}
use Rattle.cv_type_records.specs.declared.kinds.TypeRec.{TypeRec}
use Rattle.cv_type_defs.specs.Fields.{CvField, field_target, u32_of, u32_or_0}
use Rattle.cv_type_defs.specs.Items.{lowest}
use Rattle.cv_type_defs.specs.Links.{Target}
use Rattle.cv_type_defs.specs.Numbering.{is_numbered, is_unit, numbered_before}
use Rattle.cv_type_defs.specs.Records.{kind_at}
use Rattle.cv_type_defs.specs.Rules.{no_fit, no_word, wrong_kind}
use Rattle.cv_type_defs.specs.SimpleTypes.{primitive_at, pointed_at}
use Rattle.cv_type_defs.specs.Symbols.{outside_sites}
use Rattle.cv_type_defs.specs.Texts.{is_word}
use Rattle.cv_type_defs.specs.Uses.{used_pointers}

-- all type records, the symbols outside inline sites, and the simple types to which simple pointers that are used lead
pub record Info : Type 0 where
  pub records : List TypeRec
  pub symbols : List SymRec
  pub used : List ℕ

abbrev pub info_of : List TypeRec → List SymRec → Info
info_of records symbols = record {
  records = records;
  symbols = outside_sites symbols;
  used = used_pointers records (outside_sites symbols);
}

-- the number of the pointer to a simple type: after those of the records
abbrev pub pointer_number : Info → ℕ → ℕ
pointer_number info t = numbered_before info.records (length info.records) + count_by (λ u. nat_lt u t) info.used

abbrev simple_type : Info → ℕ → Option Primitive → Option Primitive → Option TypeRef
simple_type info index (Some prim) pointed = Some (TypeRef.Prim prim)
simple_type info index None (Some prim) = Some (TypeRef.User (pointer_number info (index - 0x600)))
simple_type info index None None = None

abbrev record_type : Info → ℕ → Option TypeKind → Option TypeRef
record_type info place None = None
record_type info place (Some kind) =
    if is_unit kind then Some (TypeRef.Prim Primitive.«Unit»)
    else if is_numbered kind then Some (TypeRef.User (numbered_before info.records place)) else None

-- the type that a link leads to, if it leads to one
abbrev pub type_of : Info → Target → Option TypeRef
type_of info (Target.Simple index) = simple_type info index (primitive_at index) (pointed_at index)
type_of info (Target.Record place) = record_type info place (kind_at info.records place)
type_of info (Target.Broken rule) = None

abbrev pub or_unit : Option TypeRef → TypeRef
or_unit ty = unwrap_or ty (TypeRef.Prim Primitive.«Unit»)

abbrev type_there : Option TypeRef → Option ℕ
type_there None = Some wrong_kind
type_there (Some ty) = None

-- the rule that a link to a type breaks
abbrev pub type_rule : Info → Target → Option ℕ
type_rule info (Target.Broken rule) = Some rule
type_rule info to = type_there (type_of info to)

-- a field of the set
abbrev pub field_of : Info → CvField → Field
field_of info f = record { name = f.name; off = u32_or_0 f.offset; ty = or_unit (type_of info (field_target info.records f)) }

abbrev pub fit_rule : Option ℕ → Option ℕ
fit_rule None = Some no_fit
fit_rule (Some n) = None

abbrev pub word_rule : List ℕ → Option ℕ
word_rule name = if is_word name then None else Some no_word

-- the rule that a field breaks: its offset is no u32, its name is no word, or its type
abbrev pub field_rule : Info → CvField → Option ℕ
field_rule info f = lowest (fit_rule (u32_of f.offset) ∷ word_rule f.name ∷ type_rule info (field_target info.records f) ∷ [])
