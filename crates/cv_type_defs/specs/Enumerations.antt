-- LF_ENUM: a C-like enum, with its LF_ENUMERATEs as cases.
use Rattle.std.specs.Prelude.{ℕ, ◌^◌, nat_lt, List, [], ◌∷◌, map, filter_map, ℤ, not, Option, Some, None, unwrap_or}
use Rattle.layout_set.specs.Primitives.{prim_bytes}
use Rattle.layout_set.specs.declared.primitive.Primitive.{Primitive}
use Rattle.layout_set.specs.declared.set.Case.{Case}
use Rattle.layout_set.specs.declared.set.TypeDef.{TypeDef}
use Rattle.layout_set.specs.declared.set.TypeRef.{TypeRef}
use Rattle.cv_type_records.specs.declared.kinds.Member.{Member}
use Rattle.cv_type_defs.specs.FieldLists.{Members}
use Rattle.cv_type_defs.specs.Items.{lowest, rule_if}
use Rattle.cv_type_defs.specs.Links.{Target, target}
use Rattle.cv_type_defs.specs.Numbers.{modulo_bytes}
use Rattle.cv_type_defs.specs.Rules.{no_fit, wrong_kind}
use Rattle.cv_type_defs.specs.Texts.{enum_text, name_of_text}
use Rattle.cv_type_defs.specs.TypeRefs.{Info, type_of, word_rule}

-- an LF_ENUMERATE
pub record Enumerator : Type 0 where
  pub name : List ℕ
  pub number : ℤ

abbrev enumerator_in : Member → Option Enumerator
enumerator_in (Member.Enumerate attributes number name) = Some (record { name = name; number = number })
enumerator_in _ = None

-- the enumerators among some members, in order; all others are passed over
abbrev pub enumerators_in : Members → List Enumerator
enumerators_in members = filter_map (λ p. enumerator_in p.member) members.items

abbrev primitive_in : Option TypeRef → Option Primitive
primitive_in (Some (TypeRef.Prim prim)) = Some prim
primitive_in _ = None

-- the primitive that a link leads to, if it leads to one
abbrev pub primitive_of : Info → Target → Option Primitive
primitive_of info to = primitive_in (type_of info to)

abbrev primitive_there : Option Primitive → Option ℕ
primitive_there None = Some wrong_kind
primitive_there (Some prim) = None

-- the rule that a link to a primitive breaks
abbrev pub primitive_rule : Info → Target → Option ℕ
primitive_rule info (Target.Broken rule) = Some rule
primitive_rule info to = primitive_there (primitive_of info to)

-- the primitive of the LF_ENUM at a place; a unit stands for one that breaks a rule
abbrev pub enumeration_primitive : Info → ℕ → ℕ → Primitive
enumeration_primitive info place ty = unwrap_or (primitive_of info (target info.records place ty)) Primitive.«Unit»

-- a case: its number is modulo the size of its type
abbrev pub case_of : Primitive → Enumerator → Case
case_of prim e = record { name = e.name; number = modulo_bytes (prim_bytes 8 prim) e.number }

-- the rule that a case breaks: its number has more than 64 bits, or its name is no word
abbrev pub case_rule : Primitive → Enumerator → Option ℕ
case_rule prim e = lowest (rule_if (not (nat_lt (modulo_bytes (prim_bytes 8 prim) e.number) (2 ^ 64))) no_fit ∷ word_rule e.name ∷ [])

-- the LF_ENUM at a place, with its type, members and name
abbrev pub enumeration_def : Info → ℕ → ℕ → Members → List ℕ → TypeDef
enumeration_def info place ty members name =
    TypeDef.CLike (name_of_text (enum_text name)) (enumeration_primitive info place ty)
    (map (case_of (enumeration_primitive info place ty)) (enumerators_in members))

-- the rule that it breaks
abbrev pub enumeration_rule : Info → ℕ → ℕ → Members → Option ℕ
enumeration_rule info place ty members =
    lowest (primitive_rule info (target info.records place ty) ∷ members.rule ∷ map (case_rule (enumeration_primitive info place ty)) (enumerators_in members))
