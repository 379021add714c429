-- What chooses a variant: the static members of its helper, and their constants.
use Rattle.std.specs.Prelude.{ℕ, ◌==◌, ◌&&◌, Bool, if◌then◌else◌, List, [], ◌∷◌, length, map, codes, ℤ, pos, Option, Some, None, unwrap_or}
use Rattle.std.specs.List.{list_all}
use Rattle.layout_set.specs.declared.set.Selector.{Selector}
use Rattle.cv_symbol_records.specs.declared.kinds.SymRec.{SymRec}
use Rattle.cv_type_defs.specs.EnumNames.{constant_name}
use Rattle.cv_type_defs.specs.FieldLists.{Members}
use Rattle.cv_type_defs.specs.Helpers.{statics_named}
use Rattle.cv_type_defs.specs.Items.{lowest}
use Rattle.cv_type_defs.specs.Numbers.{modulo_bytes, of_halves}
use Rattle.cv_type_defs.specs.Rules.{enum_shape, no_constant}
use Rattle.cv_type_defs.specs.Symbols.{constant_of}

-- how selectors are kept: in constants of a tag of so many bytes, or in halves of 64 bits
pub data Kept : Type 0 where
  Whole : ℕ → Kept
  InHalves : Kept

-- one number, or a span; or other members than either has
pub data Shape : Type 0 where
  Exact : Shape
  Span : Shape
  Misshapen : Shape

-- the members of one number
abbrev pub exact_members : Kept → List (List ℕ)
exact_members (Kept.Whole size) = codes "DISCR_EXACT" ∷ []
exact_members Kept.InHalves = codes "DISCR128_EXACT_LO" ∷ codes "DISCR128_EXACT_HI" ∷ []

-- the members of a span
abbrev pub span_members : Kept → List (List ℕ)
span_members (Kept.Whole size) = codes "DISCR_BEGIN" ∷ codes "DISCR_END" ∷ []
span_members Kept.InHalves =
    codes "DISCR128_BEGIN_LO" ∷ codes "DISCR128_BEGIN_HI" ∷ codes "DISCR128_END_LO" ∷ codes "DISCR128_END_HI" ∷ []

-- a helper with these members has each of the names so many times
abbrev each_is_there : ℕ → Members → List (List ℕ) → Bool
each_is_there times members names = list_all (λ name. length (statics_named name members) == times) names

-- the shape of the selector: each member of the one kind once, and none of the other
abbrev pub shape_of : Kept → Members → Shape
shape_of kept members =
    if each_is_there 1 members (exact_members kept) && each_is_there 0 members (span_members kept) then Shape.Exact
    else if each_is_there 0 members (exact_members kept) && each_is_there 1 members (span_members kept) then Shape.Span
    else Shape.Misshapen

-- the constant of a static member of a helper; 0 stands for one that is missing
abbrev constant_or_0 : List SymRec → List ℕ → List ℕ → ℤ
constant_or_0 symbols helper member = unwrap_or (constant_of symbols (constant_name helper member)) (pos 0)

-- the number of a member, modulo the tag's width; that of a helper's half is modulo 2^64
abbrev whole_number : List SymRec → List ℕ → ℕ → List ℕ → ℕ
whole_number symbols helper size member = modulo_bytes size (constant_or_0 symbols helper member)

abbrev number_in_halves : List SymRec → List ℕ → List ℕ → List ℕ → ℕ
number_in_halves symbols helper lo hi = of_halves (constant_or_0 symbols helper lo) (constant_or_0 symbols helper hi)

abbrev selector_by : List SymRec → List ℕ → Kept → Shape → Selector
selector_by symbols helper (Kept.Whole size) Shape.Exact = Selector.Exact (whole_number symbols helper size (codes "DISCR_EXACT"))
selector_by symbols helper (Kept.Whole size) Shape.Span =
    Selector.Span (whole_number symbols helper size (codes "DISCR_BEGIN")) (whole_number symbols helper size (codes "DISCR_END"))
selector_by symbols helper Kept.InHalves Shape.Exact =
    Selector.Exact (number_in_halves symbols helper (codes "DISCR128_EXACT_LO") (codes "DISCR128_EXACT_HI"))
selector_by symbols helper Kept.InHalves Shape.Span =
    Selector.Span (number_in_halves symbols helper (codes "DISCR128_BEGIN_LO") (codes "DISCR128_BEGIN_HI"))
    (number_in_halves symbols helper (codes "DISCR128_END_LO") (codes "DISCR128_END_HI"))
selector_by symbols helper _ Shape.Misshapen = Selector.Only

-- the selector of the variant with this helper
abbrev pub selector_of : List SymRec → List ℕ → Kept → Members → Selector
selector_of symbols helper kept members = selector_by symbols helper kept (shape_of kept members)

abbrev there : Option ℤ → Option ℕ
there None = Some no_constant
there (Some n) = None

-- the rule that a constant of a helper breaks: it is missing
abbrev pub constant_rule : List SymRec → List ℕ → List ℕ → Option ℕ
constant_rule symbols helper member = there (constant_of symbols (constant_name helper member))

abbrev rule_by : List SymRec → List ℕ → Kept → Shape → Option ℕ
rule_by symbols helper kept Shape.Exact = lowest (map (constant_rule symbols helper) (exact_members kept))
rule_by symbols helper kept Shape.Span = lowest (map (constant_rule symbols helper) (span_members kept))
rule_by symbols helper kept Shape.Misshapen = Some enum_shape

-- the rule that a selector breaks: its shape is another, or it is there whole and a constant is missing
abbrev pub selector_rule : List SymRec → List ℕ → Kept → Members → Option ℕ
selector_rule symbols helper kept members = rule_by symbols helper kept (shape_of kept members)
