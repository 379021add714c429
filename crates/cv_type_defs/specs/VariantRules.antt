-- The rules that variants break, by their helpers.
use Rattle.std.specs.Prelude.{ℕ, ◌==◌, not, Bool, false, List, [], ◌∷◌, bytes_eq, codes, ℤ, pos, negsuc, Option, Some, None}
use Rattle.cv_type_defs.specs.EnumNames.{helper_name, variants_name}
use Rattle.cv_type_defs.specs.Enumerations.{Enumerator}
use Rattle.cv_type_defs.specs.Fields.{CvField, field_target}
use Rattle.cv_type_defs.specs.Helpers.{Named, helper_of, members_of_named, named_at, names_target, value_of, variant_members}
use Rattle.cv_type_defs.specs.Items.{lowest, rule_if}
use Rattle.cv_type_defs.specs.Links.{Target}
use Rattle.cv_type_defs.specs.Records.{Leaf}
use Rattle.cv_type_defs.specs.Rules.{enum_shape, wrong_kind}
use Rattle.cv_type_defs.specs.Selectors.{Kept, constant_rule, selector_rule}
use Rattle.cv_type_defs.specs.Structures.{fields_rule}
use Rattle.cv_type_defs.specs.TypeRefs.{Info, word_rule}
use Rattle.cv_type_defs.specs.Unions.{VariantField}
use Rattle.cv_type_defs.specs.Variants.{name_constant, naming}

abbrev leaf_rule : Option Named → Option ℕ
leaf_rule None = Some wrong_kind
leaf_rule (Some n) = None

-- the rule that a link to a record of this leaf breaks
abbrev pub named_rule : Info → Leaf → Target → Option ℕ
named_rule info leaf (Target.Broken rule) = Some rule
named_rule info leaf to = leaf_rule (named_at info.records leaf to)

abbrev other_name : List ℕ → Option Named → Option ℕ
other_name name None = None
other_name name (Some n) = rule_if (not (bytes_eq n.head.name name)) enum_shape

-- the same of one that must have this name
abbrev pub called_rule : Info → Leaf → List ℕ → Target → Option ℕ
called_rule info leaf name to = lowest (named_rule info leaf to ∷ other_name name (named_at info.records leaf to) ∷ [])

abbrev is_start : ℤ → Bool
is_start (pos n) = n == 0
is_start (negsuc n) = false

-- the one LF_MEMBER of a helper is `value`, at 0, and leads to a structure
abbrev value_rule : Info → Option CvField → Option ℕ
value_rule info None = Some enum_shape
value_rule info (Some f) =
    lowest (rule_if (not (is_start f.offset)) enum_shape ∷ named_rule info Leaf.Structure (field_target info.records f) ∷ [])

abbrev called_names_rule : Info → List ℕ → Option Target → Option ℕ
called_names_rule info name None = Some enum_shape
called_names_rule info name (Some to) = called_rule info Leaf.Enum (variants_name name) to

abbrev unnamed_rule : Option ℤ → Option Enumerator → Option ℕ
unnamed_rule None e = None
unnamed_rule (Some z) None = Some enum_shape
unnamed_rule (Some z) (Some e) = word_rule e.name

-- the one static member NAME leads to the names of the variants, and its constant to one of these, which is a word
abbrev pub naming_rule : Info → List ℕ → Named → Option ℕ
naming_rule info name helper =
    lowest (called_names_rule info name (names_target info.records helper) ∷ constant_rule info.symbols helper.head.name (codes "NAME")
    ∷ unnamed_rule (name_constant info helper) (naming info name helper) ∷ [])

abbrev chosen_rule : Info → Option Kept → Named → Option ℕ
chosen_rule info None helper = None
chosen_rule info (Some kept) helper = selector_rule info.symbols helper.head.name kept (members_of_named info.records helper)

-- what a helper breaks, which is looked at where it has its name
abbrev helper_rule : Info → List ℕ → Option Kept → Option Named → Option ℕ
helper_rule info name kept None = None
helper_rule info name kept (Some helper) =
    lowest ((members_of_named info.records helper).rule ∷ value_rule info (value_of info.records helper)
    ∷ fields_rule info (variant_members info.records (Some helper)) ∷ naming_rule info name helper ∷ chosen_rule info kept helper ∷ [])

-- the rule that a variant of the enum that has this name breaks
abbrev pub variant_rule : Info → List ℕ → Option Kept → VariantField → Option ℕ
variant_rule info name kept v =
    lowest (called_rule info Leaf.Structure (helper_name name v.number) (field_target info.records v.field)
    ∷ helper_rule info name kept (helper_of info.records name v) ∷ [])
