-- Rules that nothing breaks.
use Rattle.std.proofs.Common.{◌≡◌, ◌^◌, ℕ, Bool, true, false, List, not, nat_lt, Option, Some, None, refl, subst, ℤ, if◌then◌else◌}
use Rattle.layout_set.specs.Primitives.{prim_bytes}
use Rattle.layout_set.specs.declared.primitive.Primitive.{Primitive}
use Rattle.cv_type_defs.specs.Enumerations.{Enumerator, case_rule}
use Rattle.cv_type_defs.specs.FatPointers.{Fat, fat_pointer}
use Rattle.cv_type_defs.specs.FieldLists.{Members}
use Rattle.cv_type_defs.specs.Fields.{CvField, field_target, u32_of}
use Rattle.cv_type_defs.specs.Items.{lower, rule_if}
use Rattle.cv_type_defs.specs.Numbers.{modulo_bytes}
use Rattle.cv_type_defs.specs.Rules.{no_fit, no_word}
use Rattle.cv_type_defs.specs.Structures.{fields_rule, structure_rule}
use Rattle.cv_type_defs.specs.Texts.{is_word}
use Rattle.cv_type_defs.specs.TypeRefs.{Info, field_rule, fit_rule, type_rule, word_rule}
use Rattle.cv_structures.specs.steps.Structures.{fields_unless_fat}

-- where the lower of two rules is none, there is neither
pub neither : (r s : Option ℕ) → lower r s ≡ None → (r ≡ None) × (s ≡ None)
neither None s h = (refl, h)
neither (Some r) None h = absurd (cc)
neither (Some r) (Some s) h = absurd (cc)

by_word : (b : Bool) → ◌≡◌ {A = Option ℕ} (if b then None else Some no_word) None → b ≡ true
by_word true h = refl
by_word false h = absurd (cc)

-- a name that breaks no rule is a word
pub named : (name : List ℕ) → word_rule name ≡ None → is_word name ≡ true
named name h = by_word (is_word name) h

by_test : (b : Bool) → rule_if (not b) no_fit ≡ None → b ≡ true
by_test true h = refl
by_test false h = absurd (cc)

-- the name of a field that breaks no rule is a word
pub field_named : (info : Info) (f : CvField) → field_rule info f ≡ None → is_word f.name ≡ true
field_named info f h =
    let rest = (neither (fit_rule (u32_of f.offset)) (lower (word_rule f.name) (lower (type_rule info (field_target info.records f)) None)) h).1 in
    named f.name (neither (word_rule f.name) (lower (type_rule info (field_target info.records f)) None) rest).0

abbrev number_of : Primitive → Enumerator → ℕ
number_of prim e = modulo_bytes (prim_bytes 8 prim) e.number

-- the name of a case that breaks no rule is a word
pub case_named : (prim : Primitive) (e : Enumerator) → case_rule prim e ≡ None → is_word e.name ≡ true
case_named prim e h =
    let rest = (neither (rule_if (not (nat_lt (number_of prim e) (2 ^ 64))) no_fit) (lower (word_rule e.name) None) h).1 in
    named e.name (neither (word_rule e.name) None rest).0

-- and its number has 64 bits
pub case_fits : (prim : Primitive) (e : Enumerator) → case_rule prim e ≡ None → nat_lt (number_of prim e) (2 ^ 64) ≡ true
case_fits prim e h =
    by_test (nat_lt (number_of prim e) (2 ^ 64)) (neither (rule_if (not (nat_lt (number_of prim e) (2 ^ 64))) no_fit) (lower (word_rule e.name) None) h).0

-- the fields of a structure break no rule, where it breaks none and is no fat pointer
pub fields_fit : (info : Info) (members : Members) (size : ℤ) (name : List ℕ) → structure_rule info members size name ≡ None → fat_pointer info.records name members ≡ None → fields_rule info members ≡ None
fields_fit info members size name h none =
    let rest = (neither (fit_rule (u32_of size)) (lower (fields_unless_fat info members (fat_pointer info.records name members)) None) h).1 in
    let fields = (neither (fields_unless_fat info members (fat_pointer info.records name members)) None rest).0 in
    subst (λ (o : Option Fat). fields_unless_fat info members o ≡ None) none fields
