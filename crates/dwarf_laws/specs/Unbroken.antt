-- What holds of entries where no item breaks a rule.
use Rattle.std.specs.Prelude.{◌≡◌, ◌<◌, ◌^◌, ◌==◌, ◌&&◌, ℕ, Bool, true, false, slice_get, Some, None, unwrap_or}
use Rattle.dwarf_entries.specs.Codes.{at_name}
use Rattle.dwarf_entries.specs.Dies.{Die, Info, parent_of, what}
use Rattle.dwarf_entries.specs.Items.{first_fault}
use Rattle.dwarf_entries.specs.Lookups.{has, number_of}
use Rattle.dwarf_entries.specs.NameRoles.{Role, is_beside_part, role_of}
use Rattle.dwarf_entries.specs.Names.{is_word}
use Rattle.dwarf_entries.specs.PassB.{row_class}
use Rattle.dwarf_entries.specs.PassC.{entry_rule}
use Rattle.dwarf_entries.specs.PassedOver.{is_function, is_passed, is_read, is_union}
use Rattle.dwarf_entries.specs.Said.{items}
use Rattle.dwarf_entries.specs.Structures.{is_member}
use Rattle.dwarf_entries.specs.Tags.{passes}
use Rattle.dwarf_entries.specs.Texts.{own_text}
use Rattle.dwarf_entries.specs.declared.class.Class.{Class}
use Rattle.dwarf_entries.specs.declared.tag.Tag.{Tag}

-- the entry is one of these
abbrev pub IsOf : Info → Die → Type 0
IsOf info d = (n : ℕ) × (slice_get info.dies n ≡ Some d)

-- the attributes of the entry are looked at
pub record IsLookedAt (info : Info) (d : Die) : Type 0 where
  pub is_of : IsOf info d
  pub read : is_read info d ≡ true
  pub member : (passes is_member (what d) && is_beside_part info d) ≡ false
  pub no_function : passes is_function (what d) ≡ false

-- no item of the entries breaks a rule
abbrev pub BreaksNone : Info → Type 0
BreaksNone info = first_fault (items info) ≡ None

-- the tags of entries that say what the entry around them is
abbrev pub is_of_its_parent : Tag → Bool
is_of_its_parent Tag.Member = true
is_of_its_parent Tag.TemplateTypeParameter = true
is_of_its_parent Tag.VariantPart = true
is_of_its_parent Tag.Variant = true
is_of_its_parent Tag.Enumerator = true
is_of_its_parent Tag.SubrangeType = true
is_of_its_parent _ = false

-- where no item breaks a rule: a name that must be a word is one, a size is below 2^32 and a count below 2^64, and no entry breaks a
-- rule by what it says; and what says of an entry that isn't passed over what it is, is read
pub record AreUnbroken (info : Info) : Type 0 where
  pub words : (d : Die) → IsLookedAt info d → role_of info d ≡ Role.word → row_class at_name (what d) ≡ Some Class.Text → has at_name d.entry ≡ true → is_word (own_text info d) ≡ true
  pub sizes : (d : Die) → IsLookedAt info d → (code : ℕ) → (code == at_name) ≡ false → row_class code (what d) ≡ Some Class.Size → unwrap_or (number_of code d.entry) 0 < 2 ^ 32
  pub counts : (d : Die) → IsLookedAt info d → (code : ℕ) → (code == at_name) ≡ false → row_class code (what d) ≡ Some Class.Count → unwrap_or (number_of code d.entry) 0 < 2 ^ 64
  pub rules : (d : Die) → IsOf info d → entry_rule info d ≡ None

-- what says of an entry what it is isn't passed over, and is read, where that entry isn't passed over and is no union
abbrev pub AreReadWithParents : Info → Type 0
AreReadWithParents info =
    (d c : Die) → parent_of c ≡ Some d → is_passed info d ≡ false → passes is_union (what d) ≡ false → passes is_of_its_parent (what c) ≡ true
    → (is_passed info c ≡ false) × (is_read info c ≡ true)
