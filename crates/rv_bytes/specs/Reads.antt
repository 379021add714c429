-- What a reading call takes, and why it refuses.
use Rattle.std.specs.Prelude.{◌≡◌, ◌+◌, ℕ, List, ◌++◌, length}
use Rattle.rv_bytes.specs.Places.{Place}
use Rattle.rv_bytes.specs.Rules.{short, wide, no_zero, unknown_leaf, no_text}
use Rattle.rv_bytes.specs.Forms.{Form}
use Rattle.rv_bytes.specs.declared.err.CutErr.{CutErr}
use Rattle.rv_bytes.specs.declared.err.CutErr.TheVariants.{Short, Wide, NoZero, Kind, NoText}
use Rattle.rv_bytes.specs.declared.err.DwErr.{DwErr}

-- from the old place on the bytes are a spelling of the value, and the new place is just past it
pub record Takes {A : Type 0} (F : Form ℕ A) (old new : Place) (v : A) : Type 0 where
  pub spelling : List ℕ
  pub spells : F.spells old.at v spelling
  pub bytes : old.rest ≡ spelling ++ new.rest
  pub past : new.at ≡ old.at + length spelling

-- the rule that is broken
abbrev pub rule_of : CutErr → ℕ
rule_of (Short at) = short
rule_of (Wide at) = wide
rule_of (NoZero at) = no_zero
rule_of (Kind at) = unknown_leaf
rule_of (NoText at) = no_text

-- the place where the invalid item begins
abbrev pub place_of : CutErr → ℕ
place_of (Short at) = at
place_of (Wide at) = at
place_of (NoZero at) = at
place_of (Kind at) = at
place_of (NoText at) = at

-- what is first invalid from the old place on breaks this rule, and stands there
abbrev pub IsRefused : {A : Type 0} → Form ℕ A → Place → CutErr → Type 0
IsRefused F old e = F.faults old.at old.rest (rule_of e) (place_of e)

-- the same for debug information; out of memory says nothing of the bytes
abbrev pub IsRefusedBy : {A : Type 0} → Form ℕ A → Place → DwErr → Type 0
IsRefusedBy F old (DwErr.Refused offset rule) = F.faults old.at old.rest rule offset
IsRefusedBy F old DwErr.Memory = Unit {0}

-- the refusal of debug information that an invalid item is
abbrev pub refusal : CutErr → DwErr
refusal e = DwErr.Refused (place_of e) (rule_of e)

-- the same rule, broken by the item at this place
abbrev pub IsSameRule : CutErr → ℕ → CutErr → Type 0
IsSameRule e at d = (rule_of d ≡ rule_of e) × (place_of d ≡ at)
