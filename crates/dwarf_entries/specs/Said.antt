-- The set that the entries of `.debug_info` say, and the first rule that they break.
use Rattle.std.specs.Prelude.{◌≡◌, ◌+◌, ℕ, List, [], ◌++◌, map, filter, slice_get, Some, ◌⊎◌}
use Rattle.rv_bytes.specs.Forms.{Form}
use Rattle.rv_bytes.specs.Meanings.{Meaning, Says, IsOutside}
use Rattle.layout_set.specs.FirstBreach.{IsFirstBreach}
use Rattle.layout_set.specs.Laws.{IsSound, sound_laws}
use Rattle.layout_set.specs.declared.breach.Item.TheVariants.{Def}
use Rattle.layout_set.specs.declared.set.Set.{Set}
use Rattle.dwarf_entries.specs.Dies.{Die, Info, info_of}
use Rattle.dwarf_entries.specs.Items.{Item, Spot, first_fault, in_info}
use Rattle.dwarf_entries.specs.PassB.{pass_b}
use Rattle.dwarf_entries.specs.PassC.{pass_c}
use Rattle.dwarf_entries.specs.Rules.{first_law}
use Rattle.dwarf_entries.specs.Shapes.{DwarfUnit, Sections}
use Rattle.dwarf_entries.specs.Statics.{is_static, static_of}
use Rattle.dwarf_entries.specs.TypeLinks.{is_type_of_set}
use Rattle.dwarf_entries.specs.Types.{type_def}

-- the entries that are types of the set, in order
abbrev pub type_dies : Info → List Die
type_dies info = filter (is_type_of_set info) info.dies

-- what is said: a set, and where the entry of each of its types begins
pub record Said : Type 0 where
  pub set : Set
  pub offsets : List ℕ

-- the types and the statics, each in the order of its entries
abbrev pub set_of : Info → Set
set_of info = record {
  target = record { ptr = 8 };
  types = map (type_def info) (type_dies info);
  statics = map (static_of info) (filter (is_static info) info.dies);
  funcs = [];
}

abbrev pub said : Info → Said
said info = record { set = set_of info; offsets = map (λ d. d.entry.offset) (type_dies info) }

-- all items: those of attributes, entry by entry, and then those of what entries say
abbrev pub items : Info → List Item
items info = pass_b info ++ pass_c info

-- the meaning of `.debug_info`, whose units are split by this form
abbrev pub entries_meaning : Sections → Form Spot (List DwarfUnit) → Meaning Spot (List DwarfUnit) Said
entries_meaning sections units = record {
  form = units;
  fault = λ us. first_fault (items (info_of sections us));
  said = λ us. said (info_of sections us);
}

-- `.debug_info` splits into units, no item of these breaks a rule, and this is what they say
abbrev pub SaysSet : Sections → Form Spot (List DwarfUnit) → Said → Type 0
SaysSet sections units s = Says (entries_meaning sections units) sections.info s

-- The sections describe the set: it is what they say, and it is sound.
pub record Describes (sections : Sections) (units : Form Spot (List DwarfUnit)) (set : Set) : Type 0 where
  pub said : Said
  pub says : SaysSet sections units said
  pub sound : IsSound said.set
  pub is : set ≡ said.set

-- the set that is said isn't sound: this is the first law that fails, at a type, and where that type's entry begins
pub record IsUnsound (said : Said) (rule : ℕ) (spot : Spot) : Type 0 where
  pub law : ℕ
  pub place : ℕ
  pub offset : ℕ
  pub breach : IsFirstBreach said.set (sound_laws said.set) law (Def place)
  pub entry : slice_get said.offsets place ≡ Some offset
  pub rule_is : rule ≡ first_law + law
  pub spot_is : spot ≡ in_info offset

-- The first rule that is broken, and where: the bytes don't split, or an item breaks a rule, or what is said isn't sound.
abbrev pub IsRefusedAt : Sections → Form Spot (List DwarfUnit) → ℕ → Spot → Type 0
IsRefusedAt sections units rule spot =
    IsOutside (entries_meaning sections units) sections.info rule spot
    ⊎ ((s : Said) × (SaysSet sections units s × IsUnsound s rule spot))

-- sections describe at most one set, have at most one first error, and never both
pub record HasOneDescription (sections : Sections) (units : Form Spot (List DwarfUnit)) : Type 0 where
  pub one_set : (a b : Set) → Describes sections units a → Describes sections units b → a ≡ b
  pub one_error : (r q : ℕ) (s t : Spot) → IsRefusedAt sections units r s → IsRefusedAt sections units q t → (r ≡ q) × (s ≡ t)
  pub never_both : (set : Set) (r : ℕ) (s : Spot) → Describes sections units set → IsRefusedAt sections units r s → ⊥
