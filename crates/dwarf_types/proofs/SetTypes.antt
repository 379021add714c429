-- The types of the set, where no item of any entry breaks a rule.
use Rattle.std.proofs.Common.{◌≡◌, ◌<◌, ◌^◌, List, [], ◌∷◌, map, filter, cond, Bool, true, false, Option, Some, None, unwrap_or, refl, sym, ap, subst, ◌∙◌, arith}
use Rattle.std.proofs.lemmas.List.Elements.{filter_passes}
use Rattle.layout_set.specs.declared.set.TypeDef.{TypeDef}
use Rattle.dwarf_entries.specs.Dies.{Die, Info, what}
use Rattle.dwarf_entries.specs.Names.{name_of}
use Rattle.dwarf_entries.specs.Pointers.{pointer_def}
use Rattle.dwarf_entries.specs.Said.{type_dies}
use Rattle.dwarf_entries.specs.Tags.{is_numbered, passes}
use Rattle.dwarf_entries.specs.TypeLinks.{is_type_of_set, or_unit, type_of}
use Rattle.dwarf_entries.specs.Types.{alignment_of, count_of, enumeration_def, size_of, structure_def, type_def}
use Rattle.dwarf_entries.specs.declared.tag.Tag.{Tag}
use Rattle.dwarf_dies.specs.Handles.{DieIn, IsFound, among, no_die}
use Rattle.dwarf_dies.specs.Laws.{AreLinked}
use Rattle.dwarf_laws.specs.Unbroken.{BreaksNone, IsOf}
use Rattle.dwarf_types.specs.Said.{HasCases, IsSized, IsStructure}
use Rattle.dwarf_types.proofs.Lists.{AreLeft, at_first}
use Rattle.dwarf_types.proofs.Looks.{AreGood, IsShown, cases_are, count_is, good, sized}
use Rattle.dwarf_types.proofs.Parts.{set_type, structure_good}

-- an entry of these that is a type of the set
pub record IsType (info : Info) (a : DieIn) : Type 0 where
  pub here : a.info ≡ info
  pub found : IsFound a
  pub unbroken : BreaksNone info
  pub of_set : is_type_of_set info a.die ≡ true

all_good : (info : Info) (a : DieIn) → IsType info a → AreGood info
all_good info a t = good info (subst AreLinked t.here t.found.laws) t.unbroken

shown : (info : Info) (a : DieIn) → IsType info a → (tag : Tag) → what a.die ≡ Some tag → IsShown info tag a.die
shown info a t tag is = record {
  is_of = subst (λ (i : Info). IsOf i a.die) t.here (a.die.entry.number, t.found.found);
  shown = (set_type info a.die t.of_set).shown;
  tag_is = is;
}

pub is_structure : (info : Info) (a : DieIn) → IsType info a → what a.die ≡ Some Tag.StructureType → IsStructure info a.die
is_structure info a t is = structure_good info (all_good info a t) a.die (shown info a t Tag.StructureType is) (set_type info a.die t.of_set).outer

pub has_cases : (info : Info) (a : DieIn) → IsType info a → what a.die ≡ Some Tag.EnumerationType → HasCases a.info a.die
has_cases info a t is = subst (λ (i : Info). HasCases i a.die) (sym t.here) (cases_are info (all_good info a t) a.die (shown info a t Tag.EnumerationType is))

pub has_count : (info : Info) (a : DieIn) → IsType info a → what a.die ≡ Some Tag.ArrayType → unwrap_or (count_of info a.die) 0 < 2 ^ 64
has_count info a t is = count_is info (all_good info a t) a.die (shown info a t Tag.ArrayType is)

-- the tags that say more than a size
abbrev pub is_said_otherwise : Tag → Bool
is_said_otherwise Tag.StructureType = true
is_said_otherwise Tag.PointerType = true
is_said_otherwise Tag.ArrayType = true
is_said_otherwise Tag.EnumerationType = true
is_said_otherwise _ = false

union_by : (t : Tag) → is_numbered t ≡ true → is_said_otherwise t ≡ false → t ≡ Tag.UnionType
union_by t h g = grind (arith, h, g)

-- of the types of the set only a union says no more
pub union_is : (info : Info) (a : DieIn) → IsType info a → passes is_said_otherwise (what a.die) ≡ false → what a.die ≡ Some Tag.UnionType
union_is info a t h = by_tag (what a.die) (set_type info a.die t.of_set).numbered h
  where
    by_tag : (o : Option Tag) → passes is_numbered o ≡ true → passes is_said_otherwise o ≡ false → o ≡ Some Tag.UnionType
    by_tag None n g = absurd (cc)
    by_tag (Some x) n g = ap (λ (y : Tag). Some y) (union_by x n g)

pub has_size : (info : Info) (a : DieIn) → IsType info a → passes is_said_otherwise (what a.die) ≡ false → IsSized a.die
has_size info a t h = sized info (all_good info a t) a.die Tag.UnionType (shown info a t Tag.UnionType (union_is info a t h)) refl refl refl refl

-- the type by its tag
abbrev pub def_by : Info → Die → Option Tag → TypeDef
def_by info d (Some Tag.StructureType) = structure_def info d
def_by info d (Some Tag.PointerType) = pointer_def info d
def_by info d (Some Tag.ArrayType) = TypeDef.Array (or_unit (type_of info d)) (unwrap_or (count_of info d) 0)
def_by info d (Some Tag.EnumerationType) = enumeration_def info d
def_by info d _ = TypeDef.Bytes (name_of info d) (size_of d) (alignment_of d)

pub def_is : (info : Info) (d : Die) (tag : Tag) → what d ≡ Some tag → def_by info d (Some tag) ≡ type_def info d
def_is info d tag is = sym (ap (def_by info d) is)

-- the types of the set among entries that are left
abbrev pub still : List DieIn → List DieIn
still l = filter (λ (c : DieIn). is_type_of_set c.info c.die) l

abbrev pub OfSet : Info → Die → Type 0
OfSet info d = is_type_of_set info d ≡ true

one_still : (info : Info) (d : Die) (l : List Die) → still (map (among info) l) ≡ map (among info) (filter (is_type_of_set info) l) → (b : Bool)
    → cond b (among info d ∷ still (map (among info) l)) (still (map (among info) l)) ≡ map (among info) (cond b (d ∷ filter (is_type_of_set info) l) (filter (is_type_of_set info) l))
one_still info d l rest true = ap (λ (m : List DieIn). among info d ∷ m) rest
one_still info d l rest false = rest

all_still : (info : Info) (l : List Die) → still (map (among info) l) ≡ map (among info) (filter (is_type_of_set info) l)
all_still info [] = refl
all_still info (d ∷ l) = one_still info d l (all_still info l) (is_type_of_set info d)

-- what was made so far, and what is to be made of the types that are left
abbrev pub AreTypesLeft : Info → List TypeDef → List DieIn → Type 0
AreTypesLeft info so_far left = AreLeft info (OfSet info) (type_def info) so_far (still left) (map (type_def info) (type_dies info))

pub none_yet : (info : Info) (left : List DieIn) → left ≡ map (among info) info.dies → (so_far : List TypeDef) → so_far ≡ [] → AreTypesLeft info so_far left
none_yet info left is so_far none =
    at_first info (OfSet info) (type_def info) (among info no_die) refl (type_dies info) (filter_passes (is_type_of_set info) info.dies) (still left)
    (ap still is ∙ all_still info info.dies) so_far none

abbrev pub with_left : Info → List TypeDef → List DieIn → Type 0
with_left info so_far left = AreLeft info (OfSet info) (type_def info) so_far left (map (type_def info) (type_dies info))

pub type_next : (info : Info) (so_far : List TypeDef) (c : DieIn) (left : List DieIn) → AreTypesLeft info so_far (c ∷ left) → is_type_of_set c.info c.die ≡ true → with_left info so_far (c ∷ still left)
type_next info so_far c left h is = subst (with_left info so_far) (ap (λ b. cond b (c ∷ still left) (still left)) is) h

pub no_type_next : (info : Info) (so_far : List TypeDef) (c : DieIn) (left : List DieIn) → AreTypesLeft info so_far (c ∷ left) → is_type_of_set c.info c.die ≡ false → AreTypesLeft info so_far left
no_type_next info so_far c left h other = subst (with_left info so_far) (ap (λ b. cond b (c ∷ still left) (still left)) other) h
