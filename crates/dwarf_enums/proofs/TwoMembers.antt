-- What the structures of variants leave unsaid as fat pointers.
use Rattle.std.proofs.Common.{◌≡◌, ◌∙◌, ◌&&◌, ℕ, Bool, true, false, if◌then◌else◌, List, [], ◌∷◌, length, map, bytes_eq, codes, is_some, suc, Option, Some, None, refl, sym, ap}
use Rattle.layout_set.specs.NameShapes.{fat_of}
use Rattle.layout_set.specs.declared.set.TypeDef.{TypeDef}
use Rattle.layout_set.specs.declared.shapes.FatContent.{FatContent}
use Rattle.names.specs.declared.name.Name.{Name}
use Rattle.names.specs.declared.name.PtrKind.{PtrKind}
use Rattle.dwarf_entries.specs.Dies.{Die, Info}
use Rattle.dwarf_entries.specs.EnumRules.{length_rule}
use Rattle.dwarf_entries.specs.Items.{lowest}
use Rattle.dwarf_entries.specs.Names.{name_of}
use Rattle.dwarf_entries.specs.Pointers.{fat_pair, fat_pointer}
use Rattle.dwarf_entries.specs.Structures.{members_of}
use Rattle.dwarf_entries.specs.Texts.{own_text}
use Rattle.dwarf_entries.specs.TypeLinks.{typed_rule}
use Rattle.dwarf_dies.specs.Handles.{DieIn, beside}

-- the rule that the type of a member breaks, where this test and its name say that it is a length
abbrev rule_where : Info → Bool → Die → Option ℕ
rule_where info fat m = if fat && bytes_eq (own_text info m) (codes "length") then typed_rule info m else None

-- the same, by its name alone
abbrev pub rule_named : Info → Die → Option ℕ
rule_named info m = if bytes_eq (own_text info m) (codes "length") then typed_rule info m else None

none_there : (info : Info) (fat : Bool) (l : List Die) → fat ≡ false → lowest (map (rule_where info fat) l) ≡ None
none_there info fat [] h = refl
none_there info false (m ∷ l) h = none_there info false l h
none_there info true (m ∷ l) h = absurd (cc)

-- a structure that is no fat pointer has no length
pub no_length : (info : Info) (d : Die) → is_some (fat_pointer info d) ≡ false → length_rule info (Some d) ≡ None
no_length info d h = none_there info (is_some (fat_pointer info d)) (members_of info d) h

-- a fat pointer has two members
pub length_of_two : (info : Info) (d x y : Die) → is_some (fat_pointer info d) ≡ true → members_of info d ≡ x ∷ y ∷ []
    → lowest (rule_named info x ∷ rule_named info y ∷ []) ≡ length_rule info (Some d)
length_of_two info d x y h g =
    sym (ap (λ b. lowest (map (rule_where info b) (members_of info d))) h ∙ ap (λ (l : List Die). lowest (map (rule_where info true) l)) g)

abbrev fat_with : Info → Name → Option (PtrKind × FatContent) → List Die → Option TypeDef
fat_with info name (Some fat) (a ∷ b ∷ []) = fat_pair info name fat.0 fat.1 a b
fat_with info name _ _ = None

two_by : (info : Info) (name : Name) (o : Option (PtrKind × FatContent)) (l : List Die) → is_some (fat_with info name o l) ≡ true → length l ≡ 2
two_by info name None [] h = absurd (cc)
two_by info name None (a ∷ []) h = absurd (cc)
two_by info name None (a ∷ b ∷ []) h = refl
two_by info name None (a ∷ b ∷ c ∷ l) h = absurd (cc)
two_by info name (Some fat) [] h = absurd (cc)
two_by info name (Some fat) (a ∷ []) h = absurd (cc)
two_by info name (Some fat) (a ∷ b ∷ []) h = refl
two_by info name (Some fat) (a ∷ b ∷ c ∷ l) h = absurd (cc)

are_two : (info : Info) (d : Die) → is_some (fat_pointer info d) ≡ true → length (members_of info d) ≡ 2
are_two info d h = two_by info (name_of info d) (fat_of (name_of info d)) (members_of info d) h

as_many : (a : DieIn) (l : List Die) → length (map (beside a) l) ≡ length l
as_many a [] = refl
as_many a (d ∷ l) = ap (λ n. suc n) (as_many a l)

pub two_seen : (info : Info) (a : DieIn) (s : List DieIn) → a.info ≡ info → s ≡ map (beside a) (members_of a.info a.die) → is_some (fat_pointer info a.die) ≡ true → length s ≡ 2
two_seen info a s here is fat =
    ap (λ (l : List DieIn). length l) is ∙ as_many a (members_of a.info a.die) ∙ ap (λ (i : Info). length (members_of i a.die)) here ∙ are_two info a.die fat
