-- The members that are fields.
use Rattle.std.proofs.Common.{◌≡◌, List, [], if◌then◌else◌, map, true, false, All, subst, sym, ap, ◌∙◌}
use Rattle.layout_set.specs.declared.set.Field.{Field}
use Rattle.dwarf_entries.specs.Dies.{Die, Info, children_of}
use Rattle.dwarf_entries.specs.Structures.{children_with, field_of, fields_of, has_part, is_member, members_of}
use Rattle.dwarf_dies.specs.Handles.{DieIn, beside}
use Rattle.dwarf_types.specs.Said.{HasFields, IsField}
use Rattle.dwarf_types.proofs.Lists.{AreLeftOf, children_first}

members_by : (info : Info) (d : Die) → has_part info d ≡ false → members_of info d ≡ children_with is_member info d
members_by info d h = ap (λ b. if b then [] else children_with is_member info d) h

-- none where there is a variant part
pub no_fields : (info : Info) (a : DieIn) → a.info ≡ info → has_part a.info a.die ≡ true → (fields : List Field) → fields ≡ [] → fields ≡ fields_of info a.die
no_fields info a here h fields none =
    none ∙ sym (ap (λ b. map (field_of info) (if b then [] else children_with is_member info a.die)) (ap (λ (i : Info). has_part i a.die) (sym here) ∙ h))

-- what was made so far, and what is to be made of the children that are left
abbrev pub AreFieldsLeft : Info → Die → List Field → List DieIn → Type 0
AreFieldsLeft info d so_far left = AreLeftOf is_member info (IsField info) (field_of info) so_far left (fields_of info d)

pub fields_first : (info : Info) (a : DieIn) → a.info ≡ info → has_part a.info a.die ≡ false → HasFields info a.die → (left : List DieIn) → left ≡ map (beside a) (children_of a.info a.die)
    → (so_far : List Field) → so_far ≡ [] → AreFieldsLeft info a.die so_far left
fields_first info a here h all left is so_far none =
    subst (λ (l : List Die). AreLeftOf is_member info (IsField info) (field_of info) so_far left (map (field_of info) l)) (sym members)
    (children_first is_member info (IsField info) (field_of info) a here (subst (All (IsField info)) members all) left is so_far none)
  where
    members : members_of info a.die ≡ children_with is_member info a.die
    members = members_by info a.die (ap (λ (i : Info). has_part i a.die) (sym here) ∙ h)
