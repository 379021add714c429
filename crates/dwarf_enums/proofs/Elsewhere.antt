-- What is said of the ends at which the links of members arrive.
use Rattle.std.proofs.Common.{◌≡◌, ◌∙◌, ◌&&◌, ℕ, Bool, true, false, if◌then◌else◌, not, is_some, Option, Some, None, sym, ap}
use Rattle.dwarf_entries.specs.Codes.{at_type}
use Rattle.dwarf_entries.specs.Dies.{Die, Info, what}
use Rattle.dwarf_entries.specs.EnumRules.{structure_rule}
use Rattle.dwarf_entries.specs.Lookups.{has}
use Rattle.dwarf_entries.specs.PassedOver.{is_structure}
use Rattle.dwarf_entries.specs.Rules.{missing}
use Rattle.dwarf_entries.specs.Tags.{passes}
use Rattle.dwarf_entries.specs.TypeLinks.{End as LinkEnd, end_rule, type_at, type_end, type_rule}
use Rattle.dwarf_dies.specs.Handles.{DieIn}
use Rattle.dwarf_links.specs.declared.ends.End.{End}
use Rattle.dwarf_links.specs.Ends.{end_in}
use Rattle.dwarf_links.proofs.TypeRules.{reached_is, nowhere_is, endless_is}
use Rattle.dwarf_pointers.proofs.Links.{at_reached, at_nowhere, at_endless}
use Rattle.dwarf_enums.specs.Shapes.{is_other_type, leads_elsewhere}

-- a member whose type is this entry leads elsewhere
other_there : (info : Info) (m : Die) (e : DieIn) (s : Bool) → End.Reached e ≡ end_in info (type_end info m) → s ≡ passes is_structure (what e.die)
    → (not s && is_some (type_at info e.die (what e.die))) ≡ leads_elsewhere info m
other_there info m e s h g = ap (λ b. not b && is_some (type_at info e.die (what e.die))) g ∙ sym (ap (is_other_type info) (reached_is info (type_end info m) e h).is)

pub elsewhere : (info : Info) (m : Die) (e : DieIn) (s n : Bool) → End.Reached e ≡ end_in info (type_end info m) → s ≡ passes is_structure (what e.die) → s ≡ false
    → n ≡ is_some (type_at info e.die (what e.die)) → n ≡ leads_elsewhere info m
elsewhere info m e true n h g off is = absurd (cc)
elsewhere info m e false n h g off is = is ∙ other_there info m e false h g

pub not_elsewhere : (info : Info) (m : Die) (e : DieIn) → End.Reached e ≡ end_in info (type_end info m) → true ≡ passes is_structure (what e.die) → false ≡ leads_elsewhere info m
not_elsewhere info m e h g = other_there info m e true h g

pub nowhere : (info : Info) (m : Die) → End.Nowhere ≡ end_in info (type_end info m) → false ≡ leads_elsewhere info m
nowhere info m h = sym (ap (is_other_type info) (nowhere_is info (type_end info m) h))

pub endless : (info : Info) (m : Die) → End.Endless ≡ end_in info (type_end info m) → false ≡ leads_elsewhere info m
endless info m h = sym (ap (is_other_type info) (endless_is info (type_end info m) h))

-- the rule of a variant's member, by the end of its link
abbrev structure_or_type : Info → LinkEnd → Option ℕ
structure_or_type info (LinkEnd.reached d) = if passes is_structure (what d) then None else end_rule info (LinkEnd.reached d)
structure_or_type info e = end_rule info e

typed : (info : Info) (m : Die) → has at_type m.entry ≡ true → structure_or_type info (type_end info m) ≡ structure_rule info m
typed info m h = sym (ap (λ b. if b then structure_or_type info (type_end info m) else Some missing) h)

-- a member may lead to a structure
pub structure_reached : (info : Info) (m : Die) (e : DieIn) → has at_type m.entry ≡ true → End.Reached e ≡ end_in info (type_end info m) → passes is_structure (what e.die) ≡ true
    → None ≡ structure_rule info m
structure_reached info m e t h s = sym (ap (λ b. if b then None else end_rule info (LinkEnd.reached e.die)) s) ∙ at_reached (structure_or_type info) info e (type_end info m) h ∙ typed info m t

-- and else to what any link leads to
pub other_reached : (info : Info) (m : Die) (e : DieIn) → has at_type m.entry ≡ true → End.Reached e ≡ end_in info (type_end info m) → passes is_structure (what e.die) ≡ false
    → type_rule info m ≡ structure_rule info m
other_reached info m e t h s =
    sym (ap (λ b. if b then None else end_rule info (LinkEnd.reached e.die)) s ∙ at_reached (end_rule info) info e (type_end info m) h)
    ∙ at_reached (structure_or_type info) info e (type_end info m) h ∙ typed info m t

pub none_reached : (info : Info) (m : Die) → has at_type m.entry ≡ true → End.Nowhere ≡ end_in info (type_end info m) → type_rule info m ≡ structure_rule info m
none_reached info m t h = sym (at_nowhere (end_rule info) info (type_end info m) h) ∙ at_nowhere (structure_or_type info) info (type_end info m) h ∙ typed info m t

pub none_ends : (info : Info) (m : Die) → has at_type m.entry ≡ true → End.Endless ≡ end_in info (type_end info m) → type_rule info m ≡ structure_rule info m
none_ends info m t h = sym (at_endless (end_rule info) info (type_end info m) h) ∙ at_endless (structure_or_type info) info (type_end info m) h ∙ typed info m t
