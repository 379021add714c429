-- The structures to which the types of variants' members lead.
use Rattle.std.proofs.Common.{◌≡◌, ◌∙◌, Bool, true, false, if◌then◌else◌, Option, Some, None, option_map, refl, ap}
use Rattle.dwarf_entries.specs.Dies.{Die, Info, what}
use Rattle.dwarf_entries.specs.Enums.{variant_member, variant_structure}
use Rattle.dwarf_entries.specs.PassedOver.{is_structure}
use Rattle.dwarf_entries.specs.Tags.{passes}
use Rattle.dwarf_entries.specs.TypeLinks.{End as LinkEnd, type_end}
use Rattle.dwarf_dies.specs.Handles.{DieIn, among, beside}
use Rattle.dwarf_links.specs.declared.ends.End.{End}
use Rattle.dwarf_links.specs.Ends.{end_in}

abbrev there : Info → Bool → Die → Option DieIn
there info s d = option_map (among info) (if s then Some d else None)

-- the structure at an end
abbrev structure_at : Info → LinkEnd → Option DieIn
structure_at info (LinkEnd.reached d) = there info (passes is_structure (what d)) d
structure_at info _ = None

-- the same, as calls see the end
abbrev structure_seen : End → Option DieIn
structure_seen (End.Reached e) = if passes is_structure (what e.die) then Some e else None
structure_seen End.Nowhere = None
structure_seen End.Endless = None

either : (info : Info) (s : Bool) (d : Die) → (if s then Some (among info d) else None) ≡ there info s d
either info true d = refl
either info false d = refl

seen_is : (info : Info) (l : LinkEnd) → structure_seen (end_in info l) ≡ structure_at info l
seen_is info (LinkEnd.reached d) = either info (passes is_structure (what d)) d
seen_is info LinkEnd.nowhere = refl
seen_is info LinkEnd.endless = refl

abbrev seen_of : Option DieIn → Option DieIn
seen_of None = None
seen_of (Some m) = structure_seen (end_in m.info (type_end m.info m.die))

-- the structure of a variant is the one at the end of its member's link
pub structure_is : (a : DieIn) → seen_of (option_map (beside a) (variant_member a.info a.die)) ≡ option_map (beside a) (variant_structure a.info a.die)
structure_is a = by_member (variant_member a.info a.die) refl
  where
    by_end : (d : Die) (l : LinkEnd) → type_end a.info d ≡ l → variant_member a.info a.die ≡ Some d → structure_at a.info l ≡ option_map (beside a) (variant_structure a.info a.die)
    by_end d (LinkEnd.reached e) h g = rw g (rw h refl)
    by_end d LinkEnd.nowhere h g = rw g (rw h refl)
    by_end d LinkEnd.endless h g = rw g (rw h refl)

    by_member : (o : Option Die) → variant_member a.info a.die ≡ o → seen_of (option_map (beside a) o) ≡ option_map (beside a) (variant_structure a.info a.die)
    by_member None g = rw g refl
    by_member (Some d) g = seen_is a.info (type_end a.info d) ∙ by_end d (type_end a.info d) refl g

pub by_seen : (a m : DieIn) (e : End) → Some m ≡ option_map (beside a) (variant_member a.info a.die) → e ≡ end_in m.info (type_end m.info m.die)
    → structure_seen e ≡ option_map (beside a) (variant_structure a.info a.die)
by_seen a m e h g = ap structure_seen g ∙ ap seen_of h ∙ structure_is a

pub reached : (a m x : DieIn) → Some m ≡ option_map (beside a) (variant_member a.info a.die) → End.Reached x ≡ end_in m.info (type_end m.info m.die) → true ≡ passes is_structure (what x.die)
    → Some x ≡ option_map (beside a) (variant_structure a.info a.die)
reached a m x h g s = ap (λ (b : Bool). if b then Some x else None) s ∙ by_seen a m (End.Reached x) h g

pub other : (a m x : DieIn) → Some m ≡ option_map (beside a) (variant_member a.info a.die) → End.Reached x ≡ end_in m.info (type_end m.info m.die) → false ≡ passes is_structure (what x.die)
    → None ≡ option_map (beside a) (variant_structure a.info a.die)
other a m x h g s = ap (λ (b : Bool). if b then Some x else None) s ∙ by_seen a m (End.Reached x) h g
