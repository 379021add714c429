-- Where links lead, step by step.
use Rattle.std.proofs.Common.{◌≡◌, ◌-◌, ℕ, zero, suc, if◌then◌else◌, Bool, true, false, Option, Some, None, refl, sym, ap, ◌∙◌, arith}
use Rattle.std.specs.Option.{option_map}
use Rattle.dwarf_entries.specs.Codes.{at_type}
use Rattle.dwarf_entries.specs.Dies.{Die, Info, linked, what}
use Rattle.dwarf_entries.specs.PassedOver.{is_passed}
use Rattle.dwarf_entries.specs.Tags.{passes}
use Rattle.dwarf_entries.specs.TypeLinks.{End as LinkEnd, end_within}
use Rattle.dwarf_entries.specs.declared.tag.Tag.{Tag}
use Rattle.dwarf_dies.specs.Handles.{DieIn, among, beside}
use Rattle.dwarf_scopes.specs.Tags.{is_typedef}
use Rattle.dwarf_links.specs.Ends.{end_in}
use Rattle.dwarf_links.specs.declared.ends.End.{End}

-- where the way leads that is at this place, where so many typedefs may follow
abbrev pub end_from : ℕ → Option DieIn → End
end_from left None = End.Nowhere
end_from left (Some a) = end_in a.info (end_within left a.info (Some a.die))

pub from_link : (left : ℕ) (info : Info) (o : Option Die) → end_from left (option_map (among info) o) ≡ end_in info (end_within left info o)
from_link left info None = refl
from_link left info (Some d) = refl

same_tests : (f g : Tag → Bool) → ((t : Tag) → f t ≡ g t) → (o : Option Tag) → passes f o ≡ passes g o
same_tests f g same None = refl
same_tests f g same (Some t) = same t

abbrev by_tests : Die → LinkEnd → Bool → Bool → LinkEnd
by_tests d more p t = if p then LinkEnd.nowhere else if t then more else LinkEnd.reached d

-- what comes after a typedef, where so many may follow
abbrev after : ℕ → Info → Die → LinkEnd
after zero info d = LinkEnd.endless
after (suc left) info d = end_within left info (linked info at_type d)

a_step : (info : Info) (left : ℕ) (d : Die) → end_within left info (Some d) ≡ by_tests d (after left info d) (is_passed info d) (passes is_typedef (what d))
a_step info zero d = ap (λ b. if is_passed info d then LinkEnd.nowhere else if b then LinkEnd.endless else LinkEnd.reached d) (same_tests _ is_typedef (λ t. grind arith) (what d))
a_step info (suc left) d = ap (λ b. if is_passed info d then LinkEnd.nowhere else if b then end_within left info (linked info at_type d) else LinkEnd.reached d) (same_tests _ is_typedef (λ t. grind arith) (what d))

-- the end where an entry is passed over
pub at_passed : (left : ℕ) (a : DieIn) → is_passed a.info a.die ≡ true → end_from left (Some a) ≡ End.Nowhere
at_passed left a h = ap (end_in a.info) (a_step a.info left a.die ∙ ap (λ b. by_tests a.die (after left a.info a.die) b (passes is_typedef (what a.die))) h)

-- where it is no typedef
pub at_other : (left : ℕ) (a : DieIn) → is_passed a.info a.die ≡ false → passes is_typedef (what a.die) ≡ false → end_from left (Some a) ≡ End.Reached a
at_other left a h g =
    ap (end_in a.info) (a_step a.info left a.die ∙ ap (λ b. by_tests a.die (after left a.info a.die) b (passes is_typedef (what a.die))) h
    ∙ ap (λ b. by_tests a.die (after left a.info a.die) false b) g)

at_typedef : (left : ℕ) (a : DieIn) → is_passed a.info a.die ≡ false → passes is_typedef (what a.die) ≡ true → end_from left (Some a) ≡ end_in a.info (after left a.info a.die)
at_typedef left a h g =
    ap (end_in a.info) (a_step a.info left a.die ∙ ap (λ b. by_tests a.die (after left a.info a.die) b (passes is_typedef (what a.die))) h
    ∙ ap (λ b. by_tests a.die (after left a.info a.die) false b) g)

-- where no typedef may follow
pub at_last : (left : ℕ) (a : DieIn) → left ≡ 0 → is_passed a.info a.die ≡ false → passes is_typedef (what a.die) ≡ true → end_from left (Some a) ≡ End.Endless
at_last left a z h g = at_typedef left a h g ∙ ap (λ (n : ℕ). end_in a.info (after n a.info a.die)) z

-- the way goes on where the link of a typedef leads
pub next_step : (left : ℕ) (a : DieIn) → (left ≡ 0 → ⊥) → is_passed a.info a.die ≡ false → passes is_typedef (what a.die) ≡ true
    → end_from left (Some a) ≡ end_from (left - 1) (option_map (beside a) (linked a.info at_type a.die))
next_step left a z h g =
    at_typedef left a h g ∙ ap (λ (n : ℕ). end_in a.info (after n a.info a.die)) (let e : left ≡ suc (left - 1) = omega (arith, z) in e)
    ∙ sym (from_link (left - 1) a.info (linked a.info at_type a.die))
