-- The part that CodeView carries of a lawful set shows the same.
use Rattle.std.proofs.Common.{◌≡◌, sym, subst, ℕ, ◌↔◌, map, Option, Some, None}
use Rattle.snapshot_file.specs.Memory.{items_at}
use Rattle.layout_values.specs.declared.outcome.Outcome.{Outcome}
use Rattle.layout_set.specs.declared.set.Set.{Set}
use Rattle.layout_set.specs.declared.set.TypeRef.{TypeRef}
use Rattle.layout_carried.specs.Carried.{carried_ref, carried_type, carried}
use Rattle.layout_values.specs.Contexts.{Items, Context, context_of}
use Rattle.layout_set.specs.FirstBreach.{Holds}
use Rattle.layout_set.specs.Law13.{Law13}
use Rattle.layout_set.specs.Law3.{Law3}
use Rattle.layout_set.specs.Laws.{IsLawful, sound_laws, further_laws}
use Rattle.layout_values.specs.Places.{place_of}
use Rattle.layout_values.specs.Shown.{IsShownAt, IsShownIn}
use Rattle.layout_carried.specs.ShowsSame.{ShowsSame}
use Rattle.layout_set.specs.Sizes.{size}
use Rattle.layout_set.proofs.SizeSteps.{pointer_size}
use Rattle.layout_carried.proofs.SameOutcomes.{same_outcome}
use Rattle.layout_carried.proofs.SamePlaces.{same_place, no_place}
use Rattle.layout_carried.proofs.SameTypes.{same_size}
use Rattle.layout_carried.proofs.SameWalks.{over}

flip : {A B : Type 0} → A ↔ B → B ↔ A
flip e = (e.1, e.0)

module _ (c : Context) (is : c.ptr ≡ 8) where
  shown_at : (depth : ℕ) (ty : TypeRef) (addr : Option ℕ) (o : Outcome) → IsShownAt c depth ty addr o ↔ IsShownAt (over c) depth (carried_ref c.ptr ty) addr o
  shown_at depth ty None o = (λ h. h, λ h. h)
  shown_at depth ty (Some at) o = rw (same_size c.ptr is c.types ty) (flip (same_outcome c is depth ty (items_at c.memory at (size c.ptr c.types ty)) o))

  shown_in : (depth : ℕ) (ty : TypeRef) (part : Option Items) (o : Outcome)
      → IsShownIn c depth ty part o ↔ IsShownIn (over c) depth (carried_ref c.ptr ty) part o
  shown_in depth ty None o = (λ h. h, λ h. h)
  shown_in depth ty (Some p) o = flip (same_outcome c is depth ty p o)

law_3 : (set : Set) → IsLawful set → Holds set (Law3 set)
unfolding sound_laws further_laws
law_3 set lawful = lawful 3

law_13 : (set : Set) → IsLawful set → Holds set (Law13 set)
unfolding sound_laws further_laws
law_13 set lawful = lawful 13

carried_shows : (set : Set) → IsLawful set → ShowsSame set (carried set)
carried_shows set lawful =
    let p = set.target.ptr in
    let is : set.target.ptr ≡ 8 = pointer_size set (law_3 set lawful) in
    record {
      outcomes = λ memory width depth ty p o. flip (same_outcome (context_of set memory width) is depth ty p o);
      statics = λ snap width depth s o. shown_at (context_of set snap.mem width) is depth s.ty s.addr o;
      covered = λ snap width depth v o h.
          rw (same_size p is set.types v.ty, same_place p snap v.entries (size p set.types v.ty) h)
          (shown_in (context_of set snap.mem width) is depth v.ty (place_of p snap v.entries (size p set.types v.ty)) o);
      others = λ snap width depth v o var h.
          rw (no_place set p snap v (size p (map (carried_type p) set.types) (carried_ref p v.ty)) (law_13 set lawful) var h) (λ e. e, λ e. e);
    }

pub shows_same : (set part : Set) → IsLawful set → part ≡ carried set → ShowsSame set part
shows_same set part lawful e = subst (ShowsSame set) (sym e) (carried_shows set lawful)
