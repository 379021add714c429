-- The types and the rules of the ends of links.
use Rattle.std.proofs.Common.{◌≡◌, Bool, true, false, Option, Some, None, is_some, not, refl, sym, ap, arith}
use Rattle.dwarf_entries.specs.Dies.{Die, Info, what}
use Rattle.dwarf_entries.specs.Items.{rule_if}
use Rattle.dwarf_entries.specs.Rules.{no_type}
use Rattle.dwarf_entries.specs.TypeLinks.{End as LinkEnd, end_rule, type_at}
use Rattle.layout_set.specs.declared.set.TypeRef.{TypeRef}
use Rattle.dwarf_dies.specs.Handles.{DieIn, among}
use Rattle.dwarf_links.specs.Ends.{end_in}
use Rattle.dwarf_links.specs.declared.ends.End.{End}

-- an entry that is reached
pub record IsReached (info : Info) (e : LinkEnd) (a : DieIn) : Type 0 where
  pub here : a.info ≡ info
  pub is : e ≡ LinkEnd.reached a.die

pub reached_is : (info : Info) (e : LinkEnd) (a : DieIn) → End.Reached a ≡ end_in info e → IsReached info e a
reached_is info (LinkEnd.reached d) a h =
    let same : a ≡ among info d = cc in
    record { here = ap (λ x. x.info) same; is = ap (λ x. LinkEnd.reached x.die) (sym same) }
reached_is info LinkEnd.nowhere a h = absurd (cc)
reached_is info LinkEnd.endless a h = absurd (cc)

pub nowhere_is : (info : Info) (e : LinkEnd) → End.Nowhere ≡ end_in info e → e ≡ LinkEnd.nowhere
nowhere_is info (LinkEnd.reached d) h = absurd (cc)
nowhere_is info LinkEnd.nowhere h = refl
nowhere_is info LinkEnd.endless h = absurd (cc)

pub endless_is : (info : Info) (e : LinkEnd) → End.Endless ≡ end_in info e → e ≡ LinkEnd.endless
endless_is info (LinkEnd.reached d) h = absurd (cc)
endless_is info LinkEnd.nowhere h = absurd (cc)
endless_is info LinkEnd.endless h = refl

flip : (a b : Bool) → a ≡ not b → b ≡ not a
flip true true h = absurd (cc)
flip true false h = refl
flip false true h = refl
flip false false h = absurd (cc)

pub none_is : (o : Option TypeRef) (none : Bool) → is_some o ≡ not none → none ≡ not (is_some o)
none_is o none h = flip (is_some o) none h

-- the rule that a link to an entry breaks
pub there_is : (info : Info) (d : Die) → rule_if (not (is_some (type_at info d (what d)))) no_type ≡ end_rule info (LinkEnd.reached d)
there_is info d = by_type (type_at info d (what d)) refl
  where
    by_type : (o : Option TypeRef) → type_at info d (what d) ≡ o → rule_if (not (is_some (type_at info d (what d)))) no_type ≡ end_rule info (LinkEnd.reached d)
    by_type None h = grind (arith, h)
    by_type (Some ty) h = grind (arith, h)
