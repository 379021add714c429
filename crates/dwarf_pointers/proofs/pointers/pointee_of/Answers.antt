use Rattle.std.proofs.Common.{◌≡◌, ◌∙◌, Some, true, false, ap, subst, sym}
use Rattle.dwarf_entries.specs.Codes.{at_type}
use Rattle.dwarf_entries.specs.Dies.{Info}
use Rattle.dwarf_entries.specs.Lookups.{has}
use Rattle.dwarf_entries.specs.Pointers.{ends_at_function}
use Rattle.dwarf_entries.specs.TypeLinks.{type_end}
use Rattle.layout_set.specs.declared.set.TypeRef.{TypeRef}
use Rattle.dwarf_pointers.proofs.Pointees.{pointee_is}
use Rattle.dwarf_pointers.proofs.pointers.pointee_of.Goals as goal

pub returns-then-ends_at_function : goal.returns-then-ends_at_function
returns-then-ends_at_function c =
    let d = c.args.die.now.die in
    let typed : has at_type d.entry ≡ true = cc in
    let ends : ends_at_function (type_end c.args.links.now d) ≡ true = subst (λ (i : Info). ends_at_function (type_end i d) ≡ true) c.requires (sym c.ends_at_function.ensures ∙ c.if-ends_at_function.true) in
    sym (pointee_is c.args.links.now d true typed ends)

pub returns : goal.returns
returns c =
    let d = c.args.die.now.die in
    let typed : has at_type d.entry ≡ true = cc in
    let ends : ends_at_function (type_end c.args.links.now d) ≡ false = subst (λ (i : Info). ends_at_function (type_end i d) ≡ false) c.requires (sym c.ends_at_function.ensures ∙ c.if-ends_at_function.false) in
    ap (λ (t : TypeRef). Some t) c.type_or_unit.ensures ∙ sym (pointee_is c.args.links.now d false typed ends)
