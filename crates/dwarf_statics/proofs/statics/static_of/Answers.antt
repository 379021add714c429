use Rattle.std.proofs.Common.{◌∙◌, ap, unwrap_or, ℕ, Option}
use Rattle.layout_set.specs.declared.set.Static.{Static}
use Rattle.layout_set.specs.declared.set.TypeRef.{TypeRef}
use Rattle.names.specs.declared.name.Name.{Name}
use Rattle.dwarf_entries.specs.Codes.{at_name, at_type}
use Rattle.dwarf_entries.specs.Names.{name_of}
use Rattle.dwarf_entries.specs.Origins.{bearer_of}
use Rattle.dwarf_entries.specs.Statics.{static_address}
use Rattle.dwarf_entries.specs.TypeLinks.{or_unit, type_of}
use Rattle.dwarf_dies.specs.Handles.{DieIn}
use Rattle.dwarf_statics.proofs.statics.static_of.Goals as goal

abbrev made : Name → TypeRef → Option ℕ → Static
made name ty addr = record { name = name; ty = ty; addr = addr }

pub returns : goal.returns
returns c =
    let d = c.args.die.now.die in
    let links = c.args.links.now in
    let name = c.in_ok-name.ensures ∙ ap (λ (a : DieIn). name_of a.info a.die) c.bearer_or_itself.ensures ∙ ap (λ i. name_of i (unwrap_or (bearer_of at_name i d) d)) c.requires in
    let ty = c.unwrap_or-ty.ensures ∙ ap or_unit (c.type_of.ensures ∙ ap (λ (a : DieIn). type_of links a.die) c.bearer_or_itself-2.ensures ∙ ap (λ i. type_of links (unwrap_or (bearer_of at_type i d) d)) c.requires) in
    let addr = c.static_address.ensures ∙ ap (λ i. static_address i d) c.requires in
    let named = name_of links (unwrap_or (bearer_of at_name links d) d) in
    let typed = or_unit (type_of links (unwrap_or (bearer_of at_type links d) d)) in
    ap (λ n. made n c.unwrap_or-ty.result c.static_address.result) name ∙ ap (λ t. made named t c.static_address.result) ty ∙ ap (made named typed) addr
