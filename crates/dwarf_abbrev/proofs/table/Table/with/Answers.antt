-- The map has the new place too.
use Rattle.std.proofs.Common.{Some, length, sym, ◌∙◌, subst}
use Rattle.std.specs.Ordering.{nat_cmp}
use Rattle.std.specs.BTreeMap.{Updates}
use Rattle.dwarf_abbrev.specs.Declarations.{codes_of, IsFresh}
use Rattle.dwarf_abbrev.proofs.Codes.{succeeds, places_on, declarations_on}
use Rattle.dwarf_abbrev.proofs.table.Table.with.Goals as goal

pub invariant_of-result : goal.invariant_of-result
invariant_of-result c =
    let f : IsFresh (codes_of c.self.inside.list) c.args.declaration.code = subst (λ l. IsFresh (codes_of l) c.args.declaration.code) (sym c.self.view_is) c.requires.fresh in
    let u : Updates nat_cmp c.self.inside.places c.insert.new.self c.args.declaration.code (Some (length c.self.inside.list)) = subst (λ l. Updates nat_cmp c.self.inside.places c.insert.new.self c.args.declaration.code (Some (length l))) c.as_slice-place.ensures
    (succeeds c.insert.result _ (sym c.is_err.ensures.value ∙ c.if-is_err.false) c.insert.ensures.updates) in
    rw c.in_ok-push.ensures.last (
      places_on c.self.inside.places c.insert.new.self c.self.inside.list c.args.declaration (c.self.invariant).0 f u,
      declarations_on c.self.inside.list c.args.declaration (c.self.invariant).1 f c.requires.sound,
    )
