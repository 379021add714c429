use Rattle.std.proofs.Common.{rules, ◌∙◌, ◌≡◌, ℕ, Some, subst, ap, nat_lt, arith}
use Rattle.std.proofs.lemmas.List.Sorted.{IsPartitionPoint-from_clause, IsPartitionedBy-ltb}
use Rattle.dwarf_dies.specs.Laws.{AreLinked}
use Rattle.dwarf_dies.specs.Views.{die_of}
use Rattle.dwarf_links.specs.SetTypes.{numbers_of_types}
use Rattle.dwarf_links.proofs.Counts.{IsTable, few_types, place_is, types_sorted}
use Rattle.dwarf_links.proofs.type_links.TypeLinks.place_in_set.Goals as goal

pub overflow_cast-result : goal.overflow_cast-result
overflow_cast-result c =
    let t : IsTable c.args.self.now c.as_slice.result.now = record {
      laws = subst AreLinked c.requires c.number-number.ensures.found.laws;
      types_are = c.as_slice.ensures ∙ c.self.invariant.types_are ∙ ap numbers_of_types c.self.view_is;
    } in
    omega (arith, c.partition_point-place.ensures.bound, few_types c.args.self.now c.as_slice.result.now t)

pub returns : goal.returns
returns c =
    let t : IsTable c.args.self.now c.as_slice.result.now = record {
      laws = subst AreLinked c.requires c.number-number.ensures.found.laws;
      types_are = c.as_slice.ensures ∙ c.self.invariant.types_are ∙ ap numbers_of_types c.self.view_is;
    } in
    let parted = IsPartitionPoint-from_clause (λ (x : ℕ). nat_lt x c.number-number.result) c.as_slice.result.now c.partition_point-place.result c.partition_point-place.ensures.partitioned
    (IsPartitionedBy-ltb (λ (x : ℕ). x) c.as_slice.result.now c.number-number.result (types_sorted c.args.self.now c.as_slice.result.now t)) (λ a r f g. search rules) in
    let found : die_of c.args.self.now c.args.die.now.die.entry.number ≡ Some c.args.die.now.die = subst (λ i. die_of i c.args.die.now.die.entry.number ≡ Some c.args.die.now.die) c.requires c.number-number.ensures.found.found in
    place_is c.args.self.now c.as_slice.result.now t c.number-number.result c.partition_point-place.result c.partition_point-place.ensures.bound parted c.args.die.now.die
    (ap (die_of c.args.self.now) c.number-number.ensures.number ∙ found)
