use Rattle.std.proofs.Common.{◌≡◌, ◌+◌, ◌*◌, true, take}
use Rattle.std.specs.List.{list_all}
use Rattle.layout_honest.specs.Lies.{selector_lies, lies}
use Rattle.layout_honest.proofs.honesty.+lying.Given as goal

abbrev pub decreases-lies : goal.decreases-lies
decreases-lies l = 6 * l.most

abbrev pub decreases-fields_lie : goal.decreases-fields_lie
decreases-fields_lie l = 6 * l.most + 1

abbrev pub decreases-variant_lies : goal.decreases-variant_lies
decreases-variant_lies l = 6 * l.most + 2

abbrev pub decreases-variants_lie : goal.decreases-variants_lie
decreases-variants_lie l = 6 * l.most + 3

abbrev pub decreases-enum_lies : goal.decreases-enum_lies
decreases-enum_lies l = 6 * l.most + 4

abbrev pub decreases-def_lies : goal.decreases-def_lies
decreases-def_lies l = 6 * l.most + 5

abbrev pub invariant-variants_lie-loop-variant : goal.invariant-variants_lie-loop-variant
invariant-variants_lie-loop-variant l = list_all (λ v. selector_lies 8 (lies 8 l.most l.types l.niche) l.types l.niche l.off v.sel v.fields) (take l.variant-index l.variants) ≡ true
