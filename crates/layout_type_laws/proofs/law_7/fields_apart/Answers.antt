use Rattle.std.proofs.Common.{sym, subst, map, ◌<◌}
use Rattle.std.specs.List.{All}
use Rattle.layout_set.specs.Overlap.{span_of}
use Rattle.layout_type_laws.proofs.Spans.{kept_spans}
use Rattle.layout_type_laws.proofs.law_7.fields_apart.Goals as goal

pub are_apart-requires : goal.are_apart-requires
are_apart-requires c = subst (All (λ s. 0 < s.1)) (sym c.in_ok-spans_of.ensures) (kept_spans (map (span_of c.args.ptr c.args.types.now) c.args.fields.now))
