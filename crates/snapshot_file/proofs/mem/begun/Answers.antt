use Rattle.std.proofs.Common.{rules, nat_le}
use Rattle.std.proofs.lemmas.List.Sorted.{IsPartitionPoint-from_clause, IsPartitionedBy-leb}
use Rattle.std.proofs.lemmas.Bool.{leb-true, leb-false}
use Rattle.snapshot_file.specs.declared.mem.Span.{Span}
use Rattle.snapshot_file.proofs.mem.begun.Goals as goal

pub returns-clause-parted : goal.returns-clause-parted
returns-clause-parted c =
    let parts = IsPartitionPoint-from_clause (λ (s : Span). nat_le s.at c.args.at) c.args.spans.now c.partition_point.result c.partition_point.ensures.partitioned (IsPartitionedBy-leb (λ (s : Span). s.at) c.args.spans.now c.args.at c.requires) (λ a r f h. search rules) in
    (λ k d p q. leb-true _ _ (parts.0 k d p q), λ k d p q. leb-false _ _ (parts.1 k d p q))
