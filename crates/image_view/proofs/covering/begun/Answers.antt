use Rattle.std.proofs.Common.{rules, nat_le}
use Rattle.std.proofs.lemmas.List.Sorted.{IsPartitionPoint-from_clause, IsPartitionedBy-leb}
use Rattle.std.proofs.lemmas.Bool.{leb-true, leb-false}
use Rattle.image_view.specs.declared.chunk.Chunk.{Chunk}
use Rattle.image_view.proofs.covering.begun.Goals as goal

pub returns-clause-parted : goal.returns-clause-parted
returns-clause-parted c =
    let parts = IsPartitionPoint-from_clause (λ (x : Chunk). nat_le x.off c.args.place) c.args.chunks.now c.partition_point.result c.partition_point.ensures.partitioned (IsPartitionedBy-leb (λ (x : Chunk). x.off) c.args.chunks.now c.args.place c.requires) (λ a r f h. search rules) in
    (λ k d p q. leb-true _ _ (parts.0 k d p q), λ k d p q. leb-false _ _ (parts.1 k d p q))
