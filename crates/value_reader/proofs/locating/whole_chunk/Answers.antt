use Rattle.std.proofs.Common.{◌≡◌, ◌++◌, ◌∷◌, [], refl, ap, ◌∙◌}
use Rattle.image_view.specs.declared.chunk.Chunk.{Chunk}
use Rattle.value_reader.proofs.PieceSteps.{one_place}
use Rattle.value_reader.proofs.locating.whole_chunk.Goals as goal

pub returns-clause-part : goal.returns-clause-part
returns-clause-part c =
    let chunk : Chunk = record { off = 0; len = c.args.size; src = c.of_place.result } in
    let one : c.push.new.self ≡ chunk ∷ [] = c.in_ok-push.ensures.last ∙ ap (λ chunks. chunks ++ chunk ∷ []) c.new-chunks.ensures in
    rw one (one_place c.args.snap.now.mem chunk _ refl (c.of_place.ensures c.args.size))
