-- One more piece has its chunk, and at the end all have.
use Rattle.std.proofs.Common.{◌≡◌, ◌∙◌, ◌+◌, ◌++◌, ◌∷◌, [], sym, ap, take, drop, arith, refl, min, suc, ◌-◌, drop-cons, add-one}
use Rattle.std.specs.List.{flat_map}
use Rattle.image_view.specs.declared.chunk.Chunk.{Chunk}
use Rattle.layout_values.specs.Places.{piece_items}
use Rattle.value_reader.proofs.Joined.{drop_past, joined, one_more, rise_of}
use Rattle.value_reader.proofs.PieceSteps.{longer, more_items, all_items}
use Rattle.value_reader.proofs.locating.piece_chunks.Goals as goal

pub loop-piece-preserved : goal.loop-piece-preserved
loop-piece-preserved c =
    let snap = c.args.snap.now in
    let l = c.loop-piece in
    let p = c.piece-item.result in
    let f = piece_items 8 snap in
    let step : drop l.piece-index c.args.pieces.now ≡ p ∷ drop (l.piece-index + 1) c.args.pieces.now =
    drop-cons c.args.pieces.now l.piece-index p (omega (arith, c.loop-piece-test.true))
    ∙ ap (λ x. x ∷ drop (suc l.piece-index) c.args.pieces.now) (sym c.piece-item.is)
    ∙ ap (λ k. p ∷ drop k c.args.pieces.now) (sym (add-one l.piece-index)) in
    let chunk : Chunk = record { off = l.off; len = c.min-len.result; src = c.of_piece-src.result } in
    let more : c.push.new.self ≡ l.chunks ++ chunk ∷ [] = c.in_ok-push.ensures.last in
    record {
      within = omega (arith, c.min-len.ensures, l.invariant.within);
      adjoin = rw more (one_more 0 l.off l.chunks chunk l.invariant.adjoin refl);
      long = rw more (longer snap p chunk c.of_piece-src.ensures l.chunks l.off l.invariant.long);
      items = rw more (more_items snap p chunk c.of_piece-src.ensures l.chunks c.args.size (flat_map f c.args.pieces.now)
          (flat_map f (drop (l.piece-index + 1) c.args.pieces.now))
          (c.min-len.ensures ∙ ap (λ n. min p.size (c.args.size - n)) (sym l.invariant.long))
          (l.invariant.items ∙ ap (λ rest. take c.args.size (joined snap.mem l.chunks ++ flat_map f rest)) step));
    }

pub returns-clause-rise : goal.returns-clause-rise
returns-clause-rise c = rise_of 0 c.loop-piece.off c.loop-piece.chunks c.loop-piece.invariant.adjoin

pub returns-clause-part : goal.returns-clause-part
returns-clause-part c =
    let snap = c.args.snap.now in
    let l = c.loop-piece in
    let f = piece_items 8 snap in
    let none : drop l.piece-index c.args.pieces.now ≡ [] = drop_past c.args.pieces.now l.piece-index (omega (arith, c.loop-piece-test.false)) in
    all_items snap.mem l.off c.args.size l.chunks (flat_map f c.args.pieces.now) l.invariant.adjoin
    (l.invariant.items ∙ ap (λ rest. take c.args.size (joined snap.mem l.chunks ++ flat_map f rest)) none)
