-- A piece more, or the end: then nothing is left over, or what is left over is refused.
use Rattle.std.proofs.Common.{◌∷◌, [], ◌++◌, subst}
use Rattle.std.proofs.lemmas.Result.{err_from_is_err_and}
use Rattle.dwarf_locations.specs.Steps.{IsRefusedFirst, StandsNone, TakesPart}
use Rattle.dwarf_locations.proofs.Rests.{pieces_more, kept_more, rest_said, rest_left_over}
use Rattle.dwarf_locations.proofs.pieces.read_rest.Goals as goal

pub loop-pieces-preserved : goal.loop-pieces-preserved
loop-pieces-preserved c =
    let frame = c.args.frame in let addrs = c.args.addrs.now in
    let here = c.loop-pieces.cut in let next = c.read_part.new.cut in
    let more = c.loop-pieces.invariant.0 in let piece = c.in-Piece.piece in
    let h = subst (λ p. TakesPart frame addrs here next p) c.in-Piece.is c.in_ok-piece.ensures.taken in (
      more ++ piece ∷ [],
      (
        pieces_more frame addrs c.args.cut.now here next more piece c.loop-pieces.invariant.1.0 h,
        kept_more c.args.first piece c.loop-pieces.pieces more c.push_piece-in-Piece.new.pieces c.loop-pieces.invariant.1.1 c.in_ok-push_piece-in-Piece.ensures,
      ),
    )

pub returns-in_err-check_nothing-in-Last-clause-refused : goal.returns-in_err-check_nothing-in-Last-clause-refused
returns-in_err-check_nothing-in-Last-clause-refused c =
    let frame = c.args.frame in let addrs = c.args.addrs.now in
    let here = c.loop-pieces.cut in let end = c.read_part.new.cut in
    let h = subst (λ p. TakesPart frame addrs here end p) c.in-Last.is c.in_ok-piece.ensures.taken in
    let e = c.in_err-check_nothing-in-Last.field-0.0 in
    let f = subst (λ q. IsRefusedFirst frame addrs q e) c.copy-run.ensures c.in_err-check_nothing-in-Last.ensures.refused in
    let p = err_from_is_err_and c.from_residual-in_err-check_nothing-in-Last.result c.from_residual-in_err-check_nothing-in-Last.ensures.1 in
    rw (p.1, p.2) (rest_left_over frame addrs c.args.cut.now here end c.loop-pieces.invariant.0 c.in-Last.field-0 e c.loop-pieces.invariant.1.0 h.0 h.1 f)

pub returns-in-Last-clause-said : goal.returns-in-Last-clause-said
returns-in-Last-clause-said c =
    let frame = c.args.frame in let addrs = c.args.addrs.now in
    let here = c.loop-pieces.cut in let end = c.read_part.new.cut in
    let h = subst (λ p. TakesPart frame addrs here end p) c.in-Last.is c.in_ok-piece.ensures.taken in
    let n = subst (λ q. StandsNone frame addrs q) c.copy-run.ensures c.in_ok-check_nothing-in-Last.ensures.nothing in
    rest_said frame addrs c.args.cut.now here end c.args.first c.loop-pieces.pieces c.loop-pieces.invariant.0 c.in-Last.field-0 c.loop-pieces.invariant.1.0 c.loop-pieces.invariant.1.1 h.0 h.1 n
