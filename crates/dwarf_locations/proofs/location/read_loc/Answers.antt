-- One place, or a piece and those after it.
use Rattle.std.proofs.Common.{subst}
use Rattle.std.proofs.lemmas.Result.{err_from_is_err_and}
use Rattle.dwarf_locations.specs.Expressions.{start}
use Rattle.dwarf_locations.specs.Steps.{IsRefusedPart, TakesPart}
use Rattle.dwarf_locations.proofs.Rests.{pieces_said, first_refused, later_refused}
use Rattle.dwarf_locations.proofs.location.read_loc.Goals as goal

pub returns-in_err-said-clause-refused : goal.returns-in_err-said-clause-refused
returns-in_err-said-clause-refused c =
    let frame = c.args.frame in let addrs = c.args.addrs.now in
    let e = c.in_err-said.field-0.0 in
    let f = subst (λ q. IsRefusedPart frame addrs q e) c.new-cut.ensures c.in_err-said.ensures.refused in
    let p = err_from_is_err_and c.from_residual.result c.from_residual.ensures.1 in
    rw (p.1, p.2) (first_refused frame addrs c.args.bytes.now e f)

pub returns-in_err-pieces-in-Piece-clause-refused : goal.returns-in_err-pieces-in-Piece-clause-refused
returns-in_err-pieces-in-Piece-clause-refused c =
    let frame = c.args.frame in let addrs = c.args.addrs.now in
    let mid = c.read_part.new.cut in let first = c.in-Piece.first in
    let h = subst (λ q. TakesPart frame addrs q mid c.in_ok-said.field-0) c.new-cut.ensures c.in_ok-said.ensures.taken in
    let t = subst (λ p. TakesPart frame addrs (start c.args.bytes.now) mid p) c.in-Piece.is h in
    let e = c.in_err-pieces-in-Piece.field-0.0 in
    let p = err_from_is_err_and c.from_residual-in_err-pieces-in-Piece.result c.from_residual-in_err-pieces-in-Piece.ensures.1 in
    rw (p.1, p.2) (later_refused frame addrs c.args.bytes.now mid first e t c.in_err-pieces-in-Piece.ensures.refused)

pub returns-in_ok-pieces-in-Piece-clause-said : goal.returns-in_ok-pieces-in-Piece-clause-said
returns-in_ok-pieces-in-Piece-clause-said c =
    let frame = c.args.frame in let addrs = c.args.addrs.now in
    let mid = c.read_part.new.cut in let first = c.in-Piece.first in
    let h = subst (λ q. TakesPart frame addrs q mid c.in_ok-said.field-0) c.new-cut.ensures c.in_ok-said.ensures.taken in
    let t = subst (λ p. TakesPart frame addrs (start c.args.bytes.now) mid p) c.in-Piece.is h in
    pieces_said frame addrs c.args.bytes.now mid first c.in_ok-pieces-in-Piece.pieces t c.in_ok-pieces-in-Piece.ensures.said
