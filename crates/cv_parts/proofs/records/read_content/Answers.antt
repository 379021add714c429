-- The bytes after the length are the content.
use Rattle.std.proofs.Common.{◌≡◌, ℕ, drop, sym, subst, arith}
use Rattle.rv_bytes.specs.Places.{Place}
use Rattle.rv_bytes.specs.Readers.{got}
use Rattle.rv_bytes.specs.NumberReaders.{read_number}
use Rattle.cv_parts.proofs.Contents.{content_is}
use Rattle.cv_parts.proofs.records.read_content.Goals as goal

pub returns-clause-content : goal.returns-clause-content
returns-clause-content c =
    let h = subst (λ (p : Place). read_number 2 p.at p.rest ≡ got c.in-Ok.size c.u16.new.self.at c.u16.new.self.rest) c.from_place-cut.ensures c.in-Ok.ensures.reads in
    let g = subst (λ (z : ℕ). read_number 2 c.args.at (drop c.args.at c.args.section.now) ≡ got z c.u16.new.self.at c.u16.new.self.rest) (sym c.from-size.ensures) h in
    content_is c.args.section.now c.args.at c.from-size.result c.u16.new.self c.from_place.result g (omega (arith, c.left.ensures, c.if-left-size.false)) c.if-size-lt2.false c.from_place.ensures
