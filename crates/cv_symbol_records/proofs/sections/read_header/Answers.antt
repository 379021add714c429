-- The bytes after the length are the content.
use Rattle.std.proofs.Common.{◌≡◌, subst, refl, arith}
use Rattle.rv_bytes.specs.Places.{Place}
use Rattle.rv_bytes.specs.Readers.{got}
use Rattle.rv_bytes.specs.NumberReaders.{read_number}
use Rattle.cv_symbol_records.proofs.SectionReads.{subsection_is}
use Rattle.cv_symbol_records.proofs.sections.read_header.Goals as goal

pub returns-clause-found : goal.returns-clause-found
returns-clause-found c =
    let h = subst (λ (p : Place). read_number 4 p.at p.rest ≡ got c.in-Ok.kind c.u32.new.self.at c.u32.new.self.rest) c.from_place-cut.ensures c.in-Ok.ensures.reads in
    subsection_is c.args.section.now c.args.at c.in-Ok.kind c.in-Ok-u32.size c.u32.new.self c.u32-2.new.self _ c.requires h c.in-Ok-u32.ensures.reads (omega (arith, c.left.ensures, c.if-left-size.false)) refl refl refl
