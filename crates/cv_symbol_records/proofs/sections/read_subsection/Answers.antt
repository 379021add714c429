-- The subsection's symbols are added, and its pad is passed over.
use Rattle.std.proofs.Common.{ℕ, subst}
use Rattle.cv_symbol_records.specs.Results.{IsSubsection}
use Rattle.cv_symbol_records.proofs.SectionReads.{subsection_onto}
use Rattle.cv_symbol_records.proofs.sections.read_subsection.Goals as goal

pub returns-clause-reads : goal.returns-clause-reads
returns-clause-reads c =
    let h = subst (λ (z : ℕ). IsSubsection c.args.section.now z c.in_ok-found.found) c.at.ensures c.in_ok-found.ensures.found in
    let e = rw (c.min.ensures, c.pad.ensures) at c.from_place.ensures in
    subsection_onto c.args.section.now c.args.cut.now c.from_place.result c.in_ok-found.found c.args.records.now c.read_found.new.records c.requires.place h c.in_ok-read_found.ensures e
