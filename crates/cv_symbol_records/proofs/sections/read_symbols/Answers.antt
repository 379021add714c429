-- What is read after the signature is the section's value, or its first error.
use Rattle.std.proofs.Common.{◌≡◌, subst}
use Rattle.rv_bytes.specs.Places.{Place}
use Rattle.rv_bytes.specs.Readers.{got}
use Rattle.cv_parts.specs.RecordReaders.{read_signature}
use Rattle.cv_parts.proofs.WholeSections.{section_value, section_fault}
use Rattle.cv_symbol_records.proofs.SectionForms.{rows, read_rows, rows_exact, rows_taken}
use Rattle.cv_symbol_records.proofs.sections.read_symbols.Goals as goal

pub returns-clause-records : goal.returns-clause-records
returns-clause-records c =
    let h = subst (λ (p : Place). read_signature p.at p.rest ≡ got c.in_ok-read_signature.field-0 c.read_signature.new.cut.at c.read_signature.new.cut.rest) c.new-cut.ensures c.in_ok-read_signature.ensures in
    section_value rows read_rows rows_exact rows_taken c.args.section.now c.in_ok-read_signature.field-0 c.read_signature.new.cut c.read_subsections.new.cut c.read_subsections.result h c.read_subsections.ensures

pub returns-clause-refused : goal.returns-clause-refused
returns-clause-refused c =
    let h = subst (λ (p : Place). read_signature p.at p.rest ≡ got c.in_ok-read_signature.field-0 c.read_signature.new.cut.at c.read_signature.new.cut.rest) c.new-cut.ensures c.in_ok-read_signature.ensures in
    section_fault rows read_rows rows_exact c.args.section.now c.in_ok-read_signature.field-0 c.read_signature.new.cut c.read_subsections.new.cut c.read_subsections.result h c.read_subsections.ensures
