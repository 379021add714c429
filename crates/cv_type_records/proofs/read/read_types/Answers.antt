-- What is read after the signature is the section's value, or its first error.
use Rattle.std.proofs.Common.{◌≡◌, subst}
use Rattle.rv_bytes.specs.Places.{Place}
use Rattle.rv_bytes.specs.Readers.{got}
use Rattle.cv_parts.specs.Series.{to_end}
use Rattle.cv_parts.specs.RecordReaders.{read_signature, read_to_end}
use Rattle.cv_parts.proofs.WholeSections.{section_value, section_fault}
use Rattle.cv_type_records.specs.Types.{type_record}
use Rattle.cv_type_records.specs.TypeReaders.{read_type_record}
use Rattle.cv_type_records.proofs.Types.{records_exact, records_taken}
use Rattle.cv_type_records.proofs.read.read_types.Goals as goal

pub returns-clause-records : goal.returns-clause-records
returns-clause-records c =
    let h = subst (λ (p : Place). read_signature p.at p.rest ≡ got c.in_ok-read_signature.field-0 c.read_signature.new.cut.at c.read_signature.new.cut.rest) c.new-cut.ensures c.in_ok-read_signature.ensures in
    section_value (to_end (λ _. type_record)) (read_to_end (λ _. read_type_record)) records_exact records_taken c.args.section.now c.in_ok-read_signature.field-0 c.read_signature.new.cut c.read_records.new.cut c.read_records.result h c.read_records.ensures

pub returns-clause-refused : goal.returns-clause-refused
returns-clause-refused c =
    let h = subst (λ (p : Place). read_signature p.at p.rest ≡ got c.in_ok-read_signature.field-0 c.read_signature.new.cut.at c.read_signature.new.cut.rest) c.new-cut.ensures c.in_ok-read_signature.ensures in
    section_fault (to_end (λ _. type_record)) (read_to_end (λ _. read_type_record)) records_exact c.args.section.now c.in_ok-read_signature.field-0 c.read_signature.new.cut c.read_records.new.cut c.read_records.result h c.read_records.ensures
