-- The reader of symbol records is exact.
use Rattle.cv_parts.proofs.OneReading.{one_reading}
use Rattle.cv_symbol_records.specs.Subsections.{symbols}
use Rattle.cv_symbol_records.specs.SubsectionReaders.{read_symbols}
use Rattle.cv_symbol_records.proofs.SectionForms.{symbols_exact}
use Rattle.cv_symbol_records.proofs.laws.symbol_records_have_one_reading.Goals as goal

pub returns : goal.returns
returns c = one_reading symbols read_symbols symbols_exact
