-- The reader of type records is exact.
use Rattle.cv_parts.proofs.OneReading.{one_reading}
use Rattle.cv_type_records.specs.Types.{types}
use Rattle.cv_type_records.specs.TypeReaders.{read_types}
use Rattle.cv_type_records.proofs.Types.{types_exact}
use Rattle.cv_type_records.proofs.laws.type_records_have_one_reading.Goals as goal

pub returns : goal.returns
returns c = one_reading types read_types types_exact
