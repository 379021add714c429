use Rattle.bundle_reader.proofs.SomeReading.{some_reading}
use Rattle.bundle_reader.proofs.laws.a_bundle_has_a_reading.Goals as goal

pub returns : goal.returns
returns c = some_reading c.a_file_is_read_one_way.ensures c.sections_have_a_description.ensures
