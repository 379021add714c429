use Rattle.bundle_reader.proofs.OneReading.{one_reading}
use Rattle.bundle_reader.proofs.laws.a_bundle_is_read_one_way.Goals as goal

pub returns : goal.returns
returns c = one_reading c.a_file_is_read_one_way.ensures c.sections_have_one_description.ensures
