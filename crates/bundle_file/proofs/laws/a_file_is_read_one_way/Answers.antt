-- The reader of files is exact.
use Rattle.bundle_file.proofs.Files.{one_reading}
use Rattle.bundle_file.proofs.laws.a_file_is_read_one_way.Goals as goal

pub returns : goal.returns
returns c = one_reading
