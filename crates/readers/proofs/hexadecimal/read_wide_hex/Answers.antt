use Rattle.readers.proofs.HexWords.{wide_exact_of}
use Rattle.readers.proofs.hexadecimal.read_wide_hex.Goals as goal

pub returns-clause-exact : goal.returns-clause-exact
returns-clause-exact c = wide_exact_of c.args.word.now c.parse_hex.result c.parse_hex.ensures
