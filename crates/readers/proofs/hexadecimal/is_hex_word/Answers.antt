use Rattle.readers.proofs.HexNumbers.{number_decided}
use Rattle.readers.proofs.hexadecimal.is_hex_word.Goals as goal

-- the test decides the relation
pub returns-clause-spelled : goal.returns-clause-spelled
returns-clause-spelled c = number_decided c.args.word.now c.has_hex_digits.result c.has_hex_digits.ensures
