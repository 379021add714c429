use Rattle.std.proofs.Common.{◌≡◌, ◌∙◌, ap, sym, subst}
use Rattle.readers.specs.Hex.{SpellsHex, narrow}
use Rattle.readers.proofs.HexWords.{exact_of, narrow_spells}
use Rattle.readers.proofs.hexadecimal.read_hex.Goals as goal

pub returns-clause-spelled : goal.returns-clause-spelled
returns-clause-spelled c = subst (SpellsHex c.args.word.now) (sym c.narrow.ensures) (narrow_spells c.args.word.now c.parse_hex.result c.parse_hex.ensures)

pub returns-clause-exact : goal.returns-clause-exact
returns-clause-exact c = exact_of c.args.word.now c.narrow.result (subst (SpellsHex c.args.word.now) (sym c.narrow.ensures) (narrow_spells c.args.word.now c.parse_hex.result c.parse_hex.ensures))
