use Rattle.std.proofs.Common.{subst}
use Rattle.dwarf_emitter.proofs.Named.{described_is_set}
use Rattle.dwarf_emitter.proofs.writer.read_back.Goals as goal

pub returns-in-Ok-clause-names : goal.returns-in-Ok-clause-names
returns-in-Ok-clause-names c = described_is_set c.args.sections.now c.in-Ok.set c.in-Ok.ensures.set
