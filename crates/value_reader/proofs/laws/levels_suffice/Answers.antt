use Rattle.layout_values.specs.Contexts.{context_of}
use Rattle.value_reader.proofs.Enough.{chains, suffice, images_suffice}
use Rattle.value_reader.proofs.laws.levels_suffice.Goals as goal

pub returns-clause-walks : goal.returns-clause-walks
returns-clause-walks x c = λ act set memory width depth k ty p shallow h. suffice act (context_of set memory width) (chains set shallow) depth k ty p h

pub returns-clause-images : goal.returns-clause-images
returns-clause-images x c = λ set memory width depth k ty p y shallow h. images_suffice (context_of set memory width) (chains set shallow) depth k ty p y h
