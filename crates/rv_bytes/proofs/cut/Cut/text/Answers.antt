use Rattle.std.proofs.Common.{◌≡◌, ℕ, List, Ok, Err, subst}
use Rattle.rv_bytes.specs.Places.{Place}
use Rattle.rv_bytes.specs.Readers.{got, bad}
use Rattle.rv_bytes.specs.Reads.{rule_of, place_of}
use Rattle.rv_bytes.specs.Numbers.{text}
use Rattle.rv_bytes.specs.NumberReaders.{read_text}
use Rattle.rv_bytes.proofs.Calls.{taken, refused}
use Rattle.rv_bytes.proofs.CheckedTexts.{text_exact}
use Rattle.rv_bytes.proofs.cut.Cut.text.Goals as goal

-- what the reader gives is taken
pub returns-in-Ok-clause-taken : goal.returns-in-Ok-clause-taken
returns-in-Ok-clause-taken c =
    let reads = subst (λ (p : Place). read_text p.at p.rest ≡ got c.in-Ok.bytes.now c.checked_text.new.self.at c.checked_text.new.self.rest) c.copy-cut.ensures c.in-Ok.ensures in
    taken text read_text text_exact (λ (y : List ℕ). y) c.args.self.now c.checked_text.new.self (Ok c.in-Ok.bytes.now) reads

-- and what it refuses is refused
pub returns-in-Err-clause-refused : goal.returns-in-Err-clause-refused
returns-in-Err-clause-refused c =
    let reads = subst (λ (p : Place). read_text p.at p.rest ≡ bad (rule_of c.in-Err.e) (place_of c.in-Err.e)) c.copy-cut.ensures c.in-Err.ensures in
    refused text read_text text_exact (λ (y : List ℕ). y) c.args.self.now c.args.self.now (Err c.in-Err.e) reads
