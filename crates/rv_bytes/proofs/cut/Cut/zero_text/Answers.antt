use Rattle.std.proofs.Common.{◌≡◌, Some, None, refl, sym, ap, ◌∙◌}
use Rattle.rv_bytes.specs.NumberReaders.{first_zero}
use Rattle.rv_bytes.proofs.ZeroTexts.{lacks_where, text_taken}
use Rattle.rv_bytes.proofs.cut.Cut.zero_text.Goals as goal

-- no zero was found, so there is none
pub returns-in_default-clause-refused : goal.returns-in_default-clause-refused
returns-in_default-clause-refused c =
    let none : first_zero c.args.self.now.rest ≡ None = sym (ap first_zero c.rest.ensures) ∙ sym c.first_zero.ensures ∙ c.in_default.is in
    (lacks_where c.args.self.now.rest none, (refl, c.at.ensures))

-- the bytes before the zero that was found
pub returns-clause-taken : goal.returns-clause-taken
returns-clause-taken c =
    let found : first_zero c.args.self.now.rest ≡ Some c.in-Some.len = sym (ap first_zero c.rest.ensures) ∙ sym c.first_zero.ensures ∙ c.in-Some.is in
    text_taken c.args.self.now c.take.new.self c.in-Some.len c.in_ok-bytes.bytes.now found c.in_ok-bytes.ensures.reads
