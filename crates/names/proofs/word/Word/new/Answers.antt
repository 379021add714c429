use Rattle.std.proofs.Common.{◌∙◌, sym, ap, subst, arith, ◌-◌, ◌^◌, min, length, Err}
use Rattle.names.specs.Claims.{IsRead, WordSpells}
use Rattle.names.specs.Steps.{Stepped}
use Rattle.names.specs.Reading.{word}
use Rattle.names.proofs.Words.{word_reader}
use Rattle.names.proofs.Combined.{a_word}
use Rattle.names.proofs.Whole.{read_whole, left_over, stopped, got_shorter, bad_shorter, bad_at}
use Rattle.names.proofs.word.Word.new.Goals as goal

pub bad_name-requires : goal.bad_name-requires
bad_name-requires c =
    let read = subst (λ r. Stepped (word.read c.new-rest.result) r c.word.new.self) c.in-Ok.is c.word.ensures in
    let whole = ap word.read (sym c.new-rest.ensures) ∙ read in
    omega (arith, c.len-else-len-eq0.ensures, got_shorter word word_reader tt a_word c.args.bytes.now c.word.new.self c.in-Ok.word whole)

pub bad_name-requires-in-Err-Bad : goal.bad_name-requires-in-Err-Bad
bad_name-requires-in-Err-Bad c =
    let read = subst (λ r. Stepped (word.read c.new-rest.result) r c.word.new.self) (c.in-Err-Bad.is ∙ ap Err c.in-Err-Bad.field-0-is) c.word.ensures in
    let whole = ap word.read (sym c.new-rest.ensures) ∙ read in
    omega (arith, c.len-in-Err-Bad.ensures, bad_shorter word word_reader tt a_word c.args.bytes.now c.word.new.self whole)

-- nothing is left: the whole text was read
pub returns-then-len-eq0 : goal.returns-then-len-eq0
returns-then-len-eq0 c =
    let read = subst (λ r. Stepped (word.read c.new-rest.result) r c.word.new.self) c.in-Ok.is c.word.ensures in
    let whole = ap word.read (sym c.new-rest.ensures) ∙ read in
    read_whole word word_reader tt a_word c.args.bytes.now c.word.new.self c.in-Ok.word whole (sym c.len.ensures ∙ c.if-len-eq0.true)

-- something is left, where the text stops being one
pub returns-else-len-eq0 : goal.returns-else-len-eq0
returns-else-len-eq0 c =
    let read = subst (λ r. Stepped (word.read c.new-rest.result) r c.word.new.self) c.in-Ok.is c.word.ensures in
    let whole = ap word.read (sym c.new-rest.ensures) ∙ read in
    let left = left_over word word_reader tt a_word c.args.bytes.now c.word.new.self c.in-Ok.word whole (λ e. c.if-len-eq0.false (c.len.ensures ∙ e)) in
    subst (λ r. IsRead WordSpells c.args.bytes.now (Err r)) (sym c.bad_name.ensures)
    (bad_at WordSpells c.args.bytes.now (length c.args.bytes.now - length c.word.new.self) _ left
    (ap (λ n. min (length c.args.bytes.now - n) (2 ^ 32 - 1)) c.len-else-len-eq0.ensures))

-- the reading stopped, where the text stops being one
pub returns-in-Err-Bad : goal.returns-in-Err-Bad
returns-in-Err-Bad c =
    let read = subst (λ r. Stepped (word.read c.new-rest.result) r c.word.new.self) (c.in-Err-Bad.is ∙ ap Err c.in-Err-Bad.field-0-is) c.word.ensures in
    let whole = ap word.read (sym c.new-rest.ensures) ∙ read in
    let left = stopped word word_reader tt a_word c.args.bytes.now c.word.new.self whole in
    subst (λ r. IsRead WordSpells c.args.bytes.now (Err r)) (sym c.bad_name-in-Err-Bad.ensures)
    (bad_at WordSpells c.args.bytes.now (length c.args.bytes.now - length c.word.new.self) _ left
    (ap (λ n. min (length c.args.bytes.now - n) (2 ^ 32 - 1)) c.len-in-Err-Bad.ensures))
