use Rattle.std.proofs.Common.{◌≡◌, ◌∷◌, ◌++◌, [], ◌∙◌, codes, refl, subst}
use Rattle.dbg_command.specs.Runs.{Says}
use Rattle.dbg_command.specs.Stops.{outside_line}
use Rattle.dbg_command.proofs.Puts.{seven}
use Rattle.dbg_command.proofs.stop.tell_outside.Goals as goal

pub returns : goal.returns
returns g c =
    let section = c.section_word-section.result.now in
    let offset = c.as_bytes-offset.result.now in
    let rule = c.as_bytes-rule.result.now in
    let o = c.as_bytes-offset.ensures.value ∙ c.format.ensures.text in
    let r = c.as_bytes-rule.ensures.value ∙ c.format-2.ensures.text in
    let same : codes "rdbg: outside " ++ section ++ codes " " ++ offset ++ codes " rule " ++ rule ++ 10 ∷ [] ≡ outside_line c.args.refusal = rw (c.section_word-section.ensures, o, r) refl in
    subst (λ text. Says (g.E.Sink.written c.args.err.now) (g.E.Sink.written c.put_parts.new.err) (g.E.Sink.faults c.args.err.now) (g.E.Sink.faults c.put_parts.new.err) text)
    (seven (codes "rdbg: outside ") section (codes " ") offset (codes " rule ") rule (10 ∷ []) ∙ same) c.put_parts.ensures
