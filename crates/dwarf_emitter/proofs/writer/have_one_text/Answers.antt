use Rattle.std.proofs.Common.{◌≡◌, ◌∙◌, List, ℕ, sym, subst}
use Rattle.std.proofs.lemmas.Slice.Eq.{bytes_eq-Decides}
use Rattle.layout_lines.specs.Sets.{Spells}
use Rattle.dwarf_emitter.proofs.Bounded.{bounded}
use Rattle.dwarf_emitter.proofs.writer.have_one_text.Goals as goal

pub returns : goal.returns
returns c = λ e.
    let a = c.args.a.now in
    let b = c.args.b.now in
    let same : c.in_ok-text.text ≡ c.in_ok-other.other = sym c.as_bytes.ensures ∙ (bytes_eq-Decides c.as_bytes.result.now c.as_bytes-2.result.now).0 (sym c.eq.ensures ∙ e) ∙ c.as_bytes-2.ensures in
    c.a_file_spells_one_set.ensures a b c.in_ok-other.other (subst (λ t. Spells a t) same (c.in_ok-text.ensures.spelled c.requires.first (bounded a c.requires.lawful)))
    (c.in_ok-other.ensures.spelled c.requires.second (bounded b c.requires.other))
