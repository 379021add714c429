-- A length and a body make a unit, or the body is invalid.
use Rattle.std.proofs.Common.{◌≡◌, ◌≤◌, length, sym, ap, subst, ◌∙◌, arith}
use Rattle.std.proofs.lemmas.Result.{err_from_is_err_and}
use Rattle.rv_bytes.specs.Places.{Place}
use Rattle.rv_bytes.specs.Readers.{got}
use Rattle.dwarf_units.specs.Units.{length_breaks}
use Rattle.dwarf_units.specs.UnitReaders.{read_field}
use Rattle.dwarf_units.proofs.UnitSteps.{body_place, unit_taken, unit_refused, unit_follows}
use Rattle.dwarf_units.proofs.unit.read_unit.Goals as goal

pub returns-in_err-abbrev_offset-clause-refused : goal.returns-in_err-abbrev_offset-clause-refused
returns-in_err-abbrev_offset-clause-refused c =
    let size = c.in_ok-unit_length.unit_length in
    let k = c.read_length.new.cut.rest in
    let start = c.at-start.result in
    let read = subst (λ (p : Place). read_field 4 length_breaks p.at p.rest ≡ got size c.read_length.new.cut.at k) c.from_place-cut.ensures c.in_ok-unit_length.ensures.reads in
    let h = read ∙ ap (λ j. got size j k) (sym c.at-start.ensures) in
    let fits : size ≤ length k = omega (arith, c.if-size-left.false, c.left.ensures) in
    let place : c.from_place-body.result ≡ body_place c.args.info.now start size = c.from_place-body.ensures in
    let p = err_from_is_err_and c.from_residual-in_err-abbrev_offset.result c.from_residual-in_err-abbrev_offset.ensures.1 in
    rw (p.1, p.2) (unit_refused c.args.abbrevs.now c.args.info.now c.args.at size start k c.from_place-body.result c.args.kept.now _ h fits place c.in_err-abbrev_offset.ensures.refused)

pub returns-clause-taken : goal.returns-clause-taken
returns-clause-taken c =
    let size = c.in_ok-unit_length.unit_length in
    let k = c.read_length.new.cut.rest in
    let start = c.at-start.result in
    let read = subst (λ (p : Place). read_field 4 length_breaks p.at p.rest ≡ got size c.read_length.new.cut.at k) c.from_place-cut.ensures c.in_ok-unit_length.ensures.reads in
    let h = read ∙ ap (λ j. got size j k) (sym c.at-start.ensures) in
    let fits : size ≤ length k = omega (arith, c.if-size-left.false, c.left.ensures) in
    let place : c.from_place-body.result ≡ body_place c.args.info.now start size = c.from_place-body.ensures in
    unit_taken c.args.abbrevs.now c.args.info.now c.args.at size start k c.from_place-body.result c.read_body.new.cut c.args.kept.now c.read_body.new.kept c.in_ok-abbrev_offset.abbrev_offset c.push.new.self
    h fits c.requires.inside place c.in_ok-abbrev_offset.ensures.taken c.in_ok-push.ensures.last

pub returns-clause-follows : goal.returns-clause-follows
returns-clause-follows c =
    let size = c.in_ok-unit_length.unit_length in
    let k = c.read_length.new.cut.rest in
    let start = c.at-start.result in
    let read = subst (λ (p : Place). read_field 4 length_breaks p.at p.rest ≡ got size c.read_length.new.cut.at k) c.from_place-cut.ensures c.in_ok-unit_length.ensures.reads in
    let h = read ∙ ap (λ j. got size j k) (sym c.at-start.ensures) in
    let fits : size ≤ length k = omega (arith, c.if-size-left.false, c.left.ensures) in
    let place : c.from_place-body.result ≡ body_place c.args.info.now start size = c.from_place-body.ensures in
    unit_follows c.args.abbrevs.now c.args.info.now c.args.at size start k c.from_place-body.result c.read_body.new.cut c.args.kept.now c.read_body.new.kept c.in_ok-abbrev_offset.abbrev_offset
    h fits place c.in_ok-abbrev_offset.ensures.taken c.in_ok-abbrev_offset.ensures.follows
