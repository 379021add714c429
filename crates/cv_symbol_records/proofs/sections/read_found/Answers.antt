-- The symbols are those to the end of the content.
use Rattle.std.proofs.Common.{◌≡◌, ◌==◌, true, List, drop, if◌then◌else◌, [], length, sym, ap, subst, eq-eqb}
use Rattle.rv_bytes.specs.Places.{Place}
use Rattle.rv_bytes.specs.Readers.{got}
use Rattle.cv_parts.specs.RecordReaders.{read_all}
use Rattle.cv_symbol_records.specs.Subsections.{symbols_kind}
use Rattle.cv_symbol_records.specs.SymbolReaders.{read_symbol}
use Rattle.cv_symbol_records.specs.Results.{ReadsOnto, ReadsInside}
use Rattle.cv_symbol_records.proofs.SectionReads.{onto_inside}
use Rattle.cv_symbol_records.proofs.sections.read_found.Goals as goal

pub returns : goal.returns
returns c =
    let start = c.args.found.now.start in
    let bytes = drop start c.args.found.now.bytes.now in
    let h = subst (λ (p : Place). ReadsOnto c.args.records.now (read_all (λ _. read_symbol) p.at p.rest) c.read_records.result c.read_records.new.records c.read_records.new.cut) c.from_place-content.ensures c.read_records.ensures in
    rw (eq-eqb c.args.found.now.kind symbols_kind c.if-found-ne-SYMBOLS.false) (onto_inside (read_all (λ _. read_symbol) start bytes) c.read_records.result c.args.records.now c.read_records.new.records c.read_records.new.cut h)
