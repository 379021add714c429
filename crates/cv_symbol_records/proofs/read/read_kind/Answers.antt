-- The contents are read by the kind's leaf, in the bytes after the kind.
use Rattle.std.proofs.Common.{◌≡◌, ◌-◌, length, sym, ap, subst, ◌∙◌}
use Rattle.rv_bytes.specs.Readers.{and_then}
use Rattle.rv_bytes.specs.Results.{Reads}
use Rattle.cv_parts.specs.RecordReaders.{read_kind_then}
use Rattle.cv_parts.proofs.Contents.{number_left}
use Rattle.cv_symbol_records.specs.SymbolReaders.{read_by_kind, read_by_leaf, read_contents}
use Rattle.cv_symbol_records.proofs.read.read_kind.Goals as goal

pub returns-in-Some : goal.returns-in-Some
returns-in-Some c =
    let size = length c.args.cut.now.rest in
    let at = c.u16.new.self.at in
    let rest = c.u16.new.self.rest in
    let e : read_kind_then read_contents size c.args.cut.now.at c.args.cut.now.rest ≡ read_by_kind c.in-Some.leaf (length rest) at rest =
    ap (λ x. and_then x (λ kind m k. read_contents kind (size - 2) m k)) c.in_ok-kind.ensures.reads
    ∙ ap (λ o. read_by_leaf o c.in_ok-kind.kind (size - 2) at rest) (sym c.leaf_of.ensures ∙ c.in-Some.is)
    ∙ ap (λ z. read_by_kind c.in-Some.leaf z at rest) (sym (number_left 2 c.args.cut.now.at c.args.cut.now.rest c.in_ok-kind.kind at rest c.in_ok-kind.ensures.reads)) in
    subst (λ x. Reads x c.read_by_kind.result c.read_by_kind.new.cut) (sym e) c.read_by_kind.ensures
