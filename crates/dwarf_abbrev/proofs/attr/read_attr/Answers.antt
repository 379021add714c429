-- The reader's words carry over, since it is exact.
use Rattle.std.proofs.Common.{rules}
use Rattle.rv_bytes.specs.Results.{ReadsBy}
use Rattle.rv_bytes.proofs.Calls.{taken_by, refused_by}
use Rattle.dwarf_abbrev.specs.Values.{val_of}
use Rattle.dwarf_abbrev.specs.Attrs.{attr_form}
use Rattle.dwarf_abbrev.specs.AttrReaders.{read_attr}
use Rattle.dwarf_abbrev.proofs.Attrs.{attr_exact}
use Rattle.dwarf_abbrev.proofs.attr.read_attr.Goals as goal

pub returns-in-Some-clause-taken : goal.returns-in-Some-clause-taken
returns-in-Some-clause-taken c =
    let h : ReadsBy val_of (read_attr c.args.spec.now c.args.cut.now.at c.args.cut.now.rest) c.read_laid.result c.read_laid.new.cut = search rules in
    taken_by (attr_form c.args.spec.now) (read_attr c.args.spec.now) (attr_exact c.args.spec.now) val_of c.args.cut.now c.read_laid.new.cut c.read_laid.result h

pub returns-in-Some-clause-refused : goal.returns-in-Some-clause-refused
returns-in-Some-clause-refused c =
    let h : ReadsBy val_of (read_attr c.args.spec.now c.args.cut.now.at c.args.cut.now.rest) c.read_laid.result c.read_laid.new.cut = search rules in
    refused_by (attr_form c.args.spec.now) (read_attr c.args.spec.now) (attr_exact c.args.spec.now) val_of c.args.cut.now c.read_laid.new.cut c.read_laid.result h
