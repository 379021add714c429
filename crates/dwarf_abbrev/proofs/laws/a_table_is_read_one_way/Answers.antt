-- An exact reader makes a form definite.
use Rattle.rv_bytes.proofs.Exact.{definite}
use Rattle.rv_bytes.proofs.Sections.{one_answer}
use Rattle.dwarf_abbrev.specs.Attrs.{attr_form}
use Rattle.dwarf_abbrev.specs.AttrReaders.{read_attr}
use Rattle.dwarf_abbrev.specs.Rules.{table_outside}
use Rattle.dwarf_abbrev.specs.Tables.{table}
use Rattle.dwarf_abbrev.specs.TableReaders.{read_table}
use Rattle.dwarf_abbrev.proofs.Attrs.{attr_exact}
use Rattle.dwarf_abbrev.proofs.Tables.{table_exact}
use Rattle.dwarf_abbrev.proofs.laws.a_table_is_read_one_way.Goals as goal

pub returns-clause-table : goal.returns-clause-table
returns-clause-table c = definite table read_table table_exact

pub returns-clause-section : goal.returns-clause-section
returns-clause-section c = one_answer table_outside table (definite table read_table table_exact)

pub returns-clause-attributes : goal.returns-clause-attributes
returns-clause-attributes c spec = definite (attr_form spec) (read_attr spec) (attr_exact spec)
