-- The readers of abbreviation tables, for proofs.
use Rattle.std.specs.Prelude.{ℕ, ◌==◌, false, if◌then◌else◌, List, Option, Some, None, pos}
use Rattle.rv_bytes.specs.Readers.{got, Reader, and_then, with_value, as_item, read_row}
use Rattle.rv_bytes.specs.NumberReaders.{read_number, read_uleb, read_sleb}
use Rattle.dwarf_abbrev.specs.FormCodes.{implicit_const}
use Rattle.dwarf_abbrev.specs.Tables.{form_breaks, pair_of, after_pair, code_breaks, tag_breaks, child_breaks, abbrev_of, SoFar, after_decl, fresh, kept}
use Rattle.dwarf_abbrev.specs.declared.attr.Spec.{Spec}
use Rattle.dwarf_abbrev.specs.declared.decl.Abbrev.{Abbrev}

-- the reader of `pair`
abbrev pub read_pair : Reader ℕ Spec
read_pair n s =
    and_then (read_uleb n s) (λ attr m k. and_then (as_item (form_breaks attr) m (read_uleb m k))
    (λ form j l. if form == implicit_const then with_value (pair_of attr form) (read_sleb j l) else got (pair_of attr form (pos 0)) j l))

-- the reader of the row of `pairs`
abbrev pub read_pairs : Reader ℕ (List Spec)
read_pairs n s = read_row (λ b. b) (λ _. read_pair) after_pair 0 false n s

-- the reader of `decl_rest`
abbrev pub read_decl_rest : ℕ → Reader ℕ Abbrev
read_decl_rest code n s =
    and_then (as_item tag_breaks n (read_uleb n s)) (λ tag m k. and_then (as_item child_breaks m (read_number 1 m k))
    (λ child j l. with_value (abbrev_of code tag child) (read_pairs j l)))

-- the reader of `decl`
abbrev pub read_decl : List ℕ → Reader ℕ (Option Abbrev)
read_decl codes n s =
    and_then (as_item (code_breaks codes) n (read_uleb n s)) (λ code m k. if code == 0 then got None m k else with_value (λ a. Some a) (read_decl_rest code m k))

-- the reader of the row of `decls`
abbrev pub read_decls : SoFar → Reader ℕ (List (Option Abbrev))
read_decls t n s = read_row (λ t. t.ended) (λ t. read_decl t.codes) after_decl 0 t n s

-- the reader of `table`
abbrev pub read_table : Reader ℕ (List Abbrev)
read_table n s = with_value kept (read_decls fresh n s)
