-- The readers of abbreviation tables are exact.
use Rattle.std.proofs.Common.{◌<◌, ℕ, ◌==◌, false, List, [], ◌∷◌, length, Option, Some, None, pos, ap, arith, length-append}
use Rattle.rv_bytes.specs.Forms.{Splits, item, row}
use Rattle.rv_bytes.specs.Readers.{got, with_value, as_item}
use Rattle.rv_bytes.specs.Numbers.{number, uleb, sleb, IsUleb}
use Rattle.rv_bytes.specs.NumberReaders.{read_number, read_uleb, read_sleb}
use Rattle.rv_bytes.proofs.Exact.{Exact, nothing_exact, follow_exact, made_exact, item_exact, choose_exact}
use Rattle.rv_bytes.proofs.ByteNumbers.{number_exact}
use Rattle.rv_bytes.proofs.Lebs.{uleb_exact, sleb_exact}
use Rattle.rv_bytes.proofs.Rows.{HasBytes, AllExact, row_exact}
use Rattle.dwarf_abbrev.specs.FormCodes.{implicit_const}
use Rattle.dwarf_abbrev.specs.Tables.{form_breaks, pair_of, pair, pairs, code_breaks, tag_breaks, child_breaks, abbrev_of, decl_rest, decl, decls, fresh, kept, table}
use Rattle.dwarf_abbrev.specs.TableReaders.{read_pair, read_pairs, read_decl_rest, read_decl, read_decls, read_table}

-- of a number that may break a rule
uleb_item : (breaks : ℕ → Option ℕ) → Exact (item uleb breaks) (λ n s. as_item breaks n (read_uleb n s))
uleb_item breaks = item_exact uleb read_uleb breaks uleb_exact

pub pair_exact : Exact pair read_pair
pair_exact =
    follow_exact _ _ read_uleb _ uleb_exact (λ attr. follow_exact _ _ (λ m k. as_item (form_breaks attr) m (read_uleb m k)) _ (uleb_item (form_breaks attr))
    (λ form. choose_exact (form == implicit_const) _ _ (λ j l. with_value (pair_of attr form) (read_sleb j l)) _ (made_exact (pair_of attr form) sleb read_sleb sleb_exact) (nothing_exact (pair_of attr form (pos 0)))))

-- a LEB128 number has a byte
uleb_byte : (n : ℕ) (t : List ℕ) → IsUleb n t → 0 < length t
uleb_byte n t h = omega (arith, ap length h.0.bytes, length-append h.0.front (h.0.last ∷ []))

-- what begins with a byte has a byte
front_byte : (F : List ℕ → Type 0) (B : ℕ → List ℕ → Type 0) (n : ℕ) (t : List ℕ) → ((u : List ℕ) → F u → 0 < length u) → Splits F B n t → 0 < length t
front_byte F B n t f w = let one : 0 < length w.front = f w.front w.is_front in omega (arith, one, ap length w.split, length-append w.front w.back)

pub pairs_byte : HasBytes pairs
pairs_byte s n v t o h = front_byte _ _ n t (λ u w. uleb_byte h.0 u w) h.1

pub pairs_exact : Exact (row pairs false) read_pairs
pairs_exact = row_exact pairs (λ _. read_pair) 0 pairs_byte (λ s o. pair_exact) false

decl_rest_exact : (code : ℕ) → Exact (decl_rest code) (read_decl_rest code)
decl_rest_exact code = follow_exact _ _ (λ n s. as_item tag_breaks n (read_uleb n s)) _ (uleb_item tag_breaks) (λ tag.
    follow_exact _ _ (λ m k. as_item child_breaks m (read_number 1 m k)) _ (item_exact (number 1) (read_number 1) child_breaks (number_exact 1)) (λ child.
    made_exact (abbrev_of code tag child) (row pairs false) read_pairs pairs_exact))

pub decl_exact : (codes : List ℕ) → Exact (decl codes) (read_decl codes)
decl_exact codes = follow_exact _ _ (λ n s. as_item (code_breaks codes) n (read_uleb n s)) _ (uleb_item (code_breaks codes)) (λ code.
    choose_exact (code == 0) _ _ (λ m k. got None m k) _ (nothing_exact None) (made_exact (λ a. Some a) (decl_rest code) (read_decl_rest code) (decl_rest_exact code)))

pub decls_byte : HasBytes decls
decls_byte s n v t o h = front_byte _ _ n t (λ u w. uleb_byte h.0 u w.0) h.1

pub decls_all : AllExact decls (λ t. read_decl t.codes)
decls_all t o = decl_exact t.codes

pub table_exact : Exact table read_table
table_exact = made_exact kept (row decls fresh) (read_decls fresh) (row_exact decls (λ t. read_decl t.codes) 0 decls_byte decls_all fresh)
