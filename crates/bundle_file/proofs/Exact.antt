-- The readers of bundle files are exact.
use Rattle.std.proofs.Common.{ℕ, ◌==◌, List, [], ◌∷◌, length, codes, refl, sym, ap, ◌∙◌}
use Rattle.rv_bytes.specs.Forms.{Form, follow, item}
use Rattle.rv_bytes.specs.Readers.{Res, got, bad, Reader, and_then, with_value, as_item}
use Rattle.rv_bytes.specs.Numbers.{bytes, number}
use Rattle.rv_bytes.specs.NumberReaders.{read_bytes, read_number}
use Rattle.rv_bytes.proofs.Exact.{Right, Exact, follow_exact, made_exact, item_exact, choose_exact}
use Rattle.rv_bytes.proofs.ByteNumbers.{bytes_exact, number_exact}
use Rattle.bundle_file.specs.Rules.{bad_magic, bad_header, bad_contents}
use Rattle.bundle_file.specs.Parts.{ruled, unless_word, exactly, unless_format, format, any_value, base, section}
use Rattle.bundle_file.specs.Files.{header, dwarf, cv, contents, bundle_form}
use Rattle.bundle_file.specs.Readers.{by_rule, read_exactly, read_format, read_base, read_section, read_header, read_dwarf, read_cv, read_contents, read_bundle}
use Rattle.bundle_file.specs.declared.sections.Bundle.{Bundle}

-- of a form whose faults all break one rule
ruled_exact : {M A : Type 0} (rule : ℕ) (F : Form M A) (f : Reader M A) → Exact F f → Exact (ruled rule F) (λ n s. by_rule rule (f n s))
ruled_exact {M} {A} rule F f e = record {
  reads = λ n v t k h. ap (by_rule rule) (e.reads n v t k h);
  refuses = λ n s r m h. ap (by_rule rule) (e.refuses n s h.1.0 m h.1.1) ∙ ap (λ q. bad q m) (sym h.0);
  right = λ n s. whole n s (f n s) (e.right n s);
}
  where
    whole : (n : ℕ) (s : List ℕ) (x : Res M A) → Right F n s x → Right (ruled rule F) n s (by_rule rule x)
    whole n s (got v m k) h = h
    whole n s (bad r m) h = (refl, (r, h))

exactly_exact : (rule : ℕ) (word : List ℕ) → Exact (exactly rule word) (read_exactly rule word)
exactly_exact rule word =
    ruled_exact rule (item (bytes (length word)) (unless_word rule word)) (λ n s. as_item (unless_word rule word) n (read_bytes (length word) n s))
    (item_exact (bytes (length word)) (read_bytes (length word)) (unless_word rule word) (bytes_exact (length word)))

format_exact : Exact format read_format
format_exact = ruled_exact bad_header (item (number 1) unless_format) (λ n s. as_item unless_format n (read_number 1 n s)) (item_exact (number 1) (read_number 1) unless_format (number_exact 1))

base_exact : Exact base read_base
base_exact = ruled_exact bad_contents (number 8) (read_number 8) (number_exact 8)

section_exact : Exact section read_section
section_exact =
    ruled_exact bad_contents (item (follow (number 4) bytes) any_value) (λ n s. as_item any_value n (and_then (read_number 4 n s) read_bytes))
    (item_exact (follow (number 4) bytes) (λ n s. and_then (read_number 4 n s) read_bytes) any_value (follow_exact (number 4) bytes (read_number 4) read_bytes (number_exact 4) bytes_exact))

header_exact : Exact header read_header
header_exact =
    follow_exact _ _ (read_exactly bad_magic (codes "RVBUNDL1")) _ (exactly_exact bad_magic (codes "RVBUNDL1")) (λ _.
    follow_exact _ _ read_format _ format_exact (λ f.
    follow_exact _ _ (read_exactly bad_header (8 ∷ [])) _ (exactly_exact bad_header (8 ∷ [])) (λ _.
    made_exact (λ _. f) (exactly bad_header (0 ∷ 0 ∷ [])) (read_exactly bad_header (0 ∷ 0 ∷ [])) (exactly_exact bad_header (0 ∷ 0 ∷ [])))))

dwarf_exact : Exact dwarf read_dwarf
dwarf_exact =
    follow_exact section _ read_section _ section_exact (λ a. follow_exact section _ read_section _ section_exact (λ i. follow_exact section _ read_section _ section_exact (λ t.
    follow_exact section _ read_section _ section_exact (λ l. follow_exact section _ read_section _ section_exact (λ o. follow_exact section _ read_section _ section_exact (λ d.
    follow_exact section _ read_section _ section_exact (λ c. made_exact (λ r. record { «abbrev» = a; info = i; text = t; line_text = l; text_offsets = o; addrs = d; locs = c; ranges = r }) section read_section section_exact)))))))

cv_exact : Exact cv read_cv
cv_exact =
    follow_exact base _ read_base _ base_exact (λ code. follow_exact base _ read_base _ base_exact (λ d. follow_exact section _ read_section _ section_exact (λ types.
    made_exact (λ symbols. record { code_base = code; data_base = d; types = types; symbols = symbols }) section read_section section_exact)))

contents_exact : (f : ℕ) → Exact (contents f) (read_contents f)
contents_exact f =
    choose_exact (f == 1) _ _ (λ n s. with_value Bundle.Dwarf (read_dwarf n s)) (λ n s. with_value Bundle.Cv (read_cv n s)) (made_exact Bundle.Dwarf dwarf read_dwarf dwarf_exact) (made_exact Bundle.Cv cv read_cv cv_exact)

pub bundle_exact : Exact bundle_form read_bundle
bundle_exact = follow_exact header contents read_header read_contents header_exact contents_exact
