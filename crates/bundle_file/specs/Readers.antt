-- The readers of bundle files, for proofs.
use Rattle.std.specs.Prelude.{ℕ, ◌==◌, if◌then◌else◌, List, [], ◌∷◌, length, codes}
use Rattle.rv_bytes.specs.Readers.{Res, got, bad, Reader, and_then, with_value, as_item}
use Rattle.rv_bytes.specs.NumberReaders.{read_bytes, read_number}
use Rattle.bundle_file.specs.Rules.{bad_magic, bad_header, bad_contents}
use Rattle.bundle_file.specs.Parts.{unless_word, unless_format, any_value}
use Rattle.bundle_file.specs.declared.sections.DwarfSections.{DwarfSections}
use Rattle.bundle_file.specs.declared.sections.CvSections.{CvSections}
use Rattle.bundle_file.specs.declared.sections.Bundle.{Bundle}

-- what was read; whatever is invalid breaks this rule
abbrev pub by_rule : {M A : Type 0} → ℕ → Res M A → Res M A
by_rule rule (got v n k) = got v n k
by_rule rule (bad r m) = bad rule m

-- the reader of `exactly`
abbrev pub read_exactly : ℕ → List ℕ → Reader ℕ (List ℕ)
read_exactly rule word n s = by_rule rule (as_item (unless_word rule word) n (read_bytes (length word) n s))

-- the reader of `format`
abbrev pub read_format : Reader ℕ ℕ
read_format n s = by_rule bad_header (as_item unless_format n (read_number 1 n s))

-- the reader of `base`
abbrev pub read_base : Reader ℕ ℕ
read_base n s = by_rule bad_contents (read_number 8 n s)

-- the reader of `section`
abbrev pub read_section : Reader ℕ (List ℕ)
read_section n s = by_rule bad_contents (as_item any_value n (and_then (read_number 4 n s) read_bytes))

-- the reader of `header`
abbrev pub read_header : Reader ℕ ℕ
read_header n s =
    and_then (read_exactly bad_magic (codes "RVBUNDL1") n s) (λ _ m k. and_then (read_format m k)
    (λ f j l. and_then (read_exactly bad_header (8 ∷ []) j l) (λ _ i h. with_value (λ _. f) (read_exactly bad_header (0 ∷ 0 ∷ []) i h))))

-- the reader of `dwarf`
abbrev pub read_dwarf : Reader ℕ DwarfSections
read_dwarf n s =
    and_then (read_section n s) (λ a n s. and_then (read_section n s) (λ i n s. and_then (read_section n s) (λ t n s. and_then (read_section n s) (λ l n s.
    and_then (read_section n s) (λ o n s. and_then (read_section n s) (λ d n s. and_then (read_section n s) (λ c n s.
    with_value (λ r. record { «abbrev» = a; info = i; text = t; line_text = l; text_offsets = o; addrs = d; locs = c; ranges = r }) (read_section n s))))))))

-- the reader of `cv`
abbrev pub read_cv : Reader ℕ CvSections
read_cv n s =
    and_then (read_base n s) (λ code n s. and_then (read_base n s) (λ d n s. and_then (read_section n s) (λ types n s.
    with_value (λ symbols. record { code_base = code; data_base = d; types = types; symbols = symbols }) (read_section n s))))

-- the reader of `contents`
abbrev pub read_contents : ℕ → Reader ℕ Bundle
read_contents f n s = if f == 1 then with_value Bundle.Dwarf (read_dwarf n s) else with_value Bundle.Cv (read_cv n s)

-- the reader of `bundle_form`
abbrev pub read_bundle : Reader ℕ Bundle
read_bundle n s = and_then (read_header n s) read_contents

-- no bytes are left over
abbrev pub at_end : {A : Type 0} → A → Reader ℕ A
at_end v n [] = got v n []
at_end v n (b ∷ s) = bad bad_contents n

-- a bundle that ends where the bytes do
abbrev pub read_file : Reader ℕ Bundle
read_file n s = and_then (read_bundle n s) at_end
