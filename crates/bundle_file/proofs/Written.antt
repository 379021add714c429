-- What is written of a bundle file is spelled.
use Rattle.std.proofs.Common.{◌≡◌, ◌<◌, ℕ, ◌^◌, List, [], ◌∷◌, ◌++◌, length, codes, None, refl, lit<}
use Rattle.std.proofs.lemmas.Slice.Eq.{bytes_eq-Decides}
use Rattle.byteorder.specs.Endian.{little_bytes}
use Rattle.rv_bytes.specs.Forms.{Form, follow, item}
use Rattle.rv_bytes.specs.Numbers.{bytes, number}
use Rattle.rv_bytes.specs.Writers.{IsPut}
use Rattle.rv_bytes.proofs.Puts.{put_then, put_made, put_item, put_number}
use Rattle.bundle_file.specs.Rules.{bad_magic, bad_header, bad_contents}
use Rattle.bundle_file.specs.Parts.{ruled, unless_word, exactly, number_of, unless_format, format, any_value, base, section}
use Rattle.bundle_file.specs.Sections.{IsSection}
use Rattle.bundle_file.specs.Files.{header, dwarf, cv, bundle_form, AppendsFile}
use Rattle.bundle_file.specs.declared.sections.DwarfSections.{DwarfSections}
use Rattle.bundle_file.specs.declared.sections.CvSections.{CvSections}
use Rattle.bundle_file.specs.declared.sections.Bundle.{Bundle}
use Rattle.bundle_file.specs.declared.sections.Format.{Format}

-- the rule doesn't matter to what is spelled
put_ruled : {A : Type 0} (rule : ℕ) (F : Form ℕ A) (v : A) (old new : List ℕ) → IsPut F v old new → IsPut (ruled rule F) v old new
put_ruled rule F v old new a = record { bytes = a.bytes; appended = a.appended; spelled = a.spelled }

-- these bytes
put_bytes : (t old new : List ℕ) → new ≡ old ++ t → IsPut (bytes (length t)) t old new
put_bytes t old new e = record { bytes = t; appended = e; spelled = λ n. (refl, refl) }

-- a word
put_word : (rule : ℕ) (word old new : List ℕ) → new ≡ old ++ word → IsPut (exactly rule word) word old new
put_word rule word old new e =
    let same : unless_word rule word word ≡ None = rw ((bytes_eq-Decides word word).1 refl) refl in
    put_ruled rule (item (bytes (length word)) (unless_word rule word)) word old new (put_item (bytes (length word)) (unless_word rule word) word old new same (put_bytes word old new e))

-- the number of a format
put_format : (f : Format) (old new : List ℕ) → new ≡ old ++ little_bytes 1 (number_of f) → IsPut format (number_of f) old new
put_format f old new e = put_ruled bad_header (item (number 1) unless_format) (number_of f) old new (put_item (number 1) unless_format (number_of f) old new (holds f) (put_number 1 (number_of f) old new (fits f) e))
  where
    holds : (f : Format) → unless_format (number_of f) ≡ None
    holds Format.Dwarf = refl
    holds Format.CodeView = refl

    fits : (f : Format) → number_of f < 256 ^ 1
    fits Format.Dwarf = lit< tt
    fits Format.CodeView = lit< tt

-- what comes before the contents
pub header_put : (f : Format) (old one two three new : List ℕ) → one ≡ old ++ codes "RVBUNDL1" → two ≡ one ++ little_bytes 1 (number_of f) → three ≡ two ++ little_bytes 1 8 → new ≡ three ++ little_bytes 2 0 → IsPut header (number_of f) old new
header_put f old one two three new a b c d =
    put_then (exactly bad_magic (codes "RVBUNDL1")) (λ _. _) (codes "RVBUNDL1") (number_of f) old one new (put_word bad_magic (codes "RVBUNDL1") old one a)
    (put_then format (λ f. _) (number_of f) (number_of f) one two new (put_format f one two b)
    (put_then (exactly bad_header (8 ∷ [])) (λ _. _) (8 ∷ []) (number_of f) two three new (put_word bad_header (8 ∷ []) two three c)
    (put_made (λ _. number_of f) (exactly bad_header (0 ∷ 0 ∷ [])) (0 ∷ 0 ∷ []) three new (put_word bad_header (0 ∷ 0 ∷ []) three new d))))

-- a base
pub base_put : (n : ℕ) (old new : List ℕ) → n < 2 ^ 64 → new ≡ old ++ little_bytes 8 n → IsPut base n old new
base_put n old new h e = put_ruled bad_contents (number 8) n old new (put_number 8 n old new h e)

-- a section, after its length
pub section_put : (s old one new : List ℕ) → IsSection s → one ≡ old ++ little_bytes 4 (length s) → new ≡ one ++ s → IsPut section s old new
section_put s old one new h a b =
    put_ruled bad_contents (item (follow (number 4) bytes) any_value) s old new
    (put_item (follow (number 4) bytes) any_value s old new refl (put_then (number 4) bytes (length s) s old one new (put_number 4 (length s) old one h a) (put_bytes s one new b)))

-- the sections of DWARF
pub dwarf_put : (s : DwarfSections) (old a i t l o d c new : List ℕ) → IsPut section s.abbrev old a → IsPut section s.info a i → IsPut section s.text i t → IsPut section s.line_text t l → IsPut section s.text_offsets l o → IsPut section s.addrs o d
    → IsPut section s.locs d c → IsPut section s.ranges c new → IsPut dwarf s old new
dwarf_put s old a i t l o d c new pa pi pt pl po pd pc pr =
    put_then section (λ _. _) s.abbrev s old a new pa (put_then section (λ _. _) s.info s a i new pi (put_then section (λ _. _) s.text s i t new pt (put_then section (λ _. _) s.line_text s t l new pl
    (put_then section (λ _. _) s.text_offsets s l o new po (put_then section (λ _. _) s.addrs s o d new pd (put_then section (λ _. _) s.locs s d c new pc
    (put_made (λ r. record { «abbrev» = s.abbrev; info = s.info; text = s.text; line_text = s.line_text; text_offsets = s.text_offsets; addrs = s.addrs; locs = s.locs; ranges = r }) section s.ranges c new pr)))))))

-- the bases and the sections of CodeView
pub cv_put : (s : CvSections) (old one two three new : List ℕ) → IsPut base s.code_base old one → IsPut base s.data_base one two → IsPut section s.types two three → IsPut section s.symbols three new → IsPut cv s old new
cv_put s old one two three new a b c d =
    put_then base (λ _. _) s.code_base s old one new a (put_then base (λ _. _) s.data_base s one two new b (put_then section (λ _. _) s.types s two three new c
    (put_made (λ symbols. record { code_base = s.code_base; data_base = s.data_base; types = s.types; symbols = symbols }) section s.symbols three new d)))

-- the contents, after the header
pub in_dwarf : (s : DwarfSections) (old mid new : List ℕ) → IsPut header 1 old mid → IsPut dwarf s mid new → IsPut bundle_form (Bundle.Dwarf s) old new
in_dwarf s old mid new a b = put_then header _ 1 (Bundle.Dwarf s) old mid new a (put_made Bundle.Dwarf dwarf s mid new b)

pub in_cv : (s : CvSections) (old mid new : List ℕ) → IsPut header 2 old mid → IsPut cv s mid new → IsPut bundle_form (Bundle.Cv s) old new
in_cv s old mid new a b = put_then header _ 2 (Bundle.Cv s) old mid new a (put_made Bundle.Cv cv s mid new b)

-- what was appended is a file
pub file_put : (b : Bundle) (old new : List ℕ) → IsPut bundle_form b old new → AppendsFile b old new
file_put b old new a = record { file = a.bytes; appended = a.appended; spelled = a.spelled 0 }
