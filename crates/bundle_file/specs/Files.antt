-- Bundle files: the eight bytes RVBUNDL1, the format, the pointer size 8, two zero bytes, and the sections of the format.
use Rattle.std.specs.Prelude.{◌≡◌, ℕ, ◌<◌, ◌==◌, List, [], ◌∷◌, ◌++◌, length, codes, ◌⊎◌}
use Rattle.rv_bytes.specs.Forms.{Form, Splits, follow, made, choose}
use Rattle.rv_bytes.specs.declared.err.DwErr.{DwErr}
use Rattle.layout_set.specs.declared.refusal.Section.{Section}
use Rattle.layout_set.specs.declared.refusal.ReadErr.{ReadErr}
use Rattle.bundle_file.specs.Rules.{bad_magic, bad_header, bad_contents}
use Rattle.bundle_file.specs.Parts.{exactly, format, base, section}
use Rattle.bundle_file.specs.declared.sections.DwarfSections.{DwarfSections}
use Rattle.bundle_file.specs.declared.sections.CvSections.{CvSections}
use Rattle.bundle_file.specs.declared.sections.Bundle.{Bundle}

-- what comes before the contents; its value is the number of the format
abbrev pub header : Form ℕ ℕ
header = follow (exactly bad_magic (codes "RVBUNDL1")) (λ _. follow format (λ f. follow (exactly bad_header (8 ∷ [])) (λ _. made (λ _. f) (exactly bad_header (0 ∷ 0 ∷ [])))))

-- .debug_abbrev, .debug_info, .debug_str, .debug_line_str, .debug_str_offsets, .debug_addr, .debug_loclists, .debug_rnglists
abbrev pub dwarf : Form ℕ DwarfSections
dwarf =
    follow section (λ a. follow section (λ i. follow section (λ t. follow section (λ l. follow section (λ o. follow section (λ d. follow section (λ c.
    made (λ r. record { «abbrev» = a; info = i; text = t; line_text = l; text_offsets = o; addrs = d; locs = c; ranges = r }) section)))))))

-- the addresses at which code and data begin, .debug$T and .debug$S
abbrev pub cv : Form ℕ CvSections
cv = follow base (λ code. follow base (λ d. follow section (λ types. made (λ symbols. record { code_base = code; data_base = d; types = types; symbols = symbols }) section)))

-- the sections of the format of this number
abbrev pub contents : ℕ → Form ℕ Bundle
contents f = choose (f == 1) (made Bundle.Dwarf dwarf) (made Bundle.Cv cv)

-- a bundle, whatever follows it
abbrev pub bundle_form : Form ℕ Bundle
bundle_form = follow header contents

-- the file spells the bundle, and has nothing after it
abbrev pub IsBundleFile : List ℕ → Bundle → Type 0
IsBundleFile file b = bundle_form.spells 0 b file

-- a bundle ends at this place of the file, and bytes are left over
abbrev pub EndsBefore : List ℕ → ℕ → Type 0
EndsBefore file at = (b : Bundle) × Splits (bundle_form.spells 0 b) (λ n rest. (at ≡ n) × (0 < length rest)) 0 file

-- the first invalid item of the file stands at this offset, and breaks this rule
abbrev pub IsInvalidAt : List ℕ → ℕ → ℕ → Type 0
IsInvalidAt file rule offset = bundle_form.faults 0 file rule offset ⊎ ((rule ≡ bad_contents) × EndsBefore file offset)

-- the refusal is right of the file; memory may always run out
abbrev pub IsNoBundleFile : List ℕ → ReadErr → Type 0
IsNoBundleFile file (ReadErr.Refused refusal) = (refusal.section ≡ Section.Bundle) × IsInvalidAt file refusal.rule refusal.offset
IsNoBundleFile file ReadErr.Memory = Unit {0}

-- the refusal of an item of the bundle file
abbrev pub in_bundle : DwErr → ReadErr
in_bundle (DwErr.Refused offset rule) = ReadErr.Refused (record { section = Section.Bundle; offset = offset; rule = rule })
in_bundle DwErr.Memory = ReadErr.Memory

-- the bytes of a file that spells the bundle were appended
pub record AppendsFile (b : Bundle) (old new : List ℕ) : Type 0 where
  pub file : List ℕ
  pub appended : new ≡ old ++ file
  pub spelled : IsBundleFile file b
