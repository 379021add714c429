-- The reader of attributes' values is exact.
use Rattle.std.proofs.Common.{ℕ, true, Option, Some, None, ℤ}
use Rattle.rv_bytes.specs.Forms.{Form, follow}
use Rattle.rv_bytes.specs.Readers.{Reader, and_then}
use Rattle.rv_bytes.specs.Numbers.{bytes, number, uleb, sleb, zero_text}
use Rattle.rv_bytes.specs.NumberReaders.{read_bytes, read_number, read_uleb, read_sleb, read_zero_text}
use Rattle.rv_bytes.proofs.Exact.{Exact, nothing_exact, follow_exact, made_exact, item_exact, fails_exact}
use Rattle.rv_bytes.proofs.ByteNumbers.{bytes_exact, number_exact}
use Rattle.rv_bytes.proofs.Lebs.{uleb_exact, sleb_exact}
use Rattle.rv_bytes.proofs.ZeroTexts.{zero_text_exact}
use Rattle.dwarf_abbrev.specs.Rules.{unknown_form}
use Rattle.dwarf_abbrev.specs.Encodings.{encoding_of}
use Rattle.dwarf_abbrev.specs.Values.{Val, of_number, of_bytes, of_flag}
use Rattle.dwarf_abbrev.specs.Attrs.{any_value, counted, laid, attr_form}
use Rattle.dwarf_abbrev.specs.AttrReaders.{read_counted_by, read_laid, read_attr}
use Rattle.dwarf_abbrev.specs.declared.encoding.Encoding.{Encoding}
use Rattle.dwarf_abbrev.specs.declared.attr.Spec.{Spec}

-- of bytes after their length
counted_exact : (F : Form ℕ ℕ) (read : Reader ℕ ℕ) → Exact F read → Exact (counted F) (read_counted_by read)
counted_exact F read e = item_exact (follow F bytes) (λ n s. and_then (read n s) read_bytes) any_value (follow_exact F bytes read read_bytes e bytes_exact)

-- of the values of an encoding
laid_exact : (fixed : ℤ) (o : Option Encoding) → Exact (laid fixed o) (read_laid fixed o)
laid_exact fixed None = fails_exact unknown_form
laid_exact fixed (Some (Encoding.Number kind w)) = made_exact (of_number kind) (number w) (read_number w) (number_exact w)
laid_exact fixed (Some (Encoding.Leb kind)) = made_exact (of_number kind) uleb read_uleb uleb_exact
laid_exact fixed (Some Encoding.SignedLeb) = made_exact Val.Signed sleb read_sleb sleb_exact
laid_exact fixed (Some Encoding.Wide) = made_exact Val.Wide (number 16) (read_number 16) (number_exact 16)
laid_exact fixed (Some (Encoding.Counted kind w)) = made_exact (of_bytes kind) (counted (number w)) (read_counted_by (read_number w)) (counted_exact (number w) (read_number w) (number_exact w))
laid_exact fixed (Some (Encoding.LebCounted kind)) = made_exact (of_bytes kind) (counted uleb) (read_counted_by read_uleb) (counted_exact uleb read_uleb uleb_exact)
laid_exact fixed (Some Encoding.Text) = made_exact Val.Inline zero_text read_zero_text zero_text_exact
laid_exact fixed (Some Encoding.FlagByte) = made_exact of_flag (number 1) (read_number 1) (number_exact 1)
laid_exact fixed (Some Encoding.Present) = nothing_exact (Val.Flag true)
laid_exact fixed (Some Encoding.Implicit) = nothing_exact (Val.Signed fixed)

-- of an attribute's value
pub attr_exact : (spec : Spec) → Exact (attr_form spec) (read_attr spec)
attr_exact spec = laid_exact spec.fixed (encoding_of spec.form)
