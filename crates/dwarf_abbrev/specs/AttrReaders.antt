-- The reader of attributes' values, for proofs.
use Rattle.std.specs.Prelude.{ℕ, true, List, Option, Some, None, ℤ}
use Rattle.rv_bytes.specs.Readers.{got, bad, Reader, and_then, with_value, as_item}
use Rattle.rv_bytes.specs.NumberReaders.{read_bytes, read_number, read_uleb, read_sleb, read_zero_text}
use Rattle.dwarf_abbrev.specs.Encodings.{encoding_of}
use Rattle.dwarf_abbrev.specs.Rules.{unknown_form}
use Rattle.dwarf_abbrev.specs.Values.{Val, of_number, of_bytes, of_flag}
use Rattle.dwarf_abbrev.specs.Attrs.{any_value}
use Rattle.dwarf_abbrev.specs.declared.encoding.Encoding.{Encoding}
use Rattle.dwarf_abbrev.specs.declared.attr.Spec.{Spec}

-- the reader of `counted` bytes, by that of their length
abbrev pub read_counted_by : Reader ℕ ℕ → Reader ℕ (List ℕ)
read_counted_by read_length n s = as_item any_value n (and_then (read_length n s) read_bytes)

-- the reader of `laid`
abbrev pub read_laid : ℤ → Option Encoding → Reader ℕ Val
read_laid fixed None n s = bad unknown_form n
read_laid fixed (Some (Encoding.Number kind w)) n s = with_value (of_number kind) (read_number w n s)
read_laid fixed (Some (Encoding.Leb kind)) n s = with_value (of_number kind) (read_uleb n s)
read_laid fixed (Some Encoding.SignedLeb) n s = with_value Val.Signed (read_sleb n s)
read_laid fixed (Some Encoding.Wide) n s = with_value Val.Wide (read_number 16 n s)
read_laid fixed (Some (Encoding.Counted kind w)) n s = with_value (of_bytes kind) (read_counted_by (read_number w) n s)
read_laid fixed (Some (Encoding.LebCounted kind)) n s = with_value (of_bytes kind) (read_counted_by read_uleb n s)
read_laid fixed (Some Encoding.Text) n s = with_value Val.Inline (read_zero_text n s)
read_laid fixed (Some Encoding.FlagByte) n s = with_value of_flag (read_number 1 n s)
read_laid fixed (Some Encoding.Present) n s = got (Val.Flag true) n s
read_laid fixed (Some Encoding.Implicit) n s = got (Val.Signed fixed) n s

-- the reader of `attr_form`
abbrev pub read_attr : Spec → Reader ℕ Val
read_attr spec n s = read_laid spec.fixed (encoding_of spec.form) n s
