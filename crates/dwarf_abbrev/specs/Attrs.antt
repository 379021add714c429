-- The bytes that the value of an attribute may have: DWARF 5, 7.5.5 and 7.5.6.
use Rattle.std.specs.Prelude.{ℕ, true, List, Option, Some, None, ℤ}
use Rattle.rv_bytes.specs.Forms.{Form, nothing, follow, made, item, fails}
use Rattle.rv_bytes.specs.Numbers.{bytes, number, uleb, sleb, zero_text}
use Rattle.dwarf_abbrev.specs.Encodings.{encoding_of}
use Rattle.dwarf_abbrev.specs.Rules.{unknown_form}
use Rattle.dwarf_abbrev.specs.Values.{Val, of_number, of_bytes, of_flag}
use Rattle.dwarf_abbrev.specs.declared.encoding.Encoding.{Encoding}
use Rattle.dwarf_abbrev.specs.declared.attr.Spec.{Spec}

-- no value of the item breaks a rule
abbrev pub any_value : {A : Type 0} → A → Option ℕ
any_value v = None

-- a length, and as many bytes as it says, which are one item at the place of the length
abbrev pub counted : Form ℕ ℕ → Form ℕ (List ℕ)
counted length_form = item (follow length_form bytes) any_value

-- the values of an encoding; where there is none, rule 28 is broken whatever follows
abbrev pub laid : ℤ → Option Encoding → Form ℕ Val
laid fixed None = fails unknown_form
laid fixed (Some (Encoding.Number kind w)) = made (of_number kind) (number w)
laid fixed (Some (Encoding.Leb kind)) = made (of_number kind) uleb
laid fixed (Some Encoding.SignedLeb) = made Val.Signed sleb
laid fixed (Some Encoding.Wide) = made Val.Wide (number 16)
laid fixed (Some (Encoding.Counted kind w)) = made (of_bytes kind) (counted (number w))
laid fixed (Some (Encoding.LebCounted kind)) = made (of_bytes kind) (counted uleb)
laid fixed (Some Encoding.Text) = made Val.Inline zero_text
laid fixed (Some Encoding.FlagByte) = made of_flag (number 1)
laid fixed (Some Encoding.Present) = nothing (Val.Flag true)
laid fixed (Some Encoding.Implicit) = nothing (Val.Signed fixed)

-- the value that an attribute has by its form
abbrev pub attr_form : Spec → Form ℕ Val
attr_form spec = laid spec.fixed (encoding_of spec.form)
