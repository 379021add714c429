-- The operands of each kind of entry: DWARF 5, 2.6.2 and 2.17.3, with addresses of 8 bytes.
use Rattle.std.specs.Prelude.{ℕ}
use Rattle.rv_bytes.specs.Forms.{Form, nothing, follow, made}
use Rattle.rv_bytes.specs.Numbers.{number, uleb}
use Rattle.dwarf_list_entries.specs.declared.kind.Kind.{Kind}
use Rattle.dwarf_list_entries.specs.declared.operands.RawEntry.{RawEntry}
use Rattle.dwarf_list_entries.specs.declared.operands.RawEntry.TheVariants as raw

-- an address
abbrev pub address : Form ℕ ℕ
address = number 8

-- two numbers, one after the other
abbrev pub two : {A : Type 0} → (ℕ → ℕ → A) → Form ℕ ℕ → Form ℕ ℕ → Form ℕ A
two f F G = follow F (λ a. made (f a) G)

-- indexes, offsets and lengths are unsigned LEB128 numbers
abbrev pub operands : Kind → Form ℕ RawEntry
operands Kind.EndOfList = nothing raw.EndOfList
operands Kind.BaseAddressx = made raw.BaseAddressx uleb
operands Kind.StartxEndx = two raw.StartxEndx uleb uleb
operands Kind.StartxLength = two raw.StartxLength uleb uleb
operands Kind.OffsetPair = two raw.OffsetPair uleb uleb
operands Kind.BaseAddress = made raw.BaseAddress address
operands Kind.StartEnd = two raw.StartEnd address address
operands Kind.StartLength = two raw.StartLength address uleb
