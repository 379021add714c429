-- The entries of location lists: DWARF 5, 2.6.2 and 7.7.3.
use Rattle.std.specs.Prelude.{ℕ, List, Option, Some, None, option_map}
use Rattle.expr_eval.specs.Addresses.{Addresses}
use Rattle.rv_bytes.specs.Forms.{Form, nothing, follow, made, here, item, choose, fails}
use Rattle.rv_bytes.specs.Numbers.{bytes, number, uleb}
use Rattle.dwarf_list_entries.specs.Rules.{unknown_kind}
use Rattle.dwarf_list_entries.specs.Kinds.{location_kind, has_expression}
use Rattle.dwarf_list_entries.specs.Operands.{operands}
use Rattle.dwarf_list_entries.specs.Entries.{looked_up, found, any_value}
use Rattle.dwarf_list_entries.specs.declared.kind.Kind.{Kind}
use Rattle.dwarf_list_entries.specs.declared.entry.ListEntry.{ListEntry}
use Rattle.dwarf_list_entries.specs.declared.location.Expression.{Expression}
use Rattle.dwarf_list_entries.specs.declared.location.LocationEntry.{LocationEntry}

-- the bytes of an expression, and the place of the first of them
pub record Bytes : Type 0 where
  pub offset : ℕ
  pub bytes : List ℕ

-- an entry of a location list, and its expression
pub record Located : Type 0 where
  pub entry : ListEntry
  pub expression : Option Bytes

abbrev pub bytes_at : ℕ → List ℕ → Bytes
bytes_at n t = record { offset = n; bytes = t }

abbrev pub located : Option Bytes → ListEntry → Located
located expression entry = record { entry = entry; expression = expression }

-- the bytes that an `Expression` is
abbrev pub bytes_seen : Expression → Bytes
bytes_seen e = bytes_at e.offset e.bytes.now

-- the entry that a `LocationEntry` is
abbrev pub entry_seen : LocationEntry → Located
entry_seen e = located (option_map bytes_seen e.expression) e.entry

-- a length, and as many bytes, with their place
abbrev pub counted : Form ℕ Bytes
counted = follow uleb (λ count. here (λ n. made (bytes_at n) (bytes count)))

-- the expression of an entry of this kind, if it has one
abbrev pub expression : Kind → Form ℕ (Option Bytes)
expression kind = choose (has_expression kind) (made (λ b. Some b) counted) (nothing None)

-- what follows the code of a kind: operands, and an expression; a code of no kind is invalid, and so is an index without an address
abbrev pub location_rest : Addresses → Option Kind → Form ℕ Located
location_rest addrs None = fails unknown_kind
location_rest addrs (Some kind) = follow (operands kind) (λ raw. follow (expression kind) (λ e. made (located e) (found (looked_up addrs raw))))

-- an entry of a location list, which is one item
abbrev pub location_entry : Addresses → Form ℕ Located
location_entry addrs = item (follow (number 1) (λ code. location_rest addrs (location_kind code))) any_value
