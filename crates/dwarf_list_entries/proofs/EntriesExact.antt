-- The readers of entries are exact.
use Rattle.std.proofs.Common.{ℕ, Option, Some, None}
use Rattle.expr_eval.specs.Addresses.{Addresses}
use Rattle.rv_bytes.specs.Rules.{outside}
use Rattle.rv_bytes.specs.Forms.{Form, made, here}
use Rattle.rv_bytes.specs.Readers.{Reader, got, with_value}
use Rattle.rv_bytes.specs.Numbers.{bytes, number, uleb}
use Rattle.rv_bytes.specs.NumberReaders.{read_bytes, read_number, read_uleb}
use Rattle.rv_bytes.proofs.Exact.{Exact, nothing_exact, follow_exact, made_exact, here_exact, item_exact, choose_exact, fails_exact}
use Rattle.rv_bytes.proofs.ByteNumbers.{bytes_exact, number_exact}
use Rattle.rv_bytes.proofs.Lebs.{uleb_exact}
use Rattle.dwarf_list_entries.specs.Rules.{unknown_kind}
use Rattle.dwarf_list_entries.specs.Kinds.{location_kind, range_kind, has_expression}
use Rattle.dwarf_list_entries.specs.Operands.{address, two, operands}
use Rattle.dwarf_list_entries.specs.Entries.{looked_up, found, range_rest, any_value, range_entry}
use Rattle.dwarf_list_entries.specs.Locations.{bytes_at, located, counted, expression, location_rest, location_entry}
use Rattle.dwarf_list_entries.specs.Readers.{read_two, read_operands, read_found, read_range_rest, read_coded_range, read_range_entry, read_counted, read_expression, read_location_rest, read_coded_location, read_location_entry}
use Rattle.dwarf_list_entries.specs.declared.kind.Kind.{Kind}
use Rattle.dwarf_list_entries.specs.declared.operands.RawEntry.TheVariants as raw
use Rattle.dwarf_list_entries.specs.declared.entry.ListEntry.{ListEntry}

-- of two numbers
two_exact : {A : Type 0} (f : ℕ → ℕ → A) (F G : Form ℕ ℕ) (r s : Reader ℕ ℕ) → Exact F r → Exact G s → Exact (two f F G) (read_two f r s)
two_exact f F G r s e d = follow_exact F (λ a. made (f a) G) r (λ a m k. with_value (f a) (s m k)) e (λ a. made_exact (f a) G s d)

-- of an address
address_exact : Exact address (read_number 8)
address_exact = number_exact 8

-- of the operands of a kind
operands_exact : (kind : Kind) → Exact (operands kind) (read_operands kind)
operands_exact Kind.EndOfList = nothing_exact raw.EndOfList
operands_exact Kind.BaseAddressx = made_exact raw.BaseAddressx uleb read_uleb uleb_exact
operands_exact Kind.StartxEndx = two_exact raw.StartxEndx uleb uleb read_uleb read_uleb uleb_exact uleb_exact
operands_exact Kind.StartxLength = two_exact raw.StartxLength uleb uleb read_uleb read_uleb uleb_exact uleb_exact
operands_exact Kind.OffsetPair = two_exact raw.OffsetPair uleb uleb read_uleb read_uleb uleb_exact uleb_exact
operands_exact Kind.BaseAddress = made_exact raw.BaseAddress address (read_number 8) address_exact
operands_exact Kind.StartEnd = two_exact raw.StartEnd address address (read_number 8) (read_number 8) address_exact address_exact
operands_exact Kind.StartLength = two_exact raw.StartLength address uleb (read_number 8) read_uleb address_exact uleb_exact

-- of an entry that was looked up
found_exact : (o : Option ListEntry) → Exact (found o) (read_found o)
found_exact None = fails_exact outside
found_exact (Some e) = nothing_exact e

range_rest_exact : (addrs : Addresses) (o : Option Kind) → Exact (range_rest addrs o) (read_range_rest addrs o)
range_rest_exact addrs None = fails_exact unknown_kind
range_rest_exact addrs (Some kind) =
    follow_exact (operands kind) (λ raw. found (looked_up addrs raw)) (read_operands kind) (λ raw. read_found (looked_up addrs raw)) (operands_exact kind)
    (λ raw. found_exact (looked_up addrs raw))

-- of an entry of a range list
pub range_entry_exact : (addrs : Addresses) → Exact (range_entry addrs) (read_range_entry addrs)
range_entry_exact addrs =
    item_exact _ (read_coded_range addrs) any_value
    (follow_exact (number 1) (λ code. range_rest addrs (range_kind code)) (read_number 1) (λ code. read_range_rest addrs (range_kind code)) (number_exact 1) (λ code. range_rest_exact addrs (range_kind code)))

-- of so many bytes with their place
placed_exact : (count : ℕ) → Exact (here (λ n. made (bytes_at n) (bytes count))) (λ m k. with_value (bytes_at m) (read_bytes count m k))
placed_exact count = here_exact (λ n. made (bytes_at n) (bytes count)) (λ n m k. with_value (bytes_at n) (read_bytes count m k)) (λ n. made_exact (bytes_at n) (bytes count) (read_bytes count) (bytes_exact count))

counted_exact : Exact counted read_counted
counted_exact =
    follow_exact uleb (λ count. here (λ n. made (bytes_at n) (bytes count))) read_uleb (λ count m k. with_value (bytes_at m) (read_bytes count m k)) uleb_exact
    placed_exact

-- of the expression of an entry
expression_exact : (kind : Kind) → Exact (expression kind) (read_expression kind)
expression_exact kind =
    choose_exact (has_expression kind) _ _ (λ n s. with_value (λ b. Some b) (read_counted n s)) (λ n s. got None n s) (made_exact (λ b. Some b) counted read_counted counted_exact)
    (nothing_exact None)

location_rest_exact : (addrs : Addresses) (o : Option Kind) → Exact (location_rest addrs o) (read_location_rest addrs o)
location_rest_exact addrs None = fails_exact unknown_kind
location_rest_exact addrs (Some kind) =
    follow_exact (operands kind) _ (read_operands kind) _ (operands_exact kind)
    (λ raw. follow_exact (expression kind) (λ e. made (located e) (found (looked_up addrs raw))) (read_expression kind) (λ e j l. with_value (located e) (read_found (looked_up addrs raw) j l)) (expression_exact kind)
    (λ e. made_exact (located e) (found (looked_up addrs raw)) (read_found (looked_up addrs raw)) (found_exact (looked_up addrs raw))))

-- of an entry of a location list
pub location_entry_exact : (addrs : Addresses) → Exact (location_entry addrs) (read_location_entry addrs)
location_entry_exact addrs =
    item_exact _ (read_coded_location addrs) any_value
    (follow_exact (number 1) (λ code. location_rest addrs (location_kind code)) (read_number 1) (λ code. read_location_rest addrs (location_kind code)) (number_exact 1) (λ code. location_rest_exact addrs (location_kind code)))
