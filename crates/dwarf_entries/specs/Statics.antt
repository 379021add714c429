-- Statics: variables outside functions and types, and their addresses. DWARF 5, 4.1 and 2.6.1.1.2.
use Rattle.std.specs.Prelude.{ℕ, ◌&&◌, not, Bool, true, false, Option, None, option_and_then, unwrap_or}
use Rattle.dwarf_abbrev.specs.Values.{Val}
use Rattle.dwarf_entries.specs.AddressOps.{address_op_of, address_at}
use Rattle.dwarf_entries.specs.Codes.{at_location, at_name, at_type}
use Rattle.dwarf_entries.specs.Dies.{Die, Info, what}
use Rattle.dwarf_entries.specs.Lookups.{value_of}
use Rattle.dwarf_entries.specs.Names.{name_of}
use Rattle.dwarf_entries.specs.Origins.{bearer_of}
use Rattle.dwarf_entries.specs.PassedOver.{is_in_function, is_passed}
use Rattle.dwarf_entries.specs.Tags.{passes}
use Rattle.dwarf_entries.specs.TypeLinks.{type_of, or_unit}
use Rattle.dwarf_entries.specs.declared.static_address.AddressOp.{AddressOp}
use Rattle.dwarf_entries.specs.declared.tag.Tag.{Tag}
use Rattle.layout_set.specs.declared.set.Static.{Static}

abbrev is_variable_tag : Tag → Bool
is_variable_tag Tag.Variable = true
is_variable_tag _ = false

-- the entry is a static
abbrev pub is_static : Info → Die → Bool
is_static info d = passes is_variable_tag (what d) && (not (is_in_function d) && not (is_passed info d))

abbrev pub address_op_in : Val → Option AddressOp
address_op_in (Val.Expr bytes) = address_op_of bytes
address_op_in _ = None

-- the operation that alone is the location of an entry, where that is one of an address; whatever else says none
abbrev pub address_op : Die → Option AddressOp
address_op d = option_and_then address_op_in (value_of at_location d.entry)

-- the address of a static, if it has one
abbrev pub static_address : Info → Die → Option ℕ
static_address info d = option_and_then (λ op. address_at info.sections d.bases op.address) (address_op d)

-- a static: its name and its type may be those of an origin
abbrev pub static_of : Info → Die → Static
static_of info d = record {
  name = name_of info (unwrap_or (bearer_of at_name info d) d);
  ty = or_unit (type_of info (unwrap_or (bearer_of at_type info d) d));
  addr = static_address info d;
}
