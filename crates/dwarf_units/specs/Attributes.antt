-- The attributes of an entry, as they are read again at its place: DWARF 5, 7.5.4.
use Rattle.std.specs.Prelude.{ℕ, ◌+◌, nat_le, if◌then◌else◌, List, [], ◌∷◌, length, take, drop, Option, Some, None, slice_get, option_and_then, option_map}
use Rattle.rv_bytes.specs.NumberReaders.{read_uleb}
use Rattle.rv_bytes.specs.Places.{Place}
use Rattle.rv_bytes.specs.Readers.{Res, got, bad}
use Rattle.dwarf_abbrev.specs.Declarations.{find_code}
use Rattle.dwarf_abbrev.specs.Values.{val_of}
use Rattle.dwarf_abbrev.specs.declared.attr.Spec.{Spec}
use Rattle.dwarf_abbrev.specs.declared.decl.Abbrev.{Abbrev}
use Rattle.entry_tree.specs.declared.node.Node.{Node}
use Rattle.dwarf_units.specs.Entries.{Attribute, Entry}
use Rattle.dwarf_units.specs.EntryReaders.{read_attribute}
use Rattle.dwarf_units.specs.Kept.{table_at}
use Rattle.dwarf_units.specs.declared.attributes.EntryAttribute.{EntryAttribute}
use Rattle.dwarf_units.specs.declared.header.UnitHeader.{UnitHeader}
use Rattle.dwarf_units.specs.declared.units.Units.{Units}

-- an attribute, with its bytes as a list
abbrev pub attribute_seen : EntryAttribute → Attribute
attribute_seen a = record { attr = a.attr; form = a.form; offset = a.offset; value = val_of a.value }

-- the attributes of an entry, where there is one
abbrev pub attributes_at : List Entry → ℕ → Option (List Attribute)
attributes_at es number = option_map (λ e. e.attributes) (slice_get es number)

-- a value, and those that can be read after it
abbrev pub listed : Res ℕ Attribute → (ℕ → List ℕ → List Attribute) → List Attribute
listed (got v m k) more = v ∷ more m k
listed (bad r m) more = []

-- the attributes of these codes and forms, up to one that is invalid
abbrev pub readable : List Spec → ℕ → List ℕ → List Attribute
readable [] n s = []
readable (x ∷ specs) n s = listed (read_attribute x n s) (readable specs)

-- the declaration of an entry, in its unit's table
abbrev pub declaration_of : Units → Node → Option Abbrev
declaration_of kept n = option_and_then (λ h. option_and_then (λ t. find_code t n.code) (table_at kept.tables h.abbrev_offset)) (slice_get kept.headers n.unit)

-- the bytes of the section up to a unit's end
abbrev pub bytes_to : List ℕ → UnitHeader → Option (List ℕ)
bytes_to info h = if nat_le (h.offset + (h.unit_length + 4)) (length info) then Some (take (h.offset + (h.unit_length + 4)) info) else None

-- the place after a number that was read
abbrev pub past : Res ℕ ℕ → Option Place
past (got code m k) = Some (record { at = m; rest = k })
past (bad r m) = None

-- the place behind the code of an entry
abbrev pub behind_code : List ℕ → ℕ → Option Place
behind_code unit offset = if nat_le offset (length unit) then past (read_uleb offset (drop offset unit)) else None

-- what can be read of the attributes of an entry at its place
abbrev pub readable_at : Units → List ℕ → Node → Option (List Attribute)
readable_at kept info n =
    option_and_then (λ a. option_and_then (λ unit. option_map (λ p. readable a.specs p.at p.rest) (behind_code unit n.offset)) (option_and_then (bytes_to info) (slice_get kept.headers n.unit)))
    (declaration_of kept n)
