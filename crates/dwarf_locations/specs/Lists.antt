-- Location lists, with what their expressions say: DWARF 5, 2.6.2 and 7.7.3.
use Rattle.std.specs.Prelude.{◌≡◌, ℕ, ◌+◌, nat_lt, Bool, false, if◌then◌else◌, List, [], ◌∷◌, ◌++◌, Option, Some, None}
use Rattle.expr_bytes.specs.declared.place.Frame.{Frame}
use Rattle.expr_eval.specs.Addresses.{Addresses}
use Rattle.rv_bytes.specs.Forms.{Form, Steps, follow, made, row}
use Rattle.dwarf_list_entries.specs.Entries.{base_after, bounds_from}
use Rattle.dwarf_list_entries.specs.Locations.{Bytes, Located, location_entry}
use Rattle.dwarf_list_entries.specs.declared.entry.Bounds.{Bounds}
use Rattle.dwarf_list_entries.specs.declared.entry.ListEntry.{ListEntry}
use Rattle.dwarf_lists.specs.Ranges.{is_end}
use Rattle.dwarf_locations.specs.Expressions.{BreakAt, SayLocation}
use Rattle.layout_set.specs.declared.func.Entry.{Entry}
use Rattle.layout_set.specs.declared.func.Loc.{Loc}

-- an entry of a list, and the location that its expression says, if it has one that says one
pub record Said : Type 0 where
  pub entry : ListEntry
  pub loc : Option Loc

abbrev pub SayOf : Frame → Addresses → Option Bytes → Option Loc → Type 0
SayOf frame addrs None loc = loc ≡ None
SayOf frame addrs (Some b) loc = SayLocation frame addrs b.bytes loc

-- an operation of the expression is the first that breaks a rule, in bytes from the section's start
abbrev pub BreakIn : Frame → Addresses → Option Bytes → ℕ → ℕ → Type 0
BreakIn frame addrs None rule at = ⊥
BreakIn frame addrs (Some b) rule at = (k : ℕ) × (BreakAt frame addrs b.bytes rule k × (at ≡ b.offset + k))

-- what the expression of an entry says, or the first rule that it breaks; it is behind its entry
abbrev pub says : Frame → Addresses → Located → Form ℕ Said
says frame addrs e = record {
  spells = λ n v t. (t ≡ []) × ((v.entry ≡ e.entry) × SayOf frame addrs e.expression v.loc);
  faults = λ n s r m. BreakIn frame addrs e.expression r m;
}

-- an entry, which is one item, and the operations of its expression
abbrev pub said_entry : Frame → Addresses → Form ℕ Said
said_entry frame addrs = follow (location_entry addrs) (says frame addrs)

abbrev pub after_said : Bool → Said → Bool
after_said _ e = is_end e.entry

-- entries, of which the last, and no other, is the end of the list
abbrev pub said_entries : Frame → Addresses → Steps Bool Said ℕ
said_entries frame addrs = record { over = λ b. b; due = λ _. said_entry frame addrs; next = after_said }

-- where a variable is within these bounds, if there are addresses between them
abbrev pub within_bounds : Option Bounds → Option Loc → List Entry
within_bounds None loc = []
within_bounds (Some b) None = []
within_bounds (Some b) (Some loc) = if nat_lt b.lo b.hi then record { lo = b.lo; hi = b.hi; loc = loc } ∷ [] else []

-- where a variable is by the entries of a list, each from the base that those before it leave
abbrev pub entries : ℕ → List Said → List Entry
entries base [] = []
entries base (e ∷ es) = within_bounds (bounds_from base e.entry) e.loc ++ entries (base_after base e.entry) es

-- a location list, and where it says that a variable is
abbrev pub location_list : Frame → Addresses → ℕ → Form ℕ (List Entry)
location_list frame addrs base = made (entries base) (row (said_entries frame addrs) false)
