-- The items of an attribute that is looked at: itself, what it leads to, and what its name must be.
use Rattle.std.specs.Prelude.{ℕ, ◌+◌, nat_eq, if◌then◌else◌, List, [], ◌∷◌, ◌++◌, drop, flat_map, filter, reverse, is_some, Option, Some, None, option_and_then}
use Rattle.std.specs.Option.{option_or}
use Rattle.std.specs.List.{list_any}
use Rattle.rv_bytes.specs.NumberReaders.{read_uleb}
use Rattle.rv_bytes.specs.Readers.{Res, got, bad}
use Rattle.rv_bytes.specs.Rules.{no_text, outside}
use Rattle.dwarf_entries.specs.AddressOps.{address_at}
use Rattle.dwarf_entries.specs.ClassRules.{class_rule}
use Rattle.dwarf_entries.specs.Codes.{at_name}
use Rattle.dwarf_entries.specs.Dies.{Die, Info, ancestors, die_at, target_of, what}
use Rattle.dwarf_entries.specs.Items.{Item, in_info, item_at}
use Rattle.dwarf_entries.specs.Lookups.{attribute_of}
use Rattle.dwarf_entries.specs.NameRoles.{Role}
use Rattle.dwarf_entries.specs.Names.{is_too_long, is_word}
use Rattle.dwarf_entries.specs.Rules.{no_entry, no_word}
use Rattle.dwarf_entries.specs.Shapes.{Attribute, Entry}
use Rattle.dwarf_entries.specs.Statics.{address_op_in}
use Rattle.dwarf_entries.specs.Tags.{passes, is_named_scope}
use Rattle.dwarf_entries.specs.Texts.{Found, text_found, address_in}
use Rattle.dwarf_entries.specs.declared.static_address.AddressOp.{AddressOp}
use Rattle.dwarf_entries.specs.declared.class.Class.{Class}

-- the rule is broken where nothing is there
abbrev pub unless_there : {A : Type 0} → ℕ → Option A → Option ℕ
unless_there rule None = Some rule
unless_there rule (Some a) = None

-- the rule that a value of the right class breaks by where it leads
abbrev pub lead_rule : Info → Die → Attribute → Class → Option ℕ
lead_rule info d a Class.Text = unless_there outside (text_found info.sections d.bases a)
lead_rule info d a Class.Link = unless_there no_entry (option_and_then (die_at info) (target_of d.start a.value))
lead_rule info d a Class.Address = unless_there outside (address_in info.sections d.bases a.value)
lead_rule info d a _ = None

-- the rule that an attribute breaks: by its class, or by where it leads
abbrev pub attribute_rule : Info → Die → Attribute → Class → Option ℕ
attribute_rule info d a class = option_or (class_rule class a.value) (lead_rule info d a class)

-- an attribute itself, where it stands
abbrev pub own_item : Info → Die → Attribute → Class → Item
own_item info d a class = item_at (in_info a.offset) (attribute_rule info d a class)

abbrev pub found_items : Option Found → List Item
found_items None = []
found_items (Some f) = item_at f.spot f.rule ∷ []

-- the text of an attribute, where it stands
abbrev pub text_items : Info → Die → Attribute → List Item
text_items info d a = own_item info d a Class.Text ∷ found_items (text_found info.sections d.bases a)

abbrev word_rule : Option Found → Option ℕ
word_rule None = None
word_rule (Some f) = if is_some f.rule then None else if is_word f.text then None else Some no_word

-- the rule that a name breaks by what it must be; a text that is none breaks it not
abbrev pub role_rule : Info → Die → Attribute → Role → Option ℕ
role_rule info d a Role.word = word_rule (text_found info.sections d.bases a)
role_rule info d a Role.joined = if is_too_long info d then Some no_text else None
role_rule info d a Role.plain = None

-- a name: the attribute, its text, and then what it must be, at the attribute
abbrev pub name_items : Info → Die → Attribute → Role → List Item
name_items info d a role = text_items info d a ++ item_at (in_info a.offset) (role_rule info d a role) ∷ []

abbrev past_of : Res ℕ ℕ → ℕ
past_of (got v past rest) = past
past_of (bad rule at) = at

-- where the bytes of an expression begin: after their length
abbrev pub expression_place : Info → Attribute → ℕ
expression_place info a = past_of (read_uleb a.offset (drop a.offset info.sections.info))

abbrev op_items : Info → Die → Attribute → Option AddressOp → List Item
op_items info d a None = []
op_items info d a (Some op) =
    item_at (in_info (expression_place info a + op.place)) (unless_there outside (address_at info.sections d.bases op.address)) ∷ []

-- the one operation of a static's location that may lead outside, where its bytes stand
abbrev pub location_items : Info → Die → Attribute → List Item
location_items info d a = op_items info d a (address_op_in a.value)

-- attributes without those whose code was there before: the first of each kind
abbrev pub firsts_after : List ℕ → List Attribute → List Attribute
firsts_after seen [] = []
firsts_after seen (a ∷ attributes) =
    if list_any (nat_eq a.code) seen then firsts_after seen attributes else a ∷ firsts_after (a.code ∷ seen) attributes

abbrev pub firsts : Entry → List Attribute
firsts e = firsts_after [] e.attributes

abbrev text_items_if : Info → Die → Option Attribute → List Item
text_items_if info d None = []
text_items_if info d (Some a) = text_items info d a

-- the texts of the names around an entry, the outermost first
abbrev pub around_items : Info → Die → List Item
around_items info d =
    flat_map (λ o. text_items_if info o (attribute_of at_name o.entry)) (reverse (filter (λ o. passes is_named_scope (what o)) (ancestors d)))
