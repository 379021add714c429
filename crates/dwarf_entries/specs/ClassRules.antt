-- The rule that a value breaks by its class, or as a number of its field: DWARF 5, 7.5.5.
use Rattle.std.specs.Prelude.{ℕ, ◌^◌, nat_lt, Bool, true, false, if◌then◌else◌, Option, Some, None}
use Rattle.dwarf_abbrev.specs.Values.{Val}
use Rattle.dwarf_entries.specs.Lookups.{natural_in}
use Rattle.dwarf_entries.specs.Rules.{wrong_class, no_fit}
use Rattle.dwarf_entries.specs.declared.class.Class.{Class}
use Rattle.dwarf_entries.specs.declared.class.Kind.{Kind}

-- the class of a value; an offset in another section and the indexes of the two kinds of lists are told apart
abbrev pub kind_of : Val → Kind
kind_of (Val.Addr n) = Kind.Address
kind_of (Val.AddrIndex n) = Kind.Address
kind_of (Val.Unsigned n) = Kind.Constant
kind_of (Val.Signed z) = Kind.Constant
kind_of (Val.Wide n) = Kind.Constant
kind_of (Val.Block b) = Kind.Block
kind_of (Val.Expr b) = Kind.Expression
kind_of (Val.Flag b) = Kind.Flag
kind_of (Val.Inline b) = Kind.String
kind_of (Val.StrAt n) = Kind.String
kind_of (Val.LineStrAt n) = Kind.String
kind_of (Val.StrIndex n) = Kind.String
kind_of (Val.UnitRef n) = Kind.Reference
kind_of (Val.InfoRef n) = Kind.Reference
kind_of (Val.SecOffset n) = Kind.SectionOffset
kind_of (Val.LocIndex n) = Kind.LocationIndex
kind_of (Val.RangeIndex n) = Kind.RangeIndex

-- whether a value of this kind may be where the class is wanted
abbrev pub is_wanted : Class → Kind → Bool
is_wanted Class.Text Kind.String = true
is_wanted Class.Link Kind.Reference = true
is_wanted Class.Size Kind.Constant = true
is_wanted Class.Count Kind.Constant = true
is_wanted Class.Constant Kind.Constant = true
is_wanted Class.ConstantOrBlock Kind.Constant = true
is_wanted Class.ConstantOrBlock Kind.Block = true
is_wanted Class.Address Kind.Address = true
is_wanted Class.AddressOrConstant Kind.Address = true
is_wanted Class.AddressOrConstant Kind.Constant = true
is_wanted Class.Base Kind.SectionOffset = true
is_wanted Class.Location Kind.Expression = true
is_wanted Class.Location Kind.SectionOffset = true
is_wanted Class.Location Kind.LocationIndex = true
is_wanted Class.Ranges Kind.SectionOffset = true
is_wanted Class.Ranges Kind.RangeIndex = true
is_wanted Class.Flag Kind.Flag = true
is_wanted _ _ = false

abbrev pub is_below : ℕ → Option ℕ → Bool
is_below limit None = false
is_below limit (Some n) = nat_lt n limit

-- the rule that a number breaks in a field of so many bits without a sign
abbrev pub width_rule : ℕ → Option ℕ → Option ℕ
width_rule bits n = if is_below (2 ^ bits) n then None else Some no_fit

-- the rule that a value of the wanted class breaks as a number of its field
abbrev pub field_rule : Class → Val → Option ℕ
field_rule Class.Size v = width_rule 32 (natural_in v)
field_rule Class.Count v = width_rule 64 (natural_in v)
field_rule _ v = None

-- the rule that a value breaks by itself, where this class is wanted
abbrev pub class_rule : Class → Val → Option ℕ
class_rule class v = if is_wanted class (kind_of v) then field_rule class v else Some wrong_class
