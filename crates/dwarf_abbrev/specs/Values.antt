-- The values of attributes as contracts see them: DWARF 5, 7.5.5.
use Rattle.std.specs.Prelude.{ℕ, ◌==◌, not, Bool, List, ℤ}
use Rattle.dwarf_abbrev.specs.declared.encoding.NumberKind.{NumberKind}
use Rattle.dwarf_abbrev.specs.declared.encoding.BytesKind.{BytesKind}
use Rattle.dwarf_abbrev.specs.declared.attr.Attr.{Attr}

-- a value, with its bytes as a list
pub data Val : Type 0 where
  Addr : ℕ → Val
  AddrIndex : ℕ → Val
  Unsigned : ℕ → Val
  Signed : ℤ → Val
  Wide : ℕ → Val
  Block : List ℕ → Val
  Expr : List ℕ → Val
  Flag : Bool → Val
  Inline : List ℕ → Val
  StrAt : ℕ → Val
  LineStrAt : ℕ → Val
  StrIndex : ℕ → Val
  UnitRef : ℕ → Val
  InfoRef : ℕ → Val
  SecOffset : ℕ → Val
  LocIndex : ℕ → Val
  RangeIndex : ℕ → Val

-- the value that an `Attr` is
abbrev pub val_of : Attr → Val
val_of (Attr.Addr n) = Val.Addr n
val_of (Attr.AddrIndex n) = Val.AddrIndex n
val_of (Attr.Unsigned n) = Val.Unsigned n
val_of (Attr.Signed n) = Val.Signed n
val_of (Attr.Wide n) = Val.Wide n
val_of (Attr.Block b) = Val.Block b.now
val_of (Attr.Expr b) = Val.Expr b.now
val_of (Attr.Flag b) = Val.Flag b
val_of (Attr.Inline b) = Val.Inline b.now
val_of (Attr.StrAt n) = Val.StrAt n
val_of (Attr.LineStrAt n) = Val.LineStrAt n
val_of (Attr.StrIndex n) = Val.StrIndex n
val_of (Attr.UnitRef n) = Val.UnitRef n
val_of (Attr.InfoRef n) = Val.InfoRef n
val_of (Attr.SecOffset n) = Val.SecOffset n
val_of (Attr.LocIndex n) = Val.LocIndex n
val_of (Attr.RangeIndex n) = Val.RangeIndex n

-- what a number of this kind says
abbrev pub of_number : NumberKind → ℕ → Val
of_number NumberKind.Addr n = Val.Addr n
of_number NumberKind.AddrIndex n = Val.AddrIndex n
of_number NumberKind.Unsigned n = Val.Unsigned n
of_number NumberKind.StrAt n = Val.StrAt n
of_number NumberKind.LineStrAt n = Val.LineStrAt n
of_number NumberKind.StrIndex n = Val.StrIndex n
of_number NumberKind.UnitRef n = Val.UnitRef n
of_number NumberKind.InfoRef n = Val.InfoRef n
of_number NumberKind.SecOffset n = Val.SecOffset n
of_number NumberKind.LocIndex n = Val.LocIndex n
of_number NumberKind.RangeIndex n = Val.RangeIndex n

-- what bytes of this kind say
abbrev pub of_bytes : BytesKind → List ℕ → Val
of_bytes BytesKind.Block b = Val.Block b
of_bytes BytesKind.Expr b = Val.Expr b

-- a flag is true where its byte is not 0
abbrev pub of_flag : ℕ → Val
of_flag n = Val.Flag (not (n == 0))
