-- A value without parts has no names.
use Rattle.std.proofs.Common.{◌≡◌, ◌∙◌, sym, ap, subst, ℕ, ℤ, Bool, List, [], Option, Bor}
use Rattle.names.specs.declared.name.PtrKind.{PtrKind}
use Rattle.rust_value.specs.declared.value.Part.{Part}
use Rattle.rust_value.specs.declared.value.Val.{Val, fold-roll-Val}
use Rattle.rust_value.specs.declared.value.Val.TheOpen.{Val-F}
use Rattle.rust_value.specs.declared.value.Val.TheVariants as vals
use Rattle.rust_value.specs.declared.held.ValIn.{ValIn, fold-roll-ValIn}
use Rattle.rust_value.specs.declared.held.ValIn.TheOpen.{ValIn-F}
use Rattle.rust_value.specs.declared.held.ValIn.TheVariants as held
use Rattle.rust_value.specs.Held.{value_of, led, val_step, part_step}
use Rattle.rust_value.specs.Named.{HasWords, AreWords, names_of}
use Rattle.rust_value.specs.Named as named

abbrev Names : Type 0
Names = List (List ℕ)

-- a value in an arena has no names where what it stands for has none
nameless : (x : ValIn) (v : Val) → value_of x ≡ v → names_of v ≡ [] → HasWords (value_of x)
nameless x v is none = subst HasWords (sym is) (subst AreWords (sym none) tt)

pub words_unit : HasWords (value_of held.Unit)
words_unit = nameless held.Unit vals.Unit
    (ap value_of (sym held.rolls-Unit) ∙ fold-roll-ValIn Val Part val_step part_step ValIn-F.Unit)
    (ap names_of (sym vals.rolls-Unit) ∙ fold-roll-Val Names Names named.val_step named.part_step Val-F.Unit)

pub words_bool : (b : Bool) → HasWords (value_of (held.Bool b))
words_bool b = nameless (held.Bool b) (vals.Bool b)
    (ap value_of (sym (held.rolls-Bool b)) ∙ fold-roll-ValIn Val Part val_step part_step (ValIn-F.Bool b))
    (ap names_of (sym (vals.rolls-Bool b)) ∙ fold-roll-Val Names Names named.val_step named.part_step (Val-F.Bool b))

pub words_char : (c : ℕ) → HasWords (value_of (held.Char c))
words_char c = nameless (held.Char c) (vals.Char c)
    (ap value_of (sym (held.rolls-Char c)) ∙ fold-roll-ValIn Val Part val_step part_step (ValIn-F.Char c))
    (ap names_of (sym (vals.rolls-Char c)) ∙ fold-roll-Val Names Names named.val_step named.part_step (Val-F.Char c))

pub words_unsigned : (n : ℕ) → HasWords (value_of (held.Unsigned n))
words_unsigned n = nameless (held.Unsigned n) (vals.Unsigned n)
    (ap value_of (sym (held.rolls-Unsigned n)) ∙ fold-roll-ValIn Val Part val_step part_step (ValIn-F.Unsigned n))
    (ap names_of (sym (vals.rolls-Unsigned n)) ∙ fold-roll-Val Names Names named.val_step named.part_step (Val-F.Unsigned n))

pub words_signed : (z : ℤ) → HasWords (value_of (held.Signed z))
words_signed z = nameless (held.Signed z) (vals.Signed z)
    (ap value_of (sym (held.rolls-Signed z)) ∙ fold-roll-ValIn Val Part val_step part_step (ValIn-F.Signed z))
    (ap names_of (sym (vals.rolls-Signed z)) ∙ fold-roll-Val Names Names named.val_step named.part_step (Val-F.Signed z))

pub words_float32 : (n : ℕ) → HasWords (value_of (held.Float32 n))
words_float32 n = nameless (held.Float32 n) (vals.Float32 n)
    (ap value_of (sym (held.rolls-Float32 n)) ∙ fold-roll-ValIn Val Part val_step part_step (ValIn-F.Float32 n))
    (ap names_of (sym (vals.rolls-Float32 n)) ∙ fold-roll-Val Names Names named.val_step named.part_step (Val-F.Float32 n))

pub words_float64 : (n : ℕ) → HasWords (value_of (held.Float64 n))
words_float64 n = nameless (held.Float64 n) (vals.Float64 n)
    (ap value_of (sym (held.rolls-Float64 n)) ∙ fold-roll-ValIn Val Part val_step part_step (ValIn-F.Float64 n))
    (ap names_of (sym (vals.rolls-Float64 n)) ∙ fold-roll-Val Names Names named.val_step named.part_step (Val-F.Float64 n))

pub words_str : (kind : PtrKind) (at : ℕ) (len : ℕ) (text : Option (Bor (List ℕ))) → HasWords (value_of (held.Str kind at len text))
words_str kind at len text = nameless (held.Str kind at len text) (vals.Str kind at len (led text))
    (ap value_of (sym (held.rolls-Str kind at len text)) ∙ fold-roll-ValIn Val Part val_step part_step (ValIn-F.Str kind at len text))
    (ap names_of (sym (vals.rolls-Str kind at len (led text))) ∙ fold-roll-Val Names Names named.val_step named.part_step (Val-F.Str kind at len (led text)))

pub words_dyn : (kind : PtrKind) (at : ℕ) (vtable : ℕ) → HasWords (value_of (held.Dyn kind at vtable))
words_dyn kind at vtable = nameless (held.Dyn kind at vtable) (vals.Dyn kind at vtable)
    (ap value_of (sym (held.rolls-Dyn kind at vtable)) ∙ fold-roll-ValIn Val Part val_step part_step (ValIn-F.Dyn kind at vtable))
    (ap names_of (sym (vals.rolls-Dyn kind at vtable)) ∙ fold-roll-Val Names Names named.val_step named.part_step (Val-F.Dyn kind at vtable))

pub words_function : (at : ℕ) → HasWords (value_of (held.Function at))
words_function at = nameless (held.Function at) (vals.Function at)
    (ap value_of (sym (held.rolls-Function at)) ∙ fold-roll-ValIn Val Part val_step part_step (ValIn-F.Function at))
    (ap names_of (sym (vals.rolls-Function at)) ∙ fold-roll-Val Names Names named.val_step named.part_step (Val-F.Function at))

pub words_bytes : (bytes : Bor (List ℕ)) → HasWords (value_of (held.Bytes bytes))
words_bytes bytes = nameless (held.Bytes bytes) (vals.Bytes bytes.now)
    (ap value_of (sym (held.rolls-Bytes bytes)) ∙ fold-roll-ValIn Val Part val_step part_step (ValIn-F.Bytes bytes))
    (ap names_of (sym (vals.rolls-Bytes bytes.now)) ∙ fold-roll-Val Names Names named.val_step named.part_step (Val-F.Bytes bytes.now))
