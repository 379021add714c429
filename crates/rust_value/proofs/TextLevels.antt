-- Whether the texts of a value are UTF-8, from the values inside.
use Rattle.std.proofs.Common.{◌≡◌, ◌∙◌, sym, ap, refl, ℕ, Bool, true, List, map, Option, Some, None}
use Rattle.std.specs.Option.{option_map}
use Rattle.std.specs.Prelude.{ℤ}
use Rattle.names.specs.declared.name.PtrKind.{PtrKind}
use Rattle.rust_value.specs.declared.value.Part.{Part}
use Rattle.rust_value.specs.declared.value.Val.{Val, fold-roll-Val}
use Rattle.rust_value.specs.declared.value.Val.TheOpen.{Val-F, Part-F}
use Rattle.rust_value.specs.declared.value.Val.TheVariants as vals
use Rattle.rust_value.specs.declared.value.Val.TheVariants.{rolls-Fields, rolls-Variant, rolls-Seq, rolls-Pointer, rolls-Slice, rolls-Str}
use Rattle.rust_value.specs.declared.value.Val.TheVariants.{rolls-Dyn, rolls-Function, rolls-Bytes, rolls-Unit, rolls-Bool, rolls-Char}
use Rattle.rust_value.specs.declared.value.Val.TheVariants.{rolls-Unsigned, rolls-Signed, rolls-Float32, rolls-Float64}
use Rattle.rust_value.specs.Utf8.{has_texts, part_has_texts, all_true, true_of, is_text, val_step, part_step}

pub texts-Fields : (parts : List Part) → has_texts (vals.Fields parts) ≡ all_true (map part_has_texts parts)
texts-Fields parts = ap has_texts (sym (rolls-Fields parts)) ∙ fold-roll-Val Bool Bool val_step part_step (Val-F.Fields parts)

pub texts-Variant : (name : List ℕ) (parts : List Part) → has_texts (vals.Variant name parts) ≡ all_true (map part_has_texts parts)
texts-Variant name parts = ap has_texts (sym (rolls-Variant name parts)) ∙ fold-roll-Val Bool Bool val_step part_step (Val-F.Variant name parts)

pub texts-Seq : (count : ℕ) (shown : List Val) → has_texts (vals.Seq count shown) ≡ all_true (map has_texts shown)
texts-Seq count shown = ap has_texts (sym (rolls-Seq count shown)) ∙ fold-roll-Val Bool Bool val_step part_step (Val-F.Seq count shown)

pub texts-Pointer : (kind : PtrKind) (at : ℕ) (content : Option Val) → has_texts (vals.Pointer kind at content) ≡ true_of (option_map has_texts content)
texts-Pointer kind at None = ap has_texts (sym (rolls-Pointer kind at None)) ∙ fold-roll-Val Bool Bool val_step part_step (Val-F.Pointer kind at None)
texts-Pointer kind at (Some x) =
    ap has_texts (sym (rolls-Pointer kind at (Some x))) ∙ fold-roll-Val Bool Bool val_step part_step (Val-F.Pointer kind at (Some x))

pub texts-Slice : (kind : PtrKind) (at len : ℕ) (content : Option Val) → has_texts (vals.Slice kind at len content) ≡ true_of (option_map has_texts content)
texts-Slice kind at len None = ap has_texts (sym (rolls-Slice kind at len None)) ∙ fold-roll-Val Bool Bool val_step part_step (Val-F.Slice kind at len None)
texts-Slice kind at len (Some x) =
    ap has_texts (sym (rolls-Slice kind at len (Some x))) ∙ fold-roll-Val Bool Bool val_step part_step (Val-F.Slice kind at len (Some x))

pub texts-Str : (kind : PtrKind) (at len : ℕ) (content : Option (List ℕ)) → has_texts (vals.Str kind at len content) ≡ is_text content
texts-Str kind at len content = ap has_texts (sym (rolls-Str kind at len content)) ∙ fold-roll-Val Bool Bool val_step part_step (Val-F.Str kind at len content)

pub texts-Dyn : (kind : PtrKind) (at vtable : ℕ) → has_texts (vals.Dyn kind at vtable) ≡ true
texts-Dyn kind at vtable = ap has_texts (sym (rolls-Dyn kind at vtable)) ∙ fold-roll-Val Bool Bool val_step part_step (Val-F.Dyn kind at vtable)

pub texts-Function : (at : ℕ) → has_texts (vals.Function at) ≡ true
texts-Function at = ap has_texts (sym (rolls-Function at)) ∙ fold-roll-Val Bool Bool val_step part_step (Val-F.Function at)

pub texts-Bytes : (bytes : List ℕ) → has_texts (vals.Bytes bytes) ≡ true
texts-Bytes bytes = ap has_texts (sym (rolls-Bytes bytes)) ∙ fold-roll-Val Bool Bool val_step part_step (Val-F.Bytes bytes)

pub texts-Unit : has_texts vals.Unit ≡ true
texts-Unit = ap has_texts (sym rolls-Unit) ∙ fold-roll-Val Bool Bool val_step part_step Val-F.Unit

pub texts-Bool : (b : Bool) → has_texts (vals.Bool b) ≡ true
texts-Bool b = ap has_texts (sym (rolls-Bool b)) ∙ fold-roll-Val Bool Bool val_step part_step (Val-F.Bool b)

pub texts-Char : (c : ℕ) → has_texts (vals.Char c) ≡ true
texts-Char c = ap has_texts (sym (rolls-Char c)) ∙ fold-roll-Val Bool Bool val_step part_step (Val-F.Char c)

pub texts-Unsigned : (n : ℕ) → has_texts (vals.Unsigned n) ≡ true
texts-Unsigned n = ap has_texts (sym (rolls-Unsigned n)) ∙ fold-roll-Val Bool Bool val_step part_step (Val-F.Unsigned n)

pub texts-Signed : (z : ℤ) → has_texts (vals.Signed z) ≡ true
texts-Signed z = ap has_texts (sym (rolls-Signed z)) ∙ fold-roll-Val Bool Bool val_step part_step (Val-F.Signed z)

pub texts-Float32 : (n : ℕ) → has_texts (vals.Float32 n) ≡ true
texts-Float32 n = ap has_texts (sym (rolls-Float32 n)) ∙ fold-roll-Val Bool Bool val_step part_step (Val-F.Float32 n)

pub texts-Float64 : (n : ℕ) → has_texts (vals.Float64 n) ≡ true
texts-Float64 n = ap has_texts (sym (rolls-Float64 n)) ∙ fold-roll-Val Bool Bool val_step part_step (Val-F.Float64 n)
