-- The text of a value in an arena, and whether its texts are UTF-8, by one level of it.
use Rattle.std.proofs.Common.{◌≡◌, ◌∙◌, sym, ap, ℕ, ◌++◌, Bool, true, List, [], map, codes, Option, Some, None, Bor}
use Rattle.std.proofs.lemmas.List.{append-nil}
use Rattle.std.specs.Prelude.{ℤ}
use Rattle.std.specs.Int.{to_be_bytes, w32, w64}
use Rattle.std.specs.Fmt.{decimal, signed_decimal}
use Rattle.hex.specs.Hex.{encode_lower}
use Rattle.names.specs.Pointers.{kind_text}
use Rattle.names.specs.declared.name.PtrKind.{PtrKind}
use Rattle.rust_value.specs.declared.value.Part.{Part}
use Rattle.rust_value.specs.declared.value.Val.{Val, fold-roll-Val}
use Rattle.rust_value.specs.declared.value.Val.TheOpen.{Val-F}
use Rattle.rust_value.specs.declared.value.Val.TheVariants as vals
use Rattle.rust_value.specs.declared.held.PartIn.{PartIn}
use Rattle.rust_value.specs.declared.held.ValIn.{ValIn, fold-roll-ValIn}
use Rattle.rust_value.specs.declared.held.ValIn.TheOpen.{ValIn-F}
use Rattle.rust_value.specs.declared.held.ValIn.TheVariants as held
use Rattle.rust_value.specs.Held.{value_of, part_of, led}
use Rattle.rust_value.specs.Held as steps
use Rattle.rust_value.specs.Utf8.{has_texts, part_has_texts, all_true, true_of, is_text}
use Rattle.rust_value.specs.Texts.{Shown, text_of, shown_part, bool_text, in_quotes, address_text, fields_text, payload_text, seq_text, content_text}
use Rattle.rust_value.specs.Texts.{quoted_content, fat_text, val_step, part_step}
use Rattle.rust_value.proofs.HeldLevels.{value_fields, value_variant, value_seq, value_pointer, value_slice, value_str, value_bytes}
use Rattle.rust_value.proofs.TextLevels.{texts-Fields, texts-Variant, texts-Seq, texts-Pointer, texts-Slice, texts-Str}

pub held_unit : text_of (value_of held.Unit) ≡ codes "()"
held_unit =
    ap (λ v. text_of (value_of v)) (sym held.rolls-Unit) ∙ ap text_of (fold-roll-ValIn Val Part steps.val_step steps.part_step ValIn-F.Unit)
    ∙ ap text_of (sym vals.rolls-Unit) ∙ fold-roll-Val (List ℕ) Shown val_step part_step Val-F.Unit

pub held_bool : (b : Bool) → text_of (value_of (held.Bool b)) ≡ bool_text b
held_bool b =
    ap (λ v. text_of (value_of v)) (sym (held.rolls-Bool b)) ∙ ap text_of (fold-roll-ValIn Val Part steps.val_step steps.part_step (ValIn-F.Bool b))
    ∙ ap text_of (sym (vals.rolls-Bool b)) ∙ fold-roll-Val (List ℕ) Shown val_step part_step (Val-F.Bool b)

pub held_char : (c : ℕ) → text_of (value_of (held.Char c)) ≡ in_quotes c
held_char c =
    ap (λ v. text_of (value_of v)) (sym (held.rolls-Char c)) ∙ ap text_of (fold-roll-ValIn Val Part steps.val_step steps.part_step (ValIn-F.Char c))
    ∙ ap text_of (sym (vals.rolls-Char c)) ∙ fold-roll-Val (List ℕ) Shown val_step part_step (Val-F.Char c)

pub held_unsigned : (n : ℕ) → text_of (value_of (held.Unsigned n)) ≡ decimal n
held_unsigned n =
    ap (λ v. text_of (value_of v)) (sym (held.rolls-Unsigned n)) ∙ ap text_of (fold-roll-ValIn Val Part steps.val_step steps.part_step (ValIn-F.Unsigned n))
    ∙ ap text_of (sym (vals.rolls-Unsigned n)) ∙ fold-roll-Val (List ℕ) Shown val_step part_step (Val-F.Unsigned n)

pub held_signed : (z : ℤ) → text_of (value_of (held.Signed z)) ≡ signed_decimal z
held_signed z =
    ap (λ v. text_of (value_of v)) (sym (held.rolls-Signed z)) ∙ ap text_of (fold-roll-ValIn Val Part steps.val_step steps.part_step (ValIn-F.Signed z))
    ∙ ap text_of (sym (vals.rolls-Signed z)) ∙ fold-roll-Val (List ℕ) Shown val_step part_step (Val-F.Signed z)

pub held_float32 : (n : ℕ) → text_of (value_of (held.Float32 n)) ≡ codes "f32 0x" ++ encode_lower (to_be_bytes w32 n)
held_float32 n =
    ap (λ v. text_of (value_of v)) (sym (held.rolls-Float32 n)) ∙ ap text_of (fold-roll-ValIn Val Part steps.val_step steps.part_step (ValIn-F.Float32 n))
    ∙ ap text_of (sym (vals.rolls-Float32 n)) ∙ fold-roll-Val (List ℕ) Shown val_step part_step (Val-F.Float32 n)

pub held_float64 : (n : ℕ) → text_of (value_of (held.Float64 n)) ≡ codes "f64 0x" ++ encode_lower (to_be_bytes w64 n)
held_float64 n =
    ap (λ v. text_of (value_of v)) (sym (held.rolls-Float64 n)) ∙ ap text_of (fold-roll-ValIn Val Part steps.val_step steps.part_step (ValIn-F.Float64 n))
    ∙ ap text_of (sym (vals.rolls-Float64 n)) ∙ fold-roll-Val (List ℕ) Shown val_step part_step (Val-F.Float64 n)

pub held_dyn : (kind : PtrKind) (at vtable : ℕ) → text_of (value_of (held.Dyn kind at vtable)) ≡ fat_text (kind_text kind) (codes "dyn") at (address_text vtable)
held_dyn kind at vtable =
    ap (λ v. text_of (value_of v)) (sym (held.rolls-Dyn kind at vtable)) ∙ ap text_of (fold-roll-ValIn Val Part steps.val_step steps.part_step (ValIn-F.Dyn kind at vtable))
    ∙ ap text_of (sym (vals.rolls-Dyn kind at vtable)) ∙ fold-roll-Val (List ℕ) Shown val_step part_step (Val-F.Dyn kind at vtable)

pub held_function : (at : ℕ) → text_of (value_of (held.Function at)) ≡ codes "fn " ++ address_text at
held_function at =
    ap (λ v. text_of (value_of v)) (sym (held.rolls-Function at)) ∙ ap text_of (fold-roll-ValIn Val Part steps.val_step steps.part_step (ValIn-F.Function at))
    ∙ ap text_of (sym (vals.rolls-Function at)) ∙ fold-roll-Val (List ℕ) Shown val_step part_step (Val-F.Function at)

pub held_fields : (parts : Bor (List PartIn)) →
    text_of (value_of (held.Fields parts)) ≡ fields_text (map shown_part (map part_of parts.now))
held_fields parts =
    ap text_of (value_fields parts) ∙ ap text_of (sym (vals.rolls-Fields (map part_of parts.now))) ∙ fold-roll-Val (List ℕ) Shown val_step part_step (Val-F.Fields (map part_of parts.now))

pub held_variant : (name : Bor (List ℕ)) (parts : Bor (List PartIn)) →
    text_of (value_of (held.Variant name parts)) ≡ name.now ++ payload_text (map shown_part (map part_of parts.now))
held_variant name parts =
    ap text_of (value_variant name parts) ∙ ap text_of (sym (vals.rolls-Variant name.now (map part_of parts.now))) ∙ fold-roll-Val (List ℕ) Shown val_step part_step (Val-F.Variant name.now (map part_of parts.now))

pub held_seq : (len : ℕ) (shown : Bor (List ValIn)) →
    text_of (value_of (held.Seq len shown)) ≡ seq_text len (map text_of (map value_of shown.now))
held_seq len shown =
    ap text_of (value_seq len shown) ∙ ap text_of (sym (vals.rolls-Seq len (map value_of shown.now))) ∙ fold-roll-Val (List ℕ) Shown val_step part_step (Val-F.Seq len (map value_of shown.now))

pub held_str : (kind : PtrKind) (at len : ℕ) (text : Option (Bor (List ℕ))) →
    text_of (value_of (held.Str kind at len text)) ≡ fat_text (kind_text kind) (codes "str") at (decimal len) ++ quoted_content (led text)
held_str kind at len text =
    ap text_of (value_str kind at len text) ∙ ap text_of (sym (vals.rolls-Str kind at len (led text))) ∙ fold-roll-Val (List ℕ) Shown val_step part_step (Val-F.Str kind at len (led text))

pub held_bytes : (bytes : Bor (List ℕ)) →
    text_of (value_of (held.Bytes bytes)) ≡ codes "bytes " ++ encode_lower bytes.now
held_bytes bytes =
    ap text_of (value_bytes bytes) ∙ ap text_of (sym (vals.rolls-Bytes bytes.now)) ∙ fold-roll-Val (List ℕ) Shown val_step part_step (Val-F.Bytes bytes.now)

pub held_pointer : (kind : PtrKind) (at : ℕ) (x : Bor ValIn) →
    text_of (value_of (held.Pointer kind at (Some x))) ≡ kind_text kind ++ address_text at ++ content_text (Some (text_of (value_of x.now)))
held_pointer kind at x =
    ap text_of (value_pointer kind at (Some x)) ∙ ap text_of (sym (vals.rolls-Pointer kind at (Some (value_of x.now))))
    ∙ fold-roll-Val (List ℕ) Shown val_step part_step (Val-F.Pointer kind at (Some (value_of x.now)))

pub held_bare_pointer : (kind : PtrKind) (at : ℕ) → text_of (value_of (held.Pointer kind at None)) ≡ kind_text kind ++ address_text at
held_bare_pointer kind at =
    ap text_of (value_pointer kind at None) ∙ ap text_of (sym (vals.rolls-Pointer kind at None))
    ∙ fold-roll-Val (List ℕ) Shown val_step part_step (Val-F.Pointer kind at None) ∙ append-nil (kind_text kind ++ address_text at)

pub held_slice : (kind : PtrKind) (at len : ℕ) (x : Bor ValIn) →
    text_of (value_of (held.Slice kind at len (Some x)))
    ≡ fat_text (kind_text kind) [] at (decimal len) ++ content_text (Some (text_of (value_of x.now)))
held_slice kind at len x =
    ap text_of (value_slice kind at len (Some x)) ∙ ap text_of (sym (vals.rolls-Slice kind at len (Some (value_of x.now))))
    ∙ fold-roll-Val (List ℕ) Shown val_step part_step (Val-F.Slice kind at len (Some (value_of x.now)))

pub held_bare_slice : (kind : PtrKind) (at len : ℕ) →
    text_of (value_of (held.Slice kind at len None)) ≡ fat_text (kind_text kind) [] at (decimal len)
held_bare_slice kind at len =
    ap text_of (value_slice kind at len None) ∙ ap text_of (sym (vals.rolls-Slice kind at len None))
    ∙ fold-roll-Val (List ℕ) Shown val_step part_step (Val-F.Slice kind at len None)
    ∙ append-nil (fat_text (kind_text kind) [] at (decimal len))

-- texts are UTF-8 where those inside are
pub utf8_fields : (parts : Bor (List PartIn)) → has_texts (value_of (held.Fields parts)) ≡ all_true (map part_has_texts (map part_of parts.now))
utf8_fields parts = ap has_texts (value_fields parts) ∙ texts-Fields (map part_of parts.now)

pub utf8_variant : (name : Bor (List ℕ)) (parts : Bor (List PartIn)) →
    has_texts (value_of (held.Variant name parts)) ≡ all_true (map part_has_texts (map part_of parts.now))
utf8_variant name parts = ap has_texts (value_variant name parts) ∙ texts-Variant name.now (map part_of parts.now)

pub utf8_seq : (len : ℕ) (shown : Bor (List ValIn)) → has_texts (value_of (held.Seq len shown)) ≡ all_true (map has_texts (map value_of shown.now))
utf8_seq len shown = ap has_texts (value_seq len shown) ∙ texts-Seq len (map value_of shown.now)

pub utf8_pointer : (kind : PtrKind) (at : ℕ) (x : Bor ValIn) → has_texts (value_of (held.Pointer kind at (Some x))) ≡ has_texts (value_of x.now)
utf8_pointer kind at x = ap has_texts (value_pointer kind at (Some x)) ∙ texts-Pointer kind at (Some (value_of x.now))

pub utf8_slice : (kind : PtrKind) (at len : ℕ) (x : Bor ValIn) → has_texts (value_of (held.Slice kind at len (Some x))) ≡ has_texts (value_of x.now)
utf8_slice kind at len x = ap has_texts (value_slice kind at len (Some x)) ∙ texts-Slice kind at len (Some (value_of x.now))

pub utf8_str : (kind : PtrKind) (at len : ℕ) (text : Option (Bor (List ℕ))) → has_texts (value_of (held.Str kind at len text)) ≡ is_text (led text)
utf8_str kind at len text = ap has_texts (value_str kind at len text) ∙ texts-Str kind at len (led text)

-- what the text of a value in an arena is, by its variant
pub ruleset held_texts = (
  held_unit,
  held_bool,
  held_char,
  held_unsigned,
  held_signed,
  held_float32,
  held_float64,
  held_dyn,
  held_function,
  held_fields,
  held_variant,
  held_seq,
  held_str,
  held_bytes,
  held_pointer,
  held_bare_pointer,
  held_slice,
  held_bare_slice,
  utf8_fields,
  utf8_variant,
  utf8_seq,
  utf8_pointer,
  utf8_slice,
  utf8_str,
)
