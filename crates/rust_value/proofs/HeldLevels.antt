-- One level of what a value in an arena stands for, and of the names in a value.
use Rattle.std.proofs.Common.{◌≡◌, ◌∙◌, sym, ap, subst, ℕ, ◌<◌, ◌+◌, ◌&&◌, ◌++◌, List, [], ◌∷◌, map, length, drop, get_or, Option, Some, None, Bor}
use Rattle.std.specs.Str.{bytes_eq}
use Rattle.rv_io.proofs.Steps.{drop_step}
use Rattle.std.specs.Option.{option_map}
use Rattle.names.specs.declared.name.PtrKind.{PtrKind}
use Rattle.names.specs.Words.{IsWord}
use Rattle.rust_value.specs.declared.value.Part.{Part, fold-roll-Part}
use Rattle.rust_value.specs.declared.value.Val.{Val, fold-roll-Val}
use Rattle.rust_value.specs.declared.value.Val.TheOpen.{Val-F}
use Rattle.rust_value.specs.declared.value.Val.TheVariants as vals
use Rattle.rust_value.specs.declared.held.PartIn.{PartIn, fold-roll-PartIn}
use Rattle.rust_value.specs.declared.held.ValIn.{ValIn, fold-roll-ValIn}
use Rattle.rust_value.specs.declared.held.ValIn.TheOpen.{ValIn-F}
use Rattle.rust_value.specs.declared.held.ValIn.TheVariants as held
use Rattle.rust_value.specs.Held.{value_of, part_of, led, val_step, part_step}
use Rattle.rust_value.specs.Named.{HasWords, AreWords, together, content_names, names_of, part_names}
use Rattle.rust_value.specs.Named as named
use Rattle.rust_value.proofs.Named.{names_of_part}
use Rattle.std.specs.Fmt.{decimal}
use Rattle.names.specs.Pointers.{kind_text}
use Rattle.rust_value.specs.Utf8.{has_texts, part_has_texts, true_of}
use Rattle.rust_value.proofs.HeldItems.{same_item}
use Rattle.rust_value.proofs.Parts.{texts-value}
use Rattle.rust_value.proofs.TextLevels.{texts-Pointer, texts-Slice}
use Rattle.rust_value.specs.Texts.{Shown, shown_part, text_of, address_text, content_text, fat_text, are_numbered, number_name}
use Rattle.rust_value.specs.Texts as texts

pub value_fields : (parts : Bor (List PartIn)) → value_of (held.Fields parts) ≡ vals.Fields (map part_of parts.now)
value_fields parts = ap value_of (sym (held.rolls-Fields parts)) ∙ fold-roll-ValIn Val Part val_step part_step (ValIn-F.Fields parts)

pub value_variant : (name : Bor (List ℕ)) (parts : Bor (List PartIn)) → value_of (held.Variant name parts) ≡ vals.Variant name.now (map part_of parts.now)
value_variant name parts = ap value_of (sym (held.rolls-Variant name parts)) ∙ fold-roll-ValIn Val Part val_step part_step (ValIn-F.Variant name parts)

pub value_seq : (len : ℕ) (shown : Bor (List ValIn)) → value_of (held.Seq len shown) ≡ vals.Seq len (map value_of shown.now)
value_seq len shown = ap value_of (sym (held.rolls-Seq len shown)) ∙ fold-roll-ValIn Val Part val_step part_step (ValIn-F.Seq len shown)

pub value_pointer : (kind : PtrKind) (at : ℕ) (content : Option (Bor ValIn)) →
    value_of (held.Pointer kind at content) ≡ vals.Pointer kind at (option_map value_of (led content))
value_pointer kind at None = ap value_of (sym (held.rolls-Pointer kind at None)) ∙ fold-roll-ValIn Val Part val_step part_step (ValIn-F.Pointer kind at None)
value_pointer kind at (Some x) = ap value_of (sym (held.rolls-Pointer kind at (Some x)))
    ∙ fold-roll-ValIn Val Part val_step part_step (ValIn-F.Pointer kind at (Some x))

pub value_slice : (kind : PtrKind) (at len : ℕ) (content : Option (Bor ValIn)) →
    value_of (held.Slice kind at len content) ≡ vals.Slice kind at len (option_map value_of (led content))
value_slice kind at len None = ap value_of (sym (held.rolls-Slice kind at len None))
    ∙ fold-roll-ValIn Val Part val_step part_step (ValIn-F.Slice kind at len None)
value_slice kind at len (Some x) = ap value_of (sym (held.rolls-Slice kind at len (Some x)))
    ∙ fold-roll-ValIn Val Part val_step part_step (ValIn-F.Slice kind at len (Some x))

pub value_str : (kind : PtrKind) (at len : ℕ) (text : Option (Bor (List ℕ))) → value_of (held.Str kind at len text) ≡ vals.Str kind at len (led text)
value_str kind at len text = ap value_of (sym (held.rolls-Str kind at len text)) ∙ fold-roll-ValIn Val Part val_step part_step (ValIn-F.Str kind at len text)

pub value_bytes : (bytes : Bor (List ℕ)) → value_of (held.Bytes bytes) ≡ vals.Bytes bytes.now
value_bytes bytes = ap value_of (sym (held.rolls-Bytes bytes)) ∙ fold-roll-ValIn Val Part val_step part_step (ValIn-F.Bytes bytes)

-- a part stands for its name, and for what its value stands for
pub part_value : (part : PartIn) → part_of part ≡ record { name = part.name.now; val = value_of part.val }
part_value part = fold-roll-PartIn Val Part val_step part_step (record { name = part.name; val = part.val })

pub names_fields : (parts : List Part) → names_of (vals.Fields parts) ≡ together (map part_names parts)
names_fields parts = ap names_of (sym (vals.rolls-Fields parts))
    ∙ fold-roll-Val (List (List ℕ)) (List (List ℕ)) named.val_step named.part_step (Val-F.Fields parts)

pub names_variant : (name : List ℕ) (parts : List Part) → names_of (vals.Variant name parts) ≡ name ∷ together (map part_names parts)
names_variant name parts = ap names_of (sym (vals.rolls-Variant name parts))
    ∙ fold-roll-Val (List (List ℕ)) (List (List ℕ)) named.val_step named.part_step (Val-F.Variant name parts)

pub names_seq : (len : ℕ) (shown : List Val) → names_of (vals.Seq len shown) ≡ together (map names_of shown)
names_seq len shown = ap names_of (sym (vals.rolls-Seq len shown))
    ∙ fold-roll-Val (List (List ℕ)) (List (List ℕ)) named.val_step named.part_step (Val-F.Seq len shown)

pub names_pointer : (kind : PtrKind) (at : ℕ) (content : Option Val) → names_of (vals.Pointer kind at content) ≡ content_names (option_map names_of content)
names_pointer kind at None = ap names_of (sym (vals.rolls-Pointer kind at None))
    ∙ fold-roll-Val (List (List ℕ)) (List (List ℕ)) named.val_step named.part_step (Val-F.Pointer kind at None)
names_pointer kind at (Some x) = ap names_of (sym (vals.rolls-Pointer kind at (Some x)))
    ∙ fold-roll-Val (List (List ℕ)) (List (List ℕ)) named.val_step named.part_step (Val-F.Pointer kind at (Some x))

pub names_slice : (kind : PtrKind) (at len : ℕ) (content : Option Val) → names_of (vals.Slice kind at len content) ≡ content_names (option_map names_of content)
names_slice kind at len None = ap names_of (sym (vals.rolls-Slice kind at len None))
    ∙ fold-roll-Val (List (List ℕ)) (List (List ℕ)) named.val_step named.part_step (Val-F.Slice kind at len None)
names_slice kind at len (Some x) = ap names_of (sym (vals.rolls-Slice kind at len (Some x)))
    ∙ fold-roll-Val (List (List ℕ)) (List (List ℕ)) named.val_step named.part_step (Val-F.Slice kind at len (Some x))

-- the names in a part in an arena are words where its name is one, and those in its value are
pub words_of_part : (part : PartIn) → IsWord part.name.now → HasWords (value_of part.val) → AreWords (part_names (part_of part))
words_of_part part w h = subst (λ p. AreWords (part_names p)) (sym (part_value part))
    (subst AreWords (sym (names_of_part (record { name = part.name.now; val = value_of part.val }))) (w, h))

-- the name of a part, as it is shown
pub shown_name : (part : PartIn) → (shown_part (part_of part)).0 ≡ part.name.now
shown_name part =
    ap (λ p. (shown_part p).0) (part_value part)
    ∙ ap (λ (s : Shown). s.0) (fold-roll-Part (List ℕ) Shown texts.val_step texts.part_step (record { name = part.name.now; val = value_of part.val }))

-- the names in a part are its own and those in its value
pub held_part_names : (part : PartIn) → part_names (part_of part) ≡ part.name.now ∷ names_of (value_of part.val)
held_part_names part = ap part_names (part_value part) ∙ names_of_part (record { name = part.name.now; val = value_of part.val })

-- the texts in a part are those in its value
pub held_part_texts : (part : PartIn) → part_has_texts (part_of part) ≡ has_texts (value_of part.val)
held_part_texts part = ap part_has_texts (part_value part) ∙ texts-value (record { name = part.name.now; val = value_of part.val })

-- the text of a part's value
pub shown_value : (part : PartIn) → (shown_part (part_of part)).1 ≡ text_of (value_of part.val)
shown_value part =
    ap (λ p. (shown_part p).1) (part_value part)
    ∙ ap (λ (s : Shown). s.1) (fold-roll-Part (List ℕ) Shown texts.val_step texts.part_step (record { name = part.name.now; val = value_of part.val }))

-- whether the names from a place on are those of a tuple's fields, by the first of them and the others
pub numbered_step : (parts : List PartIn) (i : ℕ) (d : PartIn) → i < length parts →
    are_numbered i (map shown_part (map part_of (drop i parts)))
    ≡ (bytes_eq (get_or parts i d).name.now (number_name i) && are_numbered (i + 1) (map shown_part (map part_of (drop (i + 1) parts))))
numbered_step parts i d l =
    ap (λ rest. are_numbered i (map shown_part (map part_of rest)))
    (drop_step parts i (get_or parts i d) l (same_item parts i d (get_or parts i d) l))
    ∙ ap (λ name. bytes_eq name (number_name i) && are_numbered (i + 1) (map shown_part (map part_of (drop (i + 1) parts))))
    (shown_name (get_or parts i d))

-- the names in what a thin pointer leads to
pub held_names_pointer : (kind : PtrKind) (at : ℕ) (content : Option (Bor ValIn)) →
    names_of (value_of (held.Pointer kind at content)) ≡ content_names (option_map names_of (option_map value_of (led content)))
held_names_pointer kind at content =
    ap names_of (value_pointer kind at content) ∙ names_pointer kind at (option_map value_of (led content))

-- the names in what a pointer to a slice leads to
pub held_names_slice : (kind : PtrKind) (at len : ℕ) (content : Option (Bor ValIn)) →
    names_of (value_of (held.Slice kind at len content)) ≡ content_names (option_map names_of (option_map value_of (led content)))
held_names_slice kind at len content =
    ap names_of (value_slice kind at len content) ∙ names_slice kind at len (option_map value_of (led content))
