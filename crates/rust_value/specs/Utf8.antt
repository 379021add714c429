-- Values whose texts are UTF-8.
use Rattle.std.specs.Prelude.{ℕ, Bool, true, ◌&&◌, List, [], ◌∷◌, Option, Some, None}
use Rattle.std.specs.Str.{is_utf8}
use Rattle.rust_value.specs.declared.value.Val.{Val, fold-Val}
use Rattle.rust_value.specs.declared.value.Part.{Part, fold-Part}
use Rattle.rust_value.specs.declared.value.Val.TheOpen.{Val-F, Part-F}

-- each of them is true
abbrev pub all_true : List Bool → Bool
all_true [] = true
all_true (b ∷ bs) = b && all_true bs

-- what there is is true
abbrev pub true_of : Option Bool → Bool
true_of None = true
true_of (Some b) = b

-- what there is is UTF-8
abbrev pub is_text : Option (List ℕ) → Bool
is_text None = true
is_text (Some bytes) = is_utf8 bytes

-- each text of a field is UTF-8 where each of its value is
abbrev pub part_step : Part-F Bool Bool → Bool
part_step part = part.val

-- each text that is shown is UTF-8, here and in the values inside
abbrev pub val_step : Val-F Bool Bool → Bool
val_step (Val-F.Fields parts) = all_true parts
val_step (Val-F.Variant name parts) = all_true parts
val_step (Val-F.Seq len shown) = all_true shown
val_step (Val-F.Pointer kind at content) = true_of content
val_step (Val-F.Slice kind at len content) = true_of content
val_step (Val-F.Str kind at len text) = is_text text
val_step _ = true

-- each text of the value is UTF-8
abbrev pub has_texts : Val → Bool
has_texts = fold-Val Bool Bool val_step part_step

-- each text of the field's value is UTF-8
abbrev pub part_has_texts : Part → Bool
part_has_texts = fold-Part Bool Bool val_step part_step
