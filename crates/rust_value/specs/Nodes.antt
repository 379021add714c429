-- How many nodes a value has.
use Rattle.std.specs.Prelude.{ℕ, ◌+◌, List, length, sum, Option, Some, None}
use Rattle.rust_value.specs.declared.value.Val.{Val, fold-Val}
use Rattle.rust_value.specs.declared.value.Part.{Part, fold-Part}
use Rattle.rust_value.specs.declared.value.Val.TheOpen.{Val-F, Part-F}

-- what is shown of a text's bytes
abbrev pub shown_nodes : Option (List ℕ) → ℕ
shown_nodes None = 0
shown_nodes (Some text) = length text

-- what a content has, with its count in its place
abbrev pub content_nodes : Option ℕ → ℕ
content_nodes None = 0
content_nodes (Some n) = n

-- a field counts as its value
abbrev pub part_step : Part-F ℕ ℕ → ℕ
part_step part = part.val

-- one for the value, what the values in it have, and one for each byte of a text and of bytes
abbrev pub val_step : Val-F ℕ ℕ → ℕ
val_step (Val-F.Fields parts) = 1 + sum parts
val_step (Val-F.Variant name parts) = 1 + sum parts
val_step (Val-F.Seq len shown) = 1 + sum shown
val_step (Val-F.Pointer kind at content) = 1 + content_nodes content
val_step (Val-F.Slice kind at len content) = 1 + content_nodes content
val_step (Val-F.Str kind at len text) = 1 + shown_nodes text
val_step (Val-F.Bytes bytes) = 1 + length bytes
val_step _ = 1

-- how many nodes a value has
abbrev pub nodes_of : Val → ℕ
nodes_of = fold-Val ℕ ℕ val_step part_step

-- how many nodes the value of a field has
abbrev pub part_nodes : Part → ℕ
part_nodes = fold-Part ℕ ℕ val_step part_step
