-- What the walk reads and counts.
use Rattle.std.specs.Prelude.{◌≡◌, ℕ, ◌+◌, ◌<◌, if◌then◌else◌, List, Option, Some, None, Result, Ok, Err}
use Rattle.std.specs.Str.{is_utf8}
use Rattle.rust_value.specs.declared.value.Val.{Val}
use Rattle.rust_value.specs.declared.value.Val.TheVariants as vals
use Rattle.rust_value.specs.declared.value.Part.{Part}
use Rattle.layout_set.specs.declared.set.TypeRef.{TypeRef}
use Rattle.layout_values.specs.Contexts.{Items, Context}
use Rattle.layout_values.specs.Walk.{Doing, walk}
use Rattle.layout_values.specs.Reached.{counting}
use Rattle.value_reader.specs.declared.checked.Checked.{Checked}
use Rattle.value_reader.specs.declared.checked.Checked.TheVariants.{Valid, Invalid, Missing}
use Rattle.value_reader.specs.declared.checked.WalkErr.{WalkErr}
use Rattle.value_reader.specs.declared.checked.WalkErr.TheVariants.{TooLarge, Memory}
use Rattle.value_reader.specs.Checking.{map_checked, gather}

abbrev pub named : List ℕ → Val → Part
named name x = record { name = name; val = x }

abbrev pub or_missing : {A : Type 0} → Option A → Checked A
or_missing None = Missing
or_missing (Some a) = Valid a

-- the bytes of a text, if they are there and UTF-8
abbrev pub checked_text : Option (List ℕ) → Checked (Option (List ℕ))
checked_text None = Missing
checked_text (Some text) = if is_utf8 text then Valid (Some text) else Invalid

abbrev pub text_content : Option (Option (List ℕ)) → Checked (Option (List ℕ))
text_content None = Valid None
text_content (Some text) = checked_text text

abbrev pub checked_parts : List (List ℕ × Checked Val) → Checked (List Part)
checked_parts = gather (λ y. map_checked (named y.0) y.1)

abbrev pub all_checked : {A : Type 0} → List (Checked A) → Checked (List A)
all_checked = gather (λ y. y)

abbrev pub checked_content : Option (Checked Val) → Checked (Option Val)
checked_content None = Valid None
checked_content (Some s) = map_checked Some s

-- the value is read
abbrev pub reading : Doing (Checked Val)
reading = record {
  node = λ s. s;
  nothing = Invalid;
  gone = Missing;
  bad = Invalid;
  scalar = λ x. Valid x;
  fields = λ xs. map_checked vals.Fields (checked_parts xs);
  variant = λ name xs. map_checked (vals.Variant name) (checked_parts xs);
  seq = λ count xs. map_checked (vals.Seq count) (all_checked xs);
  pointer = λ kind at content. map_checked (vals.Pointer kind at) (checked_content content);
  slice = λ kind at len content. map_checked (vals.Slice kind at len) (checked_content content);
  text = λ kind at len content. map_checked (vals.Str kind at len) (text_content content);
  bytes = λ count all. map_checked vals.Bytes (or_missing all);
}

abbrev pub read : Context → ℕ → ℕ → TypeRef → Items → Checked Val
read = walk reading

abbrev pub nodes : Context → ℕ → ℕ → TypeRef → Items → ℕ
nodes = walk counting

-- so many nodes are taken off those that were left
abbrev pub Counts : ℕ → ℕ → ℕ → Result (Unit {0}) WalkErr → Type 0
Counts n old new (Ok x) = new + n ≡ old
Counts n old new (Err TooLarge) = old < n
Counts n old new (Err Memory) = ⊥
