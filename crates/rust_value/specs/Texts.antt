-- The text of values.
use Rattle.std.specs.Prelude.{ℕ, ◌+◌, ◌-◌, ◌++◌, ◌∷◌, [], List, map, length, codes, if◌then◌else◌, ◌==◌, nat_lt, ◌||◌, ◌&&◌, Bool, true}
use Rattle.std.specs.Prelude.{false, Option, Some, None}
use Rattle.std.specs.Int.{to_be_bytes, w32, w64}
use Rattle.std.specs.Fmt.{decimal, signed_decimal, digits}
use Rattle.std.specs.List.{flat_map}
use Rattle.std.specs.Str.{chars, bytes_eq}
use Rattle.hex.specs.Hex.{encode_lower}
use Rattle.names.specs.Joined.{joined}
use Rattle.names.specs.Pointers.{kind_text}
use Rattle.rust_value.specs.declared.value.Val.{Val, fold-Val}
use Rattle.rust_value.specs.declared.value.Part.{Part, fold-Part}
use Rattle.rust_value.specs.declared.value.Val.TheOpen.{Val-F, Part-F}

-- a character as it stands between quotes `quote`: printable ASCII as itself, all else escaped
abbrev pub escaped : ℕ → ℕ → List ℕ
escaped quote c =
    if c == 10 then codes "\\n"
    else if c == 13 then codes "\\r"
    else if c == 9 then codes "\\t"
    else if c == 92 then codes "\\\\"
    else if c == quote then 92 ∷ quote ∷ []
    else if nat_lt c 32 || nat_lt 126 c then codes "\\u{" ++ digits 16 false c ++ codes "}"
    else c ∷ []

-- a character between single quotes
abbrev pub in_quotes : ℕ → List ℕ
in_quotes c = codes "'" ++ escaped 39 c ++ codes "'"

-- a text between double quotes
abbrev pub quoted : List ℕ → List ℕ
quoted bytes = codes "\"" ++ flat_map (escaped 34) (chars bytes) ++ codes "\""

-- an address
abbrev pub address_text : ℕ → List ℕ
address_text n = codes "0x" ++ digits 16 false n

-- the name and the text of a part
abbrev pub Shown : Type 0
Shown = List ℕ × List ℕ

-- the name of the field with this number in a tuple
abbrev pub number_name : ℕ → List ℕ
number_name i = codes "__" ++ decimal i

-- the names are those of a tuple's fields from this number on
abbrev pub are_numbered : ℕ → List Shown → Bool
are_numbered i [] = true
are_numbered i (part ∷ parts) = bytes_eq part.0 (number_name i) && are_numbered (i + 1) parts

-- a part as it stands in braces
abbrev pub named_text : Shown → List ℕ
named_text part = part.0 ++ codes ": " ++ part.1

-- parts as a tuple or in braces; there is at least one
abbrev pub parts_text : List Shown → List ℕ
parts_text parts =
    if are_numbered 0 parts then codes "(" ++ joined (codes ", ") (map (λ part. part.1) parts) ++ codes ")"
    else codes "{" ++ joined (codes ", ") (map named_text parts) ++ codes "}"

-- the fields of a struct; `{}` where there are none
abbrev pub fields_text : List Shown → List ℕ
fields_text [] = codes "{}"
fields_text (part ∷ parts) = parts_text (part ∷ parts)

-- the fields of a variant; nothing where there are none
abbrev pub payload_text : List Shown → List ℕ
payload_text [] = []
payload_text (part ∷ parts) = parts_text (part ∷ parts)

-- how many elements are not shown, as one more item
abbrev pub more_items : ℕ → List (List ℕ)
more_items n = if n == 0 then [] else (codes ".. " ++ decimal n ++ codes " more") ∷ []

-- a sequence of this length, of which these elements are shown
abbrev pub seq_text : ℕ → List (List ℕ) → List ℕ
seq_text len shown = codes "[" ++ joined (codes ", ") (shown ++ more_items (len - length shown)) ++ codes "]"

-- the arrow and what a pointer leads to
abbrev pub content_text : Option (List ℕ) → List ℕ
content_text None = []
content_text (Some text) = codes " -> " ++ text

-- the arrow and the text that a pointer leads to
abbrev pub quoted_content : Option (List ℕ) → List ℕ
quoted_content None = []
quoted_content (Some bytes) = codes " -> " ++ quoted bytes

-- a fat pointer: its kind, a word for its shape, its address and its other half
abbrev pub fat_text : List ℕ → List ℕ → ℕ → List ℕ → List ℕ
fat_text kind shape at other = kind ++ shape ++ codes "[" ++ address_text at ++ codes "; " ++ other ++ codes "]"

-- a truth value
abbrev pub bool_text : Bool → List ℕ
bool_text b = if b then codes "true" else codes "false"

-- one value, with the texts of the values inside in their places; a float is shown by its bits
abbrev pub val_step : Val-F (List ℕ) Shown → List ℕ
val_step Val-F.Unit = codes "()"
val_step (Val-F.Bool b) = bool_text b
val_step (Val-F.Char c) = in_quotes c
val_step (Val-F.Unsigned n) = decimal n
val_step (Val-F.Signed z) = signed_decimal z
val_step (Val-F.Float32 n) = codes "f32 0x" ++ encode_lower (to_be_bytes w32 n)
val_step (Val-F.Float64 n) = codes "f64 0x" ++ encode_lower (to_be_bytes w64 n)
val_step (Val-F.Fields parts) = fields_text parts
val_step (Val-F.Variant name parts) = name ++ payload_text parts
val_step (Val-F.Seq len shown) = seq_text len shown
val_step (Val-F.Pointer kind at content) = kind_text kind ++ address_text at ++ content_text content
val_step (Val-F.Slice kind at len content) = fat_text (kind_text kind) [] at (decimal len) ++ content_text content
val_step (Val-F.Str kind at len text) = fat_text (kind_text kind) (codes "str") at (decimal len) ++ quoted_content text
val_step (Val-F.Dyn kind at vtable) = fat_text (kind_text kind) (codes "dyn") at (address_text vtable)
val_step (Val-F.Function at) = codes "fn " ++ address_text at
val_step (Val-F.Bytes bytes) = codes "bytes " ++ encode_lower bytes

-- a part with the text of its value
abbrev pub part_step : Part-F (List ℕ) Shown → Shown
part_step part = (part.name, part.val)

-- the text of a value
abbrev pub text_of : Val → List ℕ
text_of = fold-Val (List ℕ) Shown val_step part_step

-- the name and the text of a part
abbrev pub shown_part : Part → Shown
shown_part = fold-Part (List ℕ) Shown val_step part_step
