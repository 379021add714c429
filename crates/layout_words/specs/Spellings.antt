-- The items of a line: the text of each, and which item a text is of. Private but for the texts: that a text is read as
-- the item that has it is proved in `proofs/ItemLaws.antt`.
use Rattle.std.specs.Prelude.{ℕ, ◌<◌, ◌^◌, nat_lt, nat_le, ◌&&◌, ◌||◌, ◌==◌, ◌⊎◌, ◌-◌, ◌+◌, ◌*◌, ◌%◌, not, Bool, true, false, length, take, drop, if◌then◌else◌, List, [], ◌∷◌, ◌++◌, Option, Some, None, codes}
use Rattle.std.specs.Fmt.{decimal}
use Rattle.std.specs.List.{flat_map, All}
use Rattle.std.specs.Option.{option_map}
use Rattle.std.specs.Str.{bytes_eq}
use Rattle.std.specs.Str.Parse.{digits_value}
use Rattle.hex.specs.Hex.{encode_lower}
use Rattle.readers.specs.Hex.{hex_text, hex_of}
use Rattle.names.specs.declared.name.Name.{Name, out-Name}
use Rattle.names.specs.declared.name.Name.TheOpen.{Name-F}
use Rattle.names.specs.declared.name.Name.TheVariants.{Raw}
use Rattle.names.specs.declared.name.Seg.{Seg}
use Rattle.names.specs.declared.name.PtrKind.{PtrKind}
use Rattle.names.specs.Words.{IsWord}
use Rattle.names.specs.Names.{IsProper}
use Rattle.rust_names.specs.RustText.{rust_text}
use Rattle.names.specs.Reading.{Res, got, bad, chars}
use Rattle.rust_names.specs.RustGrammar.{rust}
use Rattle.layout_set.specs.declared.primitive.Primitive.{Primitive}
use Rattle.layout_set.specs.declared.set.TypeRef.{TypeRef}
use Rattle.layout_set.specs.declared.set.TypeRef.TheVariants.{Prim, User}
use Rattle.layout_words.specs.declared.slot.Slot.{Slot}
use Rattle.layout_words.specs.declared.slot.Slot.TheVariants as slots
use Rattle.layout_words.specs.declared.kinds.TypeKind.{TypeKind}
use Rattle.layout_words.specs.declared.kinds.SelectorKind.{SelectorKind}
use Rattle.layout_words.specs.Kinds.{type_kind_word, type_kind_of, selector_word, selector_kind_of, pointer_word, pointer_of, primitive_word, primitive_of}

infixl 10 ◌>>=◌
abbrev pub ◌>>=◌ : {A B : Type 0} → Option A → (A → Option B) → Option B
(Some x) >>= f = f x
None >>= f = None

-- a kind of item: the text of each, the item with a text, which items there are, and where it may stand
pub record Spelling (A : Type 0) : Type 1 where
  pub text : A → List ℕ
  pub of : List ℕ → Option A
  pub Is : A → Type 0
  pub slot : Slot

-- the number of so many bits with this text, in decimal without leading zeros
unfoldable pub number_of : ℕ → List ℕ → Option ℕ
number_of bits text = let n = digits_value 10 text in if nat_lt n (2 ^ bits) && bytes_eq text (decimal n) then Some n else None

abbrev pub number : ℕ → Spelling ℕ
number bits = record { text = decimal; of = number_of bits; Is = λ n. n < 2 ^ bits; slot = slots.Number bits }

-- this number
abbrev pub next_of : ℕ → Option ℕ → Option (Unit {0})
next_of next None = None
next_of next (Some n) = if n == next then Some tt else None

abbrev pub the_next : ℕ → Spelling (Unit {0})
the_next next = record { text = λ _. decimal next; of = λ text. next_of next (number_of 32 text); Is = λ _. next < 2 ^ 32; slot = slots.Next }

-- an address, or none
abbrev pub address_text : Option ℕ → List ℕ
address_text None = codes "none"
address_text (Some a) = hex_text a

abbrev pub address_of : List ℕ → Option (Option ℕ)
address_of text = if bytes_eq text (codes "none") then Some None else option_map (λ a. Some a) (hex_of text)

abbrev pub IsAddress : Option ℕ → Type 0
IsAddress None = Unit {0}
IsAddress (Some a) = a < 2 ^ 64

abbrev pub address : Spelling (Option ℕ)
address = record { text = address_text; of = address_of; Is = IsAddress; slot = slots.Address }

-- a primitive by its name, or `#` and the number of a type
abbrev pub reference_text : TypeRef → List ℕ
reference_text (Prim p) = primitive_word p
reference_text (User n) = 35 ∷ decimal n

abbrev pub begins_with : ℕ → List ℕ → Bool
begins_with b [] = false
begins_with b (c ∷ text) = c == b

abbrev pub reference_of : List ℕ → Option TypeRef
reference_of text = if begins_with 35 text then option_map (λ n. User n) (number_of 32 (drop 1 text)) else option_map (λ p. Prim p) (primitive_of text)

abbrev pub IsReference : TypeRef → Type 0
IsReference (Prim p) = Unit {0}
IsReference (User n) = n < 2 ^ 32

abbrev pub reference : Spelling TypeRef
reference = record { text = reference_text; of = reference_of; Is = IsReference; slot = slots.Reference }

abbrev pub pointer : Spelling PtrKind
pointer = record { text = pointer_word; of = pointer_of; Is = λ _. Unit {0}; slot = slots.Pointer }

abbrev pub primitive : Spelling Primitive
primitive = record { text = primitive_word; of = primitive_of; Is = λ _. Unit {0}; slot = slots.Primitive }

-- the kind of a line, which is known where the form of the line is
abbrev pub type_kind : Spelling TypeKind
type_kind = record { text = type_kind_word; of = type_kind_of; Is = λ _. Unit {0}; slot = slots.Kind }

abbrev pub selector_kind : Spelling SelectorKind
selector_kind = record { text = selector_word; of = selector_kind_of; Is = λ _. Unit {0}; slot = slots.Kind }

-- what was read, where nothing is left
abbrev pub all_read : {A : Type 0} → Res A → Option A
all_read (got a []) = Some a
all_read (got a (c ∷ left)) = None
all_read (bad left) = None

-- the word with this text
unfoldable pub word_of : List ℕ → Option (List ℕ)
word_of text = all_read (chars true 255 0 0 0 text)

abbrev pub word : Spelling (List ℕ)
word = record { text = λ w. w; of = word_of; Is = IsWord; slot = slots.Word }

-- a byte between the quotes of a raw text: printable ASCII as itself, with `\` before a quote and `\`, and all else in hexadecimal
abbrev pub escape : ℕ → List ℕ
escape c =
    if c == 34 || c == 92 then 92 ∷ c ∷ []
    else if nat_le 32 c && nat_le c 126 then c ∷ []
    else codes "\\x" ++ encode_lower (c ∷ [])

abbrev pub raw_text : List ℕ → List ℕ
raw_text bytes = codes "\"" ++ flat_map escape bytes ++ codes "\""

-- by the layer that the name opens to
abbrev pub name_layer_text : Name → Name-F Name Seg → List ℕ
name_layer_text name (Name-F.Raw bytes) = raw_text bytes
name_layer_text name _ = rust_text name

-- the name in Rust's spelling, or its raw text in quotes
abbrev pub name_text : Name → List ℕ
name_text name = name_layer_text name (out-Name name)

-- bytes that are no name of the grammar
abbrev pub IsRawLayer : Name-F Name Seg → Type 0
IsRawLayer (Name-F.Raw bytes) = All (λ b. b < 256) bytes
IsRawLayer _ = ⊥

-- a proper name, or a raw text in its place
abbrev pub IsName : Name → Type 0
IsName name = IsProper name ⊎ IsRawLayer (out-Name name)

-- the value of a hexadecimal digit in lower case
abbrev pub digit_value : ℕ → ℕ
digit_value c = if nat_le c 57 then c - 48 else c - 87

abbrev pub byte_of : ℕ → ℕ → ℕ
byte_of high low = (digit_value high * 16 + digit_value low) % 256

-- the bytes whose escapes these are, whatever else stands there
unfoldable pub unescaped : List ℕ → List ℕ
unescaped [] = []
unescaped (c ∷ []) = c ∷ []
unescaped (c ∷ d ∷ []) = if c == 92 then d ∷ [] else c ∷ d ∷ []
unescaped (c ∷ d ∷ high ∷ []) = if c == 92 then d ∷ high ∷ [] else c ∷ unescaped (d ∷ high ∷ [])
unescaped (c ∷ d ∷ high ∷ low ∷ text) =
    if not (c == 92) then c ∷ unescaped (d ∷ high ∷ low ∷ text)
    else if d == 120 then byte_of high low ∷ unescaped text
    else d ∷ unescaped (high ∷ low ∷ text)

-- the bytes with this raw text
unfoldable pub raw_of : List ℕ → Option (List ℕ)
raw_of text = let bytes = unescaped (take (length text - 2) (drop 1 text)) in if bytes_eq text (raw_text bytes) then Some bytes else None

-- the proper name with this Rust text
unfoldable pub rust_name_of : List ℕ → Option Name
rust_name_of text = all_read ((rust 64).whole.read text)

abbrev pub name_of : List ℕ → Option Name
name_of text = if begins_with 34 text then option_map (λ bytes. Raw bytes) (raw_of text) else rust_name_of text

abbrev pub name : Spelling Name
name = record { text = name_text; of = name_of; Is = IsName; slot = slots.Name }
