-- The items of functions' lines: the text of each, and which item a text is of. Private but for the texts, as in `Spellings`.
use Rattle.std.specs.Prelude.{◌≢◌, ℕ, ℤ, pos, neg_ℤ, ◌+◌, ◌<◌, ◌^◌, nat_lt, nat_le, ◌&&◌, ◌==◌, if◌then◌else◌, List, [], ◌∷◌, ◌++◌, drop, Option, Some, None, Result, Ok, Err, codes}
use Rattle.std.specs.Fmt.{decimal, signed_decimal}
use Rattle.std.specs.Int.RustNames.{FitsSigned}
use Rattle.std.specs.Int.{w32, w64}
use Rattle.std.specs.List.{All}
use Rattle.std.specs.Option.{option_map}
use Rattle.std.specs.Str.{bytes_eq}
use Rattle.hex.specs.Hex.{encode_lower, decode_of}
use Rattle.readers.specs.Hex.{hex_text, hex_of}
use Rattle.snapshot_file.specs.Registers.{name_of, reg_of}
use Rattle.snapshot_file.specs.declared.registers.Reg.{Reg}
use Rattle.expr_eval.specs.declared.operation.Op.{Op}
use Rattle.expr_eval.specs.declared.operation.Op.TheVariants as ops
use Rattle.layout_set.specs.declared.func.Zone.{Zone}
use Rattle.layout_words.specs.declared.kinds.NumberedOp.{NumberedOp}
use Rattle.layout_words.specs.declared.kinds.NumberedOp.TheVariants as numbered
use Rattle.layout_words.specs.declared.kinds.PlaceKind.{PlaceKind}
use Rattle.layout_words.specs.declared.kinds.PlaceKind.TheVariants as places
use Rattle.layout_words.specs.declared.slot.Slot.TheVariants as slots
use Rattle.layout_words.specs.Kinds.{place_word, entry_kind_of, piece_kind_of, numbered_of, plain_word, plain_of}
use Rattle.layout_words.specs.Spellings.{Spelling, ◌>>=◌, begins_with, number_of}

abbrev pub register : Spelling Reg
register = record { text = name_of; of = reg_of; Is = λ _. Unit {0}; slot = slots.Register }

-- a register, or none
abbrev pub frame_text : Option Reg → List ℕ
frame_text None = codes "none"
frame_text (Some reg) = name_of reg

abbrev pub frame_of : List ℕ → Option (Option Reg)
frame_of text = if bytes_eq text (codes "none") then Some None else option_map (λ reg. Some reg) (reg_of text)

abbrev pub frame : Spelling (Option Reg)
frame = record { text = frame_text; of = frame_of; Is = λ _. Unit {0}; slot = slots.Frame }

-- an address in hexadecimal
abbrev pub hex : Spelling ℕ
hex = record { text = hex_text; of = hex_of; Is = λ n. n < 2 ^ 64; slot = slots.Hex }

-- a number below 0 whose magnitude is at most this
abbrev pub negative : ℕ → ℕ → Option ℤ
negative most n = if nat_lt 0 n && nat_le n most then Some (neg_ℤ (pos n)) else None

-- the signed number of so many bits and a sign with this text, in decimal without leading zeros
unfoldable pub signed_of : ℕ → List ℕ → Option ℤ
signed_of bits text = if begins_with 45 text then number_of (bits + 1) (drop 1 text) >>= negative (2 ^ bits) else option_map pos (number_of bits text)

abbrev pub signed : Spelling ℤ
signed = record { text = signed_decimal; of = signed_of 31; Is = FitsSigned w32; slot = slots.Signed }

-- bytes in pairs of lower-case digits, or `-` for none
abbrev pub digits_text : List ℕ → List ℕ
digits_text [] = codes "-"
digits_text (b ∷ bytes) = encode_lower (b ∷ bytes)

abbrev pub ok_of : {A E : Type 0} → Result A E → Option A
ok_of (Ok a) = Some a
ok_of (Err e) = None

-- the bytes whose text this is
unfoldable pub digits_of : List ℕ → Option (List ℕ)
digits_of text =
    if bytes_eq text (codes "-") then Some []
    else ok_of (decode_of text) >>= λ bytes. if bytes_eq text (digits_text bytes) then Some bytes else None

abbrev pub digits : Spelling (List ℕ)
digits = record { text = digits_text; of = digits_of; Is = All (λ b. b < 256); slot = slots.Digits }

-- the kind of an entry, or of a piece, which is known where the form of the line is
abbrev pub entry_kind : Spelling PlaceKind
entry_kind = record { text = place_word; of = entry_kind_of; Is = λ kind. kind ≢ places.Nowhere; slot = slots.Kind }

abbrev pub piece_kind : Spelling PlaceKind
piece_kind = record { text = place_word; of = piece_kind_of; Is = λ kind. kind ≢ places.Pieces; slot = slots.Kind }

-- what stands before the first separator, and what follows it
abbrev pub cut_at : ℕ → List ℕ → List ℕ × Option (List ℕ)
cut_at separator [] = ([], None)
cut_at separator (c ∷ text) = if c == separator then ([], Some text) else (let p = cut_at separator text in (c ∷ p.0, p.1))

-- two addresses with two dots between them; no address has a dot
abbrev pub zone_text : Zone → List ℕ
zone_text zone = hex_text zone.lo ++ (codes ".." ++ hex_text zone.hi)

abbrev pub zone_behind : ℕ → Option (List ℕ) → Option Zone
zone_behind lo None = None
zone_behind lo (Some text) = if begins_with 46 text then option_map (λ hi. record { lo = lo; hi = hi }) (hex_of (drop 1 text)) else None

unfoldable pub zone_of : List ℕ → Option Zone
zone_of text = let p = cut_at 46 text in hex_of p.0 >>= λ lo. zone_behind lo p.1

abbrev pub IsZone : Zone → Type 0
IsZone zone = (zone.lo < 2 ^ 64) × (zone.hi < 2 ^ 64)

abbrev pub zone : Spelling Zone
zone = record { text = zone_text; of = zone_of; Is = IsZone; slot = slots.Zones }

-- an operation: its word, or a word, a colon and a number
abbrev pub op_text : Op → List ℕ
op_text (ops.Const n) = codes "const:" ++ decimal n
op_text (ops.Deref n) = codes "deref:" ++ decimal n
op_text (ops.Pick n) = codes "pick:" ++ decimal n
op_text (ops.PlusConst n) = codes "plus:" ++ decimal n
op_text (ops.RegPlus reg n) = codes "reg:" ++ (name_of reg ++ (codes ":" ++ signed_decimal n))
op_text op = plain_word op

-- the sum of a register and a number, behind the first colon
abbrev pub register_op : List ℕ × Option (List ℕ) → Option Op
register_op (name, None) = None
register_op (name, Some number) = reg_of name >>= λ reg. option_map (λ n. ops.RegPlus reg n) (signed_of 63 number)

-- the operation of such a kind with this text behind the colon
abbrev pub numbered_op : NumberedOp → List ℕ → Option Op
numbered_op numbered.Const text = option_map (λ n. ops.Const n) (number_of 64 text)
numbered_op numbered.Deref text = option_map (λ n. ops.Deref n) (number_of 8 text)
numbered_op numbered.Pick text = option_map (λ n. ops.Pick n) (number_of 8 text)
numbered_op numbered.Plus text = option_map (λ n. ops.PlusConst n) (number_of 64 text)
numbered_op numbered.Reg text = register_op (cut_at 58 text)

abbrev pub op_by : List ℕ → Option (List ℕ) → Option Op
op_by word None = plain_of word
op_by word (Some text) = numbered_of word >>= λ kind. numbered_op kind text

unfoldable pub op_of : List ℕ → Option Op
op_of text = let p = cut_at 58 text in op_by p.0 p.1

-- the numbers are within their types
abbrev pub IsOp : Op → Type 0
IsOp (ops.Const n) = n < 2 ^ 64
IsOp (ops.Deref n) = n < 2 ^ 8
IsOp (ops.Pick n) = n < 2 ^ 8
IsOp (ops.PlusConst n) = n < 2 ^ 64
IsOp (ops.RegPlus reg n) = FitsSigned w64 n
IsOp op = Unit {0}

abbrev pub operation : Spelling Op
operation = record { text = op_text; of = op_of; Is = IsOp; slot = slots.Operations }
