-- How the reader finds the lowest rule that a line breaks. Private: that it is the lowest is proved in
-- `proofs/LowestLines.antt`.
use Rattle.std.specs.Prelude.{ℕ, Bool, true, false, ◌==◌, min, if◌then◌else◌, List, [], ◌∷◌, drop, Option, Some, None, Result, Ok, Err, codes}
use Rattle.std.specs.Str.{bytes_eq, is_utf8}
use Rattle.layout_words.specs.declared.kinds.LineKind.{LineKind}
use Rattle.layout_words.specs.declared.kinds.LineKind.TheVariants as firsts
use Rattle.layout_words.specs.declared.kinds.NumberedOp.{NumberedOp}
use Rattle.layout_words.specs.declared.kinds.NumberedOp.TheVariants as numbered
use Rattle.layout_words.specs.declared.slot.Slot.{Slot}
use Rattle.layout_words.specs.declared.slot.Slot.TheVariants as slots
use Rattle.snapshot_file.specs.Registers.{reg_of}
use Rattle.readers.specs.Hex.{hex_of}
use Rattle.layout_words.specs.Kinds.{line_kind_of, primitive_of, pointer_of, numbered_of, plain_of}
use Rattle.layout_words.specs.Spellings.{number_of, address_of, word_of, name_of, begins_with}
use Rattle.layout_words.specs.PlaceSpellings.{frame_of, signed_of, digits_of, cut_at, zone_of, numbered_op}
use Rattle.layout_words.specs.Forms.{Left, cut, words, operations_of}
use Rattle.layout_lines.specs.Sets.{may_follow}
use Rattle.layout_rules.specs.Faults.{Front, first, second, behind, next_number, is_rest, fits, places_of}

-- whether a line of such a kind may stand there
abbrev pub may_stand : Front → LineKind → Bool
may_stand first firsts.Version = true
may_stand second firsts.Target = true
may_stand (behind set begun) kind = may_follow set begun kind
may_stand front kind = false

-- the rule, where there is no such item
abbrev pub unless : {A : Type 0} → ℕ → Option A → Option ℕ
unless rule None = Some rule
unless rule (Some a) = None

-- the rule that a number of a type breaks
abbrev pub not_next : ℕ → Option ℕ → Option ℕ
not_next next None = Some 4
not_next next (Some n) = if n == next then None else Some 5

-- the lower of two rules
abbrev pub lower : Option ℕ → Option ℕ → Option ℕ
lower None o = o
lower (Some a) None = Some a
lower (Some a) (Some b) = Some (min a b)

-- the lowest rule that one of the words breaks
abbrev pub lowest_of : (List ℕ → Option ℕ) → List (List ℕ) → Option ℕ
lowest_of rule [] = None
lowest_of rule (word ∷ words) = lower (rule word) (lowest_of rule words)

-- the rule that an operation breaks: the sum of a register and a number, behind its first colon
abbrev pub broken_sum : List ℕ × Option (List ℕ) → Option ℕ
broken_sum (name, None) = Some 7
broken_sum (name, Some number) = lower (unless 7 (reg_of name)) (unless 4 (signed_of 63 number))

abbrev pub broken_number : List ℕ → Option NumberedOp → Option ℕ
broken_number text None = Some 7
broken_number text (Some numbered.Reg) = broken_sum (cut_at 58 text)
broken_number text (Some kind) = unless 4 (numbered_op kind text)

abbrev pub broken_op_by : List ℕ × Option (List ℕ) → Option ℕ
broken_op_by (word, None) = unless 7 (plain_of word)
broken_op_by (word, Some text) = broken_number text (numbered_of word)

abbrev pub broken_op : List ℕ → Option ℕ
broken_op text = broken_op_by (cut_at 58 text)

abbrev pub broken_zone : List ℕ → Option ℕ
broken_zone text = unless 4 (zone_of text)

-- the lowest rule that operations break: each alone, and all together
abbrev pub broken_operations : List ℕ → Option ℕ
broken_operations line = lower (lowest_of broken_op (words line)) (unless 7 (operations_of (Some line)))

-- the rule that a word breaks at such a place, if it breaks one; no number has more than 128 bits
abbrev pub broken : ℕ → Slot → List ℕ → Option ℕ
broken next slots.Version text = if bytes_eq text (codes "1") then None else Some 4
broken next slots.Next text = not_next next (number_of 32 text)
broken next (slots.Number bits) text = unless 4 (number_of (min bits 128) text)
broken next slots.Address text = unless 4 (address_of text)
broken next slots.Reference text = if begins_with 35 text then unless 4 (number_of 32 (drop 1 text)) else unless 7 (primitive_of text)
broken next slots.Pointer text = unless 7 (pointer_of text)
broken next slots.Primitive text = unless 7 (primitive_of text)
broken next slots.Kind text = None
broken next slots.Word text = unless 6 (word_of text)
broken next slots.Name text = unless 6 (name_of text)
broken next slots.Frame text = unless 7 (frame_of text)
broken next slots.Register text = unless 7 (reg_of text)
broken next slots.Signed text = unless 4 (signed_of 31 text)
broken next slots.Hex text = unless 4 (hex_of text)
broken next slots.Digits text = unless 7 (digits_of text)
broken next slots.Zones text = lowest_of broken_zone (words text)
broken next slots.Operations text = broken_operations text

-- the lowest rule that words break at their places
abbrev pub lowest_broken : ℕ → List Slot → Left → Option ℕ
lowest_broken next [] left = None
lowest_broken next (slot ∷ more) None = None
lowest_broken next (slot ∷ more) (Some line) =
    if is_rest slot then broken next slot line else lower (broken next slot (cut line).0) (lowest_broken next more (cut line).1)

-- the lowest rule above 2 that is broken, where such words may stand
abbrev pub rule_of_words : ℕ → Left → Result (List Slot) ℕ → Option ℕ
rule_of_words next left (Err rule) = Some rule
rule_of_words next left (Ok places) = if fits places left then lowest_broken next places left else Some 3

abbrev pub rule_of_kind : Front → Left → Option LineKind → Option ℕ
rule_of_kind front left None = Some 2
rule_of_kind front left (Some kind) = if may_stand front kind then rule_of_words (next_number front) left (places_of kind left) else Some 2

-- the lowest rule that the line breaks, if it breaks one
unfoldable pub rule_of : Front → List ℕ → Option ℕ
rule_of front line = if is_utf8 line then rule_of_kind front (cut line).1 (line_kind_of (cut line).0) else Some 1
