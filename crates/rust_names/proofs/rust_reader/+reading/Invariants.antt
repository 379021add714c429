use Rattle.std.proofs.Common.{◌≡◌, ◌+◌, ◌*◌, length, codes}
use Rattle.names.specs.Reading.{many, prepend}
use Rattle.rust_names.specs.RustGrammar.{rust, seg_of}
use Rattle.names.specs.Plain.{has_some}
use Rattle.rust_names.proofs.rust_reader.+reading.Given as goal

abbrev pub decreases-whole : goal.decreases-whole
decreases-whole l = 16 * l.depth

abbrev pub decreases-arg : goal.decreases-arg
decreases-arg l = 16 * l.depth

abbrev pub decreases-member : goal.decreases-member
decreases-member l = 16 * l.depth

abbrev pub decreases-worded : goal.decreases-worded
decreases-worded l = 16 * l.depth

abbrev pub decreases-plain : goal.decreases-plain
decreases-plain l = 16 * l.depth

abbrev pub decreases-symbol : goal.decreases-symbol
decreases-symbol l = 16 * l.depth

abbrev pub decreases-wholes : goal.decreases-wholes
decreases-wholes l = 16 * l.inner + 1

abbrev pub decreases-each_arg : goal.decreases-each_arg
decreases-each_arg l = 16 * l.inner + 1

abbrev pub decreases-members : goal.decreases-members
decreases-members l = 16 * l.inner + 1

abbrev pub decreases-args : goal.decreases-args
decreases-args l = 16 * l.inner + 2

abbrev pub decreases-seg_after : goal.decreases-seg_after
decreases-seg_after l = 16 * l.inner + 3

abbrev pub decreases-seg : goal.decreases-seg
decreases-seg l = 16 * l.inner + 4

abbrev pub decreases-segs : goal.decreases-segs
decreases-segs l = 16 * l.inner + 5

abbrev pub decreases-path_from : goal.decreases-path_from
decreases-path_from l = 16 * l.inner + 6

abbrev pub decreases-path_after : goal.decreases-path_after
decreases-path_after l = 16 * l.inner + 7

abbrev pub decreases-numbered_path : goal.decreases-numbered_path
decreases-numbered_path l = 16 * l.inner + 8

abbrev pub decreases-tuple_from : goal.decreases-tuple_from
decreases-tuple_from l = 16 * l.inner + 2

abbrev pub decreases-dyn_from : goal.decreases-dyn_from
decreases-dyn_from l = 16 * l.inner + 3

abbrev pub decreases-parts_word : goal.decreases-parts_word
decreases-parts_word l = 16 * l.inner + 4

abbrev pub decreases-parts : goal.decreases-parts
decreases-parts l = 16 * l.inner + 5

abbrev pub decreases-no_unit : goal.decreases-no_unit
decreases-no_unit l = 16 * l.inner + 1

abbrev pub decreases-result_of : goal.decreases-result_of
decreases-result_of l = 16 * l.inner + 2

abbrev pub decreases-function : goal.decreases-function
decreases-function l = 16 * l.inner + 3

abbrev pub decreases-bracketed : goal.decreases-bracketed
decreases-bracketed l = 16 * l.inner + 1

abbrev pub decreases-pointed : goal.decreases-pointed
decreases-pointed l = 16 * l.inner + 1

abbrev pub decreases-referred_word : goal.decreases-referred_word
decreases-referred_word l = 16 * l.inner + 1

abbrev pub decreases-referred : goal.decreases-referred
decreases-referred l = 16 * l.inner + 2

abbrev pub decreases-inside : goal.decreases-inside
decreases-inside l = 16 * l.inner + 6

abbrev pub decreases-worded_within : goal.decreases-worded_within
decreases-worded_within l = 16 * l.inner + 9

abbrev pub decreases-symbol_within : goal.decreases-symbol_within
decreases-symbol_within l = 16 * l.inner + 9

abbrev pub decreases-arg_word : goal.decreases-arg_word
decreases-arg_word l = 16 * l.inner + 10

abbrev pub decreases-arg_within : goal.decreases-arg_within
decreases-arg_within l = 16 * l.inner + 11

abbrev pub decreases-whole_within : goal.decreases-whole_within
decreases-whole_within l = 16 * l.inner + 10

abbrev pub decreases-member_within : goal.decreases-member_within
decreases-member_within l = 16 * l.inner + 9

-- what was read so far, and then the rest, is the whole list
abbrev pub invariant-wholes-loop-names : goal.invariant-wholes-loop-names
invariant-wholes-loop-names l =
    prepend l.names ((many (rust l.inner).whole 44 (codes " ")).read l.text) ≡ (many (rust l.inner).whole 44 (codes " ")).read l.fn.text

abbrev pub decreases-wholes-loop-names : goal.decreases-wholes-loop-names
decreases-wholes-loop-names l = length l.text

-- what was read so far, and then the rest, is the whole list
abbrev pub invariant-each_arg-loop-names : goal.invariant-each_arg-loop-names
invariant-each_arg-loop-names l =
    prepend l.names ((many (rust l.inner).arg 44 (codes " ")).read l.text) ≡ (many (rust l.inner).arg 44 (codes " ")).read l.fn.text

abbrev pub decreases-each_arg-loop-names : goal.decreases-each_arg-loop-names
decreases-each_arg-loop-names l = length l.text

-- what was read so far, and then the rest, is the whole list
abbrev pub invariant-members-loop-names : goal.invariant-members-loop-names
invariant-members-loop-names l =
    prepend l.names ((many (rust l.inner).member 32 (codes "+ ")).read l.text) ≡ (many (rust l.inner).member 32 (codes "+ ")).read l.fn.text

abbrev pub decreases-members-loop-names : goal.decreases-members-loop-names
decreases-members-loop-names l = length l.text

-- what was read so far, and then the rest, is the whole list
abbrev pub invariant-segs-loop-segs : goal.invariant-segs-loop-segs
invariant-segs-loop-segs l =
    prepend l.segs ((many (seg_of (has_some l.inner) (rust l.inner).arg) 58 (codes ":")).read l.text) ≡
    (many (seg_of (has_some l.inner) (rust l.inner).arg) 58 (codes ":")).read l.fn.text

abbrev pub decreases-segs-loop-segs : goal.decreases-segs-loop-segs
decreases-segs-loop-segs l = length l.text
