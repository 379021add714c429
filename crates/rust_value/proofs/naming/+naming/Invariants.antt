use Rattle.std.proofs.Common.{map, take}
use Rattle.rust_value.specs.Named.{AreWords, names_of, part_names, together}
use Rattle.rust_value.proofs.naming.+naming.Given as goal

-- the names in the values so far are words
abbrev pub invariant-all_names_are_words-loop-value : goal.invariant-all_names_are_words-loop-value
invariant-all_names_are_words-loop-value l = AreWords (together (map names_of (take l.value-index l.values)))

-- the names of the parts so far, and in their values, are words
abbrev pub invariant-part_names_are_words-loop-part : goal.invariant-part_names_are_words-loop-part
invariant-part_names_are_words-loop-part l = AreWords (together (map part_names (take l.part-index l.parts)))
