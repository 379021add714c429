use Rattle.std.proofs.Common.{◌≡◌, ℕ, ◌+◌, ◌*◌, ◌-◌, map, drop}
use Rattle.std.specs.List.{range_with_len}
use Rattle.image_view.specs.Places.{part_of}
use Rattle.layout_values.specs.Contexts.{element_part, far_part}
use Rattle.layout_values.specs.Walk.{go_field}
use Rattle.layout_values.specs.Reached.{counting, total, named_total}
use Rattle.value_reader.specs.Checking.{append_checked}
use Rattle.value_reader.specs.Reads.{reading, checked_parts, all_checked, read, nodes}
use Rattle.value_reader.specs.Walking.{context_in}
use Rattle.value_reader.proofs.walk.Walk.+read.Given as goal

-- a level is taken at each type of the set, and what is done at it comes below it in this order
abbrev pub decreases-read : goal.decreases-read
decreases-read l = 8 * l.levels

abbrev pub decreases-read_def : goal.decreases-read_def
decreases-read_def l = 8 * l.levels + 5

abbrev pub decreases-read_fields : goal.decreases-read_fields
decreases-read_fields l = 8 * l.levels + 1

abbrev pub decreases-read_array : goal.decreases-read_array
decreases-read_array l = 8 * l.levels + 1

abbrev pub decreases-read_far : goal.decreases-read_far
decreases-read_far l = 8 * l.levels + 1

abbrev pub decreases-read_thin : goal.decreases-read_thin
decreases-read_thin l = 8 * l.levels + 2

abbrev pub decreases-read_span : goal.decreases-read_span
decreases-read_span l = 8 * l.levels + 2

abbrev pub decreases-read_slice : goal.decreases-read_slice
decreases-read_slice l = 8 * l.levels + 3

abbrev pub decreases-read_variant : goal.decreases-read_variant
decreases-read_variant l = 8 * l.levels + 2

abbrev pub decreases-read_enum : goal.decreases-read_enum
decreases-read_enum l = 8 * l.levels + 3

-- parts are read in the same; the fields so far, with the others, are all; and so many nodes are taken off
abbrev pub invariant-read_fields-loop-field : goal.invariant-read_fields-loop-field
invariant-read_fields-loop-field l =
    let c = context_in l.fn.self.context in
    let go = go_field reading c (read c l.levels) l.depth (part_of l.image) in
    let count = go_field counting c (nodes c l.levels) l.depth (part_of l.image) in
    record {
      context : l.self.context ≡ l.fn.self.context;
      all : append_checked l.parts (checked_parts (map go (drop l.field-index l.fields))) ≡ checked_parts (map go l.fields);
      left : l.self.left + named_total (map count l.fields) ≡ l.fn.self.left + named_total (map count (drop l.field-index l.fields));
    }

-- parts are read in the same; the elements so far, with the others, are all; and so many nodes are taken off
abbrev pub invariant-read_array-loop-i : goal.invariant-read_array-loop-i
invariant-read_array-loop-i l =
    let c = context_in l.fn.self.context in
    let go = λ (i : ℕ). read c l.levels l.depth l.elem (element_part c l.elem (part_of l.image) i) in
    let count = λ (i : ℕ). nodes c l.levels l.depth l.elem (element_part c l.elem (part_of l.image) i) in
    record {
      context : l.self.context ≡ l.fn.self.context;
      all : append_checked l.values (all_checked (map go (range_with_len l.i (l.shown - l.i)))) ≡ all_checked (map go (range_with_len 0 l.shown));
      left : l.self.left + total (map count (range_with_len 0 l.shown)) ≡ l.fn.self.left + total (map count (range_with_len l.i (l.shown - l.i)));
    }

-- parts are read in the same; the elements so far, with the others, are all; and so many nodes are taken off
abbrev pub invariant-read_far-loop-i : goal.invariant-read_far-loop-i
invariant-read_far-loop-i l =
    let c = context_in l.fn.self.context in
    let go = λ (i : ℕ). read c l.levels l.depth l.elem (far_part c l.elem l.at i) in
    let count = λ (i : ℕ). nodes c l.levels l.depth l.elem (far_part c l.elem l.at i) in
    record {
      context : l.self.context ≡ l.fn.self.context;
      all : append_checked l.values (all_checked (map go (range_with_len l.i (l.shown - l.i)))) ≡ all_checked (map go (range_with_len 0 l.shown));
      left : l.self.left + total (map count (range_with_len 0 l.shown)) ≡ l.fn.self.left + total (map count (range_with_len l.i (l.shown - l.i)));
    }
