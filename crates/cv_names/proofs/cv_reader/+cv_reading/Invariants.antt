use Rattle.std.proofs.Common.{◌≡◌, ◌+◌, ◌*◌, [], length, codes}
use Rattle.names.specs.Reading.{many, prepend}
use Rattle.names.specs.Plain.{has_some}
use Rattle.cv_names.specs.CvGrammar.{cv, seg_of}
use Rattle.cv_names.proofs.cv_reader.+cv_reading.Given as goal

abbrev pub decreases-cv_whole : goal.decreases-cv_whole
decreases-cv_whole l = 16 * l.depth

abbrev pub decreases-cv_arg : goal.decreases-cv_arg
decreases-cv_arg l = 16 * l.depth

abbrev pub decreases-cv_member : goal.decreases-cv_member
decreases-cv_member l = 16 * l.depth

abbrev pub decreases-cv_wholes : goal.decreases-cv_wholes
decreases-cv_wholes l = 16 * l.inner + 1

abbrev pub decreases-cv_each_arg : goal.decreases-cv_each_arg
decreases-cv_each_arg l = 16 * l.inner + 1

abbrev pub decreases-cv_members : goal.decreases-cv_members
decreases-cv_members l = 16 * l.inner + 1

abbrev pub decreases-cv_args : goal.decreases-cv_args
decreases-cv_args l = 16 * l.inner + 2

abbrev pub decreases-cv_seg_after : goal.decreases-cv_seg_after
decreases-cv_seg_after l = 16 * l.inner + 3

abbrev pub decreases-cv_seg : goal.decreases-cv_seg
decreases-cv_seg l = 16 * l.inner + 4

abbrev pub decreases-cv_segs : goal.decreases-cv_segs
decreases-cv_segs l = 16 * l.inner + 5

abbrev pub decreases-cv_path_from : goal.decreases-cv_path_from
decreases-cv_path_from l = 16 * l.inner + 6

abbrev pub decreases-cv_path_after : goal.decreases-cv_path_after
decreases-cv_path_after l = 16 * l.inner + 7

abbrev pub decreases-counted : goal.decreases-counted
decreases-counted l = 16 * l.inner + 8

abbrev pub decreases-cv_path : goal.decreases-cv_path
decreases-cv_path l = 16 * l.inner + 9

abbrev pub decreases-unformed : goal.decreases-unformed
decreases-unformed l = 16 * l.inner + 9

abbrev pub decreases-cv_pointer : goal.decreases-cv_pointer
decreases-cv_pointer l = 16 * l.inner + 1

abbrev pub decreases-cv_slice : goal.decreases-cv_slice
decreases-cv_slice l = 16 * l.inner + 1

abbrev pub decreases-cv_array : goal.decreases-cv_array
decreases-cv_array l = 16 * l.inner + 1

abbrev pub decreases-cv_tuple : goal.decreases-cv_tuple
decreases-cv_tuple l = 16 * l.inner + 2

abbrev pub decreases-cv_dyn : goal.decreases-cv_dyn
decreases-cv_dyn l = 16 * l.inner + 2

abbrev pub decreases-cv_function : goal.decreases-cv_function
decreases-cv_function l = 16 * l.inner + 2

abbrev pub decreases-cv_binding : goal.decreases-cv_binding
decreases-cv_binding l = 16 * l.inner + 1

abbrev pub decreases-content : goal.decreases-content
decreases-content l = 16 * l.inner + 10

abbrev pub decreases-form_content : goal.decreases-form_content
decreases-form_content l = 16 * l.inner + 11

abbrev pub decreases-after_dollar : goal.decreases-after_dollar
decreases-after_dollar l = 16 * l.inner + 12

abbrev pub decreases-cv_worded : goal.decreases-cv_worded
decreases-cv_worded l = 16 * l.inner + 13

abbrev pub decreases-cv_name : goal.decreases-cv_name
decreases-cv_name l = 16 * l.inner + 14

abbrev pub decreases-cv_arg_within : goal.decreases-cv_arg_within
decreases-cv_arg_within l = 16 * l.inner + 15

-- what was read so far, and then the rest, is the whole list
abbrev pub invariant-cv_wholes-loop-names : goal.invariant-cv_wholes-loop-names
invariant-cv_wholes-loop-names l = prepend l.names ((many (cv l.inner).whole 44 []).read l.text) ≡ (many (cv l.inner).whole 44 []).read l.fn.text

abbrev pub decreases-cv_wholes-loop-names : goal.decreases-cv_wholes-loop-names
decreases-cv_wholes-loop-names l = length l.text

-- what was read so far, and then the rest, is the whole list
abbrev pub invariant-cv_each_arg-loop-names : goal.invariant-cv_each_arg-loop-names
invariant-cv_each_arg-loop-names l = prepend l.names ((many (cv l.inner).arg 44 []).read l.text) ≡ (many (cv l.inner).arg 44 []).read l.fn.text

abbrev pub decreases-cv_each_arg-loop-names : goal.decreases-cv_each_arg-loop-names
decreases-cv_each_arg-loop-names l = length l.text

-- what was read so far, and then the rest, is the whole list
abbrev pub invariant-cv_members-loop-names : goal.invariant-cv_members-loop-names
invariant-cv_members-loop-names l = prepend l.names ((many (cv l.inner).member 44 []).read l.text) ≡ (many (cv l.inner).member 44 []).read l.fn.text

abbrev pub decreases-cv_members-loop-names : goal.decreases-cv_members-loop-names
decreases-cv_members-loop-names l = length l.text

-- what was read so far, and then the rest, is the whole list
abbrev pub invariant-cv_segs-loop-segs : goal.invariant-cv_segs-loop-segs
invariant-cv_segs-loop-segs l =
    prepend l.segs ((many (seg_of (has_some l.inner) (cv l.inner).arg) 58 (codes ":")).read l.text) ≡
    (many (seg_of (has_some l.inner) (cv l.inner).arg) 58 (codes ":")).read l.fn.text

abbrev pub decreases-cv_segs-loop-segs : goal.decreases-cv_segs-loop-segs
decreases-cv_segs-loop-segs l = length l.text
