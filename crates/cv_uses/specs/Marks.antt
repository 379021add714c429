-- Marks of the simple pointers to which links lead, by the simple types to which they lead.
use Rattle.std.specs.Prelude.{ℕ, ◌-◌, nat_lt, if◌then◌else◌, Bool, true, false, List, [], ◌∷◌, slice_index_or, slice_set}
use Rattle.std.specs.List.{repeat}
use Rattle.cv_type_defs.specs.Links.{Target}

-- nothing is marked
abbrev pub no_marks : List Bool
no_marks = repeat 128 (false ∷ [])

-- the pointer to this simple type is marked
abbrev pub marked : List Bool → ℕ → Bool
marked marks t = slice_index_or marks t false

-- the marks with that of the simple pointer to which a link leads
abbrev pub with_mark : List Bool → Target → List Bool
with_mark marks (Target.Simple index) = if nat_lt index 0x600 then marks else slice_set marks (index - 0x600) true
with_mark marks to = marks

-- the same of several links
abbrev pub with_marks : List Bool → List Target → List Bool
with_marks marks [] = marks
with_marks marks (to ∷ targets) = with_marks (with_mark marks to) targets
