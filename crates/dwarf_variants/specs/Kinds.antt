-- Children of one kind.
use Rattle.std.specs.Prelude.{Bool, List, filter}
use Rattle.dwarf_entries.specs.Dies.{what}
use Rattle.dwarf_entries.specs.Enums.{is_variant}
use Rattle.dwarf_entries.specs.Structures.{is_member, is_part}
use Rattle.dwarf_entries.specs.Tags.{passes}
use Rattle.dwarf_entries.specs.declared.tag.Tag.{Tag}
use Rattle.dwarf_dies.specs.Handles.{DieIn}
use Rattle.dwarf_variants.specs.declared.kinds.Kind.{Kind}

-- the tags of a kind
abbrev pub test_of : Kind → Tag → Bool
test_of Kind.Member = is_member
test_of Kind.Part = is_part
test_of Kind.Variant = is_variant

-- those of a list that are of a kind
abbrev pub of_kind : Kind → List DieIn → List DieIn
of_kind kind l = filter (λ c. passes (test_of kind) (what c.die)) l
