-- The scopes whose names are part of an entry's name: DWARF 5, 2.3 and 3.2.
use Rattle.std.specs.Prelude.{ℕ, Bool, if◌then◌else◌, List, [], ◌∷◌, ◌++◌, map, filter, reverse, codes}
use Rattle.names.specs.Joined.{joined}
use Rattle.dwarf_entries.specs.Dies.{Die, ancestors, what}
use Rattle.dwarf_entries.specs.Names.{is_complete, proper_name}
use Rattle.dwarf_entries.specs.Tags.{passes, is_named_scope}
use Rattle.dwarf_entries.specs.Texts.{own_text}
use Rattle.dwarf_dies.specs.Handles.{DieIn, beside}

-- whether it is a namespace, structure, enumeration or union
abbrev pub is_scope : Die → Bool
is_scope d = passes is_named_scope (what d)

-- those around an entry, the innermost first
abbrev pub scopes_around : DieIn → List DieIn
scopes_around d = map (beside d) (filter is_scope (ancestors d.die))

abbrev pub text_of : DieIn → List ℕ
text_of d = own_text d.info d.die

-- those whose names are part of its name: none where its own text is a name of another shape than one segment
abbrev pub scopes_before : DieIn → List DieIn
scopes_before d = if is_complete (proper_name (text_of d)) then [] else scopes_around d

-- a text after those of scopes, of which the innermost is the first, with `::` between each two
abbrev pub scoped_text : List DieIn → List ℕ → List ℕ
scoped_text scopes own = joined (codes "::") (map text_of (reverse scopes) ++ own ∷ [])
