-- The first and the last of listed numbers, and what they leave: DWARF 5, 5.7.10.
use Rattle.std.specs.Prelude.{ℕ, ◌<◌, ◌*◌, ◌^◌, Bool, false, List, [], ◌∷◌, Option, Some, None}
use Rattle.layout_set.specs.Numbers.{last_of}
use Rattle.layout_set.specs.Primitives.{prim_bytes}
use Rattle.layout_set.specs.declared.primitive.Primitive.{Primitive}
use Rattle.layout_set.specs.declared.set.Selector.{Selector}
use Rattle.dwarf_entries.specs.Discriminants.{default_first, default_last, leaves_none}
use Rattle.dwarf_variants.specs.declared.numbers.Listed.{Listed}

-- the ends of a list that has some
pub record Ends : Type 0 where
  pub first : ℕ
  pub last : ℕ

abbrev pub ends_of : List ℕ → Option Ends
ends_of [] = None
ends_of (first ∷ rest) = Some (record { first = first; last = last_of first rest })

abbrev pub ends_seen : Listed → Ends
ends_seen l = record { first = l.first; last = l.last }

-- with a number more at the end
abbrev pub with_next : Option Ends → ℕ → Option Ends
with_next None number = Some (record { first = number; last = number })
with_next (Some ends) number = Some (record { first = ends.first; last = number })

-- both are numbers of the type
pub record DoFit (prim : Primitive) (l : Listed) : Type 0 where
  pub first_fits : l.first < 2 ^ (8 * prim_bytes 8 prim)
  pub last_fits : l.last < 2 ^ (8 * prim_bytes 8 prim)

-- the span that they leave for the default variant, where the tag has so many bytes
abbrev pub span_by : ℕ → Option Ends → Selector
span_by size None = Selector.Span 0 0
span_by size (Some ends) = Selector.Span (default_first size ends.last) (default_last size ends.first)

-- they leave none for it
abbrev pub leave_none : ℕ → Option Ends → Bool
leave_none size None = false
leave_none size (Some ends) = leaves_none size ends.first ends.last
