-- Which variant of an enum a number chooses.
use Rattle.std.specs.Prelude.{ℕ, ◌==◌, nat_le, ◌&&◌, ◌||◌, if◌then◌else◌, Bool, true, List, Option}
use Rattle.std.specs.List.{find}
use Rattle.layout_set.specs.declared.set.Selector.{Selector}
use Rattle.layout_set.specs.declared.set.Selector.TheVariants.{Exact, Span, Only}
use Rattle.layout_set.specs.declared.set.Variant.{Variant}

-- the selector holds of a number; a span whose first number is above its last goes on from 0
abbrev pub holds : Selector → ℕ → Bool
holds (Exact n) t = t == n
holds (Span lo hi) t = if nat_le lo hi then nat_le lo t && nat_le t hi else nat_le lo t || nat_le t hi
holds Only t = true

abbrev pub is_chosen_by : ℕ → Variant → Bool
is_chosen_by t variant = holds variant.sel t

-- the first variant whose selector holds
abbrev pub chosen : List Variant → ℕ → Option Variant
chosen variants t = find (is_chosen_by t) variants
