-- A set that is described is sound.
use Rattle.std.proofs.Common.{◌≡◌, subst, sym}
use Rattle.bundle_file.specs.declared.sections.Bundle.{Bundle}
use Rattle.layout_set.specs.Laws.{IsSound}
use Rattle.layout_set.specs.declared.set.Set.{Set}
use Rattle.bundle_reader.specs.Readings.{IsDescribed}

pub sound : (b : Bundle) (s : Set) → IsDescribed b s → IsSound s
sound (Bundle.Dwarf d) s h = subst IsSound (sym h.is) h.sound
sound (Bundle.Cv d) s h = absurd h
