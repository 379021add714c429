-- Where the index of each record leads.
use Rattle.std.specs.Prelude.{◌≡◌, ℕ, ◌+◌, List, length, slice_get, Some}
use Rattle.cv_type_defs.specs.Links.{Target, meant, modified, target, through}
use Rattle.cv_type_defs.specs.Numbering.{numbered_before}
use Rattle.cv_type_defs.specs.Records.{kind_at}
use Rattle.cv_type_records.specs.declared.kinds.TypeRec.{TypeRec}
use Rattle.cv_links.specs.Named.{AreCompletes}
use Rattle.cv_links.specs.Seen.{target_seen}
use Rattle.cv_links.specs.declared.completes.Completes.{Completes}
use Rattle.cv_links.specs.declared.target.Target.{Target as ReadTarget}

-- where the index of the record at a place leads, from any record after it
abbrev pub end_at : List TypeRec → ℕ → Target
end_at records place = through (modified (kind_at records place)) (target records place) (meant records place)

-- these are where the indices of the first records lead
pub record AreEnds (records : List TypeRec) (ends : List ReadTarget) : Type 0 where
  pub each : (place : ℕ) (end : ReadTarget) → slice_get ends place ≡ Some end → target_seen end ≡ end_at records place

-- the same of all records
pub record AreAllEnds (records : List TypeRec) (ends : List ReadTarget) : Type 0 where
  pub are : AreEnds records ends
  pub all : length ends ≡ length records

-- how many types of the set have their records before each place, up to the end
pub record AreNumbers (records : List TypeRec) (numbers : List ℕ) : Type 0 where
  pub each : (place n : ℕ) → slice_get numbers place ≡ Some n → n ≡ numbered_before records place
  pub all : length numbers ≡ length records + 1

-- what is kept for a view
pub record IsView (records : List TypeRec) (completes : Completes) (ends : List ReadTarget) (numbers : List ℕ) : Type 0 where
  pub completes_are : AreCompletes records completes
  pub ends_are : AreAllEnds records ends
  pub numbers_are : AreNumbers records numbers
