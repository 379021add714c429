-- Entries that are found among some are of these.
use Rattle.std.proofs.Common.{◌≡◌, Option, Some, None, ap}
use Rattle.std.specs.Option.{option_map}
use Rattle.dwarf_entries.specs.Dies.{Die, Info}
use Rattle.dwarf_dies.specs.Handles.{DieIn, among}

pub here : (info : Info) (o : Option Die) (a : DieIn) → Some a ≡ option_map (among info) o → a.info ≡ info
here info None a h = absurd (cc)
here info (Some d) a h = let same : a ≡ among info d = cc in ap (λ (x : DieIn). x.info) same
