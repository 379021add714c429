use Rattle.std.proofs.Common.{◌≡◌, ◌++◌, ◌∷◌, take}
use Rattle.std.specs.List.{flat_map, All}
use Rattle.layout_words.specs.PlaceSpellings.{zone_text, IsZone}
use Rattle.layout_writer.proofs.func_writer.put_zones.Given as goal

-- the zones so far are put, and their ends are within their type
abbrev pub invariant-loop-zone : goal.invariant-loop-zone
invariant-loop-zone l = record {
  put : l.out ≡ l.initial.out ++ flat_map (λ z. 32 ∷ zone_text z) (take l.zone-index l.zones);
  are_zones : All IsZone (take l.zone-index l.zones);
}
