-- The symbols outside inline sites, found from the last symbol to the first.
use Rattle.std.specs.Prelude.{◌≡◌, if◌then◌else◌, List, [], ◌∷◌, drop, length, map, reverse}
use Rattle.cv_symbol_records.specs.declared.kinds.SymRec.{SymRec}
use Rattle.cv_type_defs.specs.Symbols.{closes_site, opens_site, outside_sites}
use Rattle.cv_constants.specs.declared.sites.Shown.{Shown}

-- the symbols that are shown, the last first
abbrev pub symbols_of : Shown → List SymRec
symbols_of s = map (λ x. x.now) s.symbols.items

-- what is behind each end that has no site among some symbols
unfoldable pub behind_ends : List SymRec → List (List SymRec)
behind_ends [] = []
behind_ends (s ∷ rest) =
    if closes_site s then rest ∷ behind_ends rest else if opens_site s then drop 1 (behind_ends rest) else behind_ends rest

-- of these symbols those outside inline sites are shown, and how many of them are behind each end without a site
pub record AreShown (symbols : List SymRec) (kept : Shown) : Type 0 where
  pub shown : symbols_of kept ≡ reverse (outside_sites symbols)
  pub ends : kept.ends.items ≡ reverse (map (λ rest. length (outside_sites rest)) (behind_ends symbols))
