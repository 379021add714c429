-- The symbols that types are looked up in: those outside inline sites, S_INLINESITE to its S_INLINESITE_END.
use Rattle.std.specs.Prelude.{ℕ, zero, suc, ◌==◌, Bool, true, false, if◌then◌else◌, bytes_eq, List, [], ◌∷◌}
use Rattle.std.specs.Prelude.{◌++◌, filter_map, ℤ, Option, Some, None, unwrap_or}
use Rattle.std.specs.Option.{option_map}
use Rattle.cv_symbol_records.specs.declared.kinds.SymKind.{SymKind}
use Rattle.cv_symbol_records.specs.declared.kinds.SymRec.{SymRec}

abbrev pub is_other : ℕ → SymKind → Bool
is_other kind (SymKind.Other k) = k == kind
is_other kind _ = false

-- S_INLINESITE
abbrev pub opens_site : SymRec → Bool
opens_site s = is_other 0x114d s.kind

-- S_INLINESITE_END
abbrev pub closes_site : SymRec → Bool
closes_site s = is_other 0x114e s.kind

-- how many symbols there are up to the end that closes this site, where so many more are open in it; None where it has no end
unfoldable pub site_length : ℕ → List SymRec → Option ℕ
site_length open_sites [] = None
site_length zero (s ∷ rest) =
    if closes_site s then Some 1 else option_map (λ n. suc n) (site_length (if opens_site s then 1 else 0) rest)
site_length (suc more) (s ∷ rest) =
    option_map (λ n. suc n) (site_length (if closes_site s then more else if opens_site s then suc (suc more) else suc more) rest)

abbrev hidden_after : SymRec → List SymRec → Option ℕ
hidden_after s rest = if opens_site s then site_length zero rest else None

abbrev shown : SymRec → Option ℕ → List SymRec
shown s None = s ∷ []
shown s (Some n) = []

-- the symbols outside inline sites, where so many next ones are in one
unfoldable pub outside_after : ℕ → List SymRec → List SymRec
outside_after hidden [] = []
outside_after zero (s ∷ rest) = shown s (hidden_after s rest) ++ outside_after (unwrap_or (hidden_after s rest) 0) rest
outside_after (suc hidden) (s ∷ rest) = outside_after hidden rest

-- the symbols outside inline sites; a site without an end, and an end without a site, hides nothing
abbrev pub outside_sites : List SymRec → List SymRec
outside_sites symbols = outside_after zero symbols

abbrev constant_named : List ℕ → SymKind → Option ℤ
constant_named name (SymKind.Constant ty number text) = if bytes_eq text name then Some number else None
constant_named name _ = None

abbrev first_of : List ℤ → Option ℤ
first_of [] = None
first_of (n ∷ numbers) = Some n

-- the number of the first S_CONSTANT of this name
abbrev pub constant_of : List SymRec → List ℕ → Option ℤ
constant_of symbols name = first_of (filter_map (λ s. constant_named name s.kind) symbols)

abbrev is_unnamed : List ℕ → Bool
is_unnamed [] = true
is_unnamed (c ∷ name) = false

-- the type of a static, S_LDATA32 or S_GDATA32, or of a local, S_LOCAL, that has a name
abbrev pub variable_type : SymKind → Option ℕ
variable_type (SymKind.LData d) = Some d.ty
variable_type (SymKind.GData d) = Some d.ty
variable_type (SymKind.Local ty flags name) = if is_unnamed name then None else Some ty
variable_type _ = None
