-- The ends of inline sites, and what they hide.
use Rattle.std.proofs.Common.{◌≡◌, ℕ, zero, suc, Bool, true, false, cond, List, [], ◌∷◌, ◌++◌, drop, slice_get, Option, Some, None, unwrap_or, refl, ap, ◌∙◌}
use Rattle.std.proofs.lemmas.Bool.{cond-true, cond-false, eqb-true}
use Rattle.std.specs.Option.{option_map}
use Rattle.cv_symbol_records.specs.declared.kinds.SymKind.{SymKind}
use Rattle.cv_symbol_records.specs.declared.kinds.SymRec.{SymRec}
use Rattle.cv_type_defs.specs.Symbols.{closes_site, is_other, opens_site, outside_after, outside_sites, site_length}
use Rattle.cv_constants.specs.Sites.{behind_ends}

one_further : (s : SymRec) (rest : List SymRec) (o : Option ℕ) → option_map (λ n. drop n (s ∷ rest)) (option_map (λ n. suc n) o) ≡ option_map (λ n. drop n rest) o
one_further s rest None = refl
one_further s rest (Some n) = refl

behind_first : (l : List (List SymRec)) (k : ℕ) → slice_get l (suc k) ≡ slice_get (drop 1 l) k
behind_first [] k = refl
behind_first (x ∷ xs) k = refl

-- a site has its end where so many others of what is behind have theirs
pub ends_found : (k : ℕ) (xs : List SymRec) → option_map (λ n. drop n xs) (site_length k xs) ≡ slice_get (behind_ends xs) k
unfolding site_length behind_ends
ends_found zero [] = refl
ends_found (suc k) [] = refl
ends_found zero (s ∷ rest) = by_tests (closes_site s) (opens_site s) (ends_found 0 rest) (ends_found 1 rest)
  where
    by_tests : (c o : Bool) → option_map (λ n. drop n rest) (site_length 0 rest) ≡ slice_get (behind_ends rest) 0
        → option_map (λ n. drop n rest) (site_length 1 rest) ≡ slice_get (behind_ends rest) 1
        → option_map (λ n. drop n (s ∷ rest)) (cond c (Some 1) (option_map (λ n. suc n) (site_length (cond o 1 0) rest)))
        ≡ slice_get (cond c (rest ∷ behind_ends rest) (cond o (drop 1 (behind_ends rest)) (behind_ends rest))) 0
    by_tests true o first second = refl
    by_tests false true first second = one_further s rest (site_length 1 rest) ∙ second ∙ behind_first (behind_ends rest) 0
    by_tests false false first second = one_further s rest (site_length 0 rest) ∙ first
ends_found (suc k) (s ∷ rest) = by_tests (closes_site s) (opens_site s) (ends_found k rest) (ends_found (suc k) rest) (ends_found (suc (suc k)) rest)
  where
    by_tests : (c o : Bool) → option_map (λ n. drop n rest) (site_length k rest) ≡ slice_get (behind_ends rest) k
        → option_map (λ n. drop n rest) (site_length (suc k) rest) ≡ slice_get (behind_ends rest) (suc k)
        → option_map (λ n. drop n rest) (site_length (suc (suc k)) rest) ≡ slice_get (behind_ends rest) (suc (suc k))
        → option_map (λ n. drop n (s ∷ rest)) (option_map (λ n. suc n) (site_length (cond c k (cond o (suc (suc k)) (suc k))) rest))
        ≡ slice_get (cond c (rest ∷ behind_ends rest) (cond o (drop 1 (behind_ends rest)) (behind_ends rest))) (suc k)
    by_tests true o less same more = one_further s rest (site_length k rest) ∙ less
    by_tests false true less same more = one_further s rest (site_length (suc (suc k)) rest) ∙ more ∙ behind_first (behind_ends rest) (suc k)
    by_tests false false less same more = one_further s rest (site_length (suc k) rest) ∙ same

-- so many symbols are hidden
pub hides : (n : ℕ) (xs : List SymRec) → outside_after n xs ≡ outside_sites (drop n xs)
unfolding outside_after
hides zero [] = refl
hides zero (s ∷ rest) = refl
hides (suc n) [] = refl
hides (suc n) (s ∷ rest) = hides n rest

abbrev shown : SymRec → Option ℕ → List SymRec
shown s None = s ∷ []
shown s (Some n) = []

-- a symbol and those behind it, where it hides so many of these
abbrev shown_then : SymRec → List SymRec → Option ℕ → List SymRec
shown_then s rest hidden = shown s hidden ++ outside_after (unwrap_or hidden 0) rest

-- what is outside inline sites where there is an S_INLINESITE in front, and these are behind ends
abbrev pub opened : List (List SymRec) → SymRec → List SymRec → List SymRec
opened [] s rest = s ∷ outside_sites rest
opened (r ∷ ends) s rest = outside_sites r

hidden_is : (s : SymRec) (rest : List SymRec) → outside_sites (s ∷ rest) ≡ shown_then s rest (cond (opens_site s) (site_length zero rest) None)
unfolding outside_after
hidden_is s rest = refl

-- a symbol that opens no site is shown
pub shows : (s : SymRec) (rest : List SymRec) → opens_site s ≡ false → outside_sites (s ∷ rest) ≡ s ∷ outside_sites rest
shows s rest e = hidden_is s rest ∙ ap (shown_then s rest) (cond-false (opens_site s) (site_length zero rest) None e)

-- one that opens a site is shown where that has no end, and hides what is up to it else
pub opens : (s : SymRec) (rest : List SymRec) → opens_site s ≡ true → outside_sites (s ∷ rest) ≡ opened (behind_ends rest) s rest
opens s rest e =
    hidden_is s rest ∙ ap (shown_then s rest) (cond-true (opens_site s) (site_length zero rest) None e)
    ∙ by_end (site_length zero rest) (behind_ends rest) (ends_found 0 rest)
  where
    by_end : (o : Option ℕ) (ends : List (List SymRec)) → option_map (λ n. drop n rest) o ≡ slice_get ends 0 → shown_then s rest o ≡ opened ends s rest
    by_end None [] f = refl
    by_end None (r ∷ ends) f = absurd (cc)
    by_end (Some n) [] f = absurd (cc)
    by_end (Some n) (r ∷ ends) f = let same : drop n rest ≡ r = cc in hides n rest ∙ ap outside_sites same

closes_only : (kind : SymKind) → is_other 0x114e kind ≡ true → is_other 0x114d kind ≡ false
closes_only (SymKind.Other k) e = ap (is_other 0x114d) (ap SymKind.Other (eqb-true k 0x114e e))
closes_only _ e = absurd (cc)

-- an end opens no site
pub end_opens_none : (s : SymRec) → closes_site s ≡ true → opens_site s ≡ false
end_opens_none s e = closes_only s.kind e
