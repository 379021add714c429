-- Names that nest less deep.
use Rattle.std.proofs.Common.{◌≡◌, ℕ, zero, suc, ◌-◌, Bool, true, false, ◌&&◌, List, [], ◌∷◌, refl, sym, ap, subst, ◌∙◌, arith}
use Rattle.std.specs.List.{AllByRecursion}
use Rattle.names.specs.declared.name.Name.{Name, out-Name}
use Rattle.names.specs.declared.name.Name.TheOpen.{Name-F}
use Rattle.names.specs.declared.name.Seg.{Seg}
use Rattle.names.specs.Names.{Role, whole, arg, member, IsSeg, IsLayer, Stands}
use Rattle.rust_names.specs.RustGrammar.{all_fit, segs_fit, layer_fits, fits}

and_parts : (a b : Bool) → (a && b) ≡ true → (a ≡ true) × (b ≡ true)
and_parts true b e = (refl, e)
and_parts false b e = cc

and_join : (a b : Bool) → a ≡ true → b ≡ true → (a && b) ≡ true
and_join true b e h = h
and_join false b e h = cc

-- what fits, of names that have P, has Q
module _ (fit : Name → Bool) (P Q : Role → Name → Type 0) (each : (role : Role) (x : Name) → fit x ≡ true → P role x → Q role x) where
  keep_all : (role : Role) (xs : List Name) → all_fit fit xs ≡ true → AllByRecursion (P role) xs → AllByRecursion (Q role) xs
  keep_all role [] e h = tt
  keep_all role (x ∷ xs) e h = let p = and_parts (fit x) (all_fit fit xs) e in (each role x p.0 h.0, keep_all role xs p.1 h.1)

  keep_segs : (ss : List Seg) → segs_fit fit ss ≡ true → AllByRecursion (IsSeg P) ss → AllByRecursion (IsSeg Q) ss
  keep_segs [] e h = tt
  keep_segs (s ∷ ss) e h = let p =
      and_parts (all_fit fit s.args) (segs_fit fit ss) e in ((h.0.0, (h.0.1.0, keep_all arg s.args p.0 h.0.1.1)), keep_segs ss p.1 h.1)

  layer_keeps : (role : Role) (l : Name-F Name Seg) → layer_fits fit l ≡ true → IsLayer P role l → IsLayer Q role l
  layer_keeps role (Name-F.Path segs) e h = (h.0, (h.1.0, keep_segs segs e h.1.1))
  layer_keeps role (Name-F.Pointer kind x) e h = (h.0, (h.1.0, each whole x e h.1.1))
  layer_keeps role (Name-F.Slice x) e h = (h.0, each whole x e h.1)
  layer_keeps role (Name-F.Array x n) e h = (h.0, (each whole x e h.1.0, h.1.1))
  layer_keeps role (Name-F.Tuple xs) e h = (h.0, keep_all whole xs e h.1)
  layer_keeps role Name-F.Str e h = h
  layer_keeps role (Name-F.Dyn xs) e h = (h.0, (h.1.0, keep_all member xs e h.1.1))
  layer_keeps role (Name-F.Fn xs x) e h = let p = and_parts (all_fit fit xs) (fit x) e in (h.0, (keep_all whole xs p.0 h.1.0, each whole x p.1 h.1.1))
  layer_keeps role (Name-F.Number minus n) e h = h
  layer_keeps role (Name-F.Bind w x) e h = (h.0, (h.1.0, each whole x e h.1.1))
  layer_keeps role (Name-F.Raw t) e h = h

-- names that have P fit
module _ (fit : Name → Bool) (P : Role → Name → Type 0) (each : (role : Role) (x : Name) → P role x → fit x ≡ true) where
  all_do : (role : Role) (xs : List Name) → AllByRecursion (P role) xs → all_fit fit xs ≡ true
  all_do role [] h = refl
  all_do role (x ∷ xs) h = and_join (fit x) (all_fit fit xs) (each role x h.0) (all_do role xs h.1)

  segs_do : (ss : List Seg) → AllByRecursion (IsSeg P) ss → segs_fit fit ss ≡ true
  segs_do [] h = refl
  segs_do (s ∷ ss) h = and_join (all_fit fit s.args) (segs_fit fit ss) (all_do arg s.args h.0.1.1) (segs_do ss h.1)

  layer_does : (role : Role) (l : Name-F Name Seg) → IsLayer P role l → layer_fits fit l ≡ true
  layer_does role (Name-F.Path segs) h = segs_do segs h.1.1
  layer_does role (Name-F.Pointer kind x) h = each whole x h.1.1
  layer_does role (Name-F.Slice x) h = each whole x h.1
  layer_does role (Name-F.Array x n) h = each whole x h.1.0
  layer_does role (Name-F.Tuple xs) h = all_do whole xs h.1
  layer_does role Name-F.Str h = refl
  layer_does role (Name-F.Dyn xs) h = all_do member xs h.1.1
  layer_does role (Name-F.Fn xs x) h = and_join (all_fit fit xs) (fit x) (all_do whole xs h.1.0) (each whole x h.1.1)
  layer_does role (Name-F.Number minus n) h = refl
  layer_does role (Name-F.Bind w x) h = each whole x h.1.1
  layer_does role (Name-F.Raw t) h = refl

-- what stands nests so deep
pub stands_fits : (d : ℕ) (role : Role) (n : Name) → Stands d role n → fits d n ≡ true
unfolding Stands fits
stands_fits zero role n h = absurd h
stands_fits (suc d) role n h = layer_does (fits d) (Stands d) (stands_fits d) role (out-Name n) h

-- what stands and nests less deep stands there too
pub fits_stands : (d : ℕ) (role : Role) (n : Name) → fits d n ≡ true → Stands (suc d) role n → Stands d role n
unfolding Stands fits
fits_stands zero role n e h = cc
fits_stands (suc d) role n e h = layer_keeps (fits d) (Stands (suc d)) (Stands d) (fits_stands d) role (out-Name n) e h

-- what stands may nest deeper
pub stands_deeper : (d : ℕ) (role : Role) (n : Name) → Stands d role n → Stands (suc d) role n
unfolding Stands
stands_deeper zero role n h = absurd h
stands_deeper (suc d) role n h =
    layer_keeps (λ _. true) (Stands d) (Stands (suc d)) (λ role x e h. stands_deeper d role x h) role (out-Name n)
    (layer_does (λ _. true) (Stands d) (λ role x h. refl) role (out-Name n) h) h

pub fits_none : (d : ℕ) (n : Name) → d ≡ 0 → fits d n ≡ false
unfolding fits
fits_none d n e = ap (λ d. fits d n) e

pub fits_at : (d : ℕ) (n : Name) (l : Name-F Name Seg) → (d ≡ 0 → ⊥) → out-Name n ≡ l → fits d n ≡ layer_fits (fits (d - 1)) l
unfolding fits
fits_at zero n l ne e = absurd (ne refl)
fits_at (suc d) n l ne e = ap (layer_fits (fits d)) e ∙ ap (λ i. layer_fits (fits i) l) (let same : d ≡ suc d - 1 = omega arith in same)
