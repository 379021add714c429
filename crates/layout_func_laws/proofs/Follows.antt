-- Entries rise where each may follow the one before it.
use Rattle.std.proofs.Common.{zero, suc, ◌≡◌, ◌+◌, List, [], ◌∷◌, length, get_or, Bool, subst, arith}
use Rattle.std.specs.Bool.{Decides}
use Rattle.std.specs.List.{AllAdjacentBelow}
use Rattle.layout_set.specs.declared.func.Entry.{Entry}
use Rattle.layout_set.specs.Law13.{MayFollow, Rise}

-- each two neighbours are in order
abbrev AreInOrder : List Entry → Type 0
AreInOrder entries = AllAdjacentBelow MayFollow entries (length entries)

pub neighbours_rise : (entries : List Entry) → AreInOrder entries → Rise entries
neighbours_rise [] all = tt
neighbours_rise (a ∷ []) all = tt
neighbours_rise (a ∷ b ∷ entries) all = (all 0 a (omega arith), neighbours_rise (b ∷ entries) rest)
  where
    rest : AreInOrder (b ∷ entries)
    rest k d h = subst (λ n. MayFollow (get_or (b ∷ entries) k d) (get_or (a ∷ b ∷ entries) n d)) (let e : suc k + 1 ≡ suc (k + 1) = omega arith in e) (all (suc k) d (omega (arith, h)))

pub rise_neighbours : (entries : List Entry) → Rise entries → AreInOrder entries
rise_neighbours [] up k d h = elim (let f : ⊥ = omega (arith, h) in f) [ ]
rise_neighbours (a ∷ []) up k d h = elim (let f : ⊥ = omega (arith, h) in f) [ ]
rise_neighbours (a ∷ b ∷ entries) up zero d h = up.0
rise_neighbours (a ∷ b ∷ entries) up (suc k) d h = subst (λ n. MayFollow (get_or (b ∷ entries) k d) (get_or (a ∷ b ∷ entries) n d)) (let e : suc (k + 1) ≡ suc k + 1 = omega arith in e) (rise_neighbours (b ∷ entries) up.1 k d (omega (arith, h)))

pub rise_decides : (entries : List Entry) (r : Bool) → Decides r (AreInOrder entries) → Decides r (Rise entries)
rise_decides entries r told = ((λ t. neighbours_rise entries (told.0 t)), λ up. told.1 (rise_neighbours entries up))
