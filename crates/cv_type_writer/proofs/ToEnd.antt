-- Values one after the other, to the end of the bytes.
use Rattle.std.proofs.Common.{◌≡◌, ◌<◌, ℕ, ◌+◌, ◌-◌, List, ◌∷◌, ◌++◌, length, refl, ap, subst, arith, length-append}
use Rattle.std.proofs.lemmas.Bool.{ne_eqb}
use Rattle.rv_bytes.specs.Forms.{Form, RowSpells}
use Rattle.cv_parts.specs.Series.{Sized, series, to_end}

-- one value before others
pub end_next : {A : Type 0} (F : Form ℕ A) (n : ℕ) (v : A) (vs : List A) (t u : List ℕ) → F.spells n v t → 0 < length t → (to_end (λ _. F) (length u)).spells (n + length t) vs u → (to_end (λ _. F) (length (t ++ u))).spells n (v ∷ vs) (t ++ u)
end_next {A} F n v vs t u s l h =
    let w : Sized A = record { value = v; size = length t } in
    let left : length u ≡ length (t ++ u) - length t = omega (arith, length-append t u) in (
      w ∷ h.0,
      (
        ap (λ z. v ∷ z) h.1.0,
        (
          ne_eqb (length (t ++ u)) 0 (λ e. absurd (omega (arith, e, l, length-append t u))),
          record { front = t; back = u; split = refl; is_front = (s, refl); is_back = subst (λ z. RowSpells (series (λ _. F)) z (n + length t) h.0 u) left h.1.1 },
        ),
      ),
    )
