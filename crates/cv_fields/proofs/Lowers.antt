-- The lower of rules.
use Rattle.std.proofs.Common.{◌≡◌, ℕ, min, Option, Some, None, refl, ap, arith}
use Rattle.cv_type_defs.specs.Items.{lower}

-- it is the same in each order of taking two
pub lower_assoc : (a b c : Option ℕ) → lower a (lower b c) ≡ lower (lower a b) c
lower_assoc None b c = refl
lower_assoc (Some a) None c = refl
lower_assoc (Some a) (Some b) None = refl
lower_assoc (Some a) (Some b) (Some c) = ap (λ n. Some n) (mins a b c)
  where
    mins : (a b c : ℕ) → min a (min b c) ≡ min (min a b) c
    mins a b c = omega arith

pub lower_none : (a : Option ℕ) → lower a None ≡ a
lower_none None = refl
lower_none (Some a) = refl
