-- The static members of a name, one after the other.
use Rattle.std.proofs.Common.{◌≡◌, ℕ, List, ◌∷◌, Some, None, sym, ap}
use Rattle.std.specs.List.{cons_option}
use Rattle.cv_type_defs.specs.FieldLists.{Placed}
use Rattle.cv_type_defs.specs.Helpers.{StaticMember}
use Rattle.cv_enum_helpers.specs.Times.{named_static, statics_among}

-- the first member is the next of them, or none
pub first_found : (name : List ℕ) (p : Placed) (rest : List Placed) (s : StaticMember) → Some s ≡ named_static name p → statics_among name (p ∷ rest) ≡ s ∷ statics_among name rest
first_found name p rest s e = ap (λ o. cons_option o (statics_among name rest)) (sym e)

pub first_passed : (name : List ℕ) (p : Placed) (rest : List Placed) → None ≡ named_static name p → statics_among name (p ∷ rest) ≡ statics_among name rest
first_passed name p rest e = ap (λ o. cons_option o (statics_among name rest)) (sym e)
