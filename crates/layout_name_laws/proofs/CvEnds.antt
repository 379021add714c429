-- Which texts and derived names end with `>`, as the code finds it.
use Rattle.std.proofs.Common.{◌≡◌, ℕ, suc, ◌-◌, ◌==◌, ◌∙◌, List, [], ◌∷◌, length, map, Bool, false, Option, Some, None, get_or, slice_get, option_map, refl, ap, arith}
use Rattle.std.proofs.lemmas.Option.{slice_get-map}
use Rattle.type_names.specs.CvText.{ends_closed}
use Rattle.layout_set.specs.declared.primitive.Primitive.{Primitive}
use Rattle.layout_set.specs.declared.set.TypeRef.TheVariants.{Prim, User}
use Rattle.layout_set.specs.declared.set.TypeDef.{TypeDef}
use Rattle.layout_name_laws.specs.NameLengths.{closes, closes_at, closes_def}
use Rattle.layout_name_laws.proofs.CvLinks.{is_unit, prim_closes}

pub ends_by_last : (text : List ℕ) → (get_or text (length text - 1) 0 == 62) ≡ ends_closed text
ends_by_last [] = refl
ends_by_last (c ∷ []) = refl
ends_by_last (c ∷ d ∷ s) = ap (λ n. get_or (c ∷ d ∷ s) n 0 == 62) (let e : length (c ∷ d ∷ s) - 1 ≡ suc (length (d ∷ s) - 1) = omega arith in e) ∙ ends_by_last (d ∷ s)

pub closes_prim : (types : List TypeDef) (prim : Primitive) → closes types (Prim prim) ≡ is_unit prim
closes_prim types prim = prim_closes prim

abbrev pub or_false : Option Bool → Bool
or_false None = false
or_false (Some b) = b

pub closes_user : (types : List TypeDef) (i : ℕ) → or_false (slice_get (map closes_def types) i) ≡ closes types (User i)
closes_user types i = ap or_false (slice_get-map closes_def types i) ∙ at (slice_get types i)
  where
    at : (o : Option TypeDef) → or_false (option_map closes_def o) ≡ closes_at o
    at None = refl
    at (Some t) = refl
