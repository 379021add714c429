-- One level of the test for a leaf.
use Rattle.std.proofs.Common.{◌≡◌, ℕ, zero, suc, ◌-◌, ◌<◌, List, Option, slice_get, sym, ap, ◌∙◌, arith}
use Rattle.layout_honest.specs.declared.honesty.Niche.{Niche}
use Rattle.layout_set.specs.declared.set.TypeRef.TheVariants.{User}
use Rattle.layout_set.specs.declared.set.TypeDef.{TypeDef}
use Rattle.layout_honest.specs.Lies.{lies, def_lies_at}

pub lies_user : (most : ℕ) (types : List TypeDef) (niche : Niche) (i off : ℕ) (o : Option TypeDef) → 0 < most → slice_get types i ≡ o → def_lies_at 8 (lies 8 (most - 1) types niche) types niche off o ≡ lies 8 most types niche (User i) off
unfolding lies
lies_user zero types niche i off o h e = elim (let f : ⊥ = omega (arith, h) in f) [ ]
lies_user (suc most) types niche i off o h e =
    ap (λ m. def_lies_at 8 (lies 8 m types niche) types niche off o) (let f : suc most - 1 ≡ most = omega arith in f) ∙ ap (def_lies_at 8 (lies 8 most types niche) types niche off) (sym e)
