-- Entries that are found beside one.
use Rattle.std.proofs.Common.{◌≡◌, Option, Some, None, refl, sym, ap}
use Rattle.std.specs.Option.{option_map}
use Rattle.dwarf_entries.specs.Dies.{Die}
use Rattle.dwarf_dies.specs.Handles.{DieIn, beside}

-- an entry that was found is one of the same entries
pub record IsBeside (a : DieIn) (o : Option Die) (s : DieIn) : Type 0 where
  pub here : s.info ≡ a.info
  pub is : o ≡ Some s.die

pub beside_is : (a : DieIn) (o : Option Die) (s : DieIn) → Some s ≡ option_map (beside a) o → IsBeside a o s
beside_is a None s h = absurd (cc)
beside_is a (Some d) s h =
    let same : beside a d ≡ s = cc in
    record { here = sym (ap (λ (x : DieIn). x.info) same); is = ap (λ (x : DieIn). Some x.die) same }

pub beside_none : (a : DieIn) (o : Option Die) → None ≡ option_map (beside a) o → o ≡ None
beside_none a None h = refl
beside_none a (Some d) h = absurd (cc)
