-- The entry that owns one.
use Rattle.std.proofs.Common.{◌≡◌, Option, Some, None, refl, sym, ap}
use Rattle.std.specs.Option.{option_map}
use Rattle.dwarf_entries.specs.Dies.{Die, Info}
use Rattle.dwarf_dies.specs.Handles.{DieIn, among}

-- an entry of the same `.debug_info`, which is the one
pub record IsAt (info : Info) (o : Option Die) (a : DieIn) : Type 0 where
  pub here : a.info ≡ info
  pub is : o ≡ Some a.die

pub there_is : (info : Info) (o : Option Die) (a : DieIn) → Some a ≡ option_map (among info) o → IsAt info o a
there_is info None a h = absurd (cc)
there_is info (Some d) a h =
    let same : a ≡ among info d = cc in
    record { here = ap (λ (x : DieIn). x.info) same; is = ap (λ (x : DieIn). Some x.die) (sym same) }

pub none_is : (info : Info) (o : Option Die) → None ≡ option_map (among info) o → o ≡ None
none_is info None h = refl
none_is info (Some d) h = absurd (cc)
