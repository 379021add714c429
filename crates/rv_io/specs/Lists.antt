-- What a list ends as, where a `&mut` to its last item is returned.
use Rattle.std.specs.Prelude.{List as Seq, ◌-◌, length, slice_set, Option}
use Rattle.std.specs.Borrow.{LendsIf, Fml, RattleType, MutBor}
use Rattle.rv_io.specs.contracts.list.List.{the_row}

-- the list with another last item
abbrev pub with_last : {T : Type 0} → Seq T → T → Seq T
with_last items item = slice_set items (length items - 1) item

-- once the borrow ends, the last item is what was written through it, and the others stay; at `None` the list stays
module _ (T : RattleType) (list : MutBor (Seq T.Denot)) where
  abbrev pub LendsLast : Option (MutBor T.Denot) → Fml
  LendsLast last = LendsIf (the_row T) T list last (with_last list.now) list.now
