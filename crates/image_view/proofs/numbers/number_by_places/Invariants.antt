use Rattle.std.proofs.Common.{◌≡◌, ◌+◌, ◌-◌, ◌<◌, ◌^◌, Some}
use Rattle.image_view.proofs.PlaceNumbers.{number_of}
use Rattle.image_view.proofs.numbers.number_by_places.Given as goal

abbrev pub invariant-loop-i : goal.invariant-loop-i
invariant-loop-i l = record {
  number : number_of l.mem l.source (l.from + l.i) (l.width - l.i) ≡ Some l.n;
  bound : l.n < 256 ^ (l.width - l.i);
}
