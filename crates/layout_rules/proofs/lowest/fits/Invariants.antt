use Rattle.std.proofs.Common.{◌≡◌, drop}
use Rattle.layout_rules.specs.Faults.{fits}
use Rattle.layout_words.specs.Steps.{lent}
use Rattle.layout_rules.proofs.lowest.fits.Given as goal

-- the places that are left fit what is left
abbrev pub invariant-loop-place : goal.invariant-loop-place
invariant-loop-place l = fits (drop l.place-index l.places) (lent l.left) ≡ fits l.places (lent l.initial.left)
