use Rattle.std.specs.Prelude.{◌≡◌, map}
use Rattle.std.specs.List.{flat_map}
use Rattle.dwarf_names.proofs.JoinedTexts.{put}
use Rattle.dwarf_names.proofs.joined.scoped_text.Given as goal

-- the scopes so far are put
abbrev pub invariant-loop-scope : goal.invariant-loop-scope
invariant-loop-scope l = l.text.items ≡ flat_map put (map (λ y. y.now) l.yielded)
