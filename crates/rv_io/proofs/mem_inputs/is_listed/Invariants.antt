use Rattle.std.proofs.Common.{◌≢◌, ℕ, ◌<◌, get_or}
use Rattle.rv_io.proofs.mem_inputs.is_listed.Given as goal

-- none of the numbers so far is the one
abbrev pub invariant-loop-n : goal.invariant-loop-n
invariant-loop-n l = (k : ℕ) → k < l.n-index → get_or l.numbers k 0 ≢ l.number
