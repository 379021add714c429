use Rattle.std.proofs.Common.{refl, ℕ, List, [], arith, lit≤, Option, Err, IfSome}
use Rattle.rv_io.specs.Files.{Files}
use Rattle.dbg_command.specs.declared.stop.Stop.{Stop}
use Rattle.dbg_command.specs.declared.stop.Stop.TheVariants as stops
use Rattle.dbg_command.specs.Stops.{status_of, message}
use Rattle.dbg_command.specs.Runs.{Stops, Ends, Fits}

module _ (named : Type 0) (told : Option Files) (Holds : Files → ℕ → List ℕ → List ℕ → Type 0) (rb rn wb wn : ℕ) where
  pub ends_stop : (stop : Stop) → Stops told Holds rb rn stop → Fits named (Err stop) → Ends named told Holds rb rn wb wn (status_of stop) [] (message stop)
  ends_stop stops.Usage h n = record { silent = λ e. absurd (omega arith); stopped = λ e. absurd (omega arith); answered = λ _. h; refused = λ _ _. refl; usage = λ _. (n, refl); nameless = λ _. refl; read = λ e. absurd (omega arith); write = λ e. absurd (omega arith); memory = λ e. absurd (omega arith); status = lit≤ tt }
  ends_stop (stops.LayoutLine l r) h n = record { silent = λ e. absurd (omega arith); stopped = λ _. ((stops.LayoutLine l r), refl, refl); answered = λ _. h; refused = λ _ _. refl; usage = λ e. absurd (omega arith); nameless = λ m. absurd (m n); read = λ e. absurd (omega arith); write = λ e. absurd (omega arith); memory = λ e. absurd (omega arith); status = lit≤ tt }
  ends_stop (stops.LayoutLimit w) h n = record { silent = λ e. absurd (omega arith); stopped = λ _. ((stops.LayoutLimit w), refl, refl); answered = λ _. h; refused = λ _ _. refl; usage = λ e. absurd (omega arith); nameless = λ m. absurd (m n); read = λ e. absurd (omega arith); write = λ e. absurd (omega arith); memory = λ e. absurd (omega arith); status = lit≤ tt }
  ends_stop (stops.Breach k at) h n = record { silent = λ e. absurd (omega arith); stopped = λ _. ((stops.Breach k at), refl, refl); answered = λ _. h; refused = λ _ _. refl; usage = λ e. absurd (omega arith); nameless = λ m. absurd (m n); read = λ e. absurd (omega arith); write = λ e. absurd (omega arith); memory = λ e. absurd (omega arith); status = lit≤ tt }
  ends_stop (stops.SnapshotLine l r) h n = record { silent = λ e. absurd (omega arith); stopped = λ _. ((stops.SnapshotLine l r), refl, refl); answered = λ _. h; refused = λ _ _. refl; usage = λ e. absurd (omega arith); nameless = λ m. absurd (m n); read = λ e. absurd (omega arith); write = λ e. absurd (omega arith); memory = λ e. absurd (omega arith); status = lit≤ tt }
  ends_stop (stops.Outside r) h n = record { silent = λ e. absurd (omega arith); stopped = λ _. ((stops.Outside r), refl, refl); answered = λ _. h; refused = λ _ _. refl; usage = λ e. absurd (omega arith); nameless = λ m. absurd (m n); read = λ e. absurd (omega arith); write = λ e. absurd (omega arith); memory = λ e. absurd (omega arith); status = lit≤ tt }
  ends_stop (stops.SnapshotOverlap l) h n = record { silent = λ e. absurd (omega arith); stopped = λ _. ((stops.SnapshotOverlap l), refl, refl); answered = λ _. h; refused = λ _ _. refl; usage = λ e. absurd (omega arith); nameless = λ m. absurd (m n); read = λ e. absurd (omega arith); write = λ e. absurd (omega arith); memory = λ e. absurd (omega arith); status = lit≤ tt }
  ends_stop (stops.CannotOpen name) h n = record { silent = λ e. absurd (omega arith); stopped = λ _. ((stops.CannotOpen name), refl, refl); answered = λ _. h; refused = λ _ _. refl; usage = λ e. absurd (omega arith); nameless = λ m. absurd (m n); read = λ e. absurd (omega arith); write = λ e. absurd (omega arith); memory = λ e. absurd (omega arith); status = lit≤ tt }
  ends_stop (stops.TooManyBytes name) h n = record { silent = λ e. absurd (omega arith); stopped = λ _. ((stops.TooManyBytes name), refl, refl); answered = λ _. h; refused = λ _ _. refl; usage = λ e. absurd (omega arith); nameless = λ m. absurd (m n); read = λ e. absurd (omega arith); write = λ e. absurd (omega arith); memory = λ e. absurd (omega arith); status = lit≤ tt }
  ends_stop stops.NotYet h n = record { silent = λ e. absurd (omega arith); stopped = λ _. (stops.NotYet, refl, refl); answered = λ _. h; refused = λ _ _. refl; usage = λ e. absurd (omega arith); nameless = λ m. absurd (m n); read = λ e. absurd (omega arith); write = λ e. absurd (omega arith); memory = λ e. absurd (omega arith); status = lit≤ tt }
  ends_stop stops.ReadFault h n = record { silent = λ e. absurd (omega arith); stopped = λ e. absurd (omega arith); answered = λ l. absurd (omega arith); refused = λ _ u. absurd (omega arith); usage = λ e. absurd (omega arith); nameless = λ m. absurd (m n); read = λ e. (n, h, refl, refl); write = λ e. absurd (omega arith); memory = λ e. absurd (omega arith); status = lit≤ tt }
  ends_stop stops.WriteFault h n = absurd h
  ends_stop stops.Memory h n = record { silent = λ e. absurd (omega arith); stopped = λ e. absurd (omega arith); answered = λ l. absurd (omega arith); refused = λ _ u. absurd (omega arith); usage = λ e. absurd (omega arith); nameless = λ m. absurd (m n); read = λ e. absurd (omega arith); write = λ e. absurd (omega arith); memory = λ e. (refl, refl); status = lit≤ tt }

  pub ends_done : (text : List ℕ) → IfSome told (λ files. Holds files 0 text []) → named → Ends named told Holds rb rn wb wn 0 text []
  ends_done text h n = record { silent = λ _. refl; stopped = λ e. absurd (omega arith); answered = λ _. h; refused = λ l. absurd (omega arith); usage = λ e. absurd (omega arith); nameless = λ m. absurd (m n); read = λ e. absurd (omega arith); write = λ e. absurd (omega arith); memory = λ e. absurd (omega arith); status = lit≤ tt }
