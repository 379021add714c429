-- What is written of operations is read back.
use Rattle.std.specs.Prelude.{◌≡◌, ℕ, ◌+◌, List, ◌++◌, length, Result, Ok, Err, IfOk, IfErr, ◌⊎◌}
use Rattle.rv_bytes.specs.Places.{Place}
use Rattle.expr_eval.specs.Addresses.{Addresses}
use Rattle.expr_eval.specs.declared.operation.Op.{Op}
use Rattle.expr_bytes.specs.Runs.{Ends, TakesPlace, IsRefusedPlace}
use Rattle.expr_bytes.specs.Written.{IsReadAs, AppendsPlace}
use Rattle.expr_bytes.specs.declared.place.Frame.{Frame}
use Rattle.expr_bytes.specs.declared.place.Simple.{Simple}
use Rattle.expr_bytes.specs.declared.place.OpsErr.{OpsErr}

-- what `read_ops` promises of a reading from the old place up to the new one
pub record IsReading (frame : Frame) (addrs : Addresses) (old new : Place) (result : Result Simple OpsErr) : Type 0 where
  pub taken : IfOk result (TakesPlace frame addrs old new)
  pub refused : IfErr result (IsRefusedPlace frame addrs old)

-- the place was read and the cut stands at the end, or memory ran out
abbrev pub IsReadOr : Simple → Place → Result Simple OpsErr → Place → Type 0
IsReadOr place end result new = ((result ≡ Ok place) × (new ≡ end)) ⊎ (result ≡ Err OpsErr.Memory)

-- Where `put_ops` appended what it promises, a reading of these bytes, wherever they stand before an end, gives the place as which
-- the operations are read, and ends where they do.
abbrev pub AreReadBack : Type 0
AreReadBack = (ops : List Op) (old new : List ℕ) (put : AppendsPlace ops old new) (frame : Frame) (addrs : Addresses) (n : ℕ) (rest : List ℕ)
    (place : Simple) (result : Result Simple OpsErr) (end : Place) → Ends rest → IsReadAs ops place
    → IsReading frame addrs (record { at = n; rest = put.bytes ++ rest }) end result
    → IsReadOr place (record { at = n + length put.bytes; rest = rest }) result end
