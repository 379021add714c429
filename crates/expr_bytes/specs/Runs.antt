-- The operations of one place: DWARF 5, 2.6.1. They go on up to the end of the bytes, or up to a piece.
use Rattle.std.specs.Prelude.{◌≡◌, ℕ, ◌+◌, List, [], ◌∷◌, ◌++◌, length, filter_map, replicate, Option, Some, None, ◌⊎◌}
use Rattle.rv_bytes.specs.Places.{Place}
use Rattle.rv_bytes.specs.Forms.{Splits}
use Rattle.expr_eval.specs.Addresses.{Addresses}
use Rattle.expr_bytes.specs.Rules.{bad_order, no_frame}
use Rattle.expr_bytes.specs.Codes as code
use Rattle.expr_bytes.specs.Operations.{Oper}
use Rattle.expr_bytes.specs.Operands.{operation}
use Rattle.expr_bytes.specs.Places.{SayPlace, ArePermitted, BeginPermitted}
use Rattle.expr_bytes.specs.declared.place.Frame.{Frame}
use Rattle.expr_bytes.specs.declared.place.Simple.{Simple}
use Rattle.expr_bytes.specs.declared.place.OpsErr.{OpsErr}

-- where the operations of a place end: no bytes follow, or a piece
abbrev pub Ends : List ℕ → Type 0
Ends [] = Unit {0}
Ends (b ∷ s) = b ≡ code.piece

-- the operations stand one after the other, the first at place n
abbrev pub StandAt : Frame → Addresses → ℕ → List (Option Oper) → List ℕ → Type 0
StandAt frame addrs n [] t = t ≡ []
StandAt frame addrs n (o ∷ more) t = Splits ((operation frame addrs).spells n o) (λ m u. StandAt frame addrs m more u) n t

-- those that do something
abbrev pub done_by : List (Option Oper) → List Oper
done_by opers = filter_map (λ o. o) opers

-- an operation counts from a frame base that isn't known
abbrev pub IsUnframed : Oper → Type 0
IsUnframed (Oper.Unframed z) = Unit {0}
IsUnframed _ = ⊥

-- none does
abbrev pub AreFramed : List Oper → Type 0
AreFramed opers = (before after : List Oper) (o : Oper) → opers ≡ before ++ o ∷ after → ¬ IsUnframed o

-- from place n on only operations that do nothing stand, up to where the place ends
abbrev pub EndsAfterNop : Frame → Addresses → ℕ → List ℕ → Type 0
EndsAfterNop frame addrs n s = (count : ℕ) × Splits (StandAt frame addrs n (replicate count None)) (λ _ rest. Ends rest) n s

-- From the old place on operations stand up to the new one, where they end. They say the place, and each has its frame base; no
-- operations say the empty place.
pub record TakesPlace (frame : Frame) (addrs : Addresses) (old new : Place) (place : Simple) : Type 0 where
  pub opers : List (Option Oper)
  pub spelling : List ℕ
  pub stand : StandAt frame addrs old.at opers spelling
  pub bytes : old.rest ≡ spelling ++ new.rest
  pub past : new.at ≡ old.at + length spelling
  pub ends : Ends new.rest
  pub framed : AreFramed (done_by opers)
  pub say : ((done_by opers ≡ []) × (place ≡ Simple.Empty)) ⊎ SayPlace (done_by opers) place

-- After these operations another is out of order, before the bytes at place n: no place's operations begin so, or it is the last
-- of its place, and they say none.
abbrev pub IsOutOfOrder : Frame → Addresses → List Oper → Oper → ℕ → List ℕ → Type 0
IsOutOfOrder frame addrs before o n after = ¬ BeginPermitted (before ++ o ∷ []) ⊎ (EndsAfterNop frame addrs n after × ¬ ArePermitted (before ++ o ∷ []))

-- the lowest rule that an operation breaks where it stands: the order, and then the frame base
abbrev pub Breaks : Frame → Addresses → List Oper → Oper → ℕ → ℕ → List ℕ → Type 0
Breaks frame addrs before o rule n after =
    (IsOutOfOrder frame addrs before o n after × (rule ≡ bad_order)) ⊎ (¬ IsOutOfOrder frame addrs before o n after × (IsUnframed o × (rule ≡ no_frame)))

-- no operation of these breaks a rule, where another follows: they are in order, and each has its frame base
pub record AreInOrder (opers : List Oper) : Type 0 where
  pub framed : AreFramed opers
  pub begin : BeginPermitted opers

-- the operation at place n, after these, is invalid by itself, or it breaks a rule where it stands
abbrev pub IsInvalid : Frame → Addresses → List Oper → ℕ → List ℕ → ℕ → Type 0
IsInvalid frame addrs before n s rule =
    (operation frame addrs).faults n s rule n ⊎ ((o : Oper) × Splits ((operation frame addrs).spells n (Some o)) (Breaks frame addrs before o rule) n s)

-- the first operation at fault stands at this place, after others that break no rule
pub record IsFaultAt (frame : Frame) (addrs : Addresses) (old : Place) (rule at : ℕ) : Type 0 where
  pub opers : List (Option Oper)
  pub front : List ℕ
  pub back : List ℕ
  pub stand : StandAt frame addrs old.at opers front
  pub bytes : old.rest ≡ front ++ back
  pub past : at ≡ old.at + length front
  pub goes_on : ¬ Ends back
  pub before : AreInOrder (done_by opers)
  pub invalid : IsInvalid frame addrs (done_by opers) at back rule

-- the refusal is right; memory may always run out
abbrev pub IsRefusedPlace : Frame → Addresses → Place → OpsErr → Type 0
IsRefusedPlace frame addrs old (OpsErr.Refused offset rule) = IsFaultAt frame addrs old rule offset
IsRefusedPlace frame addrs old OpsErr.Memory = Unit {0}
