-- How the reading of a place goes on, operation by operation, for proofs.
use Rattle.std.specs.Prelude.{◌≡◌, ◌≢◌, ℕ, ◌+◌, List, [], ◌∷◌, ◌++◌, length, replicate, Option, Some, None, ◌⊎◌}
use Rattle.rv_bytes.specs.Places.{Place}
use Rattle.rv_bytes.specs.Forms.{Splits}
use Rattle.rv_bytes.specs.Reads.{Takes}
use Rattle.rv_bytes.specs.declared.err.DwErr.{DwErr}
use Rattle.expr_eval.specs.Addresses.{Addresses}
use Rattle.expr_bytes.specs.Rules.{bad_order}
use Rattle.expr_bytes.specs.Operations.{Oper}
use Rattle.expr_bytes.specs.Operands.{operation}
use Rattle.expr_bytes.specs.Places.{SayPlace, ArePermitted, BeginPermitted}
use Rattle.expr_bytes.specs.Runs.{StandAt, done_by, IsUnframed, AreInOrder, IsInvalid, IsFaultAt}
use Rattle.expr_bytes.specs.declared.place.Frame.{Frame}
use Rattle.expr_bytes.specs.declared.place.Simple.{Simple}

-- what an operation adds to those before it: itself, where it does something
abbrev pub added : Option Oper → List Oper
added None = []
added (Some o) = o ∷ []

-- after others an operation is in order, and has its frame base
abbrev pub IsInOrder : List Oper → Option Oper → Type 0
IsInOrder before None = Unit {0}
IsInOrder before (Some o) = BeginPermitted (before ++ o ∷ []) × ¬ IsUnframed o

-- where the last operation that does something stands, where this one stands at a place
abbrev pub last_by : Option Oper → ℕ → ℕ → ℕ
last_by None last at = last
last_by (Some o) last at = at

-- An operation stands from the old place up to the new one, breaks no rule after those before it, and is added to them; `now_last` is
-- where the last of them stands.
pub record GoesOn (frame : Frame) (addrs : Addresses) (old new : Place) (before after : List Oper) (last now_last : ℕ) : Type 0 where
  pub oper : Option Oper
  pub takes : Takes (operation frame addrs) old new oper
  pub is_added : after ≡ before ++ added oper
  pub told : now_last ≡ last_by oper last old.at
  pub in_order : IsInOrder before oper

-- after these the operation at the old place breaks this rule; out of memory says nothing of it
abbrev pub IsRefusedAfter : Frame → Addresses → List Oper → Place → DwErr → Type 0
IsRefusedAfter frame addrs before old (DwErr.Refused offset rule) = (offset ≡ old.at) × IsInvalid frame addrs before old.at old.rest rule
IsRefusedAfter frame addrs before old DwErr.Memory = Unit {0}

-- the operations say this place; no operations say the empty one
abbrev pub SaidBy : List Oper → Simple → Type 0
SaidBy opers place = ((opers ≡ []) × (place ≡ Simple.Empty)) ⊎ SayPlace opers place

-- the operations say no place, and the last, which stands here, is out of order; out of memory says nothing of them
abbrev pub IsRefusedLast : List Oper → ℕ → DwErr → Type 0
IsRefusedLast opers last (DwErr.Refused offset rule) = (offset ≡ last) × ((rule ≡ bad_order) × ((opers ≢ []) × ¬ ArePermitted opers))
IsRefusedLast opers last DwErr.Memory = Unit {0}

-- the refusal is right; out of memory says nothing of the bytes
abbrev pub IsRefusedOf : Frame → Addresses → Place → DwErr → Type 0
IsRefusedOf frame addrs old (DwErr.Refused offset rule) = IsFaultAt frame addrs old rule offset
IsRefusedOf frame addrs old DwErr.Memory = Unit {0}

-- from place n on only operations that do nothing stand, up to this place
abbrev pub OnlyNopTo : Frame → Addresses → Place → ℕ → List ℕ → Type 0
OnlyNopTo frame addrs now n s = (count : ℕ) × Splits (StandAt frame addrs n (replicate count None)) (λ _ rest. rest ≡ now.rest) n s

-- the last of the operations that do something, up to this place, stands here
pub record LastStands (frame : Frame) (addrs : Addresses) (old now : Place) (opers : List Oper) (last : ℕ) : Type 0 where
  pub before : List (Option Oper)
  pub o : Oper
  pub front : List ℕ
  pub back : List ℕ
  pub stand : StandAt frame addrs old.at before front
  pub bytes : old.rest ≡ front ++ back
  pub past : last ≡ old.at + length front
  pub listed : opers ≡ done_by before ++ o ∷ []
  pub then_nop : Splits ((operation frame addrs).spells last (Some o)) (OnlyNopTo frame addrs now) last back

-- From the old place up to this one operations stand that break no rule where others follow. Those that do something are listed, and
-- the last of these stands here.
pub record HasRead (frame : Frame) (addrs : Addresses) (old now : Place) (opers : List Oper) (last : ℕ) : Type 0 where
  pub all : List (Option Oper)
  pub spelling : List ℕ
  pub stand : StandAt frame addrs old.at all spelling
  pub bytes : old.rest ≡ spelling ++ now.rest
  pub past : now.at ≡ old.at + length spelling
  pub listed : opers ≡ done_by all
  pub in_order : AreInOrder opers
  pub last_stands : (opers ≡ []) ⊎ LastStands frame addrs old now opers last
