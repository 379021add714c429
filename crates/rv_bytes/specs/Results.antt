-- What a reading call does, in the words of readers.
use Rattle.std.specs.Prelude.{◌≡◌, ℕ, Result, Ok, Err}
use Rattle.rv_bytes.specs.Places.{Place}
use Rattle.rv_bytes.specs.Rules.{short, wide}
use Rattle.rv_bytes.specs.Readers.{Res, got, bad}
use Rattle.rv_bytes.specs.Reads.{rule_of, place_of}
use Rattle.rv_bytes.specs.declared.err.CutErr.{CutErr}
use Rattle.rv_bytes.specs.declared.err.DwErr.{DwErr}
use Rattle.rv_bytes.specs.declared.leb.LebErr.{LebErr}

-- the reader gives the value, as `view` sees it, and the place p, or the refusal
abbrev pub GivesBy : {A B : Type 0} → (B → A) → Res ℕ A → Result B CutErr → Place → Type 0
GivesBy view r (Ok v) p = r ≡ got (view v) p.at p.rest
GivesBy view r (Err e) p = r ≡ bad (rule_of e) (place_of e)

-- the same where the value is seen as it is
abbrev pub Gives : {A : Type 0} → Res ℕ A → Result A CutErr → Place → Type 0
Gives r result p = GivesBy (λ v. v) r result p

-- the same for debug information; out of memory says nothing of the bytes
abbrev pub ReadsBy : {A B : Type 0} → (B → A) → Res ℕ A → Result B DwErr → Place → Type 0
ReadsBy view r (Ok v) p = r ≡ got (view v) p.at p.rest
ReadsBy view r (Err (DwErr.Refused offset rule)) p = r ≡ bad rule offset
ReadsBy view r (Err DwErr.Memory) p = Unit {0}

-- the same where the value is seen as it is
abbrev pub Reads : {A : Type 0} → Res ℕ A → Result A DwErr → Place → Type 0
Reads r result p = ReadsBy (λ v. v) r result p

-- a count of groups, or the rule that they break
abbrev pub Counts : Result ℕ ℕ → Result ℕ LebErr → Type 0
Counts r (Ok len) = r ≡ Ok len
Counts r (Err LebErr.Short) = r ≡ Err short
Counts r (Err LebErr.Wide) = r ≡ Err wide
