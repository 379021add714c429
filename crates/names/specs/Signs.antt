-- The sign of a number.
use Rattle.std.specs.Prelude.{ℕ, if◌then◌else◌, Bool, List, [], codes}

-- a minus, or nothing
abbrev pub sign_text : Bool → List ℕ
sign_text minus = if minus then codes "-" else []
