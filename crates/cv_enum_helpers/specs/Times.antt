-- The static members of a name among some members.
use Rattle.std.specs.Prelude.{◌≡◌, ℕ, if◌then◌else◌, bytes_eq, List, [], ◌∷◌, filter_map, Option, Some, None}
use Rattle.cv_type_defs.specs.FieldLists.{Placed}
use Rattle.cv_type_defs.specs.Helpers.{StaticMember}
use Rattle.cv_type_records.specs.declared.kinds.Member.{Member}

abbrev static_by : List ℕ → ℕ → Member → Option StaticMember
static_by name list (Member.Static attributes ty text) = if bytes_eq text name then Some (record { list = list; ty = ty }) else None
static_by name list _ = None

-- the static member that a member is, if it has this name
abbrev pub named_static : List ℕ → Placed → Option StaticMember
named_static name p = static_by name p.list p.member

-- the static members of this name among some
abbrev pub statics_among : List ℕ → List Placed → List StaticMember
statics_among name members = filter_map (named_static name) members

-- the next of these is taken, with those before it; or there is none
abbrev pub TakesNext : List ℕ → List Placed → Option StaticMember → List Placed → Type 0
TakesNext name old None new = statics_among name old ≡ []
TakesNext name old (Some s) new = statics_among name old ≡ s ∷ statics_among name new
