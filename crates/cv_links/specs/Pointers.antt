-- Where thin pointers lead.
use Rattle.std.specs.Prelude.{ℕ, List, Option}
use Rattle.cv_type_defs.specs.FatPointers.{pointee}
use Rattle.cv_type_defs.specs.Links.{Target}
use Rattle.cv_type_records.specs.declared.kinds.TypeRec.{TypeRec}

-- where the pointer that is the record at a place leads
abbrev pub pointee_at : List TypeRec → ℕ → Option Target
pointee_at records place = pointee records (Target.Record place)

-- where the pointer leads that a simple type is
abbrev pub simple_pointee : List TypeRec → ℕ → Option Target
simple_pointee records index = pointee records (Target.Simple index)
