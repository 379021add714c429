-- Why a set that entries say is refused.
use Rattle.dwarf_entries.specs.Said.{IsUnsound, Said}
use Rattle.dwarf_entries.specs.TextResults.{spot_of}
use Rattle.layout_set.specs.declared.refusal.ReadErr.{ReadErr}

-- the first law that fails, at the entry of a type; out of memory says nothing of the set
abbrev pub IsUnsoundBy : Said → ReadErr → Type 0
IsUnsoundBy said (ReadErr.Refused r) = IsUnsound said r.rule (spot_of r)
IsUnsoundBy said ReadErr.Memory = Unit {0}
