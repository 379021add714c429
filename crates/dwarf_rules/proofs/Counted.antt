-- The fields of the structure that a variant leads to.
use Rattle.std.proofs.Common.{◌≡◌, length, Option, Some, None, ap, ◌∙◌}
use Rattle.std.proofs.lemmas.List.{length-map}
use Rattle.dwarf_entries.specs.Dies.{Die, Info}
use Rattle.dwarf_entries.specs.Enums.{fields_in}
use Rattle.dwarf_entries.specs.Structures.{field_of, members_of}

-- how many fields a structure has
pub fields_are : (info : Info) (o : Option Die) (s : Die) → o ≡ Some s → length (fields_in info o) ≡ length (members_of info s)
fields_are info o s h = ap (λ (x : Option Die). length (fields_in info x)) h ∙ length-map (members_of info s) (field_of info)

pub no_fields : (info : Info) (o : Option Die) → o ≡ None → length (fields_in info o) ≡ 0
no_fields info o h = ap (λ (x : Option Die). length (fields_in info x)) h
