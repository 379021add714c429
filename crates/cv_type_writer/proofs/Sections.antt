-- Records one after the other, after the number 4, are a section.
use Rattle.std.proofs.Common.{◌≡◌, ◌<◌, ℕ, ◌+◌, ◌-◌, List, [], ◌∷◌, ◌++◌, length, refl, sym, ap, subst, ◌∙◌, arith, lit<, append-nil, append_assoc, length-append}
use Rattle.byteorder.specs.Endian.{little_bytes}
use Rattle.byteorder.specs.Numbers.{length-bytes_low_first}
use Rattle.cv_parts.specs.Laws.{HasOneReading}
use Rattle.cv_parts.specs.Series.{to_end}
use Rattle.cv_parts.proofs.OneReading.{one_reading}
use Rattle.cv_parts.proofs.PutForms.{number_spelled}
use Rattle.cv_record_writer.specs.Contents.{all_bytes}
use Rattle.cv_type_records.specs.Types.{type_rec, type_record, types, AreTypes}
use Rattle.cv_type_records.specs.TypeReaders.{read_types}
use Rattle.cv_type_records.proofs.Types.{types_exact}
use Rattle.cv_type_records.specs.declared.kinds.TypeKind.{TypeKind}
use Rattle.cv_type_writer.specs.TypeRecords.{type_content, type_bytes}
use Rattle.cv_type_writer.specs.Appended.{PutsType}
use Rattle.cv_type_writer.specs.Sections.{records_from, PutsTypes, IsReadAs}
use Rattle.cv_type_writer.proofs.ToEnd.{end_next}

-- one record more
pub puts_more : (kinds : List TypeKind) (kind : TypeKind) (old mid new : List ℕ) → PutsTypes kinds old mid → PutsType kind mid new → PutsTypes (kinds ++ kind ∷ []) old new
puts_more [] kind old mid new h p = (new, (subst (λ z. PutsType kind z new) h p, refl))
puts_more (first ∷ kinds) kind old mid new h p = (h.0, (h.1.0, puts_more kinds kind h.0 mid new h.1.1 p))

-- what was appended
types_appended : (kinds : List TypeKind) (old new : List ℕ) → PutsTypes kinds old new → new ≡ old ++ all_bytes type_bytes kinds
types_appended [] old new h = h ∙ sym (append-nil old)
types_appended (kind ∷ kinds) old new h =
    types_appended kinds h.0 new h.1.1 ∙ ap (λ z. z ++ all_bytes type_bytes kinds) h.1.0.appended ∙ append_assoc old (type_bytes kind) (all_bytes type_bytes kinds)

-- a record's length has bytes
record_some : (kind : TypeKind) → 0 < length (type_bytes kind)
record_some kind = omega (arith, length-append (little_bytes 2 (length (type_content kind))) (type_content kind), length-bytes_low_first 0 2 (length (type_content kind)))

-- records to the end of their bytes
records_spelled : (kinds : List TypeKind) (old new : List ℕ) → PutsTypes kinds old new → (n : ℕ) → (to_end (λ _. type_record) (length (all_bytes type_bytes kinds))).spells n (records_from n kinds) (all_bytes type_bytes kinds)
records_spelled [] old new h n = ([], (refl, (refl, refl)))
records_spelled (kind ∷ kinds) old new h n =
    end_next type_record n (type_rec n kind) (records_from (n + length (type_bytes kind)) kinds) (type_bytes kind) (all_bytes type_bytes kinds) (h.1.0.spells n) (record_some kind)
    (records_spelled kinds h.0 new h.1.1 (n + length (type_bytes kind)))

-- after the number 4
section_spelled : (kinds : List TypeKind) (section : List ℕ) → PutsTypes kinds (little_bytes 4 4) section → AreTypes section (records_from 4 kinds)
section_spelled kinds section h =
    let bytes = all_bytes type_bytes kinds in
    let split : section ≡ little_bytes 4 4 ++ bytes = types_appended kinds (little_bytes 4 4) section h in
    let left : length bytes ≡ length section - 4 = omega (arith, ap length split, length-append (little_bytes 4 4) bytes, length-bytes_low_first 0 4 4) in (
      4,
      record {
        front = little_bytes 4 4;
        back = bytes;
        split = split;
        is_front = (number_spelled 4 4 (lit< tt) 0, refl);
        is_back = subst (λ z. (to_end (λ _. type_record) z).spells 4 (records_from 4 kinds) bytes) left (records_spelled kinds (little_bytes 4 4) section h 4);
      },
    )

pub section_read : (kinds : List TypeKind) (section : List ℕ) → PutsTypes kinds (little_bytes 4 4) section → IsReadAs section (records_from 4 kinds)
section_read kinds section h =
    let one : HasOneReading types = one_reading types read_types types_exact in
    let are = section_spelled kinds section h in
    record {
      are = are;
      only = λ others g. one.one_value section others (records_from 4 kinds) g are;
      valid = λ rule place g. one.never_both section (records_from 4 kinds) rule place are g;
    }
