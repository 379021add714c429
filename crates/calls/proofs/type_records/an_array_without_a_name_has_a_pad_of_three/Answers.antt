-- The empty name can be written.
use Rattle.std.proofs.Common.{◌≡◌, true, [], refl, sym, subst, arith}
use Rattle.std.specs.Str.{is_utf8}
use Rattle.std.proofs.lemmas.Int.{ints}
use Rattle.std.proofs.lemmas.Str.Ascii.{IsAscii-from_all}
use Rattle.std.proofs.lemmas.List.Elements.{All-nil}
use Rattle.snapshot_file.proofs.Plain.{utf8_of}
use Rattle.cv_parts.specs.Puts.{IsName}
use Rattle.calls.proofs.type_records.an_array_without_a_name_has_a_pad_of_three.Goals as goal

pub written-requires-clause-form : goal.written-requires-clause-form
written-requires-clause-form g c =
    let utf8 : is_utf8 [] ≡ true = utf8_of [] (IsAscii-from_all [] (All-nil _)) in
    let name : IsName [] = record { lacks_zero = All-nil _; is_text = rw utf8 refl } in
    (record { low = omega (arith, ints); high = omega (arith, ints) }, subst IsName (sym c.in_ok-from_bytes.ensures) name)
