-- The members' name and number can be written.
use Rattle.std.proofs.Common.{◌≡◌, ◌≢◌, ◌<◌, true, [], ◌∷◌, refl, sym, subst, arith, lit<}
use Rattle.std.specs.List.{All}
use Rattle.std.specs.Str.{is_utf8}
use Rattle.std.proofs.lemmas.Int.{ints}
use Rattle.std.proofs.lemmas.Str.Ascii.{IsAscii-from_all}
use Rattle.std.proofs.lemmas.List.Elements.{All-nil, All-cons, All-push}
use Rattle.snapshot_file.proofs.Plain.{utf8_of}
use Rattle.cv_parts.specs.Puts.{IsName}
use Rattle.cv_type_writer.specs.Forms.{MemberHasForm}
use Rattle.calls.proofs.type_records.a_member_has_a_pad_of_its_own.Goals as goal

pub written-requires-clause-form : goal.written-requires-clause-form
written-requires-clause-form g c =
    let utf8 : is_utf8 (97 ∷ []) ≡ true = utf8_of (97 ∷ []) (IsAscii-from_all (97 ∷ []) (All-cons (λ b. b < 128) 97 [] (lit< tt) (All-nil _))) in
    let a : IsName (97 ∷ []) = record { lacks_zero = All-cons (λ b. b ≢ 0) 97 [] (λ e. absurd (omega (arith, e))) (All-nil _); is_text = rw utf8 refl } in
    let name : IsName c.in_ok-from_bytes.field-0 = subst IsName (sym c.in_ok-from_bytes.ensures) a in
    let none : All MemberHasForm c.new-members.result = subst (All MemberHasForm) (sym c.new-members.ensures) (All-nil MemberHasForm) in
    let one : All MemberHasForm c.push.new.self = subst (All MemberHasForm) (sym c.in_ok-push.ensures.last) (All-push MemberHasForm c.new-members.result _ none (record { low = omega (arith, ints); high = omega (arith, ints) }, name)) in
    subst (All MemberHasForm) (sym c.in_ok-push-2.ensures.last) (All-push MemberHasForm c.push.new.self _ one tt)
