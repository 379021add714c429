-- Items are put one after the other.
use Rattle.std.proofs.Common.{◌≡◌, ◌∙◌, ◌++◌, sym, ap, true, map, take, length, codes, arith, rules}
use Rattle.std.proofs.lemmas.Grind.{common_steps}
use Rattle.rust_value.specs.declared.held.ValIn.{the_lemmas}
use Rattle.rust_value.specs.declared.held.ValIn.TheVariants as held
use Rattle.rust_value.specs.Held.{value_of, part_of}
use Rattle.rust_value.specs.Texts.{text_of, shown_part, named_text}
use Rattle.rust_value.specs.Utf8.{has_texts, part_has_texts}
use Rattle.rust_value.proofs.HeldItems.{true_in, put_next_in}
use Rattle.rust_value.proofs.Items.{front_before, err_front}
use Rattle.rust_value.proofs.HeldLevels.{held_part_texts, shown_value}
use Rattle.rust_value.proofs.HeldTexts.{utf8_fields, utf8_variant, utf8_seq, utf8_pointer, utf8_slice}
use Rattle.rust_value.proofs.Parts.{numbered-text, named-text}
use Rattle.rust_value.proofs.printing_in.+printing.Goals as goal

pub put_values-put_value-requires : goal.put_values-put_value-requires
put_values-put_value-requires t c =
    let h : has_texts (value_of c.index-values-i.result) ≡ true =
    ap (λ v. has_texts (value_of v)) c.index-values-i.is ∙ true_in has_texts value_of c.args.values.now c.loop-i.i _ c.requires c.loop-i-test.true in
    (search (rules, the_lemmas), h)

pub put_values-returns-in_err-put_value-clause-front : goal.put_values-returns-in_err-put_value-clause-front
put_values-returns-in_err-put_value-clause-front t c =
    let h : take (length c.args.out.now) c.put_value.new.out ≡ c.args.out.now =
    front_before _ _ _ _ _ _ c.loop-i.invariant c.in_ok-put_comma.ensures.appended c.in_err-put_value.ensures.front in
    search rules

pub put_values-loop-i-preserved : goal.put_values-loop-i-preserved
put_values-loop-i-preserved t c =
    put_next_in text_of value_of (codes ", ") c.args.values.now c.loop-i.i _ c.args.out.now _ _ _ c.loop-i-test.true c.loop-i.invariant
    c.in_ok-put_comma.ensures.appended (c.in_ok-put_value.ensures.appended ∙ ap (λ v. c.put_comma.new.out ++ text_of (value_of v)) c.index-values-i.is)

pub put_named-put_part-requires : goal.put_named-put_part-requires
put_named-put_part-requires t c =
    (search (rules, the_lemmas), true_in part_has_texts part_of c.args.parts.now c.loop-i.i _ c.requires c.loop-i-test.true)

pub put_named-returns-in_err-put_part-clause-front : goal.put_named-returns-in_err-put_part-clause-front
put_named-returns-in_err-put_part-clause-front t c =
    let h : take (length c.args.out.now) c.put_part.new.out ≡ c.args.out.now =
    front_before _ _ _ _ _ _ c.loop-i.invariant c.in_ok-put_comma.ensures.appended c.in_err-put_part.ensures.front in
    search rules

pub put_named-loop-i-preserved : goal.put_named-loop-i-preserved
put_named-loop-i-preserved t c =
    put_next_in (λ part. named_text (shown_part part)) part_of (codes ", ") c.args.parts.now c.loop-i.i _ c.args.out.now _ _ _ c.loop-i-test.true
    c.loop-i.invariant c.in_ok-put_comma.ensures.appended c.in_ok-put_part.ensures.appended

pub put_unnamed-put_value-requires : goal.put_unnamed-put_value-requires
put_unnamed-put_value-requires t c =
    (search (rules, the_lemmas), sym (held_part_texts _) ∙ true_in part_has_texts part_of c.args.parts.now c.loop-i.i _ c.requires c.loop-i-test.true)

pub put_unnamed-returns-in_err-put_value-clause-front : goal.put_unnamed-returns-in_err-put_value-clause-front
put_unnamed-returns-in_err-put_value-clause-front t c =
    let h : take (length c.args.out.now) c.put_value.new.out ≡ c.args.out.now =
    front_before _ _ _ _ _ _ c.loop-i.invariant c.in_ok-put_comma.ensures.appended c.in_err-put_value.ensures.front in
    search rules

pub put_unnamed-loop-i-preserved : goal.put_unnamed-loop-i-preserved
put_unnamed-loop-i-preserved t c =
    put_next_in (λ part. (shown_part part).1) part_of (codes ", ") c.args.parts.now c.loop-i.i _ c.args.out.now _ _ _ c.loop-i-test.true
    c.loop-i.invariant c.in_ok-put_comma.ensures.appended
    (c.in_ok-put_value.ensures.appended ∙ ap (λ t. c.put_comma.new.out ++ t) (sym (shown_value _)))

pub put_parts-returns-in_ok-put_named-clause-appended : goal.put_parts-returns-in_ok-put_named-clause-appended
put_parts-returns-in_ok-put_named-clause-appended t c =
    rw (named-text (map part_of c.args.parts.now) (search rules)) (grind (arith, common_steps))

pub put_parts-returns-in_ok-put_unnamed-clause-appended : goal.put_parts-returns-in_ok-put_unnamed-clause-appended
put_parts-returns-in_ok-put_unnamed-clause-appended t c =
    rw (numbered-text (map part_of c.args.parts.now) (search rules)) (grind (arith, common_steps))

pub put_part-put_value-requires : goal.put_part-put_value-requires
put_part-put_value-requires t c = (search (rules, the_lemmas), sym (held_part_texts c.args.part.now) ∙ c.requires)

-- the texts inside a value are UTF-8 where all of it are
pub put_value-put_fields-requires : goal.put_value-put_fields-requires
put_value-put_fields-requires t c =
    (search (rules, the_lemmas), sym (ap (λ v. has_texts (value_of v)) c.in-Fields.is ∙ utf8_fields c.in-Fields.parts) ∙ c.requires)

pub put_value-put_payload-requires : goal.put_value-put_payload-requires
put_value-put_payload-requires t c =
    let v = c.in-Variant in
    (search (rules, the_lemmas), sym (ap (λ v. has_texts (value_of v)) v.is ∙ utf8_variant v.name v.parts) ∙ c.requires)

pub put_value-put_seq-requires : goal.put_value-put_seq-requires
put_value-put_seq-requires t c =
    (search (rules, the_lemmas), sym (ap (λ v. has_texts (value_of v)) c.in-Seq.is ∙ utf8_seq c.in-Seq.len c.in-Seq.shown) ∙ c.requires)

pub put_value-returns-in_ok-put-in-Variant-clause-front : goal.put_value-returns-in_ok-put-in-Variant-clause-front
put_value-returns-in_ok-put-in-Variant-clause-front t c =
    err_front c.put_payload.result c.args.out.now _ c.put_payload.new.out _ c.in_ok-put-in-Variant.ensures.appended c.put_payload.ensures.front

pub put_value-put_content-requires : goal.put_value-put_content-requires
put_value-put_content-requires t c =
    let p = c.in-Pointer in
    let e : has_texts (value_of c.args.val.now) ≡ has_texts (value_of c.in-Some.to.now) =
    ap (λ v. has_texts (value_of v)) p.is ∙ ap (λ to. has_texts (value_of (held.Pointer p.kind p.at to))) c.in-Some.is
    ∙ utf8_pointer p.kind p.at c.in-Some.to in
    (search (rules, the_lemmas), sym e ∙ c.requires)

pub put_value-put_content-requires-in-Some-to : goal.put_value-put_content-requires-in-Some-to
put_value-put_content-requires-in-Some-to t c =
    let p = c.in-Slice in
    let e : has_texts (value_of c.args.val.now) ≡ has_texts (value_of c.in-Some-to.to.now) =
    ap (λ v. has_texts (value_of v)) p.is ∙ ap (λ to. has_texts (value_of (held.Slice p.kind p.at p.len to))) c.in-Some-to.is
    ∙ utf8_slice p.kind p.at p.len c.in-Some-to.to in
    (search (rules, the_lemmas), sym e ∙ c.requires)
