-- Items are put one after the other.
use Rattle.std.proofs.Common.{◌≡◌, ◌∙◌, ◌++◌, sym, ap, true, map, take, length, codes, arith, rules}
use Rattle.std.proofs.lemmas.Grind.{common_steps}
use Rattle.rust_value.specs.declared.value.Val.{the_lemmas}
use Rattle.rust_value.specs.Texts.{text_of, shown_part, named_text}
use Rattle.rust_value.specs.Utf8.{has_texts, part_has_texts}
use Rattle.rust_value.proofs.Items.{front_before, true_at, put_next}
use Rattle.rust_value.proofs.Parts.{shown-value, texts-value, numbered-text, named-text}
use Rattle.rust_value.proofs.printing.+printing.Goals as goal

pub put_values-put_value-requires : goal.put_values-put_value-requires
put_values-put_value-requires t c =
    let h : has_texts c.index-values-i.result ≡ true = true_at has_texts c.args.values.now c.loop-i.i _ c.requires c.loop-i-test.true c.index-values-i.is in
    (search (rules, the_lemmas), h)

pub put_values-returns-in_err-put_value-clause-front : goal.put_values-returns-in_err-put_value-clause-front
put_values-returns-in_err-put_value-clause-front t c =
    let h : take (length c.args.out.now) c.put_value.new.out ≡ c.args.out.now =
    front_before _ _ _ _ _ _ c.loop-i.invariant c.in_ok-put_comma.ensures.appended c.in_err-put_value.ensures.front in
    search rules

pub put_values-loop-i-preserved : goal.put_values-loop-i-preserved
put_values-loop-i-preserved t c =
    put_next text_of (codes ", ") c.args.values.now c.loop-i.i _ c.args.out.now _ _ _ c.loop-i-test.true c.index-values-i.is c.loop-i.invariant
    c.in_ok-put_comma.ensures.appended c.in_ok-put_value.ensures.appended

pub put_named-put_part-requires : goal.put_named-put_part-requires
put_named-put_part-requires t c =
    let h : part_has_texts c.index-parts-i.result ≡ true =
    true_at part_has_texts c.args.parts.now c.loop-i.i _ c.requires c.loop-i-test.true c.index-parts-i.is in
    (search (rules, the_lemmas), h)

pub put_named-returns-in_err-put_part-clause-front : goal.put_named-returns-in_err-put_part-clause-front
put_named-returns-in_err-put_part-clause-front t c =
    let h : take (length c.args.out.now) c.put_part.new.out ≡ c.args.out.now =
    front_before _ _ _ _ _ _ c.loop-i.invariant c.in_ok-put_comma.ensures.appended c.in_err-put_part.ensures.front in
    search rules

pub put_named-loop-i-preserved : goal.put_named-loop-i-preserved
put_named-loop-i-preserved t c =
    put_next (λ part. named_text (shown_part part))
    (codes ", ") c.args.parts.now c.loop-i.i _ c.args.out.now _ _ _ c.loop-i-test.true c.index-parts-i.is c.loop-i.invariant
    c.in_ok-put_comma.ensures.appended c.in_ok-put_part.ensures.appended

pub put_unnamed-put_value-requires : goal.put_unnamed-put_value-requires
put_unnamed-put_value-requires t c =
    let h : part_has_texts c.index-parts-i.result ≡ true =
    true_at part_has_texts c.args.parts.now c.loop-i.i _ c.requires c.loop-i-test.true c.index-parts-i.is in
    (search (rules, the_lemmas), sym (texts-value c.index-parts-i.result) ∙ h)

pub put_unnamed-returns-in_err-put_value-clause-front : goal.put_unnamed-returns-in_err-put_value-clause-front
put_unnamed-returns-in_err-put_value-clause-front t c =
    let h : take (length c.args.out.now) c.put_value.new.out ≡ c.args.out.now =
    front_before _ _ _ _ _ _ c.loop-i.invariant c.in_ok-put_comma.ensures.appended c.in_err-put_value.ensures.front in
    search rules

pub put_unnamed-loop-i-preserved : goal.put_unnamed-loop-i-preserved
put_unnamed-loop-i-preserved t c =
    put_next (λ part. (shown_part part).1)
    (codes ", ") c.args.parts.now c.loop-i.i _ c.args.out.now _ _ _ c.loop-i-test.true c.index-parts-i.is c.loop-i.invariant
    c.in_ok-put_comma.ensures.appended
    (c.in_ok-put_value.ensures.appended ∙ ap (λ t. c.put_comma.new.out ++ t) (sym (shown-value c.index-parts-i.result)))

pub put_parts-returns-in_ok-put_named-clause-appended : goal.put_parts-returns-in_ok-put_named-clause-appended
put_parts-returns-in_ok-put_named-clause-appended t c =
    rw (named-text c.args.parts.now (search rules)) (grind (arith, common_steps))

pub put_parts-returns-in_ok-put_unnamed-clause-appended : goal.put_parts-returns-in_ok-put_unnamed-clause-appended
put_parts-returns-in_ok-put_unnamed-clause-appended t c =
    rw (numbered-text c.args.parts.now (search rules)) (grind (arith, common_steps))
