use Rattle.std.proofs.Common.{◌≡◌, ◌∙◌, ◌++◌, sym, ap, true, false, take, arith, option_to_list}
use Rattle.std.specs.List.{filter_map}
use Rattle.std.proofs.lemmas.Grind.{common_steps}
use Rattle.std.proofs.lemmas.List.Elements.{filter_map-append}
use Rattle.layout_name_laws.specs.RustTexts.{is_new, texts_of, IsNewText}
use Rattle.layout_set.proofs.Firsts.{more_below}
use Rattle.layout_name_laws.proofs.Passing.{itself, new_decides}
use Rattle.layout_name_laws.proofs.rust_texts.first_repeated.Goals as goal

pub returns-then-not-branch : goal.returns-then-not-branch
returns-then-not-branch c =
    let texts = c.args.texts.now in
    let i = c.loop-i.i in
    let t = c.index-texts-i.result in
    let told : c.in_ok-add.field-0 ≡ is_new (filter_map itself (take i texts)) (itself t) = c.in_ok-add.ensures.added ∙ ap (λ l. is_new l (itself t)) c.loop-i.invariant.are in
    let d = new_decides texts i t c.loop-i-test.true c.index-texts-i.is in
    (c.loop-i-test.true, ((λ new. let e : true ≡ false = sym (d.1 new) ∙ sym told ∙ c.if-not-branch.true in grind (arith, e)), c.loop-i.invariant.new))

pub loop-i-preserved : goal.loop-i-preserved
loop-i-preserved c =
    let texts = c.args.texts.now in
    let i = c.loop-i.i in
    let t = c.index-texts-i.result in
    let told : c.in_ok-add.field-0 ≡ is_new (filter_map itself (take i texts)) (itself t) = c.in_ok-add.ensures.added ∙ ap (λ l. is_new l (itself t)) c.loop-i.invariant.are in
    let d = new_decides texts i t c.loop-i-test.true c.index-texts-i.is in
    let new : IsNewText texts i = d.0 (sym told ∙ c.if-not-branch.false) in
    let names : texts_of c.add.new.texts ≡ texts_of c.loop-i.seen ++ option_to_list (itself t) = c.in_ok-add.ensures.kept c.if-not-branch.false in
    record {
      are = grind (arith, common_steps, filter_map-append, names, c.loop-i.invariant.are, c.index-texts-i.is);
      new = more_below (IsNewText texts) i c.loop-i.invariant.new new;
    }
