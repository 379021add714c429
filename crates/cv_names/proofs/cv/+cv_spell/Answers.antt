use Rattle.std.proofs.Common.{◌≡◌, ◌∙◌, ◌++◌, ap, map, sym, subst, append_assoc, codes, arith, OnOk, flat_map, length-append}
use Rattle.std.specs.Fmt.{decimal}
use Rattle.names.specs.Joined.{joined}
use Rattle.cv_names.specs.CvText.{cv_text, cv_kind_text, cv_word_text, cv_args_text, closed}
use Rattle.cv_names.proofs.CvLevels.{cv-Seg, put_closed, fn_closed, kind_some}
use Rattle.cv_names.proofs.cv.+cv_spell.Goals as goal

pub put_cv_pointer-returns-clause-put : goal.put_cv_pointer-returns-clause-put
put_cv_pointer-returns-clause-put t c =
    put_closed c.put_closing.result c.put_closing.new.out c.put_cv_target.new.out c.args.out.now
    (cv_kind_text c.args.kind ++ cv_text c.args.to.now) c.put_closing.ensures.put c.in_ok-put_cv_target.ensures.put
    (kind_some c.args.kind (cv_text c.args.to.now))

pub put_cv_slice-returns-clause-put : goal.put_cv_slice-returns-clause-put
put_cv_slice-returns-clause-put t c =
    put_closed c.put_closing.result c.put_closing.new.out c.put_cv_item.new.out c.args.out.now
    (codes "slice2$<" ++ cv_text c.args.item.now) c.put_closing.ensures.put c.in_ok-put_cv_item.ensures.put (omega arith)

pub put_cv_array-returns-clause-put : goal.put_cv_array-returns-clause-put
put_cv_array-returns-clause-put t c =
    put_closed c.put_closing.result c.put_closing.new.out c.put_cv_counted.new.out c.args.out.now
    (codes "array$<" ++ cv_text c.args.item.now ++ codes "," ++ decimal c.args.count) c.put_closing.ensures.put c.in_ok-put_cv_counted.ensures.put (omega arith)

pub put_cv_bind-returns-clause-put : goal.put_cv_bind-returns-clause-put
put_cv_bind-returns-clause-put t c =
    put_closed c.put_closing.result c.put_closing.new.out c.put_cv_bound.new.out c.args.out.now
    (codes "assoc$<" ++ c.args.word.now ++ codes "," ++ cv_text c.args.to.now) c.put_closing.ensures.put c.in_ok-put_cv_bound.ensures.put (omega arith)

pub put_cv_list-returns-clause-put : goal.put_cv_list-returns-clause-put
put_cv_list-returns-clause-put t c =
    put_closed c.put_closing.result c.put_closing.new.out c.put_cv_opened.new.out c.args.out.now
    (c.args.head.now ++ joined (codes ",") (map cv_text c.args.names.now)) c.put_closing.ensures.put c.in_ok-put_cv_opened.ensures.put
    (omega (arith, c.requires, length-append c.args.head.now (joined (codes ",") (map cv_text c.args.names.now))))

-- what the two calls put is the segment's text
pub put_cv_seg-returns-clause-put : goal.put_cv_seg-returns-clause-put
put_cv_seg-returns-clause-put t c =
    let seg = c.args.seg.now in
    let after = c.put_cv_args.new.out in
    let word = cv_word_text seg.word seg.number in
    let args = cv_args_text (map cv_text seg.args) in
    let a = subst (λ xs. OnOk c.put_cv_args.result (after ≡ c.put_cv_word.new.out ++ cv_args_text (map cv_text xs))) c.as_slice.ensures
    c.put_cv_args.ensures.put in
    let b = subst (λ o. OnOk c.put_cv_args.result (after ≡ o ++ args)) c.in_ok-put_cv_word.ensures.put a in
    subst (λ l. OnOk c.put_cv_args.result (after ≡ l)) (append_assoc c.args.out.now word args ∙ ap (λ l. c.args.out.now ++ l) (sym (cv-Seg seg))) b

-- what the two calls put is the text of the function's name
pub put_cv_name-returns-in_ok-put_cv_result-in-Fn-clause-put : goal.put_cv_name-returns-in_ok-put_cv_result-in-Fn-clause-put
put_cv_name-returns-in_ok-put_cv_result-in-Fn-clause-put t c =
    let r = c.put_cv_params.result in
    let after = c.put_cv_params.new.out in
    let mid = c.put_cv_result.new.out in
    let params = subst (λ xs. OnOk r (after ≡ closed (mid ++ flat_map (λ t. codes "," ++ t) (map cv_text xs)))) c.as_slice-in-Fn.ensures
    c.put_cv_params.ensures.put in
    let result = subst (λ x. mid ≡ c.args.out.now ++ (codes "fn$<" ++ cv_text x)) c.get-in-Fn.ensures c.in_ok-put_cv_result-in-Fn.ensures.put in
    subst (λ n. OnOk r (after ≡ c.args.out.now ++ cv_text n)) (sym c.in-Fn.is) (fn_closed r after mid c.args.out.now c.in-Fn.to c.in-Fn.params params result)
