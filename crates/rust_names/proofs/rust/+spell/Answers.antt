use Rattle.std.proofs.Common.{◌≡◌, ◌∙◌, ◌++◌, ap, map, sym, subst, append_assoc, codes, OnOk}
use Rattle.rust_names.specs.RustText.{rust_text, args_text, word_text, result_text}
use Rattle.names.specs.Joined.{joined}
use Rattle.rust_names.proofs.RustLevels.{text-Seg, text-Fn}
use Rattle.rust_names.proofs.rust.+spell.Goals as goal

-- what the two calls put is the text of the function's name
pub put_name-returns-in_ok-put_params-in-Fn-clause-put : goal.put_name-returns-in_ok-put_params-in-Fn-clause-put
put_name-returns-in_ok-put_params-in-Fn-clause-put t c =
    let xs = c.in-Fn.params in
    let x = c.in-Fn.to in
    let after = c.put_result.new.out in
    let head = codes "fn(" ++ joined (codes ", ") (map rust_text xs) ++ codes ")" in
    let last = result_text x (rust_text x) in
    let a = subst (λ l. c.put_params.new.out ≡ c.args.out.now ++ (codes "fn(" ++ joined (codes ", ") (map rust_text l) ++ codes ")"))
    c.as_slice-in-Fn.ensures c.in_ok-put_params-in-Fn.ensures.put in
    let b = subst (λ z. OnOk c.put_result.result (after ≡ c.put_params.new.out ++ result_text z (rust_text z))) c.get-in-Fn.ensures c.put_result.ensures.put in
    let d = subst (λ o. OnOk c.put_result.result (after ≡ o ++ last)) a b in
    subst (λ l. OnOk c.put_result.result (after ≡ l))
    (append_assoc c.args.out.now head last ∙ ap (λ l. c.args.out.now ++ l) (sym (ap rust_text c.in-Fn.is ∙ text-Fn xs x))) d

-- what the two calls put is the segment's text
pub put_seg-returns-clause-put : goal.put_seg-returns-clause-put
put_seg-returns-clause-put t c =
    let seg = c.args.seg.now in
    let after = c.put_args.new.out in
    let word = word_text seg.word seg.number in
    let args = args_text (map rust_text seg.args) in
    let a = subst (λ xs. OnOk c.put_args.result (after ≡ c.put_word.new.out ++ args_text (map rust_text xs))) c.as_slice.ensures c.put_args.ensures.put in
    let b = subst (λ o. OnOk c.put_args.result (after ≡ o ++ args)) c.in_ok-put_word.ensures.put a in
    subst (λ l. OnOk c.put_args.result (after ≡ l)) (append_assoc c.args.out.now word args ∙ ap (λ l. c.args.out.now ++ l) (sym (text-Seg seg))) b
