use Rattle.std.proofs.Common.{◌≡◌, sym, ◌∙◌, ap, refl, Some, ◌++◌}
use Rattle.std.proofs.lemmas.Result.{err_from_is_err_and}
use Rattle.rv_io.specs.MemInputs.{IsFailing, find_file}
use Rattle.rv_io.proofs.FilesByName.{file-told_by, take_least, found_is_there, no_truth}
use Rattle.rv_io.proofs.mem_inputs.MemInputsInputs.fetch.Goals as goal

pub returns-in-None-clause-cause : goal.returns-in-None-clause-cause
returns-in-None-clause-cause c = rw (file-told_by, ← c.as_bytes.ensures.value, ← c.as_slice-2.ensures) (sym c.in-None.ensures, refl)

pub returns-clause-bytes : goal.returns-clause-bytes
returns-clause-bytes c =
    rw (file-told_by, ← c.as_bytes.ensures.value, ← c.as_slice-2.ensures, ← c.in-Some.ensures)
    (c.in_ok-put.ensures.appended ∙ ap (λ t. c.args.into.now ++ t) (take_least c.args.most c.min-count.result c.in-Some.bytes.now c.min-count.ensures))

pub returns-in-None-clause-answers : goal.returns-in-None-clause-answers
returns-in-None-clause-answers c =
    let passes : IsFailing c.args.self.now → ⊥ = λ h. no_truth (c.if-is_listed.ensures.1 (rw c.as_slice.ensures h)) in
    (passes, rw (file-told_by, ← c.as_bytes.ensures.value, ← c.as_slice-2.ensures) (sym c.in-None.ensures))

pub returns-in_err-put-clause-answers : goal.returns-in_err-put-clause-answers
returns-in_err-put-clause-answers c =
    let passes : IsFailing c.args.self.now → ⊥ = λ h. no_truth (c.if-is_listed.ensures.1 (rw c.as_slice.ensures h)) in
    let found : find_file c.args.name.now c.args.self.now.files ≡ Some c.in-Some.bytes.now = rw (← c.as_bytes.ensures.value, ← c.as_slice-2.ensures) (sym c.in-Some.ensures) in
    let e = err_from_is_err_and c.from_residual.result c.from_residual.ensures.1 in
    rw (e.1, e.2) (passes, found_is_there c.args.self.now.files c.args.name.now c.in-Some.bytes.now found)

pub returns-clause-answers : goal.returns-clause-answers
returns-clause-answers c =
    let passes : IsFailing c.args.self.now → ⊥ = λ h. no_truth (c.if-is_listed.ensures.1 (rw c.as_slice.ensures h)) in
    let found : find_file c.args.name.now c.args.self.now.files ≡ Some c.in-Some.bytes.now = rw (← c.as_bytes.ensures.value, ← c.as_slice-2.ensures) (sym c.in-Some.ensures) in
    (passes, found_is_there c.args.self.now.files c.args.name.now c.in-Some.bytes.now found)
