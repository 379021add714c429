use Rattle.std.proofs.Common.{◌∙◌, sym, ap, ◌-◌, ◌&&◌}
use Rattle.names.specs.declared.name.Name.{out-Name}
use Rattle.names.specs.declared.name.Name.TheVariants.{outs-Path, outs-Pointer, outs-Slice, outs-Array, outs-Tuple, outs-Str, outs-Dyn}
use Rattle.names.specs.declared.name.Name.TheVariants.{outs-Fn, outs-Number, outs-Bind, outs-Raw}
use Rattle.rust_names.specs.RustGrammar.{fits, all_fit, segs_fit}
use Rattle.rust_names.proofs.Depth.{fits_none, fits_at}
use Rattle.rust_names.proofs.fitting.+fitting.Goals as goal

pub is_within-returns-then-depth-eq0 : goal.is_within-returns-then-depth-eq0
is_within-returns-then-depth-eq0 t c = sym (fits_none c.args.depth c.args.name.now c.if-depth-eq0.true)

pub is_within-returns-in-Path : goal.is_within-returns-in-Path
is_within-returns-in-Path t c =
    c.are_segs_within.ensures ∙ ap (segs_fit (fits (c.args.depth - 1))) c.as_slice.ensures
    ∙ sym (fits_at c.args.depth c.args.name.now _ c.if-depth-eq0.false (ap out-Name c.in-Path.is ∙ outs-Path c.in-Path.segs))

pub is_within-returns-in-Pointer : goal.is_within-returns-in-Pointer
is_within-returns-in-Pointer t c =
    c.is_within.ensures ∙ ap (fits (c.args.depth - 1)) c.get.ensures ∙
    sym (fits_at c.args.depth c.args.name.now _ c.if-depth-eq0.false (ap out-Name c.in-Pointer.is ∙ outs-Pointer _ _))

pub is_within-returns-in-Slice : goal.is_within-returns-in-Slice
is_within-returns-in-Slice t c =
    c.is_within-in-Slice.ensures ∙ ap (fits (c.args.depth - 1)) c.get-in-Slice.ensures ∙
    sym (fits_at c.args.depth c.args.name.now _ c.if-depth-eq0.false (ap out-Name c.in-Slice.is ∙ outs-Slice _))

pub is_within-returns-in-Array : goal.is_within-returns-in-Array
is_within-returns-in-Array t c =
    c.is_within-in-Array.ensures ∙ ap (fits (c.args.depth - 1)) c.get-in-Array.ensures ∙
    sym (fits_at c.args.depth c.args.name.now _ c.if-depth-eq0.false (ap out-Name c.in-Array.is ∙ outs-Array _ _))

pub is_within-returns-in-Bind : goal.is_within-returns-in-Bind
is_within-returns-in-Bind t c =
    c.is_within-in-Bind.ensures ∙ ap (fits (c.args.depth - 1)) c.get-in-Bind.ensures ∙
    sym (fits_at c.args.depth c.args.name.now _ c.if-depth-eq0.false (ap out-Name c.in-Bind.is ∙ outs-Bind _ _))

pub is_within-returns-in-Tuple : goal.is_within-returns-in-Tuple
is_within-returns-in-Tuple t c =
    c.are_within.ensures ∙ ap (all_fit (fits (c.args.depth - 1))) c.as_slice-in-Tuple.ensures ∙
    sym (fits_at c.args.depth c.args.name.now _ c.if-depth-eq0.false (ap out-Name c.in-Tuple.is ∙ outs-Tuple _))

pub is_within-returns-in-Dyn : goal.is_within-returns-in-Dyn
is_within-returns-in-Dyn t c =
    c.are_within-in-Dyn.ensures ∙ ap (all_fit (fits (c.args.depth - 1))) c.as_slice-in-Dyn.ensures ∙
    sym (fits_at c.args.depth c.args.name.now _ c.if-depth-eq0.false (ap out-Name c.in-Dyn.is ∙ outs-Dyn _))

pub is_within-returns-in-Str : goal.is_within-returns-in-Str
is_within-returns-in-Str t c = sym (fits_at c.args.depth c.args.name.now _ c.if-depth-eq0.false (ap out-Name c.in-Str.is ∙ outs-Str))

pub is_within-returns-in-Number : goal.is_within-returns-in-Number
is_within-returns-in-Number t c = sym (fits_at c.args.depth c.args.name.now _ c.if-depth-eq0.false (ap out-Name c.in-Number.is ∙ outs-Number _ _))

pub is_within-returns-in-Raw : goal.is_within-returns-in-Raw
is_within-returns-in-Raw t c = sym (fits_at c.args.depth c.args.name.now _ c.if-depth-eq0.false (ap out-Name c.in-Raw.is ∙ outs-Raw _))

pub is_within-returns-then-are_within : goal.is_within-returns-then-are_within
is_within-returns-then-are_within t c =
    let fit = fits (c.args.depth - 1) in
    let all = sym (ap (all_fit fit) c.as_slice-in-Fn.ensures) ∙ sym c.are_within-in-Fn.ensures ∙ c.if-are_within.true in
    c.is_within-then-are_within.ensures ∙ ap fit c.get-then-are_within.ensures
    ∙ sym (fits_at c.args.depth c.args.name.now _ c.if-depth-eq0.false (ap out-Name c.in-Fn.is ∙ outs-Fn _ _) ∙ ap (λ z. z && fit c.in-Fn.to) all)

pub is_within-returns-else-are_within : goal.is_within-returns-else-are_within
is_within-returns-else-are_within t c =
    let fit = fits (c.args.depth - 1) in
    let all = sym (ap (all_fit fit) c.as_slice-in-Fn.ensures) ∙ sym c.are_within-in-Fn.ensures ∙ c.if-are_within.false in
    c.if-are_within.false ∙
    sym (fits_at c.args.depth c.args.name.now _ c.if-depth-eq0.false (ap out-Name c.in-Fn.is ∙ outs-Fn _ _) ∙ ap (λ z. z && fit c.in-Fn.to) all)
