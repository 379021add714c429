-- One level is what is done at it over the levels below; and one more element is read.
use Rattle.std.proofs.Common.{rules, ◌≡◌, ◌∙◌, sym, subst, arith, ℕ, refl}
use Rattle.image_view.specs.Places.{part_of}
use Rattle.layout_values.specs.Scalars.{prim_value}
use Rattle.layout_values.specs.Contexts.{element_part, far_part, field_part, number_at}
use Rattle.layout_values.specs.Walk.{go_def, go_field, go_elements}
use Rattle.layout_values.specs.Reached.{counting, total}
use Rattle.layout_set.specs.HasSizes.{HasSizes}
use Rattle.value_reader.specs.declared.context.Context.{Context}
use Rattle.value_reader.specs.declared.walk.Walk.{Walk}
use Rattle.value_reader.specs.Reads.{reading, read, nodes, all_checked}
use Rattle.value_reader.specs.Walking.{context_in}
use Rattle.value_reader.proofs.Levels.{read_none, nodes_none, read_more, nodes_more, scalar_counts, dyn_counts}
use Rattle.rv_io.proofs.Steps.{drop_step}
use Rattle.std.proofs.lemmas.Result.{err_from_is_err_and}
use Rattle.value_reader.proofs.Steps.{read_step, count_step, field_step, field_count, Reads_more, Reads_stop}
use Rattle.value_reader.proofs.walk.Walk.+read.Goals as goal

pub read-returns-then-levels-eq0 : goal.read-returns-then-levels-eq0
read-returns-then-levels-eq0 t c =
    let a = c.args in
    let x = context_in a.self.now.context in
    rw (c.if-levels-eq0.true)
    (sym (read_none x a.depth a.ty (part_of a.image.now)), refl, omega (arith, nodes_none x a.depth a.ty (part_of a.image.now), c.in_ok-count.ensures))

pub read-returns-in-Prim : goal.read-returns-in-Prim
read-returns-in-Prim t c =
    let a = c.args in
    let x = context_in a.self.now.context in
    let h = read_more x a.depth a.ty (part_of a.image.now) a.levels (omega (arith, c.if-levels-eq0.false)) in
    let g = nodes_more x a.depth a.ty (part_of a.image.now) a.levels (omega (arith, c.if-levels-eq0.false)) in
    rw (h, g, c.in-Prim.is, scalar_counts (prim_value 8 c.in-Prim.prim)) (c.read_prim.ensures, refl, omega (arith, c.in_ok-count.ensures))

pub read-returns-in-None : goal.read-returns-in-None
unfolding go_def
read-returns-in-None t c =
    let a = c.args in
    let x = context_in a.self.now.context in
    let h = read_more x a.depth a.ty (part_of a.image.now) a.levels (omega (arith, c.if-levels-eq0.false)) in
    let g = nodes_more x a.depth a.ty (part_of a.image.now) a.levels (omega (arith, c.if-levels-eq0.false)) in
    let e = rw (c.in-None.is, c.as_slice.ensures) at c.lookup.ensures in
    rw (h, g, c.in-User.is, ← e) (refl, refl, omega (arith, c.in_ok-count.ensures))

pub read-returns-in-Some : goal.read-returns-in-Some
read-returns-in-Some t c =
    let a = c.args in
    let x = context_in a.self.now.context in
    let h = read_more x a.depth a.ty (part_of a.image.now) a.levels (omega (arith, c.if-levels-eq0.false)) in
    let g = nodes_more x a.depth a.ty (part_of a.image.now) a.levels (omega (arith, c.if-levels-eq0.false)) in
    let e = rw (c.in-Some.is, c.as_slice.ensures) at c.lookup.ensures in
    let mid : Walk = record { bump = a.self.now.bump; context = a.self.now.context; left = c.count.new.left } in
    rw (h, g, c.in-User.is, ← e) (Reads_more _ _ a.self.now mid c.read_def.new.self c.read_def.result refl c.in_ok-count.ensures c.read_def.ensures)

pub read_def-returns-in-Dyn : goal.read_def-returns-in-Dyn
unfolding go_def
read_def-returns-in-Dyn t c =
    let a = c.args in
    let x = context_in a.self.now.context in
    rw (c.in-Dyn.is, dyn_counts x (nodes x a.levels) c.in-Dyn.kind (number_at (part_of a.image.now) 0 8) (number_at (part_of a.image.now) 8 8))
    (c.read_dyn.ensures x (read x a.levels), refl, omega arith)

pub read_array-loop-i-preserved : goal.read_array-loop-i-preserved
read_array-loop-i-preserved t c =
    let a = c.args in
    let x = context_in a.self.now.context in
    let go = λ (i : ℕ). read x a.levels a.depth a.elem (element_part x a.elem (part_of a.image.now) i) in
    let count = λ (i : ℕ). nodes x a.levels a.depth a.elem (element_part x a.elem (part_of a.image.now) i) in
    let place : part_of c.part_at-place.result ≡ element_part x a.elem (part_of a.image.now) c.loop-i.i =
    c.part_at-place.ensures ∙ rw (c.offset.ensures, c.size_in-size.ensures.value) refl in
    let done = rw (place, c.loop-i.invariant.context) at c.in_ok-value.ensures in
    record {
      context = done.1;
      all = read_step go c.loop-i.i _ c.loop-i.values _ c.in_ok-value.value _ c.loop-i-test.true c.in_ok-values.ensures done.0 c.loop-i.invariant.all;
      left = count_step count c.loop-i.i _ c.loop-i.self.left _ a.self.now.left _ _ c.loop-i-test.true done.2 refl c.loop-i.invariant.left;
    }

pub read_far-loop-i-preserved : goal.read_far-loop-i-preserved
read_far-loop-i-preserved t c =
    let a = c.args in
    let x = context_in a.self.now.context in
    let go = λ (i : ℕ). read x a.levels a.depth a.elem (far_part x a.elem a.at i) in
    let count = λ (i : ℕ). nodes x a.levels a.depth a.elem (far_part x a.elem a.at i) in
    let place : part_of c.far_image-target.result ≡ far_part x a.elem a.at c.loop-i.i =
    c.far_image-target.ensures ∙ rw (c.offset.ensures, c.size_in-size.ensures.value) refl in
    let done = rw (place, c.loop-i.invariant.context) at c.in_ok-value.ensures in
    record {
      context = done.1;
      all = read_step go c.loop-i.i _ c.loop-i.values _ c.in_ok-value.value _ c.loop-i-test.true c.in_ok-values.ensures done.0 c.loop-i.invariant.all;
      left = count_step count c.loop-i.i _ c.loop-i.self.left _ a.self.now.left _ _ c.loop-i-test.true done.2 refl c.loop-i.invariant.left;
    }

pub read_fields-read-requires : goal.read_fields-read-requires
read_fields-read-requires t c = (omega arith, subst (λ (k : Context). HasSizes k.set.now) (sym c.loop-field.invariant.context) c.requires)

pub read_array-read-requires : goal.read_array-read-requires
read_array-read-requires t c = (omega arith, subst (λ (k : Context). HasSizes k.set.now) (sym c.loop-i.invariant.context) c.requires)

pub read_far-read-requires : goal.read_far-read-requires
read_far-read-requires t c = (omega arith, subst (λ (k : Context). HasSizes k.set.now) (sym c.loop-i.invariant.context) c.requires)

pub read_fields-loop-field-preserved : goal.read_fields-loop-field-preserved
read_fields-loop-field-preserved t c =
    let a = c.args in
    let l = c.loop-field in
    let x = context_in a.self.now.context in
    let field = c.field-item.result in
    let go = go_field reading x (read x a.levels) a.depth (part_of a.image.now) in
    let count = go_field counting x (nodes x a.levels) a.depth (part_of a.image.now) in
    let step = drop_step a.fields.now l.field-index field c.loop-field-test.true c.field-item.is in
    let place : part_of c.part_at-place.result ≡ field_part x (part_of a.image.now) field = c.part_at-place.ensures ∙ rw (c.from.ensures, c.size_in.ensures.value) refl in
    let done = rw (place, l.invariant.context) at c.in_ok-value.ensures in
    record {
      context = done.1;
      all = field_step go a.fields.now l.field-index field l.parts _ c.in_ok-value.value _ step c.in_ok-parts.ensures done.0 l.invariant.all;
      left = field_count count a.fields.now l.field-index field l.self.left _ a.self.now.left _ _ step done.2 refl l.invariant.left;
    }

pub read_array-returns-in_err-value : goal.read_array-returns-in_err-value
read_array-returns-in_err-value t c =
    let a = c.args in
    let x = context_in a.self.now.context in
    let count = λ (i : ℕ). nodes x a.levels a.depth a.elem (element_part x a.elem (part_of a.image.now) i) in
    let place : part_of c.part_at-place.result ≡ element_part x a.elem (part_of a.image.now) c.loop-i.i =
    c.part_at-place.ensures ∙ rw (c.offset.ensures, c.size_in-size.ensures.value) refl in
    let whole = total (go_elements counting x (nodes x a.levels) a.depth a.elem (element_part x a.elem (part_of a.image.now)) a.count) in
    let all = all_checked (go_elements reading x (read x a.levels) a.depth a.elem (element_part x a.elem (part_of a.image.now)) a.count) in
    let y = context_in c.loop-i.self.context in
    let part = part_of c.part_at-place.result in
    let same : nodes y a.levels a.depth a.elem part ≡ count c.loop-i.i = rw (place, c.loop-i.invariant.context) refl in
    let p = err_from_is_err_and c.from_residual-in_err-value.result c.from_residual-in_err-value.ensures.1 in
    rw (p.1, p.2)
    (Reads_stop all (read y a.levels a.depth a.elem part) count c.loop-i.i _ (nodes y a.levels a.depth a.elem part) _ whole a.self.now c.loop-i.self c.read.new.self c.read.new.self
    c.in_err-value.field-0.0 (search rules) c.loop-i-test.true c.loop-i.invariant.left same c.in_err-value.ensures)

pub read_far-returns-in_err-value : goal.read_far-returns-in_err-value
read_far-returns-in_err-value t c =
    let a = c.args in
    let x = context_in a.self.now.context in
    let count = λ (i : ℕ). nodes x a.levels a.depth a.elem (far_part x a.elem a.at i) in
    let place : part_of c.far_image-target.result ≡ far_part x a.elem a.at c.loop-i.i =
    c.far_image-target.ensures ∙ rw (c.offset.ensures, c.size_in-size.ensures.value) refl in
    let whole = total (go_elements counting x (nodes x a.levels) a.depth a.elem (far_part x a.elem a.at) a.len) in
    let all = all_checked (go_elements reading x (read x a.levels) a.depth a.elem (far_part x a.elem a.at) a.len) in
    let y = context_in c.loop-i.self.context in
    let part = part_of c.far_image-target.result in
    let same : nodes y a.levels a.depth a.elem part ≡ count c.loop-i.i = rw (place, c.loop-i.invariant.context) refl in
    let p = err_from_is_err_and c.from_residual-in_err-value.result c.from_residual-in_err-value.ensures.1 in
    rw (p.1, p.2)
    (Reads_stop all (read y a.levels a.depth a.elem part) count c.loop-i.i _ (nodes y a.levels a.depth a.elem part) _ whole a.self.now c.loop-i.self c.read.new.self c.read.new.self
    c.in_err-value.field-0.0 (search rules) c.loop-i-test.true c.loop-i.invariant.left same c.in_err-value.ensures)
