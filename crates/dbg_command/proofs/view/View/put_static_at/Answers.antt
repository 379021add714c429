use Rattle.std.proofs.Common.{◌≡◌, ◌∙◌, sym, subst, refl, get_or, length}
use Rattle.std.proofs.lemmas.List.{get_or_default}
use Rattle.std.proofs.lemmas.Result.{on_ok_weaker}
use Rattle.layout_set.specs.declared.breach.Item.TheVariants.{Static}
use Rattle.layout_set.specs.declared.set.Static.{Static as StaticOf}
use Rattle.layout_set.specs.Law1.{IsWithin}
use Rattle.layout_values.specs.Contexts.{context_of}
use Rattle.value_reader.specs.OutcomesIn.{outcome_of}
use Rattle.dbg_command.specs.Lines.{IsStaticLine, static_line}
use Rattle.dbg_command.proofs.view.View.put_static_at.Goals as goal

-- the type of a static is one of the set's
pub outcome_at-requires-clause-within : goal.outcome_at-requires-clause-within
outcome_at-requires-clause-within c =
    let set = c.args.self.now.set.now in
    let item = c.index-as_slice-index.result in
    let at : item ≡ get_or set.statics c.args.index item = rw c.as_slice.ensures at c.index-as_slice-index.is in
    subst (λ s. IsWithin (length set.types) s.ty) (sym at) (c.requires.sizes.within (Static c.args.index) c.requires.within item)

-- what was put is the line of the static at this place
pub returns-clause-put : goal.returns-clause-put
returns-clause-put c =
    let a = c.args in
    let set = a.self.now.set.now in
    let context = context_of set a.self.now.snap.now.mem a.self.now.width in
    let item = c.index-as_slice-index.result in
    let outcome = outcome_of c.in_ok-outcome.outcome in
    let line = static_line item outcome in
    let at : item ≡ get_or set.statics a.index item = rw c.as_slice.ensures at c.index-as_slice-index.is in
    let same : (d : StaticOf) → item ≡ get_or set.statics a.index d = λ d. at ∙ get_or_default set.statics a.index item d c.requires.within in
    on_ok_weaker c.put_static.result
    (λ put. (line, put, λ d. subst (λ s. IsStaticLine context a.self.now.depth s line) (same d) (outcome, c.in_ok-outcome.ensures.outcome, refl)))
    c.put_static.ensures.put
