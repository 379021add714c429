use Rattle.std.proofs.Common.{◌≡◌, ◌∙◌, sym, ap, subst, ◌++◌, append_assoc, map, OnOk, ◌≤◌, List}
use Rattle.std.specs.List.{flat_map, All, sum_by}
use Rattle.std.proofs.lemmas.Result.{on_ok_weaker}
use Rattle.layout_set.specs.declared.func.Func.{Func}
use Rattle.layout_set.specs.Counts.{func_parts}
use Rattle.layout_set.specs.IsSet.{IsNamed, AreNamed}
use Rattle.layout_lines.specs.declared.line.Line.TheVariants as lines
use Rattle.layout_lines.specs.Lines.{IsLine}
use Rattle.layout_lines.specs.Sets.{head_text, texts, type_lines, func_lines, part_text}
use Rattle.layout_lines.proofs.FuncTexts.{layout_text_parts}
use Rattle.layout_writer.proofs.TypeLines.{set_spelled}
use Rattle.layout_writer.proofs.set_writer.put_set.Goals as goal

-- the head, the types, the statics and the functions are the whole text
pub returns-clause-put : goal.returns-clause-put
returns-clause-put c =
    let set = c.args.set.now in
    let old = c.args.out.now in
    let after = c.put_funcs.new.out in
    let head = head_text set.target.ptr in
    let types = texts 0 (flat_map type_lines set.types) in
    let statics = flat_map part_text (map (λ s. lines.Static s) set.statics) in
    let funcs = flat_map part_text (flat_map func_lines set.funcs) in
    let a = subst (λ xs. OnOk c.put_funcs.result (after ≡ c.put_statics.new.out ++ flat_map part_text (flat_map func_lines xs))) c.as_slice-3.ensures c.put_funcs.ensures.put in
    let b = subst (λ xs. c.put_statics.new.out ≡ c.put_types.new.out ++ flat_map part_text (map (λ s. lines.Static s) xs)) c.as_slice-2.ensures c.in_ok-put_statics.ensures.put in
    let d = subst (λ xs. c.put_types.new.out ≡ c.put_head.new.out ++ texts 0 (flat_map type_lines xs)) c.as_slice.ensures c.in_ok-put_types.ensures.put in
    let e = b ∙ ap (λ t. t ++ statics) (d ∙ ap (λ t. t ++ types) c.in_ok-put_head.ensures.put) in
    let f = subst (λ o. OnOk c.put_funcs.result (after ≡ o ++ funcs)) e a in
    subst (λ l. OnOk c.put_funcs.result (after ≡ l))
    (append_assoc ((old ++ head) ++ types) statics funcs ∙ append_assoc (old ++ head) types (statics ++ funcs) ∙ append_assoc old head (types ++ (statics ++ funcs)) ∙ ap (λ t. old ++ t) (sym (layout_text_parts set))) f

-- the lines of the types, of the statics and of the functions are lines
pub returns-clause-spelled : goal.returns-clause-spelled
returns-clause-spelled c =
    let set = c.args.set.now in
    let types = subst (λ xs. AreNamed xs → All IsLine (flat_map type_lines xs)) c.as_slice.ensures c.in_ok-put_types.ensures.lines in
    let statics = subst (λ xs. All (λ s. IsNamed s.name) xs → All IsLine (map (λ s. lines.Static s) xs)) c.as_slice-2.ensures c.in_ok-put_statics.ensures.lines in
    let AreLines = λ (xs : List Func). All (λ f. IsNamed f.name) xs → sum_by func_parts xs ≤ 40000 → All IsLine (flat_map func_lines xs) in
    let funcs = subst (λ xs. OnOk c.put_funcs.result (AreLines xs)) c.as_slice-3.ensures c.put_funcs.ensures.lines in
    on_ok_weaker c.put_funcs.result (set_spelled set c.in_ok-put_head.ensures.byte types statics) funcs
