-- The lines of a type are lines where those of its parts are, and the text of a set spells it where its lines are lines.
use Rattle.std.proofs.Common.{refl, arith, ◌<◌, ◌≤◌, ◌++◌, map}
use Rattle.std.specs.List.{All, flat_map, sum_by}
use Rattle.std.proofs.lemmas.List.Elements.{All-cons, All-append}
use Rattle.layout_set.specs.declared.set.TypeDef.{TypeDef}
use Rattle.layout_set.specs.declared.set.Set.{Set}
use Rattle.layout_set.specs.Counts.{func_parts}
use Rattle.layout_set.specs.IsSet.{IsNamed, AreNamed, IsSet}
use Rattle.layout_set.specs.Law14.{IsBounded}
use Rattle.layout_lines.specs.declared.line.Line.TheVariants as lines
use Rattle.layout_lines.specs.Lines.{IsLine, IsTypeLine}
use Rattle.layout_lines.specs.Sets.{bare, part_lines, type_lines, func_lines, layout_text, Spells}

-- a type's line and those of its parts are lines
pub type_lines_are : (def : TypeDef) → IsTypeLine (bare def) → All IsLine (part_lines def) → All IsLine (type_lines def)
type_lines_are def own parts = All-cons IsLine (lines.Type (bare def)) (part_lines def) own parts

-- where the lines of each kind are lines, the text spells the set
pub set_spelled : (set : Set) → set.target.ptr < 256
    → (AreNamed set.types → All IsLine (flat_map type_lines set.types))
    → (All (λ s. IsNamed s.name) set.statics → All IsLine (map (λ s. lines.Static s) set.statics))
    → (All (λ f. IsNamed f.name) set.funcs → sum_by func_parts set.funcs ≤ 40000 → All IsLine (flat_map func_lines set.funcs))
    → IsSet set → IsBounded set → Spells set (layout_text set)
set_spelled set small types statics funcs is bounded =
    let statics_lines = map (λ s. lines.Static s) set.statics in
    let funcs_lines = flat_map func_lines set.funcs in
    let few : sum_by func_parts set.funcs ≤ 40000 = omega (arith, bounded.parts) in
    let behind = All-append IsLine statics_lines funcs_lines (statics is.statics) (funcs is.funcs few) in
    let all = All-append IsLine (flat_map type_lines set.types) (statics_lines ++ funcs_lines) (types is.types) behind in
    record { text = refl; items = record { target = small; lines = all }; bounded = bounded }
