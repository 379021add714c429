-- The names of a set that a file spells are names of Rust or raw texts.
use Rattle.std.proofs.Common.{◌≡◌, refl, inl, inr, List, [], ◌∷◌, ◌++◌, ℕ, map, IfSome}
use Rattle.std.specs.List.{All, flat_map}
use Rattle.std.proofs.lemmas.List.Elements.{All-nil, All-cons, All-head, All-tail}
use Rattle.names.specs.declared.name.Name.{Name, out-Name}
use Rattle.names.specs.declared.name.Name.TheOpen.{Name-F}
use Rattle.names.specs.declared.name.Seg.{Seg}
use Rattle.layout_set.specs.declared.func.Func.{Func}
use Rattle.layout_set.specs.declared.set.Set.{Set}
use Rattle.layout_set.specs.declared.set.Static.{Static}
use Rattle.layout_set.specs.declared.set.TypeDef.{TypeDef}
use Rattle.layout_set.specs.declared.set.TypeDef.TheVariants.{Struct, Array, Thin, Slice, Str, Dyn, FnPtr, CLike, Enum, Bytes}
use Rattle.layout_set.specs.DerivedNames.{name_of}
use Rattle.layout_set.specs.IsSet.{IsNamed, AreNamed, IsSet}
use Rattle.layout_lines.specs.declared.line.Line.{Line}
use Rattle.layout_lines.specs.declared.line.Line.TheVariants as lines
use Rattle.layout_words.specs.Spellings.{IsName}
use Rattle.layout_lines.specs.Lines.{IsLine, IsTypeLine}
use Rattle.layout_lines.specs.Sets.{bare, part_lines, type_lines, scope_lines, func_lines, Spells}

layer_named : (name : Name) (layer : Name-F Name Seg) → out-Name name ≡ layer → IsName name → IsNamed name
layer_named name layer e (inl proper) = inl proper
layer_named name (Name-F.Raw bytes) e (inr raw) = inr (rw e refl)
layer_named name (Name-F.Path segs) e (inr raw) = absurd (rw e at raw)
layer_named name (Name-F.Pointer kind x) e (inr raw) = absurd (rw e at raw)
layer_named name (Name-F.Slice x) e (inr raw) = absurd (rw e at raw)
layer_named name (Name-F.Array x n) e (inr raw) = absurd (rw e at raw)
layer_named name (Name-F.Tuple xs) e (inr raw) = absurd (rw e at raw)
layer_named name Name-F.Str e (inr raw) = absurd (rw e at raw)
layer_named name (Name-F.Dyn xs) e (inr raw) = absurd (rw e at raw)
layer_named name (Name-F.Fn xs x) e (inr raw) = absurd (rw e at raw)
layer_named name (Name-F.Number minus n) e (inr raw) = absurd (rw e at raw)
layer_named name (Name-F.Bind word x) e (inr raw) = absurd (rw e at raw)

-- what a line can name is a name of Rust or a raw text
is_named : (name : Name) → IsName name → IsNamed name
is_named name h = layer_named name (out-Name name) refl h

-- the name in a type's line
type_named : (t : TypeDef) → IsTypeLine (bare t) → IfSome (name_of t) IsNamed
type_named (Struct name size align params fields) h = is_named name h.0.1.1
type_named (Array elem count) h = tt
type_named (Thin kind to) h = tt
type_named (Slice name kind ptr) h = is_named name h.1.1
type_named (Str name kind ptr) h = is_named name h.1.1
type_named (Dyn name kind ptr vtable) h = is_named name h.1.1.1
type_named FnPtr h = tt
type_named (CLike name tag cases) h = is_named name h.0.1
type_named (Enum name size align params tag variants) h = is_named name h.0.1.1
type_named (Bytes name size align) h = is_named name h.1.1

-- the lines before, and the lines behind
pub front : (xs ys : List Line) → All IsLine (xs ++ ys) → All IsLine xs
front [] ys h = All-nil IsLine
front (x ∷ xs) ys h = All-cons IsLine x xs (All-head IsLine x (xs ++ ys) h) (front xs ys (All-tail IsLine x (xs ++ ys) h))

pub back : (xs ys : List Line) → All IsLine (xs ++ ys) → All IsLine ys
back [] ys h = h
back (x ∷ xs) ys h = back xs ys (All-tail IsLine x (xs ++ ys) h)

types_named : (ts : List TypeDef) → All IsLine (flat_map type_lines ts) → AreNamed ts
types_named [] h = All-nil (λ t. IfSome (name_of t) IsNamed)
types_named (t ∷ ts) h =
    let more = part_lines t ++ flat_map type_lines ts in
    let own : IsLine (lines.Type (bare t)) = All-head IsLine (lines.Type (bare t)) more h in
    let others : All IsLine more = All-tail IsLine (lines.Type (bare t)) more h in
    All-cons (λ t. IfSome (name_of t) IsNamed) t ts (type_named t own) (types_named ts (back (part_lines t) (flat_map type_lines ts) others))

statics_named : (ss : List Static) → All IsLine (map (λ s. lines.Static s) ss) → All (λ s. IsNamed s.name) ss
statics_named [] h = All-nil (λ s. IsNamed s.name)
statics_named (s ∷ ss) h =
    let more = map (λ s. lines.Static s) ss in
    let own : IsLine (lines.Static s) = All-head IsLine (lines.Static s) more h in
    All-cons (λ s. IsNamed s.name) s ss (is_named s.name own.1.1) (statics_named ss (All-tail IsLine (lines.Static s) more h))

funcs_named : (fs : List Func) → All IsLine (flat_map func_lines fs) → All (λ f. IsNamed f.name) fs
funcs_named [] h = All-nil (λ f. IsNamed f.name)
funcs_named (f ∷ fs) h =
    let own_line : Line = lines.Func (record f { scopes = [] }) in
    let more = flat_map scope_lines f.scopes ++ flat_map func_lines fs in
    let own : IsLine own_line = All-head IsLine own_line more h in
    let others : All IsLine more = All-tail IsLine own_line more h in
    All-cons (λ f. IsNamed f.name) f fs (is_named f.name own.0.1) (funcs_named fs (back (flat_map scope_lines f.scopes) (flat_map func_lines fs) others))

pub spells_is_set : (set : Set) (bytes : List ℕ) → Spells set bytes → IsSet set
spells_is_set set bytes spells =
    let types = flat_map type_lines set.types in
    let statics = map (λ s. lines.Static s) set.statics in
    let funcs = flat_map func_lines set.funcs in
    let behind = back types (statics ++ funcs) spells.items.lines in
    record {
      types = types_named set.types (front types (statics ++ funcs) spells.items.lines);
      statics = statics_named set.statics (front statics funcs behind);
      funcs = funcs_named set.funcs (back statics funcs behind);
    }
