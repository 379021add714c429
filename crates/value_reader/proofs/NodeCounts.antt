-- How many nodes a value has, from the values inside.
use Rattle.std.proofs.Common.{◌≡◌, ◌∙◌, sym, ap, subst, ℕ, ◌+◌, Bool, true, false, cond, List, map, length, sum, Option, Some, None, nat_lt, ◌==◌}
use Rattle.std.specs.Option.{option_map}
use Rattle.std.specs.Prelude.{ℤ}
use Rattle.std.specs.Int.{cast_signed, w8, w16, w32, w64, w128}
use lib.Utf8.{scalar}
use Rattle.names.specs.declared.name.PtrKind.{PtrKind}
use Rattle.rust_value.specs.declared.value.Part.{Part, fold-roll-Part}
use Rattle.rust_value.specs.declared.value.Val.{Val, fold-roll-Val}
use Rattle.rust_value.specs.declared.value.Val.TheOpen.{Val-F}
use Rattle.rust_value.specs.declared.value.Val.TheVariants as vals
use Rattle.rust_value.specs.declared.value.Val.TheVariants.{rolls-Fields, rolls-Variant, rolls-Seq, rolls-Pointer, rolls-Slice, rolls-Str, rolls-Dyn}
use Rattle.rust_value.specs.declared.value.Val.TheVariants.{rolls-Function, rolls-Bytes, rolls-Unit, rolls-Bool, rolls-Char, rolls-Unsigned}
use Rattle.rust_value.specs.declared.value.Val.TheVariants.{rolls-Signed, rolls-Float32, rolls-Float64}
use Rattle.rust_value.specs.Nodes.{nodes_of, part_nodes, val_step, part_step, content_nodes, shown_nodes}
use Rattle.layout_set.specs.declared.primitive.Primitive.{Primitive}
use Rattle.layout_set.specs.declared.primitive.Primitive.TheVariants as prim
use Rattle.layout_values.specs.Scalars.{pointer_width, prim_value}

pub part-nodes : (part : Part) → part_nodes part ≡ nodes_of part.val
part-nodes part = fold-roll-Part ℕ ℕ val_step part_step (record { name = part.name; val = part.val })

pub nodes-Fields : (parts : List Part) → nodes_of (vals.Fields parts) ≡ 1 + sum (map part_nodes parts)
nodes-Fields parts = ap nodes_of (sym (rolls-Fields parts)) ∙ fold-roll-Val ℕ ℕ val_step part_step (Val-F.Fields parts)

pub nodes-Variant : (name : List ℕ) (parts : List Part) → nodes_of (vals.Variant name parts) ≡ 1 + sum (map part_nodes parts)
nodes-Variant name parts = ap nodes_of (sym (rolls-Variant name parts)) ∙ fold-roll-Val ℕ ℕ val_step part_step (Val-F.Variant name parts)

pub nodes-Seq : (count : ℕ) (shown : List Val) → nodes_of (vals.Seq count shown) ≡ 1 + sum (map nodes_of shown)
nodes-Seq count shown = ap nodes_of (sym (rolls-Seq count shown)) ∙ fold-roll-Val ℕ ℕ val_step part_step (Val-F.Seq count shown)

pub nodes-Pointer : (kind : PtrKind) (at : ℕ) (content : Option Val) → nodes_of (vals.Pointer kind at content) ≡ 1 + content_nodes (option_map nodes_of content)
nodes-Pointer kind at None = ap nodes_of (sym (rolls-Pointer kind at None)) ∙ fold-roll-Val ℕ ℕ val_step part_step (Val-F.Pointer kind at None)
nodes-Pointer kind at (Some x) = ap nodes_of (sym (rolls-Pointer kind at (Some x))) ∙ fold-roll-Val ℕ ℕ val_step part_step (Val-F.Pointer kind at (Some x))

pub nodes-Slice : (kind : PtrKind) (at len : ℕ) (content : Option Val) →
    nodes_of (vals.Slice kind at len content) ≡ 1 + content_nodes (option_map nodes_of content)
nodes-Slice kind at len None = ap nodes_of (sym (rolls-Slice kind at len None)) ∙ fold-roll-Val ℕ ℕ val_step part_step (Val-F.Slice kind at len None)
nodes-Slice kind at len (Some x) = ap nodes_of (sym (rolls-Slice kind at len (Some x)))
    ∙ fold-roll-Val ℕ ℕ val_step part_step (Val-F.Slice kind at len (Some x))

pub nodes-Str : (kind : PtrKind) (at len : ℕ) (content : Option (List ℕ)) → nodes_of (vals.Str kind at len content) ≡ 1 + shown_nodes content
nodes-Str kind at len content = ap nodes_of (sym (rolls-Str kind at len content)) ∙ fold-roll-Val ℕ ℕ val_step part_step (Val-F.Str kind at len content)

pub nodes-Bytes : (bytes : List ℕ) → nodes_of (vals.Bytes bytes) ≡ 1 + length bytes
nodes-Bytes bytes = ap nodes_of (sym (rolls-Bytes bytes)) ∙ fold-roll-Val ℕ ℕ val_step part_step (Val-F.Bytes bytes)

pub nodes-Unit : nodes_of vals.Unit ≡ 1
nodes-Unit = ap nodes_of (sym rolls-Unit) ∙ fold-roll-Val ℕ ℕ val_step part_step Val-F.Unit

pub nodes-Bool : (b : Bool) → nodes_of (vals.Bool b) ≡ 1
nodes-Bool b = ap nodes_of (sym (rolls-Bool b)) ∙ fold-roll-Val ℕ ℕ val_step part_step (Val-F.Bool b)

pub nodes-Char : (c : ℕ) → nodes_of (vals.Char c) ≡ 1
nodes-Char c = ap nodes_of (sym (rolls-Char c)) ∙ fold-roll-Val ℕ ℕ val_step part_step (Val-F.Char c)

pub nodes-Unsigned : (n : ℕ) → nodes_of (vals.Unsigned n) ≡ 1
nodes-Unsigned n = ap nodes_of (sym (rolls-Unsigned n)) ∙ fold-roll-Val ℕ ℕ val_step part_step (Val-F.Unsigned n)

pub nodes-Signed : (z : ℤ) → nodes_of (vals.Signed z) ≡ 1
nodes-Signed z = ap nodes_of (sym (rolls-Signed z)) ∙ fold-roll-Val ℕ ℕ val_step part_step (Val-F.Signed z)

pub nodes-Float32 : (n : ℕ) → nodes_of (vals.Float32 n) ≡ 1
nodes-Float32 n = ap nodes_of (sym (rolls-Float32 n)) ∙ fold-roll-Val ℕ ℕ val_step part_step (Val-F.Float32 n)

pub nodes-Float64 : (n : ℕ) → nodes_of (vals.Float64 n) ≡ 1
nodes-Float64 n = ap nodes_of (sym (rolls-Float64 n)) ∙ fold-roll-Val ℕ ℕ val_step part_step (Val-F.Float64 n)

pub nodes-Dyn : (kind : PtrKind) (at : ℕ) (vtable : ℕ) → nodes_of (vals.Dyn kind at vtable) ≡ 1
nodes-Dyn kind at vtable = ap nodes_of (sym (rolls-Dyn kind at vtable)) ∙ fold-roll-Val ℕ ℕ val_step part_step (Val-F.Dyn kind at vtable)

pub nodes-Function : (at : ℕ) → nodes_of (vals.Function at) ≡ 1
nodes-Function at = ap nodes_of (sym (rolls-Function at)) ∙ fold-roll-Val ℕ ℕ val_step part_step (Val-F.Function at)

-- the value, if there is one, has one node
abbrev OneNode : Option Val → Type 0
OneNode None = Unit {0}
OneNode (Some x) = nodes_of x ≡ 1

one_if : (b : Bool) (x : Val) → nodes_of x ≡ 1 → OneNode (cond b (Some x) None)
one_if true x e = e
one_if false x e = tt

prim_node : (ptr : ℕ) (p : Primitive) (n : ℕ) → OneNode (prim_value ptr p n)
prim_node ptr prim.Unit n = nodes-Unit
prim_node ptr prim.Bool n = one_if (nat_lt n 2) (vals.Bool (n == 1)) (nodes-Bool (n == 1))
prim_node ptr prim.Char n = one_if (scalar n) (vals.Char n) (nodes-Char n)
prim_node ptr prim.I8 n = nodes-Signed (cast_signed w8 n)
prim_node ptr prim.I16 n = nodes-Signed (cast_signed w16 n)
prim_node ptr prim.I32 n = nodes-Signed (cast_signed w32 n)
prim_node ptr prim.I64 n = nodes-Signed (cast_signed w64 n)
prim_node ptr prim.I128 n = nodes-Signed (cast_signed w128 n)
prim_node ptr prim.Isize n = nodes-Signed (cast_signed (pointer_width ptr) n)
prim_node ptr prim.U8 n = nodes-Unsigned n
prim_node ptr prim.U16 n = nodes-Unsigned n
prim_node ptr prim.U32 n = nodes-Unsigned n
prim_node ptr prim.U64 n = nodes-Unsigned n
prim_node ptr prim.U128 n = nodes-Unsigned n
prim_node ptr prim.Usize n = nodes-Unsigned n
prim_node ptr prim.F32 n = nodes-Float32 n
prim_node ptr prim.F64 n = nodes-Float64 n

-- the value of a primitive has one node
pub nodes-prim : (ptr : ℕ) (p : Primitive) (n : ℕ) (x : Val) → prim_value ptr p n ≡ Some x → nodes_of x ≡ 1
nodes-prim ptr p n x e = subst OneNode e (prim_node ptr p n)
