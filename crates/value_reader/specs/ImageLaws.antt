-- What holds of all images: levels beyond those of the depth change nothing, and a value has as many nodes as are
-- reached.
use Rattle.std.specs.Prelude.{◌≡◌, ℕ, ◌≤◌, ◌↔◌, List, length}
use Rattle.snapshot_file.specs.Memory.{Run}
use Rattle.rust_value.specs.Nodes.{nodes_of}
use Rattle.rust_value.specs.declared.value.Val.{Val}
use Rattle.layout_set.specs.declared.set.Set.{Set}
use Rattle.layout_set.specs.declared.set.TypeRef.{TypeRef}
use Rattle.layout_values.specs.Contexts.{Items, context_of}
use Rattle.layout_set.specs.FirstBreach.{Holds}
use Rattle.layout_values.specs.Images.{levels, IsImageWithin, IsImage}
use Rattle.layout_set.specs.Law2.{Law2}
use Rattle.layout_set.specs.Law4.{Law4}
use Rattle.layout_values.specs.Reached.{Nodes}
use Rattle.layout_set.specs.Sizes.{size}
use Rattle.layout_values.specs.Walk.{Doing, walk}

-- Where no chain of types is too long (law 2), whatever is done with all that a type reaches comes out the same at all
-- levels from `levels depth` on.
abbrev pub LevelsSuffice : Type 0 → Type 0
LevelsSuffice X = (act : Doing X) (set : Set) (memory : List Run) (width depth k : ℕ) (ty : TypeRef) (p : Items)
    → Holds set (Law2 set) → levels depth ≤ k
    → walk act (context_of set memory width) k depth ty p ≡ walk act (context_of set memory width) (levels depth) depth ty p

-- Then a value has its image in a part within more levels exactly if it has its image there.
abbrev pub ImagesSuffice : Type 0
ImagesSuffice = (set : Set) (memory : List Run) (width depth k : ℕ) (ty : TypeRef) (p : Items) (x : Val)
    → Holds set (Law2 set) → levels depth ≤ k
    → (IsImageWithin (context_of set memory width) k depth ty p x ↔ IsImage (context_of set memory width) depth ty p x)

-- Where also each field ends within its type (law 4), a value whose image fills a part of its type's size has as many
-- nodes as the type reaches there.
abbrev pub NodesAgree : Type 0
NodesAgree = (set : Set) (memory : List Run) (width depth : ℕ) (ty : TypeRef) (p : Items) (x : Val)
    → Holds set (Law2 set) → Holds set (Law4 set) → length p ≡ size set.target.ptr set.types ty
    → IsImage (context_of set memory width) depth ty p x → nodes_of x ≡ Nodes (context_of set memory width) depth ty p
