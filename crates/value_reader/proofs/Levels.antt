-- One level of what is read and counted.
use Rattle.std.proofs.Common.{◌≡◌, ℕ, zero, suc, ◌-◌, ◌<◌, ◌≤◌, Bool, true, false, ◌&&◌, Option, Some, None, refl, arith}
use Rattle.names.specs.declared.name.PtrKind.{PtrKind}
use Rattle.layout_values.specs.Pointers.{may_point}
use Rattle.layout_set.specs.declared.set.TypeRef.{TypeRef}
use Rattle.layout_set.specs.declared.set.TypeRef.TheVariants.{Prim, User}
use Rattle.layout_values.specs.Contexts.{Items, Context}
use Rattle.layout_values.specs.Walk.{go_layer, go_dyn, walk, valued, scalar_at, allowed}
use Rattle.layout_values.specs.Reached.{counting}
use Rattle.rust_value.specs.declared.value.Val.{Val}
use Rattle.value_reader.specs.declared.checked.Checked.TheVariants.{Invalid}
use Rattle.value_reader.specs.Reads.{reading, read, nodes}

module _ (c : Context) (d : ℕ) (ty : TypeRef) (p : Items) where
  pub read_none : read c 0 d ty p ≡ Invalid
  unfolding walk
  read_none = refl

  pub nodes_none : nodes c 0 d ty p ≡ 1
  unfolding walk
  nodes_none = refl

  pub read_more : (k : ℕ) → 0 < k → read c k d ty p ≡ go_layer reading c (read c (k - 1)) d ty p
  unfolding walk
  read_more zero h = absurd (omega arith)
  read_more (suc k) h = let e : suc k - 1 ≡ k = omega arith in rw e refl

  pub nodes_more : (k : ℕ) → 0 < k → nodes c k d ty p ≡ go_layer counting c (nodes c (k - 1)) d ty p
  unfolding walk
  nodes_more zero h = absurd (omega arith)
  nodes_more (suc k) h = let e : suc k - 1 ≡ k = omega arith in rw e refl

pub nodes_positive : (c : Context) (k d : ℕ) (ty : TypeRef) (p : Items) → 1 ≤ nodes c k d ty p
unfolding walk
nodes_positive c zero d ty p = omega arith
nodes_positive c (suc k) d (Prim x) p = omega arith
nodes_positive c (suc k) d (User i) p = omega arith

valued_counts : (o : Option Val) → valued counting o ≡ 0
valued_counts None = refl
valued_counts (Some x) = refl

pub scalar_counts : (value : ℕ → Option Val) (o : Option ℕ) → scalar_at counting value o ≡ 0
scalar_counts value None = refl
scalar_counts value (Some n) = valued_counts (value n)

allowed_counts : (may : Bool) → allowed counting may 0 ≡ 0
allowed_counts true = refl
allowed_counts false = refl

pub dyn_counts : (c : Context) (go : ℕ → TypeRef → Items → ℕ) (kind : PtrKind) (o q : Option ℕ) → go_dyn counting c go kind o q ≡ 0
dyn_counts c go kind None None = refl
dyn_counts c go kind None (Some vtable) = refl
dyn_counts c go kind (Some at) None = refl
dyn_counts c go kind (Some at) (Some vtable) = allowed_counts (may_point kind at && may_point kind vtable)
