-- The walk up from the last entry to where a new one is linked.
use Rattle.std.proofs.Common.{◌≡◌, ℕ, suc, ◌+◌, ◌-◌, ◌<◌, ◌≤◌, List, [], ◌∷◌, length, Bool, true, false, not, nat_eq, Option, Some, None, SomeIff, refl, sym, ap, subst, ◌∙◌, arith}
use Rattle.std.specs.Option.{option_eq}
use Rattle.entry_tree.specs.Entries.{Entry, up_of, last_of, OnWay, here, above, MayPush, depth_of}
use Rattle.entry_tree.specs.Invariant.{AreInPrefixOrder, AreEntries, IsLastChild, IsInsertion}
use Rattle.entry_tree.proofs.Finds.{eq_true, eq_false}
use Rattle.entry_tree.proofs.Ways.{IsBelow, way_then, earlier, depth_step, none_counted, last_is, last_child}

-- u is none, or on the way from `at`
abbrev pub IsAhead : List Entry → Option ℕ → Option ℕ → Type 0
IsAhead t at None = Unit {0}
IsAhead t None (Some u) = ⊥
IsAhead t (Some k) (Some u) = OnWay t k u

-- the walk starts at the last entry, and goes from a child on the way from there to its parent
abbrev pub ComesFrom : List Entry → Option ℕ → Option ℕ → Type 0
ComesFrom t None at = at ≡ last_of t
ComesFrom t (Some k) at = (k < length t) × (OnWay t (length t - 1) k × (up_of t k ≡ at))

-- the walk to u has come from this child to `at`, which has the depth d
pub record IsWalked (t : List Entry) (u at child : Option ℕ) (d : ℕ) : Type 0 where
  pub within : IsBelow at (length t)
  pub way : (k : ℕ) → at ≡ Some k → OnWay t (length t - 1) k
  pub ahead : IsAhead t at u
  pub from : ComesFrom t child at
  pub depth : d ≡ depth_of t at

not_true : (b : Bool) → not b ≡ true → b ≡ false
not_true false e = refl
not_true true e = cc

not_false : (b : Bool) → not b ≡ false → b ≡ true
not_false true e = refl
not_false false e = cc

-- what the test `a != b` says
pub ne_true : (a b : Option ℕ) → not (option_eq nat_eq a b) ≡ true → a ≡ b → ⊥
ne_true a b e = eq_false a b (not_true (option_eq nat_eq a b) e)

pub ne_false : (a b : Option ℕ) → not (option_eq nat_eq a b) ≡ false → a ≡ b
ne_false a b e = eq_true a b (not_false (option_eq nat_eq a b) e)

last_of_none : (t : List Entry) → (1 ≤ length t → ⊥) → last_of t ≡ None
last_of_none [] h = refl
last_of_none (x ∷ t) h = absurd (h (omega arith))

none_ahead : (t : List Entry) (u : Option ℕ) → (1 ≤ length t → ⊥) → MayPush t u → IsAhead t None u
none_ahead t None h m = tt
none_ahead t (Some k) h m = absurd (h (let l = m.0 in omega arith))

ahead_of_last : (t : List Entry) (last : ℕ) (u : Option ℕ) → suc last ≡ length t → MayPush t u → IsAhead t (Some last) u
ahead_of_last t last None e m = tt
ahead_of_last t last (Some k) e m = subst (λ z. OnWay t z k) (let q : length t - 1 ≡ last = omega arith in q) m.1

pub walk_starts : (t : List Entry) (u at : Option ℕ) (d : ℕ) → SomeIff at (1 ≤ length t) (length t - 1) → MayPush t u → d ≡ depth_of t (last_of t) → IsWalked t u at None d
walk_starts t u None d h may e = record {
  within = λ k q. cc;
  way = λ k q. cc;
  ahead = none_ahead t u h may;
  from = sym (last_of_none t h);
  depth = e ∙ ap (depth_of t) (last_of_none t h);
}
walk_starts t u (Some last) d h may e =
    let is : suc last ≡ length t = (let a = h.0 in let b = h.1 in omega arith) in
    record {
      within = λ k q. let same : last ≡ k = cc in omega (arith, is);
      way = λ k q. let same : last ≡ k = cc in subst (OnWay t (length t - 1)) (let p : length t - 1 ≡ k = omega arith in p) here;
      ahead = ahead_of_last t last u is may;
      from = sym (last_is t last is);
      depth = e ∙ ap (depth_of t) (last_is t last is);
    }

ahead_up : (t : List Entry) (k : ℕ) (u : Option ℕ) → IsAhead t (Some k) u → (Some k ≡ u → ⊥) → IsAhead t (up_of t k) u
ahead_up t k None a other = tt
ahead_up t k (Some i) here other = absurd (other refl)
ahead_up t k (Some i) (above j e w) other = subst (λ z. IsAhead t z (Some i)) (sym e) w

-- one step up
pub walk_up : (t : List Entry) (u child : Option ℕ) (k d : ℕ) → AreInPrefixOrder t → IsWalked t u (Some k) child d → (Some k ≡ u → ⊥) → IsWalked t u (up_of t k) (Some k) (d - 1)
walk_up t u child k d order w other =
    let h = earlier t order in
    let l = w.within k refl in
    let way = w.way k refl in
    record {
      within = λ j e. let a = h k j e in omega arith;
      way = λ j e. way_then t (length t - 1) k j way (above j e here);
      ahead = ahead_up t k u w.ahead other;
      from = (l, (way, refl));
      depth = omega (arith, w.depth, depth_step t h k l);
    }

pub walk_deep : (t : List Entry) (u child : Option ℕ) (k d : ℕ) → AreInPrefixOrder t → IsWalked t u (Some k) child d → 1 ≤ d
walk_deep t u child k d order w = omega (arith, w.depth, depth_step t (earlier t order) k (w.within k refl))

pub walk_shallow : (t : List Entry) (u at child : Option ℕ) (d : ℕ) → AreEntries t → IsWalked t u at child d → d ≤ 256
walk_shallow t u None child d entries w = omega (arith, w.depth, none_counted t (length t))
walk_shallow t u (Some k) child d entries w = omega (arith, w.depth, entries.shallow k (w.within k refl))

-- the walk does not miss u
pub walk_out : (t : List Entry) (at u : Option ℕ) → IsAhead t at u → at ≡ None → at ≡ u
walk_out t None None a e = refl
walk_out t None (Some i) a e = absurd a
walk_out t (Some k) u a e = cc

last_childless : (t : List Entry) (i : ℕ) → AreInPrefixOrder t → i < length t → up_of t i ≡ last_of t → ⊥
last_childless [] i order h e = omega arith
last_childless (x ∷ t) i order h e = let l = earlier (x ∷ t) order i (length t) e in omega arith

last_before : (t : List Entry) (u at child : Option ℕ) → AreInPrefixOrder t → ComesFrom t child at → at ≡ u → IsLastChild t u child
last_before t u at None order from is = λ i h e. last_childless t i order h (e ∙ sym is ∙ from)
last_before t u at (Some k) order from is =
    let h = from.0 in
    (h, from.1.1 ∙ is, λ i gt lt e. last_child t (length t - 1) k order (omega arith) (omega arith) from.1.0 i gt lt (e ∙ sym is ∙ sym from.1.1))

-- where the walk has come to u, the child that it came from is the last one of u
pub walk_ends : (t : List Entry) (u at child : Option ℕ) (d : ℕ) → AreInPrefixOrder t → IsWalked t u at child d → at ≡ u → IsInsertion t u (record { sibling = child; depth = d + 1 })
walk_ends t u at child d order w is = record {
  sibling = last_before t u at child order w.from is;
  depth = ap (λ n. n + 1) (w.depth ∙ ap (depth_of t) is);
}
