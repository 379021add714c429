-- Scopes nest where each fits those that are open before it.
use Rattle.std.proofs.Common.{zero, suc, Bool, not, ◌==◌, ◌≡◌, ℕ, ◌+◌, ◌-◌, ◌<◌, ◌≤◌, inl, inr, List, [], ◌∷◌, ◌++◌, length, take, get_or, refl, ap, sym, ◌∙◌, subst, add-one, length-append, arith}
use Rattle.std.specs.Bool.{Decides}
use Rattle.std.specs.List.{All}
use Rattle.std.proofs.lemmas.Bool.{cases_lt}
use Rattle.std.proofs.lemmas.List.{get_or-map, get_or_append_left, get_or-append_right, get_or-take}
use Rattle.std.proofs.lemmas.List.Elements.{at_read}
use Rattle.std.proofs.lemmas.Grind.{common_steps}
use Rattle.layout_set.specs.declared.func.Scope.{Scope}
use Rattle.layout_set.specs.declared.func.Zone.{Zone}
use Rattle.layout_set.specs.Law12.{depth_at, zones_at, HasDepth, HasOneZone, IsAround, IsInside, AreInside, AreNested}
use Rattle.layout_func_laws.specs.OpenScopes.{open_before, IsOpen, AreOpen, MayBeSoDeep, LieInOuter, FitsOpen, NestsAt}

-- the scope stands at a place of the list
abbrev StandsAt : List Scope → ℕ → Scope → Type 0
StandsAt scopes i s = (i < length scopes) × (s ≡ get_or scopes i s)

depth_of : (scopes : List Scope) (i : ℕ) (s : Scope) → StandsAt scopes i s → depth_at scopes i ≡ s.depth
depth_of scopes i s at = get_or-map (λ s. s.depth) scopes i s 0 at.0 ∙ ap (λ s. s.depth) (sym at.1)

zones_of : (scopes : List Scope) (i : ℕ) (s : Scope) → StandsAt scopes i s → zones_at scopes i ≡ s.zones
zones_of scopes i s at = get_or-map (λ s. s.zones) scopes i s [] at.0 ∙ ap (λ s. s.zones) (sym at.1)

-- the depth that a scope may have is the one that fits
depth_fits : (scopes : List Scope) (i count : ℕ) → count ≡ open_before scopes i → MayBeSoDeep count (depth_at scopes i) → HasDepth scopes i
depth_fits scopes zero count e may = let h = may.0 in omega (arith, e, h)
depth_fits scopes (suc i) count e may =
    let h = may.0 in
    let some = may.1.1 (omega (arith, e)) in
    (omega (arith, some), (may.1.0, omega (arith, e, h)))

fits_depth : (scopes : List Scope) (i count : ℕ) → count ≡ open_before scopes i → HasDepth scopes i → MayBeSoDeep count (depth_at scopes i)
fits_depth scopes zero count e has = (omega (arith, e, has), (omega (arith, e, has), λ l. omega (arith, e, l)))
fits_depth scopes (suc i) count e has =
    let some = has.0 in
    let most = has.1.1 in
    (omega (arith, e, most), (has.1.0, λ l. omega (arith, some)))

-- the scope around one is the open scope that is one less deep
around_is : (scopes : List Scope) (i j depth : ℕ) (z : Zone) (o : IsOpen scopes i depth z) → depth + 1 ≡ depth_at scopes i → IsAround scopes j i → j ≡ o.at
around_is scopes i j depth z o up around = elim (cases_lt j o.at) as (λ _. j ≡ o.at) [
  | inl l ↦ let m = around.last o.at l o.before in let own = o.own in elim (let f : ⊥ = omega (arith, m, own, up) in f) [ ]
  | inr g ↦ elim (cases_lt o.at j) as (λ _. j ≡ o.at) [
    | inl l ↦ let m = o.deeper j l around.before in let outer = around.outer in elim (let f : ⊥ = omega (arith, m, outer, up) in f) [ ]
    | inr h ↦ omega (arith, g, h)
  ]
]

is_around : (scopes : List Scope) (i depth : ℕ) (z : Zone) (o : IsOpen scopes i depth z) → depth + 1 ≡ depth_at scopes i → IsAround scopes o.at i
is_around scopes i depth z o up = record {
  before = o.before;
  outer = (let own = o.own in omega (arith, own, up));
  last = λ k a b. (let deep = o.deeper k a b in omega (arith, deep, up));
}

alone : (P : Zone → Type 0) (z : Zone) → P z → All P (z ∷ [])
alone P z p zero d l = p
alone P z p (suc k) d l = elim (let f : ⊥ = omega (arith, l) in f) [ ]

-- zones inside the open one lie inside those of the scope around
lie_inside : (scopes : List Scope) (i : ℕ) (zones : List Zone) → AreOpen scopes i zones → MayBeSoDeep (length zones) (depth_at scopes i) → LieInOuter zones (depth_at scopes i) (zones_at scopes i) → (j : ℕ) → IsAround scopes j i → AreInside (zones_at scopes j) (zones_at scopes i)
lie_inside scopes i zones are may lie j around = λ k z l.
    let outer = around.outer in
    let most = may.0 in
    let deep : 0 < depth_at scopes i = omega (arith, outer) in
    let o = are.each (depth_at scopes i - 1) z (omega (arith, most, deep)) in
    let same = around_is scopes i j (depth_at scopes i - 1) (get_or zones (depth_at scopes i - 1) z) o (omega (arith, deep)) around in
    subst (All (λ y. IsInside y (get_or (zones_at scopes i) k z))) (sym (ap (zones_at scopes) same ∙ o.only))
    (alone (λ y. IsInside y (get_or (zones_at scopes i) k z)) (get_or zones (depth_at scopes i - 1) z) (lie deep z k z l))

inside_lie : (scopes : List Scope) (i : ℕ) (zones : List Zone) → AreOpen scopes i zones → MayBeSoDeep (length zones) (depth_at scopes i) → ((j : ℕ) → IsAround scopes j i → AreInside (zones_at scopes j) (zones_at scopes i)) → LieInOuter zones (depth_at scopes i) (zones_at scopes i)
inside_lie scopes i zones are may inside = λ deep d k e l.
    let most = may.0 in
    let o = are.each (depth_at scopes i - 1) d (omega (arith, most, deep)) in
    let around = is_around scopes i (depth_at scopes i - 1) (get_or zones (depth_at scopes i - 1) d) o (omega (arith, deep)) in
    subst (All (λ y. IsInside y (get_or (zones_at scopes i) k e))) o.only (inside o.at around k e l) zero d (omega arith)

-- a scope that fits those that are open nests
pub fits_nests : (scopes : List Scope) (i : ℕ) (zones : List Zone) (s : Scope) → i < length scopes → s ≡ get_or scopes i s → AreOpen scopes i zones → FitsOpen zones s → NestsAt scopes i
fits_nests scopes i zones s l e are fits =
    let depth = depth_of scopes i s (l, e) in
    let may = subst (MayBeSoDeep (length zones)) (sym depth) fits.0 in
    let lie = subst (λ n. LieInOuter zones n (zones_at scopes i)) (sym depth) (subst (LieInOuter zones s.depth) (sym (zones_of scopes i s (l, e))) fits.1.1) in
    record {
      depth = depth_fits scopes i (length zones) are.count may;
      zones = at_read scopes HasOneZone i s l e fits.1.0;
      inside = lie_inside scopes i zones are may lie;
    }

pub nests_fits : (scopes : List Scope) (i : ℕ) (zones : List Zone) (s : Scope) → i < length scopes → s ≡ get_or scopes i s → AreOpen scopes i zones → NestsAt scopes i → FitsOpen zones s
nests_fits scopes i zones s l e are nests =
    let depth = depth_of scopes i s (l, e) in
    let may = fits_depth scopes i (length zones) are.count nests.depth in
    let lie = inside_lie scopes i zones are may nests.inside in (
      subst (MayBeSoDeep (length zones)) depth may,
      (
        subst HasOneZone (sym e) (nests.zones s),
        subst (LieInOuter zones s.depth) (zones_of scopes i s (l, e)) (subst (λ n. LieInOuter zones n (zones_at scopes i)) depth lie),
      ),
    )

-- an open scope stays open where the next is deeper
still_open : (scopes : List Scope) (i depth : ℕ) (z : Zone) → depth < depth_at scopes i → IsOpen scopes i depth z → IsOpen scopes (suc i) depth z
still_open scopes i depth z h o = record {
  at = o.at;
  before = (let before = o.before in omega (arith, before));
  own = o.own;
  deeper = λ k a b. elim (cases_lt k i) as (λ _. depth < depth_at scopes k) [
    | inl l ↦ o.deeper k a l
    | inr g ↦ subst (λ n. depth < depth_at scopes n) (let e : i ≡ k = omega (arith, b, g) in e) h
  ];
  only = o.only;
}

-- what is open after a scope
opened : (scopes : List Scope) (i : ℕ) (zones : List Zone) (z : Zone) → AreOpen scopes i zones → depth_at scopes i ≤ length zones → zones_at scopes i ≡ z ∷ [] → AreOpen scopes (suc i) (take (depth_at scopes i) zones ++ z ∷ [])
opened scopes i zones z are most only = record { count = count; each = each }
  where
    kept : length (take (depth_at scopes i) zones) ≡ depth_at scopes i
    kept = grind (arith, common_steps, most)

    count : length (take (depth_at scopes i) zones ++ z ∷ []) ≡ depth_at scopes i + 1
    count = length-append (take (depth_at scopes i) zones) (z ∷ []) ∙ ap (λ n. n + 1) kept

    each : (depth : ℕ) (d : Zone) → depth < length (take (depth_at scopes i) zones ++ z ∷ []) → IsOpen scopes (suc i) depth (get_or (take (depth_at scopes i) zones ++ z ∷ []) depth d)
    each depth d l = elim (cases_lt depth (depth_at scopes i)) as (λ _. IsOpen scopes (suc i) depth (get_or (take (depth_at scopes i) zones ++ z ∷ []) depth d)) [
      | inl h ↦
          let e : get_or (take (depth_at scopes i) zones ++ z ∷ []) depth d ≡ get_or zones depth d =
          get_or_append_left (take (depth_at scopes i) zones) (z ∷ []) d depth (omega (arith, h, kept)) ∙ get_or-take (depth_at scopes i) zones depth d h in
          subst (IsOpen scopes (suc i) depth) (sym e) (still_open scopes i depth (get_or zones depth d) h (are.each depth d (omega (arith, h, most))))
      | inr h ↦
          let same : depth_at scopes i ≡ depth = omega (arith, l, count, h) in
          let e : get_or (take (depth_at scopes i) zones ++ z ∷ []) depth d ≡ z =
          get_or-append_right (take (depth_at scopes i) zones) (z ∷ []) depth depth d (kept ∙ same) (omega arith) ∙ ap (λ n. get_or (z ∷ []) n d) (let e : depth - depth ≡ 0 = omega arith in e) in
          subst (IsOpen scopes (suc i) depth) (sym e) (record {
            at = i;
            before = omega arith;
            own = same;
            deeper = λ k a b. elim (let f : ⊥ = omega (arith, a, b) in f) [ ];
            only = only;
          })
    ]

pub opens : (scopes : List Scope) (i : ℕ) (zones : List Zone) (s : Scope) → i < length scopes → s ≡ get_or scopes i s → AreOpen scopes i zones → FitsOpen zones s → AreOpen scopes (i + 1) (take s.depth zones ++ s.zones)
opens scopes i zones s l e are fits =
    let depth = depth_of scopes i s (l, e) in
    let own = fits.1.0 in
    let most = fits.0.0 in
    let after = opened scopes i zones own.zone are (omega (arith, depth, most)) (zones_of scopes i s (l, e) ∙ own.only) in
    subst (λ n. AreOpen scopes n (take s.depth zones ++ s.zones)) (sym (add-one i))
    (subst (λ zs. AreOpen scopes (suc i) (take s.depth zones ++ zs)) (sym own.only)
    (subst (λ n. AreOpen scopes (suc i) (take n zones ++ own.zone ∷ [])) depth after))

-- before the first scope none is open
pub none_open : (scopes : List Scope) → AreOpen scopes 0 []
none_open scopes = record { count = refl; each = λ depth d l. elim (let f : ⊥ = omega (arith, l) in f) [ ] }

-- scopes nest where there is one, and each nests
pub all_nest : (scopes : List Scope) → (scopes ≡ [] → ⊥) → ((i : ℕ) → i < length scopes → NestsAt scopes i) → AreNested scopes
all_nest scopes some each = record {
  body = some;
  depths = λ i l. (each i l).depth;
  zones = λ i d l. (each i l).zones d;
  inside = λ j i l around. (each i l).inside j around;
}

pub each_nests : (scopes : List Scope) → AreNested scopes → (i : ℕ) → i < length scopes → NestsAt scopes i
each_nests scopes are i l = record {
  depth = are.depths i l;
  zones = λ d. are.zones i d l;
  inside = λ j around. are.inside j i l around;
}

pub nested_decides : (scopes : List Scope) (empty : Bool) → empty ≡ (length scopes == 0) → ((i : ℕ) → i < length scopes → NestsAt scopes i) → Decides (not empty) (AreNested scopes)
nested_decides [] empty e each = ((λ t. let f : ⊥ = grind (arith, e, t) in elim f [ ]), λ are. elim (are.body refl) [ ])
nested_decides (s ∷ scopes) empty e each =
    ((λ t. all_nest (s ∷ scopes) (λ none. let f : length (s ∷ scopes) ≡ 0 = ap length none in let g : ⊥ = omega (arith, f) in elim g [ ]) each), λ are. let some : 0 < length (s ∷ scopes) = omega arith in grind (arith, common_steps, e, some))
