-- Lengths along links are those of derived names, in either spelling.
use Rattle.std.proofs.Common.{Option, Some, None, option_map, ◌≡◌, ℕ, zero, suc, ◌+◌, ◌<◌, ◌≤◌, ◌⊎◌, inl, inr, min, List, [], ◌∷◌, length, map, get_or, slice_get, refl, sym, ap, subst, ◌∙◌, arith}
use Rattle.std.proofs.lemmas.Grind.{common_steps}
use Rattle.std.proofs.lemmas.List.{length-map}
use Rattle.std.proofs.lemmas.Option.{slice_get-map, slice_get-get_or, slice_get_within}
use Rattle.names.specs.declared.name.Name.{Name}
use Rattle.layout_set.specs.declared.set.TypeRef.{TypeRef}
use Rattle.layout_set.specs.declared.set.TypeRef.TheVariants.{Prim, User}
use Rattle.layout_set.specs.declared.set.TypeDef.{TypeDef}
use Rattle.layout_set.specs.declared.set.TypeDef.TheVariants.{Struct, Array, Thin, Slice, Str, Dyn, FnPtr, CLike, Enum, Bytes}
use Rattle.layout_name_laws.specs.declared.name_lengths.NameLength.{NameLength}
use Rattle.layout_set.specs.DerivedNames.{Link, link, own_name, prim_name, Derived, Ends, of_prim, of_type, of_link}
use Rattle.layout_name_laws.specs.NameLengths.{ended, over, join, doubled_on, doubled, after_rounds, unended, unended_to, total, IsSettled}

-- the types of a set, and a spelling of names
pub record Spelled : Type 0 where
  pub types : List TypeDef
  pub text : Name → List ℕ

-- The name of i is the name of j with n more bytes, at least one.
pub record Leads (s : Spelled) (i j n : ℕ) : Type 0 where
  pub some : 0 < n
  pub up : (t : Name) → Derived s.types (User j) t → (u : Name) × (Derived s.types (User i) u × (length (s.text u) ≡ n + length (s.text t)))
  pub down : (u : Name) → Derived s.types (User i) u → (t : Name) × (Derived s.types (User j) t × (length (s.text u) ≡ n + length (s.text t)))

-- what an entry of the table says of the type at i
abbrev pub RightTo : Spelled → ℕ → ℕ → Option ℕ → Type 0
RightTo s i len None = Ends s.types i × ((t : Name) → Derived s.types (User i) t → len ≡ min 1001 (length (s.text t)))
RightTo s i len (Some j) = (n : ℕ) × (Leads s i j n × (len ≡ min 1001 n))

abbrev pub Right : Spelled → ℕ → NameLength → Type 0
Right s i e = RightTo s i e.len e.to

abbrev pub AreRight : Spelled → List NameLength → Type 0
AreRight s table = (i : ℕ) (e : NameLength) → slice_get table i ≡ Some e → Right s i e

leads_on : (s : Spelled) (i j k n m : ℕ) → Leads s i j n → Leads s j k m → Leads s i k (n + m)
leads_on s i j k n m a b = record {
  some = let x = a.some in omega (arith, x);
  up = λ t d. let y = b.up t d in let x = a.up y.0 y.1.0 in let p = x.1.1 in let q = y.1.1 in (x.0, (x.1.0, omega (arith, p, q)));
  down = λ u d. let x = a.down u d in let y = b.down x.0 x.1.0 in let p = x.1.1 in let q = y.1.1 in (y.0, (y.1.0, omega (arith, p, q)));
}

joined : (s : Spelled) (i j len m : ℕ) (to : Option ℕ) → RightTo s i len (Some j) → RightTo s j m to → RightTo s i (min 1001 (len + m)) to
joined s i j len m None a b =
    let l = a.1.0 in
    let e = a.1.1 in
    let up = l.up b.0.0 b.0.1 in
    ((up.0, up.1.0), λ u d. let x = l.down u d in let p = x.1.1 in let q = b.1 x.0 x.1.0 in omega (arith, e, p, q))
joined s i j len m (Some k) a b =
    let e = a.1.1 in let f = b.1.1 in
    (a.0 + b.0, (leads_on s i j k a.0 b.0 a.1.0 b.1.0, omega (arith, e, f)))

abbrev pub value_or : {A : Type 0} → A → Option A → A
value_or d None = d
value_or d (Some x) = x

pub some_same : {A : Type 0} (a b : A) → Some a ≡ Some b → a ≡ b
some_same a b e = ap (value_or a) e

pub clash : {A B : Type 0} (a : A) → None ≡ Some a → B
clash a e = elim (let f : ⊥ = grind (arith, e) in f) [ ]

-- the constructors, by what the name is of
pub record Names (types : List TypeDef) (i : ℕ) (u : Name) : Type 0 where
  pub t : TypeDef
  pub at : slice_get types i ≡ Some t
  pub is : own_name t ≡ Some u

pub record Links (types : List TypeDef) (i : ℕ) (u : Name) : Type 0 where
  pub t : TypeDef
  pub l : Link
  pub name : Name
  pub at : slice_get types i ≡ Some t
  pub is : link t ≡ Some l
  pub inner : Derived types l.to name
  pub whole : u ≡ l.over name

abbrev pub Shape : List TypeDef → TypeRef → Name → Type 0
Shape types (Prim prim) u = u ≡ prim_name prim
Shape types (User i) u = Names types i u ⊎ Links types i u

pub shape : (types : List TypeDef) (ty : TypeRef) (u : Name) → Derived types ty u → Shape types ty u
shape types _ _ (of_prim prim) = refl
shape types _ _ (of_type i t name at is) = inl (record { t = t; at = at; is = is })
shape types _ _ (of_link i t l name at is inner) = inr (record { t = t; l = l; name = name; at = at; is = is; inner = inner; whole = refl })

never_both : (t : TypeDef) (l : Link) (n : Name) → link t ≡ Some l → own_name t ≡ Some n → ⊥
never_both (Array elem count) l n a b = clash n b
never_both (Thin kind to) l n a b = clash n b
never_both (Struct name size align params fields) l n a b = clash l a
never_both (Slice name kind ptr) l n a b = clash l a
never_both (Str name kind ptr) l n a b = clash l a
never_both (Dyn name kind ptr vtable) l n a b = clash l a
never_both FnPtr l n a b = clash l a
never_both (CLike name tag cases) l n a b = clash l a
never_both (Enum name size align params tag variants) l n a b = clash l a
never_both (Bytes name size align) l n a b = clash l a

pub name_only : (types : List TypeDef) (i : ℕ) (t : TypeDef) (name u : Name) → slice_get types i ≡ Some t → own_name t ≡ Some name → Derived types (User i) u → u ≡ name
name_only types i t name u at is d = elim (shape types (User i) u d) as (λ _. u ≡ name) [
  | inl n ↦ let e : n.t ≡ t = some_same n.t t (sym n.at ∙ at) in some_same u name (sym n.is ∙ ap own_name e ∙ is)
  | inr l ↦ elim (let e : l.t ≡ t = some_same l.t t (sym l.at ∙ at) in never_both t l.l name (ap link (sym e) ∙ l.is) is) [ ]
]

pub link_only : (types : List TypeDef) (i : ℕ) (t : TypeDef) (l : Link) (u : Name) → slice_get types i ≡ Some t → link t ≡ Some l → Derived types (User i) u → (name : Name) × (Derived types l.to name × (u ≡ l.over name))
link_only types i t l u at is d = elim (shape types (User i) u d) as (λ _. (name : Name) × (Derived types l.to name × (u ≡ l.over name))) [
  | inl n ↦ elim (let e : n.t ≡ t = some_same n.t t (sym n.at ∙ at) in never_both t l u is (ap own_name (sym e) ∙ n.is)) [ ]
  | inr k ↦
      let e : k.t ≡ t = some_same k.t t (sym k.at ∙ at) in
      let f : k.l ≡ l = some_same k.l l (sym k.is ∙ ap link e ∙ is) in
      (k.name, (subst (λ x. Derived types x.to k.name) f k.inner, k.whole ∙ ap (λ x. x.over k.name) f))
]

-- the first length along a link that adds so many bytes is right
pub over_right : (s : Spelled) (i : ℕ) (t : TypeDef) (l : Link) → slice_get s.types i ≡ Some t → link t ≡ Some l → (to : TypeRef) → l.to ≡ to → (more : ℕ) → 0 < more → ((n : Name) → Derived s.types to n → length (s.text (l.over n)) ≡ more + length (s.text n)) → Right s i (over s.text to more)
over_right s i t l at is (Prim prim) go more p adds =
    let n = prim_name prim in
    let d : Derived s.types l.to n = subst (λ r. Derived s.types r n) (sym go) (of_prim prim) in (
      (l.over n, of_link i t l n at is d),
      λ u w.
          let x = link_only s.types i t l u at is w in
          let d : Derived s.types (Prim prim) x.0 = subst (λ r. Derived s.types r x.0) go x.1.0 in
          let e : x.0 ≡ n = shape s.types (Prim prim) x.0 d in
          let len : length (s.text u) ≡ more + length (s.text n) = ap (λ y. length (s.text y)) (x.1.1 ∙ ap l.over e) ∙ adds n (of_prim prim) in
          ap (min 1001) (sym len),
    )
over_right s i t l at is (User j) go more p adds = (
  more,
  (
    record {
      some = p;
      up = λ w d. (l.over w, (of_link i t l w at is (subst (λ r. Derived s.types r w) (sym go) d), adds w d));
      down = λ u d.
          let x = link_only s.types i t l u at is d in
          let e : Derived s.types (User j) x.0 = subst (λ r. Derived s.types r x.0) go x.1.0 in
          (x.0, (e, ap (λ y. length (s.text y)) x.1.1 ∙ adds x.0 e));
    },
    (let e : min 1001 (more + 0) ≡ min 1001 more = omega arith in e),
  ),
)

-- a name of a type's own is right
pub ended_right : (s : Spelled) (i : ℕ) (t : TypeDef) (name : Name) → slice_get s.types i ≡ Some t → own_name t ≡ Some name → Right s i (ended (s.text name))
ended_right s i t name at is = ((name, of_type i t name at is), λ u d. ap (λ x. min 1001 (length (s.text x))) (sym (name_only s.types i t name u at is d)))

-- a length carried on is right too
leap_on_right : (s : Spelled) (table : List NameLength) (i : ℕ) (e : NameLength) → AreRight s table → (o : Option ℕ) → e.to ≡ o → Right s i e → Right s i (doubled_on table e o)
leap_on_right s table i e all None w r = r
leap_on_right s table i e all (Some j) w r = by_get (slice_get table j) refl
  where
    by_get : (g : Option NameLength) → slice_get table j ≡ g → Right s i (join e g)
    by_get None q = r
    by_get (Some f) q = joined s i j e.len f.len f.to (subst (RightTo s i e.len) w r) (all j f q)

leap_right : (s : Spelled) (table : List NameLength) → AreRight s table → AreRight s (map (doubled table) table)
leap_right s table all i g w = by_get (slice_get table i) refl (sym (slice_get-map (doubled table) table i) ∙ w)
  where
    by_get : (o : Option NameLength) → slice_get table i ≡ o → option_map (doubled table) o ≡ Some g → Right s i g
    by_get None q w = clash g w
    by_get (Some e) q w = subst (Right s i) (some_same (doubled table e) g w) (leap_on_right s table i e all e.to refl (all i e q))

-- a table whose entries are right one by one
pub firsts_right : (s : Spelled) (first : TypeDef → NameLength) → ((i : ℕ) (t : TypeDef) → slice_get s.types i ≡ Some t → Right s i (first t)) → AreRight s (map first s.types)
firsts_right s first each i g w = by_get (slice_get s.types i) refl (sym (slice_get-map first s.types i) ∙ w)
  where
    by_get : (o : Option TypeDef) → slice_get s.types i ≡ o → option_map first o ≡ Some g → Right s i g
    by_get None q w = clash g w
    by_get (Some t) q w = subst (Right s i) (some_same (first t) g w) (each i t q)

-- Each link leads to a length that has not ended.
abbrev pub IsOpen : List NameLength → Type 0
IsOpen table = (i j : ℕ) (e f : NameLength) → slice_get table i ≡ Some e → e.to ≡ Some j → slice_get table j ≡ Some f → f.to ≡ None → ⊥

is_there : (types : List TypeDef) (i : ℕ) (u : Name) → Derived types (User i) u → i < length types
is_there types i u d = elim (shape types (User i) u d) as (λ _. i < length types) [
  | inl n ↦ slice_get_within types i n.t n.at
  | inr l ↦ slice_get_within types i l.t l.at
]

-- Then no name ends that has not.
endless : (s : Spelled) (table : List NameLength) → AreRight s table → length table ≡ length s.types → IsOpen table → (n i j : ℕ) (e : NameLength) (u : Name) → slice_get table i ≡ Some e → e.to ≡ Some j → Derived s.types (User i) u → length (s.text u) < n → ⊥
endless s table all len go zero i j e u at to d le = omega (arith, le)
endless s table all len go (suc n) i j e u at to d le =
    let r : RightTo s i e.len (Some j) = subst (RightTo s i e.len) to (all i e at) in
    let x = r.1.0.down u d in
    let more = r.1.0.some in
    let shorter = x.1.1 in
    let f = get_or table j e in
    let q : slice_get table j ≡ Some f = slice_get-get_or table j e (let z : j < length table = subst (λ m. j < m) (sym len) (is_there s.types j x.0 x.1.0) in z) in
    by_to f q f.to refl (λ k w. endless s table all len go n j k f x.0 q w x.1.0 (let z : length (s.text x.0) < n = omega (arith, le, more, shorter) in z))
  where
    by_to : (f : NameLength) → slice_get table j ≡ Some f → (o : Option ℕ) → f.to ≡ o → ((k : ℕ) → f.to ≡ Some k → ⊥) → ⊥
    by_to f q None w next = go i j e f at to q w
    by_to f q (Some k) w next = next k w

total_le : {X : Type 0} (f g : X → ℕ) (xs : List X) → ((x : X) → f x ≤ g x) → total f xs ≤ total g xs
total_le f g [] less = omega arith
total_le f g (x ∷ xs) less = let a = less x in let b = total_le f g xs less in omega (arith, a, b)

each_equal : {X : Type 0} (f g : X → ℕ) (xs : List X) → ((x : X) → f x ≤ g x) → total g xs ≤ total f xs → (i : ℕ) (x : X) → slice_get xs i ≡ Some x → f x ≡ g x
each_equal f g [] less all i x w = elim (let z : ⊥ = grind (arith, common_steps, w) in z) [ ]
each_equal f g (y ∷ ys) less all zero x w =
    let a = less y in let b = total_le f g ys less in
    let e : f y ≡ g y = omega (arith, a, b, all) in subst (λ z. f z ≡ g z) (some_same y x w) e
each_equal f g (y ∷ ys) less all (suc i) x w =
    let a = less y in each_equal f g ys less (omega (arith, a, all)) i x w

total_map : {X Y : Type 0} (f : Y → ℕ) (g : X → Y) (xs : List X) → total f (map g xs) ≡ total (λ x. f (g x)) xs
total_map f g [] = refl
total_map f g (x ∷ xs) = ap (λ n. f (g x) + n) (total_map f g xs)

at_most_one : (o : Option ℕ) → unended_to o ≤ 1
at_most_one None = omega arith
at_most_one (Some j) = omega arith

less_open : (table : List NameLength) (e : NameLength) → unended (doubled table e) ≤ unended e
less_open table e = by_to e.to refl
  where
    by_to : (o : Option ℕ) → e.to ≡ o → unended (doubled_on table e o) ≤ unended_to o
    by_to None w = subst (λ o. unended_to e.to ≤ unended_to o) w (omega arith)
    by_to (Some j) w = at_most_one (doubled_on table e (Some j)).to

pub stays_open : (table : List NameLength) → total unended table ≤ total unended (map (doubled table) table) → IsOpen table
stays_open table h i j e f at to go ends =
    let same : unended (doubled table e) ≡ unended e = each_equal (λ x. unended (doubled table x)) unended table (less_open table) (subst (λ n. total unended table ≤ n) (total_map unended (doubled table) table) h) i e at in
    let left : unended (doubled table e) ≡ 0 = ap unended (ap (doubled_on table e) to ∙ ap (join e) go) ∙ ap unended_to ends in
    let right : unended e ≡ 1 = ap unended_to to in
    omega (arith, same, left, right)

-- What the table says when its links lead to none that ends.
pub record IsTable (s : Spelled) (table : List NameLength) : Type 0 where
  pub right : AreRight s table
  pub long : length table ≡ length s.types

pub leaps_table : (s : Spelled) (k : ℕ) (table : List NameLength) → IsTable s table → IsTable s (after_rounds k table)
unfolding after_rounds
leaps_table s zero table is = is
leaps_table s (suc k) table is =
    let r = leaps_table s k table is in
    record { right = leap_right s (after_rounds k table) r.right; long = length-map (after_rounds k table) (doubled (after_rounds k table)) ∙ r.long }

-- an entry of the last table: the name ends with this length, or never
abbrev pub EndsBy : Spelled → ℕ → ℕ → Option ℕ → Type 0
EndsBy s i len None = Ends s.types i × ((t : Name) → Derived s.types (User i) t → len ≡ min 1001 (length (s.text t)))
EndsBy s i len (Some j) = Ends s.types i → ⊥

-- what the last table tells of each name
pub last_tells : (s : Spelled) (first table : List NameLength) → IsTable s first → IsSettled first table → (i : ℕ) (d : NameLength) → i < length s.types → EndsBy s i (get_or table i d).len (get_or table i d).to
last_tells s first table is settled i d h =
    let t : IsTable s table = subst (IsTable s) (sym settled.is) (leaps_table s settled.rounds first is) in
    let e = get_or table i d in
    let at : slice_get table i ≡ Some e = slice_get-get_or table i d (subst (λ n. i < n) (sym t.long) h) in
    by_to t e at e.to refl
  where
    by_to : IsTable s table → (e : NameLength) → slice_get table i ≡ Some e → (o : Option ℕ) → e.to ≡ o → EndsBy s i e.len o
    by_to t e at None w = subst (RightTo s i e.len) w (t.right i e at)
    by_to t e at (Some j) w = λ ends. endless s table t.right t.long (stays_open table settled.still) (suc (length (s.text ends.0))) i j e ends.0 at w ends.1 (omega arith)
