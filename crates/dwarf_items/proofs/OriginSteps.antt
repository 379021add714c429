-- The attributes of origins, and where they lead.
use Rattle.std.proofs.Common.{◌≡◌, ◌<◌, ◌≤◌, ℕ, zero, suc, ◌-◌, ◌==◌, nat_lt, ◌&&◌, Bool, true, false, cond, List, [], ◌∷◌, ◌++◌, flat_map, map, drop, length, get_or, ◌+◌, Option, Some, None, Result, refl, sym, ap, subst, ◌∙◌, arith, eqb-true, lt-ltb}
use Rattle.std.specs.Option.{option_map}
use Rattle.std.proofs.lemmas.List.Folds.{flat_map-map}
use Rattle.dwarf_entries.specs.AttributeItems.{around_items, name_items, own_item, firsts}
use Rattle.dwarf_entries.specs.Codes.{at_abstract_origin, at_name, at_type}
use Rattle.dwarf_entries.specs.Dies.{Die, Info}
use Rattle.dwarf_entries.specs.Items.{Item, Spot, first_fault}
use Rattle.dwarf_entries.specs.NameRoles.{Role}
use Rattle.dwarf_entries.specs.OriginItems.{Wants, any, both, may_step, origin_attribute, origin_items, origins_items, still}
use Rattle.dwarf_entries.specs.Origins.{origin_of}
use Rattle.dwarf_entries.specs.Shapes.{Attribute}
use Rattle.dwarf_entries.specs.declared.class.Class.{Class}
use Rattle.dwarf_units.specs.declared.attributes.EntryAttribute.{EntryAttribute}
use Rattle.dwarf_dies.specs.Attributes.{attribute_kept}
use Rattle.dwarf_dies.specs.Handles.{DieIn, beside}
use Rattle.layout_set.specs.declared.refusal.ReadErr.{ReadErr}
use Rattle.dwarf_items.specs.Answers.{Answers, IsFault}
use Rattle.dwarf_items.specs.Firsts.{code_limit, is_low, low_firsts}
use Rattle.dwarf_items.proofs.Faults.{all_done, at_more, at_stops, fault_first, fault_second, ok_first, sound_first}
use Rattle.dwarf_items.proofs.LowFirsts.{low_enough}

-- the items to which the abstract_origin of an origin leads
abbrev pub led_items : ℕ → Role → Wants → DieIn → List Item
led_items zero role w o = []
led_items (suc n) role w o = origin_items n o.info role (still o.die w) (origin_of o.info o.die)

-- the items of an attribute of an origin
abbrev pub items_of : ℕ → Role → Wants → DieIn → Attribute → List Item
items_of steps role w o a = origin_attribute o.info role w (may_step steps) (led_items steps role w o) o.die a

-- the first fault of some attributes of an origin
abbrev pub fault_from : ℕ → Role → Wants → DieIn → List EntryAttribute → Option (ℕ × Spot)
fault_from steps role w o l = first_fault (flat_map (λ (a : EntryAttribute). items_of steps role w o (attribute_kept a)) l)

pub whole_items : (steps : ℕ) (role : Role) (w : Wants) (o : DieIn) → origin_items steps o.info role w (Some o.die) ≡ flat_map (items_of steps role w o) (firsts o.die.entry) ++ around_items o.info o.die
whole_items zero role w o = refl
whole_items (suc n) role w o = refl

other_code : (c k : ℕ) → k < code_limit → nat_lt c code_limit ≡ false → (c == k) ≡ false
other_code c k below high = by_same (c == k) refl
  where
    by_same : (x : Bool) → (c == k) ≡ x → x ≡ false
    by_same false e = refl
    by_same true e =
        let same : c ≡ k = eqb-true c k e in
        let low : nat_lt k code_limit ≡ true = lt-ltb k code_limit below in
        let clash : ◌≡◌ {A = Bool} true false = sym low ∙ ap (λ n. nat_lt n code_limit) (sym same) ∙ high in
        absurd (cc)

-- an attribute with another code has none
no_items : (steps : ℕ) (role : Role) (w : Wants) (o : DieIn) (a : Attribute) → is_low a ≡ false → items_of steps role w o a ≡ []
no_items steps role w o a high =
    let n = other_code a.code at_name (omega arith) high in
    let t = other_code a.code at_type (omega arith) high in
    let g = other_code a.code at_abstract_origin (omega arith) high in
    rw (n, t, g) refl

-- the low ones are enough
pub low_items : (steps : ℕ) (role : Role) (w : Wants) (o : DieIn) (l : List EntryAttribute) → map attribute_kept l ≡ low_firsts o.die.entry
    → flat_map (λ (a : EntryAttribute). items_of steps role w o (attribute_kept a)) l ≡ flat_map (items_of steps role w o) (firsts o.die.entry)
low_items steps role w o l h =
    sym (flat_map-map (items_of steps role w o) attribute_kept l) ∙ ap (flat_map (items_of steps role w o)) h
    ∙ low_enough (items_of steps role w o) (no_items steps role w o) (firsts o.die.entry)

-- an abstract_origin from which a step is taken
pub led_on : (steps : ℕ) (role : Role) (w : Wants) (o : DieIn) (a : Attribute) → (a.code == at_abstract_origin && (may_step steps && any (still o.die w))) ≡ true
    → items_of steps role w o a ≡ own_item o.info o.die a Class.Link ∷ led_items steps role w o
led_on steps role w o a h = by_code (a.code == at_abstract_origin) refl (may_step steps && any (still o.die w)) refl h
  where
    by_code : (x : Bool) → (a.code == at_abstract_origin) ≡ x → (y : Bool) → (may_step steps && any (still o.die w)) ≡ y → (x && y) ≡ true → items_of steps role w o a ≡ own_item o.info o.die a Class.Link ∷ led_items steps role w o
    by_code false e y f g = absurd (cc)
    by_code true e false f g = absurd (cc)
    by_code true e true f g =
        let same : a.code ≡ at_abstract_origin = eqb-true a.code at_abstract_origin e in
        let n : (a.code == at_name) ≡ false = ap (λ k. k == at_name) same in
        let t : (a.code == at_type) ≡ false = ap (λ k. k == at_type) same in
        rw (n, t, e, f) refl

-- another attribute is what it is where no step is taken
pub not_led : (steps : ℕ) (role : Role) (w : Wants) (o : DieIn) (a : Attribute) → (a.code == at_abstract_origin && (may_step steps && any (still o.die w))) ≡ false
    → items_of steps role w o a ≡ origin_attribute o.info role w false [] o.die a
not_led steps role w o a h = by_name (a.code == at_name && w.wants_name) (a.code == at_type && w.wants_type) (a.code == at_abstract_origin) (may_step steps && any (still o.die w)) h
  where
    by_name : (n t x y : Bool) → (x && y) ≡ false
        → cond n (name_items o.info o.die a role) (cond t (own_item o.info o.die a Class.Link ∷ []) (cond (x && y) (own_item o.info o.die a Class.Link ∷ led_items steps role w o) []))
        ≡ cond n (name_items o.info o.die a role) (cond t (own_item o.info o.die a Class.Link ∷ []) (cond (x && false) (own_item o.info o.die a Class.Link ∷ []) []))
    by_name true t x y g = refl
    by_name false true x y g = refl
    by_name false false false y g = refl
    by_name false false true false g = refl
    by_name false false true true g = absurd (cc)

-- where a step leads
pub led_to : (steps : ℕ) (role : Role) (w : Wants) (o next : DieIn) → 0 < steps → Some next ≡ option_map (beside o) (origin_of o.info o.die)
    → led_items steps role w o ≡ origin_items (steps - 1) next.info role (still o.die w) (Some next.die)
led_to zero role w o next h g = absurd (omega (arith, h))
led_to (suc n) role w o next h g =
    let less : n ≡ suc n - 1 = omega arith in
    by_origin (origin_of o.info o.die) g ∙ ap (λ k. origin_items k next.info role (still o.die w) (Some next.die)) less
  where
    by_origin : (x : Option Die) → Some next ≡ option_map (beside o) x → origin_items n o.info role (still o.die w) x ≡ origin_items n next.info role (still o.die w) (Some next.die)
    by_origin None e = absurd (cc)
    by_origin (Some d) e = let same : beside o d ≡ next = cc in ap (λ (y : DieIn). origin_items n y.info role (still o.die w) (Some y.die)) same

no_origin : (n : ℕ) (info : Info) (role : Role) (w : Wants) → origin_items n info role w None ≡ []
no_origin zero info role w = refl
no_origin (suc n) info role w = refl

pub led_nowhere : (steps : ℕ) (role : Role) (w : Wants) (o : DieIn) → None ≡ option_map (beside o) (origin_of o.info o.die) → led_items steps role w o ≡ []
led_nowhere zero role w o g = refl
led_nowhere (suc n) role w o g = by_origin (origin_of o.info o.die) g
  where
    by_origin : (x : Option Die) → ◌≡◌ {A = Option DieIn} None (option_map (beside o) x) → origin_items n o.info role (still o.die w) x ≡ []
    by_origin None e = no_origin n o.info role (still o.die w)
    by_origin (Some d) e = absurd (cc)

pub step_left : (steps : ℕ) (x y : Bool) → (x && (may_step steps && y)) ≡ true → 0 < steps
step_left zero false y h = absurd (cc)
step_left zero true y h = absurd (cc)
step_left (suc n) x y h = omega arith

-- the test of a step, where this is still lacking
pub leads_is : (steps code : ℕ) (b : Bool) (l w : Wants) → b ≡ (code == at_abstract_origin && (may_step steps && any l)) → l ≡ w → (code == at_abstract_origin && (may_step steps && any w)) ≡ b
leads_is steps code b l w h is = sym (h ∙ ap (λ (v : Wants). code == at_abstract_origin && (may_step steps && any v)) is)

module _ (steps : ℕ) (role : Role) (w : Wants) (o : DieIn) (items : List EntryAttribute) (i : ℕ) where
  abbrev leads : EntryAttribute → Bool
  leads a = a.attr == at_abstract_origin && (may_step steps && any (still o.die w))

  abbrev each : EntryAttribute → List Item
  each a = items_of steps role w o (attribute_kept a)

  -- a fault of an attribute that is left is that of the origin
  pub origin_stops : (e : ReadErr) → map attribute_kept items ≡ low_firsts o.die.entry → fault_from steps role w o items ≡ fault_from steps role w o (drop i items) → IsFault (fault_from steps role w o (drop i items)) e
      → IsFault (first_fault (origin_items steps o.info role w (Some o.die))) e
  origin_stops e are same h =
      let low : fault_from steps role w o items ≡ first_fault (flat_map (items_of steps role w o) (firsts o.die.entry)) = ap first_fault (low_items steps role w o items are) in
      subst (λ (x : List Item). IsFault (first_fault x) e) (sym (whole_items steps role w o))
      (fault_first (flat_map (items_of steps role w o) (firsts o.die.entry)) (around_items o.info o.die) e (subst (λ (x : Option (ℕ × Spot)). IsFault x e) (sym same ∙ low) h))

  -- no attribute breaks a rule
  pub origin_done : (r : Result (Unit {0}) ReadErr) → map attribute_kept items ≡ low_firsts o.die.entry → fault_from steps role w o items ≡ fault_from steps role w o (drop i items) → length items ≤ i → Answers (first_fault (around_items o.info o.die)) r
      → Answers (first_fault (origin_items steps o.info role w (Some o.die))) r
  origin_done r are same h g =
      let none : first_fault (flat_map (items_of steps role w o) (firsts o.die.entry)) ≡ None = sym (ap first_fault (low_items steps role w o items are)) ∙ same ∙ all_done each items i h in
      ok_first _ (flat_map (items_of steps role w o) (firsts o.die.entry)) (around_items o.info o.die) r (whole_items steps role w o) none g

  -- an attribute of an origin from which no step is taken
  pub last_stops : (d : EntryAttribute) (e : ReadErr) → i < length items → leads (get_or items i d) ≡ false → IsFault (first_fault (origin_attribute o.info role w false [] o.die (attribute_kept (get_or items i d)))) e → IsFault (fault_from steps role w o (drop i items)) e
  last_stops d e h f g =
      at_stops each items i d e h (subst (λ (x : List Item). IsFault (first_fault x) e) (sym (not_led steps role w o (attribute_kept (get_or items i d)) f)) g)

  pub last_more : (d : EntryAttribute) → i < length items → leads (get_or items i d) ≡ false → first_fault (origin_attribute o.info role w false [] o.die (attribute_kept (get_or items i d))) ≡ None
      → fault_from steps role w o (drop i items) ≡ fault_from steps role w o (drop (i + 1) items)
  last_more d h f g = at_more each items i d h (ap first_fault (not_led steps role w o (attribute_kept (get_or items i d)) f) ∙ g)

  -- an abstract_origin
  pub own_stops : (d : EntryAttribute) (e : ReadErr) → i < length items → leads (get_or items i d) ≡ true → IsFault (first_fault (own_item o.info o.die (attribute_kept (get_or items i d)) Class.Link ∷ [])) e → IsFault (fault_from steps role w o (drop i items)) e
  own_stops d e h f g =
      at_stops each items i d e h
      (subst (λ (x : List Item). IsFault (first_fault x) e) (sym (led_on steps role w o (attribute_kept (get_or items i d)) f))
      (fault_first (own_item o.info o.die (attribute_kept (get_or items i d)) Class.Link ∷ []) (led_items steps role w o) e g))

  -- where it leads
  led_is : (next : DieIn) (l : Wants) → 0 < steps → Some next ≡ option_map (beside o) (origin_of o.info o.die) → l ≡ still o.die w → led_items steps role w o ≡ origin_items (steps - 1) next.info role l (Some next.die)
  led_is next l h g is = led_to steps role w o next h g ∙ ap (λ (v : Wants). origin_items (steps - 1) next.info role v (Some next.die)) (sym is)

  pub led_stops : (d : EntryAttribute) (e : ReadErr) (next : DieIn) (l : Wants) → i < length items → leads (get_or items i d) ≡ true → first_fault (own_item o.info o.die (attribute_kept (get_or items i d)) Class.Link ∷ []) ≡ None
      → Some next ≡ option_map (beside o) (origin_of o.info o.die) → l ≡ still o.die w → IsFault (first_fault (origin_items (steps - 1) next.info role l (Some next.die))) e → IsFault (fault_from steps role w o (drop i items)) e
  led_stops d e next l h f none g is bad =
      let left = step_left steps ((get_or items i d).attr == at_abstract_origin) (any (still o.die w)) f in
      let own : List Item = own_item o.info o.die (attribute_kept (get_or items i d)) Class.Link ∷ [] in
      at_stops each items i d e h
      (subst (λ (x : List Item). IsFault (first_fault x) e) (sym (led_on steps role w o (attribute_kept (get_or items i d)) f))
      (fault_second own (led_items steps role w o) e none (subst (λ (x : List Item). IsFault (first_fault x) e) (sym (led_is next l left g is)) bad)))

  pub led_more : (d : EntryAttribute) (next : DieIn) (l : Wants) → i < length items → leads (get_or items i d) ≡ true → first_fault (own_item o.info o.die (attribute_kept (get_or items i d)) Class.Link ∷ []) ≡ None
      → Some next ≡ option_map (beside o) (origin_of o.info o.die) → l ≡ still o.die w → first_fault (origin_items (steps - 1) next.info role l (Some next.die)) ≡ None
      → fault_from steps role w o (drop i items) ≡ fault_from steps role w o (drop (i + 1) items)
  led_more d next l h f none g is good =
      let left = step_left steps ((get_or items i d).attr == at_abstract_origin) (any (still o.die w)) f in
      let own : List Item = own_item o.info o.die (attribute_kept (get_or items i d)) Class.Link ∷ [] in
      at_more each items i d h (ap first_fault (led_on steps role w o (attribute_kept (get_or items i d)) f) ∙ sound_first own (led_items steps role w o) none ∙ ap first_fault (led_is next l left g is) ∙ good)

  pub end_more : (d : EntryAttribute) → i < length items → leads (get_or items i d) ≡ true → first_fault (own_item o.info o.die (attribute_kept (get_or items i d)) Class.Link ∷ []) ≡ None
      → None ≡ option_map (beside o) (origin_of o.info o.die) → fault_from steps role w o (drop i items) ≡ fault_from steps role w o (drop (i + 1) items)
  end_more d h f none g =
      let own : List Item = own_item o.info o.die (attribute_kept (get_or items i d)) Class.Link ∷ [] in
      at_more each items i d h (ap first_fault (led_on steps role w o (attribute_kept (get_or items i d)) f) ∙ sound_first own (led_items steps role w o) none ∙ ap first_fault (led_nowhere steps role w o g))

-- the first origin of a variable that lacks something
pub origins_led : (role : Role) (a origin : DieIn) (l : Wants) (r : Result (Unit {0}) ReadErr) → any l ≡ true → l ≡ still a.die both → Some origin ≡ option_map (beside a) (origin_of a.info a.die)
    → Answers (first_fault (origin_items 7 origin.info role l (Some origin.die))) r → Answers (first_fault (origins_items a.info role a.die)) r
origins_led role a origin l r lacking is g h =
    let lacks : any (still a.die both) ≡ true = ap any (sym is) ∙ lacking in
    let same : origins_items a.info role a.die ≡ origin_items 7 origin.info role l (Some origin.die) =
    ap (λ b. cond b (origin_items 7 a.info role (still a.die both) (origin_of a.info a.die)) []) lacks
    ∙ ap (λ (v : Wants). origin_items 7 a.info role v (origin_of a.info a.die)) (sym is) ∙ by_origin (origin_of a.info a.die) g
    in
    subst (λ (x : List Item). Answers (first_fault x) r) (sym same) h
  where
    by_origin : (x : Option Die) → Some origin ≡ option_map (beside a) x → origin_items 7 a.info role l x ≡ origin_items 7 origin.info role l (Some origin.die)
    by_origin None e = absurd (cc)
    by_origin (Some d) e = let same : beside a d ≡ origin = cc in ap (λ (y : DieIn). origin_items 7 y.info role l (Some y.die)) same
