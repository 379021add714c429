-- Entries among all entries.
use Rattle.std.proofs.Common.{◌≡◌, ◌<◌, ◌≤◌, ◌==◌, ℕ, zero, suc, ◌+◌, List, [], ◌∷◌, length, map, slice_get, filter, find, cond, drop, unwrap_or, Bool, true, false, Option, Some, None, option_and_then, refl, sym, ap, subst, ◌∙◌, arith}
use Rattle.std.specs.Option.{option_map}
use Rattle.dwarf_entries.specs.Dies.{Die, Info, children_of, die_at, is_owned_by, linked, target_of}
use Rattle.dwarf_entries.specs.Lookups.{value_of}
use Rattle.dwarf_dies.specs.Children.{numbers_of_children}
use Rattle.dwarf_dies.specs.Handles.{AreThere, DieIn, IsThere, among, die_in, no_die}
use Rattle.dwarf_dies.specs.Laws.{AreLinked}
use Rattle.dwarf_dies.specs.Views.{die_of, number_of_die}

some_at : (other : Die) (l : List Die) (n : ℕ) → n < length l → slice_get l n ≡ Some (unwrap_or (slice_get l n) other)
some_at other [] n h = absurd (omega (arith, h))
some_at other (d ∷ l) zero h = refl
some_at other (d ∷ l) (suc n) h = some_at other l n (omega (arith, h))

inside_at : (l : List Die) (n : ℕ) (d : Die) → slice_get l n ≡ Some d → n < length l
inside_at [] n d h = absurd (cc)
inside_at (e ∷ l) zero d h = omega arith
inside_at (e ∷ l) (suc n) d h = let r = inside_at l n d h in omega (arith, r)

-- an entry that is there is the one with its number
pub there : (info : Info) (n : ℕ) → IsThere info n → die_of info n ≡ Some (die_in info n).die
there info n h = some_at no_die info.dies n h.inside

-- it is the entry with its number
pub is_among : (info : Info) (n : ℕ) (d : Die) → die_of info n ≡ Some d → die_in info n ≡ among info d
is_among info n d h = ap (λ (o : Option Die). among info (unwrap_or o no_die)) h

-- each of these entries is found under its number
abbrev pub AreFound : Info → List Die → Type 0
AreFound info l = (k : ℕ) (d : Die) → slice_get l k ≡ Some d → die_of info d.entry.number ≡ Some d

pub all_found : (info : Info) → AreLinked info → AreFound info info.dies
all_found info laws k d h = ap (die_of info) (laws.numbers k d h) ∙ h

one_more : (info : Info) (b : Bool) (d : Die) (l : List Die) → die_of info d.entry.number ≡ Some d → AreFound info l → AreFound info (cond b (d ∷ l) l)
one_more info false d l h rest = rest
one_more info true d l h rest = with_first
  where
    with_first : (k : ℕ) (e : Die) → slice_get (d ∷ l) k ≡ Some e → die_of info e.entry.number ≡ Some e
    with_first zero e g = let same : d ≡ e = cc in subst (λ (x : Die). die_of info x.entry.number ≡ Some x) same h
    with_first (suc k) e g = rest k e g

pub filtered : (info : Info) (test : Die → Bool) (l : List Die) → AreFound info l → AreFound info (filter test l)
filtered info test [] all = all
filtered info test (d ∷ l) all = one_more info (test d) d (filter test l) (all 0 d refl) (filtered info test l (λ k e h. all (suc k) e h))

-- entries by their numbers are those entries
pub same_list : (info : Info) (l : List Die) → AreFound info l → map (die_in info) (map number_of_die l) ≡ map (among info) l
same_list info [] all = refl
same_list info (d ∷ l) all =
    ap (λ (x : DieIn). x ∷ map (die_in info) (map number_of_die l)) (is_among info d.entry.number d (all 0 d refl))
    ∙ ap (λ (x : List DieIn). among info d ∷ x) (same_list info l (λ k e h. all (suc k) e h))

inside_all : (info : Info) (l : List Die) → AreFound info l → (k n : ℕ) → slice_get (map number_of_die l) k ≡ Some n → n < length info.dies
inside_all info [] all k n h = absurd (cc)
inside_all info (d ∷ l) all zero n h =
    let same : d.entry.number ≡ n = cc in
    subst (λ i. i < length info.dies) same (inside_at info.dies d.entry.number d (all 0 d refl))
inside_all info (d ∷ l) all (suc k) n h = inside_all info l (λ i e g. all (suc i) e g) k n h

children_found : (info : Info) → AreLinked info → (d : Die) → AreFound info (children_of info d)
children_found info laws d = filtered info (λ c. is_owned_by d.entry.offset c.owners) info.dies (all_found info laws)

-- the numbers of the children of an entry that is there are those of entries, and give these
pub children_there : (info : Info) (n : ℕ) → IsThere info n → (numbers : List ℕ) → numbers ≡ numbers_of_children info (die_of info n) → AreThere info numbers
children_there info n h numbers is =
    let d = (die_in info n).die in
    let named : numbers ≡ map number_of_die (children_of info d) = is ∙ ap (numbers_of_children info) (there info n h) in
    subst (AreThere info) (sym named) (record { laws = h.laws; inside = inside_all info (children_of info d) (children_found info h.laws d) })

pub children_are : (info : Info) (n : ℕ) → IsThere info n → (numbers : List ℕ) → numbers ≡ numbers_of_children info (die_of info n) → map (die_in info) numbers ≡ map (among info) (children_of info (die_in info n).die)
children_are info n h numbers is =
    let d = (die_in info n).die in
    ap (map (die_in info)) (is ∙ ap (numbers_of_children info) (there info n h)) ∙ same_list info (children_of info d) (children_found info h.laws d)

found_by : (info : Info) (test : Die → Bool) (l : List Die) → AreFound info l → (e : Die) → find test l ≡ Some e → die_of info e.entry.number ≡ Some e
found_by info test [] all e h = absurd (cc)
found_by info test (d ∷ l) all e h = by_test (test d) (found_by info test l (λ k x g. all (suc k) x g) e) h
  where
    by_test : (b : Bool) → (find test l ≡ Some e → die_of info e.entry.number ≡ Some e) → cond b (Some d) (find test l) ≡ Some e → die_of info e.entry.number ≡ Some e
    by_test true rest g = let same : d ≡ e = cc in subst (λ (x : Die). die_of info x.entry.number ≡ Some x) same (all 0 d refl)
    by_test false rest g = rest g

-- an entry to which a link leads is found under its number
pub linked_found : (info : Info) → AreLinked info → (code : ℕ) (d e : Die) → linked info code d ≡ Some e → die_of info e.entry.number ≡ Some e
linked_found info laws code d e h = by_target (option_and_then (target_of d.start) (value_of code d.entry)) h
  where
    by_target : (o : Option ℕ) → option_and_then (die_at info) o ≡ Some e → die_of info e.entry.number ≡ Some e
    by_target None g = absurd (cc)
    by_target (Some offset) g = found_by info (λ x. x.entry.offset == offset) info.dies (all_found info laws) e g

-- what is found under the number of an entry is that entry
pub found_again : (info : Info) (o : Option Die) (n : ℕ) → ((e : Die) → o ≡ Some e → die_of info e.entry.number ≡ Some e) → Some n ≡ option_map number_of_die o
    → option_map (among info) (die_of info n) ≡ option_map (among info) o
found_again info None n found h = absurd (cc)
found_again info (Some e) n found h =
    let q : n ≡ e.entry.number = cc in
    ap (λ k. option_map (among info) (die_of info k)) q ∙ ap (option_map (among info)) (found e refl)

-- the entries from a number on
pub some_left : (info : Info) (n : ℕ) (a : DieIn) → Some a ≡ option_map (among info) (die_of info n) → map (among info) (drop n info.dies) ≡ a ∷ map (among info) (drop (n + 1) info.dies)
some_left info n a h =
    let next : suc n ≡ n + 1 = omega arith in
    by_list info.dies n h ∙ ap (λ k. a ∷ map (among info) (drop k info.dies)) next
  where
    by_list : (l : List Die) (k : ℕ) → Some a ≡ option_map (among info) (slice_get l k) → map (among info) (drop k l) ≡ a ∷ map (among info) (drop (suc k) l)
    by_list [] k g = absurd (cc)
    by_list (d ∷ l) zero g = let same : among info d ≡ a = cc in ap (λ (x : DieIn). x ∷ map (among info) l) same
    by_list (d ∷ l) (suc k) g = by_list l k g

pub none_left : (info : Info) (n : ℕ) → None ≡ option_map (among info) (die_of info n) → map (among info) (drop n info.dies) ≡ []
none_left info n h = by_list info.dies n h
  where
    by_list : (l : List Die) (k : ℕ) → ◌≡◌ {A = Option DieIn} None (option_map (among info) (slice_get l k)) → map (among info) (drop k l) ≡ []
    by_list [] zero g = refl
    by_list [] (suc k) g = refl
    by_list (d ∷ l) zero g = absurd (cc)
    by_list (d ∷ l) (suc k) g = by_list l k g
