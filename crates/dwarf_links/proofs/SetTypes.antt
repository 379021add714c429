-- How the list of the types of the set grows, entry by entry.
use Rattle.std.proofs.Common.{◌≡◌, ℕ, List, [], ◌∷◌, ◌++◌, map, filter, cond, Bool, true, false, refl, sym, ap, ◌∙◌, append-nil}
use Rattle.dwarf_entries.specs.Dies.{Die, Info}
use Rattle.dwarf_entries.specs.TypeLinks.{is_type_of_set}
use Rattle.dwarf_dies.specs.Handles.{DieIn, among}
use Rattle.dwarf_dies.specs.Views.{number_of_die}
use Rattle.dwarf_links.specs.SetTypes.{numbers_of_types}

abbrev is_set_type : DieIn → Bool
is_set_type a = is_type_of_set a.info a.die

abbrev number_of : DieIn → ℕ
number_of a = a.die.entry.number

-- the numbers of those that are still to come
abbrev pub still : List DieIn → List ℕ
still left = map number_of (filter is_set_type left)

-- with those to come, the ones that were found are all
abbrev pub AreSoFar : Info → List DieIn → List ℕ → Type 0
AreSoFar info left types = types ++ still left ≡ numbers_of_types info

one_still : (info : Info) (d : Die) (l : List Die) → still (map (among info) l) ≡ map number_of_die (filter (is_type_of_set info) l) → (b : Bool)
    → map number_of (cond b (among info d ∷ filter is_set_type (map (among info) l)) (filter is_set_type (map (among info) l)))
    ≡ map number_of_die (cond b (d ∷ filter (is_type_of_set info) l) (filter (is_type_of_set info) l))
one_still info d l rest true = ap (λ k. d.entry.number ∷ k) rest
one_still info d l rest false = rest

all_still : (info : Info) (l : List Die) → still (map (among info) l) ≡ map number_of_die (filter (is_type_of_set info) l)
all_still info [] = refl
all_still info (d ∷ l) = one_still info d l (all_still info l) (is_type_of_set info d)

-- before the first entry
pub none_yet : (info : Info) (left : List DieIn) → left ≡ map (among info) info.dies → AreSoFar info left []
none_yet info left is = ap still is ∙ all_still info info.dies

-- an entry that is one is added
pub one_more : (info : Info) (a : DieIn) (left : List DieIn) (types : List ℕ) → AreSoFar info (a ∷ left) types → is_type_of_set a.info a.die ≡ true → AreSoFar info left (types ++ a.die.entry.number ∷ [])
one_more info a left types so passing =
    let here : still (a ∷ left) ≡ number_of a ∷ still left = ap (λ b. map number_of (cond b (a ∷ filter is_set_type left) (filter is_set_type left))) passing in
    joined types (still left) ∙ ap (λ l. types ++ l) (sym here) ∙ so
  where
    joined : (xs ys : List ℕ) → (xs ++ number_of a ∷ []) ++ ys ≡ xs ++ number_of a ∷ ys
    joined [] ys = refl
    joined (x ∷ xs) ys = ap (λ l. x ∷ l) (joined xs ys)

-- any other isn't
pub no_more : (info : Info) (a : DieIn) (left : List DieIn) (types : List ℕ) → AreSoFar info (a ∷ left) types → is_type_of_set a.info a.die ≡ false → AreSoFar info left types
no_more info a left types so other =
    let here : still (a ∷ left) ≡ still left = ap (λ b. map number_of (cond b (a ∷ filter is_set_type left) (filter is_set_type left))) other in
    ap (λ l. types ++ l) (sym here) ∙ so

-- after the last entry they are all
pub all_so_far : (info : Info) (left : List DieIn) (types : List ℕ) → left ≡ [] → AreSoFar info left types → types ≡ numbers_of_types info
all_so_far info left types is so = sym (append-nil types) ∙ ap (λ l. types ++ still l) (sym is) ∙ so
