-- The entries of the types of the set, by their places.
use Rattle.std.proofs.Common.{◌≡◌, ◌<◌, ℕ, zero, suc, List, [], ◌∷◌, length, map, slice_get, Option, Some, None, refl, sym, ap, ◌∙◌, arith}
use Rattle.std.specs.Option.{option_map}
use Rattle.std.proofs.lemmas.Option.{slice_get-map}
use Rattle.dwarf_entries.specs.Dies.{Die, Info}
use Rattle.dwarf_entries.specs.Said.{type_dies}
use Rattle.dwarf_entries.specs.TypeLinks.{is_type_of_set}
use Rattle.dwarf_dies.specs.Handles.{DieIn, among}
use Rattle.dwarf_dies.specs.Laws.{AreLinked}
use Rattle.dwarf_dies.specs.Views.{die_of, number_of_die}
use Rattle.dwarf_dies.proofs.Handles.{all_found, filtered}
use Rattle.dwarf_links.specs.SetTypes.{numbers_of_types}

-- the number at a place is that of the entry there
pub numbered : (info : Info) → AreLinked info → (place number : ℕ) → slice_get (numbers_of_types info) place ≡ Some number → die_of info number ≡ slice_get (type_dies info) place
numbered info laws place number h = by_die (slice_get (type_dies info) place) refl
  where
    by_die : (o : Option Die) → slice_get (type_dies info) place ≡ o → die_of info number ≡ o
    by_die None e =
        let q : ◌≡◌ {A = Option ℕ} (Some number) None = sym h ∙ slice_get-map number_of_die (type_dies info) place ∙ ap (option_map number_of_die) e in
        absurd (cc)
    by_die (Some d) e =
        let q : Some number ≡ Some d.entry.number = sym h ∙ slice_get-map number_of_die (type_dies info) place ∙ ap (option_map number_of_die) e in
        let same : number ≡ d.entry.number = cc in
        ap (die_of info) same ∙ filtered info (is_type_of_set info) info.dies (all_found info laws) place d e

-- no number at a place, no entry
pub unnumbered : (info : Info) (place : ℕ) → slice_get (numbers_of_types info) place ≡ None → slice_get (type_dies info) place ≡ None
unnumbered info place h = by_die (slice_get (type_dies info) place) refl
  where
    by_die : (o : Option Die) → slice_get (type_dies info) place ≡ o → o ≡ None
    by_die None e = refl
    by_die (Some d) e =
        let q : ◌≡◌ {A = Option ℕ} None (Some d.entry.number) = sym h ∙ slice_get-map number_of_die (type_dies info) place ∙ ap (option_map number_of_die) e in
        absurd (cc)

-- there is an entry at each place inside
pub some_entry : (info : Info) (l : List Die) (place : ℕ) → place < length l → option_map (among info) (slice_get l place) ≡ None → ⊥
some_entry info [] place lt h = absurd (omega (arith, lt))
some_entry info (d ∷ l) zero lt h = absurd (cc)
some_entry info (d ∷ l) (suc place) lt h = some_entry info l place (omega (arith, lt)) h

-- where the entry at a place begins
pub entry_at : (info : Info) (l : List Die) (place : ℕ) (a : DieIn) → option_map (among info) (slice_get l place) ≡ Some a → slice_get (map (λ (d : Die). d.entry.offset) l) place ≡ Some a.die.entry.offset
entry_at info [] place a h = absurd (cc)
entry_at info (d ∷ l) zero a h = let same : among info d ≡ a = cc in ap (λ (x : DieIn). Some x.die.entry.offset) same
entry_at info (d ∷ l) (suc place) a h = entry_at info l place a h
