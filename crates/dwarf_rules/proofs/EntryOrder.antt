-- The entries before one are those that come first.
use Rattle.std.proofs.Common.{◌≡◌, ◌<◌, ◌≤◌, ℕ, suc, List, [], ◌∷◌, ◌++◌, length, filter, slice_get, cond, nat_lt, Bool, true, false, Some, refl, ap, ◌∙◌, arith, ltb-true, ltb-false}
use Rattle.dwarf_entries.specs.Dies.{Die}

-- offsets rise along some entries
abbrev pub Rise : List Die → Type 0
Rise l = (i j : ℕ) (d e : Die) → i < j → slice_get l i ≡ Some d → slice_get l j ≡ Some e → d.entry.offset < e.entry.offset

tail_rises : (o : Die) (l : List Die) → Rise (o ∷ l) → Rise l
tail_rises o l r i j d e h f g = r (suc i) (suc j) d e (omega (arith, h)) f g

is_below : (a b : ℕ) → a < b → nat_lt a b ≡ true
is_below a b h = by_test (nat_lt a b) refl
  where
    by_test : (t : Bool) → nat_lt a b ≡ t → nat_lt a b ≡ true
    by_test true g = g
    by_test false g = absurd (let l = ltb-false a b g in omega (arith, l, h))

is_not_below : (a b : ℕ) → b ≤ a → nat_lt a b ≡ false
is_not_below a b h = by_test (nat_lt a b) refl
  where
    by_test : (t : Bool) → nat_lt a b ≡ t → nat_lt a b ≡ false
    by_test true g = absurd (let l = ltb-true a b g in omega (arith, l, h))
    by_test false g = g

abbrev is_before : Die → Die → Bool
is_before d o = nat_lt o.entry.offset d.entry.offset

none_after : (d : Die) (l : List Die) → ((j : ℕ) (e : Die) → slice_get l j ≡ Some e → d.entry.offset < e.entry.offset) → filter (is_before d) l ≡ []
none_after d [] h = refl
none_after d (o ∷ l) h =
    let later : d.entry.offset < o.entry.offset = h 0 o refl in
    ap (λ b. cond b (o ∷ filter (is_before d) l) (filter (is_before d) l)) (is_not_below o.entry.offset d.entry.offset (omega (arith, later)))
    ∙ none_after d l (λ j e g. h (suc j) e g)

seam : (done : List Die) (d : Die) (left : List Die) → slice_get (done ++ d ∷ left) (length done) ≡ Some d
seam [] d left = refl
seam (o ∷ done) d left = seam done d left

-- of entries whose offsets rise, those in front of one begin before it, and no other does
pub before_are : (done : List Die) (d : Die) (left : List Die) → Rise (done ++ d ∷ left) → filter (λ o. nat_lt o.entry.offset d.entry.offset) (done ++ d ∷ left) ≡ done
before_are [] d left r =
    ap (λ b. cond b (d ∷ filter (is_before d) left) (filter (is_before d) left)) (is_not_below d.entry.offset d.entry.offset (omega arith))
    ∙ none_after d left (λ j e g. r 0 (suc j) d e (omega arith) refl g)
before_are (o ∷ done) d left r =
    ap (λ b. cond b (o ∷ filter (is_before d) (done ++ d ∷ left)) (filter (is_before d) (done ++ d ∷ left)))
    (is_below o.entry.offset d.entry.offset (r 0 (suc (length done)) o d (omega arith) refl (seam done d left)))
    ∙ ap (λ (l : List Die). o ∷ l) (before_are done d left (tail_rises o (done ++ d ∷ left) r))
