-- What is kept of the last symbols, with one symbol more in front.
use Rattle.std.proofs.Common.{◌≡◌, ◌≤◌, arith, ℕ, Bool, true, false, cond, List, [], ◌∷◌, ◌++◌, drop, length, map, reverse, take, Result, Ok, Err, OnOk, refl, sym, ap, ◌∙◌, subst}
use Rattle.std.proofs.Math.Seq.{drop-length, take-append_seam}
use Rattle.std.proofs.lemmas.Bool.{cond-true, cond-false}
use Rattle.std.proofs.lemmas.List.{length-reverse, map-append, reverse-append, reverse-reverse, take-map}
use Rattle.std.specs.Borrow.{Bor}
use Rattle.cv_symbol_records.specs.declared.kinds.SymRec.{SymRec}
use Rattle.cv_type_defs.specs.Symbols.{closes_site, opens_site, outside_after, outside_sites}
use Rattle.cv_constants.proofs.Ends.{end_opens_none, opened, opens, shows}
use Rattle.cv_constants.specs.Sites.{AreShown, behind_ends, symbols_of}
use Rattle.cv_constants.specs.declared.sites.Shown.{Shown}

abbrev how_many : List SymRec → ℕ
how_many rest = length (outside_sites rest)

-- a list ends with another
pub record EndsWith (long short : List SymRec) : Type 0 where
  pub front : List SymRec
  pub is : front ++ short ≡ long

-- of these each is the end of the one before it, and the first that of a list
abbrev pub AreEnds : List SymRec → List (List SymRec) → Type 0
AreEnds all [] = Unit {0}
AreEnds all (r ∷ ends) = EndsWith all (outside_sites r) × AreEnds (outside_sites r) ends

longer : (s : SymRec) (all : List SymRec) (ends : List (List SymRec)) → AreEnds all ends → AreEnds (s ∷ all) ends
longer s all [] are = tt
longer s all (r ∷ ends) are = (record { front = s ∷ are.0.front; is = ap (λ l. s ∷ l) are.0.is }, are.1)

-- what is shown behind each end is the end of what is shown
pub are_ends : (xs : List SymRec) → AreEnds (outside_sites xs) (behind_ends xs)
unfolding behind_ends
are_ends [] = tt
are_ends (s ∷ rest) = by_tests (closes_site s) (opens_site s) (end_opens_none s) (shows s rest) (opens s rest) (are_ends rest)
  where
    opened_ends : (ends : List (List SymRec)) → AreEnds (outside_sites rest) ends → AreEnds (opened ends s rest) (drop 1 ends)
    opened_ends [] are = tt
    opened_ends (r ∷ ends) are = are.1

    by_tests : (c o : Bool) → (c ≡ true → o ≡ false) → (o ≡ false → outside_sites (s ∷ rest) ≡ s ∷ outside_sites rest)
        → (o ≡ true → outside_sites (s ∷ rest) ≡ opened (behind_ends rest) s rest) → AreEnds (outside_sites rest) (behind_ends rest)
        → AreEnds (outside_sites (s ∷ rest)) (cond c (rest ∷ behind_ends rest) (cond o (drop 1 (behind_ends rest)) (behind_ends rest)))
    by_tests true o none show site are = (record { front = s ∷ []; is = sym (show (none refl)) }, are)
    by_tests false true none show site are =
        subst (λ all. AreEnds all (drop 1 (behind_ends rest))) (sym (site refl)) (opened_ends (behind_ends rest) are)
    by_tests false false none show site are = subst (λ all. AreEnds all (behind_ends rest)) (sym (show refl)) (longer s (outside_sites rest) (behind_ends rest) are)

reverse_on : {A : Type 0} (x : A) (xs : List A) → reverse (x ∷ xs) ≡ reverse xs ++ x ∷ []
reverse_on x xs = reverse-append (x ∷ []) xs

-- an end is shown, and what is behind it is kept
pub end_added : (s : SymRec) (rest : List SymRec) (old new : Shown) → closes_site s ≡ true → symbols_of new ≡ symbols_of old ++ s ∷ []
    → new.ends.items ≡ old.ends.items ++ length (symbols_of old) ∷ [] → AreShown rest old → AreShown (s ∷ rest) new
unfolding behind_ends
end_added s rest old new e symbols ends are = record {
  shown = symbols ∙ ap (λ l. l ++ s ∷ []) are.shown ∙ sym (reverse_on s (outside_sites rest)) ∙ ap reverse (sym (shows s rest (end_opens_none s e)));
  ends = ends ∙ ap (λ l. l ++ length (symbols_of old) ∷ []) are.ends
      ∙ ap (λ n. reverse (map how_many (behind_ends rest)) ++ n ∷ []) (ap length are.shown ∙ length-reverse (outside_sites rest))
      ∙ sym (reverse_on (how_many rest) (map how_many (behind_ends rest)))
      ∙ ap (λ l. reverse (map how_many l)) (sym (cond-true (closes_site s) (rest ∷ behind_ends rest) (cond (opens_site s) (drop 1 (behind_ends rest)) (behind_ends rest)) e));
}

-- every other symbol is shown
pub other_added : (s : SymRec) (rest : List SymRec) (old new : Shown) → closes_site s ≡ false → opens_site s ≡ false → symbols_of new ≡ symbols_of old ++ s ∷ []
    → new.ends.items ≡ old.ends.items → AreShown rest old → AreShown (s ∷ rest) new
unfolding behind_ends
other_added s rest old new closes opens symbols ends are = record {
  shown = symbols ∙ ap (λ l. l ++ s ∷ []) are.shown ∙ sym (reverse_on s (outside_sites rest)) ∙ ap reverse (sym (shows s rest opens));
  ends = ends ∙ are.ends
      ∙ ap (λ l. reverse (map how_many l)) (sym (cond-false (closes_site s) (rest ∷ behind_ends rest) (cond (opens_site s) (drop 1 (behind_ends rest)) (behind_ends rest)) closes
      ∙ cond-false (opens_site s) (drop 1 (behind_ends rest)) (behind_ends rest) opens));
}

opened_behind : (s : SymRec) (rest : List SymRec) → closes_site s ≡ false → opens_site s ≡ true → behind_ends (s ∷ rest) ≡ drop 1 (behind_ends rest)
unfolding behind_ends
opened_behind s rest closes opens =
    cond-false (closes_site s) (rest ∷ behind_ends rest) (cond (opens_site s) (drop 1 (behind_ends rest)) (behind_ends rest)) closes
    ∙ cond-true (opens_site s) (drop 1 (behind_ends rest)) (behind_ends rest) opens

last_same : (xs ys : List ℕ) (x y : ℕ) → xs ++ x ∷ [] ≡ ys ++ y ∷ [] → (xs ≡ ys) × (x ≡ y)
last_same [] [] x y e = (refl, cc)
last_same [] (b ∷ []) x y e = absurd (cc)
last_same [] (b ∷ c ∷ ys) x y e = absurd (cc)
last_same (a ∷ []) [] x y e = absurd (cc)
last_same (a ∷ c ∷ xs) [] x y e = absurd (cc)
last_same (a ∷ xs) (b ∷ ys) x y e =
    let first : a ≡ b = cc in
    let rest : xs ++ x ∷ [] ≡ ys ++ y ∷ [] = cc in
    let r = last_same xs ys x y rest in
    (ap (λ z. z ∷ xs) first ∙ ap (λ l. b ∷ l) r.0, r.1)

not_last : (xs : List ℕ) (x : ℕ) → [] ≡ xs ++ x ∷ [] → ⊥
not_last [] x e = absurd (cc)
not_last (a ∷ xs) x e = absurd (cc)

-- a site without an end is shown
pub site_added : (s : SymRec) (rest : List SymRec) (old new : Shown) → closes_site s ≡ false → opens_site s ≡ true → old.ends.items ≡ [] → symbols_of new ≡ symbols_of old ++ s ∷ []
    → new.ends.items ≡ [] → AreShown rest old → AreShown (s ∷ rest) new
site_added s rest old new closes site none symbols ends are = by_ends (behind_ends rest) (opens s rest site) (opened_behind s rest closes site) (sym none ∙ are.ends)
  where
    by_ends : (behind : List (List SymRec)) → outside_sites (s ∷ rest) ≡ opened behind s rest → behind_ends (s ∷ rest) ≡ drop 1 behind → [] ≡ reverse (map how_many behind) → AreShown (s ∷ rest) new
    by_ends [] outside left e = record {
      shown = symbols ∙ ap (λ l. l ++ s ∷ []) are.shown ∙ sym (reverse_on s (outside_sites rest)) ∙ ap reverse (sym outside);
      ends = ends ∙ ap (λ l. reverse (map how_many l)) (sym left);
    }
    by_ends (r ∷ behind) outside left e = absurd (not_last (reverse (map how_many behind)) (how_many r) (e ∙ reverse_on (how_many r) (map how_many behind)))

-- a site with its end hides what is up to it
pub site_hidden : (s : SymRec) (rest : List SymRec) (old new : Shown) (n : ℕ) → closes_site s ≡ false → opens_site s ≡ true → old.ends.items ≡ new.ends.items ++ n ∷ []
    → symbols_of new ≡ take n (symbols_of old) → AreShown rest old → AreShown (s ∷ rest) new
site_hidden s rest old new n closes site ends symbols are =
    by_ends (behind_ends rest) (opens s rest site) (opened_behind s rest closes site) (are_ends rest) (sym ends ∙ are.ends)
  where
    shown_is : (r : List SymRec) → EndsWith (outside_sites rest) (outside_sites r) → take (how_many r) (reverse (outside_sites rest)) ≡ reverse (outside_sites r)
    shown_is r end =
        ap (λ l. take (how_many r) (reverse l)) (sym end.is) ∙ ap (take (how_many r)) (reverse-append end.front (outside_sites r))
        ∙ ap (λ k. take k (reverse (outside_sites r) ++ reverse end.front)) (sym (length-reverse (outside_sites r)))
        ∙ take-append_seam (reverse (outside_sites r)) (reverse end.front)

    by_ends : (behind : List (List SymRec)) → outside_sites (s ∷ rest) ≡ opened behind s rest → behind_ends (s ∷ rest) ≡ drop 1 behind → AreEnds (outside_sites rest) behind
        → new.ends.items ++ n ∷ [] ≡ reverse (map how_many behind) → AreShown (s ∷ rest) new
    by_ends [] outside left chain e = absurd (not_last new.ends.items n (sym e))
    by_ends (r ∷ behind) outside left chain e =
        let last = last_same new.ends.items (reverse (map how_many behind)) n (how_many r) (e ∙ reverse_on (how_many r) (map how_many behind)) in
        record {
          shown = symbols ∙ ap (take n) are.shown ∙ ap (λ k. take k (reverse (outside_sites rest))) last.1 ∙ shown_is r chain.0 ∙ ap reverse (sym outside);
          ends = last.0 ∙ ap (λ l. reverse (map how_many l)) (sym left);
        }

-- the same where each may fail
pub end_put : {A E : Type 0} (r : Result A E) (s : SymRec) (old new : Shown) → closes_site s ≡ true → OnOk r (symbols_of new ≡ symbols_of old ++ s ∷ [])
    → OnOk r (new.ends.items ≡ old.ends.items ++ length (symbols_of old) ∷ []) → OnOk r ((rest : List SymRec) → AreShown rest old → AreShown (s ∷ rest) new)
end_put (Ok a) s old new e symbols ends = λ rest are. end_added s rest old new e symbols ends are
end_put (Err x) s old new e symbols ends = symbols

pub other_put : {A E : Type 0} (r : Result A E) (s : SymRec) (old new : Shown) → closes_site s ≡ false → opens_site s ≡ false → OnOk r (symbols_of new ≡ symbols_of old ++ s ∷ [])
    → OnOk r (new.ends.items ≡ old.ends.items) → OnOk r ((rest : List SymRec) → AreShown rest old → AreShown (s ∷ rest) new)
other_put (Ok a) s old new c o symbols ends = λ rest are. other_added s rest old new c o symbols ends are
other_put (Err x) s old new c o symbols ends = symbols

abbrev pub symbols_in : List (Bor SymRec) → List SymRec
symbols_in l = map (λ s. s.now) l

pub taken : (n : ℕ) (l : List (Bor SymRec)) → symbols_in (take n l) ≡ take n (symbols_in l)
taken n l = sym (take-map (λ (s : Bor SymRec). s.now) n l)

pub site_put : {A E : Type 0} (r : Result A E) (s : SymRec) (old mid new : Shown) → old.ends.items ≡ [] → mid.ends.items ≡ [] → symbols_of mid ≡ symbols_of old
    → OnOk r (symbols_of new ≡ symbols_of mid ++ s ∷ []) → OnOk r (new.ends.items ≡ mid.ends.items)
    → OnOk r ((rest : List SymRec) → opens_site s ≡ true → closes_site s ≡ false → AreShown rest old → AreShown (s ∷ rest) new)
site_put (Ok a) s old mid new none left same symbols ends = λ rest site closes are.
    site_added s rest old new closes site none (symbols ∙ ap (λ l. l ++ s ∷ []) same) (ends ∙ left) are
site_put (Err x) s old mid new none left same symbols ends = symbols

pub no_items : (l : List ℕ) → length l ≡ 0 → l ≡ []
no_items [] e = refl
no_items (x ∷ xs) e = absurd (omega (arith, e))

-- without symbols nothing is shown
pub nothing_shown : (symbols : List SymRec) (kept : Shown) → kept.symbols.items ≡ [] → kept.ends.items ≡ [] → AreShown (drop (length symbols) symbols) kept
unfolding behind_ends outside_after
nothing_shown symbols kept none left =
    let nothing : AreShown [] kept = record { shown = ap symbols_in none; ends = left } in
    subst (λ l. AreShown l kept) (sym (drop-length symbols)) nothing

map_reverse : (l : List (Bor SymRec)) → symbols_in (reverse l) ≡ reverse (symbols_in l)
map_reverse [] = refl
map_reverse (x ∷ xs) =
    ap symbols_in (reverse-append (x ∷ []) xs) ∙ map-append (λ (s : Bor SymRec). s.now) (reverse xs) (x ∷ [])
    ∙ ap (λ l. l ++ x.now ∷ []) (map_reverse xs) ∙ sym (reverse-append (x.now ∷ []) (symbols_in xs))

-- all symbols are done, and turned
pub turned : (symbols : List SymRec) (at : ℕ) (kept : Shown) (items : List (Bor SymRec)) → at ≤ 0 → AreShown (drop at symbols) kept → items ≡ reverse kept.symbols.items → symbols_in items ≡ outside_sites symbols
turned symbols at kept items none are is =
    let start : at ≡ 0 = omega arith in
    ap symbols_in is ∙ map_reverse kept.symbols.items ∙ ap reverse are.shown ∙ reverse-reverse (outside_sites (drop at symbols))
    ∙ ap (λ n. outside_sites (drop n symbols)) start
