-- Lists of items with a separator between each two.
use Rattle.std.proofs.Common.{◌≡◌, ◌≢◌, ℕ, zero, suc, ◌+◌, ◌<◌, ◌≤◌, Bool, true, false, if◌then◌else◌, List, [], ◌∷◌, ◌++◌, length, ◌⊎◌}
use Rattle.std.proofs.Common.{inl, inr, refl, sym, ap, subst, ◌∙◌, arith, append_assoc, append-nil, length-append}
use Rattle.names.specs.Joined.{IsJoined}
use Rattle.names.specs.Reading.{Res, got, bad, and_then, begins, tail, Reader, give, bind, on, literal, up_to, many, prepend}
use Rattle.names.proofs.Readers.{Suffix, Follows, IsLocal, Viable, Right, IsReader, Inhabited, suffix_of, Suffix-shorter, give_reader}
use Rattle.names.proofs.Readers.{bind_reader, on_reader, literal_reader, literal_text, literal_spells, Any}

cons_of : {A : Type 0} (Spells : A → List ℕ → Type 0) (sep : List ℕ) (v : A) (vs : List A) (a b : List ℕ) → vs ≢ [] → Spells v a →
    IsJoined Spells sep vs b → IsJoined Spells sep (v ∷ vs) (a ++ (sep ++ b))
cons_of Spells sep v [] a b ne h g = absurd (ne refl)
cons_of Spells sep v (w ∷ ws) a b ne h g = (a, (b, (h, (g, refl))))

module _ {A : Type 0} (item : Reader A) (b : ℕ) (bs : List ℕ) where
  abbrev Joined : List A → List ℕ → Type 0
  Joined = IsJoined item.Spells (b ∷ bs)

  abbrev pub ListStops : (List ℕ → Type 0) → List ℕ → Type 0
  ListStops Stops k = Stops k × (begins b k ≡ false)

  same : (P : List A → List ℕ → Type 0) (vs ws : List A) (t u : List ℕ) → vs ≡ ws → t ≡ u → P ws u → P vs t
  same P vs ws t u e f h = subst (λ l. P l t) (sym e) (subst (λ l. P ws l) (sym f) h)

  abbrev More : List A → List ℕ → Type 0
  More vs t = (vs ≢ []) × Joined vs t

  -- the items that a reader of at most so many reads are joined
  to_joined : (n : ℕ) (vs : List A) (t : List ℕ) → (up_to item b bs n).Spells vs t → More vs t
  unfolding up_to
  to_joined zero vs t (v, (p, (q, (h, (g, e))))) = same More vs (v ∷ []) t p g.0 (e ∙ ap (λ l. p ++ l) g.1 ∙ append-nil p) ((λ z. cc), h)
  to_joined (suc n) vs t (v, (p, (q, (h, (inr g, e))))) = same More vs (v ∷ []) t p g.0 (e ∙ ap (λ l. p ++ l) g.1 ∙ append-nil p) ((λ z. cc), h)
  to_joined (suc n) vs t (v, (p, (q, (h, (inl (f, (m, ((u, (p1, (q1, (lit, ((ws, (p2, (q2, (g, (last, e2))))), e1))))), e0))), e))))) =
      let more = to_joined n ws p2 g in
      let text : q ≡ b ∷ (bs ++ p2) =
      e0 ∙ ap (λ l. b ∷ l) (e1 ∙ ap (λ l. l ++ q1) (literal_text bs u p1 lit) ∙ ap (λ l. bs ++ l) (e2 ∙ ap (λ l. p2 ++ l) last.1 ∙ append-nil p2)) in
      same More vs (v ∷ ws) t (p ++ ((b ∷ bs) ++ p2)) last.0 (e ∙ ap (λ l. p ++ l) text) ((λ z. cc), cons_of item.Spells (b ∷ bs) v ws p p2 more.0 h more.1)

  from_joined : (n : ℕ) (vs : List A) (t : List ℕ) → length vs ≤ suc n → vs ≢ [] → Joined vs t → (up_to item b bs n).Spells vs t
  unfolding up_to
  from_joined n [] t short ne h = absurd (ne refl)
  from_joined zero (v ∷ []) t short ne h = (v, (t, ([], (h, ((refl, refl), sym (append-nil t))))))
  from_joined zero (v ∷ w ∷ ws) t short ne h = absurd (omega arith)
  from_joined (suc n) (v ∷ []) t short ne h = (v, (t, ([], (h, (inr (refl, refl), sym (append-nil t))))))
  from_joined (suc n) (v ∷ w ∷ ws) t short ne (p, (p2, (h, (g, e)))) =
      let more = from_joined n (w ∷ ws) p2 (omega arith) (λ z. cc) g in (
        v,
        (
          p,
          (
            b ∷ (bs ++ p2),
            (
              h,
              (
                inl (
                  refl,
                  (
                    bs ++ p2,
                    ((tt, (bs, (p2, (literal_spells bs, ((w ∷ ws, (p2, ([], (more, ((refl, refl), sym (append-nil p2)))))), refl))))), refl),
                  ),
                ),
                e,
              ),
            ),
          ),
        ),
      )

  -- each item but the last takes a byte
  joined_length : (vs : List A) (t : List ℕ) → Joined vs t → length vs ≤ suc (length t)
  joined_length [] t h = omega arith
  joined_length (v ∷ []) t h = omega arith
  joined_length (v ∷ w ∷ ws) t (p, (p2, (h, (g, e)))) =
      omega (arith, joined_length (w ∷ ws) p2 g, ap length e, length-append p (b ∷ (bs ++ p2)), length-append bs p2)

  up_to_some : (n : ℕ) → Inhabited item → Inhabited (up_to item b bs n)
  up_to_some n v = (v.0 ∷ [], (v.1.0, from_joined n (v.0 ∷ []) v.1.0 (omega arith) (λ z. cc) v.1.1))

  module _ (suf : (s : List ℕ) → Suffix s (item.read s)) where
    abbrev list : Reader (List A)
    list = many item b bs

    abbrev Continued : (List ℕ → Res (List A)) → A → List ℕ → Res (List A)
    Continued f v m = and_then (f m) (λ vs e. got (v ∷ vs) e)

    tail_shorter : (k : List ℕ) → begins b k ≡ true → length (tail k) < length k
    tail_shorter [] e = cc
    tail_shorter (c ∷ k) e = omega arith

    none_begins : (k : List ℕ) → length k ≤ 0 → begins b k ≡ false
    none_begins [] h = refl
    none_begins (c ∷ k) h = absurd (omega arith)

    literal_suffix : (m : List ℕ) → Suffix m ((literal bs).read m)
    literal_suffix m = suffix_of (literal bs) (literal_reader Any bs) m

    pub turn_shorter : (s k m : List ℕ) (v : A) → item.read s ≡ got v k → begins b k ≡ true → (literal bs).read (tail k) ≡ got tt m → length m < length s
    turn_shorter s k m v e z l =
        omega (
          arith,
          Suffix-shorter s k (item.read s) v (suf s) e,
          tail_shorter k z,
          Suffix-shorter (tail k) m ((literal bs).read (tail k)) tt
              (literal_suffix (tail k)) l,
        )

    more_same : (f g : List ℕ → Res (List A)) (v : A) (k : List ℕ) (z : Bool) → begins b k ≡ z → ((m : List ℕ) → length m < length k → f m ≡ g m)
        → (if z then and_then ((literal bs).read (tail k)) (λ _ m. Continued f v m) else got (v ∷ []) k) ≡
        (if z then and_then ((literal bs).read (tail k)) (λ _ m. Continued g v m) else got (v ∷ []) k)
    more_same f g v k false e h = refl
    more_same f g v k true e h = each ((literal bs).read (tail k)) (literal_suffix (tail k))
      where
        each : (x : Res (Unit {0})) → Suffix (tail k) x → and_then x (λ _ m. Continued f v m) ≡ and_then x (λ _ m. Continued g v m)
        each (bad m) w = refl
        each (got u m) w = ap (λ z. and_then z (λ vs e. got (v ∷ vs) e)) (h m (omega (arith, ap length w.1, length-append w.0 m, tail_shorter k e)))

    first_same : (s : List ℕ) (x : Res A) → Suffix s x → (f g : A → List ℕ → Res (List A)) → ((v : A) (k : List ℕ) → length k ≤ length s → f v k ≡ g v k) →
        and_then x f ≡ and_then x g
    first_same s (got v k) w f g h = h v k (omega (arith, ap length w.1, length-append w.0 k))
    first_same s (bad k) w f g h = refl

    abbrev Turn : (List ℕ → Res (List A)) → A → List ℕ → Res (List A)
    Turn f v k = if begins b k then and_then ((literal bs).read (tail k)) (λ _ m. Continued f v m) else got (v ∷ []) k

    -- numbers that are large enough read the same
    enough : (n m : ℕ) (s : List ℕ) → length s ≤ n → length s ≤ m → (up_to item b bs n).read s ≡ (up_to item b bs m).read s
    unfolding up_to
    enough zero zero s h g = refl
    enough zero (suc m) s h g =
        first_same s (item.read s) (suf s) (λ v k. got (v ∷ []) k) (Turn (up_to item b bs m).read)
        (λ v k short. sym (ap (λ z. if z then and_then ((literal bs).read (tail k)) (λ _ t. Continued (up_to item b bs m).read v t) else got (v ∷ []) k)
        (none_begins k (omega arith))))
    enough (suc n) zero s h g =
        first_same s (item.read s) (suf s) (Turn (up_to item b bs n).read) (λ v k. got (v ∷ []) k)
        (λ v k short. ap (λ z. if z then and_then ((literal bs).read (tail k)) (λ _ t. Continued (up_to item b bs n).read v t) else got (v ∷ []) k)
        (none_begins k (omega arith)))
    enough (suc n) (suc m) s h g =
        first_same s (item.read s) (suf s) (Turn (up_to item b bs n).read) (Turn (up_to item b bs m).read)
        (λ v k short. more_same (up_to item b bs n).read (up_to item b bs m).read v k (begins b k) refl (λ t less. enough n m t (omega arith) (omega arith)))

    -- the turns of a loop that reads the items
    first_of_list : (n : ℕ) (s k : List ℕ) (v : A) → item.read s ≡ got v k → begins b k ≡ false → (up_to item b bs n).read s ≡ got (v ∷ []) k
    unfolding up_to
    first_of_list zero s k v e z = ap (λ x. and_then x (λ v k. got (v ∷ []) k)) e
    first_of_list (suc n) s k v e z =
        ap (λ x. and_then x (Turn (up_to item b bs n).read)) e ∙
        ap (λ y. if y then and_then ((literal bs).read (tail k)) (λ _ t. Continued (up_to item b bs n).read v t) else got (v ∷ []) k) z

    refused_first : (n : ℕ) (s k : List ℕ) → item.read s ≡ bad k → (up_to item b bs n).read s ≡ bad k
    unfolding up_to
    refused_first zero s k e = ap (λ x. and_then x (λ v k. got (v ∷ []) k)) e
    refused_first (suc n) s k e = ap (λ x. and_then x (Turn (up_to item b bs n).read)) e

    goes_after : (n : ℕ) (s k : List ℕ) (v : A) → item.read s ≡ got v k → begins b k ≡ true →
        (up_to item b bs (suc n)).read s ≡ and_then ((literal bs).read (tail k)) (λ _ t. Continued (up_to item b bs n).read v t)
    unfolding up_to
    goes_after n s k v e z =
        ap (λ x. and_then x (Turn (up_to item b bs n).read)) e ∙
        ap (λ y. if y then and_then ((literal bs).read (tail k)) (λ _ t. Continued (up_to item b bs n).read v t) else got (v ∷ []) k) z

    consed : (v : A) (r : Res (List A)) → and_then r (λ vs e. got (v ∷ vs) e) ≡ prepend (v ∷ []) r
    consed v (got vs k) = refl
    consed v (bad k) = refl

    after_first : (s k : List ℕ) (v : A) → item.read s ≡ got v k → begins b k ≡ true → (n : ℕ) → length s ≡ n →
        list.read s ≡ and_then ((literal bs).read (tail k)) (λ _ t. Continued list.read v t)
    after_first s k v e z zero l = absurd (omega (arith, Suffix-shorter s k (item.read s) v (suf s) e, tail_shorter k z))
    after_first s k v e z (suc n) l =
        ap (λ i. (up_to item b bs i).read s) l ∙ goes_after n s k v e z
        ∙ more_same (up_to item b bs n).read list.read v k true z
        (λ m less. enough n (length m) m (omega (arith, Suffix-shorter s k (item.read s) v (suf s) e)) (omega arith))

    prepend_more : (vs : List A) (v : A) (r : Res (List A)) → prepend vs (prepend (v ∷ []) r) ≡ prepend (vs ++ v ∷ []) r
    prepend_more vs v (got ws k) = ap (λ l. got l k) (sym (append_assoc vs (v ∷ []) ws))
    prepend_more vs v (bad k) = refl

    -- what a loop that has read vs from s0 answers, at s
    module _ (vs : List A) (s0 s : List ℕ) (so_far : prepend vs (list.read s) ≡ list.read s0) where
      pub stops_bad : (k : List ℕ) → item.read s ≡ bad k → list.read s0 ≡ bad k
      stops_bad k e = sym so_far ∙ ap (prepend vs) (refused_first (length s) s k e)

      pub stops_done : (k : List ℕ) (v : A) → item.read s ≡ got v k → begins b k ≡ false → list.read s0 ≡ got (vs ++ v ∷ []) k
      stops_done k v e z = sym so_far ∙ ap (prepend vs) (first_of_list (length s) s k v e z)

      pub stops_after : (k m : List ℕ) (v : A) → item.read s ≡ got v k → begins b k ≡ true → (literal bs).read (tail k) ≡ bad m → list.read s0 ≡ bad m
      stops_after k m v e z l = sym so_far ∙ ap (prepend vs) (after_first s k v e z (length s) refl ∙ ap (λ x. and_then x (λ _ t. Continued list.read v t)) l)

      pub goes_on : (k m : List ℕ) (v : A) → item.read s ≡ got v k → begins b k ≡ true → (literal bs).read (tail k) ≡ got tt m →
          prepend (vs ++ v ∷ []) (list.read m) ≡ list.read s0
      goes_on k m v e z l =
          sym (prepend_more vs v (list.read m)) ∙
          ap (prepend vs) (sym (after_first s k v e z (length s) refl ∙ ap (λ x. and_then x (λ _ t. Continued list.read v t)) l ∙ consed v (list.read m)))
          ∙ so_far

  module _ {Stops : List ℕ → Type 0} (is : IsReader Stops item) (some : Inhabited item) (between : (m : List ℕ) → Stops (b ∷ m)) where
    abbrev After : ℕ → A → Reader (List A)
    After n v = bind (literal bs) (λ _. bind (up_to item b bs n) (λ vs. give (v ∷ vs)))

    after_some : (n : ℕ) (v : A) → Inhabited (After n v)
    after_some n v = let more =
        up_to_some n some in (
          v ∷ more.0,
          (
            bs ++ more.1.0,
            (tt, (bs, (more.1.0, (literal_spells bs, ((more.0, (more.1.0, ([], (more.1.1, ((refl, refl), sym (append-nil more.1.0)))))), refl))))),
          ),
        )

    up_to_reader : (n : ℕ) → IsReader (ListStops Stops) (up_to item b bs n)
    unfolding up_to
    up_to_reader zero =
        bind_reader item (λ v. give (v ∷ [])) is (λ v p h. give_reader (ListStops Stops) (v ∷ [])) (λ v p h. (v ∷ [], ([], (refl, refl))))
        (λ v p h w q k g stops. subst (λ l. Stops (l ++ k)) (sym g.1) stops.0)
    up_to_reader (suc n) =
        bind_reader item (λ v. on true b (After n v) (give (v ∷ []))) is
        (λ v p h. on_reader true b (After n v) (give (v ∷ []))
        (λ f. bind_reader (literal bs) (λ _. bind (up_to item b bs n) (λ vs. give (v ∷ vs))) (literal_reader Any bs)
        (λ u l g. bind_reader (up_to item b bs n) (λ vs. give (v ∷ vs)) (up_to_reader n) (λ vs m g. give_reader (ListStops Stops) (v ∷ vs))
        (λ vs m g. (v ∷ vs, ([], (refl, refl))))
        (λ vs m g w q k e stops. subst (λ l. ListStops Stops (l ++ k)) (sym e.1) stops))
        (λ u l g. let more = up_to_some n some in (v ∷ more.0, (more.1.0, (more.0, (more.1.0, ([], (more.1.1, ((refl, refl), sym (append-nil more.1.0)))))))))
        (λ u l g w q k e stops. tt))
        (λ f. after_some n v) (give_reader (ListStops Stops) (v ∷ [])) (λ f w t k e stops. subst (λ l. begins b (l ++ k) ≡ false) (sym e.1) stops.1))
        (λ v p h. (v ∷ [], ([], inr (refl, refl))))
        (λ v p h w q k g stops. follow v w q k g stops)
      where
        follow : (v : A) (w : List A) (q k : List ℕ) → (on true b (After n v) (give (v ∷ []))).Spells w q → ListStops Stops k → Stops (q ++ k)
        follow v w q k (inl (f, (m, (h, e)))) stops = subst (λ l. Stops (l ++ k)) (sym e) (between (m ++ k))
        follow v w q k (inr g) stops = subst (λ l. Stops (l ++ k)) (sym g.1) stops.0

    abbrev the_list : Reader (List A)
    the_list = many item b bs

    many_complete : (vs : List A) (t k : List ℕ) → More vs t → ListStops Stops k → the_list.read (t ++ k) ≡ got vs k
    many_complete vs t k h stops =
        let n = length (t ++ k) + length vs in
        enough (λ s. suffix_of item is s) (length (t ++ k)) n (t ++ k) (omega arith) (omega arith) ∙
        (up_to_reader n).complete vs t k (from_joined n vs t (omega arith) h.0 h.1) stops

    many_right : (n : ℕ) (s : List ℕ) (x : Res (List A)) → Right (up_to item b bs n).Spells s x → Right More s x
    many_right n s (got vs k) h = (h.0, (to_joined n vs h.0 h.1.0, h.1.1))
    many_right n s (bad k) h = (h.0, (h.1.0, viable h.0 h.1.1))
      where
        viable : (p : List ℕ) → (p ≡ []) ⊎ Viable (up_to item b bs n).Spells p → (p ≡ []) ⊎ Viable More p
        viable p (inl e) = inl e
        viable p (inr v) = inr (v.0, (v.1.0, to_joined n v.0 (p ++ v.1.0) v.1.1))

    many_local : IsLocal the_list.read
    many_local c k r p =
        let n = length (p ++ c ∷ k) + length (p ++ c ∷ r) in
        let here = enough (λ s. suffix_of item is s) (length (p ++ c ∷ k)) n (p ++ c ∷ k) (omega arith) (omega arith) in
        let there = enough (λ s. suffix_of item is s) (length (p ++ c ∷ r)) n (p ++ c ∷ r) (omega arith) (omega arith) in
        subst (λ x. Follows c k r x (the_list.read (p ++ c ∷ r))) (sym here)
        (subst (λ y. Follows c k r ((up_to item b bs n).read (p ++ c ∷ k)) y) (sym there) ((up_to_reader n).local c k r p))

    pub many_reader : IsReader (ListStops Stops) (many item b bs)
    many_reader = record {
      complete = many_complete;
      right = λ s. many_right (length s) s (the_list.read s) ((up_to_reader (length s)).right s);
      local =
          many_local;
    }

    pub many_some : Inhabited (many item b bs)
    many_some = (some.0 ∷ [], (some.1.0, ((λ z. cc), some.1.1)))
