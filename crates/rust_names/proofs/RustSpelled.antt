-- The text of each proper name is one that the grammar of Rust's spelling reads.
use Rattle.std.proofs.Common.{◌≡◌, ◌≢◌, ℕ, zero, suc, ◌-◌, ◌^◌, ◌<◌, Bool, true, false, ◌&&◌, ◌||◌, if◌then◌else◌, List, [], ◌∷◌, ◌++◌, map}
use Rattle.std.proofs.Common.{Option, Some, None, IfSome, ◌⊎◌, inl, inr, refl, sym, ap, subst, ◌∙◌, arith, codes, append_assoc, append-nil}
use Rattle.std.specs.List.{AllByRecursion}
use Rattle.std.specs.Fmt.{decimal}
use Rattle.names.specs.declared.name.Name.{Name, out-Name}
use Rattle.names.specs.declared.name.Name.TheVariants.{Path, Pointer, Slice, Array, Tuple, Str, Dyn, Fn, Number, Bind, Raw, outs-Path}
use Rattle.names.specs.declared.name.Name.TheVariants.{outs-Pointer, outs-Slice, outs-Array, outs-Tuple, outs-Str, outs-Dyn, outs-Fn}
use Rattle.names.specs.declared.name.Name.TheVariants.{outs-Number, outs-Bind, outs-Raw}
use Rattle.names.specs.declared.name.Seg.{Seg}
use Rattle.names.specs.declared.name.PtrKind.{PtrKind}
use Rattle.names.specs.declared.name.PtrKind.TheVariants.{Ref, RefMut, Const, Mut, Boxed}
use Rattle.names.specs.Words.{AreChars, IsWord}
use Rattle.names.specs.Names.{Role, whole, arg, member, IsNoMember, plain_str, IsSeg, IsLayer, Stands}
use Rattle.rust_names.specs.RustText.{rust_text, seg_text, word_text, args_text, result_text, is_empty_tuple, is_empty_layer}
use Rattle.names.specs.Joined.{joined}
use Rattle.names.specs.Signs.{sign_text}
use Rattle.names.specs.Reading.{Reader, give, never, bind, on, either, where_first, literal, many, word, number, starts_word, starts_digit}
use Rattle.rust_names.specs.RustGrammar.{Level, args_of, numbered, seg_after, seg_of, path_from, path_after, bracketed, referred_word}
use Rattle.rust_names.specs.RustGrammar.{referred, tuple_from, dyn_from, parts_word, parts, result_of, function, numbered_path, worded_of}
use Rattle.rust_names.specs.RustGrammar.{symbol_of, arg_word, level_of, none_level, fits, rust}
use Rattle.names.specs.Plain.{is_word, is_plain_str, has_some}
use Rattle.rust_names.proofs.RustLevels.{text-Path, text-Pointer, text-Slice, text-Array, text-Tuple, text-Str, text-Dyn, text-Fn}
use Rattle.rust_names.proofs.RustLevels.{text-Number, text-Bind, text-Seg}
use Rattle.names.proofs.Joined.{joined_cons, joined_one, text_joined, to_literal, to_end, to_map, to_closed, of_map}
use Rattle.names.proofs.Cases.{Name-cases}
use Rattle.rust_names.proofs.Depth.{stands_fits, stands_deeper}
use Rattle.rust_names.proofs.RustMeaning.{Means, rust_means, number_text, array_text}
use Rattle.names.proofs.Plain.{same_word, plain_is}

-- the readers of a level read the texts of all names that nest at most d deep
pub record Spells (d : ℕ) (L : Level) : Type 0 where
  pub to_whole : (n : Name) → Stands d whole n → L.whole.Spells n (rust_text n)
  pub to_arg : (n : Name) → Stands d arg n → L.arg.Spells n (rust_text n)
  pub to_member : (n : Name) → Stands d member n → L.member.Spells n (rust_text n)
  pub split : (n : Name) (t : List ℕ) → L.whole.Spells n t →
      ((w : List ℕ) × ((q : List ℕ) × (IsWord w × ((L.worded w).Spells n q × (t ≡ w ++ q))))) ⊎ (L.symbol true).Spells n t
  pub no_unit : (n : Name) (t : List ℕ) → (L.symbol true).Spells n t → is_empty_tuple n ≡ false → (L.symbol false).Spells n t
  pub mut_plain : (n : Name) (t : List ℕ) → (L.worded (codes "mut")).Spells n t → (L.plain (codes "mut")).Spells n t
  pub dyn_plain : (n : Name) (t : List ℕ) → (L.worded (codes "dyn")).Spells n t →
      (L.plain (codes "dyn")).Spells n t ⊎ ((a : Name) × ((n ≡ Dyn (a ∷ [])) × (Stands d member a × ((L.holds a ≡ true) × (t ≡ 32 ∷ rust_text a)))))

and_right : (a b : Bool) → (a && b) ≡ true → b ≡ true
and_right true b e = e
and_right false b e = cc

by_flag : {P : Type 0} (flag : Bool) → (flag ≡ true → P) → (flag ≡ false → P) → P
by_flag true h g = h refl
by_flag false h g = g refl

str_word : IsWord (codes "str")
unfolding AreChars
str_word = (refl, omega arith)

fn_word : IsWord (codes "fn")
unfolding AreChars
fn_word = (refl, omega arith)

mut_word : IsWord (codes "mut")
unfolding AreChars
mut_word = (refl, omega arith)

dyn_word : IsWord (codes "dyn")
unfolding AreChars
dyn_word = (refl, omega arith)

module _ (d : ℕ) (L : Level) (means : Means d L) (spells : Spells d L) (deep : Bool) (is_deep : (role : Role) (n : Name) → Stands d role n → deep ≡ true) where
  tail_text : List Seg → List ℕ
  tail_text [] = []
  tail_text (s ∷ ss) = codes "::" ++ joined (codes "::") (map seg_text (s ∷ ss))

  seg_with : List ℕ → Option ℕ → List Name → Seg
  seg_with w m xs = record { word = w; number = m; args = xs }

  to_args : (xs : List Name) → AllByRecursion (Stands d arg) xs → (args_of deep L.arg).Spells xs (args_text (map rust_text xs))
  to_args [] h = inr (refl, refl)
  to_args (x ∷ xs) h =
      let t = joined (codes ", ") (map rust_text (x ∷ xs)) in
      inl (
        is_deep arg x h.0,
        (
          t ++ codes ">",
          (
            to_closed (many L.arg 44 (codes " ")) (codes ">") (λ xs. xs) (x ∷ xs) t
                ((λ z. cc), text_joined L.arg.Spells (Stands d arg) rust_text (codes ", ") spells.to_arg (x ∷ xs) h),
            refl,
          ),
        ),
      )

  to_seg_after : (w : List ℕ) (m : Option ℕ) (xs : List Name) → AllByRecursion (Stands d arg) xs →
      (seg_after deep L.arg w m).Spells (seg_with w m xs) (args_text (map rust_text xs))
  unfolding seg_with
  to_seg_after w m xs h = to_map (args_of deep L.arg) (λ xs. record { word = w; number = m; args = xs }) xs (args_text (map rust_text xs)) (to_args xs h)

  to_numbered : (w : List ℕ) (n : ℕ) → IsWord w → n < 2 ^ 32 → numbered.Spells (w, n) (w ++ (35 ∷ (decimal n ++ codes "}")))
  to_numbered w n isw less = (
    w,
    (
      w,
      (
        35 ∷ (decimal n ++ codes "}"),
        (
          (isw, refl),
          (
            to_literal (codes "#") (bind (number true (2 ^ 32 - 1)) (λ n. bind (literal (codes "}")) (λ _. give (w, n)))) (w, n) (decimal n ++ codes "}")
                (to_closed (number true (2 ^ 32 - 1)) (codes "}") (λ n. (w, n)) n (decimal n) (omega arith, ((λ z. cc), refl))),
            refl,
          ),
        ),
      ),
    ),
  )

  numbered_seg : (w : List ℕ) (n : ℕ) (r : List ℕ) → 123 ∷ ((w ++ (35 ∷ (decimal n ++ codes "}"))) ++ r) ≡ word_text w (Some n) ++ r
  numbered_seg w n r = ap (λ l. l ++ r) (number_text w (decimal n))

  to_seg_of : (w : List ℕ) (m : Option ℕ) (xs : List Name) → IsSeg (Stands d) (seg_with w m xs) →
      (seg_of deep L.arg).Spells (seg_with w m xs) (word_text w m ++ args_text (map rust_text xs))
  unfolding seg_with
  to_seg_of w None xs h = inr (w, (w, (args_text (map rust_text xs), ((h.0, refl), (to_seg_after w None xs h.1.1, refl)))))
  to_seg_of w (Some n) xs h =
      let first = w ++ (35 ∷ (decimal n ++ codes "}")) in
      inl (
        refl,
        (
          first ++ args_text (map rust_text xs),
          (
            ((w, n), (first, (args_text (map rust_text xs), (to_numbered w n h.0 h.1.0, (to_seg_after w (Some n) xs h.1.1, refl))))),
            sym (numbered_seg w n (args_text (map rust_text xs))),
          ),
        ),
      )

  to_seg : (s : Seg) → IsSeg (Stands d) s → (seg_of deep L.arg).Spells s (seg_text s)
  unfolding seg_with
  to_seg s h = subst ((seg_of deep L.arg).Spells s) (sym (text-Seg s)) (to_seg_of s.word s.number s.args h)

  to_path_from : (alone : Reader Name) (s : Seg) (rest : List Seg) → (s ∷ rest) ≢ plain_str → AllByRecursion (IsSeg (Stands d)) rest →
      (path_from deep L.arg alone s).Spells (Path (s ∷ rest)) (tail_text rest)
  unfolding tail_text
  to_path_from alone s [] other all = by_flag (is_plain_str s) (λ e. absurd (other (ap (λ z. z ∷ []) (plain_is s e)))) (λ e. inr (inr (e, (refl, refl))))
  to_path_from alone s (y ∷ ys) other all =
      let t = joined (codes "::") (map seg_text (y ∷ ys)) in
      inl (
        refl,
        (
          codes ":" ++ t,
          (
            to_literal (codes ":") (bind (many (seg_of deep L.arg) 58 (codes ":")) (λ rest. give (Path (s ∷ rest)))) (Path (s ∷ y ∷ ys)) t
                (to_map (many (seg_of deep L.arg) 58 (codes ":")) (λ rest. Path (s ∷ rest)) (y ∷ ys) t
                ((λ z. cc), text_joined (seg_of deep L.arg).Spells (IsSeg (Stands d)) seg_text (codes "::") to_seg (y ∷ ys) all)),
            refl,
          ),
        ),
      )

  path_tail : Seg → List Seg → List ℕ
  path_tail s rest = args_text (map rust_text s.args) ++ tail_text rest

  to_path_after : (alone : Reader Name) (s : Seg) (rest : List Seg) → (s ∷ rest) ≢ plain_str → IsSeg (Stands d) s → AllByRecursion (IsSeg (Stands d)) rest
      → (path_after deep L.arg alone s.word s.number).Spells (Path (s ∷ rest)) (path_tail s rest)
  unfolding path_tail seg_with
  to_path_after alone s rest other ok all =
      (s, (args_text (map rust_text s.args), (tail_text rest, (to_seg_after s.word s.number s.args ok.1.1, (to_path_from alone s rest other all, refl)))))

  path_is : (s : Seg) (rest : List Seg) → rust_text (Path (s ∷ rest)) ≡ word_text s.word s.number ++ path_tail s rest
  unfolding path_tail tail_text
  path_is s [] = text-Path (s ∷ []) ∙ joined_one (codes "::") (seg_text s) ∙ text-Seg s ∙
      ap (λ l. word_text s.word s.number ++ l) (sym (append-nil (args_text (map rust_text s.args))))
  path_is s (y ∷ ys) =
      text-Path (s ∷ y ∷ ys) ∙ joined_cons (codes "::") (seg_text s) (seg_text y) (map seg_text ys) ∙
      ap (λ l. l ++ (codes "::" ++ joined (codes "::") (map seg_text (y ∷ ys)))) (text-Seg s)
      ∙ append_assoc (word_text s.word s.number) (args_text (map rust_text s.args)) (codes "::" ++ joined (codes "::") (map seg_text (y ∷ ys)))

  -- a path by its first segment
  to_path : (alone : Reader Name) (worded : List ℕ → Reader Name) (R : Reader Name) (s : Seg) (rest : List Seg)
      → ((t : List ℕ) → (path_after deep L.arg alone s.word None).Spells (Path (s ∷ rest)) t → (worded s.word).Spells (Path (s ∷ rest)) t)
      → ((t : List ℕ) → (numbered_path deep L.arg).Spells (Path (s ∷ rest)) t → R.Spells (Path (s ∷ rest)) t) → (s ∷ rest) ≢ plain_str →
      IsSeg (Stands d) s → AllByRecursion (IsSeg (Stands d)) rest
      → (where_first starts_word (bind word worded) R).Spells (Path (s ∷ rest)) (rust_text (Path (s ∷ rest)))
  to_path alone worded R s rest as_word as_number other ok all =
      subst ((where_first starts_word (bind word worded) R).Spells (Path (s ∷ rest))) (sym (path_is s rest)) (each s.number refl)
    where
      each : (m : Option ℕ) → s.number ≡ m → (where_first starts_word (bind word worded) R).Spells (Path (s ∷ rest)) (word_text s.word m ++ path_tail s rest)
      each None e =
          inl (
            s.word,
            (
              s.word,
              (
                path_tail s rest,
                (
                  (ok.0, refl),
                  (
                    as_word (path_tail s rest)
                        (subst (λ m. (path_after deep L.arg alone s.word m).Spells (Path (s ∷ rest)) (path_tail s rest)) e
                        (to_path_after alone s rest other ok all)),
                    refl,
                  ),
                ),
              ),
            ),
          )
      each (Some n) e =
          let first = s.word ++ (35 ∷ (decimal n ++ codes "}")) in
          let less : n < 2 ^ 32 = subst (λ m. IfSome m (λ n. n < 2 ^ 32)) e ok.1.0 in
          inr (as_number (word_text s.word (Some n) ++ path_tail s rest)
          (inl (
            refl,
            (
              first ++ path_tail s rest,
              (
                (
                  (s.word, n),
                  (
                    first,
                    (
                      path_tail s rest,
                      (
                        to_numbered s.word n ok.0 less,
                        (
                          subst (λ m. (path_after deep L.arg never s.word m).Spells (Path (s ∷ rest)) (path_tail s rest)) e
                              (to_path_after never s rest other ok all),
                          refl,
                        ),
                      ),
                    ),
                  ),
                ),
                sym (numbered_seg s.word n (path_tail s rest)),
              ),
            ),
          )))

  to_bracketed_slice : (x : Name) → Stands d whole x → (bracketed L).Spells (Slice x) (rust_text x ++ codes "]")
  to_bracketed_slice x h = (x, (rust_text x, (codes "]", (spells.to_whole x h, (inl (refl, ([], ((refl, refl), refl))), refl)))))

  to_bracketed_array : (x : Name) (n : ℕ) → Stands d whole x → n < 2 ^ 64 →
      (bracketed L).Spells (Array x n) (rust_text x ++ (codes "; " ++ (decimal n ++ codes "]")))
  to_bracketed_array x n h less = (
    x,
    (
      rust_text x,
      (
        codes "; " ++ (decimal n ++ codes "]"),
        (
          spells.to_whole x h,
          (
            inr (to_literal (codes "; ") (bind (number true (2 ^ 64 - 1)) (λ n. bind (literal (codes "]")) (λ _. give (Array x n)))) (Array x n)
                (decimal n ++ codes "]")
                (to_closed (number true (2 ^ 64 - 1)) (codes "]") (Array x) n (decimal n) (omega arith, ((λ z. cc), refl)))),
            refl,
          ),
        ),
      ),
    ),
  )

  to_referred_word : (w : List ℕ) (x : Name) (q : List ℕ) → (L.worded w).Spells x q → (referred_word L w).Spells (Pointer Ref x) q
  to_referred_word w x q h =
      by_flag (is_word w (codes "mut"))
      (λ e. inl (
        e,
        inr (to_map (L.plain w) (Pointer Ref) x q
            (subst (λ w. (L.plain w).Spells x q) (sym (same_word w (codes "mut") e))
            (spells.mut_plain x q (subst (λ w. (L.worded w).Spells x q) (same_word w (codes "mut") e) h)))),
      ))
      (λ e. inr (e, to_map (L.worded w) (Pointer Ref) x q h))

  to_referred : (x : Name) → Stands d whole x → (referred L).Spells (Pointer Ref x) (rust_text x)
  to_referred x h = each (spells.split x (rust_text x) (spells.to_whole x h))
    where
      each : ((w : List ℕ) × ((q : List ℕ) × (IsWord w × ((L.worded w).Spells x q × (rust_text x ≡ w ++ q))))) ⊎ (L.symbol true).Spells x (rust_text x) →
          (referred L).Spells (Pointer Ref x) (rust_text x)
      each (inl (w, (q, (isw, (g, e))))) = inl (w, (w, (q, ((isw, refl), (to_referred_word w x q g, e)))))
      each (inr g) = inr (to_map (L.symbol true) (Pointer Ref) x (rust_text x) g)

  to_referred_mut : (x : Name) → Stands d whole x → (referred L).Spells (Pointer RefMut x) (codes "mut " ++ rust_text x)
  to_referred_mut x h =
      inl (
        codes "mut",
        (
          codes "mut",
          (
            32 ∷ rust_text x,
            (
              (mut_word, refl),
              (inl (refl, inl (refl, (rust_text x, (to_map L.whole (Pointer RefMut) x (rust_text x) (spells.to_whole x h), refl)))), refl),
            ),
          ),
        ),
      )

  names_end : Name → List Name → List ℕ
  names_end x [] = codes ")"
  names_end x (y ∷ ys) = codes ", " ++ (joined (codes ", ") (map rust_text (y ∷ ys)) ++ codes ")")

  to_tuple_from : (x : Name) (xs : List Name) → AllByRecursion (Stands d whole) xs → (tuple_from L x).Spells (Tuple (x ∷ xs)) (names_end x xs)
  unfolding names_end
  to_tuple_from x [] h = inr (to_end (codes ")") (Tuple (x ∷ [])))
  to_tuple_from x (y ∷ ys) h =
      let t = joined (codes ", ") (map rust_text (y ∷ ys)) in
      inl (
        refl,
        (
          codes " " ++ (t ++ codes ")"),
          (
            to_literal (codes " ") (bind (many L.whole 44 (codes " ")) (λ rest. bind (literal (codes ")")) (λ _. give (Tuple (x ∷ rest)))))
                (Tuple (x ∷ y ∷ ys)) (t ++ codes ")")
                (to_closed (many L.whole 44 (codes " ")) (codes ")") (λ rest. Tuple (x ∷ rest)) (y ∷ ys) t
                ((λ z. cc), text_joined L.whole.Spells (Stands d whole) rust_text (codes ", ") spells.to_whole (y ∷ ys) h)),
            refl,
          ),
        ),
      )

  names_split : (x : Name) (xs : List Name) → joined (codes ", ") (map rust_text (x ∷ xs)) ++ codes ")" ≡ rust_text x ++ names_end x xs
  unfolding names_end
  names_split x [] = ap (λ l. l ++ codes ")") (joined_one (codes ", ") (rust_text x))
  names_split x (y ∷ ys) =
      ap (λ l. l ++ codes ")") (joined_cons (codes ", ") (rust_text x) (rust_text y) (map rust_text ys))
      ∙ append_assoc (rust_text x) (codes ", " ++ joined (codes ", ") (map rust_text (y ∷ ys))) (codes ")")

  abbrev Parts : Name → List Name → Type 0
  Parts x xs = (parts L).Spells (Tuple (x ∷ xs)) (rust_text x ++ names_end x xs)

  to_parts_worded : (w : List ℕ) (x : Name) (xs : List Name) (q : List ℕ) → (L.worded w).Spells x q → AllByRecursion (Stands d whole) xs →
      (parts_word L w).Spells (Tuple (x ∷ xs)) (q ++ names_end x xs)
  to_parts_worded w x xs q h all =
      by_flag (is_word w (codes "dyn"))
      (λ e. inl (e, dyn (same_word w (codes "dyn") e) (spells.dyn_plain x q (subst (λ w. (L.worded w).Spells x q) (same_word w (codes "dyn") e) h))))
      (λ e. inr (e, (x, (q, (names_end x xs, (h, (to_tuple_from x xs all, refl)))))))
    where
      lone : (a : Name) → x ≡ Dyn (a ∷ []) → L.holds a ≡ true → (dyn_from L a).Spells (Tuple (x ∷ xs)) (names_end x xs)
      lone a is held = inr (inl (held, subst (λ y. (tuple_from L y).Spells (Tuple (x ∷ xs)) (names_end x xs)) is (to_tuple_from x xs all)))

      dyn : w ≡ codes "dyn" →
          (L.plain (codes "dyn")).Spells x q ⊎ ((a : Name) × ((x ≡ Dyn (a ∷ [])) × (Stands d member a × ((L.holds a ≡ true) × (q ≡ 32 ∷ rust_text a)))))
          → (on true 32 (bind L.member (dyn_from L)) (bind (L.plain w) (tuple_from L))).Spells (Tuple (x ∷ xs)) (q ++ names_end x xs)
      dyn e (inl g) = inr (x, (q, (names_end x xs, (subst (λ w. (L.plain w).Spells x q) (sym e) g, (to_tuple_from x xs all, refl)))))
      dyn e (inr (a, (is, (ok, (held, at))))) =
          inl (
            refl,
            (
              rust_text a ++ names_end x xs,
              ((a, (rust_text a, (names_end x xs, (spells.to_member a ok, (lone a is held, refl))))), ap (λ l. l ++ names_end x xs) at),
            ),
          )

  to_parts : (x : Name) (xs : List Name) → Stands d whole x → AllByRecursion (Stands d whole) xs → Parts x xs
  to_parts x xs h all = each (spells.split x (rust_text x) (spells.to_whole x h))
    where
      each : ((w : List ℕ) × ((q : List ℕ) × (IsWord w × ((L.worded w).Spells x q × (rust_text x ≡ w ++ q))))) ⊎ (L.symbol true).Spells x (rust_text x) →
          Parts x xs
      each (inl (w, (q, (isw, (g, e))))) =
          inl (
            w,
            (
              w,
              (
                q ++ names_end x xs,
                ((isw, refl), (to_parts_worded w x xs q g all, ap (λ l. l ++ names_end x xs) e ∙ append_assoc w q (names_end x xs))),
              ),
            ),
          )
      each (inr g) = inr (x, (rust_text x, (names_end x xs, (g, (to_tuple_from x xs all, refl)))))

  several : (a b : Name) (cs : List Name) → AllByRecursion (Stands d member) (a ∷ b ∷ cs) →
      (parts L).Spells (Dyn (a ∷ b ∷ cs)) (codes "dyn " ++ (joined (codes " + ") (map rust_text (a ∷ b ∷ cs)) ++ codes ")"))
  several a b cs all =
      let n = Dyn (a ∷ b ∷ cs) in
      let t = joined (codes " + ") (map rust_text (b ∷ cs)) in
      let q = codes "+ " ++ (t ++ codes ")") in
      let inside = joined (codes " + ") (map rust_text (a ∷ b ∷ cs)) ++ codes ")" in
      let rest : (bind (many L.member 32 (codes "+ ")) (λ rest. bind (literal (codes ")")) (λ _. give (Dyn (a ∷ rest))))).Spells n (t ++ codes ")") =
      to_closed (many L.member 32 (codes "+ ")) (codes ")") (λ rest. Dyn (a ∷ rest)) (b ∷ cs) t
      ((λ z. cc), text_joined L.member.Spells (Stands d member) rust_text (codes " + ") spells.to_member (b ∷ cs) all.1) in
      let more : (dyn_from L a).Spells n (32 ∷ q) =
      inl (
        refl,
        (
          q,
          (
            to_literal (codes "+ ")
                (bind (many L.member 32 (codes "+ ")) (λ rest. bind (literal (codes ")")) (λ _. give (Dyn (a ∷ rest))))) n (t ++ codes ")") rest,
            refl,
          ),
        ),
      ) in
      let at : inside ≡ rust_text a ++ (32 ∷ q) =
      ap (λ l. l ++ codes ")") (joined_cons (codes " + ") (rust_text a) (rust_text b) (map rust_text cs)) ∙
      append_assoc (rust_text a) (codes " + " ++ t) (codes ")") in
      let inner : (bind L.member (dyn_from L)).Spells n inside = (a, (rust_text a, (32 ∷ q, (spells.to_member a all.0, (more, at))))) in
      let after : (parts_word L (codes "dyn")).Spells n (32 ∷ inside) = inl (refl, inl (refl, (inside, (inner, refl)))) in
      inl (codes "dyn", (codes "dyn", (32 ∷ inside, ((dyn_word, refl), (after, refl)))))

  empty_tuple : (x : Name) → is_empty_tuple x ≡ true → x ≡ Tuple []
  empty_tuple =
      Name-cases (λ x. is_empty_tuple x ≡ true → x ≡ Tuple [])
      (λ segs e. other (Path segs) (ap is_empty_layer (outs-Path segs)) e) (λ kind x e. other (Pointer kind x) (ap is_empty_layer (outs-Pointer kind x)) e)
      (λ x e. other (Slice x) (ap is_empty_layer (outs-Slice x)) e)
      (λ x n e. other (Array x n) (ap is_empty_layer (outs-Array x n)) e) tuple (λ e. other Str (ap is_empty_layer outs-Str) e)
      (λ xs e. other (Dyn xs) (ap is_empty_layer (outs-Dyn xs)) e)
      (λ xs x e. other (Fn xs x) (ap is_empty_layer (outs-Fn xs x)) e) (λ minus n e. other (Number minus n) (ap is_empty_layer (outs-Number minus n)) e)
      (λ w x e. other (Bind w x) (ap is_empty_layer (outs-Bind w x)) e)
      (λ t e. other (Raw t) (ap is_empty_layer (outs-Raw t)) e)
    where
      other : (x : Name) → is_empty_tuple x ≡ false → is_empty_tuple x ≡ true → x ≡ Tuple []
      other x e f = let no : true ≡ false = sym f ∙ e in cc

      tuple : (xs : List Name) → is_empty_tuple (Tuple xs) ≡ true → Tuple xs ≡ Tuple []
      tuple [] e = refl
      tuple (x ∷ xs) e = let no : true ≡ false = sym e ∙ ap is_empty_layer (outs-Tuple (x ∷ xs)) in cc

  to_result : (xs : List Name) (x : Name) → Stands d whole x → (result_of L xs).Spells (Fn xs x) (result_text x (rust_text x))
  to_result xs x h = by_flag (is_empty_tuple x) none some
    where
      none : is_empty_tuple x ≡ true → (result_of L xs).Spells (Fn xs x) (result_text x (rust_text x))
      none e = inr (ap (Fn xs) (empty_tuple x e), ap (λ z. if z then [] else codes " -> " ++ rust_text x) e)

      arrow : is_empty_tuple x ≡ false →
          ((w : List ℕ) × ((q : List ℕ) × (IsWord w × ((L.worded w).Spells x q × (rust_text x ≡ w ++ q))))) ⊎ (L.symbol true).Spells x (rust_text x)
          → (where_first starts_word (bind word L.worded) (L.symbol false)).Spells x (rust_text x)
      arrow e (inl (w, (q, (isw, (g, at))))) = inl (w, (w, (q, ((isw, refl), (g, at)))))
      arrow e (inr g) = inr (spells.no_unit x (rust_text x) g e)

      some : is_empty_tuple x ≡ false → (result_of L xs).Spells (Fn xs x) (result_text x (rust_text x))
      some e =
          inl (
            refl,
            (
              codes "-> " ++ rust_text x,
              (
                to_literal (codes "-> ") (bind (where_first starts_word (bind word L.worded) (L.symbol false)) (λ x. give (Fn xs x))) (Fn xs x) (rust_text x)
                    (to_map (where_first starts_word (bind word L.worded) (L.symbol false)) (Fn xs) x (rust_text x)
                    (arrow e (spells.split x (rust_text x) (spells.to_whole x h)))),
                ap (λ z. if z then [] else codes " -> " ++ rust_text x) e,
              ),
            ),
          )

  to_function : (xs : List Name) (x : Name) → AllByRecursion (Stands d whole) xs → Stands d whole x →
      (function L).Spells (Fn xs x) (joined (codes ", ") (map rust_text xs) ++ (codes ")" ++ result_text x (rust_text x)))
  to_function [] x all h = inl (refl, (result_text x (rust_text x), (to_result [] x h, refl)))
  to_function (y ∷ ys) x all h =
      inr (
        y ∷ ys,
        (
          joined (codes ", ") (map rust_text (y ∷ ys)),
          (
            codes ")" ++ result_text x (rust_text x),
            (
              ((λ z. cc), text_joined L.whole.Spells (Stands d whole) rust_text (codes ", ") spells.to_whole (y ∷ ys) all),
              (to_literal (codes ")") (result_of L (y ∷ ys)) (Fn (y ∷ ys) x) (result_text x (rust_text x)) (to_result (y ∷ ys) x h), refl),
            ),
          ),
        ),
      )

  abbrev W : Reader Name
  W = where_first starts_word (bind word (worded_of deep L)) (symbol_of deep L true)

  abbrev layer : Role → Name → Type 0
  layer role n = IsLayer (Stands d) role (out-Name n)

  at_word : (w : List ℕ) (n : Name) (q : List ℕ) → IsWord w → (worded_of deep L w).Spells n q → W.Spells n (w ++ q)
  at_word w n q isw h = inl (w, (w, (q, ((isw, refl), (h, refl)))))

  as_text : (n : Name) (t : List ℕ) → rust_text n ≡ t → W.Spells n t → W.Spells n (rust_text n)
  as_text n t e h = subst (W.Spells n) (sym e) h

  deep_and : (b : Bool) → deep ≡ true → b ≡ true → (deep && b) ≡ true
  deep_and b e f = ap (λ z. z && b) e ∙ f

  flag_deep : (b : Bool) → deep ≡ true → (b || deep) ≡ true
  flag_deep true e = refl
  flag_deep false e = e

  whole_path : (segs : List Seg) → layer whole (Path segs) → W.Spells (Path segs) (rust_text (Path segs))
  whole_path segs h = each segs (subst (IsLayer (Stands d) whole) (outs-Path segs) h)
    where
      each : (segs : List Seg) → (segs ≢ []) × ((segs ≢ plain_str) × AllByRecursion (IsSeg (Stands d)) segs) → W.Spells (Path segs) (rust_text (Path segs))
      each [] h = absurd (h.0 refl)
      each (s ∷ rest) h = to_path (give Str) (worded_of deep L) (symbol_of deep L true) s rest (λ t x. inr (inr x))
          (λ t x. inr (inr (inr (inr x)))) h.1.0 h.1.1.0 h.1.1.1

  whole_pointer : (kind : PtrKind) (x : Name) → layer whole (Pointer kind x) → W.Spells (Pointer kind x) (rust_text (Pointer kind x))
  whole_pointer kind x h = let p = subst (IsLayer (Stands d) whole) (outs-Pointer kind x) h in each kind p.1.0 p.1.1
    where
      each : (kind : PtrKind) → kind ≢ Boxed → Stands d whole x → W.Spells (Pointer kind x) (rust_text (Pointer kind x))
      each Ref ne ok = as_text (Pointer Ref x) (38 ∷ rust_text x) (text-Pointer Ref x) (inr (inl (is_deep whole x ok, (rust_text x, (to_referred x ok, refl)))))
      each RefMut ne ok = as_text (Pointer RefMut x) (38 ∷ (codes "mut " ++ rust_text x)) (text-Pointer RefMut x)
          (inr (inl (is_deep whole x ok, (codes "mut " ++ rust_text x, (to_referred_mut x ok, refl)))))
      each Const ne ok =
          let to = to_literal (codes "onst ") (bind L.whole (λ x. give (Pointer Const x))) (Pointer Const x) (rust_text x)
          (to_map L.whole (Pointer Const) x (rust_text x) (spells.to_whole x ok)) in
          as_text (Pointer Const x) (42 ∷ (99 ∷ (codes "onst " ++ rust_text x))) (text-Pointer Const x)
          (inr (inr (inl (is_deep whole x ok, (99 ∷ (codes "onst " ++ rust_text x), (inl (refl, (codes "onst " ++ rust_text x, (to, refl))), refl))))))
      each Mut ne ok =
          let to = to_literal (codes "ut ") (bind L.whole (λ x. give (Pointer Mut x))) (Pointer Mut x) (rust_text x)
          (to_map L.whole (Pointer Mut) x (rust_text x) (spells.to_whole x ok)) in
          as_text (Pointer Mut x) (42 ∷ (109 ∷ (codes "ut " ++ rust_text x))) (text-Pointer Mut x)
          (inr (inr (inl (is_deep whole x ok, (109 ∷ (codes "ut " ++ rust_text x), (inr (inl (refl, (codes "ut " ++ rust_text x, (to, refl)))), refl))))))
      each Boxed ne ok = absurd (ne refl)

  whole_slice : (x : Name) → layer whole (Slice x) → W.Spells (Slice x) (rust_text (Slice x))
  whole_slice x h =
      let p = subst (IsLayer (Stands d) whole) (outs-Slice x) h in
      as_text (Slice x) (91 ∷ (rust_text x ++ codes "]")) (text-Slice x)
      (inr (inr (inr (inl (is_deep whole x p.1, (rust_text x ++ codes "]", (to_bracketed_slice x p.1, refl)))))))

  whole_array : (x : Name) (n : ℕ) → layer whole (Array x n) → W.Spells (Array x n) (rust_text (Array x n))
  whole_array x n h =
      let p = subst (IsLayer (Stands d) whole) (outs-Array x n) h in
      let q = rust_text x ++ (codes "; " ++ (decimal n ++ codes "]")) in
      as_text (Array x n) (91 ∷ q) (text-Array x n ∙ ap (λ l. 91 ∷ l) (sym (array_text (rust_text x) (decimal n))))
      (inr (inr (inr (inl (is_deep whole x p.1.0, (q, (to_bracketed_array x n p.1.0 p.1.1, refl)))))))

  abbrev inside : Bool → Reader Name
  inside unit = on unit 41 (give (Tuple [])) (either deep (parts L) never)

  in_parentheses : (n : Name) (q : List ℕ) → (inside true).Spells n q → W.Spells n (40 ∷ q)
  in_parentheses n q h = inr (inr (inr (inr (inl (refl, (q, (h, refl)))))))

  whole_tuple : (xs : List Name) → layer whole (Tuple xs) → W.Spells (Tuple xs) (rust_text (Tuple xs))
  whole_tuple [] h = as_text (Tuple []) (codes "()") (text-Tuple []) (in_parentheses (Tuple []) (codes ")") (inl (refl, ([], ((refl, refl), refl)))))
  whole_tuple (x ∷ xs) h =
      let p = subst (IsLayer (Stands d) whole) (outs-Tuple (x ∷ xs)) h in
      as_text (Tuple (x ∷ xs)) (40 ∷ (rust_text x ++ names_end x xs)) (text-Tuple (x ∷ xs) ∙ ap (λ l. 40 ∷ l) (names_split x xs))
      (in_parentheses (Tuple (x ∷ xs)) (rust_text x ++ names_end x xs) (inr (inl (is_deep whole x p.1.0, to_parts x xs p.1.0 p.1.1))))

  whole_str : W.Spells Str (rust_text Str)
  unfolding seg_with
  whole_str =
      let s = seg_with (codes "str") None [] in
      let path : (path_after deep L.arg (give Str) (codes "str") None).Spells Str [] =
      (s, ([], ([], (to_seg_after (codes "str") None [] tt, (inr (inl (refl, (refl, refl))), refl))))) in
      as_text Str (codes "str") text-Str (at_word (codes "str") Str [] str_word (inr (inr path)))

  whole_dyn : (xs : List Name) → layer whole (Dyn xs) → W.Spells (Dyn xs) (rust_text (Dyn xs))
  whole_dyn xs h = each xs (subst (IsLayer (Stands d) whole) (outs-Dyn xs) h)
    where
      each : (xs : List Name) → IsNoMember whole × ((xs ≢ []) × AllByRecursion (Stands d member) xs) → W.Spells (Dyn xs) (rust_text (Dyn xs))
      each [] p = absurd (p.1.0 refl)
      each (a ∷ []) p =
          let ok = p.1.1.0 in
          as_text (Dyn (a ∷ [])) (codes "dyn" ++ (32 ∷ rust_text a)) (text-Dyn (a ∷ []) ∙ ap (λ l. codes "dyn " ++ l) (joined_one (codes " + ") (rust_text a)))
          (at_word (codes "dyn") (Dyn (a ∷ [])) (32 ∷ rust_text a) dyn_word
          (inl (
            deep_and true (is_deep member a ok) refl,
            (rust_text a, (to_map L.member (λ a. Dyn (a ∷ [])) a (rust_text a) (spells.to_member a ok), refl)),
          )))
      each (a ∷ b ∷ cs) p =
          let q = codes "dyn " ++ (joined (codes " + ") (map rust_text (a ∷ b ∷ cs)) ++ codes ")") in
          as_text (Dyn (a ∷ b ∷ cs)) (40 ∷ q) (text-Dyn (a ∷ b ∷ cs))
          (in_parentheses (Dyn (a ∷ b ∷ cs)) q (inr (inl (is_deep member a p.1.1.0, several a b cs p.1.1))))

  whole_fn : (xs : List Name) (x : Name) → layer whole (Fn xs x) → W.Spells (Fn xs x) (rust_text (Fn xs x))
  whole_fn xs x h =
      let p = subst (IsLayer (Stands d) whole) (outs-Fn xs x) h in
      let head = joined (codes ", ") (map rust_text xs) in
      let q = head ++ (codes ")" ++ result_text x (rust_text x)) in
      as_text (Fn xs x) (codes "fn" ++ (40 ∷ q)) (text-Fn xs x ∙ ap (λ l. codes "fn(" ++ l) (append_assoc head (codes ")") (result_text x (rust_text x))))
      (at_word (codes "fn") (Fn xs x) (40 ∷ q) fn_word (inr (inl (deep_and true (is_deep whole x p.1.1) refl, (q, (to_function xs x p.1.0 p.1.1, refl))))))

  to_whole_above : (n : Name) → layer whole n → W.Spells n (rust_text n)
  to_whole_above =
      Name-cases (λ n. layer whole n → W.Spells n (rust_text n)) whole_path whole_pointer whole_slice whole_array whole_tuple
      (λ h. whole_str) whole_dyn whole_fn
      (λ minus n h. absurd (subst (IsLayer (Stands d) whole) (outs-Number minus n) h).0)
      (λ w x h. absurd (subst (IsLayer (Stands d) whole) (outs-Bind w x) h).0) (λ t h. absurd (subst (IsLayer (Stands d) whole) (outs-Raw t) h))

  -- args
  abbrev or_number : Reader Name
  or_number = on true 45 (bind (number false (2 ^ 128 - 1)) (λ n. give (Number true n)))
      (where_first starts_digit (bind (number true (2 ^ 128 - 1)) (λ n. give (Number false n))) (symbol_of deep L true))

  abbrev A : Reader Name
  A = where_first starts_word (bind word (arg_word deep L)) or_number

  abbrev ToArg : Name → Type 0
  ToArg n = layer arg n → A.Spells n (rust_text n)

  whole_as_arg : (n : Name) (t : List ℕ) → W.Spells n t → A.Spells n t
  whole_as_arg n t (inl (w, (p, (q, (isw, (h, e)))))) = inl (w, (p, (q, (isw, (inr h, e)))))
  whole_as_arg n t (inr h) = inr (inr (inr h))

  from_whole : (n : Name) → (layer arg n → layer whole n) → ToArg n
  from_whole n f h = whole_as_arg n (rust_text n) (to_whole_above n (f h))

  arg_number : (minus : Bool) (n : ℕ) → ToArg (Number minus n)
  arg_number minus n h = let p =
      subst (IsLayer (Stands d) arg) (outs-Number minus n) h in subst (A.Spells (Number minus n)) (sym (text-Number minus n)) (each minus p.1.0 p.1.1)
    where
      each : (minus : Bool) → n < 2 ^ 128 → (minus ≡ true → n ≢ 0) → A.Spells (Number minus n) (sign_text minus ++ decimal n)
      each true less some =
          inr (inl (refl, (decimal n, (to_map (number false (2 ^ 128 - 1)) (Number true) n (decimal n) (omega arith, ((λ z. some refl), refl)), refl))))
      each false less some = inr (inr (inl (to_map (number true (2 ^ 128 - 1)) (Number false) n (decimal n) (omega arith, ((λ z. cc), refl)))))

  arg_bind : (w : List ℕ) (x : Name) → ToArg (Bind w x)
  arg_bind w x h =
      let p = subst (IsLayer (Stands d) arg) (outs-Bind w x) h in
      inl (
        w,
        (
          w,
          (
            61 ∷ rust_text x,
            (
              (p.1.0, refl),
              (
                inl (is_deep whole x p.1.1, (rust_text x, (to_map L.whole (Bind w) x (rust_text x) (spells.to_whole x p.1.1), refl))),
                text-Bind w x ∙ append_assoc w (codes "=") (rust_text x),
              ),
            ),
          ),
        ),
      )

  to_arg_above : (n : Name) → ToArg n
  to_arg_above =
      Name-cases ToArg (λ segs.
      from_whole (Path segs) (λ h. subst (IsLayer (Stands d) whole) (sym (outs-Path segs)) (subst (IsLayer (Stands d) arg) (outs-Path segs) h)))
      (λ kind x. from_whole (Pointer kind x)
      (λ h. subst (IsLayer (Stands d) whole) (sym (outs-Pointer kind x)) (subst (IsLayer (Stands d) arg) (outs-Pointer kind x) h)))
      (λ x. from_whole (Slice x) (λ h. subst (IsLayer (Stands d) whole) (sym (outs-Slice x)) (subst (IsLayer (Stands d) arg) (outs-Slice x) h)))
      (λ x n. from_whole (Array x n) (λ h. subst (IsLayer (Stands d) whole) (sym (outs-Array x n)) (subst (IsLayer (Stands d) arg) (outs-Array x n) h)))
      (λ xs. from_whole (Tuple xs) (λ h. subst (IsLayer (Stands d) whole) (sym (outs-Tuple xs)) (subst (IsLayer (Stands d) arg) (outs-Tuple xs) h)))
      (from_whole Str (λ h. subst (IsLayer (Stands d) whole) (sym outs-Str) (subst (IsLayer (Stands d) arg) outs-Str h)))
      (λ xs. from_whole (Dyn xs) (λ h. subst (IsLayer (Stands d) whole) (sym (outs-Dyn xs)) (subst (IsLayer (Stands d) arg) (outs-Dyn xs) h)))
      (λ xs x. from_whole (Fn xs x) (λ h. subst (IsLayer (Stands d) whole) (sym (outs-Fn xs x)) (subst (IsLayer (Stands d) arg) (outs-Fn xs x) h)))
      arg_number arg_bind (λ t h. absurd (subst (IsLayer (Stands d) arg) (outs-Raw t) h))

  -- members
  abbrev M : Reader Name
  M = where_first starts_word (bind word (λ w. path_after deep L.arg never w None)) (numbered_path deep L.arg)

  abbrev ToMember : Name → Type 0
  ToMember n = layer member n → M.Spells n (rust_text n)

  member_path : (segs : List Seg) → ToMember (Path segs)
  member_path segs h = each segs (subst (IsLayer (Stands d) member) (outs-Path segs) h)
    where
      each : (segs : List Seg) → (segs ≢ []) × ((segs ≢ plain_str) × AllByRecursion (IsSeg (Stands d)) segs) → M.Spells (Path segs) (rust_text (Path segs))
      each [] h = absurd (h.0 refl)
      each (s ∷ rest) h = to_path never (λ w. path_after deep L.arg never w None) (numbered_path deep L.arg) s rest (λ t x. x) (λ t x. x) h.1.0 h.1.1.0 h.1.1.1

  to_member_above : (n : Name) → ToMember n
  to_member_above =
      Name-cases ToMember member_path (λ kind x h. absurd (subst (IsLayer (Stands d) member) (outs-Pointer kind x) h).0)
      (λ x h. absurd (subst (IsLayer (Stands d) member) (outs-Slice x) h).0)
      (λ x n h. absurd (subst (IsLayer (Stands d) member) (outs-Array x n) h).0) (λ xs h. absurd (subst (IsLayer (Stands d) member) (outs-Tuple xs) h).0)
      (λ h. absurd (subst (IsLayer (Stands d) member) outs-Str h))
      (λ xs h. absurd (subst (IsLayer (Stands d) member) (outs-Dyn xs) h).0) (λ xs x h. absurd (subst (IsLayer (Stands d) member) (outs-Fn xs x) h).0)
      (λ minus n h. absurd (subst (IsLayer (Stands d) member) (outs-Number minus n) h).0)
      (λ w x h. absurd (subst (IsLayer (Stands d) member) (outs-Bind w x) h).0) (λ t h. absurd (subst (IsLayer (Stands d) member) (outs-Raw t) h))

  split_above : (n : Name) (t : List ℕ) → W.Spells n t →
      ((w : List ℕ) × ((q : List ℕ) × (IsWord w × ((worded_of deep L w).Spells n q × (t ≡ w ++ q))))) ⊎ (symbol_of deep L true).Spells n t
  split_above n t (inl (w, (p, (q, (isw, (h, e)))))) = inl (w, (q, (isw.0, (h, e ∙ ap (λ l. l ++ q) isw.1))))
  split_above n t (inr h) = inr h

  no_unit_above : (n : Name) (t : List ℕ) → (symbol_of deep L true).Spells n t → is_empty_tuple n ≡ false → (symbol_of deep L false).Spells n t
  no_unit_above n t (inl h) e = inl h
  no_unit_above n t (inr (inl h)) e = inr (inl h)
  no_unit_above n t (inr (inr (inl h))) e = inr (inr (inl h))
  no_unit_above n t (inr (inr (inr (inl (f, (q, (inl (g, (r, (h, e2))), e1))))))) e = let no : true ≡ false =
      sym (ap is_empty_tuple h.0 ∙ ap is_empty_layer (outs-Tuple [])) ∙ e in cc
  no_unit_above n t (inr (inr (inr (inl (f, (q, (inr (inl (g, h)), e1))))))) e = inr (inr (inr (inl (flag_deep false g, (q, (inr (inl (g, h)), e1))))))
  no_unit_above n t (inr (inr (inr (inl (f, (q, (inr (inr (g, h)), e1))))))) e = absurd h
  no_unit_above n t (inr (inr (inr (inr h)))) e = inr (inr (inr (inr h)))

  mut_above : (n : Name) (t : List ℕ) → (worded_of deep L (codes "mut")).Spells n t → (path_after deep L.arg (give Str) (codes "mut") None).Spells n t
  mut_above n t (inl h) = let no : false ≡ true = and_right deep false h.0 in cc
  mut_above n t (inr (inl h)) = let no : false ≡ true = and_right deep false h.0 in cc
  mut_above n t (inr (inr h)) = h

  dyn_above : (n : Name) (t : List ℕ) → (worded_of deep L (codes "dyn")).Spells n t
      → (path_after deep L.arg (give Str) (codes "dyn") None).Spells n t ⊎ ((a : Name) × ((n ≡ Dyn (a ∷ [])) × (Stands d member a × (t ≡ 32 ∷ rust_text a))))
  dyn_above n t (inl (f, (q, (h, e)))) =
      let m = of_map L.member (λ a. Dyn (a ∷ [])) n q h in let a = means.of_member m.0 q m.1.0 in inr (m.0, (m.1.1, (a.0, e ∙ ap (λ l. 32 ∷ l) a.1)))
  dyn_above n t (inr (inl h)) = let no : false ≡ true = and_right deep false h.0 in cc
  dyn_above n t (inr (inr h)) = inl h

spells_above : (d : ℕ) (L : Level) → Means d L → Spells d L → (deep : Bool) → ((role : Role) (n : Name) → Stands d role n → deep ≡ true) →
    Spells (suc d) (level_of (fits d) deep L)
unfolding Stands
spells_above d L means spells deep is_deep = record {
  to_whole = to_whole_above d L means spells deep is_deep;
  to_arg = to_arg_above d L means spells deep is_deep;
  to_member = to_member_above d L means spells deep is_deep;
  split = split_above d L means spells deep is_deep;
  no_unit = no_unit_above d L means spells deep is_deep;
  mut_plain = mut_above d L means spells deep is_deep;
  dyn_plain = λ n t h. held (dyn_above d L means spells deep is_deep n t h);
}
  where
    held : {n : Name} {t : List ℕ} {P : Type 0} → P ⊎ ((a : Name) × ((n ≡ Dyn (a ∷ [])) × (Stands d member a × (t ≡ 32 ∷ rust_text a))))
        → P ⊎ ((a : Name) × ((n ≡ Dyn (a ∷ [])) × (Stands (suc d) member a × ((fits d a ≡ true) × (t ≡ 32 ∷ rust_text a)))))
    held (inl h) = inl h
    held (inr (a, (is, (ok, at)))) = inr (a, (is, (stands_deeper d member a ok, (stands_fits d member a ok, at))))

no_spells : Spells 0 none_level
unfolding Stands
no_spells = record {
  to_whole = λ n h. absurd h;
  to_arg = λ n h. absurd h;
  to_member = λ n h. absurd h;
  split = λ n t h. absurd h;
  no_unit = λ n t h e. absurd h;
  mut_plain = λ n t h. absurd h;
  dyn_plain = λ n t h. absurd h;
}

deep_where : (d : ℕ) (role : Role) (n : Name) → Stands d role n → has_some d ≡ true
unfolding Stands
deep_where zero role n h = absurd h
deep_where (suc d) role n h = refl

-- each proper name is read
pub rust_spells : (d : ℕ) → Spells d (rust d)
unfolding rust
rust_spells zero = no_spells
rust_spells (suc d) = spells_above d (rust d) (rust_means d) (rust_spells d) (has_some d) (deep_where d)
