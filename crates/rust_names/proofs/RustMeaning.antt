-- What is read by the grammar of Rust's spelling is a name with its text.
use Rattle.std.proofs.Common.{◌≡◌, ◌≢◌, ℕ, zero, suc, ◌-◌, ◌^◌, ◌<◌, Bool, true, false, ◌&&◌, if◌then◌else◌, List, [], ◌∷◌, ◌++◌, map}
use Rattle.std.proofs.Common.{Option, Some, None, IfSome, inl, inr, refl, sym, ap, subst, ◌∙◌, arith, codes, append_assoc, append-nil}
use Rattle.std.specs.List.{AllByRecursion}
use Rattle.std.specs.Fmt.{decimal}
use Rattle.std.proofs.lemmas.Slice.Eq.{bytes_eq-Decides}
use Rattle.names.specs.declared.name.Name.{Name, out-Name}
use Rattle.names.specs.declared.name.Name.TheOpen.{Name-F}
use Rattle.names.specs.declared.name.Name.TheVariants.{Path, Pointer, Array, Tuple, Str, Dyn, Fn, Number, Bind, outs-Path, outs-Pointer}
use Rattle.names.specs.declared.name.Name.TheVariants.{outs-Slice, outs-Array, outs-Tuple, outs-Str, outs-Dyn, outs-Fn, outs-Number}
use Rattle.names.specs.declared.name.Name.TheVariants.{outs-Bind}
use Rattle.names.specs.declared.name.Seg.{Seg}
use Rattle.names.specs.declared.name.PtrKind.{PtrKind}
use Rattle.names.specs.declared.name.PtrKind.TheVariants.{Ref, RefMut, Const, Mut, Boxed}
use Rattle.names.specs.Words.{IsWord}
use Rattle.names.specs.Names.{Role, whole, arg, member, plain_str, IsSeg, IsLayer, Stands}
use Rattle.rust_names.specs.RustText.{rust_text, seg_text, word_text, args_text, result_text, is_empty_tuple, is_empty_layer}
use Rattle.names.specs.Pointers.{kind_text}
use Rattle.names.specs.Joined.{joined}
use Rattle.names.specs.Signs.{sign_text}
use Rattle.names.specs.Reading.{Reader, give, never, bind, on, where_first, literal, many, word, number, starts_word, starts_digit}
use Rattle.rust_names.specs.RustGrammar.{Level, args_of, numbered, seg_after, seg_of, path_from, path_after, bracketed, pointed}
use Rattle.rust_names.specs.RustGrammar.{referred_word, referred, tuple_from, dyn_from, parts_word, parts, result_of, function}
use Rattle.rust_names.specs.RustGrammar.{numbered_path, worded_of, symbol_of, arg_word, level_of, none_level, fits, rust}
use Rattle.names.specs.Plain.{is_word, is_none, is_empty, is_plain_str, has_some}
use Rattle.rust_names.proofs.RustLevels.{text-Path, text-Pointer, text-Slice, text-Array, text-Tuple, text-Str, text-Dyn, text-Fn}
use Rattle.rust_names.proofs.RustLevels.{text-Number, text-Bind, text-Seg}
use Rattle.names.proofs.Plain.{same_word, none_is, empty_is, plain_is, not_plain, longer_not_plain}
use Rattle.rust_names.proofs.Depth.{fits_stands}
use Rattle.names.proofs.Joined.{joined_cons, joined_one, joined_text, of_literal, of_end, of_map, of_closed}

-- the name may stand there, and this is its text
abbrev pub Is : ℕ → Role → Name → List ℕ → Type 0
Is d role n t = Stands d role n × (t ≡ rust_text n)

-- what the readers of a level read are names that nest at most d deep
pub record Means (d : ℕ) (L : Level) : Type 0 where
  pub of_whole : (n : Name) (t : List ℕ) → L.whole.Spells n t → Is d whole n t
  pub of_arg : (n : Name) (t : List ℕ) → L.arg.Spells n t → Is d arg n t
  pub of_member : (n : Name) (t : List ℕ) → L.member.Spells n t → Is d member n t
  pub of_worded : (w : List ℕ) (n : Name) (t : List ℕ) → IsWord w → (L.worded w).Spells n t → Is d whole n (w ++ t) × (is_empty_tuple n ≡ false)
  pub of_plain : (w : List ℕ) (n : Name) (t : List ℕ) → IsWord w → (L.plain w).Spells n t → Is d whole n (w ++ t)
  pub of_symbol : (unit : Bool) (n : Name) (t : List ℕ) → (L.symbol unit).Spells n t → Is d whole n t × (unit ≡ false → is_empty_tuple n ≡ false)
  pub of_holds : (a : Name) → L.holds a ≡ true → Stands d member a → Stands d whole (Dyn (a ∷ []))

and_parts : (a b : Bool) → (a && b) ≡ true → (a ≡ true) × (b ≡ true)
and_parts true b e = (refl, e)
and_parts false b e = cc

pub number_text : (w n : List ℕ) → 123 ∷ (w ++ (35 ∷ (n ++ 125 ∷ []))) ≡ ((codes "{" ++ w ++ codes "#") ++ n) ++ codes "}"
number_text w n = ap (λ l. 123 ∷ l) (sym (append_assoc w (35 ∷ []) (n ++ 125 ∷ [])) ∙ sym (append_assoc (w ++ 35 ∷ []) n (125 ∷ [])))

pub array_text : (a n : List ℕ) → a ++ (codes "; " ++ (n ++ codes "]")) ≡ ((a ++ codes "; ") ++ n) ++ codes "]"
array_text a n = sym (append_assoc a (codes "; ") (n ++ codes "]")) ∙ sym (append_assoc (a ++ codes "; ") n (codes "]"))

args_some : (xs : List Name) → xs ≢ [] → args_text (map rust_text xs) ≡ 60 ∷ (joined (codes ", ") (map rust_text xs) ++ codes ">")
args_some [] ne = absurd (ne refl)
args_some (x ∷ xs) ne = refl

module _ (d : ℕ) (L : Level) (means : Means d L) (deep : Bool) where
  -- one level above
  abbrev Above : Role → Name → List ℕ → Type 0
  Above role n t = IsLayer (Stands d) role (out-Name n) × (t ≡ rust_text n)

  whole_arg : (n : Name) (t : List ℕ) → Above whole n t → Above arg n t
  whole_arg n t h = (as_arg (out-Name n) h.0, h.1)
    where
      as_arg : (l : Name-F Name Seg) → IsLayer (Stands d) whole l → IsLayer (Stands d) arg l
      as_arg (Name-F.Path segs) h = h
      as_arg (Name-F.Pointer kind x) h = h
      as_arg (Name-F.Slice x) h = h
      as_arg (Name-F.Array x n) h = h
      as_arg (Name-F.Tuple xs) h = h
      as_arg Name-F.Str h = h
      as_arg (Name-F.Dyn xs) h = h
      as_arg (Name-F.Fn xs x) h = h
      as_arg (Name-F.Number minus n) h = absurd h.0
      as_arg (Name-F.Bind w x) h = absurd h.0
      as_arg (Name-F.Raw t) h = h

  of_args : (xs : List Name) (t : List ℕ) → (args_of deep L.arg).Spells xs t → AllByRecursion (Stands d arg) xs × (t ≡ args_text (map rust_text xs))
  of_args xs t (inl (f, (q, (h, e)))) =
      let g = of_closed (many L.arg 44 (codes " ")) (codes ">") (λ xs. xs) xs q h in
      let ys = g.0 in
      let j = joined_text L.arg.Spells (Stands d arg) rust_text (codes ", ") means.of_arg ys g.1.0 g.1.1.0.1 in
      subst (λ l. AllByRecursion (Stands d arg) l × (t ≡ args_text (map rust_text l))) (sym g.1.1.1.0)
      (j.0, e ∙ ap (λ l. 60 ∷ l) (g.1.1.1.1 ∙ ap (λ l. l ++ codes ">") j.1) ∙ sym (args_some ys g.1.1.0.0))
  of_args xs t (inr g) = subst (λ l. AllByRecursion (Stands d arg) l × (t ≡ args_text (map rust_text l))) (sym g.0) (tt, g.1)

  abbrev FitsNumber : Option ℕ → Type 0
  FitsNumber m = IfSome m (λ n. n < 2 ^ 32)

  of_seg_after : (w : List ℕ) (m : Option ℕ) (s : Seg) (t : List ℕ) → IsWord w → FitsNumber m → (seg_after deep L.arg w m).Spells s t →
      IsSeg (Stands d) s × (word_text w m ++ t ≡ seg_text s)
  of_seg_after w m s t isw fit h =
      let g = of_map (args_of deep L.arg) (λ xs. record { word = w; number = m; args = xs }) s t h in
      let a = of_args g.0 t g.1.0 in
      subst (λ s. IsSeg (Stands d) s × (word_text w m ++ t ≡ seg_text s)) (sym g.1.1)
      ((isw, (fit, a.0)), ap (λ l. word_text w m ++ l) a.1 ∙ sym (text-Seg (record { word = w; number = m; args = g.0 })))

  of_numbered : (x : List ℕ × ℕ) (t : List ℕ) → numbered.Spells x t → IsWord x.0 × (FitsNumber (Some x.1) × (123 ∷ t ≡ word_text x.0 (Some x.1)))
  of_numbered x t (w, (p, (q, (isw, (h, e))))) =
      let g = of_literal (codes "#") (bind (number true (2 ^ 32 - 1)) (λ n. bind (literal (codes "}")) (λ _. give (w, n)))) x q h in
      let c = of_closed (number true (2 ^ 32 - 1)) (codes "}") (λ n. (w, n)) x g.0 g.1.0 in
      let n = c.0 in
      let text : 123 ∷ t ≡ word_text w (Some n) =
      ap (λ l. 123 ∷ l) (e ∙ ap (λ l. l ++ q) isw.1 ∙ ap (λ l. w ++ l) (g.1.1 ∙ ap (λ l. 35 ∷ l) (c.1.1.1.1 ∙ ap (λ l. l ++ codes "}") c.1.1.0.1.1))) ∙
      number_text w (decimal n) in
      subst (λ x. IsWord x.0 × (FitsNumber (Some x.1) × (123 ∷ t ≡ word_text x.0 (Some x.1)))) (sym c.1.1.1.0) (isw.0, (omega (arith, c.1.1.0.0), text))

  of_seg : (s : Seg) (t : List ℕ) → (seg_of deep L.arg).Spells s t → IsSeg (Stands d) s × (t ≡ seg_text s)
  of_seg s t (inl (f, (q, ((x, (p, (r, (hn, (hs, e))))), at)))) =
      let n = of_numbered x p hn in
      let g = of_seg_after x.0 (Some x.1) s r n.0 n.1.0 hs in
      (g.0, at ∙ ap (λ l. 123 ∷ l) e ∙ ap (λ l. l ++ r) n.1.1 ∙ g.1)
  of_seg s t (inr (w, (p, (q, (isw, (hs, e)))))) =
      let g = of_seg_after w None s q isw.0 tt hs in
      (g.0, e ∙ ap (λ l. l ++ q) isw.1 ∙ g.1)

  -- a path, or what `str` alone is
  of_path_from : (role : Role) (alone : Reader Name) →
      ((s : Seg) (n : Name) (t : List ℕ) → is_plain_str s ≡ true → alone.Spells n t → Above role n (seg_text s ++ t) × (is_empty_tuple n ≡ false))
      → (s : Seg) (n : Name) (t : List ℕ) → IsSeg (Stands d) s → (path_from deep L.arg alone s).Spells n t →
      Above role n (seg_text s ++ t) × (is_empty_tuple n ≡ false)
  of_path_from role alone lone s n t ok (inl (f, (q, (h, e)))) =
      let g = of_literal (codes ":") (bind (many (seg_of deep L.arg) 58 (codes ":")) (λ rest. give (Path (s ∷ rest)))) n q h in
      let m = of_map (many (seg_of deep L.arg) 58 (codes ":")) (λ rest. Path (s ∷ rest)) n g.0 g.1.0 in
      let j = joined_text (seg_of deep L.arg).Spells (IsSeg (Stands d)) seg_text (codes "::") of_seg m.0 g.0 m.1.0.1 in
      subst (λ n. Above role n (seg_text s ++ t) × (is_empty_tuple n ≡ false)) (sym m.1.1)
      (paths m.0 m.1.0.0 j.0 (e ∙ ap (λ l. 58 ∷ l) (g.1.1 ∙ ap (λ l. 58 ∷ l) j.1)))
    where
      paths : (rest : List Seg) → rest ≢ [] → AllByRecursion (IsSeg (Stands d)) rest → t ≡ codes "::" ++ joined (codes "::") (map seg_text rest) →
          Above role (Path (s ∷ rest)) (seg_text s ++ t) × (is_empty_tuple (Path (s ∷ rest)) ≡ false)
      paths [] ne all at = absurd (ne refl)
      paths (y ∷ ys) ne all at = (
        (
          subst (IsLayer (Stands d) role) (sym (outs-Path (s ∷ y ∷ ys))) ((λ z. cc), (longer_not_plain s y ys, (ok, all))),
          ap (λ l. seg_text s ++ l) at ∙ sym (joined_cons (codes "::") (seg_text s) (seg_text y) (map seg_text ys)) ∙ sym (text-Path (s ∷ y ∷ ys)),
        ),
        ap is_empty_layer (outs-Path (s ∷ y ∷ ys)),
      )
  of_path_from role alone lone s n t ok (inr (inl (f, h))) = lone s n t f h
  of_path_from role alone lone s n t ok (inr (inr (f, h))) =
      subst (λ n. Above role n (seg_text s ++ t) × (is_empty_tuple n ≡ false)) (sym h.0) (
        (
          subst (IsLayer (Stands d) role) (sym (outs-Path (s ∷ []))) ((λ z. cc), (not_plain s f, (ok, tt))),
          ap (λ l. seg_text s ++ l) h.1 ∙ append-nil (seg_text s) ∙ sym (joined_one (codes "::") (seg_text s)) ∙ sym (text-Path (s ∷ [])),
        ),
        ap is_empty_layer (outs-Path (s ∷ [])),
      )

  of_path_after : (role : Role) (alone : Reader Name) →
      ((s : Seg) (n : Name) (t : List ℕ) → is_plain_str s ≡ true → alone.Spells n t → Above role n (seg_text s ++ t) × (is_empty_tuple n ≡ false))
      → (w : List ℕ) (m : Option ℕ) (n : Name) (t : List ℕ) → IsWord w → FitsNumber m → (path_after deep L.arg alone w m).Spells n t →
      Above role n (word_text w m ++ t) × (is_empty_tuple n ≡ false)
  of_path_after role alone lone w m n t isw fit (s, (p, (q, (hs, (h, e))))) =
      let g = of_seg_after w m s p isw fit hs in
      subst (λ l. Above role n l × (is_empty_tuple n ≡ false))
      (ap (λ l. l ++ q) (sym g.1) ∙ append_assoc (word_text w m) p q ∙ ap (λ l. word_text w m ++ l) (sym e)) (of_path_from role alone lone s n q g.0 h)

  lone_str : (s : Seg) (n : Name) (t : List ℕ) → is_plain_str s ≡ true → (give Str).Spells n t → Above whole n (seg_text s ++ t) × (is_empty_tuple n ≡ false)
  lone_str s n t e h =
      subst (λ n. Above whole n (seg_text s ++ t) × (is_empty_tuple n ≡ false)) (sym h.0) (
        (
          subst (IsLayer (Stands d) whole) (sym outs-Str) tt,
          ap (λ l. seg_text s ++ l) h.1 ∙ append-nil (seg_text s) ∙ ap seg_text (plain_is s e) ∙
              text-Seg (record { word = codes "str"; number = None; args = [] }) ∙ sym text-Str,
        ),
        ap is_empty_layer outs-Str,
      )

  no_lone : (role : Role) (s : Seg) (n : Name) (t : List ℕ) → is_plain_str s ≡ true → (never {A = Name}).Spells n t →
      Above role n (seg_text s ++ t) × (is_empty_tuple n ≡ false)
  no_lone role s n t e h = absurd h

  of_bracketed : (n : Name) (t : List ℕ) → (bracketed L).Spells n t → Above whole n (91 ∷ t) × (is_empty_tuple n ≡ false)
  of_bracketed n t (x, (p, (q, (hx, (inl (f, (r, (g, e1))), e))))) =
      let x_is = means.of_whole x p hx in
      subst (λ n. Above whole n (91 ∷ t) × (is_empty_tuple n ≡ false)) (sym g.0) (
        (
          subst (IsLayer (Stands d) whole) (sym (outs-Slice x)) (tt, x_is.0),
          ap (λ l. 91 ∷ l) (e ∙ ap (λ l. l ++ q) x_is.1 ∙ ap (λ l. rust_text x ++ l) (e1 ∙ ap (λ l. 93 ∷ l) g.1)) ∙ sym (text-Slice x),
        ),
        ap is_empty_layer (outs-Slice x),
      )
  of_bracketed n t (x, (p, (q, (hx, (inr h, e))))) =
      let x_is = means.of_whole x p hx in
      let g = of_literal (codes "; ") (bind (number true (2 ^ 64 - 1)) (λ n. bind (literal (codes "]")) (λ _. give (Array x n)))) n q h in
      let c = of_closed (number true (2 ^ 64 - 1)) (codes "]") (Array x) n g.0 g.1.0 in
      let m = c.0 in
      let text : 91 ∷ t ≡ rust_text (Array x m) =
      ap (λ l. 91 ∷ l) (e ∙ ap (λ l. l ++ q) x_is.1 ∙
      ap (λ l. rust_text x ++ l) (g.1.1 ∙ ap (λ l. codes "; " ++ l) (c.1.1.1.1 ∙ ap (λ l. l ++ codes "]") c.1.1.0.1.1)) ∙
      array_text (rust_text x) (decimal m)) ∙ sym (text-Array x m) in
      subst (λ n. Above whole n (91 ∷ t) × (is_empty_tuple n ≡ false)) (sym c.1.1.1.0)
      ((subst (IsLayer (Stands d) whole) (sym (outs-Array x m)) (tt, (x_is.0, omega (arith, c.1.1.0.0))), text), ap is_empty_layer (outs-Array x m))

  of_pointer : (kind : PtrKind) → kind ≢ Boxed → (x : Name) (a t : List ℕ) → Is d whole x a → t ≡ kind_text kind ++ a →
      Above whole (Pointer kind x) t × (is_empty_tuple (Pointer kind x) ≡ false)
  of_pointer kind ne x a t h e = (
    (subst (IsLayer (Stands d) whole) (sym (outs-Pointer kind x)) (tt, (ne, h.0)), e ∙ ap (λ l. kind_text kind ++ l) h.1 ∙ sym (text-Pointer kind x)),
    ap is_empty_layer (outs-Pointer kind x),
  )

  pointed_to : (kind : PtrKind) → kind ≢ Boxed → (bs : List ℕ) (n : Name) (t : List ℕ) →
      (bind (literal bs) (λ _. bind L.whole (λ x. give (Pointer kind x)))).Spells n t → (pre : List ℕ) → kind_text kind ≡ pre ++ bs →
      Above whole n (pre ++ t) × (is_empty_tuple n ≡ false)
  pointed_to kind ne bs n t h pre e =
      let g = of_literal bs (bind L.whole (λ x. give (Pointer kind x))) n t h in
      let m = of_map L.whole (Pointer kind) n g.0 g.1.0 in
      subst (λ n. Above whole n (pre ++ t) × (is_empty_tuple n ≡ false)) (sym m.1.1)
      (of_pointer kind ne m.0 g.0 (pre ++ t) (means.of_whole m.0 g.0 m.1.0)
      (ap (λ l. pre ++ l) g.1.1 ∙ sym (append_assoc pre bs g.0) ∙ ap (λ l. l ++ g.0) (sym e)))

  of_pointed : (n : Name) (t : List ℕ) → (pointed L).Spells n t → Above whole n (42 ∷ t) × (is_empty_tuple n ≡ false)
  of_pointed n t (inl (f, (q, (h, e)))) =
      subst (λ l. Above whole n (42 ∷ l) × (is_empty_tuple n ≡ false)) (sym e) (pointed_to Const (λ z. cc) (codes "onst ") n q h (codes "*c") refl)
  of_pointed n t (inr (inl (f, (q, (h, e))))) =
      subst (λ l. Above whole n (42 ∷ l) × (is_empty_tuple n ≡ false)) (sym e) (pointed_to Mut (λ z. cc) (codes "ut ") n q h (codes "*m") refl)
  of_pointed n t (inr (inr h)) = absurd h

  of_referred_word : (w : List ℕ) (n : Name) (t : List ℕ) → IsWord w → (referred_word L w).Spells n t →
      Above whole n (38 ∷ (w ++ t)) × (is_empty_tuple n ≡ false)
  of_referred_word w n t isw (inl (f, inl (_, (q, (h, e))))) =
      let m = of_map L.whole (Pointer RefMut) n q h in
      subst (λ n. Above whole n (38 ∷ (w ++ t)) × (is_empty_tuple n ≡ false)) (sym m.1.1)
      (of_pointer RefMut (λ z. cc) m.0 q (38 ∷ (w ++ t)) (means.of_whole m.0 q m.1.0)
      (ap (λ l. 38 ∷ l) (ap (λ l. l ++ t) (same_word w (codes "mut") f) ∙ ap (λ l. codes "mut" ++ l) e)))
  of_referred_word w n t isw (inl (f, inr h)) =
      let m = of_map (L.plain w) (Pointer Ref) n t h in
      subst (λ n. Above whole n (38 ∷ (w ++ t)) × (is_empty_tuple n ≡ false)) (sym m.1.1)
      (of_pointer Ref (λ z. cc) m.0 (w ++ t) (38 ∷ (w ++ t)) (means.of_plain w m.0 t isw m.1.0) refl)
  of_referred_word w n t isw (inr (f, h)) =
      let m = of_map (L.worded w) (Pointer Ref) n t h in
      subst (λ n. Above whole n (38 ∷ (w ++ t)) × (is_empty_tuple n ≡ false)) (sym m.1.1)
      (of_pointer Ref (λ z. cc) m.0 (w ++ t) (38 ∷ (w ++ t)) (means.of_worded w m.0 t isw m.1.0).0 refl)

  of_referred : (n : Name) (t : List ℕ) → (referred L).Spells n t → Above whole n (38 ∷ t) × (is_empty_tuple n ≡ false)
  of_referred n t (inl (w, (p, (q, (isw, (h, e)))))) =
      subst (λ l. Above whole n (38 ∷ l) × (is_empty_tuple n ≡ false)) (sym (e ∙ ap (λ l. l ++ q) isw.1)) (of_referred_word w n q isw.0 h)
  of_referred n t (inr h) =
      let m = of_map (L.symbol true) (Pointer Ref) n t h in
      subst (λ n. Above whole n (38 ∷ t) × (is_empty_tuple n ≡ false)) (sym m.1.1)
      (of_pointer Ref (λ z. cc) m.0 t (38 ∷ t) (means.of_symbol true m.0 t m.1.0).0 refl)

  abbrev names_text : List Name → List ℕ
  names_text xs = joined (codes ", ") (map rust_text xs)

  tuple_is : (x : Name) (xs : List Name) (t : List ℕ) → AllByRecursion (Stands d whole) (x ∷ xs) →
      t ≡ joined (codes ", ") (map rust_text (x ∷ xs)) ++ codes ")" → Above whole (Tuple (x ∷ xs)) (40 ∷ t) × (is_empty_tuple (Tuple (x ∷ xs)) ≡ false)
  tuple_is x xs t all e = (
    (subst (IsLayer (Stands d) whole) (sym (outs-Tuple (x ∷ xs))) (tt, all), ap (λ l. 40 ∷ l) e ∙ sym (text-Tuple (x ∷ xs))),
    ap is_empty_layer (outs-Tuple (x ∷ xs)),
  )

  -- a tuple after its first part, whose text is a
  of_tuple_from : (x : Name) (a : List ℕ) → Is d whole x a → (n : Name) (t : List ℕ) → (tuple_from L x).Spells n t →
      Above whole n (40 ∷ (a ++ t)) × (is_empty_tuple n ≡ false)
  of_tuple_from x a x_is n t (inl (f, (q, (h, e)))) =
      let g = of_literal (codes " ") (bind (many L.whole 44 (codes " ")) (λ rest. bind (literal (codes ")")) (λ _. give (Tuple (x ∷ rest))))) n q h in
      let c = of_closed (many L.whole 44 (codes " ")) (codes ")") (λ rest. Tuple (x ∷ rest)) n g.0 g.1.0 in
      let j = joined_text L.whole.Spells (Stands d whole) rust_text (codes ", ") means.of_whole c.0 c.1.0 c.1.1.0.1 in
      subst (λ n. Above whole n (40 ∷ (a ++ t)) × (is_empty_tuple n ≡ false)) (sym c.1.1.1.0)
      (tuple_is x c.0 (a ++ t) (x_is.0, j.0)
      (longer c.0 c.1.1.0.0 (e ∙ ap (λ l. 44 ∷ l) (g.1.1 ∙ ap (λ l. 32 ∷ l) (c.1.1.1.1 ∙ ap (λ l. l ++ codes ")") j.1)))))
    where
      longer : (xs : List Name) → xs ≢ [] → t ≡ codes ", " ++ (joined (codes ", ") (map rust_text xs) ++ codes ")") →
          a ++ t ≡ joined (codes ", ") (map rust_text (x ∷ xs)) ++ codes ")"
      longer [] ne at = absurd (ne refl)
      longer (y ∷ ys) ne at =
          ap (λ l. l ++ t) x_is.1 ∙ ap (λ l. rust_text x ++ l) at ∙
          sym (append_assoc (rust_text x) (codes ", " ++ joined (codes ", ") (map rust_text (y ∷ ys))) (codes ")"))
          ∙ ap (λ l. l ++ codes ")") (sym (joined_cons (codes ", ") (rust_text x) (rust_text y) (map rust_text ys)))
  of_tuple_from x a x_is n t (inr h) =
      let g = of_end (codes ")") (Tuple (x ∷ [])) n t h in
      subst (λ n. Above whole n (40 ∷ (a ++ t)) × (is_empty_tuple n ≡ false)) (sym g.0)
      (tuple_is x [] (a ++ t) (x_is.0, tt)
      (ap (λ l. l ++ t) x_is.1 ∙ ap (λ l. rust_text x ++ l) g.1 ∙ ap (λ l. l ++ codes ")") (sym (joined_one (codes ", ") (rust_text x)))))

  of_dyn_from : (a : Name) → Stands d member a → (n : Name) (t : List ℕ) → (dyn_from L a).Spells n t →
      Above whole n (codes "(dyn " ++ (rust_text a ++ t)) × (is_empty_tuple n ≡ false)
  of_dyn_from a ok n t (inl (f, (q, (h, e)))) =
      let g = of_literal (codes "+ ") (bind (many L.member 32 (codes "+ ")) (λ rest. bind (literal (codes ")")) (λ _. give (Dyn (a ∷ rest))))) n q h in
      let c = of_closed (many L.member 32 (codes "+ ")) (codes ")") (λ rest. Dyn (a ∷ rest)) n g.0 g.1.0 in
      let j = joined_text L.member.Spells (Stands d member) rust_text (codes " + ") means.of_member c.0 c.1.0 c.1.1.0.1 in
      subst (λ n. Above whole n (codes "(dyn " ++ (rust_text a ++ t)) × (is_empty_tuple n ≡ false)) (sym c.1.1.1.0)
      (several c.0 c.1.1.0.0 j.0 (e ∙ ap (λ l. 32 ∷ l) (g.1.1 ∙ ap (λ l. codes "+ " ++ l) (c.1.1.1.1 ∙ ap (λ l. l ++ codes ")") j.1))))
    where
      several : (xs : List Name) → xs ≢ [] → AllByRecursion (Stands d member) xs → t ≡ codes " + " ++ (joined (codes " + ") (map rust_text xs) ++ codes ")")
          → Above whole (Dyn (a ∷ xs)) (codes "(dyn " ++ (rust_text a ++ t)) × (is_empty_tuple (Dyn (a ∷ xs)) ≡ false)
      several [] ne all at = absurd (ne refl)
      several (y ∷ ys) ne all at = (
        (
          subst (IsLayer (Stands d) whole) (sym (outs-Dyn (a ∷ y ∷ ys))) (tt, ((λ z. cc), (ok, all))),
          ap (λ l. codes "(dyn " ++ (rust_text a ++ l)) at
              ∙ ap (λ l. codes "(dyn " ++ l)
              (sym (append_assoc (rust_text a) (codes " + " ++ joined (codes " + ") (map rust_text (y ∷ ys))) (codes ")")) ∙
              ap (λ l. l ++ codes ")") (sym (joined_cons (codes " + ") (rust_text a) (rust_text y) (map rust_text ys))))
              ∙ sym (text-Dyn (a ∷ y ∷ ys)),
        ),
        ap is_empty_layer (outs-Dyn (a ∷ y ∷ ys)),
      )
  of_dyn_from a ok n t (inr (inl (f, h))) =
      of_tuple_from (Dyn (a ∷ [])) (codes "dyn " ++ rust_text a)
      (means.of_holds a f ok, ap (λ l. codes "dyn " ++ l) (sym (joined_one (codes " + ") (rust_text a))) ∙ sym (text-Dyn (a ∷ []))) n t h
  of_dyn_from a ok n t (inr (inr (f, h))) = absurd h

  abbrev InParts : Name → List ℕ → Type 0
  InParts n t = Above whole n (40 ∷ t) × (is_empty_tuple n ≡ false)

  of_parts_word : (w : List ℕ) (n : Name) (t : List ℕ) → IsWord w → (parts_word L w).Spells n t → InParts n (w ++ t)
  of_parts_word w n t isw (inl (f, inl (_, (q, ((a, (p, (r, (ha, (hd, e2))))), e))))) =
      let m = means.of_member a p ha in
      subst (InParts n) (sym
      (ap (λ l. l ++ t) (same_word w (codes "dyn") f) ∙ ap (λ l. codes "dyn" ++ l) (e ∙ ap (λ l. 32 ∷ l) (e2 ∙ ap (λ l. l ++ r) m.1))))
      (of_dyn_from a m.0 n r hd)
  of_parts_word w n t isw (inl (f, inr (x, (p, (q, (hx, (ht, e))))))) =
      subst (InParts n) (append_assoc w p q ∙ ap (λ l. w ++ l) (sym e)) (of_tuple_from x (w ++ p) (means.of_plain w x p isw hx) n q ht)
  of_parts_word w n t isw (inr (f, (x, (p, (q, (hx, (ht, e))))))) =
      subst (InParts n) (append_assoc w p q ∙ ap (λ l. w ++ l) (sym e)) (of_tuple_from x (w ++ p) (means.of_worded w x p isw hx).0 n q ht)

  of_parts : (n : Name) (t : List ℕ) → (parts L).Spells n t → InParts n t
  of_parts n t (inl (w, (p, (q, (isw, (h, e)))))) = subst (InParts n) (sym (e ∙ ap (λ l. l ++ q) isw.1)) (of_parts_word w n q isw.0 h)
  of_parts n t (inr (x, (p, (q, (hx, (ht, e)))))) = subst (InParts n) (sym e) (of_tuple_from x p (means.of_symbol true x p hx).0 n q ht)

  -- the result, where `()` may stand
  module _ (unit_stands : Stands d whole (Tuple [])) where
    abbrev FnOf : List Name → Name → List ℕ → Type 0
    FnOf xs n t = (x : Name) × ((n ≡ Fn xs x) × (Stands d whole x × (t ≡ result_text x (rust_text x))))

    shown : (x : Name) → is_empty_tuple x ≡ false → (t : List ℕ) → t ≡ codes " -> " ++ rust_text x → t ≡ result_text x (rust_text x)
    shown x e t h = h ∙ sym (ap (λ z. if z then [] else codes " -> " ++ rust_text x) e)

    of_result : (xs : List Name) (n : Name) (t : List ℕ) → (result_of L xs).Spells n t → FnOf xs n t
    of_result xs n t (inl (f, (q, (h, e)))) =
        let g = of_literal (codes "-> ") (bind (where_first starts_word (bind word L.worded) (L.symbol false)) (λ x. give (Fn xs x))) n q h in
        let m = of_map (where_first starts_word (bind word L.worded) (L.symbol false)) (Fn xs) n g.0 g.1.0 in
        let k = known m.0 g.0 m.1.0 in
        (m.0, (m.1.1, (k.0.0, shown m.0 k.1 t (e ∙ ap (λ l. 32 ∷ l) (g.1.1 ∙ ap (λ l. codes "-> " ++ l) k.0.1)))))
      where
        known : (x : Name) (r : List ℕ) → (where_first starts_word (bind word L.worded) (L.symbol false)).Spells x r →
            Is d whole x r × (is_empty_tuple x ≡ false)
        known x r (inl (w, (p, (q, (isw, (h, e)))))) =
            subst (λ l. Is d whole x l × (is_empty_tuple x ≡ false)) (sym (e ∙ ap (λ l. l ++ q) isw.1)) (means.of_worded w x q isw.0 h)
        known x r (inr h) = let s = means.of_symbol false x r h in (s.0, s.1 refl)
    of_result xs n t (inr h) =
        (Tuple [], (h.0, (unit_stands, h.1 ∙ sym (ap (λ z. if z then [] else codes " -> " ++ rust_text (Tuple [])) (ap is_empty_layer (outs-Tuple []))))))

    fn_is : (xs : List Name) → AllByRecursion (Stands d whole) xs → (n : Name) (r t : List ℕ) → FnOf xs n r →
        t ≡ ((codes "fn(" ++ joined (codes ", ") (map rust_text xs)) ++ codes ")") ++ r → Above whole n t × (is_empty_tuple n ≡ false)
    fn_is xs all n r t (x, (is, (ok, at))) e =
        subst (λ n. Above whole n t × (is_empty_tuple n ≡ false)) (sym is) (
          (
            subst (IsLayer (Stands d) whole) (sym (outs-Fn xs x)) (tt, (all, ok)),
            e ∙
                ap (λ l. ((codes "fn(" ++ joined (codes ", ") (map rust_text xs)) ++ codes ")") ++ l) at ∙ sym (text-Fn xs x),
          ),
          ap is_empty_layer (outs-Fn xs x),
        )

    of_function : (n : Name) (t : List ℕ) → (function L).Spells n t → Above whole n (codes "fn(" ++ t) × (is_empty_tuple n ≡ false)
    of_function n t (inl (f, (q, (h, e)))) = fn_is [] tt n q (codes "fn(" ++ t) (of_result [] n q h) (ap (λ l. codes "fn(" ++ l) e)
    of_function n t (inr (xs, (p, (q, ((ne, j), (h, e)))))) =
        let g = of_literal (codes ")") (result_of L xs) n q h in
        let k = joined_text L.whole.Spells (Stands d whole) rust_text (codes ", ") means.of_whole xs p j in
        fn_is xs k.0 n g.0 (codes "fn(" ++ t) (of_result xs n g.0 g.1.0)
        (ap (λ l. codes "fn(" ++ l) (e ∙ ap (λ l. l ++ q) k.1 ∙ ap (λ l. names_text xs ++ l) g.1.1 ∙ sym (append_assoc (names_text xs) (codes ")") g.0)))

  module _ (deep_unit : deep ≡ true → Stands d whole (Tuple [])) where
    of_worded_above : (w : List ℕ) (n : Name) (t : List ℕ) → IsWord w → (worded_of deep L w).Spells n t → Above whole n (w ++ t) × (is_empty_tuple n ≡ false)
    of_worded_above w n t isw (inl (f, (q, (h, e)))) =
        let m = of_map L.member (λ a. Dyn (a ∷ [])) n q h in
        let a = means.of_member m.0 q m.1.0 in
        subst (λ n. Above whole n (w ++ t) × (is_empty_tuple n ≡ false)) (sym m.1.1) (
          (
            subst (IsLayer (Stands d) whole) (sym (outs-Dyn (m.0 ∷ []))) (tt, ((λ z. cc), (a.0, tt))),
            ap (λ l. l ++ t) (same_word w (codes "dyn") (and_parts deep _ f).1) ∙
                ap (λ l. codes "dyn" ++ l) (e ∙ ap (λ l. 32 ∷ l) (a.1 ∙ sym (joined_one (codes " + ") (rust_text m.0)))) ∙ sym (text-Dyn (m.0 ∷ [])),
          ),
          ap is_empty_layer (outs-Dyn (m.0 ∷ [])),
        )
    of_worded_above w n t isw (inr (inl (f, (q, (h, e))))) =
        let p = and_parts deep (is_word w (codes "fn")) f in
        subst (λ l. Above whole n l × (is_empty_tuple n ≡ false)) (sym (ap (λ l. l ++ t) (same_word w (codes "fn") p.1) ∙ ap (λ l. codes "fn" ++ l) e))
        (of_function (deep_unit p.0) n q h)
    of_worded_above w n t isw (inr (inr h)) = of_path_after whole (give Str) lone_str w None n t isw tt h

    of_numbered_path : (role : Role) (n : Name) (t : List ℕ) → (numbered_path deep L.arg).Spells n t → Above role n t × (is_empty_tuple n ≡ false)
    of_numbered_path role n t (inl (f, (q, ((x, (p, (r, (hn, (h, e2))))), e)))) =
        let k = of_numbered x p hn in
        subst (λ l. Above role n l × (is_empty_tuple n ≡ false)) (sym (e ∙ ap (λ l. 123 ∷ l) e2 ∙ ap (λ l. l ++ r) k.1.1))
        (of_path_after role never (no_lone role) x.0 (Some x.1) n r k.0 k.1.0 h)
    of_numbered_path role n t (inr h) = absurd h

    of_symbol_above : (unit : Bool) (n : Name) (t : List ℕ) → (symbol_of deep L unit).Spells n t → Above whole n t × (unit ≡ false → is_empty_tuple n ≡ false)
    of_symbol_above unit n t (inl (f, (q, (h, e)))) = let k = of_referred n q h in (subst (Above whole n) (sym e) k.0, λ z. k.1)
    of_symbol_above unit n t (inr (inl (f, (q, (h, e))))) = let k = of_pointed n q h in (subst (Above whole n) (sym e) k.0, λ z. k.1)
    of_symbol_above unit n t (inr (inr (inl (f, (q, (h, e)))))) = let k = of_bracketed n q h in (subst (Above whole n) (sym e) k.0, λ z. k.1)
    of_symbol_above unit n t (inr (inr (inr (inl (f, (q, (inl (g, (r, (h, e2))), e))))))) =
        subst (λ n. Above whole n t × (unit ≡ false → is_empty_tuple n ≡ false)) (sym h.0) (
          (subst (IsLayer (Stands d) whole) (sym (outs-Tuple [])) (tt, tt), e ∙ ap (λ l. 40 ∷ l) (e2 ∙ ap (λ l. 41 ∷ l) h.1) ∙ sym (text-Tuple [])),
          λ z.
              let no : true ≡ false = sym g ∙ z in cc,
        )
    of_symbol_above unit n t (inr (inr (inr (inl (f, (q, (inr (inl (g, h)), e))))))) = let k = of_parts n q h in (subst (Above whole n) (sym e) k.0, λ z. k.1)
    of_symbol_above unit n t (inr (inr (inr (inl (f, (q, (inr (inr (g, h)), e))))))) = absurd h
    of_symbol_above unit n t (inr (inr (inr (inr h)))) = let k = of_numbered_path whole n t h in (k.0, λ z. k.1)

    of_whole_above : (n : Name) (t : List ℕ) → (where_first starts_word (bind word (worded_of deep L)) (symbol_of deep L true)).Spells n t → Above whole n t
    of_whole_above n t (inl (w, (p, (q, (isw, (h, e)))))) = subst (Above whole n) (sym (e ∙ ap (λ l. l ++ q) isw.1)) (of_worded_above w n q isw.0 h).0
    of_whole_above n t (inr h) = (of_symbol_above true n t h).0

    abbrev or_number : Reader Name
    or_number = on true 45 (bind (number false (2 ^ 128 - 1)) (λ n. give (Number true n)))
        (where_first starts_digit (bind (number true (2 ^ 128 - 1)) (λ n. give (Number false n))) (symbol_of deep L true))

    of_number : (minus : Bool) (m : ℕ) (t : List ℕ) → m < 2 ^ 128 → (minus ≡ true → m ≢ 0) → t ≡ sign_text minus ++ decimal m → Above arg (Number minus m) t
    of_number minus m t less not_zero e = (subst (IsLayer (Stands d) arg) (sym (outs-Number minus m)) (tt, (less, not_zero)), e ∙ sym (text-Number minus m))

    of_or_number : (n : Name) (t : List ℕ) → or_number.Spells n t → Above arg n t
    of_or_number n t (inl (f, (q, (h, e)))) =
        let m = of_map (number false (2 ^ 128 - 1)) (Number true) n q h in
        subst (λ n. Above arg n t) (sym m.1.1) (of_number true m.0 t (omega (arith, m.1.0.0)) (λ z. m.1.0.1.0 refl) (e ∙ ap (λ l. 45 ∷ l) m.1.0.1.1))
    of_or_number n t (inr (inl h)) =
        let m = of_map (number true (2 ^ 128 - 1)) (Number false) n t h in
        subst (λ n. Above arg n t) (sym m.1.1) (of_number false m.0 t (omega (arith, m.1.0.0)) (λ z. cc) m.1.0.1.1)
    of_or_number n t (inr (inr h)) = whole_arg n t (of_symbol_above true n t h).0

    of_arg_above : (n : Name) (t : List ℕ) → (where_first starts_word (bind word (arg_word deep L)) or_number).Spells n t → Above arg n t
    of_arg_above n t (inl (w, (p, (q, (isw, (inl (f, (r, (h, e2))), e)))))) =
        let m = of_map L.whole (Bind w) n r h in
        let x = means.of_whole m.0 r m.1.0 in
        subst (λ n. Above arg n t) (sym m.1.1) (
          subst (IsLayer (Stands d) arg) (sym (outs-Bind w m.0)) (tt, (isw.0, x.0)),
          e ∙ ap (λ l. l ++ q) isw.1 ∙
              ap (λ l. w ++ l) (e2 ∙ ap (λ l. 61 ∷ l) x.1) ∙ sym (append_assoc w (codes "=") (rust_text m.0)) ∙ sym (text-Bind w m.0),
        )
    of_arg_above n t (inl (w, (p, (q, (isw, (inr h, e)))))) =
        whole_arg n t (subst (Above whole n) (sym (e ∙ ap (λ l. l ++ q) isw.1)) (of_worded_above w n q isw.0 h).0)
    of_arg_above n t (inr h) = of_or_number n t h

    of_member_above : (n : Name) (t : List ℕ) →
        (where_first starts_word (bind word (λ w. path_after deep L.arg never w None)) (numbered_path deep L.arg)).Spells n t → Above member n t
    of_member_above n t (inl (w, (p, (q, (isw, (h, e)))))) =
        subst (Above member n) (sym (e ∙ ap (λ l. l ++ q) isw.1)) (of_path_after member never (no_lone member) w None n q isw.0 tt h).0
    of_member_above n t (inr h) = (of_numbered_path member n t h).0

    pub means_above : (holds : Name → Bool) → ((a : Name) → holds a ≡ true → Stands (suc d) member a → Stands d member a) →
        Means (suc d) (level_of holds deep L)
    unfolding Stands
    means_above holds held = record {
      of_whole = of_whole_above;
      of_arg = of_arg_above;
      of_member = of_member_above;
      of_worded = of_worded_above;
      of_plain = λ w n t isw h. (of_path_after whole (give Str) lone_str w None n t isw tt h).0;
      of_symbol = of_symbol_above;
      of_holds = λ a e h. subst (IsLayer (Stands d) whole) (sym (outs-Dyn (a ∷ []))) (tt, ((λ z. cc), (held a e h, tt)));
    }

no_means : Means 0 none_level
no_means = record {
  of_whole = λ n t h. absurd h;
  of_arg = λ n t h. absurd h;
  of_member = λ n t h. absurd h;
  of_worded = λ w n t isw h. absurd h;
  of_plain = λ w n t isw h. absurd h;
  of_symbol = λ unit n t h. absurd h;
  of_holds = λ a e h. let no : true ≡ false = sym e in cc;
}

unit_stands : (d : ℕ) → has_some d ≡ true → Stands d whole (Tuple [])
unfolding Stands
unit_stands zero e = cc
unit_stands (suc d) e = subst (IsLayer (Stands d) whole) (sym (outs-Tuple [])) (tt, tt)

-- what the readers of Rust's spelling read
pub rust_means : (d : ℕ) → Means d (rust d)
unfolding rust
rust_means zero = no_means
rust_means (suc d) = means_above d (rust d) (rust_means d) (has_some d) (unit_stands d) (fits d) (fits_stands d member)
