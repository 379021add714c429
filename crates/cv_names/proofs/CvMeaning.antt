-- What is read by the grammar of CodeView's spelling is exactly what that spelling is.
use Rattle.std.proofs.Common.{◌≡◌, ◌≢◌, ℕ, zero, suc, ◌-◌, ◌^◌, ◌<◌, Bool, true, false, ◌&&◌, if◌then◌else◌, List, [], ◌∷◌, ◌++◌, Option}
use Rattle.std.proofs.Common.{Some, None, IfSome, ◌⊎◌, inl, inr, refl, sym, ap, subst, ◌∙◌, arith, codes, append_assoc, append-nil}
use Rattle.std.specs.Fmt.{decimal}
use Rattle.names.specs.Joined.{IsJoined}
use Rattle.names.specs.declared.name.Name.{Name, out-Name}
use Rattle.names.specs.declared.name.Name.TheOpen.{Name-F}
use Rattle.names.specs.declared.name.Name.TheVariants.{Path, Pointer, Slice, Array, Tuple, Str, Dyn, Fn, Number, Bind, Raw, outs-Path}
use Rattle.names.specs.declared.name.Name.TheVariants.{outs-Pointer, outs-Slice, outs-Array, outs-Tuple, outs-Str, outs-Dyn, outs-Fn}
use Rattle.names.specs.declared.name.Name.TheVariants.{outs-Number, outs-Bind, outs-Raw}
use Rattle.names.specs.declared.name.Seg.{Seg}
use Rattle.names.specs.declared.name.PtrKind.{PtrKind}
use Rattle.names.specs.declared.name.PtrKind.TheVariants.{Ref, RefMut, Const, Mut, Boxed}
use Rattle.cv_names.specs.declared.cv_form.Form.{Form}
use Rattle.names.specs.Words.{AreChars, IsWord}
use Rattle.names.specs.Names.{Role, whole, arg, member, IsNoMember, IsArg, plain_str}
use Rattle.names.specs.Signs.{sign_text}
use Rattle.cv_names.specs.CvText.{closed, cv_kind_text, cv_word_text, AreCvArgs, CvSeg, CvLayer, CvSpelled}
use Rattle.names.specs.Reading.{give, bind, on, many, number}
use Rattle.names.specs.Plain.{is_word, is_plain_str, has_some}
use Rattle.cv_names.specs.CvGrammar.{Level, form_named, may_stand, is_tuple, args_of, seg_after, seg_of, path_from, path_after, counted}
use Rattle.cv_names.specs.CvGrammar.{path_of, content, form_of, formed, unformed, name_of, number_of, arg_of, level_of, none_level, cv}
use Rattle.names.proofs.Joined.{of_literal, to_literal, of_map, to_map}
use Rattle.names.proofs.Cases.{Name-cases}
use Rattle.cv_names.proofs.Closings.{of_closing, to_closing, closed_angle, closed_after}
use Rattle.names.proofs.Plain.{same_word, plain_is, not_plain, longer_not_plain}

-- the readers of a level read the texts of the names that nest at most d deep, and nothing else
pub record Means (d : ℕ) (L : Level) : Type 0 where
  pub of_whole : (n : Name) (t : List ℕ) → L.whole.Spells n t → CvSpelled d whole n t
  pub of_arg : (n : Name) (t : List ℕ) → L.arg.Spells n t → CvSpelled d arg n t
  pub of_member : (n : Name) (t : List ℕ) → L.member.Spells n t → CvSpelled d member n t
  pub to_whole : (n : Name) (t : List ℕ) → CvSpelled d whole n t → L.whole.Spells n t
  pub to_arg : (n : Name) (t : List ℕ) → CvSpelled d arg n t → L.arg.Spells n t
  pub to_member : (n : Name) (t : List ℕ) → CvSpelled d member n t → L.member.Spells n t

-- items that are spelled in one way are joined as those that are in the other
joined_as : {A : Type 0} (S S' : A → List ℕ → Type 0) (sep : List ℕ) → ((x : A) (t : List ℕ) → S x t → S' x t) → (xs : List A) (t : List ℕ) →
    IsJoined S sep xs t → IsJoined S' sep xs t
joined_as S S' sep each [] t h = h
joined_as S S' sep each (x ∷ []) t h = each x t h
joined_as S S' sep each (x ∷ y ∷ rest) t (a, (b, (h, (g, e)))) = (a, (b, (each x a h, (joined_as S S' sep each (y ∷ rest) b g, e))))

first_of : {A : Type 0} (S : A → List ℕ → Type 0) (sep : List ℕ) (x : A) (rest : List A) (t : List ℕ) → IsJoined S sep (x ∷ rest) t → (a : List ℕ) × S x a
first_of S sep x [] t h = (t, h)
first_of S sep x (y ∷ rest) t (a, (b, (h, (g, e)))) = (a, h)

by_flag : {P : Type 0} (flag : Bool) → (flag ≡ true → P) → (flag ≡ false → P) → P
by_flag true h g = h refl
by_flag false h g = g refl

and_join : (a b : Bool) → a ≡ true → b ≡ true → (a && b) ≡ true
and_join true b e h = h
and_join false b e h = cc

and_right : (a b : Bool) → (a && b) ≡ true → b ≡ true
and_right true b e = e
and_right false b e = cc

numbered_text : (w n r : List ℕ) → ((w ++ codes "$") ++ n) ++ r ≡ w ++ (36 ∷ (n ++ r))
numbered_text w n r = ap (λ l. l ++ r) (append_assoc w (36 ∷ []) n) ∙ append_assoc w (36 ∷ n) r

paired_text : (o a b : List ℕ) → ((o ++ a) ++ codes ",") ++ b ≡ o ++ (a ++ (codes "," ++ b))
paired_text o a b = append_assoc (o ++ a) (44 ∷ []) b ∙ append_assoc o a (44 ∷ b)

-- the word of a form
form_word : Form → List ℕ
form_word Form.Ref = codes "ref"
form_word Form.RefMut = codes "ref_mut"
form_word Form.Const = codes "ptr_const"
form_word Form.Mut = codes "ptr_mut"
form_word Form.Slice = codes "slice2"
form_word Form.Array = codes "array"
form_word Form.Tuple = codes "tuple"
form_word Form.Dyn = codes "dyn"
form_word Form.Fn = codes "fn"
form_word Form.Bind = codes "assoc"
form_word Form.Enum = codes "enum2"

word_is : (f : Form) → IsWord (form_word f)
unfolding AreChars form_word
word_is Form.Ref = (refl, omega arith)
word_is Form.RefMut = (refl, omega arith)
word_is Form.Const = (refl, omega arith)
word_is Form.Mut = (refl, omega arith)
word_is Form.Slice = (refl, omega arith)
word_is Form.Array = (refl, omega arith)
word_is Form.Tuple = (refl, omega arith)
word_is Form.Dyn = (refl, omega arith)
word_is Form.Fn = (refl, omega arith)
word_is Form.Bind = (refl, omega arith)
word_is Form.Enum = (refl, omega arith)

str_word : IsWord (codes "str")
unfolding AreChars
str_word = (refl, omega arith)

-- each form is named by its word
names : (f : Form) → form_named (form_word f) ≡ Some f
unfolding form_word
names Form.Ref = refl
names Form.RefMut = refl
names Form.Const = refl
names Form.Mut = refl
names Form.Slice = refl
names Form.Array = refl
names Form.Tuple = refl
names Form.Dyn = refl
names Form.Fn = refl
names Form.Bind = refl
names Form.Enum = refl

named_by : (w other : List ℕ) (g f : Form) (rest : Option Form) → other ≡ form_word g → (rest ≡ Some f → w ≡ form_word f) →
    (if is_word w other then Some g else rest) ≡ Some f → w ≡ form_word f
named_by w other g f rest is more e = each (is_word w other) refl e
  where
    each : (z : Bool) → is_word w other ≡ z → (if z then Some g else rest) ≡ Some f → w ≡ form_word f
    each true h e = let same : g ≡ f = cc in same_word w other h ∙ is ∙ ap form_word same
    each false h e = more e

named_is : (w : List ℕ) (f : Form) → form_named w ≡ Some f → w ≡ form_word f
unfolding form_word
named_is w f =
    named_by w (codes "ref") Form.Ref f _ refl (named_by w (codes "ref_mut") Form.RefMut f _ refl (named_by w (codes "ptr_const") Form.Const f _ refl
    (named_by w (codes "ptr_mut") Form.Mut f _ refl (named_by w (codes "slice2") Form.Slice f _ refl (named_by w (codes "array") Form.Array f _ refl
    (named_by w (codes "tuple") Form.Tuple f _ refl (named_by w (codes "dyn") Form.Dyn f _ refl (named_by w (codes "fn") Form.Fn f _ refl
    (named_by w (codes "assoc") Form.Bind f _ refl (named_by w (codes "enum2") Form.Enum f _ refl (λ e. cc)))))))))))

-- where a name stands that may be a binding if the flag says so
role_of : Bool → Role
role_of true = arg
role_of false = whole

no_member : (z : Bool) → IsNoMember (role_of z)
unfolding role_of
no_member true = tt
no_member false = tt

is_arg : (z : Bool) → z ≡ true → IsArg (role_of z)
unfolding role_of
is_arg true e = tt
is_arg false e = cc

arg_is : (z : Bool) → IsArg (role_of z) → z ≡ true
unfolding role_of
arg_is true h = refl
arg_is false h = absurd h

module _ (d : ℕ) (L : Level) (means : Means d L) (deep : Bool) (is_deep : (role : Role) (n : Name) (t : List ℕ) → CvSpelled d role n t → deep ≡ true) where
  abbrev S : Role → Name → List ℕ → Type 0
  S = CvSpelled d

  -- one level above
  abbrev Above : Role → Name → List ℕ → Type 0
  Above role n t = CvLayer S role (out-Name n) t ⊎ (IsNoMember role × ((a : List ℕ) × (CvLayer S member (out-Name n) a × (t ≡ closed (codes "enum2$<" ++ a)))))

  layer : (role : Role) (n n' : Name) (l : Name-F Name Seg) (t : List ℕ) → n ≡ n' → out-Name n' ≡ l → CvLayer S role l t → CvLayer S role (out-Name n) t
  layer role n n' l t e o h = subst (λ l. CvLayer S role l t) (sym (ap out-Name e ∙ o)) h

  of_args : (xs : List Name) (t : List ℕ) → (args_of deep L.arg).Spells xs t → AreCvArgs (S arg) xs t
  of_args xs t (inl (f, (q, (h, e)))) =
      let c = of_closing (many L.arg 44 []) xs q h in
      listed xs c.0 c.1.0.0 (joined_as L.arg.Spells (S arg) (codes ",") means.of_arg xs c.0 c.1.0.1) (e ∙ ap (λ l. 60 ∷ l) c.1.1 ∙ sym (closed_angle c.0))
    where
      listed : (xs : List Name) (p : List ℕ) → xs ≢ [] → IsJoined (S arg) (codes ",") xs p → t ≡ closed (60 ∷ p) → AreCvArgs (S arg) xs t
      listed [] p ne j e = absurd (ne refl)
      listed (x ∷ xs) p ne j e = (p, (j, e))
  of_args xs t (inr g) = subst (λ l. AreCvArgs (S arg) l t) (sym g.0) g.1

  to_args : (xs : List Name) (t : List ℕ) → AreCvArgs (S arg) xs t → (args_of deep L.arg).Spells xs t
  to_args [] t h = inr (refl, h)
  to_args (x ∷ xs) t (b, (j, e)) =
      let first = first_of (S arg) (codes ",") x xs b j in
      inl (
        is_deep arg x first.0 first.1,
        (
          closed b,
          (
            to_closing (many L.arg 44 []) (x ∷ xs) b ((λ z. cc), joined_as (S arg) L.arg.Spells (codes ",") means.to_arg (x ∷ xs) b j),
            e ∙
                closed_angle b,
          ),
        ),
      )

  abbrev FitsNumber : Option ℕ → Type 0
  FitsNumber m = IfSome m (λ n. n < 2 ^ 32)

  of_seg_after : (w : List ℕ) (m : Option ℕ) (s : Seg) (t : List ℕ) → IsWord w → FitsNumber m → (seg_after deep L.arg w m).Spells s t →
      CvSeg S s (cv_word_text w m ++ t)
  of_seg_after w m s t isw fit h =
      let g = of_map (args_of deep L.arg) (λ xs. record { word = w; number = m; args = xs }) s t h in
      subst (λ s. CvSeg S s (cv_word_text w m ++ t)) (sym g.1.1) (isw, (fit, (t, (of_args g.0 t g.1.0, refl))))

  seg_with : List ℕ → Option ℕ → List Name → Seg
  seg_with w m xs = record { word = w; number = m; args = xs }

  to_seg_after : (w : List ℕ) (m : Option ℕ) (xs : List Name) (t : List ℕ) → AreCvArgs (S arg) xs t → (seg_after deep L.arg w m).Spells (seg_with w m xs) t
  unfolding seg_with
  to_seg_after w m xs t h = to_map (args_of deep L.arg) (λ xs. record { word = w; number = m; args = xs }) xs t (to_args xs t h)

  of_seg : (s : Seg) (t : List ℕ) → (seg_of deep L.arg).Spells s t → CvSeg S s t
  of_seg s t (w, (p, (q, (isw, (inl (f, (r, ((n, (p2, (r2, (num, (h, e3))))), e2))), e))))) =
      subst (CvSeg S s) (sym
      (e ∙ ap (λ l. l ++ q) isw.1 ∙ ap (λ l. w ++ l) (e2 ∙ ap (λ l. 36 ∷ l) (e3 ∙ ap (λ l. l ++ r2) num.1.1)) ∙ sym (numbered_text w (decimal n) r2)))
      (of_seg_after w (Some n) s r2 isw.0 (omega (arith, num.0)) h)
  of_seg s t (w, (p, (q, (isw, (inr h, e))))) = subst (CvSeg S s) (sym (e ∙ ap (λ l. l ++ q) isw.1)) (of_seg_after w None s q isw.0 tt h)

  to_seg_of : (w : List ℕ) (m : Option ℕ) (xs : List Name) (t : List ℕ) → CvSeg S (seg_with w m xs) t → (seg_of deep L.arg).Spells (seg_with w m xs) t
  unfolding seg_with
  to_seg_of w None xs t (isw, (fit, (a, (h, e)))) = (w, (w, (a, ((isw, refl), (inr (to_seg_after w None xs a h), e)))))
  to_seg_of w (Some n) xs t (isw, (fit, (a, (h, e)))) = (
    w,
    (
      w,
      (
        36 ∷ (decimal n ++ a),
        (
          (isw, refl),
          (
            inl (
              refl,
              (decimal n ++ a, ((n, (decimal n, (a, ((omega (arith, fit), ((λ z. cc), refl)), (to_seg_after w (Some n) xs a h, refl))))), refl)),
            ),
            e ∙
                numbered_text w (decimal n) a,
          ),
        ),
      ),
    ),
  )

  to_seg : (s : Seg) (t : List ℕ) → CvSeg S s t → (seg_of deep L.arg).Spells s t
  unfolding seg_with
  to_seg s t h = to_seg_of s.word s.number s.args t h

  -- the name is a path with this text
  abbrev PathIs : Name → List ℕ → Type 0
  PathIs n t = (segs : List Seg) × ((n ≡ Path segs) × ((segs ≢ []) × ((segs ≢ plain_str) × IsJoined (CvSeg S) (codes "::") segs t)))

  path_layer : (role : Role) (n : Name) (t : List ℕ) → PathIs n t → CvLayer S role (out-Name n) t
  path_layer role n t (segs, (e, h)) = layer role n (Path segs) (Name-F.Path segs) t e (outs-Path segs) h

  module _ (t : List ℕ) where
    abbrev IfMember : Name → Type 0
    IfMember n = CvLayer S member (out-Name n) t → PathIs n t

    at_member : (n : Name) (l : Name-F Name Seg) → out-Name n ≡ l → (CvLayer S member l t → PathIs n t) → IfMember n
    at_member n l e f h = f (subst (λ l. CvLayer S member l t) e h)

    member_cases : (n : Name) → IfMember n
    member_cases =
        Name-cases IfMember (λ segs. at_member (Path segs) (Name-F.Path segs) (outs-Path segs) (λ h. (segs, (refl, h))))
        (λ kind x. at_member (Pointer kind x) (Name-F.Pointer kind x) (outs-Pointer kind x) (λ h. absurd h.0))
        (λ x. at_member (Slice x) (Name-F.Slice x) (outs-Slice x) (λ h. absurd h.0))
        (λ x n. at_member (Array x n) (Name-F.Array x n) (outs-Array x n) (λ h. absurd h.0))
        (λ xs. at_member (Tuple xs) (Name-F.Tuple xs) (outs-Tuple xs) (λ h. absurd h.0))
        (at_member Str Name-F.Str outs-Str (λ h. absurd h.0)) (λ xs. at_member (Dyn xs) (Name-F.Dyn xs) (outs-Dyn xs) (λ h. absurd h.0))
        (λ xs x. at_member (Fn xs x) (Name-F.Fn xs x) (outs-Fn xs x) (λ h. absurd h.0))
        (λ minus n. at_member (Number minus n) (Name-F.Number minus n) (outs-Number minus n) (λ h. absurd h.0))
        (λ w x. at_member (Bind w x) (Name-F.Bind w x) (outs-Bind w x) (λ h. absurd h.0)) (λ s. at_member (Raw s) (Name-F.Raw s) (outs-Raw s) (λ h. absurd h))

  -- a member of a `Dyn` is a path
  member_path : (n : Name) (t : List ℕ) → CvLayer S member (out-Name n) t → PathIs n t
  member_path n t = member_cases t n

  -- the text of the segments after the first
  Tail : List Seg → List ℕ → Type 0
  Tail [] t = t ≡ []
  Tail (s ∷ ss) t = (b : List ℕ) × (IsJoined (CvSeg S) (codes "::") (s ∷ ss) b × (t ≡ codes "::" ++ b))

  abbrev Rest : Seg → Name → List ℕ → Type 0
  Rest s n t = (rest : List Seg) × ((n ≡ Path (s ∷ rest)) × (((s ∷ rest) ≢ plain_str) × Tail rest t))

  of_path_from : (s : Seg) (n : Name) (t : List ℕ) → (path_from deep L.arg s).Spells n t → Rest s n t
  unfolding Tail
  of_path_from s n t (inl (f, (q, (h, e)))) =
      let g = of_literal (codes ":") (bind (many (seg_of deep L.arg) 58 (codes ":")) (λ rest. give (Path (s ∷ rest)))) n q h in
      let m = of_map (many (seg_of deep L.arg) 58 (codes ":")) (λ rest. Path (s ∷ rest)) n g.0 g.1.0 in
      more m.0 g.0 m.1.1 m.1.0.0 (joined_as (seg_of deep L.arg).Spells (CvSeg S) (codes "::") of_seg m.0 g.0 m.1.0.1) (e ∙ ap (λ l. 58 ∷ l) g.1.1)
    where
      more : (rest : List Seg) (b : List ℕ) → n ≡ Path (s ∷ rest) → rest ≢ [] → IsJoined (CvSeg S) (codes "::") rest b → t ≡ codes "::" ++ b → Rest s n t
      more [] b is ne j at = absurd (ne refl)
      more (y ∷ ys) b is ne j at = (y ∷ ys, (is, (longer_not_plain s y ys, (b, (j, at)))))
  of_path_from s n t (inr (inl (f, h))) = absurd h
  of_path_from s n t (inr (inr (f, h))) = ([], (h.0, (not_plain s f, h.1)))

  to_path_from : (s : Seg) (rest : List Seg) (t : List ℕ) → (s ∷ rest) ≢ plain_str → Tail rest t → (path_from deep L.arg s).Spells (Path (s ∷ rest)) t
  unfolding Tail
  to_path_from s [] t other e = by_flag (is_plain_str s) (λ f. absurd (other (ap (λ z. z ∷ []) (plain_is s f)))) (λ f. inr (inr (f, (refl, e))))
  to_path_from s (y ∷ ys) t other (b, (j, e)) =
      let segs = many (seg_of deep L.arg) 58 (codes ":") in
      inl (
        refl,
        (
          codes ":" ++ b,
          (
            to_literal (codes ":") (bind segs (λ rest. give (Path (s ∷ rest)))) (Path (s ∷ y ∷ ys)) b
                (to_map segs (λ rest. Path (s ∷ rest)) (y ∷ ys) b ((λ z. cc), joined_as (CvSeg S) (seg_of deep L.arg).Spells (codes "::") to_seg (y ∷ ys) b j)),
            e,
          ),
        ),
      )

  of_path_after : (w : List ℕ) (m : Option ℕ) (n : Name) (t : List ℕ) → IsWord w → FitsNumber m → (path_after deep L.arg w m).Spells n t →
      PathIs n (cv_word_text w m ++ t)
  unfolding Tail
  of_path_after w m n t isw fit (s, (p, (q, (hs, (hf, e))))) = let r = of_path_from s n q hf in whole_path r.0 r.1.0 r.1.1.0 r.1.1.1
    where
      text : cv_word_text w m ++ t ≡ (cv_word_text w m ++ p) ++ q
      text = ap (λ l. cv_word_text w m ++ l) e ∙ sym (append_assoc (cv_word_text w m) p q)

      whole_path : (rest : List Seg) → n ≡ Path (s ∷ rest) → (s ∷ rest) ≢ plain_str → Tail rest q → PathIs n (cv_word_text w m ++ t)
      whole_path [] is other at = (
        s ∷ [],
        (
          is,
          (
            (λ z. cc),
            (
              other,
              subst (CvSeg S s) (sym (text ∙ ap (λ l. (cv_word_text w m ++ p) ++ l) at ∙ append-nil (cv_word_text w m ++ p)))
                  (of_seg_after w m s p isw fit hs),
            ),
          ),
        ),
      )
      whole_path (y ∷ ys) is other (b, (j, at)) = (
        s ∷ y ∷ ys,
        (
          is,
          (
            (λ z. cc),
            (other, (cv_word_text w m ++ p, (b, (of_seg_after w m s p isw fit hs, (j, text ∙ ap (λ l. (cv_word_text w m ++ p) ++ l) at))))),
          ),
        ),
      )

  of_counted : (w : List ℕ) (n : Name) (t : List ℕ) → IsWord w → (counted deep L.arg w).Spells n t → PathIs n (w ++ (36 ∷ t))
  of_counted w n t isw (m, (p, (q, (num, (h, e))))) =
      subst (PathIs n) (numbered_text w (decimal m) q ∙ ap (λ l. w ++ (36 ∷ l)) (sym (e ∙ ap (λ l. l ++ q) num.1.1)))
      (of_path_after w (Some m) n q isw (omega (arith, num.0)) h)

  of_path : (n : Name) (t : List ℕ) → (path_of deep L.arg).Spells n t → PathIs n t
  of_path n t (w, (p, (q, (isw, (inl (f, (r, (h, e2))), e))))) =
      subst (PathIs n) (sym (e ∙ ap (λ l. l ++ q) isw.1 ∙ ap (λ l. w ++ l) e2)) (of_counted w n r isw.0 h)
  of_path n t (w, (p, (q, (isw, (inr h, e))))) = subst (PathIs n) (sym (e ∙ ap (λ l. l ++ q) isw.1)) (of_path_after w None n q isw.0 tt h)

  -- a path by its first word
  abbrev Split : Name → List ℕ → Type 0
  Split n t = (w : List ℕ) ×
      ((r : List ℕ) × (IsWord w × (((path_after deep L.arg w None).Spells n r × (t ≡ w ++ r)) ⊎ ((counted deep L.arg w).Spells n r × (t ≡ w ++ (36 ∷ r))))))

  cut : (s : Seg) (rest : List Seg) (t : List ℕ) → IsJoined (CvSeg S) (codes "::") (s ∷ rest) t →
      (p : List ℕ) × ((q : List ℕ) × (CvSeg S s p × (Tail rest q × (t ≡ p ++ q))))
  unfolding Tail
  cut s [] t h = (t, ([], (h, (refl, sym (append-nil t)))))
  cut s (y ∷ ys) t (a, (b, (h, (g, e)))) = (a, (codes "::" ++ b, (h, ((b, (g, refl)), e))))

  split_at : (w : List ℕ) (m : Option ℕ) (xs : List Name) (rest : List Seg) (p q t : List ℕ) → CvSeg S (seg_with w m xs) p →
      (seg_with w m xs ∷ rest) ≢ plain_str → Tail rest q → t ≡ p ++ q → Split (Path (seg_with w m xs ∷ rest)) t
  unfolding seg_with
  split_at w None xs rest p q t (isw, (fit, (a, (h, e)))) other more at = (
    w,
    (
      a ++ q,
      (
        isw,
        inl (
          (seg_with w None xs, (a, (q, (to_seg_after w None xs a h, (to_path_from (seg_with w None xs) rest q other more, refl))))),
          at ∙
              ap (λ l. l ++ q) e ∙ append_assoc w a q,
        ),
      ),
    ),
  )
  split_at w (Some m) xs rest p q t (isw, (fit, (a, (h, e)))) other more at = (
    w,
    (
      decimal m ++ (a ++ q),
      (
        isw,
        inr (
          (
            m,
            (
              decimal m,
              (
                a ++ q,
                (
                  (omega (arith, fit), ((λ z. cc), refl)),
                  ((seg_with w (Some m) xs, (a, (q, (to_seg_after w (Some m) xs a h, (to_path_from (seg_with w (Some m) xs) rest q other more, refl))))), refl),
                ),
              ),
            ),
          ),
          at ∙ ap (λ l. l ++ q) e ∙ append_assoc ((w ++ codes "$") ++ decimal m) a q ∙ numbered_text w (decimal m) (a ++ q),
        ),
      ),
    ),
  )

  split : (segs : List Seg) (t : List ℕ) → segs ≢ [] → segs ≢ plain_str → IsJoined (CvSeg S) (codes "::") segs t → Split (Path segs) t
  unfolding seg_with
  split [] t ne other j = absurd (ne refl)
  split (s ∷ rest) t ne other j = let c = cut s rest t j in split_at s.word s.number s.args rest c.0 c.1.0 t c.1.1.0 other c.1.1.1.0 c.1.1.1.1

  split_path : (n : Name) (t : List ℕ) → PathIs n t → Split n t
  split_path n t (segs, (is, (ne, (other, j)))) = subst (λ n. Split n t) (sym is) (split segs t ne other j)

  to_path : (n : Name) (t : List ℕ) → PathIs n t → (path_of deep L.arg).Spells n t
  to_path n t h = by_split (split_path n t h)
    where
      by_split : Split n t → (path_of deep L.arg).Spells n t
      by_split (w, (r, (isw, inl (g, e)))) = (w, (w, (r, ((isw, refl), (inr g, e)))))
      by_split (w, (r, (isw, inr (g, e)))) = (w, (w, (36 ∷ r, ((isw, refl), (inl (refl, (r, (g, refl))), e)))))

  unformed_in : (in_arg : Bool) (o : Option Form) (w : List ℕ) (n : Name) (t : List ℕ) → (unformed deep L.arg w).Spells n t →
      (formed deep L in_arg o (unformed deep L.arg w)).Spells n t
  unformed_in in_arg None w n t h = h
  unformed_in in_arg (Some f) w n t h = inr h

  counted_in : (w : List ℕ) (n : Name) (t : List ℕ) → (counted deep L.arg w).Spells n t → (unformed deep L.arg w).Spells n t
  counted_in w n t h = by_flag (is_word w (codes "str")) (λ f. inl (f, inl h)) (λ f. inr (f, h))

  to_name_path : (in_arg : Bool) (n : Name) (t : List ℕ) → PathIs n t → (name_of deep L in_arg).Spells n t
  to_name_path in_arg n t h = by_split (split_path n t h)
    where
      by_split : Split n t → (name_of deep L in_arg).Spells n t
      by_split (w, (r, (isw, inl (g, e)))) = (w, (w, (r, ((isw, refl), (inr g, e)))))
      by_split (w, (r, (isw, inr (g, e)))) =
          (w, (w, (36 ∷ r, ((isw, refl), (inl (refl, (r, (unformed_in in_arg (form_named w) w n r (counted_in w n r g), refl))), e)))))

  -- what the content of a form says
  abbrev FormIs : Bool → Form → Name → List ℕ → Type 0
  FormIs in_arg f n q = Above (role_of in_arg) n (form_word f ++ (36 ∷ 60 ∷ q))

  of_pointer : (in_arg : Bool) (kind : PtrKind) (n : Name) (p t : List ℕ) → kind ≢ Boxed → (bind L.whole (λ x. give (Pointer kind x))).Spells n p →
      t ≡ closed (cv_kind_text kind ++ p) → Above (role_of in_arg) n t
  of_pointer in_arg kind n p t ne h e =
      let m = of_map L.whole (Pointer kind) n p h in
      inl (layer (role_of in_arg) n (Pointer kind m.0) (Name-F.Pointer kind m.0) t m.1.1 (outs-Pointer kind m.0)
      (no_member in_arg, (ne, (p, (means.of_whole m.0 p m.1.0, e)))))

  -- a function's result and parameters
  of_params : (x : Name) (n : Name) (a q p : List ℕ) → S whole x a → p ≡ a ++ q →
      (on true 44 (bind (many L.whole 44 []) (λ xs. give (Fn xs x))) (give (Fn [] x))).Spells n q
      → (xs : List Name) × ((n ≡ Fn xs x) × IsJoined (S whole) (codes ",") (x ∷ xs) p)
  of_params x n a q p hx eq (inl (f, (r, (h, e)))) =
      let m = of_map (many L.whole 44 []) (λ xs. Fn xs x) n r h in
      some m.0 m.1.0.0 m.1.1 (joined_as L.whole.Spells (S whole) (codes ",") means.of_whole m.0 r m.1.0.1)
    where
      some : (xs : List Name) → xs ≢ [] → n ≡ Fn xs x → IsJoined (S whole) (codes ",") xs r →
          (xs : List Name) × ((n ≡ Fn xs x) × IsJoined (S whole) (codes ",") (x ∷ xs) p)
      some [] ne is j = absurd (ne refl)
      some (y ∷ ys) ne is j = (y ∷ ys, (is, (a, (r, (hx, (j, eq ∙ ap (λ l. a ++ l) e))))))
  of_params x n a q p hx eq (inr (is, e)) = ([], (is, subst (S whole x) (sym (eq ∙ ap (λ l. a ++ l) e ∙ append-nil a)) hx))

  of_content : (in_arg : Bool) (f : Form) → may_stand deep in_arg f ≡ true → (n : Name) (p : List ℕ) → (content deep L f).Spells n p →
      FormIs in_arg f n (closed p)
  unfolding form_word
  of_content in_arg Form.Ref e n p h = of_pointer in_arg Ref n p _ (λ z. cc) h (sym (closed_after (codes "ref$") p))
  of_content in_arg Form.RefMut e n p h = of_pointer in_arg RefMut n p _ (λ z. cc) h (sym (closed_after (codes "ref_mut$") p))
  of_content in_arg Form.Const e n p h = of_pointer in_arg Const n p _ (λ z. cc) h (sym (closed_after (codes "ptr_const$") p))
  of_content in_arg Form.Mut e n p h = of_pointer in_arg Mut n p _ (λ z. cc) h (sym (closed_after (codes "ptr_mut$") p))
  of_content in_arg Form.Slice e n p h =
      let m = of_map L.whole Slice n p h in
      inl (layer (role_of in_arg) n (Slice m.0) (Name-F.Slice m.0) _ m.1.1 (outs-Slice m.0)
      (no_member in_arg, (p, (means.of_whole m.0 p m.1.0, sym (closed_after (codes "slice2$") p)))))
  of_content in_arg Form.Array e n p (x, (a, (q, (hx, (h, eq))))) =
      let g = of_literal (codes ",") (bind (number true (2 ^ 64 - 1)) (λ n. give (Array x n))) n q h in
      let m = of_map (number true (2 ^ 64 - 1)) (Array x) n g.0 g.1.0 in
      inl
      (layer (role_of in_arg) n (Array x m.0) (Name-F.Array x m.0) _ m.1.1 (outs-Array x m.0) (
        no_member in_arg,
        (
          omega (arith, m.1.0.0),
          (
            a,
            (
              means.of_whole x a hx,
              sym (closed_after (codes "array$") p) ∙
                  ap (λ l. closed (codes "array$<" ++ l)) (eq ∙ ap (λ l. a ++ l) (g.1.1 ∙ ap (λ l. codes "," ++ l) m.1.0.1.1)) ∙
                  ap closed (sym (paired_text (codes "array$<") a (decimal m.0))),
            ),
          ),
        ),
      ))
  of_content in_arg Form.Tuple e n p (inl (f, h)) =
      let m = of_map (many L.whole 44 []) Tuple n p h in
      inl
      (layer (role_of in_arg) n (Tuple m.0) (Name-F.Tuple m.0) _ m.1.1 (outs-Tuple m.0)
      (no_member in_arg, (p, (joined_as L.whole.Spells (S whole) (codes ",") means.of_whole m.0 p m.1.0.1, sym (closed_after (codes "tuple$") p)))))
  of_content in_arg Form.Tuple e n p (inr (f, h)) = absurd h
  of_content in_arg Form.Dyn e n p h =
      let m = of_map (many L.member 44 []) Dyn n p h in
      inl
      (layer (role_of in_arg) n (Dyn m.0) (Name-F.Dyn m.0) _ m.1.1 (outs-Dyn m.0)
      (no_member in_arg, (m.1.0.0, (p, (joined_as L.member.Spells (S member) (codes ",") means.of_member m.0 p m.1.0.1, sym (closed_after (codes "dyn$") p))))))
  of_content in_arg Form.Fn e n p (x, (a, (q, (hx, (h, eq))))) =
      let m = of_params x n a q p (means.of_whole x a hx) eq h in
      inl (layer (role_of in_arg) n (Fn m.0 x) (Name-F.Fn m.0 x) _ m.1.0 (outs-Fn m.0 x) (no_member in_arg, (p, (m.1.1, sym (closed_after (codes "fn$") p)))))
  of_content in_arg Form.Bind e n p (w, (a, (q, (isw, (h, eq))))) =
      let g = of_literal (codes ",") (bind L.whole (λ x. give (Bind w x))) n q h in
      let m = of_map L.whole (Bind w) n g.0 g.1.0 in
      inl
      (layer (role_of in_arg) n (Bind w m.0) (Name-F.Bind w m.0) _ m.1.1 (outs-Bind w m.0) (
        is_arg in_arg (and_right deep in_arg e),
        (
          isw.0,
          (
            g.0,
            (
              means.of_whole m.0 g.0 m.1.0,
              sym (closed_after (codes "assoc$") p) ∙
                  ap (λ l. closed (codes "assoc$<" ++ l)) (eq ∙ ap (λ l. l ++ q) isw.1 ∙ ap (λ l. w ++ l) g.1.1) ∙
                  ap closed (sym (paired_text (codes "assoc$<") w g.0)),
            ),
          ),
        ),
      ))
  of_content in_arg Form.Enum e n p h = inr (no_member in_arg, (p, (path_layer member n p (of_path n p h), sym (closed_after (codes "enum2$") p))))

  of_empty : (in_arg : Bool) (f : Form) → is_tuple f ≡ true → FormIs in_arg f (Tuple []) (62 ∷ [])
  unfolding form_word
  of_empty in_arg Form.Ref e = cc
  of_empty in_arg Form.RefMut e = cc
  of_empty in_arg Form.Const e = cc
  of_empty in_arg Form.Mut e = cc
  of_empty in_arg Form.Slice e = cc
  of_empty in_arg Form.Array e = cc
  of_empty in_arg Form.Tuple e =
      inl (layer (role_of in_arg) (Tuple []) (Tuple []) (Name-F.Tuple []) _ refl (outs-Tuple []) (no_member in_arg, ([], (refl, refl))))
  of_empty in_arg Form.Dyn e = cc
  of_empty in_arg Form.Fn e = cc
  of_empty in_arg Form.Bind e = cc
  of_empty in_arg Form.Enum e = cc

  of_form : (in_arg : Bool) (f : Form) → may_stand deep in_arg f ≡ true → (n : Name) (q : List ℕ) → (form_of deep L f).Spells n q → FormIs in_arg f n q
  of_form in_arg f e n q (inl (g, (r, (h, at)))) =
      subst (λ l. FormIs in_arg f n l) (sym (at ∙ ap (λ l. 62 ∷ l) h.1)) (subst (λ m. FormIs in_arg f m (62 ∷ [])) (sym h.0) (of_empty in_arg f g))
  of_form in_arg f e n q (inr h) = let c =
      of_closing (content deep L f) n q h in subst (λ l. FormIs in_arg f n l) (sym c.1.1) (of_content in_arg f e n c.0 c.1.0)

  of_unformed : (in_arg : Bool) (w : List ℕ) (n : Name) (r : List ℕ) → IsWord w → (unformed deep L.arg w).Spells n r → Above (role_of in_arg) n (w ++ (36 ∷ r))
  of_unformed in_arg w n r isw (inl (f, inl h)) = inl (path_layer (role_of in_arg) n (w ++ (36 ∷ r)) (of_counted w n r isw h))
  of_unformed in_arg w n r isw (inl (f, inr (is, e))) =
      inl (layer (role_of in_arg) n Str Name-F.Str (w ++ (36 ∷ r)) is outs-Str
      (no_member in_arg, ap (λ l. w ++ (36 ∷ l)) e ∙ ap (λ l. l ++ (36 ∷ [])) (same_word w (codes "str") f)))
  of_unformed in_arg w n r isw (inr (f, h)) = inl (path_layer (role_of in_arg) n (w ++ (36 ∷ r)) (of_counted w n r isw h))

  of_formed : (in_arg : Bool) (o : Option Form) (w : List ℕ) (n : Name) (r : List ℕ) → form_named w ≡ o → IsWord w →
      (formed deep L in_arg o (unformed deep L.arg w)).Spells n r → Above (role_of in_arg) n (w ++ (36 ∷ r))
  of_formed in_arg None w n r is isw h = of_unformed in_arg w n r isw h
  of_formed in_arg (Some f) w n r is isw (inl (m, (q, (h, e)))) =
      subst (Above (role_of in_arg) n) (ap (λ l. l ++ (36 ∷ 60 ∷ q)) (sym (named_is w f is)) ∙ ap (λ l. w ++ (36 ∷ l)) (sym e)) (of_form in_arg f m n q h)
  of_formed in_arg (Some f) w n r is isw (inr h) = of_unformed in_arg w n r isw h

  of_name : (in_arg : Bool) (n : Name) (t : List ℕ) → (name_of deep L in_arg).Spells n t → Above (role_of in_arg) n t
  of_name in_arg n t (w, (p, (q, (isw, (inl (f, (r, (h, e2))), e))))) =
      subst (Above (role_of in_arg) n) (sym (e ∙ ap (λ l. l ++ q) isw.1 ∙ ap (λ l. w ++ l) e2)) (of_formed in_arg (form_named w) w n r refl isw.0 h)
  of_name in_arg n t (w, (p, (q, (isw, (inr h, e))))) =
      inl (path_layer (role_of in_arg) n t (subst (PathIs n) (sym (e ∙ ap (λ l. l ++ q) isw.1)) (of_path_after w None n q isw.0 tt h)))

  of_number : (n : Name) (t : List ℕ) → number_of.Spells n t → Above arg n t
  of_number n t (inl (f, (q, (h, e)))) =
      let m = of_map (number false (2 ^ 128 - 1)) (Number true) n q h in
      inl (layer arg n (Number true m.0) (Name-F.Number true m.0) t m.1.1 (outs-Number true m.0)
      (tt, (omega (arith, m.1.0.0), ((λ z. m.1.0.1.0 refl), e ∙ ap (λ l. 45 ∷ l) m.1.0.1.1))))
  of_number n t (inr h) =
      let m = of_map (number true (2 ^ 128 - 1)) (Number false) n t h in
      inl (layer arg n (Number false m.0) (Name-F.Number false m.0) t m.1.1 (outs-Number false m.0) (tt, (omega (arith, m.1.0.0), ((λ z. cc), m.1.0.1.1))))

  -- a form is read by its word
  to_form : (in_arg : Bool) (f : Form) (n : Name) (q : List ℕ) → may_stand deep in_arg f ≡ true → (form_of deep L f).Spells n q →
      (name_of deep L in_arg).Spells n (form_word f ++ (36 ∷ 60 ∷ q))
  to_form in_arg f n q may h =
      let after = subst (λ o. (formed deep L in_arg o (unformed deep L.arg (form_word f))).Spells n (60 ∷ q)) (sym (names f)) (inl (may, (q, (h, refl)))) in
      (form_word f, (form_word f, (36 ∷ 60 ∷ q, ((word_is f, refl), (inl (refl, (60 ∷ q, (after, refl))), refl)))))

  to_closed_form : (in_arg : Bool) (f : Form) (n : Name) (a t : List ℕ) → may_stand deep in_arg f ≡ true → (content deep L f).Spells n a →
      t ≡ form_word f ++ (36 ∷ 60 ∷ closed a) → (name_of deep L in_arg).Spells n t
  to_closed_form in_arg f n a t may h e =
      subst ((name_of deep L in_arg).Spells n) (sym e) (to_form in_arg f n (closed a) may (inr (to_closing (content deep L f) n a h)))

  abbrev Layer : Bool → Name-F Name Seg → List ℕ → Type 0
  Layer in_arg l t = CvLayer S (role_of in_arg) l t

  to_pointer : (in_arg : Bool) (kind : PtrKind) (x : Name) (t : List ℕ) → Layer in_arg (Name-F.Pointer kind x) t →
      (name_of deep L in_arg).Spells (Pointer kind x) t
  unfolding form_word
  to_pointer in_arg Ref x t (nm, (nb, (a, (h, e)))) =
      to_closed_form in_arg Form.Ref (Pointer Ref x) a t (is_deep whole x a h) (to_map L.whole (Pointer Ref) x a (means.to_whole x a h))
      (e ∙ closed_after (codes "ref$") a)
  to_pointer in_arg RefMut x t (nm, (nb, (a, (h, e)))) =
      to_closed_form in_arg Form.RefMut (Pointer RefMut x) a t (is_deep whole x a h) (to_map L.whole (Pointer RefMut) x a (means.to_whole x a h))
      (e ∙ closed_after (codes "ref_mut$") a)
  to_pointer in_arg Const x t (nm, (nb, (a, (h, e)))) =
      to_closed_form in_arg Form.Const (Pointer Const x) a t (is_deep whole x a h) (to_map L.whole (Pointer Const) x a (means.to_whole x a h))
      (e ∙ closed_after (codes "ptr_const$") a)
  to_pointer in_arg Mut x t (nm, (nb, (a, (h, e)))) =
      to_closed_form in_arg Form.Mut (Pointer Mut x) a t (is_deep whole x a h) (to_map L.whole (Pointer Mut) x a (means.to_whole x a h))
      (e ∙ closed_after (codes "ptr_mut$") a)
  to_pointer in_arg Boxed x t (nm, (nb, more)) = absurd (nb refl)

  to_slice : (in_arg : Bool) (x : Name) (t : List ℕ) → Layer in_arg (Name-F.Slice x) t → (name_of deep L in_arg).Spells (Slice x) t
  unfolding form_word
  to_slice in_arg x t (nm, (a, (h, e))) =
      to_closed_form in_arg Form.Slice (Slice x) a t (is_deep whole x a h) (to_map L.whole Slice x a (means.to_whole x a h))
      (e ∙ closed_after (codes "slice2$") a)

  to_array : (in_arg : Bool) (x : Name) (n : ℕ) (t : List ℕ) → Layer in_arg (Name-F.Array x n) t → (name_of deep L in_arg).Spells (Array x n) t
  unfolding form_word
  to_array in_arg x n t (nm, (less, (a, (h, e)))) =
      let count = to_literal (codes ",") (bind (number true (2 ^ 64 - 1)) (λ n. give (Array x n))) (Array x n) (decimal n)
      (to_map (number true (2 ^ 64 - 1)) (Array x) n (decimal n) (omega (arith, less), ((λ z. cc), refl))) in
      to_closed_form in_arg Form.Array (Array x n) (a ++ (codes "," ++ decimal n)) t (is_deep whole x a h)
      (x, (a, (codes "," ++ decimal n, (means.to_whole x a h, (count, refl)))))
      (e ∙ ap closed (paired_text (codes "array$<") a (decimal n)) ∙ closed_after (codes "array$") (a ++ (codes "," ++ decimal n)))

  wholes : (xs : List Name) (t : List ℕ) → IsJoined (S whole) (codes ",") xs t → IsJoined L.whole.Spells (codes ",") xs t
  wholes = joined_as (S whole) L.whole.Spells (codes ",") means.to_whole

  to_tuple : (in_arg : Bool) (xs : List Name) (t : List ℕ) → Layer in_arg (Name-F.Tuple xs) t → (name_of deep L in_arg).Spells (Tuple xs) t
  unfolding form_word
  to_tuple in_arg [] t (nm, (a, (j, e))) =
      subst ((name_of deep L in_arg).Spells (Tuple [])) (sym (e ∙ ap (λ l. closed (codes "tuple$<" ++ l)) j))
      (to_form in_arg Form.Tuple (Tuple []) (62 ∷ []) refl (inl (refl, ([], ((refl, refl), refl)))))
  to_tuple in_arg (y ∷ ys) t (nm, (a, (j, e))) =
      let first = first_of (S whole) (codes ",") y ys a j in
      to_closed_form in_arg Form.Tuple (Tuple (y ∷ ys)) a t refl
      (inl (is_deep whole y first.0 first.1, to_map (many L.whole 44 []) Tuple (y ∷ ys) a ((λ z. cc), wholes (y ∷ ys) a j)))
      (e ∙ closed_after (codes "tuple$") a)

  to_str : (in_arg : Bool) (t : List ℕ) → Layer in_arg Name-F.Str t → (name_of deep L in_arg).Spells Str t
  to_str in_arg t (nm, e) = (codes "str", (codes "str", (36 ∷ [], ((str_word, refl), (inl (refl, ([], (inl (refl, inr (refl, refl)), refl))), e)))))

  to_dyn : (in_arg : Bool) (xs : List Name) (t : List ℕ) → Layer in_arg (Name-F.Dyn xs) t → (name_of deep L in_arg).Spells (Dyn xs) t
  unfolding form_word
  to_dyn in_arg [] t (nm, (ne, more)) = absurd (ne refl)
  to_dyn in_arg (y ∷ ys) t (nm, (ne, (a, (j, e)))) =
      let first = first_of (S member) (codes ",") y ys a j in
      to_closed_form in_arg Form.Dyn (Dyn (y ∷ ys)) a t (is_deep member y first.0 first.1)
      (to_map (many L.member 44 []) Dyn (y ∷ ys) a ((λ z. cc), joined_as (S member) L.member.Spells (codes ",") means.to_member (y ∷ ys) a j))
      (e ∙ closed_after (codes "dyn$") a)

  to_fn : (in_arg : Bool) (xs : List Name) (x : Name) (t : List ℕ) → Layer in_arg (Name-F.Fn xs x) t → (name_of deep L in_arg).Spells (Fn xs x) t
  unfolding form_word
  to_fn in_arg [] x t (nm, (a, (j, e))) =
      to_closed_form in_arg Form.Fn (Fn [] x) a t (is_deep whole x a j) (x, (a, ([], (means.to_whole x a j, (inr (refl, refl), sym (append-nil a))))))
      (e ∙ closed_after (codes "fn$") a)
  to_fn in_arg (y ∷ ys) x t (nm, (a, ((p, (b, (hx, (j, e2)))), e))) =
      to_closed_form in_arg Form.Fn (Fn (y ∷ ys) x) a t (is_deep whole x p hx) (
        x,
        (
          p,
          (
            44 ∷ b,
            (
              means.to_whole x p hx,
              (inl (refl, (b, (to_map (many L.whole 44 []) (λ xs. Fn xs x) (y ∷ ys) b ((λ z. cc), wholes (y ∷ ys) b j), refl))), e2),
            ),
          ),
        ),
      )
      (e ∙ closed_after (codes "fn$") a)

  to_bind : (in_arg : Bool) (w : List ℕ) (x : Name) (t : List ℕ) → Layer in_arg (Name-F.Bind w x) t → (name_of deep L in_arg).Spells (Bind w x) t
  unfolding form_word
  to_bind in_arg w x t (ia, (isw, (a, (h, e)))) =
      let to = to_literal (codes ",") (bind L.whole (λ x. give (Bind w x))) (Bind w x) a (to_map L.whole (Bind w) x a (means.to_whole x a h)) in
      to_closed_form in_arg Form.Bind (Bind w x) (w ++ (codes "," ++ a)) t (and_join deep in_arg (is_deep whole x a h) (arg_is in_arg ia))
      (w, (w, (codes "," ++ a, ((isw, refl), (to, refl)))))
      (e ∙ ap closed (paired_text (codes "assoc$<") w a) ∙ closed_after (codes "assoc$") (w ++ (codes "," ++ a)))

  to_number : (minus : Bool) (n : ℕ) (t : List ℕ) → n < 2 ^ 128 → (minus ≡ true → n ≢ 0) → t ≡ sign_text minus ++ decimal n →
      number_of.Spells (Number minus n) t
  to_number true n t less not_zero e =
      inl (refl, (decimal n, (to_map (number false (2 ^ 128 - 1)) (Number true) n (decimal n) (omega (arith, less), ((λ z. not_zero refl), refl)), e)))
  to_number false n t less not_zero e = inr (to_map (number true (2 ^ 128 - 1)) (Number false) n t (omega (arith, less), ((λ z. cc), e)))

  -- a name that begins with a word, or a number among args
  abbrev Named : Bool → Name → List ℕ → Type 0
  Named in_arg n t = (name_of deep L in_arg).Spells n t ⊎ ((in_arg ≡ true) × number_of.Spells n t)

  module _ (in_arg : Bool) (t : List ℕ) where
    abbrev Goal : Name → Type 0
    Goal n = Layer in_arg (out-Name n) t → Named in_arg n t

    at : (n : Name) (l : Name-F Name Seg) → out-Name n ≡ l → (Layer in_arg l t → Named in_arg n t) → Goal n
    at n l e f h = f (subst (λ l. Layer in_arg l t) e h)

    to_layer : (n : Name) → Goal n
    to_layer =
        Name-cases Goal
        (λ segs. at (Path segs) (Name-F.Path segs) (outs-Path segs) (λ h. inl (to_name_path in_arg (Path segs) t (segs, (refl, h)))))
        (λ kind x. at (Pointer kind x) (Name-F.Pointer kind x) (outs-Pointer kind x) (λ h. inl (to_pointer in_arg kind x t h)))
        (λ x. at (Slice x) (Name-F.Slice x) (outs-Slice x) (λ h. inl (to_slice in_arg x t h)))
        (λ x n. at (Array x n) (Name-F.Array x n) (outs-Array x n) (λ h. inl (to_array in_arg x n t h)))
        (λ xs. at (Tuple xs) (Name-F.Tuple xs) (outs-Tuple xs) (λ h. inl (to_tuple in_arg xs t h)))
        (at Str Name-F.Str outs-Str (λ h. inl (to_str in_arg t h)))
        (λ xs. at (Dyn xs) (Name-F.Dyn xs) (outs-Dyn xs) (λ h. inl (to_dyn in_arg xs t h)))
        (λ xs x. at (Fn xs x) (Name-F.Fn xs x) (outs-Fn xs x) (λ h. inl (to_fn in_arg xs x t h)))
        (λ minus n. at (Number minus n) (Name-F.Number minus n) (outs-Number minus n) (λ h. inr (arg_is in_arg h.0, to_number minus n t h.1.0 h.1.1.0 h.1.1.1)))
        (λ w x. at (Bind w x) (Name-F.Bind w x) (outs-Bind w x) (λ h. inl (to_bind in_arg w x t h)))
        (λ s. at (Raw s) (Name-F.Raw s) (outs-Raw s) (λ h. absurd h))

  to_named : (in_arg : Bool) (n : Name) (t : List ℕ) → Above (role_of in_arg) n t → Named in_arg n t
  unfolding form_word
  to_named in_arg n t (inl h) = to_layer in_arg t n h
  to_named in_arg n t (inr (nm, (a, (h, e)))) =
      inl (to_closed_form in_arg Form.Enum n a t refl (to_path n a (member_path n a h)) (e ∙ closed_after (codes "enum2$") a))

  to_whole_above : (n : Name) (t : List ℕ) → Above whole n t → (name_of deep L false).Spells n t
  unfolding role_of
  to_whole_above n t h = each (to_named false n t h)
    where
      each : Named false n t → (name_of deep L false).Spells n t
      each (inl g) = g
      each (inr g) = let no : false ≡ true = g.0 in cc

  to_arg_above : (n : Name) (t : List ℕ) → Above arg n t → (arg_of deep L).Spells n t
  unfolding role_of
  to_arg_above n t h = each (to_named true n t h)
    where
      each : Named true n t → (arg_of deep L).Spells n t
      each (inl g) = inl g
      each (inr g) = inr g.1

  to_member_above : (n : Name) (t : List ℕ) → Above member n t → (path_of deep L.arg).Spells n t
  to_member_above n t (inl h) = to_path n t (member_path n t h)
  to_member_above n t (inr h) = absurd h.0

  of_arg_above : (n : Name) (t : List ℕ) → (arg_of deep L).Spells n t → Above arg n t
  unfolding role_of
  of_arg_above n t (inl h) = of_name true n t h
  of_arg_above n t (inr h) = of_number n t h

  of_whole_above : (n : Name) (t : List ℕ) → (name_of deep L false).Spells n t → Above whole n t
  unfolding role_of
  of_whole_above n t h = of_name false n t h

  pub means_above : Means (suc d) (level_of deep L)
  unfolding CvSpelled
  means_above = record {
    of_whole = of_whole_above;
    of_arg = of_arg_above;
    of_member = λ n t h. inl (path_layer member n t (of_path n t h));
    to_whole = to_whole_above;
    to_arg = to_arg_above;
    to_member = to_member_above;
  }

no_means : Means 0 none_level
unfolding CvSpelled
no_means = record {
  of_whole = λ n t h. absurd h;
  of_arg = λ n t h. absurd h;
  of_member = λ n t h. absurd h;
  to_whole = λ n t h. absurd h;
  to_arg = λ n t h. absurd h;
  to_member = λ n t h. absurd h;
}

some_deep : (d : ℕ) (role : Role) (n : Name) (t : List ℕ) → CvSpelled d role n t → has_some d ≡ true
unfolding CvSpelled
some_deep zero role n t h = absurd h
some_deep (suc d) role n t h = refl

-- what the readers of CodeView's spelling read
pub cv_means : (d : ℕ) → Means d (cv d)
unfolding cv
cv_means zero = no_means
cv_means (suc d) = means_above d (cv d) (cv_means d) (has_some d) (some_deep d)
