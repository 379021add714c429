-- The grammar of CodeView's spelling is read as a reader owes.
use Rattle.std.proofs.Common.{◌≡◌, ℕ, zero, suc, ◌-◌, ◌^◌, Bool, true, false, ◌==◌, ◌&&◌, ◌||◌, if◌then◌else◌, List, [], ◌∷◌, Option, Some}
use Rattle.std.proofs.Common.{None, inl, refl, sym, ap, subst, ◌∙◌, arith, codes}
use Rattle.std.proofs.lemmas.Bool.{eqb-true}
use Rattle.names.specs.declared.name.Name.{Name}
use Rattle.names.specs.declared.name.Name.TheVariants.{Path, Pointer, Slice, Array, Tuple, Str, Dyn, Fn, Number, Bind}
use Rattle.names.specs.declared.name.Seg.{Seg}
use Rattle.names.specs.declared.name.PtrKind.TheVariants.{Ref, RefMut, Const, Mut}
use Rattle.cv_names.specs.declared.cv_form.Form.{Form}
use Rattle.names.specs.Words.{is_digit}
use Rattle.names.specs.Reading.{Reader, begins, tail, give, never, bind, on, either, where_first, literal, many, word, number, starts_word, starts_digit}
use Rattle.names.specs.Plain.{is_word, is_plain_str, has_some}
use Rattle.cv_names.specs.Closings.{closed_by}
use Rattle.cv_names.specs.CvGrammar.{Level, form_named, may_stand, is_tuple, args_of, seg_after, seg_of, path_from, path_after, counted}
use Rattle.cv_names.specs.CvGrammar.{path_of, array_of, function_of, binding_of, content, form_of, formed, unformed, after_dollar, worded}
use Rattle.cv_names.specs.CvGrammar.{name_of, number_of, level_of, none_level, cv, within}
use Rattle.names.proofs.Readers.{Suffix, suffix_of, IsReader, Inhabited, give_reader, never_reader, fewer_stops}
use Rattle.names.proofs.Lists.{many_reader, many_some}
use Rattle.names.proofs.Words.{NoChar, word_reader}
use Rattle.names.proofs.Decimals.{NoDigit, number_reader, number_some}
use Rattle.names.proofs.Starts.{Starts, starts_give, starts_never, starts_on, starts_either, starts_where, starts_first, starts_both}
use Rattle.names.proofs.Starts.{starts_words, not_word, either_reader}
use Rattle.names.proofs.Combined.{Not, NoWord, starts_then, starts_many, then_reader, then_some, give_some, choice_reader, choice_some}
use Rattle.names.proofs.Combined.{choice_other, either_some, where_some, at_word, at_digit, a_word, starts_number, or_cases, digit_starts}
use Rattle.names.proofs.Combined.{after_literal, after_literal_some, starts_after}
use Rattle.cv_names.proofs.Closings.{CloseStops, closed_reader, closed_some, starts_closed}

-- a byte that may follow a name
abbrev pub is_end : ℕ → Bool
is_end c = c == 44 || (c == 62 || c == 32)

abbrev pub NameStops : List ℕ → Type 0
NameStops [] = Unit {0}
NameStops (c ∷ k) = is_end c ≡ true

abbrev pub SegStops : List ℕ → Type 0
SegStops k = NoChar k × (NoDigit k × (Not 36 k × Not 60 k))

abbrev pub PathStops : List ℕ → Type 0
PathStops k = SegStops k × Not 58 k

-- what may follow a list that is to be closed
abbrev ItemStops : List ℕ → Type 0
ItemStops k = NameStops k × Not 44 k

end_cases : (P : ℕ → Type 0) → P 44 → P 62 → P 32 → (c : ℕ) → is_end c ≡ true → P c
end_cases P comma closing space = or_cases P 44 _ comma (or_cases P 62 _ closing (λ c e. subst P (sym (eqb-true c 32 e)) space))

-- what begins as a name's stop does has H
of_name : (H : List ℕ → Type 0) → H [] → ((m : List ℕ) → H (44 ∷ m) × (H (62 ∷ m) × H (32 ∷ m))) → (k : List ℕ) → NameStops k → H k
of_name H none h [] stops = none
of_name H none h (c ∷ k) stops = let p = h k in end_cases (λ c. H (c ∷ k)) p.0 p.1.0 p.1.1 c stops

of_close : (H : List ℕ → Type 0) → ((m : List ℕ) → H (62 ∷ m) × H (32 ∷ m)) → (k : List ℕ) → CloseStops k → H k
of_close H h [] stops = absurd stops
of_close H h (c ∷ k) stops = let p = h k in or_cases (λ c. H (c ∷ k)) 62 _ p.0 (λ c e. subst (λ c. H (c ∷ k)) (sym (eqb-true c 32 e)) p.1) c stops

name_path : (k : List ℕ) → NameStops k → PathStops k
name_path =
    of_name PathStops ((tt, (tt, (refl, refl))), refl)
    (λ m. (((refl, (refl, (refl, refl))), refl), (((refl, (refl, (refl, refl))), refl), ((refl, (refl, (refl, refl))), refl))))

close_item : (k : List ℕ) → CloseStops k → ItemStops k
close_item = of_close ItemStops (λ m. ((refl, refl), (refl, refl)))

close_name : (k : List ℕ) → CloseStops k → NameStops k
close_name k h = (close_item k h).0

close_path : (k : List ℕ) → CloseStops k → PathStops k
close_path k h = name_path k (close_name k h)

-- what began alike before what may follow does so where less may follow
fewer_starts : {A : Type 0} {H Stops Stops' : List ℕ → Type 0} (R : Reader A) → ((k : List ℕ) → Stops' k → Stops k) → Starts H Stops R → Starts H Stops' R
fewer_starts R fewer h = record { at = λ w t k x stops. h.at w t k x (fewer k stops) }

-- segments and paths, where an arg is read as it owes if there may be args
module _ (deep : Bool) (arg : Reader Name) (is_arg : deep ≡ true → IsReader NameStops arg) (some_arg : deep ≡ true → Inhabited arg) where
  arg_list : Reader (List Name)
  arg_list = closed_by (many arg 44 [])

  arg_list_reader : (Stops : List ℕ → Type 0) → deep ≡ true → IsReader Stops arg_list
  unfolding arg_list
  arg_list_reader Stops f =
      closed_reader (many arg 44 []) Stops (fewer_stops (many arg 44 []) close_item (many_reader arg 44 [] (is_arg f) (some_arg f) (λ m. refl)))

  arg_list_some : deep ≡ true → Inhabited arg_list
  unfolding arg_list
  arg_list_some f = closed_some (many arg 44 []) (many_some arg 44 [] (is_arg f) (some_arg f) (λ m. refl))

  args_reader : (Stops : List ℕ → Type 0) → ((k : List ℕ) → Stops k → Not 60 k) → IsReader Stops (args_of deep arg)
  unfolding arg_list
  args_reader Stops none = choice_reader deep 60 arg_list (give []) (arg_list_reader Stops) arg_list_some (give_reader Stops []) (λ f. starts_give [] none)

  starts_args : (H : List ℕ → Type 0) → ((m : List ℕ) → H (60 ∷ m)) → Starts H H (args_of deep arg)
  unfolding arg_list
  starts_args H h = starts_on deep 60 arg_list (give []) h (starts_give [] (λ k x. x))

  args_some : Inhabited (args_of deep arg)
  unfolding arg_list
  args_some = choice_other deep 60 arg_list (give []) (give_some [])

  seg_with : List ℕ → Option ℕ → List Name → Reader Seg
  seg_with w n xs = give (record { word = w; number = n; args = xs })

  seg_after_reader : (Stops : List ℕ → Type 0) → ((k : List ℕ) → Stops k → Not 60 k) → (w : List ℕ) (n : Option ℕ) → IsReader Stops (seg_after deep arg w n)
  unfolding seg_with
  seg_after_reader Stops none w n =
      then_reader (args_of deep arg) (seg_with w n) (args_reader Stops none) (λ xs. give_reader Stops _) (λ xs. give_some _) (λ xs. starts_give _ (λ k x. x))

  starts_seg_after : (H Stops : List ℕ → Type 0) → ((m : List ℕ) → H (60 ∷ m)) → ((k : List ℕ) → Stops k → H k) → (w : List ℕ) (n : Option ℕ) →
      Starts H Stops (seg_after deep arg w n)
  unfolding seg_with
  starts_seg_after H Stops h stop w n = starts_both (args_of deep arg) (seg_with w n) (starts_args H h) (λ xs. starts_give _ stop)

  seg_after_some : (w : List ℕ) (n : Option ℕ) → Inhabited (seg_after deep arg w n)
  unfolding seg_with
  seg_after_some w n = then_some (args_of deep arg) (seg_with w n) args_some (λ xs. give_some _)

  seg_number : List ℕ → ℕ → Reader Seg
  seg_number w n = seg_after deep arg w (Some n)

  seg_counted : List ℕ → Reader Seg
  seg_counted w = bind (number true (2 ^ 32 - 1)) (seg_number w)

  seg_worded : List ℕ → Reader Seg
  seg_worded w = on true 36 (seg_counted w) (seg_after deep arg w None)

  seg_counted_reader : (w : List ℕ) → IsReader SegStops (seg_counted w)
  unfolding seg_counted seg_number
  seg_counted_reader w =
      then_reader (number true (2 ^ 32 - 1)) (seg_number w) (number_reader true (2 ^ 32 - 1) (omega arith) (omega arith))
      (λ n. seg_after_reader SegStops (λ k h. h.1.1.1) w (Some n)) (λ n. seg_after_some w (Some n))
      (λ n. starts_seg_after NoDigit SegStops (λ m. refl) (λ k h. h.1.0) w (Some n))

  a_number : Inhabited (number true (2 ^ 32 - 1))
  a_number = number_some true (2 ^ 32 - 1) (omega arith) (omega arith) 1 (omega arith) (omega arith)

  seg_counted_some : (w : List ℕ) → Inhabited (seg_counted w)
  unfolding seg_counted seg_number
  seg_counted_some w = then_some (number true (2 ^ 32 - 1)) (seg_number w) a_number (λ n. seg_after_some w (Some n))

  seg_worded_reader : (w : List ℕ) → IsReader SegStops (seg_worded w)
  unfolding seg_worded
  seg_worded_reader w =
      choice_reader true 36 (seg_counted w) (seg_after deep arg w None) (λ f. seg_counted_reader w) (λ f. seg_counted_some w)
      (seg_after_reader SegStops (λ k h. h.1.1.1) w None)
      (λ f. starts_seg_after (Not 36) SegStops (λ m. refl) (λ k h. h.1.1.0) w None)

  seg_worded_some : (w : List ℕ) → Inhabited (seg_worded w)
  unfolding seg_worded
  seg_worded_some w = choice_other true 36 (seg_counted w) (seg_after deep arg w None) (seg_after_some w None)

  starts_seg_worded : (w : List ℕ) → Starts NoChar SegStops (seg_worded w)
  unfolding seg_worded
  starts_seg_worded w =
      starts_on true 36 (seg_counted w) (seg_after deep arg w None) (λ m. refl) (starts_seg_after NoChar SegStops (λ m. refl) (λ k h. h.0) w None)

  seg_reader : IsReader SegStops (seg_of deep arg)
  unfolding seg_worded seg_counted seg_number
  seg_reader = then_reader word seg_worded word_reader seg_worded_reader seg_worded_some starts_seg_worded

  seg_some : Inhabited (seg_of deep arg)
  unfolding seg_worded seg_counted seg_number
  seg_some = then_some word seg_worded a_word seg_worded_some

  abbrev segs : Reader (List Seg)
  segs = many (seg_of deep arg) 58 (codes ":")

  segs_reader : IsReader PathStops segs
  segs_reader = many_reader (seg_of deep arg) 58 (codes ":") seg_reader seg_some (λ m. (refl, (refl, (refl, refl))))

  segs_some : Inhabited segs
  segs_some = many_some (seg_of deep arg) 58 (codes ":") seg_reader seg_some (λ m. (refl, (refl, (refl, refl))))

  more_segs : Seg → Reader Name
  more_segs s = bind segs (λ rest. give (Path (s ∷ rest)))

  more_segs_reader : (s : Seg) → IsReader PathStops (more_segs s)
  unfolding more_segs
  more_segs_reader s =
      then_reader segs (λ rest. give (Path (s ∷ rest))) segs_reader (λ rest. give_reader PathStops _) (λ rest. give_some _) (λ rest. starts_give _ (λ k h. h))

  more_segs_some : (s : Seg) → Inhabited (more_segs s)
  unfolding more_segs
  more_segs_some s = then_some segs (λ rest. give (Path (s ∷ rest))) segs_some (λ rest. give_some _)

  path_from_reader : (s : Seg) → IsReader PathStops (path_from deep arg s)
  unfolding more_segs
  path_from_reader s =
      choice_reader true 58 (bind (literal (codes ":")) (λ _. more_segs s)) (either (is_plain_str s) never (give (Path (s ∷ []))))
      (λ f. after_literal (codes ":") (more_segs s) (more_segs_reader s) (more_segs_some s))
      (λ f. after_literal_some (codes ":") (more_segs s) (more_segs_some s))
      (either_reader (is_plain_str s) never (give (Path (s ∷ []))) (λ f. never_reader PathStops) (λ f. give_reader PathStops _))
      (λ f. starts_either (is_plain_str s) never (give (Path (s ∷ []))) (λ g. starts_never) (λ g. starts_give _ (λ k h. h.1)))

  path_from_some : (s : Seg) → Inhabited (path_from deep arg s)
  unfolding more_segs
  path_from_some s = choice_some 58 (bind (literal (codes ":")) (λ _. more_segs s)) (either (is_plain_str s) never (give (Path (s ∷ []))))
      (after_literal_some (codes ":") (more_segs s) (more_segs_some s))

  starts_path_from : (H Stops : List ℕ → Type 0) → ((m : List ℕ) → H (58 ∷ m)) → ((k : List ℕ) → Stops k → H k) → (s : Seg) →
      Starts H Stops (path_from deep arg s)
  unfolding more_segs
  starts_path_from H Stops h stop s =
      starts_on true 58 (bind (literal (codes ":")) (λ _. more_segs s)) (either (is_plain_str s) never (give (Path (s ∷ [])))) h
      (starts_either (is_plain_str s) never (give (Path (s ∷ []))) (λ g. starts_never) (λ g. starts_give _ stop))

  pub path_after_reader : (w : List ℕ) (n : Option ℕ) → IsReader PathStops (path_after deep arg w n)
  path_after_reader w n =
      then_reader (seg_after deep arg w n) (path_from deep arg) (seg_after_reader (Not 60) (λ k h. h) w n) path_from_reader path_from_some
      (starts_path_from (Not 60) PathStops (λ m. refl) (λ k h. h.0.1.1.1))

  pub path_after_some : (w : List ℕ) (n : Option ℕ) → Inhabited (path_after deep arg w n)
  path_after_some w n = then_some (seg_after deep arg w n) (path_from deep arg) (seg_after_some w n) path_from_some

  pub starts_path_after : (H Stops : List ℕ → Type 0) → ((m : List ℕ) → H (60 ∷ m)) → ((m : List ℕ) → H (58 ∷ m)) → ((k : List ℕ) → Stops k → H k) →
      (w : List ℕ) (n : Option ℕ) → Starts H Stops (path_after deep arg w n)
  starts_path_after H Stops h g stop w n =
      starts_both (seg_after deep arg w n) (path_from deep arg) (starts_seg_after H H h (λ k x. x) w n) (starts_path_from H Stops g stop)

  path_number : List ℕ → ℕ → Reader Name
  path_number w n = path_after deep arg w (Some n)

  pub counted_reader : (w : List ℕ) → IsReader PathStops (counted deep arg w)
  unfolding path_number
  counted_reader w =
      then_reader (number true (2 ^ 32 - 1)) (path_number w) (number_reader true (2 ^ 32 - 1) (omega arith) (omega arith))
      (λ n. path_after_reader w (Some n)) (λ n. path_after_some w (Some n))
      (λ n. starts_path_after NoDigit PathStops (λ m. refl) (λ m. refl) (λ k h. h.0.1.0) w (Some n))

  pub counted_some : (w : List ℕ) → Inhabited (counted deep arg w)
  unfolding path_number
  counted_some w = then_some (number true (2 ^ 32 - 1)) (path_number w) a_number (λ n. path_after_some w (Some n))

  pub starts_counted : (H Stops : List ℕ → Type 0) → ((c : ℕ) (m : List ℕ) → is_digit c ≡ true → H (c ∷ m)) → (w : List ℕ) → Starts H Stops (counted deep arg w)
  unfolding path_number
  starts_counted H Stops h w = starts_first (number true (2 ^ 32 - 1)) (path_number w) (starts_number true (2 ^ 32 - 1) (omega arith) (omega arith) h)

  path_worded : List ℕ → Reader Name
  path_worded w = on true 36 (counted deep arg w) (path_after deep arg w None)

  path_worded_reader : (w : List ℕ) → IsReader PathStops (path_worded w)
  unfolding path_worded
  path_worded_reader w =
      choice_reader true 36 (counted deep arg w) (path_after deep arg w None) (λ f. counted_reader w) (λ f. counted_some w) (path_after_reader w None)
      (λ f. starts_path_after (Not 36) PathStops (λ m. refl) (λ m. refl) (λ k h. h.0.1.1.0) w None)

  path_worded_some : (w : List ℕ) → Inhabited (path_worded w)
  unfolding path_worded
  path_worded_some w = choice_other true 36 (counted deep arg w) (path_after deep arg w None) (path_after_some w None)

  pub path_reader : IsReader PathStops (path_of deep arg)
  unfolding path_worded
  path_reader =
      then_reader word path_worded word_reader path_worded_reader path_worded_some
      (λ w. starts_on true 36 (counted deep arg w) (path_after deep arg w None) (λ m. refl)
      (starts_path_after NoChar PathStops (λ m. refl) (λ m. refl) (λ k h. h.0.0) w None))

  pub path_some : Inhabited (path_of deep arg)
  unfolding path_worded
  path_some = then_some word path_worded a_word path_worded_some

-- the readers of a level read as they owe
pub record Lawful (L : Level) : Type 1 where
  pub whole : IsReader NameStops L.whole
  pub arg : IsReader NameStops L.arg
  pub member : IsReader NameStops L.member
  pub some_whole : Inhabited L.whole
  pub some_arg : Inhabited L.arg
  pub some_member : Inhabited L.member
  -- no name of the level begins with `>`
  pub starts_whole : Starts (Not 62) NameStops L.whole

-- what stands in forms
module _ (L : Level) (law : Lawful L) where
  map_reader : (R : Reader Name) (f : Name → Name) → IsReader NameStops R → IsReader CloseStops (bind R (λ x. give (f x)))
  map_reader R f is = then_reader R (λ x. give (f x)) is (λ x. give_reader CloseStops (f x)) (λ x. give_some (f x)) (λ x. starts_give (f x) close_name)

  map_some : (R : Reader Name) (f : Name → Name) → Inhabited R → Inhabited (bind R (λ x. give (f x)))
  map_some R f some = then_some R (λ x. give (f x)) some (λ x. give_some (f x))

  list_reader : (item : Reader Name) (f : List Name → Name) → IsReader NameStops item → Inhabited item →
      IsReader CloseStops (bind (many item 44 []) (λ xs. give (f xs)))
  list_reader item f is some =
      then_reader (many item 44 []) (λ xs. give (f xs)) (many_reader item 44 [] is some (λ m. refl)) (λ xs. give_reader CloseStops (f xs))
      (λ xs. give_some (f xs)) (λ xs. starts_give (f xs) close_item)

  list_some : (item : Reader Name) (f : List Name → Name) → IsReader NameStops item → Inhabited item → Inhabited (bind (many item 44 []) (λ xs. give (f xs)))
  list_some item f is some = then_some (many item 44 []) (λ xs. give (f xs)) (many_some item 44 [] is some (λ m. refl)) (λ xs. give_some (f xs))

  counted_array : Name → Reader Name
  counted_array x = bind (number true (2 ^ 64 - 1)) (λ n. give (Array x n))

  counted_array_reader : (x : Name) → IsReader CloseStops (counted_array x)
  unfolding counted_array
  counted_array_reader x =
      then_reader (number true (2 ^ 64 - 1)) (λ n. give (Array x n)) (number_reader true (2 ^ 64 - 1) (omega arith) (omega arith))
      (λ n. give_reader CloseStops _) (λ n. give_some _)
      (λ n. starts_give _ (of_close NoDigit (λ m. (refl, refl))))

  counted_array_some : (x : Name) → Inhabited (counted_array x)
  unfolding counted_array
  counted_array_some x =
      then_some (number true (2 ^ 64 - 1)) (λ n. give (Array x n))
      (number_some true (2 ^ 64 - 1) (omega arith) (omega arith) 1 (omega arith) (omega arith)) (λ n. give_some _)

  array_reader : IsReader CloseStops (array_of L)
  unfolding counted_array
  array_reader =
      then_reader L.whole (λ x. bind (literal (codes ",")) (λ _. counted_array x)) law.whole
      (λ x. after_literal (codes ",") (counted_array x) (counted_array_reader x) (counted_array_some x))
      (λ x. after_literal_some (codes ",") (counted_array x) (counted_array_some x))
      (λ x. starts_after 44 [] (counted_array x) (λ m. refl))

  array_some : Inhabited (array_of L)
  unfolding counted_array
  array_some = then_some L.whole (λ x. bind (literal (codes ",")) (λ _. counted_array x)) law.some_whole
      (λ x. after_literal_some (codes ",") (counted_array x) (counted_array_some x))

  params : Name → Reader Name
  params x = bind (many L.whole 44 []) (λ xs. give (Fn xs x))

  returning : Name → Reader Name
  unfolding params
  returning x = on true 44 (params x) (give (Fn [] x))

  returning_reader : (x : Name) → IsReader CloseStops (returning x)
  unfolding returning params
  returning_reader x =
      choice_reader true 44 (params x) (give (Fn [] x)) (λ f. list_reader L.whole (λ xs. Fn xs x) law.whole law.some_whole)
      (λ f. list_some L.whole (λ xs. Fn xs x) law.whole law.some_whole)
      (give_reader CloseStops _) (λ f. starts_give _ (λ k h. (close_item k h).1))

  function_reader : IsReader CloseStops (function_of L)
  unfolding returning params
  function_reader =
      then_reader L.whole returning law.whole returning_reader (λ x. choice_other true 44 (params x) (give (Fn [] x)) (give_some _))
      (λ x. starts_on true 44 (params x) (give (Fn [] x)) (λ m. refl) (starts_give _ close_name))

  function_some : Inhabited (function_of L)
  unfolding returning params
  function_some = then_some L.whole returning law.some_whole (λ x. choice_other true 44 (params x) (give (Fn [] x)) (give_some _))

  bound : List ℕ → Reader Name
  bound w = bind L.whole (λ x. give (Bind w x))

  bound_some : (w : List ℕ) → Inhabited (bound w)
  unfolding bound
  bound_some w = map_some L.whole (Bind w) law.some_whole

  binding_reader : IsReader CloseStops (binding_of L)
  unfolding bound
  binding_reader =
      then_reader word (λ w. bind (literal (codes ",")) (λ _. bound w)) word_reader
      (λ w. after_literal (codes ",") (bound w) (map_reader L.whole (Bind w) law.whole) (bound_some w))
      (λ w. after_literal_some (codes ",") (bound w) (bound_some w))
      (λ w. starts_after 44 [] (bound w) (λ m. refl))

  binding_some : Inhabited (binding_of L)
  unfolding bound
  binding_some = then_some word (λ w. bind (literal (codes ",")) (λ _. bound w)) a_word (λ w. after_literal_some (codes ",") (bound w) (bound_some w))

-- the readers of the level above, where the level below has some names if the flag says so
module _ (deep : Bool) (L : Level) (law : deep ≡ true → Lawful L) where
  arg_law : deep ≡ true → IsReader NameStops L.arg
  arg_law f = (law f).arg

  arg_some : deep ≡ true → Inhabited L.arg
  arg_some f = (law f).some_arg

  abbrev plain : List ℕ → Reader Name
  plain w = path_after deep L.arg w None

  abbrev dollar_number : List ℕ → Reader Name
  dollar_number w = counted deep L.arg w

  tuple_parts : Reader Name
  tuple_parts = bind (many L.whole 44 []) (λ xs. give (Tuple xs))

  and_first : (a b : Bool) → (a && b) ≡ true → a ≡ true
  and_first true b e = refl
  and_first false b e = cc

  content_reader : (in_arg : Bool) (f : Form) → may_stand deep in_arg f ≡ true → IsReader CloseStops (content deep L f)
  unfolding tuple_parts
  content_reader in_arg Form.Ref e = map_reader L (law e) L.whole (Pointer Ref) (law e).whole
  content_reader in_arg Form.RefMut e = map_reader L (law e) L.whole (Pointer RefMut) (law e).whole
  content_reader in_arg Form.Const e = map_reader L (law e) L.whole (Pointer Const) (law e).whole
  content_reader in_arg Form.Mut e = map_reader L (law e) L.whole (Pointer Mut) (law e).whole
  content_reader in_arg Form.Slice e = map_reader L (law e) L.whole Slice (law e).whole
  content_reader in_arg Form.Array e = array_reader L (law e)
  content_reader in_arg Form.Tuple e =
      either_reader deep tuple_parts never (λ f. list_reader L (law f) L.whole Tuple (law f).whole (law f).some_whole) (λ f. never_reader CloseStops)
  content_reader in_arg Form.Dyn e = list_reader L (law e) L.member Dyn (law e).member (law e).some_member
  content_reader in_arg Form.Fn e = function_reader L (law e)
  content_reader in_arg Form.Bind e = binding_reader L (law (and_first deep in_arg e))
  content_reader in_arg Form.Enum e = fewer_stops (path_of deep L.arg) close_path (path_reader deep L.arg arg_law arg_some)

  closed_content : (f : Form) → Reader Name
  closed_content f = closed_by (content deep L f)

  tuple_starts : (f : Form) → is_tuple f ≡ true → Starts (Not 62) CloseStops (content deep L f)
  unfolding tuple_parts
  tuple_starts Form.Ref e = cc
  tuple_starts Form.RefMut e = cc
  tuple_starts Form.Const e = cc
  tuple_starts Form.Mut e = cc
  tuple_starts Form.Slice e = cc
  tuple_starts Form.Array e = cc
  tuple_starts Form.Tuple e =
      starts_either deep tuple_parts never
      (λ f. starts_then (many L.whole 44 []) (λ xs. give (Tuple xs)) (starts_many L.whole 44 [] (law f).starts_whole (λ m. refl))
      (λ xs. starts_give (Tuple xs) close_name)) (λ f. starts_never)
  tuple_starts Form.Dyn e = cc
  tuple_starts Form.Fn e = cc
  tuple_starts Form.Bind e = cc
  tuple_starts Form.Enum e = cc

  form_reader : (in_arg : Bool) (f : Form) → may_stand deep in_arg f ≡ true → IsReader NameStops (form_of deep L f)
  unfolding closed_content
  form_reader in_arg f e =
      choice_reader (is_tuple f) 62 (give (Tuple [])) (closed_content f) (λ g. give_reader NameStops _) (λ g. give_some _)
      (closed_reader (content deep L f) NameStops (content_reader in_arg f e))
      (λ g. starts_closed (content deep L f) (tuple_starts f g))

  closed_form : (f : Form) → Inhabited (content deep L f) → Inhabited (form_of deep L f)
  unfolding closed_content
  closed_form f some = choice_other (is_tuple f) 62 (give (Tuple [])) (closed_content f) (closed_some (content deep L f) some)

  form_some : (in_arg : Bool) (f : Form) → may_stand deep in_arg f ≡ true → Inhabited (form_of deep L f)
  form_some in_arg Form.Ref e = closed_form Form.Ref (map_some L (law e) L.whole (Pointer Ref) (law e).some_whole)
  form_some in_arg Form.RefMut e = closed_form Form.RefMut (map_some L (law e) L.whole (Pointer RefMut) (law e).some_whole)
  form_some in_arg Form.Const e = closed_form Form.Const (map_some L (law e) L.whole (Pointer Const) (law e).some_whole)
  form_some in_arg Form.Mut e = closed_form Form.Mut (map_some L (law e) L.whole (Pointer Mut) (law e).some_whole)
  form_some in_arg Form.Slice e = closed_form Form.Slice (map_some L (law e) L.whole Slice (law e).some_whole)
  form_some in_arg Form.Array e = closed_form Form.Array (array_some L (law e))
  form_some in_arg Form.Tuple e = (Tuple [], (62 ∷ [], inl (refl, ([], ((refl, refl), refl)))))
  form_some in_arg Form.Dyn e = closed_form Form.Dyn (list_some L (law e) L.member Dyn (law e).member (law e).some_member)
  form_some in_arg Form.Fn e = closed_form Form.Fn (function_some L (law e))
  form_some in_arg Form.Bind e = closed_form Form.Bind (binding_some L (law (and_first deep in_arg e)))
  form_some in_arg Form.Enum e = closed_form Form.Enum (path_some deep L.arg arg_law arg_some)

  str_or_number : List ℕ → Reader Name
  str_or_number w = where_first starts_digit (dollar_number w) (give Str)

  dollar_number_reader : (w : List ℕ) → IsReader NameStops (dollar_number w)
  dollar_number_reader w = fewer_stops (dollar_number w) name_path (counted_reader deep L.arg arg_law arg_some w)

  starts_dollar_number : (H : List ℕ → Type 0) → ((c : ℕ) (m : List ℕ) → is_digit c ≡ true → H (c ∷ m)) → (w : List ℕ) → Starts H NameStops (dollar_number w)
  starts_dollar_number H h w = starts_counted deep L.arg arg_law arg_some H NameStops h w

  str_or_number_reader : (w : List ℕ) → IsReader NameStops (str_or_number w)
  unfolding str_or_number
  str_or_number_reader w =
      at_digit (dollar_number w) (give Str) (dollar_number_reader w) (give_reader NameStops Str)
      (starts_dollar_number (λ l. starts_digit l ≡ true) (λ c m h. h) w)
      (starts_give Str (of_name (λ l. starts_digit l ≡ false) refl (λ m. (refl, (refl, refl)))))

  unformed_reader : (w : List ℕ) → IsReader NameStops (unformed deep L.arg w)
  unfolding str_or_number
  unformed_reader w = either_reader (is_word w (codes "str")) (str_or_number w) (dollar_number w) (λ f. str_or_number_reader w) (λ f. dollar_number_reader w)

  unformed_some : (w : List ℕ) → Inhabited (unformed deep L.arg w)
  unfolding str_or_number
  unformed_some w =
      let some = counted_some deep L.arg arg_law arg_some w in
      either_some (is_word w (codes "str")) (str_or_number w) (dollar_number w) (where_some starts_digit (dollar_number w) (give Str) some) some

  no_angle : (c : ℕ) (m : List ℕ) → is_digit c ≡ true → Not 60 (c ∷ m)
  no_angle c m h = (digit_starts c m h).1.1

  starts_unformed : (w : List ℕ) → Starts (Not 60) NameStops (unformed deep L.arg w)
  unfolding str_or_number
  starts_unformed w =
      starts_either (is_word w (codes "str")) (str_or_number w) (dollar_number w)
      (λ f. starts_where starts_digit (dollar_number w) (give Str) (starts_dollar_number (Not 60) no_angle w)
      (starts_give Str (of_name (Not 60) refl (λ m. (refl, (refl, refl))))))
      (λ f. starts_dollar_number (Not 60) no_angle w)

  formed_reader : (in_arg : Bool) (o : Option Form) (w : List ℕ) → IsReader NameStops (formed deep L in_arg o (unformed deep L.arg w))
  formed_reader in_arg None w = unformed_reader w
  formed_reader in_arg (Some f) w =
      choice_reader (may_stand deep in_arg f) 60 (form_of deep L f) (unformed deep L.arg w) (form_reader in_arg f) (form_some in_arg f) (unformed_reader w)
      (λ e. starts_unformed w)

  formed_some : (in_arg : Bool) (o : Option Form) (w : List ℕ) → Inhabited (formed deep L in_arg o (unformed deep L.arg w))
  formed_some in_arg None w = unformed_some w
  formed_some in_arg (Some f) w = choice_other (may_stand deep in_arg f) 60 (form_of deep L f) (unformed deep L.arg w) (unformed_some w)

  dollar : Bool → List ℕ → Reader Name
  dollar in_arg w = after_dollar deep L in_arg w

  dollar_reader : (in_arg : Bool) (w : List ℕ) → IsReader NameStops (dollar in_arg w)
  unfolding dollar
  dollar_reader in_arg w = formed_reader in_arg (form_named w) w

  dollar_some : (in_arg : Bool) (w : List ℕ) → Inhabited (dollar in_arg w)
  unfolding dollar
  dollar_some in_arg w = formed_some in_arg (form_named w) w

  starts_plain : (H Stops : List ℕ → Type 0) → ((m : List ℕ) → H (60 ∷ m)) → ((m : List ℕ) → H (58 ∷ m)) → ((k : List ℕ) → Stops k → H k) → (w : List ℕ) →
      Starts H Stops (plain w)
  starts_plain H Stops h g stop w = starts_path_after deep L.arg arg_law arg_some H Stops h g stop w None

  worded_reader : (in_arg : Bool) (w : List ℕ) → IsReader NameStops (worded deep L in_arg w)
  unfolding dollar
  worded_reader in_arg w =
      choice_reader true 36 (dollar in_arg w) (plain w) (λ f. dollar_reader in_arg w) (λ f. dollar_some in_arg w)
      (fewer_stops (plain w) name_path (path_after_reader deep L.arg arg_law arg_some w None))
      (λ f. starts_plain (Not 36) NameStops (λ m. refl) (λ m. refl) (λ k h. (name_path k h).0.1.1.0) w)

  worded_some : (in_arg : Bool) (w : List ℕ) → Inhabited (worded deep L in_arg w)
  unfolding dollar
  worded_some in_arg w = choice_other true 36 (dollar in_arg w) (plain w) (path_after_some deep L.arg arg_law arg_some w None)

  starts_worded : (in_arg : Bool) (w : List ℕ) → Starts NoChar NameStops (worded deep L in_arg w)
  unfolding dollar
  starts_worded in_arg w =
      starts_on true 36 (dollar in_arg w) (plain w) (λ m. refl) (starts_plain NoChar NameStops (λ m. refl) (λ m. refl) (λ k h. (name_path k h).0.0) w)

  name_reader : (in_arg : Bool) → IsReader NameStops (name_of deep L in_arg)
  name_reader in_arg = then_reader word (worded deep L in_arg) word_reader (worded_reader in_arg) (worded_some in_arg) (starts_worded in_arg)

  name_some : (in_arg : Bool) → Inhabited (name_of deep L in_arg)
  name_some in_arg = then_some word (worded deep L in_arg) a_word (worded_some in_arg)

  starts_name : (H : List ℕ → Type 0) → ((c : ℕ) (m : List ℕ) → starts_word (c ∷ m) ≡ true → H (c ∷ m)) → (in_arg : Bool) →
      Starts H NameStops (name_of deep L in_arg)
  starts_name H h in_arg = starts_first word (worded deep L in_arg) (starts_words h)

  positive : Reader Name
  positive = bind (number true (2 ^ 128 - 1)) (λ n. give (Number false n))

  negative : Reader Name
  negative = bind (number false (2 ^ 128 - 1)) (λ n. give (Number true n))

  number_name : (zeroed minus : Bool) → IsReader NameStops (bind (number zeroed (2 ^ 128 - 1)) (λ n. give (Number minus n)))
  number_name zeroed minus =
      then_reader (number zeroed (2 ^ 128 - 1)) (λ n. give (Number minus n)) (number_reader zeroed (2 ^ 128 - 1) (omega arith) (omega arith))
      (λ n. give_reader NameStops _) (λ n. give_some _)
      (λ n. starts_give _ (of_name NoDigit tt (λ m. (refl, (refl, refl)))))

  negative_some : Inhabited negative
  unfolding negative
  negative_some = then_some (number false (2 ^ 128 - 1)) (λ n. give (Number true n))
      (number_some false (2 ^ 128 - 1) (omega arith) (omega arith) 1 (omega arith) (omega arith)) (λ n. give_some _)

  starts_positive : (H Stops : List ℕ → Type 0) → ((c : ℕ) (m : List ℕ) → is_digit c ≡ true → H (c ∷ m)) → Starts H Stops positive
  unfolding positive
  starts_positive H Stops h =
      starts_first (number true (2 ^ 128 - 1)) (λ n. give (Number false n)) (starts_number true (2 ^ 128 - 1) (omega arith) (omega arith) h)

  number_of_reader : IsReader NameStops number_of
  unfolding positive negative
  number_of_reader =
      choice_reader true 45 negative positive (λ f. number_name false true) (λ f. negative_some) (number_name true false)
      (λ f. starts_positive (Not 45) NameStops (λ c m h. (digit_starts c m h).0))

  starts_number_of : Starts NoWord NameStops number_of
  unfolding positive negative
  starts_number_of = starts_on true 45 negative positive (λ m. refl) (starts_positive NoWord NameStops (λ c m h. (digit_starts c m h).1.0))

  pub level_law : Lawful (level_of deep L)
  level_law = record {
    whole = name_reader false;
    arg = at_word (name_of deep L true) number_of (name_reader true) number_of_reader
        (starts_name (λ l. starts_word l ≡ true) (λ c m h. h) true) starts_number_of;
    member = fewer_stops (path_of deep L.arg) name_path (path_reader deep L.arg arg_law arg_some);
    some_whole = name_some false;
    some_arg = where_some starts_word (name_of deep L true) number_of (name_some true);
    some_member = path_some deep L.arg arg_law arg_some;
    starts_whole = starts_name (Not 62) (λ c m h. not_word c 62 m h refl) false;
  }

deep_law : (d : ℕ) → (has_some d ≡ true → Lawful (cv d)) → Lawful (cv (suc d))
unfolding cv
deep_law d law = level_law (has_some d) (cv d) law

pub cv_law : (d : ℕ) → Lawful (cv (suc d))
cv_law zero = deep_law zero (λ e. cc)
cv_law (suc d) = deep_law (suc d) (λ e. cv_law d)

arg_of_law : (d : ℕ) → has_some d ≡ true → IsReader NameStops (cv d).arg × Inhabited (cv d).arg
arg_of_law zero e = cc
arg_of_law (suc d) e = ((cv_law d).arg, (cv_law d).some_arg)

pub seg_suffix : (d : ℕ) (s : List ℕ) → Suffix s ((seg_of (has_some d) (cv d).arg).read s)
seg_suffix d = suffix_of (seg_of (has_some d) (cv d).arg) (seg_reader (has_some d) (cv d).arg (λ e. (arg_of_law d e).0) (λ e. (arg_of_law d e).1))

pub whole_suffix : (d : ℕ) (s : List ℕ) → Suffix s ((cv d).whole.read s)
unfolding cv
whole_suffix zero s = ([], refl)
whole_suffix (suc d) s = suffix_of (cv (suc d)).whole (cv_law d).whole s

pub arg_suffix : (d : ℕ) (s : List ℕ) → Suffix s ((cv d).arg.read s)
unfolding cv
arg_suffix zero s = ([], refl)
arg_suffix (suc d) s = suffix_of (cv (suc d)).arg (cv_law d).arg s

pub member_suffix : (d : ℕ) (s : List ℕ) → Suffix s ((cv d).member.read s)
unfolding cv
member_suffix zero s = ([], refl)
member_suffix (suc d) s = suffix_of (cv (suc d)).member (cv_law d).member s

-- the readers of a level that has some
pub cv_is : (d : ℕ) → (d ≡ 0 → ⊥) → cv d ≡ within (d - 1)
unfolding cv
cv_is zero ne = absurd (ne refl)
cv_is (suc d) ne = ap within (let same : d ≡ suc d - 1 = omega arith in same)

pub cv_none : (d : ℕ) → d ≡ 0 → cv d ≡ none_level
unfolding cv
cv_none d e = ap cv e

-- a form that may stand is read after its `<`
pub form_reads : (deep in_arg : Bool) (L : Level) (f : Form) (w s : List ℕ) → form_named w ≡ Some f → may_stand deep in_arg f ≡ true → begins 60 s ≡ true →
    (after_dollar deep L in_arg w).read s ≡ (form_of deep L f).read (tail s)
form_reads deep in_arg L f w s named may opens =
    let other = (unformed deep L.arg w).read s in
    let form = (form_of deep L f).read (tail s) in
    ap (λ o. (formed deep L in_arg o (unformed deep L.arg w)).read s) named ∙ ap (λ z. if z && begins 60 s then form else other) may ∙
    ap (λ z. if z then form else other) opens
