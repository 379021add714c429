-- The grammar of Rust's spelling is read as a reader owes.
use Rattle.std.proofs.Common.{◌≡◌, ℕ, zero, suc, ◌-◌, ◌^◌, ◌<◌, ◌≤◌, Bool, true, false, ◌==◌, ◌&&◌, ◌||◌, nat_lt, List, [], ◌∷◌, Option}
use Rattle.std.proofs.Common.{Some, None, inl, inr, refl, sym, ap, subst, arith, codes}
use Rattle.std.proofs.lemmas.Bool.{eqb-true}
use Rattle.names.specs.declared.name.Name.{Name}
use Rattle.names.specs.declared.name.Name.TheVariants.{Path, Pointer, Slice, Array, Tuple, Str, Dyn, Fn, Number, Bind}
use Rattle.names.specs.declared.name.Seg.{Seg}
use Rattle.names.specs.declared.name.PtrKind.TheVariants.{Ref, RefMut, Const, Mut}
use Rattle.names.specs.Words.{is_digit}
use Rattle.names.specs.Reading.{Reader, give, never, bind, on, either, where_first, literal, many, word, number, starts_word, starts_digit}
use Rattle.rust_names.specs.RustGrammar.{Level, args_of, numbered, seg_after, seg_of, path_from, path_after, bracketed, pointed}
use Rattle.rust_names.specs.RustGrammar.{referred_word, referred, tuple_from, dyn_from, parts_word, parts, result_of, function}
use Rattle.rust_names.specs.RustGrammar.{numbered_path, worded_of, symbol_of, arg_word, level_of, none_level, within, fits, rust}
use Rattle.names.specs.Plain.{is_word, is_plain_str, has_some}
use Rattle.names.proofs.Readers.{Suffix, suffix_of, IsReader, Inhabited, Any, give_reader, never_reader, fewer_stops}
use Rattle.names.proofs.Lists.{ListStops, many_reader, many_some}
use Rattle.names.proofs.Words.{NoChar, word_reader}
use Rattle.names.proofs.Decimals.{NoDigit, number_reader, number_some}
use Rattle.names.proofs.Starts.{Starts, starts_give, starts_never, starts_on, starts_either, starts_where, starts_first, starts_both}
use Rattle.names.proofs.Starts.{starts_words, not_word, either_reader}
use Rattle.names.proofs.Combined.{Not, NoWord, starts_then, starts_many, then_reader, then_some, give_some, choice_reader, choice_some}
use Rattle.names.proofs.Combined.{choice_other, either_some, where_some, at_word, at_digit, a_word, starts_number, or_cases, digit_starts}
use Rattle.names.proofs.Combined.{after_literal, after_literal_some, starts_after}

-- a byte that may follow a name
abbrev pub is_end : ℕ → Bool
is_end c = c == 44 || (c == 62 || (c == 93 || (c == 59 || c == 41)))

abbrev pub NameStops : List ℕ → Type 0
NameStops [] = Unit {0}
NameStops (c ∷ k) = is_end c ≡ true

-- what may follow a member of a `Dyn`
abbrev pub MemberStops : List ℕ → Type 0
MemberStops [] = Unit {0}
MemberStops (c ∷ k) = (c == 32 || is_end c) ≡ true

abbrev pub SegStops : List ℕ → Type 0
SegStops k = NoChar k × Not 60 k

abbrev pub PathStops : List ℕ → Type 0
PathStops k = SegStops k × Not 58 k

end_cases : (P : ℕ → Type 0) → P 44 → P 62 → P 93 → P 59 → P 41 → (c : ℕ) → is_end c ≡ true → P c
end_cases P comma closing bracket semicolon parenthesis =
    or_cases P 44 _ comma (or_cases P 62 _ closing (or_cases P 93 _ bracket (or_cases P 59 _ semicolon (λ c e. subst P (sym (eqb-true c 41 e)) parenthesis))))

member_cases : (P : ℕ → Type 0) → P 32 → P 44 → P 62 → P 93 → P 59 → P 41 → (c : ℕ) → (c == 32 || is_end c) ≡ true → P c
member_cases P space comma closing bracket semicolon parenthesis = or_cases P 32 _ space (end_cases P comma closing bracket semicolon parenthesis)

-- what begins as a member's stop does has H
pub of_member : (H : List ℕ → Type 0) → H [] → ((m : List ℕ) → H (32 ∷ m) × (H (44 ∷ m) × (H (62 ∷ m) × (H (93 ∷ m) × (H (59 ∷ m) × H (41 ∷ m)))))) →
    (k : List ℕ) → MemberStops k → H k
of_member H none h [] stops = none
of_member H none h (c ∷ k) stops = let p = h k in member_cases (λ c. H (c ∷ k)) p.0 p.1.0 p.1.1.0 p.1.1.1.0 p.1.1.1.1.0 p.1.1.1.1.1 c stops

pub of_name : (H : List ℕ → Type 0) → H [] → ((m : List ℕ) → H (44 ∷ m) × (H (62 ∷ m) × (H (93 ∷ m) × (H (59 ∷ m) × H (41 ∷ m))))) → (k : List ℕ) →
    NameStops k → H k
of_name H none h [] stops = none
of_name H none h (c ∷ k) stops = let p = h k in end_cases (λ c. H (c ∷ k)) p.0 p.1.0 p.1.1.0 p.1.1.1.0 p.1.1.1.1 c stops

pub member_path : (k : List ℕ) → MemberStops k → PathStops k
member_path = of_member PathStops ((tt, refl), refl)
    (λ m. (((refl, refl), refl), (((refl, refl), refl), (((refl, refl), refl), (((refl, refl), refl), (((refl, refl), refl), ((refl, refl), refl)))))))

pub name_member : (k : List ℕ) → NameStops k → MemberStops k
name_member = of_name MemberStops tt (λ m. (refl, (refl, (refl, (refl, refl)))))

pub name_path : (k : List ℕ) → NameStops k → PathStops k
name_path k h = member_path k (name_member k h)

name_not : (b : ℕ) → ((m : List ℕ) → Not b (44 ∷ m) × (Not b (62 ∷ m) × (Not b (93 ∷ m) × (Not b (59 ∷ m) × Not b (41 ∷ m))))) → (k : List ℕ) →
    NameStops k → Not b k
name_not b h = of_name (Not b) refl h

no_char_stop : (k : List ℕ) → NameStops k → NoChar k
no_char_stop k h = (name_path k h).0.0

no_space : (k : List ℕ) → NameStops k → Not 32 k
no_space = name_not 32 (λ m. (refl, (refl, (refl, (refl, refl)))))

-- a number, and then a value after a literal that begins with no digit
after_number : {A : Type 0} {Stops : List ℕ → Type 0} (most : ℕ) (b : ℕ) (bs : List ℕ) (f : ℕ → A) → 9 ≤ most → most < 10 ^ 64 → is_digit b ≡ false
    → IsReader Stops (bind (number true most) (λ n. bind (literal (b ∷ bs)) (λ _. give (f n))))
after_number {Stops = Stops} most b bs f wide bounded other =
    then_reader (number true most) (λ n. bind (literal (b ∷ bs)) (λ _. give (f n))) (number_reader true most wide bounded)
    (λ n. after_literal (b ∷ bs) (give (f n)) (give_reader Stops (f n)) (give_some (f n))) (λ n. after_literal_some (b ∷ bs) (give (f n)) (give_some (f n)))
    (λ n. starts_after b bs (give (f n)) (λ m. other))

after_number_some : {A : Type 0} (most : ℕ) (bs : List ℕ) (f : ℕ → A) → 9 ≤ most → most < 10 ^ 64 →
    Inhabited (bind (number true most) (λ n. bind (literal bs) (λ _. give (f n))))
after_number_some most bs f wide bounded =
    then_some (number true most) (λ n. bind (literal bs) (λ _. give (f n))) (number_some true most wide bounded 1 (omega arith) (omega arith))
    (λ n. after_literal_some bs (give (f n)) (give_some (f n)))

-- segments and paths, where an arg is read as it owes if there may be args
module _ (deep : Bool) (arg : Reader Name) (is_arg : deep ≡ true → IsReader NameStops arg) (some_arg : deep ≡ true → Inhabited arg) where
  close : List Name → Reader (List Name)
  close xs = bind (literal (codes ">")) (λ _. give xs)

  args_reader : (Stops : List ℕ → Type 0) → ((k : List ℕ) → Stops k → Not 60 k) → IsReader Stops (args_of deep arg)
  unfolding close
  args_reader Stops none =
      choice_reader deep 60 (bind (many arg 44 (codes " ")) close) (give [])
      (λ f. then_reader (many arg 44 (codes " ")) close (many_reader arg 44 (codes " ") (is_arg f) (some_arg f) (λ m. refl))
      (λ xs. after_literal (codes ">") (give xs) (give_reader Stops xs) (give_some xs)) (λ xs. after_literal_some (codes ">") (give xs) (give_some xs))
      (λ xs. starts_after 62 [] (give xs) (λ m. (refl, refl))))
      (λ f. then_some (many arg 44 (codes " ")) close (many_some arg 44 (codes " ") (is_arg f) (some_arg f) (λ m. refl))
      (λ xs. after_literal_some (codes ">") (give xs) (give_some xs)))
      (give_reader Stops []) (λ f. starts_give [] none)

  starts_args : (H : List ℕ → Type 0) → ((m : List ℕ) → H (60 ∷ m)) → Starts H H (args_of deep arg)
  unfolding close
  starts_args H h = starts_on deep 60 (bind (many arg 44 (codes " ")) close) (give []) h (starts_give [] (λ k x. x))

  args_some : Inhabited (args_of deep arg)
  unfolding close
  args_some = choice_other deep 60 (bind (many arg 44 (codes " ")) close) (give []) (give_some [])

  seg_with : List ℕ → Option ℕ → List Name → Reader Seg
  seg_with w n xs = give (record { word = w; number = n; args = xs })

  seg_after_reader : (Stops : List ℕ → Type 0) → ((k : List ℕ) → Stops k → Not 60 k) → (w : List ℕ) (n : Option ℕ) → IsReader Stops (seg_after deep arg w n)
  unfolding seg_with
  seg_after_reader Stops none w n =
      then_reader (args_of deep arg) (seg_with w n) (args_reader Stops none) (λ xs. give_reader Stops _) (λ xs. give_some _) (λ xs. starts_give _ (λ k x. x))

  starts_seg_after : (H Stops : List ℕ → Type 0) → ((m : List ℕ) → H (60 ∷ m)) → ((k : List ℕ) → Stops k → H k) → (w : List ℕ) (n : Option ℕ) →
      Starts H Stops (seg_after deep arg w n)
  unfolding seg_with
  starts_seg_after H Stops h stop w n = starts_both (args_of deep arg) (seg_with w n) (starts_args H h) (λ xs. starts_give _ stop)

  seg_after_some : (w : List ℕ) (n : Option ℕ) → Inhabited (seg_after deep arg w n)
  unfolding seg_with
  seg_after_some w n = then_some (args_of deep arg) (seg_with w n) args_some (λ xs. give_some _)

  of_number : List ℕ → Reader (List ℕ × ℕ)
  of_number w = bind (number true (2 ^ 32 - 1)) (λ n. bind (literal (codes "}")) (λ _. give (w, n)))

  of_word : List ℕ → Reader (List ℕ × ℕ)
  unfolding of_number
  of_word w = bind (literal (codes "#")) (λ _. of_number w)

  numbered_reader : (Stops : List ℕ → Type 0) → IsReader Stops numbered
  unfolding of_word of_number
  numbered_reader Stops =
      then_reader word of_word word_reader
      (λ w. after_literal (codes "#") (of_number w) (after_number (2 ^ 32 - 1) 125 [] (λ n. (w, n)) (omega arith) (omega arith) refl)
      (after_number_some (2 ^ 32 - 1) (codes "}") (λ n. (w, n)) (omega arith) (omega arith)))
      (λ w. after_literal_some (codes "#") (of_number w) (after_number_some (2 ^ 32 - 1) (codes "}") (λ n. (w, n)) (omega arith) (omega arith)))
      (λ w. starts_after 35 [] (of_number w) (λ m. refl))

  numbered_some : Inhabited numbered
  unfolding of_word of_number
  numbered_some = then_some word of_word a_word
      (λ w. after_literal_some (codes "#") (of_number w) (after_number_some (2 ^ 32 - 1) (codes "}") (λ n. (w, n)) (omega arith) (omega arith)))

  seg_number : (List ℕ × ℕ) → Reader Seg
  seg_number x = seg_after deep arg x.0 (Some x.1)

  seg_word : List ℕ → Reader Seg
  seg_word w = seg_after deep arg w None

  seg_reader : IsReader SegStops (seg_of deep arg)
  unfolding seg_number seg_word
  seg_reader =
      choice_reader true 123 (bind numbered seg_number) (bind word seg_word)
      (λ f. then_reader numbered seg_number (numbered_reader Any) (λ x. seg_after_reader SegStops (λ k h. h.1) x.0 (Some x.1))
      (λ x. seg_after_some x.0 (Some x.1)) (λ x. record { at = λ w t k h stops. tt }))
      (λ f. then_some numbered seg_number numbered_some (λ x. seg_after_some x.0 (Some x.1)))
      (then_reader word seg_word word_reader (λ w. seg_after_reader SegStops (λ k h. h.1) w None) (λ w. seg_after_some w None)
      (λ w. starts_seg_after NoChar SegStops (λ m. refl) (λ k h. h.0) w None))
      (λ f. starts_first word seg_word (starts_words (λ c m h. not_word c 123 m h refl)))

  seg_some : Inhabited (seg_of deep arg)
  unfolding seg_number seg_word
  seg_some = choice_other true 123 (bind numbered seg_number) (bind word seg_word) (then_some word seg_word a_word (λ w. seg_after_some w None))

  abbrev segs : Reader (List Seg)
  segs = many (seg_of deep arg) 58 (codes ":")

  segs_reader : IsReader (ListStops (seg_of deep arg) 58 (codes ":") SegStops) segs
  segs_reader = many_reader (seg_of deep arg) 58 (codes ":") seg_reader seg_some (λ m. (refl, refl))

  segs_some : Inhabited segs
  segs_some = many_some (seg_of deep arg) 58 (codes ":") seg_reader seg_some (λ m. (refl, refl))

  module _ (alone : Reader Name) (is_alone : IsReader PathStops alone)
      (starts_alone : (H Stops : List ℕ → Type 0) → ((k : List ℕ) → Stops k → H k) → Starts H Stops alone) where
    more_segs : Seg → Reader Name
    more_segs s = bind segs (λ rest. give (Path (s ∷ rest)))

    more_segs_reader : (s : Seg) → IsReader PathStops (more_segs s)
    unfolding more_segs
    more_segs_reader s =
        then_reader segs (λ rest. give (Path (s ∷ rest))) segs_reader (λ rest. give_reader PathStops _) (λ rest. give_some _) (λ rest. starts_give _ (λ k h. h))

    more_segs_some : (s : Seg) → Inhabited (more_segs s)
    unfolding more_segs
    more_segs_some s = then_some segs (λ rest. give (Path (s ∷ rest))) segs_some (λ rest. give_some _)

    path_from_reader : (s : Seg) → IsReader PathStops (path_from deep arg alone s)
    unfolding more_segs
    path_from_reader s =
        choice_reader true 58 (bind (literal (codes ":")) (λ _. more_segs s)) (either (is_plain_str s) alone (give (Path (s ∷ []))))
        (λ f. after_literal (codes ":") (more_segs s) (more_segs_reader s) (more_segs_some s))
        (λ f. after_literal_some (codes ":") (more_segs s) (more_segs_some s))
        (either_reader (is_plain_str s) alone (give (Path (s ∷ []))) (λ f. is_alone) (λ f. give_reader PathStops _))
        (λ f. starts_either (is_plain_str s) alone (give (Path (s ∷ []))) (λ g. starts_alone (Not 58) PathStops (λ k h. h.1)) (λ g. starts_give _ (λ k h. h.1)))

    path_from_some : (s : Seg) → Inhabited (path_from deep arg alone s)
    unfolding more_segs
    path_from_some s = choice_some 58 (bind (literal (codes ":")) (λ _. more_segs s)) (either (is_plain_str s) alone (give (Path (s ∷ []))))
        (after_literal_some (codes ":") (more_segs s) (more_segs_some s))

    starts_path_from : (H Stops : List ℕ → Type 0) → ((m : List ℕ) → H (58 ∷ m)) → ((k : List ℕ) → Stops k → H k) → (s : Seg) →
        Starts H Stops (path_from deep arg alone s)
    unfolding more_segs
    starts_path_from H Stops h stop s =
        starts_on true 58 (bind (literal (codes ":")) (λ _. more_segs s)) (either (is_plain_str s) alone (give (Path (s ∷ [])))) h
        (starts_either (is_plain_str s) alone (give (Path (s ∷ []))) (λ g. starts_alone H Stops stop) (λ g. starts_give _ stop))

    pub path_after_reader : (w : List ℕ) (n : Option ℕ) → IsReader PathStops (path_after deep arg alone w n)
    path_after_reader w n =
        then_reader (seg_after deep arg w n) (path_from deep arg alone) (seg_after_reader (Not 60) (λ k h. h) w n) path_from_reader path_from_some
        (starts_path_from (Not 60) PathStops (λ m. refl) (λ k h. h.0.1))

    pub path_after_some : (w : List ℕ) (n : Option ℕ) → Inhabited (path_after deep arg alone w n)
    path_after_some w n = then_some (seg_after deep arg w n) (path_from deep arg alone) (seg_after_some w n) path_from_some

    pub starts_path_after : (H Stops : List ℕ → Type 0) → ((m : List ℕ) → H (60 ∷ m)) → ((m : List ℕ) → H (58 ∷ m)) → ((k : List ℕ) → Stops k → H k) →
        (w : List ℕ) (n : Option ℕ) → Starts H Stops (path_after deep arg alone w n)
    starts_path_after H Stops h g stop w n =
        starts_both (seg_after deep arg w n) (path_from deep arg alone) (starts_seg_after H H h (λ k x. x) w n) (starts_path_from H Stops g stop)

  pub numbered_path_reader : IsReader PathStops (numbered_path deep arg)
  numbered_path_reader =
      choice_reader true 123 (bind numbered (λ x. path_after deep arg never x.0 (Some x.1))) never
      (λ f. then_reader numbered (λ x. path_after deep arg never x.0 (Some x.1)) (numbered_reader Any)
      (λ x. path_after_reader never (never_reader PathStops) (λ H Stops stop. starts_never) x.0 (Some x.1))
      (λ x. path_after_some never (never_reader PathStops) (λ H Stops stop. starts_never) x.0 (Some x.1)) (λ x. record { at = λ w t k h stops. tt }))
      (λ f. then_some numbered (λ x. path_after deep arg never x.0 (Some x.1)) numbered_some
      (λ x. path_after_some never (never_reader PathStops) (λ H Stops stop. starts_never) x.0 (Some x.1)))
      (never_reader PathStops) (λ f. starts_never)

  pub starts_numbered_path : (H Stops : List ℕ → Type 0) → ((m : List ℕ) → H (123 ∷ m)) → Starts H Stops (numbered_path deep arg)
  starts_numbered_path H Stops h = starts_on true 123 (bind numbered (λ x. path_after deep arg never x.0 (Some x.1))) never h starts_never

-- a reader's texts begin alike where less may follow
fewer_starts : {A : Type 0} {H Stops Stops' : List ℕ → Type 0} (R : Reader A) → ((k : List ℕ) → Stops' k → Stops k) → Starts H Stops R → Starts H Stops' R
fewer_starts R fewer h = record { at = λ w t k x stops. h.at w t k x (fewer k stops) }

-- the readers of a level read as they owe
pub record Lawful (L : Level) : Type 1 where
  pub whole : IsReader NameStops L.whole
  pub arg : IsReader NameStops L.arg
  pub member : IsReader MemberStops L.member
  pub worded : (w : List ℕ) → IsReader NameStops (L.worded w)
  pub plain : (w : List ℕ) → IsReader NameStops (L.plain w)
  pub symbol : (unit : Bool) → IsReader NameStops (L.symbol unit)
  pub some_whole : Inhabited L.whole
  pub some_arg : Inhabited L.arg
  pub some_member : Inhabited L.member
  pub some_worded : (w : List ℕ) → Inhabited (L.worded w)
  pub some_plain : (w : List ℕ) → Inhabited (L.plain w)
  pub starts_worded : (w : List ℕ) → Starts NoChar NameStops (L.worded w)
  pub starts_plain : (H : List ℕ → Type 0) → ((m : List ℕ) → H (60 ∷ m)) → ((m : List ℕ) → H (58 ∷ m)) → ((k : List ℕ) → NameStops k → H k) →
      (w : List ℕ) → Starts H NameStops (L.plain w)
  pub starts_symbol : (H : List ℕ → Type 0) → ((m : List ℕ) → H (38 ∷ m)) → ((m : List ℕ) → H (42 ∷ m)) → ((m : List ℕ) → H (91 ∷ m)) →
      ((m : List ℕ) → H (40 ∷ m)) → ((m : List ℕ) → H (123 ∷ m)) → (unit : Bool) → Starts H NameStops (L.symbol unit)
  -- no name of the level begins with `)`
  pub starts_whole : Starts (Not 41) NameStops L.whole

module _ (L : Level) (law : Lawful L) where
  -- one value after another
  map_reader : (R : Reader Name) (f : Name → Name) → IsReader NameStops R → IsReader NameStops (bind R (λ x. give (f x)))
  map_reader R f is = then_reader R (λ x. give (f x)) is (λ x. give_reader NameStops (f x)) (λ x. give_some (f x)) (λ x. starts_give (f x) (λ k h. h))

  map_some : (R : Reader Name) (f : Name → Name) → Inhabited R → Inhabited (bind R (λ x. give (f x)))
  map_some R f some = then_some R (λ x. give (f x)) some (λ x. give_some (f x))

  starts_map : (H : List ℕ → Type 0) (R : Reader Name) (f : Name → Name) → Starts H NameStops R → Starts H NameStops (bind R (λ x. give (f x)))
  starts_map H R f h = starts_then R (λ x. give (f x)) h (λ x. starts_give (f x) (λ k h. h))

  array_of : Name → Reader Name
  array_of x = bind (number true (2 ^ 64 - 1)) (λ n. bind (literal (codes "]")) (λ _. give (Array x n)))

  item_end : Name → Reader Name
  unfolding array_of
  item_end x = on true 93 (give (Slice x)) (bind (literal (codes "; ")) (λ _. array_of x))

  bracketed_reader : IsReader NameStops (bracketed L)
  unfolding array_of item_end
  bracketed_reader =
      then_reader L.whole item_end law.whole
      (λ x. choice_reader true 93 (give (Slice x)) (bind (literal (codes "; ")) (λ _. array_of x)) (λ f. give_reader NameStops _) (λ f. give_some _)
      (after_literal (codes "; ") (array_of x) (after_number (2 ^ 64 - 1) 93 [] (Array x) (omega arith) (omega arith) refl)
      (after_number_some (2 ^ 64 - 1) (codes "]") (Array x) (omega arith) (omega arith)))
      (λ f. starts_after 59 (codes " ") (array_of x) (λ m. refl)))
      (λ x. choice_some 93 (give (Slice x)) (bind (literal (codes "; ")) (λ _. array_of x)) (give_some _))
      (λ x. starts_on true 93 (give (Slice x)) (bind (literal (codes "; ")) (λ _. array_of x)) (λ m. refl)
      (starts_after 59 (codes " ") (array_of x) (λ m. refl)))

  bracketed_some : Inhabited (bracketed L)
  unfolding array_of item_end
  bracketed_some = then_some L.whole item_end law.some_whole
      (λ x. choice_some 93 (give (Slice x)) (bind (literal (codes "; ")) (λ _. array_of x)) (give_some _))

  to_whole : (Name → Name) → Reader Name
  to_whole f = bind L.whole (λ x. give (f x))

  pointed_reader : IsReader NameStops (pointed L)
  unfolding to_whole
  pointed_reader =
      choice_reader true 99 (bind (literal (codes "onst ")) (λ _. to_whole (Pointer Const)))
      (on true 109 (bind (literal (codes "ut ")) (λ _. to_whole (Pointer Mut))) never)
      (λ f. after_literal (codes "onst ") (to_whole (Pointer Const)) (map_reader L.whole (Pointer Const) law.whole)
      (map_some L.whole (Pointer Const) law.some_whole))
      (λ f. after_literal_some (codes "onst ") (to_whole (Pointer Const)) (map_some L.whole (Pointer Const) law.some_whole))
      (choice_reader true 109 (bind (literal (codes "ut ")) (λ _. to_whole (Pointer Mut))) never
      (λ f. after_literal (codes "ut ") (to_whole (Pointer Mut)) (map_reader L.whole (Pointer Mut) law.whole) (map_some L.whole (Pointer Mut) law.some_whole))
      (λ f. after_literal_some (codes "ut ") (to_whole (Pointer Mut)) (map_some L.whole (Pointer Mut) law.some_whole))
      (never_reader NameStops) (λ f. starts_never))
      (λ f. starts_on true 109 (bind (literal (codes "ut ")) (λ _. to_whole (Pointer Mut))) never (λ m. refl) starts_never)

  pointed_some : Inhabited (pointed L)
  unfolding to_whole
  pointed_some =
      choice_some 99 (bind (literal (codes "onst ")) (λ _. to_whole (Pointer Const)))
      (on true 109 (bind (literal (codes "ut ")) (λ _. to_whole (Pointer Mut))) never)
      (after_literal_some (codes "onst ") (to_whole (Pointer Const)) (map_some L.whole (Pointer Const) law.some_whole))

  -- after a word that may not be followed by a space
  plain_with : (Name → Reader Name) → List ℕ → Reader Name
  plain_with f w = bind (L.plain w) f

  referred_word_reader : (w : List ℕ) → IsReader NameStops (referred_word L w)
  referred_word_reader w =
      either_reader (is_word w (codes "mut")) (on true 32 (bind L.whole (λ x. give (Pointer RefMut x))) (bind (L.plain w) (λ x. give (Pointer Ref x))))
      (bind (L.worded w) (λ x. give (Pointer Ref x)))
      (λ e. choice_reader true 32 (bind L.whole (λ x. give (Pointer RefMut x))) (bind (L.plain w) (λ x. give (Pointer Ref x)))
      (λ f. map_reader L.whole (Pointer RefMut) law.whole) (λ f. map_some L.whole (Pointer RefMut) law.some_whole)
      (map_reader (L.plain w) (Pointer Ref) (law.plain w))
      (λ f. starts_map (Not 32) (L.plain w) (Pointer Ref) (law.starts_plain (Not 32) (λ m. refl) (λ m. refl) no_space w)))
      (λ e. map_reader (L.worded w) (Pointer Ref) (law.worded w))

  referred_word_some : (w : List ℕ) → Inhabited (referred_word L w)
  referred_word_some w =
      either_some (is_word w (codes "mut")) (on true 32 (bind L.whole (λ x. give (Pointer RefMut x))) (bind (L.plain w) (λ x. give (Pointer Ref x))))
      (bind (L.worded w) (λ x. give (Pointer Ref x)))
      (choice_some 32 (bind L.whole (λ x. give (Pointer RefMut x))) (bind (L.plain w) (λ x. give (Pointer Ref x)))
      (map_some L.whole (Pointer RefMut) law.some_whole)) (map_some (L.worded w) (Pointer Ref) (law.some_worded w))

  starts_referred_word : (w : List ℕ) → Starts NoChar NameStops (referred_word L w)
  starts_referred_word w =
      starts_either (is_word w (codes "mut")) (on true 32 (bind L.whole (λ x. give (Pointer RefMut x))) (bind (L.plain w) (λ x. give (Pointer Ref x))))
      (bind (L.worded w) (λ x. give (Pointer Ref x)))
      (λ e. starts_on true 32 (bind L.whole (λ x. give (Pointer RefMut x))) (bind (L.plain w) (λ x. give (Pointer Ref x))) (λ m. refl)
      (starts_map NoChar (L.plain w) (Pointer Ref) (law.starts_plain NoChar (λ m. refl) (λ m. refl) no_char_stop w)))
      (λ e. starts_map NoChar (L.worded w) (Pointer Ref) (law.starts_worded w))

  symbol_no_word : (unit : Bool) → Starts NoWord NameStops (L.symbol unit)
  symbol_no_word = law.starts_symbol NoWord (λ m. refl) (λ m. refl) (λ m. refl) (λ m. refl) (λ m. refl)

  referred_reader : IsReader NameStops (referred L)
  referred_reader =
      at_word (bind word (referred_word L)) (bind (L.symbol true) (λ x. give (Pointer Ref x)))
      (then_reader word (referred_word L) word_reader referred_word_reader referred_word_some starts_referred_word)
      (map_reader (L.symbol true) (Pointer Ref) (law.symbol true))
      (starts_first word (referred_word L) (starts_words (λ c m h. h))) (starts_map NoWord (L.symbol true) (Pointer Ref) (symbol_no_word true))

  referred_some : Inhabited (referred L)
  referred_some = where_some starts_word (bind word (referred_word L)) (bind (L.symbol true) (λ x. give (Pointer Ref x)))
      (then_some word (referred_word L) a_word referred_word_some)

  -- tuples and `Dyn`s in parentheses
  closed_by : Name → Reader Name
  closed_by x = bind (literal (codes ")")) (λ _. give x)

  closed_by_reader : (x : Name) → IsReader NameStops (closed_by x)
  unfolding closed_by
  closed_by_reader x = after_literal (codes ")") (give x) (give_reader NameStops x) (give_some x)

  closed_by_some : (x : Name) → Inhabited (closed_by x)
  unfolding closed_by
  closed_by_some x = after_literal_some (codes ")") (give x) (give_some x)

  starts_closed_by : (H Stops : List ℕ → Type 0) → ((m : List ℕ) → H (41 ∷ m)) → (x : Name) → Starts H Stops (closed_by x)
  unfolding closed_by
  starts_closed_by H Stops h x = starts_after 41 [] (give x) h

  abbrev wholes : Reader (List Name)
  wholes = many L.whole 44 (codes " ")

  wholes_reader : IsReader (ListStops L.whole 44 (codes " ") NameStops) wholes
  wholes_reader = many_reader L.whole 44 (codes " ") law.whole law.some_whole (λ m. refl)

  wholes_some : Inhabited wholes
  wholes_some = many_some L.whole 44 (codes " ") law.whole law.some_whole (λ m. refl)

  abbrev members : Reader (List Name)
  members = many L.member 32 (codes "+ ")

  more_parts : Name → Reader Name
  unfolding closed_by
  more_parts x = bind wholes (λ rest. closed_by (Tuple (x ∷ rest)))

  more_parts_reader : (x : Name) → IsReader NameStops (more_parts x)
  unfolding more_parts
  more_parts_reader x =
      then_reader wholes (λ rest. closed_by (Tuple (x ∷ rest))) wholes_reader (λ rest. closed_by_reader _) (λ rest. closed_by_some _)
      (λ rest. starts_closed_by _ NameStops (λ m. (refl, refl)) _)

  more_parts_some : (x : Name) → Inhabited (more_parts x)
  unfolding more_parts
  more_parts_some x = then_some wholes (λ rest. closed_by (Tuple (x ∷ rest))) wholes_some (λ rest. closed_by_some _)

  tuple_from_reader : (x : Name) → IsReader NameStops (tuple_from L x)
  unfolding more_parts closed_by
  tuple_from_reader x =
      choice_reader true 44 (bind (literal (codes " ")) (λ _. more_parts x)) (closed_by (Tuple (x ∷ [])))
      (λ f. after_literal (codes " ") (more_parts x) (more_parts_reader x) (more_parts_some x))
      (λ f. after_literal_some (codes " ") (more_parts x) (more_parts_some x)) (closed_by_reader (Tuple (x ∷ [])))
      (λ f. starts_closed_by (Not 44) NameStops (λ m. refl) (Tuple (x ∷ [])))

  tuple_from_some : (x : Name) → Inhabited (tuple_from L x)
  unfolding more_parts closed_by
  tuple_from_some x = choice_some 44 (bind (literal (codes " ")) (λ _. more_parts x)) (closed_by (Tuple (x ∷ [])))
      (after_literal_some (codes " ") (more_parts x) (more_parts_some x))

  starts_tuple_from : (H : List ℕ → Type 0) → ((m : List ℕ) → H (44 ∷ m)) → ((m : List ℕ) → H (41 ∷ m)) → (x : Name) → Starts H NameStops (tuple_from L x)
  unfolding more_parts closed_by
  starts_tuple_from H h g x =
      starts_on true 44 (bind (literal (codes " ")) (λ _. more_parts x)) (closed_by (Tuple (x ∷ []))) h (starts_closed_by H NameStops g (Tuple (x ∷ [])))

  more_members : Name → Reader Name
  unfolding closed_by
  more_members a = bind members (λ rest. closed_by (Dyn (a ∷ rest)))

  more_members_reader : (a : Name) → IsReader NameStops (more_members a)
  unfolding more_members
  more_members_reader a =
      then_reader members (λ rest. closed_by (Dyn (a ∷ rest))) (many_reader L.member 32 (codes "+ ") law.member law.some_member (λ m. refl))
      (λ rest. closed_by_reader _) (λ rest. closed_by_some _)
      (λ rest. starts_closed_by _ NameStops (λ m. (refl, refl)) _)

  more_members_some : (a : Name) → Inhabited (more_members a)
  unfolding more_members
  more_members_some a =
      then_some members (λ rest. closed_by (Dyn (a ∷ rest))) (many_some L.member 32 (codes "+ ") law.member law.some_member (λ m. refl))
      (λ rest. closed_by_some _)

  dyn_from_reader : (a : Name) → IsReader NameStops (dyn_from L a)
  unfolding more_members closed_by
  dyn_from_reader a =
      choice_reader true 32 (bind (literal (codes "+ ")) (λ _. more_members a)) (either (L.holds a) (tuple_from L (Dyn (a ∷ []))) never)
      (λ f. after_literal (codes "+ ") (more_members a) (more_members_reader a) (more_members_some a))
      (λ f. after_literal_some (codes "+ ") (more_members a) (more_members_some a))
      (either_reader (L.holds a) (tuple_from L (Dyn (a ∷ []))) never (λ e. tuple_from_reader _) (λ e. never_reader NameStops))
      (λ f. starts_either (L.holds a) (tuple_from L (Dyn (a ∷ []))) never (λ e. starts_tuple_from (Not 32) (λ m. refl) (λ m. refl) _) (λ e. starts_never))

  dyn_from_some : (a : Name) → Inhabited (dyn_from L a)
  unfolding more_members closed_by
  dyn_from_some a = choice_some 32 (bind (literal (codes "+ ")) (λ _. more_members a)) (either (L.holds a) (tuple_from L (Dyn (a ∷ []))) never)
      (after_literal_some (codes "+ ") (more_members a) (more_members_some a))

  starts_dyn_from : (a : Name) → Starts MemberStops NameStops (dyn_from L a)
  unfolding more_members closed_by
  starts_dyn_from a =
      starts_on true 32 (bind (literal (codes "+ ")) (λ _. more_members a)) (either (L.holds a) (tuple_from L (Dyn (a ∷ []))) never) (λ m. refl)
      (starts_either (L.holds a) (tuple_from L (Dyn (a ∷ []))) never (λ e. starts_tuple_from MemberStops (λ m. refl) (λ m. refl) _) (λ e. starts_never))

  parts_word_reader : (w : List ℕ) → IsReader NameStops (parts_word L w)
  parts_word_reader w =
      either_reader (is_word w (codes "dyn")) (on true 32 (bind L.member (dyn_from L)) (bind (L.plain w) (tuple_from L))) (bind (L.worded w) (tuple_from L))
      (λ e. choice_reader true 32 (bind L.member (dyn_from L)) (bind (L.plain w) (tuple_from L))
      (λ f. then_reader L.member (dyn_from L) law.member dyn_from_reader dyn_from_some starts_dyn_from)
      (λ f. then_some L.member (dyn_from L) law.some_member dyn_from_some)
      (then_reader (L.plain w) (tuple_from L) (law.plain w) tuple_from_reader tuple_from_some (starts_tuple_from NameStops (λ m. refl) (λ m. refl)))
      (λ f. starts_then (L.plain w) (tuple_from L) (law.starts_plain (Not 32) (λ m. refl) (λ m. refl) no_space w)
      (starts_tuple_from NameStops (λ m. refl) (λ m. refl))))
      (λ e. then_reader (L.worded w) (tuple_from L) (law.worded w) tuple_from_reader tuple_from_some (starts_tuple_from NameStops (λ m. refl) (λ m. refl)))

  parts_word_some : (w : List ℕ) → Inhabited (parts_word L w)
  parts_word_some w =
      either_some (is_word w (codes "dyn")) (on true 32 (bind L.member (dyn_from L)) (bind (L.plain w) (tuple_from L))) (bind (L.worded w) (tuple_from L))
      (choice_some 32 (bind L.member (dyn_from L)) (bind (L.plain w) (tuple_from L)) (then_some L.member (dyn_from L) law.some_member dyn_from_some))
      (then_some (L.worded w) (tuple_from L) (law.some_worded w) tuple_from_some)

  starts_parts_word : (w : List ℕ) → Starts NoChar NameStops (parts_word L w)
  starts_parts_word w =
      starts_either (is_word w (codes "dyn")) (on true 32 (bind L.member (dyn_from L)) (bind (L.plain w) (tuple_from L))) (bind (L.worded w) (tuple_from L))
      (λ e. starts_on true 32 (bind L.member (dyn_from L)) (bind (L.plain w) (tuple_from L)) (λ m. refl)
      (starts_then (L.plain w) (tuple_from L) (law.starts_plain NoChar (λ m. refl) (λ m. refl) no_char_stop w)
      (starts_tuple_from NameStops (λ m. refl) (λ m. refl))))
      (λ e. starts_then (L.worded w) (tuple_from L) (law.starts_worded w) (starts_tuple_from NameStops (λ m. refl) (λ m. refl)))

  from_symbol : Reader Name
  from_symbol = bind (L.symbol true) (tuple_from L)

  parts_reader : IsReader NameStops (parts L)
  parts_reader =
      at_word (bind word (parts_word L)) (bind (L.symbol true) (tuple_from L))
      (then_reader word (parts_word L) word_reader parts_word_reader parts_word_some starts_parts_word)
      (then_reader (L.symbol true) (tuple_from L) (law.symbol true) tuple_from_reader tuple_from_some
      (starts_tuple_from NameStops (λ m. refl) (λ m. refl))) (starts_first word (parts_word L) (starts_words (λ c m h. h)))
      (starts_then (L.symbol true) (tuple_from L) (symbol_no_word true) (starts_tuple_from NameStops (λ m. refl) (λ m. refl)))

  parts_some : Inhabited (parts L)
  parts_some = where_some starts_word (bind word (parts_word L)) (bind (L.symbol true) (tuple_from L)) (then_some word (parts_word L) a_word parts_word_some)

  starts_parts : Starts (Not 41) NameStops (parts L)
  starts_parts =
      starts_where starts_word (bind word (parts_word L)) (bind (L.symbol true) (tuple_from L))
      (starts_first word (parts_word L) (starts_words (λ c m h. not_word c 41 m h refl)))
      (starts_then (L.symbol true) (tuple_from L) (law.starts_symbol (Not 41) (λ m. refl) (λ m. refl) (λ m. refl) (λ m. refl) (λ m. refl) true)
      (starts_tuple_from NameStops (λ m. refl) (λ m. refl)))

  -- functions
  no_unit : Reader Name
  no_unit = where_first starts_word (bind word L.worded) (L.symbol false)

  no_unit_reader : IsReader NameStops no_unit
  unfolding no_unit
  no_unit_reader =
      at_word (bind word L.worded) (L.symbol false) (then_reader word L.worded word_reader law.worded law.some_worded law.starts_worded) (law.symbol false)
      (starts_first word L.worded (starts_words (λ c m h. h))) (symbol_no_word false)

  no_unit_some : Inhabited no_unit
  unfolding no_unit
  no_unit_some = where_some starts_word (bind word L.worded) (L.symbol false) (then_some word L.worded a_word law.some_worded)

  arrow : List Name → Reader Name
  arrow xs = bind no_unit (λ x. give (Fn xs x))

  result_reader : (xs : List Name) → IsReader NameStops (result_of L xs)
  unfolding arrow no_unit
  result_reader xs =
      choice_reader true 32 (bind (literal (codes "-> ")) (λ _. arrow xs)) (give (Fn xs (Tuple [])))
      (λ f. after_literal (codes "-> ") (arrow xs) (map_reader no_unit (Fn xs) no_unit_reader) (map_some no_unit (Fn xs) no_unit_some))
      (λ f. after_literal_some (codes "-> ") (arrow xs) (map_some no_unit (Fn xs) no_unit_some))
      (give_reader NameStops _) (λ f. starts_give _ no_space)

  result_some : (xs : List Name) → Inhabited (result_of L xs)
  unfolding arrow no_unit
  result_some xs = choice_some 32 (bind (literal (codes "-> ")) (λ _. arrow xs)) (give (Fn xs (Tuple [])))
      (after_literal_some (codes "-> ") (arrow xs) (map_some no_unit (Fn xs) no_unit_some))

  params_end : List Name → Reader Name
  params_end xs = bind (literal (codes ")")) (λ _. result_of L xs)

  function_reader : IsReader NameStops (function L)
  unfolding params_end
  function_reader =
      choice_reader true 41 (result_of L []) (bind wholes params_end) (λ f. result_reader []) (λ f. result_some [])
      (then_reader wholes params_end wholes_reader (λ xs. after_literal (codes ")") (result_of L xs) (result_reader xs) (result_some xs))
      (λ xs. after_literal_some (codes ")") (result_of L xs) (result_some xs))
      (λ xs. starts_after 41 [] (result_of L xs) (λ m. (refl, refl))))
      (λ f. starts_then {StopsA = ListStops L.whole 44 (codes " ") NameStops} wholes params_end
      (fewer_starts wholes (λ k h. h.0) (starts_many L.whole 44 (codes " ") law.starts_whole (λ m. refl)))
      (λ xs. starts_after 41 [] (result_of L xs) (λ m. (refl, refl))))

  function_some : Inhabited (function L)
  unfolding params_end
  function_some = choice_some 41 (result_of L []) (bind wholes params_end) (result_some [])

and_first : (a b : Bool) → (a && b) ≡ true → a ≡ true
and_first true b e = refl
and_first false b e = cc

-- a level whose parts, if there are any, are read as they owe
module _ (deep : Bool) (L : Level) (law : deep ≡ true → Lawful L) where
  alone_give : (v : Name) (H Stops : List ℕ → Type 0) → ((k : List ℕ) → Stops k → H k) → Starts H Stops (give v)
  alone_give v H Stops h = starts_give v h

  alone_never : (H Stops : List ℕ → Type 0) → ((k : List ℕ) → Stops k → H k) → Starts H Stops (never {A = Name})
  alone_never H Stops h = starts_never

  arg_law : deep ≡ true → IsReader NameStops L.arg
  arg_law f = (law f).arg

  arg_some : deep ≡ true → Inhabited L.arg
  arg_some f = (law f).some_arg

  abbrev plain_of : List ℕ → Reader Name
  plain_of w = path_after deep L.arg (give Str) w None

  abbrev member_of : List ℕ → Reader Name
  member_of w = path_after deep L.arg never w None

  plain_reader : (w : List ℕ) → IsReader PathStops (plain_of w)
  plain_reader w = path_after_reader deep L.arg arg_law arg_some (give Str) (give_reader PathStops Str) (alone_give Str) w None

  plain_some : (w : List ℕ) → Inhabited (plain_of w)
  plain_some w = path_after_some deep L.arg arg_law arg_some (give Str) (give_reader PathStops Str) (alone_give Str) w None

  starts_plain_of : (H Stops : List ℕ → Type 0) → ((m : List ℕ) → H (60 ∷ m)) → ((m : List ℕ) → H (58 ∷ m)) → ((k : List ℕ) → Stops k → H k) →
      (w : List ℕ) → Starts H Stops (plain_of w)
  starts_plain_of H Stops h g stop w =
      starts_path_after deep L.arg arg_law arg_some (give Str) (give_reader PathStops Str) (alone_give Str) H Stops h g stop w None

  abbrev fn_of : List ℕ → Reader Name
  fn_of w = on (deep && is_word w (codes "fn")) 40 (function L) (plain_of w)

  one_member : Reader Name
  one_member = bind L.member (λ a. give (Dyn (a ∷ [])))

  worded_reader : (w : List ℕ) → IsReader NameStops (worded_of deep L w)
  worded_reader w =
      choice_reader (deep && is_word w (codes "dyn")) 32 (bind L.member (λ a. give (Dyn (a ∷ [])))) (fn_of w)
      (λ f. let l = law (and_first deep _ f) in
      then_reader L.member (λ a. give (Dyn (a ∷ []))) l.member (λ a. give_reader NameStops _) (λ a. give_some _) (λ a. starts_give _ name_member))
      (λ f. let l = law (and_first deep _ f) in then_some L.member (λ a. give (Dyn (a ∷ []))) l.some_member (λ a. give_some _))
      (choice_reader (deep && is_word w (codes "fn")) 40 (function L) (plain_of w) (λ f. function_reader L (law (and_first deep _ f)))
      (λ f. function_some L (law (and_first deep _ f)))
      (fewer_stops (plain_of w) name_path (plain_reader w))
      (λ f. starts_plain_of (Not 40) NameStops (λ m. refl) (λ m. refl) (name_not 40 (λ m. (refl, (refl, (refl, (refl, refl)))))) w))
      (λ f. starts_on (deep && is_word w (codes "fn")) 40 (function L) (plain_of w) (λ m. refl)
      (starts_plain_of (Not 32) NameStops (λ m. refl) (λ m. refl) no_space w))

  worded_some : (w : List ℕ) → Inhabited (worded_of deep L w)
  worded_some w =
      choice_other (deep && is_word w (codes "dyn")) 32 (bind L.member (λ a. give (Dyn (a ∷ [])))) (fn_of w)
      (choice_other (deep && is_word w (codes "fn")) 40 (function L) (plain_of w) (plain_some w))

  starts_worded_of : (H : List ℕ → Type 0) → ((m : List ℕ) → H (32 ∷ m)) → ((m : List ℕ) → H (40 ∷ m)) → ((m : List ℕ) → H (60 ∷ m)) →
      ((m : List ℕ) → H (58 ∷ m)) → ((k : List ℕ) → NameStops k → H k) → (w : List ℕ)
      → Starts H NameStops (worded_of deep L w)
  starts_worded_of H space paren angle colon stop w =
      starts_on (deep && is_word w (codes "dyn")) 32 (bind L.member (λ a. give (Dyn (a ∷ [])))) (fn_of w) space
      (starts_on (deep && is_word w (codes "fn")) 40 (function L) (plain_of w) paren (starts_plain_of H NameStops angle colon stop w))

  worded_no_char : (w : List ℕ) → Starts NoChar NameStops (worded_of deep L w)
  worded_no_char = starts_worded_of NoChar (λ m. refl) (λ m. refl) (λ m. refl) (λ m. refl) no_char_stop

  path_number : Reader Name
  path_number = numbered_path deep L.arg

  path_number_reader : IsReader PathStops (numbered_path deep L.arg)
  path_number_reader = numbered_path_reader deep L.arg arg_law arg_some

  starts_path_number : (H Stops : List ℕ → Type 0) → ((m : List ℕ) → H (123 ∷ m)) → Starts H Stops (numbered_path deep L.arg)
  starts_path_number = starts_numbered_path deep L.arg arg_law arg_some

  abbrev inside : Bool → Reader Name
  inside unit = on unit 41 (give (Tuple [])) (either deep (parts L) never)

  inside_reader : (unit : Bool) → IsReader NameStops (inside unit)
  inside_reader unit =
      choice_reader unit 41 (give (Tuple [])) (either deep (parts L) never) (λ f. give_reader NameStops _) (λ f. give_some _)
      (either_reader deep (parts L) never (λ f. parts_reader L (law f)) (λ f. never_reader NameStops))
      (λ f. starts_either deep (parts L) never (λ f. starts_parts L (law f)) (λ f. starts_never))

  inside_some : (unit z : Bool) → deep ≡ z → (unit || z) ≡ true → Inhabited (inside unit)
  inside_some true z e f = choice_some 41 (give (Tuple [])) (either deep (parts L) never) (give_some _)
  inside_some false true e f = let some = parts_some L (law e) in (some.0, (some.1.0, inr (inl (e, some.1.1))))
  inside_some false false e f = cc

  abbrev opened : Bool → Reader Name
  opened unit = on (unit || deep) 40 (inside unit) (numbered_path deep L.arg)

  abbrev from_bracket : Bool → Reader Name
  from_bracket unit = on deep 91 (bracketed L) (opened unit)

  abbrev from_star : Bool → Reader Name
  from_star unit = on deep 42 (pointed L) (from_bracket unit)

  starts_opened : (H : List ℕ → Type 0) → ((m : List ℕ) → H (40 ∷ m)) → ((m : List ℕ) → H (123 ∷ m)) → (unit : Bool) → Starts H NameStops (opened unit)
  starts_opened H paren brace unit = starts_on (unit || deep) 40 (inside unit) (numbered_path deep L.arg) paren (starts_path_number H NameStops brace)

  starts_symbol_of : (H : List ℕ → Type 0) → ((m : List ℕ) → H (38 ∷ m)) → ((m : List ℕ) → H (42 ∷ m)) → ((m : List ℕ) → H (91 ∷ m)) →
      ((m : List ℕ) → H (40 ∷ m)) → ((m : List ℕ) → H (123 ∷ m)) → (unit : Bool)
      → Starts H NameStops (symbol_of deep L unit)
  starts_symbol_of H amp star bracket paren brace unit =
      starts_on deep 38 (referred L) (from_star unit) amp
      (starts_on deep 42 (pointed L) (from_bracket unit) star (starts_on deep 91 (bracketed L) (opened unit) bracket (starts_opened H paren brace unit)))

  symbol_reader : (unit : Bool) → IsReader NameStops (symbol_of deep L unit)
  symbol_reader unit =
      choice_reader deep 38 (referred L) (from_star unit) (λ f. referred_reader L (law f)) (λ f. referred_some L (law f))
      (choice_reader deep 42 (pointed L) (from_bracket unit) (λ f. pointed_reader L (law f)) (λ f. pointed_some L (law f))
      (choice_reader deep 91 (bracketed L) (opened unit) (λ f. bracketed_reader L (law f)) (λ f. bracketed_some L (law f))
      (choice_reader (unit || deep) 40 (inside unit) (numbered_path deep L.arg) (λ f. inside_reader unit) (λ f. inside_some unit deep refl f)
      (fewer_stops (numbered_path deep L.arg) name_path path_number_reader) (λ f. starts_path_number (Not 40) NameStops (λ m. refl)))
      (λ f. starts_opened (Not 91) (λ m. refl) (λ m. refl) unit))
      (λ f. starts_on deep 91 (bracketed L) (opened unit) (λ m. refl) (starts_opened (Not 42) (λ m. refl) (λ m. refl) unit)))
      (λ f. starts_on deep 42 (pointed L) (from_bracket unit) (λ m. refl)
      (starts_on deep 91 (bracketed L) (opened unit) (λ m. refl) (starts_opened (Not 38) (λ m. refl) (λ m. refl) unit)))

  no_word : (unit : Bool) → Starts NoWord NameStops (symbol_of deep L unit)
  no_word = starts_symbol_of NoWord (λ m. refl) (λ m. refl) (λ m. refl) (λ m. refl) (λ m. refl)

  whole_reader : IsReader NameStops (where_first starts_word (bind word (worded_of deep L)) (symbol_of deep L true))
  whole_reader =
      at_word (bind word (worded_of deep L)) (symbol_of deep L true)
      (then_reader word (worded_of deep L) word_reader worded_reader worded_some worded_no_char) (symbol_reader true)
      (starts_first word (worded_of deep L) (starts_words (λ c m h. h))) (no_word true)

  abbrev positive : Reader Name
  positive = bind (number true (2 ^ 128 - 1)) (λ n. give (Number false n))

  abbrev negative : Reader Name
  negative = bind (number false (2 ^ 128 - 1)) (λ n. give (Number true n))

  number_name : (zeroed minus : Bool) → IsReader NameStops (bind (number zeroed (2 ^ 128 - 1)) (λ n. give (Number minus n)))
  number_name zeroed minus =
      then_reader (number zeroed (2 ^ 128 - 1)) (λ n. give (Number minus n)) (number_reader zeroed (2 ^ 128 - 1) (omega arith) (omega arith))
      (λ n. give_reader NameStops _) (λ n. give_some _)
      (λ n. starts_give _ (of_name NoDigit tt (λ m. (refl, (refl, (refl, (refl, refl)))))))

  number_name_some : Inhabited negative
  number_name_some = then_some (number false (2 ^ 128 - 1)) (λ n. give (Number true n))
      (number_some false (2 ^ 128 - 1) (omega arith) (omega arith) 1 (omega arith) (omega arith)) (λ n. give_some _)

  starts_positive : (H Stops : List ℕ → Type 0) → ((c : ℕ) (m : List ℕ) → is_digit c ≡ true → H (c ∷ m)) → Starts H Stops positive
  starts_positive H Stops h =
      starts_first (number true (2 ^ 128 - 1)) (λ n. give (Number false n)) (starts_number true (2 ^ 128 - 1) (omega arith) (omega arith) h)

  abbrev or_symbol : Reader Name
  or_symbol = where_first starts_digit positive (symbol_of deep L true)

  abbrev or_number : Reader Name
  or_number = on true 45 negative or_symbol

  arg_word_reader : (w : List ℕ) → IsReader NameStops (arg_word deep L w)
  arg_word_reader w =
      choice_reader deep 61 (bind L.whole (λ x. give (Bind w x))) (worded_of deep L w) (λ f. map_reader L (law f) L.whole (Bind w) (law f).whole)
      (λ f. map_some L (law f) L.whole (Bind w) (law f).some_whole) (worded_reader w)
      (λ f. starts_worded_of (Not 61) (λ m. refl) (λ m. refl) (λ m. refl) (λ m. refl) (name_not 61 (λ m. (refl, (refl, (refl, (refl, refl)))))) w)

  arg_word_some : (w : List ℕ) → Inhabited (arg_word deep L w)
  arg_word_some w = choice_other deep 61 (bind L.whole (λ x. give (Bind w x))) (worded_of deep L w) (worded_some w)

  starts_arg_word : (w : List ℕ) → Starts NoChar NameStops (arg_word deep L w)
  starts_arg_word w = starts_on deep 61 (bind L.whole (λ x. give (Bind w x))) (worded_of deep L w) (λ m. refl) (worded_no_char w)

  digit_is : (P : Bool → Type 0) (c : ℕ) → is_digit c ≡ true → P true → P (is_digit c)
  digit_is P c e h = subst P (sym e) h

  arg_reader : IsReader NameStops (where_first starts_word (bind word (arg_word deep L)) or_number)
  arg_reader =
      at_word (bind word (arg_word deep L)) or_number (then_reader word (arg_word deep L) word_reader arg_word_reader arg_word_some starts_arg_word)
      (choice_reader true 45 negative or_symbol (λ f. number_name false true) (λ f. number_name_some)
      (at_digit positive (symbol_of deep L true) (number_name true false) (symbol_reader true)
      (starts_positive (λ l. starts_digit l ≡ true) NameStops (λ c m h. h))
      (starts_symbol_of (λ l. starts_digit l ≡ false) (λ m. refl) (λ m. refl) (λ m. refl) (λ m. refl) (λ m. refl) true))
      (λ f. starts_where starts_digit positive (symbol_of deep L true) (starts_positive (Not 45) NameStops (λ c m h. (digit_starts c m h).0))
      (starts_symbol_of (Not 45) (λ m. refl) (λ m. refl) (λ m. refl) (λ m. refl) (λ m. refl) true)))
      (starts_first word (arg_word deep L) (starts_words (λ c m h. h)))
      (starts_on true 45 negative or_symbol (λ m. refl)
      (starts_where starts_digit positive (symbol_of deep L true) (starts_positive NoWord NameStops (λ c m h. (digit_starts c m h).1.0)) (no_word true)))

  member_reader : IsReader MemberStops (where_first starts_word (bind word member_of) (numbered_path deep L.arg))
  member_reader =
      at_word (bind word member_of) (numbered_path deep L.arg)
      (then_reader word member_of word_reader
      (λ w. fewer_stops (member_of w) member_path (path_after_reader deep L.arg arg_law arg_some never (never_reader PathStops) alone_never w None))
      (λ w. path_after_some deep L.arg arg_law arg_some never (never_reader PathStops) alone_never w None)
      (λ w. starts_path_after deep L.arg arg_law arg_some never (never_reader PathStops) alone_never NoChar MemberStops (λ m. refl) (λ m. refl)
      (λ k h. (member_path k h).0.0) w None))
      (fewer_stops (numbered_path deep L.arg) member_path path_number_reader) (starts_first word member_of (starts_words (λ c m h. h)))
      (starts_path_number NoWord MemberStops (λ m. refl))

  pub level_law : (holds : Name → Bool) → Lawful (level_of holds deep L)
  level_law holds = record {
    whole = whole_reader;
    arg = arg_reader;
    member = member_reader;
    worded = worded_reader;
    plain = λ w. fewer_stops (plain_of w) name_path (plain_reader w);
    symbol = symbol_reader;
    some_whole = where_some starts_word (bind word (worded_of deep L)) (symbol_of deep L true) (then_some word (worded_of deep L) a_word worded_some);
    some_arg = where_some starts_word (bind word (arg_word deep L)) or_number (then_some word (arg_word deep L) a_word arg_word_some);
    some_member = where_some starts_word (bind word member_of) (numbered_path deep L.arg)
        (then_some word member_of a_word (λ w. path_after_some deep L.arg arg_law arg_some never (never_reader PathStops) alone_never w None));
    some_worded = worded_some;
    some_plain = plain_some;
    starts_worded = worded_no_char;
    starts_plain = λ H h g stop w. starts_plain_of H NameStops h g stop w;
    starts_symbol = starts_symbol_of;
    starts_whole = starts_where starts_word (bind word (worded_of deep L)) (symbol_of deep L true)
        (starts_first word (worded_of deep L) (starts_words (λ c m h. not_word c 41 m h refl)))
        (starts_symbol_of (Not 41) (λ m. refl) (λ m. refl) (λ m. refl) (λ m. refl) (λ m. refl) true);
  }

deep_law : (d : ℕ) → (has_some d ≡ true → Lawful (rust d)) → Lawful (rust (suc d))
unfolding rust
deep_law d law = level_law (has_some d) (rust d) law (fits d)

pub rust_law : (d : ℕ) → Lawful (rust (suc d))
rust_law zero = deep_law zero (λ e. cc)
rust_law (suc d) = deep_law (suc d) (λ e. rust_law d)

arg_of_law : (d : ℕ) → has_some d ≡ true → IsReader NameStops (rust d).arg × Inhabited (rust d).arg
arg_of_law zero e = cc
arg_of_law (suc d) e = ((rust_law d).arg, (rust_law d).some_arg)

pub seg_suffix : (d : ℕ) (s : List ℕ) → Suffix s ((seg_of (has_some d) (rust d).arg).read s)
seg_suffix d = suffix_of (seg_of (has_some d) (rust d).arg) (seg_reader (has_some d) (rust d).arg (λ e. (arg_of_law d e).0) (λ e. (arg_of_law d e).1))

pub whole_suffix : (d : ℕ) (s : List ℕ) → Suffix s ((rust d).whole.read s)
unfolding rust
whole_suffix zero s = ([], refl)
whole_suffix (suc d) s = suffix_of (rust (suc d)).whole (rust_law d).whole s

pub arg_suffix : (d : ℕ) (s : List ℕ) → Suffix s ((rust d).arg.read s)
unfolding rust
arg_suffix zero s = ([], refl)
arg_suffix (suc d) s = suffix_of (rust (suc d)).arg (rust_law d).arg s

pub member_suffix : (d : ℕ) (s : List ℕ) → Suffix s ((rust d).member.read s)
unfolding rust
member_suffix zero s = ([], refl)
member_suffix (suc d) s = suffix_of (rust (suc d)).member (rust_law d).member s

-- the readers of a level that has some
pub rust_is : (d : ℕ) → (d ≡ 0 → ⊥) → rust d ≡ within (d - 1)
unfolding rust
rust_is zero ne = absurd (ne refl)
rust_is (suc d) ne = ap within (let same : d ≡ suc d - 1 = omega arith in same)

pub rust_none : (d : ℕ) → d ≡ 0 → rust d ≡ none_level
unfolding rust
rust_none d e = ap rust e

pub holds_some : (d : ℕ) (a : Name) → 0 < d → (rust d).holds a ≡ fits (d - 1) a
holds_some d a h = ap (λ L. L.holds a) (rust_is d (λ e. omega (arith, e)))

pub holds_none : (d : ℕ) (a : Name) → d ≤ 0 → nat_lt 0 d ≡ (rust d).holds a
unfolding rust
holds_none zero a h = refl
holds_none (suc d) a h = absurd (omega arith)
