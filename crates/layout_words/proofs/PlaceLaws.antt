-- A text in the line of a function is read as the item that has it.
use Rattle.std.proofs.Common.{◌≡◌, ◌∙◌, sym, ap, subst, refl, ℕ, ◌<◌, ◌^◌, false, cond, List, [], ◌∷◌, ◌++◌, length, drop, Option, Some, None, Result, Ok, Err, codes, arith, lit≤, lit<}
use Rattle.std.proofs.lemmas.List.Elements.{All-nil}
use Rattle.std.proofs.lemmas.Option.{same_Some, cond_some}
use Rattle.std.proofs.lemmas.Slice.Eq.{bytes_eq-Decides}
use Rattle.std.specs.Fmt.{signed_decimal}
use Rattle.std.specs.List.{All}
use Rattle.std.specs.Option.{option_map}
use Rattle.std.specs.Str.{bytes_eq}
use Rattle.hex.specs.Hex.{lower_digits, encode_lower, decode_of}
use Rattle.hex.proofs.HexLemmas.{length-encode_with, decode_of-encode_lower, decode_of-ok}
use Rattle.readers.specs.Hex.{hex_text, hex_of}
use Rattle.readers.specs.Lines.{Lacks}
use Rattle.readers.proofs.HexWords.{hex_some, spelling_of}
use Rattle.snapshot_file.specs.Registers.{name_of, reg_of}
use Rattle.snapshot_file.specs.declared.registers.Reg.{Reg}
use Rattle.snapshot_file.proofs.RegisterLists.{word_of, named}
use Rattle.layout_set.specs.declared.func.Zone.{Zone}
use Rattle.layout_words.specs.declared.kinds.PlaceKind.{PlaceKind}
use Rattle.layout_words.specs.Kinds.{place_word}
use Rattle.layout_words.specs.Spellings.{◌>>=◌, begins_with}
use Rattle.layout_words.specs.PlaceSpellings.{register, frame, frame_text, frame_of, hex, signed, digits, digits_text, digits_of, ok_of, entry_kind, piece_kind, cut_at, zone, zone_text, zone_of, zone_behind, IsZone}
use Rattle.layout_words.proofs.Separators.{cut_front, cut_joins, after}
use Rattle.layout_words.proofs.SignedNumbers.{signed_says, signed_some}
use Rattle.layout_words.proofs.Visible.{IsFrom, from_test, from_lacks, from_append, from_weaker, from_hex, from_signed, from_pairs, as_bytes, of_bytes}
use Rattle.layout_words.proofs.PlaceWords.{entry_kind_says, entry_kind_some, piece_kind_says, piece_kind_some, place_word_visible, register_clear}
use Rattle.layout_words.proofs.ItemLaws.{WordLaw, by_test, cond_true, cond_false, begun, map_says}
use Rattle.layout_words.proofs.FormLaws.{bind_says}

lack_space : (text : List ℕ) → IsFrom 45 text → Lacks 32 text
lack_space text h = from_lacks 45 32 text (lit< tt) h

digit_from : (text : List ℕ) → IsFrom 48 text → IsFrom 45 text
digit_from text h = from_weaker 48 45 text (lit≤ tt) h

-- registers

pub register_visible : (reg : Reg) → IsFrom 45 (name_of reg)
register_visible reg = from_test 45 (name_of reg) (register_clear reg).1

pub register_law : WordLaw register
register_law = record { law = record { says = λ text reg e. (word_of text reg e, tt); some = λ reg u. named reg }; lacks = λ reg u. lack_space (name_of reg) (register_visible reg) }

no_none : (reg : Reg) → bytes_eq (name_of reg) (codes "none") ≡ false
no_none reg = by_test (bytes_eq (name_of reg) (codes "none"))
    (λ t. let is : Some reg ≡ None = sym (named reg) ∙ ap reg_of ((bytes_eq-Decides (name_of reg) (codes "none")).0 t) in absurd (cc))
    (λ t. t)

frame_some : (frame : Option Reg) → frame_of (frame_text frame) ≡ Some frame
frame_some None = refl
frame_some (Some reg) = cond_false (bytes_eq (name_of reg) (codes "none")) (Some None) (option_map (λ r. Some r) (reg_of (name_of reg))) (no_none reg) ∙ ap (option_map (λ r. Some r)) (named reg)

frame_says : (text : List ℕ) (frame : Option Reg) → frame_of text ≡ Some frame → text ≡ frame_text frame
frame_says text frame e = by_test (bytes_eq text (codes "none"))
    (λ t.
    let is : None ≡ frame = same_Some None frame (sym (cond_true (bytes_eq text (codes "none")) (Some None) _ t) ∙ e) in
    (bytes_eq-Decides text (codes "none")).0 t ∙ ap frame_text is)
    (λ t.
    let found = map_says (λ r. Some r) (reg_of text) frame (sym (cond_false (bytes_eq text (codes "none")) (Some None) _ t) ∙ e) in
    word_of text found.0 found.1 ∙ ap frame_text found.2)

pub frame_visible : (frame : Option Reg) → IsFrom 45 (frame_text frame)
frame_visible None = from_test 45 (codes "none") refl
frame_visible (Some reg) = register_visible reg

pub frame_law : WordLaw frame
frame_law = record { law = record { says = λ text f e. (frame_says text f e, tt); some = λ f u. frame_some f }; lacks = λ f u. lack_space (frame_text f) (frame_visible f) }

-- numbers

pub hex_visible : (n : ℕ) → n < 2 ^ 64 → IsFrom 45 (hex_text n)
hex_visible n h = digit_from (hex_text n) (from_hex n h)

pub hex_law : WordLaw hex
hex_law = record {
  law = record { says = λ text n e. let known = spelling_of text n e in (known.1, known.0); some = λ n h. hex_some (hex_text n) n h refl };
  lacks = λ n h. lack_space (hex_text n) (hex_visible n h);
}

pub signed_law : WordLaw signed
signed_law = record {
  law = record { says = λ text z e. let known = signed_says 31 text z e in (known.0, record { sfits = known.1 }); some = λ z h. signed_some 31 z (lit≤ tt) h.sfits };
  lacks = λ z h. lack_space (signed_decimal z) (from_signed z (omega (arith, h.sfits)));
}

-- bytes

-- the bytes, if the text is theirs
abbrev digits_by : List ℕ → List ℕ → Option (List ℕ)
digits_by text bytes = cond (bytes_eq text (digits_text bytes)) (Some bytes) None

no_dash : (b : ℕ) (bytes : List ℕ) → bytes_eq (encode_lower (b ∷ bytes)) (codes "-") ≡ false
no_dash b bytes = by_test (bytes_eq (encode_lower (b ∷ bytes)) (codes "-"))
    (λ t. let same = ap length ((bytes_eq-Decides (encode_lower (b ∷ bytes)) (codes "-")).0 t) in absurd (omega (arith, length-encode_with lower_digits (b ∷ bytes), same)))
    (λ t. t)

digits_some : (bytes : List ℕ) → All (λ b. b < 256) bytes → digits_of (digits_text bytes) ≡ Some bytes
unfolding digits_of
digits_some [] h = refl
digits_some (b ∷ bytes) h =
    let text = encode_lower (b ∷ bytes) in
    cond_false (bytes_eq text (codes "-")) (Some []) (ok_of (decode_of text) >>= digits_by text) (no_dash b bytes)
    ∙ ap (λ r. ok_of r >>= digits_by text) (decode_of-encode_lower (b ∷ bytes) (as_bytes (b ∷ bytes) h))
    ∙ cond_true (bytes_eq text text) (Some (b ∷ bytes)) None ((bytes_eq-Decides text text).1 refl)

ok_says : {A E : Type 0} (r : Result A E) (a : A) → ok_of r ≡ Some a → r ≡ Ok a
ok_says (Ok x) a e = ap (λ y. Ok y) (same_Some x a e)
ok_says (Err x) a e = absurd (cc)

digits_says : (text bytes : List ℕ) → digits_of text ≡ Some bytes → (text ≡ digits_text bytes) × All (λ b. b < 256) bytes
unfolding digits_of
digits_says text bytes e = by_test (bytes_eq text (codes "-"))
    (λ t.
    let is : [] ≡ bytes = same_Some [] bytes (sym (cond_true (bytes_eq text (codes "-")) (Some []) _ t) ∙ e) in
    subst (λ x. (text ≡ digits_text x) × All (λ b. b < 256) x) is ((bytes_eq-Decides text (codes "-")).0 t, All-nil (λ b. b < 256)))
    (λ t.
    let found = bind_says (ok_of (decode_of text)) (digits_by text) bytes (sym (cond_false (bytes_eq text (codes "-")) _ (ok_of (decode_of text) >>= digits_by text) t) ∙ e) in
    let same = cond_some (bytes_eq text (digits_text found.0)) found.0 bytes found.2 in
    let small = decode_of-ok text found.0 (ok_says (decode_of text) found.0 found.1) in
    subst (λ x. (text ≡ digits_text x) × All (λ b. b < 256) x) same.1 ((bytes_eq-Decides text (digits_text found.0)).0 same.0, of_bytes found.0 small.3))

pub digits_visible : (bytes : List ℕ) → All (λ b. b < 256) bytes → IsFrom 45 (digits_text bytes)
digits_visible [] h = from_test 45 (codes "-") refl
digits_visible (b ∷ bytes) h = digit_from (encode_lower (b ∷ bytes)) (from_pairs (b ∷ bytes) h)

pub digits_law : WordLaw digits
digits_law = record { law = record { says = digits_says; some = digits_some }; lacks = λ bytes h. lack_space (digits_text bytes) (digits_visible bytes h) }

-- kinds

pub kind_visible : (kind : PlaceKind) → IsFrom 45 (place_word kind)
kind_visible kind = from_test 45 (place_word kind) (place_word_visible kind)

pub entry_kind_law : WordLaw entry_kind
entry_kind_law = record { law = record { says = entry_kind_says; some = entry_kind_some }; lacks = λ kind h. lack_space (place_word kind) (kind_visible kind) }

pub piece_kind_law : WordLaw piece_kind
piece_kind_law = record { law = record { says = piece_kind_says; some = piece_kind_some }; lacks = λ kind h. lack_space (place_word kind) (kind_visible kind) }

-- zones

zone_some : (z : Zone) → IsZone z → zone_of (zone_text z) ≡ Some z
unfolding zone_of
zone_some z h =
    let lo = from_lacks 48 46 (hex_text z.lo) (lit< tt) (from_hex z.lo h.0) in
    ap (λ p. hex_of p.0 >>= λ lo. zone_behind lo p.1) (cut_front 46 (hex_text z.lo) (46 ∷ hex_text z.hi) lo)
    ∙ ap (λ o. o >>= λ lo. zone_behind lo (Some (46 ∷ hex_text z.hi))) (hex_some (hex_text z.lo) z.lo h.0 refl)
    ∙ ap (option_map (λ hi. record { lo = z.lo; hi = hi })) (hex_some (hex_text z.hi) z.hi h.1 refl)

-- what stands behind the first dot
zone_behind_says : (lo : ℕ) (left : Option (List ℕ)) (z : Zone) → zone_behind lo left ≡ Some z → (lo ≡ z.lo) × (after 46 left ≡ codes ".." ++ hex_text z.hi) × (z.hi < 2 ^ 64)
zone_behind_says lo None z e = absurd (cc)
zone_behind_says lo (Some text) z e = by_test (begins_with 46 text)
    (λ t.
    let found = map_says (λ hi. record { lo = lo; hi = hi }) (hex_of (drop 1 text)) z (sym (cond_true (begins_with 46 text) (option_map (λ hi. record { lo = lo; hi = hi }) (hex_of (drop 1 text))) None t) ∙ e) in
    let known = spelling_of (drop 1 text) found.0 found.1 in
    subst (λ x. (lo ≡ x.lo) × (46 ∷ text ≡ codes ".." ++ hex_text x.hi) × (x.hi < 2 ^ 64)) found.2 (refl, ap (λ l. 46 ∷ l) (begun 46 text t ∙ ap (λ d. 46 ∷ d) known.1), known.0))
    (λ t. let none : None ≡ Some z = sym (cond_false (begins_with 46 text) (option_map (λ hi. record { lo = lo; hi = hi }) (hex_of (drop 1 text))) None t) ∙ e in absurd (cc))

zone_says : (text : List ℕ) (z : Zone) → zone_of text ≡ Some z → (text ≡ zone_text z) × IsZone z
unfolding zone_of
zone_says text z e =
    let p = cut_at 46 text in
    let found = bind_says (hex_of p.0) (λ lo. zone_behind lo p.1) z e in
    let lo = spelling_of p.0 found.0 found.1 in
    let hi = zone_behind_says found.0 p.1 z found.2 in
    (cut_joins 46 text ∙ ap (λ t. t ++ after 46 p.1) (lo.1 ∙ ap hex_text hi.0) ∙ ap (λ t. hex_text z.lo ++ t) hi.1, (subst (λ n. n < 2 ^ 64) hi.0 lo.0, hi.2))

pub zone_visible : (z : Zone) → IsZone z → IsFrom 45 (zone_text z)
zone_visible z h =
    let hi = from_append 45 (codes "..") (hex_text z.hi) (from_test 45 (codes "..") refl) (hex_visible z.hi h.1) in
    from_append 45 (hex_text z.lo) (codes ".." ++ hex_text z.hi) (hex_visible z.lo h.0) hi

pub zone_law : WordLaw zone
zone_law = record { law = record { says = zone_says; some = zone_some }; lacks = λ z h. lack_space (zone_text z) (zone_visible z h) }
