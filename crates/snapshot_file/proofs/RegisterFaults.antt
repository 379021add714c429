-- What the words after `reg` tell of the rules that they break.
use Rattle.std.proofs.Common.{◌≡◌, ◌∙◌, sym, ap, subst, refl, ℕ, ◌*◌, ◌≤◌, ◌^◌, Bool, true, false, cond, List, arith, Option, Some, None, Result, Ok}
use Rattle.std.proofs.lemmas.Option.{same_Some}
use Rattle.readers.specs.Lines.{two}
use Rattle.readers.specs.Hex.{wide_hex_of, is_hex_word, IsHexNumber}
use Rattle.readers.proofs.HexNumbers.{number_decides}
use Rattle.std.proofs.lemmas.Bool.Decides.{not_from_Decides}
use Rattle.readers.proofs.HexWords.{wide_some, wide_spelling_of}
use Rattle.snapshot_file.specs.declared.fault.SnapErr.{SnapErr}
use Rattle.snapshot_file.specs.declared.registers.Reg.{Reg}
use Rattle.snapshot_file.specs.declared.snapshot.Reading.{Reading}
use Rattle.snapshot_file.specs.Registers.{width_of, name_of, reg_of}
use Rattle.snapshot_file.specs.Reading.{◌>>=◌, or_bad, bad, fitting, value_in, value_of_line, is_above, after_register, register_line}
use Rattle.snapshot_file.specs.Faults.{IsNumber, IsUnknown, IsPassed, IsLowest, BreaksRegister, register_count, unfit, misspelled, unknown, passed}
use Rattle.snapshot_file.proofs.Lowest.{Tells, or_bad_tells, cond_tells}
use Rattle.snapshot_file.proofs.ReadLines.{fits_says, fits_holds, fitting_says}
use Rattle.snapshot_file.proofs.RegisterLists.{word_of, named}

-- the number is well spelled: it fits the register, or the register is unknown
abbrev IsWellSpelled : List ℕ → List ℕ → Type 0
IsWellSpelled name word = ((reg : Reg) → name ≡ name_of reg → IsNumber (2 ^ (8 * width_of reg)) word) × (IsUnknown name → IsHexNumber word)

same_pair : (more : List (List ℕ)) (a b : List ℕ × List ℕ) → two more ≡ Some a → two more ≡ Some b → a ≡ b
same_pair more a b e k = same_Some a b (sym e ∙ k)

pub register_low : (regs : List (Option (List ℕ))) (more : List (List ℕ)) (n : ℕ) → BreaksRegister regs more n → 3 ≤ n
register_low regs more n (register_count e r) = omega arith
register_low regs more n (unfit name word reg e is wrong r) = omega arith
register_low regs more n (misspelled name word e un wrong r) = omega arith
register_low regs more n (unknown name word e un r) = omega arith
register_low regs more n (passed name word reg e is p r) = omega arith

next : (regs : List (Option (List ℕ))) (more : List (List ℕ)) (both : List ℕ × List ℕ) (n : ℕ) → two more ≡ Some both → BreaksRegister regs more n → 4 ≤ n
next regs more both n k (register_count e r) = absurd (cc)
next regs more both n k (unfit name word reg e is wrong r) = omega arith
next regs more both n k (misspelled name word e un wrong r) = omega arith
next regs more both n k (unknown name word e un r) = omega arith
next regs more both n k (passed name word reg e is p r) = omega arith

not_unfit : (name word : List ℕ) (both : List ℕ × List ℕ) (reg : Reg) → (name, word) ≡ both → IsWellSpelled both.0 both.1 → name ≡ name_of reg → (IsNumber (2 ^ (8 * width_of reg)) word → ⊥) → ⊥
not_unfit name word both reg e well is wrong =
    let here : IsWellSpelled name word = subst (λ (p : List ℕ × List ℕ). IsWellSpelled p.0 p.1) (sym e) well in
    wrong (here.0 reg is)

not_misspelled : (name word : List ℕ) (both : List ℕ × List ℕ) → (name, word) ≡ both → IsWellSpelled both.0 both.1 → IsUnknown name → (IsHexNumber word → ⊥) → ⊥
not_misspelled name word both e well un wrong =
    let here : IsWellSpelled name word = subst (λ (p : List ℕ × List ℕ). IsWellSpelled p.0 p.1) (sym e) well in
    wrong (here.1 un)

last : (regs : List (Option (List ℕ))) (more : List (List ℕ)) (both : List ℕ × List ℕ) (n : ℕ) → two more ≡ Some both → IsWellSpelled both.0 both.1 → BreaksRegister regs more n → 5 ≤ n
last regs more both n k well (register_count e r) = absurd (cc)
last regs more both n k well (unfit name word reg e is wrong r) = absurd (not_unfit name word both reg (same_pair more (name, word) both e k) well is wrong)
last regs more both n k well (misspelled name word e un wrong r) = absurd (not_misspelled name word both (same_pair more (name, word) both e k) well un wrong)
last regs more both n k well (unknown name word e un r) = omega arith
last regs more both n k well (passed name word reg e is p r) = omega arith

one_register : (reg other : Reg) → name_of reg ≡ name_of other → reg ≡ other
one_register reg other e = same_Some reg other (sym (named reg) ∙ ap reg_of e ∙ named other)

fine : (regs : List (Option (List ℕ))) (more : List (List ℕ)) (both : List ℕ × List ℕ) (reg : Reg) (n : ℕ) → two more ≡ Some both → IsWellSpelled both.0 both.1 → both.0 ≡ name_of reg → (IsPassed regs reg → ⊥) → BreaksRegister regs more n → ⊥
fine regs more both reg n k well known above (register_count e r) = cc
fine regs more both reg n k well known above (unfit name word other e is wrong r) = not_unfit name word both other (same_pair more (name, word) both e k) well is wrong
fine regs more both reg n k well known above (misspelled name word e un wrong r) = not_misspelled name word both (same_pair more (name, word) both e k) well un wrong
fine regs more both reg n k well known above (unknown name word e un r) = un reg (ap (λ (p : List ℕ × List ℕ). p.0) (same_pair more (name, word) both e k) ∙ known)
fine regs more both reg n k well known above (passed name word other e is p r) =
    let name_is : name ≡ both.0 = ap (λ (p : List ℕ × List ℕ). p.0) (same_pair more (name, word) both e k) in
    above (subst (IsPassed regs) (one_register other reg (sym is ∙ name_is ∙ known)) p)

-- a number that fits, and one that does not
no_fit : (reg : Reg) (word : List ℕ) → fitting reg (wide_hex_of word) ≡ None → IsNumber (2 ^ (8 * width_of reg)) word → ⊥
no_fit reg word e is =
    let holds = fits_holds reg is.0 is.1.0 in
    let some : fitting reg (wide_hex_of word) ≡ Some is.0 = ap (fitting reg) (wide_some word is.0 holds.0 is.1.1) ∙ ap (λ b. cond b (Some is.0) None) holds.1 in
    cc

fit : (reg : Reg) (word : List ℕ) (n : ℕ) → fitting reg (wide_hex_of word) ≡ Some n → IsNumber (2 ^ (8 * width_of reg)) word
fit reg word n e =
    let known = fitting_says reg (wide_hex_of word) n e in
    let number = wide_spelling_of word n known.0 in
    (n, (fits_says reg n number.0 known.1, number.1))

unknown_name : (name : List ℕ) → reg_of name ≡ None → IsUnknown name
unknown_name name e reg is = let some = ap reg_of is ∙ named reg in cc

well_known : (name word : List ℕ) (reg : Reg) (n : ℕ) → reg_of name ≡ Some reg → fitting reg (wide_hex_of word) ≡ Some n → IsWellSpelled name word
well_known name word reg n e f =
    let is = word_of name reg e in
    (λ other k. subst (λ r. IsNumber (2 ^ (8 * width_of r)) word) (one_register reg other (sym is ∙ k)) (fit reg word n f), λ un. absurd (un reg is))

well_unknown : (name word : List ℕ) → reg_of name ≡ None → is_hex_word word ≡ true → IsWellSpelled name word
well_unknown name word e t = (λ reg is. absurd (unknown_name name e reg is), λ un. (number_decides word).0 t)

module _ (B : ℕ → Type 0) (O : Type 0) (line : ℕ) where
  beside_unknown : {Y : Type 0} (b : Bool) (f : Reg × ℕ → Result Y SnapErr) → (b ≡ true → IsLowest B 5) → (b ≡ false → IsLowest B 4) → Tells B O line (cond b (bad line 5) (bad line 4) >>= f)
  beside_unknown true f h k = (refl, h refl)
  beside_unknown false f h k = (refl, k refl)

  beside_known : {Y : Type 0} (reg : Reg) (o : Option ℕ) (f : Reg × ℕ → Result Y SnapErr) → (o ≡ None → IsLowest B 4) → ((n : ℕ) → o ≡ Some n → Tells B O line (f (reg, n))) → Tells B O line ((or_bad line 4 o >>= λ n. Ok (reg, n)) >>= f)
  beside_known reg None f h k = (refl, h refl)
  beside_known reg (Some n) f h k = k n refl

  value_tells : {Y : Type 0} (found : Option Reg) (word : List ℕ) (f : Reg × ℕ → Result Y SnapErr) → (found ≡ None → is_hex_word word ≡ true → IsLowest B 5) → (found ≡ None → is_hex_word word ≡ false → IsLowest B 4)
      → ((reg : Reg) → found ≡ Some reg → fitting reg (wide_hex_of word) ≡ None → IsLowest B 4) → ((reg : Reg) (n : ℕ) → found ≡ Some reg → fitting reg (wide_hex_of word) ≡ Some n → Tells B O line (f (reg, n)))
      → Tells B O line (value_in line found word >>= f)
  value_tells None word f five four none some = beside_unknown (is_hex_word word) f (five refl) (four refl)
  value_tells (Some reg) word f five four none some = beside_known reg (fitting reg (wide_hex_of word)) f (none reg refl) (λ n. some reg n refl)

pub register_tells : (O : Type 0) (r : Reading) (regs : List (Option (List ℕ))) (more : List (List ℕ)) → ((reg : Reg) → is_above r.stage reg ≡ true → IsPassed regs reg → ⊥) → ((reg : Reg) → is_above r.stage reg ≡ false → IsPassed regs reg)
    → Tells (BreaksRegister regs more) O r.line (register_line r more)
register_tells O r regs more above not_above =
    let B = BreaksRegister regs more in
    or_bad_tells B O r.line 3 (two more) (λ both. value_of_line r.line both.0 both.1 >>= λ value. cond (is_above r.stage value.0) (Ok (after_register r value.0 value.1)) (bad r.line 5))
    (λ e. (register_count e refl, register_low regs more))
    (λ both e. value_tells B O r.line (reg_of both.0) both.1 (λ value. cond (is_above r.stage value.0) (Ok (after_register r value.0 value.1)) (bad r.line 5))
    (λ none t. (unknown both.0 both.1 e (unknown_name both.0 none) refl, λ n b. last regs more both n e (well_unknown both.0 both.1 none t) b))
    (λ none t. (misspelled both.0 both.1 e (unknown_name both.0 none) (not_from_Decides (is_hex_word both.1) (number_decides both.1) t) refl, λ n b. next regs more both n e b))
    (λ reg some none. (unfit both.0 both.1 reg e (word_of both.0 reg some) (no_fit reg both.1 none) refl, λ n b. next regs more both n e b))
    (λ reg k some fits. cond_tells B O r.line (is_above r.stage reg) (Ok (after_register r reg k)) (bad r.line 5)
    (λ t n b. fine regs more both reg n e (well_known both.0 both.1 reg k some fits) (word_of both.0 reg some) (above reg t) b)
    (λ f. (refl, (passed both.0 both.1 reg e (word_of both.0 reg some) (not_above reg f) refl, λ n b. last regs more both n e (well_known both.0 both.1 reg k some fits) b)))))
