-- The reader of a text up to a zero byte is exact.
use Rattle.std.proofs.Common.{◌≡◌, ◌≢◌, ℕ, suc, ◌+◌, ◌==◌, Bool, true, false, nat_lt, List, [], ◌∷◌, ◌++◌, length, take, drop, get_or, Option, Some, None, ◌⊎◌, inl, inr, refl, sym, ap, subst, ◌∙◌, arith, append_assoc, length-append}
use Rattle.std.specs.List.{position_or_len}
use Rattle.std.proofs.lemmas.List.Sums.{position_or_len_is}
use Rattle.memchr.specs.Find.{IsFirstByte, is_byte}
use Rattle.std.proofs.Math.Seq.{take-append_seam, drop-append_seam}
use Rattle.std.proofs.lemmas.List.Elements.{All-nil, All-cons, All-head, All-tail}
use Rattle.std.proofs.lemmas.Bool.{le-leb, lt-leb, ne_eqb, eqb-true, eqb-false}
use Rattle.rv_bytes.specs.Readers.{got}
use Rattle.rv_bytes.specs.Places.{Place}
use Rattle.rv_bytes.specs.Reads.{Takes}
use Rattle.rv_bytes.specs.Numbers.{LacksZero, zero_text}
use Rattle.rv_bytes.specs.NumberReaders.{read_bytes, first_zero, text_to, read_zero_text}
use Rattle.rv_bytes.proofs.Exact.{Right, Exact}
use Rattle.rv_bytes.proofs.ByteNumbers.{bytes_exact}

-- the byte is none that ends a text
abbrev IsNoEnd : ℕ → Type 0
IsNoEnd b = b ≢ 0

-- how many bytes stand before the first zero, or all
abbrev before_zero : List ℕ → ℕ
before_zero s = position_or_len (λ b. b == 0) s

-- a byte that is no zero is one more
one_before : (b : ℕ) (s : List ℕ) (e : (b == 0) ≡ false) → before_zero (b ∷ s) ≡ suc (before_zero s)
one_before b s e = rw e (omega arith)

-- a zero after bytes that are none
zero_behind : (v k : List ℕ) → LacksZero v → before_zero (v ++ 0 ∷ k) ≡ length v
zero_behind [] k h = refl
zero_behind (b ∷ v) k h = one_before b (v ++ 0 ∷ k) (ne_eqb b 0 (All-head IsNoEnd b v h)) ∙ ap suc (zero_behind v k (All-tail IsNoEnd b v h))

-- no zero at all
zero_nowhere : (s : List ℕ) → LacksZero s → before_zero s ≡ length s
zero_nowhere [] h = refl
zero_nowhere (b ∷ s) h = one_before b s (ne_eqb b 0 (All-head IsNoEnd b s h)) ∙ ap suc (zero_nowhere s (All-tail IsNoEnd b s h))

-- the bytes up to the first zero, and what follows it
record ZeroAfter (s : List ℕ) : Type 0 where
  text : List ℕ
  back : List ℕ
  bytes : s ≡ text ++ 0 ∷ back
  lacks : LacksZero text

-- there is a zero, or there is none
either_zero : (s : List ℕ) → ZeroAfter s ⊎ LacksZero s
either_zero [] = inr (All-nil IsNoEnd)
either_zero (b ∷ s) = each_way (b == 0) refl (either_zero s)
  where
    each_way : (x : Bool) → (b == 0) ≡ x → ZeroAfter s ⊎ LacksZero s → ZeroAfter (b ∷ s) ⊎ LacksZero (b ∷ s)
    each_way true e h = inl (record { text = []; back = s; bytes = ap (λ a. a ∷ s) (eqb-true b 0 e); lacks = All-nil IsNoEnd })
    each_way false e (inl h) = inl (record { text = b ∷ h.text; back = h.back; bytes = ap (λ z. b ∷ z) h.bytes; lacks = All-cons IsNoEnd b h.text (eqb-false b 0 e) h.lacks })
    each_way false e (inr h) = inr (All-cons IsNoEnd b s (eqb-false b 0 e) h)

-- the first zero, after bytes that are none
found : (v k : List ℕ) → LacksZero v → first_zero (v ++ 0 ∷ k) ≡ Some (length v)
found v k h =
    let at : before_zero (v ++ 0 ∷ k) ≡ length v = zero_behind v k h in
    let within : nat_lt (length v) (length (v ++ 0 ∷ k)) ≡ true = le-leb (suc (length v)) (length (v ++ 0 ∷ k)) (omega (arith, length-append v (0 ∷ k))) in
    rw (at, within) refl

missing : (s : List ℕ) → LacksZero s → first_zero s ≡ None
missing s h = rw (zero_nowhere s h, lt-leb (suc (length s)) (length s) (omega arith)) refl

-- what is read where a zero follows
text_read : (n : ℕ) (v k : List ℕ) → LacksZero v → read_zero_text n (v ++ 0 ∷ k) ≡ got v (n + suc (length v)) k
text_read n v k h =
    let long : suc (length v) ≡ length (v ++ 0 ∷ []) = omega (arith, length-append v (0 ∷ [])) in
    let back : drop (suc (length v)) (v ++ 0 ∷ k) ≡ k =
    ap (drop (suc (length v))) (sym (append_assoc v (0 ∷ []) k))
    ∙ ap (λ j. drop j ((v ++ 0 ∷ []) ++ k)) long ∙ drop-append_seam (v ++ 0 ∷ []) k in
    ap (text_to n (v ++ 0 ∷ k)) (found v k h) ∙ rw (take-append_seam v (0 ∷ k), back) refl

-- the bytes before a zero byte
pub zero_text_exact : Exact zero_text read_zero_text
zero_text_exact = record {
  reads = λ n v t k h. whole n v t k h.0 h.1;
  refuses = λ n s r m h. ap (text_to n s) (missing s h.0) ∙ rw (h.1.0, h.1.1) refl;
  right = λ n s. right n s (either_zero s);
}
  where
    whole : (n : ℕ) (v t k : List ℕ) → t ≡ v ++ 0 ∷ [] → LacksZero v → read_zero_text n (t ++ k) ≡ got v (n + length t) k
    whole n v t k e h =
        ap (λ z. read_zero_text n (z ++ k)) e ∙ ap (read_zero_text n) (append_assoc v (0 ∷ []) k) ∙ text_read n v k h
        ∙ ap (λ j. got v j k) (omega (arith, ap length e, length-append v (0 ∷ [])))

    right : (n : ℕ) (s : List ℕ) → ZeroAfter s ⊎ LacksZero s → Right zero_text n s (read_zero_text n s)
    right n s (inl h) =
        let is : read_zero_text n s ≡ got h.text (n + suc (length h.text)) h.back = ap (read_zero_text n) h.bytes ∙ text_read n h.text h.back h.lacks in
        subst (Right zero_text n s) (sym is)
        (h.text ++ 0 ∷ [], ((refl, h.lacks), (h.bytes ∙ sym (append_assoc h.text (0 ∷ []) h.back), omega (arith, length-append h.text (0 ∷ [])))))
    right n s (inr h) = subst (Right zero_text n s) (sym (ap (text_to n s) (missing s h))) (h, (refl, refl))

-- where no zero is found there is none
pub lacks_where : (s : List ℕ) → first_zero s ≡ None → LacksZero s
lacks_where s e = told (either_zero s)
  where
    told : ZeroAfter s ⊎ LacksZero s → LacksZero s
    told (inl h) = let some : first_zero s ≡ Some (length h.text) = ap first_zero h.bytes ∙ found h.text h.back h.lacks in absurd (cc)
    told (inr h) = h

-- the bytes before the zero that is found are read
pub text_taken : (old new : Place) (i : ℕ) (b : List ℕ) → first_zero old.rest ≡ Some i → read_bytes (i + 1) old.at old.rest ≡ got b new.at new.rest → Takes zero_text old new (take i b)
text_taken old new i b e h = told (either_zero old.rest)
  where
    told : ZeroAfter old.rest ⊎ LacksZero old.rest → Takes zero_text old new (take i b)
    told (inl z) =
        let at : first_zero old.rest ≡ Some (length z.text) = ap first_zero z.bytes ∙ found z.text z.back z.lacks in
        let same : i ≡ length z.text = cc in
        let text : List ℕ = z.text ++ 0 ∷ [] in
        let split : old.rest ≡ text ++ z.back = z.bytes ∙ sym (append_assoc z.text (0 ∷ []) z.back) in
        let long : i + 1 ≡ length text = omega (arith, same, length-append z.text (0 ∷ [])) in
        let reads : read_bytes (i + 1) old.at old.rest ≡ got text (old.at + length text) z.back = ap (read_bytes (i + 1) old.at) split ∙ (bytes_exact (i + 1)).reads old.at text text z.back (refl, sym long) in
        let value : b ≡ text = cc in let past : new.at ≡ old.at + length text = cc in let rest : new.rest ≡ z.back = cc in
        let front : take i b ≡ z.text = rw (value, same) (take-append_seam z.text (0 ∷ [])) in
        record { spelling = text; spells = (ap (λ v. v ++ 0 ∷ []) (sym front), subst LacksZero (sym front) z.lacks); bytes = split ∙ ap (λ k. text ++ k) (sym rest); past = past }
    told (inr l) = let none : first_zero old.rest ≡ None = missing old.rest l in absurd (cc)

not_zero : (b : Bool) → (b ≡ true → ⊥) → b ≡ false
not_zero true h = absurd (h refl)
not_zero false h = refl

below_itself : (n : ℕ) → nat_lt n n ≡ false
below_itself n = lt-leb (suc n) n (omega arith)

-- the first byte that is zero, by a search
pub first_is : (s : List ℕ) (r : Option ℕ) → IsFirstByte (is_byte 0) s r → r ≡ first_zero s
first_is s None h =
    let at : before_zero s ≡ length s = position_or_len_is (λ b. b == 0) s (length s) 0 (omega arith) (λ k l. not_zero (get_or s k 0 == 0) (h k (omega arith) l)) (λ l. absurd (omega arith)) in
    rw (at, below_itself (length s)) refl
first_is s (Some k) h =
    let at : before_zero s ≡ k = position_or_len_is (λ b. b == 0) s k 0 (omega (arith, h.0.high)) (λ j l. not_zero (get_or s j 0 == 0) (h.0.before j (omega arith) l)) (λ l. h.1) in
    rw (at, le-leb (suc k) (length s) h.0.high) refl
