-- The readers of LEB128 numbers are exact (DWARF 5, 7.6).
use Rattle.std.proofs.Common.{◌≡◌, ◌<◌, ◌≤◌, ℕ, zero, suc, ◌+◌, Bool, true, false, nat_lt, if◌then◌else◌, List, [], ◌∷◌, ◌++◌, length, take, drop, Result, Ok, Err, ◌⊎◌, inl, inr, refl, sym, ap, subst, ◌∙◌, arith, append_assoc, length-append}
use Rattle.std.specs.List.{All}
use Rattle.std.proofs.Math.Seq.{take-append_seam, drop-append_seam}
use Rattle.std.proofs.lemmas.List.Elements.{All-nil, All-cons, All-head, All-tail}
use Rattle.std.proofs.lemmas.Bool.{le-leb, lt-leb, leb-true, leb-false}
use Rattle.rv_bytes.specs.Rules.{short, wide}
use Rattle.rv_bytes.specs.Forms.{Form}
use Rattle.rv_bytes.specs.Readers.{got, bad, with_value}
use Rattle.rv_bytes.specs.Numbers.{AreGroups, AreShort, AreWide, LebFaults, zero_or, low_bits, signed_bits, uleb, sleb}
use Rattle.rv_bytes.specs.NumberReaders.{one_more, groups_in, cut_off, read_groups, read_uleb, read_sleb}
use Rattle.rv_bytes.proofs.Exact.{Right, Exact}

-- the byte goes on
abbrev pub GoesOn : ℕ → Type 0
GoesOn b = 128 ≤ b

-- a byte that goes on isn't below 128
not_below : (b : ℕ) → GoesOn b → nat_lt b 128 ≡ false
not_below b h = lt-leb (suc b) 128 (omega (arith, h))

-- bytes that all go on, and are too few
short_in : (tenth : ℕ → Bool) (g : ℕ) (s : List ℕ) → length s ≤ g → All GoesOn s → groups_in tenth g s ≡ Err short
unfolding groups_in
short_in tenth g [] l h = refl
short_in tenth zero (b ∷ s) l h = absurd (omega arith)
short_in tenth (suc g) (b ∷ s) l h =
    rw (not_below b (All-head GoesOn b s h), short_in tenth g s (omega (arith, l)) (All-tail GoesOn b s h)) refl

-- the last byte that may come goes on, or may not stand there
wide_in : (tenth : ℕ → Bool) (front : List ℕ) (b : ℕ) (back : List ℕ) → All GoesOn front → (128 ≤ b) ⊎ (tenth b ≡ false) → groups_in tenth (length front) (front ++ b ∷ back) ≡ Err wide
unfolding groups_in
wide_in tenth [] b back h (inl g) = rw (not_below b g) refl
wide_in tenth [] b back h (inr g) =
    let value : Result ℕ ℕ = Ok 1 in
    rw g (elim (nat_lt b 128) as (λ z. (if z then (if false then value else Err wide) else Err wide) ≡ Err wide) [ true ↦ refl | false ↦ refl ])
wide_in tenth (a ∷ front) b back h g =
    rw (not_below a (All-head GoesOn a front h), wide_in tenth front b back (All-tail GoesOn a front h) g) refl

-- groups are counted
groups_read : (tenth : ℕ → Bool) (g : ℕ) (front : List ℕ) (last : ℕ) (back : List ℕ) → All GoesOn front → last < 128 → length front ≤ g → (length front ≡ g → tenth last ≡ true)
    → groups_in tenth g (front ++ last ∷ back) ≡ Ok (suc (length front))
unfolding groups_in
groups_read tenth zero [] last back h l f a = rw (le-leb (suc last) 128 l, a refl) refl
groups_read tenth (suc g) [] last back h l f a = rw (le-leb (suc last) 128 l) refl
groups_read tenth zero (b ∷ front) last back h l f a = absurd (omega (arith, f))
groups_read tenth (suc g) (b ∷ front) last back h l f a =
    rw (not_below b (All-head GoesOn b front h), groups_read tenth g front last back (All-tail GoesOn b front h) l (omega (arith, f)) (λ e. a (ap suc e))) refl

-- so many groups stand in front, of at most g and one
record Stand (tenth : ℕ → Bool) (g : ℕ) (s : List ℕ) (count : ℕ) : Type 0 where
  front : List ℕ
  last : ℕ
  back : List ℕ
  bytes : s ≡ front ++ last ∷ back
  counted : count ≡ suc (length front)
  go_on : All GoesOn front
  ends : last < 128
  most : length front ≤ g
  allowed : length front ≡ g → tenth last ≡ true

-- g bytes go on, and the next goes on too, or may not stand there
record TooWide (tenth : ℕ → Bool) (g : ℕ) (s : List ℕ) : Type 0 where
  front : List ℕ
  byte : ℕ
  back : List ℕ
  bytes : s ≡ front ++ byte ∷ back
  all : length front ≡ g
  go_on : All GoesOn front
  wrong : (128 ≤ byte) ⊎ (tenth byte ≡ false)

-- what a count says is so
abbrev CountRight : (ℕ → Bool) → ℕ → List ℕ → Result ℕ ℕ → Type 0
CountRight tenth g s (Ok count) = Stand tenth g s count
CountRight tenth g s (Err r) = ((r ≡ short) × ((length s ≤ g) × All GoesOn s)) ⊎ ((r ≡ wide) × TooWide tenth g s)

count_right : (tenth : ℕ → Bool) (g : ℕ) (s : List ℕ) → CountRight tenth g s (groups_in tenth g s)
unfolding groups_in
count_right tenth g [] = inl (refl, (omega arith, All-nil GoesOn))
count_right tenth zero (b ∷ s) = either (nat_lt b 128) (tenth b) refl refl
  where
    either : (x y : Bool) → nat_lt b 128 ≡ x → tenth b ≡ y → CountRight tenth zero (b ∷ s) (if x then (if y then Ok 1 else Err wide) else Err wide)
    either true true e f = record { front = []; last = b; back = s; bytes = refl; counted = refl; go_on = All-nil GoesOn; ends = leb-true (suc b) 128 e; most = omega arith; allowed = λ _. f }
    either true false e f = inr (refl, record { front = []; byte = b; back = s; bytes = refl; all = refl; go_on = All-nil GoesOn; wrong = inr f })
    either false y e f = inr (refl, record { front = []; byte = b; back = s; bytes = refl; all = refl; go_on = All-nil GoesOn; wrong = inl (omega (arith, leb-false (suc b) 128 e)) })
count_right tenth (suc g) (b ∷ s) = either (nat_lt b 128) refl (groups_in tenth g s) (count_right tenth g s)
  where
    either : (x : Bool) → nat_lt b 128 ≡ x → (y : Result ℕ ℕ) → CountRight tenth g s y → CountRight tenth (suc g) (b ∷ s) (if x then Ok 1 else one_more y)
    either true e y h =
        record { front = []; last = b; back = s; bytes = refl; counted = refl; go_on = All-nil GoesOn; ends = leb-true (suc b) 128 e; most = omega arith; allowed = λ z. absurd (omega (arith, z)) }
    either false e (Ok l) h = let on : GoesOn b = omega (arith, leb-false (suc b) 128 e) in record {
      front = b ∷ h.front;
      last = h.last;
      back = h.back;
      bytes = ap (λ z. b ∷ z) h.bytes;
      counted = ap suc h.counted;
      go_on = All-cons GoesOn b h.front on h.go_on;
      ends = h.ends;
      most = omega (arith, h.most);
      allowed = λ z. h.allowed (omega (arith, z));
    }
    either false e (Err r) (inl h) = inl (h.0, (omega (arith, h.1.0), All-cons GoesOn b s (omega (arith, leb-false (suc b) 128 e)) h.1.1))
    either false e (Err r) (inr h) = let on : GoesOn b = omega (arith, leb-false (suc b) 128 e) in let w = h.1 in
        inr (h.0, record { front = b ∷ w.front; byte = w.byte; back = w.back; bytes = ap (λ z. b ∷ z) w.bytes; all = ap suc w.all; go_on = All-cons GoesOn b w.front on w.go_on; wrong = w.wrong })

-- the bytes that are read are groups
pub groups_are : (tenth : ℕ → Bool) (n : ℕ) (s v : List ℕ) (m : ℕ) (k : List ℕ) → read_groups tenth n s ≡ got v m k → AreGroups tenth v
groups_are tenth n s v m k e = told (groups_in tenth 9 s) (count_right tenth 9 s) e
  where
    told : (x : Result ℕ ℕ) → CountRight tenth 9 s x → cut_off n s x ≡ got v m k → AreGroups tenth v
    told (Ok l) h f =
        let t : List ℕ = h.front ++ h.last ∷ [] in
        let long : l ≡ length t = omega (arith, h.counted, length-append h.front (h.last ∷ [])) in
        let front : take l s ≡ t = rw (long, h.bytes ∙ sym (append_assoc h.front (h.last ∷ []) h.back)) (take-append_seam t h.back) in
        let same : take l s ≡ v = cc in
        record { front = h.front; last = h.last; bytes = sym same ∙ front; go_on = h.go_on; ends = h.ends; at_most_ten = h.most; may_be_tenth = h.allowed }
    told (Err r) h f = absurd (cc)

-- groups, and the value that they have
abbrev leb : {V : Type 0} → (ℕ → Bool) → (List ℕ → V) → Form ℕ V
leb tenth value = record { spells = λ n v t. AreGroups tenth t × (v ≡ value t); faults = LebFaults tenth }

-- a number made of groups, whatever its value is
leb_exact : {V : Type 0} (tenth : ℕ → Bool) (value : List ℕ → V) → Exact (leb tenth value) (λ n s. with_value value (read_groups tenth n s))
leb_exact {V} tenth value = record {
  reads = λ n v t k h. whole n v t k h.0 h.1;
  refuses = λ n s r m h. refuse n s r m h.0 h.1;
  right = λ n s. right n s (groups_in tenth 9 s) (count_right tenth 9 s);
}
  where
    whole : (n : ℕ) (v : V) (t k : List ℕ) → AreGroups tenth t → v ≡ value t → with_value value (read_groups tenth n (t ++ k)) ≡ got v (n + length t) k
    whole n v t k h e =
        let same : t ++ k ≡ h.front ++ h.last ∷ k = ap (λ z. z ++ k) h.bytes ∙ append_assoc h.front (h.last ∷ []) k in
        let long : suc (length h.front) ≡ length t = omega (arith, ap length h.bytes, length-append h.front (h.last ∷ [])) in
        let counted : groups_in tenth 9 (t ++ k) ≡ Ok (length t) = ap (groups_in tenth 9) same ∙ groups_read tenth 9 h.front h.last k h.go_on h.ends h.at_most_ten h.may_be_tenth ∙ ap Ok long in
        ap (λ c. with_value value (cut_off n (t ++ k) c)) counted ∙ rw (take-append_seam t k, drop-append_seam t k) (ap (λ z. got z (n + length t) k) (sym e))

    refuse : (n : ℕ) (s : List ℕ) (r m : ℕ) → m ≡ n → ((r ≡ short) × AreShort s) ⊎ ((r ≡ wide) × AreWide tenth s) → with_value value (read_groups tenth n s) ≡ bad r m
    refuse n s r m e (inl h) = ap (λ c. with_value value (cut_off n s c)) (short_in tenth 9 s (omega (arith, h.1.few)) h.1.go_on) ∙ rw (h.0, e) refl
    refuse n s r m e (inr h) =
        let w = h.1 in
        let found : groups_in tenth 9 s ≡ Err wide = ap (groups_in tenth 9) w.bytes ∙ subst (λ g. groups_in tenth g (w.front ++ w.byte ∷ w.back) ≡ Err wide) w.nine (wide_in tenth w.front w.byte w.back w.go_on w.wrong) in
        ap (λ c. with_value value (cut_off n s c)) found ∙ rw (h.0, e) refl

    right : (n : ℕ) (s : List ℕ) (x : Result ℕ ℕ) → CountRight tenth 9 s x → Right (leb tenth value) n s (with_value value (cut_off n s x))
    right n s (Ok l) h =
        let t : List ℕ = h.front ++ h.last ∷ [] in
        let split : s ≡ t ++ h.back = h.bytes ∙ sym (append_assoc h.front (h.last ∷ []) h.back) in
        let long : l ≡ length t = omega (arith, h.counted, length-append h.front (h.last ∷ [])) in
        let front : take l s ≡ t = rw (long, split) (take-append_seam t h.back) in
        let back : drop l s ≡ h.back = rw (long, split) (drop-append_seam t h.back) in
        let groups : AreGroups tenth t = record { front = h.front; last = h.last; bytes = refl; go_on = h.go_on; ends = h.ends; at_most_ten = h.most; may_be_tenth = h.allowed } in
        (t, ((groups, ap value front), (split ∙ ap (λ z. t ++ z) (sym back), ap (λ j. n + j) long)))
    right n s (Err r) (inl h) = (refl, inl (h.0, record { few = omega (arith, h.1.0); go_on = h.1.1 }))
    right n s (Err r) (inr h) = let w = h.1 in (refl, inr (h.0, record { front = w.front; byte = w.byte; back = w.back; bytes = w.bytes; nine = w.all; go_on = w.go_on; wrong = w.wrong }))

-- an unsigned number
pub uleb_exact : Exact uleb read_uleb
uleb_exact = leb_exact (zero_or 1) low_bits

-- a signed number
pub sleb_exact : Exact sleb read_sleb
sleb_exact = leb_exact (zero_or 127) signed_bits
