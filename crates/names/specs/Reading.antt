-- Readers of texts: what one reads from the front of some bytes, and of which texts. Only the proofs of reading cite them.
use Rattle.std.specs.Prelude.{◌≡◌, ◌≢◌, ℕ, zero, suc, ◌-◌, ◌==◌, ◌&&◌, ◌⊎◌, if◌then◌else◌, Bool, true, false, List, [], ◌∷◌, ◌++◌, length}
use Rattle.std.specs.Prelude.{nat_lt, nat_le, ◌*◌, ◌+◌, ◌≤◌, Option, Some, None}
use Rattle.std.specs.Fmt.{decimal}
use Rattle.names.specs.Joined.{IsJoined}
use Rattle.names.specs.Words.{is_between, is_digit, lead_of, IsWord}

-- what was read and what is left, or what is left where the text stops being one
pub data Res (A : Type 0) : Type 0 where
  got : A → List ℕ → Res A
  bad : List ℕ → Res A

-- what was read, and then what is read from what is left
abbrev pub and_then : {A B : Type 0} → Res A → (A → List ℕ → Res B) → Res B
and_then (got v k) f = f v k
and_then (bad e) f = bad e

-- this byte is next
abbrev pub begins : ℕ → List ℕ → Bool
begins b [] = false
begins b (c ∷ s) = c == b

-- what is left after the next byte
abbrev pub tail : List ℕ → List ℕ
tail [] = []
tail (c ∷ s) = s

-- how a value is read, and which texts it has
pub record Reader (A : Type 0) : Type 1 where
  pub read : List ℕ → Res A
  pub Spells : A → List ℕ → Type 0

-- reads nothing, and answers the value
abbrev pub give : {A : Type 0} → A → Reader A
give v = record { read = λ s. got v s; Spells = λ w t. (w ≡ v) × (t ≡ []) }

-- reads nothing, and refuses
abbrev pub never : {A : Type 0} → Reader A
never = record { read = λ s. bad s; Spells = λ w t. ⊥ }

-- one text, and after it another
abbrev pub bind : {A B : Type 0} → Reader A → (A → Reader B) → Reader B
bind {A} R f = record {
  read = λ s. and_then (R.read s) (λ a k. (f a).read k);
  Spells = λ w t. (a : A) × ((p : List ℕ) × ((q : List ℕ) × (R.Spells a p × ((f a).Spells w q × (t ≡ p ++ q)))));
}

-- after this byte the one, and else the other; the flag says whether the byte may stand here
abbrev pub on : {A : Type 0} → Bool → ℕ → Reader A → Reader A → Reader A
on flag b R R' = record {
  read = λ s. if flag && begins b s then R.read (tail s) else R'.read s;
  Spells = λ w t. ((flag ≡ true) × ((q : List ℕ) × (R.Spells w q × (t ≡ b ∷ q)))) ⊎ R'.Spells w t;
}

-- the one where the test holds, and else the other
abbrev pub where_first : {A : Type 0} → (List ℕ → Bool) → Reader A → Reader A → Reader A
where_first test R R' = record {
  read = λ s. if test s then R.read s else R'.read s;
  Spells = λ w t. R.Spells w t ⊎ R'.Spells w t;
}

-- just these bytes
abbrev pub literal : List ℕ → Reader (Unit {0})
literal [] = give tt
literal (b ∷ bs) = on true b (literal bs) never

-- items with a separator between each two: one, and then at most so many more
unfoldable pub up_to : {A : Type 0} → Reader A → ℕ → List ℕ → ℕ → Reader (List A)
up_to item b bs zero = bind item (λ v. give (v ∷ []))
up_to item b bs (suc n) =
    bind item (λ v. on true b (bind (literal bs) (λ _. bind (up_to item b bs n) (λ vs. give (v ∷ vs)))) (give (v ∷ [])))

-- one item or more, with the separator `b ∷ bs` between each two
abbrev pub many : {A : Type 0} → Reader A → ℕ → List ℕ → Reader (List A)
many item b bs = record {
  read = λ s. (up_to item b bs (length s)).read s;
  Spells = λ vs t. (vs ≢ []) × IsJoined item.Spells (b ∷ bs) vs t;
}

-- with these items before
abbrev pub prepend : {A : Type 0} → List A → Res (List A) → Res (List A)
prepend vs (got ws k) = got (vs ++ ws) k
prepend vs (bad k) = bad k

-- what there is, or else
abbrev pub if_some : {A B : Type 0} → Option A → (A → B) → B → B
if_some None f d = d
if_some (Some x) f d = f x

-- with this byte before what was read
abbrev pub cons : ℕ → Res (List ℕ) → Res (List ℕ)
cons c r = and_then r (λ w k. got (c ∷ w) k)

-- what stands where no further character is
abbrev pub no_char : Bool → List ℕ → Res (List ℕ)
no_char first s = if first then bad s else got [] s

-- characters of a word, of so many bytes at most, where n bytes of a character are still to come
unfoldable pub chars : Bool → ℕ → ℕ → ℕ → ℕ → List ℕ → Res (List ℕ)
chars first room zero low high [] = no_char first []
chars first room (suc n) low high [] = bad []
chars first room zero low high (c ∷ s) =
    if_some (lead_of first c)
    (λ l. if nat_lt l.count room then cons c (chars false (room - suc l.count) l.count l.low l.high s)
    else no_char first (c ∷ s))
    (no_char first (c ∷ s))
chars first room (suc n) low high (c ∷ s) =
    if is_between low high c then cons c (chars first room n 128 191 s) else bad (c ∷ s)

-- a word, as far as it goes
abbrev pub word : Reader (List ℕ)
word = record { read = λ s. chars true 255 0 0 0 s; Spells = λ w t. IsWord w × (t ≡ w) }

-- n, and the digits that still fit
unfoldable pub digits_after : ℕ → ℕ → List ℕ → Res ℕ
digits_after most n [] = got n []
digits_after most n (c ∷ s) =
    if is_digit c && nat_le (n * 10 + (c - 48)) most then digits_after most (n * 10 + (c - 48)) s else got n (c ∷ s)

-- the decimal at the front, as far as it goes and fits; the flag says whether it may be 0
unfoldable pub number_at : Bool → ℕ → List ℕ → Res ℕ
number_at zeroed most [] = bad []
number_at zeroed most (c ∷ s) =
    if is_digit c
    then (if c == 48 then (if zeroed then got 0 s else bad (c ∷ s)) else digits_after most (c - 48) s)
    else bad (c ∷ s)

-- a decimal without needless zeros, up to a greatest one; the flag says whether it may be 0
abbrev pub number : Bool → ℕ → Reader ℕ
number zeroed most =
    record {
      read = number_at zeroed most;
      Spells = λ n t. (n ≤ most) × ((zeroed ≡ false → n ≢ 0) × (t ≡ decimal n));
    }

-- by the flag the one or the other
abbrev pub either : {A : Type 0} → Bool → Reader A → Reader A → Reader A
either flag R R' = record {
  read = λ s. if flag then R.read s else R'.read s;
  Spells = λ v t. ((flag ≡ true) × R.Spells v t) ⊎ ((flag ≡ false) × R'.Spells v t);
}

-- a word may begin here
abbrev pub starts_word : List ℕ → Bool
starts_word [] = false
starts_word (c ∷ s) = if_some (lead_of true c) (λ l. true) false

-- a digit is next
abbrev pub starts_digit : List ℕ → Bool
starts_digit [] = false
starts_digit (c ∷ s) = is_digit c
