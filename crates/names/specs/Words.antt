-- Words. Which bytes make a character is the table of well-formed byte sequences of the Unicode standard, 3.9.
use Rattle.std.specs.Prelude.{◌≡◌, ℕ, zero, suc, ◌≤◌, ◌&&◌, ◌||◌, ◌==◌, nat_le, if◌then◌else◌, Bool, true, false, not, List, [], ◌∷◌}
use Rattle.std.specs.Prelude.{length, Option, Some, None}
use Rattle.names.specs.declared.word.Lead.{Lead}

-- the byte is from low to high, both included
abbrev pub is_between : ℕ → ℕ → ℕ → Bool
is_between low high c = nat_le low c && nat_le c high

-- an ASCII digit
abbrev pub is_digit : ℕ → Bool
is_digit c = is_between 48 57 c

-- an ASCII letter or `_`
abbrev pub is_letter : ℕ → Bool
is_letter c = is_between 65 90 c || (is_between 97 122 c || c == 95)

-- so many bytes, the next of them from low to high
abbrev pub led : ℕ → ℕ → ℕ → Option Lead
led count low high = Some (record { count = count; low = low; high = high })

-- what follows the first byte of a character past ASCII: so many bytes, the next of them from low to high
abbrev pub wide_lead : ℕ → Option Lead
wide_lead c =
    if is_between 194 223 c then led 1 128 191
    else if c == 224 then led 2 160 191
    else if c == 237 then led 2 128 159
    else if is_between 225 239 c then led 2 128 191
    else if c == 240 then led 3 144 191
    else if is_between 241 243 c then led 3 128 191
    else if c == 244 then led 3 128 143
    else None

-- what follows the first byte of a character of a word, whose first character is no digit
abbrev pub lead_of : Bool → ℕ → Option Lead
lead_of first c = if is_letter c || (is_digit c && not first) then led 0 128 191 else wide_lead c

-- there is such a value, and it has P
abbrev pub IsSomeWith : {A : Type 0} → Option A → (A → Type 0) → Type 0
IsSomeWith None P = ⊥
IsSomeWith (Some x) P = P x

-- so many bytes, the next of them from low to high, and then characters of a word; where the first character is still to
-- come, it must come, and is no digit
unfoldable pub AreChars : Bool → ℕ → ℕ → ℕ → List ℕ → Type 0
AreChars first zero low high [] = first ≡ false
AreChars first (suc n) low high [] = ⊥
AreChars first (suc n) low high (c ∷ s) = (is_between low high c ≡ true) × AreChars first n 128 191 s
AreChars first zero low high (c ∷ s) = IsSomeWith (lead_of first c) (λ l. AreChars false l.count l.low l.high s)

-- a letter, `_` or a character past ASCII, and then these and digits; at most 255 bytes of UTF-8
abbrev pub IsWord : List ℕ → Type 0
IsWord w = AreChars true 0 0 0 w × (length w ≤ 255)
