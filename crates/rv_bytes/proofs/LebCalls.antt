-- What the calls that read LEB128 numbers take and refuse, by the groups that they read.
use Rattle.std.proofs.Common.{◌≡◌, ◌<◌, ◌+◌, ◌∙◌, ℕ, ℤ, Bool, List, [], ◌∷◌, drop, Ok, Err, sym, ap, subst, refl, arith}
use Rattle.std.proofs.lemmas.Bool.{lt-ltb}
use Rattle.std.proofs.Math.Nat.{mod-eq_of_lt}
use Rattle.rv_bytes.specs.Places.{Place}
use Rattle.rv_bytes.specs.Readers.{got, bad, with_value}
use Rattle.rv_bytes.specs.Reads.{Takes, IsRefused, rule_of, place_of}
use Rattle.rv_bytes.specs.Numbers.{IsLowByte, zero_or, low_bits, signed_bits, uleb, sleb}
use Rattle.rv_bytes.specs.NumberReaders.{groups_in, read_groups, read_uleb, read_sleb}
use Rattle.rv_bytes.specs.declared.err.CutErr.{CutErr}
use Rattle.rv_bytes.proofs.Calls.{taken, refused}
use Rattle.rv_bytes.proofs.Lebs.{uleb_exact, sleb_exact}

-- an unsigned number is taken
pub uleb_taken : (old new : Place) (x : ℕ) (v : List ℕ) → x ≡ low_bits v → read_groups (zero_or 1) old.at old.rest ≡ got v new.at new.rest → Takes uleb old new x
uleb_taken old new x v e h =
    subst (Takes uleb old new) (sym e) (taken uleb read_uleb uleb_exact (λ y. y) old new (Ok (low_bits v)) (ap (with_value low_bits) h))

-- or refused
pub uleb_refused : (old : Place) (e : CutErr) → read_groups (zero_or 1) old.at old.rest ≡ bad (rule_of e) (place_of e) → IsRefused uleb old e
uleb_refused old e h = refused uleb read_uleb uleb_exact (λ y. y) old old (Err e) (ap (with_value low_bits) h)

-- a signed number is taken
pub sleb_taken : (old new : Place) (x : ℤ) (v : List ℕ) → x ≡ signed_bits v → read_groups (zero_or 127) old.at old.rest ≡ got v new.at new.rest → Takes sleb old new x
sleb_taken old new x v e h =
    subst (Takes sleb old new) (sym e) (taken sleb read_sleb sleb_exact (λ y. y) old new (Ok (signed_bits v)) (ap (with_value signed_bits) h))

-- or refused
pub sleb_refused : (old : Place) (e : CutErr) → read_groups (zero_or 127) old.at old.rest ≡ bad (rule_of e) (place_of e) → IsRefused sleb old e
sleb_refused old e h = refused sleb read_sleb sleb_exact (λ y. y) old old (Err e) (ap (with_value signed_bits) h)

-- a byte below 128 is the only group
low_group : (tenth : ℕ → Bool) (n b : ℕ) (k : List ℕ) → b < 128 → read_groups tenth n (b ∷ k) ≡ got (b ∷ []) (n + 1) k
unfolding groups_in
low_group tenth n b k l = rw (lt-ltb b 128 l) refl

-- and the number itself
pub low_is : (b : ℕ) → b < 128 → low_bits (b ∷ []) ≡ b
low_is b l = omega (arith, mod-eq_of_lt l)

-- an unsigned number of one byte is read
pub low_uleb_read : (old new : Place) (b x : ℕ) → IsLowByte old.rest b → x ≡ b → new ≡ record { at = old.at + 1; rest = drop 1 old.rest } → read_uleb old.at old.rest ≡ got x new.at new.rest
low_uleb_read old new b x h e w =
    ap (λ z. read_uleb old.at z) h.1
    ∙ ap (with_value low_bits) (low_group (zero_or 1) old.at b (drop 1 old.rest) h.0)
    ∙ ap (λ y. got y (old.at + 1) (drop 1 old.rest)) (low_is b h.0 ∙ sym e)
    ∙ ap (λ (p : Place). got x p.at p.rest) (sym w)

-- and taken
pub low_uleb_taken : (old new : Place) (b x : ℕ) → IsLowByte old.rest b → x ≡ b → new ≡ record { at = old.at + 1; rest = drop 1 old.rest } → Takes uleb old new x
low_uleb_taken old new b x h e w = taken uleb read_uleb uleb_exact (λ y. y) old new (Ok x) (low_uleb_read old new b x h e w)

-- a signed number of one byte is read
pub low_sleb_read : (old new : Place) (b : ℕ) (x : ℤ) → IsLowByte old.rest b → x ≡ signed_bits (b ∷ []) → new ≡ record { at = old.at + 1; rest = drop 1 old.rest } → read_sleb old.at old.rest ≡ got x new.at new.rest
low_sleb_read old new b x h e w =
    ap (λ z. read_sleb old.at z) h.1
    ∙ ap (with_value signed_bits) (low_group (zero_or 127) old.at b (drop 1 old.rest) h.0)
    ∙ ap (λ y. got y (old.at + 1) (drop 1 old.rest)) (sym e)
    ∙ ap (λ (p : Place). got x p.at p.rest) (sym w)

-- and taken
pub low_sleb_taken : (old new : Place) (b : ℕ) (x : ℤ) → IsLowByte old.rest b → x ≡ signed_bits (b ∷ []) → new ≡ record { at = old.at + 1; rest = drop 1 old.rest } → Takes sleb old new x
low_sleb_taken old new b x h e w = taken sleb read_sleb sleb_exact (λ y. y) old new (Ok x) (low_sleb_read old new b x h e w)
