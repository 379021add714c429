-- The leaves of members and the pads after them, as they are written, are spelled.
use Rattle.std.proofs.Common.{◌≡◌, ◌<◌, ℕ, zero, suc, ◌+◌, ◌-◌, ◌*◌, nat_lt, true, false, List, [], ◌∷◌, ◌++◌, length, Some, None, refl, sym, lit<, arith, append-nil}
use Rattle.byteorder.specs.Endian.{little_bytes}
use Rattle.rv_bytes.specs.Writers.{SpellsEverywhere}
use Rattle.cv_parts.specs.Puts.{Puts, pads}
use Rattle.cv_parts.proofs.PutForms.{number_spelled, puts_then, puts_made}
use Rattle.cv_type_records.specs.Leaves.{lf_index, lf_enumerate, lf_member, lf_stmember, lf_nesttype, member_leaf_of}
use Rattle.cv_type_records.specs.Members.{known_leaf, start, after_start, index, enumerate, field, static_member, nest, member}
use Rattle.cv_type_records.specs.declared.kinds.Member.{Member}
use Rattle.cv_type_writer.specs.MemberBytes.{leaf_number, member_fields, plain_bytes}
use Rattle.cv_type_writer.specs.Appended.{fields_form}

-- the two bytes of a leaf that is known
start_spelled : (low high : ℕ) → low < 256 → nat_lt 0xf0 low ≡ false → high < 256 → ((m : ℕ) → (known_leaf (member_leaf_of (low + 256 * high))).spells m (member_leaf_of (low + 256 * high)) [])
    → SpellsEverywhere start (member_leaf_of (low + 256 * high)) (little_bytes 1 low ++ little_bytes 1 high)
start_spelled low high a b h k n = (
  (
    low,
    record {
      front = little_bytes 1 low;
      back = little_bytes 1 high;
      split = refl;
      is_front = number_spelled 1 low a n;
      is_back = rw b (high, record { front = little_bytes 1 high; back = []; split = refl; is_front = number_spelled 1 high h (n + 1); is_back = k (n + 1 + 1) });
    },
  ),
  refl,
)

-- a member is its leaf and its fields
pub member_then : (m : Member) (old mid new : List ℕ) → mid ≡ old ++ little_bytes 2 (leaf_number m) → Puts (fields_form m) m (member_fields m) mid new → Puts member (Some m) (plain_bytes m) old new
unfolding member_leaf_of
member_then (Member.Index zero_field fields) old mid new e p =
    puts_then start after_start (member_leaf_of lf_index) _ _ _ old mid new (record { appended = e; spells = start_spelled 0x04 0x14 (lit< tt) refl (lit< tt) (λ m. (refl, refl)) }) (puts_made (λ m. Some m) index _ _ mid new p)
member_then (Member.Enumerate attributes value name) old mid new e p =
    puts_then start after_start (member_leaf_of lf_enumerate) _ _ _ old mid new (record { appended = e; spells = start_spelled 0x02 0x15 (lit< tt) refl (lit< tt) (λ m. (refl, refl)) }) (puts_made (λ m. Some m) enumerate _ _ mid new p)
member_then (Member.Field attributes ty offset name) old mid new e p =
    puts_then start after_start (member_leaf_of lf_member) _ _ _ old mid new (record { appended = e; spells = start_spelled 0x0d 0x15 (lit< tt) refl (lit< tt) (λ m. (refl, refl)) }) (puts_made (λ m. Some m) field _ _ mid new p)
member_then (Member.Static attributes ty name) old mid new e p =
    puts_then start after_start (member_leaf_of lf_stmember) _ _ _ old mid new (record { appended = e; spells = start_spelled 0x0e 0x15 (lit< tt) refl (lit< tt) (λ m. (refl, refl)) }) (puts_made (λ m. Some m) static_member _ _ mid new p)
member_then (Member.Nest zero_field ty name) old mid new e p =
    puts_then start after_start (member_leaf_of lf_nesttype) _ _ _ old mid new (record { appended = e; spells = start_spelled 0x10 0x15 (lit< tt) refl (lit< tt) (λ m. (refl, refl)) }) (puts_made (λ m. Some m) nest _ _ mid new p)

-- a first byte above f0, and so many bytes as it says
pad_from : (low : ℕ) (more : List ℕ) → low < 256 → nat_lt 0xf0 low ≡ true → length more ≡ low - 0xf0 - 1 → SpellsEverywhere member None (little_bytes 1 low ++ more)
pad_from low more a b e n = (
  None,
  record {
    front = little_bytes 1 low ++ more;
    back = [];
    split = sym (append-nil (little_bytes 1 low ++ more));
    is_front = (
      (
        low,
        record {
          front = little_bytes 1 low;
          back = more;
          split = refl;
          is_front = number_spelled 1 low a n;
          is_back = rw b (more, (refl, (refl, e)));
        },
      ),
      refl,
    );
    is_back = (refl, refl);
  },
)

-- at most three pad bytes are one pad
pub pad_spelled : (k : ℕ) → k < 3 → SpellsEverywhere member None (pads (suc k))
pad_spelled zero h = pad_from 0xf1 [] (lit< tt) refl refl
pad_spelled (suc zero) h = pad_from 0xf2 (0xf1 ∷ []) (lit< tt) refl refl
pad_spelled (suc (suc zero)) h = pad_from 0xf3 (0xf2 ∷ 0xf1 ∷ []) (lit< tt) refl refl
pad_spelled (suc (suc (suc k))) h = absurd (omega (arith, h))
