-- Members that were appended one after the other, each with its pad.
use Rattle.std.proofs.Common.{◌≡◌, ◌<◌, ◌≤◌, ℕ, zero, suc, ◌+◌, ◌-◌, ◌%◌, List, [], ◌∷◌, ◌++◌, length, get_or, take, Some, None, refl, sym, ap, subst, ◌∙◌, arith, append_assoc, add-zero, length-append}
use Rattle.std.proofs.lemmas.List.{take_all}
use Rattle.byteorder.specs.Endian.{little_bytes}
use Rattle.byteorder.specs.Numbers.{length-bytes_low_first}
use Rattle.rv_bytes.specs.Forms.{Form, made}
use Rattle.cv_parts.specs.Puts.{Puts, pads, pad_size}
use Rattle.cv_parts.specs.Series.{to_end}
use Rattle.cv_record_writer.specs.Contents.{all_bytes}
use Rattle.cv_record_writer.proofs.Lists.{AllSpelled, Written, written_more}
use Rattle.cv_type_records.specs.Members.{member, kept}
use Rattle.cv_type_records.specs.declared.kinds.Member.{Member}
use Rattle.cv_type_writer.specs.MemberBytes.{leaf_number, member_fields, plain_bytes, member_bytes}
use Rattle.cv_type_writer.specs.Appended.{fields_form, PutsMember, PutsMembers}
use Rattle.cv_type_writer.proofs.PadSizes.{pads_long}
use Rattle.cv_type_writer.proofs.ToEnd.{end_next}
use Rattle.cv_type_writer.proofs.MemberForms.{member_then, pad_spelled}

-- a member with its pad, before which it is that member
abbrev pub padded_member : Form ℕ Member
padded_member = record { spells = λ n m t. (t ≡ member_bytes m) × member.spells n (Some m) (plain_bytes m); faults = λ n s r k. ⊥ }

-- a member that was appended, and the pad that its own length asks for
pub member_puts : (m : Member) (number size : ℕ) (old one two new : List ℕ) → number ≡ leaf_number m → one ≡ old ++ little_bytes 2 number → Puts (fields_form m) m (member_fields m) one two → size ≡ length two - length old
    → new ≡ two ++ pads (pad_size size) → PutsMember m old new
member_puts m number size old one two new l e p s f =
    let q = member_then m old one two (e ∙ ap (λ z. old ++ little_bytes 2 z) l) p in
    let long : size ≡ length (plain_bytes m) = omega (arith, s, ap length q.appended, length-append old (plain_bytes m)) in
    record {
      appended = f ∙ ap (λ z. two ++ pads (pad_size z)) long ∙ ap (λ z. z ++ pads (pad_size (length (plain_bytes m)))) q.appended ∙ append_assoc old (plain_bytes m) (pads (pad_size (length (plain_bytes m))));
      spells = q.spells;
    }

-- members to the end of the bytes, whose pads aren't kept
abbrev Kept : ℕ → List Member → List ℕ → Type 0
Kept n ms t = (made kept (to_end (λ _. member) (length t))).spells n ms t

-- a pad before them, or none
pad_next : (k n : ℕ) (ms : List Member) (t : List ℕ) → k < 4 → Kept (n + k) ms t → Kept n ms (pads k ++ t)
pad_next zero n ms t l h = subst (λ z. Kept z ms t) (add-zero n) h
pad_next (suc k) n ms t l h =
    let j : k < 3 = omega (arith, l) in
    let long : length (pads (suc k)) ≡ suc k = pads_long (suc k) in
    (None ∷ h.0, (h.1.0, end_next member n None h.0 (pads (suc k)) t (pad_spelled k j n) (omega (arith, long)) (subst (λ z. (to_end (λ _. member) (length t)).spells z h.0 t) (let e : n + suc k ≡ n + length (pads (suc k)) = omega (arith, long) in e) h.1.1)))

-- a leaf has bytes
plain_some : (m : Member) → 0 < length (plain_bytes m)
plain_some m = omega (arith, length-append (little_bytes 2 (leaf_number m)) (member_fields m), length-bytes_low_first 0 2 (leaf_number m))

members_kept : (ms : List Member) → AllSpelled padded_member member_bytes ms → (n : ℕ) → Kept n ms (all_bytes member_bytes ms)
members_kept [] h n = ([], (refl, ([], (refl, (refl, refl)))))
members_kept (m ∷ ms) h n =
    let plain = plain_bytes m in
    let k = pad_size (length plain) in
    let few : k < 4 = omega arith in
    let rest = all_bytes member_bytes ms in
    let more : Kept (n + length plain) ms (pads k ++ rest) = pad_next k (n + length plain) ms rest few (members_kept ms h.1 (n + length plain + k)) in
    subst (Kept n (m ∷ ms)) (sym (append_assoc plain (pads k) rest))
    (Some m ∷ more.0, (ap (λ z. m ∷ z) more.1.0, end_next member n (Some m) more.0 plain (pads k ++ rest) (h.0 n).1 (plain_some m) more.1.1))

-- one member more
pub members_more : (ms : List Member) (i : ℕ) (m : Member) (old mid new : List ℕ) → i < length ms → m ≡ get_or ms i m → Written padded_member member_bytes (take i ms) old mid → PutsMember m mid new → Written padded_member member_bytes (take (i + 1) ms) old new
members_more ms i m old mid new l e w p = written_more padded_member member_bytes ms i m old mid new l w (subst (λ x. Puts padded_member x (member_bytes x) mid new) e (record { appended = p.appended; spells = λ n. (refl, p.spells n) }))

-- all members were appended
pub members_whole : (ms : List Member) (i : ℕ) (old new : List ℕ) → length ms ≤ i → Written padded_member member_bytes (take i ms) old new → PutsMembers ms old new
members_whole ms i old new l a =
    let w : Written padded_member member_bytes ms old new = subst (λ ys. Written padded_member member_bytes ys old new) (take_all i ms l) a in
    record { appended = w.appended; spells = members_kept ms w.spells }

-- each member has a multiple of 4 bytes, and so have all
pub members_aligned : (ms : List Member) → length (all_bytes member_bytes ms) % 4 ≡ 0
members_aligned [] = refl
members_aligned (m ∷ ms) =
    let plain = plain_bytes m in
    omega (arith, members_aligned ms, length-append (member_bytes m) (all_bytes member_bytes ms), length-append plain (pads (pad_size (length plain))), pads_long (pad_size (length plain)))
