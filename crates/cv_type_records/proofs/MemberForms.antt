-- The readers of members are exact.
use Rattle.std.proofs.Common.{◌≡◌, ◌<◌, ℕ, ◌+◌, ◌-◌, ◌*◌, nat_lt, List, [], ◌∷◌, ◌++◌, Option, Some, None, refl, lit<}
use Rattle.rv_bytes.specs.Forms.{nothing, follow, made, item, choose}
use Rattle.rv_bytes.specs.Readers.{got, and_then, with_value}
use Rattle.rv_bytes.specs.Numbers.{bytes, number, text}
use Rattle.rv_bytes.specs.NumberReaders.{read_bytes, read_number, read_text}
use Rattle.rv_bytes.proofs.Exact.{Exact, nothing_exact, follow_exact, made_exact, item_exact, choose_exact, fails_exact}
use Rattle.rv_bytes.proofs.ByteNumbers.{bytes_exact, number_exact}
use Rattle.rv_bytes.proofs.CheckedTexts.{text_exact}
use Rattle.cv_parts.specs.Rules.{unknown_member}
use Rattle.cv_parts.proofs.Fields.{number_then, numeric_then, HasByte, number_byte, front_byte}
use Rattle.cv_type_records.specs.Leaves.{member_leaf_of}
use Rattle.cv_type_records.specs.Members.{known_leaf, behind_low, behind_first, start, index, enumerate, field, static_member, nest, by_leaf, after_start, member, of_option, kept}
use Rattle.cv_type_records.specs.MemberReaders.{read_known, read_behind_first, read_start, read_index, read_enumerate, read_field, read_static, read_nest, read_by_leaf, read_after_start, read_member}
use Rattle.cv_type_records.specs.declared.leaves.MemberLeaf.{MemberLeaf}
use Rattle.cv_type_records.specs.declared.kinds.Member.{Member}

known_exact : (o : Option MemberLeaf) → Exact (known_leaf o) (read_known o)
known_exact None = fails_exact unknown_member
known_exact (Some leaf) = nothing_exact (Some leaf)

behind_exact : (low : ℕ) → Exact (behind_first low) (read_behind_first low)
behind_exact low =
    choose_exact (nat_lt 0xf0 low) (made (λ _. None) (bytes (low - 0xf0 - 1))) (follow (number 1) (behind_low low)) (λ n s. with_value (λ _. None) (read_bytes (low - 0xf0 - 1) n s)) _
    (made_exact (λ _. None) (bytes (low - 0xf0 - 1)) (read_bytes (low - 0xf0 - 1)) (bytes_exact (low - 0xf0 - 1)))
    (number_then 1 (behind_low low) _ (λ high. known_exact (member_leaf_of (low + 256 * high))))

start_exact : Exact start read_start
start_exact = item_exact (follow (number 1) behind_first) (λ n s. and_then (read_number 1 n s) read_behind_first) (λ _. None) (number_then 1 behind_first read_behind_first behind_exact)

-- of a name that ends a record
named : {A : Type 0} (f : List ℕ → A) → Exact (made f text) (λ n s. with_value f (read_text n s))
named f = made_exact f text read_text text_exact

by_leaf_exact : (leaf : MemberLeaf) → Exact (by_leaf leaf) (read_by_leaf leaf)
by_leaf_exact MemberLeaf.Index = number_then 2 _ _ (λ zero_field. made_exact (Member.Index zero_field) (number 4) (read_number 4) (number_exact 4))
by_leaf_exact MemberLeaf.Enumerate = number_then 2 _ _ (λ attributes. numeric_then _ _ (λ value. named (Member.Enumerate attributes value)))
by_leaf_exact MemberLeaf.Field = number_then 2 _ _ (λ attributes. number_then 4 _ _ (λ ty. numeric_then _ _ (λ offset. named (Member.Field attributes ty offset))))
by_leaf_exact MemberLeaf.Static = number_then 2 _ _ (λ attributes. number_then 4 _ _ (λ ty. named (Member.Static attributes ty)))
by_leaf_exact MemberLeaf.Nest = number_then 2 _ _ (λ zero_field. number_then 4 _ _ (λ ty. named (Member.Nest zero_field ty)))

after_exact : (o : Option MemberLeaf) → Exact (after_start o) (read_after_start o)
after_exact None = nothing_exact None
after_exact (Some leaf) = made_exact (λ m. Some m) (by_leaf leaf) (read_by_leaf leaf) (by_leaf_exact leaf)

pub member_exact : Exact member read_member
member_exact = follow_exact start after_start read_start read_after_start start_exact after_exact

start_byte : HasByte start
start_byte n v t w = front_byte _ _ n t (λ x y. number_byte 1 (lit< tt) n w.0.0 x y) w.0.1

pub member_byte : HasByte member
member_byte n v t h = front_byte _ _ n t (λ x y. start_byte n h.0 x y) h.1

-- the first member or pad, and the others
pub kept_first : (o : Option Member) (ms : List (Option Member)) → kept (o ∷ ms) ≡ of_option o ++ kept ms
kept_first None ms = refl
kept_first (Some m) ms = refl
