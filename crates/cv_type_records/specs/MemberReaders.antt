-- The readers of members, for proofs.
use Rattle.std.specs.Prelude.{ℕ, ◌+◌, ◌-◌, ◌*◌, nat_lt, if◌then◌else◌, Option, Some, None}
use Rattle.rv_bytes.specs.Readers.{got, bad, Reader, and_then, with_value, as_item}
use Rattle.rv_bytes.specs.NumberReaders.{read_bytes, read_number, read_text, read_numeric}
use Rattle.cv_parts.specs.Rules.{unknown_member}
use Rattle.cv_type_records.specs.Leaves.{member_leaf_of}
use Rattle.cv_type_records.specs.declared.leaves.MemberLeaf.{MemberLeaf}
use Rattle.cv_type_records.specs.declared.kinds.Member.{Member}

-- the reader of `known_leaf`
abbrev pub read_known : Option MemberLeaf → Reader ℕ (Option MemberLeaf)
read_known None n s = bad unknown_member n
read_known (Some leaf) n s = got (Some leaf) n s

-- the reader of `behind_first`
abbrev pub read_behind_first : ℕ → Reader ℕ (Option MemberLeaf)
read_behind_first low n s =
    if nat_lt 0xf0 low then with_value (λ _. None) (read_bytes (low - 0xf0 - 1) n s) else and_then (read_number 1 n s) (λ high m k. read_known (member_leaf_of (low + 256 * high)) m k)

-- the reader of `start`
abbrev pub read_start : Reader ℕ (Option MemberLeaf)
read_start n s = as_item (λ _. None) n (and_then (read_number 1 n s) read_behind_first)

-- the readers of members after their leaves
abbrev pub read_index : Reader ℕ Member
read_index n s = and_then (read_number 2 n s) (λ zero_field m k. with_value (Member.Index zero_field) (read_number 4 m k))

abbrev pub read_enumerate : Reader ℕ Member
read_enumerate n s = and_then (read_number 2 n s) (λ attributes m k. and_then (read_numeric m k) (λ value j l. with_value (Member.Enumerate attributes value) (read_text j l)))

abbrev pub read_field : Reader ℕ Member
read_field n s =
    and_then (read_number 2 n s) (λ attributes m k. and_then (read_number 4 m k) (λ ty j l. and_then (read_numeric j l)
    (λ offset i h. with_value (Member.Field attributes ty offset) (read_text i h))))

abbrev pub read_static : Reader ℕ Member
read_static n s = and_then (read_number 2 n s) (λ attributes m k. and_then (read_number 4 m k) (λ ty j l. with_value (Member.Static attributes ty) (read_text j l)))

abbrev pub read_nest : Reader ℕ Member
read_nest n s = and_then (read_number 2 n s) (λ zero_field m k. and_then (read_number 4 m k) (λ ty j l. with_value (Member.Nest zero_field ty) (read_text j l)))

-- the reader of `by_leaf`
abbrev pub read_by_leaf : MemberLeaf → Reader ℕ Member
read_by_leaf MemberLeaf.Index n s = read_index n s
read_by_leaf MemberLeaf.Enumerate n s = read_enumerate n s
read_by_leaf MemberLeaf.Field n s = read_field n s
read_by_leaf MemberLeaf.Static n s = read_static n s
read_by_leaf MemberLeaf.Nest n s = read_nest n s

-- the reader of `after_start`
abbrev pub read_after_start : Option MemberLeaf → Reader ℕ (Option Member)
read_after_start None n s = got None n s
read_after_start (Some leaf) n s = with_value (λ m. Some m) (read_by_leaf leaf n s)

-- the reader of `member`
abbrev pub read_member : Reader ℕ (Option Member)
read_member n s = and_then (read_start n s) read_after_start
