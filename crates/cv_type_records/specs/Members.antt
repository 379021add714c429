-- The members of a field list, LF_FIELDLIST, and the pads between them.
use Rattle.std.specs.Prelude.{ℕ, ◌+◌, ◌-◌, ◌*◌, nat_lt, List, [], ◌∷◌, Option, Some, None}
use Rattle.rv_bytes.specs.Forms.{Form, nothing, follow, made, item, choose, fails}
use Rattle.rv_bytes.specs.Numbers.{bytes, number, text}
use Rattle.rv_bytes.specs.Leaves.{numeric}
use Rattle.cv_parts.specs.Rules.{unknown_member}
use Rattle.cv_type_records.specs.Leaves.{member_leaf_of}
use Rattle.cv_type_records.specs.declared.leaves.MemberLeaf.{MemberLeaf}
use Rattle.cv_type_records.specs.declared.kinds.Member.{Member}

-- a leaf that is known; another breaks a rule whatever follows
abbrev pub known_leaf : Option MemberLeaf → Form ℕ (Option MemberLeaf)
known_leaf None = fails unknown_member
known_leaf (Some leaf) = nothing (Some leaf)

-- the leaf of these two bytes
abbrev pub behind_low : ℕ → ℕ → Form ℕ (Option MemberLeaf)
behind_low low high = known_leaf (member_leaf_of (low + 256 * high))

-- a first byte above f0 is a pad of so many bytes as it is above f0, itself among them; another is the low byte of a leaf
abbrev pub behind_first : ℕ → Form ℕ (Option MemberLeaf)
behind_first low = choose (nat_lt 0xf0 low) (made (λ _. None) (bytes (low - 0xf0 - 1))) (follow (number 1) (behind_low low))

-- what a member begins with, which is one item: its leaf, or None for a pad
abbrev pub start : Form ℕ (Option MemberLeaf)
start = item (follow (number 1) behind_first) (λ _. None)

-- LF_INDEX, LF_ENUMERATE, LF_MEMBER, LF_STMEMBER and LF_NESTTYPE, each after its leaf
abbrev pub index : Form ℕ Member
index = follow (number 2) (λ zero_field. made (Member.Index zero_field) (number 4))

abbrev pub enumerate : Form ℕ Member
enumerate = follow (number 2) (λ attributes. follow numeric (λ value. made (Member.Enumerate attributes value) text))

abbrev pub field : Form ℕ Member
field = follow (number 2) (λ attributes. follow (number 4) (λ ty. follow numeric (λ offset. made (Member.Field attributes ty offset) text)))

abbrev pub static_member : Form ℕ Member
static_member = follow (number 2) (λ attributes. follow (number 4) (λ ty. made (Member.Static attributes ty) text))

abbrev pub nest : Form ℕ Member
nest = follow (number 2) (λ zero_field. follow (number 4) (λ ty. made (Member.Nest zero_field ty) text))

-- a member after its leaf
abbrev pub by_leaf : MemberLeaf → Form ℕ Member
by_leaf MemberLeaf.Index = index
by_leaf MemberLeaf.Enumerate = enumerate
by_leaf MemberLeaf.Field = field
by_leaf MemberLeaf.Static = static_member
by_leaf MemberLeaf.Nest = nest

-- what follows the beginning
abbrev pub after_start : Option MemberLeaf → Form ℕ (Option Member)
after_start None = nothing None
after_start (Some leaf) = made (λ m. Some m) (by_leaf leaf)

-- a member, or None for a pad
abbrev pub member : Form ℕ (Option Member)
member = follow start after_start

-- the member, if there is one
abbrev pub of_option : Option Member → List Member
of_option None = []
of_option (Some m) = m ∷ []

-- the members, without the pads
abbrev pub kept : List (Option Member) → List Member
kept [] = []
kept (None ∷ ms) = kept ms
kept (Some m ∷ ms) = m ∷ kept ms
