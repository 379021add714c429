-- The reader of numeric leaves is exact.
use Rattle.std.proofs.Common.{ℕ, pos, Option, Some, None, nat_lt}
use Rattle.rv_bytes.specs.Forms.{nothing, follow}
use Rattle.rv_bytes.specs.Numbers.{number}
use Rattle.rv_bytes.specs.NumberReaders.{read_number, read_by_leaf, read_leaf, read_numeric}
use Rattle.rv_bytes.specs.Leaves.{leaf_of, leaf_value, leaf_form, behind_kind, numeric}
use Rattle.rv_bytes.specs.Rules.{unknown_leaf}
use Rattle.rv_bytes.specs.declared.numeric.Leaf.{Leaf}
use Rattle.rv_bytes.proofs.Exact.{Exact, nothing_exact, follow_exact, made_exact, item_exact, choose_exact, fails_exact}
use Rattle.rv_bytes.proofs.ByteNumbers.{number_exact}

-- what follows a kind from 0x8000 on
by_leaf_exact : (l : Option Leaf) → Exact (leaf_form l) (read_by_leaf l)
by_leaf_exact None = fails_exact unknown_leaf
by_leaf_exact (Some l) = made_exact (leaf_value l) (number l.width) (read_number l.width) (number_exact l.width)

-- what follows a kind
leaf_exact : (kind : ℕ) → Exact (behind_kind kind) (read_leaf kind)
leaf_exact kind = choose_exact (nat_lt kind 0x8000) (nothing (pos kind)) (leaf_form (leaf_of kind)) _ _ (nothing_exact (pos kind)) (by_leaf_exact (leaf_of kind))

-- a numeric leaf
pub numeric_exact : Exact numeric read_numeric
numeric_exact = item_exact (follow (number 2) behind_kind) _ (λ _. None) (follow_exact (number 2) behind_kind (read_number 2) read_leaf (number_exact 2) leaf_exact)
