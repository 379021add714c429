-- The numbers of constants, found by their names.
use Rattle.std.specs.Prelude.{◌≡◌, ℕ, ℤ, List, Option, Some, None}
use Rattle.std.specs.BTreeMap.{BTreeMap, get}
use Rattle.std.specs.Borrow.{Bor}
use Rattle.std.specs.Cmp.Lexicographic.{slice_cmp}
use Rattle.std.specs.Ordering.{nat_cmp}
use Rattle.cv_symbol_records.specs.declared.kinds.SymKind.{SymKind}
use Rattle.cv_symbol_records.specs.declared.kinds.SymRec.{SymRec}
use Rattle.cv_type_defs.specs.Symbols.{constant_of}

-- the number that a text has
abbrev pub number_of : BTreeMap (Bor (List ℕ)) ℤ → Bor (List ℕ) → Option ℤ
number_of m q = get (λ (a b : Bor (List ℕ)). slice_cmp nat_cmp a.now b.now) m q

-- each name has the number of the first constant of that name
abbrev pub AreNumbers : List SymRec → BTreeMap (Bor (List ℕ)) ℤ → Type 0
AreNumbers symbols numbers = (q : Bor (List ℕ)) → number_of numbers q ≡ constant_of symbols q.now

-- the name and the number of an S_CONSTANT
abbrev pub constant_in : SymKind → Option (List ℕ × ℤ)
constant_in (SymKind.Constant ty number name) = Some (name, number)
constant_in _ = None

abbrev pub constant_seen : Bor (List ℕ) × ℤ → List ℕ × ℤ
constant_seen c = (c.0.now, c.1)
