-- Complete records, found by their names.
use Rattle.std.specs.Prelude.{◌≡◌, ℕ, if◌then◌else◌, ◌&&◌, not, Bool, false, List, [], Option, Some, None}
use Rattle.std.specs.BTreeMap.{BTreeMap, get}
use Rattle.std.specs.Borrow.{Bor}
use Rattle.std.specs.Cmp.Lexicographic.{slice_cmp}
use Rattle.std.specs.Ordering.{nat_cmp}
use Rattle.cv_type_defs.specs.Records.{Head, Leaf, complete_place, has_name_of, is_forward, is_same_leaf, is_text}
use Rattle.cv_type_records.specs.declared.kinds.TypeRec.{TypeRec}
use Rattle.cv_links.specs.declared.completes.Completes.{Completes}
use Rattle.cv_links.specs.declared.completes.Names.{Names}

-- the place that a text has
abbrev pub place_of : BTreeMap (Bor (List ℕ)) ℕ → Bor (List ℕ) → Option ℕ
place_of m q = get (λ (a b : Bor (List ℕ)). slice_cmp nat_cmp a.now b.now) m q

-- the first of two places, if there is one
abbrev pub first_of : Option ℕ → Option ℕ → Option ℕ
first_of (Some place) other = Some place
first_of None other = other

-- the place, where the test holds
abbrev pub place_if : Bool → ℕ → Option ℕ
place_if test place = if test then Some place else None

-- a text has this place now, unless it had one; every other text has what it had
abbrev pub PutsFirst : BTreeMap (Bor (List ℕ)) ℕ → BTreeMap (Bor (List ℕ)) ℕ → Option (List ℕ) → ℕ → Type 0
PutsFirst old new text place = (q : Bor (List ℕ)) → place_of new q ≡ first_of (place_of old q) (place_if (is_text q.now text) place)

-- the names of a record have this place now, unless they had one
pub record PutsNames (old new : Names) (head : Head) (place : ℕ) : Type 0 where
  pub name : PutsFirst old.by_name new.by_name (Some head.name) place
  pub unique : PutsFirst old.by_unique new.by_unique head.unique place

-- a forward reference stands for a record that has this head
abbrev pub completes : Head → Option Head → Bool
completes forward None = false
completes forward (Some c) = not (is_forward c) && (is_same_leaf forward.leaf c.leaf && has_name_of forward.unique forward.name c)

-- a forward reference with this name, and one with this unique name
abbrev pub by_name : Leaf → List ℕ → Head
by_name leaf name = record { leaf = leaf; property = 0; fields = 0; name = name; unique = None }

abbrev pub by_unique : Leaf → List ℕ → Head
by_unique leaf unique = record { leaf = leaf; property = 0; fields = 0; name = []; unique = Some unique }

-- the complete records of this leaf are found by their names
pub record AreNames (records : List TypeRec) (leaf : Leaf) (kept : Names) : Type 0 where
  pub names : (q : Bor (List ℕ)) → place_of kept.by_name q ≡ complete_place records (by_name leaf q.now)
  pub uniques : (q : Bor (List ℕ)) → place_of kept.by_unique q ≡ complete_place records (by_unique leaf q.now)

-- those of each leaf are
pub record AreCompletes (records : List TypeRec) (kept : Completes) : Type 0 where
  pub structures : AreNames records Leaf.Structure kept.structures
  pub unions : AreNames records Leaf.Union kept.unions
  pub enums : AreNames records Leaf.Enum kept.enums
