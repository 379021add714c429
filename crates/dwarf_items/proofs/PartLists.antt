-- The entries that are left, and the list of whether they have a variant part as it grows.
use Rattle.std.proofs.Common.{◌≡◌, Bool, List, [], ◌∷◌, ◌++◌, map, refl, sym, ap, ◌∙◌, append_assoc, append-nil}
use Rattle.dwarf_entries.specs.Dies.{Die, Info}
use Rattle.dwarf_entries.specs.Structures.{has_part}
use Rattle.dwarf_dies.specs.Handles.{DieIn, among}
use Rattle.dwarf_items.specs.Parts.{are_with_parts}

-- the entries to come are of these
pub record AreLeft (info : Info) (left : List DieIn) : Type 0 where
  pub rest : List Die
  pub are : left ≡ map (among info) rest

pub all_left : (info : Info) (left : List DieIn) → left ≡ map (among info) info.dies → AreLeft info left
all_left info left h = record { rest = info.dies; are = h }

-- the next is one of these, and so are those after it
pub record IsNext (info : Info) (a : DieIn) (left : List DieIn) : Type 0 where
  pub here : a.info ≡ info
  pub others : AreLeft info left

pub next : (info : Info) (l left : List DieIn) (a : DieIn) → AreLeft info l → l ≡ a ∷ left → IsNext info a left
next info l left a s h = by_rest s.rest refl
  where
    by_rest : (rest : List Die) → s.rest ≡ rest → IsNext info a left
    by_rest [] e =
        let same : ◌≡◌ {A = List DieIn} (a ∷ left) [] = sym h ∙ s.are ∙ ap (map (among info)) e in
        absurd (cc)
    by_rest (d ∷ rest) e =
        let same : ◌≡◌ {A = List DieIn} (a ∷ left) (among info d ∷ map (among info) rest) = sym h ∙ s.are ∙ ap (map (among info)) e in
        let is : a ≡ among info d = cc in
        let others : left ≡ map (among info) rest = cc in
        record { here = ap (λ (x : DieIn). x.info) is; others = record { rest = rest; are = others } }

-- whether an entry has one
abbrev pub part_of : DieIn → Bool
part_of a = has_part a.info a.die

-- with those of the entries to come, the list has all
abbrev pub AreSoFar : Info → List DieIn → List Bool → Type 0
AreSoFar info left parts = parts ++ map part_of left ≡ are_with_parts info

pub none_yet : (info : Info) (left : List DieIn) → left ≡ map (among info) info.dies → AreSoFar info left []
none_yet info left h = ap (map part_of) h ∙ each info.dies
  where
    each : (l : List Die) → map part_of (map (among info) l) ≡ map (has_part info) l
    each [] = refl
    each (d ∷ l) = ap (λ t. has_part info d ∷ t) (each l)

pub one_more : (info : Info) (l left : List DieIn) (a : DieIn) (parts : List Bool) (b : Bool) → AreSoFar info l parts → l ≡ a ∷ left → b ≡ part_of a → AreSoFar info left (parts ++ b ∷ [])
one_more info l left a parts b s h g = append_assoc parts (b ∷ []) (map part_of left) ∙ ap (λ x. parts ++ x ∷ map part_of left) g ∙ ap (λ t. parts ++ map part_of t) (sym h) ∙ s

pub all_so_far : (info : Info) (left : List DieIn) (parts : List Bool) → left ≡ [] → AreSoFar info left parts → parts ≡ are_with_parts info
all_so_far info left parts h s = sym (append-nil parts) ∙ ap (λ t. parts ++ map part_of t) (sym h) ∙ s
