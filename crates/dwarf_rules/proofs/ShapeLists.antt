-- What entries are as the parents of others, and the list of that as it grows.
use Rattle.std.proofs.Common.{◌≡◌, ◌&&◌, not, Bool, true, false, if◌then◌else◌, List, [], ◌∷◌, ◌++◌, map, is_some, Option, Some, None, refl, sym, ap, ◌∙◌, append_assoc, append-nil}
use Rattle.layout_set.specs.NameShapes.{fat_of}
use Rattle.layout_set.specs.declared.set.TypeDef.{TypeDef}
use Rattle.layout_set.specs.declared.shapes.FatContent.{FatContent}
use Rattle.names.specs.declared.name.Name.{Name}
use Rattle.names.specs.declared.name.PtrKind.{PtrKind}
use Rattle.dwarf_entries.specs.Counts.{has_params}
use Rattle.dwarf_entries.specs.Dies.{Die, Info, what}
use Rattle.dwarf_entries.specs.Names.{name_of}
use Rattle.dwarf_entries.specs.Pointers.{fat_pair, fat_pointer}
use Rattle.dwarf_entries.specs.Structures.{children_with, has_part, is_member}
use Rattle.dwarf_entries.specs.Tags.{passes, is_numbered}
use Rattle.dwarf_entries.specs.TypeLinks.{is_type_of_set}
use Rattle.dwarf_dies.specs.Handles.{DieIn, among}
use Rattle.dwarf_rules.specs.Shapes.{fat_or_plain, is_fat, shape_of, shapes_of}
use Rattle.dwarf_rules.specs.declared.shapes.Shape.{Shape}

-- an entry of this shape, by whether it has a variant part
abbrev shape_by : Info → Die → Bool → Shape
shape_by info d part = if part then Shape.Enum else fat_or_plain (fat_pointer info d)

pub shape_is : (info : Info) (d : Die) (part : Bool) → passes is_numbered (what d) ≡ true → has_part info d ≡ part → shape_of info d ≡ shape_by info d part
shape_is info d part h g = ap (λ b. if b then shape_by info d (has_part info d) else Shape.Plain) h ∙ ap (shape_by info d) g

-- an entry with a variant part is no fat pointer
abbrev fat_with : Info → Name → Option (PtrKind × FatContent) → List Die → Option TypeDef
fat_with info name (Some fat) (a ∷ b ∷ []) = fat_pair info name fat.0 fat.1 a b
fat_with info name _ _ = None

without_members : (info : Info) (name : Name) (fat : Option (PtrKind × FatContent)) → fat_with info name fat [] ≡ None
without_members info name None = refl
without_members info name (Some fat) = refl

no_fat : (info : Info) (d : Die) → has_part info d ≡ true → fat_pointer info d ≡ None
no_fat info d h =
    ap (λ b. fat_with info (name_of info d) (fat_of (name_of info d)) (if b then [] else children_with is_member info d)) h
    ∙ without_members info (name_of info d) (fat_of (name_of info d))

fat_or : (o : Option TypeDef) → is_fat (fat_or_plain o) ≡ is_some o
fat_or None = refl
fat_or (Some fat) = refl

pub fat_shape : (info : Info) (d : Die) → passes is_numbered (what d) ≡ true → is_fat (shape_of info d) ≡ is_some (fat_pointer info d)
fat_shape info d h = by_part (has_part info d) refl
  where
    by_part : (b : Bool) → has_part info d ≡ b → is_fat (shape_of info d) ≡ is_some (fat_pointer info d)
    by_part true g = ap is_fat (shape_is info d true h g) ∙ sym (ap is_some (no_fat info d g))
    by_part false g = ap is_fat (shape_is info d false h g) ∙ fat_or (fat_pointer info d)

-- a type of the set may have members
first_true : (a b : Bool) → (a && b) ≡ true → a ≡ true
first_true true b h = refl
first_true false b h = h

numbered : (info : Info) (d : Die) → is_type_of_set info d ≡ true → passes is_numbered (what d) ≡ true
numbered info d h = first_true (passes is_numbered (what d)) _ h

-- a type of the set that is no fat pointer has params
pub params_there : (info : Info) (d : Die) → is_type_of_set info d ≡ true → not (is_fat (shape_of info d)) ≡ has_params info d
params_there info d h = ap not (fat_shape info d (numbered info d h)) ∙ sym (ap (λ b. b && not (is_some (fat_pointer info d))) h)

-- with those of the entries to come, the list has all
pub record AreSoFar (info : Info) (left : List DieIn) (shapes : List Shape) : Type 0 where
  pub rest : List Die
  pub left_are : left ≡ map (among info) rest
  pub all : shapes ++ map (shape_of info) rest ≡ shapes_of info

pub record IsNext (info : Info) (a : DieIn) (left : List DieIn) (shapes : List Shape) : Type 0 where
  pub rest : List Die
  pub here : a.info ≡ info
  pub left_are : left ≡ map (among info) rest
  pub all : shapes ++ shape_of info a.die ∷ map (shape_of info) rest ≡ shapes_of info

pub none_yet : (info : Info) (left : List DieIn) → left ≡ map (among info) info.dies → AreSoFar info left []
none_yet info left h = record { rest = info.dies; left_are = h; all = refl }

pub next : (info : Info) (l left : List DieIn) (a : DieIn) (shapes : List Shape) → AreSoFar info l shapes → l ≡ a ∷ left → IsNext info a left shapes
next info l left a shapes s h = by_rest s.rest refl
  where
    by_rest : (rest : List Die) → s.rest ≡ rest → IsNext info a left shapes
    by_rest [] e =
        let same : ◌≡◌ {A = List DieIn} (a ∷ left) [] = sym h ∙ s.left_are ∙ ap (map (among info)) e in
        absurd (cc)
    by_rest (d ∷ rest) e =
        let same : ◌≡◌ {A = List DieIn} (a ∷ left) (among info d ∷ map (among info) rest) = sym h ∙ s.left_are ∙ ap (map (among info)) e in
        let is : a ≡ among info d = cc in
        let others : left ≡ map (among info) rest = cc in
        record {
          rest = rest;
          here = ap (λ (x : DieIn). x.info) is;
          left_are = others;
          all = ap (λ (x : DieIn). shapes ++ shape_of info x.die ∷ map (shape_of info) rest) is ∙ sym (ap (λ (x : List Die). shapes ++ map (shape_of info) x) e) ∙ s.all;
        }

pub one_more : (info : Info) (left : List DieIn) (a : DieIn) (shapes : List Shape) (s : Shape) → IsNext info a left shapes → s ≡ shape_of info a.die → AreSoFar info left (shapes ++ s ∷ [])
one_more info left a shapes s n h = record {
  rest = n.rest;
  left_are = n.left_are;
  all = append_assoc shapes (s ∷ []) (map (shape_of info) n.rest) ∙ ap (λ (x : Shape). shapes ++ x ∷ map (shape_of info) n.rest) h ∙ n.all;
}

pub all_so_far : (info : Info) (left : List DieIn) (shapes : List Shape) → left ≡ [] → AreSoFar info left shapes → shapes ≡ shapes_of info
all_so_far info left shapes h s = by_rest s.rest refl
  where
    by_rest : (rest : List Die) → s.rest ≡ rest → shapes ≡ shapes_of info
    by_rest [] e = sym (append-nil shapes) ∙ sym (ap (λ (x : List Die). shapes ++ map (shape_of info) x) e) ∙ s.all
    by_rest (d ∷ rest) e =
        let same : ◌≡◌ {A = List DieIn} [] (among info d ∷ map (among info) rest) = sym h ∙ s.left_are ∙ ap (map (among info)) e in
        absurd (cc)
