-- Structures that are fat pointers, by their names and members.
use Rattle.std.proofs.Common.{◌≡◌, ℕ, List, [], ◌∷◌, length, map, get_or, Option, Some, None, refl, sym, ap, ◌∙◌, arith}
use Rattle.layout_set.specs.NameShapes.{fat_of}
use Rattle.layout_set.specs.declared.set.TypeDef.{TypeDef}
use Rattle.layout_set.specs.declared.shapes.FatContent.{FatContent}
use Rattle.names.specs.declared.name.Name.{Name}
use Rattle.names.specs.declared.name.PtrKind.{PtrKind}
use Rattle.dwarf_entries.specs.Dies.{Die, Info}
use Rattle.dwarf_entries.specs.Names.{name_of}
use Rattle.dwarf_entries.specs.Pointers.{fat_pair, fat_pointer}
use Rattle.dwarf_entries.specs.Structures.{members_of}
use Rattle.dwarf_dies.specs.Handles.{DieIn, beside}

-- these two are all of the list
pub record AreTwo (a : DieIn) (l : List Die) (x y : DieIn) : Type 0 where
  pub list : l ≡ x.die ∷ y.die ∷ []
  pub first : x.info ≡ a.info
  pub second : y.info ≡ a.info

by_list : (a : DieIn) (l : List Die) (x y : DieIn) → length (map (beside a) l) ≡ 2 → x ≡ get_or (map (beside a) l) 0 x → y ≡ get_or (map (beside a) l) 1 y → AreTwo a l x y
by_list a [] x y n h g = absurd (omega (arith, n))
by_list a (d ∷ []) x y n h g = absurd (omega (arith, n))
by_list a (d ∷ e ∷ []) x y n h g = record {
  list = sym (ap (λ (z : DieIn). z.die ∷ y.die ∷ []) h ∙ ap (λ (z : DieIn). d ∷ z.die ∷ []) g);
  first = ap (λ (z : DieIn). z.info) h;
  second = ap (λ (z : DieIn). z.info) g;
}
by_list a (d ∷ e ∷ f ∷ l) x y n h g = absurd (omega (arith, n))

pub two : (a : DieIn) (l : List Die) (s : List DieIn) (x y : DieIn) → s ≡ map (beside a) l → length s ≡ 2 → x ≡ get_or s 0 x → y ≡ get_or s 1 y → AreTwo a l x y
two a l s x y same n h g = by_list a l x y (ap (λ (t : List DieIn). length t) (sym same) ∙ n) (h ∙ ap (λ (t : List DieIn). get_or t 0 x) same) (g ∙ ap (λ (t : List DieIn). get_or t 1 y) same)

-- what a structure of this name and these members is
abbrev fat_with : Info → Name → Option (PtrKind × FatContent) → List Die → Option TypeDef
fat_with info name (Some fat) (a ∷ b ∷ []) = fat_pair info name fat.0 fat.1 a b
fat_with info name _ _ = None

pub fat_is : (info : Info) (d : Die) (name : Name) (kind : PtrKind) (content : FatContent) (x y : Die) → name ≡ name_of info d → fat_of name ≡ Some (kind, content) → members_of info d ≡ x ∷ y ∷ []
    → fat_pair info name kind content x y ≡ fat_pointer info d
fat_is info d name kind content x y named fat members =
    sym (ap (fat_with info (name_of info d) (fat_of (name_of info d))) members
    ∙ ap (λ (n : Name). fat_with info n (fat_of n) (x ∷ y ∷ [])) (sym named)
    ∙ ap (λ (o : Option (PtrKind × FatContent)). fat_with info name o (x ∷ y ∷ [])) fat)
