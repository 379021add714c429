-- Parents and the bases of units.
use Rattle.std.proofs.Common.{◌≡◌, ◌<◌, ℕ, List, [], ◌∷◌, slice_get, Option, Some, None, option_and_then, refl, sym, ap, ◌∙◌, arith}
use Rattle.std.specs.Option.{option_map, MatchOption}
use Rattle.entry_tree.proofs.Finds.{some_at, within}
use Rattle.dwarf_abbrev.specs.Values.{Val}
use Rattle.dwarf_entries.specs.Codes.{at_addr_base, at_str_offsets_base}
use Rattle.dwarf_entries.specs.Dies.{Die, Info, ancestors_in, bases_of, offset_in, parent_of}
use Rattle.dwarf_entries.specs.Shapes.{Entry}
use Rattle.dwarf_entries.specs.declared.sections.Bases.{Bases}
use Rattle.dwarf_dies.specs.Attributes.{value_in}
use Rattle.dwarf_dies.specs.Laws.{AreLinked}
use Rattle.dwarf_dies.specs.Parents.{IsParent, IsRoot, HasBasesOf, bases_of_die}
use Rattle.dwarf_dies.specs.Views.{die_of, offset_of_die, up_of_die}

-- the number of a parent is that of the entry that owns one
pub is_parent : (info : Info) → AreLinked info → (n up : ℕ) → Some up ≡ option_and_then up_of_die (die_of info n) → IsParent info n up
is_parent info laws n up h = by_die (die_of info n) refl h
  where
    by_die : (o : Option Die) → die_of info n ≡ o → Some up ≡ option_and_then up_of_die o → IsParent info n up
    by_die None at q = absurd (cc)
    by_die (Some d) at q =
        let lower = laws.earlier n up d at (sym q) in
        let p = some_at info.dies up (let w = within info.dies n d at in omega (arith, lower, w)) in
        record {
          lower = lower;
          owner = λ e g.
              let z : Some d ≡ Some e = sym at ∙ g in
              let same : d ≡ e = cc in
              (p.0, (ap parent_of (sym same) ∙ laws.parents n d at ∙ ap (option_and_then (die_of info)) (sym q) ∙ p.1, p.1));
        }

pub is_root : (info : Info) → AreLinked info → (n : ℕ) → None ≡ option_and_then up_of_die (die_of info n) → IsRoot info n
is_root info laws n h d at = laws.roots n d at (sym (h ∙ ap (option_and_then up_of_die) at))

pub owner_is : (info : Info) → AreLinked info → (n : ℕ) (r : Option ℕ) → r ≡ option_and_then up_of_die (die_of info n) → MatchOption r (IsRoot info n) (IsParent info n)
owner_is info laws n None h = is_root info laws n h
owner_is info laws n (Some up) h = is_parent info laws n up h

-- a parent has the same bases
same_bases : (d p : Die) (owners : List Entry) → slice_get (ancestors_in d owners) 0 ≡ Some p → p.bases ≡ d.bases
same_bases d p [] h = absurd (cc)
same_bases d p (e ∷ owners) h =
    let made : Die = record { start = d.start; bases = d.bases; owners = owners; entry = e } in
    let same : made ≡ p = cc in
    sym (ap bases_of_die same)

pub up_bases : (info : Info) (n at up : ℕ) → IsParent info at up → HasBasesOf info n at → HasBasesOf info n up
up_bases info n at up p h d g = let w = h d g in let o = p.owner w.0 w.1.0 in (o.0, (o.1.1, same_bases w.0 o.0 w.0.owners o.1.0 ∙ w.1.1))

-- the bases of an entry are those that its unit's first entry says
abbrev base_by : Info → ℕ → ℕ → Option ℕ
base_by info code root = option_and_then (λ (d : Die). option_and_then offset_in (value_in code d)) (die_of info root)

abbrev both_by : Info → ℕ → Bases
both_by info root = record { text_offsets = base_by info at_str_offsets_base root; addrs = base_by info at_addr_base root }

abbrev the_bases : Option ℕ → Option ℕ → Bases
the_bases text_offsets addrs = record { text_offsets = text_offsets; addrs = addrs }

abbrev both_in : Option Die → Bases
both_in o = record {
  text_offsets = option_and_then (λ (d : Die). option_and_then offset_in (value_in at_str_offsets_base d)) o;
  addrs = option_and_then (λ (d : Die). option_and_then offset_in (value_in at_addr_base d)) o;
}

pub bases_are : (info : Info) (n root : ℕ) → HasBasesOf info n root → IsRoot info root → (d : Die) → die_of info n ≡ Some d → both_by info root ≡ d.bases
bases_are info n root h r d g = let w = h d g in ap both_in w.1.0 ∙ sym (r w.0 w.1.0) ∙ w.1.1

-- two bases that were looked up
pub made_bases : (info : Info) (root : ℕ) (text_offsets addrs : Option ℕ) → text_offsets ≡ base_by info at_str_offsets_base root → addrs ≡ base_by info at_addr_base root
    → the_bases text_offsets addrs ≡ both_by info root
made_bases info root text_offsets addrs h g =
    ap (λ (o : Option ℕ). the_bases o addrs) h ∙ ap (λ (o : Option ℕ). the_bases (base_by info at_str_offsets_base root) o) g

pub no_bases : (x : Option Die) → None ≡ option_map offset_of_die x → None ≡ option_map bases_of_die x
no_bases None h = refl
no_bases (Some d) h = absurd (cc)

pub found_bases : (info : Info) (n root : ℕ) (text_offsets addrs : Option ℕ) (offset : ℕ) → Some offset ≡ option_map offset_of_die (die_of info n) → HasBasesOf info n root → IsRoot info root
    → text_offsets ≡ base_by info at_str_offsets_base root → addrs ≡ base_by info at_addr_base root → Some (the_bases text_offsets addrs) ≡ option_map bases_of_die (die_of info n)
found_bases info n root text_offsets addrs offset there h r a b = by_die (die_of info n) refl there
  where
    by_die : (o : Option Die) → die_of info n ≡ o → Some offset ≡ option_map offset_of_die o → Some (the_bases text_offsets addrs) ≡ option_map bases_of_die o
    by_die None at q = absurd (cc)
    by_die (Some d) at q = ap (λ (x : Bases). Some x) (made_bases info root text_offsets addrs a b ∙ bases_are info n root h r d at)
