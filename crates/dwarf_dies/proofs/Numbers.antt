-- Entries have their numbers.
use Rattle.std.proofs.Common.{◌≡◌, ℕ, zero, suc, ◌+◌, List, [], ◌∷◌, ◌++◌, length, map, slice_get, flat_map, Option, Some, None, refl, sym, ap, ◌∙◌, arith, add-zero}
use Rattle.std.specs.Option.{option_map}
use Rattle.std.proofs.lemmas.List.{map-append}
use Rattle.entry_tree.specs.Entries.{Entry as Node}
use Rattle.dwarf_units.specs.Entries.{Entry as ReadEntry}
use Rattle.dwarf_units.specs.Kept.{entries_in}
use Rattle.dwarf_units.specs.Units.{CompileUnit}
use Rattle.dwarf_entries.specs.Dies.{Die, dies_after, dies_of, owning}
use Rattle.dwarf_entries.specs.Shapes.{Entry, DwarfUnit}
use Rattle.dwarf_dies.specs.Units.{entry_of, numbered_from, units_from}

pub numbered_at : (k : ℕ) (es : List ReadEntry) (i : ℕ) → slice_get (numbered_from k es) i ≡ option_map (entry_of (k + i)) (slice_get es i)
numbered_at k [] i = refl
numbered_at k (e ∷ es) zero = ap (λ n. Some (entry_of n e)) (sym (add-zero k))
numbered_at k (e ∷ es) (suc i) = numbered_at (k + 1) es i ∙ ap (λ n. option_map (entry_of n) (slice_get es i)) (let z : k + 1 + i ≡ k + suc i = omega arith in z)

pub numbered_append : (k : ℕ) (xs ys : List ReadEntry) → numbered_from k (xs ++ ys) ≡ numbered_from k xs ++ numbered_from (k + length xs) ys
numbered_append k [] ys = ap (λ n. numbered_from n ys) (sym (add-zero k))
numbered_append k (x ∷ xs) ys =
    ap (λ l. entry_of k x ∷ l) (numbered_append (k + 1) xs ys ∙ ap (λ n. numbered_from (k + 1) xs ++ numbered_from n ys) (let z : k + 1 + length xs ≡ k + length (x ∷ xs) = omega arith in z))

entry_in : Die → Entry
entry_in d = d.entry

pub after_entries : (unit : DwarfUnit) (way es : List Entry) → map (λ (d : Die). d.entry) (dies_after unit way es) ≡ es
after_entries unit way [] = refl
after_entries unit way (e ∷ es) = ap (λ l. e ∷ l) (after_entries unit (e ∷ owning e.up way) es)

-- the entries of the section are those of its units, numbered from 0
pub dies_entries : (k : ℕ) (us : List CompileUnit) → map (λ (d : Die). d.entry) (flat_map dies_of (units_from k us)) ≡ numbered_from k (entries_in us)
dies_entries k [] = refl
dies_entries k (u ∷ us) =
    let unit : DwarfUnit = record { start = u.header.offset; entries = numbered_from k u.entries } in
    map-append (λ (d : Die). d.entry) (dies_of unit) (flat_map dies_of (units_from (k + length u.entries) us))
    ∙ ap (λ l. l ++ map (λ (d : Die). d.entry) (flat_map dies_of (units_from (k + length u.entries) us))) (after_entries unit [] (numbered_from k u.entries))
    ∙ ap (λ l. numbered_from k u.entries ++ l) (dies_entries (k + length u.entries) us)
    ∙ sym (numbered_append k u.entries (entries_in us))

-- the entry with a number among all
pub numbered : (es : List ReadEntry) (n : ℕ) → slice_get (numbered_from 0 es) n ≡ option_map (entry_of n) (slice_get es n)
numbered es n = numbered_at 0 es n ∙ ap (λ k. option_map (entry_of k) (slice_get es n)) (let z : 0 + n ≡ n = omega arith in z)

lifted : {B : Type 0} (g : Entry → B) (ds : List Die) (n : ℕ) → option_map (λ (d : Die). g d.entry) (slice_get ds n) ≡ option_map g (slice_get (map (λ (d : Die). d.entry) ds) n)
lifted g [] n = refl
lifted g (d ∷ ds) zero = refl
lifted g (d ∷ ds) (suc n) = lifted g ds n

in_nodes : {B : Type 0} (h : Node → B) (es : List ReadEntry) (n : ℕ) → option_map (λ (e : ReadEntry). h e.node) (slice_get es n) ≡ option_map h (slice_get (map (λ (e : ReadEntry). e.node) es) n)
in_nodes h [] n = refl
in_nodes h (e ∷ es) zero = refl
in_nodes h (e ∷ es) (suc n) = in_nodes h es n

-- what is seen of an entry and of the one that is read is the same
pub die_read : {B : Type 0} (g : Entry → B) (h : ReadEntry → B) → ((k : ℕ) (e : ReadEntry) → g (entry_of k e) ≡ h e)
    → (es : List ReadEntry) (ds : List Die) → map (λ (d : Die). d.entry) ds ≡ numbered_from 0 es → (n : ℕ)
    → option_map (λ (d : Die). g d.entry) (slice_get ds n) ≡ option_map h (slice_get es n)
die_read g h same es ds is n =
    lifted g ds n ∙ ap (option_map g) (ap (λ l. slice_get l n) is ∙ numbered es n) ∙ lowered (slice_get es n)
  where
    lowered : (o : Option ReadEntry) → option_map g (option_map (entry_of n) o) ≡ option_map h o
    lowered None = refl
    lowered (Some e) = ap Some (same n e)

-- the same of its node
pub die_by : {B : Type 0} (g : Entry → B) (h : Node → B) → ((k : ℕ) (e : ReadEntry) → g (entry_of k e) ≡ h e.node)
    → (es : List ReadEntry) (ds : List Die) → map (λ (d : Die). d.entry) ds ≡ numbered_from 0 es → (n : ℕ)
    → option_map (λ (d : Die). g d.entry) (slice_get ds n) ≡ option_map h (slice_get (map (λ (e : ReadEntry). e.node) es) n)
die_by g h same es ds is n = die_read g (λ e. h e.node) same es ds is n ∙ in_nodes h es n
