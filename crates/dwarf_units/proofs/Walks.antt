-- The turns of the loop over the entries of a unit.
use Rattle.std.proofs.Common.{◌≡◌, ◌<◌, ℕ, Bool, true, false, List, [], ◌∷◌, ◌++◌, length, Option, Some, None, refl, sym, ap, ◌∙◌, append_assoc, append-nil}
use Rattle.std.specs.Prelude.{is_some}
use Rattle.rv_bytes.specs.Readers.{Res, got, bad, with_value}
use Rattle.rv_bytes.proofs.Turns.{row_over, row_next, row_bad, shorter, bad_back}
use Rattle.dwarf_abbrev.specs.declared.decl.Abbrev.{Abbrev}
use Rattle.entry_tree.specs.Entries.{Entry as Node}
use Rattle.dwarf_units.specs.Entries.{Entry, Walk, due_under, goes_on, after, entries, present}
use Rattle.dwarf_units.specs.EntryReaders.{read_entry, read_entries, nodes_after}
use Rattle.dwarf_units.specs.Units.{nodes_in}
use Rattle.dwarf_units.proofs.Entries.{entries_byte, entries_all}
use Rattle.dwarf_units.proofs.Results.{got_back}

-- where an entry's children are due, the tree hasn't ended
pub same_walk : (t : List Node) (u : Option ℕ) → is_some u ≡ true → goes_on t u ≡ due_under t u
same_walk t None h = absurd (cc)
same_walk t (Some k) h = refl

-- and where there is none it has
pub walk_ended : (t : List Node) (u : Option ℕ) → is_some u ≡ false → (goes_on t u).ended ≡ true
walk_ended t None h = refl
walk_ended t (Some k) h = absurd (cc)

moved : (s : Walk) (v : Option Entry) (x : Res ℕ (List (Option Entry))) → with_value (nodes_after s) (with_value (λ vs. v ∷ vs) x) ≡ with_value (nodes_after (after s v)) x
moved s v (got vs m k) = refl
moved s v (bad r m) = refl

-- what is left to be read after a turn leads to what all leads to
pub turn : (list : List Abbrev) (unit : ℕ) (s : Walk) (n : ℕ) (t : List ℕ) (z : Walk) (m : ℕ) (k : List ℕ) → s.ended ≡ false → with_value (after s) (read_entry list unit s n t) ≡ got z m k
    → with_value (nodes_after z) (read_entries list unit z m k) ≡ with_value (nodes_after s) (read_entries list unit s n t)
turn list unit s n t z m k o h =
    let v = got_back (after s) z m k (read_entry list unit s n t) h in
    sym (ap (with_value (nodes_after s)) (row_next (entries list unit) (read_entry list unit) 0 (entries_byte list unit) (entries_all list unit) s n t v.0 m k o v.1.0)
    ∙ moved s v.0 (read_entries list unit (after s v.0) m k)
    ∙ ap (λ y. with_value (nodes_after y) (read_entries list unit y m k)) v.1.1)

pub turn_bad : (list : List Abbrev) (unit : ℕ) (s : Walk) (n : ℕ) (t : List ℕ) (r m : ℕ) → s.ended ≡ false → with_value (after s) (read_entry list unit s n t) ≡ bad r m
    → with_value (nodes_after s) (read_entries list unit s n t) ≡ bad r m
turn_bad list unit s n t r m o h = ap (with_value (nodes_after s)) (row_bad (entries list unit) (read_entry list unit) 0 s n t r m o (bad_back (after s) r m (read_entry list unit s n t) h))

pub turn_end : (list : List Abbrev) (unit : ℕ) (s : Walk) (n : ℕ) (t : List ℕ) → s.ended ≡ true → with_value (nodes_after s) (read_entries list unit s n t) ≡ got s.nodes n t
turn_end list unit s n t o = ap (with_value (nodes_after s)) (row_over (entries list unit) (read_entry list unit) 0 s n t o)

pub turn_shorter : (list : List Abbrev) (unit : ℕ) (s : Walk) (n : ℕ) (t : List ℕ) (z : Walk) (m : ℕ) (k : List ℕ) → s.ended ≡ false → with_value (after s) (read_entry list unit s n t) ≡ got z m k → length k < length t
turn_shorter list unit s n t z m k o h =
    let v = got_back (after s) z m k (read_entry list unit s n t) h in
    shorter (entries list unit) (read_entry list unit) (entries_byte list unit) (entries_all list unit) s n t v.0 m k o v.1.0

-- the entries that were there, and those that were read
pub nodes_are : (s : Walk) (es : List (Option Entry)) → nodes_after s es ≡ s.nodes ++ nodes_in (present es)
nodes_are s [] = sym (append-nil s.nodes)
nodes_are s (None ∷ es) = nodes_are (after s None) es
nodes_are s (Some e ∷ es) = nodes_are (after s (Some e)) es ∙ append_assoc s.nodes (e.node ∷ []) (nodes_in (present es))
