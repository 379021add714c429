-- Tables are kept by their places.
use Rattle.std.proofs.Common.{◌≡◌, ◌≢◌, ◌<◌, ℕ, Bool, true, false, is_some, is_err, List, length, drop, Option, Some, None, Result, Ok, Err, IfOk, IfErr, OnOk, refl, sym, ap, subst, ◌∙◌, arith, inl, inr}
use Rattle.std.specs.Prelude.{cond, IsSome}
use Rattle.std.specs.Ordering.{nat_cmp, is_eq}
use Rattle.std.specs.BTreeMap.{BTreeMap, get, Updates}
use Rattle.rv_bytes.specs.Sections.{BeginsAt, IsFaultAt}
use Rattle.rv_bytes.specs.declared.err.DwErr.{DwErr}
use Rattle.dwarf_abbrev.specs.Rules.{table_outside}
use Rattle.dwarf_abbrev.specs.Tables.{table}
use Rattle.dwarf_abbrev.specs.TableReaders.{read_table}
use Rattle.dwarf_abbrev.specs.declared.decl.Abbrev.{Abbrev}
use Rattle.dwarf_abbrev.proofs.Tables.{table_exact}
use Rattle.dwarf_units.specs.UnitReaders.{IsTableFault}

-- what is refused inside the section, the reader refuses
pub table_fault : (abbrevs : List ℕ) (at : ℕ) (e : DwErr) → at < length abbrevs → IsFaultAt table_outside table abbrevs at e → IsTableFault abbrevs at e
table_fault abbrevs at (DwErr.Refused offset rule) i (inl h) = absurd (omega (arith, i, h.0))
table_fault abbrevs at (DwErr.Refused offset rule) i (inr h) = table_exact.refuses at (drop at abbrevs) rule offset h.1
table_fault abbrevs at DwErr.Memory i h = tt

-- the places that compare as equal are the same
same_place : (at q : ℕ) → is_eq (nat_cmp at q) ≡ true → at ≡ q
same_place at q h = grind (arith, h)

-- each table that is kept begins at its place
pub begin : (abbrevs : List ℕ) (old new : BTreeMap ℕ (List Abbrev)) (at : ℕ) (list : List Abbrev) → ((q : ℕ) (l : List Abbrev) → get nat_cmp old q ≡ Some l → BeginsAt table abbrevs q l)
    → BeginsAt table abbrevs at list → Updates nat_cmp old new at (Some list) → (q : ℕ) (l : List Abbrev) → get nat_cmp new q ≡ Some l → BeginsAt table abbrevs q l
begin abbrevs old new at list before b u q l h = by_test (is_eq (nat_cmp at q)) refl
  where
    by_test : (b : Bool) → is_eq (nat_cmp at q) ≡ b → BeginsAt table abbrevs q l
    by_test true e =
        let same : list ≡ l = (let x : Some list ≡ Some l = sym u.1 ∙ ap (get nat_cmp new) (same_place at q e) ∙ h in cc) in
        subst (λ p. BeginsAt table abbrevs p l) (same_place at q e) (subst (BeginsAt table abbrevs at) same b)
    by_test false e = before q l (sym (u.2 q e) ∙ h)
