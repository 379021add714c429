-- Type records have one meaning.
use Rattle.std.proofs.Common.{◌≡◌, ℕ, List, Option, Some, None, sym, ap, ◌∙◌}
use Rattle.rv_bytes.specs.Forms.{Form, IsDefinite}
use Rattle.rv_bytes.specs.Meanings.{IsOneMeaning}
use Rattle.rv_bytes.proofs.OneMeaning.{one_meaning}
use Rattle.cv_symbol_records.specs.declared.kinds.SymRec.{SymRec}
use Rattle.cv_type_records.specs.declared.kinds.TypeRec.{TypeRec}
use Rattle.cv_type_defs.specs.Items.{Spot}
use Rattle.cv_type_defs.specs.Said.{HaveOneMeaning, fault_in, types_meaning}

-- records and symbols
pub records_meaning : (records : List TypeRec) (symbols : List SymRec) → HaveOneMeaning records symbols
records_meaning records symbols = record {
  one_list = λ a b h g. h.is ∙ sym g.is;
  one_fault = λ r q s t h g. pairs (fault_in records symbols) r q s t h g;
  never_both = λ a r s h g. clash (fault_in records symbols) r s h.valid g;
}
  where
    clash : (o : Option (ℕ × Spot)) (r : ℕ) (s : Spot) → o ≡ None → o ≡ Some (r, s) → ⊥
    clash o r s h g = let x : ◌≡◌ {A = Option (ℕ × Spot)} None (Some (r, s)) = sym h ∙ g in cc

    pairs : (o : Option (ℕ × Spot)) (r q : ℕ) (s t : Spot) → o ≡ Some (r, s) → o ≡ Some (q, t) → (r ≡ q) × (s ≡ t)
    pairs o r q s t h g =
        let fst : ℕ × Spot → ℕ = λ y. y.0 in let snd : ℕ × Spot → Spot = λ y. y.1 in
        let x : ◌≡◌ {A = Option (ℕ × Spot)} (Some (r, s)) (Some (q, t)) = sym h ∙ g in
        let two : ℕ × Spot = (r, s) in let three : ℕ × Spot = (q, t) in
        let e : two ≡ three = cc in (ap fst e, ap snd e)

-- bytes that split in one way
pub bytes_meaning : (symbols : List SymRec) (form : Form Spot (List TypeRec)) → IsDefinite form → IsOneMeaning (types_meaning symbols form)
bytes_meaning symbols form definite = one_meaning (types_meaning symbols form) definite
