-- The bytes of a definite form of units have one description.
use Rattle.std.proofs.Common.{◌≡◌, ℕ, ◌+◌, List, Option, Some, slice_get, inl, inr, sym, ap, subst, ◌∙◌}
use Rattle.rv_bytes.specs.Forms.{Form, IsDefinite}
use Rattle.rv_bytes.specs.Meanings.{Says, IsOutside, IsOneMeaning}
use Rattle.rv_bytes.proofs.OneMeaning.{one_meaning}
use Rattle.layout_set.proofs.Firsts.{one_breach}
use Rattle.layout_set.specs.FirstBreach.{Fails, IsFirstBreach}
use Rattle.layout_set.specs.Laws.{IsSound, sound_laws}
use Rattle.layout_set.specs.declared.breach.Item.{Item}
use Rattle.layout_set.specs.declared.breach.Item.TheVariants.{Def}
use Rattle.layout_set.specs.declared.set.Set.{Set}
use Rattle.dwarf_entries.specs.Items.{Spot, in_info}
use Rattle.dwarf_entries.specs.Rules.{first_law}
use Rattle.dwarf_entries.specs.Said.{Said, entries_meaning, Describes, IsUnsound, IsRefusedAt, HasOneDescription}
use Rattle.dwarf_entries.specs.Shapes.{DwarfUnit, Sections}

-- two first breaches of one set are one, and at one entry
same_breach : (s : Said) (r q : ℕ) (x y : Spot) → IsUnsound s r x → IsUnsound s q y → (r ≡ q) × (x ≡ y)
same_breach s r q x y h g =
    let b = one_breach s.set (sound_laws s.set) h.law g.law (Def h.place) (Def g.place) h.breach g.breach in
    let place : h.place ≡ g.place = def_place h.place g.place b.1 in
    let offset : h.offset ≡ g.offset = some_one h.offset g.offset (sym h.entry ∙ ap (slice_get s.offsets) place ∙ g.entry) in
    (h.rule_is ∙ ap (λ n. first_law + n) b.0 ∙ sym g.rule_is, h.spot_is ∙ ap in_info offset ∙ sym g.spot_is)
  where
    def_place : (i j : ℕ) → ◌≡◌ {A = Item} (Def i) (Def j) → i ≡ j
    def_place i j e = cc

    some_one : (i j : ℕ) → ◌≡◌ {A = Option ℕ} (Some i) (Some j) → i ≡ j
    some_one i j e = cc

-- a sound set has no breach
no_breach : (s : Said) (r : ℕ) (x : Spot) → IsSound s.set → IsUnsound s r x → ⊥
no_breach s r x sound h = let f = h.breach.fails in f.1.0.broken (sound h.law f.0 f.1.0.is)

-- what a definite form splits has one description
pub one_description : (sections : Sections) (units : Form Spot (List DwarfUnit)) → IsDefinite units → HasOneDescription sections units
one_description sections units definite = record {
  one_set = λ a b h g. h.is ∙ ap set_of (one.one_said sections.info h.said g.said h.says g.says) ∙ sym g.is;
  one_error = errors;
  never_both = λ set r s h g. elim g [
    | inl f ↦ one.never_both sections.info h.said r s h.says f
    | inr w ↦ no_breach w.0 r s (subst (λ t. IsSound t.set) (one.one_said sections.info h.said w.0 h.says w.1.0) h.sound) w.1.1
  ];
}
  where
    set_of : Said → Set
    set_of s = s.set

    one : IsOneMeaning (entries_meaning sections units)
    one = one_meaning (entries_meaning sections units) definite

    errors : (r q : ℕ) (s t : Spot) → IsRefusedAt sections units r s → IsRefusedAt sections units q t → (r ≡ q) × (s ≡ t)
    errors r q s t (inl h) (inl g) = one.one_fault sections.info r q s t h g
    errors r q s t (inl h) (inr g) = absurd (one.never_both sections.info g.0 r s g.1.0 h)
    errors r q s t (inr h) (inl g) = absurd (one.never_both sections.info h.0 q t h.1.0 g)
    errors r q s t (inr h) (inr g) =
        same_breach g.0 r q s t (subst (λ w. IsUnsound w r s) (one.one_said sections.info h.0 g.0 h.1.0 g.1.0) h.1.1) g.1.1
