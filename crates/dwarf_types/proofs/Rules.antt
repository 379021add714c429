-- What an entry has that breaks no rule.
use Rattle.std.proofs.Common.{◌≡◌, ◌&&◌, ℕ, List, [], ◌∷◌, not, if◌then◌else◌, Bool, true, false, is_none, Option, Some, None, refl, sym, ap, ◌∙◌}
use Rattle.std.specs.List.{list_all}
use Rattle.dwarf_entries.specs.Codes.{at_name}
use Rattle.dwarf_entries.specs.Counts.{count_rule}
use Rattle.dwarf_entries.specs.Dies.{Die, Info, what}
use Rattle.dwarf_entries.specs.Items.{lower, lowest, rule_if}
use Rattle.dwarf_entries.specs.Lookups.{has}
use Rattle.dwarf_entries.specs.PassC.{bit_rule, entry_rule, named_rule, needs, tag_rule}
use Rattle.dwarf_entries.specs.PassedOver.{is_passed}
use Rattle.dwarf_entries.specs.Rules.{missing}
use Rattle.dwarf_entries.specs.Shapes.{Entry}
use Rattle.dwarf_entries.specs.declared.tag.Tag.{Tag}

-- of two rules that aren't broken
pub lower_first : (a b : Option ℕ) → lower a b ≡ None → a ≡ None
lower_first None b h = refl
lower_first (Some r) None h = absurd (cc)
lower_first (Some r) (Some s) h = absurd (cc)

pub lower_second : (a b : Option ℕ) → lower a b ≡ None → b ≡ None
lower_second None b h = h
lower_second (Some r) None h = absurd (cc)
lower_second (Some r) (Some s) h = absurd (cc)

-- an entry that isn't passed over breaks no rule by its tag
pub by_tag : (info : Info) (d : Die) (tag : Option Tag) → entry_rule info d ≡ None → is_passed info d ≡ false → what d ≡ tag → tag_rule info d tag ≡ None
by_tag info d tag h shown is =
    ap (tag_rule info d) (sym is) ∙ lower_first (tag_rule info d (what d)) None (lower_second (count_rule info d) (lower (tag_rule info d (what d)) None) all)
  where
    all : lowest (count_rule info d ∷ tag_rule info d (what d) ∷ []) ≡ None
    all = sym (ap (λ b. if b then None else lowest (count_rule info d ∷ tag_rule info d (what d) ∷ [])) shown) ∙ h

-- a rule that isn't broken where its test is asked
pub unbroken : (b : Bool) (rule : ℕ) → rule_if b rule ≡ None → b ≡ false
unbroken true rule h = absurd (cc)
unbroken false rule h = refl

flipped : (b : Bool) → not b ≡ false → b ≡ true
flipped true h = refl
flipped false h = absurd (cc)

both_first : (a b : Bool) → (a && b) ≡ true → a ≡ true
both_first true b h = refl
both_first false b h = absurd (cc)

-- the first of the attributes that it needs is there
pub first_needed : (code : ℕ) (codes : List ℕ) (e : Entry) → needs (code ∷ codes) e ≡ None → has code e ≡ true
first_needed code codes e h =
    both_first (has code e) (list_all (λ (c : ℕ). has c e) codes) (flipped (list_all (λ (c : ℕ). has c e) (code ∷ codes)) (unbroken (not (list_all (λ (c : ℕ). has c e) (code ∷ codes))) missing h))

pub named_member : (m : Die) (type : Option ℕ) → named_rule m type ≡ None → has at_name m.entry ≡ true
named_member m type h = first_needed at_name [] m.entry (lower_first (needs (at_name ∷ []) m.entry) (lower type (lower (bit_rule m) None)) h)

-- there is something
pub some_there : {A : Type 0} (o : Option A) → is_none o ≡ false → (x : A) × (o ≡ Some x)
some_there None h = absurd (cc)
some_there (Some x) h = (x, refl)
