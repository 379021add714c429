-- The rule of an entry, by its counts and its tag.
use Rattle.std.proofs.Common.{◌≡◌, ℕ, ◌+◌, ◌&&◌, not, [], ◌∷◌, Bool, true, false, if◌then◌else◌, Option, Some, None, refl, sym, ap, subst, ◌∙◌, arith}
use Rattle.dwarf_entries.specs.Counts.{before, count_rule, one_if, parts_by, parts_of, types_of, variables_of}
use Rattle.dwarf_entries.specs.Dies.{Die, Info, what}
use Rattle.dwarf_entries.specs.Items.{Spot, fault_of, in_info, item_at, lower, lowest}
use Rattle.dwarf_items.specs.Answers.{IsFault}
use Rattle.layout_set.specs.declared.refusal.ReadErr.{ReadErr}
use Rattle.dwarf_entries.specs.PassC.{entry_rule, tag_rule}
use Rattle.dwarf_entries.specs.PassedOver.{is_in_function, is_passed}
use Rattle.dwarf_entries.specs.Rules.{too_many}
use Rattle.dwarf_entries.specs.Tags.{passes, is_numbered}
use Rattle.dwarf_entries.specs.TypeLinks.{is_inner_structure}
use Rattle.dwarf_scopes.specs.Tags.{is_variable_tag}
use Rattle.dwarf_rules.specs.Counts.{AreWith, are_past, both_counts, counts_among, counts_of, limit_rule}
use Rattle.dwarf_rules.specs.declared.counts.Counts.{Counts}

lower_none : (x : Option ℕ) → lower x None ≡ x
lower_none None = refl
lower_none (Some r) = refl

-- three rules by two steps
pub lowest_three : (a b c : Option ℕ) → lowest (a ∷ lowest (b ∷ c ∷ []) ∷ []) ≡ lowest (a ∷ b ∷ c ∷ [])
lowest_three a b c = ap (lower a) (lower_none (lowest (b ∷ c ∷ [])))

-- the rule that a count breaks with an entry
pub count_is : (info : Info) (d : Die) (counts : Counts) → counts ≡ counts_among info (before info d) → limit_rule (both_counts counts (counts_of info d)) ≡ count_rule info d
count_is info d counts h = ap (λ c. limit_rule (both_counts c (counts_of info d))) h

-- the rule of an entry that isn't passed over
pub rule_is : (info : Info) (d : Die) (counts : Counts) → is_passed info d ≡ false → counts ≡ counts_among info (before info d)
    → lowest (limit_rule (both_counts counts (counts_of info d)) ∷ tag_rule info d (what d) ∷ []) ≡ entry_rule info d
rule_is info d counts h g =
    ap (λ r. lowest (r ∷ tag_rule info d (what d) ∷ [])) (count_is info d counts g)
    ∙ sym (ap (λ b. if b then None else lowest (count_rule info d ∷ tag_rule info d (what d) ∷ [])) h)

pub no_rule : (s : Spot) (r : Option ℕ) → fault_of (item_at s r) ≡ None → r ≡ None
no_rule s None h = refl
no_rule s (Some r) h = absurd (cc)

first_none : (r s : Option ℕ) → lowest (r ∷ s ∷ []) ≡ None → r ≡ None
first_none None s h = refl
first_none (Some r) None h = absurd (cc)
first_none (Some r) (Some s) h = absurd (cc)

not_past : (b : Bool) → (if b then Some too_many else None) ≡ None → b ≡ false
not_past true h = absurd (cc)
not_past false h = refl

-- an entry that isn't passed over and breaks no rule
pub are_with : (info : Info) (d : Die) (counts after : Counts) (rule : Option ℕ) (s : Spot) → is_passed info d ≡ false → counts ≡ counts_among info (before info d) → after ≡ both_counts counts (counts_of info d)
    → rule ≡ lowest (limit_rule after ∷ tag_rule info d (what d) ∷ []) → fault_of (item_at s rule) ≡ None → AreWith info d counts after
are_with info d counts after rule s passed so with is none =
    let low = sym is ∙ no_rule s rule none in
    record {
      sound = sym (rule_is info d counts passed so) ∙ ap (λ c. lowest (limit_rule c ∷ tag_rule info d (what d) ∷ [])) (sym with) ∙ low;
      counts = with;
      within = not_past (are_past after) (first_none (limit_rule after) (tag_rule info d (what d)) low);
    }

no_and : (a b : Bool) → (a && (b && false)) ≡ false
no_and true true = refl
no_and true false = refl
no_and false b = refl

-- an entry that is passed over adds nothing
no_type : (info : Info) (d : Die) → is_passed info d ≡ true → types_of info d ≡ 0
no_type info d h = ap (λ b. one_if (passes is_numbered (what d) && (not (is_inner_structure d) && not b))) h ∙ ap one_if (no_and (passes is_numbered (what d)) (not (is_inner_structure d)))

no_part : (info : Info) (d : Die) → is_passed info d ≡ true → parts_of info d ≡ 0
no_part info d h = ap (λ b. if b then 0 else parts_by info d (what d)) h

no_variable : (info : Info) (d : Die) → is_passed info d ≡ true → variables_of info d ≡ 0
no_variable info d h = ap (λ b. one_if (passes is_variable_tag (what d) && (not (is_in_function d) && not b))) h ∙ ap one_if (no_and (passes is_variable_tag (what d)) (not (is_in_function d)))

abbrev made : ℕ → ℕ → ℕ → Counts
made t p v = record { types = t; parts = p; variables = v }

with_none : (c : Counts) (t p v : ℕ) → t ≡ 0 → p ≡ 0 → v ≡ 0 → c ≡ both_counts c (made t p v)
with_none c t p v f g h =
    let types : c.types ≡ c.types + t = omega (arith, f) in
    let parts : c.parts ≡ c.parts + p = omega (arith, g) in
    let variables : c.variables ≡ c.variables + v = omega (arith, h) in
    ap (λ n. made n c.parts c.variables) types ∙ ap (λ n. made (c.types + t) n c.variables) parts ∙ ap (made (c.types + t) (c.parts + p)) variables

pub passed_over : (info : Info) (d : Die) (counts : Counts) → is_passed info d ≡ true → are_past counts ≡ false → AreWith info d counts counts
passed_over info d counts h within = record {
  sound = ap (λ b. if b then None else lowest (count_rule info d ∷ tag_rule info d (what d) ∷ [])) h;
  counts = with_none counts (types_of info d) (parts_of info d) (variables_of info d) (no_type info d h) (no_part info d h) (no_variable info d h);
  within = within;
}

-- the same fault, by an equal place and an equal rule
pub same_fault : (o p : ℕ) (r q : Option ℕ) (e : ReadErr) → o ≡ p → r ≡ q → IsFault (fault_of (item_at (in_info o) r)) e → IsFault (fault_of (item_at (in_info p) q)) e
same_fault o p r q e h g f =
    subst (λ n. IsFault (fault_of (item_at (in_info n) q)) e) h (subst (λ (x : Option ℕ). IsFault (fault_of (item_at (in_info o) x)) e) g f)

-- the lower of the rule of the counts and that of the tag is the entry's
pub low_is : (info : Info) (d : Die) (counts own after : Counts) (low limit rule : Option ℕ) → is_passed info d ≡ false → counts ≡ counts_among info (before info d) → own ≡ counts_of info d → after ≡ both_counts counts own
    → limit ≡ limit_rule after → rule ≡ tag_rule info d (what d) → low ≡ lowest (limit ∷ rule ∷ []) → low ≡ entry_rule info d
low_is info d counts own after low limit rule passed so owned with limited ruled is =
    is ∙ ap (λ (x : Option ℕ). lowest (x ∷ rule ∷ [])) (limited ∙ ap limit_rule (with ∙ ap (both_counts counts) owned)) ∙ ap (λ (x : Option ℕ). lowest (limit_rule (both_counts counts (counts_of info d)) ∷ x ∷ [])) ruled
    ∙ rule_is info d counts passed so
