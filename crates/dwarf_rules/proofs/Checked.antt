-- The entries that were checked, and those that are left.
use Rattle.std.proofs.Common.{◌≡◌, ℕ, List, [], ◌∷◌, ◌++◌, map, filter, nat_lt, sum_by, ◌+◌, false, Option, None, refl, sym, ap, subst, ◌∙◌, append_assoc}
use Rattle.std.specs.Option.{option_or}
use Rattle.std.proofs.lemmas.List.Sums.{sum_by_push}
use Rattle.layout_set.specs.declared.refusal.ReadErr.{ReadErr}
use Rattle.dwarf_entries.specs.Counts.{before, parts_of, types_of, variables_of}
use Rattle.dwarf_entries.specs.Dies.{Die, Info}
use Rattle.dwarf_entries.specs.Items.{Spot, fault_of, first_fault, in_info, item_at}
use Rattle.dwarf_entries.specs.PassC.{entry_rule, pass_c}
use Rattle.dwarf_dies.specs.Handles.{DieIn, among}
use Rattle.dwarf_dies.specs.Laws.{AreLinked}
use Rattle.dwarf_items.specs.Answers.{IsFault}
use Rattle.dwarf_rules.specs.Counts.{AreWith, are_past, both_counts, counts_among, counts_of}
use Rattle.dwarf_rules.specs.declared.counts.Counts.{Counts}
use Rattle.dwarf_rules.proofs.EntryOrder.{Rise, before_are}

abbrev fault_among : Info → List Die → Option (ℕ × Spot)
fault_among info l = first_fault (map (λ d. item_at (in_info d.entry.offset) (entry_rule info d)) l)

-- of all entries those that are left, and what those before them add; none of these breaks a rule
pub record AreDone (info : Info) (rest : List DieIn) (counts : Counts) : Type 0 where
  pub done : List Die
  pub left : List Die
  pub all : info.dies ≡ done ++ left
  pub rest_are : rest ≡ map (among info) left
  pub sound : first_fault (pass_c info) ≡ fault_among info left
  pub counts_are : counts ≡ counts_among info done
  pub within : are_past counts ≡ false

pub none_done : (info : Info) (rest : List DieIn) → rest ≡ map (among info) info.dies → AreDone info rest (record { types = 0; parts = 0; variables = 0 })
none_done info rest h = record { done = []; left = info.dies; all = refl; rest_are = h; sound = refl; counts_are = refl; within = refl }

-- the same, where an entry comes next
pub record IsNext (info : Info) (rest : List DieIn) (a : DieIn) (counts : Counts) : Type 0 where
  pub done : List Die
  pub left : List Die
  pub all : info.dies ≡ done ++ a.die ∷ left
  pub here : a.info ≡ info
  pub rest_are : rest ≡ map (among info) left
  pub sound : first_fault (pass_c info) ≡ fault_among info (a.die ∷ left)
  pub counts_are : counts ≡ counts_among info done
  pub within : are_past counts ≡ false

pub next : (info : Info) (l rest : List DieIn) (a : DieIn) (counts : Counts) → AreDone info l counts → l ≡ a ∷ rest → IsNext info rest a counts
next info l rest a counts s h = by_left s.left refl
  where
    by_left : (left : List Die) → s.left ≡ left → IsNext info rest a counts
    by_left [] e =
        let same : ◌≡◌ {A = List DieIn} (a ∷ rest) [] = sym h ∙ s.rest_are ∙ ap (map (among info)) e in
        absurd (cc)
    by_left (d ∷ left) e =
        let same : ◌≡◌ {A = List DieIn} (a ∷ rest) (among info d ∷ map (among info) left) = sym h ∙ s.rest_are ∙ ap (map (among info)) e in
        let is : a ≡ among info d = cc in
        let others : rest ≡ map (among info) left = cc in
        let die_is : d ≡ a.die = sym (ap (λ (x : DieIn). x.die) is) in
        record {
          done = s.done;
          left = left;
          all = s.all ∙ ap (λ (x : List Die). s.done ++ x) e ∙ ap (λ (x : Die). s.done ++ x ∷ left) die_is;
          here = ap (λ (x : DieIn). x.info) is;
          rest_are = others;
          sound = s.sound ∙ ap (fault_among info) e ∙ ap (λ (x : Die). fault_among info (x ∷ left)) die_is;
          counts_are = s.counts_are;
          within = s.within;
        }

-- what comes before the next entry is what was done
pub counts_before : (info : Info) (rest : List DieIn) (a : DieIn) (counts : Counts) → AreLinked info → IsNext info rest a counts → counts ≡ counts_among info (before info a.die)
counts_before info rest a counts laws n =
    n.counts_are ∙ sym (ap (counts_among info) (ap (filter (λ o. nat_lt o.entry.offset a.die.entry.offset)) n.all ∙ before_are n.done a.die n.left (subst Rise n.all laws.rising)))

abbrev made : ℕ → ℕ → ℕ → Counts
made t p v = record { types = t; parts = p; variables = v }

with_one : (info : Info) (l : List Die) (d : Die) → both_counts (counts_among info l) (counts_of info d) ≡ counts_among info (l ++ d ∷ [])
with_one info l d =
    let all : List Die = l ++ d ∷ [] in
    sym (ap (λ n. made n (sum_by (parts_of info) all) (sum_by (variables_of info) all)) (sum_by_push (types_of info) l d)
    ∙ ap (λ n. made (sum_by (types_of info) l + types_of info d) n (sum_by (variables_of info) all)) (sum_by_push (parts_of info) l d)
    ∙ ap (made (sum_by (types_of info) l + types_of info d) (sum_by (parts_of info) l + parts_of info d)) (sum_by_push (variables_of info) l d))

-- an entry that breaks no rule is done
pub more_done : (info : Info) (rest : List DieIn) (a : DieIn) (counts after : Counts) → IsNext info rest a counts → AreWith info a.die counts after → AreDone info rest after
more_done info rest a counts after n w = record {
  done = n.done ++ a.die ∷ [];
  left = n.left;
  all = n.all ∙ sym (append_assoc n.done (a.die ∷ []) n.left);
  rest_are = n.rest_are;
  sound = n.sound ∙ ap (λ r. option_or (fault_of (item_at (in_info a.die.entry.offset) r)) (fault_among info n.left)) w.sound;
  counts_are = w.counts ∙ ap (λ c. both_counts c (counts_of info a.die)) n.counts_are ∙ with_one info n.done a.die;
  within = w.within;
}

-- one that breaks a rule is the first
pub stops : (info : Info) (rest : List DieIn) (a : DieIn) (counts : Counts) (e : ReadErr) → IsNext info rest a counts → IsFault (fault_of (item_at (in_info a.die.entry.offset) (entry_rule info a.die))) e
    → IsFault (first_fault (pass_c info)) e
stops info rest a counts (ReadErr.Refused r) n h = n.sound ∙ ap (λ (o : Option (ℕ × Spot)). option_or o (fault_among info n.left)) h
stops info rest a counts ReadErr.Memory n h = tt

-- after the last entry none breaks a rule
pub all_done : (info : Info) (rest : List DieIn) (counts : Counts) → AreDone info rest counts → rest ≡ [] → first_fault (pass_c info) ≡ None
all_done info rest counts s h = by_left s.left refl
  where
    by_left : (left : List Die) → s.left ≡ left → first_fault (pass_c info) ≡ None
    by_left [] e = s.sound ∙ ap (fault_among info) e
    by_left (d ∷ left) e =
        let same : ◌≡◌ {A = List DieIn} [] (among info d ∷ map (among info) left) = sym h ∙ s.rest_are ∙ ap (map (among info)) e in
        absurd (cc)
