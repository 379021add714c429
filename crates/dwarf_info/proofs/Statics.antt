-- How the list of statics grows, entry by entry.
use Rattle.std.proofs.Common.{◌≡◌, List, [], ◌∷◌, ◌++◌, map, filter, cond, Bool, true, false, refl, sym, ap, ◌∙◌, append-nil}
use Rattle.layout_set.specs.declared.set.Static.{Static}
use Rattle.dwarf_entries.specs.Dies.{Die, Info}
use Rattle.dwarf_entries.specs.Statics.{is_static, static_of}
use Rattle.dwarf_dies.specs.Handles.{DieIn, among}

-- the statics of some entries
abbrev statics_of : Info → List Die → List Static
statics_of info ds = map (static_of info) (filter (is_static info) ds)

-- these entries are left, and the statics so far with those of these are all
pub record AreLeft (info : Info) (so_far : List Static) (left : List DieIn) : Type 0 where
  pub dies : List Die
  pub left_is : left ≡ map (among info) dies
  pub all : so_far ++ statics_of info dies ≡ statics_of info info.dies

pub none_yet : (info : Info) (so_far : List Static) (left : List DieIn) → so_far ≡ [] → left ≡ map (among info) info.dies → AreLeft info so_far left
none_yet info so_far left none is = record { dies = info.dies; left_is = is; all = ap (λ (l : List Static). l ++ statics_of info info.dies) none }

-- the next entry, and those after it
record IsNext (info : Info) (so_far : List Static) (a : DieIn) (rest : List DieIn) : Type 0 where
  more : List Die
  here : a ≡ among info a.die
  rest_is : rest ≡ map (among info) more
  all : so_far ++ statics_of info (a.die ∷ more) ≡ statics_of info info.dies

next_by : (info : Info) (so_far : List Static) (a : DieIn) (rest : List DieIn) (dies : List Die) → a ∷ rest ≡ map (among info) dies → so_far ++ statics_of info dies ≡ statics_of info info.dies → IsNext info so_far a rest
next_by info so_far a rest [] h all = absurd (cc)
next_by info so_far a rest (d ∷ dies) h all =
    let same : a ≡ among info d = cc in
    let others : rest ≡ map (among info) dies = cc in
    let die : a.die ≡ d = ap (λ (x : DieIn). x.die) same in
    record {
      more = dies;
      here = same ∙ ap (among info) (sym die);
      rest_is = others;
      all = ap (λ (x : Die). so_far ++ statics_of info (x ∷ dies)) die ∙ all;
    }

is_next : (info : Info) (so_far : List Static) (a : DieIn) (rest : List DieIn) → AreLeft info so_far (a ∷ rest) → IsNext info so_far a rest
is_next info so_far a rest h = next_by info so_far a rest h.dies h.left_is h.all

pub next_here : (info : Info) (so_far : List Static) (a : DieIn) (rest : List DieIn) → AreLeft info so_far (a ∷ rest) → a.info ≡ info
next_here info so_far a rest h = ap (λ (x : DieIn). x.info) (is_next info so_far a rest h).here

joined : (xs : List Static) (y : Static) (ys : List Static) → (xs ++ y ∷ []) ++ ys ≡ xs ++ y ∷ ys
joined [] y ys = refl
joined (x ∷ xs) y ys = ap (λ (l : List Static). x ∷ l) (joined xs y ys)

abbrev with_one : Info → Die → List Die → Bool → List Static
with_one info d more b = map (static_of info) (cond b (d ∷ filter (is_static info) more) (filter (is_static info) more))

pub one_more : (info : Info) (so_far new : List Static) (a : DieIn) (rest : List DieIn) (s : Static) → AreLeft info so_far (a ∷ rest) → is_static a.info a.die ≡ true → s ≡ static_of info a.die → new ≡ so_far ++ s ∷ []
    → AreLeft info new rest
one_more info so_far new a rest s h test is made =
    let n = is_next info so_far a rest h in
    let passes : is_static info a.die ≡ true = ap (λ i. is_static i a.die) (sym (next_here info so_far a rest h)) ∙ test in
    record {
      dies = n.more;
      left_is = n.rest_is;
      all =
          ap (λ (l : List Static). l ++ statics_of info n.more) made ∙ joined so_far s (statics_of info n.more)
          ∙ ap (λ (x : Static). so_far ++ x ∷ statics_of info n.more) is ∙ ap (λ b. so_far ++ with_one info a.die n.more b) (sym passes) ∙ n.all;
    }

pub no_more : (info : Info) (so_far : List Static) (a : DieIn) (rest : List DieIn) → AreLeft info so_far (a ∷ rest) → is_static a.info a.die ≡ false → AreLeft info so_far rest
no_more info so_far a rest h test =
    let n = is_next info so_far a rest h in
    let fails : is_static info a.die ≡ false = ap (λ i. is_static i a.die) (sym (next_here info so_far a rest h)) ∙ test in
    record { dies = n.more; left_is = n.rest_is; all = ap (λ b. so_far ++ with_one info a.die n.more b) (sym fails) ∙ n.all }

done_by : (info : Info) (so_far : List Static) (dies : List Die) → [] ≡ map (among info) dies → so_far ++ statics_of info dies ≡ statics_of info info.dies → so_far ≡ statics_of info info.dies
done_by info so_far [] h all = sym (append-nil so_far) ∙ all
done_by info so_far (d ∷ dies) h all = absurd (cc)

pub all_done : (info : Info) (so_far : List Static) (left : List DieIn) → left ≡ [] → AreLeft info so_far left → so_far ≡ statics_of info info.dies
all_done info so_far left is h = done_by info so_far h.dies (sym is ∙ h.left_is) h.all
