-- What is read of a part: a value, none, or an item that is needed is missing.
use Rattle.std.specs.Prelude.{List, [], ◌∷◌, ◌++◌}
use Rattle.value_reader.specs.declared.checked.Checked.{Checked}
use Rattle.value_reader.specs.declared.checked.Checked.TheVariants.{Valid, Invalid, Missing}

abbrev pub map_checked : {A B : Type 0} → (A → B) → Checked A → Checked B
map_checked f (Valid a) = Valid (f a)
map_checked f Invalid = Invalid
map_checked f Missing = Missing

-- both, where each is valid; a missing item outweighs all else
abbrev pub both : {A B C : Type 0} → (A → B → C) → Checked A → Checked B → Checked C
both f (Valid a) (Valid b) = Valid (f a b)
both f (Valid a) Invalid = Invalid
both f (Valid a) Missing = Missing
both f Invalid (Valid b) = Invalid
both f Invalid Invalid = Invalid
both f Invalid Missing = Missing
both f Missing b = Missing

-- all, in order
abbrev pub gather : {A B : Type 0} → (A → Checked B) → List A → Checked (List B)
gather f [] = Valid []
gather f (x ∷ xs) = both (λ y ys. y ∷ ys) (f x) (gather f xs)

abbrev pub append_checked : {A : Type 0} → Checked (List A) → Checked (List A) → Checked (List A)
append_checked = both (λ xs ys. xs ++ ys)

abbrev pub push_checked : {A : Type 0} → Checked (List A) → Checked A → Checked (List A)
push_checked = both (λ xs y. xs ++ y ∷ [])
