-- Texts that are put one after the other.
use Rattle.std.proofs.Common.{◌≡◌, ◌∙◌, sym, ap, subst, inl, inr, ℕ, ◌+◌, ◌<◌, ◌≤◌, List, [], ◌∷◌, ◌++◌, length, drop, get_or, append_assoc, Option, arith}
use Rattle.std.specs.List.{concat}
use Rattle.std.specs.Borrow.{Bor}
use Rattle.std.specs.Io.KnownBytes.{Appends}
use Rattle.std.proofs.lemmas.List.{append-nil, get_or_default}
use Rattle.std.proofs.Math.ListN.{drop_of_length-le}
use Rattle.rv_io.specs.Faults.{Rose}
use Rattle.rv_io.specs.Puts.{AppendsSome}
use Rattle.rv_io.proofs.Fronts.{appends_both, front_longer, front_shorter, rose_later}
use Rattle.rv_io.proofs.Steps.{drop_step}
use Rattle.dbg_command.specs.Runs.{Says, joined}
use Rattle.dbg_command.specs.Progress.{HasPut}

-- the next part, before those after it
behind : (parts : List (Bor (List ℕ))) (i : ℕ) (d : Bor (List ℕ)) → i < length parts → joined (drop i parts) ≡ (get_or parts i d).now ++ joined (drop (i + 1) parts)
behind parts i d h = ap joined (drop_step parts i (get_or parts i d) h (get_or_default parts i d (get_or parts i d) h))

pub put_more : (parts : List (Bor (List ℕ))) (i : ℕ) (d : Bor (List ℕ)) (old mid new : Option (List ℕ)) (before a b : ℕ) → i < length parts
    → HasPut parts i old mid before a → Appends mid new (get_or parts i d).now → a ≤ b → HasPut parts (i + 1) old new before b
put_more parts i d old mid new before a b h p q l = let part = get_or parts i d in record {
  done = p.done ++ part.now;
  split = append_assoc p.done part.now (joined (drop (i + 1) parts)) ∙ ap (λ t. p.done ++ t) (sym (behind parts i d h)) ∙ p.split;
  put = appends_both old mid new p.done part.now p.put q;
  later = let x = p.later in omega (arith, x, l);
}

pub put_failed : (parts : List (Bor (List ℕ))) (i : ℕ) (d : Bor (List ℕ)) (old mid new : Option (List ℕ)) (before a b : ℕ) → i < length parts
    → HasPut parts i old mid before a → AppendsSome mid new (get_or parts i d).now → Rose a b → Says old new before b (joined parts)
put_failed parts i d old mid new before a b h p q rose =
    let part = get_or parts i d in
    let rest = joined (drop (i + 1) parts) in
    let whole : (p.done ++ part.now) ++ rest ≡ joined parts = append_assoc p.done part.now rest ∙ ap (λ t. p.done ++ t) (sym (behind parts i d h)) ∙ p.split in
    inr (subst (AppendsSome old new) whole (front_shorter old new (p.done ++ part.now) rest (front_longer old mid new p.done part.now p.put q)), rose_later before a b p.later rose)

pub put_whole : (parts : List (Bor (List ℕ))) (i : ℕ) (old new : Option (List ℕ)) (before now : ℕ) → length parts ≤ i → HasPut parts i old new before now → Says old new before now (joined parts)
put_whole parts i old new before now past p =
    let none : joined (drop i parts) ≡ [] = ap joined (drop_of_length-le parts past) in
    inl (subst (Appends old new) (sym (append-nil p.done) ∙ ap (λ t. p.done ++ t) (sym none) ∙ p.split) p.put)

-- seven parts, one after the other
pub seven : (a b c d e f g : List ℕ) → concat (a ∷ b ∷ c ∷ d ∷ e ∷ f ∷ g ∷ []) ≡ a ++ b ++ c ++ d ++ e ++ f ++ g
seven a b c d e f g =
    sym (append_assoc a b (c ++ (d ++ (e ++ (f ++ (g ++ [])))))) ∙ sym (append_assoc (a ++ b) c (d ++ (e ++ (f ++ (g ++ [])))))
    ∙ sym (append_assoc (a ++ b ++ c) d (e ++ (f ++ (g ++ [])))) ∙ sym (append_assoc (a ++ b ++ c ++ d) e (f ++ (g ++ [])))
    ∙ sym (append_assoc (a ++ b ++ c ++ d ++ e) f (g ++ [])) ∙ ap (λ t. (a ++ b ++ c ++ d ++ e ++ f) ++ t) (append-nil g)
