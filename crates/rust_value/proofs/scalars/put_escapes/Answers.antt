use Rattle.std.proofs.Common.{◌≡◌, ◌∙◌, ◌++◌, sym, ap, map, take, length, rules}
use Rattle.std.proofs.lemmas.Iterator.{YieldsList-from_chars}
use Rattle.std.proofs.lemmas.Iterator.Consumers.{YieldsList-end}
use Rattle.std.specs.List.{flat_map}
use Rattle.std.specs.Str.{chars}
use Rattle.rust_value.specs.Texts.{escaped}
use Rattle.rust_value.proofs.Items.{shorter_front}
use mathlib.Core.List.{map-id}
use Rattle.rust_value.proofs.scalars.put_escapes.Goals as goal

-- the characters so far stand after what stood before
pub returns-in_err-put_escaped-clause-front : goal.returns-in_err-put_escaped-clause-front
returns-in_err-put_escaped-clause-front c =
    let h : take (length c.args.out.now) c.put_escaped.new.out ≡ c.args.out.now =
    shorter_front _ _ _ _ c.loop-c.invariant c.in_err-put_escaped.ensures.front in
    search rules

-- at the end the characters so far are all
pub returns-clause-appended : goal.returns-clause-appended
returns-clause-appended c =
    let all = YieldsList-end
    (YieldsList-from_chars c.args.text.now c.utf8.text cc) c.loop-c.yielded _ c.loop-c.yielded_by _ _ c.in-None.is c.next.ensures.steps in
    c.loop-c.invariant ∙ ap (λ cs. c.args.out.now ++ flat_map (escaped 34) cs) (sym (map-id c.loop-c.yielded) ∙ all.0)
