use Rattle.std.proofs.Common.{◌≡◌, ◌<◌, ◌-◌, ◌*◌, ◌^◌, w64, subst, sym, ap, ◌∙◌}
use Rattle.std.proofs.lemmas.Int.{to_z-of_z}
use Rattle.rv_bytes.specs.Numbers.{sleb}
use Rattle.rv_bytes.specs.Writers.{IsShortest, IsGroupCount, groups_bytes, without_sign, in_groups}
use Rattle.rv_bytes.proofs.Counts.{appends}
use Rattle.rv_bytes.proofs.Shortest.{sleb_in_groups}
use Rattle.rv_bytes.proofs.put_leb.put_sleb.Goals as goal

-- as many groups as hold the number and its sign are the fewest
pub returns-clause-appended : goal.returns-clause-appended
returns-clause-appended c =
    let n = c.args.n in let count = c.group_count-count.result in
    let same = to_z-of_z w64 n c.ranges.n in
    let bits : c.without_sign-bits.result ≡ without_sign n = c.without_sign-bits.ensures.value ∙ ap without_sign same in
    let counted = subst (λ b. IsGroupCount (2 * b) count) bits c.group_count-count.ensures in
    let shortest = sleb_in_groups n count (subst (λ b. b < 2 ^ 63) bits c.without_sign-bits.ensures.fits) counted in
    let made : c.in_groups.result ≡ in_groups count n = c.in_groups.ensures ∙ ap (in_groups count) same in
    appends sleb n _ _ _ c.put_groups.result (subst (λ j. IsShortest sleb n (groups_bytes (count - 1) j)) (sym made) shortest) c.put_groups.ensures.appended
