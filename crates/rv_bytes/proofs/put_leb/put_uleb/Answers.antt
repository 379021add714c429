use Rattle.std.proofs.Common.{◌-◌, subst, sym}
use Rattle.rv_bytes.specs.Numbers.{uleb}
use Rattle.rv_bytes.specs.Writers.{IsShortest, groups_bytes}
use Rattle.rv_bytes.proofs.Counts.{appends}
use Rattle.rv_bytes.proofs.Shortest.{uleb_shortest}
use Rattle.rv_bytes.proofs.put_leb.put_uleb.Goals as goal

-- as many groups as are counted are the fewest
pub returns-clause-appended : goal.returns-clause-appended
returns-clause-appended c =
    let shortest = uleb_shortest c.args.n c.group_count.result c.ranges.n.fits c.group_count.ensures in
    let same = subst (λ j. IsShortest uleb c.args.n (groups_bytes (c.group_count.result - 1) j)) (sym c.from.ensures) shortest in
    appends uleb c.args.n _ _ _ c.put_groups.result same c.put_groups.ensures.appended
