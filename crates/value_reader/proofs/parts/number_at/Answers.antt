-- The number of a part is that of all its items.
use Rattle.std.proofs.Common.{◌∙◌, ◌≤◌, ◌^◌, ap, length, take, arith, lit<}
use Rattle.std.proofs.Math.Nat.{pow-le-pow_right}
use Rattle.std.proofs.Math.Seq.{take-length}
use Rattle.std.proofs.lemmas.Option.{IfSome_then}
use Rattle.snapshot_file.specs.Memory.{sub, number}
use Rattle.image_view.specs.Places.{part_of}
use Rattle.layout_values.specs.Contexts.{number_at}
use Rattle.value_reader.proofs.Places.{length-sub, length-part}
use Rattle.value_reader.proofs.parts.number_at.Goals as goal

pub returns-clause-value : goal.returns-clause-value
unfolding number_at
returns-clause-value c =
    let part = c.part_at-part.result in
    c.number.ensures.number
    ∙ ap (λ ps. number (part_of ps)) (ap (λ n. take n part) c.len.ensures ∙ take-length part)
    ∙ ap number (c.part_at-part.ensures ∙ ap (λ o. sub (part_of c.args.image.now) o c.args.width) c.from.ensures)

pub returns-clause-bound : goal.returns-clause-bound
returns-clause-bound c =
    let part = c.part_at-part.result in
    let short : length (part_of part) ≤ c.args.width = rw c.part_at-part.ensures (length-sub (part_of c.args.image.now) _ c.args.width) in
    let le : c.len.result ≤ c.args.width = omega (arith, c.len.ensures, short, length-part part) in
    let pow : 256 ^ c.len.result ≤ 256 ^ c.args.width = pow-le-pow_right {n = 256} (lit< tt) {i = c.len.result} {j = c.args.width} le in
    IfSome_then c.number.result c.number.ensures.bound (λ n h. omega (arith, h, pow))
