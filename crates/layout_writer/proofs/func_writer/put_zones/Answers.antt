use Rattle.std.proofs.Common.{◌≡◌, ◌∙◌, sym, ap, ◌++◌, ◌∷◌, take, flat_map, arith}
use Rattle.std.proofs.lemmas.Grind.{common_steps}
use Rattle.std.proofs.lemmas.List.Elements.{All-more}
use Rattle.layout_words.specs.PlaceSpellings.{zone, zone_text, IsZone}
use Rattle.layout_words.proofs.WordLists.{words_behind}
use Rattle.layout_writer.proofs.EachLine.{each_all}
use Rattle.layout_writer.proofs.func_writer.put_zones.Goals as goal

-- one more zone is put, and its ends are within their type
pub loop-zone-preserved : goal.loop-zone-preserved
loop-zone-preserved c =
    let l = c.loop-zone in
    record {
      put = grind (arith, common_steps);
      are_zones = All-more IsZone c.args.zones.now l.zone-index _ c.loop-zone-test.true l.invariant.are_zones c.in_ok-put_zone.ensures.zone;
    }

-- all zones are put
pub returns-clause-put : goal.returns-clause-put
returns-clause-put c =
    let old = c.args.out.now in
    let all : take c.loop-zone.zone-index c.args.zones.now ≡ c.args.zones.now = grind (arith, common_steps, c.loop-zone-test.false) in
    c.loop-zone.invariant.put
    ∙ ap (λ xs. old ++ flat_map (λ x. 32 ∷ zone_text x) xs) all
    ∙ ap (λ t. old ++ t) (sym (words_behind zone c.args.zones.now))

-- the ends of all of them are within their type
pub returns-clause-zones : goal.returns-clause-zones
returns-clause-zones c =
    let l = c.loop-zone in
    each_all IsZone c.args.zones.now l.zone-index c.loop-zone-test.false l.invariant.are_zones
