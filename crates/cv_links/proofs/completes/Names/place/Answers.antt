use Rattle.std.proofs.Common.{◌∙◌, ap, option_copied}
use Rattle.cv_type_defs.specs.Records.{complete_place}
use Rattle.cv_links.specs.Named.{by_name, by_unique}
use Rattle.cv_links.specs.Seen.{head_seen}
use Rattle.cv_links.proofs.Firsts.{name_at, unique_at}
use Rattle.cv_links.proofs.completes.Names.place.Goals as goal

pub returns-in-Some : goal.returns-in-Some
returns-in-Some c = λ records are.
    let h = head_seen c.args.forward.now in
    c.copied.ensures ∙ c.get.ensures.value ∙ are.uniques c.as_bytes-text.result
    ∙ ap (λ t. complete_place records (by_unique h.leaf t)) c.as_bytes-text.ensures
    ∙ unique_at records h c.in-Some.unique.now (ap option_copied c.in-Some.is)

pub returns-in-None : goal.returns-in-None
returns-in-None c = λ records are.
    let h = head_seen c.args.forward.now in
    c.copied-in-None.ensures ∙ c.get-in-None.ensures.value ∙ are.names c.as_bytes-text-in-None.result
    ∙ ap (λ t. complete_place records (by_name h.leaf t)) c.as_bytes-text-in-None.ensures
    ∙ name_at records h (ap option_copied c.in-None.is)
