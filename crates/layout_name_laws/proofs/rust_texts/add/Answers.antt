use Rattle.std.proofs.Common.{sym, ap, ◌∙◌, not, Some}
use Rattle.std.specs.Str.{bytes_eq}
use Rattle.layout_name_laws.specs.RustTexts.{is_new, texts_of}
use Rattle.layout_name_laws.proofs.Passing.{list_any_map}
use Rattle.layout_name_laws.proofs.rust_texts.add.Goals as goal

pub returns-in-Ok-clause-added : goal.returns-in-Ok-clause-added
returns-in-Ok-clause-added c =
    let texts = texts_of c.args.texts.now in
    c.in-Ok.ensures.added ∙ ap not (sym (list_any_map (bytes_eq c.as_bytes.result.now) (λ k. k.now) c.args.texts.now.keys))
    ∙ ap (λ a. is_new texts (Some a)) c.as_bytes.ensures ∙ ap (is_new texts) (sym c.in-Some.is)
