use Rattle.std.proofs.Common.{◌∙◌}
use Rattle.std.specs.Str.{valid_up_to}
use Rattle.readers.proofs.Text.{text_from_cases}
use Rattle.readers.proofs.utf8.is_text.Goals as goal

pub returns : goal.returns
returns c = c.is_ok.ensures.value ∙ text_from_cases c.args.bytes.now valid_up_to c.from_utf8.result c.from_utf8.ensures.cases
