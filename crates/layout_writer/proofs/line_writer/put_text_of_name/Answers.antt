use Rattle.std.proofs.Common.{subst, ◌<◌}
use Rattle.std.specs.List.{All}
use Rattle.layout_words.proofs.Named.{raw_is_name, proper_is_name}
use Rattle.layout_writer.proofs.EachLine.{on_ok}
use Rattle.layout_writer.proofs.line_writer.put_text_of_name.Goals as goal

-- the bytes of a raw name are bytes
pub returns-in-Raw-clause-name : goal.returns-in-Raw-clause-name
returns-in-Raw-clause-name c =
    let bytes = subst (All (λ b. b < 256)) c.as_bytes.ensures c.put_raw.ensures.bytes in
    on_ok c.put_raw.result (λ named. raw_is_name c.args.name.now c.in-Raw.bytes c.in-Raw.is bytes)

-- any other name is proper
pub returns-in_default-clause-name : goal.returns-in_default-clause-name
returns-in_default-clause-name c = on_ok c.rust_spelling.result (proper_is_name c.args.name.now c.in_default.not-Raw)
