-- A text that is UTF-8 is read as one.
use Rattle.std.proofs.lemmas.Str.{IsUtf8-from_is_utf8}
use Rattle.rust_value.proofs.scalars.put_quoted.Goals as goal

pub unreachable-requires : goal.unreachable-requires
unreachable-requires c = let h = IsUtf8-from_is_utf8 c.args.bytes.now c.requires in c.in_default.ensures.cases.0 h
