use Rattle.std.proofs.Common.{◌≡◌, drop}
use Rattle.names.specs.Reading.{literal}
use Rattle.names.proofs.rest.Rest.literal.Given as goal

-- what remains of the literal is read from here as the whole was from the start
abbrev pub invariant-loop-byte : goal.invariant-loop-byte
invariant-loop-byte l = (literal (drop l.byte-index l.bytes)).read l.self ≡ (literal l.bytes).read l.fn.self
