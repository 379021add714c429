use Rattle.std.proofs.Common.{◌≡◌, take, map}
use Rattle.layout_name_laws.specs.RustTexts.{rust_text_of}
use Rattle.layout_name_laws.proofs.rust_texts.rust_texts.Given as goal

abbrev pub invariant-loop-def : goal.invariant-loop-def
invariant-loop-def l = l.texts.items ≡ map rust_text_of (take l.def-index l.types)
