use Rattle.std.proofs.Common.{sym, subst, take, drop}
use Rattle.names.specs.Words.{IsWord}
use Rattle.names.specs.Scan.{WordEnd}
use Rattle.names.proofs.Scans.{word_is}
use Rattle.names.proofs.rest.Rest.word.Goals as goal

-- the bytes up to the word's end are a word
pub from_checked-requires : goal.from_checked-requires
from_checked-requires c =
    let text = c.self.inside.left.now in
    let end = c.in-Ok.end in
    let read = subst (WordEnd text) c.in-Ok.is c.word_end.ensures in
    subst IsWord (sym c.in_ok-from_slice-in-Ok.ensures.items) (word_is text (take end text) (drop end text) read.1)
