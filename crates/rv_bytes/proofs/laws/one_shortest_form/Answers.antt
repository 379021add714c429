use Rattle.rv_bytes.proofs.Shortest.{one_uleb, one_sleb}
use Rattle.rv_bytes.proofs.laws.one_shortest_form.Goals as goal

-- two shortest spellings are of one length, and so have the same groups
pub returns : goal.returns
returns c = (one_uleb, one_sleb)
