use Rattle.rv_bytes.proofs.put_leb.+fill.Given as goal

-- how many groups follow
abbrev pub decreases-fill : goal.decreases-fill
decreases-fill l = l.more
