use Rattle.rv_bytes.proofs.leb.+count.Given as goal

-- how many groups may still come
abbrev pub decreases-count : goal.decreases-count
decreases-count l = l.more
