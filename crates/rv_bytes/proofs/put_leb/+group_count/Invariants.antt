use Rattle.rv_bytes.proofs.put_leb.+group_count.Given as goal

-- the number whose groups are counted
abbrev pub decreases-group_count : goal.decreases-group_count
decreases-group_count l = l.n
