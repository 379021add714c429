use Rattle.layout_type_laws.proofs.law_8.spans_follow_any.Goals as goal

pub returns-in-Some : goal.returns-in-Some
returns-in-Some c = rw c.in-Some.is c.spans_follow.ensures
