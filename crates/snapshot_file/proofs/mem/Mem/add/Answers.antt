use Rattle.snapshot_file.proofs.Adding.{put_apart, put_adds}
use Rattle.snapshot_file.proofs.mem.Mem.add.Goals as goal

pub invariant_of-self-2 : goal.invariant_of-self-2
invariant_of-self-2 c =
    let none = rw (← c.self.view_is) at c.requires.behind in
    (rw c.in_ok-put_run.ensures.run (put_apart _ c.args.at c.args.bytes.now c.self.invariant.0 none c.if-is_empty.false c.is_empty.ensures c.requires.fits), c.put_run.ensures.filled)

pub returns-clause-apart : goal.returns-clause-apart
returns-clause-apart c =
    let none = rw (← c.self.view_is) at c.requires.behind in
    rw c.in_ok-put_run.ensures.run (put_apart _ c.args.at c.args.bytes.now c.self.invariant.0 none c.if-is_empty.false c.is_empty.ensures c.requires.fits)

pub returns-clause-added : goal.returns-clause-added
returns-clause-added c =
    let none = rw (← c.self.view_is) at c.requires.behind in
    λ a. rw (c.in_ok-put_run.ensures.run, ← c.self.view_is) (put_adds _ c.args.at c.args.bytes.now c.self.invariant.0 none a)
