use Rattle.dbg_command.proofs.stop.tell.Goals as goal

pub returns-in-Usage : goal.returns-in-Usage
returns-in-Usage g c = rw c.in-Usage.is c.tell_text.ensures

pub returns-in-LayoutLine : goal.returns-in-LayoutLine
returns-in-LayoutLine g c = rw (c.in-LayoutLine.is, ← c.from.ensures) c.tell_numbers.ensures

pub returns-in-LayoutLimit : goal.returns-in-LayoutLimit
returns-in-LayoutLimit g c = rw (c.in-LayoutLimit.is, ← c.count_word.ensures) c.tell_text-in-LayoutLimit.ensures

pub returns-in-Breach : goal.returns-in-Breach
returns-in-Breach g c = rw (c.in-Breach.is, ← c.from-in-Breach.ensures) c.tell_breach.ensures

pub returns-in-Outside : goal.returns-in-Outside
returns-in-Outside g c = rw c.in-Outside.is c.tell_outside.ensures

pub returns-in-SnapshotLine : goal.returns-in-SnapshotLine
returns-in-SnapshotLine g c = rw (c.in-SnapshotLine.is, ← c.from-in-SnapshotLine.ensures) c.tell_numbers-in-SnapshotLine.ensures

pub returns-in-SnapshotOverlap : goal.returns-in-SnapshotOverlap
returns-in-SnapshotOverlap g c = rw c.in-SnapshotOverlap.is c.tell_number.ensures

pub returns-in-CannotOpen : goal.returns-in-CannotOpen
returns-in-CannotOpen g c = rw (c.in-CannotOpen.is, ← c.as_bytes.ensures.value) c.tell_text-in-CannotOpen.ensures

pub returns-in-TooManyBytes : goal.returns-in-TooManyBytes
returns-in-TooManyBytes g c = rw (c.in-TooManyBytes.is, ← c.as_bytes-in-TooManyBytes.ensures.value) c.tell_text-in-TooManyBytes.ensures

pub returns-in-NotYet : goal.returns-in-NotYet
returns-in-NotYet g c = rw c.in-NotYet.is c.tell_text-in-NotYet.ensures

pub returns-in-ReadFault : goal.returns-in-ReadFault
returns-in-ReadFault g c = rw c.in-ReadFault.is c.tell_text-in-ReadFault.ensures

pub returns-in-WriteFault : goal.returns-in-WriteFault
returns-in-WriteFault g c = rw c.in-WriteFault.is c.tell_text-in-WriteFault.ensures

pub returns-in-Memory : goal.returns-in-Memory
returns-in-Memory g c = rw c.in-Memory.is c.tell_text-in-Memory.ensures
