-- The sections, one after the other.
use Rattle.std.proofs.Common.{List, ℕ}
use Rattle.rv_bytes.specs.Writers.{Extends}
use Rattle.rv_bytes.proofs.Puts.{on_ok, extends_more}
use Rattle.bundle_file.proofs.Written.{dwarf_put}
use Rattle.bundle_file.proofs.write.put_dwarf.Goals as goal

-- five sections, and then more
five : (old a b c d e new : List ℕ) → Extends old a → Extends a b → Extends b c → Extends c d → Extends d e → Extends e new → Extends old new
five old a b c d e new ha hb hc hd he h = extends_more old a new ha (extends_more a b new hb (extends_more b c new hc (extends_more c d new hd (extends_more d e new he h))))

pub returns-in_err-put_section-6-clause-kept : goal.returns-in_err-put_section-6-clause-kept
returns-in_err-put_section-6-clause-kept c =
    five c.args.out.now c.put_section.new.out c.put_section-2.new.out c.put_section-3.new.out c.put_section-4.new.out c.put_section-5.new.out c.put_section-6.new.out c.put_section.ensures.kept c.put_section-2.ensures.kept c.put_section-3.ensures.kept
    c.put_section-4.ensures.kept c.put_section-5.ensures.kept c.put_section-6.ensures.kept

pub returns-in_err-put_section-7-clause-kept : goal.returns-in_err-put_section-7-clause-kept
returns-in_err-put_section-7-clause-kept c =
    five c.args.out.now c.put_section.new.out c.put_section-2.new.out c.put_section-3.new.out c.put_section-4.new.out c.put_section-5.new.out c.put_section-7.new.out c.put_section.ensures.kept c.put_section-2.ensures.kept c.put_section-3.ensures.kept
    c.put_section-4.ensures.kept c.put_section-5.ensures.kept (extends_more c.put_section-5.new.out c.put_section-6.new.out c.put_section-7.new.out c.put_section-6.ensures.kept c.put_section-7.ensures.kept)

pub returns-clause-put : goal.returns-clause-put
returns-clause-put c =
    on_ok
    (dwarf_put c.args.sections.now c.args.out.now c.put_section.new.out c.put_section-2.new.out c.put_section-3.new.out c.put_section-4.new.out c.put_section-5.new.out c.put_section-6.new.out c.put_section-7.new.out c.put_section-8.new.out
    c.in_ok-put_section.ensures.put c.in_ok-put_section-2.ensures.put c.in_ok-put_section-3.ensures.put c.in_ok-put_section-4.ensures.put c.in_ok-put_section-5.ensures.put c.in_ok-put_section-6.ensures.put c.in_ok-put_section-7.ensures.put)
    c.put_section-8.result c.put_section-8.ensures.put

pub returns-clause-kept : goal.returns-clause-kept
returns-clause-kept c =
    five c.args.out.now c.put_section.new.out c.put_section-2.new.out c.put_section-3.new.out c.put_section-4.new.out c.put_section-5.new.out c.put_section-8.new.out c.put_section.ensures.kept c.put_section-2.ensures.kept c.put_section-3.ensures.kept
    c.put_section-4.ensures.kept c.put_section-5.ensures.kept
    (extends_more c.put_section-5.new.out c.put_section-6.new.out c.put_section-8.new.out c.put_section-6.ensures.kept (extends_more c.put_section-6.new.out c.put_section-7.new.out c.put_section-8.new.out c.put_section-7.ensures.kept c.put_section-8.ensures.kept))
