-- The contents after the header.
use Rattle.rv_bytes.proofs.Puts.{on_ok}
use Rattle.bundle_file.proofs.Written.{in_dwarf, in_cv}
use Rattle.bundle_file.proofs.write.put_bundle.Goals as goal

pub returns-in_ok-put_header-in-Dwarf-clause-put : goal.returns-in_ok-put_header-in-Dwarf-clause-put
returns-in_ok-put_header-in-Dwarf-clause-put c =
    rw c.in-Dwarf.is (on_ok (in_dwarf c.in-Dwarf.sections c.args.out.now c.put_header.new.out c.put_dwarf.new.out c.in_ok-put_header-in-Dwarf.ensures.put) c.put_dwarf.result c.put_dwarf.ensures.put)

pub returns-in_ok-put_header-in-Cv-clause-put : goal.returns-in_ok-put_header-in-Cv-clause-put
returns-in_ok-put_header-in-Cv-clause-put c =
    rw c.in-Cv.is (on_ok (in_cv c.in-Cv.sections c.args.out.now c.put_header-in-Cv.new.out c.put_cv.new.out c.in_ok-put_header-in-Cv.ensures.put) c.put_cv.result c.put_cv.ensures.put)
