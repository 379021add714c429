-- The bases and the sections, one after the other.
use Rattle.std.proofs.Common.{◌<◌, ◌^◌, arith}
use Rattle.rv_bytes.proofs.Puts.{on_ok}
use Rattle.bundle_file.proofs.Written.{base_put, cv_put}
use Rattle.bundle_file.proofs.write.put_cv.Goals as goal

pub returns-clause-put : goal.returns-clause-put
returns-clause-put c =
    let s = c.args.sections.now in
    let code : s.code_base < 2 ^ 64 = omega arith in
    let d : s.data_base < 2 ^ 64 = omega arith in
    on_ok
    (cv_put s c.args.out.now c.put_u64.new.out c.put_u64-2.new.out c.put_section.new.out c.put_section-2.new.out (base_put s.code_base c.args.out.now c.put_u64.new.out code c.in_ok-put_u64.ensures.appended)
    (base_put s.data_base c.put_u64.new.out c.put_u64-2.new.out d c.in_ok-put_u64-2.ensures.appended) c.in_ok-put_section.ensures.put) c.put_section-2.result c.put_section-2.ensures.put
