-- The parts of the header, one after the other.
use Rattle.std.proofs.Common.{◌≡◌, ◌++◌, subst}
use Rattle.byteorder.specs.Endian.{little_bytes}
use Rattle.rv_bytes.proofs.Puts.{on_ok}
use Rattle.bundle_file.proofs.Written.{header_put}
use Rattle.bundle_file.proofs.write.put_header.Goals as goal

pub returns-clause-put : goal.returns-clause-put
returns-clause-put c =
    on_ok
    (header_put c.args.format c.args.out.now c.put.new.self c.put_u8.new.out c.put_u8-2.new.out c.put_u16.new.out c.in_ok-put.ensures.appended
    (subst (λ n. c.put_u8.new.out ≡ c.put.new.self ++ little_bytes 1 n) c.number_of.ensures c.in_ok-put_u8.ensures.appended) c.in_ok-put_u8-2.ensures.appended) c.put_u16.result c.put_u16.ensures.appended
