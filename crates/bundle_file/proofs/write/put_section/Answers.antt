-- The length, and then the bytes.
use Rattle.std.proofs.Common.{◌≡◌, ◌++◌, length, OnOk, subst}
use Rattle.byteorder.specs.Endian.{little_bytes}
use Rattle.rv_bytes.proofs.Puts.{on_ok}
use Rattle.bundle_file.proofs.Written.{section_put}
use Rattle.bundle_file.proofs.write.put_section.Goals as goal

pub returns-clause-put : goal.returns-clause-put
returns-clause-put c =
    on_ok
    (section_put c.args.bytes.now c.args.out.now c.put_u32.new.out c.put.new.self c.requires
    (subst (λ s. c.put_u32.new.out ≡ c.args.out.now ++ little_bytes 4 (length s)) c.as_bytes-bytes.ensures c.in_ok-put_u32.ensures.appended)) c.put.result
    (subst (λ s. OnOk c.put.result (c.put.new.self ≡ c.put_u32.new.out ++ s)) c.as_bytes-bytes.ensures c.put.ensures.appended)
