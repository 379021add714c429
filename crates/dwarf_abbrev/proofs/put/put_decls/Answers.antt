-- One declaration more, and the code 0 after all.
use Rattle.std.proofs.Common.{take}
use Rattle.rv_bytes.proofs.Puts.{on_ok}
use Rattle.dwarf_abbrev.proofs.Written.{fresh_at, decls_more, decls_whole}
use Rattle.dwarf_abbrev.specs.Declarations.{codes_of}
use Rattle.dwarf_abbrev.proofs.put.put_decls.Goals as goal

pub loop-declaration-preserved : goal.loop-declaration-preserved
loop-declaration-preserved c =
    decls_more c.args.list.now c.loop-declaration.declaration-index c.declaration-item.result c.args.out.now c.loop-declaration.out c.put_decl.new.out c.loop-declaration-test.true c.declaration-item.is c.loop-declaration.invariant
    (c.in_ok-put_decl.ensures.put (codes_of (take c.loop-declaration.declaration-index c.args.list.now)) (fresh_at c.args.list.now c.loop-declaration.declaration-index c.declaration-item.result c.requires.codes c.loop-declaration-test.true c.declaration-item.is))

pub returns-clause-put : goal.returns-clause-put
returns-clause-put c = on_ok (decls_whole c.args.list.now c.loop-declaration.declaration-index c.args.out.now c.loop-declaration.out c.put_uleb.new.out c.loop-declaration-test.false c.requires.codes.1 c.loop-declaration.invariant) c.put_uleb.result c.put_uleb.ensures.appended
