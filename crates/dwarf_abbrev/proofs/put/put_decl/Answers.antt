-- The parts of a declaration, one after the other.
use Rattle.std.proofs.Common.{◌≡◌, ◌<◌, ◌^◌, ◌++◌, ◌∷◌, [], Bool, true, false, if◌then◌else◌, OnOk, refl, ◌∙◌, subst, lit<}
use Rattle.std.specs.Int.{from_bool}
use Rattle.rv_bytes.specs.Forms.{row}
use Rattle.rv_bytes.specs.Numbers.{number}
use Rattle.rv_bytes.specs.Writers.{IsPut}
use Rattle.rv_bytes.proofs.Puts.{put_number, on_ok}
use Rattle.dwarf_abbrev.specs.Tables.{pairs, end}
use Rattle.dwarf_abbrev.proofs.Written.{decl_put}
use Rattle.dwarf_abbrev.proofs.put.put_decl.Goals as goal

-- a truth value as a byte
as_number : (b : Bool) → from_bool b ≡ (if b then 1 else 0)
as_number true = refl
as_number false = refl

fits : (b : Bool) → from_bool b < 256 ^ 1
fits true = lit< tt
fits false = lit< tt

pub returns-clause-put : goal.returns-clause-put
returns-clause-put c codes f =
    let b : c.from.result ≡ (if c.args.declaration.now.children then 1 else 0) = c.from.ensures ∙ as_number c.args.declaration.now.children in
    let n : IsPut (number 1) (if c.args.declaration.now.children then 1 else 0) c.put_uleb-2.new.out c.put_u8.new.out =
    subst (λ n. IsPut (number 1) n c.put_uleb-2.new.out c.put_u8.new.out) b (put_number 1 c.from.result c.put_uleb-2.new.out c.put_u8.new.out (rw c.from.ensures (fits c.args.declaration.now.children)) c.in_ok-put_u8.ensures.appended) in
    let p : OnOk c.put_pairs.result (IsPut (row pairs false) (c.args.declaration.now.specs ++ end ∷ []) c.put_u8.new.out c.put_pairs.new.out) = subst (λ l. OnOk c.put_pairs.result (IsPut (row pairs false) (l ++ end ∷ []) c.put_u8.new.out c.put_pairs.new.out)) c.as_slice.ensures c.put_pairs.ensures.put in
    on_ok (decl_put c.args.declaration.now codes c.args.out.now c.put_uleb.new.out c.put_uleb-2.new.out c.put_u8.new.out c.put_pairs.new.out c.requires f c.in_ok-put_uleb.ensures.appended c.in_ok-put_uleb-2.ensures.appended n) c.put_pairs.result p
