-- Each operation by itself.
use Rattle.std.proofs.Common.{◌≡◌, rules, w64, to_z, of_z, refl, subst}
use Rattle.std.specs.Bool.{Decides}
use Rattle.snapshot_file.specs.declared.registers.Reg.TheVariants as regs
use Rattle.expr_bytes.specs.Places.{IsShort}
use Rattle.expr_bytes.specs.declared.place.Simple.{Simple}
use Rattle.expr_reader.proofs.order.is_alone.Goals as goal

pub returns-in-Address : goal.returns-in-Address
returns-in-Address c = rw c.in-Address.is ((λ t. (Simple.Fixed c.in-Address.field-0, refl)), (λ w. refl))

pub returns-in-Register : goal.returns-in-Register
returns-in-Register c = rw c.in-Register.is ((λ t. (Simple.Reg c.in-Register.field-0, refl)), (λ w. refl))

pub returns-in-Value : goal.returns-in-Value
returns-in-Value c = rw c.in-Value.is ((λ t. (Simple.Value c.in-Value.field-0.now, refl)), (λ w. refl))

pub returns-in-Based : goal.returns-in-Based
returns-in-Based c =
    let z = c.in-Based.n in
    let e : to_z w64 (of_z w64 z) ≡ z = search rules in
    let d : Decides c.is_short.result (IsShort z) = subst (λ n. Decides c.is_short.result (IsShort n)) e c.is_short.ensures in
    rw c.in-Based.is ((λ t. (Simple.Mem c.in-Based.field-0 z, (d.0 t, refl))), (λ w. d.1 w.1.0))

pub returns-in-Unframed : goal.returns-in-Unframed
returns-in-Unframed c =
    let z = c.in-Unframed.n in
    let e : to_z w64 (of_z w64 z) ≡ z = search rules in
    let d : Decides c.is_short-in-Unframed.result (IsShort z) = subst (λ n. Decides c.is_short-in-Unframed.result (IsShort n)) e c.is_short-in-Unframed.ensures in
    rw c.in-Unframed.is ((λ t. (Simple.Mem regs.Rbp z, (d.0 t, refl))), (λ w. d.1 w.1.0))
