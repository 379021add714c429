-- What a file that was fetched leads to is what its bytes lead to.
use Rattle.std.proofs.Common.{◌≡◌, ◌≤◌, ℕ, List, [], length, Bool, true, false, nat_lt, Option, Some, None, Result, Ok, Err, IfSome, refl, sym, subst, arith}
use Rattle.std.proofs.lemmas.Bool.Decides.{nat_tests}
use Rattle.rv_io.specs.Files.{Files, file}
use Rattle.dbg_command.specs.Answers.{Ending, WithFile, WithinLimit}
use Rattle.dbg_command.specs.Runs.{Gives, HasFile, Stops}
use Rattle.dbg_command.specs.Stops.{status_of, message}
use Rattle.dbg_command.specs.declared.stop.Stop.{Stop}
use Rattle.dbg_command.specs.declared.stop.Stop.TheVariants as stops

within : (name : List ℕ) (long : Bool) (E : Ending) (s : ℕ) (o m : List ℕ) → long ≡ false → E s o m → WithinLimit name long E s o m
within name true E s o m short h = absurd (grind (arith, short))
within name false E s o m short h = h

entered : (name : List ℕ) (limit : ℕ) (Next : List ℕ → Ending) (found : Option (List ℕ)) (bytes : List ℕ) (s : ℕ) (o m : List ℕ) → found ≡ Some bytes → length bytes ≤ limit → Next bytes s o m → WithFile name limit Next found s o m
entered name limit Next found bytes s o m is short h =
    let fits : nat_lt limit (length bytes) ≡ false = grind (arith, nat_tests, short) in
    subst (λ x. WithFile name limit Next x s o m) (sym is) (within name (nat_lt limit (length bytes)) (Next bytes) s o m fits h)

-- the same of a told file, after which no fault is taken back
pub fetched_gives : (told : Option Files) (name found : List ℕ) (limit before mid now : ℕ) (Next : Files → List ℕ → Ending) (Is : Files → Ending) (r : Result (List ℕ) Stop)
    → HasFile told name (λ bytes. (bytes ≡ found) × (length bytes ≤ limit)) → before ≤ mid
    → ((files : Files) (s : ℕ) (o m : List ℕ) → Is files s o m → Next files found s o m)
    → Gives told Is mid now r → Gives told (λ files. WithFile name limit (Next files) (file files name)) before now r
fetched_gives told name found limit before mid now Next Is r has later leads h = by_result r h
  where
    enter : (told : Option Files) (s : ℕ) (o m : List ℕ) → HasFile told name (λ bytes. (bytes ≡ found) × (length bytes ≤ limit))
        → IfSome told (λ files. Is files s o m) → IfSome told (λ files. WithFile name limit (Next files) (file files name) s o m)
    enter None s o m has h = tt
    enter (Some files) s o m has h = entered name limit (Next files) (file files name) has.0 s o m has.1 has.2.1 (subst (λ b. Next files b s o m) (sym has.2.0) (leads files s o m h))

    by_stop : (stop : Stop) → Stops told Is mid now stop → Stops told (λ files. WithFile name limit (Next files) (file files name)) before now stop
    by_stop stops.ReadFault h = omega (arith, h, later)
    by_stop stops.WriteFault h = h
    by_stop stops.Memory h = h
    by_stop stops.Usage h = enter told 2 [] (message stops.Usage) has h
    by_stop (stops.LayoutLine l r) h = enter told 1 [] (message (stops.LayoutLine l r)) has h
    by_stop (stops.LayoutLimit w) h = enter told 1 [] (message (stops.LayoutLimit w)) has h
    by_stop (stops.Breach k at) h = enter told 1 [] (message (stops.Breach k at)) has h
    by_stop (stops.Outside r) h = enter told 1 [] (message (stops.Outside r)) has h
    by_stop (stops.SnapshotLine l r) h = enter told 1 [] (message (stops.SnapshotLine l r)) has h
    by_stop (stops.SnapshotOverlap l) h = enter told 1 [] (message (stops.SnapshotOverlap l)) has h
    by_stop (stops.CannotOpen n) h = enter told 1 [] (message (stops.CannotOpen n)) has h
    by_stop (stops.TooManyBytes n) h = enter told 1 [] (message (stops.TooManyBytes n)) has h
    by_stop stops.NotYet h = enter told 1 [] (message stops.NotYet) has h

    by_result : (r : Result (List ℕ) Stop) → Gives told Is mid now r → Gives told (λ files. WithFile name limit (Next files) (file files name)) before now r
    by_result (Ok output) h = enter told 0 output [] has h
    by_result (Err stop) h = by_stop stop h
