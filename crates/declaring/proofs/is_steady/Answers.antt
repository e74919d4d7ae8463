use mathlib.Core.Path.{◌≡◌, sym, ◌∙◌}
use mathlib.Core.Bool.{false}
use Prim.Native.Nat.{ℕ, ◌≤◌}
use native.Mathlib.Omega.{arith}
use borrow.Author.Tests.{eqb-true}
use lib.ListN.{length, get_or}
use Rattle.octets.specs.Pick.{pick}
use Rattle.model.specs.Applicant.{ApplicantEvent, join, lv, step}
use Rattle.applicants.specs.declared.Applicant.{Applicant}
use Rattle.applicants.specs.Octets.{octet, applicant}
use Rattle.applicants.proofs.Octets.{step_read, as_octet}
use Rattle.declaring.specs.Octets.{decided_octets}
use Rattle.declaring.proofs.Machines.{steady-declared, steady-withdrawn}
use Rattle.declaring.proofs.is_steady.Goals as goal

-- the octet stays, where its machine's next octet is the same
still : (e : ApplicantEvent) (n m : ℕ) (a b : Applicant) → a ≡ applicant n → octet b ≡ step false e (octet a) → m ≡ octet b → m ≡ n → step false e n ≡ n
still e n m a b p q r s = sym (step_read false e n) ∙ rw (← p) (sym q ∙ sym r ∙ s)

pub returns-then-declared : goal.returns-then-declared
unfolding decided_octets pick
returns-then-declared c =
    let a = c.args in
    let n : ℕ = get_or a.machine.now 0 0 in
    let j : step false join n ≡ n = still join n _ _ _ c.from-state.ensures c.joined.ensures (as_octet c.joined.result) c.if-joined-machine.false in
    λ e. rw c.if-declared.true
    (steady-declared a.machine.now a.first.now a.rest.now c.requires j _ _ c.is_same.ensures c.is_same-then-declared.ensures e)

pub returns : goal.returns
unfolding decided_octets pick
returns c =
    let s = c.args.machine.now in
    let some : 1 ≤ length s = omega (arith, c.requires) in
    λ e. rw c.if-declared.false
    (steady-withdrawn s some (still lv _ _ _ _ c.from-state.ensures c.left.ensures (as_octet c.left.result) (eqb-true _ _ e)))
