-- An Applicant read from its octet: the table's entries are those of the octet, also above 6, and up to 6 the octet is read back.
use mathlib.Core.Path.{◌≡◌, refl, sym, ap}
use mathlib.Core.Bool.{Bool, false}
use Prim.Native.Nat.{ℕ, zero, suc, ◌≤◌}
use native.Mathlib.Omega.{arith}
use lib.Dec.{eqb}
use borrow.Author.Tests.{ne_eqb}
use Rattle.model.specs.Applicant.{ApplicantState, ApplicantEvent, applicant_entry, is_written, message_number, state_of, octet_of, step, asks, event_at}
use denote.Enum.Declared.{tag_of}
use Rattle.applicants.specs.contracts.Applicant.{the_type}
use Rattle.applicants.specs.declared.Applicant.{Applicant}
use Rattle.applicants.specs.declared.Applicant.TheVariants.{None, Vp, Vn, An, Aa, Qa, La}
use Rattle.applicants.specs.Octets.{octet, applicant}

state-read : (n : ℕ) → state_of (octet (applicant n)) ≡ state_of n
unfolding applicant state_of
state-read zero = refl
state-read (suc zero) = refl
state-read (suc (suc zero)) = refl
state-read (suc (suc (suc zero))) = refl
state-read (suc (suc (suc (suc zero)))) = refl
state-read (suc (suc (suc (suc (suc zero))))) = refl
state-read (suc (suc (suc (suc (suc (suc n)))))) = refl

pub step_read : (r : Bool) (e : ApplicantEvent) (n : ℕ) → step r e (octet (applicant n)) ≡ step r e n
unfolding step
step_read r e n = ap (λ (x : ApplicantState). octet_of (applicant_entry r e x).next) (state-read n)

pub asks_read : (e : ApplicantEvent) (n : ℕ) → asks e (octet (applicant n)) ≡ asks e n
unfolding asks
asks_read e n = ap (λ (x : ApplicantState). is_written (applicant_entry false e x).sends) (state-read n)

pub event_read : (r : Bool) (e : ApplicantEvent) (n : ℕ) → event_at r e (octet (applicant n)) ≡ event_at r e n
unfolding event_at
event_read r e n = ap (λ (x : ApplicantState). message_number r (applicant_entry r e x).sends) (state-read n)

pub none_read : (n : ℕ) → eqb (octet (applicant n)) 0 ≡ eqb n 0
unfolding applicant
none_read zero = refl
none_read (suc zero) = refl
none_read (suc (suc zero)) = refl
none_read (suc (suc (suc zero))) = refl
none_read (suc (suc (suc (suc zero)))) = refl
none_read (suc (suc (suc (suc (suc zero))))) = refl
none_read (suc (suc (suc (suc (suc (suc n)))))) = sym (ne_eqb (suc (suc (suc (suc (suc (suc n)))))) 0 (λ e. omega (arith, e)))

pub octet_read : (n : ℕ) → n ≤ 6 → octet (applicant n) ≡ n
unfolding applicant
octet_read zero h = refl
octet_read (suc zero) h = refl
octet_read (suc (suc zero)) h = refl
octet_read (suc (suc (suc zero))) h = refl
octet_read (suc (suc (suc (suc zero)))) h = refl
octet_read (suc (suc (suc (suc (suc zero))))) h = refl
octet_read (suc (suc (suc (suc (suc (suc n)))))) h = omega arith

-- its number in the code
pub as_octet : (a : Applicant) → tag_of the_type a ≡ octet a
as_octet None = refl
as_octet Vp = refl
as_octet Vn = refl
as_octet An = refl
as_octet Aa = refl
as_octet Qa = refl
as_octet La = refl
