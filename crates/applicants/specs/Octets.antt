-- The octet of an Applicant in the table, and the Applicant in an octet: above 6 it is LA.
use Rattle.std.specs.Prelude.{ℕ, zero, suc}
use Rattle.applicants.specs.declared.Applicant.{Applicant}
use Rattle.applicants.specs.declared.Applicant.TheVariants.{None, Vp, Vn, An, Aa, Qa, La}

abbrev pub octet : Applicant → ℕ
octet None = 0
octet Vp = 1
octet Vn = 2
octet An = 3
octet Aa = 4
octet Qa = 5
octet La = 6

unfoldable pub applicant : ℕ → Applicant
applicant zero = None
applicant (suc zero) = Vp
applicant (suc (suc zero)) = Vn
applicant (suc (suc (suc zero))) = An
applicant (suc (suc (suc (suc zero)))) = Aa
applicant (suc (suc (suc (suc (suc zero))))) = Qa
applicant (suc (suc (suc (suc (suc (suc n)))))) = La
