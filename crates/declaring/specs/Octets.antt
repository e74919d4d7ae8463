-- What an advance makes of the octets of one Applicant: its state, then the values last declared.
use Rattle.std.specs.Prelude.{◌≡◌, List, [], ◌∷◌, ◌++◌, Bool, true, false, ◌&&◌, ℕ, ◌-◌, ◌<◌, length, get_or, drop, eqb, leb}
use Rattle.octets.specs.Parts.{part, zeros}
use Rattle.octets.specs.Pick.{pick}
use Rattle.octets.specs.Fields.{packed, Fit}
use Rattle.model.specs.Layout.{failed_size, fixed_size, fixed_widths, in_result, result_size, sends_size}
use Rattle.model.specs.Applicant.{new, join, lv, step}
use Rattle.model.specs.LeaveAll.{timed_out}
use Rattle.model.specs.State.{Fixed, Result, Sender}
use Rattle.model.specs.WrittenFrames.{fixed_numbers}
use Rattle.model.specs.Table.{column_number, declared_number, result_octets}
use Rattle.model.specs.Laid.{FitResult, LaidSends}

-- values that are the same, octet by octet
unfoldable pub same_octets : List ℕ → List ℕ → Bool
same_octets [] [] = true
same_octets [] (y ∷ t) = false
same_octets (x ∷ s) [] = false
same_octets (x ∷ s) (y ∷ t) = eqb x y && same_octets s t

-- the state after Join!; where the content is another one after New!, but in VP, and where there was no machine
unfoldable pub declared_state : Bool → ℕ → ℕ
declared_state same n = pick same (step false join n) (pick (leb n 1) (step false join n) (step false new n))

-- declared with the values v
unfoldable pub declared_octets : List ℕ → List ℕ → List ℕ
declared_octets v s = declared_state (same_octets v (drop 1 s)) (get_or s 0 0) ∷ v

-- Lv!: the values stay, but zeros where the machine goes
unfoldable pub left_octets : ℕ → List ℕ → List ℕ
left_octets n s = pick (eqb n 0) (zeros (length s)) (n ∷ drop 1 s)

unfoldable pub withdrawn_octets : List ℕ → List ℕ
withdrawn_octets s = pick (eqb (get_or s 0 0) 0) s (left_octets (step false lv (get_or s 0 0)) s)

unfoldable pub decided_octets : Bool → List ℕ → List ℕ → List ℕ
decided_octets is v s = pick is (declared_octets v s) (withdrawn_octets s)

-- The values of a Talker that a port declares: a Failed has them all, an Advertise those before Bridge ID and code.
unfoldable pub offered_octets : Fixed → Result → List ℕ
offered_octets f r = packed fixed_widths (fixed_numbers f) ++ part in_result.latency (failed_size - fixed_size) (result_octets r)

-- octets that are those values of a result, with the numbers of its column and of the Listener it declares
pub record Offered (s : List ℕ) (k d : ℕ) (f : Fixed) (r : Result) : Type 0 where
  pub fixed : Fit fixed_widths (fixed_numbers f)
  pub rank : f.rank < 2
  pub result : FitResult r
  pub values : s ≡ offered_octets f r
  pub column : k ≡ column_number r.column
  pub listener : d ≡ declared_number r.declares

-- Octets as they stand in a table: what a port sends of a stream, the stream's settled values, its result there.
pub record Given (s settled result : List ℕ) : Type 0 where
  pub laid : LaidSends s
  pub size : length s ≡ sends_size
  pub fixed : length settled ≡ fixed_size
  pub decided : length result ≡ result_size

-- and they are those of f and r
abbrev pub Told : List ℕ → List ℕ → Fixed → Result → Type 0
Told settled result f r = Offered (settled ++ part in_result.latency (failed_size - fixed_size) result) (get_or result 0 0) (get_or result in_result.declared 0) f r

-- what a port sends by itself, after leavealltimer! where it is due
unfoldable pub timed : ℕ → Sender → Sender
timed now s = record { domains = s.domains; leave_all = timed_out now s.leave_all }
