-- The LeaveAll machine follows Table 10-5: it is started every LeaveAllTime, or when one is received, and sent once.
use mathlib.Core.Path.{◌≡◌, refl}
use mathlib.Core.Bool.{Bool, true, false, cond}
use Prim.Native.Nat.{ℕ, ◌+◌, ◌<◌}
use native.Mathlib.Omega.{arith}
use lib.Dec.{leb}
use borrow.Author.Tests.{leb-false}
use Rattle.model.specs.LeaveAll.{LeaveAllState, active, passive, begin, tx, r_la, leavealltimer, starting, sends_leave_all, inapplicable, leave_all_row, leave_all_column, leave_all_entry, LeaveAll, leave_all_next, begun, leave_all_time, has_run, timed_out}

unfoldable pub leave_alls : Unit {0}
unfolding leave_all_next leave_all_entry leave_all_row leave_all_column starting sends_leave_all inapplicable begun
leave_alls = tt

-- each step, of either state
pub every-leave-all : (now : ℕ) (m : LeaveAll)
    → (leave_all_next now begin m ≡ record { state = passive; start = now }) × (leave_all_next now tx m ≡ record { state = passive; start = m.start })
    × (leave_all_next now r_la m ≡ record { state = passive; start = now }) × (leave_all_next now leavealltimer m ≡ record { state = active; start = now })
unfolding leave_alls
every-leave-all now m = go m.state
  where
    go : (x : LeaveAllState) → (leave_all_next now begin record { state = x; start = m.start } ≡ record { state = passive; start = now })
        × (leave_all_next now tx record { state = x; start = m.start } ≡ record { state = passive; start = m.start })
        × (leave_all_next now r_la record { state = x; start = m.start } ≡ record { state = passive; start = now })
        × (leave_all_next now leavealltimer record { state = x; start = m.start } ≡ record { state = active; start = now })
    go active = (refl, refl, refl, refl)
    go passive = (refl, refl, refl, refl)

-- sLA in Active alone
pub sent-once : ((leave_all_entry tx active).sends ≡ true) × ((leave_all_entry tx passive).sends ≡ false)
unfolding leave_alls
sent-once = (refl, refl)

-- after an advance its timer has run less than LeaveAllTime, so that it fires at least once in that time
pub timer-short : (now : ℕ) (m : LeaveAll) → now < (timed_out now m).start + leave_all_time
unfolding timed_out has_run
timer-short now m = go (leb (m.start + leave_all_time) now) refl
  where
    go : (b : Bool) → leb (m.start + leave_all_time) now ≡ b → now < (cond b (leave_all_next now leavealltimer m) m).start + leave_all_time
    go true e = rw (every-leave-all now m).3 (omega arith)
    go false e = leb-false (m.start + leave_all_time) now e
