-- What is heard leaves what fits its fields.
use Prim.Native.Nat.{ℕ, ◌^◌, ◌<◌}
use mathlib.Core.Path.{◌∙◌}
use lib.ListN.{length-map}
use Rattle.model.specs.Machines.{heard_leave, heard}
use Rattle.model.specs.LeaveAll.{LeaveAllState, active, passive, LeaveAll, r_la, leave_all_row, leave_all_column, leave_all_entry, starting, leave_all_next}
use Rattle.model.specs.State.{Sends, Sender}
use Rattle.model.specs.Registrations.{Act, leave_all, leave, talk, listen, hear_all, hear, of_domain, leave_all_domains, leave_domain, join_domain, hear_all_domains, hear_domain, moves, hears_leave_all, moves_sender}
use Rattle.model.specs.Laid.{FitSends, FitSender}
use Rattle.model.proofs.Lists.{length_at}
use Rattle.model.proofs.Hearing.{moves-stay}
use Rattle.model.proofs.Fits.{fit-sends, valid-sends-fit}

pub sends-fit : (a : Act) (y : Sends) → FitSends y → FitSends (moves a y)
sends-fit a y w = valid-sends-fit (moves a y) ((moves-stay a).good y (fit-sends y w))

module _ (now : ℕ) (small : now < 2 ^ 32) where
  timer-fits : (m : LeaveAll) → (leave_all_next now r_la m).start < 2 ^ 32
  unfolding leave_all_next leave_all_entry leave_all_row leave_all_column starting
  timer-fits m = go m.state
    where
      go : (q : LeaveAllState) → (leave_all_next now r_la record { state = q; start = m.start }).start < 2 ^ 32
      go active = small
      go passive = small

  pub sender-fits : (a : Act) (x : Sender) → FitSender x → FitSender (moves_sender now a x)
  unfolding moves_sender hears_leave_all
  sender-fits (leave_all k) x w = w
  sender-fits (leave k i) x w = w
  sender-fits (talk i f v) x w = w
  sender-fits (listen i r) x w = w
  sender-fits (hear_all k) x w = record { slotted = w.slotted; start = timer-fits x.leave_all }
  sender-fits (hear k i h) x w = w
  sender-fits (of_domain leave_all_domains) x w = w
  sender-fits (of_domain (leave_domain i)) x w = w
  sender-fits (of_domain (join_domain i v)) x w = w
  sender-fits (of_domain hear_all_domains) x w = record { slotted = length-map x.domains (heard heard_leave) ∙ w.slotted; start = timer-fits x.leave_all }
  sender-fits (of_domain (hear_domain i h)) x w = record { slotted = length_at i (heard h) x.domains ∙ w.slotted; start = w.start }
