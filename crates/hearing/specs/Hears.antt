-- What is heard, by one Applicant among octets.
use Rattle.std.specs.Prelude.{false, List, map, ℕ, get_or, set}
use Rattle.model.specs.Applicant.{step}
use Rattle.model.specs.Machines.{heard_in, heard_empty, heard_leave, heard_event, heard}
use Rattle.model.specs.Machines as machines
use Rattle.model.specs.State.{Sender}
use Rattle.hearing.specs.declared.Heard.{Heard}
use Rattle.hearing.specs.declared.Heard.TheVariants.{In, Empty, Leave}

unfoldable pub meant : Heard → machines.Heard
meant In = heard_in
meant Empty = heard_empty
meant Leave = heard_leave

-- by the Applicant at a place
unfoldable pub heard_at : ℕ → machines.Heard → List ℕ → List ℕ
heard_at at h s = set s at (step false (heard_event h) (get_or s at 0))

-- LeaveAll, by the Applicant of every Domain value
unfoldable pub heard_by_all : Sender → Sender
heard_by_all x = record { domains = map (heard heard_leave) x.domains; leave_all = x.leave_all }
