-- The LeaveAll machine of 802.1Q 10.7.9 (Table 10-5), one for each port: one row for each event, in the standard's order of columns; an
-- entry is whether the timer is started, whether LeaveAll is sent, and the next state.
use Rattle.std.specs.Prelude.{List, [], ◌∷◌, Bool, true, false, cond, ℕ, ◌+◌, get_or, leb}

pub data LeaveAllState : Type 0 where
  active passive : LeaveAllState

pub data LeaveAllEvent : Type 0 where
  begin tx r_la leavealltimer : LeaveAllEvent

pub record LeaveAllEntry : Type 0 where
  pub starts : Bool
  pub sends : Bool
  pub next : LeaveAllState

unfoldable pub starting : LeaveAllState → LeaveAllEntry
starting x = record { starts = true; sends = false; next = x }

-- sLA, Passive; and an inapplicable entry
unfoldable pub sends_leave_all : LeaveAllEntry
sends_leave_all = record { starts = false; sends = true; next = passive }

unfoldable pub inapplicable : LeaveAllState → LeaveAllEntry
inapplicable x = record { starts = false; sends = false; next = x }

-- the row of an event: Active, Passive
unfoldable pub leave_all_row : LeaveAllEvent → List LeaveAllEntry
leave_all_row begin = starting passive ∷ starting passive ∷ []
leave_all_row tx = sends_leave_all ∷ inapplicable passive ∷ []
leave_all_row r_la = starting passive ∷ starting passive ∷ []
leave_all_row leavealltimer = starting active ∷ starting active ∷ []

unfoldable pub leave_all_column : LeaveAllState → ℕ
leave_all_column active = 0
leave_all_column passive = 1

unfoldable pub leave_all_entry : LeaveAllEvent → LeaveAllState → LeaveAllEntry
leave_all_entry e x = get_or (leave_all_row e) (leave_all_column x) (inapplicable x)

-- a port's machine: its state, and the clock at which its timer was started
pub record LeaveAll : Type 0 where
  pub state : LeaveAllState
  pub start : ℕ

-- the machine after an event, at the held clock
unfoldable pub leave_all_next : ℕ → LeaveAllEvent → LeaveAll → LeaveAll
leave_all_next now e m =
    let c = leave_all_entry e m.state in
    record { state = c.next; start = cond c.starts now m.start }

-- LeaveAll is sent at the next opportunity
unfoldable pub is_active : LeaveAllState → Bool
is_active active = true
is_active passive = false

-- Begin!: Passive, the timer started
unfoldable pub begun : ℕ → LeaveAll
begun now = leave_all_next now begin record { state = passive; start = now }

-- LeaveAllTime of Table 10-7, in hundredths of a second; no random part, so that each input has one answer
abbrev pub leave_all_time : ℕ
leave_all_time = 1000

-- leavealltimer!: the timer has run out
unfoldable pub has_run : ℕ → LeaveAll → Bool
has_run now m = leb (m.start + leave_all_time) now

unfoldable pub timed_out : ℕ → LeaveAll → LeaveAll
timed_out now m = cond (has_run now m) (leave_all_next now leavealltimer m) m
