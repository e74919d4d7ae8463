-- The Applicant machine of 802.1Q 10.7.7 (Table 10-3), the point-to-point subset of the full participant: eight states, notes (4) and
-- (5) taken. One row for each event, in the standard's order of columns; an entry is the message, if any, and the next state.
use Rattle.std.specs.Prelude.{List, [], ◌∷◌, Bool, true, false, cond, ℕ, zero, suc, get_or}

-- VO, VP, VN very anxious observer, passive, new; AN, AA anxious new, active; QA quiet active; LA, LO leaving active, observer
pub data ApplicantState : Type 0 where
  vo vp vn an aa qa la lo : ApplicantState

pub data ApplicantEvent : Type 0 where
  begin new join lv r_new r_join_in r_in r_join_mt r_mt r_lv r_la redeclare periodic tx tx_la tx_laf : ApplicantEvent

-- what an entry sends: nothing; New; JoinIn or JoinMt; In or Mt; Lv; and in brackets what may be left out
pub data Message : Type 0 where
  silent s_n s_j s s_l : Message
  optional : Message → Message

pub record ApplicantEntry : Type 0 where
  pub sends : Message
  pub next : ApplicantState

-- an entry without a message, and one with a message
unfoldable pub to : ApplicantState → ApplicantEntry
to x = record { sends = silent; next = x }

unfoldable pub by : Message → ApplicantState → ApplicantEntry
by m x = record { sends = m; next = x }

-- note (8), after the second New: QA if the Registrar is IN, otherwise AA
unfoldable pub after_new : Bool → ApplicantState
after_new registered = cond registered qa aa

-- The two entries that no source at hand confirms (docs/DECISIONS.md): VP and AN at txLA!.
unfoldable pub passive_leaving_all : ApplicantEntry
passive_leaving_all = by s aa

unfoldable pub new_leaving_all : ApplicantEntry
new_leaving_all = by s_n qa

-- the row of an event: VO, VP, VN, AN, AA, QA, LA, LO; the Registrar of the attribute is IN, or is not. (MSRP has no periodic!, 5.4.3.)
unfoldable pub applicant_row : Bool → ApplicantEvent → List ApplicantEntry
applicant_row r begin = to vo ∷ to vo ∷ to vo ∷ to vo ∷ to vo ∷ to vo ∷ to vo ∷ to vo ∷ []
applicant_row r new = to vn ∷ to vn ∷ to vn ∷ to an ∷ to vn ∷ to vn ∷ to vn ∷ to vn ∷ []
applicant_row r join = to vp ∷ to vp ∷ to vn ∷ to an ∷ to aa ∷ to qa ∷ to aa ∷ to vp ∷ []
applicant_row r lv = to vo ∷ to vo ∷ to la ∷ to la ∷ to la ∷ to la ∷ to la ∷ to lo ∷ []
applicant_row r r_new = to vo ∷ to vp ∷ to vn ∷ to an ∷ to aa ∷ to qa ∷ to la ∷ to lo ∷ []
applicant_row r r_join_in = to vo ∷ to vp ∷ to vn ∷ to an ∷ to qa ∷ to qa ∷ to la ∷ to lo ∷ []
applicant_row r r_in = to vo ∷ to vp ∷ to vn ∷ to an ∷ to qa ∷ to qa ∷ to la ∷ to lo ∷ []
applicant_row r r_join_mt = to vo ∷ to vp ∷ to vn ∷ to an ∷ to aa ∷ to aa ∷ to la ∷ to vo ∷ []
applicant_row r r_mt = to vo ∷ to vp ∷ to vn ∷ to an ∷ to aa ∷ to aa ∷ to la ∷ to vo ∷ []
applicant_row r r_lv = to lo ∷ to vp ∷ to vn ∷ to vn ∷ to vp ∷ to vp ∷ to la ∷ to lo ∷ []
applicant_row r r_la = to lo ∷ to vp ∷ to vn ∷ to vn ∷ to vp ∷ to vp ∷ to la ∷ to lo ∷ []
applicant_row r redeclare = to lo ∷ to vp ∷ to vn ∷ to vn ∷ to vp ∷ to vp ∷ to la ∷ to lo ∷ []
applicant_row r periodic = to vo ∷ to vp ∷ to vn ∷ to an ∷ to aa ∷ to aa ∷ to la ∷ to lo ∷ []
applicant_row r tx = by (optional s) vo ∷ by s_j aa ∷ by s_n an ∷ by s_n (after_new r) ∷ by s_j qa ∷ by (optional s_j) qa ∷ by s_l vo ∷ by s vo ∷ []
applicant_row r tx_la = by (optional s) lo ∷ passive_leaving_all ∷ by s_n an ∷ new_leaving_all ∷ by s_j qa ∷ by s_j qa ∷ by (optional s) lo ∷ by (optional s) lo ∷ []
applicant_row r tx_laf = to lo ∷ to vp ∷ to vn ∷ to vn ∷ to vp ∷ to vp ∷ to lo ∷ to lo ∷ []

-- the place of a state's column
unfoldable pub applicant_column : ApplicantState → ℕ
applicant_column vo = 0
applicant_column vp = 1
applicant_column vn = 2
applicant_column an = 3
applicant_column aa = 4
applicant_column qa = 5
applicant_column la = 6
applicant_column lo = 7

unfoldable pub applicant_entry : Bool → ApplicantEvent → ApplicantState → ApplicantEntry
applicant_entry registered e x = get_or (applicant_row registered e) (applicant_column x) (to x)

-- Written: only a message without brackets, since a participant shall "Not redeclare its attributes unless responding to a LeaveAll
-- event" (5.4.3 f).
unfoldable pub is_written : Message → Bool
is_written silent = false
is_written s_n = true
is_written s_j = true
is_written s = true
is_written s_l = true
is_written (optional m) = false

-- the event's number (01: "New 0, JoinIn 1, In 2, JoinMt 3, Mt 4, Lv 5"): sJ is JoinIn where the Registrar is IN, otherwise JoinMt; s is
-- In or Mt likewise. No event has the number of silence.
unfoldable pub message_number : Bool → Message → ℕ
message_number r silent = 6
message_number r s_n = 0
message_number r s_j = cond r 1 3
message_number r s = cond r 2 4
message_number r s_l = 5
message_number r (optional m) = message_number r m

-- an opportunity to transmit, with LeaveAll or without
unfoldable pub opportunity : Bool → ApplicantEvent
opportunity true = tx_la
opportunity false = tx

-- The states of a declaration in a port's list, one with an unsent Lv included: "there is a machine only for a declaration in the list"
-- (02), so VO and LO are no machine.
pub data Standing : Type 0 where
  very_anxious_passive very_anxious_new anxious_new anxious_active quiet_active leaving_active : Standing

unfoldable pub named : Standing → ApplicantState
named very_anxious_passive = vp
named very_anxious_new = vn
named anxious_new = an
named anxious_active = aa
named quiet_active = qa
named leaving_active = la

unfoldable pub standing : ApplicantState → List Standing
standing vo = []
standing vp = very_anxious_passive ∷ []
standing vn = very_anxious_new ∷ []
standing an = anxious_new ∷ []
standing aa = anxious_active ∷ []
standing qa = quiet_active ∷ []
standing la = leaving_active ∷ []
standing lo = []

-- what an event leaves of a machine, and what it sends
unfoldable pub becomes : Bool → ApplicantEvent → Standing → List Standing
becomes registered e q = standing (applicant_entry registered e (named q)).next

unfoldable pub sent : Bool → ApplicantEvent → Standing → Message
sent registered e q = (applicant_entry registered e (named q)).sends

-- whether it has something to write, and the event written
unfoldable pub speaks : ApplicantEvent → Standing → Bool
speaks e q = is_written (sent false e q)

unfoldable pub spoken : Bool → ApplicantEvent → Standing → ℕ
spoken registered e q = message_number registered (sent registered e q)

-- A machine in one octet of the table: 0 none (VO and LO), then VP, VN, AN, AA, QA, LA by their columns.
unfoldable pub state_of : ℕ → ApplicantState
state_of zero = vo
state_of (suc zero) = vp
state_of (suc (suc zero)) = vn
state_of (suc (suc (suc zero))) = an
state_of (suc (suc (suc (suc zero)))) = aa
state_of (suc (suc (suc (suc (suc zero))))) = qa
state_of (suc (suc (suc (suc (suc (suc n)))))) = la

unfoldable pub octet_of : ApplicantState → ℕ
octet_of vo = 0
octet_of vp = 1
octet_of vn = 2
octet_of an = 3
octet_of aa = 4
octet_of qa = 5
octet_of la = 6
octet_of lo = 0

-- the octet after an event; whether something is written at it, and which event
unfoldable pub step : Bool → ApplicantEvent → ℕ → ℕ
step registered e n = octet_of (applicant_entry registered e (state_of n)).next

unfoldable pub asks : ApplicantEvent → ℕ → Bool
asks e n = is_written (applicant_entry false e (state_of n)).sends

unfoldable pub event_at : Bool → ApplicantEvent → ℕ → ℕ
event_at registered e n = message_number registered (applicant_entry registered e (state_of n)).sends
