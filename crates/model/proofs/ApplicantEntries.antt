-- Each step of an Applicant's octet is the table's entry (Table 10-3): one computed statement over all states and events, and one over
-- what is written.
use mathlib.Core.Path.{◌≡◌, refl, sym, ◌∙◌, ap}
use mathlib.Core.List.{List, [], ◌∷◌, map}
use mathlib.Core.Bool.{Bool, true, false, cond}
use Prim.Native.Nat.{ℕ, zero, suc, ◌≤◌}
use native.Mathlib.Omega.{arith}
use Rattle.model.specs.Lists.{All, all_true}
use Rattle.model.specs.Applicant.{ApplicantState, la, ApplicantEvent, begin, new, join, lv, r_new, r_join_in, r_in, r_join_mt, r_mt, r_lv, r_la, redeclare, tx, tx_la, tx_laf, to, by, after_new, passive_leaving_all, new_leaving_all, applicant_row, applicant_column, applicant_entry, is_written, message_number, Standing, very_anxious_passive, very_anxious_new, anxious_new, anxious_active, quiet_active, leaving_active, named, standing, becomes, sent, speaks, spoken, state_of, octet_of, step, asks, event_at}
use Rattle.model.proofs.Lists.{all_true_lem}

-- to open the table: a definition that unfolds as all of these do
unfoldable pub tables : Unit {0}
unfolding step asks event_at state_of octet_of applicant_entry applicant_row applicant_column to by after_new passive_leaving_all new_leaving_all is_written message_number named standing becomes sent speaks spoken
tables = tt

-- a value for each octet: none, VP, VN, AN, AA, QA, LA
unfoldable pub for_each : (ℕ → ℕ) → List ℕ
for_each f = f 0 ∷ f 1 ∷ f 2 ∷ f 3 ∷ f 4 ∷ f 5 ∷ f 6 ∷ []

-- an event, and the octets after it
pub record Steps : Type 0 where
  pub event : ApplicantEvent
  pub octets : List ℕ

-- all events but periodic!, which MSRP has not (5.4.3): none, VP, VN, AN, AA, QA, LA; the Registrar is IN, or is not
unfoldable pub every_event : Bool → List Steps
every_event r =
    record { event = begin; octets = 0 ∷ 0 ∷ 0 ∷ 0 ∷ 0 ∷ 0 ∷ 0 ∷ [] }
    ∷ record { event = new; octets = 2 ∷ 2 ∷ 2 ∷ 3 ∷ 2 ∷ 2 ∷ 2 ∷ [] }
    ∷ record { event = join; octets = 1 ∷ 1 ∷ 2 ∷ 3 ∷ 4 ∷ 5 ∷ 4 ∷ [] }
    ∷ record { event = lv; octets = 0 ∷ 0 ∷ 6 ∷ 6 ∷ 6 ∷ 6 ∷ 6 ∷ [] }
    ∷ record { event = r_new; octets = 0 ∷ 1 ∷ 2 ∷ 3 ∷ 4 ∷ 5 ∷ 6 ∷ [] }
    ∷ record { event = r_join_in; octets = 0 ∷ 1 ∷ 2 ∷ 3 ∷ 5 ∷ 5 ∷ 6 ∷ [] }
    ∷ record { event = r_in; octets = 0 ∷ 1 ∷ 2 ∷ 3 ∷ 5 ∷ 5 ∷ 6 ∷ [] }
    ∷ record { event = r_join_mt; octets = 0 ∷ 1 ∷ 2 ∷ 3 ∷ 4 ∷ 4 ∷ 6 ∷ [] }
    ∷ record { event = r_mt; octets = 0 ∷ 1 ∷ 2 ∷ 3 ∷ 4 ∷ 4 ∷ 6 ∷ [] }
    ∷ record { event = r_lv; octets = 0 ∷ 1 ∷ 2 ∷ 2 ∷ 1 ∷ 1 ∷ 6 ∷ [] }
    ∷ record { event = r_la; octets = 0 ∷ 1 ∷ 2 ∷ 2 ∷ 1 ∷ 1 ∷ 6 ∷ [] }
    ∷ record { event = redeclare; octets = 0 ∷ 1 ∷ 2 ∷ 2 ∷ 1 ∷ 1 ∷ 6 ∷ [] }
    ∷ record { event = tx; octets = 0 ∷ 4 ∷ 3 ∷ cond r 5 4 ∷ 5 ∷ 5 ∷ 0 ∷ [] }
    ∷ record { event = tx_la; octets = 0 ∷ 4 ∷ 3 ∷ 5 ∷ 5 ∷ 5 ∷ 0 ∷ [] }
    ∷ record { event = tx_laf; octets = 0 ∷ 1 ∷ 2 ∷ 2 ∷ 1 ∷ 1 ∷ 0 ∷ [] }
    ∷ []

pub every-step : (r : Bool) → map (λ (m : Steps). for_each (step r m.event)) (every_event r) ≡ map (λ (m : Steps). m.octets) (every_event r)
unfolding tables every_event for_each
every-step true = refl
every-step false = refl

-- What is written, by number: 6 is nothing. At tx! of VP, AA Join, VN, AN New, QA Join in brackets, LA Lv; at txLA! of VP In or Mt, VN and
-- AN New, AA and QA Join, LA In or Mt in brackets.
pub every-message : (r : Bool)
    → (for_each (event_at r tx) ≡ cond r 2 4 ∷ cond r 1 3 ∷ 0 ∷ 0 ∷ cond r 1 3 ∷ cond r 1 3 ∷ 5 ∷ [])
    × (for_each (event_at r tx_la) ≡ cond r 2 4 ∷ cond r 2 4 ∷ 0 ∷ 0 ∷ cond r 1 3 ∷ cond r 1 3 ∷ cond r 2 4 ∷ [])
unfolding tables for_each
every-message true = (refl, refl)
every-message false = (refl, refl)

-- which of them are without brackets, so that they are written
unfoldable pub which_of : (ℕ → Bool) → List Bool
which_of f = f 0 ∷ f 1 ∷ f 2 ∷ f 3 ∷ f 4 ∷ f 5 ∷ f 6 ∷ []

pub every-asking : (which_of (asks tx) ≡ false ∷ true ∷ true ∷ true ∷ true ∷ false ∷ true ∷ [])
    × (which_of (asks tx_la) ≡ false ∷ true ∷ true ∷ true ∷ true ∷ true ∷ false ∷ [])
unfolding tables which_of
every-asking = (refl, refl)

-- The same of the states in a list. Written once: VP is AA, VN is AN, AN is QA or AA, AA and QA are QA, LA has gone.
pub written : (r : Bool)
    → (becomes r tx very_anxious_passive ≡ anxious_active ∷ []) × (becomes r tx very_anxious_new ≡ anxious_new ∷ [])
    × (becomes r tx anxious_new ≡ cond r quiet_active anxious_active ∷ []) × (becomes r tx anxious_active ≡ quiet_active ∷ [])
    × (becomes r tx quiet_active ≡ quiet_active ∷ []) × (becomes r tx leaving_active ≡ [])
unfolding tables
written true = (refl, refl, refl, refl, refl, refl)
written false = (refl, refl, refl, refl, refl, refl)

-- with LeaveAll the next state is that of tx! where the Registrar is IN
pub written-leaving-all : (r : Bool) (q : Standing) → becomes r tx_la q ≡ becomes true tx q
unfolding tables
written-leaving-all r very_anxious_passive = refl
written-leaving-all r very_anxious_new = refl
written-leaving-all r anxious_new = refl
written-leaving-all r anxious_active = refl
written-leaving-all r quiet_active = refl
written-leaving-all r leaving_active = refl

-- left out of a LeaveAll: VN where it was new, else VP; LA has gone
pub left_out : (r : Bool)
    → (becomes r tx_laf very_anxious_passive ≡ very_anxious_passive ∷ []) × (becomes r tx_laf very_anxious_new ≡ very_anxious_new ∷ [])
    × (becomes r tx_laf anxious_new ≡ very_anxious_new ∷ []) × (becomes r tx_laf anxious_active ≡ very_anxious_passive ∷ [])
    × (becomes r tx_laf quiet_active ≡ very_anxious_passive ∷ []) × (becomes r tx_laf leaving_active ≡ [])
unfolding tables
left_out r = (refl, refl, refl, refl, refl, refl)

-- who has something to write: at tx! all but QA
pub speaking : (speaks tx very_anxious_passive ≡ true) × (speaks tx very_anxious_new ≡ true) × (speaks tx anxious_new ≡ true)
    × (speaks tx anxious_active ≡ true) × (speaks tx quiet_active ≡ false) × (speaks tx leaving_active ≡ true)
unfolding tables
speaking = (refl, refl, refl, refl, refl, refl)

-- Octets 0 to 6.

pub octet-back : (q : Standing) → state_of (octet_of (named q)) ≡ named q
unfolding tables
octet-back very_anxious_passive = refl
octet-back very_anxious_new = refl
octet-back anxious_new = refl
octet-back anxious_active = refl
octet-back quiet_active = refl
octet-back leaving_active = refl

-- A test of all states, computed.
unfoldable pub every_standing : (Standing → Bool) → Bool
every_standing f = all_true (f very_anxious_passive ∷ f very_anxious_new ∷ f anxious_new ∷ f anxious_active ∷ f quiet_active ∷ f leaving_active ∷ [])

pub each-standing : (f : Standing → Bool) → every_standing f ≡ true → (q : Standing) → f q ≡ true
unfolding every_standing
each-standing f e q = go q (all_true_lem (f very_anxious_passive ∷ f very_anxious_new ∷ f anxious_new ∷ f anxious_active ∷ f quiet_active ∷ f leaving_active ∷ []) e)
  where
    go : (q : Standing) → All (λ b. b ≡ true) (f very_anxious_passive ∷ f very_anxious_new ∷ f anxious_new ∷ f anxious_active ∷ f quiet_active ∷ f leaving_active ∷ []) → f q ≡ true
    go very_anxious_passive a = a.0
    go very_anxious_new a = a.1.0
    go anxious_new a = a.1.1.0
    go anxious_active a = a.1.1.1.0
    go quiet_active a = a.1.1.1.1.0
    go leaving_active a = a.1.1.1.1.1.0

-- An octet above 6 is read as LA.
leaving-octet : (n : ℕ) → 6 ≤ n → state_of n ≡ la
unfolding state_of
leaving-octet zero h = absurd (omega arith)
leaving-octet (suc zero) h = absurd (omega arith)
leaving-octet (suc (suc zero)) h = absurd (omega arith)
leaving-octet (suc (suc (suc zero))) h = absurd (omega arith)
leaving-octet (suc (suc (suc (suc zero)))) h = absurd (omega arith)
leaving-octet (suc (suc (suc (suc (suc zero))))) h = absurd (omega arith)
leaving-octet (suc (suc (suc (suc (suc (suc n)))))) h = refl

module _ (n : ℕ) (h : 6 ≤ n) where
  pub step-leaving : (r : Bool) (e : ApplicantEvent) → step r e n ≡ step r e 6
  unfolding step
  step-leaving r e = ap (λ (x : ApplicantState). octet_of (applicant_entry r e x).next) (leaving-octet n h ∙ sym (leaving-octet 6 (omega arith)))

  pub asks-leaving : (e : ApplicantEvent) → asks e n ≡ asks e 6
  unfolding asks
  asks-leaving e = ap (λ (x : ApplicantState). is_written (applicant_entry false e x).sends) (leaving-octet n h ∙ sym (leaving-octet 6 (omega arith)))

  pub event-leaving : (r : Bool) (e : ApplicantEvent) → event_at r e n ≡ event_at r e 6
  unfolding event_at
  event-leaving r e = ap (λ (x : ApplicantState). message_number r (applicant_entry r e x).sends) (leaving-octet n h ∙ sym (leaving-octet 6 (omega arith)))
