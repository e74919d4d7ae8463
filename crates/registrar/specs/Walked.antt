-- A walk over acts at the port of place p, on a table.
use Rattle.std.specs.Prelude.{ℕ, ◌≡◌, List, Bool, cond, length, leb}
use Rattle.model.specs.Registrations.{Act, apply_all, apply_owns, apply_senders}
use Rattle.model.specs.Frames.{walk}
use Rattle.model.specs.Table.{encode, decode}
use Rattle.model.specs.Laid.{FitBridge}
use Rattle.registrar.specs.Acts.{acts_of}
use Rattle.registrar.specs.Run.{Registered, registered_of, keeping, Ran, left_by, went, run}

unfoldable pub run_on : Bool → ℕ → List Act → List ℕ → Ran
run_on applying p es t = run applying (decode t).clock p es (registered_of (decode t))

-- what a walk on the table t leaves: the table u, laid out, and an answer r that tells whether the walk went to its end
pub record Leaves (t : List ℕ) (q : Ran) (r : Bool) (u : List ℕ) : Type 0 where
  pub answer : r ≡ went q
  pub table : u ≡ encode (keeping (decode t) (left_by q))
  pub fits : FitBridge (keeping (decode t) (left_by q))

abbrev pub Walked : Bool → ℕ → List Act → List ℕ → Bool → List ℕ → Type 0
Walked applying p es t r u = Leaves t (run_on applying p es t) r u

-- A frame: "streams held plus different new ones joined by this PDU exceed 64", or its acts are done.

unfoldable pub taken : ℕ → List ℕ → List ℕ → Registered
taken p pdu t = record {
  streams = apply_all (decode t).clock p (acts_of (walk pdu)) (decode t).streams;
  owns = apply_owns (decode t).clock p (acts_of (walk pdu)) (decode t).owns;
  senders = apply_senders (decode t).clock p (acts_of (walk pdu)) (decode t).senders;
}

-- from the table t it leaves the table u, and its answer r tells whether it is accepted
pub record Receives (p : ℕ) (pdu t : List ℕ) (r : Bool) (u : List ℕ) : Type 0 where
  pub answer : r ≡ leb (length (taken p pdu t).streams) 64
  pub table : u ≡ cond r (encode (keeping (decode t) (taken p pdu t))) t
