-- Acts and expiry leave a cell whose numbers fit their fields: numbers fit exactly where the cell is valid with the latest clock and
-- the longest leave time.
use mathlib.Core.Bool.{Bool, true, false, cond}
use Prim.Native.Nat.{ℕ, ◌^◌, ◌<◌}
use native.Mathlib.Omega.{arith}
use Rattle.model.specs.State.{Settings, Talker, no_talker, talker, Listener, no_listener, listener, Cell}
use Rattle.model.specs.Registrations.{Kind, Act, quit, does}
use Rattle.model.specs.Settling.{expired, expire_talker, expire_listener, expire_cell}
use Rattle.model.specs.Laid.{FitCell}
use Rattle.model.proofs.Valid.{ValidTalker, ValidListener, ValidCell}
use Rattle.model.proofs.FoundVectors.{Fits}
use Rattle.model.proofs.Fits.{latest, longest, fit-cell, valid-cell-fits}
use Rattle.model.proofs.ReceiveKeepsForm.{quit-valid, does-valid}

valid-fits : (c : Cell) → ValidCell latest longest c → FitCell c
valid-fits c v = valid-cell-fits 8 latest longest (omega arith) c v

-- What acts leave.

module _ (clock : ℕ) (small : clock < 2 ^ 32) where
  pub quit-fits : (k : Kind) (c : Cell) → FitCell c → FitCell (quit clock k c)
  quit-fits k c fit = valid-fits (quit clock k c) (quit-valid latest longest clock (omega arith) (omega arith) k c (fit-cell c fit))

  pub does-fits : (a : Act) → Fits a → (c : Cell) → FitCell c → FitCell (does clock a c)
  does-fits a p c fit = valid-fits (does clock a c) (does-valid latest longest clock (omega arith) (omega arith) a p c (fit-cell c fit))

-- What expiry leaves.

module _ (st : Settings) (time : ℕ) where
  talker-remains : (t : Talker) → ValidTalker latest longest t → ValidTalker latest longest (expire_talker st time t)
  unfolding expire_talker
  talker-remains no_talker v = tt
  talker-remains (talker r) v = go (expired st time r.leaving)
    where
      go : (e : Bool) → ValidTalker latest longest (cond e no_talker (talker r))
      go true = tt
      go false = v

  listener-remains : (h : Listener) → ValidListener latest longest h → ValidListener latest longest (expire_listener st time h)
  unfolding expire_listener
  listener-remains no_listener v = tt
  listener-remains (listener r l) v = go (expired st time l)
    where
      go : (e : Bool) → ValidListener latest longest (cond e no_listener (listener r l))
      go true = tt
      go false = v

  -- of the Talker alone
  pub expire-first-fits : (c : Cell) → FitCell c → FitCell record { talks = expire_talker st time c.talks; hears = c.hears }
  expire-first-fits c fit =
      let v = fit-cell c fit in
      valid-fits _ record { talks = talker-remains c.talks v.talks; hears = v.hears }

  pub expire-fits : (c : Cell) → FitCell c → FitCell (expire_cell st time c)
  unfolding expire_cell
  expire-fits c fit =
      let v = fit-cell c fit in
      valid-fits (expire_cell st time c) record { talks = talker-remains c.talks v.talks; hears = listener-remains c.hears v.hears }
