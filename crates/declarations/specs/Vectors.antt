-- The octets of a declaration's vector, as they are written one behind the other: its StreamID, what the port sends of it, and its event.
use Rattle.std.specs.Prelude.{◌≡◌, List, [], ◌∷◌, ◌++◌, Bool, true, false, ℕ, ◌+◌, ◌*◌, ◌/◌, ◌%◌, ◌≤◌, length, drop}
use Rattle.octets.specs.Be.{be, be_at}
use Rattle.octets.specs.Parts.{part}
use Rattle.model.specs.Layout.{sends_size}
use Rattle.model.specs.FrameLayout.{in_first_value}
use Rattle.model.specs.State.{Settings, Stream, sends_at}
use Rattle.model.specs.Sending.{sends_octets}
use Rattle.table.specs.Places.{StandsOn}

unfoldable pub some : {A : Type 0} → List A → Bool
some [] = false
some (x ∷ l) = true

-- what stands in a buffer: octets w, of which there are at, and behind them those that stood there before
pub record Holding (w : List ℕ) (at : ℕ) (before after : List ℕ) : Type 0 where
  pub long : length w ≡ at
  pub is : after ≡ w ++ drop at before

-- header of so many values and no LeaveAll, and StreamID
unfoldable pub headed : ℕ → ℕ → List ℕ
headed n id = be 2 n ++ be 8 id

-- the first of three packed events
unfoldable pub first_event : ℕ → List ℕ
first_event e = (e * 36) ∷ []

-- a Talker's: so many octets of what port p sends of the stream, from a place on, and its event
unfoldable pub talker_vector : ℕ → ℕ → ℕ → ℕ → Stream → List ℕ
talker_vector at more e p x = (headed 1 x.id ++ part at more (sends_octets (sends_at x p))) ++ first_event e

-- a Domain value's: class ID and priority of slot k and the VLAN of the settings behind the header, and its event
unfoldable pub domain_vector : Settings → ℕ → ℕ → List ℕ
domain_vector st e k = (((be 2 1 ++ be 1 (5 + k / 8)) ++ be 1 (k % 8)) ++ be 2 st.vlan) ++ first_event e

-- room for a Talker's vector, whose values are so many octets from a place on
pub record TalkerIn (t : List ℕ) (k p at more : ℕ) (out : List ℕ) : Type 0 where
  pub places : StandsOn t k p
  pub within : at + more ≤ sends_size
  pub room : length out ≡ 2 + in_first_value.destination + more + 1

-- vectors with LeaveAllEvent 1 in the first one's header, or as they are
unfoldable pub announced : Bool → List ℕ → List ℕ
announced true v = be 2 (be_at 2 v 0 + 8192) ++ drop 2 v
announced false v = v
