-- What a walk over the acts of a frame does to the streams held, and to what the ports hold and send by themselves. A frame is walked
-- twice: first room is made, an empty record for each StreamID that it joins and that is not held; then the acts are done. A walk
-- stops where a 65th record would be needed.
use Rattle.std.specs.Prelude.{ℕ, List, [], ◌∷◌, Bool, true, false, cond, length, leb}
use Rattle.model.specs.State.{Own, Sender, Stream, Bridge}
use Rattle.model.specs.Registrations.{Act, leave_all, leave, talk, listen, hear_all, hear, of_domain, at, touch, apply, apply_own, apply_owns, moves_sender, apply_senders, holding, owning, sending}

-- what acts change
pub record Registered : Type 0 where
  pub streams : List Stream
  pub owns : List Own
  pub senders : List Sender

-- of a bridge, and a bridge with it
abbrev pub registered_of : Bridge → Registered
registered_of b = record { streams = b.streams; owns = b.owns; senders = b.senders }

unfoldable pub keeping : Bridge → Registered → Bridge
keeping b x = sending (owning (holding b x.streams) x.owns) x.senders

-- what a walk left, stopped or to its end
pub data Ran : Type 0 where
  stopped : Registered → Ran
  ran : Registered → Ran

-- an empty record for a stream that is joined and not held
unfoldable pub room : Act → List Stream → List Stream
room (leave_all k) s = s
room (leave k i) s = s
room (talk i f v) s = touch true i (λ x. x) s
room (listen i r) s = touch true i (λ x. x) s
room (hear_all k) s = s
room (hear k i h) s = s
room (of_domain d) s = s

-- what one act does on a walk that applies, or that makes room: to the streams
unfoldable pub effect : Bool → ℕ → ℕ → Act → List Stream → List Stream
effect true now p a s = apply now p a s
effect false now p a s = room a s

unfoldable pub effects : Bool → ℕ → ℕ → List Act → List Stream → List Stream
effects m now p [] s = s
effects m now p (a ∷ es) s = effects m now p es (effect m now p a s)

-- and to all; what the ports hold and send by themselves needs no room
unfoldable pub after : Bool → ℕ → ℕ → Act → Registered → Registered
after m now p a x = record {
  streams = effect m now p a x.streams;
  owns = cond m (apply_own now p a x.owns) x.owns;
  senders = cond m (at p (moves_sender now a) x.senders) x.senders;
}

unfoldable pub after_all : Bool → ℕ → ℕ → List Act → Registered → Registered
after_all m now p es x = record {
  streams = effects m now p es x.streams;
  owns = cond m (apply_owns now p es x.owns) x.owns;
  senders = cond m (apply_senders now p es x.senders) x.senders;
}

-- it stops where there is no room
unfoldable pub next : Bool → ℕ → ℕ → Act → Registered → Ran
next m now p a x = cond (leb (length (effect m now p a x.streams)) 64) (ran (after m now p a x)) (stopped x)

unfoldable pub followed : Ran → (Registered → Ran) → Ran
followed (stopped x) f = stopped x
followed (ran x) f = f x

unfoldable pub run : Bool → ℕ → ℕ → List Act → Registered → Ran
run m now p [] x = ran x
run m now p (a ∷ es) x = followed (next m now p a x) (run m now p es)

-- what it leaves, and whether it went to its end
unfoldable pub left_by : Ran → Registered
left_by (stopped x) = x
left_by (ran x) = x

unfoldable pub went : Ran → Bool
went (stopped x) = false
went (ran x) = true
