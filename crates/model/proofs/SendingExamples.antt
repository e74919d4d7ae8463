-- Examples of what a port sends (02, xiv): Domain values from start on, a Talker that is new, withdrawn or changed, LeaveAll answered and
-- not answered, and a stream with an unsent Lv that still counts for 8.
use mathlib.Core.Path.{refl}
use mathlib.Core.List.{List, [], ◌∷◌, ◌++◌}
use Prim.Native.Nat.{ℕ, zero, suc, ◌-◌, ◌%◌}
use lib.ListN.{length}
use Rattle.octets.specs.Fields
use Rattle.model.specs.Lists.{All, bit}
use Rattle.model.specs.Machines.{Listed}
use Rattle.model.specs.State.{Bridge, Stream}
use Rattle.model.specs.State
use Rattle.model.specs.Frames
use Rattle.model.specs.Registrations.{listeners}
use Rattle.model.specs.Registrations
use Rattle.model.specs.Declarations.{Declaration, Said}
use Rattle.model.specs.Declarations
use Rattle.model.specs.Writing.{Written}
use Rattle.model.specs.Writing
use Rattle.model.specs.Sending
use Rattle.model.proofs.Examples.{Example, Holds, pdu, time, settings, from, hears, lv_pdu, one, handed}

-- What a written PDU has: LeaveAll, then the type, the StreamID's last octet (or class ID) and the event of each declaration, and the next
-- place.
one-said : Said → List ℕ
one-said d = Frames.type_number (Declarations.attribute_of d.declaration) ∷ (Declarations.declared_id d.declaration % 256) ∷ d.event ∷ []

shown : Written → List ℕ
shown w = bit w.all ∷ (Fields.flat one-said w.run ++ (w.next ∷ []))

-- writes of a port one after another, each from place 0; and the bridge after them
writes : ℕ → ℕ → Bridge → List ℕ
writes p zero b = []
writes p (suc n) b = shown (Writing.write b p 0) ++ writes p n (Writing.write b p 0).bridge

wrote : ℕ → ℕ → Bridge → Bridge
wrote p zero b = b
wrote p (suc n) b = wrote p n (Writing.write b p 0).bridge

-- the states in a port's list
states : ℕ → Bridge → List ℕ
states p b = Fields.flat (λ (x : Listed Declaration). Sending.standing_number x.state ∷ []) (Declarations.declarations b (p - 1))

-- whether the Listener of each stream is registered on port 2, and not leaving
listens : Bridge → List ℕ
listens b = Fields.flat (λ (x : Stream). bit (Registrations.registered_in listeners (State.cell_at x 1)) ∷ []) b.streams

count : Bridge → List ℕ
count b = length b.streams ∷ []

-- the worked example's stream, twice written on both ports
settled : Bridge
settled = wrote 1 2 (wrote 2 2 (one 75000000))

pub sending : List Example
sending =
    -- Domain values from start on, JoinMt twice, then nothing
    record { computed = writes 1 3 (State.started (settings 75000000)); printed = 0 ∷ 4 ∷ 5 ∷ 3 ∷ 4 ∷ 6 ∷ 3 ∷ 2 ∷ 0 ∷ 4 ∷ 5 ∷ 3 ∷ 4 ∷ 6 ∷ 3 ∷ 2 ∷ 0 ∷ 2 ∷ [] }
    -- the neighbour's are registered: JoinIn; a Talker joined twice, so that one lost frame leaves the other
    ∷ record { computed = writes 2 3 (one 75000000); printed = 0 ∷ 1 ∷ 1 ∷ 3 ∷ 4 ∷ 5 ∷ 1 ∷ 4 ∷ 6 ∷ 1 ∷ 3 ∷ 0 ∷ 1 ∷ 1 ∷ 3 ∷ 4 ∷ 5 ∷ 1 ∷ 4 ∷ 6 ∷ 1 ∷ 3 ∷ 0 ∷ 3 ∷ [] }
    ∷ record { computed = states 1 settled ++ states 2 settled; printed = 5 ∷ 5 ∷ 5 ∷ 5 ∷ 5 ∷ 5 ∷ [] }
    -- withdrawn: an Lv, once, and the stream still counts until it is written
    ∷ record { computed = states 2 withdrawn ++ (count withdrawn ++ (writes 2 2 withdrawn ++ count (wrote 2 1 withdrawn))); printed = 6 ∷ 5 ∷ 5 ∷ 1 ∷ 0 ∷ 1 ∷ 1 ∷ 5 ∷ 2 ∷ 0 ∷ 2 ∷ 1 ∷ [] }
    -- LeaveAll after 10 s: all are joined with it, at once, and the next write is silent
    ∷ record { computed = writes 2 2 (from settled (time 1000 ∷ [])); printed = 1 ∷ 1 ∷ 1 ∷ 3 ∷ 4 ∷ 5 ∷ 1 ∷ 4 ∷ 6 ∷ 1 ∷ 3 ∷ 0 ∷ 3 ∷ [] }
    -- with it what the neighbour has joined begins to leave: answered it stays
    ∷ record { computed = listens due ++ (listens (wrote 2 1 due) ++ listens (from (wrote 2 1 due) (pdu 2 (hears 1 128) ∷ []))); printed = 1 ∷ 0 ∷ 1 ∷ [] }
    -- not answered it is gone after the leave time, Domain values too: the Listener on port 1 and the Advertise on port 2 have unsent Lvs, and
    -- a Failed is new
    ∷ record { computed = states 1 silent ++ states 2 silent; printed = 6 ∷ 5 ∷ 5 ∷ 6 ∷ 1 ∷ 5 ∷ 5 ∷ [] }
    -- a refused write moves nothing: place 4 is above three declarations
    ∷ record { computed = states 2 (Writing.write (one 75000000) 2 4).bridge; printed = 1 ∷ 1 ∷ 1 ∷ [] }
    ∷ []
  where
    due : Bridge
    due = from settled (time 1000 ∷ [])

    silent : Bridge
    silent = from (wrote 2 1 due) (time 1060 ∷ [])

    withdrawn : Bridge
    withdrawn = from settled (pdu 1 lv_pdu ∷ time 160 ∷ [])

pub sending-examples : All Holds sending
unfolding handed shown one-said writes wrote states listens count settled sending
sending-examples = (refl, (refl, (refl, (refl, (refl, (refl, (refl, (refl, tt))))))))
