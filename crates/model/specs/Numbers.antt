-- The numbers of the code's enums: of a refusal and of a call's answer (01, "Numbers given back"), and of a value's event (10.8).
use Rattle.std.specs.Prelude.{cond, ℕ, eqb, Result, Ok, Err}
use Rattle.model.specs.declared.refusal.Refusal.{Refusal}
use Rattle.model.specs.declared.refusal.Refusal.TheVariants as refusal
use Rattle.model.specs.declared.event.Event.{Event}
use Rattle.model.specs.declared.event.Event.TheVariants as event

abbrev pub refusal_number : Refusal → ℕ
refusal_number refusal.Port = 1
refusal_number refusal.PduLength = 2
refusal_number refusal.PastEnd = 3
refusal_number refusal.AttributeType = 4
refusal_number refusal.AttributeLength = 5
refusal_number refusal.Event = 6
refusal_number refusal.Value = 7
refusal_number refusal.Streams = 8
refusal_number refusal.Time = 9
refusal_number refusal.Buffer = 10
refusal_number refusal.Settings = 11
refusal_number refusal.Table = 12
refusal_number refusal.Place = 13
refusal_number refusal.Addresses = 14
refusal_number refusal.Stream = 15

-- the refusal of a number from 1 to 15
unfoldable pub refusal_of : ℕ → Refusal
refusal_of n =
    cond (eqb n 1) refusal.Port
    (cond (eqb n 2) refusal.PduLength
    (cond (eqb n 3) refusal.PastEnd
    (cond (eqb n 4) refusal.AttributeType
    (cond (eqb n 5) refusal.AttributeLength
    (cond (eqb n 6) refusal.Event
    (cond (eqb n 7) refusal.Value
    (cond (eqb n 8) refusal.Streams
    (cond (eqb n 9) refusal.Time
    (cond (eqb n 10) refusal.Buffer
    (cond (eqb n 11) refusal.Settings
    (cond (eqb n 12) refusal.Table
    (cond (eqb n 13) refusal.Place
    (cond (eqb n 14) refusal.Addresses
    refusal.Stream)))))))))))))

-- an answer's number, whatever it holds where it isn't refused: 0 there
abbrev pub answer_number : {A : Type 0} → Result A Refusal → ℕ
answer_number (Ok a) = 0
answer_number (Err r) = refusal_number r

abbrev pub event_number : Event → ℕ
event_number event.New = 0
event_number event.JoinIn = 1
event_number event.In = 2
event_number event.JoinMt = 3
event_number event.Mt = 4
event_number event.Lv = 5
