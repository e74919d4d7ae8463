-- One machine of a table: of stream k on the port at place p, and of a Domain value of the port.
use mathlib.Core.Path.{◌≡◌, ◌∙◌, ap}
use mathlib.Core.List.{List, ◌++◌}
use mathlib.Core.Bool.{Bool}
use Prim.Native.Nat.{ℕ, ◌+◌, ◌-◌}
use lib.ListN.{get_or, take, drop}
use Rattle.model.specs.Layout.{sender_place, sender_size, sends_place, sends_size}
use Rattle.model.specs.Machines.{no_applicant}
use Rattle.model.specs.State.{Sender, no_domain, cell_at, sends_at, sender_at, own_at, stream_at}
use Rattle.model.specs.Registrations.{Kind, move_kind, registered_in, domain_stays}
use Rattle.model.specs.Table.{encode, decode}
use Rattle.table.specs.Updates.{with_sends, with_sender}
use Rattle.table.specs.Places.{StandsOn, PortIn}
use Rattle.table.proofs.ByPlace.{lent-sends-at, left-sends-at}
use Rattle.table.proofs.SenderParts.{lent-sender-at, left-sender-at}
use Rattle.moving.specs.declared.Span.{Span}
use Rattle.moving.specs.declared.Met.{Met}
use Rattle.moving.specs.Moves.{moved_by, stream_moved, met_sends, met_stream, MovedSends, MovedStream, slot_moved, met_slot, MovedSender, MovedSlot}

module _ (w : Span) (m : Met) (t : List ℕ) (reg : Bool) (a : ℕ) (r : Met) (y : List ℕ) where
  pub stream-moves : (j : Kind) (k p : ℕ) → StandsOn t k p → a ≡ sends_place k p → reg ≡ registered_in j (cell_at (stream_at k (decode t)) p)
      → MovedSends w m j reg (take (a + sends_size - a) (drop a t)) r y
      → MovedStream w m j k p t r (take a t ++ (y ++ drop (a + sends_size - a) (drop a t)))
  unfolding stream_moved met_stream
  stream-moves j k p s e g q = record {
    table =
        left-sends-at s a e (move_kind j (moved_by w m.count reg)) y q.octets
        ∙ ap (λ (b : Bool). encode (with_sends k p (move_kind j (moved_by w m.count b)) (decode t))) g;
    met =
        q.met
        ∙ ap (met_sends w m j reg) (lent-sends-at s a e).is
        ∙ ap (λ (b : Bool). met_sends w m j b (sends_at (stream_at k (decode t)) p)) g;
  }

  pub slot-moves-in : (p slot : ℕ) → PortIn t p → a ≡ sender_place p → reg ≡ domain_stays (get_or (own_at (decode t).owns p).domains slot no_domain)
      → MovedSender w m reg slot (take (a + sender_size - a) (drop a t)) r y
      → MovedSlot w m p slot t r (take a t ++ (y ++ drop (a + sender_size - a) (drop a t)))
  slot-moves-in p slot s e g q = record {
    table =
        left-sender-at s a e (slot_moved w m.count reg slot) y q.octets
        ∙ ap (λ (b : Bool). encode (with_sender p (slot_moved w m.count b slot) (decode t))) g;
    met =
        q.met
        ∙ ap (λ (x : Sender). met_slot w m reg (get_or x.domains slot no_applicant)) (lent-sender-at s a e).is
        ∙ ap (λ (b : Bool). met_slot w m b (get_or (sender_at (decode t).senders p).domains slot no_applicant)) g;
  }
