-- What a port sends by itself: read, changed, lent.
use Prim.Native.Nat.{ℕ, ◌+◌, ◌-◌, ◌<◌}
use native.Mathlib.Omega.{arith}
use mathlib.Core.Path.{◌≡◌, ap, ◌∙◌}
use mathlib.Core.List.{List, ◌++◌}
use lib.ListN.{length, take, drop}
use Rattle.octets.specs.Parts.{part, patch}
use Rattle.octets.proofs.Parts.{lent-part}
use Rattle.octets.proofs.Patches.{lent-patch}
use Rattle.model.specs.Layout.{sender_place, sender_size}
use Rattle.model.specs.State.{Sender, no_sender, sender_at}
use Rattle.model.specs.Registrations.{at}
use Rattle.model.specs.Sending.{sender_octets, to_sender}
use Rattle.model.specs.Table.{encode, decode}
use Rattle.model.specs.Laid.{FitSender, FitBridge, Laid}
use Rattle.model.proofs.Lists.{all-at, all_changed, length_at}
use Rattle.model.proofs.SenderOctets.{sender-coded}
use Rattle.model.proofs.Fits.{laid-is, laid-fits}
use Rattle.table.specs.Updates.{with_sender}
use Rattle.table.specs.Places.{PortIn}
use Rattle.table.specs.Reads.{ReadsSender}
use Rattle.table.proofs.Header.{sender-part, sender-patch}
use Rattle.table.proofs.Fitting.{sending-fits}
use Rattle.table.proofs.ByPlace.{encoded-laid}

pub reads-sender : (x : Sender) → FitSender x → (s : List ℕ) → s ≡ sender_octets x → ReadsSender s x
reads-sender x f s e = record {
  size = ap length e ∙ sender-coded.size x f;
  laid = record { thing = x; fits = f; is = e };
  is = ap to_sender e ∙ sender-coded.back x f;
}

module _ {t : List ℕ} {p : ℕ} (s : PortIn t p) where
  b-fits : FitBridge (decode t)
  b-fits = laid-fits t s.laid

  a-sender : p < length (decode t).senders
  a-sender = omega (arith, b-fits.eight_senders, s.port)

  pub sender-fits : FitSender (sender_at (decode t).senders p)
  unfolding sender_at
  sender-fits = all-at FitSender (decode t).senders b-fits.senders p no_sender a-sender

  sender-octets-at : part (sender_place p) sender_size t ≡ sender_octets (sender_at (decode t).senders p)
  sender-octets-at = ap (part (sender_place p) sender_size) (laid-is t s.laid) ∙ sender-part (decode t) b-fits p s.port

  pub sender-there : ReadsSender (part (sender_place p) sender_size t) (sender_at (decode t).senders p)
  sender-there = reads-sender (sender_at (decode t).senders p) sender-fits (part (sender_place p) sender_size t) sender-octets-at

  module _ (u : Sender → Sender) where
    pub sender-replaced : patch (sender_place p) sender_size (sender_octets (u (sender_at (decode t).senders p))) t ≡ encode (with_sender p u (decode t))
    sender-replaced =
        ap (patch (sender_place p) sender_size (sender_octets (u (sender_at (decode t).senders p)))) (laid-is t s.laid) ∙ sender-patch (decode t) b-fits p s.port u

    module _ (keeps : (x : Sender) → FitSender x → FitSender (u x)) where
      pub with-sender-fits : FitBridge (with_sender p u (decode t))
      with-sender-fits =
          sending-fits (decode t) b-fits (at p u (decode t).senders) (length_at p u (decode t).senders ∙ b-fits.eight_senders)
          (all_changed FitSender p u (decode t).senders keeps b-fits.senders)

      pub sender-replaced-laid : (v : List ℕ) → v ≡ encode (with_sender p u (decode t)) → Laid v
      sender-replaced-laid = encoded-laid (with_sender p u (decode t)) with-sender-fits

  module _ (a : ℕ) (e : a ≡ sender_place p) where
    pub lent-sender-at : ReadsSender (take (a + sender_size - a) (drop a t)) (sender_at (decode t).senders p)
    lent-sender-at = rw (e, lent-part (sender_place p) sender_size t) sender-there

    -- by a call that ensures `x.new ≡ sender_octets (u (to_sender x.old))`
    pub left-sender-at : (u : Sender → Sender) (y : List ℕ) → y ≡ sender_octets (u (to_sender (take (a + sender_size - a) (drop a t))))
        → take a t ++ (y ++ drop (a + sender_size - a) (drop a t)) ≡ encode (with_sender p u (decode t))
    left-sender-at u y q =
        lent-patch a sender_size y t
        ∙ ap (λ (z : List ℕ). patch a sender_size z t) (q ∙ ap (λ (x : Sender). sender_octets (u x)) lent-sender-at.is)
        ∙ rw e (sender-replaced u)
