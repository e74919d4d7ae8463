-- LeaveAll timers, port by port.
use mathlib.Core.Path.{◌≡◌, refl, sym, ◌∙◌, ap}
use mathlib.Core.List.{List, [], ◌∷◌}
use mathlib.Core.Bool.{Bool, true, false, cond}
use Prim.Native.Nat.{ℕ, zero, suc, ◌+◌, ◌^◌, ◌≤◌, ◌<◌}
use lib.ListN.{length, get_or}
use borrow.Author.Tests.{lt-ltb, le-ltb}
use Rattle.model.specs.LeaveAll.{leavealltimer, leave_all_entry, leave_all_next, has_run, timed_out}
use Rattle.model.specs.Lists.{All}
use Rattle.model.specs.State.{Settings, Sender, no_sender, is_port, sender_at}
use Rattle.model.specs.Registrations.{at, sending}
use Rattle.model.specs.Settling.{time_sender}
use Rattle.model.specs.Table.{encode, decode}
use Rattle.model.specs.Laid.{FitSender, Laid}
use Rattle.model.proofs.Lists.{all_get_or}
use Rattle.model.proofs.SenderOctets.{sender-coded}
use Rattle.model.proofs.Fits.{laid-is, laid-fits}
use Rattle.table.specs.Places.{PortIn}
use Rattle.table.specs.Updates.{with_sender}
use Rattle.table.proofs.EachPort.{senders_to, senders-settings, one-sender-more}
use Rattle.declaring.specs.Octets.{timed}

-- a timer that has run out is started at the clock
timed-fits : (now : ℕ) → now < 2 ^ 32 → (x : Sender) → FitSender x → FitSender (timed now x)
unfolding timed timed_out leave_all_next
timed-fits now small x w = record { slotted = w.slotted; start = go (has_run now x.leave_all) }
  where
    started : (t : Bool) → cond t now x.leave_all.start < 2 ^ 32
    started true = small
    started false = w.start

    go : (t : Bool) → (cond t (leave_all_next now leavealltimer x.leave_all) x.leave_all).start < 2 ^ 32
    go true = started (leave_all_entry leavealltimer x.leave_all.state).starts
    go false = w.start

module _ (st : Settings) (now : ℕ) (small : now < 2 ^ 32) (l : List Sender) (w : All FitSender l) where
  pub time-fits : (q : ℕ) → FitSender (time_sender st now l q)
  unfolding time_sender sender_at timed
  time-fits q = go (is_port st q)
    where
      s : FitSender (get_or l q no_sender)
      s = all_get_or FitSender l w no_sender sender-coded.good q

      go : (t : Bool) → FitSender (cond t (timed now (get_or l q no_sender)) (get_or l q no_sender))
      go true = timed-fits now small (get_or l q no_sender) s
      go false = s

-- what the code leaves at one place

at_same : {A : Type 0} (p : ℕ) (l : List A) → at p (λ x. x) l ≡ l
unfolding at
at_same p [] = refl
at_same zero (x ∷ l) = refl
at_same {A} (suc p) (x ∷ l) = ap (λ (r : List A). x ∷ r) (at_same p l)

-- by whether it is a port
abbrev pub timed_where : Bool → ℕ → Sender → Sender
timed_where t now s = cond t (timed now s) s

module _ {t : List ℕ} {p : ℕ} (s : PortIn t p) (now : ℕ) where
  pub no-port-timed : length (decode t).settings.ports ≤ p → t ≡ encode (with_sender p (timed_where (is_port (decode t).settings p) now) (decode t))
  unfolding is_port sending
  no-port-timed h =
      laid-is t s.laid
      ∙ ap (λ (l : List Sender). encode (sending (decode t) l)) (sym (at_same p (decode t).senders))
      ∙ ap (λ (b : Bool). encode (with_sender p (timed_where b now) (decode t))) (sym (le-ltb p (length (decode t).settings.ports) h))

  pub port-timed : p < length (decode t).settings.ports → (y : List ℕ) → y ≡ encode (with_sender p (timed now) (decode t))
      → y ≡ encode (with_sender p (timed_where (is_port (decode t).settings p) now) (decode t))
  unfolding is_port
  port-timed h y e = e ∙ ap (λ (b : Bool). encode (with_sender p (timed_where b now) (decode t))) (sym (lt-ltb p (length (decode t).settings.ports) h))

-- one place after another
module _ (t₀ : List ℕ) (l : Laid t₀) (now : ℕ) (small : now < 2 ^ 32) where
  abbrev pub timed_at : ℕ → Sender
  timed_at = time_sender (decode t₀).settings now (decode t₀).senders

  pub timed-at-fits : (q : ℕ) → FitSender (timed_at q)
  timed-at-fits = time-fits (decode t₀).settings now small (decode t₀).senders (laid-fits t₀ l).senders

  pub timed-next : (n : ℕ) → n < 8 → (t : List ℕ) → t ≡ encode (senders_to timed_at t₀ n) → (y : List ℕ)
      → y ≡ encode (with_sender n (timed_where (is_port (decode t).settings n) now) (decode t)) → y ≡ encode (senders_to timed_at t₀ (n + 1))
  timed-next n h t e y q =
      one-sender-more timed_at t₀ l timed-at-fits n h t e (timed_where (is_port (decode t₀).settings n) now) (unfold time_sender timed in refl) y
      (q ∙ ap (λ (st : Settings). encode (with_sender n (timed_where (is_port st n) now) (decode t))) (senders-settings timed_at t₀ l timed-at-fits n h t e))
