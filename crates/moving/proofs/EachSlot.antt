-- The machines of a port's Domain values moved, one slot after another: at each turn the table is laid out, what the loop has not come to
-- is as it was, and how far the moves are; a turn; the end.
use mathlib.Core.Path.{◌≡◌, refl, sym, ◌∙◌, ap}
use mathlib.Core.List.{List, [], ◌∷◌}
use Prim.Native.Nat.{ℕ, zero, suc, ◌+◌, ◌≤◌, ◌<◌}
use native.Mathlib.Numerals.{add-one}
use native.Mathlib.Omega.{arith}
use lib.ListN.{length, get_or, set, length-set}
use lib.Seq.{get_or-set_same, set-get_or, set-set}
use Rattle.model.specs.Layout.{slots}
use Rattle.model.specs.Lists.{bit}
use Rattle.model.specs.Machines.{Applicant, no_applicant, moved}
use Rattle.model.specs.State.{Domain, no_domain, Sender, Bridge, no_sender, sender_at, own_at}
use Rattle.model.specs.Registrations.{at, domain_stays, sending}
use Rattle.model.specs.Settling.{is_applicant}
use Rattle.model.specs.Writing.{moved_slots}
use Rattle.model.specs.Table.{encode, decode}
use Rattle.model.specs.Laid.{FitSender, FitBridge}
use Rattle.model.proofs.Lists.{all_set}
use Rattle.model.proofs.Fits.{laid-is, laid-fits}
use Rattle.table.specs.Updates.{with_sender}
use Rattle.table.specs.Places.{PortIn, SlotIn}
use Rattle.table.proofs.Lens.{at_set}
use Rattle.table.proofs.Fitting.{sending-fits}
use Rattle.table.proofs.ByPlace.{encoded-laid, encoded-read}
use Rattle.table.proofs.SenderParts.{sender-fits}
use Rattle.table.proofs.OwnParts.{own-fits}
use Rattle.moving.specs.declared.Span.{Span}
use Rattle.moving.specs.declared.Met.{Met}
use Rattle.moving.specs.Moves.{moved_by, met_by, slot_moved, met_slot, met_slots, slots_moved, Few, MovedSlot, MovedDomains}
use Rattle.moving.proofs.EachType.{encodes, bit-one, met-one}

module _ (w : Span) where
  -- the first k slots, and how far the moves are behind them

  unfoldable pub slots_to : ℕ → Met → List Domain → List (Applicant (Unit {0})) → List (Applicant (Unit {0}))
  slots_to zero m ds l = l
  slots_to (suc k) m [] l = l
  slots_to (suc k) m (d ∷ ds) [] = []
  slots_to (suc k) m (d ∷ ds) (a ∷ l) = moved (moved_by w m.count (domain_stays d)) a ∷ slots_to k (met_slot w m (domain_stays d) a) ds l

  unfoldable pub met_slots_to : ℕ → Met → List Domain → List (Applicant (Unit {0})) → Met
  met_slots_to zero m ds l = m
  met_slots_to (suc k) m [] l = m
  met_slots_to (suc k) m (d ∷ ds) [] = m
  met_slots_to (suc k) m (d ∷ ds) (a ∷ l) = met_slots_to k (met_slot w m (domain_stays d) a) ds l

  to-length : (k : ℕ) (m : Met) (ds : List Domain) (l : List (Applicant (Unit {0}))) → length (slots_to k m ds l) ≡ length l
  unfolding slots_to
  to-length zero m ds l = refl
  to-length (suc k) m [] l = refl
  to-length (suc k) m (d ∷ ds) [] = refl
  to-length (suc k) m (d ∷ ds) (a ∷ l) = ap suc (to-length k (met_slot w m (domain_stays d) a) ds l)

  to-next : (k : ℕ) (m : Met) (ds : List Domain) (l : List (Applicant (Unit {0}))) → k < length ds → k < length l
      → at k (moved (moved_by w (met_slots_to k m ds l).count (domain_stays (get_or ds k no_domain)))) (slots_to k m ds l) ≡ slots_to (suc k) m ds l
  unfolding slots_to met_slots_to at
  to-next k m [] l h g = absurd (omega arith)
  to-next k m (d ∷ ds) [] h g = absurd (omega arith)
  to-next zero m (d ∷ ds) (a ∷ l) h g = refl
  to-next (suc k) m (d ∷ ds) (a ∷ l) h g =
      ap (λ (r : List (Applicant (Unit {0}))). moved (moved_by w m.count (domain_stays d)) a ∷ r)
      (to-next k (met_slot w m (domain_stays d) a) ds l (omega arith) (omega arith))

  met_next : (k : ℕ) (m : Met) (ds : List Domain) (l : List (Applicant (Unit {0}))) → k < length ds → k < length l
      → met_slot w (met_slots_to k m ds l) (domain_stays (get_or ds k no_domain)) (get_or (slots_to k m ds l) k no_applicant) ≡ met_slots_to (suc k) m ds l
  unfolding slots_to met_slots_to
  met_next k m [] l h g = absurd (omega arith)
  met_next k m (d ∷ ds) [] h g = absurd (omega arith)
  met_next zero m (d ∷ ds) (a ∷ l) h g = refl
  met_next (suc k) m (d ∷ ds) (a ∷ l) h g = met_next k (met_slot w m (domain_stays d) a) ds l (omega arith) (omega arith)

  to-all : (k : ℕ) (m : Met) (ds : List Domain) (l : List (Applicant (Unit {0}))) → length ds ≤ k → slots_to k m ds l ≡ moved_slots (moved_by w) m.count ds l
  unfolding slots_to moved_slots met_slot met_by
  to-all zero m [] l h = refl
  to-all zero m (d ∷ ds) l h = absurd (omega arith)
  to-all (suc k) m [] l h = refl
  to-all (suc k) m (d ∷ ds) [] h = refl
  to-all (suc k) m (d ∷ ds) (a ∷ l) h =
      ap (λ (r : List (Applicant (Unit {0}))). moved (moved_by w m.count (domain_stays d)) a ∷ r) (to-all k (met_slot w m (domain_stays d) a) ds l (omega arith))

  met_all : (k : ℕ) (m : Met) (ds : List Domain) (l : List (Applicant (Unit {0}))) → length ds ≤ k → met_slots_to k m ds l ≡ met_slots w m ds l
  unfolding met_slots_to met_slots
  met_all zero m [] l h = refl
  met_all zero m (d ∷ ds) l h = absurd (omega arith)
  met_all (suc k) m [] l h = refl
  met_all (suc k) m (d ∷ ds) [] h = refl
  met_all (suc k) m (d ∷ ds) (a ∷ l) h = met_all k (met_slot w m (domain_stays d) a) ds l (omega arith)

  met-few : (k : ℕ) (m : Met) (ds : List Domain) (l : List (Applicant (Unit {0}))) (n : ℕ) → Few m n → Few (met_slots_to k m ds l) (n + k)
  unfolding met_slots_to
  met-few zero m ds l n f = record { count = omega (arith, f.count); left = omega (arith, f.left) }
  met-few (suc k) m [] l n f = record { count = omega (arith, f.count); left = omega (arith, f.left) }
  met-few (suc k) m (d ∷ ds) [] n f = record { count = omega (arith, f.count); left = omega (arith, f.left) }
  met-few (suc k) m (d ∷ ds) (a ∷ l) n f =
      let b = moved (moved_by w m.count (domain_stays d)) a in
      let one : Few (met_slot w m (domain_stays d) a) (suc n) =
      unfold met_slot in met-one w m (bit (is_applicant a)) (bit (is_applicant b)) (bit-one (is_applicant a)) (bit-one (is_applicant b)) n f in
      let g = met-few k (met_slot w m (domain_stays d) a) ds l (suc n) one in
      record { count = omega (arith, g.count); left = omega (arith, g.left) }

  -- a loop over the slots of the port at place p, at slot k
  module _ (m₀ : Met) (p : ℕ) (t₀ : List ℕ) where
    abbrev ds : List Domain
    ds = (own_at (decode t₀).owns p).domains

    abbrev sender : Sender
    sender = sender_at (decode t₀).senders p

    abbrev sender_to : ℕ → Sender
    sender_to k = record { domains = slots_to k m₀ ds sender.domains; leave_all = sender.leave_all }

    unfoldable pub bridge_to : ℕ → Bridge
    bridge_to k = sending (decode t₀) (set (decode t₀).senders p (sender_to k))

    pub record SlotsMoving (t : List ℕ) (m : Met) (k : ℕ) : Type 0 where
      pub within : k ≤ slots
      pub size : length t ≡ length t₀
      pub is : t ≡ encode (bridge_to k)
      pub met : m ≡ met_slots_to k m₀ ds sender.domains

    module _ (s : PortIn t₀ p) where
      b-fits : FitBridge (decode t₀)
      b-fits = laid-fits t₀ s.laid

      a-sender : p < length (decode t₀).senders
      a-sender = omega (arith, b-fits.eight_senders, s.port)

      pub none-moved-yet : t₀ ≡ encode (bridge_to 0)
      unfolding bridge_to slots_to sending sender_at
      none-moved-yet = laid-is t₀ s.laid ∙ ap (λ (l : List Sender). encode (sending (decode t₀) l)) (sym (set-get_or (decode t₀).senders p no_sender))

      to-fits : (k : ℕ) → FitBridge (bridge_to k)
      unfolding bridge_to
      to-fits k =
          let f = sender-fits s in
          let one : FitSender (sender_to k) = record { slotted = to-length k m₀ ds sender.domains ∙ f.slotted; start = f.start } in
          sending-fits (decode t₀) b-fits (set (decode t₀).senders p (sender_to k)) (length-set (decode t₀).senders p (sender_to k) ∙ b-fits.eight_senders)
          (all_set FitSender (decode t₀).senders p (sender_to k) b-fits.senders one)

      module _ (t : List ℕ) (m : Met) (k : ℕ) (v : SlotsMoving t m k) where
        to_read : decode t ≡ bridge_to k
        to_read = encoded-read (bridge_to k) (to-fits k) t v.is

        pub next-in : k < slots → SlotIn t p k
        next-in h = record { laid = encoded-laid (bridge_to k) (to-fits k) t v.is; port = s.port; slot = h }

        pub next-few : Few m₀ 192 → Few m 256
        next-few f =
            let few = met-few k m₀ ds sender.domains 192 f in
            record {
              count = omega (arith, few.count, ap (λ (r : Met). r.count) v.met, v.within);
              left = omega (arith, few.left, ap (λ (r : Met). r.left) v.met, v.within);
            }

        owns-same : (own_at (decode t).owns p).domains ≡ ds
        owns-same = ap (λ (b : Bridge). (own_at b.owns p).domains) to_read ∙ unfold bridge_to sending in refl

        sender-same : sender_at (decode t).senders p ≡ sender_to k
        sender-same =
            ap (λ (b : Bridge). sender_at b.senders p) to_read ∙ unfold bridge_to sending sender_at in get_or-set_same (decode t₀).senders p (sender_to k) no_sender a-sender

        module _ (h : k < slots) where
          in-owns : k < length ds
          in-owns = omega (arith, h, (own-fits s).slotted)

          in-slots : k < length sender.domains
          in-slots = omega (arith, h, (sender-fits s).slotted)

          -- the port's part changed again
          again : (u : Sender → Sender) → with_sender p u (decode t) ≡ sending (decode t₀) (set (decode t₀).senders p (u (sender_to k)))
          unfolding bridge_to sending
          again u =
              let l = (decode t₀).senders in
              let l₁ = set l p (sender_to k) in
              ap (with_sender p u) to_read
              ∙ ap (λ (z : List Sender). sending (decode t₀) z)
              (sym (at_set p u l₁ no_sender (omega (arith, a-sender, length-set l p (sender_to k))))
              ∙ ap (λ (x : Sender). set l₁ p (u x)) (get_or-set_same l p (sender_to k) no_sender a-sender)
              ∙ set-set l p (sender_to k) (u (sender_to k)))

          turned : slot_moved w m.count (domain_stays (get_or (own_at (decode t).owns p).domains k no_domain)) k (sender_to k) ≡ sender_to (suc k)
          unfolding slot_moved
          turned = rw (owns-same, v.met, to-next k m₀ ds sender.domains in-owns in-slots)

          pub next-moved : (r : Met) (u : List ℕ) → length u ≡ length t → MovedSlot w m p k t r u → SlotsMoving u r (k + 1)
          next-moved r u z q = record {
            within = omega (arith, h);
            size = z ∙ v.size;
            is =
                q.table
                ∙ ap encode (again (slot_moved w m.count (domain_stays (get_or (own_at (decode t).owns p).domains k no_domain)) k))
                ∙ unfold bridge_to in rw (add-one k) (ap (λ (x : Sender). encode (sending (decode t₀) (set (decode t₀).senders p x))) turned);
            met =
                q.met
                ∙ rw (owns-same, v.met, sender-same, add-one k) (met_next k m₀ ds sender.domains in-owns in-slots);
          }

        all-bridge : length ds ≤ k → bridge_to k ≡ with_sender p (slots_moved w m₀.count ds) (decode t₀)
        unfolding bridge_to slots_moved sender_at
        all-bridge e =
            rw (to-all k m₀ ds sender.domains e)
            (ap (λ (l : List Sender). sending (decode t₀) l) (at_set p (slots_moved w m₀.count ds) (decode t₀).senders no_sender a-sender))

        pub all_moved : slots ≤ k → MovedDomains w m₀ p t₀ m t
        all_moved h =
            let e : length ds ≤ k = omega (arith, h, (own-fits s).slotted) in
            record {
              table = encodes (bridge_to k) (to-fits k) t v.is (with_sender p (slots_moved w m₀.count ds) (decode t₀)) (all-bridge e);
              met = v.met ∙ met_all k m₀ ds sender.domains e;
            }
