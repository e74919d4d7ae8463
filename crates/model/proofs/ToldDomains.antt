-- What a pass tells a neighbour of its Domain values, slot by slot, and that they follow what the port sends (02, xiv).
use mathlib.Core.Path.{◌≡◌, refl, sym, ◌∙◌, ap}
use mathlib.Core.List.{List, [], ◌∷◌, ◌++◌, map, flat_map, append-nil}
use mathlib.Core.Bool.{Bool, true, false, cond, false≢true}
use Prim.Native.Nat.{ℕ, suc, ◌+◌, ◌-◌, ◌/◌, ◌%◌, ◌≤◌, ◌<◌}
use native.Mathlib.Omega.{arith}
use lib.ListN.{length, get_or, length-map}
use lib.Dec.{eqb}
use borrow.Author.Tests.{ne_eqb, eqb-true, eqb-false}
use Rattle.model.specs.Applicant.{Standing, very_anxious_passive, very_anxious_new, anxious_new, anxious_active, quiet_active, leaving_active}
use Rattle.model.specs.Machines.{Heard, Applicant, no_applicant, applicant}
use Rattle.model.specs.State.{stays, since, Fixed, Varying, Ready, Domain, no_domain, domain, Own, Sends, Stream, Settings, Bridge, no_own, sends_at, sender_at, own_at, slot_of}
use Rattle.model.specs.Registrations.{Kind, advertises, faileds, listeners, Act, leave_all, leave, talk, listen, hear_all, hear, of_domain, DomainAct, leave_all_domains, leave_domain, join_domain, hear_all_domains, hear_domain, quit_domain, does_domain, change_domains, apply_own, apply_owns, domain_stays, begin, is_staying, at}
use Rattle.model.specs.Frames.{Asking, nothing_asked, join, withdraw}
use Rattle.model.specs.Table.{stands, is_standing}
use Rattle.model.specs.Settling.{is_applicant}
use Rattle.model.specs.Declarations.{Declaration, talker_declaration, listener_declaration, domain_declaration, join_of, listed_as, advertise_of, failed_of, declarations_of, of_kind, domain_of, domain_values, declarations, leave_of, hear_of, asked_of}
use Rattle.model.proofs.Lists.{at_here, at_other, length_at, get_or_map}
use Rattle.model.proofs.ToldStreams.{Effect, asks_for, asks_acts, both-tell}
use Rattle.model.proofs.Following.{WhenQuiet, Quiet, Stands, passed, passed-quiet, passed-same}

-- Domain values, slot by slot.

-- the neighbour: what an act does to the value in slot j
unfoldable pub slot_on : ℕ → ℕ → Act → Domain → Domain
slot_on now j (leave_all k) d = d
slot_on now j (leave k i) d = d
slot_on now j (talk i f v) d = d
slot_on now j (listen i r) d = d
slot_on now j (hear_all k) d = d
slot_on now j (hear k i h) d = d
slot_on now j (of_domain leave_all_domains) d = quit_domain now d
slot_on now j (of_domain (leave_domain i)) d = cond (eqb i j) (quit_domain now d) d
slot_on now j (of_domain (join_domain i v)) d = cond (eqb i j) (domain v stays) d
slot_on now j (of_domain hear_all_domains) d = d
slot_on now j (of_domain (hear_domain i h)) d = d

unfoldable pub slot_after : ℕ → ℕ → List Act → Domain → Domain
slot_after now j [] d = d
slot_after now j (a ∷ es) d = slot_after now j es (slot_on now j a d)

-- the value registered in slot j of a port
unfoldable pub domain_for : ℕ → ℕ → List Own → Domain
domain_for q j o = get_or (own_at o q).domains j no_domain

module _ (now j : ℕ) where
  one-slot : (i : ℕ) (u : Domain → Domain) (ds : List Domain) → j < length ds → get_or (at i u ds) j no_domain ≡ cond (eqb i j) (u (get_or ds j no_domain)) (get_or ds j no_domain)
  one-slot i u ds h = go (eqb i j) refl
    where
      go : (t : Bool) → eqb i j ≡ t → get_or (at i u ds) j no_domain ≡ cond t (u (get_or ds j no_domain)) (get_or ds j no_domain)
      go true e = rw (eqb-true i j e) (at_here j u ds no_domain h)
      go false e = at_other i u ds j no_domain (eqb-false i j e)

  slot-act : (a : DomainAct) (ds : List Domain) → j < length ds
      → (get_or (does_domain now a ds) j no_domain ≡ slot_on now j (of_domain a) (get_or ds j no_domain)) × (j < length (does_domain now a ds))
  unfolding does_domain slot_on
  slot-act leave_all_domains ds h = (get_or_map (quit_domain now) ds j no_domain no_domain h, omega (arith, length-map ds (quit_domain now)))
  slot-act (leave_domain i) ds h = (one-slot i (quit_domain now) ds h, omega (arith, length_at i (quit_domain now) ds))
  slot-act (join_domain i v) ds h = (one-slot i (λ d. domain v stays) ds h, omega (arith, length_at i (λ (d : Domain). domain v stays) ds))
  slot-act hear_all_domains ds h = (refl, h)
  slot-act (hear_domain i g) ds h = (refl, h)

  module _ (q : ℕ) where
    -- the port is there, and has the slot
    abbrev pub Slot : List Own → Type 0
    Slot o = (q < length o) × (j < length (own_at o q).domains)

    own-act : (a : Act) (o : List Own) → Slot o → (domain_for q j (apply_own now q a o) ≡ slot_on now j a (domain_for q j o)) × Slot (apply_own now q a o)
    unfolding apply_own slot_on domain_for
    own-act (leave_all k) o h = (refl, h)
    own-act (leave k i) o h = (refl, h)
    own-act (talk i f v) o h = (refl, h)
    own-act (listen i r) o h = (refl, h)
    own-act (hear_all k) o h = (refl, h)
    own-act (hear k i g) o h = (refl, h)
    own-act (of_domain a) o h =
        let e : own_at (at q (change_domains (does_domain now a)) o) q ≡ change_domains (does_domain now a) (own_at o q) = at_here q (change_domains (does_domain now a)) o no_own h.0 in
        let d = slot-act a (own_at o q).domains h.1 in
        let c : (get_or (change_domains (does_domain now a) (own_at o q)).domains j no_domain ≡ slot_on now j (of_domain a) (get_or (own_at o q).domains j no_domain)) × (j < length (change_domains (does_domain now a) (own_at o q)).domains) =
        unfold change_domains in d in
        (rw e c.0, (omega (arith, h.0, length_at q (change_domains (does_domain now a)) o), rw e c.1))

    pub slot-after : (es : List Act) (o : List Own) → Slot o → (domain_for q j (apply_owns now q es o) ≡ slot_after now j es (domain_for q j o)) × Slot (apply_owns now q es o)
    unfolding apply_owns slot_after
    slot-after [] o h = (refl, h)
    slot-after (a ∷ es) o h =
        let c = own-act a o h in
        let rest = slot-after es (apply_own now q a o) c.1 in
        (rest.0 ∙ ap (slot_after now j es) c.0, rest.1)

  pub slots-none : (d : Domain) → slot_after now j [] d ≡ d
  unfolding slot_after
  slots-none d = refl

  pub slots-append : (es fs : List Act) (d : Domain) → slot_after now j (es ++ fs) d ≡ slot_after now j fs (slot_after now j es d)
  unfolding slot_after
  slots-append [] fs d = refl
  slots-append (a ∷ es) fs d = slots-append es fs (slot_on now j a d)

  pub slots-unheard : (c : Declaration) (hs : List Heard) (d : Domain) → slot_after now j (map (hear_of c) hs) d ≡ d
  unfolding slot_after slot_on hear_of
  slots-unheard c [] d = refl
  slots-unheard (talker_declaration id f v) (h ∷ hs) d = slots-unheard (talker_declaration id f v) hs d
  slots-unheard (listener_declaration id r) (h ∷ hs) d = slots-unheard (listener_declaration id r) hs d
  slots-unheard (domain_declaration id q v) (h ∷ hs) d = slots-unheard (domain_declaration id q v) hs d

  unfoldable pub on_slot : Effect Domain
  on_slot = record { after = slot_after now j; none = slots-none; append = slots-append; unheard = slots-unheard }

-- a Domain value is of its slot
slot-of : (m : ℕ) → slot_of (5 + m / 8) (m % 8) ≡ m
unfolding slot_of
slot-of m = omega arith

-- what a machine makes of the value in its slot
unfoldable pub slot_asked : ℕ → ℕ → Asking → Domain → Domain
slot_asked now vlan nothing_asked d = d
slot_asked now vlan join d = domain vlan stays
slot_asked now vlan withdraw d = quit_domain now d

unfoldable pub tells_slot : ℕ → ℕ → Applicant (Unit {0}) → Domain → Domain
tells_slot now vlan no_applicant d = d
tells_slot now vlan (applicant x) d = slot_asked now vlan (asks_for x.state) d

module _ (now j : ℕ) where
  -- no stream's declaration touches it
  listed-silent : {A : Type 0} (f : A → Declaration) → ((v : A) (g : Asking) (d : Domain) → slot_after now j (asked_of (f v) g) d ≡ d)
      → (a : Applicant A) (d : Domain) → slot_after now j (flat_map asks_acts (listed_as f a)) d ≡ d
  unfolding listed_as flat_map asks_acts
  listed-silent f n no_applicant d = unfold slot_after in refl
  listed-silent f n (applicant x) d = rw append-nil (n x.value (asks_for x.state) d)

  talker-silent : (i : ℕ) (f : Fixed) (v : Varying) (g : Asking) (d : Domain) → slot_after now j (asked_of (talker_declaration i f v) g) d ≡ d
  unfolding asked_of join_of leave_of slot_after slot_on
  talker-silent i f v nothing_asked d = refl
  talker-silent i f v join d = refl
  talker-silent i f v withdraw d = refl

  listener-silent : (i : ℕ) (r : Ready) (g : Asking) (d : Domain) → slot_after now j (asked_of (listener_declaration i r) g) d ≡ d
  unfolding asked_of join_of leave_of slot_after slot_on
  listener-silent i r nothing_asked d = refl
  listener-silent i r join d = refl
  listener-silent i r withdraw d = refl

  kind-silent : (k : Kind) (i : ℕ) (s : Sends) (d : Domain) → slot_after now j (flat_map asks_acts (declarations_of k i s)) d ≡ d
  unfolding declarations_of advertise_of failed_of
  kind-silent advertises i s d = listed-silent (advertise_of i) (λ v g e. talker-silent i _ _ g e) s.advertising d
  kind-silent faileds i s d = listed-silent (failed_of i) (λ v g e. talker-silent i _ _ g e) s.failing d
  kind-silent listeners i s d = listed-silent (listener_declaration i) (λ v g e. listener-silent i v g e) s.listening d

  streams-silent : (k : Kind) (p : ℕ) (s : List Stream) (d : Domain) → slot_after now j (flat_map asks_acts (of_kind k p s)) d ≡ d
  unfolding of_kind on_slot
  streams-silent k p [] d = unfold flat_map slot_after in refl
  streams-silent k p (x ∷ s) d =
      both-tell (on_slot now j) (declarations_of k x.id (sends_at x p)) (of_kind k p s) d ∙ streams-silent k p s _ ∙ kind-silent k x.id (sends_at x p) d

  module _ (st : Settings) where
    asked-slot : (m : ℕ) (g : Asking) (d : Domain) → slot_after now j (asked_of (domain_of st m) g) d ≡ cond (eqb m j) (slot_asked now st.vlan g d) d
    unfolding domain_of asked_of join_of leave_of slot_after slot_on slot_asked
    asked-slot m nothing_asked d = go (eqb m j)
      where
        go : (t : Bool) → d ≡ cond t d d
        go true = refl
        go false = refl
    asked-slot m join d = rw (slot-of m)
    asked-slot m withdraw d = rw (slot-of m)

    listed-slot : (m : ℕ) (a : Applicant (Unit {0})) (d : Domain)
        → slot_after now j (flat_map asks_acts (listed_as (λ u. domain_of st m) a)) d ≡ cond (eqb m j) (tells_slot now st.vlan a d) d
    unfolding listed_as flat_map asks_acts tells_slot
    listed-slot m no_applicant d = unfold slot_after in (go (eqb m j))
      where
        go : (t : Bool) → d ≡ cond t d d
        go true = refl
        go false = refl
    listed-slot m (applicant x) d = rw append-nil (asked-slot m (asks_for x.state) d)

    -- the slots from m on
    slots-above : (m : ℕ) (l : List (Applicant (Unit {0}))) (d : Domain) → j < m → slot_after now j (flat_map asks_acts (domain_values st m l)) d ≡ d
    unfolding domain_values on_slot
    slots-above m [] d h = unfold flat_map slot_after in refl
    slots-above m (a ∷ l) d h =
        both-tell (on_slot now j) (listed_as (λ u. domain_of st m) a) (domain_values st (suc m) l) d
        ∙ slots-above (suc m) l _ (omega arith) ∙ listed-slot m a d ∙ rw (ne_eqb m j (λ e. omega arith))

    slots-tell : (m : ℕ) (l : List (Applicant (Unit {0}))) (d : Domain) → m ≤ j
        → slot_after now j (flat_map asks_acts (domain_values st m l)) d ≡ tells_slot now st.vlan (get_or l (j - m) no_applicant) d
    unfolding domain_values on_slot
    slots-tell m [] d h = unfold flat_map slot_after tells_slot in refl
    slots-tell m (a ∷ l) d h =
        both-tell (on_slot now j) (listed_as (λ u. domain_of st m) a) (domain_values st (suc m) l) d
        ∙ ap (slot_after now j (flat_map asks_acts (domain_values st (suc m) l))) (listed-slot m a d)
        ∙ go (eqb m j) refl (slots-tell (suc m) l d)
      where
        go : (t : Bool) → eqb m j ≡ t
            → (suc m ≤ j → slot_after now j (flat_map asks_acts (domain_values st (suc m) l)) d ≡ tells_slot now st.vlan (get_or l (j - suc m) no_applicant) d)
            → slot_after now j (flat_map asks_acts (domain_values st (suc m) l)) (cond t (tells_slot now st.vlan a d) d) ≡ tells_slot now st.vlan (get_or (a ∷ l) (j - m) no_applicant) d
        go true e ih =
            let n : m ≡ j = eqb-true m j e in
            let z : j - m ≡ 0 = omega arith in
            rw z (slots-above (suc m) l (tells_slot now st.vlan a d) (omega arith))
        go false e ih =
            let n : m ≡ j → ⊥ = eqb-false m j e in
            let z : j - m ≡ suc (j - suc m) = omega arith in
            rw z (ih (omega arith))

pub port-tells-slot : (now j : ℕ) (b : Bridge) (p : ℕ) (d : Domain)
    → slot_after now j (flat_map asks_acts (declarations b p)) d ≡ tells_slot now b.settings.vlan (get_or (sender_at b.senders p).domains j no_applicant) d
unfolding declarations on_slot
port-tells-slot now j b p d =
    let s = b.streams in
    let domains = domain_values b.settings 0 (sender_at b.senders p).domains in
    let z : j - 0 ≡ j = omega arith in
    both-tell (on_slot now j) (of_kind advertises p s) (of_kind faileds p s ++ (of_kind listeners p s ++ domains)) d
    ∙ both-tell (on_slot now j) (of_kind faileds p s) (of_kind listeners p s ++ domains) _
    ∙ both-tell (on_slot now j) (of_kind listeners p s) domains _
    ∙ ap (slot_after now j (flat_map asks_acts domains)) (streams-silent now j listeners p s _ ∙ streams-silent now j faileds p s _ ∙ streams-silent now j advertises p s d)
    ∙ rw z at (slots-tell now j b.settings 0 (sender_at b.senders p).domains d (omega arith))

-- before a pass and after it
pub record KnownSlot (vlan : ℕ) (a : Applicant (Unit {0})) (d : Domain) : Type 0 where
  pub quiet : Quiet (λ u. d ≡ domain vlan stays) a
  pub known : domain_stays d ≡ true → is_applicant a ≡ true

pub record FollowsSlot (vlan : ℕ) (a : Applicant (Unit {0})) (d : Domain) : Type 0 where
  pub value : Stands (λ u. d ≡ domain vlan stays) a
  pub only : domain_stays d ≡ true → stands a ≡ true

quit-slot : (now : ℕ) (d : Domain) → domain_stays (quit_domain now d) ≡ false
unfolding domain_stays quit_domain begin is_staying
quit-slot now no_domain = refl
quit-slot now (domain v stays) = refl
quit-slot now (domain v (since t)) = refl

pub slot-follows : (now vlan : ℕ) (a : Applicant (Unit {0})) (d : Domain) → KnownSlot vlan a d → FollowsSlot vlan a (tells_slot now vlan a d)
unfolding tells_slot is_applicant stands is_standing
slot-follows now vlan no_applicant d k = record { value = tt; only = λ h. k.known h }
slot-follows now vlan (applicant x) d k = go x.state k.quiet
  where
    go : (q : Standing) → WhenQuiet q (d ≡ domain vlan stays) → FollowsSlot vlan (applicant record { state = q; value = x.value }) (slot_asked now vlan (asks_for q) d)
    go very_anxious_passive w = unfold asks_for slot_asked in record { value = refl; only = λ h. refl }
    go very_anxious_new w = unfold asks_for slot_asked in record { value = refl; only = λ h. refl }
    go anxious_new w = unfold asks_for slot_asked in record { value = refl; only = λ h. refl }
    go anxious_active w = unfold asks_for slot_asked in record { value = refl; only = λ h. refl }
    go quiet_active w = unfold asks_for slot_asked in record { value = w; only = λ h. refl }
    go leaving_active w = unfold asks_for slot_asked in record { value = tt; only = λ h. absurd (false≢true (sym (quit-slot now d) ∙ h)) }

-- so it is before the next pass
pub slot-known : (r : Bool) (vlan : ℕ) (a : Applicant (Unit {0})) (d : Domain) → FollowsSlot vlan a d → KnownSlot vlan (passed r a) d
slot-known r vlan a d h = record { quiet = passed-quiet r (λ u. d ≡ domain vlan stays) a h.value; known = λ e. (passed-same r a).0 ∙ h.only e }
