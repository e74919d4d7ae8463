-- After a pass a neighbour's registrations of a stream follow what the port sends: what stands is registered, with its values, and what
-- stays registered stands (02, xiv).
use mathlib.Core.Path.{◌≡◌, refl, sym, ◌∙◌, ap}
use mathlib.Core.List.{map}
use mathlib.Core.Bool.{Bool, true, false, cond, ◌&&◌, false≢true, true≢false}
use Prim.Native.Nat.{ℕ}
use borrow.Author.Tests.{eq-eqb}
use Rattle.model.specs.Applicant.{tx, becomes, Standing, very_anxious_passive, very_anxious_new, anxious_new, anxious_active, quiet_active, leaving_active}
use Rattle.model.specs.Machines.{Applicant, no_applicant, applicant, with, applicant_of, moved}
use Rattle.model.specs.State.{Leaving, stays, since, Fixed, talker_advertise, talker_failed, Varying, Registration, Talker, no_talker, talker, Ready, Listener, no_listener, listener, Cell, Offer, Failure, Sends}
use Rattle.model.specs.Registrations.{Kind, advertises, faileds, listeners, begin, talks_as, hears_as, with_leaving, quit_talker, quit_listener, quit, same_fixed, first_join, same_join, other_join, join_talker, does, is_staying, talker_stays, listener_stays}
use Rattle.model.specs.Frames.{Asking, nothing_asked, join, withdraw}
use Rattle.model.specs.Table.{stands, is_standing}
use Rattle.model.specs.Settling.{is_applicant}
use Rattle.model.specs.Declarations.{talker_declaration, listener_declaration, talker_kind, join_of, advertise_of, failed_of, leave_of, asked_of}
use Rattle.model.proofs.Lists.{and_left, and_right, and_both}
use Rattle.model.proofs.ApplicantEntries.{tables}
use Rattle.model.proofs.ToldStreams.{about, cell_on, cell_after, asks_for, tells, tells_kind, tells_cell}

-- A Talker's registration.

-- it is just what is declared, and stays
abbrev pub Registers : Fixed → Varying → Talker → Type 0
Registers f v no_talker = ⊥
Registers f v (talker r) = (same_fixed f r.fixed ≡ true) × (r.varying ≡ v) × (r.changed ≡ false) × (r.leaving ≡ stays)

-- no other destination, VLAN, TSpec, priority or rank is registered
abbrev pub NoOther : Fixed → Talker → Type 0
NoOther f no_talker = Unit {0}
NoOther f (talker r) = same_fixed f r.fixed ≡ true

same_self : (f : Fixed) → same_fixed f f ≡ true
unfolding same_fixed
same_self f =
    rw (
      eq-eqb f.destination f.destination refl,
      eq-eqb f.vlan f.vlan refl,
      eq-eqb f.size f.size refl,
      eq-eqb f.frames f.frames refl,
      eq-eqb f.priority f.priority refl,
      eq-eqb f.rank f.rank refl,
    )

join-registers : (f : Fixed) (v : Varying) (t : Talker) → NoOther f t → Registers f v (join_talker f v t)
unfolding join_talker first_join same_join
join-registers f v no_talker n = (same_self f, refl, refl, refl)
join-registers f v (talker r) n = rw n (n, refl, refl, refl)

-- "where another destination, VLAN, TSpec, priority or rank was registered before, that stands, marked changed"
pub other-stands : (f : Fixed) (v : Varying) (r : Registration) → same_fixed f r.fixed ≡ false
    → join_talker f v (talker r) ≡ talker record { fixed = r.fixed; varying = r.varying; first_latency = r.first_latency; changed = true; leaving = stays }
unfolding join_talker other_join
other-stands f v r n = rw n

module _ (now : ℕ) (k : Kind) where
  -- an Lv of its type starts its leaving, one of another type nothing
  quit-gone : (t : Talker) → talker_stays k (quit_talker now k t) ≡ false
  unfolding talker_stays quit_talker with_leaving
  quit-gone no_talker = refl
  quit-gone (talker r) = go (talks_as k r.varying.type) r.leaving
    where
      go : (t : Bool) (l : Leaving) → (t && is_staying (cond t (begin now l) l)) ≡ false
      go true stays = unfold begin is_staying in refl
      go true (since n) = unfold begin is_staying in refl
      go false l = refl

  quit-other : (f : Fixed) (v : Varying) (t : Talker) → talks_as k v.type ≡ false → Registers f v t → Registers f v (quit_talker now k t)
  unfolding quit_talker with_leaving
  quit-other f v no_talker n h = h
  quit-other f v (talker r) n h = (h.0, h.1, h.2, ap (λ (w : Varying). cond (talks_as k w.type) (begin now r.leaving) r.leaving) h.1 ∙ rw n h.3)

  quit-fixed : (f : Fixed) (t : Talker) → NoOther f t → NoOther f (quit_talker now k t)
  unfolding quit_talker with_leaving
  quit-fixed f no_talker n = n
  quit-fixed f (talker r) n = n

  -- what stays after an Lv stayed before it
  quit-stays : (j : Kind) (t : Talker) → talker_stays j (quit_talker now k t) ≡ true → talker_stays j t ≡ true
  unfolding talker_stays quit_talker with_leaving
  quit-stays j no_talker h = h
  quit-stays j (talker r) h = and_both (talks_as j r.varying.type) (is_staying r.leaving) (and_left (talks_as j r.varying.type) _ h) (go (talks_as k r.varying.type) r.leaving (and_right (talks_as j r.varying.type) _ h))
    where
      go : (t : Bool) (l : Leaving) → is_staying (cond t (begin now l) l) ≡ true → is_staying l ≡ true
      go t stays e = unfold is_staying in refl
      go true (since n) e = absurd (false≢true (unfold begin is_staying in e))
      go false (since n) e = e

-- a registration is of one type
one_type : (j : Kind) (f : Fixed) (v : Varying) (t : Talker) → talks_as j v.type ≡ false → Registers f v t → talker_stays j t ≡ false
unfolding talker_stays
one_type j f v no_talker n h = absurd h
one_type j f v (talker r) n h = ap (λ (w : Varying). talks_as j w.type && is_staying r.leaving) h.1 ∙ rw n

-- What holds of the value of a machine that is quiet, or that stands.

abbrev pub WhenQuiet : Standing → Type 0 → Type 0
WhenQuiet very_anxious_passive P = Unit {0}
WhenQuiet very_anxious_new P = Unit {0}
WhenQuiet anxious_new P = Unit {0}
WhenQuiet anxious_active P = Unit {0}
WhenQuiet quiet_active P = P
WhenQuiet leaving_active P = Unit {0}

abbrev pub WhenStanding : Standing → Type 0 → Type 0
WhenStanding very_anxious_passive P = P
WhenStanding very_anxious_new P = P
WhenStanding anxious_new P = P
WhenStanding anxious_active P = P
WhenStanding quiet_active P = P
WhenStanding leaving_active P = Unit {0}

abbrev pub Quiet : {A : Type 0} → (A → Type 0) → Applicant A → Type 0
Quiet P no_applicant = Unit {0}
Quiet P (applicant x) = WhenQuiet x.state (P x.value)

abbrev pub Stands : {A : Type 0} → (A → Type 0) → Applicant A → Type 0
Stands P no_applicant = Unit {0}
Stands P (applicant x) = WhenStanding x.state (P x.value)

module _ {A : Type 0} (P Q : A → Type 0) (h : (v : A) → P v → Q v) where
  quiet-map : (a : Applicant A) → Quiet P a → Quiet Q a
  quiet-map no_applicant w = tt
  quiet-map (applicant x) w = go x.state w
    where
      go : (q : Standing) → WhenQuiet q (P x.value) → WhenQuiet q (Q x.value)
      go very_anxious_passive w = tt
      go very_anxious_new w = tt
      go anxious_new w = tt
      go anxious_active w = tt
      go quiet_active w = h x.value w
      go leaving_active w = tt

  pub stands-map : (a : Applicant A) → Stands P a → Stands Q a
  stands-map no_applicant w = tt
  stands-map (applicant x) w = go x.state w
    where
      go : (q : Standing) → WhenStanding q (P x.value) → WhenStanding q (Q x.value)
      go very_anxious_passive w = h x.value w
      go very_anxious_new w = h x.value w
      go anxious_new w = h x.value w
      go anxious_active w = h x.value w
      go quiet_active w = h x.value w
      go leaving_active w = tt

module _ {A : Type 0} where
  -- nothing is asked of one that does not stand
  fallen : (P : A → Type 0) (a : Applicant A) → stands a ≡ false → Stands P a
  unfolding stands is_standing
  fallen P no_applicant e = tt
  fallen P (applicant x) e = go x.state e
    where
      go : (q : Standing) → is_standing q ≡ false → WhenStanding q (P x.value)
      go very_anxious_passive e = absurd (true≢false e)
      go very_anxious_new e = absurd (true≢false e)
      go anxious_new e = absurd (true≢false e)
      go anxious_active e = absurd (true≢false e)
      go quiet_active e = absurd (true≢false e)
      go leaving_active e = tt

  -- what holds of the values of all that stand, of one that does: with any conclusion
  standing-gives : (P : A → Type 0) (R : Type 0) → ((v : A) → P v → R) → (a : Applicant A) → stands a ≡ true → Stands P a → R
  unfolding stands is_standing
  standing-gives P R h no_applicant e w = absurd (false≢true e)
  standing-gives P R h (applicant x) e w = go x.state e w
    where
      go : (q : Standing) → is_standing q ≡ true → WhenStanding q (P x.value) → R
      go very_anxious_passive e w = h x.value w
      go very_anxious_new e w = h x.value w
      go anxious_new e w = h x.value w
      go anxious_active e w = h x.value w
      go quiet_active e w = h x.value w
      go leaving_active e w = absurd (false≢true e)

-- A Talker's machine of type k, with the fixed values and the others of what it declares.

module _ {A : Type 0} (values : A → Fixed) (others : A → Varying) (k : Kind) (now : ℕ) where
  -- what it makes of the neighbour's Talker
  unfoldable talker_asked : Asking → A → Talker → Talker
  talker_asked nothing_asked v t = t
  talker_asked join v t = join_talker (values v) (others v) t
  talker_asked withdraw v t = quit_talker now k t

  unfoldable talker_told : Applicant A → Talker → Talker
  talker_told no_applicant t = t
  talker_told (applicant x) t = talker_asked (asks_for x.state) x.value t

  -- one that stands is registered afterwards
  told-registers : (a : Applicant A) (t : Talker) → Stands (λ v. NoOther (values v) t) a → Quiet (λ v. Registers (values v) (others v) t) a
      → Stands (λ v. Registers (values v) (others v) (talker_told a t)) a
  unfolding talker_told
  told-registers no_applicant t n q = tt
  told-registers (applicant x) t n q = go x.state n q
    where
      joined : NoOther (values x.value) t → Registers (values x.value) (others x.value) (talker_asked join x.value t)
      joined m = unfold talker_asked in (join-registers (values x.value) (others x.value) t m)

      go : (s : Standing) → WhenStanding s (NoOther (values x.value) t) → WhenQuiet s (Registers (values x.value) (others x.value) t)
          → WhenStanding s (Registers (values x.value) (others x.value) (talker_asked (asks_for s) x.value t))
      go very_anxious_passive m r = unfold asks_for in (joined m)
      go very_anxious_new m r = unfold asks_for in (joined m)
      go anxious_new m r = unfold asks_for in (joined m)
      go anxious_active m r = unfold asks_for in (joined m)
      go quiet_active m r = unfold asks_for talker_asked in r
      go leaving_active m r = tt

  -- one that does not stand says nothing or Lv
  told-fallen : (P : Talker → Type 0) (a : Applicant A) (t : Talker) → stands a ≡ false → P t → P (quit_talker now k t) → P (talker_told a t)
  unfolding talker_told stands is_standing
  told-fallen P no_applicant t e kept left = kept
  told-fallen P (applicant x) t e kept left = go x.state e
    where
      go : (s : Standing) → is_standing s ≡ false → P (talker_asked (asks_for s) x.value t)
      go very_anxious_passive d = absurd (true≢false d)
      go very_anxious_new d = absurd (true≢false d)
      go anxious_new d = absurd (true≢false d)
      go anxious_active d = absurd (true≢false d)
      go quiet_active d = absurd (true≢false d)
      go leaving_active d = unfold asks_for talker_asked in left

  -- what stays of its type afterwards stands here, if what stayed before has a machine here
  told-only : (a : Applicant A) (t : Talker) → (talker_stays k t ≡ true → is_applicant a ≡ true) → talker_stays k (talker_told a t) ≡ true → stands a ≡ true
  unfolding talker_told stands is_standing is_applicant
  told-only no_applicant t known h = known h
  told-only (applicant x) t known h = go x.state h
    where
      go : (s : Standing) → talker_stays k (talker_asked (asks_for s) x.value t) ≡ true → is_standing s ≡ true
      go very_anxious_passive e = refl
      go very_anxious_new e = refl
      go anxious_new e = refl
      go anxious_active e = refl
      go quiet_active e = refl
      go leaving_active e = absurd (false≢true (sym (quit-gone now k t) ∙ (unfold asks_for talker_asked in e)))

-- Both Talker types and the Listener of one stream: what the neighbour has registered in a cell, and what a port sends.

abbrev pub offered : Offer → Fixed
offered o = o.fixed

abbrev pub advertised : Offer → Varying
advertised o = record { type = talker_advertise; latency = o.latency }

abbrev pub failed_offer : Offer × Failure → Fixed
failed_offer o = o.0.fixed

abbrev pub failed_as : Offer × Failure → Varying
failed_as o = record { type = talker_failed o.1.bridge o.1.code; latency = o.0.latency }

-- Before a pass: what is quiet here is registered there, what stays registered there has a machine here, at most one Talker type stands
-- (02, xiv: "just the settled declarations"), and no other values of it are registered.
pub record KnownTalkers (a : Applicant Offer) (f : Applicant (Offer × Failure)) (t : Talker) : Type 0 where
  pub advertise : Quiet (λ o. Registers (offered o) (advertised o) t) a
  pub failed : Quiet (λ o. Registers (failed_offer o) (failed_as o) t) f
  pub advertise-known : talker_stays advertises t ≡ true → is_applicant a ≡ true
  pub failed-known : talker_stays faileds t ≡ true → is_applicant f ≡ true
  pub one-talker : stands a ≡ true → stands f ≡ false
  pub no-other-advertise : Stands (λ o. NoOther (offered o) t) a
  pub no-other-failed : Stands (λ o. NoOther (failed_offer o) t) f

pub record Known (s : Sends) (c : Cell) : Type 0 where
  pub talkers : KnownTalkers s.advertising s.failing c.talks
  pub listener : Quiet (λ r. c.hears ≡ listener r stays) s.listening
  pub listener-known : listener_stays c.hears ≡ true → is_applicant s.listening ≡ true

-- After it: what stands here is registered there, with its values, and what stays registered there stands here.
pub record Follows (s : Sends) (c : Cell) : Type 0 where
  pub advertise : Stands (λ o. Registers (offered o) (advertised o) c.talks) s.advertising
  pub failed : Stands (λ o. Registers (failed_offer o) (failed_as o) c.talks) s.failing
  pub listener : Stands (λ r. c.hears ≡ listener r stays) s.listening
  pub advertise-only : talker_stays advertises c.talks ≡ true → stands s.advertising ≡ true
  pub failed-only : talker_stays faileds c.talks ≡ true → stands s.failing ≡ true
  pub listener-only : listener_stays c.hears ≡ true → stands s.listening ≡ true

module _ (now : ℕ) (a : Applicant Offer) (f : Applicant (Offer × Failure)) (t : Talker) where
  first : Talker
  first = talker_told offered advertised advertises now a t

  both : Talker
  both = talker_told failed_offer failed_as faileds now f first

  module _ (k : KnownTalkers a f t) where
    first-registers : Stands (λ o. Registers (offered o) (advertised o) first) a
    unfolding first
    first-registers = told-registers offered advertised advertises now a t k.no-other-advertise k.advertise

    -- an Advertise that stands
    module _ (s : stands a ≡ true) where
      advertise-stays : Stands (λ o. Registers (offered o) (advertised o) both) a
      unfolding both
      advertise-stays =
          stands-map (λ o. Registers (offered o) (advertised o) first) (λ o. Registers (offered o) (advertised o) both)
          (λ o h. told-fallen failed_offer failed_as faileds now (Registers (offered o) (advertised o)) f first (k.one-talker s) h (quit-other now faileds (offered o) (advertised o) first (unfold talks_as in refl) h))
          a first-registers

      no-failed : talker_stays faileds first ≡ false
      no-failed =
          standing-gives (λ o. Registers (offered o) (advertised o) first) (talker_stays faileds first ≡ false)
          (λ o h. one_type faileds (offered o) (advertised o) first (unfold talks_as in refl) h) a s first-registers

    -- none that stands
    module _ (s : stands a ≡ false) where
      fallen-keeps : (g : Fixed) (v : Varying) → talks_as advertises v.type ≡ false → Registers g v t → Registers g v first
      unfolding first
      fallen-keeps g v n h = told-fallen offered advertised advertises now (Registers g v) a t s h (quit-other now advertises g v t n h)

      failed-stays : Stands (λ o. Registers (failed_offer o) (failed_as o) both) f
      unfolding both
      failed-stays =
          told-registers failed_offer failed_as faileds now f first
          (stands-map (λ o. NoOther (failed_offer o) t) (λ o. NoOther (failed_offer o) first)
          (λ o h. unfold first in (told-fallen offered advertised advertises now (NoOther (failed_offer o)) a t s h (quit-fixed now advertises (failed_offer o) t h))) f k.no-other-failed)
          (quiet-map (λ o. Registers (failed_offer o) (failed_as o) t) (λ o. Registers (failed_offer o) (failed_as o) first)
          (λ o h. fallen-keeps (failed_offer o) (failed_as o) (unfold talks_as in refl) h) f k.failed)

      failed-before : talker_stays faileds first ≡ true → talker_stays faileds t ≡ true
      unfolding first
      failed-before =
          told-fallen offered advertised advertises now (λ u. talker_stays faileds u ≡ true → talker_stays faileds t ≡ true) a t s (λ h. h) (quit-stays now advertises faileds t)

      advertise-before : talker_stays advertises both ≡ true → talker_stays advertises first ≡ true
      unfolding both
      advertise-before = go (stands f) refl
        where
          go : (w : Bool) → stands f ≡ w → talker_stays advertises (talker_told failed_offer failed_as faileds now f first) ≡ true → talker_stays advertises first ≡ true
          go true e h =
              absurd (false≢true (sym (standing-gives (λ o. Registers (failed_offer o) (failed_as o) (talker_told failed_offer failed_as faileds now f first)) (talker_stays advertises (talker_told failed_offer failed_as faileds now f first) ≡ false)
              (λ o r. one_type advertises (failed_offer o) (failed_as o) _ (unfold talks_as in refl) r) f e failed-stays) ∙ h))
          go false e h =
              told-fallen failed_offer failed_as faileds now (λ u. talker_stays advertises u ≡ true → talker_stays advertises first ≡ true) f first e (λ q. q) (quit-stays now faileds advertises first) h

    both-advertise : Stands (λ o. Registers (offered o) (advertised o) both) a
    both-advertise = go (stands a) refl
      where
        go : (w : Bool) → stands a ≡ w → Stands (λ o. Registers (offered o) (advertised o) both) a
        go true e = advertise-stays e
        go false e = fallen (λ o. Registers (offered o) (advertised o) both) a e

    both-failed : Stands (λ o. Registers (failed_offer o) (failed_as o) both) f
    both-failed = go (stands a) refl
      where
        go : (w : Bool) → stands a ≡ w → Stands (λ o. Registers (failed_offer o) (failed_as o) both) f
        go true e = fallen (λ o. Registers (failed_offer o) (failed_as o) both) f (k.one-talker e)
        go false e = failed-stays e

    only-advertise : talker_stays advertises both ≡ true → stands a ≡ true
    only-advertise h = go (stands a) refl
      where
        go : (w : Bool) → stands a ≡ w → stands a ≡ true
        go true e = e
        go false e = told-only offered advertised advertises now a t k.advertise-known (unfold first in (advertise-before e h))

    only-failed : talker_stays faileds both ≡ true → stands f ≡ true
    unfolding both
    only-failed h = told-only failed_offer failed_as faileds now f first (go (stands a) refl) h
      where
        go : (w : Bool) → stands a ≡ w → talker_stays faileds first ≡ true → is_applicant f ≡ true
        go true e q = absurd (false≢true (sym (no-failed e) ∙ q))
        go false e q = k.failed-known (failed-before e q)

-- A Listener's machine.

module _ (now : ℕ) where
  unfoldable listener_asked : Asking → Ready → Listener → Listener
  listener_asked nothing_asked r l = l
  listener_asked join r l = listener r stays
  listener_asked withdraw r l = quit_listener now listeners l

  unfoldable listener_told : Applicant Ready → Listener → Listener
  listener_told no_applicant l = l
  listener_told (applicant x) l = listener_asked (asks_for x.state) x.value l

  listener-registers : (a : Applicant Ready) (l : Listener) → Quiet (λ r. l ≡ listener r stays) a → Stands (λ r. listener_told a l ≡ listener r stays) a
  unfolding listener_told
  listener-registers no_applicant l q = tt
  listener-registers (applicant x) l q = go x.state q
    where
      go : (s : Standing) → WhenQuiet s (l ≡ listener x.value stays) → WhenStanding s (listener_asked (asks_for s) x.value l ≡ listener x.value stays)
      go very_anxious_passive w = unfold asks_for listener_asked in refl
      go very_anxious_new w = unfold asks_for listener_asked in refl
      go anxious_new w = unfold asks_for listener_asked in refl
      go anxious_active w = unfold asks_for listener_asked in refl
      go quiet_active w = unfold asks_for listener_asked in w
      go leaving_active w = tt

  quit-listens : (l : Listener) → listener_stays (quit_listener now listeners l) ≡ false
  unfolding listener_stays quit_listener hears_as begin is_staying
  quit-listens no_listener = refl
  quit-listens (listener r stays) = refl
  quit-listens (listener r (since n)) = refl

  listener-told-only : (a : Applicant Ready) (l : Listener) → (listener_stays l ≡ true → is_applicant a ≡ true) → listener_stays (listener_told a l) ≡ true → stands a ≡ true
  unfolding listener_told stands is_standing is_applicant
  listener-told-only no_applicant l known h = known h
  listener-told-only (applicant x) l known h = go x.state h
    where
      go : (s : Standing) → listener_stays (listener_asked (asks_for s) x.value l) ≡ true → is_standing s ≡ true
      go very_anxious_passive e = refl
      go very_anxious_new e = refl
      go anxious_new e = refl
      go anxious_active e = refl
      go quiet_active e = refl
      go leaving_active e = absurd (false≢true (sym (quit-listens l) ∙ (unfold asks_for listener_asked in e)))

-- What they make of the whole cell.

quit-hears : (now : ℕ) (k : Kind) → hears_as k ≡ false → (l : Listener) → quit_listener now k l ≡ l
unfolding quit_listener
quit-hears now k e no_listener = refl
quit-hears now k e (listener r l) = rw e

quit-talks : (now : ℕ) (t : Talker) → quit_talker now listeners t ≡ t
unfolding quit_talker with_leaving talks_as
quit-talks now no_talker = refl
quit-talks now (talker r) = refl

module _ {A : Type 0} (values : A → Fixed) (others : A → Varying) (k : Kind) (own : (v : A) → talker_kind (others v).type ≡ k)
    (talks : hears_as k ≡ false) (now i : ℕ) where
  talker-asked : (g : Asking) (v : A) (c : Cell)
      → cell_after now i (asked_of (talker_declaration i (values v) (others v)) g) c
      ≡ record { talks = talker_asked values others k now g v c.talks; hears = c.hears }
  unfolding asked_of cell_after talker_asked cell_on join_of leave_of about does quit
  talker-asked nothing_asked v c = refl
  talker-asked join v c = rw (eq-eqb i i refl)
  talker-asked withdraw v c = rw (eq-eqb i i refl, own v, quit-hears now k talks c.hears)

  talker-cell : (a : Applicant A) (c : Cell)
      → tells (λ v. talker_declaration i (values v) (others v)) now i a c ≡ record { talks = talker_told values others k now a c.talks; hears = c.hears }
  unfolding tells talker_told
  talker-cell no_applicant c = refl
  talker-cell (applicant x) c = talker-asked (asks_for x.state) x.value c

module _ (now i : ℕ) where
  listener-asked : (g : Asking) (r : Ready) (c : Cell)
      → cell_after now i (asked_of (listener_declaration i r) g) c ≡ record { talks = c.talks; hears = listener_asked now g r c.hears }
  unfolding asked_of cell_after listener_asked cell_on join_of leave_of about does quit
  listener-asked nothing_asked r c = refl
  listener-asked join r c = rw (eq-eqb i i refl)
  listener-asked withdraw r c = rw (eq-eqb i i refl, quit-talks now c.talks)

  listener-cell : (a : Applicant Ready) (c : Cell)
      → tells (listener_declaration i) now i a c ≡ record { talks = c.talks; hears = listener_told now a c.hears }
  unfolding tells listener_told
  listener-cell no_applicant c = refl
  listener-cell (applicant x) c = listener-asked (asks_for x.state) x.value c

  cell-told : (s : Sends) (c : Cell)
      → tells_cell now i s c ≡ record { talks = both now s.advertising s.failing c.talks; hears = listener_told now s.listening c.hears }
  unfolding tells_cell tells_kind both first advertise_of failed_of
  cell-told s c =
      listener-cell s.listening _
      ∙ ap (λ (d : Cell). record { talks = d.talks; hears = listener_told now s.listening d.hears })
      (talker-cell failed_offer failed_as faileds (λ v. unfold talker_kind in refl) (unfold hears_as in refl) now i s.failing _
      ∙ ap (λ (d : Cell). record { talks = talker_told failed_offer failed_as faileds now s.failing d.talks; hears = d.hears })
      (talker-cell offered advertised advertises (λ v. unfold talker_kind in refl) (unfold hears_as in refl) now i s.advertising c))

  -- so after a pass the neighbour's cell follows what the port sends
  pub cell-follows : (s : Sends) (c : Cell) → Known s c → Follows s (tells_cell now i s c)
  cell-follows s c h =
      let a = s.advertising in
      let f = s.failing in
      let t = c.talks in
      rw (cell-told s c) record {
        advertise = both-advertise now a f t h.talkers;
        failed = both-failed now a f t h.talkers;
        listener = listener-registers now s.listening c.hears h.listener;
        advertise-only = only-advertise now a f t h.talkers;
        failed-only = only-failed now a f t h.talkers;
        listener-only = listener-told-only now s.listening c.hears h.listener-known;
      }

-- So it is before the next pass, of the machines that this one leaves: each standing one stays, with its value.

module _ {A : Type 0} (r : Bool) where
  unfoldable pub passed : Applicant A → Applicant A
  passed a = moved (becomes r tx) a

  pub passed-quiet : (P : A → Type 0) (a : Applicant A) → Stands P a → Quiet P (passed a)
  unfolding passed moved applicant_of with tables
  passed-quiet P no_applicant w = tt
  passed-quiet P (applicant x) w = go x.state r w
    where
      go : (q : Standing) (t : Bool) → WhenStanding q (P x.value) → Quiet P (applicant_of (map (with x.value) (becomes t tx q)))
      go very_anxious_passive t h = tt
      go very_anxious_new t h = tt
      go anxious_new true h = h
      go anxious_new false h = tt
      go anxious_active t h = h
      go quiet_active t h = h
      go leaving_active t h = tt

  passed-stands : (P : A → Type 0) (a : Applicant A) → Stands P a → Stands P (passed a)
  unfolding passed moved applicant_of with tables
  passed-stands P no_applicant w = tt
  passed-stands P (applicant x) w = go x.state r w
    where
      go : (q : Standing) (t : Bool) → WhenStanding q (P x.value) → Stands P (applicant_of (map (with x.value) (becomes t tx q)))
      go very_anxious_passive t h = h
      go very_anxious_new t h = h
      go anxious_new true h = h
      go anxious_new false h = h
      go anxious_active t h = h
      go quiet_active t h = h
      go leaving_active t h = tt

  pub passed-same : (a : Applicant A) → (is_applicant (passed a) ≡ stands a) × (stands (passed a) ≡ stands a)
  unfolding passed moved applicant_of with tables is_applicant stands is_standing
  passed-same no_applicant = (refl, refl)
  passed-same (applicant x) = go x.state r
    where
      go : (q : Standing) (t : Bool)
          → (is_applicant (applicant_of (map (with x.value) (becomes t tx q))) ≡ is_standing q) × (stands (applicant_of (map (with x.value) (becomes t tx q))) ≡ is_standing q)
      go very_anxious_passive t = (refl, refl)
      go very_anxious_new t = (refl, refl)
      go anxious_new true = (refl, refl)
      go anxious_new false = (refl, refl)
      go anxious_active t = (refl, refl)
      go quiet_active t = (refl, refl)
      go leaving_active t = (refl, refl)

no_other : (f : Fixed) (v : Varying) (t : Talker) → Registers f v t → NoOther f t
no_other f v no_talker h = tt
no_other f v (talker r) h = h.0

-- what a pass leaves of the three machines, each with its Registrar IN or not
unfoldable pub passed_sends : Bool → Bool → Bool → Sends → Sends
passed_sends ra rf rl s = record { advertising = passed ra s.advertising; failing = passed rf s.failing; listening = passed rl s.listening }

pub follows-known : (ra rf rl : Bool) (s : Sends) (c : Cell) → (stands s.advertising ≡ true → stands s.failing ≡ false) → Follows s c → Known (passed_sends ra rf rl s) c
unfolding passed_sends
follows-known ra rf rl s c one h =
    let a = s.advertising in
    let f = s.failing in
    let l = s.listening in
    let t = c.talks in
    record {
      talkers = record {
        advertise = passed-quiet ra (λ o. Registers (offered o) (advertised o) t) a h.advertise;
        failed = passed-quiet rf (λ o. Registers (failed_offer o) (failed_as o) t) f h.failed;
        advertise-known = λ e. (passed-same ra a).0 ∙ h.advertise-only e;
        failed-known = λ e. (passed-same rf f).0 ∙ h.failed-only e;
        one-talker = λ e. (passed-same rf f).1 ∙ one (sym (passed-same ra a).1 ∙ e);
        no-other-advertise =
            passed-stands ra (λ o. NoOther (offered o) t) a
            (stands-map (λ o. Registers (offered o) (advertised o) t) (λ o. NoOther (offered o) t) (λ o w. no_other (offered o) (advertised o) t w) a h.advertise);
        no-other-failed =
            passed-stands rf (λ o. NoOther (failed_offer o) t) f
            (stands-map (λ o. Registers (failed_offer o) (failed_as o) t) (λ o. NoOther (failed_offer o) t) (λ o w. no_other (failed_offer o) (failed_as o) t w) f h.failed);
      };
      listener = passed-quiet rl (λ r. c.hears ≡ listener r stays) l h.listener;
      listener-known = λ e. (passed-same rl l).0 ∙ h.listener-only e;
    }
