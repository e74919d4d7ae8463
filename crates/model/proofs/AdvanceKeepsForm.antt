-- Advance, accepted or refused, leaves a bridge that keeps the form rules.
use mathlib.Core.Path.{◌≡◌, refl, sym, ◌∙◌, ap}
use mathlib.Core.List.{List, [], ◌∷◌, map}
use mathlib.Core.Bool.{Bool, true, false, cond, not, ◌&&◌, ◌||◌, false≢true, true≢false}
use Prim.Native.Nat.{ℕ, zero, suc, ◌+◌, ◌/◌, ◌^◌, ◌≤◌, ◌<◌}
use native.Mathlib.Nat.{le_trans}
use native.Mathlib.Omega.{arith}
use lib.ListN.{length, get_or, drop, length-map}
use lib.Dec.{ltb, leb, eqb}
use borrow.Author.Tests.{ltb-false, leb-false, le-ltb, le-leb, eq-eqb, ne_eqb, ltb-true, lt-ltb, eqb-true, eqb-false, not-true}
use Rattle.model.specs.Lists.{All, keep, tabulate, implies, bit}
use Rattle.model.specs.State.{Port, Settings, Leaving, stays, since, TalkerType, talker_advertise, talker_failed, Talker, no_talker, talker, Listener, no_listener, listener, Cell, Domain, no_domain, domain, Presence, vacant, present, Address, Own, Column, none, advertise, failed, Entry, no_entry, filters, forwards, Declared, nothing, tells, Fixed, Sends, Sender, Result, Stream, Totals, Bridge, empty, unsettled, no_fixed, no_own, no_sends, no_sender, no_port, own_at, port_at, is_port, cell_at, result_at, sends_at, sender_at, declares_slot, Class, class_a, class_b, in_force, no_class, same_class, supports}
use Rattle.model.specs.Registrations.{Answer, ids, macs}
use Rattle.model.specs.Settling.{is_advertise, Scene, flag_of, decide_own, decide_owns, expired, expire_domain, outlasts, remain_addresses, expire_talker, expire_listener, expire_cell, expire, held, any_sending, is_held, drop_unheld, advertised_by, failed_by, listened_by, same_offer, same_failed, same_ready, declare_sends, declare, time_sender, deciding, declaring, remain, Source, nowhere, from, source, source_of, is_source, fixed_of, talker_type_of, registered, is_ready, Outcome, column_none, as_registered, own_failure, Step, first, failed_column, outcome_column, steps_from, steps, age_of, claims, reserved_a, limit_on, by_bandwidth, column_of, capped, latency_out, entry_of, age_kept, latency_kept, decide_at, decide, total_on, totals_on, settle, advance, is_talking, is_hearing, Origin, stream_class, clear, inbounds_of, as_advertise, bandwidth_steps, outcome_of}
use Rattle.model.specs.Bandwidth.{sort, total, reserved}
use Rattle.model.specs.Applicant.{Standing, very_anxious_passive, very_anxious_new, anxious_new, anxious_active, quiet_active, leaving_active, lv, join, becomes, standing, applicant_entry, vo}
use Rattle.model.specs.Machines.{Applicant, no_applicant, applicant, Decided, undeclared, declared, other_content, with, applicant_of, after, born, decided}
use Rattle.model.specs.LeaveAll.{LeaveAllState, active, passive, LeaveAll, leavealltimer, starting, leave_all_row, leave_all_column, leave_all_entry, leave_all_next, leave_all_time, has_run, timed_out}
use Rattle.model.specs.Table.{totals_within, talkers, has_column, declares, declarers, for_listener, stored_rules, stored_formed, at_most, any_held, is_standing, stands, is_failed, alike, sent_rules, sent_formed}
use Rattle.model.proofs.Lists.{all_get_or, all-tabulate, at_place, and-false, implies_true, true-all}
use Rattle.model.proofs.Parts.{◌also◌}
use Rattle.model.proofs.Stored.{talker-counts, other-counts, one-declares}
use Rattle.model.proofs.Admission.{within}
use Rattle.model.proofs.Owns.{no-own-valid}
use Rattle.model.proofs.Deciding.{Stands, Holds, Unsent, decided-stands, withdrawn-unsent}
use Rattle.model.proofs.Valid.{GoodApplicant, ValidOffer, ValidFailed, ValidSends, ValidLeaveAll, ValidSender, ValidLeaving, ValidFixed, ValidTalkerType, ValidRegistration, ValidTalker, ValidListener, ValidCell, ValidDomain, ValidPresence, ValidAddress, ValidOwn, ValidColumn, ValidAge, ValidResult, ValidStream, Rising, Valid, again-valid}
use Rattle.model.proofs.Parts.{◌also◌}

-- Lists.

module _ {A B : Type 0} (P : A → Type 0) (Q : B → Type 0) (f : A → B) where
  pub all-mapped : ((x : A) → P x → Q (f x)) → (l : List A) → All P l → All Q (map f l)
  all-mapped h [] a = tt
  all-mapped h (x ∷ l) a = (h x a.0, all-mapped h l a.1)

module _ {A : Type 0} where
  pub drop-map : (f : A → A) (n : ℕ) (l : List A) → drop n (map f l) ≡ map f (drop n l)
  drop-map f zero l = refl
  drop-map f (suc n) [] = refl
  drop-map f (suc n) (x ∷ l) = drop-map f n l

  pub length-tabulate : (n p : ℕ) (f : ℕ → A) → length (tabulate n p f) ≡ n
  unfolding tabulate
  length-tabulate zero p f = refl
  length-tabulate (suc n) p f = ap suc (length-tabulate n (suc p) f)

module _ {A : Type 0} (P : A → Type 0) where
  -- at a place from n on, where it holds of all elements from n on
  pub get_or_past : (n : ℕ) (l : List A) (i : ℕ) (d : A) → n ≤ i → P d → All P (drop n l) → P (get_or l i d)
  get_or_past zero l i d n≤i h a = all_get_or P l a d h i
  get_or_past (suc n) [] i d n≤i h a = h
  get_or_past (suc n) (x ∷ l) zero d n≤i h a = absurd (omega arith)
  get_or_past (suc n) (x ∷ l) (suc i) d n≤i h a = get_or_past n l i d (omega arith) h a

  pub all-drop-tabulate : (n k p : ℕ) (f : ℕ → A) → ((q : ℕ) → p + n ≤ q → P (f q)) → All P (drop n (tabulate k p f))
  unfolding tabulate
  all-drop-tabulate zero zero p f h = tt
  all-drop-tabulate zero (suc k) p f h = (h p (omega arith), all-drop-tabulate zero k (suc p) f (λ q l. h q (omega arith)))
  all-drop-tabulate (suc n) zero p f h = tt
  all-drop-tabulate (suc n) (suc k) p f h = all-drop-tabulate n k (suc p) f (λ q l. h q (omega arith))

-- Removal: what remains is leaving for less than the leave time.

module _ (st : Settings) (clock now : ℕ) (later : clock ≤ now) where
  leaving-remains : (l : Leaving) → expired st now l ≡ false → ValidLeaving clock st.leave_time l → ValidLeaving now st.leave_time l
  unfolding expired
  leaving-remains stays e v = tt
  leaving-remains (since t) e v = (omega arith, leb-false (t + st.leave_time) now e)

  talker-remains : (t : Talker) → ValidTalker clock st.leave_time t → ValidTalker now st.leave_time (expire_talker st now t)
  unfolding expire_talker
  talker-remains no_talker v = tt
  talker-remains (talker r) v = go (expired st now r.leaving) refl
    where
      go : (b : Bool) → expired st now r.leaving ≡ b → ValidTalker now st.leave_time (cond b no_talker (talker r))
      go true e = tt
      go false e = again-valid clock st.leave_time r v now st.leave_time r.changed r.leaving (leaving-remains r.leaving e v.leaving)

  listener-remains : (t : Listener) → ValidListener clock st.leave_time t → ValidListener now st.leave_time (expire_listener st now t)
  unfolding expire_listener
  listener-remains no_listener v = tt
  listener-remains (listener r l) v = go (expired st now l) refl
    where
      go : (b : Bool) → expired st now l ≡ b → ValidListener now st.leave_time (cond b no_listener (listener r l))
      go true e = tt
      go false e = leaving-remains l e v

  cell-remains : (c : Cell) → ValidCell clock st.leave_time c → ValidCell now st.leave_time (expire_cell st now c)
  unfolding expire_cell
  cell-remains c v = record { talks = talker-remains c.talks v.talks; hears = listener-remains c.hears v.hears }

  domain-remains : (d : Domain) → ValidDomain clock st.leave_time d → ValidDomain now st.leave_time (expire_domain st now d)
  unfolding expire_domain
  domain-remains no_domain v = tt
  domain-remains (domain w l) v = go (expired st now l) refl
    where
      go : (b : Bool) → expired st now l ≡ b → ValidDomain now st.leave_time (cond b no_domain (domain w l))
      go true e = tt
      go false e = (v.0, leaving-remains l e v.1)

  presence-remains : (h : Presence) → outlasts st now h ≡ true → ValidPresence clock st.leave_time h → ValidPresence now st.leave_time h
  unfolding outlasts
  presence-remains vacant e v = v
  presence-remains (present l) e v = leaving-remains l (not-true (expired st now l) e) v

  addresses-remain : (l : List Address) → All (ValidAddress clock st.leave_time) l → All (ValidAddress now st.leave_time) (remain_addresses st now l)
  unfolding remain_addresses
  addresses-remain [] a = tt
  addresses-remain (x ∷ l) a = go (outlasts st now x.presence) refl (addresses-remain l a.1)
    where
      go : (t : Bool) → outlasts st now x.presence ≡ t → All (ValidAddress now st.leave_time) (remain_addresses st now l) →
          All (ValidAddress now st.leave_time) (keep t x (remain_addresses st now l))
      go true e ih = (record { mac = a.0.mac; presence = presence-remains x.presence e a.0.presence }, ih)
      go false e ih = ih

  empty-remains : (c : Cell) → c ≡ empty → expire_cell st now c ≡ empty
  unfolding expire_cell expire_talker expire_listener empty
  empty-remains c e = rw e

-- Addresses: those that remain are fewer, and rise.
module _ (st : Settings) (now : ℕ) where
  pub fewer-addresses : (l : List Address) → length (remain_addresses st now l) ≤ length l
  unfolding remain_addresses
  fewer-addresses [] = omega arith
  fewer-addresses (a ∷ l) = go (outlasts st now a.presence) (fewer-addresses l)
    where
      go : (t : Bool) → length (remain_addresses st now l) ≤ length l → length (keep t a (remain_addresses st now l)) ≤ suc (length l)
      go true ih = omega arith
      go false ih = omega arith

  pub macs-remain : (P : ℕ → Type 0) (l : List Address) → All P (macs l) → All P (macs (remain_addresses st now l))
  unfolding macs remain_addresses
  macs-remain P [] h = tt
  macs-remain P (a ∷ l) h = go (outlasts st now a.presence) (macs-remain P l h.1)
    where
      go : (t : Bool) → All P (macs (remain_addresses st now l)) → All P (macs (keep t a (remain_addresses st now l)))
      go true ih = (h.0, ih)
      go false ih = ih

  pub macs-rise : (l : List Address) → Rising (macs l) → Rising (macs (remain_addresses st now l))
  unfolding macs remain_addresses Rising
  macs-rise [] r = tt
  macs-rise (a ∷ l) r = go (outlasts st now a.presence) (macs-rise l r.1)
    where
      go : (t : Bool) → Rising (macs (remain_addresses st now l)) → Rising (macs (keep t a (remain_addresses st now l)))
      go true ih = (macs-remain (λ j. a.mac < j) l r.0, ih)
      go false ih = ih

-- What a port holds by itself.
module _ (st : Settings) (clock now : ℕ) (later : clock ≤ now) (o : List Own) (v : All (ValidOwn clock st.leave_time) o) where
  own-valid : (p : ℕ) → ValidOwn now st.leave_time (decide_own st now o p)
  unfolding decide_own
  own-valid p =
      let w = all_get_or (ValidOwn clock st.leave_time) o v no_own (no-own-valid clock st.leave_time) p in
      record {
        slotted = length-map (own_at o p).domains (expire_domain st now) ∙ w.slotted;
        domains =
            all-mapped (ValidDomain clock st.leave_time) (ValidDomain now st.leave_time) (expire_domain st now)
            (domain-remains st clock now later) (own_at o p).domains w.domains;
        addresses = record {
          at_most_64 = le_trans (fewer-addresses st now (own_at o p).addresses) w.addresses.at_most_64;
          each = addresses-remain st clock now later (own_at o p).addresses w.addresses.each;
          ascending = macs-rise st now (own_at o p).addresses w.addresses.ascending;
        };
      }

  -- a place that is no port holds nothing
  none-there : All (λ h. h ≡ no_own) (drop (length st.ports) o) → (p : ℕ) → length st.ports ≤ p → decide_own st now o p ≡ no_own
  unfolding decide_own no_own expire_domain flag_of is_port remain_addresses
  none-there n p h =
      let e : own_at o p ≡ no_own = get_or_past (λ h. h ≡ no_own) (length st.ports) o p no_own h refl n in
      rw (e, le-ltb p (length st.ports) h)

-- a stream between removal and decision: its registrations stand at the new time, its results still at the old clock
record Remaining (ports clock now leave : ℕ) (x : Stream) : Type 0 where
  id : x.id < 2 ^ 64
  eight_cells : length x.cells ≡ 8
  cells : All (ValidCell now leave) x.cells
  no-other-cells : All (λ c. c ≡ empty) (drop ports x.cells)
  results : All (ValidResult clock) x.results
  sends : All ValidSends x.sends
  no-other-sends : All (λ s. s ≡ no_sends) (drop ports x.sends)

module _ (st : Settings) (clock now ports : ℕ) (later : clock ≤ now) where
  stream-remains : (x : Stream) → ValidStream ports clock st.leave_time x → Remaining ports clock now st.leave_time (expire st now x)
  unfolding expire
  stream-remains x v = record {
    id = v.id;
    eight_cells = length-map x.cells (expire_cell st now) ∙ v.eight_cells;
    cells =
        all-mapped (ValidCell clock st.leave_time) (ValidCell now st.leave_time) (expire_cell st now)
        (cell-remains st clock now later) x.cells v.cells;
    no-other-cells =
        rw (drop-map (expire_cell st now) ports x.cells)
        (all-mapped (λ c. c ≡ empty) (λ c. c ≡ empty) (expire_cell st now)
        (empty-remains st clock now later) (drop ports x.cells) v.no-other-cells);
    results = v.results;
    sends = v.sends;
    no-other-sends = v.no-other-sends;
  }

  streams-remain : (s : List Stream) → All (ValidStream ports clock st.leave_time) s →
      All (Remaining ports clock now st.leave_time) (remain st now s)
  unfolding remain
  streams-remain s a = all-mapped (ValidStream ports clock st.leave_time) (Remaining ports clock now st.leave_time) (expire st now) stream-remains s a

-- What remains are the same streams.
module _ (st : Settings) (now : ℕ) where
  remain-ids : (s : List Stream) → ids (remain st now s) ≡ ids s
  unfolding ids remain expire
  remain-ids [] = refl
  remain-ids (x ∷ s) = ap (λ (is : List ℕ). x.id ∷ is) (remain-ids s)

  pub remain-all : (P : ℕ → Type 0) (s : List Stream) → All P (ids s) → All P (ids (remain st now s))
  remain-all P s a = rw (remain-ids s) a

  pub remain-rising : (s : List Stream) → Rising (ids s) → Rising (ids (remain st now s))
  remain-rising s r = rw (remain-ids s) r

-- Dropped: streams that no port has registered and of which none sends.

pub or-false : (a b : Bool) → (a || b) ≡ false → (a ≡ false) × (b ≡ false)
or-false true b e = absurd (true≢false e)
or-false false b e = (refl, e)

module _ (P Q : Stream → Type 0) (h : (x : Stream) → is_held x ≡ true → P x → Q x) where
  pub all-dropped : (s : List Stream) → All P s → All Q (drop_unheld s)
  unfolding drop_unheld
  all-dropped [] a = tt
  all-dropped (x ∷ s) a = go (is_held x) refl (all-dropped s a.1)
    where
      go : (t : Bool) → is_held x ≡ t → All Q (drop_unheld s) → All Q (keep t x (drop_unheld s))
      go true e ih = (h x e a.0, ih)
      go false e ih = ih

pub fewer-dropped : (s : List Stream) → length (drop_unheld s) ≤ length s
unfolding drop_unheld
fewer-dropped [] = omega arith
fewer-dropped (x ∷ s) = go (is_held x) (fewer-dropped s)
  where
    go : (t : Bool) → length (drop_unheld s) ≤ length s → length (keep t x (drop_unheld s)) ≤ suc (length s)
    go true ih = omega arith
    go false ih = omega arith

pub dropped-all : (P : ℕ → Type 0) (s : List Stream) → All P (ids s) → All P (ids (drop_unheld s))
unfolding ids drop_unheld
dropped-all P [] a = tt
dropped-all P (x ∷ s) a = go (is_held x) (dropped-all P s a.1)
  where
    go : (t : Bool) → All P (ids (drop_unheld s)) → All P (ids (keep t x (drop_unheld s)))
    go true ih = (a.0, ih)
    go false ih = ih

pub dropped-rising : (s : List Stream) → Rising (ids s) → Rising (ids (drop_unheld s))
unfolding ids drop_unheld Rising
dropped-rising [] r = tt
dropped-rising (x ∷ s) r = go (is_held x) (dropped-rising s r.1)
  where
    go : (t : Bool) → Rising (ids (drop_unheld s)) → Rising (ids (keep t x (drop_unheld s)))
    go true ih = (dropped-all (λ j. x.id < j) s r.0, ih)
    go false ih = ih

pub declared-ids : (s : List Stream) → ids (map declare s) ≡ ids s
unfolding ids declare
declared-ids [] = refl
declared-ids (x ∷ s) = ap (λ (is : List ℕ). x.id ∷ is) (declared-ids s)

-- whether some stream has a registration is not changed by it, nor by what is decided and declared
pub held-dropped : (s : List Stream) → any_held (drop_unheld s) ≡ any_held s
unfolding any_held drop_unheld is_held
held-dropped [] = refl
held-dropped (x ∷ s) = go (is_held x) refl (held-dropped s)
  where
    go : (t : Bool) → is_held x ≡ t → any_held (drop_unheld s) ≡ any_held s → any_held (keep t x (drop_unheld s)) ≡ (held x.cells || any_held s)
    go true e ih = ap (λ (b : Bool). held x.cells || b) ih
    go false e ih = rw (or-false (held x.cells) (any_sending x.sends) e).0 ih

pub held-declared : (s : List Stream) → any_held (map declare s) ≡ any_held s
unfolding any_held declare
held-declared [] = refl
held-declared (x ∷ s) = ap (λ (b : Bool). held x.cells || b) (held-declared s)

pub held-decided : (sc : Scene) (now : ℕ) (s l : List Stream) → any_held (map (decide sc now s) l) ≡ any_held l
unfolding any_held decide
held-decided sc now s [] = refl
held-decided sc now s (x ∷ l) = ap (λ (b : Bool). held x.cells || b) (held-decided sc now s l)

-- The Talker: what is registered at the Talker port is valid, and stands on a port.

abbrev pub ValidSource : ℕ → ℕ → Source → Type 0
ValidSource clock leave nowhere = Unit {0}
ValidSource clock leave (from o) = ValidRegistration clock leave o.registration

module _ (clock leave : ℕ) where
  pub source-valid : (p : ℕ) (cs : List Cell) → All (ValidCell clock leave) cs → ValidSource clock leave (source p cs)
  unfolding source
  source-valid p [] a = tt
  source-valid p (c ∷ cs) a = go c.talks a.0.talks (source-valid (suc p) cs a.1)
    where
      go : (t : Talker) → ValidTalker clock leave t → ValidSource clock leave (source (suc p) cs) →
          ValidSource clock leave (elim t [ no_talker ↦ source (suc p) cs | talker r ↦ from record { port = p; registration = r } ])
      go no_talker v ih = ih
      go (talker r) v ih = v

  pub fixed-valid : (s : Source) → ValidSource clock leave s → ValidFixed (fixed_of s)
  unfolding fixed_of no_fixed
  fixed-valid nowhere v = omega arith
  fixed-valid (from o) v = v.fixed

  pub type-valid : (s : Source) → ValidSource clock leave s → ValidTalkerType (talker_type_of s)
  unfolding talker_type_of
  type-valid nowhere v = tt
  type-valid (from o) v = v.varying.type

-- without a registration there is none
pub unheld-nowhere : (p : ℕ) (cs : List Cell) → held cs ≡ false → source p cs ≡ nowhere
unfolding held source is_talking
unheld-nowhere p [] e = refl
unheld-nowhere p (c ∷ cs) e = go c.talks refl (unheld-nowhere (suc p) cs (or-false (is_talking c || is_hearing c) (held cs) e).1)
  where
    go : (t : Talker) → c.talks ≡ t → source (suc p) cs ≡ nowhere
        → elim t [ no_talker ↦ source (suc p) cs | talker r ↦ from record { port = p; registration = r } ] ≡ nowhere
    go no_talker q ih = ih
    go (talker r) q ih = absurd (true≢false (rw q at (or-false (is_talking c) (is_hearing c) (or-false (is_talking c || is_hearing c) (held cs) e).0).0))

-- no port below the first place looked at
source-after : (p q : ℕ) (cs : List Cell) → q < p → is_source (source p cs) q ≡ false
unfolding source is_source
source-after p q [] h = refl
source-after p q (c ∷ cs) h = go c.talks (source-after (suc p) q cs (omega arith))
  where
    go : (t : Talker) → is_source (source (suc p) cs) q ≡ false →
        is_source (elim t [ no_talker ↦ source (suc p) cs | talker r ↦ from record { port = p; registration = r } ]) q ≡ false
    go no_talker ih = ih
    go (talker r) ih = ne_eqb p q (omega arith)

nowhere≢from : {o : Origin} → nowhere ≡ from o → ⊥
nowhere≢from e = let z : ◌≡◌ {A = ℕ} 0 1 = cc in omega arith

from-port : {a b : Origin} → from a ≡ from b → a.port ≡ b.port
from-port e = cc

-- and none without a Talker registration
not-source : (p k : ℕ) (cs : List Cell) → get_or cs k empty ≡ empty → is_source (source p cs) (p + k) ≡ false
unfolding source is_source empty
not-source p k [] e = refl
not-source p zero (c ∷ cs) e = rw (ap (λ (d : Cell). d.talks) e) (source-after (suc p) (p + 0) cs (omega arith))
not-source p (suc k) (c ∷ cs) e = go c.talks (not-source (suc p) k cs e)
  where
    go : (t : Talker) → is_source (source (suc p) cs) (suc p + k) ≡ false →
        is_source (elim t [ no_talker ↦ source (suc p) cs | talker r ↦ from record { port = p; registration = r } ]) (p + suc k) ≡ false
    go no_talker ih = let e : suc p + k ≡ p + suc k = omega arith in rw (sym e) ih
    go (talker r) ih = ne_eqb p (p + suc k) (omega arith)

-- where it is, there is one
abbrev Talks : Origin → ℕ → List Cell → Type 0
Talks o p cs = (q : ℕ) × (o.port ≡ p + q) × (is_talking (get_or cs q empty) ≡ true)

source-talks : (p : ℕ) (cs : List Cell) (o : Origin) → source p cs ≡ from o → Talks o p cs
unfolding source is_talking
source-talks p [] o e = absurd (nowhere≢from e)
source-talks p (c ∷ cs) o e = go c.talks refl e (source-talks (suc p) cs o)
  where
    go : (t : Talker) → c.talks ≡ t
        → elim t [ no_talker ↦ source (suc p) cs | talker r ↦ from record { port = p; registration = r } ] ≡ from o
        → (source (suc p) cs ≡ from o → Talks o (suc p) cs) → Talks o p (c ∷ cs)
    go no_talker f g ih =
        let (q, place, talks) = ih g in
        (suc q, omega arith, talks)
    go (talker r) f g ih =
        let here : p ≡ o.port = from-port g in
        (0, omega arith, rw f refl)

-- The column: a Bridge ID and a code that fit their fields.

abbrev pub ValidFailure : Column → Type 0
ValidFailure none = Unit {0}
ValidFailure advertise = Unit {0}
ValidFailure (failed b c) = (b < 2 ^ 64) × (c < 256)

-- the code of an own failure is an octet
abbrev ValidOutcome : Outcome → Type 0
ValidOutcome column_none = Unit {0}
ValidOutcome as_registered = Unit {0}
ValidOutcome as_advertise = Unit {0}
ValidOutcome (own_failure code) = code < 256

codes-fit : (sc : Scene) (p : ℕ) (here : Cell) (n : ℕ) (s : Source) → All (λ t. ValidOutcome (outcome_of t)) (steps_from sc p here n s)
unfolding steps_from
codes-fit sc p here n nowhere = omega arith
codes-fit sc p here n (from o) = omega arith

failed-valid : (h : TalkerType) → ValidTalkerType h → ValidFailure (failed_column h)
unfolding failed_column
failed-valid talker_advertise v = tt
failed-valid (talker_failed b c) v = v

module _ (sc : Scene) (named : sc.settings.bridge_id < 2 ^ 64) where
  module _ (s : Source) (v : ValidTalkerType (talker_type_of s)) where
    outcome-valid : (o : Outcome) → ValidOutcome o → ValidFailure (outcome_column sc.settings s o)
    unfolding outcome_column
    outcome-valid column_none h = tt
    outcome-valid as_registered h = failed-valid (talker_type_of s) v
    outcome-valid as_advertise h = tt
    outcome-valid (own_failure code) h = (named, h)

    first-valid : (l : List Step) (c : Column) → All (λ t. ValidOutcome (outcome_of t)) l → ValidFailure c → ValidFailure (first (outcome_column sc.settings s) l c)
    unfolding first
    first-valid [] c a w = w
    first-valid (t ∷ l) c a w = go t.test (first-valid l c a.1 w)
      where
        rest : Column
        rest = first (outcome_column sc.settings s) l c

        go : (b : Bool) → ValidFailure rest → ValidFailure (cond b (outcome_column sc.settings s (outcome_of t)) rest)
        go true ih = outcome-valid (outcome_of t) a.0
        go false ih = ih

  -- whichever step applies, and whatever follows them all
  pub steps-valid : (p : ℕ) (x : Stream) (c : Column) → ValidTalkerType (talker_type_of (source_of x)) → ValidFailure c
      → ValidFailure (first (outcome_column sc.settings (source_of x)) (steps sc p x) c)
  unfolding steps
  steps-valid p x c v w =
      first-valid (source_of x) v _ c (tt, codes-fit sc p (cell_at x p) x.id (source_of x)) w

  bandwidth-valid : (d l : ℕ) → ValidFailure (by_bandwidth sc.settings d l)
  unfolding by_bandwidth bandwidth_steps first outcome_column
  bandwidth-valid d l = go (not (leb d l))
    where
      go : (t : Bool) → ValidFailure (cond t (failed sc.settings.bridge_id 1) advertise)
      go true = omega arith
      go false = tt

  column-valid : (now : ℕ) (s : List Stream) (p : ℕ) (x : Stream) → ValidTalkerType (talker_type_of (source_of x)) → ValidFailure (column_of sc now s p x)
  unfolding column_of
  column-valid now s p x v = steps-valid p x _ v (bandwidth-valid _ _)

-- an entry for a Listener has one
entry-heard : (k : Column) (c : Cell) → implies (for_listener k (entry_of k (registered c))) (is_hearing c) ≡ true
unfolding for_listener entry_of registered is_hearing is_ready
entry-heard k c = go k c.hears
  where
    heard : Listener → Declared
    heard h = elim h [ no_listener ↦ nothing | listener r l ↦ tells r ]

    go : (k : Column) (h : Listener) → implies (for_listener k (entry_of k (heard h))) (elim h [ no_listener ↦ false | listener r l ↦ true ]) ≡ true
    go none no_listener = refl
    go none (listener r l) = refl
    go advertise no_listener = refl
    go advertise (listener r l) = implies_true (for_listener advertise (entry_of advertise (tells r))) true (λ _. refl)
    go (failed b c) no_listener = refl
    go (failed b c) (listener r l) = refl

-- Table 35-12 gives each column an entry that goes with it
entry-fits : (c : Column) (d : Declared) (n : ℕ) → ValidFailure c → ValidColumn c (latency_kept c n) (entry_of c d)
unfolding entry_of latency_kept
entry-fits none nothing n v = refl
entry-fits none (tells r) n v = refl
entry-fits advertise d n v = go (is_ready d)
  where
    go : (t : Bool) → ValidColumn advertise n (cond t forwards filters)
    go true = tt
    go false = tt
entry-fits (failed b c) d n v = v

pub capped_fits : (n : ℕ) → capped n < 2 ^ 32
unfolding capped
capped_fits n = go (ltb 4294967295 n) refl
  where
    go : (t : Bool) → ltb 4294967295 n ≡ t → cond t 4294967295 n < 2 ^ 32
    go true e = omega arith
    go false e = omega (arith, ltb-false 4294967295 n e)

pub latency-fits : (c : Column) (n : ℕ) → n < 2 ^ 32 → latency_kept c n < 2 ^ 32
unfolding latency_kept
latency-fits none n h = omega arith
latency-fits advertise n h = h
latency-fits (failed b c) n h = h

-- an age is kept from an earlier advance or counts from this one
pub age-valid : (clock now : ℕ) (r : Result) → clock ≤ now → ValidResult clock r → age_of now r ≤ now / 100
unfolding age_of
age-valid clock now r later v = go r.entry v.age
  where
    go : (e : Entry) → ValidAge clock e r.age → elim e [ no_entry ↦ now / 100 | filters ↦ r.age | forwards ↦ r.age ] ≤ now / 100
    go no_entry a = omega arith
    go filters a = omega arith
    go forwards a = omega arith

age-fits : (now : ℕ) (e : Entry) (a : ℕ) → a ≤ now / 100 → ValidAge now e (age_kept e a)
unfolding age_kept
age-fits now no_entry a h = refl
age-fits now filters a h = h
age-fits now forwards a h = h

pub unsettled-valid : (clock : ℕ) → ValidResult clock unsettled
unfolding unsettled
unsettled-valid clock = record { column = refl; latency = omega arith; age = refl }

-- Machines: what an advance leaves of one has valid values, and stands exactly where it was decided.

module _ {D : Type 0} (Good : D → Type 0) where
  abbrev GoodDecided : Decided D → Type 0
  GoodDecided undeclared = Unit {0}
  GoodDecided (declared v) = Good v

  good_of : (v : D) → Good v → (l : List Standing) → GoodApplicant Good (applicant_of (map (with v) l))
  unfolding applicant_of with
  good_of v g [] = tt
  good_of v g (q ∷ l) = g

  good-decided : (same : D → D → Bool) (d : Decided D) (a : Applicant D) → GoodDecided d → GoodApplicant Good a → GoodApplicant Good (decided same d a)
  unfolding decided after born
  good-decided same undeclared no_applicant g h = tt
  good-decided same undeclared (applicant x) g h = good_of x.value h (becomes false lv x.state)
  good-decided same (declared v) no_applicant g h = good_of v g (standing (applicant_entry false join vo).next)
  good-decided same (declared v) (applicant x) g h =
      good_of v g (becomes false (cond (same v x.value) join (other_content x.state)) x.state)

module _ {D : Type 0} where
  unfoldable is_declared : Decided D → Bool
  is_declared undeclared = false
  is_declared (declared v) = true

  holds-standing : (v : D) (a : Applicant D) → Holds Stands v a → stands a ≡ true
  unfolding stands is_standing
  holds-standing v no_applicant h = absurd h
  holds-standing v (applicant x) h = go x.state h.0
    where
      go : (q : Standing) → Stands q → is_standing q ≡ true
      go very_anxious_passive k = refl
      go very_anxious_new k = refl
      go anxious_new k = refl
      go anxious_active k = refl
      go quiet_active k = refl
      go leaving_active k = absurd k

  unsent-leaving : (a b : Applicant D) → Unsent a b → stands b ≡ false
  unfolding stands is_standing
  unsent-leaving a no_applicant u = refl
  unsent-leaving no_applicant (applicant y) u = absurd u
  unsent-leaving (applicant x) (applicant y) u = rw u.0

  stands-decided : (same : D → D → Bool) (d : Decided D) (a : Applicant D) → stands (decided same d a) ≡ is_declared d
  unfolding is_declared
  stands-decided same undeclared a = unsent-leaving a (decided same undeclared a) (withdrawn-unsent same a)
  stands-decided same (declared v) a = holds-standing v (decided same (declared v) a) (decided-stands same v a)

-- the three of a port, by its result
module _ (now : ℕ) (f : Fixed) (fits : ValidFixed f) (r : Result) (v : ValidResult now r) where
  advertised-good : (c : Column) → GoodDecided ValidOffer (advertised_by f r c)
  unfolding advertised_by
  advertised-good none = tt
  advertised-good advertise = record { fixed = fits; latency = omega (arith, v.latency) }
  advertised-good (failed b c) = tt

  failed-good : (c : Column) (l : ℕ) (e : Entry) → ValidColumn c l e → GoodDecided ValidFailed (failed_by f r c)
  unfolding failed_by
  failed-good none l e w = tt
  failed-good advertise l e w = tt
  failed-good (failed b c) l no_entry w = absurd w
  failed-good (failed b c) l filters w =
      (record { fixed = fits; latency = omega (arith, v.latency) }, record { bridge = omega (arith, w.0); code = omega (arith, w.1) })
  failed-good (failed b c) l forwards w = absurd w

  sends-valid : (s : Sends) → ValidSends s → ValidSends (declare_sends f r s)
  unfolding declare_sends
  sends-valid s w = record {
    advertising = good-decided ValidOffer same_offer (advertised_by f r r.column) s.advertising (advertised-good r.column) w.advertising;
    failing =
        good-decided ValidFailed same_failed (failed_by f r r.column) s.failing
        (failed-good r.column r.latency r.entry v.column) w.failing;
  }

no-sends-valid : ValidSends no_sends
unfolding no_sends
no-sends-valid = record { advertising = tt; failing = tt }

nothing-sent : (f : Fixed) → declare_sends f unsettled no_sends ≡ no_sends
unfolding declare_sends advertised_by failed_by listened_by decided unsettled no_sends
nothing-sent f = refl

sends-follow : (f : Fixed) (r : Result) (s : Sends) → sent_formed r (declare_sends f r s) ≡ true
unfolding sent_formed sent_rules declare_sends
sends-follow f r s =
    true-all (sent_rules r (declare_sends f r s))
    (rw (stands-decided same_offer (advertised_by f r r.column) s.advertising) (advertises r.column)
    also rw (stands-decided same_failed (failed_by f r r.column) s.failing) (fails r.column)
    also rw (stands-decided same_ready (listened_by r.declares) s.listening) (listens r.declares) also tt)
  where
    advertises : (c : Column) → alike (is_declared (advertised_by f r c)) (is_advertise c) ≡ true
    advertises c = unfold alike is_declared advertised_by is_advertise in elim c as (λ k. alike (is_declared (advertised_by f r k)) (is_advertise k) ≡ true) [ none ↦ refl | advertise ↦ refl | failed b n ↦ refl ]

    fails : (c : Column) → alike (is_declared (failed_by f r c)) (is_failed c) ≡ true
    fails c = unfold alike is_declared failed_by is_failed in elim c as (λ k. alike (is_declared (failed_by f r k)) (is_failed k) ≡ true) [ none ↦ refl | advertise ↦ refl | failed b n ↦ refl ]

    listens : (d : Declared) → alike (is_declared (listened_by d)) (declares d) ≡ true
    listens d = unfold alike is_declared listened_by declares in elim d as (λ k. alike (is_declared (listened_by k)) (declares k) ≡ true) [ nothing ↦ refl | tells r ↦ refl ]

-- What a port sends by itself: its LeaveAll timer was started less than LeaveAllTime ago.
module _ (clock now : ℕ) (later : clock ≤ now) where
  started-now : (m : LeaveAll) → (leave_all_next now leavealltimer m).start ≡ now
  unfolding leave_all_next leave_all_entry leave_all_row leave_all_column starting
  started-now m = go m.state
    where
      go : (q : LeaveAllState) → cond (leave_all_entry leavealltimer q).starts now m.start ≡ now
      go active = refl
      go passive = refl

  timed-valid : (m : LeaveAll) → ValidLeaveAll clock m → ValidLeaveAll now (timed_out now m)
  unfolding timed_out has_run
  timed-valid m v = go (leb (m.start + leave_all_time) now) refl
    where
      go : (t : Bool) → leb (m.start + leave_all_time) now ≡ t → ValidLeaveAll now (cond t (leave_all_next now leavealltimer m) m)
      go true e = record { past = rw (started-now m) (omega arith); recent = rw (started-now m) (omega arith) }
      go false e = record { past = omega (arith, v.past, later); recent = leb-false (m.start + leave_all_time) now e }

  module _ (st : Settings) (l : List Sender) (p : ℕ) where
    sender-valid : p < length st.ports → ValidSender (declares_slot st p) clock (sender_at l p) → ValidSender (declares_slot st p) now (time_sender st now l p)
    unfolding time_sender is_port
    sender-valid h v = rw (lt-ltb p (length st.ports) h) record { slotted = v.slotted; domains = v.domains; leave_all = timed-valid (sender_at l p).leave_all v.leave_all }

    no-sender : length st.ports ≤ p → All (λ x. x ≡ no_sender) (drop (length st.ports) l) → time_sender st now l p ≡ no_sender
    unfolding time_sender is_port sender_at
    no-sender h n =
        rw (le-ltb p (length st.ports) h, get_or_past (λ x. x ≡ no_sender) (length st.ports) l p no_sender h refl n)

-- The decision.

module _ (sc : Scene) (named : sc.settings.bridge_id < 2 ^ 64) (few : length sc.settings.ports ≤ 8) (clock now : ℕ) (later : clock ≤ now) (s : List Stream) (x : Stream)
    (r : Remaining (length sc.settings.ports) clock now sc.settings.leave_time x) where
  source_fits : ValidSource now sc.settings.leave_time (source_of x)
  unfolding source_of
  source_fits = source-valid now sc.settings.leave_time 0 x.cells r.cells

  result-valid : (p : ℕ) → ValidResult now (decide_at sc now s x p)
  unfolding decide_at latency_out result_at
  result-valid p = record {
    column = entry-fits (column_of sc now s p x) (registered (cell_at x p)) _ (column-valid sc named now s p x (type-valid now sc.settings.leave_time (source_of x) source_fits));
    latency = latency-fits (column_of sc now s p x) _ (capped_fits _);
    age =
        age-fits now (entry_of (column_of sc now s p x) (registered (cell_at x p))) _
        (age-valid clock now (result_at x p) later
        (all_get_or (ValidResult clock) x.results r.results unsettled (unsettled-valid clock) p));
  }

  -- a place that is no port has no registration, so no result
  no_cell : (p : ℕ) → length sc.settings.ports ≤ p → cell_at x p ≡ empty
  unfolding cell_at
  no_cell p h = get_or_past (λ c. c ≡ empty) (length sc.settings.ports) x.cells p empty h refl r.no-other-cells

  no-talker : (p : ℕ) → length sc.settings.ports ≤ p → is_source (source_of x) p ≡ false
  unfolding source_of cell_at
  no-talker p h = let e : 0 + p ≡ p = omega arith in rw e at (not-source 0 p x.cells (no_cell p h))

  unsettled-there : (p : ℕ) → length sc.settings.ports ≤ p → decide_at sc now s x p ≡ unsettled
  unfolding decide_at column_of steps is_port first outcome_column registered entry_of age_kept latency_kept unsettled empty
  unsettled-there p h = rw (le-ltb p (length sc.settings.ports) h, no-talker p h, no_cell p h)

  -- What is stored goes with what is registered: only the Talker port declares, and the others have the columns.

  port-there : (o : Origin) → source_of x ≡ from o → o.port < length sc.settings.ports
  unfolding is_source
  port-there o e = go (ltb o.port (length sc.settings.ports)) refl
    where
      go : (t : Bool) → ltb o.port (length sc.settings.ports) ≡ t → o.port < length sc.settings.ports
      go true f = ltb-true o.port (length sc.settings.ports) f
      go false f =
          let none-there = rw e at (no-talker o.port (ltb-false o.port (length sc.settings.ports) f)) in
          absurd (false≢true (sym none-there ∙ eq-eqb o.port o.port refl))

  talker-there : (o : Origin) → source_of x ≡ from o → is_talking (get_or x.cells o.port empty) ≡ true
  unfolding source_of
  talker-there o e =
      let (q, place, talks) = source-talks 0 x.cells o e in
      let same : o.port ≡ q = omega arith in
      rw same talks

  either-none : (t : Bool) → cond (not t) none none ≡ none
  either-none true = refl
  either-none false = refl

  no-column : (p : ℕ) → source_of x ≡ nowhere → column_of sc now s p x ≡ none
  unfolding column_of steps steps_from first outcome_column
  no-column p e = rw e (either-none (is_port sc.settings p))

  no-own-column : (o : Origin) (p : ℕ) → source_of x ≡ from o → p ≡ o.port → column_of sc now s p x ≡ none
  unfolding column_of steps steps_from first outcome_column
  no-own-column o p e f = rw (e, eq-eqb p o.port f) (either-none (is_port sc.settings p))

  idle-decided : talkers (length sc.settings.ports) x.cells ≡ 0 → fixed_of (source_of x) ≡ no_fixed
  unfolding fixed_of
  idle-decided n = go (source_of x) refl
    where
      go : (t : Source) → source_of x ≡ t → fixed_of t ≡ no_fixed
      go nowhere e = refl
      go (from o) e = absurd (omega (arith, talker-counts (length sc.settings.ports) o.port x.cells (port-there o e) (talker-there o e)))

  module _ (p : ℕ) (h : p < length sc.settings.ports) where
    n : ℕ
    n = talkers (length sc.settings.ports) x.cells

    column-decided : implies (has_column (column_of sc now s p x)) (ltb (bit (is_talking (get_or x.cells p empty))) n) ≡ true
    unfolding has_column n
    column-decided = go (source_of x) refl
      where
        go : (t : Source) → source_of x ≡ t → implies (has_column (column_of sc now s p x)) (ltb (bit (is_talking (get_or x.cells p empty))) n) ≡ true
        go nowhere e = rw (no-column p e) refl
        go (from o) e = at-port (eqb p o.port) refl
          where
            at-port : (t : Bool) → eqb p o.port ≡ t
                → implies (has_column (column_of sc now s p x)) (ltb (bit (is_talking (get_or x.cells p empty))) n) ≡ true
            at-port true f = rw (no-own-column o p e (eqb-true p o.port f)) refl
            at-port false f =
                implies_true (has_column (column_of sc now s p x)) _
                (λ _. lt-ltb _ n (other-counts (length sc.settings.ports) p o.port x.cells (eqb-false p o.port f) h (port-there o e) (talker-there o e)))

    abbrev Goes : Bool
    Goes = not (has_column (column_of sc now s p x)) && is_talking (get_or x.cells p empty)

    listener-decided : implies (declares (decide_at sc now s x p).declares) Goes ≡ true
    unfolding decide_at declares has_column is_source
    listener-decided = go (source_of x) refl
      where
        go : (t : Source) → source_of x ≡ t → implies (declares (decide_at sc now s x p).declares) Goes ≡ true
        go nowhere e = rw e refl
        go (from o) e = at-port (eqb o.port p) refl
          where
            at-port : (t : Bool) → eqb o.port p ≡ t → implies (declares (decide_at sc now s x p).declares) Goes ≡ true
            at-port true f =
                let here : o.port ≡ p = eqb-true o.port p f in
                let own : Goes ≡ true = rw (no-own-column o p e (sym here), ← here) (talker-there o e) in
                implies_true (declares (decide_at sc now s x p).declares) Goes (λ _. own)
            at-port false f = rw (e, f) refl

    stored-decided : stored_formed n (get_or x.cells p empty) (decide_at sc now s x p) ≡ true
    unfolding stored_formed stored_rules cell_at decide_at
    stored-decided =
        let c = get_or x.cells p empty in
        true-all (stored_rules n c (decide_at sc now s x p))
        (column-decided also listener-decided also entry-heard (column_of sc now s p x) c also tt)

  one-decided : declarers (length sc.settings.ports) (tabulate 8 0 (decide_at sc now s x)) ≤ 1
  unfolding decide_at declares is_source
  one-decided = go (source_of x) refl
    where
      go : (t : Source) → source_of x ≡ t → declarers (length sc.settings.ports) (tabulate 8 0 (decide_at sc now s x)) ≤ 1
      go nowhere e = one-declares (length sc.settings.ports) 8 0 0 (decide_at sc now s x) (λ q n. rw e refl)
      go (from o) e =
          one-declares (length sc.settings.ports) 8 0 o.port (decide_at sc now s x)
          (λ q n. rw (e, ne_eqb o.port q (λ f. n (sym f))) refl)

  -- What is sent follows what is decided.

  abbrev results : List Result
  results = tabulate 8 0 (decide_at sc now s x)

  results-valid : All (ValidResult now) results
  results-valid = all-tabulate (ValidResult now) 8 0 (decide_at sc now s x) result-valid

  no-other-results : All (λ y. y ≡ unsettled) (drop (length sc.settings.ports) results)
  no-other-results =
      all-drop-tabulate (λ y. y ≡ unsettled) (length sc.settings.ports) 8 0 (decide_at sc now s x)
      (λ p h. unsettled-there p (omega arith))

  abbrev values : Fixed
  values = fixed_of (source_of x)

  values-fit : ValidFixed values
  values-fit = fixed-valid now sc.settings.leave_time (source_of x) source_fits

  sent : ℕ → Sends
  sent p = declare_sends values (get_or results p unsettled) (get_or x.sends p no_sends)

  sent-valid : (p : ℕ) → ValidSends (sent p)
  unfolding sent
  sent-valid p =
      sends-valid now values values-fit (get_or results p unsettled) (all_get_or (ValidResult now) results results-valid unsettled (unsettled-valid now) p)
      (get_or x.sends p no_sends) (all_get_or ValidSends x.sends r.sends no_sends no-sends-valid p)

  sent-follows : (p : ℕ) → sent_formed (get_or results p unsettled) (sent p) ≡ true
  unfolding sent
  sent-follows p = sends-follow values (get_or results p unsettled) (get_or x.sends p no_sends)

  sent-there : (p : ℕ) → p < 8 → sent_formed (get_or results p unsettled) (get_or (tabulate 8 0 sent) p no_sends) ≡ true
  sent-there p h = rw (at_place sent p no_sends h) (sent-follows p)

  none-sent : (p : ℕ) → length sc.settings.ports ≤ p → sent p ≡ no_sends
  unfolding sent
  none-sent p h =
      let ports = length sc.settings.ports in
      rw (
        get_or_past (λ y. y ≡ unsettled) ports results p unsettled h refl no-other-results,
        get_or_past (λ y. y ≡ no_sends) ports x.sends p no_sends h refl r.no-other-sends,
      )
      (nothing-sent values)

  declared-valid : is_held (declare (decide sc now s x)) ≡ true → ValidStream (length sc.settings.ports) now sc.settings.leave_time (declare (decide sc now s x))
  unfolding declare decide cell_at result_at sends_at sent
  declared-valid is-held = record {
    id = r.id;
    settled = values-fit;
    eight_cells = r.eight_cells;
    cells = r.cells;
    no-other-cells = r.no-other-cells;
    is-held = is-held;
    eight_results = length-tabulate 8 0 (decide_at sc now s x);
    results = results-valid;
    no-other-results = no-other-results;
    idle = idle-decided;
    stored = λ p h. rw (at_place (decide_at sc now s x) p unsettled (omega arith)) (unfold n in stored-decided p h);
    one-declares = one-decided;
    eight_sends = length-tabulate 8 0 sent;
    sends = all-tabulate ValidSends 8 0 sent sent-valid;
    sent = λ p h. sent-there p (omega arith);
    no-other-sends = all-drop-tabulate (λ y. y ≡ no_sends) (length sc.settings.ports) 8 0 sent (λ p h. none-sent p (omega arith));
  }

-- Totals: at most what they may be, and so none where there is no port.

no-limit : (some : Bool) (n : ℕ) → at_most some false n ≡ 0
unfolding at_most
no-limit true n = refl
no-limit false n = refl

totals-within : (some : Bool) (n p : ℕ) (qs : List Port) (f : ℕ → Totals) →
    ((i q : ℕ) → p + i ≡ q →
    let port = get_or qs i no_port in
    ((f q).total_a ≤ at_most some port.supports_a port.limit_a) × ((f q).total_b ≤ at_most some port.supports_b (in_force port (f q).total_a class_b))) →
    totals_within some (tabulate n p f) qs ≡ true
unfolding tabulate totals_within no_port
totals-within some zero p qs f h = refl
totals-within some (suc n) p [] f h =
    let here : ((f p).total_a ≤ 0) × ((f p).total_b ≤ 0) =
    rw (no-limit some 0, no-limit some (in_force no_port (f p).total_a class_b)) at (h 0 p (omega arith)) in
    rw (eq-eqb (f p).total_a 0 (omega arith), eq-eqb (f p).total_b 0 (omega arith))
    (totals-within some n (suc p) [] f (λ i q e. h (suc i) q (omega arith)))
totals-within some (suc n) p (q ∷ qs) f h =
    let here = h 0 p (omega arith) in
    rw (le-leb (f p).total_a (at_most some q.supports_a q.limit_a) here.0, le-leb (f p).total_b (at_most some q.supports_b (in_force q (f p).total_a class_b)) here.1)
    (totals-within some n (suc p) qs f (λ i q e. h (suc i) q (omega arith)))

-- without registrations nothing is claimed, nor where the port does not support the class
pub same_class_lem : (a b : Class) → same_class a b ≡ true → a ≡ b
unfolding same_class
same_class_lem no_class b e = absurd (false≢true e)
same_class_lem class_a no_class e = absurd (false≢true e)
same_class_lem class_a class_a e = refl
same_class_lem class_a class_b e = absurd (false≢true e)
same_class_lem class_b no_class e = absurd (false≢true e)
same_class_lem class_b class_a e = absurd (false≢true e)
same_class_lem class_b class_b e = refl

module _ (sc : Scene) (now p : ℕ) where
  pub nowhere-stops : (x : Stream) → source_of x ≡ nowhere → clear (steps sc p x) ≡ false
  unfolding steps steps_from clear
  nowhere-stops x e = rw (e, and-false)

  stopped : (x : Stream) → supports (port_at sc.settings p) (stream_class sc.settings x) ≡ false → clear (steps sc p x) ≡ false
  unfolding stream_class fixed_of steps steps_from clear
  stopped x f = go (source_of x) refl
    where
      go : (t : Source) → source_of x ≡ t → clear (steps sc p x) ≡ false
      go nowhere e = nowhere-stops x e
      go (from o) e = rw (e, rw e at f, and-false, and-false) refl

  module _ (c : Class) where
    nothing-held : (s : List Stream) → any_held s ≡ false → claims sc now p c s ≡ []
    unfolding claims any_held source_of
    nothing-held [] h = refl
    nothing-held (x ∷ s) h =
        let idle = or-false (held x.cells) (any_held s) h in
        rw (nowhere-stops x (unheld-nowhere 0 x.cells idle.0)) (nothing-held s idle.1)

    unsupported : supports (port_at sc.settings p) c ≡ false → (s : List Stream) → claims sc now p c s ≡ []
    unfolding claims
    unsupported f [] = refl
    unsupported f (x ∷ s) = rw (unclaimed (same_class (stream_class sc.settings x) c) refl) (unsupported f s)
      where
        unclaimed : (t : Bool) → same_class (stream_class sc.settings x) c ≡ t → (clear (steps sc p x) && same_class (stream_class sc.settings x) c) ≡ false
        unclaimed true e = rw (stopped x (ap (supports (port_at sc.settings p)) (same_class_lem (stream_class sc.settings x) c e) ∙ f)) refl
        unclaimed false e = rw e (and-false (clear (steps sc p x)))

    pub total_at_most : (s : List Stream) → total_on sc now s p c ≤ at_most (any_held s) (supports (port_at sc.settings p) c) (limit_on sc now s p c)
    unfolding total_on total at_most
    total_at_most s = go (any_held s) (supports (port_at sc.settings p) c) refl refl
      where
        go : (some supported : Bool) → any_held s ≡ some → supports (port_at sc.settings p) c ≡ supported
            → reserved (limit_on sc now s p c) (sort (claims sc now p c s)) ≤ cond (some && supported) (limit_on sc now s p c) 0
        go true true e f = within (limit_on sc now s p c) (sort (claims sc now p c s))
        go true false e f = rw (unsupported f s) (unfold sort reserved in omega arith)
        go false t e f = rw (nothing-held s e) (unfold sort reserved in omega arith)

settled-totals : (sc : Scene) (now : ℕ) (s : List Stream) → totals_within (any_held s) (tabulate 8 0 (totals_on sc now s)) sc.settings.ports ≡ true
unfolding totals_on supports total_on limit_on in_force reserved_a port_at
settled-totals sc now s =
    totals-within (any_held s) 8 0 sc.settings.ports (totals_on sc now s)
    (λ i q e. let same : i ≡ q = omega arith in rw same (total_at_most sc now q class_a s, total_at_most sc now q class_b s))

-- The call.

pub decided-ids : (sc : Scene) (now : ℕ) (s l : List Stream) → ids (map (decide sc now s) l) ≡ ids l
unfolding ids decide
decided-ids sc now s [] = refl
decided-ids sc now s (x ∷ l) = ap (λ (is : List ℕ). x.id ∷ is) (decided-ids sc now s l)

pub settle-keeps : (b : Bridge) (now : ℕ) → now < 2 ^ 32 → b.clock ≤ now → Valid b → Valid (settle now b)
unfolding settle declaring deciding decide_owns sender_at
settle-keeps b now small later v = record {
  settings = v.settings;
  clock = small;
  eight_totals = length-tabulate 8 0 (totals_on sc now s);
  totals = rw (held-dropped (map declare decisions), held-declared decisions, held-decided sc now s s) (settled-totals sc now s);
  eight_owns = length-tabulate 8 0 (decide_own st now b.owns);
  owns = all-tabulate (ValidOwn now st.leave_time) 8 0 (decide_own st now b.owns) (own-valid st b.clock now later b.owns v.owns);
  no-other-owns =
      all-drop-tabulate (λ o. o ≡ no_own) ports 8 0 (decide_own st now b.owns)
      (λ p h. none-there st b.clock now later b.owns v.owns v.no-other-owns p (omega arith));
  eight_senders = length-tabulate 8 0 (time_sender st now b.senders);
  senders = λ p h.
      rw (at_place (time_sender st now b.senders) p no_sender (omega (arith, h, v.settings.eight_ports)))
      (sender-valid b.clock now later st b.senders p h (v.senders p h));
  no-other-senders =
      all-drop-tabulate (λ x. x ≡ no_sender) ports 8 0 (time_sender st now b.senders)
      (λ p h. no-sender b.clock now later st b.senders p (omega arith) v.no-other-senders);
  at_most_64 = fewer;
  streams =
      all-dropped (λ y. is_held y ≡ true → ValidStream ports now st.leave_time y) (ValidStream ports now st.leave_time) (λ y h k. k h) (map declare decisions)
      (all-mapped (λ y. is_held (declare y) ≡ true → ValidStream ports now st.leave_time (declare y)) (λ y. is_held y ≡ true → ValidStream ports now st.leave_time y) declare
      (λ y k. k) decisions
      (all-mapped (Remaining ports b.clock now st.leave_time) (λ y. is_held (declare y) ≡ true → ValidStream ports now st.leave_time (declare y)) (decide sc now s)
      (declared-valid sc v.settings.bridge_id v.settings.eight_ports b.clock now later s) s
      (streams-remain st b.clock now ports later b.streams v.streams)));
  ascending =
      dropped-rising (map declare decisions)
      (rw (declared-ids decisions, decided-ids sc now s s) (remain-rising st now b.streams v.ascending));
}
  where
    st : Settings
    st = b.settings

    ports : ℕ
    ports = length st.ports

    s : List Stream
    s = remain st now b.streams

    sc : Scene
    sc = record { settings = st; owns = decide_owns st now b.owns; inbound = inbounds_of s }

    decisions : List Stream
    decisions = map (decide sc now s) s

    fewer : length (drop_unheld (map declare decisions)) ≤ 64
    fewer =
        let same : length (map declare decisions) ≡ length b.streams =
        length-map decisions declare ∙ length-map s (decide sc now s) ∙ (unfold remain in length-map b.streams (expire st now)) in
        omega (arith, fewer-dropped (map declare decisions), same, v.at_most_64)

pub advance-keeps : (b : Bridge) (now : ℕ) → now < 2 ^ 32 → Valid b → Valid (advance b now).bridge
unfolding advance
advance-keeps b now small v = go (ltb now b.clock) refl
  where
    go : (t : Bool) → ltb now b.clock ≡ t →
        Valid (cond {A = Answer} t record { number = 9; bridge = b } record { number = 0; bridge = settle now b }).bridge
    go true e = v
    go false e = settle-keeps b now small (ltb-false now b.clock e) v
