-- An advance to the held clock (02, ix): on a table that keeps the form rules nothing expires in it and no stream goes, so why tells just
-- the columns that it gives.
use mathlib.Core.Path.{◌≡◌, refl, sym, ap, ◌∙◌}
use mathlib.Core.Logic.{◌↔◌}
use mathlib.Core.List.{List, [], ◌∷◌, map}
use mathlib.Core.Bool.{Bool, true, false, cond, ◌||◌, not, false≢true, true≢false}
use Prim.Native.Nat.{ℕ, zero, suc, ◌+◌, ◌<◌}
use native.Mathlib.Omega.{arith}
use lib.ListN.{length, get_or, length-map}
use lib.Dec.{ltb}
use borrow.Author.Tests.{lt-leb, ltb-true, ltb-false}
use Rattle.model.specs.Lists.{All, bit, tabulate}
use Rattle.model.specs.Machines.{Applicant, no_applicant, applicant, Decided, undeclared, declared, decided}
use Rattle.model.specs.State.{Settings, Leaving, stays, since, Talker, no_talker, talker, Listener, no_listener, listener, Cell, Domain, no_domain, domain, Presence, vacant, present, Address, no_own, Column, none, advertise, failed, no_entry, filters, forwards, Declared, nothing, tells, Fixed, Result, Sends, Stream, Bridge, fresh, unsettled, no_sends, stream_at, cell_at, result_at, sends_at, own_at}
use Rattle.model.specs.Settling.{expired, expire_talker, expire_listener, expire_cell, expire, remain, expire_domain, outlasts, remain_addresses, source_of, column_of, registered, is_ready, entry_of, Scene, is_talking, is_hearing, held, is_applicant, is_sending, any_sending, is_held, fixed_of, is_advertise, advertised_by, failed_by, listened_by, same_offer, same_failed, same_ready, declare_sends, declare, decide_at, decide, deciding, declaring, settle}
use Rattle.model.specs.Table.{entry_number, talkers, has_column, declares, stored_rules, stored_formed, is_standing, stands, is_failed, alike, sent_rules, sent_formed}
use Rattle.model.specs.Why.{column_by, scene_now, reason}
use Rattle.model.proofs.Lists.{all_map, all_get_or, at_place, get_or_map, all_true_lem, implied, and_right}
use Rattle.model.proofs.Valid.{ValidLeaving, ValidTalker, ValidListener, ValidCell, ValidDomain, ValidPresence, ValidAddress, ValidOwn, ValidStream, Valid}
use Rattle.model.proofs.Owns.{no-own-valid}
use Rattle.model.proofs.Stored.{talker-counts}
use Rattle.model.proofs.Deciding.{Stands, Holds, Unsent, decided-stands, withdrawn-unsent}
use Rattle.model.proofs.AdvanceKeepsForm.{all-mapped, get_or_past, or-false}
use Rattle.model.proofs.Dropping.{dropped-none}
use Rattle.model.proofs.Why.{column-named, step-told}

map_same : {A : Type 0} (f : A → A) (l : List A) → All (λ x. f x ≡ x) l → map f l ≡ l
map_same f [] a = refl
map_same f (x ∷ l) a = rw (a.0, map_same f l a.1)

-- Nothing has been leaving for the leave time.

module _ (st : Settings) (clock : ℕ) where
  not-expired : (l : Leaving) → ValidLeaving clock st.leave_time l → expired st clock l ≡ false
  unfolding expired
  not-expired stays v = refl
  not-expired (since t) v = lt-leb (t + st.leave_time) clock v.1

  talker-stays : (k : Talker) → ValidTalker clock st.leave_time k → expire_talker st clock k ≡ k
  unfolding expire_talker
  talker-stays no_talker v = refl
  talker-stays (talker r) v = rw (not-expired r.leaving v.leaving)

  listener-stays : (k : Listener) → ValidListener clock st.leave_time k → expire_listener st clock k ≡ k
  unfolding expire_listener
  listener-stays no_listener v = refl
  listener-stays (listener r l) v = rw (not-expired l v)

  cell_stays : (c : Cell) → ValidCell clock st.leave_time c → expire_cell st clock c ≡ c
  unfolding expire_cell
  cell_stays c v = rw (talker-stays c.talks v.talks, listener-stays c.hears v.hears)

  domain-stays : (d : Domain) → ValidDomain clock st.leave_time d → expire_domain st clock d ≡ d
  unfolding expire_domain
  domain-stays no_domain v = refl
  domain-stays (domain w l) v = rw (not-expired l v.1)

  is-present : (k : Presence) → ValidPresence clock st.leave_time k → outlasts st clock k ≡ true
  unfolding outlasts
  is-present vacant v = absurd v
  is-present (present l) v = rw (not-expired l v)

  addresses-stay : (l : List Address) → All (ValidAddress clock st.leave_time) l → remain_addresses st clock l ≡ l
  unfolding remain_addresses
  addresses-stay [] a = refl
  addresses-stay (x ∷ l) a = rw (is-present x.presence a.0.presence, addresses-stay l a.1)

  stream-stays : (ports : ℕ) (x : Stream) → ValidStream ports clock st.leave_time x → expire st clock x ≡ x
  unfolding expire
  stream-stays ports x v =
      rw (map_same (expire_cell st clock) x.cells (all_map (ValidCell clock st.leave_time) (λ c. expire_cell st clock c ≡ c) cell_stays x.cells v.cells))

  streams-stay : (ports : ℕ) (s : List Stream) → All (ValidStream ports clock st.leave_time) s → remain st clock s ≡ s
  unfolding remain
  streams-stay ports s a =
      map_same (expire st clock) s (all_map (ValidStream ports clock st.leave_time) (λ x. expire st clock x ≡ x) (stream-stays ports) s a)

-- nor what the port at place p holds by itself
module _ (b : Bridge) (v : Valid b) (p : ℕ) where
  own-valid : ValidOwn b.clock b.settings.leave_time (own_at b.owns p)
  own-valid =
      let leave = b.settings.leave_time in
      all_get_or (ValidOwn b.clock leave) b.owns v.owns no_own (no-own-valid b.clock leave) p

  pub own-domains-stay : map (expire_domain b.settings b.clock) (own_at b.owns p).domains ≡ (own_at b.owns p).domains
  own-domains-stay =
      map_same (expire_domain b.settings b.clock) (own_at b.owns p).domains
      (all_map (ValidDomain b.clock b.settings.leave_time) (λ d. expire_domain b.settings b.clock d ≡ d) (domain-stays b.settings b.clock) (own_at b.owns p).domains own-valid.domains)

  pub own-addresses-stay : remain_addresses b.settings b.clock (own_at b.owns p).addresses ≡ (own_at b.owns p).addresses
  own-addresses-stay = addresses-stay b.settings b.clock (own_at b.owns p).addresses own-valid.addresses.each

-- No stream goes: one that no port has registered has an unsent Lv, by the form rules, and Lv! leaves that.

or_left : (a b : Bool) → a ≡ true → (a || b) ≡ true
or_left a b e = rw e

or_right : (a b : Bool) → b ≡ true → (a || b) ≡ true
or_right true b e = refl
or_right false b e = e

module _ {D : Type 0} (same : D → D → Bool) where
  unsent-stays : (d : Decided D) (a : Applicant D) → is_applicant a ≡ true → stands a ≡ false → is_applicant (decided same d a) ≡ true
  unfolding is_applicant stands is_standing
  unsent-stays d no_applicant e f = absurd (false≢true e)
  unsent-stays undeclared (applicant x) e f = go (decided same undeclared (applicant x)) (withdrawn-unsent same (applicant x))
    where
      go : (b : Applicant D) → Unsent (applicant x) b → is_applicant b ≡ true
      go no_applicant u = absurd (true≢false (rw u at f))
      go (applicant y) u = refl
  unsent-stays (declared v) (applicant x) e f = go (decided same (declared v) (applicant x)) (decided-stands same v (applicant x))
    where
      go : (b : Applicant D) → Holds Stands v b → is_applicant b ≡ true
      go no_applicant h = absurd h
      go (applicant y) h = refl

unlike : (a b : Bool) → alike a b ≡ true → b ≡ false → a ≡ false
unfolding alike
unlike true b e f = absurd (false≢true (sym f ∙ e))
unlike false b e f = refl

no-advertise : (c : Column) → has_column c ≡ false → is_advertise c ≡ false
unfolding has_column is_advertise
no-advertise none e = refl
no-advertise advertise e = absurd (true≢false e)
no-advertise (failed b n) e = refl

no-failed : (c : Column) → has_column c ≡ false → is_failed c ≡ false
unfolding has_column is_failed
no-failed none e = refl
no-failed advertise e = refl
no-failed (failed b n) e = absurd (true≢false e)

no-talkers : (k : ℕ) (cs : List Cell) → held cs ≡ false → talkers k cs ≡ 0
unfolding talkers held bit
no-talkers zero cs e = refl
no-talkers (suc k) [] e = refl
no-talkers (suc k) (c ∷ cs) e =
    let both = or-false (is_talking c || is_hearing c) (held cs) e in
    rw (or-false (is_talking c) (is_hearing c) both.0).0 (omega (arith, no-talkers k cs both.1))

module _ (ports clock leave : ℕ) (x : Stream) (v : ValidStream ports clock leave x) (idle : held x.cells ≡ false) (p : ℕ) (h : p < ports) where
  no-column : has_column (result_at x p).column ≡ false
  unfolding stored_formed stored_rules
  no-column = go (has_column (result_at x p).column) refl
    where
      go : (t : Bool) → has_column (result_at x p).column ≡ t → has_column (result_at x p).column ≡ false
      go true e =
          let rules = all_true_lem (stored_rules (talkers ports x.cells) (cell_at x p) (result_at x p)) (v.stored p h) in
          let more = ltb-true (bit (is_talking (cell_at x p))) (talkers ports x.cells) (implied (has_column (result_at x p).column) _ rules.0 e) in
          absurd (omega (arith, more, no-talkers ports x.cells idle))
      go false e = e

  no-listener : declares (result_at x p).declares ≡ false
  unfolding stored_formed stored_rules cell_at
  no-listener = go (declares (result_at x p).declares) refl
    where
      go : (t : Bool) → declares (result_at x p).declares ≡ t → declares (result_at x p).declares ≡ false
      go true e =
          let rules = all_true_lem (stored_rules (talkers ports x.cells) (cell_at x p) (result_at x p)) (v.stored p h) in
          let talks = and_right (not (has_column (result_at x p).column)) (is_talking (cell_at x p)) (implied (declares (result_at x p).declares) _ rules.1.0 e) in
          absurd (omega (arith, talker-counts ports p x.cells h talks, no-talkers ports x.cells idle))
      go false e = e

  -- so none of its machines there stands, and each that there is stays
  still-sending : (f : Fixed) (r : Result) → is_sending (sends_at x p) ≡ true → is_sending (declare_sends f r (sends_at x p)) ≡ true
  unfolding is_sending declare_sends sent_formed sent_rules
  still-sending f r e =
      go (is_applicant s.advertising) (is_applicant s.failing) (is_applicant s.listening) refl refl refl e
    where
      s : Sends
      s = sends_at x p

      rules : All (λ b. b ≡ true) (sent_rules (result_at x p) s)
      rules = all_true_lem (sent_rules (result_at x p) s) (v.sent p h)

      advertising : Bool
      advertising = is_applicant (decided same_offer (advertised_by f r r.column) s.advertising)

      failing : Bool
      failing = is_applicant (decided same_failed (failed_by f r r.column) s.failing)

      listening : Bool
      listening = is_applicant (decided same_ready (listened_by r.declares) s.listening)

      go : (a b c : Bool) → is_applicant s.advertising ≡ a → is_applicant s.failing ≡ b → is_applicant s.listening ≡ c → (a || b || c) ≡ true
          → (advertising || failing || listening) ≡ true
      go true b c ea eb ec e =
          or_left (advertising || failing) listening
          (or_left advertising failing
          (unsent-stays same_offer (advertised_by f r r.column) s.advertising ea (unlike _ _ rules.0 (no-advertise (result_at x p).column no-column))))
      go false true c ea eb ec e =
          or_left (advertising || failing) listening
          (or_right advertising failing
          (unsent-stays same_failed (failed_by f r r.column) s.failing eb (unlike _ _ rules.1.0 (no-failed (result_at x p).column no-column))))
      go false false true ea eb ec e =
          or_right (advertising || failing) listening
          (unsent-stays same_ready (listened_by r.declares) s.listening ec (unlike _ _ rules.1.1.0 no-listener))
      go false false false ea eb ec e = absurd (false≢true e)

-- a port that sends has a place
some-sends : (l : List Sends) → any_sending l ≡ true → (p : ℕ) × (p < length l) × (is_sending (get_or l p no_sends) ≡ true)
unfolding any_sending
some-sends [] e = absurd (false≢true e)
some-sends (s ∷ l) e = go (is_sending s) refl e (some-sends l)
  where
    go : (t : Bool) → is_sending s ≡ t → (t || any_sending l) ≡ true
        → (any_sending l ≡ true → (p : ℕ) × (p < length l) × (is_sending (get_or l p no_sends) ≡ true))
        → (p : ℕ) × (p < suc (length l)) × (is_sending (get_or (s ∷ l) p no_sends) ≡ true)
    go true q e ih = (0, omega arith, q)
    go false q e ih =
        let (p, h, k) = ih e in
        (suc p, omega arith, k)

sending-there : (n q : ℕ) (g : ℕ → Sends) (p : ℕ) → p < n → is_sending (g (q + p)) ≡ true → any_sending (tabulate n q g) ≡ true
unfolding tabulate any_sending
sending-there zero q g p h e = absurd (omega arith)
sending-there (suc n) q g zero h e =
    let z : q + 0 ≡ q = omega arith in
    or_left (is_sending (g q)) (any_sending (tabulate n (suc q) g)) (rw z at e)
sending-there (suc n) q g (suc p) h e =
    let z : q + suc p ≡ suc q + p = omega arith in
    or_right (is_sending (g q)) (any_sending (tabulate n (suc q) g)) (sending-there n (suc q) g p (omega arith) (rw z at e))

none-sends : is_sending no_sends ≡ false
unfolding is_sending is_applicant no_sends
none-sends = refl

module _ (ports clock leave : ℕ) (sc : Scene) (now : ℕ) (s : List Stream) (x : Stream) (v : ValidStream ports clock leave x) where
  on-port : (p : ℕ) → is_sending (get_or x.sends p no_sends) ≡ true → p < ports
  on-port p e = go (ltb p ports) refl
    where
      go : (t : Bool) → ltb p ports ≡ t → p < ports
      go true q = ltb-true p ports q
      go false q =
          let none : get_or x.sends p no_sends ≡ no_sends =
          get_or_past (λ y. y ≡ no_sends) ports x.sends p no_sends (ltb-false p ports q) refl v.no-other-sends in
          absurd (false≢true (sym none-sends ∙ (rw none at e)))

  sends-then : ℕ → Sends
  sends-then p = declare_sends (fixed_of (source_of x)) (result_at (decide sc now s x) p) (sends_at x p)

  unsent-held : held x.cells ≡ false → any_sending x.sends ≡ true → any_sending (tabulate 8 0 sends-then) ≡ true
  unfolding sends-then sends_at
  unsent-held idle e =
      let (p, h, k) = some-sends x.sends e in
      let z : 0 + p ≡ p = omega arith in
      sending-there 8 0 sends-then p (omega (arith, h, v.eight_sends))
      (rw z (still-sending ports clock leave x v idle p (on-port p k) (fixed_of (source_of x)) (result_at (decide sc now s x) p) k))

  still-held : is_held (declare (decide sc now s x)) ≡ true
  unfolding is_held declare decide sends-then sends_at
  still-held = go (held x.cells) refl
    where
      go : (t : Bool) → held x.cells ≡ t → (held x.cells || any_sending (tabulate 8 0 sends-then)) ≡ true
      go true e = or_left (held x.cells) (any_sending (tabulate 8 0 sends-then)) e
      go false e = or_right (held x.cells) (any_sending (tabulate 8 0 sends-then)) (unsent-held e (rw e at v.is-held))

-- An entry forwards exactly where the column is Advertise and the Listener Ready or Ready Failed.

filters-only : filters ≡ forwards → ⊥
unfolding entry_number
filters-only e = omega (arith, ap entry_number e)

none-there : no_entry ≡ forwards → ⊥
unfolding entry_number
none-there e = omega (arith, ap entry_number e)

forwards-exactly : (c : Column) (d : Declared) → (entry_of c d ≡ forwards) ↔ ((c ≡ advertise) × (is_ready d ≡ true))
unfolding entry_of
forwards-exactly c d = (there c d, λ a. rw (a.0, a.1))
  where
    heard : (t : Bool) → cond t forwards filters ≡ forwards → t ≡ true
    heard true e = refl
    heard false e = absurd (filters-only e)

    there : (c : Column) (d : Declared) → entry_of c d ≡ forwards → (c ≡ advertise) × (is_ready d ≡ true)
    there none nothing e = absurd (none-there e)
    there none (tells r) e = absurd (filters-only e)
    there advertise d e = (refl, heard (is_ready d) e)
    there (failed b n) d e = absurd (filters-only e)

-- An advance to the held clock leaves each stream at its place, and gives just its column.
module _ (b : Bridge) (v : Valid b) (k : ℕ) (h : k < length b.streams) where
  abbrev decisions : List Stream
  decisions = map (decide (scene_now b) b.clock b.streams) b.streams

  all_held : All (λ y. is_held y ≡ true) (map declare decisions)
  all_held =
      let ports = length b.settings.ports in
      let leave = b.settings.leave_time in
      all-mapped (λ y. is_held (declare y) ≡ true) (λ y. is_held y ≡ true) declare (λ y e. e) decisions
      (all-mapped (ValidStream ports b.clock leave) (λ y. is_held (declare y) ≡ true) (decide (scene_now b) b.clock b.streams)
      (still-held ports b.clock leave (scene_now b) b.clock b.streams) b.streams v.streams)

  settled-streams : (settle b.clock b).streams ≡ map declare decisions
  unfolding settle declaring deciding scene_now
  settled-streams = rw (streams-stay b.settings b.clock _ b.streams v.streams) (dropped-none (map declare decisions) all_held)

  stream-then : stream_at k (settle b.clock b) ≡ declare (decide (scene_now b) b.clock b.streams (stream_at k b))
  stream-then =
      let there : k < length decisions = rw (length-map b.streams (decide (scene_now b) b.clock b.streams)) h in
      rw settled-streams
      (get_or_map declare decisions k (fresh 0) (fresh 0) there
      ∙ ap declare (get_or_map (decide (scene_now b) b.clock b.streams) b.streams k (fresh 0) (fresh 0) h))

  pub id-stays : (stream_at k (settle b.clock b)).id ≡ (stream_at k b).id
  unfolding declare decide
  id-stays = ap (λ (y : Stream). y.id) stream-then

  module _ (p : ℕ) (e : p < 8) where
    -- what it decides of a stream on a port, from what is registered now
    result-then : result_at (stream_at k (settle b.clock b)) p ≡ decide_at (scene_now b) b.clock b.streams (stream_at k b) p
    unfolding result_at declare decide
    result-then = rw stream-then (at_place (decide_at (scene_now b) b.clock b.streams (stream_at k b)) p unsettled e)

    pub advance-gives : (result_at (stream_at k (settle b.clock b)) p).column ≡ column_by b.settings (source_of (stream_at k b)) (reason b p (stream_at k b)).step
    unfolding scene_now reason decide_at
    advance-gives =
        ap (λ (y : Result). y.column) result-then
        ∙ column-named (scene_now b) p (stream_at k b) b.clock b.streams
        ∙ ap (column_by b.settings (source_of (stream_at k b))) (sym (step-told (scene_now b) b.clock b.streams p (stream_at k b)))

    -- and it forwards exactly where the stream reserves
    pub advance-forwards : ((result_at (stream_at k (settle b.clock b)) p).entry ≡ forwards)
        ↔ ((column_of (scene_now b) b.clock b.streams p (stream_at k b) ≡ advertise) × (is_ready (registered (cell_at (stream_at k b) p)) ≡ true))
    unfolding decide_at
    advance-forwards = rw result-then (forwards-exactly (column_of (scene_now b) b.clock b.streams p (stream_at k b)) (registered (cell_at (stream_at k b) p)))
