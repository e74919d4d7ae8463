-- Talker pruning (02, vi): a stream is pruned on a port exactly where the setting is on, no earlier step applies and the port does not
-- hold the stream's destination; and with the setting off, what is registered by MMRP changes no result.
use mathlib.Core.Path.{◌≡◌, refl, sym, ◌∙◌, ap}
use mathlib.Core.List.Memᴰ
use mathlib.Core.List.{List, [], ◌∷◌, map, Memᴰ, map_congr_left}
use mathlib.Core.Logic.{◌↔◌, ◌⊎◌, inl, inr}
use mathlib.Core.Bool.{Bool, true, false, cond, not, ◌&&◌, ◌||◌, true≢false, false≢true}
use Prim.Native.Nat.{ℕ, ◌-◌, ◌<◌}
use native.Mathlib.Omega.{arith}
use native.Mathlib.Decide.{dec_lt}
use lib.ListN.{drop}
use lib.Dec.{eqb, leb}
use borrow.Author.Tests.{eqb-true, eqb-false, eq-eqb, ne_eqb}
use Rattle.model.specs.Lists.{All, tabulate}
use Rattle.model.specs.State.{Settings, Fixed, TalkerType, talker_advertise, talker_failed, Address, Own, Column, none, advertise, failed, Stream, Bridge, Class, no_class, class_a, class_b, no_own, own_at, cell_at, port_at, is_port, class_of, supports}
use Rattle.model.specs.Registrations.{AddressAct, does_addresses, change_addresses, AddressReading, refused_frame, address_acts, Answer, owning, macs}
use Rattle.model.specs.AddressFrames.{address_reading}
use Rattle.model.specs.Settling.{Scene, Inbound, inbounds_of, decide_own, decide_owns, boundary, holds_address, is_pruned, remain, Origin, Source, nowhere, from, source_of, talker_type_of, stream_class, registered, column_none, StepName, step_a, step_b, step_h, step_i, step_n, own_failure, Step, first, is_talker_failed, failed_column, outcome_column, steps_from, steps, claim, claims, reserved_a, limit_on, left_for, by_bandwidth, column_of, passed, merged, decide_at, decide, total_on, totals_on, drop_unheld, declare, deciding, declaring, settle, Outcome, as_advertise, as_registered, bandwidth_steps, outcome_of, about}
use Rattle.model.specs.Why.{letter, same_step, first_name, last_name, step_on}
use Rattle.model.specs.Table.{column_number}
use Rattle.model.specs.Calls.{receive_mmrp}
use Rattle.model.proofs.Lists.{at_place, at_each}
use Rattle.model.proofs.AdvanceKeepsForm.{get_or_past}
use Rattle.model.proofs.ColumnRule.{tabulate-same}
use Rattle.model.proofs.OwnCodes.{steps_of}
use Rattle.model.proofs.StepNames.{every_step, every-all, every-not, is_own}
use Rattle.model.proofs.Why.{not_named}
use Rattle.model.proofs.ReceivedAddresses.{has_room, with_room, address_effect, received_is, mmrp-same}

-- The address that pruning asks for: a port holds it exactly where it is one of the port's.

holds-there : (m : ℕ) (l : List Address) → holds_address m l ≡ true → Memᴰ m (macs l)
unfolding holds_address macs
holds-there m [] e = absurd (false≢true e)
holds-there m (a ∷ l) e = go (eqb m a.mac) refl e (holds-there m l)
  where
    go : (t : Bool) → eqb m a.mac ≡ t → (t || holds_address m l) ≡ true → (holds_address m l ≡ true → Memᴰ m (macs l)) → Memᴰ m (a.mac ∷ macs l)
    go true d e ih = Memᴰ.head (eqb-true m a.mac d)
    go false d e ih = Memᴰ.tail (ih e)

there-holds : (m : ℕ) (l : List Address) → Memᴰ m (macs l) → holds_address m l ≡ true
unfolding holds_address macs
there-holds m [] h = absurd (Memᴰ.not-nil h)
there-holds m (a ∷ l) h = go (Memᴰ.cases_cons h) (eqb m a.mac) refl (there-holds m l)
  where
    go : (m ≡ a.mac) ⊎ Memᴰ m (macs l) → (t : Bool) → eqb m a.mac ≡ t → (Memᴰ m (macs l) → holds_address m l ≡ true) → (t || holds_address m l) ≡ true
    go c true d ih = refl
    go (inl e) false d ih = absurd (eqb-false m a.mac d e)
    go (inr k) false d ih = ih k

pub holds-exactly : (m : ℕ) (l : List Address) → (holds_address m l ≡ true) ↔ Memᴰ m (macs l)
holds-exactly m l = (holds-there m l, there-holds m l)

-- Pruned exactly there.

failed-some : (b c : ℕ) → failed b c ≡ none → ⊥
failed-some b c e = let z : ◌≡◌ {A = ℕ} 2 0 = (unfold column_number in ap column_number e) in omega arith

advertise-some : advertise ≡ none → ⊥
advertise-some e = let z : ◌≡◌ {A = ℕ} 1 0 = (unfold column_number in ap column_number e) in omega arith

bandwidth-some : (st : Settings) (d left : ℕ) → by_bandwidth st d left ≡ none → ⊥
unfolding by_bandwidth bandwidth_steps first outcome_column
bandwidth-some st d left = go (not (leb d left))
  where
    go : (t : Bool) → cond t (failed st.bridge_id 1) advertise ≡ none → ⊥
    go true e = failed-some st.bridge_id 1 e
    go false e = advertise-some e

-- behind pruning, every outcome but "as registered" is a failure
own-some : (st : Settings) (o : Source) (w : Outcome) → is_own w ≡ true → outcome_column st o w ≡ none → ⊥
unfolding outcome_column is_own
own-some st o column_none h e = false≢true h
own-some st o as_registered h e = false≢true h
own-some st o as_advertise h e = false≢true h
own-some st o (own_failure code) h e = failed-some st.bridge_id code e

failures-some : (st : Settings) (o : Source) (c : Column) → (c ≡ none → ⊥) → (l : List Step) → All (λ s. is_own (outcome_of s) ≡ true) l
    → first (outcome_column st o) l c ≡ none → ⊥
unfolding first
failures-some st o c h [] a e = h e
failures-some st o c h (s ∷ l) a e = go s.test (failures-some st o c h l a.1) e
  where
    go : (t : Bool) → (first (outcome_column st o) l c ≡ none → ⊥) → cond t (outcome_column st o (outcome_of s)) (first (outcome_column st o) l c) ≡ none → ⊥
    go true ih e = own-some st o (outcome_of s) a.0 e
    go false ih e = ih e

-- a stream that no step before pruning decides on the port at place p: its Talker port is another, and the port supports its class
pub record Reaches (sc : Scene) (p : ℕ) (x : Stream) (o : Origin) : Type 0 where
  pub port : is_port sc.settings p ≡ true
  pub talks : source_of x ≡ from o
  pub other : p ≡ o.port → ⊥
  pub supported : supports (port_at sc.settings p) (class_of sc.settings o.registration.fixed.priority) ≡ true

module _ (sc : Scene) (now : ℕ) (s : List Stream) (p : ℕ) (x : Stream) (o : Origin) (r : Reaches sc p x o) where
  -- the steps behind those, pruning and "as registered"
  abbrev failures : List Step
  failures = drop 5 (steps_of sc p (cell_at x p) x.id (from o))

  all-fail : every_step (λ n. is_own (about n).outcome) failures ≡ true
  unfolding steps_from every_step is_own
  all-fail = refl

  -- the column that they give, and a Failed registration before them
  behind : TalkerType → Column
  behind h =
      cond (is_talker_failed h) (failed_column h)
      (first (outcome_column sc.settings (from o)) failures (by_bandwidth sc.settings (claim sc.settings now p x).demand (left_for sc now s p x)))

  behind-some : (h : TalkerType) → behind h ≡ none → ⊥
  unfolding behind is_talker_failed failed_column
  behind-some talker_advertise e =
      failures-some sc.settings (from o) _ (bandwidth-some sc.settings (claim sc.settings now p x).demand (left_for sc now s p x)) failures (every-all _ failures all-fail) e
  behind-some (talker_failed b c) e = failed-some b c e

  column-is : column_of sc now s p x
      ≡ cond (is_pruned sc.settings (own_at sc.owns p) o.registration.fixed) none (behind o.registration.varying.type)
  unfolding column_of steps steps_from first outcome_of outcome_column talker_type_of behind
  column-is = rw (r.talks, r.port, ne_eqb p o.port r.other, r.supported, r.talks)

  -- Column none is then given exactly where the setting is on and the address is not held.
  pub pruned-exactly : (column_of sc now s p x ≡ none)
      ↔ ((sc.settings.pruning ≡ true) × (holds_address o.registration.fixed.destination (own_at sc.owns p).addresses ≡ false))
  unfolding is_pruned
  pruned-exactly = rw column-is (go sc.settings.pruning (holds_address o.registration.fixed.destination (own_at sc.owns p).addresses))
    where
      go : (t h : Bool) → (cond (t && not h) none (behind o.registration.varying.type) ≡ none) ↔ ((t ≡ true) × (h ≡ false))
      go true true = (λ e. absurd (behind-some o.registration.varying.type e), λ a. absurd (true≢false a.1))
      go true false = (λ e. (refl, refl), λ a. refl)
      go false h = (λ e. absurd (behind-some o.registration.varying.type e), λ a. absurd (false≢true a.0))

-- Step n is the one that decides exactly where no earlier step does, the setting is on and the address is not held.

not_same : (m n : StepName) → same_step m n ≡ false → m ≡ n → ⊥
unfolding same_step
not_same m n h e = true≢false (sym (eq-eqb (letter n) (letter n) refl) ∙ (rw e at h))

module _ (sc : Scene) (now : ℕ) (s : List Stream) (p : ℕ) (x : Stream) where
  abbrev pub Pruned : Type 0
  Pruned =
      (o : Origin) × Reaches sc p x o × (sc.settings.pruning ≡ true)
      × (holds_address o.registration.fixed.destination (own_at sc.owns p).addresses ≡ false)

  last : StepName
  last = last_name (claim sc.settings now p x).demand (left_for sc now s p x)

  -- no step behind it has its name
  rest : Origin → StepName
  rest o = first_name (drop 4 (steps_of sc p (cell_at x p) x.id (from o))) last

  rest-other : (o : Origin) → rest o ≡ step_n → ⊥
  unfolding rest last last_name bandwidth_steps first_name steps_from same_step letter every_step
  rest-other o =
      not_same (rest o) step_n
      (not_named step_n (drop 4 (steps_of sc p (cell_at x p) x.id (from o)))
      (every-not (λ n. same_step n step_n) (drop 4 (steps_of sc p (cell_at x p) x.id (from o))) refl) last
      (go (not (leb (claim sc.settings now p x).demand (left_for sc now s p x)))))
    where
      go : (t : Bool) → same_step (cond t step_h step_i) step_n ≡ false
      go true = refl
      go false = refl

  decides : (o : Origin) → is_port sc.settings p ≡ true → source_of x ≡ from o → (a b t h : Bool) → eqb p o.port ≡ a
      → supports (port_at sc.settings p) (class_of sc.settings o.registration.fixed.priority) ≡ b → sc.settings.pruning ≡ t
      → holds_address o.registration.fixed.destination (own_at sc.owns p).addresses ≡ h
      → cond a step_a (cond (not b) step_b (cond (t && not h) step_n (rest o))) ≡ step_n → Pruned
  unfolding same_step letter
  decides o port q true b t h ea eb et eh e = absurd (not_same step_a step_n refl e)
  decides o port q false false t h ea eb et eh e = absurd (not_same step_b step_n refl e)
  decides o port q false true true false ea eb et eh e = (o, record { port = port; talks = q; other = eqb-false p o.port ea; supported = eb }, et, eh)
  decides o port q false true true true ea eb et eh e = absurd (rest-other o e)
  decides o port q false true false h ea eb et eh e = absurd (rest-other o e)

  named-there : (a : Bool) → is_port sc.settings p ≡ a → (o : Source) → source_of x ≡ o → step_on sc now s p x ≡ step_n → Pruned
  unfolding step_on steps steps_from first_name is_pruned rest last same_step letter
  named-there false port o q e = absurd (not_same step_a step_n refl (rw port at e))
  named-there true port nowhere q e = absurd (not_same step_a step_n refl (rw (port, q) at e))
  named-there true port (from o) q e = decides o port q _ _ _ _ refl refl refl refl (rw (port, q) at e)

  pub pruned-named : (step_on sc now s p x ≡ step_n) ↔ Pruned
  unfolding step_on steps steps_from first_name is_pruned
  pruned-named = (
    named-there (is_port sc.settings p) refl (source_of x) refl,
    λ a. let r = a.1 in rw (r.talks, r.port, ne_eqb p a.0.port r.other, r.supported, a.2, a.3),
  )

-- With pruning off, what is decided does not read addresses.

module _ (st : Settings) (off : st.pruning ≡ false) (o o' : List Own) (i : List Inbound)
    (edge : (p : ℕ) (c : Class) → boundary (own_at o p) c ≡ boundary (own_at o' p) c) (now : ℕ) where
  abbrev one : Scene
  one = record { settings = st; owns = o; inbound = i }

  abbrev other : Scene
  other = record { settings = st; owns = o'; inbound = i }

  unpruned : (w : Own) (f : Fixed) → is_pruned st w f ≡ false
  unfolding is_pruned
  unpruned w f = ap (λ (t : Bool). t && not (holds_address f.destination w.addresses)) off

  same-steps : (p : ℕ) (x : Stream) → steps one p x ≡ steps other p x
  unfolding steps
  same-steps p x = go (source_of x)
    where
      go : (t : Source) → ◌≡◌ {A = List Step}
          (record { name = step_a; test = not (is_port st p) } ∷ steps_from one p (cell_at x p) x.id t)
          (record { name = step_a; test = not (is_port st p) } ∷ steps_from other p (cell_at x p) x.id t)
      go nowhere = unfold steps_from in refl
      go (from q) =
          let f = q.registration.fixed in
          unfold steps_from in (rw (unpruned (own_at o p) f, unpruned (own_at o' p) f, edge p (class_of st f.priority)))

  same-claims : (p : ℕ) (c : Class) (s : List Stream) → claims one now p c s ≡ claims other now p c s
  unfolding claims
  same-claims p c [] = refl
  same-claims p c (x ∷ s) = rw (same-steps p x, same-claims p c s)

  module _ (s : List Stream) where
    same-limit : (p : ℕ) (c : Class) → limit_on one now s p c ≡ limit_on other now s p c
    unfolding limit_on reserved_a
    same-limit p c = rw (same-claims p class_a s)

    same-column : (x : Stream) (p : ℕ) → column_of one now s p x ≡ column_of other now s p x
    unfolding column_of left_for
    same-column x p = rw (same-steps p x, same-claims p (stream_class st x) s, same-limit p (stream_class st x))

    same-result : (x : Stream) (p : ℕ) → decide_at one now s x p ≡ decide_at other now s x p
    unfolding decide_at merged
    same-result x p =
        rw (
          same-column x p,
          tabulate-same (λ q. passed (column_of one now s q x) (registered (cell_at x q))) (λ q. passed (column_of other now s q x) (registered (cell_at x q))) 8 0
              (λ q a b. rw (same-column x q)),
        )

    same-stream : (x : Stream) → decide one now s x ≡ decide other now s x
    unfolding decide
    same-stream x = rw (tabulate-same (decide_at one now s x) (decide_at other now s x) 8 0 (λ q a b. same-result x q))

    same-totals : (p : ℕ) → totals_on one now s p ≡ totals_on other now s p
    unfolding totals_on total_on
    same-totals p = rw (same-claims p class_a s, same-claims p class_b s, same-limit p class_a, same-limit p class_b)

-- An MMRP frame changes no Domain value and no flag of any port.
-- behind the eighth port nothing is held
past-eighth : (d : ℕ → Own) (q : ℕ) → (q < 8 → ⊥) → own_at (tabulate 8 0 d) q ≡ no_own
unfolding tabulate
past-eighth d q h = get_or_past (λ w. w ≡ no_own) 8 (tabulate 8 0 d) q no_own (omega arith) refl tt

module _ (b : Bridge) (p : ℕ) (pdu : List ℕ) where
  abbrev after : Bridge
  after = (receive_mmrp b p pdu).bridge

  room-domains : (es : List AddressAct) (o : Own) → (with_room b.clock es o).domains ≡ o.domains
  unfolding with_room change_addresses
  room-domains es o = go (has_room b.clock es o)
    where
      go : (t : Bool) → (cond t (change_addresses (does_addresses b.clock es) o) o).domains ≡ o.domains
      go true = refl
      go false = refl

  same-domains : (q : ℕ) → (own_at after.owns q).domains ≡ (own_at b.owns q).domains
  unfolding receive_mmrp owning
  same-domains q =
      ap (λ (a : Answer). (own_at a.bridge.owns q).domains) (received_is b p (address_reading b.settings p pdu)) ∙ go (address_reading b.settings p pdu)
    where
      go : (r : AddressReading) → (own_at (address_effect b.clock (p - 1) r b.owns) q).domains ≡ (own_at b.owns q).domains
      go (refused_frame n) = unfold address_effect in refl
      go (address_acts es) = unfold address_effect in (at_each (λ (o : Own). o.domains) (p - 1) (with_room b.clock es) (room-domains es) b.owns q no_own)

  same_edges : (st : Settings) (now q : ℕ) (c : Class) → boundary (own_at (decide_owns st now after.owns) q) c ≡ boundary (own_at (decide_owns st now b.owns) q) c
  unfolding decide_owns
  same_edges st now q c = go (dec_lt q 8)
    where
      flags : (c : Class) → boundary (decide_own st now after.owns q) c ≡ boundary (decide_own st now b.owns q) c
      flags no_class = unfold boundary in refl
      flags class_a = unfold boundary decide_own in (rw (same-domains q))
      flags class_b = unfold boundary decide_own in (rw (same-domains q))

      go : Dec (q < 8) → boundary (own_at (tabulate 8 0 (decide_own st now after.owns)) q) c ≡ boundary (own_at (tabulate 8 0 (decide_own st now b.owns)) q) c
      go (yes h) = rw (at_place (decide_own st now after.owns) q no_own h, at_place (decide_own st now b.owns) q no_own h) (flags c)
      go (no h) = rw (past-eighth (decide_own st now after.owns) q h, past-eighth (decide_own st now b.owns) q h)

  -- With pruning off it changes no result: advanced to any time, the bridge has the same streams with the same results, and the same
  -- totals, as without the frame.
  pub pruning-off : b.settings.pruning ≡ false → (now : ℕ) → ((settle now after).streams ≡ (settle now b).streams) × ((settle now after).totals ≡ (settle now b).totals)
  unfolding settle declaring deciding
  pruning-off off now =
      let st = b.settings in
      let s = remain st now b.streams in
      let o = decide_owns st now after.owns in
      let o' = decide_owns st now b.owns in
      let e = mmrp-same b p pdu (λ c. c.settings) (λ o. unfold owning in refl) in
      let f = mmrp-same b p pdu (λ c. c.streams) (λ o. unfold owning in refl) in
      let g = same_edges st now in
      rw (e, f) (
        ap (λ (l : List Stream). drop_unheld (map declare l)) (map_congr_left {l = s} (λ x m. same-stream st off o o' (inbounds_of s) g now s x)),
        tabulate-same (totals_on (one st off o o' (inbounds_of s) g now) now s) (totals_on (other st off o o' (inbounds_of s) g now) now s) 8 0
            (λ q a b. same-totals st off o o' (inbounds_of s) g now s q),
      )
