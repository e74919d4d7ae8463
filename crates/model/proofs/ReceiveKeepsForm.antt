-- Receive, accepted or refused, leaves a bridge that keeps the form rules, its settings, its clock and its totals.
use mathlib.Core.Path.{◌≡◌, refl, ◌∙◌, ap₂}
use mathlib.Core.Logic.{◌⊎◌, inl, inr}
use mathlib.Core.List.{List, [], ◌∷◌, map}
use mathlib.Core.Bool.{Bool, true, false, cond, ◌||◌, false≢true, ◌&&◌}
use Prim.Native.Nat.{ℕ, zero, suc, ◌+◌, ◌-◌, ◌^◌, ◌≤◌, ◌<◌}
use native.Mathlib.Omega.{arith}
use native.Mathlib.Decide.{ℕ_discrete}
use lib.ListN.{length, drop, replicate, length-map, get_or-replicate}
use lib.Dec.{ltb, leb, eqb}
use borrow.Author.Tests.{ltb-true, ltb-false, leb-true, le-leb, eqb-false}
use Rattle.model.specs.Lists.{All, Octets, all_true}
use Rattle.model.specs.State.{Settings, Leaving, stays, since, Fixed, Varying, Talker, no_talker, talker, Listener, no_listener, listener, Ready, Cell, Domain, no_domain, domain, Own, Sends, Sender, Stream, Bridge, empty, unsettled, no_fixed, no_own, no_sends, no_sender, blank, fresh, Port, Totals, cell_at, result_at, sends_at, sender_at, declares_slot, class_b, in_force}
use Rattle.model.specs.Registrations.{Kind, Act, leave_all, leave, talk, listen, hear_all, hear, of_domain, DomainAct, leave_all_domains, leave_domain, join_domain, hear_all_domains, hear_domain, begin, talks_as, hears_as, with_leaving, quit_talker, quit_listener, quit, same_fixed, first_join, same_join, other_join, join_talker, does, moves, at, change, begun, touch, reach, apply, apply_all, quit_domain, does_domain, change_domains, apply_own, apply_owns, moves_sender, apply_senders, Reading, refused, acts, Answer, holding, owning, sending, received, ids}
use Rattle.model.specs.Frames.{wrong_port, reading}
use Rattle.model.specs.Settling.{is_talking, is_hearing, is_advertise, held, is_sending, any_sending, is_held}
use Rattle.model.specs.Table.{stands, is_failed, declares, alike, sent_rules, sent_formed, at_most, totals_within, any_held}
use Rattle.model.specs.Calls.{receive}
use Rattle.model.proofs.Lists.{all_map, all_drop, all_replicate, length_at, all_changed, drop-changed, at_here, at_other, at_each, and_left, and_right, and_both}
use Rattle.model.proofs.Valid.{ValidLeaving, ValidFixed, ValidVarying, ValidRegistration, ValidTalker, ValidListener, ValidCell, ValidDomain, ValidOwn, ValidResult, ValidSends, ValidStream, ValidSender, Rising, Valid, again-valid}
use Rattle.model.proofs.FoundVectors.{Fits, FitsDomain, FitsReading, reading-fits, or_left, or_right}
use Rattle.model.proofs.Stored.{Stays, talkers-stay, stored-kept, unsettled-stored, unsettled-declare}
use Rattle.model.proofs.AdvanceKeepsForm.{all-mapped, unsettled-valid}
use Rattle.model.proofs.Commute.{Change, Keeps, acted, acted-keeps, at-fixed, Does, every, single, untouched, act-does}
use Rattle.model.proofs.Hearing.{SendsStay, moves-stay, sender-moves}

-- One cell: an act keeps it valid, as it does at the clock, and at any earlier time that is less than the leave time before it.

module _ (clock leave_time now : ℕ) (past : now ≤ clock) (recent : clock < now + leave_time) where
  pub begun-leaving : (l : Leaving) → ValidLeaving clock leave_time l → ValidLeaving clock leave_time (begin now l)
  unfolding begin
  begun-leaving stays v = (past, recent)
  begun-leaving (since t) v = v

  left-or-not : (t : Bool) (l : Leaving) → ValidLeaving clock leave_time l → ValidLeaving clock leave_time (cond t (begin now l) l)
  left-or-not true l v = begun-leaving l v
  left-or-not false l v = v

  talker-quits : (k : Kind) (t : Talker) → ValidTalker clock leave_time t → ValidTalker clock leave_time (quit_talker now k t)
  unfolding quit_talker with_leaving
  talker-quits k no_talker v = tt
  talker-quits k (talker r) v =
      again-valid clock leave_time r v clock leave_time r.changed _ (left-or-not (talks_as k r.varying.type) r.leaving v.leaving)

  listener-quits : (k : Kind) (t : Listener) → ValidListener clock leave_time t → ValidListener clock leave_time (quit_listener now k t)
  unfolding quit_listener
  listener-quits k no_listener v = tt
  listener-quits k (listener r l) v = left-or-not (hears_as k) l v

  pub quit-valid : (k : Kind) (c : Cell) → ValidCell clock leave_time c → ValidCell clock leave_time (quit now k c)
  unfolding quit
  quit-valid k c v = record { talks = talker-quits k c.talks v.talks; hears = listener-quits k c.hears v.hears }

  talker-joins : (f : Fixed) (v : Varying) → ValidFixed f → ValidVarying v → (t : Talker) → ValidTalker clock leave_time t →
      ValidTalker clock leave_time (join_talker f v t)
  unfolding join_talker first_join same_join other_join
  talker-joins f v vf vv no_talker w = record { fixed = vf; varying = vv; first_latency = vv.latency; leaving = tt }
  talker-joins f v vf vv (talker r) w = go (same_fixed f r.fixed)
    where
      go : (t : Bool) → ValidRegistration clock leave_time (cond t (same_join v r) (other_join r))
      go true = record { fixed = w.fixed; varying = vv; first_latency = w.first_latency; leaving = tt }
      go false = again-valid clock leave_time r w clock leave_time true stays tt

  pub does-valid : (a : Act) → Fits a → (c : Cell) → ValidCell clock leave_time c → ValidCell clock leave_time (does now a c)
  unfolding does
  does-valid (leave_all k) h c v = quit-valid k c v
  does-valid (leave k i) h c v = quit-valid k c v
  does-valid (talk i f w) h c v = record { talks = talker-joins f w h.1 h.2 c.talks v.talks; hears = v.hears }
  does-valid (listen i r) h c v = record { talks = v.talks; hears = tt }
  does-valid (hear_all k) h c v = v
  does-valid (hear k i x) h c v = v
  does-valid (of_domain d) h c v = v

-- A registration stays on its port, leaving or not, and a join puts one there.

unfoldable on_port : Cell → Bool
on_port c = is_talking c || is_hearing c

quit-talks : (now : ℕ) (k : Kind) (t : Talker) (h g : Listener) →
    is_talking record { talks = quit_talker now k t; hears = h } ≡ is_talking record { talks = t; hears = g }
unfolding is_talking quit_talker
quit-talks now k no_talker h g = refl
quit-talks now k (talker r) h g = refl

quit-hears : (now : ℕ) (k : Kind) (t u : Talker) (h : Listener) →
    is_hearing record { talks = t; hears = quit_listener now k h } ≡ is_hearing record { talks = u; hears = h }
unfolding is_hearing quit_listener
quit-hears now k t u no_listener = refl
quit-hears now k t u (listener r l) = refl

talk-joins : (f : Fixed) (v : Varying) (t : Talker) (h : Listener) → on_port record { talks = join_talker f v t; hears = h } ≡ true
unfolding on_port is_talking join_talker
talk-joins f v no_talker h = refl
talk-joins f v (talker r) h = refl

or-true : (a : Bool) → (a || true) ≡ true
or-true true = refl
or-true false = refl

pub or_map : (a a' b b' : Bool) → (a ≡ true → a' ≡ true) → (b ≡ true → b' ≡ true) → (a || b) ≡ true → (a' || b') ≡ true
or_map true a' b b' f g h = rw (f refl)
or_map false a' b b' f g h = rw (g h) (or-true a')

listen-joins : (t : Talker) (r : Ready) → on_port record { talks = t; hears = listener r stays } ≡ true
unfolding on_port is_hearing
listen-joins t r = or-true (is_talking record { talks = t; hears = listener r stays })

talk-puts : (now i : ℕ) (f : Fixed) (v : Varying) (c : Cell) → on_port (does now (talk i f v) c) ≡ true
unfolding does
talk-puts now i f v c = talk-joins f v c.talks c.hears

listen-puts : (now i : ℕ) (r : Ready) (c : Cell) → on_port (does now (listen i r) c) ≡ true
unfolding does
listen-puts now i r c = listen-joins c.talks r

quit-keeps : (now : ℕ) (k : Kind) (c : Cell) → Stays c (quit now k c)
unfolding quit
quit-keeps now k c = record {
  talks = λ h. quit-talks now k c.talks _ c.hears ∙ h;
  hears = λ h. quit-hears now k _ c.talks c.hears ∙ h;
}

talk-talks : (f : Fixed) (v : Varying) (t : Talker) (h : Listener) → is_talking record { talks = join_talker f v t; hears = h } ≡ true
unfolding is_talking join_talker
talk-talks f v no_talker h = refl
talk-talks f v (talker r) h = refl

does-keeps : (now : ℕ) (a : Act) (c : Cell) → Stays c (does now a c)
unfolding does is_talking is_hearing
does-keeps now (leave_all k) c = quit-keeps now k c
does-keeps now (leave k i) c = quit-keeps now k c
does-keeps now (talk i f v) c = record { talks = λ h. talk-talks f v c.talks c.hears; hears = λ h. h }
does-keeps now (listen i r) c = record { talks = λ h. h; hears = λ h. refl }
does-keeps now (hear_all k) c = record { talks = λ h. h; hears = λ h. h }
does-keeps now (hear k i x) c = record { talks = λ h. h; hears = λ h. h }
does-keeps now (of_domain d) c = record { talks = λ h. h; hears = λ h. h }

port-stays : (c d : Cell) → Stays c d → on_port c ≡ true → on_port d ≡ true
unfolding on_port
port-stays c d s h = or_map (is_talking c) (is_talking d) (is_hearing c) (is_hearing d) s.talks s.hears h

-- Cells, with the one at a place changed.

held_stays : (p : ℕ) (u : Cell → Cell) (cs : List Cell) → ((c : Cell) → on_port c ≡ true → on_port (u c) ≡ true) →
    held cs ≡ true → held (at p u cs) ≡ true
unfolding at held on_port
held_stays p u [] k h = h
held_stays zero u (c ∷ cs) k h = or_map (on_port c) (on_port (u c)) (held cs) (held cs) (k c) (λ e. e) h
held_stays (suc p) u (c ∷ cs) k h = or_map (on_port c) (on_port c) (held cs) (held (at p u cs)) (λ e. e) (held_stays p u cs k) h

held-joined : (p : ℕ) (u : Cell → Cell) (cs : List Cell) → ((c : Cell) → on_port (u c) ≡ true) → p < length cs → held (at p u cs) ≡ true
unfolding at held on_port
held-joined p u [] k h = absurd (omega arith)
held-joined zero u (c ∷ cs) k h = rw (k c)
held-joined (suc p) u (c ∷ cs) k h = rw (held-joined p u cs k (omega arith)) (or-true (on_port c))

-- What is sent, with what stands at a place changed.

sending-stays : (p : ℕ) (m : Sends → Sends) → ((x : Sends) → is_sending (m x) ≡ is_sending x) → (ss : List Sends) → any_sending (at p m ss) ≡ any_sending ss
unfolding at any_sending
sending-stays p m k [] = refl
sending-stays zero m k (x ∷ ss) = rw (k x)
sending-stays (suc p) m k (x ∷ ss) = rw (sending-stays p m k ss)

pub no-sends-valid : ValidSends no_sends
unfolding no_sends
no-sends-valid = record { advertising = tt; failing = tt }

-- a stream that was never settled sends nothing
unsettled-sent : sent_formed unsettled no_sends ≡ true
unfolding sent_formed sent_rules unsettled no_sends stands is_advertise is_failed declares alike all_true
unsettled-sent = refl

-- Streams, with the cell at a port's place changed, and what is sent there.

module _ (ports clock leave_time p : ℕ) (here : p < ports) (eight : ports ≤ 8) (u : Cell → Cell) (m : Sends → Sends) (w : SendsStay m)
    (valid-then : (c : Cell) → ValidCell clock leave_time c → ValidCell clock leave_time (u c)) where
  changed-valid : ((c : Cell) → Stays c (u c)) → (x : Stream) →
      ValidStream ports clock leave_time x → ValidStream ports clock leave_time (change (at p u) (at p m) x)
  unfolding change cell_at result_at sends_at is_held
  changed-valid k x v = record {
    id = v.id;
    settled = v.settled;
    eight_cells = length_at p u x.cells ∙ v.eight_cells;
    cells = all_changed (ValidCell clock leave_time) p u x.cells valid-then v.cells;
    no-other-cells = rw (drop-changed ports p u x.cells here) v.no-other-cells;
    is-held =
        or_map (held x.cells) (held (at p u x.cells)) (any_sending x.sends) (any_sending (at p m x.sends))
        (held_stays p u x.cells (λ c. port-stays c (u c) (k c))) (λ e. sending-stays p m w.sending x.sends ∙ e) v.is-held;
    eight_results = v.eight_results;
    results = v.results;
    no-other-results = v.no-other-results;
    idle = λ e. v.idle (omega (arith, talkers-stay u k ports p x.cells here (omega (arith, v.eight_cells))));
    stored = stored-kept u k ports p x.cells here (omega (arith, v.eight_cells)) x.results v.stored;
    one-declares = v.one-declares;
    eight_sends = length_at p m x.sends ∙ v.eight_sends;
    sends = all_changed ValidSends p m x.sends w.good v.sends;
    sent = λ q h. at_each (λ y. sent_formed (result_at x q) y) p m (λ y. w.sent (result_at x q) y) x.sends q no_sends ∙ v.sent q h;
    no-other-sends = rw (drop-changed ports p m x.sends here) v.no-other-sends;
  }

  -- a stream that a join makes is held by that join's registration
  joined-valid : ((c : Cell) → on_port (u c) ≡ true) → (i : ℕ) → i < 2 ^ 64 → ValidStream ports clock leave_time (change (at p u) (at p m) (fresh i))
  unfolding change fresh blank no_fixed empty cell_at result_at sends_at is_held
  joined-valid k i small =
      let none : at p m (replicate 8 no_sends) ≡ replicate 8 no_sends = at-fixed m no_sends w.none p 8 in
      record {
        id = small;
        settled = omega arith;
        eight_cells = length_at p u (replicate 8 empty);
        cells =
            all_changed (ValidCell clock leave_time) p u (replicate 8 empty) valid-then
            (all_replicate (ValidCell clock leave_time) 8 empty record { talks = tt; hears = tt });
        no-other-cells =
            rw (drop-changed ports p u (replicate 8 empty) here)
            (all_drop (λ c. c ≡ empty) ports (replicate 8 empty) (all_replicate (λ c. c ≡ empty) 8 empty refl));
        is-held = rw (held-joined p u (replicate 8 empty) k (omega arith)) refl;
        eight_results = refl;
        results = all_replicate (ValidResult clock) 8 unsettled (unsettled-valid clock);
        no-other-results =
            all_drop (λ r. r ≡ unsettled) ports (replicate 8 unsettled) (all_replicate (λ r. r ≡ unsettled) 8 unsettled refl);
        idle = λ e. refl;
        stored = λ q h. rw (get_or-replicate 8 q unsettled unsettled (omega arith)) (unsettled-stored _ _);
        one-declares = omega (arith, unsettled-declare ports 8);
        eight_sends = length_at p m (replicate 8 no_sends);
        sends = rw none (all_replicate ValidSends 8 no_sends no-sends-valid);
        sent = λ q h.
            rw (none, get_or-replicate 8 q unsettled unsettled (omega arith), get_or-replicate 8 q no_sends no_sends (omega arith)) unsettled-sent;
        no-other-sends =
            rw (drop-changed ports p m (replicate 8 no_sends) here)
            (all_drop (λ x. x ≡ no_sends) ports (replicate 8 no_sends) (all_replicate (λ x. x ≡ no_sends) 8 no_sends refl));
      }

-- What holds of all streams, of the one made too, holds after a walk for one.
module _ (P : Stream → Type 0) (u : Change) (kept : (x : Stream) → P x → P (u x)) (join : Bool) (i : ℕ) (made : join ≡ true → P (u (fresh i))) where
  begun_all : (s : List Stream) → All P s → All P (begun join i u s)
  begun_all s a = go join made
    where
      go : (t : Bool) → (t ≡ true → P (u (fresh i))) → All P (begun t i u s)
      go true m = unfold begun in (m refl, a)
      go false m = unfold begun in a

  touch-all : (s : List Stream) → All P s → All P (touch join i u s)
  unfolding touch
  touch-all [] a = begun_all [] a
  touch-all (x ∷ s) a = go (ltb i x.id) (eqb i x.id) (touch-all s a.1)
    where
      go : (t t' : Bool) → All P (touch join i u s) → All P (cond t (begun join i u (x ∷ s)) (cond t' (u x ∷ s) (x ∷ touch join i u s)))
      go true t' ih = begun_all (x ∷ s) a
      go false true ih = (kept x a.0, a.1)
      go false false ih = (a.0, ih)

-- StreamIDs rise still.

module _ (join : Bool) (i : ℕ) (u : Change) (k : Keeps u) where
  begun-ids : (P : ℕ → Type 0) (s : List Stream) → P i → All P (ids s) → All P (ids (begun join i u s))
  begun-ids P s h a = go join
    where
      go : (t : Bool) → All P (ids (begun t i u s))
      go true = unfold begun ids fresh in (rw (k (fresh i)) (h, a))
      go false = unfold begun in a

  touch-ids : (P : ℕ → Type 0) (s : List Stream) → P i → All P (ids s) → All P (ids (touch join i u s))
  unfolding touch ids
  touch-ids P [] h a = begun-ids P [] h a
  touch-ids P (x ∷ s) h a = go (ltb i x.id) (eqb i x.id) (touch-ids P s h a.1)
    where
      go : (t t' : Bool) → All P (ids (touch join i u s)) →
          All P (ids (cond t (begun join i u (x ∷ s)) (cond t' (u x ∷ s) (x ∷ touch join i u s))))
      go true t' ih = begun-ids P (x ∷ s) h a
      go false true ih = rw (k x) a
      go false false ih = (a.0, ih)

  begun-rising : (s : List Stream) → All (λ j. i < j) (ids s) → Rising (ids s) → Rising (ids (begun join i u s))
  begun-rising s a r = go join
    where
      go : (t : Bool) → Rising (ids (begun t i u s))
      go true = unfold begun ids fresh Rising in (rw (k (fresh i)) (a, r))
      go false = unfold begun in r

  touch-rising : (s : List Stream) → Rising (ids s) → Rising (ids (touch join i u s))
  unfolding touch ids Rising
  touch-rising [] r = begun-rising [] tt r
  touch-rising (x ∷ s) r = go (ltb i x.id) (eqb i x.id) refl refl (touch-rising s r.1)
    where
      go : (t t' : Bool) → ltb i x.id ≡ t → eqb i x.id ≡ t' → Rising (ids (touch join i u s)) →
          Rising (ids (cond t (begun join i u (x ∷ s)) (cond t' (u x ∷ s) (x ∷ touch join i u s))))
      go true t' e d ih =
          let before : i < x.id = ltb-true i x.id e in
          begun-rising (x ∷ s) (before, all_map (λ j. x.id < j) (λ j. i < j) (λ j h. omega arith) (ids s) r.0) r
      go false true e d ih = rw (k x) r
      go false false e d ih =
          (touch-ids (λ j. x.id < j) s (omega (arith, ltb-false i x.id e, eqb-false i x.id d)) r.0, ih)

changed-ids : (u : Change) → Keeps u → (s : List Stream) → ids (map u s) ≡ ids s
unfolding ids
changed-ids u k [] = refl
changed-ids u k (x ∷ s) = ap₂ (λ (n : ℕ) (l : List ℕ). n ∷ l) (k x) (changed-ids u k s)

-- No act takes a registration away, so class totals stay what they may be.

-- a change after which a stream with a registration has one
abbrev StaysHeld : Change → Type 0
StaysHeld u = (x : Stream) → held x.cells ≡ true → held (u x).cells ≡ true

module _ (u : Change) (k : StaysHeld u) where
  begun-holds : (join : Bool) (i : ℕ) (s : List Stream) → any_held s ≡ true → any_held (begun join i u s) ≡ true
  unfolding begun any_held
  begun-holds true i s h = rw h (or-true (held (u (fresh i)).cells))
  begun-holds false i s h = h

  touch-holds : (join : Bool) (i : ℕ) (s : List Stream) → any_held s ≡ true → any_held (touch join i u s) ≡ true
  unfolding touch any_held
  touch-holds join i [] h = absurd (false≢true h)
  touch-holds join i (x ∷ s) h = go (ltb i x.id) (eqb i x.id) (touch-holds join i s)
    where
      go : (t t' : Bool) → (any_held s ≡ true → any_held (touch join i u s) ≡ true) →
          any_held (cond t (begun join i u (x ∷ s)) (cond t' (u x ∷ s) (x ∷ touch join i u s))) ≡ true
      go true t' ih = begun-holds join i (x ∷ s) h
      go false true ih = or_map (held x.cells) (held (u x).cells) (any_held s) (any_held s) (k x) (λ e. e) h
      go false false ih = or_map (held x.cells) (held x.cells) (any_held s) (any_held (touch join i u s)) (λ e. e) ih h

  map-holds : (s : List Stream) → any_held s ≡ true → any_held (map u s) ≡ true
  unfolding any_held
  map-holds [] h = h
  map-holds (x ∷ s) h = or_map (held x.cells) (held (u x).cells) (any_held s) (any_held (map u s)) (k x) (map-holds s) h

  does-holds : {f : List Stream → List Stream} → Does u f → (s : List Stream) → any_held s ≡ true → any_held (f s) ≡ true
  does-holds (every p) s h = map-holds s h
  does-holds (single b i p) s h = touch-holds b i s h
  does-holds untouched s h = h

acted-holds : (now p : ℕ) (a : Act) → StaysHeld (acted now p a)
unfolding change
acted-holds now p a x h = held_stays p (does now a) x.cells (λ c. port-stays c (does now a c) (does-keeps now a c)) h

acts-hold : (now p : ℕ) (es : List Act) (s : List Stream) → any_held s ≡ true → any_held (apply_all now p es s) ≡ true
unfolding apply_all
acts-hold now p [] s h = h
acts-hold now p (a ∷ es) s h =
    acts-hold now p es (apply now p a s) (does-holds (acted now p a) (acted-holds now p a) (act-does now p a) s h)

most-grows : (some more : Bool) → (some ≡ true → more ≡ true) → (supports : Bool) (limit : ℕ) → at_most some supports limit ≤ at_most more supports limit
unfolding at_most
most-grows true more h supports limit = rw (h refl) (omega arith)
most-grows false more h supports limit = omega arith

totals-stay : (some more : Bool) → (some ≡ true → more ≡ true) → (ts : List Totals) (qs : List Port)
    → totals_within some ts qs ≡ true → totals_within more ts qs ≡ true
unfolding totals_within
totals-stay some more h [] qs e = refl
totals-stay some more h (t ∷ ts) [] e =
    let first = eqb t.total_a 0 && eqb t.total_b 0 in
    and_both first (totals_within more ts []) (and_left first (totals_within some ts []) e)
    (totals-stay some more h ts [] (and_right first (totals_within some ts []) e))
totals-stay some more h (t ∷ ts) (q ∷ qs) e =
    let a = leb t.total_a (at_most some q.supports_a q.limit_a) in
    let limit_b = in_force q t.total_a class_b in
    let b = leb t.total_b (at_most some q.supports_b limit_b) in
    let u = and_left (a && b) (totals_within some ts qs) e in
    let before = leb-true t.total_a _ (and_left a b u) in
    let behind = leb-true t.total_b _ (and_right a b u) in
    rw (
      le-leb t.total_a (at_most more q.supports_a q.limit_a) (omega (arith, before, most-grows some more h q.supports_a q.limit_a)),
      le-leb t.total_b (at_most more q.supports_b limit_b) (omega (arith, behind, most-grows some more h q.supports_b limit_b)),
    )
    (totals-stay some more h ts qs (and_right (a && b) (totals_within some ts qs) e))

-- The acts of a frame.

-- valid streams, by ascending StreamID
abbrev ValidStreams : ℕ → ℕ → ℕ → List Stream → Type 0
ValidStreams ports clock leave_time s = All (ValidStream ports clock leave_time) s × Rising (ids s)

-- where the stream i may be made, the act is a join of it
abbrev Makes : Act → Bool → ℕ → Type 0
Makes a join i = join ≡ true → (i < 2 ^ 64) × ((now : ℕ) (c : Cell) → on_port (does now a c) ≡ true)

module _ (ports clock leave_time p : ℕ) (here : p < ports) (eight : ports ≤ 8) (leaves : 1 ≤ leave_time) where
  acted-valid : (a : Act) → Fits a → (x : Stream) → ValidStream ports clock leave_time x → ValidStream ports clock leave_time (acted clock p a x)
  acted-valid a fits =
      changed-valid ports clock leave_time p here eight (does clock a) (moves a) (moves-stay a)
      (does-valid clock leave_time clock (omega arith) (omega arith) a fits) (does-keeps clock a)

  touch-keeps : (a : Act) → Fits a → (join : Bool) (i : ℕ) → Makes a join i → (s : List Stream) →
      ValidStreams ports clock leave_time s → ValidStreams ports clock leave_time (touch join i (acted clock p a) s)
  touch-keeps a fits join i m s g = (
    touch-all (ValidStream ports clock leave_time) (acted clock p a) (acted-valid a fits) join i
        (λ e. joined-valid ports clock leave_time p here eight (does clock a) (moves a) (moves-stay a)
        (does-valid clock leave_time clock (omega arith) (omega arith) a fits) ((m e).1 clock) i (m e).0) s g.0,
    touch-rising join i (acted clock p a) (acted-keeps clock p a) s g.1,
  )

  every-keeps : (a : Act) → Fits a → (s : List Stream) → ValidStreams ports clock leave_time s → ValidStreams ports clock leave_time (map (acted clock p a) s)
  every-keeps a fits s g = (
    all-mapped (ValidStream ports clock leave_time) (ValidStream ports clock leave_time) (acted clock p a) (acted-valid a fits) s g.0,
    rw (changed-ids (acted clock p a) (acted-keeps clock p a) s) g.1,
  )

  apply-keeps : (a : Act) → Fits a → (s : List Stream) →
      ValidStreams ports clock leave_time s → ValidStreams ports clock leave_time (apply clock p a s)
  unfolding apply reach
  apply-keeps (leave_all k) fits s g = every-keeps (leave_all k) fits s g
  apply-keeps (leave k i) fits s g = touch-keeps (leave k i) fits false i (λ e. absurd (false≢true e)) s g
  apply-keeps (talk i f v) fits s g = touch-keeps (talk i f v) fits true i (λ e. (fits.0, λ now c. talk-puts now i f v c)) s g
  apply-keeps (listen i r) fits s g = touch-keeps (listen i r) fits true i (λ e. (fits, λ now c. listen-puts now i r c)) s g
  apply-keeps (hear_all k) fits s g = every-keeps (hear_all k) fits s g
  apply-keeps (hear k i h) fits s g = touch-keeps (hear k i h) fits false i (λ e. absurd (false≢true e)) s g
  apply-keeps (of_domain d) fits s g = g

  acts-keep : (es : List Act) → All Fits es → (s : List Stream) →
      ValidStreams ports clock leave_time s → ValidStreams ports clock leave_time (apply_all clock p es s)
  unfolding apply_all
  acts-keep [] fits s g = g
  acts-keep (a ∷ es) fits s g = acts-keep es fits.1 (apply clock p a s) (apply-keeps a fits.0 s g)

-- What the ports hold by themselves.

pub domains-slotted : (clock : ℕ) (a : DomainAct) (ds : List Domain) → length (does_domain clock a ds) ≡ length ds
unfolding does_domain
domains-slotted clock leave_all_domains ds = length-map ds (quit_domain clock)
domains-slotted clock (leave_domain i) ds = length_at i (quit_domain clock) ds
domains-slotted clock (join_domain i x) ds = length_at i (λ d. domain x stays) ds
domains-slotted clock hear_all_domains ds = refl
domains-slotted clock (hear_domain i h) ds = refl

module _ (clock leave_time : ℕ) (leaves : 1 ≤ leave_time) where
  domain-quits : (d : Domain) → ValidDomain clock leave_time d → ValidDomain clock leave_time (quit_domain clock d)
  unfolding quit_domain
  domain-quits no_domain v = tt
  domain-quits (domain x l) v = (v.0, begun-leaving clock leave_time clock (omega arith) (omega arith) l v.1)

  domains-valid : (a : DomainAct) → FitsDomain a → (ds : List Domain) →
      All (ValidDomain clock leave_time) ds → All (ValidDomain clock leave_time) (does_domain clock a ds)
  unfolding does_domain
  domains-valid leave_all_domains h ds v =
      all-mapped (ValidDomain clock leave_time) (ValidDomain clock leave_time) (quit_domain clock) domain-quits ds v
  domains-valid (leave_domain i) h ds v = all_changed (ValidDomain clock leave_time) i (quit_domain clock) ds domain-quits v
  domains-valid (join_domain i x) h ds v =
      all_changed (ValidDomain clock leave_time) i (λ d. domain x stays) ds (λ d w. (h.1, tt)) v
  domains-valid hear_all_domains h ds v = v
  domains-valid (hear_domain i x) h ds v = v

  own-valid : (a : DomainAct) → FitsDomain a → (o : Own) →
      ValidOwn clock leave_time o → ValidOwn clock leave_time (change_domains (does_domain clock a) o)
  unfolding change_domains
  own-valid a h o v = record {
    slotted = domains-slotted clock a o.domains ∙ v.slotted;
    domains = domains-valid a h o.domains v.domains;
    addresses = v.addresses;
  }

-- what eight ports hold, and nothing behind the bridge's
pub record ValidOwns (ports clock leave_time : ℕ) (o : List Own) : Type 0 where
  pub eight_owns : length o ≡ 8
  pub owns : All (ValidOwn clock leave_time) o
  pub no-other-owns : All (λ x. x ≡ no_own) (drop ports o)

module _ (ports clock leave_time p : ℕ) (here : p < ports) (leaves : 1 ≤ leave_time) where
  own-kept : (a : Act) → Fits a → (o : List Own) → ValidOwns ports clock leave_time o → ValidOwns ports clock leave_time (apply_own clock p a o)
  unfolding apply_own
  own-kept (leave_all k) fits o v = v
  own-kept (leave k i) fits o v = v
  own-kept (talk i f w) fits o v = v
  own-kept (listen i r) fits o v = v
  own-kept (hear_all k) fits o v = v
  own-kept (hear k i h) fits o v = v
  own-kept (of_domain d) fits o v =
      let u = change_domains (does_domain clock d) in
      record {
        eight_owns = length_at p u o ∙ v.eight_owns;
        owns = all_changed (ValidOwn clock leave_time) p u o (own-valid clock leave_time leaves d fits) v.owns;
        no-other-owns = rw (drop-changed ports p u o here) v.no-other-owns;
      }

  owns-kept : (es : List Act) → All Fits es → (o : List Own) →
      ValidOwns ports clock leave_time o → ValidOwns ports clock leave_time (apply_owns clock p es o)
  unfolding apply_owns
  owns-kept [] fits o v = v
  owns-kept (a ∷ es) fits o v = owns-kept es fits.1 (apply_own clock p a o) (own-kept a fits.0 o v)

-- What they send by themselves.

pub record ValidSenders (ports clock : ℕ) (own : ℕ → ℕ → Bool) (l : List Sender) : Type 0 where
  pub eight_senders : length l ≡ 8
  pub senders : (q : ℕ) → q < ports → ValidSender (own q) clock (sender_at l q)
  pub no-other-senders : All (λ x. x ≡ no_sender) (drop ports l)

module _ (ports clock : ℕ) (own : ℕ → ℕ → Bool) (p : ℕ) (here : p < ports) (eight : ports ≤ 8) where
  sender-kept : (a : Act) (l : List Sender) → ValidSenders ports clock own l → ValidSenders ports clock own (at p (moves_sender clock a) l)
  unfolding sender_at
  sender-kept a l v = record {
    eight_senders = length_at p u l ∙ v.eight_senders;
    senders = λ q h. go q h (ℕ_discrete p q);
    no-other-senders = rw (drop-changed ports p u l here) v.no-other-senders;
  }
    where
      u : Sender → Sender
      u = moves_sender clock a

      go : (q : ℕ) → q < ports → Dec (p ≡ q) → ValidSender (own q) clock (sender_at (at p u l) q)
      go q h (yes e) = rw (← e, at_here p u l no_sender (omega (arith, v.eight_senders))) (sender-moves (own p) clock a (sender_at l p) (v.senders p here))
      go q h (no n) = rw (at_other p u l q no_sender n) (v.senders q h)

  senders-kept : (es : List Act) (l : List Sender) → ValidSenders ports clock own l → ValidSenders ports clock own (apply_senders clock p es l)
  unfolding apply_senders
  senders-kept [] l v = v
  senders-kept (a ∷ es) l v = senders-kept es (at p (moves_sender clock a) l) (sender-kept a l v)

-- The call.

pub received-keeps : (b : Bridge) (p : ℕ) (x : Reading) → p - 1 < length b.settings.ports → FitsReading x → Valid b →
    Valid (received b p x).bridge
unfolding received holding owning sending
received-keeps b p (refused n) here fits v = v
received-keeps b p (acts es) here fits v = go (leb (length s) 64) refl
  where
    s : List Stream
    s = apply_all b.clock (p - 1) es b.streams

    kept : ValidStreams (length b.settings.ports) b.clock b.settings.leave_time s
    kept =
        acts-keep (length b.settings.ports) b.clock b.settings.leave_time (p - 1) here v.settings.eight_ports
        v.settings.leaves es fits b.streams (v.streams, v.ascending)

    o : List Own
    o = apply_owns b.clock (p - 1) es b.owns

    kept-own : ValidOwns (length b.settings.ports) b.clock b.settings.leave_time o
    kept-own =
        owns-kept (length b.settings.ports) b.clock b.settings.leave_time (p - 1) here v.settings.leaves es fits
        b.owns record { eight_owns = v.eight_owns; owns = v.owns; no-other-owns = v.no-other-owns }

    l : List Sender
    l = apply_senders b.clock (p - 1) es b.senders

    kept-senders : ValidSenders (length b.settings.ports) b.clock (declares_slot b.settings) l
    kept-senders =
        senders-kept (length b.settings.ports) b.clock (declares_slot b.settings) (p - 1) here v.settings.eight_ports es b.senders
        record { eight_senders = v.eight_senders; senders = v.senders; no-other-senders = v.no-other-senders }

    go : (t : Bool) → leb (length s) 64 ≡ t →
        Valid (cond {A = Answer} t record { number = 0; bridge = sending (owning (holding b s) o) l } record { number = 8; bridge = b }).bridge
    go true e = record {
      settings = v.settings;
      clock = v.clock;
      eight_totals = v.eight_totals;
      totals =
          totals-stay (any_held b.streams) (any_held s) (acts-hold b.clock (p - 1) es b.streams) b.totals b.settings.ports
          v.totals;
      eight_owns = kept-own.eight_owns;
      owns = kept-own.owns;
      no-other-owns = kept-own.no-other-owns;
      eight_senders = kept-senders.eight_senders;
      senders = kept-senders.senders;
      no-other-senders = kept-senders.no-other-senders;
      at_most_64 = leb-true (length s) 64 e;
      streams = kept.0;
      ascending = kept.1;
    }
    go false e = v

-- the place of a port that is no refusal 1
pub right-port : (st : Settings) (p : ℕ) → wrong_port st p ≡ false → p - 1 < length st.ports
unfolding wrong_port
right-port st p e =
    let not-zero : p ≡ 0 → ⊥ = eqb-false p 0 (or_left (eqb p 0) (ltb (length st.ports) p) e) in
    let not-above : p ≤ length st.ports = ltb-false (length st.ports) p (or_right (eqb p 0) (ltb (length st.ports) p) e) in
    omega arith

pub receive-keeps : (b : Bridge) (p : ℕ) (pdu : List ℕ) → Octets pdu → Valid b → Valid (receive b p pdu).bridge
unfolding receive
receive-keeps b p pdu o v = go (wrong_port b.settings p) refl
  where
    go : (t : Bool) → wrong_port b.settings p ≡ t → Valid (received b p (reading b.settings p pdu)).bridge
    go true e = unfold reading received in (rw e v)
    go false e = received-keeps b p (reading b.settings p pdu) (right-port b.settings p e) (reading-fits b.settings p pdu o) v

-- Streams and what ports hold and send by themselves are all that a frame changes, and a refusal changes nothing.

pub received-same : {A : Type 0} (f : Bridge → A) (b : Bridge) (p : ℕ) (x : Reading) →
    ((s : List Stream) (o : List Own) (l : List Sender) → f (sending (owning (holding b s) o) l) ≡ f b) → f (received b p x).bridge ≡ f b
unfolding received
received-same f b p (refused n) h = refl
received-same f b p (acts es) h = go (leb (length s) 64)
  where
    s : List Stream
    s = apply_all b.clock (p - 1) es b.streams

    o : List Own
    o = apply_owns b.clock (p - 1) es b.owns

    l : List Sender
    l = apply_senders b.clock (p - 1) es b.senders

    go : (t : Bool) → f (cond {A = Answer} t record { number = 0; bridge = sending (owning (holding b s) o) l } record { number = 8; bridge = b }).bridge ≡ f b
    go true = h s o l
    go false = refl

pub receive-settings : (b : Bridge) (p : ℕ) (pdu : List ℕ) → (receive b p pdu).bridge.settings ≡ b.settings
unfolding receive holding owning sending
receive-settings b p pdu = received-same (λ c. c.settings) b p (reading b.settings p pdu) (λ s o l. refl)

pub receive-clock : (b : Bridge) (p : ℕ) (pdu : List ℕ) → (receive b p pdu).bridge.clock ≡ b.clock
unfolding receive holding owning sending
receive-clock b p pdu = received-same (λ c. c.clock) b p (reading b.settings p pdu) (λ s o l. refl)

pub received-accepted-or-unchanged : (b : Bridge) (p : ℕ) (x : Reading) → ((received b p x).number ≡ 0) ⊎ ((received b p x).bridge ≡ b)
unfolding received
received-accepted-or-unchanged b p (refused n) = inr refl
received-accepted-or-unchanged b p (acts es) = go (leb (length s) 64)
  where
    s : List Stream
    s = apply_all b.clock (p - 1) es b.streams

    o : List Own
    o = apply_owns b.clock (p - 1) es b.owns

    l : List Sender
    l = apply_senders b.clock (p - 1) es b.senders

    answer : Bool → Answer
    answer t = cond t record { number = 0; bridge = sending (owning (holding b s) o) l } record { number = 8; bridge = b }

    go : (t : Bool) → ((answer t).number ≡ 0) ⊎ ((answer t).bridge ≡ b)
    go true = inl refl
    go false = inr refl

pub receive-accepted-or-unchanged : (b : Bridge) (p : ℕ) (pdu : List ℕ) → ((receive b p pdu).number ≡ 0) ⊎ ((receive b p pdu).bridge ≡ b)
unfolding receive
receive-accepted-or-unchanged b p pdu = received-accepted-or-unchanged b p (reading b.settings p pdu)
