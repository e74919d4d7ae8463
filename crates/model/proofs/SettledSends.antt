-- What the ports send after an advance (02, xiv): the machines that stand are just the settled declarations, with the settled octets; any
-- other is an unsent Lv. A machine leaves the list in an advance only from VP. What is received keeps both: it makes no machine and ends
-- none.
use mathlib.Core.Path.{◌≡◌, refl, ap}
use mathlib.Core.List.{List, [], ◌∷◌, map}
use mathlib.Core.Bool.{Bool, true, false, cond}
use Prim.Native.Nat.{ℕ, zero, suc, ◌-◌, ◌<◌}
use lib.ListN.{length, get_or, replicate}
use lib.Dec.{leb, ltb, eqb}
use Rattle.model.specs.Lists.{All}
use Rattle.model.specs.Applicant.{Standing, very_anxious_passive, very_anxious_new, anxious_new, anxious_active, quiet_active, leaving_active, becomes}
use Rattle.model.specs.Machines.{Applicant, no_applicant, applicant, Decided, undeclared, declared, Heard, heard_in, heard_empty, heard_leave, heard_event, with, applicant_of, decided, moved}
use Rattle.model.specs.State.{Cell, Fixed, Result, Sends, Stream, Bridge, no_fixed, unsettled, no_sends, fresh, result_at, sends_at}
use Rattle.model.specs.Registrations.{Kind, advertises, faileds, listeners, Act, leave_all, leave, talk, listen, hear_all, hear, of_domain, does, move_kind, hears, moves, at, change, begun, touch, reach, apply, apply_all, Reading, refused, acts, Answer, holding, owning, sending, apply_owns, apply_senders, received}
use Rattle.model.specs.Settling.{is_applicant, advertised_by, failed_by, listened_by, same_offer, same_failed, same_ready, declare_sends, declare, deciding, declaring, settle}
use Rattle.model.proofs.Lists.{all_get_or, all_replicate, at_place}
use Rattle.model.proofs.ApplicantEntries.{tables}
use Rattle.model.proofs.Deciding.{Stands, Holds, Unsent, decided-stands, withdrawn-unsent}
use Rattle.model.proofs.AdvanceKeepsForm.{all-mapped, all-dropped}
use Rattle.model.proofs.ColumnRule.{all-image}

module _ {D : Type 0} where
  -- a machine goes with what is settled: it stands with its value, or there is none but an unsent Lv
  abbrev pub Follows : Decided D → Applicant D → Type 0
  Follows undeclared no_applicant = Unit {0}
  Follows undeclared (applicant x) = x.state ≡ leaving_active
  Follows (declared v) a = Holds Stands v a

  -- a machine that is gone was in VP
  abbrev pub GoneFrom : Applicant D → Applicant D → Type 0
  GoneFrom no_applicant b = Unit {0}
  GoneFrom (applicant x) no_applicant = x.state ≡ very_anxious_passive
  GoneFrom (applicant x) (applicant y) = Unit {0}

  module _ (same : D → D → Bool) where
    decided-follows : (d : Decided D) (a : Applicant D) → Follows d (decided same d a)
    decided-follows undeclared a = go a (decided same undeclared a) (withdrawn-unsent same a)
      where
        go : (a b : Applicant D) → Unsent a b → Follows undeclared b
        go a no_applicant u = tt
        go no_applicant (applicant y) u = absurd u
        go (applicant x) (applicant y) u = u.0
    decided-follows (declared v) a = decided-stands same v a

    decided-gone : (d : Decided D) (a : Applicant D) → GoneFrom a (decided same d a)
    decided-gone d no_applicant = tt
    decided-gone undeclared (applicant x) = go (decided same undeclared (applicant x)) (withdrawn-unsent same (applicant x))
      where
        go : (b : Applicant D) → Unsent (applicant x) b → GoneFrom (applicant x) b
        go no_applicant u = u
        go (applicant y) u = tt
    decided-gone (declared v) (applicant x) = go (decided same (declared v) (applicant x)) (decided-stands same v (applicant x))
      where
        go : (b : Applicant D) → Holds Stands v b → GoneFrom (applicant x) b
        go no_applicant h = absurd h
        go (applicant y) h = tt

  -- received: a machine that stands still does, with its value, and an unsent Lv stays
  heard-stands : (h : Heard) (q : Standing) (v w : D) → Stands q → v ≡ w → Holds Stands w (applicant_of (map (with v) (becomes false (heard_event h) q)))
  unfolding applicant_of with heard_event tables
  heard-stands heard_in very_anxious_passive v w s e = (tt, e)
  heard-stands heard_in very_anxious_new v w s e = (tt, e)
  heard-stands heard_in anxious_new v w s e = (tt, e)
  heard-stands heard_in anxious_active v w s e = (tt, e)
  heard-stands heard_in quiet_active v w s e = (tt, e)
  heard-stands heard_in leaving_active v w s e = absurd s
  heard-stands heard_empty very_anxious_passive v w s e = (tt, e)
  heard-stands heard_empty very_anxious_new v w s e = (tt, e)
  heard-stands heard_empty anxious_new v w s e = (tt, e)
  heard-stands heard_empty anxious_active v w s e = (tt, e)
  heard-stands heard_empty quiet_active v w s e = (tt, e)
  heard-stands heard_empty leaving_active v w s e = absurd s
  heard-stands heard_leave very_anxious_passive v w s e = (tt, e)
  heard-stands heard_leave very_anxious_new v w s e = (tt, e)
  heard-stands heard_leave anxious_new v w s e = (tt, e)
  heard-stands heard_leave anxious_active v w s e = (tt, e)
  heard-stands heard_leave quiet_active v w s e = (tt, e)
  heard-stands heard_leave leaving_active v w s e = absurd s

  heard-leaving : (h : Heard) (v : D) → applicant_of (map (with v) (becomes false (heard_event h) leaving_active)) ≡ applicant record { state = leaving_active; value = v }
  unfolding applicant_of with heard_event tables
  heard-leaving heard_in v = refl
  heard-leaving heard_empty v = refl
  heard-leaving heard_leave v = refl

  heard-follows : (h : Heard) (d : Decided D) (a : Applicant D) → Follows d a → Follows d (moved (becomes false (heard_event h)) a)
  unfolding moved
  heard-follows h undeclared no_applicant f = f
  heard-follows h (declared v) no_applicant f = f
  heard-follows h undeclared (applicant x) f = rw (f, heard-leaving h x.value) refl
  heard-follows h (declared v) (applicant x) f = heard-stands h x.state x.value v f.0 f.1

  pub heard-listed : (h : Heard) (a : Applicant D) → is_applicant (moved (becomes false (heard_event h)) a) ≡ is_applicant a
  unfolding moved is_applicant
  heard-listed h no_applicant = refl
  heard-listed h (applicant x) = go x.state
    where
      listed : (a : Applicant D) → Holds Stands x.value a → is_applicant a ≡ true
      listed no_applicant k = absurd k
      listed (applicant y) k = refl

      heard-then : Standing → Applicant D
      heard-then q = applicant_of (map (with x.value) (becomes false (heard_event h) q))

      stays : (q : Standing) → Stands q → is_applicant (heard-then q) ≡ true
      stays q k = listed (heard-then q) (heard-stands h q x.value x.value k refl)

      go : (q : Standing) → is_applicant (heard-then q) ≡ true
      go very_anxious_passive = stays very_anxious_passive tt
      go very_anxious_new = stays very_anxious_new tt
      go anxious_new = stays anxious_new tt
      go anxious_active = stays anxious_active tt
      go quiet_active = stays quiet_active tt
      go leaving_active = ap is_applicant (heard-leaving h x.value)

-- What a port sends of a stream, by the settled values and its result.
pub record SettledSends (f : Fixed) (r : Result) (s : Sends) : Type 0 where
  pub advertising : Follows (advertised_by f r r.column) s.advertising
  pub failing : Follows (failed_by f r r.column) s.failing
  pub listening : Follows (listened_by r.declares) s.listening

-- what it sent before, and then
pub record LeftSends (s t : Sends) : Type 0 where
  pub advertising : GoneFrom s.advertising t.advertising
  pub failing : GoneFrom s.failing t.failing
  pub listening : GoneFrom s.listening t.listening

-- on every port
abbrev pub Sent : Stream → Type 0
Sent x = (p : ℕ) → p < 8 → SettledSends x.settled (result_at x p) (sends_at x p)

module _ (y : Stream) where
  sent-by : ℕ → Sends
  sent-by p = declare_sends y.settled (result_at y p) (sends_at y p)

  sends-then : (p : ℕ) → p < 8 → sends_at (declare y) p ≡ sent-by p
  unfolding declare sends_at sent-by
  sends-then p h = at_place (λ q. declare_sends y.settled (result_at y q) (get_or y.sends q no_sends)) p no_sends h

  follows_by : (p : ℕ) → SettledSends y.settled (result_at y p) (sent-by p)
  unfolding sent-by declare_sends
  follows_by p =
      let r = result_at y p in
      let s = sends_at y p in
      record {
        advertising = decided-follows same_offer (advertised_by y.settled r r.column) s.advertising;
        failing = decided-follows same_failed (failed_by y.settled r r.column) s.failing;
        listening = decided-follows same_ready (listened_by r.declares) s.listening;
      }

  gone-by : (p : ℕ) → LeftSends (sends_at y p) (sent-by p)
  unfolding sent-by declare_sends
  gone-by p =
      let r = result_at y p in
      let s = sends_at y p in
      record {
        advertising = decided-gone same_offer (advertised_by y.settled r r.column) s.advertising;
        failing = decided-gone same_failed (failed_by y.settled r r.column) s.failing;
        listening = decided-gone same_ready (listened_by r.declares) s.listening;
      }

  follows_then : (p : ℕ) → p < 8 → SettledSends y.settled (result_at y p) (sends_at (declare y) p)
  follows_then p h = rw (sends-then p h) (follows_by p)

  declared-sent : Sent (declare y)
  unfolding declare result_at
  declared-sent = follows_then

  -- A machine leaves in an advance only from VP. (A stream that is dropped has none left.)
  pub leaves-anxious : (p : ℕ) → p < 8 → LeftSends (sends_at y p) (sends_at (declare y) p)
  leaves-anxious p h = rw (sends-then p h) (gone-by p)

-- After every advance the machines that stand are the settled declarations.
pub settled-sends : (now : ℕ) (b : Bridge) → All Sent (settle now b).streams
unfolding settle declaring
settled-sends now b =
    all-dropped Sent Sent (λ y h k. k) (map declare (deciding now b).streams) (all-image Sent declare declared-sent (deciding now b).streams)

-- What is received keeps it.

module _ (f : Fixed) (r : Result) (s : Sends) (k : SettledSends f r s) where
  heard-sent : (t : Kind) (h : Heard) → SettledSends f r (hears t h s)
  unfolding hears move_kind
  heard-sent advertises h = record { advertising = heard-follows h (advertised_by f r r.column) s.advertising k.advertising; failing = k.failing; listening = k.listening }
  heard-sent faileds h = record { advertising = k.advertising; failing = heard-follows h (failed_by f r r.column) s.failing k.failing; listening = k.listening }
  heard-sent listeners h = record { advertising = k.advertising; failing = k.failing; listening = heard-follows h (listened_by r.declares) s.listening k.listening }

  moved-sent : (a : Act) → SettledSends f r (moves a s)
  unfolding moves
  moved-sent (leave_all t) = k
  moved-sent (leave t i) = k
  moved-sent (talk i g v) = k
  moved-sent (listen i q) = k
  moved-sent (hear_all t) = heard-sent t heard_leave
  moved-sent (hear t i h) = heard-sent t h
  moved-sent (of_domain d) = k

-- and makes no machine, nor ends one
abbrev pub SameList : Sends → Sends → Type 0
SameList s t =
    (is_applicant s.advertising ≡ is_applicant t.advertising) × (is_applicant s.failing ≡ is_applicant t.failing)
    × (is_applicant s.listening ≡ is_applicant t.listening)

heard-list : (t : Kind) (h : Heard) (s : Sends) → SameList (hears t h s) s
unfolding hears move_kind
heard-list advertises h s = (heard-listed h s.advertising, refl, refl)
heard-list faileds h s = (refl, heard-listed h s.failing, refl)
heard-list listeners h s = (refl, refl, heard-listed h s.listening)

pub moved-list : (a : Act) (s : Sends) → SameList (moves a s) s
unfolding moves
moved-list (leave_all t) s = (refl, refl, refl)
moved-list (leave t i) s = (refl, refl, refl)
moved-list (talk i g v) s = (refl, refl, refl)
moved-list (listen i q) s = (refl, refl, refl)
moved-list (hear_all t) s = heard-list t heard_leave s
moved-list (hear t i h) s = heard-list t h s
moved-list (of_domain d) s = (refl, refl, refl)

module _ {A : Type 0} (P : A → Type 0) (u : A → A) (h : (x : A) → P x → P (u x)) where
  pub at-keeps : (p : ℕ) (l : List A) (q : ℕ) (d : A) → P (get_or l q d) → P (get_or (at p u l) q d)
  unfolding at
  at-keeps p [] q d k = k
  at-keeps zero (x ∷ l) zero d k = h x k
  at-keeps zero (x ∷ l) (suc q) d k = k
  at-keeps (suc p) (x ∷ l) zero d k = k
  at-keeps (suc p) (x ∷ l) (suc q) d k = at-keeps p l q d k

changed-sent : (u : List Cell → List Cell) (p : ℕ) (a : Act) (x : Stream) → Sent x → Sent (change u (at p (moves a)) x)
unfolding change result_at sends_at
changed-sent u p a x k q h =
    at-keeps (SettledSends x.settled (result_at x q)) (moves a) (λ s m. moved-sent x.settled (result_at x q) s m a) p x.sends q no_sends (k q h)

nothing-sent : SettledSends no_fixed unsettled no_sends
unfolding unsettled no_sends advertised_by failed_by listened_by
nothing-sent = record { advertising = tt; failing = tt; listening = tt }

fresh-sent : (i : ℕ) → Sent (fresh i)
unfolding fresh result_at sends_at
fresh-sent i p h =
    let none : get_or (replicate 8 unsettled) p unsettled ≡ unsettled = all_get_or (λ r. r ≡ unsettled) (replicate 8 unsettled) (all_replicate (λ r. r ≡ unsettled) 8 unsettled refl) unsettled refl p in
    let silent : get_or (replicate 8 no_sends) p no_sends ≡ no_sends = all_get_or (λ r. r ≡ no_sends) (replicate 8 no_sends) (all_replicate (λ r. r ≡ no_sends) 8 no_sends refl) no_sends refl p in
    rw (none, silent) nothing-sent

module _ (i : ℕ) (u : Stream → Stream) (keeps : (x : Stream) → Sent x → Sent (u x)) where
  begun-sent : (join : Bool) (s : List Stream) → All Sent s → All Sent (begun join i u s)
  unfolding begun
  begun-sent true s k = (keeps (fresh i) (fresh-sent i), k)
  begun-sent false s k = k

  touched-sent : (join : Bool) (s : List Stream) → All Sent s → All Sent (touch join i u s)
  unfolding touch
  touched-sent join [] k = begun-sent join [] k
  touched-sent join (x ∷ s) k = go (ltb i x.id) (eqb i x.id) (touched-sent join s k.1)
    where
      go : (t e : Bool) → All Sent (touch join i u s) → All Sent (cond t (begun join i u (x ∷ s)) (cond e (u x ∷ s) (x ∷ touch join i u s)))
      go true e ih = begun-sent join (x ∷ s) k
      go false true ih = (keeps x k.0, k.1)
      go false false ih = (k.0, ih)

module _ (now p : ℕ) where
  abbrev changing : Act → Stream → Stream
  changing a x = change (at p (does now a)) (at p (moves a)) x

  changing-sent : (a : Act) (x : Stream) → Sent x → Sent (changing a x)
  changing-sent a x k = changed-sent (at p (does now a)) p a x k

  applied-sent : (a : Act) (s : List Stream) → All Sent s → All Sent (apply now p a s)
  unfolding apply reach
  applied-sent (leave_all t) s k = all-mapped Sent Sent (changing (leave_all t)) (changing-sent (leave_all t)) s k
  applied-sent (leave t i) s k = touched-sent i (changing (leave t i)) (changing-sent (leave t i)) false s k
  applied-sent (talk i f v) s k = touched-sent i (changing (talk i f v)) (changing-sent (talk i f v)) true s k
  applied-sent (listen i r) s k = touched-sent i (changing (listen i r)) (changing-sent (listen i r)) true s k
  applied-sent (hear_all t) s k = all-mapped Sent Sent (changing (hear_all t)) (changing-sent (hear_all t)) s k
  applied-sent (hear t i h) s k = touched-sent i (changing (hear t i h)) (changing-sent (hear t i h)) false s k
  applied-sent (of_domain d) s k = k

  pub all-applied-sent : (es : List Act) (s : List Stream) → All Sent s → All Sent (apply_all now p es s)
  unfolding apply_all
  all-applied-sent [] s k = k
  all-applied-sent (a ∷ es) s k = all-applied-sent es (apply now p a s) (applied-sent a s k)

pub received-sent : (b : Bridge) (p : ℕ) (r : Reading) → All Sent b.streams → All Sent (received b p r).bridge.streams
unfolding received
received-sent b p (refused n) k = k
received-sent b p (acts es) k = go (leb (length s) 64)
  where
    s : List Stream
    s = apply_all b.clock (p - 1) es b.streams

    after : Bridge
    after = sending (owning (holding b s) (apply_owns b.clock (p - 1) es b.owns)) (apply_senders b.clock (p - 1) es b.senders)

    go : (t : Bool) → All Sent (cond {A = Answer} t record { number = 0; bridge = after } record { number = 8; bridge = b }).bridge.streams
    go true = unfold sending owning holding in all-applied-sent b.clock (p - 1) es b.streams k
    go false = k
