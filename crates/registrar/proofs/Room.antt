-- The two walks over a frame: the first makes room for all streams joined or stops, the second then does what the acts ask
-- for. Where the first stops, dropping the streams that are not held restores those that were. The first changes nothing of what the
-- ports hold and send by themselves.
use Prim.Native.Nat.{ℕ, ◌≤◌, ◌<◌}
use mathlib.Core.Path.{◌≡◌, refl, sym, ◌∙◌, ap}
use mathlib.Core.List.{List, [], ◌∷◌, ◌++◌}
use mathlib.Core.Bool.{Bool, true, false, cond, true≢false}
use native.Mathlib.Nat.{le_trans}
use native.Mathlib.Omega.{arith}
use lib.ListN.{length}
use lib.Dec.{ltb, leb, eqb}
use borrow.Author.Tests.{le-leb, leb-true}
use Rattle.model.specs.State.{Stream, fresh, blank, empty, no_sends}
use Rattle.model.specs.Settling.{held, is_talking, is_hearing, is_applicant, is_sending, any_sending, is_held, drop_unheld}
use Rattle.model.specs.Registrations.{Act, leave_all, leave, talk, listen, hear_all, hear, of_domain, begun, touch, reach, apply, apply_all, apply_owns, apply_senders, together, ids, joins}
use Rattle.model.proofs.Commute.{Change, fresh-id, Tri, less, same, more, tri, single, acted, acted-keeps, does-commute, act-does, touch-nil, touch-before, touch-here, touch-past}
use Rattle.model.proofs.FrameOrder.{acts-ids, held-ids, joined, together-grows}
use Rattle.registrar.specs.Run.{Registered, Ran, stopped, ran, room, effect, effects, after, after_all, next, followed, run}

-- A walk over acts, one list after another.

pub followed-twice : (r : Ran) (f g : Registered → Ran) → followed (followed r f) g ≡ followed r (λ x. followed (f x) g)
unfolding followed
followed-twice (stopped x) f g = refl
followed-twice (ran x) f g = refl

pub run-append : (m : Bool) (now p : ℕ) (es fs : List Act) (x : Registered) →
    run m now p (es ++ fs) x ≡ followed (run m now p es x) (run m now p fs)
unfolding run
run-append m now p [] fs x = unfold followed in refl
run-append m now p (a ∷ es) fs x = go (next m now p a x) (run-append m now p es fs)
  where
    go : (r : Ran) → ((y : Registered) → run m now p (es ++ fs) y ≡ followed (run m now p es y) (run m now p fs)) →
        followed r (run m now p (es ++ fs)) ≡ followed (followed r (run m now p es)) (run m now p fs)
    go (stopped y) h = unfold followed in refl
    go (ran y) h = unfold followed in (h y)

-- The StreamIDs held after acts, done or only made room for.

pub effect-ids : (m : Bool) (now p : ℕ) (a : Act) (s : List Stream) → ids (effect m now p a s) ≡ together (ids s) (joins (a ∷ []))
unfolding effect room joins together
effect-ids true now p a s = unfold apply_all in (acts-ids now p (a ∷ []) s)
effect-ids false now p (leave_all k) s = refl
effect-ids false now p (leave k i) s = refl
effect-ids false now p (talk i f v) s = joined (λ x. x) (λ x. refl) i s
effect-ids false now p (listen i r) s = joined (λ x. x) (λ x. refl) i s
effect-ids false now p (hear_all k) s = refl
effect-ids false now p (hear k i h) s = refl
effect-ids false now p (of_domain d) s = refl

joins-cons : (a : Act) (es : List Act) (l : List ℕ) → together (together l (joins (a ∷ []))) (joins es) ≡ together l (joins (a ∷ es))
unfolding joins together
joins-cons (leave_all k) es l = refl
joins-cons (leave k i) es l = refl
joins-cons (talk i f v) es l = refl
joins-cons (listen i r) es l = refl
joins-cons (hear_all k) es l = refl
joins-cons (hear k i h) es l = refl
joins-cons (of_domain d) es l = refl

pub effects-ids : (m : Bool) (now p : ℕ) (es : List Act) (s : List Stream) → ids (effects m now p es s) ≡ together (ids s) (joins es)
unfolding effects
effects-ids m now p [] s = unfold joins together in refl
effects-ids m now p (a ∷ es) s =
    effects-ids m now p es (effect m now p a s)
    ∙ ap (λ (l : List ℕ). together l (joins es)) (effect-ids m now p a s)
    ∙ joins-cons a es (ids s)

effects-grow : (m : Bool) (now p : ℕ) (es : List Act) (s : List Stream) → length s ≤ length (effects m now p es s)
effects-grow m now p es s =
    rw (held-ids s, held-ids (effects m now p es s), effects-ids m now p es s) (together-grows (joins es) (ids s))

pub effects-applied : (now p : ℕ) (es : List Act) (s : List Stream) → effects true now p es s ≡ apply_all now p es s
unfolding effects effect apply_all
effects-applied now p [] s = refl
effects-applied now p (a ∷ es) s = effects-applied now p es (apply now p a s)

same_length : (now p : ℕ) (es : List Act) (s : List Stream) → length (effects false now p es s) ≡ length (apply_all now p es s)
same_length now p es s =
    rw (held-ids (effects false now p es s), held-ids (apply_all now p es s), effects-ids false now p es s, acts-ids now p es s)

-- A walk with room for all goes to its end.

next-ran : (m : Bool) (now p : ℕ) (a : Act) (x : Registered) → length (effect m now p a x.streams) ≤ 64 → next m now p a x ≡ ran (after m now p a x)
unfolding next
next-ran m now p a x h = rw (le-leb _ 64 h)

after_more : (m : Bool) (now p : ℕ) (a : Act) (es : List Act) (x : Registered) → after_all m now p es (after m now p a x) ≡ after_all m now p (a ∷ es) x
unfolding after_all after effects apply_owns apply_senders
after_more true now p a es x = refl
after_more false now p a es x = refl

after_none : (m : Bool) (now p : ℕ) (x : Registered) → x ≡ after_all m now p [] x
unfolding after_all effects apply_owns apply_senders
after_none true now p x = refl
after_none false now p x = refl

all-ran : (m : Bool) (now p : ℕ) (es : List Act) (x : Registered) → length (effects m now p es x.streams) ≤ 64 →
    run m now p es x ≡ ran (after_all m now p es x)
unfolding run followed
all-ran m now p [] x h = ap ran (after_none m now p x)
all-ran m now p (a ∷ es) x h =
    let k : length (effect m now p a x.streams) ≤ 64 = le_trans (effects-grow m now p es (effect m now p a x.streams)) (unfold effects in h) in
    rw (next-ran m now p a x k) (all-ran m now p es (after m now p a x) (unfold effects after in h) ∙ ap ran (after_more m now p a es x))

-- Room is made without a registration, and nothing is sent of it.

fresh-unheld : (i : ℕ) → is_held (fresh i) ≡ false
unfolding is_held held any_sending is_sending is_applicant fresh blank empty no_sends is_talking is_hearing
fresh-unheld i = refl

room-unheld : (i : ℕ) (s : List Stream) → drop_unheld (touch true i (λ x. x) s) ≡ drop_unheld s
unfolding drop_unheld touch begun
room-unheld i [] = rw (fresh-unheld i)
room-unheld i (x ∷ s) = go (ltb i x.id) (eqb i x.id) (room-unheld i s)
  where
    go : (a b : Bool) → drop_unheld (touch true i (λ x. x) s) ≡ drop_unheld s →
        drop_unheld (cond a (begun true i (λ x. x) (x ∷ s)) (cond b (x ∷ s) (x ∷ touch true i (λ x. x) s))) ≡ drop_unheld (x ∷ s)
    go true b h = rw (fresh-unheld i)
    go false true h = refl
    go false false h = rw h

effect-unheld : (now p : ℕ) (a : Act) (s : List Stream) → drop_unheld (effect false now p a s) ≡ drop_unheld s
unfolding effect room
effect-unheld now p (leave_all k) s = refl
effect-unheld now p (leave k i) s = refl
effect-unheld now p (talk i f v) s = room-unheld i s
effect-unheld now p (listen i r) s = room-unheld i s
effect-unheld now p (hear_all k) s = refl
effect-unheld now p (hear k i h) s = refl
effect-unheld now p (of_domain d) s = refl

-- Acts where room was made do what they do without it.

pub again : (i : ℕ) (u : Change) (s : List Stream) → touch true i u (touch true i (λ x. x) s) ≡ touch true i u s
unfolding begun
again i u [] = rw (touch-nil true i (λ x. x), touch-nil true i u) (touch-here true i u (fresh i) [] (sym (fresh-id i)))
again i u (x ∷ s) = go (tri i x.id) (again i u s)
  where
    go : Tri i x.id → touch true i u (touch true i (λ x. x) s) ≡ touch true i u s →
        touch true i u (touch true i (λ x. x) (x ∷ s)) ≡ touch true i u (x ∷ s)
    go (less h) ih =
        rw (touch-before true i (λ x. x) x s h, touch-before true i u x s h) (touch-here true i u (fresh i) (x ∷ s) (sym (fresh-id i)))
    go (same h) ih = rw (touch-here true i (λ x. x) x s h)
    go (more h) ih =
        rw (touch-past true i (λ x. x) x s h, touch-past true i u x s h, touch-past true i u x (touch true i (λ x. x) s) h)
        (ap (λ (l : List Stream). x ∷ l) ih)

act-again : (now p : ℕ) (a : Act) (s : List Stream) → apply now p a (effect false now p a s) ≡ apply now p a s
unfolding apply reach effect room
act-again now p (leave_all k) s = refl
act-again now p (leave k i) s = refl
act-again now p (talk i f v) s = again i _ s
act-again now p (listen i r) s = again i _ s
act-again now p (hear_all k) s = refl
act-again now p (hear k i h) s = refl
act-again now p (of_domain d) s = refl

room-commutes : (i now p : ℕ) (a : Act) (s : List Stream) → apply now p a (touch true i (λ x. x) s) ≡ touch true i (λ x. x) (apply now p a s)
room-commutes i now p a s =
    does-commute (acted now p a) (λ (x : Stream). x) (acted-keeps now p a) (λ x. refl) (act-does now p a) (single true i (λ e. absurd (true≢false e))) (λ x. refl) s

act-commutes : (now p : ℕ) (a b : Act) (s : List Stream) → apply now p a (effect false now p b s) ≡ effect false now p b (apply now p a s)
unfolding effect room
act-commutes now p a (leave_all k) s = refl
act-commutes now p a (leave k i) s = refl
act-commutes now p a (talk i f v) s = room-commutes i now p a s
act-commutes now p a (listen i r) s = room-commutes i now p a s
act-commutes now p a (hear_all k) s = refl
act-commutes now p a (hear k i h) s = refl
act-commutes now p a (of_domain d) s = refl

act-past : (now p : ℕ) (a : Act) (es : List Act) (s : List Stream) →
    apply now p a (effects false now p es s) ≡ effects false now p es (apply now p a s)
unfolding effects
act-past now p a [] s = refl
act-past now p a (b ∷ es) s =
    act-past now p a es (effect false now p b s) ∙ ap (effects false now p es) (act-commutes now p a b s)

applied-after-room : (now p : ℕ) (es : List Act) (s : List Stream) → apply_all now p es (effects false now p es s) ≡ apply_all now p es s
unfolding apply_all effects
applied-after-room now p [] s = refl
applied-after-room now p (a ∷ es) s =
    ap (apply_all now p es) (act-past now p a es (effect false now p a s) ∙ ap (effects false now p es) (act-again now p a s))
    ∙ applied-after-room now p es (apply now p a s)

-- The two walks.

-- what is registered, with other streams
abbrev pub streaming : List Stream → Registered → Registered
streaming s x = record { streams = s; owns = x.owns; senders = x.senders }

module _ (now p : ℕ) where
  -- all acts done
  unfoldable pub applied : List Act → Registered → Registered
  applied es x = record {
    streams = apply_all now p es x.streams;
    owns = apply_owns now p es x.owns;
    senders = apply_senders now p es x.senders;
  }

  pub room-made : (es : List Act) (x : Registered) → length (apply_all now p es x.streams) ≤ 64 →
      run false now p es x ≡ ran (streaming (effects false now p es x.streams) x)
  unfolding after_all
  room-made es x h = all-ran false now p es x (rw (same_length now p es x.streams) h)

  pub all-applied : (es : List Act) (x : Registered) → length (apply_all now p es x.streams) ≤ 64 →
      run true now p es (streaming (effects false now p es x.streams) x) ≡ ran (applied es x)
  unfolding after_all applied
  all-applied es x h =
      let s = effects false now p es x.streams in
      let e : effects true now p es s ≡ apply_all now p es x.streams =
      effects-applied now p es s ∙ applied-after-room now p es x.streams in
      all-ran true now p es (streaming s x) (rw e h)
      ∙ ap (λ (r : List Stream). ran record { streams = r; owns = apply_owns now p es x.owns; senders = apply_senders now p es x.senders }) e

  -- of the streams where the first walk stopped those are held that were held before
  pub record Lacking (es : List Act) (x : Registered) : Type 0 where
    pub left : List Stream
    pub stops : run false now p es x ≡ stopped (streaming left x)
    pub restored : drop_unheld left ≡ drop_unheld x.streams

  lacking : (es : List Act) (x : Registered) → length x.streams ≤ 64 → 64 < length (effects false now p es x.streams) → Lacking es x
  unfolding effects run followed
  lacking [] x fits h = absurd (omega arith)
  lacking (a ∷ es) x fits h = go (leb (length t) 64) refl (lacking es (streaming t x))
    where
      t : List Stream
      t = effect false now p a x.streams

      go : (b : Bool) → leb (length t) 64 ≡ b →
          (length t ≤ 64 → 64 < length (effects false now p es t) → Lacking es (streaming t x)) → Lacking (a ∷ es) x
      go true e ih =
          let r = ih (leb-true _ 64 e) h in
          record {
            left = r.left;
            stops = unfold next after in (rw e r.stops);
            restored = r.restored ∙ effect-unheld now p a x.streams;
          }
      go false e ih = record { left = x.streams; stops = unfold next in (rw e); restored = refl }

  pub room-lacking : (es : List Act) (x : Registered) → length x.streams ≤ 64 → 64 < length (apply_all now p es x.streams) → Lacking es x
  room-lacking es x fits h = lacking es x fits (rw (same_length now p es x.streams) h)
