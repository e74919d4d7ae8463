-- Walks on a table, one after another; and a walk over one act.
use Prim.Native.Nat.{ℕ, ◌≤◌, ◌<◌}
use mathlib.Core.Path.{◌≡◌, refl, sym, ◌∙◌, ap, ap₂, subst}
use mathlib.Core.List.{List, [], ◌∷◌, ◌++◌}
use mathlib.Core.Bool.{Bool, true, false, true≢false}
use lib.ListN.{length}
use borrow.Author.Tests.{le-leb, lt-leb}
use Rattle.model.specs.State.{Own, Sender, Stream, Bridge}
use Rattle.model.specs.Registrations.{Act, leave_all, leave, talk, listen, hear_all, hear, of_domain, Kind, DomainAct, leave_all_domains, leave_domain, join_domain, hear_all_domains, hear_domain, at, reach, apply, change_domains, does_domain, apply_own, moves_sender, holding, owning, sending}
use Rattle.model.specs.Frames.{Vector, Walk, found, frame_acts}
use Rattle.model.specs.Table.{encode, decode}
use Rattle.model.specs.Laid.{FitBridge, Laid}
use Rattle.model.proofs.FoundVectors.{Fits, FitsDomain}
use Rattle.model.proofs.Fits.{bridge-read, laid-is, laid-fits}
use Rattle.cells.proofs.Keeps.{does-fits}
use Rattle.registrar.specs.Run.{Registered, registered_of, keeping, Ran, stopped, ran, room, effect, after, next, followed, run, left_by, went}
use Rattle.registrar.specs.Walked.{run_on, Leaves, Walked}
use Rattle.registrar.proofs.Changed.{at_none}
use Rattle.registrar.proofs.Room.{run-append, streaming}
use Rattle.registrar.proofs.Keeps.{effect-fits}

module _ {t : List ℕ} {q : Ran} {r : Bool} {u : List ℕ} (w : Leaves t q r u) where
  pub walked-laid : Laid u
  walked-laid = record { thing = keeping (decode t) (left_by q); fits = w.fits; is = w.table }

  pub walked-read : decode u ≡ keeping (decode t) (left_by q)
  walked-read = ap decode w.table ∙ bridge-read _ w.fits

-- nothing to do
pub walked_none : (m : Bool) (p : ℕ) (t : List ℕ) → Laid t → Walked m p [] t true t
unfolding run_on run left_by went keeping holding owning sending
walked_none m p t l = record { answer = refl; table = laid-is t l; fits = laid-fits t l }

-- acts and more acts
stops : (q : Ran) (f : Registered → Ran) → false ≡ went q → followed q f ≡ q
unfolding went followed
stops (stopped x) f e = refl
stops (ran x) f e = absurd (true≢false (sym e))

goes_on_lem : (q : Ran) (f : Registered → Ran) → true ≡ went q → followed q f ≡ f (left_by q)
unfolding went followed left_by
goes_on_lem (stopped x) f e = absurd (true≢false e)
goes_on_lem (ran x) f e = refl

module _ (m : Bool) (p : ℕ) (es fs : List Act) (t u : List ℕ) where
  run-both : run_on m p (es ++ fs) t ≡ followed (run_on m p es t) (run m (decode t).clock p fs)
  unfolding run_on
  run-both = run-append m (decode t).clock p es fs (registered_of (decode t))

  pub walked-stopped : Walked m p es t false u → Walked m p (es ++ fs) t false u
  walked-stopped w = subst (λ (q : Ran). Leaves t q false u) (sym (run-both ∙ stops (run_on m p es t) _ w.answer)) w

  run-rest : Walked m p es t true u → run_on m p (es ++ fs) t ≡ run_on m p fs u
  unfolding run_on keeping holding owning sending
  run-rest w = run-both ∙ goes_on_lem (run_on m p es t) _ w.answer ∙ sym (ap (λ (b : Bridge). run m b.clock p fs (registered_of b)) (walked-read w))

  keeping-again : (w : Walked m p es t true u) (x : Registered) → keeping (decode u) x ≡ keeping (decode t) x
  unfolding keeping holding owning sending
  keeping-again w x = ap (λ (b : Bridge). keeping b x) (walked-read w)

  pub walked_on : {r : Bool} {v : List ℕ} → Walked m p es t true u → Walked m p fs u r v → Walked m p (es ++ fs) t r v
  walked_on {r} {v} w x =
      let h = keeping-again w (left_by (run_on m p fs u)) in
      subst (λ (q : Ran). Leaves t q r v) (sym (run-rest w))
      record { answer = x.answer; table = x.table ∙ ap encode h; fits = subst FitBridge h x.fits }

-- acts in two parts, of which the first stopped or was done, and the second was done on a walk that applies as the first does
module _ (m : Bool) (p : ℕ) (es fs gs : List Act) (e : gs ≡ es ++ fs) (t u : List ℕ) (r : Bool) where
  pub first-stopped : r ≡ false → Walked m p es t r u → Walked m p gs t false u
  first-stopped q w = rw e (walked-stopped m p es fs t u (rw q at w))

  pub second-done : r ≡ true → Walked m p es t r u → (n : Bool) → m ≡ n → (v : List ℕ) → Walked n p fs u true v → Walked m p gs t true v
  second-done q w n k v x =
      let y : Walked m p fs u true v = rw k x in
      rw e (walked_on m p es fs t u (rw q at w) y)

-- A loop over acts: the walk over es from the table t has come to the table u, with fs left.

abbrev pub Leads : Bool → ℕ → List Act → List ℕ → List Act → List ℕ → Type 0
Leads m p es t fs u = (r : Bool) (v : List ℕ) → Walked m p fs u r v → Walked m p es t r v

-- .. at place at of so many, with the table laid out and as long as it was
pub record Going (at end : ℕ) (m : Bool) (p : ℕ) (es : List Act) (t : List ℕ) (fs : List Act) (u : List ℕ) : Type 0 where
  pub within : at ≤ end
  pub size : length u ≡ length t
  pub laid : Laid u
  pub leads : Leads m p es t fs u

-- .. with the acts of the vectors left that are found from there on, in a number of turns
pub record Walking (at end : ℕ) (finding : ℕ → Walk) (m : Bool) (p : ℕ) (es : List Act) (t u : List ℕ) : Type 0 where
  pub turns : ℕ
  pub left : List Vector
  pub finds : finding turns ≡ found left
  pub going : Going at end m p es t (frame_acts left) u

module _ (m : Bool) (p : ℕ) (es : List Act) (t : List ℕ) where
  pub leads-start : Leads m p es t es t
  leads-start r v w = w

  module _ (fs : List Act) (u : List ℕ) (leads : Leads m p es t fs u) where
    pub leads-end : fs ≡ [] → Laid u → Walked m p es t true u
    leads-end e l = leads true u (rw e (walked_none m p u l))

    module _ (gs hs : List Act) (v : List ℕ) (e : fs ≡ gs ++ hs) where
      pub leads-on : Walked m p gs u true v → Leads m p es t hs v
      leads-on w r x y = leads r x (rw e (walked_on m p gs hs u v w y))

      pub leads-stopped : Walked m p gs u false v → Walked m p es t false v
      leads-stopped w = leads false v (rw e (walked-stopped m p gs hs u v w))

-- One act, where there is room for it, or not.

-- an act on a stream leaves what the ports hold and send by themselves
abbrev pub OfStream : Act → Type 0
OfStream (leave_all k) = Unit {0}
OfStream (leave k i) = Unit {0}
OfStream (talk i f v) = Unit {0}
OfStream (listen i r) = Unit {0}
OfStream (hear_all k) = ⊥
OfStream (hear k i h) = Unit {0}
OfStream (of_domain d) = ⊥

own-stays : (now p : ℕ) (a : Act) → OfStream a → (o : List Own) → apply_own now p a o ≡ o
unfolding apply_own
own-stays now p (leave_all k) s o = refl
own-stays now p (leave k i) s o = refl
own-stays now p (talk i f v) s o = refl
own-stays now p (listen i r) s o = refl
own-stays now p (hear_all k) s o = absurd s
own-stays now p (hear k i h) s o = refl
own-stays now p (of_domain d) s o = absurd s

sender-stays : (now : ℕ) (a : Act) → OfStream a → (x : Sender) → moves_sender now a x ≡ x
unfolding moves_sender
sender-stays now (leave_all k) s x = refl
sender-stays now (leave k i) s x = refl
sender-stays now (talk i f v) s x = refl
sender-stays now (listen i r) s x = refl
sender-stays now (hear_all k) s x = absurd s
sender-stays now (hear k i h) s x = refl
sender-stays now (of_domain d) s x = absurd s

rest-stays : (m : Bool) (now p : ℕ) (a : Act) → OfStream a → (x : Registered) → after m now p a x ≡ streaming (effect m now p a x.streams) x
unfolding after
rest-stays false now p a s x = refl
rest-stays true now p a s x =
    ap₂ (λ (o : List Own) (l : List Sender). record { streams = effect true now p a x.streams; owns = o; senders = l })
    (own-stays now p a s x.owns) (at_none p (moves_sender now a) (sender-stays now a s) x.senders)

module _ (m : Bool) (p : ℕ) (a : Act) (t : List ℕ) where
  -- the streams that it leaves
  unfoldable pub done : List Stream
  done = effect m (decode t).clock p a (decode t).streams

  -- and all that is registered
  whole : Registered
  whole = after m (decode t).clock p a (registered_of (decode t))

  one-done : length done ≤ 64 → run_on m p (a ∷ []) t ≡ ran whole
  unfolding run_on run next followed done whole
  one-done h = rw (le-leb (length done) 64 h)

  one-stopped : 64 < length done → run_on m p (a ∷ []) t ≡ stopped (registered_of (decode t))
  unfolding run_on run next followed done
  one-stopped h = rw (lt-leb (length done) 64 h)

  whole-done : (u : List ℕ) → Laid t → Fits a → length done ≤ 64 → u ≡ encode (keeping (decode t) whole) → Walked m p (a ∷ []) t true u
  unfolding done whole
  whole-done u l f h e =
      let w = laid-fits t l in
      subst (λ (q : Ran). Leaves t q true u) (sym (one-done h))
      (unfold went left_by in record {
        answer = refl;
        table = e;
        fits = effect-fits p a (decode t) w f m (does-fits (decode t).clock w.clock a f) h;
      })

  pub act-done : OfStream a → (u : List ℕ) → Laid t → Fits a → length done ≤ 64 → u ≡ encode (holding (decode t) done) → Walked m p (a ∷ []) t true u
  unfolding done whole keeping holding owning sending
  act-done s u l f h e =
      whole-done u l f h (e ∙ ap (λ (x : Registered). encode (keeping (decode t) x)) (sym (rest-stays m (decode t).clock p a s (registered_of (decode t)))))

  pub act-stopped : Laid t → 64 < length done → Walked m p (a ∷ []) t false t
  act-stopped l h =
      subst (λ (q : Ran). Leaves t q false t) (sym (one-stopped h))
      (unfold went left_by keeping holding owning sending in record { answer = refl; table = laid-is t l; fits = laid-fits t l })

-- One that asks for no room.
pub room-walked : (p : ℕ) (a : Act) (t : List ℕ) → Laid t → Fits a → ((s : List Stream) → room a s ≡ s) → Walked false p (a ∷ []) t true t
unfolding done whole after effect keeping holding owning sending
room-walked p a t l f none =
    let e = none (decode t).streams in
    whole-done false p a t t l f (rw e (laid-fits t l).at_most_64) (laid-is t l ∙ ap (λ (s : List Stream). encode (holding (decode t) s)) (sym e))

-- LeaveAll of a type, heard on every stream, and by the LeaveAll machine.
pub all_done : (p : ℕ) (k : Kind) (t : List ℕ) → Laid t → length (done true p (hear_all k) t) ≤ 64 → (u : List ℕ)
    → u ≡ encode (sending (holding (decode t) (done true p (hear_all k) t)) (at p (moves_sender (decode t).clock (hear_all k)) (decode t).senders))
    → Walked true p (hear_all k ∷ []) t true u
unfolding done whole after apply_own keeping holding owning sending
all_done p k t l h u e = whole-done true p (hear_all k) t u l tt h e

-- A Domain act needs no room. It is one of Registrars, or is heard by Applicants.

abbrev pub Registers : DomainAct → Type 0
Registers leave_all_domains = Unit {0}
Registers (leave_domain i) = Unit {0}
Registers (join_domain i v) = Unit {0}
Registers hear_all_domains = ⊥
Registers (hear_domain i h) = ⊥

abbrev pub IsHeard : DomainAct → Type 0
IsHeard leave_all_domains = ⊥
IsHeard (leave_domain i) = ⊥
IsHeard (join_domain i v) = ⊥
IsHeard hear_all_domains = Unit {0}
IsHeard (hear_domain i h) = Unit {0}

registers-sends : (now : ℕ) (d : DomainAct) → Registers d → (x : Sender) → moves_sender now (of_domain d) x ≡ x
unfolding moves_sender
registers-sends now leave_all_domains s x = refl
registers-sends now (leave_domain i) s x = refl
registers-sends now (join_domain i v) s x = refl
registers-sends now hear_all_domains s x = absurd s
registers-sends now (hear_domain i h) s x = absurd s

heard-holds : (now : ℕ) (d : DomainAct) → IsHeard d → (o : Own) → change_domains (does_domain now d) o ≡ o
unfolding change_domains does_domain
heard-holds now leave_all_domains s o = absurd s
heard-holds now (leave_domain i) s o = absurd s
heard-holds now (join_domain i v) s o = absurd s
heard-holds now hear_all_domains s o = refl
heard-holds now (hear_domain i h) s o = refl

module _ (p : ℕ) (d : DomainAct) (t : List ℕ) (l : Laid t) (f : FitsDomain d) where
  abbrev owned : List Own
  owned = at p (change_domains (does_domain (decode t).clock d)) (decode t).owns

  abbrev sent : List Sender
  sent = at p (moves_sender (decode t).clock (of_domain d)) (decode t).senders

  both-done : (u : List ℕ) → u ≡ encode (sending (owning (decode t) owned) sent) → Walked true p (of_domain d ∷ []) t true u
  unfolding done whole after effect apply reach apply_own keeping holding owning sending
  both-done u e = whole-done true p (of_domain d) t u l f (laid-fits t l).at_most_64 e

  pub domain-done : Registers d → (u : List ℕ) → u ≡ encode (owning (decode t) owned) → Walked true p (of_domain d ∷ []) t true u
  unfolding owning sending
  domain-done s u e =
      both-done u (e ∙ ap (λ (x : List Sender). encode (sending (owning (decode t) owned) x)) (sym (at_none p _ (registers-sends (decode t).clock d s) (decode t).senders)))

  pub domain-heard : IsHeard d → (u : List ℕ) → u ≡ encode (sending (decode t) sent) → Walked true p (of_domain d ∷ []) t true u
  unfolding owning sending
  domain-heard s u e =
      both-done u (e ∙ ap (λ (x : List Own). encode (sending (owning (decode t) x) sent)) (sym (at_none p _ (heard-holds (decode t).clock d s) (decode t).owns)))

  -- and asks for none
  pub domain-room : Walked false p (of_domain d ∷ []) t true t
  unfolding room
  domain-room = room-walked p (of_domain d) t l f (λ s. refl)
