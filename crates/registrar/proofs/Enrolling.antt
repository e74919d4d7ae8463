-- A record for a stream is found or made; a join done on it is the act.
use Prim.Native.Nat.{ℕ, ◌+◌, ◌^◌, ◌<◌}
use mathlib.Core.Path.{◌≡◌, refl, sym, ◌∙◌, ap}
use mathlib.Core.List.{List, [], ◌∷◌}
use mathlib.Core.Bool.{Bool, true, false}
use native.Mathlib.Omega.{arith}
use lib.ListN.{length, get_or, get_or-map}
use Rattle.model.specs.State.{Sends, Stream, Bridge, fresh}
use Rattle.model.specs.Registrations.{Act, leave_all, leave, talk, listen, hear_all, hear, of_domain, does, moves, at, change, touch, reach, apply, holding, owning, sending, ids}
use Rattle.model.specs.Table.{encode, decode}
use Rattle.model.specs.Laid.{FitBridge, Laid}
use Rattle.model.proofs.Commute.{Change, Keeps, acted, acted-keeps}
use Rattle.model.proofs.FoundVectors.{Fits}
use Rattle.model.proofs.FrameOrder.{held-ids, joined}
use Rattle.model.proofs.Fits.{bridge-read, laid-is, laid-fits}
use Rattle.std.specs.Prelude.{Ok, Err}
use Rattle.table.specs.Find.{found_at}
use Rattle.table.specs.Updates.{inserted, with_cell}
use Rattle.table.proofs.Finding.{between-found, length_ids}
use Rattle.table.proofs.Places.{at_gap, room_at, room-gap, get_or-put-in, length-put-in}
use Rattle.table.proofs.Fitting.{inserted-fits}
use Rattle.cells.proofs.Keeps.{does-fits}
use Rattle.registrar.specs.Run.{keeping, room, effect, after}
use Rattle.registrar.specs.Walked.{Walked}
use Rattle.registrar.specs.Enrols.{enrolled, EnrolledAt, NoRoom}
use Rattle.registrar.proofs.Acted.{acted-cell}
use Rattle.registrar.proofs.Room.{again}
use Rattle.registrar.proofs.Keeps.{effect-fits}
use Rattle.registrar.proofs.Walks.{OfStream, done, act-done, act-stopped}
use Rattle.registrar.proofs.ValueActs.{Joins}
use Rattle.registrar.proofs.Touched.{stream-touched}

-- A record is there, or is made, or there is no room.

module _ (t : List ℕ) (l : Laid t) (i k : ℕ) where
  pub enrolled-there : found_at i 0 (ids (decode t).streams) ≡ Ok k → EnrolledAt i t k t
  unfolding enrolled holding
  enrolled-there e =
      let r = room_at i k (decode t).streams e in
      record { few = rw r (laid-fits t l).at_most_64; found = rw r e; table = rw r (laid-is t l) }

  module _ (e : found_at i 0 (ids (decode t).streams) ≡ Err k) where
    more : length (enrolled i t) ≡ length (decode t).streams + 1
    unfolding enrolled
    more = ap length (room-gap i k (decode t).streams e) ∙ length-put-in i k (decode t).streams (at_gap i k (decode t).streams e).within

    pub no_room : length (decode t).streams ≡ 64 → NoRoom i t t
    no_room h = record { many = omega (arith, more); table = refl }

    -- the new record stands at its place
    pub stands : i < 2 ^ 64 → length (decode t).streams < 64 → found_at i 0 (ids (inserted k i (decode t)).streams) ≡ Ok k
    unfolding holding ids fresh
    stands small h =
        let x = (inserted k i (decode t)).streams in
        let w = (at_gap i k (decode t).streams e).within in
        let n : k < length (ids x) = omega (arith, length_ids x, length-put-in i k (decode t).streams w) in
        let d : get_or (ids x) k 0 ≡ i = get_or-map (λ (y : Stream). y.id) x k (fresh 0) ∙ ap (λ (y : Stream). y.id) (get_or-put-in i k (decode t).streams w) in
        sym (between-found i (ids x) (inserted-fits (decode t) (laid-fits t l) k i e small h).ascending k n d)

    pub enrolled-made : (u : List ℕ) → i < 2 ^ 64 → length (decode t).streams < 64 → u ≡ encode (inserted k i (decode t)) → EnrolledAt i t k u
    unfolding enrolled holding
    enrolled-made u small h q =
        let r = room-gap i k (decode t).streams e in
        record { few = omega (arith, more); found = rw r (stands small h); table = rw r q }

-- A join: it makes room and does nothing else, or changes the cell too.

module _ (i now p : ℕ) (s : List Stream) where
  joins-apply : (a : Act) → Joins i a → effect true now p a s ≡ touch true i (acted now p a) s
  unfolding effect apply reach
  joins-apply (leave_all k) j = absurd j
  joins-apply (leave k h) j = absurd j
  joins-apply (talk h f v) j = rw j
  joins-apply (listen h r) j = rw j
  joins-apply (hear_all k) j = absurd j
  joins-apply (hear k h x) j = absurd j
  joins-apply (of_domain d) j = absurd j

  joins-room : (a : Act) → Joins i a → effect false now p a s ≡ touch true i (λ x. x) s
  unfolding effect room
  joins-room (leave_all k) j = absurd j
  joins-room (leave k h) j = absurd j
  joins-room (talk h f v) j = rw j
  joins-room (listen h r) j = rw j
  joins-room (hear_all k) j = absurd j
  joins-room (hear k h x) j = absurd j
  joins-room (of_domain d) j = absurd j

joins-stream : (i : ℕ) (a : Act) → Joins i a → OfStream a
joins-stream i (leave_all k) j = absurd j
joins-stream i (leave k h) j = absurd j
joins-stream i (talk h f v) j = tt
joins-stream i (listen h r) j = tt
joins-stream i (hear_all k) j = absurd j
joins-stream i (hear k h x) j = absurd j
joins-stream i (of_domain d) j = absurd j

-- it moves no Applicant
joins-still : (i : ℕ) (a : Act) → Joins i a → (y : Sends) → moves a y ≡ y
unfolding moves
joins-still i (leave_all k) j y = refl
joins-still i (leave k h) j y = refl
joins-still i (talk h f v) j y = refl
joins-still i (listen h r) j y = refl
joins-still i (hear_all k) j y = absurd j
joins-still i (hear k h x) j y = absurd j
joins-still i (of_domain d) j y = refl

-- as many streams are held, whatever is done to the one that is joined
as_many : (i : ℕ) (u v : Change) → Keeps u → Keeps v → (s : List Stream) → length (touch true i u s) ≡ length (touch true i v s)
as_many i u v ku kv s = rw (held-ids (touch true i u s), held-ids (touch true i v s), joined u ku i s, joined v kv i s)

module _ (p i : ℕ) (a : Act) (j : Joins i a) (t : List ℕ) where
  done-many : (m : Bool) → length (done m p a t) ≡ length (enrolled i t)
  unfolding done enrolled
  done-many true = ap length (joins-apply i (decode t).clock p (decode t).streams a j) ∙ as_many i (acted (decode t).clock p a) (λ x. x) (acted-keeps (decode t).clock p a) (λ x. refl) (decode t).streams
  done-many false = ap length (joins-room i (decode t).clock p (decode t).streams a j)

  module _ (l : Laid t) where
    pub join-stopped : (m : Bool) (u : List ℕ) → NoRoom i t u → Walked m p (a ∷ []) t false u
    join-stopped m u n = rw n.table (act-stopped m p a t l (rw (done-many m) n.many))

    module _ (k : ℕ) (u : List ℕ) (n : EnrolledAt i t k u) (f : Fits a) where
      pub join-room : Walked false p (a ∷ []) t true u
      unfolding done enrolled
      join-room =
          act-done false p a t (joins-stream i a j) u l f (rw (done-many false) n.few)
          (n.table ∙ ap (λ (s : List Stream). encode (holding (decode t) s)) (sym (joins-room i (decode t).clock p (decode t).streams a j)))

      -- the table in which there is room
      enrolled-fits : FitBridge (holding (decode t) (enrolled i t))
      unfolding enrolled done keeping after holding owning sending
      enrolled-fits =
          let w = laid-fits t l in
          rw (← joins-room i (decode t).clock p (decode t).streams a j)
          (effect-fits p a (decode t) w f false (does-fits (decode t).clock w.clock a f) (rw (done-many false) n.few))

      pub enrolled-laid : Laid u
      enrolled-laid = record { thing = holding (decode t) (enrolled i t); fits = enrolled-fits; is = n.table }

      pub enrolled-read : decode u ≡ holding (decode t) (enrolled i t)
      enrolled-read = ap decode n.table ∙ bridge-read (holding (decode t) (enrolled i t)) enrolled-fits

      pub enrolled-found : found_at i 0 (ids (decode u).streams) ≡ Ok k
      unfolding holding
      enrolled-found = rw enrolled-read n.found

      pub join-applied : (y : List ℕ) → ((clock : ℕ) → y ≡ encode (with_cell k p (does clock a) (decode u))) → Walked true p (a ∷ []) t true y
      unfolding done
      join-applied y q =
          act-done true p a t (joins-stream i a j) _ l f (rw (done-many true) n.few)
          (q (decode t).clock ∙ stream-touched u i k enrolled-found true g ∙ applied)
        where
          g : Change
          g = change (at p (does (decode t).clock a)) (λ m. m)

          applied : encode (holding (decode u) (touch true i g (decode u).streams)) ≡ encode (holding (decode t) (done true p a t))
          applied = ap (λ (x : Bridge). encode (holding x (touch true i g x.streams))) enrolled-read ∙ unfold holding enrolled in
              (ap (λ (s : List Stream). encode (holding (decode t) s))
              (again i g (decode t).streams
              ∙ ap (λ (h : Change). touch true i h (decode t).streams) (sym (acted-cell (decode t).clock p a (joins-still i a j)))
              ∙ sym (joins-apply i (decode t).clock p (decode t).streams a j)))
