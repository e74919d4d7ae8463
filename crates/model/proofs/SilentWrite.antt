-- A write with nothing to say and no LeaveAll due leaves the bridge as it is, and its next place is the length of the list.
use mathlib.Core.Path.{◌≡◌, refl, sym, ◌∙◌, ap, ap₂}
use mathlib.Core.List.{List, [], ◌∷◌, ◌++◌, map, append-nil}
use mathlib.Core.Bool.{Bool, true, false, cond, ◌&&◌, true≢false}
use Prim.Native.Nat.{ℕ, zero, suc, ◌+◌, ◌-◌, ◌≤◌}
use native.Mathlib.Nat.{add-zero}
use native.Mathlib.Omega.{arith}
use lib.ListN.{length, length-map, get_or, drop}
use lib.Dec.{leb, ltb}
use borrow.Author.Tests.{leb-true}
use Rattle.model.specs.Lists.{All, bit, keep}
use Rattle.model.specs.Applicant.{tx, tx_laf, opportunity, Standing, very_anxious_passive, very_anxious_new, anxious_new, anxious_active, quiet_active, leaving_active, becomes, speaks}
use Rattle.model.specs.LeaveAll as timer
use Rattle.model.specs.Places.{each, saying, behind, left_before, write_from}
use Rattle.model.specs.Machines.{Listed, Applicant, no_applicant, applicant, with, applicant_of, moved, way}
use Rattle.model.specs.State.{Settings, Domain, Sends, Stream, Bridge, cell_at, sends_at, sender_at, own_at, no_sends, no_sender}
use Rattle.model.specs.Registrations.{Kind, advertises, faileds, listeners, at, move_kind, change, apply_all, registered_in, domain_stays}
use Rattle.model.specs.Settling.{is_applicant, is_held, drop_unheld}
use Rattle.model.specs.Declarations.{Declaration, listed_as, listener_declaration, advertise_of, failed_of, declarations_of, of_kind, domain_of, domain_values, declarations}
use Rattle.model.specs.Writing.{leaves_all, port_way, say_on, takes_on, wrote_on, end_on, moved_at, machines, machines_of, moved_kind, moved_streams, moved_slots, moved_sender, own_leave_all, after_write, Written, write}
use Rattle.model.proofs.Lists.{all_map, and_left}
use Rattle.model.proofs.ApplicantEntries.{written, speaking}
use Rattle.model.proofs.Valid.{ValidStream, Valid}
use Rattle.model.proofs.Dropping.{dropped-none}
use Rattle.model.proofs.PlaceLists.{cons-apart, no_length, none-behind}
use Rattle.model.proofs.Passing.{taken}
use Rattle.model.proofs.WrittenList.{listed-count, machines-listed, kind-count}
use Rattle.model.proofs.WritingPasses.{declared, to_say}
use Rattle.model.proofs.PortPasses.{no-leaving, no-own-leaving, Calm, calm-way, write-gives, then-declared}

-- What holds of each element and its place, counted from i on.
module _ {A : Type 0} where
  abbrev AllAt : (ℕ → A → Type 0) → ℕ → List A → Type 0
  AllAt P i [] = Unit {0}
  AllAt P i (x ∷ l) = P i x × AllAt P (suc i) l

  at_map : (P Q : ℕ → A → Type 0) → ((j : ℕ) (x : A) → P j x → Q j x) → (i : ℕ) (l : List A) → AllAt P i l → AllAt Q i l
  at_map P Q f i [] a = tt
  at_map P Q f i (x ∷ l) a = (f i x a.0, at_map P Q f (suc i) l a.1)

  at_split : (P : ℕ → A → Type 0) (i : ℕ) (l m : List A) → AllAt P i (l ++ m) → AllAt P i l × AllAt P (i + length l) m
  at_split P i [] m a = (tt, rw (add-zero i) a)
  at_split P i (x ∷ l) m a =
      let r = at_split P (suc i) l m a.1 in
      let e : suc i + length l ≡ i + suc (length l) = omega arith in
      ((a.0, r.0), rw e at r.1)

  -- those with nothing to say
  silent-all : (f : A → Bool) (l : List A) → saying f l ≡ [] → (i : ℕ) → AllAt (λ j x. f x ≡ false) i l
  unfolding saying
  silent-all f [] e i = tt
  silent-all f (x ∷ l) e i = go (f x) refl e (silent-all f l)
    where
      go : (t : Bool) → f x ≡ t → keep t x (saying f l) ≡ [] → (saying f l ≡ [] → (i : ℕ) → AllAt (λ j y. f y ≡ false) i l) → (f x ≡ false) × AllAt (λ j y. f y ≡ false) (suc i) l
      go true q e ih = absurd (cons-apart e)
      go false q e ih = (q, ih e (suc i))

  silent-from : (f : A → Bool) (place : ℕ) (l : List A) → saying f (drop place l) ≡ [] → (i : ℕ) → AllAt (λ j x. i + place ≤ j → f x ≡ false) i l
  silent-from f zero l e i = at_map (λ j x. f x ≡ false) (λ j x. i + zero ≤ j → f x ≡ false) (λ j x h k. h) i l (silent-all f l e i)
  silent-from f (suc place) [] e i = tt
  silent-from f (suc place) (x ∷ l) e i = (
    λ h. absurd (omega (arith, h)),
    at_map (λ j y. suc i + place ≤ j → f y ≡ false) (λ j y. i + suc place ≤ j → f y ≡ false) (λ j y k h. k (omega (arith, h))) (suc i) l (silent-from f place l e (suc i)),
  )

-- what stands at a place that is changed to itself
module _ {A : Type 0} where
  at-unmoved : (p : ℕ) (u : A → A) (l : List A) (d : A) → u (get_or l p d) ≡ get_or l p d → at p u l ≡ l
  unfolding at
  at-unmoved p u [] d e = refl
  at-unmoved zero u (x ∷ l) d e = ap (λ (y : A). y ∷ l) e
  at-unmoved (suc p) u (x ∷ l) d e = ap (λ (m : List A). x ∷ m) (at-unmoved p u l d e)

-- A machine with nothing to say is quiet: it stays so.
silent-stays : (r : Bool) (q : Standing) → speaks tx q ≡ false → becomes r tx q ≡ q ∷ []
silent-stays r very_anxious_passive e = absurd (true≢false (sym speaking.0 ∙ e))
silent-stays r very_anxious_new e = absurd (true≢false (sym speaking.1 ∙ e))
silent-stays r anxious_new e = absurd (true≢false (sym speaking.2 ∙ e))
silent-stays r anxious_active e = absurd (true≢false (sym speaking.3 ∙ e))
silent-stays r quiet_active e = (written r).4
silent-stays r leaving_active e = absurd (true≢false (sym speaking.5 ∙ e))

module _ (f : ℕ → Bool → Standing → List Standing) where
  -- a machine that stays at its place
  abbrev Still : ℕ → Listed Declaration → Type 0
  Still j x = (r : Bool) → f j r x.state ≡ x.state ∷ []

  listed-still : {A : Type 0} (h : A → Declaration) (i : ℕ) (a : Applicant A) → AllAt Still i (listed_as h a) → (r : Bool) → moved (f i r) a ≡ a
  unfolding listed_as moved
  listed-still h i no_applicant s r = refl
  listed-still h i (applicant x) s r = rw (s.0 r) (unfold applicant_of with in refl)

  sends-still : (k : Kind) (id i : ℕ) (s : Sends) → AllAt Still i (declarations_of k id s) → (r : Bool) → move_kind k (f i r) s ≡ s
  unfolding declarations_of move_kind
  sends-still advertises id i s a r = rw (listed-still (advertise_of id) i s.advertising a r)
  sends-still faileds id i s a r = rw (listed-still (failed_of id) i s.failing a r)
  sends-still listeners id i s a r = rw (listed-still (listener_declaration id) i s.listening a r)

  kind-still : (k : Kind) (p i : ℕ) (s : List Stream) → AllAt Still i (of_kind k p s) → moved_kind f k p i s ≡ s
  unfolding of_kind moved_kind
  kind-still k p i [] a = refl
  kind-still k p i (x ∷ s) a = go (kind-still k p (i + machines k (sends_at x p)) s)
    where
      parts : AllAt Still i (declarations_of k x.id (sends_at x p)) × AllAt Still (i + length (declarations_of k x.id (sends_at x p))) (of_kind k p s)
      parts = at_split Still i (declarations_of k x.id (sends_at x p)) (of_kind k p s) a

      here : change (λ cs. cs) (at p (move_kind k (f i (registered_in k (cell_at x p))))) x ≡ x
      here =
          unfold change sends_at in
          (rw (at-unmoved p (move_kind k (f i (registered_in k (cell_at x p)))) x.sends no_sends (sends-still k x.id i (get_or x.sends p no_sends) parts.0 (registered_in k (cell_at x p)))))

      go : (AllAt Still (i + machines k (sends_at x p)) (of_kind k p s) → moved_kind f k p (i + machines k (sends_at x p)) s ≡ s)
          → change (λ cs. cs) (at p (move_kind k (f i (registered_in k (cell_at x p))))) x ∷ moved_kind f k p (i + machines k (sends_at x p)) s ≡ x ∷ s
      go ih = ap₂ (λ (y : Stream) (t : List Stream). y ∷ t) here (ih (rw (machines-listed k x.id (sends_at x p)) at parts.1))

  slots-still : (st : Settings) (i j : ℕ) (ds : List Domain) (l : List (Applicant (Unit {0}))) → AllAt Still i (domain_values st j l) → moved_slots f i ds l ≡ l
  unfolding domain_values moved_slots
  slots-still st i j [] l a = refl
  slots-still st i j (d ∷ ds) [] a = refl
  slots-still st i j (d ∷ ds) (m ∷ l) a = go (slots-still st (i + bit (is_applicant m)) (suc j) ds l)
    where
      parts : AllAt Still i (listed_as (λ (u : Unit {0}). domain_of st j) m) × AllAt Still (i + length (listed_as (λ (u : Unit {0}). domain_of st j) m)) (domain_values st (suc j) l)
      parts = at_split Still i (listed_as (λ (u : Unit {0}). domain_of st j) m) (domain_values st (suc j) l) a

      go : (AllAt Still (i + bit (is_applicant m)) (domain_values st (suc j) l) → moved_slots f (i + bit (is_applicant m)) ds l ≡ l)
          → moved (f i (domain_stays d)) m ∷ moved_slots f (i + bit (is_applicant m)) ds l ≡ m ∷ l
      go ih =
          ap₂ (λ (y : Applicant (Unit {0})) (t : List (Applicant (Unit {0}))). y ∷ t)
          (listed-still (λ (u : Unit {0}). domain_of st j) i m parts.0 (domain_stays d))
          (ih (rw (listed-count (λ (u : Unit {0}). domain_of st j) m) at parts.1))

-- The bridge.
module _ (b : Bridge) (v : Valid b) (p place : ℕ) (none : leaves_all b p ≡ false) (silent : saying (port_way b p).says (drop place (declarations b p)) ≡ []) where
  abbrev f : ℕ → Bool → Standing → List Standing
  f = moved_at (leaves_all b p) place (end_on b p place)

  abbrev s : List Stream
  s = b.streams

  abbrev failed_place : ℕ
  failed_place = machines_of advertises p s

  abbrev listener_place : ℕ
  listener_place = machines_of advertises p s + machines_of faileds p s

  abbrev domain_place : ℕ
  domain_place = machines_of advertises p s + machines_of faileds p s + machines_of listeners p s

  calm-silent : saying (λ (x : Listed Declaration). speaks tx x.state) (drop place (declarations b p)) ≡ []
  unfolding way
  calm-silent = rw (calm-way b p none) at silent

  -- from the place on all are quiet, and before it none is moved
  stays_at : (j : ℕ) (x : Listed Declaration) → (0 + place ≤ j → speaks tx x.state ≡ false) → Still f j x
  unfolding moved_at
  stays_at j x h r = go (leaves_all b p) none (leb place j && ltb j (end_on b p place)) refl
    where
      go : (all : Bool) → all ≡ false → (t : Bool) → (leb place j && ltb j (end_on b p place)) ≡ t
          → cond t (becomes r (opportunity all) x.state) (cond all (becomes r tx_laf x.state) (x.state ∷ [])) ≡ x.state ∷ []
      go true e t q = absurd (true≢false e)
      go false e true q =
          let there : place ≤ j = leb-true place j (and_left (leb place j) (ltb j (end_on b p place)) q) in
          unfold opportunity in (silent-stays r x.state (h (omega (arith, there))))
      go false e false q = refl

  still-all : AllAt (Still f) 0 (declarations b p)
  still-all =
      at_map (λ j x. 0 + place ≤ j → speaks tx x.state ≡ false) (Still f) stays_at 0 (declarations b p)
      (silent-from (λ (x : Listed Declaration). speaks tx x.state) place (declarations b p) calm-silent 0)

  abbrev domains : List (Listed Declaration)
  domains = domain_values b.settings 0 (sender_at b.senders p).domains

  -- type by type
  record ByType : Type 0 where
    advertising : AllAt (Still f) 0 (of_kind advertises p s)
    failing : AllAt (Still f) failed_place (of_kind faileds p s)
    listening : AllAt (Still f) listener_place (of_kind listeners p s)
    own_values : AllAt (Still f) domain_place domains

  by-type : ByType
  by-type =
      let one = at_split (Still f) 0 (of_kind advertises p s) (of_kind faileds p s ++ (of_kind listeners p s ++ domains)) (unfold declarations in still-all) in
      let two = at_split (Still f) (0 + length (of_kind advertises p s)) (of_kind faileds p s) (of_kind listeners p s ++ domains) one.1 in
      let three = at_split (Still f) (0 + length (of_kind advertises p s) + length (of_kind faileds p s)) (of_kind listeners p s) domains two.1 in
      let e : 0 + length (of_kind advertises p s) ≡ failed_place = omega (arith, kind-count advertises p s) in
      let g : 0 + length (of_kind advertises p s) + length (of_kind faileds p s) ≡ listener_place = omega (arith, kind-count advertises p s, kind-count faileds p s) in
      let h : 0 + length (of_kind advertises p s) + length (of_kind faileds p s) + length (of_kind listeners p s) ≡ domain_place =
      omega (arith, kind-count advertises p s, kind-count faileds p s, kind-count listeners p s) in
      record { advertising = one.0; failing = rw e at two.0; listening = rw g at three.0; own_values = rw h at three.1 }

  streams-still : moved_streams f p s ≡ s
  unfolding moved_streams
  streams-still =
      ap (λ (t : List Stream). moved_kind f listeners p listener_place (moved_kind f faileds p failed_place t)) (kind-still f advertises p 0 s by-type.advertising)
      ∙ ap (moved_kind f listeners p listener_place) (kind-still f faileds p failed_place s by-type.failing)
      ∙ kind-still f listeners p listener_place s by-type.listening

  all_held : All (λ x. is_held x ≡ true) s
  all_held = all_map (ValidStream (length b.settings.ports) b.clock b.settings.leave_time) (λ x. is_held x ≡ true) (λ x w. w.is-held) s v.streams

  streams-then : drop_unheld (apply_all b.clock p (own_leave_all (leaves_all b p)) (moved_streams f p s)) ≡ s
  streams-then =
      ap drop_unheld (no-leaving b.clock p (leaves_all b p) none (moved_streams f p s) ∙ streams-still)
      ∙ dropped-none s all_held

  timer-still : (m : timer.LeaveAll) → cond (leaves_all b p) (timer.leave_all_next b.clock timer.tx m) m ≡ m
  timer-still m = ap (λ (t : Bool). cond t (timer.leave_all_next b.clock timer.tx m) m) none

  sender-still : moved_sender f b.clock (leaves_all b p) (own_at b.owns p) domain_place (get_or b.senders p no_sender) ≡ get_or b.senders p no_sender
  unfolding moved_sender
  sender-still =
      let x = get_or b.senders p no_sender in
      rw (slots-still f b.settings domain_place 0 (own_at b.owns p).domains x.domains (unfold sender_at in by-type.own_values), timer-still x.leave_all)

  pub unchanged : after_write b p place ≡ b
  unfolding after_write
  unchanged =
      rw (
        streams-then,
        no-own-leaving b.clock p (leaves_all b p) none b.owns,
        at-unmoved p (moved_sender f b.clock (leaves_all b p) (own_at b.owns p) domain_place) b.senders no_sender sender-still,
      )

-- The call.
module _ (b : Bridge) (p place : ℕ) (c : Calm b p place) (nothing : to_say b p place ≡ []) where
  none-to-say : saying (port_way b (p - 1)).says (drop place (declarations b (p - 1))) ≡ []
  unfolding to_say declared
  none-to-say =
      let l : List (Listed Declaration) = saying (port_way b (p - 1)).says (drop place (declarations b (p - 1))) in
      let short : length (map (say_on b (p - 1)) l) ≤ 0 = rw nothing (omega arith) in
      no_length l (rw (length-map l (say_on b (p - 1))) at short)

  -- "With nothing to write and no LeaveAll due the next place is the list's length, and nothing changes"
  pub write-unchanged : (write b p place).bridge ≡ b
  write-unchanged =
      ap (λ (w : Written). w.bridge) (write-gives b p place c.within)
      ∙ unchanged b c.valid (p - 1) place c.none none-to-say

  whole-list : (wrote_on b (p - 1) place).list ≡ declared b p
  whole-list = sym (then-declared b p place c.valid c.port c.within) ∙ ap (λ (d : Bridge). declared d p) write-unchanged

  pub write-at-end : (write b p place).next ≡ length (declared b p)
  write-at-end =
      ap (λ (w : Written). w.next) (write-gives b p place c.within) ∙ next-whole ∙ ap length whole-list
    where
      n : ℕ
      n = taken (port_way b (p - 1)) (takes_on b (p - 1)) place (declarations b (p - 1))

      before : List (Listed Declaration)
      before = left_before (port_way b (p - 1)) n place (declarations b (p - 1))

      behind-none : behind (port_way b (p - 1)).says n (drop place (declarations b (p - 1))) ≡ []
      behind-none = none-behind (port_way b (p - 1)).says n (drop place (declarations b (p - 1))) none-to-say

      ended : before ++ each (port_way b (p - 1)).outside [] ≡ before
      ended = unfold each in (append-nil before)

      next-whole : (wrote_on b (p - 1) place).next ≡ length (wrote_on b (p - 1) place).list
      next-whole =
          unfold wrote_on write_from taken in
          (sym (ap (λ (r : List (Listed Declaration)). length (before ++ each (port_way b (p - 1)).outside r)) behind-none ∙ ap length ended))
