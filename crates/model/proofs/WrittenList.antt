-- The machines of a port, moved by their places in its list and by their Registrars, are the list that a write leaves.
use mathlib.Core.Path.{◌≡◌, refl, sym, ◌∙◌, ap, ap₂}
use mathlib.Core.List.{List, [], ◌∷◌, ◌++◌, map, append_assoc}
use mathlib.Core.Bool.{Bool, true, false, cond, ◌&&◌, ◌||◌, true≢false}
use Prim.Native.Nat.{ℕ, zero, suc, ◌+◌, ◌/◌, ◌%◌, ◌≤◌, ◌<◌}
use native.Mathlib.Nat.{add-zero}
use native.Mathlib.Omega.{arith}
use lib.ListN.{length, get_or, take, drop, take-append-drop, length-append}
use lib.Seq.{length-take-le}
use lib.Dec.{leb, ltb}
use borrow.Author.Tests.{lt-ltb, le-ltb, le-leb, lt-leb, eq-eqb, ne_eqb}
use Rattle.model.specs.Lists.{All, bit, keep}
use Rattle.model.specs.Applicant.{ApplicantState, vo, vp, vn, an, aa, qa, la, lo, tx_laf, opportunity, Standing, standing, applicant_entry, named, becomes}
use Rattle.model.specs.Places.{Way, itself, each, reached, behind, left_before, write_from}
use Rattle.model.specs.Machines.{Listed, Applicant, no_applicant, applicant, with, applicant_of, after, moved, way}
use Rattle.model.specs.State.{Settings, Cell, Domain, no_domain, Ready, Offer, Failure, Sends, Sender, Stream, Bridge, cell_at, sends_at, sender_at, own_at, slot_of, empty, no_sends, no_sender}
use Rattle.model.specs.Registrations.{Kind, advertises, faileds, listeners, leave_all, does, moves, at, move_kind, change, reach, apply, apply_all, registered_in, domain_stays, ids}
use Rattle.model.specs.Settling.{is_applicant, held, is_sending, any_sending, is_held, drop_unheld}
use Rattle.model.specs.Declarations.{Declaration, talker_kind, listed_as, listener_declaration, advertise_of, failed_of, declarations_of, of_kind, domain_of, domain_values, declarations, registered_of, is_registered}
use Rattle.model.specs.Writing.{leaves_all, port_way, takes_on, wrote_on, end_on, moved_at, machines, machines_of, moved_kind, moved_streams, moved_slots, moved_sender, own_leave_all, after_write}
use Rattle.model.proofs.Lists.{all_map, at_each, at_here, at_other}
use Rattle.model.proofs.Valid.{Rising}
use Rattle.model.proofs.AdvanceKeepsForm.{or-false}
use Rattle.model.proofs.PlaceLists.{reached-behind}
use Rattle.model.proofs.Passing.{taken, list-is}

-- Of any list: what is left of each by its place, counted from i on.

module _ {A : Type 0} where
  unfoldable pub each_at : (ℕ → A → List A) → ℕ → List A → List A
  each_at f i [] = []
  each_at f i (x ∷ l) = f i x ++ each_at f (suc i) l

  -- lists one behind the other: places go on
  pub at-append : (f : ℕ → A → List A) (i : ℕ) (l m : List A) → each_at f i (l ++ m) ≡ each_at f i l ++ each_at f (i + length l) m
  unfolding each_at
  at-append f i [] m = ap (λ (j : ℕ). each_at f j m) (sym (add-zero i))
  at-append f i (x ∷ l) m =
      let e : suc i + length l ≡ i + suc (length l) = omega arith in
      ap (λ (r : List A). f i x ++ r) (at-append f (suc i) l m ∙ ap (λ (j : ℕ). each_at f (suc i) l ++ each_at f j m) e)
      ∙ sym (append_assoc (f i x) (each_at f (suc i) l) (each_at f (i + suc (length l)) m))

  -- where all from a place on are moved alike
  at-alike : (f : ℕ → A → List A) (g : A → List A) (i : ℕ) (l : List A)
      → ((j : ℕ) → i ≤ j → j < i + length l → (x : A) → f j x ≡ g x) → each_at f i l ≡ each g l
  unfolding each_at each
  at-alike f g i [] h = refl
  at-alike f g i (x ∷ l) h =
      ap₂ (λ (a b : List A). a ++ b) (h i (omega arith) (omega arith) x)
      (at-alike f g (suc i) l (λ j p q y. h j (omega arith) (omega arith) y))

  pub at_same : (f g : ℕ → A → List A) → ((i : ℕ) (x : A) → f i x ≡ g i x) → (i : ℕ) (l : List A) → each_at f i l ≡ each_at g i l
  unfolding each_at
  at_same f g h i [] = refl
  at_same f g h i (x ∷ l) = ap₂ (λ (a b : List A). a ++ b) (h i x) (at_same f g h (suc i) l)

  -- from a place up to an end by one rule, elsewhere by another
  unfoldable pub at_place : Way A → ℕ → ℕ → ℕ → A → List A
  at_place w place end i x = cond (leb place i && ltb i end) (w.inside x) (w.outside x)

  -- before the place, reached, and behind
  at-three : (w : Way A) (a b c : List A)
      → each_at (at_place w (length a) (length a + length b)) 0 (a ++ (b ++ c)) ≡ each w.outside a ++ (each w.inside b ++ each w.outside c)
  at-three w a b c =
      at-append f 0 a (b ++ c)
      ∙ ap₂ (λ (p q : List A). p ++ q) (at-alike f w.outside 0 a before)
      (at-append f (0 + length a) b c
      ∙ ap₂ (λ (p q : List A). p ++ q) (at-alike f w.inside (0 + length a) b within) (at-alike f w.outside (0 + length a + length b) c past))
    where
      f : ℕ → A → List A
      f = at_place w (length a) (length a + length b)

      before : (j : ℕ) → 0 ≤ j → j < 0 + length a → (x : A) → f j x ≡ w.outside x
      before j p q x = unfold at_place in (rw (lt-leb (length a) j (omega arith)))

      within : (j : ℕ) → 0 + length a ≤ j → j < 0 + length a + length b → (x : A) → f j x ≡ w.inside x
      within j p q x = unfold at_place in (rw (le-leb (length a) j (omega arith), lt-ltb j (length a + length b) (omega arith)))

      past : (j : ℕ) → 0 + length a + length b ≤ j → j < 0 + length a + length b + length c → (x : A) → f j x ≡ w.outside x
      past j p q x = unfold at_place in (rw (le-leb (length a) j (omega arith), le-ltb j (length a + length b) (omega arith)))

  -- moved by place up to the end that a PDU reaches: the list that the write leaves
  pub moved-list : (w : Way A) (takes : List A → ℕ) (place : ℕ) (l : List A) → place ≤ length l
      → each_at (at_place w place (place + length (reached w.says (taken w takes place l) (drop place l)))) 0 l ≡ (write_from w takes place l).list
  moved-list w takes place l h =
      ap (each_at (at_place w place (place + length b)) 0) (sym whole)
      ∙ rw long at (at-three w a b c)
      ∙ sym (list-is w takes place l ∙ unfold left_before in (append_assoc (each w.outside a) (each w.inside b) (each w.outside c)))
    where
      a : List A
      a = take place l

      b : List A
      b = reached w.says (taken w takes place l) (drop place l)

      c : List A
      c = behind w.says (taken w takes place l) (drop place l)

      long : length a ≡ place
      long = length-take-le place l h

      whole : a ++ (b ++ c) ≡ l
      whole = ap (λ (r : List A). a ++ r) (reached-behind w.says (taken w takes place l) (drop place l)) ∙ take-append-drop place l

-- Registrars: by ascending StreamID the registration asked for is that of the stream itself.

-- further behind no stream has the StreamID
registered-later : (k : Kind) (p : ℕ) (y : Stream) (s : List Stream) → (x : Stream) → y.id < x.id
    → registered_of k p x.id (y ∷ s) ≡ registered_of k p x.id s
unfolding registered_of
registered-later k p y s x h = rw (ne_eqb y.id x.id (λ e. omega (arith, h, e)))

pub registered-self : (k : Kind) (p : ℕ) (s : List Stream) → Rising (ids s) → All (λ x. registered_of k p x.id s ≡ registered_in k (cell_at x p)) s
unfolding Rising ids
registered-self k p [] r = tt
registered-self k p (y ∷ s) r = (unfold registered_of in (rw (eq-eqb y.id y.id refl)), go s r.0 (registered-self k p s r.1))
  where
    go : (t : List Stream) → All (λ j. y.id < j) (map (λ (x : Stream). x.id) t) → All (λ x. registered_of k p x.id s ≡ registered_in k (cell_at x p)) t
        → All (λ x. registered_of k p x.id (y ∷ s) ≡ registered_in k (cell_at x p)) t
    go [] a b = tt
    go (x ∷ t) a b = (registered-later k p y s x a.0 ∙ b.0, go t a.1 b.1)

-- Machines, each moved by its place and its Registrar.

-- at most one is left of a machine
pub standing-one : (x : ApplicantState) → length (standing x) ≤ 1
unfolding standing
standing-one vo = omega arith
standing-one vp = omega arith
standing-one vn = omega arith
standing-one an = omega arith
standing-one aa = omega arith
standing-one qa = omega arith
standing-one la = omega arith
standing-one lo = omega arith

pub moved-one : (all : Bool) (place end i : ℕ) (r : Bool) (q : Standing) → length (moved_at all place end i r q) ≤ 1
unfolding moved_at becomes
moved-one all place end i r q = go all (leb place i && ltb i end)
  where
    go : (all t : Bool) → length (cond t (becomes r (opportunity all) q) (cond all (becomes r tx_laf q) (q ∷ []))) ≤ 1
    go all true = standing-one (applicant_entry r (opportunity all) (named q)).next
    go true false = standing-one (applicant_entry r tx_laf (named q)).next
    go false false = omega arith

-- what stands at a place that is changed, whether it is there or not
at_default : {A : Type 0} (p : ℕ) (u : A → A) (l : List A) (d : A) → u d ≡ d → get_or (at p u l) p d ≡ u (get_or l p d)
unfolding at
at_default p u [] d e = sym e
at_default zero u (x ∷ l) d e = refl
at_default (suc p) u (x ∷ l) d e = at_default p u l d e

pub none-moved : (k : Kind) (f : Standing → List Standing) → move_kind k f no_sends ≡ no_sends
unfolding move_kind no_sends moved
none-moved advertises f = refl
none-moved faileds f = refl
none-moved listeners f = refl

-- two types
abbrev Apart : Kind → Kind → Type 0
Apart advertises advertises = ⊥
Apart advertises faileds = Unit {0}
Apart advertises listeners = Unit {0}
Apart faileds advertises = Unit {0}
Apart faileds faileds = ⊥
Apart faileds listeners = Unit {0}
Apart listeners advertises = Unit {0}
Apart listeners faileds = Unit {0}
Apart listeners listeners = ⊥

apart-stays : (k j : Kind) → Apart k j → (f : Standing → List Standing) (id : ℕ) (s : Sends) → declarations_of k id (move_kind j f s) ≡ declarations_of k id s
unfolding declarations_of move_kind
apart-stays advertises advertises n f id s = absurd n
apart-stays advertises faileds n f id s = refl
apart-stays advertises listeners n f id s = refl
apart-stays faileds advertises n f id s = refl
apart-stays faileds faileds n f id s = absurd n
apart-stays faileds listeners n f id s = refl
apart-stays listeners advertises n f id s = refl
apart-stays listeners faileds n f id s = refl
apart-stays listeners listeners n f id s = absurd n

pub listed-count : {A : Type 0} (h : A → Declaration) (a : Applicant A) → length (listed_as h a) ≡ bit (is_applicant a)
unfolding listed_as bit is_applicant
listed-count h no_applicant = refl
listed-count h (applicant x) = refl

pub machines-listed : (k : Kind) (id : ℕ) (s : Sends) → length (declarations_of k id s) ≡ machines k s
unfolding declarations_of machines
machines-listed advertises id s = listed-count (advertise_of id) s.advertising
machines-listed faileds id s = listed-count (failed_of id) s.failing
machines-listed listeners id s = listed-count (listener_declaration id) s.listening

-- all streams' machines of a type are so many
pub kind-count : (k : Kind) (p : ℕ) (s : List Stream) → length (of_kind k p s) ≡ machines_of k p s
unfolding of_kind machines_of
kind-count k p [] = refl
kind-count k p (x ∷ s) =
    length-append (declarations_of k x.id (sends_at x p)) (of_kind k p s)
    ∙ ap₂ (λ (m n : ℕ). m + n) (machines-listed k x.id (sends_at x p)) (kind-count k p s)

pub kind-here : (k : Kind) (p : ℕ) (g : Standing → List Standing) (x : Stream)
    → sends_at (change (λ cs. cs) (at p (move_kind k g)) x) p ≡ move_kind k g (sends_at x p)
unfolding change sends_at
kind-here k p g x = at_default p (move_kind k g) x.sends no_sends (none-moved k g)

module _ (f : ℕ → Bool → Standing → List Standing) (one : (i : ℕ) (r : Bool) (q : Standing) → length (f i r q) ≤ 1) (reg : Declaration → Bool) where
  -- what is left of a declaration at place i
  unfoldable pub left_at : ℕ → Listed Declaration → List (Listed Declaration)
  left_at i x = map (with x.value) (f i (reg x.value) x.state)

  -- one machine
  listed-moved : {A : Type 0} (h : A → Declaration) (r : Bool) → ((v : A) → reg (h v) ≡ r) → (i : ℕ) (a : Applicant A)
      → listed_as h (moved (f i r) a) ≡ each_at left_at i (listed_as h a)
  unfolding listed_as moved each_at left_at
  listed-moved h r e i no_applicant = refl
  listed-moved {A} h r e i (applicant x) = rw (e x.value) (go (f i r x.state) (one i r x.state))
    where
      go : (m : List Standing) → length m ≤ 1 → listed_as h (applicant_of (map (with x.value) m)) ≡ map (with (h x.value)) m ++ []
      go [] h = unfold applicant_of in refl
      go (q ∷ []) h = unfold applicant_of with in refl
      go (q ∷ t ∷ m) h = absurd (omega arith)

  -- a stream's Registrar of a type, whatever its values
  abbrev Asked : Kind → ℕ → Bool → Type 0
  Asked advertises id r = (v : Offer) → reg (advertise_of id v) ≡ r
  Asked faileds id r = (v : Offer × Failure) → reg (failed_of id v) ≡ r
  Asked listeners id r = (v : Ready) → reg (listener_declaration id v) ≡ r

  sends-moved : (k : Kind) (id : ℕ) (r : Bool) → Asked k id r → (i : ℕ) (s : Sends)
      → declarations_of k id (move_kind k (f i r) s) ≡ each_at left_at i (declarations_of k id s)
  unfolding declarations_of move_kind
  sends-moved advertises id r e i s = listed-moved (advertise_of id) r e i s.advertising
  sends-moved faileds id r e i s = listed-moved (failed_of id) r e i s.failing
  sends-moved listeners id r e i s = listed-moved (listener_declaration id) r e i s.listening

  -- all streams' machines of a type
  kind-moved : (k : Kind) (p i : ℕ) (s : List Stream) → All (λ x. Asked k x.id (registered_in k (cell_at x p))) s
      → of_kind k p (moved_kind f k p i s) ≡ each_at left_at i (of_kind k p s)
  unfolding of_kind moved_kind change
  kind-moved k p i [] a = unfold each_at in refl
  kind-moved k p i (x ∷ s) a =
      ap₂ (λ (l m : List (Listed Declaration)). l ++ m)
      (ap (declarations_of k x.id) (kind-here k p (f i r) x) ∙ sends-moved k x.id r a.0 i (sends_at x p))
      (kind-moved k p (i + machines k (sends_at x p)) s a.1)
      ∙ ap (λ (n : ℕ). each_at left_at i (declarations_of k x.id (sends_at x p)) ++ each_at left_at (i + n) (of_kind k p s)) (sym (machines-listed k x.id (sends_at x p)))
      ∙ sym (at-append left_at i (declarations_of k x.id (sends_at x p)) (of_kind k p s))
    where
      r : Bool
      r = registered_in k (cell_at x p)

  -- what is asked of a stream by its StreamID and its cells stays
  asked-stays : (P : ℕ → List Cell → Type 0) (k : Kind) (p i : ℕ) (s : List Stream)
      → All (λ x. P x.id x.cells) s → All (λ x. P x.id x.cells) (moved_kind f k p i s)
  unfolding moved_kind change
  asked-stays P k p i [] a = tt
  asked-stays P k p i (x ∷ s) a = (a.0, asked-stays P k p (i + machines k (sends_at x p)) s a.1)

  -- the machines of another type stay
  kind-stays : (k j : Kind) → Apart k j → (p i : ℕ) (s : List Stream) → of_kind k p (moved_kind f j p i s) ≡ of_kind k p s
  unfolding of_kind moved_kind change sends_at
  kind-stays k j n p i [] = refl
  kind-stays k j n p i (x ∷ s) =
      ap₂ (λ (l m : List (Listed Declaration)). l ++ m)
      (at_each (declarations_of k x.id) p (move_kind j (f i (registered_in j (cell_at x p)))) (λ y. apart-stays k j n (f i (registered_in j (cell_at x p))) x.id y) x.sends p no_sends)
      (kind-stays k j n p (i + machines j (sends_at x p)) s)

  -- the streams' list: Advertise, Failed, Listener
  module _ (p : ℕ) (s : List Stream)
      (a : All (λ x. Asked advertises x.id (registered_in advertises (get_or x.cells p empty))) s)
      (b : All (λ x. Asked faileds x.id (registered_in faileds (get_or x.cells p empty))) s)
      (c : All (λ x. Asked listeners x.id (registered_in listeners (get_or x.cells p empty))) s) where
    abbrev failed_place : ℕ
    failed_place = machines_of advertises p s

    abbrev listener_place : ℕ
    listener_place = machines_of advertises p s + machines_of faileds p s

    first : List Stream
    first = moved_kind f advertises p 0 s

    second : List Stream
    second = moved_kind f faileds p failed_place first

    streams-are : moved_streams f p s ≡ moved_kind f listeners p listener_place second
    unfolding moved_streams second first
    streams-are = refl

    advertises-moved : of_kind advertises p (moved_streams f p s) ≡ each_at left_at 0 (of_kind advertises p s)
    unfolding first second
    advertises-moved =
        ap (of_kind advertises p) streams-are
        ∙ kind-stays advertises listeners tt p listener_place second
        ∙ kind-stays advertises faileds tt p failed_place first
        ∙ kind-moved advertises p 0 s (unfold cell_at in a)

    faileds-moved : of_kind faileds p (moved_streams f p s) ≡ each_at left_at failed_place (of_kind faileds p s)
    unfolding first second
    faileds-moved =
        ap (of_kind faileds p) streams-are
        ∙ kind-stays faileds listeners tt p listener_place second
        ∙ kind-moved faileds p failed_place first
        (unfold cell_at in (asked-stays (λ i cs. Asked faileds i (registered_in faileds (get_or cs p empty))) advertises p 0 s b))
        ∙ ap (each_at left_at failed_place) (kind-stays faileds advertises tt p 0 s)

    listeners-moved : of_kind listeners p (moved_streams f p s) ≡ each_at left_at listener_place (of_kind listeners p s)
    unfolding first second
    listeners-moved =
        ap (of_kind listeners p) streams-are
        ∙ kind-moved listeners p listener_place second
        (unfold cell_at in
        (asked-stays (λ i cs. Asked listeners i (registered_in listeners (get_or cs p empty))) faileds p failed_place first
        (asked-stays (λ i cs. Asked listeners i (registered_in listeners (get_or cs p empty))) advertises p 0 s c)))
        ∙ ap (each_at left_at listener_place) (kind-stays listeners faileds tt p failed_place first ∙ kind-stays listeners advertises tt p 0 s)

  -- Domain values, slot by slot
  slots-moved : (st : Settings) (i j : ℕ) (ds : List Domain) (l : List (Applicant (Unit {0}))) → length ds ≡ length l
      → ((n : ℕ) → n < length ds → reg (domain_of st (j + n)) ≡ domain_stays (get_or ds n no_domain))
      → domain_values st j (moved_slots f i ds l) ≡ each_at left_at i (domain_values st j l)
  unfolding domain_values moved_slots
  slots-moved st i j [] [] e h = unfold each_at in refl
  slots-moved st i j [] (a ∷ l) e h = absurd (omega arith)
  slots-moved st i j (d ∷ ds) [] e h = absurd (omega arith)
  slots-moved st i j (d ∷ ds) (a ∷ l) e h =
      ap₂ (λ (m n : List (Listed Declaration)). m ++ n)
      (listed-moved (λ (u : Unit {0}). domain_of st j) (domain_stays d) (λ u. own) i a)
      (slots-moved st (i + bit (is_applicant a)) (suc j) ds l (omega arith) later)
      ∙ ap (λ (n : ℕ). each_at left_at i (listed_as (λ (u : Unit {0}). domain_of st j) a) ++ each_at left_at (i + n) (domain_values st (suc j) l)) (sym (listed-count (λ (u : Unit {0}). domain_of st j) a))
      ∙ sym (at-append left_at i (listed_as (λ (u : Unit {0}). domain_of st j) a) (domain_values st (suc j) l))
    where
      own : reg (domain_of st j) ≡ domain_stays d
      own =
          let z : j + 0 ≡ j = omega arith in
          rw z at (h 0 (omega arith))

      later : (n : ℕ) → n < length ds → reg (domain_of st (suc j + n)) ≡ domain_stays (get_or ds n no_domain)
      later n k =
          let z : j + suc n ≡ suc j + n = omega arith in
          rw z at (h (suc n) (omega arith))

-- What a write does beside: LeaveAll's leavings move no machine, on whatever port, and a stream that goes has none.

module _ (p q : ℕ) (k : Kind) where
  list_same : (u : Stream → Stream) → ((x : Stream) → ((u x).id ≡ x.id) × (sends_at (u x) q ≡ sends_at x q)) → (s : List Stream) → of_kind k q (map u s) ≡ of_kind k q s
  unfolding of_kind
  list_same u h [] = refl
  list_same u h (x ∷ s) = ap₂ (λ (l m : List (Listed Declaration)). l ++ m) (ap₂ (declarations_of k) (h x).0 (h x).1) (list_same u h s)

  left-same : (now : ℕ) (j : Kind) (s : List Stream) → of_kind k q (apply now p (leave_all j) s) ≡ of_kind k q s
  unfolding apply reach
  left-same now j s =
      list_same (change (at p (does now (leave_all j))) (at p (moves (leave_all j)))) (λ x. unfold change sends_at moves in (refl, at_each (λ (y : Sends). y) p (λ y. y) (λ y. refl) x.sends q no_sends)) s

  leaving-list : (now : ℕ) (all : Bool) (s : List Stream) → of_kind k q (apply_all now p (own_leave_all all) s) ≡ of_kind k q s
  unfolding apply_all own_leave_all
  leaving-list now false s = refl
  leaving-list now true s =
      unfold apply reach in
      (left-same now listeners (apply now p (leave_all faileds) (apply now p (leave_all advertises) s))
      ∙ left-same now faileds (apply now p (leave_all advertises) s)
      ∙ left-same now advertises s)

-- a stream that sends nothing anywhere has no machine on a port
pub none-there : (l : List Sends) (p : ℕ) → any_sending l ≡ false → is_sending (get_or l p no_sends) ≡ false
unfolding any_sending
none-there [] p e = unfold is_sending no_sends is_applicant in refl
none-there (s ∷ l) zero e = (or-false (is_sending s) (any_sending l) e).0
none-there (s ∷ l) (suc p) e = none-there l p (or-false (is_sending s) (any_sending l) e).1

no-machine : {A : Type 0} (h : A → Declaration) (a : Applicant A) → is_applicant a ≡ false → listed_as h a ≡ []
unfolding listed_as is_applicant
no-machine h no_applicant e = refl
no-machine h (applicant x) e = absurd (true≢false e)

nothing-listed : (k : Kind) (id : ℕ) (s : Sends) → is_sending s ≡ false → declarations_of k id s ≡ []
unfolding declarations_of is_sending
nothing-listed k id s e = go k (or-false (is_applicant s.advertising || is_applicant s.failing) (is_applicant s.listening) e)
  where
    go : (k : Kind) → ((is_applicant s.advertising || is_applicant s.failing) ≡ false) × (is_applicant s.listening ≡ false) → declarations_of k id s ≡ []
    go advertises h = no-machine (advertise_of id) s.advertising (or-false (is_applicant s.advertising) (is_applicant s.failing) h.0).0
    go faileds h = no-machine (failed_of id) s.failing (or-false (is_applicant s.advertising) (is_applicant s.failing) h.0).1
    go listeners h = no-machine (listener_declaration id) s.listening h.1

pub dropped-list : (k : Kind) (p : ℕ) (s : List Stream) → of_kind k p (drop_unheld s) ≡ of_kind k p s
unfolding of_kind drop_unheld
dropped-list k p [] = refl
dropped-list k p (x ∷ s) = go (is_held x) refl (dropped-list k p s)
  where
    go : (t : Bool) → is_held x ≡ t → of_kind k p (drop_unheld s) ≡ of_kind k p s → of_kind k p (keep t x (drop_unheld s)) ≡ declarations_of k x.id (sends_at x p) ++ of_kind k p s
    go true e ih = ap (λ (l : List (Listed Declaration)). declarations_of k x.id (sends_at x p) ++ l) ih
    go false e ih =
        let none : declarations_of k x.id (sends_at x p) ≡ [] =
        nothing-listed k x.id (sends_at x p) (unfold is_held sends_at in (none-there x.sends p (or-false (held x.cells) (any_sending x.sends) e).1)) in
        rw none ih

-- The port's list, after a write from a place of it.

-- what `after_write` asks of a bridge: StreamIDs rise, and the port has a slot for each of its Domain machines
pub record ListedPort (b : Bridge) (p : ℕ) : Type 0 where
  pub ascending : Rising (ids b.streams)
  pub sender : p < length b.senders
  pub slots : length (own_at b.owns p).domains ≡ length (sender_at b.senders p).domains

module _ (b : Bridge) (p place : ℕ) (v : ListedPort b p) (h : place ≤ length (declarations b p)) where
  abbrev all : Bool
  all = leaves_all b p

  abbrev reg : Declaration → Bool
  reg = is_registered b p

  f : ℕ → Bool → Standing → List Standing
  f = moved_at all place (end_on b p place)

  one : (i : ℕ) (r : Bool) (q : Standing) → length (f i r q) ≤ 1
  unfolding f
  one i r q = moved-one all place (end_on b p place) i r q

  abbrev g : ℕ → Listed Declaration → List (Listed Declaration)
  g = left_at f one reg

  asks-advertises : All (λ x. Asked f one reg advertises x.id (registered_in advertises (get_or x.cells p empty))) b.streams
  unfolding is_registered advertise_of talker_kind cell_at
  asks-advertises = all_map _ _ (λ x e v. e) b.streams (registered-self advertises p b.streams v.ascending)

  asks-faileds : All (λ x. Asked f one reg faileds x.id (registered_in faileds (get_or x.cells p empty))) b.streams
  unfolding is_registered failed_of talker_kind cell_at
  asks-faileds = all_map _ _ (λ x e v. e) b.streams (registered-self faileds p b.streams v.ascending)

  asks-listeners : All (λ x. Asked f one reg listeners x.id (registered_in listeners (get_or x.cells p empty))) b.streams
  unfolding is_registered cell_at
  asks-listeners = all_map _ _ (λ x e v. e) b.streams (registered-self listeners p b.streams v.ascending)

  domain-slot : (n : ℕ) → slot_of (5 + n / 8) (n % 8) ≡ n
  unfolding slot_of
  domain-slot n = omega arith

  asks-domains : (n : ℕ) → n < length (own_at b.owns p).domains → reg (domain_of b.settings (0 + n)) ≡ domain_stays (get_or (own_at b.owns p).domains n no_domain)
  unfolding is_registered domain_of
  asks-domains n k =
      let z : 0 + n ≡ n = omega arith in
      rw (z, domain-slot n)

  streams-after : (k : Kind) → of_kind k p (after_write b p place).streams ≡ of_kind k p (moved_streams f p b.streams)
  unfolding after_write f
  streams-after k =
      dropped-list k p (apply_all b.clock p (own_leave_all all) (moved_streams (moved_at all place (end_on b p place)) p b.streams))
      ∙ leaving-list p p k b.clock all (moved_streams (moved_at all place (end_on b p place)) p b.streams)

  abbrev domain_place : ℕ
  domain_place = machines_of advertises p b.streams + machines_of faileds p b.streams + machines_of listeners p b.streams

  domains-after : domain_values b.settings 0 (sender_at (after_write b p place).senders p).domains
      ≡ each_at g domain_place (domain_values b.settings 0 (sender_at b.senders p).domains)
  unfolding after_write sender_at moved_sender f
  domains-after =
      rw (at_here p (moved_sender (moved_at all place (end_on b p place)) b.clock all (own_at b.owns p) domain_place) b.senders no_sender v.sender)
      (slots-moved f one reg b.settings domain_place 0 (own_at b.owns p).domains (get_or b.senders p no_sender).domains v.slots asks-domains)

  in-turn : (l m n o : List (Listed Declaration))
      → each_at g 0 (l ++ (m ++ (n ++ o)))
      ≡ each_at g 0 l ++ (each_at g (length l) m ++ (each_at g (length l + length m) n ++ each_at g (length l + length m + length n) o))
  in-turn l m n o =
      let z : 0 + length l ≡ length l = omega arith in
      at-append g 0 l (m ++ (n ++ o))
      ∙ rw z
      (ap (λ (r : List (Listed Declaration)). each_at g 0 l ++ r)
      (at-append g (length l) m (n ++ o) ∙ ap (λ (r : List (Listed Declaration)). each_at g (length l) m ++ r) (at-append g (length l + length m) n o)))

  by-places : declarations (after_write b p place) p ≡ each_at g 0 (declarations b p)
  unfolding declarations
  by-places =
      ap₂ (λ (l m : List (Listed Declaration)). l ++ m) (streams-after advertises ∙ advertises-moved f one reg p s asks-advertises asks-faileds asks-listeners)
      (ap₂ (λ (l m : List (Listed Declaration)). l ++ m) (streams-after faileds ∙ faileds-moved f one reg p s asks-advertises asks-faileds asks-listeners)
      (ap₂ (λ (l m : List (Listed Declaration)). l ++ m) (streams-after listeners ∙ listeners-moved f one reg p s asks-advertises asks-faileds asks-listeners)
      last))
      ∙ sym (in-turn (of_kind advertises p s) (of_kind faileds p s) (of_kind listeners p s) domains
      ∙ rw (kind-count advertises p s, kind-count faileds p s, kind-count listeners p s))
    where
      s : List Stream
      s = b.streams

      domains : List (Listed Declaration)
      domains = domain_values b.settings 0 (sender_at b.senders p).domains

      last : domain_values (after_write b p place).settings 0 (sender_at (after_write b p place).senders p).domains ≡ each_at g domain_place domains
      last = unfold after_write in domains-after

  as_written : (i : ℕ) (x : Listed Declaration) → g i x ≡ at_place (port_way b p) place (end_on b p place) i x
  unfolding left_at f moved_at at_place port_way
  as_written i x = go all (leb place i && ltb i (end_on b p place))
    where
      r : Bool
      r = reg x.value

      go : (all t : Bool)
          → map (with x.value) (cond t (becomes r (opportunity all) x.state) (cond all (becomes r tx_laf x.state) (x.state ∷ [])))
          ≡ cond t ((way all reg).inside x) ((way all reg).outside x)
      go false true = unfold way after opportunity in refl
      go true true = unfold way after opportunity in refl
      go true false = unfold way after in refl
      go false false = unfold way itself with in refl

  -- its declarations are then just what is left of them
  pub write-leaves : declarations (after_write b p place) p ≡ (wrote_on b p place).list
  unfolding wrote_on end_on taken
  write-leaves =
      by-places
      ∙ at_same g (at_place (port_way b p) place (end_on b p place)) as_written 0 (declarations b p)
      ∙ moved-list (port_way b p) (takes_on b p) place (declarations b p) h

-- The lists of the other ports stay.
module _ (b : Bridge) (p place q : ℕ) (apart : p ≡ q → ⊥) where
  other-kind : (f : ℕ → Bool → Standing → List Standing) (k j : Kind) (i : ℕ) (s : List Stream) → of_kind k q (moved_kind f j p i s) ≡ of_kind k q s
  unfolding of_kind moved_kind change sends_at
  other-kind f k j i [] = refl
  other-kind f k j i (x ∷ s) =
      ap₂ (λ (l m : List (Listed Declaration)). l ++ m)
      (ap (declarations_of k x.id) (at_other p (move_kind j (f i (registered_in j (cell_at x p)))) x.sends q no_sends apart))
      (other-kind f k j (i + machines j (sends_at x p)) s)

  other-streams : (f : ℕ → Bool → Standing → List Standing) (k : Kind) (s : List Stream) → of_kind k q (moved_streams f p s) ≡ of_kind k q s
  unfolding moved_streams
  other-streams f k s = other-kind f k listeners _ _ ∙ other-kind f k faileds _ _ ∙ other-kind f k advertises 0 s

  other_after : (k : Kind) → of_kind k q (after_write b p place).streams ≡ of_kind k q b.streams
  unfolding after_write
  other_after k =
      let f : ℕ → Bool → Standing → List Standing = moved_at (leaves_all b p) place (end_on b p place) in
      dropped-list k q (apply_all b.clock p (own_leave_all (leaves_all b p)) (moved_streams f p b.streams))
      ∙ leaving-list p q k b.clock (leaves_all b p) (moved_streams f p b.streams)
      ∙ other-streams f k b.streams

  other-sender : sender_at (after_write b p place).senders q ≡ sender_at b.senders q
  unfolding after_write sender_at
  other-sender = at_other p _ b.senders q no_sender apart

  other-domains : domain_values (after_write b p place).settings 0 (sender_at (after_write b p place).senders q).domains ≡ domain_values b.settings 0 (sender_at b.senders q).domains
  unfolding after_write
  other-domains = ap (λ (x : Sender). domain_values b.settings 0 x.domains) other-sender

  pub other-lists-stay : declarations (after_write b p place) q ≡ declarations b q
  unfolding declarations
  other-lists-stay =
      ap₂ (λ (l m : List (Listed Declaration)). l ++ m) (other_after advertises)
      (ap₂ (λ (l m : List (Listed Declaration)). l ++ m) (other_after faileds)
      (ap₂ (λ (l m : List (Listed Declaration)). l ++ m) (other_after listeners) other-domains))
