-- The vector of several Listeners: its events come back value by value, and its acts are those of its Listeners' own events, Ignores
-- passed over. The parts that are written are those of the least cutting.
use mathlib.Core.Path.{◌≡◌, refl, sym, ◌∙◌, ap, ap₂}
use mathlib.Core.List.{List, [], ◌∷◌, ◌++◌, map, flat_map, append-nil, append_assoc}
use mathlib.Core.Bool.{Bool, true, false, cond, not, ◌&&◌}
use Prim.Native.Nat.{ℕ, zero, suc, ◌+◌, ◌*◌, ◌-◌, ◌/◌, ◌%◌, ◌^◌, ◌≤◌, ◌<◌}
use native.Mathlib.Nat.{add-zero}
use native.Mathlib.Omega.{arith}
use lib.ListN.{length, get_or, take, drop, take-append-drop}
use lib.Dec.{eqb}
use borrow.Author.Tests.{le-ltb, eq-eqb, ne_eqb}
use Rattle.octets.specs.Be.{be_at, be}
use Rattle.octets.specs.Fields.{fields, packed, Fit}
use Rattle.octets.proofs.Fields.{fields-of-packed}
use Rattle.model.specs.FrameLayout.{listener_widths}
use Rattle.model.specs.Lists.{All, tabulate}
use Rattle.model.specs.Machines.{Heard}
use Rattle.model.specs.State.{Bridge, TalkerType, talker_advertise, talker_failed, Ready, asking_failed, ready, ready_failed, ready_number}
use Rattle.model.specs.Registrations.{advertises, faileds, listeners, Act, leave, listen, hear}
use Rattle.model.specs.Frames.{registers, domain_type, type_number, first_widths, three_length, four_length, Vector, overpacked, runs_past, overflows, Event, event, three_packed, four_packed, event_of, four_of, Asking, nothing_asked, join, withdraw, asking, id_value, hearing, listener_act, heard_of, listener_heard, value_acts, values_acts, leave_all_acts, vector_acts, frame_acts}
use Rattle.model.specs.Cutting.{mac, Shares, Part, concat, last_of, values, Least}
use Rattle.model.specs.Best.{best}
use Rattle.model.specs.Declarations.{Declaration, talker_declaration, listener_declaration, domain_declaration, talker_kind, attribute_of, join_of, Said, leave_of, hear_of, asked_of, said_acts, declared_id, declared_ids, having}
use Rattle.model.specs.WrittenFrames.{listener_number, said, event_said, three_octet, four_octet, first_numbers, four_octets, declaration_vector, packed_vector, cut_as, listener_parts}
use Rattle.model.specs.Laid.{Ascending}
use Rattle.model.proofs.Lists.{all_map, all_take, all_drop, get_or_tabulate}
use Rattle.model.proofs.Ascents.{ascending-rising, ascending-take, ascending-drop, rises-last}
use Rattle.model.proofs.LeastCutting.{best-cuts}
use Rattle.model.proofs.OneCutting.{best-least, best-only}
use Rattle.model.proofs.LongestRun.{Small, best-small}
use Rattle.model.proofs.WritingPasses.{OfAttribute, ids-take, ids-drop, length_ids, cut-first, FewStreams, run-few}
use Rattle.model.proofs.PackedEvents.{id_of, type_of, event_in, told, said-told, event-told}
use Rattle.model.specs.Writing.{write}

-- The parts written.

-- their StreamIDs are the best cutting, ..
parts_cut : (c : List (List ℕ)) (l : List Said) → concat c ≡ declared_ids l → map declared_ids (cut_as c l) ≡ c
unfolding cut_as
parts_cut [] l e = refl
parts_cut (g ∷ c) l e =
    let s = cut-first g c l e in
    ap₂ (λ (a : List ℕ) (b : List (List ℕ)). a ∷ b) s.0 (parts_cut c (drop (length g) l) s.1)

pub parts-best : (l : List Said) → map declared_ids (listener_parts l) ≡ best (declared_ids l)
unfolding listener_parts
parts-best l = parts_cut (best (declared_ids l)) l (best-cuts (declared_ids l)).0

-- .. no other takes fewer octets, on a tie it has the fewest vectors, then most values in the first vector, the second and so on;
-- and no other cutting is as good
module _ (l : List Said) (few : length l ≤ 64) (ascending : Ascending (declared_ids l)) where
  ids-few : length (declared_ids l) ≤ 64
  ids-few = rw (length_ids l) few

  pub parts-least : Least values (declared_ids l) (map declared_ids (listener_parts l))
  parts-least = rw (parts-best l) (best-least (declared_ids l) ids-few ascending)

  pub parts-only : (c : List (List ℕ)) → Least values (declared_ids l) c → c ≡ map declared_ids (listener_parts l)
  parts-only c p = best-only (declared_ids l) ids-few ascending c p ∙ sym (parts-best l)

-- so it is with the Listeners of a PDU that a bridge writes
module _ (b : Bridge) (few : FewStreams b) (p place : ℕ) where
  abbrev pub heard : List Said
  heard = having (registers listeners) (write b p place).run

  pub write-least : Least values (declared_ids heard) (map declared_ids (listener_parts heard))
  write-least = let f = run-few b p place few in parts-least heard f.few f.ascending

  pub write-only : (c : List (List ℕ)) → Least values (declared_ids heard) c → c ≡ map declared_ids (listener_parts heard)
  write-only = let f = run-few b p place few in parts-only heard f.few f.ascending

-- an event is at most 5
abbrev pub IsEvent : Said → Type 0
IsEvent d = d.event < 6

-- what a part is: Listeners of one MAC, ascending, whose vector has few values
pub record Packs (g : List Said) : Type 0 where
  pub own : All (OfAttribute (registers listeners)) g
  pub events : All IsEvent g
  pub part : Part (declared_ids g)
  pub ascending : Ascending (declared_ids g)
  pub few : values (declared_ids g) < 2048

cut-packs : (c : List (List ℕ)) (l : List Said) → concat c ≡ declared_ids l → All Part c → Small c
    → All (OfAttribute (registers listeners)) l → All IsEvent l → Ascending (declared_ids l) → All Packs (cut_as c l)
unfolding cut_as
cut-packs [] l e p s o v a = tt
cut-packs (g ∷ c) l e p s o v a =
    let n : ℕ = length g in
    let f = cut-first g c l e in
    let asc : Ascending (declared_ids (take n l)) = rw (ids-take n l) (ascending-take n (declared_ids l) a) in
    let rest : Ascending (declared_ids (drop n l)) = rw (ids-drop n l) (ascending-drop n (declared_ids l) a) in (
      record {
        own = all_take (OfAttribute (registers listeners)) n l o;
        events = all_take IsEvent n l v;
        part = rw f.0 p.0;
        ascending = asc;
        few = rw f.0 s.0;
      },
      cut-packs c (drop n l) f.1 p.1 s.1 (all_drop (OfAttribute (registers listeners)) n l o) (all_drop IsEvent n l v) rest,
    )

pub parts-pack : (l : List Said) → length l ≤ 64 → All (OfAttribute (registers listeners)) l → All IsEvent l → Ascending (declared_ids l)
    → All Packs (listener_parts l)
unfolding listener_parts
parts-pack l few o v a =
    let c = best-cuts (declared_ids l) in
    cut-packs (best (declared_ids l)) l c.0 c.1 (best-small (declared_ids l) (rw (length_ids l) few)) o v a

-- Events packed and unpacked.

three_back : (e : ℕ → ℕ) → ((i : ℕ) → e i < 6) → (q r : ℕ) → r < 3 → three_packed (three_octet e q) r ≡ e (q * 3 + r)
unfolding three_packed three_octet
three_back e b q zero h =
    let s : q * 3 + 0 ≡ q * 3 = omega arith in
    rw s (omega (arith, b (q * 3), b (q * 3 + 1), b (q * 3 + 2)))
three_back e b q (suc zero) h = omega (arith, b (q * 3), b (q * 3 + 1), b (q * 3 + 2))
three_back e b q (suc (suc zero)) h = omega (arith, b (q * 3), b (q * 3 + 1), b (q * 3 + 2))
three_back e b q (suc (suc (suc r))) h = absurd (omega arith)

four-back : (e : ℕ → ℕ) → ((i : ℕ) → e i < 4) → (q r : ℕ) → r < 4 → four_packed (four_octet e q) r ≡ e (q * 4 + r)
unfolding four_packed four_octet
four-back e b q zero h =
    let s : q * 4 + 0 ≡ q * 4 = omega arith in
    rw s (omega (arith, b (q * 4), b (q * 4 + 1), b (q * 4 + 2), b (q * 4 + 3)))
four-back e b q (suc zero) h = omega (arith, b (q * 4), b (q * 4 + 1), b (q * 4 + 2), b (q * 4 + 3))
four-back e b q (suc (suc zero)) h = omega (arith, b (q * 4), b (q * 4 + 1), b (q * 4 + 2), b (q * 4 + 3))
four-back e b q (suc (suc (suc zero))) h = omega (arith, b (q * 4), b (q * 4 + 1), b (q * 4 + 2), b (q * 4 + 3))
four-back e b q (suc (suc (suc (suc r)))) h = absurd (omega arith)

-- of n values, the one at place i
three-at : (e : ℕ → ℕ) → ((j : ℕ) → e j < 6) → (n i : ℕ) → i < n → three_packed (get_or (tabulate (three_length n) 0 (three_octet e)) (i / 3) 0) (i % 3) ≡ e i
unfolding three_length
three-at e b n i h =
    let s : 0 + i / 3 ≡ i / 3 = omega arith in
    let t : i / 3 * 3 + i % 3 ≡ i = omega arith in
    rw (get_or_tabulate (three_octet e) ((n + 2) / 3) 0 (i / 3) 0 (omega arith), s) (three_back e b (i / 3) (i % 3) (omega arith) ∙ ap e t)

four-at : (e : ℕ → ℕ) → ((j : ℕ) → e j < 4) → (n i : ℕ) → i < n → four_packed (get_or (tabulate (four_length true n) 0 (four_octet e)) (i / 4) 0) (i % 4) ≡ e i
unfolding four_length
four-at e b n i h =
    let s : 0 + i / 4 ≡ i / 4 = omega arith in
    let t : i / 4 * 4 + i % 4 ≡ i = omega arith in
    rw (get_or_tabulate (four_octet e) ((n + 3) / 4) 0 (i / 4) 0 (omega arith), s) (four-back e b (i / 4) (i % 4) (omega arith) ∙ ap e t)

-- a declaration type is at most 3
number_small : (d : Declaration) → listener_number d < 4
unfolding listener_number ready_number
number_small (talker_declaration id f v) = omega arith
number_small (listener_declaration id asking_failed) = omega arith
number_small (listener_declaration id ready) = omega arith
number_small (listener_declaration id ready_failed) = omega arith
number_small (domain_declaration id q v) = omega arith

pub said-small : (g : List Said) (i : ℕ) → said g i < 4
unfolding said
said-small [] i = omega arith
said-small (d ∷ g) i = go (eqb (declared_id d.declaration) i) (said-small g i)
  where
    go : (t : Bool) → said g i < 4 → cond t (listener_number d.declaration) (said g i) < 4
    go true h = number_small d.declaration
    go false h = h

pub event-small : (g : List Said) → All IsEvent g → (i : ℕ) → event_said g i < 6
unfolding event_said
event-small [] a i = omega arith
event-small (d ∷ g) a i = go (eqb (declared_id d.declaration) i) (event-small g a.1 i)
  where
    go : (t : Bool) → event_said g i < 6 → cond t d.event (event_said g i) < 6
    go true h = a.0
    go false h = h

-- no event octet is above 215
packed-low : (e : ℕ → ℕ) → ((i : ℕ) → e i < 6) → (n p : ℕ) → overpacked (tabulate n p (three_octet e)) ≡ false
unfolding overpacked tabulate three_octet
packed-low e b zero p = refl
packed-low e b (suc n) p =
    rw (le-ltb 215 ((e (p * 3) * 6 + e (p * 3 + 1)) * 6 + e (p * 3 + 2)) (omega (arith, b (p * 3), b (p * 3 + 1), b (p * 3 + 2)))) (packed-low e b n (suc p))

pub packed-events : (g : List Said) → All IsEvent g → overpacked (packed_vector g).three ≡ false
unfolding packed_vector
packed-events g a =
    packed-low (λ i. event_said g (get_or (declared_ids g) 0 0 + i)) (λ i. event-small g a (get_or (declared_ids g) 0 0 + i))
    (three_length (values (declared_ids g))) 0

-- No value runs past the Unique ID.

shares-last : (x : ℕ) (g : List ℕ) → Shares x g → mac (last_of x g) ≡ mac x
shares-last x g s = go x g refl s
  where
    go : (y : ℕ) (h : List ℕ) → mac y ≡ mac x → Shares x h → mac (last_of y h) ≡ mac x
    go y [] e s = e
    go y (z ∷ h) e s = go z h s.0 s.1

unique-of : (x : ℕ) → be_at 2 (packed listener_widths (x ∷ [])) 6 ≡ x % 65536
unfolding be_at packed be
unique-of x = omega arith

pub packed-within : (g : List Said) → Packs g → overflows (packed_vector g) ≡ false
unfolding overflows packed_vector runs_past declared_ids values
packed-within [] p = absurd p.part
packed-within (d ∷ g) p =
    let x : ℕ = id_of d in
    let y : ℕ = last_of x (declared_ids g) in
    let same : y / 65536 ≡ x / 65536 = unfold mac in (shares-last x (declared_ids g) p.part) in
    let low : x ≤ y = rises-last x (declared_ids g) (ascending-rising (declared_ids (d ∷ g)) p.ascending) in
    rw (unique-of x, le-ltb 65535 (x % 65536 + (y - x + 1 - 1)) (omega arith)) (and_no (not (eqb (y - x + 1) 0)))
  where
    and_no : (t : Bool) → (t && false) ≡ false
    and_no true = refl
    and_no false = refl

-- What the vector asks for.

-- so many values from a StreamID on, of each of which f gives the acts
hears : (ℕ → List Act) → ℕ → ℕ → List Act
hears f y zero = []
hears f y (suc k) = f y ++ hears f (suc y) k

module _ (f : ℕ → List Act) where
  hears-append : (y n m : ℕ) → hears f y (n + m) ≡ hears f y n ++ hears f (y + n) m
  unfolding hears
  hears-append y zero m =
      let a : 0 + m ≡ m = omega arith in
      let b : y + 0 ≡ y = omega arith in
      rw (a, b)
  hears-append y (suc n) m =
      let a : suc n + m ≡ suc (n + m) = omega arith in
      let b : y + suc n ≡ suc y + n = omega arith in
      rw (a, b, hears-append (suc y) n m, append_assoc)

  -- nothing
  hears-gap : (y n : ℕ) → ((i : ℕ) → y ≤ i → i < y + n → f i ≡ []) → hears f y n ≡ []
  unfolding hears
  hears-gap y zero h = refl
  hears-gap y (suc n) h = rw (h y (omega arith) (omega arith), hears-gap (suc y) n (λ i a b. h i (omega arith) (omega arith)))

hears-same : (f g : ℕ → List Act) (y n : ℕ) → ((i : ℕ) → y ≤ i → f i ≡ g i) → hears f y n ≡ hears g y n
unfolding hears
hears-same f g y zero h = refl
hears-same f g y (suc n) h = rw (h y (omega arith), hears-same f g (suc y) n (λ i a. h i (omega arith)))

-- the acts of a Listener's value, of a StreamID, an event and a declaration type
unfoldable pub listener_acts : ℕ → Event → ℕ → List Act
listener_acts id e s = listener_act (id ∷ []) 0 (asking e) s ++ listener_heard id e s

-- "Ignore": nothing, whatever the event
ignored : (id : ℕ) (e : Event) → listener_acts id e 0 ≡ []
unfolding listener_acts listener_heard
ignored id e = rw (go (asking e))
  where
    go : (a : Asking) → listener_act (id ∷ []) 0 a 0 ≡ []
    go nothing_asked = unfold listener_act in refl
    go join = unfold listener_act hearing in refl
    go withdraw = unfold listener_act in refl

-- what the Listeners of a part make of a StreamID
spoken_of : List Said → ℕ → List Act
spoken_of g i = listener_acts i (event (told event_in g i)) (told type_of g i)

module _ (f : Said → ℕ) where
  -- nothing is told of a StreamID below all of them
  told_none : (g : List Said) (i : ℕ) → All (λ j. i < j) (declared_ids g) → told f g i ≡ 0
  unfolding told declared_ids
  told_none [] i a = refl
  told_none (d ∷ g) i a = rw (ne_eqb (id_of d) i (λ e. omega (arith, a.0))) (told_none g i a.1)

  told-first : (d : Said) (g : List Said) → told f (d ∷ g) (id_of d) ≡ f d
  unfolding told
  told-first d g = rw (eq-eqb (id_of d) (id_of d) refl)

  told-later : (d : Said) (g : List Said) (i : ℕ) → id_of d < i → told f (d ∷ g) i ≡ told f g i
  unfolding told
  told-later d g i h = rw (ne_eqb (id_of d) i (λ e. omega arith))

-- so nothing is read of it: of a quiet Listener either, which is none of the part
spoken-none : (g : List Said) (i : ℕ) → All (λ j. i < j) (declared_ids g) → spoken_of g i ≡ []
unfolding spoken_of
spoken-none g i a = rw (told_none type_of g i a) (ignored i (event (told event_in g i)))

spoken-later : (d : Said) (g : List Said) (i : ℕ) → id_of d < i → spoken_of (d ∷ g) i ≡ spoken_of g i
unfolding spoken_of
spoken-later d g i h = rw (told-later type_of d g i h, told-later event_in d g i h)

no-talker : (h : TalkerType) → registers (talker_kind h) ≡ registers listeners → ⊥
unfolding talker_kind type_number
no-talker talker_advertise e = let n : type_number (registers advertises) ≡ type_number (registers listeners) = ap type_number e in absurd (omega arith)
no-talker (talker_failed b c) e = let n : type_number (registers faileds) ≡ type_number (registers listeners) = ap type_number e in absurd (omega arith)

pub no-domain : domain_type ≡ registers listeners → ⊥
unfolding type_number
no-domain e = let n : type_number domain_type ≡ type_number (registers listeners) = ap type_number e in absurd (omega arith)

-- a Listener's event and declaration type are read as its acts
module _ (id : ℕ) (r : Ready) where
  listener-asked : (a : Asking) → listener_act (id ∷ []) 0 a (ready_number r) ≡ asked_of (listener_declaration id r) a
  unfolding listener_act asked_of join_of leave_of id_value
  listener-asked nothing_asked = refl
  listener-asked join = rw (add-zero id) (go r)
    where
      go : (q : Ready) → hearing id (ready_number q) ≡ listen id q ∷ []
      go asking_failed = unfold hearing ready_number in refl
      go ready = unfold hearing ready_number in refl
      go ready_failed = unfold hearing ready_number in refl
  listener-asked withdraw = rw (add-zero id) (go r)
    where
      go : (q : Ready) → cond (eqb (ready_number q) 0) [] (leave listeners id ∷ []) ≡ leave listeners id ∷ []
      go asking_failed = unfold ready_number in refl
      go ready = unfold ready_number in refl
      go ready_failed = unfold ready_number in refl

  listener-heard : (e : Event) → listener_heard id e (ready_number r) ≡ map (hear_of (listener_declaration id r)) (heard_of e)
  unfolding listener_heard hear_of
  listener-heard e = go r (heard_of e)
    where
      same : (l : List Heard) → map (hear listeners id) l ≡ map (hear_of (listener_declaration id r)) l
      same [] = refl
      same (h ∷ l) = ap (λ (m : List Act). hear listeners id h ∷ m) (same l)

      go : (q : Ready) (l : List Heard) → cond (eqb (ready_number q) 0) [] (map (hear listeners id) l) ≡ map (hear_of (listener_declaration id r)) l
      go asking_failed l = unfold ready_number in (same l)
      go ready l = unfold ready_number in (same l)
      go ready_failed l = unfold ready_number in (same l)

  pub listener-acts : (n : ℕ) → listener_acts id (event n) (ready_number r) ≡ said_acts record { declaration = listener_declaration id r; event = n }
  unfolding listener_acts said_acts
  listener-acts n = rw (listener-asked (asking (event n)), listener-heard (event n))

said-acts : (d : Said) → OfAttribute (registers listeners) d → listener_acts (id_of d) (event d.event) (type_of d) ≡ said_acts d
said-acts d o = go d.declaration o
  where
    go : (c : Declaration) → attribute_of c ≡ registers listeners
        → listener_acts (declared_id c) (event d.event) (listener_number c) ≡ said_acts record { declaration = c; event = d.event }
    go (talker_declaration id f v) e = absurd (no-talker v.type (unfold attribute_of in e))
    go (listener_declaration id r) e = unfold declared_id listener_number in (listener-acts id r d.event)
    go (domain_declaration id q v) e = absurd (no-domain (unfold attribute_of in e))

spoken-first : (d : Said) (g : List Said) → OfAttribute (registers listeners) d → spoken_of (d ∷ g) (id_of d) ≡ said_acts d
unfolding spoken_of
spoken-first d g o = rw (told-first type_of d g, told-first event_in d g) (said-acts d o)

hears-one : (f : ℕ → List Act) (y : ℕ) → hears f y 1 ≡ f y
unfolding hears
hears-one f y = append-nil (f y)

-- from its first StreamID to its last, the values of a part are the acts of its Listeners
hears-part : (d : Said) (g : List Said) → All (OfAttribute (registers listeners)) (d ∷ g) → Ascending (declared_ids (d ∷ g))
    → hears (spoken_of (d ∷ g)) (id_of d) (values (declared_ids (d ∷ g))) ≡ flat_map said_acts (d ∷ g)
unfolding values declared_ids flat_map
hears-part d [] o a =
    let n : id_of d - id_of d + 1 ≡ 1 = omega arith in
    rw (n, hears-one (spoken_of (d ∷ [])) (id_of d), spoken-first d [] o.0, append-nil)
hears-part d (e ∷ g) o a =
    rw (size, hears-append f x 1 (y - x - 1 + n), hears-append f (x + 1) (y - x - 1) n, gap, next, hears-one f x, spoken-first d (e ∷ g) o.0)
    (ap (λ (r : List Act). said_acts d ++ r) (hears-same f (spoken_of (e ∷ g)) y n (λ i h. spoken-later d (e ∷ g) i (omega (arith, a.0.0))) ∙ hears-part e g o.1 a.1))
  where
    f : ℕ → List Act
    f = spoken_of (d ∷ e ∷ g)

    x : ℕ
    x = id_of d

    y : ℕ
    y = id_of e

    n : ℕ
    n = last_of y (map id_of g) - y + 1

    size : last_of y (map id_of g) - x + 1 ≡ 1 + (y - x - 1 + n)
    size = omega (arith, a.0.0, rises-last y (map id_of g) (ascending-rising (y ∷ map id_of g) a.1))

    gap : hears f (x + 1) (y - x - 1) ≡ []
    gap =
        hears-gap f (x + 1) (y - x - 1)
        (λ i h k. spoken-later d (e ∷ g) i (omega arith) ∙ spoken-none (e ∷ g) i (unfold declared_ids in (omega (arith, a.0.0), above i (omega (arith, a.0.0)))))
      where
        above : (i : ℕ) → i < y → All (λ j. i < j) (map id_of g)
        above i h = all_map (λ j. y < j) (λ j. i < j) (λ j q. omega arith) (map id_of g) a.1.0

    next : x + 1 + (y - x - 1) ≡ y
    next = omega (arith, a.0.0)

-- each declaration's own event, 0 at an Ignore; and what is said of the StreamID
module _ (g : List Said) (i : ℕ) (h : i < values (declared_ids g)) where
  pub event-packed : All IsEvent g → event_of (packed_vector g) i ≡ event (event_said g (get_or (declared_ids g) 0 0 + i))
  unfolding event_of packed_vector
  event-packed a =
      let e : ℕ → ℕ = λ j. event_said g (get_or (declared_ids g) 0 0 + j) in
      ap event (three-at e (λ j. event-small g a (get_or (declared_ids g) 0 0 + j)) (values (declared_ids g)) i h)

  pub four-packed : four_of (packed_vector g) i ≡ said g (get_or (declared_ids g) 0 0 + i)
  unfolding four_of packed_vector
  four-packed =
      four-at (λ j. said g (get_or (declared_ids g) 0 0 + j)) (λ j. said-small g (get_or (declared_ids g) 0 0 + j)) (values (declared_ids g)) i h

-- FirstValue's StreamID and a value's number make its StreamID
pub counted : (x i : ℕ) (e : Event) (s : ℕ) → listener_act (x ∷ []) i (asking e) s ++ listener_heard (id_value (x ∷ []) i) e s ≡ listener_acts (x + i) e s
unfolding listener_acts id_value
counted x i e s = ap (λ (l : List Act). l ++ listener_heard (x + i) e s) (go (asking e))
  where
    go : (a : Asking) → listener_act (x ∷ []) i a s ≡ listener_act ((x + i) ∷ []) 0 a s
    go nothing_asked = unfold listener_act in refl
    go join = unfold listener_act id_value in (rw (add-zero (x + i)))
    go withdraw = unfold listener_act id_value in (rw (add-zero (x + i)))

module _ (d : Said) (g : List Said) (events : All IsEvent (d ∷ g)) (within : id_of d < 2 ^ 64) where
  v : Vector
  v = packed_vector (d ∷ g)

  x : ℕ
  x = id_of d

  n : ℕ
  n = values (declared_ids (d ∷ g))

  -- FirstValue's StreamID, read
  first_read : fields listener_widths 0 (packed listener_widths (x ∷ [])) ≡ x ∷ []
  unfolding x
  first_read = fields-of-packed listener_widths (x ∷ []) (unfold Fit in (within, tt))

  value-heard : (i : ℕ) → i < n → value_acts v i ≡ spoken_of (d ∷ g) (x + i)
  unfolding v x n value_acts packed_vector first_widths declared_ids
  value-heard i h =
      rw (first_read, event-packed (d ∷ g) i h events, four-packed (d ∷ g) i h)
      (counted x i (event (event_said (d ∷ g) (x + i))) (said (d ∷ g) (x + i)) ∙ unfold spoken_of in (rw (event-told (d ∷ g) (x + i), said-told (d ∷ g) (x + i))))

  values-heard : (i k : ℕ) → i + k ≤ n → values_acts v i k ≡ hears (spoken_of (d ∷ g)) (x + i) k
  unfolding values_acts hears
  values-heard i zero h = refl
  values-heard i (suc k) h =
      let e : x + suc i ≡ suc (x + i) = omega arith in
      rw (value-heard i (omega arith), values-heard (suc i) k (omega arith), e)

-- a Listener whose StreamID is within its field
abbrev pub Within : Said → Type 0
Within d = id_of d < 2 ^ 64

-- the acts of a part's vector are those of its Listeners
pub packed-acts : (g : List Said) → Packs g → All Within g → vector_acts (packed_vector g) ≡ flat_map said_acts g
unfolding vector_acts leave_all_acts packed_vector v x n
packed-acts [] p w = absurd (empty p)
  where
    empty : Packs [] → ⊥
    empty p = unfold declared_ids in p.part
packed-acts (d ∷ g) p w =
    let z : id_of d + 0 ≡ id_of d = omega arith in
    rw z at (values-heard d g p.events w.0 0 (values (declared_ids (d ∷ g))) (omega arith)) ∙ hears-part d g p.own p.ascending

pub acts-said : (l m : List Said) → flat_map said_acts (l ++ m) ≡ flat_map said_acts l ++ flat_map said_acts m
unfolding flat_map
acts-said [] m = refl
acts-said (d ∷ l) m = rw (acts-said l m, append_assoc)

-- and those of all parts the acts of all
cut-acts : (c : List (List ℕ)) (l : List Said) → concat c ≡ declared_ids l → All Packs (cut_as c l) → All Within l
    → frame_acts (map packed_vector (cut_as c l)) ≡ flat_map said_acts l
unfolding cut_as frame_acts
cut-acts [] [] e p w = unfold flat_map in refl
cut-acts [] (d ∷ l) e p w = absurd (omega (arith, ap length e, length_ids (d ∷ l)))
cut-acts (g ∷ c) l e p w =
    let m : ℕ = length g in
    rw (
      packed-acts (take m l) p.0 (all_take Within m l w),
      cut-acts c (drop m l) (cut-first g c l e).1 p.1 (all_drop Within m l w),
      ← acts-said (take m l) (drop m l),
      take-append-drop m l,
    )

pub parts-acts : (l : List Said) → All Packs (listener_parts l) → All Within l → frame_acts (map packed_vector (listener_parts l)) ≡ flat_map said_acts l
unfolding listener_parts
parts-acts l p w = cut-acts (best (declared_ids l)) l (best-cuts (declared_ids l)).0 p w

-- A Listener alone in its vector is one value, its event, and its declaration type.
one_value : (id : ℕ) → values (id ∷ []) ≡ 1
unfolding values
one_value id = omega arith

module _ (d : Said) where
  type-alone : said (d ∷ []) (id_of d) ≡ type_of d
  type-alone = said-told (d ∷ []) (id_of d) ∙ told-first type_of d []

  event-alone : event_said (d ∷ []) (id_of d) ≡ d.event
  event-alone = event-told (d ∷ []) (id_of d) ∙ told-first event_in d []

  told-alone : (f : Said → ℕ) (i : ℕ) → 0 < i → told f (d ∷ []) (id_of d + i) ≡ 0
  told-alone f i h = told-later f d [] (id_of d + i) (omega arith) ∙ unfold told in refl

  no-type : (i : ℕ) → 0 < i → said (d ∷ []) (id_of d + i) ≡ 0
  no-type i h = said-told (d ∷ []) (id_of d + i) ∙ told-alone type_of i h

  no-event : (i : ℕ) → 0 < i → event_said (d ∷ []) (id_of d + i) ≡ 0
  no-event i h = event-told (d ∷ []) (id_of d + i) ∙ told-alone event_in i h

pub packed-alone : (id : ℕ) (r : Ready) (e : ℕ)
    → packed_vector (record { declaration = listener_declaration id r; event = e } ∷ []) ≡ declaration_vector record { declaration = listener_declaration id r; event = e }
unfolding packed_vector declaration_vector declared_ids declared_id attribute_of first_widths first_numbers four_octets three_length four_length tabulate three_octet four_octet listener_number
packed-alone id r e =
    let d : Said = record { declaration = listener_declaration id r; event = e } in
    let o : id + 0 ≡ id = omega arith in
    let three : (e * 6 + 0) * 6 + 0 ≡ e * 36 = omega arith in
    let four : ((ready_number r * 4 + 0) * 4 + 0) * 4 + 0 ≡ ready_number r * 64 = omega arith in
    rw (
      one_value id,
      o,
      type-alone d,
      no-type d 1 (omega arith),
      no-type d 2 (omega arith),
      no-type d 3 (omega arith),
      event-alone d,
      no-event d 1 (omega arith),
      no-event d 2 (omega arith),
      three,
      four,
    )
