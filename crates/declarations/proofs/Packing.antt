-- The octets of a part's vector: its events, one Listener after another, and the whole.
use mathlib.Core.Path.{◌≡◌, refl, sym, ◌∙◌, ap, subst}
use mathlib.Core.Bool.{true, false}
use mathlib.Core.List.{List, [], ◌∷◌, ◌++◌, append-nil, append_assoc}
use Prim.Native.Nat.{ℕ, suc, ◌+◌, ◌-◌, ◌*◌, ◌/◌, ◌%◌, ◌≤◌, ◌<◌}
use native.Mathlib.Numerals.{add-one}
use native.Mathlib.Omega.{arith}
use lib.ListN.{length, get_or, set, take, drop, length-append, take-append-drop, replicate-append-replicate, get_or-append}
use lib.Seq.{split_at, take-suc, drop-length, set-append_left, take-set-le, drop-set-add, take_at, drop_at, get_or-append-add}
use Rattle.octets.specs.Be.{be}
use Rattle.octets.specs.Parts.{patch, zeros}
use Rattle.octets.specs.Fields.{packed}
use Rattle.model.specs.Lists.{All, bit, tabulate}
use Rattle.model.specs.Frames.{three_length, four_length}
use Rattle.model.specs.Cutting.{Part, values, octets_for}
use Rattle.model.specs.Declarations.{Said, declared_id, declared_ids}
use Rattle.model.specs.WrittenFrames.{listener_number, said, event_said, three_octet, four_octet, packed_vector, vector_octets}
use Rattle.model.proofs.Lists.{all_take, get_or_tabulate, length-tabulate}
use Rattle.model.specs.Table.{decode}
use Rattle.model.proofs.Ascents.{ascending-below}
use Rattle.model.proofs.WritingPasses.{ids-take as ids-cut}
use Rattle.model.proofs.PackedVectors.{IsEvent, said-small, event-small}
use Rattle.model.proofs.PackedEvents.{Adds, said_more, event-more, three-adds, four-adds, three-more, four-more, three-none, four-none}
use Rattle.table.proofs.Finding.{ascending-most}
use Rattle.cutting.specs.Named.{ids_of}
use Rattle.cutting.proofs.Named.{ids-length, ids_at, part-ends}
use Rattle.declarations.specs.Vectors.{headed}
use Rattle.declarations.specs.Packed.{listener_at, listeners_at, Telling, three_unit, four_unit, packed_events, events_by, events_of}
use Rattle.declarations.proofs.Packed.{listener-is, listeners-ids, listeners-take, listeners-more}

-- a store behind other octets
set-behind : (a b : List ℕ) (n i v : ℕ) → length a ≡ n → set (a ++ b) (n + i) v ≡ a ++ set b i v
set-behind a b n i v e =
    sym (take-append-drop n (set (a ++ b) (n + i) v))
    ∙ rw (take-set-le n (a ++ b) (n + i) v (omega arith), drop-set-add n (a ++ b) i v, take_at a b n e, drop_at a b n e)

three-unit : (r : ℕ) → (r ≡ 0 → three_unit r ≡ 36) × (r ≡ 1 → three_unit r ≡ 6) × (r ≡ 2 → three_unit r ≡ 1)
unfolding three_unit
three-unit r = (λ e. rw e, λ e. rw e, λ e. rw e)

four-unit : (r : ℕ) → (r ≡ 0 → four_unit r ≡ 64) × (r ≡ 1 → four_unit r ≡ 16) × (r ≡ 2 → four_unit r ≡ 4) × (r ≡ 3 → four_unit r ≡ 1)
unfolding four_unit
four-unit r = (λ e. rw e, λ e. rw e, λ e. rw e, λ e. rw e)

-- The events of n values, of which e and s tell the events and the declaration types; and then f and u, which have x and v at position o more.
module _ (n : ℕ) (e f s u : ℕ → ℕ) (o x v : ℕ) (a : Adds e f o x) (b : Adds s u o v) (within : o < n) (few : (i : ℕ) → f i < 6) (small : (i : ℕ) → u i < 4) where
  abbrev threes : (ℕ → ℕ) → List ℕ
  threes e = tabulate (three_length n) 0 (three_octet e)

  abbrev fours : (ℕ → ℕ) → List ℕ
  fours s = tabulate (four_length true n) 0 (four_octet s)

  three-long : (e : ℕ → ℕ) → length (threes e) ≡ three_length n
  three-long e = length-tabulate (three_octet e) (three_length n) 0

  pub three-inside : o / 3 < three_length n
  unfolding three_length
  three-inside = omega arith

  pub four-inside : o / 4 < four_length true n
  unfolding four_length
  four-inside = omega arith

  -- the octet that has position o, and what it becomes
  pub three-there : get_or (packed_events n e s) (o / 3) 0 + x * three_unit (o % 3) ≡ three_octet f (o / 3)
  unfolding packed_events
  three-there =
      let w = three-unit (o % 3) in
      let at : get_or (threes e ++ fours s) (o / 3) 0 ≡ three_octet e (0 + o / 3) =
      get_or-append (threes e) (fours s) 0 (o / 3) (rw (three-long e) three-inside) ∙ get_or_tabulate (three_octet e) (three_length n) 0 (o / 3) 0 three-inside in
      let z : 0 + o / 3 ≡ o / 3 = omega arith in
      rw (at, z) (sym (three-adds e f o x a (three_unit (o % 3)) w.0 w.1 w.2))

  pub three-small : three_octet f (o / 3) < 256
  unfolding three_octet
  three-small = omega (arith, few (o / 3 * 3), few (o / 3 * 3 + 1), few (o / 3 * 3 + 2))

  -- with it set
  module _ (y : ℕ) (ey : y ≡ three_octet f (o / 3)) where
    three-set : set (packed_events n e s) (o / 3) y ≡ threes f ++ fours s
    unfolding packed_events
    three-set =
        set-append_left (threes e) (fours s) (o / 3) y (rw (three-long e) three-inside)
        ∙ ap (λ (l : List ℕ). l ++ fours s) (three-more e f o x a (three_length n) y three-inside ey)

    pub four-there : get_or (set (packed_events n e s) (o / 3) y) (three_length n + o / 4) 0 + v * four_unit (o % 4) ≡ four_octet u (o / 4)
    four-there =
        let w = four-unit (o % 4) in
        let at : get_or (threes f ++ fours s) (three_length n + o / 4) 0 ≡ get_or (fours s) (o / 4) 0 =
        ap (λ (i : ℕ). get_or (threes f ++ fours s) (i + o / 4) 0) (sym (three-long f)) ∙ get_or-append-add (threes f) (fours s) (o / 4) 0 in
        let z : 0 + o / 4 ≡ o / 4 = omega arith in
        rw (three-set, at, get_or_tabulate (four_octet s) (four_length true n) 0 (o / 4) 0 four-inside, z)
        (sym (four-adds s u o v b (four_unit (o % 4)) w.0 w.1 w.2 w.3))

    pub four-small : four_octet u (o / 4) < 256
    unfolding four_octet
    four-small = omega (arith, small (o / 4 * 4), small (o / 4 * 4 + 1), small (o / 4 * 4 + 2), small (o / 4 * 4 + 3))

    pub events-more : (z : ℕ) → z ≡ four_octet u (o / 4) → set (set (packed_events n e s) (o / 3) y) (three_length n + o / 4) z ≡ packed_events n f u
    events-more z ez =
        rw three-set (set-behind (threes f) (fours s) (three_length n) (o / 4) z (three-long f))
        ∙ ap (λ (l : List ℕ). threes f ++ l) (four-more s u o v b (four_length true n) z four-inside ez)
        ∙ unfold packed_events in refl

pub events-length : (n : ℕ) (e s : ℕ → ℕ) → length (packed_events n e s) ≡ three_length n + four_length true n
unfolding packed_events
events-length n e s =
    length-append (tabulate (three_length n) 0 (three_octet e)) (tabulate (four_length true n) 0 (four_octet s))
    ∙ rw (length-tabulate (three_octet e) (three_length n) 0, length-tabulate (four_octet s) (four_length true n) 0)

-- before the first
pub events-none : (g : List Said) (all : ℕ) → all ≡ three_length (values (declared_ids g)) + four_length true (values (declared_ids g)) → zeros all ≡ events_by g []
unfolding events_by packed_events said event_said
events-none g all e =
    let n = values (declared_ids g) in
    rw (e, three-none (three_length n), four-none (four_length true n)) (sym (replicate-append-replicate (three_length n) (four_length true n) 0))

-- The vector.
pub vector-is : (g : List Said) (n first : ℕ) → n ≡ values (declared_ids g) → first ≡ get_or (declared_ids g) 0 0
    → headed n first ++ events_of g ≡ vector_octets (packed_vector g)
unfolding vector_octets packed_vector packed bit headed events_of events_by packed_events
vector-is g n first e f =
    let v : ℕ = values (declared_ids g) in
    let x : ℕ = get_or (declared_ids g) 0 0 in
    let z : v ≡ bit false * 8192 + v = omega arith in
    rw (e, f)
    (append_assoc (be 2 v) (be 8 x) (events_of g)
    ∙ ap (λ (m : ℕ). be 2 m ++ (be 8 x ++ events_of g)) z
    ∙ ap (λ (y : List ℕ). be 2 (bit false * 8192 + v) ++ (y ++ events_of g)) (sym (append-nil (be 8 x))))

-- all octets cleared
pub cleared : (s : List ℕ) → patch 0 (length s) (zeros (length s)) s ≡ zeros (length s)
unfolding patch
cleared s = rw (drop-length s) (append-nil (zeros (length s)))

-- A Listener's turn, at offset o from the first StreamID of its part: x and y are the two octets that get its event and its type.
pub record Turn (t : List ℕ) (p : ℕ) (places out : List ℕ) (i o threes : ℕ) : Type 0 where
  pub three-in : o / 3 < length out
  pub four-in : threes + o / 4 < length out
  pub three-fits : get_or out (o / 3) 0 + (listener_at p (decode t) (get_or places i 0)).event * three_unit (o % 3) < 256
  pub four-fits : (x : ℕ) → x ≡ get_or out (o / 3) 0 + (listener_at p (decode t) (get_or places i 0)).event * three_unit (o % 3)
      → get_or (set out (o / 3) x) (threes + o / 4) 0 + listener_number (listener_at p (decode t) (get_or places i 0)).declaration * four_unit (o % 4) < 256
  pub is : (x y : ℕ) → x ≡ get_or out (o / 3) 0 + (listener_at p (decode t) (get_or places i 0)).event * three_unit (o % 3)
      → y ≡ get_or (set out (o / 3) x) (threes + o / 4) 0 + listener_number (listener_at p (decode t) (get_or places i 0)).declaration * four_unit (o % 4)
      → set (set out (o / 3) x) (threes + o / 4) y ≡ events_by (listeners_at p t places) (take (i + 1) (listeners_at p t places))

module _ (t : List ℕ) (p : ℕ) (places : List ℕ) (w : Telling t p places) (shares : Part (ids_of t places)) (i : ℕ) (h : i < length places) where
  abbrev whole : List Said
  whole = listeners_at p t places

  abbrev this : Said
  this = listener_at p (decode t) (get_or places i 0)

  abbrev first : ℕ
  first = get_or (declared_ids whole) 0 0

  abbrev id : ℕ
  id = get_or (ids_of t places) i 0

  inside : i < length (ids_of t places)
  inside = omega (arith, ids-length t places)

  one_more : take (i + 1) whole ≡ take i whole ++ (this ∷ [])
  one_more =
      sym (listeners-take t p (i + 1) places)
      ∙ ap (listeners_at p t) (rw (add-one i) (take-suc places i 0 h))
      ∙ listeners-more t p (take i places) (get_or places i 0)
      ∙ ap (λ (l : List Said). l ++ (this ∷ [])) (listeners-take t p i places)

  this-id : declared_id this.declaration ≡ id
  this-id = (listener-is p (decode t) (get_or places i 0)).0 ∙ ids_at t places i h

  below : All (λ j. j < declared_id this.declaration) (declared_ids (take i whole))
  below =
      let split = split_at (ids_of t places) i 0 inside in
      rw (this-id, ids-cut i whole, listeners-ids t p places) (ascending-below (take i (ids_of t places)) id (drop (suc i) (ids_of t places)) (rw split at w.named.ascending))

  pub first_below : get_or (ids_of t places) 0 0 ≤ id
  first_below = ascending-most (ids_of t places) w.named.ascending 0 i (omega arith) inside

  module _ (events : All IsEvent whole) (o threes : ℕ) (at : get_or (ids_of t places) 0 0 + o ≡ id) (e_t : threes ≡ three_length (values (ids_of t places))) (out : List ℕ)
      (was : out ≡ events_by whole (take i whole)) where
    abbrev n : ℕ
    n = values (declared_ids whole)

    abbrev e : ℕ → ℕ
    e j = event_said (take i whole) (first + j)

    abbrev f : ℕ → ℕ
    f j = event_said (take (i + 1) whole) (first + j)

    abbrev s : ℕ → ℕ
    s j = said (take i whole) (first + j)

    abbrev u : ℕ → ℕ
    u j = said (take (i + 1) whole) (first + j)

    abbrev event : ℕ
    event = this.event

    abbrev number : ℕ
    number = listener_number this.declaration

    there : first + o ≡ declared_id this.declaration
    there = rw (listeners-ids t p places, this-id) at

    event-adds : Adds e f o event
    event-adds = subst (λ (l : List Said). Adds e (λ j. event_said l (first + j)) o event) (sym one_more) (event-more (take i whole) this first o below there)

    type-adds : Adds s u o number
    type-adds = subst (λ (l : List Said). Adds s (λ j. said l (first + j)) o number) (sym one_more) (said_more (take i whole) this first o below there)

    within : o < n
    within =
        let ends = part-ends (ids_of t places) shares w.named.ascending in
        rw (listeners-ids t p places)
        (omega (arith, ends.is, at, ascending-most (ids_of t places) w.named.ascending i (length (ids_of t places) - 1) (omega (arith, inside)) (omega (arith, inside))))

    few : (j : ℕ) → f j < 6
    few j = event-small (take (i + 1) whole) (all_take IsEvent (i + 1) whole events) (first + j)

    small : (j : ℕ) → u j < 4
    small j = said-small (take (i + 1) whole) (first + j)

    length-of : threes ≡ three_length n
    length-of = rw (listeners-ids t p places) e_t

    held : out ≡ packed_events n e s
    held = was ∙ unfold events_by in refl

    then : packed_events n f u ≡ events_by whole (take (i + 1) whole)
    unfolding events_by
    then = refl

    x-is : (x : ℕ) → x ≡ get_or out (o / 3) 0 + event * three_unit (o % 3) → x ≡ three_octet f (o / 3)
    x-is x ex = ex ∙ rw held (three-there n e f s u o event number event-adds type-adds within few small)

    four_is : (x : ℕ) → x ≡ get_or out (o / 3) 0 + event * three_unit (o % 3)
        → get_or (set out (o / 3) x) (threes + o / 4) 0 + number * four_unit (o % 4) ≡ four_octet u (o / 4)
    four_is x ex = rw (held, length-of) (four-there n e f s u o event number event-adds type-adds within few small x (x-is x ex))

    pub turn : Turn t p places out i o threes
    turn =
        let long = ap length held ∙ events-length n e s in
        record {
          three-in = omega (arith, long, three-inside n e f s u o event number event-adds type-adds within few small);
          four-in = omega (arith, long, length-of, four-inside n e f s u o event number event-adds type-adds within few small);
          three-fits =
              omega (arith, x-is (get_or out (o / 3) 0 + event * three_unit (o % 3)) refl, three-small n e f s u o event number event-adds type-adds within few small);
          four-fits = λ x ex. omega (arith, four_is x ex, four-small n e f s u o event number event-adds type-adds within few small x (x-is x ex));
          is = λ x y ex ey.
              rw (held, length-of) (events-more n e f s u o event number event-adds type-adds within few small x (x-is x ex) y (ey ∙ four_is x ex)) ∙ then;
        }

-- the octets of a part's events are those of its vector behind header and FirstValue
pub events-room : (g : List Said) → 10 + length (events_of g) ≡ octets_for (values (declared_ids g))
unfolding events_of events_by octets_for
events-room g =
    let first = get_or (declared_ids g) 0 0 in
    omega (arith, events-length (values (declared_ids g)) (λ i. event_said g (first + i)) (λ i. said g (first + i)))
