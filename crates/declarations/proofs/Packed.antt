-- Streams that say a Listener, by their places: what is said of them, how their places are gathered and how they are cut.
use mathlib.Core.Path.{◌≡◌, refl, sym, ◌∙◌, ap}
use mathlib.Core.Bool.{Bool, true, false}
use mathlib.Core.List.{List, [], ◌∷◌, ◌++◌, map, map-append, append-nil, append_assoc}
use Prim.Native.Nat.{ℕ, ◌+◌, ◌-◌, ◌≤◌, ◌<◌}
use native.Mathlib.Numerals.{add-one}
use native.Mathlib.Omega.{arith}
use lib.ListN.{length, length-map, get_or, set, take, drop, length-set, length-append, length-drop, drop_of_length-le}
use lib.Seq.{take_all, take_at, take-suc-set, drop-drop, length-take-le}
use lib.Dec.{ltb}
use borrow.Author.Tests.{ltb-true, ltb-false}
use Rattle.octets.specs.Fields.{flat}
use Rattle.octets.proofs.Parts.{length-patch}
use Rattle.octets.proofs.Patches.{lent-patch}
use Rattle.model.specs.Lists.{All, keep}
use Rattle.model.specs.Machines.{Applicant, no_applicant, applicant}
use Rattle.model.specs.Places.{saying}
use Rattle.model.specs.State.{Ready, Stream, Bridge, fresh, sends_at, stream_at}
use Rattle.model.specs.Registrations.{ids, listeners}
use Rattle.model.specs.Frames.{registers}
use Rattle.model.specs.Cutting.{Part, values, octets_for}
use Rattle.model.specs.Best.{bests, best, least}
use Rattle.model.specs.Declarations.{attribute_of, listener_declaration, listed_as, declarations_of, is_registered, Said, say, declared_id, declared_ids}
use Rattle.model.specs.Writing.{leaves_all, port_way, say_on}
use Rattle.model.specs.WrittenFrames.{packed_vector, cut_as, listener_parts, vectors_of, vector_octets}
use Rattle.model.specs.Table.{decode}
use Rattle.model.specs.Laid.{Ascending, Laid}
use Rattle.model.proofs.Lists.{all_append, all_take, all_map, get_or_map}
use Rattle.model.proofs.Fits.{laid-fits}
use Rattle.model.proofs.LeastCutting.{best-cuts}
use Rattle.model.proofs.WritingPasses.{OfAttribute, map-take, map-drop}
use Rattle.model.proofs.PackedVectors.{IsEvent}
use Rattle.model.proofs.ReadBack.{spoken-event}
use Rattle.table.proofs.Finding.{ascending-less}
use Rattle.cutting.specs.Named.{ids_of, Named}
use Rattle.cutting.proofs.Named.{ids-length, ids-take as named-ids-take, ids-drop as ids-behind}
use Rattle.cutting.proofs.Loops.{Next}
use Rattle.declarations.specs.Vectors.{some}
use Rattle.declarations.specs.Passes.{declarers, machine_by, said_of, said_by, said_from}
use Rattle.declarations.specs.Packed.{first_said, listener_at, listeners_at, Tells, Telling, packed_vectors}
use Rattle.declarations.proofs.Declared.{said-end, nothing_said, said-counted, said-taken}
use Rattle.declarations.proofs.Vectors.{listener_said}

-- What is said of them: of each a Listener, with its StreamID.

pub listener-is : (p : ℕ) (b : Bridge) (k : ℕ)
    → (declared_id (listener_at p b k).declaration ≡ (stream_at k b).id) × (attribute_of (listener_at p b k).declaration ≡ registers listeners) × IsEvent (listener_at p b k)
unfolding listener_at said_by machine_by declarations_of declared_id attribute_of
listener-is p b k = go (sends_at (stream_at k b) p).listening
  where
    id : ℕ
    id = (stream_at k b).id

    go : (a : Applicant Ready)
        → let d = first_said id (said_of b p (listed_as (listener_declaration id) a)) in
        (declared_id d.declaration ≡ id) × (attribute_of d.declaration ≡ registers listeners) × IsEvent d
    go no_applicant = unfold listed_as said_of saying first_said in (refl, refl, omega arith)
    go (applicant y) = unfold listed_as said_of saying in (of ((port_way b p).says record { state = y.state; value = listener_declaration id y.value }))
      where
        of : (t : Bool)
            → let d = first_said id (map (say_on b p) (keep t record { state = y.state; value = listener_declaration id y.value } [])) in
            (declared_id d.declaration ≡ id) × (attribute_of d.declaration ≡ registers listeners) × IsEvent d
        of true = unfold first_said say_on say in (refl, refl, spoken-event (leaves_all b p) (is_registered b p (listener_declaration id y.value)) y.state)
        of false = unfold first_said in (refl, refl, omega arith)

module _ (t : List ℕ) (p : ℕ) where
  pub listeners-own : (l : List ℕ) → All (OfAttribute (registers listeners)) (listeners_at p t l)
  unfolding listeners_at
  listeners-own [] = tt
  listeners-own (k ∷ l) = ((listener-is p (decode t) k).1, listeners-own l)

  pub listeners-events : (l : List ℕ) → All IsEvent (listeners_at p t l)
  unfolding listeners_at
  listeners-events [] = tt
  listeners-events (k ∷ l) = ((listener-is p (decode t) k).2, listeners-events l)

  pub listeners-ids : (l : List ℕ) → declared_ids (listeners_at p t l) ≡ ids_of t l
  unfolding listeners_at declared_ids ids_of
  listeners-ids [] = refl
  listeners-ids (k ∷ l) = rw ((listener-is p (decode t) k).0, listeners-ids l)

  pub listeners-length : (l : List ℕ) → length (listeners_at p t l) ≡ length l
  unfolding listeners_at
  listeners-length l = length-map l (listener_at p (decode t))

  pub listeners-take : (n : ℕ) (l : List ℕ) → listeners_at p t (take n l) ≡ take n (listeners_at p t l)
  unfolding listeners_at
  listeners-take n l = map-take (listener_at p (decode t)) n l

  pub listeners-drop : (n : ℕ) (l : List ℕ) → listeners_at p t (drop n l) ≡ drop n (listeners_at p t l)
  unfolding listeners_at
  listeners-drop n l = map-drop (listener_at p (decode t)) n l

  pub listeners-more : (l : List ℕ) (k : ℕ) → listeners_at p t (l ++ (k ∷ [])) ≡ listeners_at p t l ++ (listener_at p (decode t) k ∷ [])
  unfolding listeners_at
  listeners-more l k = map-append (listener_at p (decode t)) l (k ∷ [])

  pub telling-take : (n : ℕ) (l : List ℕ) → Telling t p l → Named t (take n l) → Telling t p (take n l)
  telling-take n l w named = record { port = w.port; named = named; each = all_take (Tells t p) n l w.each }

-- Places that rise have StreamIDs that do.
ascending-last : (l : List ℕ) (x : ℕ) → Ascending l → All (λ y. y < x) l → Ascending (l ++ (x ∷ []))
ascending-last [] x a b = (tt, tt)
ascending-last (y ∷ l) x a b = (all_append (λ z. y < z) l (x ∷ []) a.0 (b.0, tt), ascending-last l x a.1 b.1)

ids-below : (t : List ℕ) → Laid t → (k : ℕ) → k < length (decode t).streams → (l : List ℕ) → All (λ i. i < k) l
    → All (λ y. y < (stream_at k (decode t)).id) (ids_of t l)
unfolding ids_of
ids-below t laid k h [] a = tt
ids-below t laid k h (i ∷ l) a = (less, ids-below t laid k h l a.1)
  where
    s : List Stream
    s = (decode t).streams

    id-at : (j : ℕ) → j < length s → get_or (ids s) j 0 ≡ (get_or s j (fresh 0)).id
    id-at j g = unfold ids in (get_or_map (λ (x : Stream). x.id) s j (fresh 0) 0 g)

    long : length (ids s) ≡ length s
    long = unfold ids in (length-map s (λ (x : Stream). x.id))

    less : (get_or s i (fresh 0)).id < (get_or s k (fresh 0)).id
    less = omega (arith, id-at i (omega (arith, h, a.0)), id-at k h, ascending-less (ids s) (laid-fits t laid).ascending i k a.0 (omega (arith, h, long)))

-- The walk over the streams that gathers the places: what is said of those gathered, with what is left to gather, is the whole.
module _ (t : List ℕ) (p : ℕ) (whole : List Said) where
  abbrev Held : ℕ → Type 0
  Held i = i < length (decode t).streams

  abbrev left : ℕ → List Said
  left k = said_from (registers listeners) p (decode t) k

  pub record Gathering (places : List ℕ) (n k : ℕ) : Type 0 where
    pub within : n ≤ length places
    pub enough : length places - n ≤ length (left k)
    pub below : All (λ i. i < k) (take n places)
    pub held : All Held (take n places)
    pub rising : Ascending (ids_of t (take n places))
    pub each : All (Tells t p) (take n places)
    pub is : listeners_at p t (take n places) ++ take (length places - n) (left k) ≡ whole

  module _ {places : List ℕ} {n k : ℕ} (w : Gathering places n k) where
    module _ (some_left : n < length places) where
      one_left : k < declarers (registers listeners) p (decode t)
      one_left = go (ltb k (declarers (registers listeners) p (decode t))) refl
        where
          go : (b : Bool) → ltb k (declarers (registers listeners) p (decode t)) ≡ b → k < declarers (registers listeners) p (decode t)
          go true e = ltb-true k (declarers (registers listeners) p (decode t)) e
          go false e =
              absurd
              (omega (arith, w.enough, ap length (said-end (registers listeners) p (decode t) k (ltb-false k (declarers (registers listeners) p (decode t)) e))))

      stream-left : Held k
      stream-left = unfold declarers in one_left

      further : All (λ i. i < k + 1) (take n places)
      further = all_map (λ i. i < k) (λ i. i < k + 1) (λ i h. omega arith) (take n places) w.below

      pub gathers-none : some (said_by (registers listeners) p (decode t) k) ≡ false → Gathering places n (k + 1)
      gathers-none q =
          let e = nothing_said (registers listeners) p (decode t) k one_left q in
          record {
            within = w.within;
            enough = omega (arith, w.enough, ap length e);
            below = further;
            held = w.held;
            rising = w.rising;
            each = w.each;
            is = rw e at w.is;
          }

      pub gathers-one : Laid t → some (said_by (registers listeners) p (decode t) k) ≡ true → Gathering (set places n k) (n + 1) (k + 1)
      gathers-one laid q =
          let long : length (set places n k) ≡ length places = length-set places n k in
          let front : take (n + 1) (set places n k) ≡ take n places ++ (k ∷ []) = rw (add-one n) (take-suc-set places n k some_left) in
          let m : length places - n - 1 ≡ length places - (n + 1) = omega arith in
          let some_more : 0 < length places - n = omega arith in
          let first = listeners_at p t (take n places) in
          let rest = take (length places - (n + 1)) (left (k + 1)) in
          let one : take (length places - n) (left k) ≡ listener_at p (decode t) k ∷ rest =
          said-taken (registers listeners) p (decode t) k one_left q (length places - n) some_more
          ∙ ap (λ (h : List Said). h ++ take (length places - n - 1) (left (k + 1))) (listener_said p (decode t) k q).2
          ∙ ap (λ (i : ℕ). listener_at p (decode t) k ∷ take i (left (k + 1))) m in
          let more : ids_of t (take n places ++ (k ∷ [])) ≡ ids_of t (take n places) ++ ((stream_at k (decode t)).id ∷ []) =
          unfold ids_of in (map-append (λ i. (stream_at i (decode t)).id) (take n places) (k ∷ [])) in
          record {
            within = omega arith;
            enough = omega (arith, w.enough, long, said-counted (registers listeners) p (decode t) k one_left q);
            below = rw front (all_append (λ i. i < k + 1) (take n places) (k ∷ []) further (omega arith, tt));
            held = rw front (all_append Held (take n places) (k ∷ []) w.held (stream-left, tt));
            rising =
                rw (front, more)
                (ascending-last (ids_of t (take n places)) (stream_at k (decode t)).id w.rising (ids-below t laid k stream-left (take n places) w.below));
            each = rw front (all_append (Tells t p) (take n places) (k ∷ []) w.each (q, tt));
            is =
                rw (front, long, listeners-more t p (take n places) k)
                (append_assoc first (listener_at p (decode t) k ∷ []) rest ∙ ap (λ (r : List Said). first ++ r) (sym one) ∙ w.is);
          }

    -- all are gathered
    pub gathered-all : Laid t → length places ≤ n → p < 8 → length places ≤ 64 → Telling t p places × (listeners_at p t places ≡ whole)
    gathered-all laid none_left port few =
        let all : take n places ≡ places = take_all n places none_left in
        let e : length places - n ≡ 0 = omega arith in (
          record {
            port = port;
            named = record { laid = laid; few = few; held = rw all at w.held; ascending = rw all at w.rising };
            each = rw all at w.each;
          },
          sym (append-nil (listeners_at p t places)) ∙ (rw (all, e) at w.is),
        )

  -- before the walk
  pub gathering-none : (places : List ℕ) (first : ℕ) → length places ≤ length (left first) → take (length places) (left first) ≡ whole → Gathering places 0 first
  gathering-none places first h q =
      let e : length places - 0 ≡ length places = omega arith in
      record {
        within = omega arith;
        enough = omega (arith, h);
        below = tt;
        held = tt;
        rising = unfold ids_of in tt;
        each = tt;
        is = rw e (unfold listeners_at in q);
      }

-- The parts written one behind the other: what is written, with the vectors of what is left, is the whole.
module _ (t : List ℕ) (p : ℕ) (places : List ℕ) where
  abbrev run : List Said
  run = listeners_at p t places

  abbrev behind : ℕ → List ℕ
  behind i = flat vector_octets (map packed_vector (cut_as (best (drop i (ids_of t places))) (drop i run)))

  pub record PartsLeft (out : List ℕ) (i at : ℕ) : Type 0 where
    pub within : i ≤ length places
    pub room : at + least (drop i (ids_of t places)) ≡ length out
    pub is : take at out ++ behind i ≡ packed_vectors run

  pub parts-begin : (out : List ℕ) → length out ≡ least (ids_of t places) → PartsLeft out 0 0
  unfolding packed_vectors vectors_of listener_parts
  parts-begin out h = record { within = omega arith; room = omega arith; is = rw (listeners-ids t p places) }

  module _ {out : List ℕ} {i at : ℕ} (w : PartsLeft out i at) where
    pub parts-end : length places ≤ i → out ≡ packed_vectors run
    parts-end h =
        let none : drop i (ids_of t places) ≡ [] = drop_of_length-le (ids_of t places) {i = i} (omega (arith, ids-length t places)) in
        let no-octets : least (drop i (ids_of t places)) ≡ 0 = rw none (unfold least best bests in refl) in
        let nothing-behind : behind i ≡ [] = rw none (unfold best bests cut_as flat in refl) in
        sym (take_all at out (omega (arith, w.room)))
        ∙ sym (append-nil (take at out))
        ∙ ap (λ (v : List ℕ). take at out ++ v) (sym nothing-behind)
        ∙ w.is

    -- the next part has f of them
    module _ (f : ℕ) (x : Next (ids_of t places) i f) where
      abbrev part : List ℕ
      part = take f (drop i places)

      abbrev size : ℕ
      size = octets_for (values (ids_of t part))

      ids-part : ids_of t part ≡ take f (drop i (ids_of t places))
      ids-part = named-ids-take t f (drop i places) ∙ ap (take f) (ids-behind t i places)

      pub part-shares : Part (ids_of t part)
      part-shares = rw ids-part (rw x.vector at (best-cuts (drop i (ids_of t places))).1).0

      pub part-inside : i + f ≤ length places
      part-inside = omega (arith, x.inside, ids-length t places)

      part-long : length (take f (drop i (ids_of t places))) ≡ f
      part-long = length-take-le f (drop i (ids_of t places)) (omega (arith, length-drop i (ids_of t places), x.inside))

      least-next : least (drop i (ids_of t places)) ≡ size + least (drop (i + f) (ids_of t places))
      unfolding least
      least-next = rw (x.vector, ids-part)

      pub part-fits : at + size ≤ length out
      part-fits = omega (arith, w.room, least-next)

      behind-next : behind i ≡ vector_octets (packed_vector (listeners_at p t part)) ++ behind (i + f)
      behind-next =
          rw (x.vector, listeners-take t p f (drop i places), listeners-drop t p i places)
          (unfold cut_as flat in (rw (part-long, drop-drop f i run)))

      module _ (s : ℕ) (es : s ≡ size) (y : List ℕ) (z : length y ≡ s) where
        fits : at + s ≤ length out
        fits = omega (arith, part-fits)

        pub parts-long : length (take at out ++ (y ++ drop (at + s - at) (drop at out))) ≡ length out
        parts-long = ap length (lent-patch at s y out) ∙ length-patch at s y out z fits

        pub parts_more : y ≡ vector_octets (packed_vector (listeners_at p t part))
            → PartsLeft (take at out ++ (y ++ drop (at + s - at) (drop at out))) (i + f) (at + s)
        parts_more v =
            let front = take at out in
            let rest = drop (at + s - at) (drop at out) in
            let long : length (front ++ y) ≡ at + s = length-append front y ∙ omega (arith, length-take-le at out (omega (arith, fits))) in
            record {
              within = part-inside;
              room = omega (arith, parts-long, w.room, least-next);
              is =
                  ap (λ (u : List ℕ). u ++ behind (i + f))
                  (ap (take (at + s)) (sym (append_assoc front y rest)) ∙ take_at (front ++ y) rest (at + s) long)
                  ∙ append_assoc front y (behind (i + f))
                  ∙ ap (λ (u : List ℕ). front ++ (u ++ behind (i + f))) v
                  ∙ ap (λ (u : List ℕ). front ++ u) (sym behind-next)
                  ∙ w.is;
            }
