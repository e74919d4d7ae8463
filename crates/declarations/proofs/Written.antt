-- What is written one behind the other into the caller's buffer: a vector, a Message with LeaveAll or without it, and what the passes leave,
-- which is the PDU of the declarations that it takes, and the buffer's own octets behind it.
use Prim.Native.Nat.{ℕ, ◌+◌, ◌-◌, ◌*◌, ◌/◌, ◌%◌, ◌^◌, ◌≤◌, ◌<◌}
use native.Mathlib.Omega.{arith}
use mathlib.Core.Path.{◌≡◌, refl, sym, ap, ◌∙◌}
use mathlib.Core.Bool.{Bool, true, false, cond}
use mathlib.Core.List.{List, [], ◌∷◌, ◌++◌, map, append-nil, append_assoc}
use lib.ListN.{length, set, take, drop, length-append, length-drop, take-append-drop, drop_of_length-le, get_or-append}
use lib.Dec.{ltb}
use lib.Seq.{take_at, take-nil, drop_at, drop-nil, drop-drop, length-take-le}
use Rattle.octets.specs.Parts.{part, patch, zeros}
use Rattle.octets.specs.Fields.{flat}
use Rattle.octets.specs.Be.{be, be_at}
use Rattle.octets.proofs.Parts.{lent-part, length_part, length-patch, patch-none}
use Rattle.octets.proofs.Patches.{lent-patch}
use Rattle.octets.proofs.Be.{length-be, be-zero, be_at-be, be_at-ext}
use Rattle.model.specs.FrameLayout.{listener_length, longest_pdu}
use Rattle.model.specs.Lists.{All, bit}
use Rattle.model.specs.Machines.{Listed}
use Rattle.model.specs.Places.{saying, reached, write_from}
use Rattle.model.specs.State.{Bridge, sender_at}
use Rattle.model.specs.Registrations.{advertises, faileds, listeners}
use Rattle.model.specs.Frames.{Attribute, registers, domain_type, type_number, first_length, three_length, four_length, Vector}
use Rattle.model.specs.Cutting.{values, octets_for}
use Rattle.model.specs.Best.{best, bests}
use Rattle.model.specs.Declarations.{Declaration, Said, attribute_of, declared_ids, same_attribute, having, domain_values, declarations, empty_size, message_size, fitting, takes}
use Rattle.model.specs.Writing.{leaves_all, port_way, say_on, takes_on, wrote_on, end_on}
use Rattle.model.specs.WrittenFrames.{declaration_vector, packed_vector, cut_as, listener_parts, vectors_of, vector_octets, message_of, with_leave_all, empty_vector, leaving_all, vectors_said, message_octets, pdu_octets}
use Rattle.model.specs.Table.{decode}
use Rattle.model.proofs.Lists.{all_map, all_append, all_take}
use Rattle.model.proofs.Parts.{length-zeros, zeros-add}
use Rattle.model.proofs.WritingPasses.{Typed, listed_type, in_turn, OfAttribute, having-append, length-packed, message-least, length-message, map-take, takes-within}
use Rattle.declarations.specs.declared.Progress.{Progress}
use Rattle.declarations.specs.declared.Message.{Message}
use Rattle.declarations.specs.declared.Start.{Start}
use Rattle.declarations.specs.Vectors.{Holding, announced}
use Rattle.table.specs.Places.{PortIn}
use Rattle.declarations.specs.Passes as passes
use Rattle.declarations.specs.Passes.{all_of, said_of, machines_from, said_from, vectors, Single, StartsAt, earlier, later, message, fit, Room, MessageWritten, rest, taken, said, passed, written, PassIn, PassLeaves, begun, run_on, pdu_on, PduWritten}
use Rattle.declarations.proofs.Declared.{said-is}
use Rattle.declarations.proofs.Fitting.{fit-long, fit_none, if-open, if-full, of-type, taken-type, run_from, remaining, reaching, pass-takes, pass-reaches, pass-after}

-- Octets written behind others.

pub holding-none : (b : List ℕ) → Holding [] 0 b b
holding-none b = record { long = refl; is = refl }

module _ {w b now : List ℕ} {at : ℕ} (h : Holding w at b now) where
  holding-more : (y : List ℕ) (n : ℕ) → length y ≡ n → Holding (w ++ y) (at + n) b (patch at n y now)
  unfolding patch
  holding-more y n q = record {
    long = length-append w y ∙ omega (arith, h.long);
    is =
        ap (patch at n y) h.is
        ∙ rw (take_at w (drop at b) at h.long, drop_at w (drop at b) at h.long, drop-drop n at b) (sym (append_assoc w y (drop (at + n) b)));
  }

  -- a number, by octets::put
  pub holding-put : (n x : ℕ) {after : List ℕ} → after ≡ patch at n (be n x) now → Holding (w ++ be n x) (at + n) b after
  holding-put n x e = rw e (holding-more (be n x) n (length-be n x))

  -- by a call that was lent the n octets behind, and left z there
  pub holding-lent : (n : ℕ) {y z : List ℕ} → z ≡ y → length y ≡ n → Holding (w ++ y) (at + n) b (take at now ++ (z ++ drop (at + n - at) (drop at now)))
  holding-lent n {y = y} e q = rw (e, lent-patch at n y now) (holding-more y n q)

  -- octets that stay as they are
  pub holding-kept : (n : ℕ) → at + n ≤ length b → Holding (w ++ part at n b) (at + n) b now
  unfolding part
  holding-kept n m = record {
    long = length-append w (part at n b) ∙ omega (arith, h.long, length_part at n b m);
    is =
        h.is
        ∙ ap (λ (z : List ℕ). w ++ z) (sym (take-append-drop n (drop at b)) ∙ ap (λ (z : List ℕ). take n (drop at b) ++ z) (drop-drop n at b))
        ∙ sym (append_assoc w (take n (drop at b)) (drop (at + n) b));
  }

  -- to the end
  pub holding-all : length b ≤ at → now ≡ w
  holding-all m = h.is ∙ rw (drop_of_length-le b {i = at} m) (append-nil w)

-- one octet
pub be-one : (x : ℕ) → x < 256 → be 1 x ≡ x ∷ []
unfolding be
be-one x h = let e : x % 256 ≡ x = omega arith in rw e

-- the parts of a Message around vectors v
pub message-is : (k : Attribute) (v : List ℕ) (h n : ℕ) → be 2 h ≡ type_number k ∷ first_length k ∷ [] → length v ≡ n
    → ((be 2 h ++ be 2 (n + 2)) ++ v) ++ be 2 0 ≡ message_of k (v ++ (0 ∷ 0 ∷ []))
unfolding message_of
message-is k v h n e l =
    let long : length (v ++ (0 ∷ 0 ∷ [])) ≡ n + 2 = length-append v (0 ∷ 0 ∷ []) ∙ omega arith in
    append_assoc (be 2 h ++ be 2 (n + 2)) v (be 2 0) ∙ append_assoc (be 2 h) (be 2 (n + 2)) (v ++ be 2 0) ∙ rw (e, be-zero 2, long)

-- LeaveAll in the first of some vectors.

be_at-front : (n x : ℕ) (s : List ℕ) → x < 256 ^ n → be_at n (be n x ++ s) 0 ≡ x
be_at-front n x s h =
    be_at-ext n (be n x ++ s) (be n x) 0 0 (λ j l. get_or-append (be n x) s 0 (0 + j) (omega (arith, length-be n x, l))) ∙ be_at-be n x h

-- vectors as they are written: without LeaveAll, their values in two octets
abbrev pub Plain : Vector → Type 0
Plain v = (v.leaves_all ≡ false) × (v.values < 65536)

announced-first : (v : Vector) (r : List ℕ) → Plain v → announced true (vector_octets v ++ r) ≡ vector_octets (with_leave_all v) ++ r
unfolding announced vector_octets with_leave_all bit
announced-first v r h =
    let n : ℕ = bit v.leaves_all * 8192 + v.values in
    let tail = v.first ++ (v.three ++ v.four) in
    let none : n ≡ v.values = rw h.0 (omega arith) in
    let small : n < 256 ^ 2 = omega (arith, none, h.1) in
    let whole : (be 2 n ++ tail) ++ r ≡ be 2 n ++ (tail ++ r) = append_assoc (be 2 n) tail r in
    let read : be_at 2 ((be 2 n ++ tail) ++ r) 0 ≡ n = ap (λ (s : List ℕ). be_at 2 s 0) whole ∙ be_at-front 2 n (tail ++ r) small in
    let rest : drop 2 ((be 2 n ++ tail) ++ r) ≡ tail ++ r = ap (drop 2) whole ∙ drop_at (be 2 n) (tail ++ r) 2 (length-be 2 n) in
    let sum : be_at 2 ((be 2 n ++ tail) ++ r) 0 + 8192 ≡ 8192 + v.values = omega (arith, read, none) in
    rw (rest) (ap (λ (m : ℕ). be 2 m ++ (tail ++ r)) sum ∙ sym (append_assoc (be 2 (8192 + v.values)) tail r))

pub message-announced : (all : Bool) (k : Attribute) (vs : List Vector) → 1 ≤ length vs → All Plain vs
    → message_of k (announced all (flat vector_octets vs) ++ (0 ∷ 0 ∷ [])) ≡ message_octets k (cond all (leaving_all k vs) vs)
message-announced all k [] h a = absurd (omega arith)
message-announced false k (v ∷ vs) h a = unfold announced message_octets in refl
message-announced true k (v ∷ vs) h a =
    unfold leaving_all message_octets flat in (ap (λ (s : List ℕ). message_of k (s ++ (0 ∷ 0 ∷ []))) (announced-first v (flat vector_octets vs) a.0))

-- and for a type of which nothing is said
no-vectors : (k : Attribute) → vectors_of k [] ≡ []
unfolding vectors_of listener_parts cut_as best bests declared_ids
no-vectors (registers advertises) = refl
no-vectors (registers faileds) = refl
no-vectors (registers listeners) = refl
no-vectors domain_type = refl

pub message-empty : (k : Attribute) → message_of k (announced true (zeros (2 + first_length k)) ++ (0 ∷ 0 ∷ [])) ≡ message true k []
unfolding message vectors_said
message-empty k = rw (no-vectors k) (unfold leaving_all message_octets flat in (ap (λ (s : List ℕ). message_of k (s ++ (0 ∷ 0 ∷ []))) (go k)))
  where
    go : (k : Attribute) → announced true (zeros (2 + first_length k)) ≡ vector_octets (empty_vector k) ++ []
    go (registers advertises) = unfold announced vector_octets empty_vector first_length be_at be bit in refl
    go (registers faileds) = unfold announced vector_octets empty_vector first_length be_at be bit in refl
    go (registers listeners) = unfold announced vector_octets empty_vector first_length be_at be bit in refl
    go domain_type = unfold announced vector_octets empty_vector first_length be_at be bit in refl

pub message-none : (k : Attribute) → message false k [] ≡ []
unfolding message vectors_said
message-none k = rw (no-vectors k) (unfold message_octets in refl)

pub message-length : (all : Bool) (k : Attribute) (l : List Said) → All (OfAttribute k) l → length (message all k l) ≡ message_size all k l
unfolding message
message-length all k l own = length-message all k l own

pub empty-least : (all : Bool) (k : Attribute) → (empty_size all k ≡ 0 → ⊥) → 8 ≤ empty_size all k
unfolding empty_size
empty-least true k h = omega arith
empty-least false k h = absurd (h refl)

-- what is left where nothing is said of a type: no Message
pub nothing_written : (all : Bool) (k : Attribute) (at : ℕ) (c : List ℕ) → empty_size all k ≡ 0 → earlier all k ≤ at → at + empty_size all k + (2 + later all k) ≤ longest_pdu
    → MessageWritten all k [] at c (record { count = 0; end = at }) c
nothing_written all k at c none after room =
    let nothing : message all k (fit all k at []) ≡ [] = ap (message all k) (fit_none all k at).1 ∙ go all none in
    let e : length (message all k (fit all k at [])) ≡ 0 = ap length nothing in
    record {
      count = sym (fit_none all k at).0;
      end = omega (arith, e);
      buffer = sym (rw nothing (patch-none at c));
      after = omega (arith, none, after);
      room = omega (arith, room);
    }
  where
    go : (t : Bool) → empty_size t k ≡ 0 → message t k [] ≡ []
    go false e = message-none k
    go true e = absurd (unfold empty_size in (omega (arith, e)))

zeros-inside : (m n : ℕ) → n ≡ 4 + (m + 2) → part 4 (length (zeros n) - 6) (zeros n) ≡ zeros m
unfolding part
zeros-inside m n q =
    let i : length (zeros n) - 6 ≡ m = omega (arith, length-zeros n, q) in
    rw (i, q, zeros-add 4 (m + 2), drop_at (zeros 4) (zeros (m + 2)) 4 (length-zeros 4), zeros-add m 2, take_at (zeros m) (zeros 2) m (length-zeros m))

patched : (at n : ℕ) (y s : List ℕ) → at + n ≤ length s → (take at (patch at n y s) ≡ take at s) × (drop at (patch at n y s) ≡ y ++ drop n (drop at s))
unfolding patch
patched at n y s h =
    let front : length (take at s) ≡ at = length-take-le at s (omega arith) in
    (take_at (take at s) (y ++ drop n (drop at s)) at front, drop_at (take at s) (y ++ drop n (drop at s)) at front)

part-patched : (at n : ℕ) (y s : List ℕ) → length y ≡ n → at + n ≤ length s → part at n (patch at n y s) ≡ y
unfolding part
part-patched at n y s l h = rw (patched at n y s h).1 (take_at y (drop n (drop at s)) n l)

patch-twice : (at n : ℕ) (y z s : List ℕ) → length z ≡ n → at + n ≤ length s → patch at n y (patch at n z s) ≡ patch at n y s
patch-twice at n y z s l h =
    let e : patch at n y (patch at n z s) ≡ take at (patch at n z s) ++ (y ++ drop n (drop at (patch at n z s))) = unfold patch in refl in
    e
    ∙ rw ((patched at n z s h).0, (patched at n z s h).1, drop_at z (drop n (drop at s)) n l) (unfold patch in refl)

-- or one that only carries LeaveAll
pub empty-written : (all : Bool) (k : Attribute) (at : ℕ) (c : List ℕ) (size : ℕ) → size ≡ empty_size all k → (size ≡ 0 → ⊥) → earlier all k ≤ at
    → at + empty_size all k + (2 + later all k) ≤ longest_pdu → longest_pdu ≤ length c → (d : List ℕ) → d ≡ patch at size (zeros size) c → (y : List ℕ)
    → (let lent = take (at + size - at) (drop at d) in y ≡ message_of k (announced all (part 4 (length lent - 6) lent) ++ (0 ∷ 0 ∷ [])))
    → MessageWritten all k [] at c (record { count = 0; end = at + size }) (take at d ++ (y ++ drop (at + size - at) (drop at d)))
empty-written false k at c size z some after room long d e y h = absurd (some (z ∙ unfold empty_size in refl))
empty-written true k at c size z some after room long d e y h =
    let inside : at + size ≤ length c = omega (arith, room, long, z) in
    let length-z : length (zeros size) ≡ size = length-zeros size in
    let lent : take (at + size - at) (drop at d) ≡ zeros size = lent-part at size d ∙ ap (part at size) e ∙ part-patched at size (zeros size) c length-z inside in
    let F : ℕ = first_length k in
    let full : size ≡ 4 + ((2 + F) + 2) = z ∙ unfold empty_size in (omega arith) in
    let list : part 4 (length (take (at + size - at) (drop at d)) - 6) (take (at + size - at) (drop at d)) ≡ zeros (2 + F) =
    ap (λ (l : List ℕ). part 4 (length l - 6) l) lent ∙ zeros-inside (2 + F) size full in
    let is : y ≡ message true k [] = h ∙ ap (λ (v : List ℕ). message_of k (announced true v ++ (0 ∷ 0 ∷ []))) list ∙ message-empty k in
    let fits : message true k (fit true k at []) ≡ message true k [] = ap (message true k) (fit_none true k at).1 in
    let empty : message_size true k [] ≡ empty_size true k = unfold message_size in refl in
    let message-long : length (message true k []) ≡ size = message-length true k [] tt ∙ empty ∙ sym z in
    record {
      count = sym (fit_none true k at).0;
      end = omega (arith, ap length fits, message-long);
      buffer =
          lent-patch at size y d
          ∙ ap (λ (v : List ℕ). patch at size v d) is
          ∙ ap (patch at size (message true k [])) e
          ∙ patch-twice at size (message true k []) (zeros size) c length-z inside
          ∙ rw (fits, message-long) refl;
      after = omega (arith, after, z);
      room = omega (arith, room, z);
    }

-- A Message of some vectors that stand in their place.

some-vectors : (k : Attribute) (run : List Said) → All (OfAttribute k) run → 1 ≤ length run → 1 ≤ length (vectors_of k run)
some-vectors k run own h = go (vectors_of k run) refl
  where
    some : (l : List Said) → 1 ≤ length l → 6 ≤ message_size false k l
    some [] h = absurd (omega arith)
    some (d ∷ l) h = unfold message_size in (omega arith)

    go : (vs : List Vector) → vectors_of k run ≡ vs → 1 ≤ length (vectors_of k run)
    go [] e =
        let none : length (message_octets k (vectors_said false k run)) ≡ 0 = unfold vectors_said in (rw e (unfold message_octets in refl)) in
        absurd (omega (arith, none, length-message false k run own, some run h))
    go (v ∷ vs) e = rw e (omega arith)

pub message-around : (all : Bool) (k : Attribute) (run : List Said) (v : List ℕ) → All (OfAttribute k) run → 1 ≤ length run → All Plain (vectors_of k run)
    → v ≡ flat vector_octets (vectors_of k run) → message_of k (announced all v ++ (0 ∷ 0 ∷ [])) ≡ message all k run
unfolding message vectors_said
message-around all k run v own some plain e = rw e (message-announced all k (vectors_of k run) (some-vectors k run own some) plain)

-- as two calls leave them that were lent their place, one for the vectors and one for LeaveAll
lent-list : (n : ℕ) (y out : List ℕ) → length y ≡ n → 4 + n + 2 ≡ length out
    → let now = take 4 out ++ (y ++ drop (4 + n - 4) (drop 4 out)) in part 4 (length now - 6) now ≡ y
unfolding part
lent-list n y out l m =
    let h : 4 + n ≤ length out = omega arith in
    let rest = drop (4 + n - 4) (drop 4 out) in
    let front : length (take 4 out) ≡ 4 = length-take-le 4 out (omega arith) in
    let i : length (take 4 out ++ (y ++ rest)) - 6 ≡ n = omega (arith, ap length (lent-patch 4 n y out), length-patch 4 n y out l h) in
    rw (i, drop_at (take 4 out) (y ++ rest) 4 front, take_at y rest n l)

announced-length : (all : Bool) (v : List ℕ) → 2 ≤ length v → length (announced all v) ≡ length v
unfolding announced
announced-length true v h = length-append (be 2 (be_at 2 v 0 + 8192)) (drop 2 v) ∙ omega (arith, length-be 2 (be_at 2 v 0 + 8192), length-drop 2 v)
announced-length false v h = refl

pub lent-announced : (all : Bool) (k : Attribute) (n : ℕ) (y out : List ℕ) → 8 ≤ length out → n ≡ length out - 6 → y ≡ announced all (part 4 n out)
    → let now = take 4 out ++ (y ++ drop (4 + n - 4) (drop 4 out)) in
    message_of k (part 4 (length now - 6) now ++ (0 ∷ 0 ∷ [])) ≡ message_of k (announced all (part 4 (length out - 6) out) ++ (0 ∷ 0 ∷ []))
lent-announced all k n y out h m e =
    let long : length (part 4 n out) ≡ n = length_part 4 n out (omega (arith, m, h)) in
    let y-long : length y ≡ n = ap length e ∙ announced-length all (part 4 n out) (omega (arith, long, m, h)) ∙ long in
    ap (λ (v : List ℕ). message_of k (v ++ (0 ∷ 0 ∷ [])))
    (lent-list n y out y-long (omega (arith, m, h)) ∙ e ∙ ap (λ (i : ℕ). announced all (part 4 i out)) m)

pub lent-vectors : (all : Bool) (k : Attribute) (run : List Said) (n : ℕ) (y out : List ℕ) → length y ≡ n → 4 + n + 2 ≡ length out
    → All (OfAttribute k) run → 1 ≤ length run → All Plain (vectors_of k run) → y ≡ flat vector_octets (vectors_of k run)
    → let now = take 4 out ++ (y ++ drop (4 + n - 4) (drop 4 out)) in
    message_of k (announced all (part 4 (length now - 6) now) ++ (0 ∷ 0 ∷ [])) ≡ message all k run
lent-vectors all k run n y out l m own some plain e =
    ap (λ (v : List ℕ). message_of k (announced all v ++ (0 ∷ 0 ∷ []))) (lent-list n y out l m) ∙ message-around all k run y own some plain e

-- one vector each
vectors-each : (l : List Said) → flat (λ d. vector_octets (declaration_vector d)) l ≡ flat vector_octets (map declaration_vector l)
unfolding flat
vectors-each [] = refl
vectors-each (d ∷ l) = ap (λ (v : List ℕ). vector_octets (declaration_vector d) ++ v) (vectors-each l)

each-plain : (l : List Said) → All Plain (map declaration_vector l)
each-plain [] = tt
each-plain (d ∷ l) = (unfold declaration_vector in (refl, omega arith), each-plain l)

pub singles-vectors : (k : Attribute) → Single k → (run : List Said) → (vectors run ≡ flat vector_octets (vectors_of k run)) × All Plain (vectors_of k run)
unfolding vectors vectors_of
singles-vectors (registers advertises) s run = (vectors-each run, each-plain run)
singles-vectors (registers faileds) s run = (vectors-each run, each-plain run)
singles-vectors (registers listeners) s run = absurd s
singles-vectors domain_type s run = (vectors-each run, each-plain run)

-- Listeners packed in at most so many octets
part-plain : (g : List Said) → values (declared_ids g) < 65536 → Plain (packed_vector g)
unfolding packed_vector
part-plain g h = (refl, h)

parts-plain : (g : List (List Said)) (n : ℕ) → length (flat vector_octets (map packed_vector g)) ≤ n → n ≤ longest_pdu → All Plain (map packed_vector g)
parts-plain [] n h m = tt
parts-plain (g ∷ gs) n h m =
    let both = length-append (vector_octets (packed_vector g)) (flat vector_octets (map packed_vector gs)) in
    let e : length (flat vector_octets (map packed_vector (g ∷ gs))) ≡ length (vector_octets (packed_vector g) ++ flat vector_octets (map packed_vector gs)) = unfold flat in refl in
    let v : ℕ = values (declared_ids g) in
    let long : octets_for v ≡ 2 + listener_length + three_length v + four_length true v = unfold octets_for in refl in
    let threes : three_length v ≡ (v + 2) / 3 = unfold three_length in refl in
    let small : v < 65536 = omega (arith, both, e, length-packed g, long, threes, h, m) in
    (part-plain g small, parts-plain gs n (omega (arith, both, e)) m)

pub packed-plain : (run : List Said) → length (flat vector_octets (vectors_of (registers listeners) run)) ≤ longest_pdu → All Plain (vectors_of (registers listeners) run)
unfolding vectors_of
packed-plain run h = parts-plain (listener_parts run) longest_pdu h (omega arith)

-- What a pass leaves of its Message.

-- none of those that are to say fits
pub none-fits : (all : Bool) (k : Attribute) (l : List Said) (at : ℕ) {c d : List ℕ} {r : Message} → passes.fitting all k at l ≡ 0
    → MessageWritten all k [] at c r d → MessageWritten all k l at c r d
none-fits all k l at {c = c} e w =
    let same : fit all k at [] ≡ fit all k at l = (fit_none all k at).1 ∙ sym (unfold fit in (rw e)) in
    record {
      count = w.count ∙ (fit_none all k at).0 ∙ sym e;
      end = w.end ∙ ap (λ (m : List Said). at + length (message all k m)) same;
      buffer = w.buffer ∙ ap (λ (m : List Said). patch at (length (message all k m)) (message all k m) c) same;
      after = w.after;
      room = w.room;
    }

-- n of them do
pub some_fit : (all : Bool) (k : Attribute) (l : List Said) → All (OfAttribute k) l → (at n long : ℕ) (c y : List ℕ) → n ≡ passes.fitting all k at l
    → length (message all k (take n l)) ≡ long → y ≡ message all k (take n l) → earlier all k ≤ at → at + long + (2 + later all k) ≤ longest_pdu
    → MessageWritten all k l at c (record { count = n; end = at + long }) (take at c ++ (y ++ drop (at + long - at) (drop at c)))
some_fit all k l own at n long c y e m is after room =
    let same : take n l ≡ fit all k at l = unfold fit in (ap (λ (i : ℕ). take i l) e) in
    let least : empty_size all k ≤ long = omega (arith, message-least all k (take n l), message-length all k (take n l) (all_take (OfAttribute k) n l own), m) in
    record {
      count = e;
      end = ap (λ (i : ℕ). at + i) (sym m ∙ ap (λ (r : List Said). length (message all k r)) same);
      buffer = lent-patch at long y c ∙ ap (λ (v : List ℕ). patch at long v c) is ∙ rw (← m) (ap (λ (r : List Said). patch at (length (message all k r)) (message all k r) c) same);
      after = omega (arith, least, after);
      room = room;
    }

-- The pass of a type, where the PDU is full and where it is not.

progress-is : {a a₂ i i₂ e e₂ : ℕ} {f f₂ : Bool} → a ≡ a₂ → i ≡ i₂ → e ≡ e₂ → f ≡ f₂
    → ◌≡◌ {A = Progress} (record { at = a; skip = i; end = e; full = f }) (record { at = a₂; skip = i₂; end = e₂; full = f₂ })
progress-is q₁ q₂ q₃ q₄ = rw (q₁, q₂, q₃, q₄)

module _ (b : Bridge) (p : ℕ) (k : Attribute) (s : Progress) where
  rest-full : s.full ≡ true → rest b p k s ≡ []
  unfolding rest
  rest-full e = if-full [] (said_of b p (drop s.skip (all_of k p b))) e

  rest-open : s.full ≡ false → rest b p k s ≡ said_of b p (drop s.skip (all_of k p b))
  unfolding rest
  rest-open e = if-open [] (said_of b p (drop s.skip (all_of k p b))) e

  -- what is said is the Message of those that fit, of what there is to say
  module _ (l : List Said) (is : l ≡ rest b p k s) where
    taken_is : fit (leaves_all b p) k s.at l ≡ taken b p k s
    unfolding taken
    taken_is = ap (fit (leaves_all b p) k s.at) is

    said-message : message (leaves_all b p) k (fit (leaves_all b p) k s.at l) ≡ said b p k s
    unfolding said
    said-message = ap (message (leaves_all b p) k) taken_is

    taken-count : passes.fitting (leaves_all b p) k s.at l ≡ length (taken b p k s)
    taken-count = sym (fit-long (leaves_all b p) k s.at l) ∙ ap length taken_is

    written_is : {c d : List ℕ} {m : Message} → MessageWritten (leaves_all b p) k l s.at c m d → d ≡ written b p k s c
    unfolding written
    written_is {c = c} w = w.buffer ∙ ap (λ (v : List ℕ). patch s.at (length v) v c) said-message

    at-is : {c d : List ℕ} {m : Message} → MessageWritten (leaves_all b p) k l s.at c m d → m.end ≡ s.at + length (said b p k s)
    at-is w = w.end ∙ ap (λ (v : List ℕ). s.at + length v) said-message

-- what a pass reaches, and leaves to skip
module _ (b : Bridge) (p : ℕ) (k : Attribute) (s : Progress) where
  abbrev reach : ℕ
  reach = length (reached (port_way b p).says (length (taken b p k s)) (drop s.skip (all_of k p b)))

  passed-full : s.full ≡ true → record { at = s.at + length (said b p k s); skip = 0; end = s.end; full = true } ≡ passed b p k s
  unfolding passed
  passed-full e =
      progress-is refl (sym (if-full 0 (s.skip - length (all_of k p b)) e)) (omega (arith, if-full 0 reach e))
      (sym (if-full true (ltb (length (taken b p k s)) (length (rest b p k s))) e))

  passed-open : s.full ≡ false
      → record { at = s.at + length (said b p k s); skip = s.skip - length (all_of k p b); end = s.end + reach; full = ltb (length (taken b p k s)) (length (rest b p k s)) }
      ≡ passed b p k s
  unfolding passed
  passed-open e =
      progress-is refl (sym (if-open 0 (s.skip - length (all_of k p b)) e)) (ap (λ (i : ℕ). s.end + i) (sym (if-open 0 reach e)))
      (sym (if-open true (ltb (length (taken b p k s)) (length (rest b p k s))) e))

pub pass-full : (t : List ℕ) (p : ℕ) (k : Attribute) (s : Progress) {c d : List ℕ} {m : Message} → s.full ≡ true
    → MessageWritten (leaves_all (decode t) p) k [] s.at c m d → PassLeaves t p k s c (record { at = m.end; skip = 0; end = s.end; full = true }) d
pass-full t p k s full w =
    let b = decode t in
    let none : [] ≡ rest b p k s = sym (rest-full b p k s full) in
    record {
      progress = progress-is (at-is b p k s [] none w) refl refl refl ∙ passed-full b p k s full;
      buffer = written_is b p k s [] none w;
      after = w.after;
      room = w.room;
      end = omega arith;
    }

pub pass-open : (t : List ℕ) (p : ℕ) (k : Attribute) (s : Progress) {c d : List ℕ} {m : Message} → s.full ≡ false → {x : Start} → StartsAt t p k s.skip x
    → {left r : ℕ} → left ≡ length (said_from k p (decode t) x.first)
    → MessageWritten (leaves_all (decode t) p) k (said_from k p (decode t) x.first) s.at c m d
    → r ≡ length (reached (port_way (decode t) p).says m.count (machines_from k p (decode t) x.first)) → r ≤ 64
    → PassLeaves t p k s c (record { at = m.end; skip = x.skip; end = s.end + r; full = ltb m.count left }) d
pass-open t p k s {m = m} unfilled {x = x} start counted w reaches few =
    let b = decode t in
    let l = said_from k p b x.first in
    let is : l ≡ rest b p k s = said-is k p b x.first ∙ ap (said_of b p) start.rest ∙ sym (rest-open b p k s unfilled) in
    let number : m.count ≡ length (taken b p k s) = w.count ∙ taken-count b p k s l is in
    let says = (port_way b p).says in
    record {
      progress =
          progress-is (at-is b p k s l is w) start.left
          (ap (λ (i : ℕ). s.end + i)
          (reaches ∙ ap (λ (r : List (Listed Declaration)). length (reached says m.count r)) start.rest ∙ ap (λ (i : ℕ). length (reached says i (drop s.skip (all_of k p b)))) number))
          (ap (ltb m.count) (counted ∙ ap length is) ∙ ap (λ (i : ℕ). ltb i (length (rest b p k s))) number)
          ∙ passed-open b p k s unfilled;
      buffer = written_is b p k s l is w;
      after = w.after;
      room = w.room;
      end = omega arith;
    }

-- before the first pass, and before a pass that follows one
pub first-room : (all : Bool) → Room all (registers advertises) 1
unfolding empty_size later first_length
first-room true = omega arith
first-room false = omega arith

pub next-pass : (t : List ℕ) (p : ℕ) (k j : Attribute) {s r : Progress} {c d : List ℕ} → PortIn t p
    → earlier (leaves_all (decode t) p) j ≡ earlier (leaves_all (decode t) p) k + empty_size (leaves_all (decode t) p) k
    → later (leaves_all (decode t) p) k ≡ empty_size (leaves_all (decode t) p) j + later (leaves_all (decode t) p) j → PassLeaves t p k s c r d → r.end ≤ 1000 → longest_pdu ≤ length d
    → PassIn t p j r d
next-pass t p k j port e l w end long =
    record { message = record { port = port; after = omega (arith, e, w.after); room = omega (arith, l, w.room); buffer = long }; end = end }

-- The Messages of a PDU, type by type.

-- of declarations of one type, all or none are of a type
having-all : (j k : Attribute) (t : Bool) → same_attribute j k ≡ t → (l : List Said) → All (OfAttribute j) l → having k l ≡ cond t l []
unfolding having
having-all j k true e [] a = refl
having-all j k true e (d ∷ l) a = rw (a.0, e) (ap (λ (r : List Said). d ∷ r) (having-all j k true e l a.1))
having-all j k false e [] a = refl
having-all j k false e (d ∷ l) a = rw (a.0, e) (having-all j k false e l a.1)

module _ (all : Bool) (of : Attribute → List Said) (own : (k : Attribute) → All (OfAttribute k) (of k)) where
  having-of : (j k : Attribute) → having k (of j) ≡ cond (same_attribute j k) (of j) []
  having-of j k = having-all j k (same_attribute j k) refl (of j) (own j)

  only : (k : Attribute) → having k (in_turn of) ≡ of k
  unfolding same_attribute type_number
  only k =
      rw (
        having-append k (of (registers advertises)) _,
        having-append k (of (registers faileds)) _,
        having-append k (of (registers listeners)) _,
        having-of (registers advertises) k,
        having-of (registers faileds) k,
        having-of (registers listeners) k,
        having-of domain_type k,
      )
      (go k)
    where
      go : (k : Attribute) → in_turn (λ j. cond (same_attribute j k) (of j) []) ≡ of k
      go (registers advertises) = append-nil (of (registers advertises))
      go (registers faileds) = append-nil (of (registers faileds))
      go (registers listeners) = append-nil (of (registers listeners))
      go domain_type = refl

  pdu-of-each : pdu_octets all (in_turn of)
      ≡ 0 ∷ (message all (registers advertises) (of (registers advertises))
      ++ (message all (registers faileds) (of (registers faileds))
      ++ (message all (registers listeners) (of (registers listeners)) ++ (message all domain_type (of domain_type) ++ (0 ∷ 0 ∷ [])))))
  unfolding pdu_octets message
  pdu-of-each = rw (only (registers advertises), only (registers faileds), only (registers listeners), only domain_type)

-- the version octet
holding-version : (b : List ℕ) → 1 ≤ length b → Holding (0 ∷ []) 1 b (set b 0 0)
holding-version [] h = absurd (omega arith)
holding-version (x ∷ b) h = record { long = refl; is = refl }

-- a pass
holding-pass : (b : Bridge) (p : ℕ) (k : Attribute) (s : Progress) (w c now : List ℕ) → Holding w s.at c now
    → Holding (w ++ said b p k s) (passed b p k s).at c (written b p k s now)
unfolding written passed
holding-pass b p k s w c now h = holding-more h (said b p k s) (length (said b p k s)) refl

behind-version : (a f l d e : List ℕ) → (((((0 ∷ []) ++ a) ++ f) ++ l) ++ d) ++ e ≡ 0 ∷ (a ++ (f ++ (l ++ (d ++ e))))
behind-version a f l d e = simp append_assoc

-- From a place on, of the declarations of port p: how far the PDU is before each pass and at the end.
module _ (p place : ℕ) (b : Bridge) where
  abbrev all : Bool
  all = leaves_all b p

  abbrev of : Attribute → List (Listed Declaration)
  of k = all_of k p b

  abbrev s₁ : Progress
  s₁ = begun place

  abbrev s₂ : Progress
  s₂ = passed b p (registers advertises) s₁

  abbrev s₃ : Progress
  s₃ = passed b p (registers faileds) s₂

  abbrev s₄ : Progress
  s₄ = passed b p (registers listeners) s₃

  abbrev s₅ : Progress
  s₅ = passed b p domain_type s₄

  -- before the pass of a type, and what that pass takes
  abbrev start : Attribute → Progress
  start (registers advertises) = s₁
  start (registers faileds) = s₂
  start (registers listeners) = s₃
  start domain_type = s₄

  abbrev took : Attribute → List Said
  took k = taken b p k (start k)

  abbrev behind₃ : List (Listed Declaration)
  behind₃ = of domain_type ++ []

  abbrev behind₂ : List (Listed Declaration)
  behind₂ = of (registers listeners) ++ behind₃

  abbrev behind₁ : List (Listed Declaration)
  behind₁ = of (registers faileds) ++ behind₂

  declared : of (registers advertises) ++ behind₁ ≡ declarations b p
  unfolding all_of declarations
  declared = rw (append-nil (domain_values b.settings 0 (sender_at b.senders p).domains))

  -- the types behind each
  abbrev Later : Attribute → List (Listed Declaration) → Type 0
  Later k m = All (λ x. type_number k < type_number (attribute_of x.value)) m

  later_of : (j k : Attribute) → type_number k < type_number j → (m : List (Listed Declaration)) → Later k m → Later k (of j ++ m)
  later_of j k h m a =
      all_append (λ x. type_number k < type_number (attribute_of x.value)) (of j) m
      (all_map (Typed listed_type j) (λ x. type_number k < type_number (attribute_of x.value)) (λ x e. rw e h) (of j) (of-type b p j)) a

  later₁ : Later (registers advertises) behind₁
  unfolding type_number
  later₁ =
      later_of (registers faileds) (registers advertises) (omega arith) behind₂
      (later_of (registers listeners) (registers advertises) (omega arith) behind₃ (later_of domain_type (registers advertises) (omega arith) [] tt))

  later₂ : Later (registers faileds) behind₂
  unfolding type_number
  later₂ = later_of (registers listeners) (registers faileds) (omega arith) behind₃ (later_of domain_type (registers faileds) (omega arith) [] tt)

  later₃ : Later (registers listeners) behind₃
  unfolding type_number
  later₃ = later_of domain_type (registers listeners) (omega arith) [] tt

  -- the Messages before each pass
  next₁ : earlier all (registers advertises) + empty_size all (registers advertises) ≡ earlier all (registers faileds)
  unfolding earlier
  next₁ = omega arith

  next₂ : earlier all (registers faileds) + empty_size all (registers faileds) ≡ earlier all (registers listeners)
  unfolding earlier
  next₂ = refl

  next₃ : earlier all (registers listeners) + empty_size all (registers listeners) ≡ earlier all domain_type
  unfolding earlier
  next₃ = refl

  after₁ : earlier all (registers advertises) ≤ s₁.at
  unfolding earlier begun
  after₁ = omega arith

  after₂ : earlier all (registers faileds) ≤ s₂.at
  after₂ = omega (arith, next₁, pass-after b p (registers advertises) s₁ after₁)

  after₃ : earlier all (registers listeners) ≤ s₃.at
  after₃ = omega (arith, next₂, pass-after b p (registers faileds) s₂ after₂)

  after₄ : earlier all domain_type ≤ s₄.at
  after₄ = omega (arith, next₃, pass-after b p (registers listeners) s₃ after₃)

  -- What the passes take is what the PDU says.

  abbrev whole : List (Listed Declaration)
  whole = of (registers advertises) ++ behind₁

  abbrev last : ℕ
  last = earlier all domain_type + empty_size all domain_type

  none-taken : (t : Bool) (u : ℕ) (l : List Said) → l ≡ [] → cond t [] (take (fitting all u l) l) ≡ []
  none-taken true u l e = refl
  none-taken false u l e = rw e (take-nil (fitting all u []))

  none-reached : (t : Bool) (n : ℕ) (l : List (Listed Declaration)) → l ≡ [] → cond t 0 (length (reached (port_way b p).says n l)) ≡ 0
  none-reached true n l e = refl
  none-reached false n l e = rw e (unfold reached in refl)

  nothing_left : (s : Progress) (i : ℕ) → (remaining b p s i [] ≡ []) × (reaching b p s i [] ≡ 0)
  unfolding remaining reaching run_from
  nothing_left s i =
      let none : drop s.skip [] ≡ [] = drop-nil s.skip in
      let nothing : said_of b p (drop s.skip []) ≡ [] = ap (said_of b p) none ∙ unfold said_of saying in refl in
      (none-taken s.full (s.at + 2 - i) (said_of b p (drop s.skip [])) nothing, none-reached s.full (length (remaining b p s i [])) (drop s.skip []) none)

  remaining-all : remaining b p s₁ (earlier all (registers advertises)) whole ≡ in_turn took
  remaining-all =
      pass-takes b p (registers advertises) behind₁ later₁ s₁ after₁
      ∙ ap (λ (r : List Said). took (registers advertises) ++ r)
      (rw next₁
      (pass-takes b p (registers faileds) behind₂ later₂ s₂ after₂
      ∙ ap (λ (r : List Said). took (registers faileds) ++ r)
      (rw next₂
      (pass-takes b p (registers listeners) behind₃ later₃ s₃ after₃
      ∙ ap (λ (r : List Said). took (registers listeners) ++ r)
      (rw next₃
      (pass-takes b p domain_type [] tt s₄ after₄ ∙ ap (λ (r : List Said). took domain_type ++ r) (nothing_left s₅ last).0 ∙ append-nil (took domain_type)))))))

  reaching-all : s₁.end + reaching b p s₁ (earlier all (registers advertises)) whole ≡ s₅.end
  reaching-all =
      pass-reaches b p (registers advertises) behind₁ later₁ s₁ after₁
      ∙ rw next₁
      (pass-reaches b p (registers faileds) behind₂ later₂ s₂ after₂
      ∙ rw next₂
      (pass-reaches b p (registers listeners) behind₃ later₃ s₃ after₃
      ∙ rw next₃ (pass-reaches b p domain_type [] tt s₄ after₄ ∙ omega (arith, (nothing_left s₅ last).1))))

  abbrev to_say : List Said
  to_say = said_of b p (drop place (declarations b p))

  begun-takes : remaining b p s₁ (earlier all (registers advertises)) (declarations b p) ≡ take (takes all to_say) to_say
  unfolding remaining run_from begun takes earlier
  begun-takes = refl

  run_is : run_on b p place ≡ take (takes all to_say) to_say
  unfolding run_on wrote_on write_from takes_on said_of
  run_is = map-take (say_on b p) (takes all to_say) (saying (port_way b p).says (drop place (declarations b p)))

  pub run-passes : run_on b p place ≡ in_turn took
  run-passes = run_is ∙ sym begun-takes ∙ ap (remaining b p s₁ (earlier all (registers advertises))) (sym declared) ∙ remaining-all

  begun-reaches : s₁.end + reaching b p s₁ (earlier all (registers advertises)) (declarations b p) ≡ end_on b p place
  begun-reaches =
      let n : length (remaining b p s₁ (earlier all (registers advertises)) (declarations b p)) ≡ takes all to_say =
      ap length begun-takes ∙ length-take-le (takes all to_say) to_say (takes-within all to_say) in
      let l = drop place (declarations b p) in
      let e : reaching b p s₁ (earlier all (registers advertises)) (declarations b p) ≡ length (reached (port_way b p).says (length (remaining b p s₁ (earlier all (registers advertises)) (declarations b p))) l) =
      unfold reaching begun in refl in
      ap (λ (i : ℕ). s₁.end + i) (e ∙ ap (λ (i : ℕ). length (reached (port_way b p).says i l)) n) ∙ unfold end_on takes_on begun said_of in refl

  pub end-passes : s₅.end ≡ end_on b p place
  end-passes = sym reaching-all ∙ ap (λ (l : List (Listed Declaration)). s₁.end + reaching b p s₁ (earlier all (registers advertises)) l) declared ∙ begun-reaches

  abbrev said_by : Attribute → List ℕ
  said_by k = said b p k (start k)

  octets-pdu : pdu_on b p place ≡ (((((0 ∷ []) ++ said_by (registers advertises)) ++ said_by (registers faileds)) ++ said_by (registers listeners)) ++ said_by domain_type) ++ be 2 0
  unfolding pdu_on said
  octets-pdu =
      ap (pdu_octets all) run-passes
      ∙ pdu-of-each all took (λ k. taken-type b p k (start k))
      ∙ sym (behind-version (said_by (registers advertises)) (said_by (registers faileds)) (said_by (registers listeners)) (said_by domain_type) (be 2 0) ∙ (rw (be-zero 2)))

  -- the buffer after the passes and the EndMark
  pub pdu-written : (c : List ℕ) → 1 ≤ length c
      → Holding (pdu_on b p place) (s₅.at + 2) c
      (patch s₅.at 2 (be 2 0)
      (written b p domain_type s₄ (written b p (registers listeners) s₃ (written b p (registers faileds) s₂ (written b p (registers advertises) s₁ (set c 0 0))))))
  pdu-written c long =
      let h₀ : Holding (0 ∷ []) s₁.at c (set c 0 0) = unfold begun in holding-version c long in
      let h₁ = holding-pass b p (registers advertises) s₁ _ c _ h₀ in
      let h₂ = holding-pass b p (registers faileds) s₂ _ c _ h₁ in
      let h₃ = holding-pass b p (registers listeners) s₃ _ c _ h₂ in
      let h₄ = holding-pass b p domain_type s₄ _ c _ h₃ in
      rw octets-pdu (holding-more h₄ (be 2 0) 2 (length-be 2 0))

-- as the calls of the passes give it
pub pdu-answer : (t : List ℕ) (p place : ℕ) {c c₁ c₂ c₃ c₄ c₅ : List ℕ} {r₁ r₂ r₃ r₄ : Progress} {all : Bool} → 1 ≤ length c
    → PassLeaves t p (registers advertises) (begun place) (set c 0 0) r₁ c₁
    → PassLeaves t p (registers faileds) r₁ c₁ r₂ c₂
    → PassLeaves t p (registers listeners) r₂ c₂ r₃ c₃
    → PassLeaves t p domain_type r₃ c₃ r₄ c₄ → c₅ ≡ patch r₄.at 2 (be 2 0) c₄ → all ≡ leaves_all (decode t) p
    → PduWritten (decode t) p place c (record { length = r₄.at + 2; end = r₄.end; all = all }) c₅
pdu-answer t p place {c = c} {r₄ = r₄} long a f l d e q =
    let b = decode t in
    let h = pdu-written p place b c long in
    let third-is = f.progress ∙ ap (passed b p (registers faileds)) a.progress in
    let fourth-is = l.progress ∙ ap (passed b p (registers listeners)) third-is in
    let last-is : r₄ ≡ s₅ p place b = d.progress ∙ ap (passed b p domain_type) fourth-is in
    record {
      size = ap (λ (r : Progress). r.at + 2) last-is ∙ sym h.long;
      end = ap (λ (r : Progress). r.end) last-is ∙ end-passes p place b;
      all = q;
      buffer =
          rw (e, d.buffer, l.buffer, f.buffer, a.buffer, last-is, fourth-is, third-is, a.progress)
          (h.is ∙ ap (λ (n : ℕ). pdu_on b p place ++ drop n c) (sym h.long));
    }
