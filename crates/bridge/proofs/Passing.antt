-- Demand 2, of the code: a pass of a port. Calls of write, each from the next place that the one before it answered and on the table that it
-- left, until a PDU has 3 octets, say all that the port has to say from the first place on, once and in order. Each premise is write's
-- contract (specs/Promises).
use mathlib.Core.Path.{◌≡◌, refl, sym, ◌∙◌, ap, ap₂}
use mathlib.Core.List.{List, [], ◌∷◌, ◌++◌, map, flat_map, flatten}
use mathlib.Core.Bool.{Bool, true, false, not}
use Prim.Native.Nat.{ℕ, zero, suc, ◌+◌, ◌-◌, ◌≤◌, ◌<◌}
use native.Mathlib.Omega.{arith}
use lib.ListN.{length, take, length-append}
use lib.Dec.{leb}
use lib.Seq.{length-take-le}
use borrow.Author.Tests.{leb-true, leb-false}
use Rattle.model.specs.Lists.{All, Octets}
use Rattle.model.specs.State.{Settings, Bridge}
use Rattle.model.specs.Registrations.{acts}
use Rattle.model.specs.Frames.{reading, wrong_port}
use Rattle.model.specs.Places.{is_none}
use Rattle.model.specs.Declarations.{Said, said_acts, takes}
use Rattle.model.specs.WrittenFrames.{pdu_octets}
use Rattle.model.specs.Writing.{leaves_all, write}
use Rattle.model.specs.Writing as model
use Rattle.model.specs.Table.{decode}
use Rattle.model.proofs.Lists.{and_left}
use Rattle.model.proofs.PlaceLists.{no_length, none-there}
use Rattle.model.proofs.ColumnRule.{Pairwise}
use Rattle.model.proofs.WritingPasses.{to_say, takes-within, takes_one, write-from}
use Rattle.model.proofs.ReadBack.{neighbour-reads-events}
use Rattle.model.proofs.PortPasses.{says_nothing, left_all, Calm, then-calm, run-and-rest, said-some, more-octets, three-octets}
use Rattle.model.proofs.SilentWrite.{write-unchanged}
use Rattle.model.proofs.FormKept.{Kept}
use Rattle.bridge.specs.Promises.{Writes}
use Rattle.bridge.proofs.Demand1.{write-answers}
use Rattle.bridge.proofs.Demand2.{Wrote, wrote}

-- Accepted writes of port p on the table t from a place on, up to one whose PDU has 3 octets: the longer PDUs that they leave in their
-- buffers, and the table that the last leaves.
pub data Written (p : ℕ) : List ℕ → ℕ → List (List ℕ) → List ℕ → Type 0 where
  last : (t : List ℕ) (place : ℕ) (buffer : List ℕ) (n long next : ℕ) (u v : List ℕ) → Writes t p place buffer n long next u v → n ≡ 0 → long ≡ 3 → Written p t place [] v
  more : (t : List ℕ) (place : ℕ) (buffer : List ℕ) (n long next : ℕ) (u v : List ℕ) (pdus : List (List ℕ)) (w : List ℕ) →
      Writes t p place buffer n long next u v → n ≡ 0 → 3 < long → Written p v next pdus w → Written p t place (take long u ∷ pdus) w

-- a write that says nothing had nothing to say
nothing_left : (b : Bridge) (p place : ℕ) → Calm b p place → says_nothing (write b p place) ≡ true → to_say b p place ≡ []
unfolding says_nothing
nothing_left b p place c e = no_length rest (go (leb 1 (length rest)) refl)
  where
    rest : List Said
    rest = to_say b p place

    run : List Said
    run = (write b p place).run

    m : ℕ
    m = takes (leaves_all b (p - 1)) rest

    count : length run ≡ m
    count = ap (λ (w : model.Written). length w.run) (write-from b p place c.within) ∙ length-take-le m rest (takes-within (leaves_all b (p - 1)) rest)

    go : (t : Bool) → leb 1 (length rest) ≡ t → length rest ≤ 0
    go true f = absurd (omega (arith, none-there run (and_left (is_none run) (not (write b p place).all) e), count, takes_one (leaves_all b (p - 1)) rest (leb-true 1 (length rest) f)))
    go false f = omega (arith, leb-false 1 (length rest) f)

-- One write, with no LeaveAll due.
module _ (t : List ℕ) (p place : ℕ) (buffer : List ℕ) (n long next : ℕ) (u v : List ℕ) (octets : Octets t) (none : leaves_all (decode t) (p - 1) ≡ false)
    (call : Writes t p place buffer n long next u v) (z : n ≡ 0) where
  abbrev did : model.Written
  did = write (decode t) p place

  did_write : Wrote t p place buffer long next u v
  did_write = wrote t p place buffer n long next u v octets call z

  pub calm : Calm (decode t) p place
  calm = record { valid = did_write.valid; port = did_write.port; none = none; within = did_write.within }

  pub kept_then : Kept v
  kept_then = (write-answers t p place buffer n long next u v octets call).form z

  then : Calm (decode v) p next
  then =
      rw (did_write.bridge, did_write.next_is)
      (then-calm (decode t) p place did_write.valid did_write.port did_write.within)

  pub none_then : leaves_all (decode v) (p - 1) ≡ false
  none_then = then.none

  no-leave-all : did.all ≡ false
  no-leave-all = ap (λ (w : model.Written). w.all) (write-from (decode t) p place did_write.within) ∙ none

  pub run-then : did.run ++ to_say (decode v) p next ≡ to_say (decode t) p place
  run-then = rw (did_write.bridge, did_write.next_is) (run-and-rest (decode t) p place calm)

  -- it says something exactly where its PDU is longer than 3 octets
  silent : says_nothing did ≡ false → 3 < long
  silent e = rw did_write.long-is (more-octets did e)

  spoken : says_nothing did ≡ true → long ≡ 3
  spoken e = did_write.long-is ∙ ap length (three-octets did e)

  pub says_none : long ≡ 3 → says_nothing did ≡ true
  says_none e = go (says_nothing did) refl
    where
      go : (s : Bool) → says_nothing did ≡ s → says_nothing did ≡ true
      go true f = f
      go false f = absurd (omega (arith, e, silent f))

  pub says_some : 3 < long → says_nothing did ≡ false
  says_some e = go (says_nothing did) refl
    where
      go : (s : Bool) → says_nothing did ≡ s → says_nothing did ≡ false
      go true f = absurd (omega (arith, e, spoken f))
      go false f = f

  pub one-said : 3 < long → 1 ≤ length did.run
  one-said e = said-some (decode t) p place calm (says_some e)

  -- where it says nothing, nothing was to say, and the table is as it was
  pub none-to-say : long ≡ 3 → to_say (decode t) p place ≡ []
  none-to-say e = nothing_left (decode t) p place calm (says_none e)

  pub as_it_was : long ≡ 3 → decode v ≡ decode t
  as_it_was e = did_write.bridge ∙ write-unchanged (decode t) p place calm (none-to-say e)

  pub read-then : (st : Settings) (q : ℕ) → wrong_port st q ≡ false → reading st q (take long u) ≡ acts (flat_map said_acts did.run)
  read-then st q right =
      ap (reading st q) (did_write.pdu ∙ ap (λ (a : Bool). pdu_octets a did.run) no-leave-all)
      ∙ neighbour-reads-events (decode t) did_write.valid p place st q right no-leave-all

  pub pdu-then : take long u ≡ pdu_octets false did.run
  pdu-then = did_write.pdu ∙ ap (λ (a : Bool). pdu_octets a did.run) no-leave-all

-- What a pass from a place on the table t says, and the table w that it leaves.
pub record Passes (t : List ℕ) (p place : ℕ) (pdus : List (List ℕ)) (w : List ℕ) : Type 0 where
  -- what each PDU says; together all that was to say, once, in order
  pub runs : List (List Said)
  pub whole : flatten runs ≡ to_say (decode t) p place
  pub octets : pdus ≡ map (pdu_octets false) runs
  -- any port of any bridge reads each as the events of just these
  pub read : (st : Settings) (q : ℕ) → wrong_port st q ≡ false → Pairwise (λ s run. reading st q s ≡ acts (flat_map said_acts run)) pdus runs
  -- each says something, so that they are not more than what was to say
  pub some : All (λ run. 1 ≤ length run) runs
  pub ends : length pdus ≤ length (to_say (decode t) p place)
  -- the table keeps the form rules; LeaveAll is not due
  pub kept : Kept w
  pub none : leaves_all (decode w) (p - 1) ≡ false

pub write-passes : (p : ℕ) (t : List ℕ) (place : ℕ) (pdus : List (List ℕ)) (w : List ℕ) → Octets t → leaves_all (decode t) (p - 1) ≡ false →
    Written p t place pdus w → Passes t p place pdus w
unfolding flatten
write-passes p _ _ _ _ octets none (last t place buffer n long next u v call z e) = record {
  runs = [];
  whole = sym (none-to-say t p place buffer n long next u v octets none call z e);
  octets = refl;
  read = λ st q right. tt;
  some = tt;
  ends = omega arith;
  kept = kept_then t p place buffer n long next u v octets none call z;
  none = none_then t p place buffer n long next u v octets none call z;
}
write-passes p _ _ _ _ octets none (more t place buffer n long next u v pdus w call z e rest) =
    let kept : Kept v = kept_then t p place buffer n long next u v octets none call z in
    let ih : Passes v p next pdus w = write-passes p v next pdus w kept.0 (none_then t p place buffer n long next u v octets none call z) rest in
    let run : List Said = (write (decode t) p place).run in
    let joined : run ++ to_say (decode v) p next ≡ to_say (decode t) p place = run-then t p place buffer n long next u v octets none call z in
    let one : 1 ≤ length run = one-said t p place buffer n long next u v octets none call z e in
    let count : length run + length (to_say (decode v) p next) ≡ length (to_say (decode t) p place) =
    sym (length-append run (to_say (decode v) p next)) ∙ ap length joined in
    record {
      runs = run ∷ ih.runs;
      whole = ap (λ (l : List Said). run ++ l) ih.whole ∙ joined;
      octets = rw (pdu-then t p place buffer n long next u v octets none call z) (ap (λ (l : List (List ℕ)). pdu_octets false run ∷ l) ih.octets);
      read = λ st q right. (read-then t p place buffer n long next u v octets none call z st q right, ih.read st q right);
      some = (one, ih.some);
      ends = omega (arith, one, count, ih.ends);
      kept = ih.kept;
      none = ih.none;
    }

-- the bridge that it leaves is the one that the definition of a pass leaves, in as many writes as there is to say
pub pass-leaves : (p : ℕ) (t : List ℕ) (place : ℕ) (pdus : List (List ℕ)) (w : List ℕ) → Octets t → leaves_all (decode t) (p - 1) ≡ false →
    Written p t place pdus w → (m : ℕ) → length (to_say (decode t) p place) ≤ m → decode w ≡ left_all m (decode t) p place
unfolding left_all
pass-leaves p _ _ _ _ octets none (last t place buffer n long next u v call z e) zero h = as_it_was t p place buffer n long next u v octets none call z e
pass-leaves p _ _ _ _ octets none (last t place buffer n long next u v call z e) (suc m) h =
    rw (says_none t p place buffer n long next u v octets none call z e) (wrote t p place buffer n long next u v octets call z).bridge
pass-leaves p _ _ _ _ octets none (more t place buffer n long next u v pdus w call z e rest) m h =
    let run : List Said = (write (decode t) p place).run in
    let one : 1 ≤ length run = one-said t p place buffer n long next u v octets none call z e in
    let joined : run ++ to_say (decode v) p next ≡ to_say (decode t) p place = run-then t p place buffer n long next u v octets none call z in
    let count : length run + length (to_say (decode v) p next) ≡ length (to_say (decode t) p place) =
    sym (length-append run (to_say (decode v) p next)) ∙ ap length joined in
    go m (omega (arith, h, count, one))
    (λ i few. pass-leaves p v next pdus w (kept_then t p place buffer n long next u v octets none call z).0 (none_then t p place buffer n long next u v octets none call z) rest i few)
  where
    did : Wrote t p place buffer long next u v
    did = wrote t p place buffer n long next u v octets call z

    go : (k : ℕ) → length (to_say (decode v) p next) < k → ((i : ℕ) → length (to_say (decode v) p next) ≤ i → decode w ≡ left_all i (decode v) p next)
        → decode w ≡ left_all k (decode t) p place
    go zero a ih = absurd (omega arith)
    go (suc k) a ih =
        ih k (omega arith)
        ∙ ap₂ (λ (c : Bridge) (i : ℕ). left_all k c p i) did.bridge did.next_is
        ∙ rw (says_some t p place buffer n long next u v octets none call z e)
