-- Two bridges on a link, of the code (02, xiv): a port's pass from place 0 is handed over, PDU by PDU, to the neighbour's port, which accepts
-- each. Then what the neighbour has registered there is what the port declares. The premises are the contracts of write and receive
-- (specs/Promises).
use mathlib.Core.Path.{◌≡◌, refl, sym, ◌∙◌, ap, ap₂}
use mathlib.Core.List.{List, [], ◌∷◌, ◌++◌, map}
use mathlib.Core.Bool.{true, false, not}
use Prim.Native.Nat.{ℕ, zero, suc, ◌+◌, ◌-◌, ◌≤◌, ◌<◌}
use native.Mathlib.Omega.{arith}
use lib.ListN.{length, get_or, take, length-append, length-map}
use Rattle.model.specs.Layout.{slots}
use Rattle.model.specs.Lists.{Octets}
use Rattle.model.specs.Applicant.{tx, speaks}
use Rattle.model.specs.Places.{is_none, Way, saying}
use Rattle.model.specs.Machines.{Listed, no_applicant, way}
use Rattle.model.specs.State.{Bridge, sends_at, sender_at}
use Rattle.model.specs.Frames.{wrong_port}
use Rattle.model.specs.Declarations.{Declaration, Said, declarations}
use Rattle.model.specs.WrittenFrames.{pdu_octets}
use Rattle.model.specs.Writing.{leaves_all, port_way, say_on, write}
use Rattle.model.specs.Table.{encode, decode}
use Rattle.model.specs.Calls.{Call, receive, receive_on}
use Rattle.model.proofs.Lists.{and_left}
use Rattle.model.proofs.Valid.{Valid}
use Rattle.model.proofs.Tables.{decode-encode, encode-decode, valid-decode}
use Rattle.model.proofs.FormKept.{Kept}
use Rattle.model.proofs.ReceiveKeepsForm.{receive-keeps}
use Rattle.model.proofs.Demand3.{receive-call}
use Rattle.model.proofs.WritingPasses.{declared, to_say}
use Rattle.model.proofs.PortPasses.{says_nothing, calm-way}
use Rattle.model.proofs.ToldStreams.{stream_for, cell_for}
use Rattle.model.proofs.Following.{Known, Follows}
use Rattle.model.proofs.ToldDomains.{domain_for, KnownSlot, FollowsSlot}
use Rattle.model.proofs.TwoBridges.{pass_runs, pass_pdus, receive_all, AllTaken, two-bridges, two-bridges-domains}
use Rattle.model.proofs.TwoBridges as linked
use Rattle.bridge.specs.Promises.{Receives}
use Rattle.bridge.proofs.Demand1.{receive-answers}
use Rattle.bridge.proofs.Demand2.{Wrote, wrote}
use Rattle.bridge.proofs.Passing.{Written, last, more, kept_then, none_then, run-then, says_none, one-said, pdu-then}

-- PDUs handed over one after another on port q, each accepted: the table before and the table after.
pub data Delivered (q : ℕ) : List (List ℕ) → List ℕ → List ℕ → Type 0 where
  no_more : (t : List ℕ) → Delivered q [] t t
  one_more : (pdu : List ℕ) (l : List (List ℕ)) (t : List ℕ) (n : ℕ) (u v : List ℕ) → Octets pdu → Receives t q pdu n u → n ≡ 0 → Delivered q l u v → Delivered q (pdu ∷ l) t v

module _ (q : ℕ) (t pdu : List ℕ) (n : ℕ) (u : List ℕ) (k : Kept t) (o : Octets pdu) (call : Receives t q pdu n u) (z : n ≡ 0) where
  valid : Valid (decode t)
  valid = valid-decode t k.0 k.1

  call-is : receive_on t q pdu ≡ record { number = (receive (decode t) q pdu).number; table = encode (receive (decode t) q pdu).bridge }
  call-is = ap (λ (s : List ℕ). receive_on s q pdu) (sym (encode-decode t k.0 k.1)) ∙ receive-call (decode t) q pdu valid

  taken-one : (receive (decode t) q pdu).number ≡ 0
  taken-one = sym (call.0 ∙ ap (λ (c : Call). c.number) call-is) ∙ z

  taken_then : decode u ≡ (receive (decode t) q pdu).bridge
  taken_then = ap decode (call.1 ∙ ap (λ (c : Call). c.table) call-is) ∙ decode-encode (receive (decode t) q pdu).bridge (receive-keeps (decode t) q pdu o valid)

delivered : (q : ℕ) (l : List (List ℕ)) (t v : List ℕ) → Kept t → Delivered q l t v → AllTaken q l (decode t) × (decode v ≡ receive_all q l (decode t))
unfolding receive_all
delivered q _ _ _ k (no_more t) = (tt, refl)
delivered q _ _ _ k (one_more pdu l t n u v o call z rest) =
    let then = taken_then q t pdu n u k o call z in
    let ih = delivered q l u v ((receive-answers t q pdu n u k.0 o call).form z) rest in
    ((taken-one q t pdu n u k o call z, rw then at ih.0), ih.1 ∙ ap (receive_all q l) then)

-- The PDUs of a pass are those of the definition, in as many writes as there is to say.

none_of : {A : Type 0} (l : List A) → 1 ≤ length l → is_none l ≡ false
none_of [] h = absurd (omega arith)
none_of (x ∷ l) h = refl

pass-runs : (p : ℕ) (t : List ℕ) (place : ℕ) (pdus : List (List ℕ)) (w : List ℕ) → Octets t → leaves_all (decode t) (p - 1) ≡ false →
    Written p t place pdus w → (m : ℕ) → length (to_say (decode t) p place) ≤ m → pdus ≡ map (pdu_octets false) (pass_runs m (decode t) p place)
unfolding pass_runs
pass-runs p _ _ _ _ octets quiet (last t place buffer n long next u v call z e) zero h = refl
pass-runs p _ _ _ _ octets quiet (last t place buffer n long next u v call z e) (suc m) h =
    let run : List Said = (write (decode t) p place).run in
    let none : is_none run ≡ true = and_left (is_none run) (not (write (decode t) p place).all) (unfold says_nothing in (says_none t p place buffer n long next u v octets quiet call z e)) in
    rw none
pass-runs p _ _ _ _ octets quiet (more t place buffer n long next u v pdus w call z e rest) m h =
    let run : List Said = (write (decode t) p place).run in
    let one : 1 ≤ length run = one-said t p place buffer n long next u v octets quiet call z e in
    let joined : run ++ to_say (decode v) p next ≡ to_say (decode t) p place = run-then t p place buffer n long next u v octets quiet call z in
    let count : length run + length (to_say (decode v) p next) ≡ length (to_say (decode t) p place) =
    sym (length-append run (to_say (decode v) p next)) ∙ ap length joined in
    go m (omega (arith, h, count, one)) (none_of run one)
    (λ i few. pass-runs p v next pdus w (kept_then t p place buffer n long next u v octets quiet call z).0 (none_then t p place buffer n long next u v octets quiet call z) rest i few)
  where
    did : Wrote t p place buffer long next u v
    did = wrote t p place buffer n long next u v octets call z

    go : (k : ℕ) → length (to_say (decode v) p next) < k → is_none (write (decode t) p place).run ≡ false
        → ((i : ℕ) → length (to_say (decode v) p next) ≤ i → pdus ≡ map (pdu_octets false) (pass_runs i (decode v) p next))
        → (take long u ∷ pdus) ≡ map (pdu_octets false) (pass_runs k (decode t) p place)
    go zero a s ih = absurd (omega arith)
    go (suc k) a s ih =
        let later : pdus ≡ map (pdu_octets false) (pass_runs k (write (decode t) p place).bridge p (write (decode t) p place).next) =
        ih k (omega arith) ∙ ap₂ (λ (c : Bridge) (i : ℕ). map (pdu_octets false) (pass_runs k c p i)) did.bridge did.next_is in
        rw s (ap₂ (λ (x : List ℕ) (l : List (List ℕ)). x ∷ l) (pdu-then t p place buffer n long next u v octets quiet call z) later)

-- as many as have something to say
say-count : (b : Bridge) (p : ℕ) → leaves_all b (p - 1) ≡ false → length (to_say b p 0) ≡ length (saying (λ x. speaks tx x.state) (declarations b (p - 1)))
unfolding to_say declared
say-count b p quiet =
    length-map (saying (port_way b (p - 1)).says (declarations b (p - 1))) (say_on b (p - 1))
    ∙ ap (λ (w : Way (Listed Declaration)). length (saying w.says (declarations b (p - 1)))) (calm-way b (p - 1) quiet)
    ∙ unfold way in refl

passing-of : (t : List ℕ) (p place : ℕ) (buffer : List ℕ) (long next : ℕ) (u v : List ℕ) → leaves_all (decode t) (p - 1) ≡ false → Wrote t p place buffer long next u v
    → linked.Passing (decode t) p place
unfolding declared
passing-of t p place buffer long next u v quiet did = record { valid = did.valid; right = did.right.1; silent = quiet; here = did.within }

-- the first write of a pass
pass-passing : (p : ℕ) (t : List ℕ) (place : ℕ) (pdus : List (List ℕ)) (w : List ℕ) → Octets t → leaves_all (decode t) (p - 1) ≡ false →
    Written p t place pdus w → linked.Passing (decode t) p place
pass-passing p _ _ _ _ octets quiet (last t place buffer n long next u v call z e) = passing-of t p place buffer long next u v quiet (wrote t p place buffer n long next u v octets call z)
pass-passing p _ _ _ _ octets quiet (more t place buffer n long next u v pdus w call z e rest) = passing-of t p place buffer long next u v quiet (wrote t p place buffer n long next u v octets call z)

-- A bridge of the table t, whose pass of port p from place 0 is pdus, with no LeaveAll due; and one of the table r, which takes them all on
-- its port q and is left with the table s.
module _ (p : ℕ) (t : List ℕ) (pdus : List (List ℕ)) (w : List ℕ) (octets : Octets t) (quiet : leaves_all (decode t) (p - 1) ≡ false) (run : Written p t 0 pdus w)
    (q : ℕ) (r s : List ℕ) (kept : Kept r) (right : wrong_port (decode r).settings q ≡ false) (took : Delivered q pdus r s) where
  start : linked.Passing (decode t) p 0
  start = pass-passing p t 0 pdus w octets quiet run

  same-pdus : pdus ≡ pass_pdus (decode t) p
  unfolding pass_pdus
  same-pdus = pass-runs p t 0 pdus w octets quiet run (length (saying (λ x. speaks tx x.state) (declarations (decode t) (p - 1)))) (omega (arith, say-count (decode t) p quiet))

  all-taken : AllTaken q (pass_pdus (decode t) p) (decode r)
  all-taken = rw same-pdus at (delivered q pdus r s kept took).0

  left_is : decode s ≡ receive_all q (pass_pdus (decode t) p) (decode r)
  left_is = (delivered q pdus r s kept took).1 ∙ ap (λ (l : List (List ℕ)). receive_all q l (decode r)) same-pdus

  -- Of each stream: where what the neighbour had registered there was known here, what it has then follows what is sent.
  pub two-bridges-code : (i : ℕ) → let sent = sends_at (stream_for i (decode t).streams) (p - 1) in
      Known sent (cell_for (q - 1) i (decode r).streams) → Follows sent (cell_for (q - 1) i (decode s).streams)
  two-bridges-code i known =
      rw left_is (two-bridges (decode t) p start (decode r) (valid-decode r kept.0 kept.1) q right all-taken i known)

  -- and of each Domain value
  pub two-domains-code : (j : ℕ) → j < slots → let sender = get_or (sender_at (decode t).senders (p - 1)).domains j no_applicant in
      KnownSlot (decode t).settings.vlan sender (domain_for (q - 1) j (decode r).owns) → FollowsSlot (decode t).settings.vlan sender (domain_for (q - 1) j (decode s).owns)
  two-domains-code j slot known =
      rw left_is (two-bridges-domains (decode t) p start (decode r) (valid-decode r kept.0 kept.1) q right all-taken j slot known)
