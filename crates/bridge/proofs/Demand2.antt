-- Demand 2, of the code: frames are read and written, and registrations, reservations and declarations decided, as the standard's
-- rules give them. For each call one record says what an accepted call leaves or shows, and one theorem, whose premise is that
-- call's contract (specs/Promises), that it does; so they hold of the code whatever the code is. A bridge that refuses all, has
-- a single answer or does nothing does not meet Demand1's `accepted` and these; one that makes up totals, lengths or places does
-- not meet `advance-decides`, `write-tells` and `report-shows`. (That table, settings and PDU are octets, and a time is of 32
-- bits, is what the calls' types say.)
use mathlib.Core.Path.{◌≡◌, refl, sym, ◌∙◌, ap}
use mathlib.Core.List.{List, ◌++◌, map, flat_map}
use mathlib.Core.Bool.{Bool, false}
use Prim.Native.Nat.{ℕ, suc, ◌-◌, ◌^◌, ◌≤◌, ◌<◌}
use native.Mathlib.Omega.{arith}
use lib.ListN.{length, get_or, take, drop, take-append-drop}
use lib.Seq.{length-take-le, length_front, take-append_seam, drop-append_seam}
use borrow.Author.Tests.{le-leb, le-ltb}
use Rattle.model.specs.Layout.{most_addresses}
use Rattle.model.specs.Lists.{Octets}
use Rattle.model.specs.State.{Settings, Bridge, started, own_at, port_at, result_at, no_totals}
use Rattle.model.specs.Registrations.{Answer, listeners, AddressAct, address_acts, acts, apply_all, does_addresses, address_joins, received_addresses, holding, owning, sending, together, ids, joins, received}
use Rattle.model.specs.FrameLayout.{longest_pdu}
use Rattle.model.specs.Frames.{registers, Vector, found, walk, walked, frame_acts, reading, wrong_port}
use Rattle.model.specs.AddressFrames.{address_walk, address_reading}
use Rattle.model.specs.Settling.{settle}
use Rattle.model.specs.State.{stream_at}
use Rattle.model.specs.Cutting.{values, Least}
use Rattle.model.specs.Declarations.{Said, said_acts, declarations, declared_ids, having, takes}
use Rattle.model.specs.Writing.{leaves_all, wrote_on, after_write, Written, write}
use Rattle.model.specs.Reports.{Report, word_of, code_of, report}
use Rattle.model.specs.WrittenFrames.{listener_parts, pdu_octets}
use Rattle.model.specs.Table.{encode, decode, to_settings}
use Rattle.model.specs.Calls.{Call, WriteCall, receive, receive_mmrp, written_to, write_on, report_on}
use Rattle.model.proofs.Valid.{Valid}
use Rattle.model.proofs.Tables.{decode-encode, valid-decode, valid-started}
use Rattle.model.proofs.FrameOrder.{acts-ids, held-ids}
use Rattle.model.proofs.ReceiveKeepsForm.{receive-keeps, right-port}
use Rattle.model.proofs.AddressesKept.{acts-held, mmrp-keeps}
use Rattle.model.proofs.AdvanceKeepsForm.{settle-keeps}
use Rattle.model.proofs.Dropping.{Advanced}
use Rattle.model.proofs.OneSolution.{exactly-one}
use Rattle.model.proofs.Demand3.{ids-small}
use Rattle.model.proofs.Lists.{Longest}
use Rattle.model.proofs.WritingPasses.{pdu_fits, FewStreams, declared, to_say, takes-within, takes_one, write-from, run-in-order, run_fits, run-full, write-longest, next-within}
use Rattle.model.proofs.WriteKeepsForm.{write_keeps}
use Rattle.model.proofs.PortPasses.{then-declared}
use Rattle.model.proofs.PackedVectors.{write-least, write-only}
use Rattle.model.proofs.ReadBack.{pdu_vectors, pdu_acts, valid-few, read_back, neighbour-reads, events-only}
use Rattle.model.proofs.AddressRefusals.{held_on, mmrp-0}
use Rattle.model.proofs.Refusals.{OnPort, start-0, receive-0, advance-0, write-0, report-0}
use Rattle.bridge.specs.Promises.{Starts, Receives, ReceivesMmrp, Advances, Writes, Reports}
use Rattle.bridge.proofs.Starting.{start-accepted}
use Rattle.bridge.proofs.OnTables.{acted, receive-taken, advance-settles}
use Rattle.bridge.proofs.OnAddresses.{addressed, addressed-held, mmrp-taken}

-- An accepted start leaves a bridge with these settings, no streams, clock 0, and the Domain values of each port declared.
pub start-leaves : (t s : List ℕ) (n : ℕ) (u : List ℕ) → Octets s → Starts t s n u → n ≡ 0 →
    (u ≡ encode (started (to_settings s))) × (decode u ≡ started (to_settings s))
start-leaves t s n u o call z =
    let h = (start-0 t s).0 (sym call.0 ∙ z) in
    let table : u ≡ encode (started (to_settings s)) = call.1 ∙ ap (λ (c : Call). c.table) (start-accepted t s h.0 h.1) in
    (table, ap decode table ∙ decode-encode (started (to_settings s)) (valid-started s o h.1))

-- What an accepted receive leaves: all events of all vectors of the PDU are applied in their order, and nothing else changes.
pub record Registers (t : List ℕ) (p : ℕ) (pdu u : List ℕ) : Type 0 where
  pub vectors : List Vector
  pub read : walk pdu ≡ found vectors
  pub bridge : decode u ≡ acted (decode t) p (frame_acts vectors)
  pub table : u ≡ encode (acted (decode t) p (frame_acts vectors))
  -- every stream that it joins is held afterwards, and no other is added
  pub joined : ids (decode u).streams ≡ together (ids (decode t).streams) (joins (frame_acts vectors))

received-all : (b : Bridge) (p : ℕ) (pdu : List ℕ) (vs : List Vector) → wrong_port b.settings p ≡ false → walk pdu ≡ found vs →
    length (apply_all b.clock (p - 1) (frame_acts vs) b.streams) ≤ 64 →
    receive b p pdu ≡ record { number = 0; bridge = acted b p (frame_acts vs) }
unfolding receive reading received walked
received-all b p pdu vs w e l = rw (w, e, le-leb _ _ l)

pub receive-registers : (t : List ℕ) (p : ℕ) (pdu : List ℕ) (n : ℕ) (u : List ℕ) → Octets t → Octets pdu → Receives t p pdu n u → n ≡ 0 →
    Registers t p pdu u
unfolding holding owning sending
receive-registers t p pdu n u o q call z =
    let h = (receive-0 t p pdu).0 (sym call.0 ∙ z) in
    let b = decode t in
    let vs = h.1.0 in
    let s = apply_all b.clock (p - 1) (frame_acts vs) b.streams in
    let same : ids s ≡ together (ids b.streams) (joins (frame_acts vs)) = acts-ids b.clock (p - 1) (frame_acts vs) b.streams in
    let room : length s ≤ 64 = rw (held-ids s, same) h.1.2 in
    let e = ap (λ (a : Answer). a.bridge) (received-all b p pdu vs h.0.1 h.1.1 room) in
    let v : Valid (acted b p (frame_acts vs)) = rw e at (receive-keeps b p pdu q (valid-decode t o h.0.0)) in
    let table : u ≡ encode (acted b p (frame_acts vs)) = call.1 ∙ ap (λ (c : Call). c.table) (receive-taken t p pdu h.0.0 h.0.1 vs h.1.1 room) in
    let bridge : decode u ≡ acted b p (frame_acts vs) = ap decode table ∙ decode-encode (acted b p (frame_acts vs)) v in
    record {
      vectors = vs;
      read = h.1.1;
      bridge = bridge;
      table = table;
      joined = ap (λ (c : Bridge). ids c.streams) bridge ∙ same;
    }

-- What an accepted receive_mmrp leaves: all events of the PDU's MAC vectors are applied in their order to the addresses of its port,
-- and nothing else changes.
pub record RegistersAddresses (t : List ℕ) (p : ℕ) (pdu u : List ℕ) : Type 0 where
  pub acts : List AddressAct
  pub read : address_walk pdu ≡ address_acts acts
  pub bridge : decode u ≡ addressed (decode t) p acts
  pub table : u ≡ encode (addressed (decode t) p acts)
  -- every address that it joins is held on the port afterwards, and no other is added
  pub joined : held_on (addressed (decode t) p acts) p ≡ together (held_on (decode t) p) (address_joins acts)

registered-all : (b : Bridge) (p : ℕ) (pdu : List ℕ) (es : List AddressAct) → wrong_port b.settings p ≡ false → address_walk pdu ≡ address_acts es →
    length (does_addresses b.clock es (own_at b.owns (p - 1)).addresses) ≤ most_addresses →
    receive_mmrp b p pdu ≡ record { number = 0; bridge = addressed b p es }
unfolding receive_mmrp address_reading received_addresses
registered-all b p pdu es w e l = rw (w, e, le-leb _ _ l)

pub mmrp-registers : (t : List ℕ) (p : ℕ) (pdu : List ℕ) (n : ℕ) (u : List ℕ) → Octets t → ReceivesMmrp t p pdu n u → n ≡ 0 →
    RegistersAddresses t p pdu u
mmrp-registers t p pdu n u o call z =
    let h = (mmrp-0 t p pdu).0 (sym call.0 ∙ z) in
    let b = decode t in
    let es = h.1.0 in
    let v : Valid b = valid-decode t o h.0.0 in
    let l = does_addresses b.clock es (own_at b.owns (p - 1)).addresses in
    let room : length l ≤ most_addresses = rw (acts-held b.clock es (own_at b.owns (p - 1)).addresses) h.1.2 in
    let taken = mmrp-taken t p pdu h.0.0 h.0.1 es h.1.1 room in
    let all = ap (λ (a : Answer). a.bridge) (registered-all b p pdu es h.0.1 h.1.1 room) in
    let kept : Valid (addressed b p es) = rw all at (mmrp-keeps b p pdu v) in
    let table : u ≡ encode (addressed b p es) = call.1 ∙ ap (λ (c : Call). c.table) taken in
    let place : p - 1 < length b.owns = omega (arith, right-port b.settings p h.0.1, v.eight_owns, v.settings.eight_ports) in
    record {
      acts = es;
      read = h.1.1;
      bridge = ap decode table ∙ decode-encode (addressed b p es) kept;
      table = table;
      joined = addressed-held b p es place;
    }

-- What an accepted advance leaves: the one bridge that the rules of settling give.
pub record Decides (t : List ℕ) (time : ℕ) (u : List ℕ) : Type 0 where
  pub bridge : decode u ≡ settle time (decode t)
  pub table : u ≡ encode (settle time (decode t))
  -- each column is the first step that applies; entries, latencies, ages and Listeners as 01 says; each class total is the sum of
  -- what is reserved, and at most its limit in force
  pub rules : Advanced time (decode t) (decode u)
  pub no_other : (c : Bridge) → Advanced time (decode t) c → c ≡ decode u

pub advance-decides : (t : List ℕ) (time n : ℕ) (u : List ℕ) → Octets t → time < 2 ^ 32 → Advances t time n u → n ≡ 0 → Decides t time u
unfolding decode
advance-decides t time n u o small call z =
    let h = (advance-0 t time).0 (sym call.0 ∙ z) in
    let b = decode t in
    let v : Valid b = valid-decode t o h.0 in
    let table : u ≡ encode (settle time b) = call.1 ∙ ap (λ (c : Call). c.table) (advance-settles t time h.0 h.1) in
    let bridge : decode u ≡ settle time b = ap decode table ∙ decode-encode (settle time b) (settle-keeps b time small h.1 v) in
    let one = exactly-one time b v.ascending (ids-small _ _ _ b.streams v.streams) in
    record {
      bridge = bridge;
      table = table;
      rules = rw bridge one.0;
      no_other = λ c a. one.1 c a ∙ sym bridge;
    }

-- What an accepted write leaves in the buffer u and in the table v, and answers: one PDU with what the port has to say from that place on,
-- as much as fits, and with LeaveAll where that is due.
pub record Tells (t : List ℕ) (p place : ℕ) (buffer : List ℕ) (long next : ℕ) (u v : List ℕ) : Type 0 where
  pub all : Bool
  pub due : all ≡ leaves_all (decode t) (p - 1)
  -- what it says, of what is to say
  pub run : List Said
  pub begins : run ++ drop (length run) (to_say (decode t) p place) ≡ to_say (decode t) p place
  pub some : 1 ≤ length (to_say (decode t) p place) → 1 ≤ length run
  -- the PDU is in the buffer's first octets, and all behind it stays
  pub pdu : take long u ≡ pdu_octets all run
  pub behind : drop long u ≡ drop long buffer
  pub same_length : length u ≡ length buffer
  -- it is at most 1,500 octets, and one declaration more would pass that
  pub fits : long ≤ longest_pdu
  pub full : length run < length (to_say (decode t) p place) → longest_pdu < length (pdu_octets all (take (suc (length run)) (to_say (decode t) p place)))
  -- so would any number more
  pub longest : Longest (pdu_fits all (to_say (decode t) p place)) (length (to_say (decode t) p place)) (length run)
  -- its Listeners are cut into vectors as no other cutting comes before in octets, then vectors, then values of the first vector, the
  -- second and so on; and no other cutting is the least
  pub least : Least values (declared_ids (having (registers listeners) run)) (map declared_ids (listener_parts (having (registers listeners) run)))
  pub only : (c : List (List ℕ)) → Least values (declared_ids (having (registers listeners) run)) c
      → c ≡ map declared_ids (listener_parts (having (registers listeners) run))
  -- it reads back as exactly these declarations, each with its event, on any port of any bridge, and LeaveAll where it has that
  pub vectors : walk (take long u) ≡ found (pdu_vectors all run)
  pub neighbour : (st : Settings) (q : ℕ) → wrong_port st q ≡ false → reading st q (take long u) ≡ acts (pdu_acts all run)
  pub events : all ≡ false → pdu_acts all run ≡ flat_map said_acts run
  -- the machines are moved, and nothing else changes
  pub bridge : decode v ≡ after_write (decode t) (p - 1) place
  pub table : v ≡ encode (after_write (decode t) (p - 1) place)
  -- the port's list then, and the place in it from which the pass goes on
  pub list : declared (decode v) p ≡ (wrote_on (decode t) (p - 1) place).list
  pub next_is : next ≡ (wrote_on (decode t) (p - 1) place).next
  pub next-within : next ≤ length (declared (decode v) p)

written : (t : List ℕ) (p place : ℕ) (buffer : List ℕ) → OnPort t p → longest_pdu ≤ length buffer → (write (decode t) p place).number ≡ 0 →
    let w = write (decode t) p place in
    let s = pdu_octets w.all w.run in
    write_on t p place buffer
    ≡ record {
      number = 0;
      length = length s;
      next = w.next;
      buffer = s ++ drop (length s) buffer;
      table = encode w.bridge;
    }
unfolding write_on written_to
written t p place buffer h l z = rw (h.0, h.1, le-ltb _ _ l, z)

in_list : (b : Bridge) (p place : ℕ) → place ≤ length (declarations b (p - 1)) → place ≤ length (declared b p)
unfolding declared
in_list b p place h = h

-- what the answer and the table are, by the definition
pub record Wrote (t : List ℕ) (p place : ℕ) (buffer : List ℕ) (long next : ℕ) (u v : List ℕ) : Type 0 where
  pub right : OnPort t p
  pub valid : Valid (decode t)
  pub port : p - 1 < length (decode t).settings.ports
  pub room : longest_pdu ≤ length buffer
  pub within : place ≤ length (declared (decode t) p)
  pub long-is : long ≡ length (pdu_octets (write (decode t) p place).all (write (decode t) p place).run)
  pub next_is : next ≡ (write (decode t) p place).next
  pub pdu : take long u ≡ pdu_octets (write (decode t) p place).all (write (decode t) p place).run
  pub behind : drop long u ≡ drop long buffer
  pub same_length : length u ≡ length buffer
  pub table : v ≡ encode (write (decode t) p place).bridge
  pub bridge : decode v ≡ (write (decode t) p place).bridge

pub wrote : (t : List ℕ) (p place : ℕ) (buffer : List ℕ) (n long next : ℕ) (u v : List ℕ) → Octets t →
    Writes t p place buffer n long next u v → n ≡ 0 → Wrote t p place buffer long next u v
wrote t p place buffer n long next u v o call z =
    let h = (write-0 t p place buffer).0 (sym call.number_is ∙ z) in
    let b = decode t in
    let within : place ≤ length (declared b p) = in_list b p place h.1.1 in
    let w = write b p place in
    let s : List ℕ = pdu_octets w.all w.run in
    let c = written t p place buffer h.0 h.1.0 (ap (λ (x : Written). x.number) (write-from b p place within)) in
    let long-is : long ≡ length s = call.length_is ∙ ap (λ (a : WriteCall). a.length) c in
    let left : u ≡ s ++ drop (length s) buffer = call.buffer_is ∙ ap (λ (a : WriteCall). a.buffer) c in
    let valid : Valid b = valid-decode t o h.0.0 in
    let table : v ≡ encode w.bridge = call.table_is ∙ ap (λ (a : WriteCall). a.table) c in
    record {
      right = h.0;
      valid = valid;
      port = right-port b.settings p h.0.1;
      room = h.1.0;
      within = within;
      long-is = long-is;
      next_is = call.next_is ∙ ap (λ (a : WriteCall). a.next) c;
      pdu = rw (long-is, left) (take-append_seam s (drop (length s) buffer));
      behind = rw (long-is, left) (drop-append_seam s (drop (length s) buffer));
      same_length = rw left (length_front buffer s (length s) (sym (length-take-le (length s) buffer (omega (arith, run_fits b p place, h.1.0)))));
      table = table;
      bridge = ap decode table ∙ decode-encode w.bridge (write_keeps b p place h.0.1 valid);
    }

pub write-tells : (t : List ℕ) (p place : ℕ) (buffer : List ℕ) (n long next : ℕ) (u v : List ℕ) → Octets t →
    Writes t p place buffer n long next u v → n ≡ 0 → Tells t p place buffer long next u v
write-tells t p place buffer n long next u v o call z =
    let h = wrote t p place buffer n long next u v o call z in
    let b = decode t in
    let w = write b p place in
    let from = write-from b p place h.within in
    let few : FewStreams b = valid-few b h.valid in
    let rest : List Said = to_say b p place in
    let m : ℕ = takes (leaves_all b (p - 1)) rest in
    let due : w.all ≡ leaves_all b (p - 1) = ap (λ (x : Written). x.all) from in
    let taken : w.run ≡ take m rest = ap (λ (x : Written). x.run) from in
    let count : length w.run ≡ m = ap length taken ∙ length-take-le m rest (takes-within (leaves_all b (p - 1)) rest) in
    let after : w.bridge ≡ after_write b (p - 1) place = ap (λ (x : Written). x.bridge) from in
    let next_place : next ≡ (wrote_on b (p - 1) place).next = h.next_is ∙ ap (λ (x : Written). x.next) from in
    let list : declared (decode v) p ≡ (wrote_on b (p - 1) place).list =
    ap (λ (d : Bridge). declared d p) h.bridge ∙ then-declared b p place h.valid h.port h.within in
    record {
      all = w.all;
      due = due;
      run = w.run;
      begins = ap (λ (r : List Said). r ++ drop (length w.run) rest) taken ∙ ap (λ (i : ℕ). take m rest ++ drop i rest) count ∙ take-append-drop m rest;
      some = λ k. omega (arith, count, takes_one (leaves_all b (p - 1)) rest k);
      pdu = h.pdu;
      behind = h.behind;
      same_length = h.same_length;
      fits = rw h.long-is (run_fits b p place);
      full = rw due (run-full b p place h.within);
      longest = rw due (write-longest b p place few h.within);
      least = write-least b few p place;
      only = write-only b few p place;
      vectors = rw h.pdu (read_back b few p place);
      neighbour = λ st q k. rw h.pdu (neighbour-reads b h.valid p place st q k);
      events = λ e. rw e (events-only w.run (run-in-order b p place));
      bridge = h.bridge ∙ after;
      table = h.table ∙ ap encode after;
      list = list;
      next_is = next_place;
      next-within = rw (next_place, list) (next-within b p place);
    }

-- What an accepted report shows: what the table holds, each field as it was taken by the last advance.
pub record Shows (t : List ℕ) (p place : ℕ) (r : Report) : Type 0 where
  pub count : r.count ≡ length (decode t).streams
  pub total_a : r.total_a ≡ (get_or (decode t).totals (p - 1) no_totals).total_a
  pub limit_a : r.limit_a ≡ (port_at (decode t).settings (p - 1)).limit_a
  pub total_b : r.total_b ≡ (get_or (decode t).totals (p - 1) no_totals).total_b
  pub limit_b : r.limit_b ≡ (port_at (decode t).settings (p - 1)).limit_b
  -- of the stream at that place; past the last stream, zero and none
  pub id : r.id ≡ (stream_at place (decode t)).id
  pub column : r.column ≡ word_of (result_at (stream_at place (decode t)) (p - 1)).column
  pub code : r.code ≡ code_of (result_at (stream_at place (decode t)) (p - 1)).column
  pub listener : r.listener ≡ (result_at (stream_at place (decode t)) (p - 1)).declares
  pub entry : r.entry ≡ (result_at (stream_at place (decode t)) (p - 1)).entry

shows : (t : List ℕ) (p place : ℕ) → OnPort t p → place ≤ length (decode t).streams → Shows t p place (report_on t p place)
unfolding report_on report
shows t p place h k =
    rw (h.0, h.1, le-ltb _ _ k)
    record {
      count = refl;
      total_a = refl;
      limit_a = refl;
      total_b = refl;
      limit_b = refl;
      id = refl;
      column = refl;
      code = refl;
      listener = refl;
      entry = refl;
    }

pub report-shows : (t : List ℕ) (p place : ℕ) (r : Report) → Reports t p place r → r.number ≡ 0 → Shows t p place r
report-shows t p place r call z =
    let h = (report-0 t p place).0 (rw call at z) in
    rw call (shows t p place h.0 h.1)
