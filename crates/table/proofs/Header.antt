-- What stands before the stream records of a table: settings, clock, number of streams, totals, what the ports hold and what they send; how
-- each is read, and what the table is when it is replaced.
use Prim.Native.Nat.{ℕ, zero, suc, ◌-◌, ◌*◌, ◌/◌, ◌%◌, ◌≤◌, ◌<◌}
use native.Mathlib.Omega.{arith}
use mathlib.Core.Path.{◌≡◌, refl, sym, ap, ◌∙◌}
use mathlib.Core.List.{List, [], ◌∷◌, ◌++◌, append_assoc, append-nil}
use lib.ListN.{length, get_or, set, replicate, length-append, length-replicate}
use Rattle.octets.specs.Be.{be_at, be}
use Rattle.octets.specs.Parts.{part, patch, zeros}
use Rattle.octets.specs.Fields.{packed, Fit, width, flat}
use Rattle.octets.proofs.Be.{length-be}
use Rattle.octets.proofs.Fields.{flat_append, packed-zeros, fit-zeros}
use Rattle.model.specs.Layout.{in_table, in_head, own_place, own_size, port_place, port_size, port_widths, ports_unit, priority_a_unit, priority_b_unit, pruning_unit, sender_place, sender_size, table_length, total_place, total_size, totals_size}
use Rattle.model.specs.Lists.{All, bit}
use Rattle.model.specs.State.{Port, Settings, Own, Sender, Stream, Totals, Bridge, no_port, port_at, no_totals, no_own, own_at, no_sender, sender_at}
use Rattle.model.specs.Registrations.{at, holding, owning, sending}
use Rattle.model.specs.Sending.{sender_octets}
use Rattle.model.specs.Table.{port_numbers, port_octets, settings_octets, ports_field, totals_octets, own_octets, clock_field, count_field, encode, decode}
use Rattle.model.specs.Laid.{FitSettings, FitBridge, Laid}
use Rattle.model.proofs.Lists.{all-each, all_replicate}
use Rattle.model.proofs.Parts.{Sized, flat-zeros}
use Rattle.model.proofs.SettingsOctets.{head, head-length, port-length, id-read, ports-read, priority-a-read, priority-b-read, leave-read, vlan-read, pruning-read, fan-in-read}
use Rattle.model.proofs.Tables.{settings_whole, clock_and_count, totals_whole, owns_whole, senders_whole, records_whole, behind_totals, encode-parts, clock-length, settings-whole-length, totals-whole-length, owns-whole-length, senders-whole-length, whole_length, totals-sized, no-totals, clock-read, count-read, fit-whole}
use Rattle.model.proofs.Fits.{laid-is, laid-fits}
use Rattle.table.specs.Updates.{clocked, totalled}
use Rattle.table.proofs.Lens.{at_set, patch-between, part-one, patch-one, all_get_or}

-- all that stands before the records
unfoldable pub header : Bridge → List ℕ
header b = settings_whole b ++ (clock_and_count b ++ (totals_whole b ++ (owns_whole b ++ senders_whole b)))

pub header-records : (b : Bridge) → encode b ≡ header b ++ records_whole b
unfolding header
header-records b = encode-parts b ∙ simp append_assoc

module _ (b : Bridge) (w : FitBridge b) where
  pub table-length : length (encode b) ≡ table_length
  table-length = whole_length b (fit-whole b w)

  pub header-length : length (header b) ≡ in_table.records
  unfolding header
  header-length =
      let o = fit-whole b w in
      length-append (settings_whole b) (clock_and_count b ++ (totals_whole b ++ (owns_whole b ++ senders_whole b)))
      ∙ omega (
        arith,
        length-append (clock_and_count b) (totals_whole b ++ (owns_whole b ++ senders_whole b)),
        length-append (totals_whole b) (owns_whole b ++ senders_whole b),
        length-append (owns_whole b) (senders_whole b),
        settings-whole-length b o,
        clock-length b,
        totals-whole-length b o,
        owns-whole-length b o,
        senders-whole-length b o,
      )

  -- Clock and number of streams.

  pub clock-at : be_at 4 (encode b) in_table.clock ≡ b.clock
  unfolding clock_field
  clock-at = clock-read b (fit-whole b w) w.clock

  pub count_at : get_or (encode b) in_table.count 0 ≡ length b.streams
  unfolding count_field
  count_at = count-read b (fit-whole b w) w.clock

  -- Settings.

  pub bridge-id-at : be_at 8 (encode b) 0 ≡ b.settings.bridge_id
  unfolding encode
  bridge-id-at = id-read b.settings w.settings _

  pub ports-at : be_at 3 (encode b) in_head.word / ports_unit ≡ length b.settings.ports
  unfolding encode ports_field
  ports-at = ports-read b.settings w.settings _

  pub priority-a-at : be_at 3 (encode b) in_head.word / priority_a_unit % 8 ≡ b.settings.priority_a
  unfolding encode
  priority-a-at = priority-a-read b.settings w.settings _

  pub priority-b-at : be_at 3 (encode b) in_head.word / priority_b_unit % 8 ≡ b.settings.priority_b
  unfolding encode
  priority-b-at = priority-b-read b.settings w.settings _

  pub leave-time-at : be_at 3 (encode b) in_head.word % priority_b_unit ≡ b.settings.leave_time
  unfolding encode
  leave-time-at = leave-read b.settings w.settings _

  pub domain-vlan-at : be_at 2 (encode b) in_head.vlan % pruning_unit ≡ b.settings.vlan
  unfolding encode
  domain-vlan-at = vlan-read b.settings w.settings _

  pub pruning-at : be_at 2 (encode b) in_head.vlan / pruning_unit ≡ bit b.settings.pruning
  unfolding encode
  pruning-at = pruning-read b.settings w.settings _

  pub fan-in-at : be_at 1 (encode b) in_head.fan_in ≡ b.settings.fan_in
  unfolding encode
  fan-in-at = fan-in-read b.settings w.settings _

-- Ports. A place that is no port has the octets of none, which are zeros.

port-zeros : port_octets no_port ≡ zeros port_size
unfolding port_octets port_numbers no_port width bit
port-zeros = packed-zeros port_widths

abbrev eight_ports : Settings → List Port
eight_ports st = st.ports ++ replicate (8 - length st.ports) no_port

length-eight : (st : Settings) → length st.ports ≤ 8 → length (eight_ports st) ≡ 8
length-eight st h =
    length-append st.ports (replicate (8 - length st.ports) no_port) ∙ omega (arith, length-replicate (8 - length st.ports) no_port)

padded-at : {A : Type 0} (l : List A) (m p : ℕ) (d : A) → get_or (l ++ replicate m d) p d ≡ get_or l p d
padded-at [] m p d = blank m p
  where
    blank : (m p : ℕ) → get_or (replicate m d) p d ≡ d
    blank zero p = refl
    blank (suc m) zero = refl
    blank (suc m) (suc p) = blank m p
padded-at (x ∷ l) m zero d = refl
padded-at (x ∷ l) m (suc p) d = padded-at l m p d

flat-eight : (st : Settings) → flat port_octets (eight_ports st) ≡ flat port_octets st.ports ++ zeros ((8 - length st.ports) * port_size)
flat-eight st =
    let m = 8 - length st.ports in
    let none = replicate m no_port in
    let z = flat-zeros port_size port_octets no_port port-zeros none (all_replicate (λ q. q ≡ no_port) m no_port refl) in
    let e : length none * port_size ≡ m * port_size = omega (arith, length-replicate m no_port) in
    flat_append port_octets st.ports none ∙ ap (λ (l : List ℕ). flat port_octets st.ports ++ l) (z ∙ ap zeros e)

ports-laid : (b : Bridge)
    → encode b ≡ head b.settings ++ (flat port_octets (eight_ports b.settings) ++ (clock_and_count b ++ (totals_whole b ++ behind_totals b)))
unfolding encode settings_octets
ports-laid b = rw (flat-eight b.settings) (simp append_assoc)

ports-sized : (l : List Port) → All (Sized port_size port_octets) l
ports-sized = all-each (Sized port_size port_octets) port-length

-- a port's numbers fit, also at a place that is none
no-port-fits : Fit port_widths (port_numbers no_port)
unfolding port_numbers no_port bit
no-port-fits = fit-zeros port_widths

pub port-fits : (st : Settings) → FitSettings st → (p : ℕ) → Fit port_widths (port_numbers (port_at st p))
unfolding port_at
port-fits st w p = all_get_or (λ q. Fit port_widths (port_numbers q)) st.ports w.ports no_port no-port-fits p

module _ (b : Bridge) (w : FitBridge b) (p a : ℕ) (h : p < 8) (e : a ≡ port_place p) where
  pub port-part : part a port_size (encode b) ≡ port_octets (port_at b.settings p)
  unfolding port_at
  port-part =
      let st = b.settings in
      let l = eight_ports st in
      let after = clock_and_count b ++ (totals_whole b ++ behind_totals b) in
      let few : p < length l = omega (arith, length-eight st w.settings.eight_ports) in
      ap (part a port_size) (ports-laid b)
      ∙ part-one port_size port_octets in_table.ports (head st) after (head-length st) l (ports-sized l) p a few e no_port
      ∙ ap port_octets (padded-at st.ports (8 - length st.ports) p no_port)

-- Totals.

totals-laid : (b : Bridge) → encode b ≡ (settings_whole b ++ clock_and_count b) ++ (flat totals_octets b.totals ++ behind_totals b)
totals-laid b = encode-parts b ∙ simp append_assoc

before-totals : (b : Bridge) (w : FitBridge b) → length (settings_whole b ++ clock_and_count b) ≡ in_table.totals
before-totals b w = length-append (settings_whole b) (clock_and_count b) ∙ omega (arith, settings-whole-length b (fit-whole b w), clock-length b)

module _ (b : Bridge) (w : FitBridge b) (p a : ℕ) (h : p < 8) (e : a ≡ total_place p) where
  a-total : p < length b.totals
  a-total = omega (arith, w.eight_totals)

  pub totals-part : part a total_size (encode b) ≡ totals_octets (get_or b.totals p no_totals)
  totals-part =
      ap (part a total_size) (totals-laid b)
      ∙ part-one total_size totals_octets in_table.totals (settings_whole b ++ clock_and_count b) (behind_totals b) (before-totals b w) b.totals (totals-sized b.totals) p a a-total
      e no_totals

  pub totals-patch : (t : Totals) → patch a total_size (totals_octets t) (encode b) ≡ encode (totalled (set b.totals p t) b)
  totals-patch t =
      ap (patch a total_size (totals_octets t)) (totals-laid b)
      ∙ patch-one total_size totals_octets in_table.totals (settings_whole b ++ clock_and_count b) (behind_totals b) (before-totals b w) b.totals (totals-sized b.totals) p a a-total
      e t
      ∙ sym (totals-laid (totalled (set b.totals p t) b))

pub totals-cleared : (b : Bridge) (w : FitBridge b) → patch in_table.totals totals_size (zeros totals_size) (encode b) ≡ encode (totalled (replicate 8 no_totals) b)
totals-cleared b w =
    let before = settings_whole b ++ clock_and_count b in
    let none : flat totals_octets (replicate 8 no_totals) ≡ zeros totals_size =
    flat-zeros total_size totals_octets no_totals no-totals (replicate 8 no_totals) (all_replicate (λ t. t ≡ no_totals) 8 no_totals refl) in
    ap (patch in_table.totals totals_size (zeros totals_size)) (totals-laid b)
    ∙ patch-between before (totals_whole b) (behind_totals b) (zeros totals_size) in_table.totals totals_size (before-totals b w) (totals-whole-length b (fit-whole b w))
    ∙ ap (λ (z : List ℕ). before ++ (z ++ behind_totals b)) (sym none)
    ∙ sym (totals-laid (totalled (replicate 8 no_totals) b))

-- What the ports hold.

owns-laid : (b : Bridge) → encode b ≡ (settings_whole b ++ (clock_and_count b ++ totals_whole b)) ++ (flat own_octets b.owns ++ (senders_whole b ++ records_whole b))
owns-laid b = encode-parts b ∙ simp append_assoc

before-owns : (b : Bridge) (w : FitBridge b) → length (settings_whole b ++ (clock_and_count b ++ totals_whole b)) ≡ in_table.owns
before-owns b w =
    let o = fit-whole b w in
    length-append (settings_whole b) (clock_and_count b ++ totals_whole b)
    ∙ omega (arith, length-append (clock_and_count b) (totals_whole b), settings-whole-length b o, clock-length b, totals-whole-length b o)

module _ (b : Bridge) (w : FitBridge b) (p : ℕ) (h : p < 8) where
  before : List ℕ
  before = settings_whole b ++ (clock_and_count b ++ totals_whole b)

  an-own : p < length b.owns
  an-own = omega (arith, w.eight_owns)

  pub own-part : part (own_place p) own_size (encode b) ≡ own_octets (own_at b.owns p)
  unfolding before
  own-part =
      ap (part (own_place p) own_size) (owns-laid b)
      ∙ part-one own_size own_octets in_table.owns before (senders_whole b ++ records_whole b) (before-owns b w) b.owns (fit-whole b w).owns p (own_place p) an-own refl no_own

  pub own-patch : (o : Own) → patch (own_place p) own_size (own_octets o) (encode b) ≡ encode (owning b (set b.owns p o))
  unfolding before owning
  own-patch o =
      ap (patch (own_place p) own_size (own_octets o)) (owns-laid b)
      ∙ patch-one own_size own_octets in_table.owns before (senders_whole b ++ records_whole b) (before-owns b w) b.owns (fit-whole b w).owns p (own_place p) an-own refl o
      ∙ sym (owns-laid (owning b (set b.owns p o)))

-- What the ports send.

abbrev before_senders : Bridge → List ℕ
before_senders b = (settings_whole b ++ (clock_and_count b ++ totals_whole b)) ++ owns_whole b

senders-laid : (b : Bridge) → encode b ≡ before_senders b ++ (flat sender_octets b.senders ++ records_whole b)
senders-laid b = encode-parts b ∙ simp append_assoc

before-senders : (b : Bridge) (w : FitBridge b) → length (before_senders b) ≡ in_table.senders
before-senders b w =
    length-append (settings_whole b ++ (clock_and_count b ++ totals_whole b)) (owns_whole b)
    ∙ omega (arith, before-owns b w, owns-whole-length b (fit-whole b w))

module _ (b : Bridge) (w : FitBridge b) (p : ℕ) (h : p < 8) where
  a-sender : p < length b.senders
  a-sender = omega (arith, w.eight_senders)

  pub sender-part : part (sender_place p) sender_size (encode b) ≡ sender_octets (sender_at b.senders p)
  unfolding sender_at
  sender-part =
      ap (part (sender_place p) sender_size) (senders-laid b)
      ∙ part-one sender_size sender_octets in_table.senders (before_senders b) (records_whole b) (before-senders b w) b.senders (fit-whole b w).senders p (sender_place p) a-sender
      refl no_sender

  pub sender-patch : (u : Sender → Sender) → patch (sender_place p) sender_size (sender_octets (u (sender_at b.senders p))) (encode b) ≡ encode (sending b (at p u b.senders))
  unfolding sender_at sending
  sender-patch u =
      ap (patch (sender_place p) sender_size (sender_octets (u (get_or b.senders p no_sender)))) (senders-laid b)
      ∙ patch-one sender_size sender_octets in_table.senders (before_senders b) (records_whole b) (before-senders b w) b.senders (fit-whole b w).senders p (sender_place p) a-sender
      refl (u (get_or b.senders p no_sender))
      ∙ ap (λ (l : List Sender). before_senders b ++ (flat sender_octets l ++ records_whole b)) (at_set p u b.senders no_sender a-sender)
      ∙ sym (senders-laid (sending b (at p u b.senders)))

-- The clock replaced, and the number of streams.

pub clock-patch : (b : Bridge) (w : FitBridge b) (now : ℕ) → patch in_table.clock 4 (be 4 now) (encode b) ≡ encode (clocked now b)
unfolding packed
clock-patch b w now =
    let n = be 1 (length b.streams) ++ [] in
    let after = totals_whole b ++ behind_totals b in
    ap (patch in_table.clock 4 (be 4 now)) (encode-parts b ∙ ap (λ (s : List ℕ). settings_whole b ++ s) (append_assoc (be 4 b.clock) n after))
    ∙ patch-between (settings_whole b) (be 4 b.clock) (n ++ after) (be 4 now) in_table.clock 4 (settings-whole-length b (fit-whole b w)) (length-be 4 b.clock)
    ∙ sym (encode-parts (clocked now b) ∙ ap (λ (s : List ℕ). settings_whole b ++ s) (append_assoc (be 4 now) n after))

pub count-patch : (b : Bridge) (w : FitBridge b) (s : List Stream) (after : List ℕ)
    → patch in_table.count 1 (be 1 (length s)) (header b ++ after) ≡ header (holding b s) ++ after
unfolding packed header holding
count-patch b w s after =
    let before = settings_whole b ++ be 4 b.clock in
    let n = be 1 (length b.streams) in
    let l : length before ≡ in_table.count = length-append (settings_whole b) (be 4 b.clock) ∙ omega (arith, settings-whole-length b (fit-whole b w), length-be 4 b.clock) in
    let behind = totals_whole b ++ (owns_whole b ++ senders_whole b) in
    let split : (k : List ℕ) → (settings_whole b ++ ((be 4 b.clock ++ (k ++ [])) ++ behind)) ++ after ≡ before ++ (k ++ (behind ++ after)) =
    λ k. simp (append_assoc, append-nil) in
    ap (patch in_table.count 1 (be 1 (length s))) (split n)
    ∙ patch-between before n (behind ++ after) (be 1 (length s)) in_table.count 1 l (length-be 1 (length b.streams))
    ∙ sym (split (be 1 (length s)))

-- What is read of octets that are laid out as a table.

module _ (t : List ℕ) (l : Laid t) where
  pub laid-length : length t ≡ table_length
  laid-length = ap length (laid-is t l) ∙ table-length (decode t) (laid-fits t l)

  pub laid-clock : be_at 4 t in_table.clock ≡ (decode t).clock
  laid-clock = ap (λ (s : List ℕ). be_at 4 s in_table.clock) (laid-is t l) ∙ clock-at (decode t) (laid-fits t l)

  pub laid-count : get_or t in_table.count 0 ≡ length (decode t).streams
  laid-count = ap (λ (s : List ℕ). get_or s in_table.count 0) (laid-is t l) ∙ count_at (decode t) (laid-fits t l)

  pub laid-few : length (decode t).streams ≤ 64
  laid-few = (laid-fits t l).at_most_64

  pub laid-bridge-id : be_at 8 t 0 ≡ (decode t).settings.bridge_id
  laid-bridge-id = ap (λ (s : List ℕ). be_at 8 s 0) (laid-is t l) ∙ bridge-id-at (decode t) (laid-fits t l)

  pub laid-priority-a : be_at 3 t in_head.word / priority_a_unit % 8 ≡ (decode t).settings.priority_a
  laid-priority-a = ap (λ (s : List ℕ). be_at 3 s in_head.word / priority_a_unit % 8) (laid-is t l) ∙ priority-a-at (decode t) (laid-fits t l)

  pub laid-priority-b : be_at 3 t in_head.word / priority_b_unit % 8 ≡ (decode t).settings.priority_b
  laid-priority-b = ap (λ (s : List ℕ). be_at 3 s in_head.word / priority_b_unit % 8) (laid-is t l) ∙ priority-b-at (decode t) (laid-fits t l)

  pub laid-domain-vlan : be_at 2 t in_head.vlan % pruning_unit ≡ (decode t).settings.vlan
  laid-domain-vlan = ap (λ (s : List ℕ). be_at 2 s in_head.vlan % pruning_unit) (laid-is t l) ∙ domain-vlan-at (decode t) (laid-fits t l)

  pub laid-pruning : be_at 2 t in_head.vlan / pruning_unit ≡ bit (decode t).settings.pruning
  laid-pruning = ap (λ (s : List ℕ). be_at 2 s in_head.vlan / pruning_unit) (laid-is t l) ∙ pruning-at (decode t) (laid-fits t l)

  pub laid-fan-in : be_at 1 t in_head.fan_in ≡ (decode t).settings.fan_in
  laid-fan-in = ap (λ (s : List ℕ). be_at 1 s in_head.fan_in) (laid-is t l) ∙ fan-in-at (decode t) (laid-fits t l)

  pub laid-ports : be_at 3 t in_head.word / ports_unit ≡ length (decode t).settings.ports
  laid-ports = ap (λ (s : List ℕ). be_at 3 s in_head.word / ports_unit) (laid-is t l) ∙ ports-at (decode t) (laid-fits t l)

  pub laid-eight : length (decode t).settings.ports ≤ 8
  laid-eight = (laid-fits t l).settings.eight_ports

  pub laid-leave-time : be_at 3 t in_head.word % priority_b_unit ≡ (decode t).settings.leave_time
  laid-leave-time = ap (λ (s : List ℕ). be_at 3 s in_head.word % priority_b_unit) (laid-is t l) ∙ leave-time-at (decode t) (laid-fits t l)
