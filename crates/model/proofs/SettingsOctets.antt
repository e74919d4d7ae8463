-- Settings as octets and back: nothing is lost either way, and the octets that keep the rules are those of valid settings.
use mathlib.Core.Path.{◌≡◌, refl, sym, ◌∙◌, ap}
use mathlib.Core.List.{List, [], ◌∷◌, ◌++◌, append_assoc}
use mathlib.Core.Bool.{Bool, true, false, cond}
use Prim.Native.Nat.{ℕ, ◌+◌, ◌*◌, ◌/◌, ◌%◌, ◌^◌, ◌≤◌, ◌<◌}
use native.Mathlib.Nat.{add-zero}
use native.Mathlib.Omega.{arith}
use lib.ListN.{length, get_or, take, drop, length-append, length-drop}
use lib.Seq.{take-add, take_all, drop_at}
use lib.Dec.{eqb}
use borrow.Author.Tests.{eq-eqb, ne_eqb, eqb-true, eqb-false, le-leb, leb-true, not-true}
use Rattle.octets.specs.Be.{be_at}
use Rattle.octets.specs.Fields.{fields, packed, Fit, width, flat}
use Rattle.octets.specs.Parts.{part}
use Rattle.octets.proofs.Fields.{length-packed-any, length-flat, fields-packed, fields-of-packed, packed-fields, fields_fit, be_at-fits}
use Rattle.model.specs.Layout.{head_size, head_widths, in_head, in_port, in_table, port_place, port_size, port_widths, ports_unit, priority_a_unit, priority_b_unit, pruning_unit, settings_size}
use Rattle.model.specs.Lists.{All, all_true, bit, Octets}
use Rattle.model.specs.State.{Port, Settings, class_b, both_limits, in_force}
use Rattle.model.specs.Table.{port_numbers, port_from, port_octets, to_port, head_word, vlan_word, head_numbers, settings_octets, ports_field, to_settings, port_rule, every_part, settings_rules, settings_formed}
use Rattle.model.specs.Laid.{FitSettings}
use Rattle.model.proofs.Cells.{bit-back, bit-forth, bit-few}
use Rattle.model.proofs.Parts.{◌also◌, packed-whole, parts-flat, length-parts, octets-at, octets-drop, octets-append, octets-packed, octets-flat, every-read, every-flat, every-forth}
use Rattle.model.proofs.Lists.{all_map, all-each, and_left, and_right, all_true_lem, true-all}
use Rattle.model.proofs.Valid.{ValidPort, ValidSettings}

-- A port's numbers: the flags are three bits of one octet.

-- the numbers of a port are read as it
port-read : (q : Port) → port_from (port_numbers q) ≡ q
unfolding port_from port_numbers
port-read q =
    let a = bit-few q.supports_a in
    let b = bit-few q.supports_b in
    let t = bit-few q.sends_twice in
    let f : ℕ = bit q.supports_a * 128 + bit q.supports_b * 64 + bit q.sends_twice * 32 in
    let u : f / 128 ≡ bit q.supports_a = omega arith in
    let v : f / 64 % 2 ≡ bit q.supports_b = omega arith in
    let w : f / 32 % 2 ≡ bit q.sends_twice = omega arith in
    rw (u, v, w, bit-back q.supports_a, bit-back q.supports_b, bit-back q.sends_twice)

-- numbers that fit, with "zero 5" after the flags, are those of the port that they are read as
numbers-back : (f o m a b c d : ℕ) → f < 256 → f % 32 ≡ 0
    → port_numbers (port_from (f ∷ o ∷ m ∷ a ∷ b ∷ c ∷ d ∷ [])) ≡ f ∷ o ∷ m ∷ a ∷ b ∷ c ∷ d ∷ []
unfolding port_from port_numbers
numbers-back f o m a b c d h z =
    rw (bit-forth (f / 128) (omega arith), bit-forth (f / 64 % 2) (omega arith), bit-forth (f / 32 % 2) (omega arith))
    (ap (λ (x : ℕ). x ∷ o ∷ m ∷ a ∷ b ∷ c ∷ d ∷ []) (omega arith))

pub port-fit : (q : Port) → ValidPort q → Fit port_widths (port_numbers q)
unfolding Fit port_numbers
port-fit q v =
    let a = bit-few q.supports_a in
    let b = bit-few q.supports_b in
    let t = bit-few q.sends_twice in
    omega arith also v.overhead also v.largest also v.limit_a also v.limit_b also v.latency_a also v.latency_b also tt

-- both limits, and with them the limit in force of class B, fit in six octets
pub both-fit : (q : Port) → q.limit_a < 256 ^ 5 → q.limit_b < 256 ^ 5 → both_limits q < 256 ^ 6
unfolding both_limits
both-fit q a b = go q.supports_a
  where
    go : (t : Bool) → cond t q.limit_a 0 + q.limit_b < 256 ^ 6
    go true = omega arith
    go false = omega arith

-- and are at most the two as they are configured
pub both-at-most : (q : Port) → both_limits q ≤ q.limit_a + q.limit_b
unfolding both_limits
both-at-most q = go q.supports_a
  where
    go : (t : Bool) → cond t q.limit_a 0 + q.limit_b ≤ q.limit_a + q.limit_b
    go true = omega arith
    go false = omega arith

pub limit-b-fits : (q : Port) → q.limit_a < 256 ^ 5 → q.limit_b < 256 ^ 5 → (n : ℕ) → in_force q n class_b < 256 ^ 6
unfolding in_force
limit-b-fits q a b n = omega (arith, both-fit q a b)

port-flags : (q : Port) → (get_or (port_numbers q) 0 0) % 32 ≡ 0
unfolding port_numbers
port-flags q = omega arith

port-from : (s : List ℕ) → Fit port_widths (fields port_widths 0 s) → ValidPort (to_port s)
unfolding Fit fields to_port port_from
port-from s f = record {
  overhead = f.1.0;
  largest = f.1.1.0;
  limit_a = f.1.1.1.0;
  limit_b = f.1.1.1.1.0;
  latency_a = f.1.1.1.1.1.0;
  latency_b = f.1.1.1.1.1.1.0;
}

-- A port's octets.

-- a field of one octet
pub octet-field : (s : List ℕ) (i : ℕ) → be_at 1 s i ≡ get_or s i 0
unfolding be_at
octet-field s i = rw add-zero (omega arith)

pub port-length : (q : Port) → length (port_octets q) ≡ port_size
unfolding port_octets port_numbers
port-length q = length-packed-any port_widths (port_numbers q) refl ∙ (unfold width in refl)

ports-sized : (l : List Port) → All (λ q. length (port_octets q) ≡ port_size) l
ports-sized = all-each (λ q. length (port_octets q) ≡ port_size) port-length

pub port-back : (q : Port) → Fit port_widths (port_numbers q) → to_port (port_octets q) ≡ q
unfolding to_port port_octets
port-back q f = rw (fields-of-packed port_widths (port_numbers q) f) (port-read q)

-- the first number is the octet of the flags
first-flags : (s : List ℕ) → get_or (fields port_widths 0 s) 0 0 ≡ get_or s 0 0
unfolding fields
first-flags s = octet-field s 0

pub port-formed : (q : Port) → Fit port_widths (port_numbers q) → port_rule (port_octets q) ≡ true
unfolding port_rule port_octets
port-formed q f =
    let e = sym (first-flags (packed port_widths (port_numbers q))) ∙ ap (λ (vs : List ℕ). get_or vs 0 0) (fields-of-packed port_widths (port_numbers q) f) in
    rw e (eq-eqb (get_or (port_numbers q) 0 0 % 32) 0 (port-flags q))

numbers-forth : (s : List ℕ) → get_or s 0 0 < 256 → port_rule s ≡ true → port_numbers (to_port s) ≡ fields port_widths 0 s
unfolding to_port port_rule fields
numbers-forth s h r =
    let e = octet-field s 0 in
    let z : get_or s 0 0 % 32 ≡ 0 = eqb-true (get_or s 0 0 % 32) 0 r in
    numbers-back (be_at 1 s 0) (be_at 1 s in_port.overhead) (be_at 2 s in_port.largest) (be_at 5 s in_port.limit_a) (be_at 5 s in_port.limit_b) (be_at 4 s in_port.latency_a) (be_at 4 s in_port.latency_b) (omega arith) (rw e z)

pub port-forth : (s : List ℕ) → length s ≡ port_size → Octets s → port_rule s ≡ true → port_octets (to_port s) ≡ s
unfolding port_octets
port-forth s l o r =
    ap (packed port_widths) (numbers-forth s (octets-at s o 0) r) ∙ packed-whole port_widths s (l ∙ unfold width in refl) o

pub port-valid : (s : List ℕ) → length s ≡ port_size → Octets s → port_rule s ≡ true → ValidPort (to_port s)
port-valid s l o r = port-from s (fields_fit port_widths 0 s (octets-at s o))

-- What is read from the octets of settings, whatever follows them.

abbrev pub head : Settings → List ℕ
head st = packed head_widths (head_numbers st)

pub head-length : (st : Settings) → length (head st) ≡ head_size
unfolding head_numbers
head-length st = length-packed-any head_widths (head_numbers st) refl ∙ (unfold width in refl)

head-split : (st : Settings) (rest : List ℕ) → settings_octets st ++ rest ≡ head st ++ (flat port_octets st.ports ++ rest)
unfolding settings_octets
head-split st rest = append_assoc (head st) (flat port_octets st.ports) rest

pub settings-length : (st : Settings) → length (settings_octets st) ≡ port_place (length st.ports)
unfolding settings_octets
settings-length st =
    length-append (head st) (flat port_octets st.ports) ∙ omega (arith, head-length st, length-flat port_octets port_size port-length st.ports)

-- numbers within their fields are read as they were written, whatever follows
module _ (st : Settings) (v : FitSettings st) where
  head-fit : Fit head_widths (head_numbers st)
  unfolding Fit head_numbers head_word vlan_word
  head-fit = v.bridge_id also omega arith also omega (arith, v.vlan, bit-few st.pruning) also v.fan_in also tt

  module _ (rest : List ℕ) where
    head_read : fields head_widths 0 (settings_octets st ++ rest) ≡ head_numbers st
    head_read = rw (head-split st rest) (fields-packed head_widths (head_numbers st) (flat port_octets st.ports ++ rest) head-fit)

    pub id-read : be_at 8 (settings_octets st ++ rest) 0 ≡ st.bridge_id
    unfolding fields head_numbers
    id-read = ap (λ (vs : List ℕ). get_or vs 0 0) head_read

    word_read : be_at 3 (settings_octets st ++ rest) in_head.word ≡ head_word st
    unfolding fields head_numbers
    word_read = ap (λ (vs : List ℕ). get_or vs 1 0) head_read

    pub ports-read : ports_field (settings_octets st ++ rest) ≡ length st.ports
    unfolding ports_field head_word
    ports-read = rw word_read (omega arith)

    pub priority-a-read : be_at 3 (settings_octets st ++ rest) in_head.word / priority_a_unit % 8 ≡ st.priority_a
    unfolding head_word
    priority-a-read = rw word_read (omega arith)

    pub priority-b-read : be_at 3 (settings_octets st ++ rest) in_head.word / priority_b_unit % 8 ≡ st.priority_b
    unfolding head_word
    priority-b-read = rw word_read (omega arith)

    pub leave-read : be_at 3 (settings_octets st ++ rest) in_head.word % priority_b_unit ≡ st.leave_time
    unfolding head_word
    leave-read = rw word_read (omega arith)

    pub vlan-word-read : be_at 2 (settings_octets st ++ rest) in_head.vlan ≡ vlan_word st
    unfolding fields head_numbers
    vlan-word-read = ap (λ (vs : List ℕ). get_or vs 2 0) head_read

    pub vlan-read : be_at 2 (settings_octets st ++ rest) in_head.vlan % pruning_unit ≡ st.vlan
    unfolding vlan_word
    vlan-read = rw vlan-word-read (omega (arith, v.vlan))

    pub pruning-read : be_at 2 (settings_octets st ++ rest) in_head.vlan / pruning_unit ≡ bit st.pruning
    unfolding vlan_word
    pruning-read = rw vlan-word-read (omega (arith, v.vlan))

    pub fan-in-read : be_at 1 (settings_octets st ++ rest) in_head.fan_in ≡ st.fan_in
    unfolding fields head_numbers
    fan-in-read = ap (λ (vs : List ℕ). get_or vs 3 0) head_read

    pub behind-head : drop in_table.ports (settings_octets st ++ rest) ≡ flat port_octets st.ports ++ rest
    behind-head = rw (head-split st rest) (drop_at (head st) (flat port_octets st.ports ++ rest) in_table.ports (head-length st))

    pub fit-back : to_settings (settings_octets st ++ rest) ≡ st
    unfolding to_settings
    fit-back =
        let ps =
        parts-flat port_size port_octets to_port st.ports rest (ports-sized st.ports)
        (all_map (λ q. Fit port_widths (port_numbers q)) (λ q. to_port (port_octets q) ≡ q) port-back st.ports v.ports) in
        rw (ports-read, behind-head, id-read, priority-a-read, priority-b-read, leave-read, vlan-read, pruning-read, bit-back st.pruning, fan-in-read, ps)

pub settings-fit : (st : Settings) → ValidSettings st → FitSettings st
settings-fit st v = record {
  bridge_id = v.bridge_id;
  priority_a = v.priority_a;
  priority_b = v.priority_b;
  leave_time = v.leave_time;
  vlan = omega (arith, v.vlan);
  fan_in = omega (arith, v.fan_in);
  eight_ports = v.eight_ports;
  ports = all_map ValidPort (λ q. Fit port_widths (port_numbers q)) port-fit st.ports v.ports;
}

module _ (st : Settings) (v : ValidSettings st) (rest : List ℕ) where
  pub settings-rules : all_true (settings_rules (settings_octets st ++ rest)) ≡ true
  unfolding settings_rules
  settings-rules =
      let n = length st.ports in
      let w = settings-fit st v in
      let ps =
      every-flat port_size port_octets port_rule st.ports rest (ports-sized st.ports)
      (all_map (λ q. Fit port_widths (port_numbers q)) (λ q. port_rule (port_octets q) ≡ true) port-formed st.ports w.ports) in
      let d = ne_eqb st.priority_a st.priority_b v.different in
      true-all (settings_rules (settings_octets st ++ rest))
      (rw (ports-read st w rest, behind-head st w rest, priority-a-read st w rest, priority-b-read st w rest, leave-read st w rest, vlan-read st w rest, fan-in-read st w rest, d)
      (le-leb 1 n v.some-port also le-leb n 8 v.eight_ports also refl also le-leb 1 st.leave_time v.leaves also ps
      also le-leb 1 st.vlan v.some-vlan also le-leb st.vlan 4094 v.vlan also le-leb st.fan_in 8 v.fan_in also tt))

-- Octets that keep the rules are those of the settings that they are read as.

-- the head word is made of its four fields
word_back : (w : ℕ) → ((w / ports_unit * 8 + w / priority_a_unit % 8) * 8 + w / priority_b_unit % 8) * priority_b_unit + w % priority_b_unit ≡ w
word_back w = omega arith

head-word : (s : List ℕ) → head_word (to_settings s) ≡ be_at 3 s in_head.word
unfolding head_word to_settings ports_field
head-word s = rw (length-parts port_size to_port (be_at 3 s in_head.word / ports_unit) (drop in_table.ports s)) (word_back (be_at 3 s in_head.word))

-- and the VLAN's field of its two
vlan-word : (s : List ℕ) → Octets s → vlan_word (to_settings s) ≡ be_at 2 s in_head.vlan
unfolding vlan_word to_settings
vlan-word s o =
    let h : be_at 2 s in_head.vlan < 256 ^ 2 = be_at-fits 2 s in_head.vlan (octets-at s o) in
    rw (bit-forth (be_at 2 s in_head.vlan / pruning_unit) (omega arith)) (omega arith)

head-forth : (s : List ℕ) → head_size ≤ length s → Octets s → head (to_settings s) ≡ take head_size s
unfolding head_numbers to_settings fields width part
head-forth s h o = rw (head-word s, vlan-word s o) (packed-fields head_widths 0 s h (octets-at s o))

-- the rules as facts
module _ (s : List ℕ) (r : all_true (settings_rules s) ≡ true) where
  rules : All (λ b. b ≡ true) (settings_rules s)
  rules = all_true_lem (settings_rules s) r

  pub some-ports : 1 ≤ ports_field s
  unfolding settings_rules
  some-ports = leb-true 1 (ports_field s) rules.0

  pub eight_ports : ports_field s ≤ 8
  unfolding settings_rules
  eight_ports = leb-true (ports_field s) 8 rules.1.0

  different : be_at 3 s in_head.word / priority_a_unit % 8 ≡ be_at 3 s in_head.word / priority_b_unit % 8 → ⊥
  unfolding settings_rules
  different = eqb-false (be_at 3 s in_head.word / priority_a_unit % 8) (be_at 3 s in_head.word / priority_b_unit % 8) (not-true (eqb (be_at 3 s in_head.word / priority_a_unit % 8) (be_at 3 s in_head.word / priority_b_unit % 8)) rules.1.1.0)

  leaves : 1 ≤ be_at 3 s in_head.word % priority_b_unit
  unfolding settings_rules
  leaves = leb-true 1 (be_at 3 s in_head.word % priority_b_unit) rules.1.1.1.0

  port-rules : every_part port_size port_rule (ports_field s) (drop in_table.ports s) ≡ true
  unfolding settings_rules
  port-rules = rules.1.1.1.1.0

  some-vlan : 1 ≤ be_at 2 s in_head.vlan % pruning_unit
  unfolding settings_rules
  some-vlan = leb-true 1 (be_at 2 s in_head.vlan % pruning_unit) rules.1.1.1.1.1.0

  vlan-few : be_at 2 s in_head.vlan % pruning_unit ≤ 4094
  unfolding settings_rules
  vlan-few = leb-true (be_at 2 s in_head.vlan % pruning_unit) 4094 rules.1.1.1.1.1.1.0

  fan-in-few : be_at 1 s in_head.fan_in ≤ 8
  unfolding settings_rules
  fan-in-few = leb-true (be_at 1 s in_head.fan_in) 8 rules.1.1.1.1.1.1.1.0

pub settings-ports : (s : List ℕ) → length (to_settings s).ports ≡ ports_field s
unfolding to_settings
settings-ports s = length-parts port_size to_port (ports_field s) (drop in_table.ports s)

module _ (s : List ℕ) (o : Octets s) (h : port_place (ports_field s) ≤ length s) (r : all_true (settings_rules s) ≡ true) where
  ports-room : ports_field s * port_size ≤ length (drop in_table.ports s)
  ports-room = omega (arith, length-drop in_table.ports s)

  -- what follows the settings does not matter
  pub settings-taken : settings_octets (to_settings s) ≡ take (port_place (ports_field s)) s
  unfolding settings_octets to_settings
  settings-taken =
      let f =
      every-forth port_size port_rule to_port port_octets port-forth (ports_field s) (drop in_table.ports s) ports-room (octets-drop in_table.ports s o) (port-rules s r) in
      rw (f, head-forth s (omega arith) o) (sym (take-add in_table.ports (ports_field s * port_size) s))

  pub settings-valid : ValidSettings (to_settings s)
  unfolding to_settings
  settings-valid =
      let w = be_at 3 s in_head.word in
      record {
        bridge_id = be_at-fits 8 s 0 (octets-at s o);
        priority_a = omega arith;
        priority_b = omega arith;
        different = different s r;
        leaves = leaves s r;
        leave_time = omega arith;
        some-vlan = some-vlan s r;
        vlan = vlan-few s r;
        fan_in = fan-in-few s r;
        some-port = omega (arith, settings-ports s, some-ports s r);
        eight_ports = omega (arith, settings-ports s, eight_ports s r);
        ports = every-read port_size port_rule to_port ValidPort port-valid (ports_field s) (drop in_table.ports s) ports-room (octets-drop in_table.ports s o) (port-rules s r);
      }

-- the settings of a table have room for eight ports
pub settings-room : (s : List ℕ) → length s ≡ settings_size → all_true (settings_rules s) ≡ true → port_place (ports_field s) ≤ length s
settings-room s l r = omega (arith, eight_ports s r)

-- Settings as they are handed to start: as long as their head and their ports.

module _ (s : List ℕ) (f : settings_formed s ≡ true) where
  pub formed-length : length s ≡ port_place (ports_field s)
  unfolding settings_formed
  formed-length = eqb-true (length s) (port_place (ports_field s)) (and_left (eqb (length s) (port_place (ports_field s))) (all_true (settings_rules s)) f)

  pub formed-rules : all_true (settings_rules s) ≡ true
  unfolding settings_formed
  formed-rules = and_right (eqb (length s) (port_place (ports_field s))) (all_true (settings_rules s)) f

module _ (s : List ℕ) (o : Octets s) (f : settings_formed s ≡ true) where
  pub settings-forth : settings_octets (to_settings s) ≡ s
  settings-forth =
      let l = formed-length s f in
      settings-taken s o (omega arith) (formed-rules s f) ∙ take_all (port_place (ports_field s)) s (omega arith)

  pub formed-valid : ValidSettings (to_settings s)
  formed-valid =
      let l = formed-length s f in
      settings-valid s o (omega arith) (formed-rules s f)

pub octets-settings : (st : Settings) → Octets (settings_octets st)
unfolding settings_octets port_octets
octets-settings st =
    octets-append (head st) (flat port_octets st.ports) (octets-packed head_widths (head_numbers st))
    (octets-flat port_octets (λ q. octets-packed port_widths (port_numbers q)) st.ports)
