-- What `heard` and `joined` do to a cell's octets, a Listener's and a Talker's join do to the cell.
use mathlib.Core.Path.{◌≡◌, refl, sym, ap, ◌∙◌}
use mathlib.Core.List.{List, [], ◌∷◌}
use mathlib.Core.Bool.{Bool, true, false, cond, ◌&&◌, false≢true}
use Prim.Native.Nat.{ℕ, ◌+◌, ◌*◌, ◌/◌, ◌%◌, ◌^◌, ◌≤◌, ◌<◌}
use native.Mathlib.Omega.{arith}
use lib.ListN.{length, get_or, set, drop, length-set}
use lib.Dec.{eqb}
use borrow.Author.Tests.{eq-eqb, ne_eqb, eqb-true}
use Rattle.octets.specs.Be.{be_at, be}
use Rattle.octets.specs.Parts.{part, patch, zeros}
use Rattle.octets.specs.Pick.{pick}
use Rattle.octets.specs.Fields.{fields, packed, Fit, width}
use Rattle.octets.proofs.Parts.{length-patch}
use Rattle.octets.proofs.Fields.{fit_at, be-be_at, packed-fields, be_at-fits, be_at-one, be_at-add, get-field, get-octet, put-field, put-run, clear-run}
use Rattle.model.specs.FrameLayout.{advertise_length, in_first_value, talker_widths}
use Rattle.model.specs.Layout.{cell_index, cell_fields, cell_widths, in_cell, leaving_size}
use Rattle.model.specs.State.{stays, Fixed, TalkerType, talker_advertise, talker_failed, Varying, Registration, Talker, no_talker, talker, Listener, no_listener, listener, no_fixed}
use Rattle.model.specs.Registrations.{same_fixed, first_join, same_join, other_join, join_talker, does, listen}
use Rattle.model.specs.Frames.{registers, first_widths, first_length, priority_of, rank_of, fixed_value, talker_type_value}
use Rattle.model.specs.WrittenFrames.{priority_octet, fixed_numbers, to_ready}
use Rattle.model.specs.Table.{leaving_number, since_number, talker_type_number, bridge_number, code_number, talker_numbers, listener_numbers, cell_numbers, cell_octets, to_cell}
use Rattle.model.specs.Laid.{FitCell, LaidCell}
use Rattle.model.specs.Lists.{bit}
use Rattle.model.proofs.Cells.{ready-forth}
use Rattle.model.specs.Attributes.{talker_kind_of}
use Rattle.model.specs.declared.attribute.TalkerAttribute.{TalkerAttribute}
use Rattle.model.specs.declared.attribute.TalkerAttribute.TheVariants as attribute
use Rattle.cells.specs.Acts.{talk_of}
use Rattle.cells.specs.Steps.{heard, marked, failing, varied, fixed, same, joined}
use Rattle.cells.proofs.Leaving.{laid, both, talker-kind}

-- The steps on numbers in the fields of a cell.

module _ (vs : List ℕ) (size : length vs ≡ cell_fields) where
  heard-numbers : (four : ℕ) → heard four (packed cell_widths vs) ≡ packed cell_widths (patch cell_index.listener_leaves 2 (zeros 2) (set vs cell_index.listener four))
  unfolding heard width part
  heard-numbers four =
      rw (put-field cell_widths vs cell_index.listener four size) (clear-run cell_widths (set vs cell_index.listener four) cell_index.listener_leaves 2 (simp length-set size) (omega arith))

  marked-numbers : marked (packed cell_widths vs) ≡ packed cell_widths (patch cell_index.talker_leaves 2 (zeros 2) (set vs cell_index.changed 1))
  unfolding marked width part
  marked-numbers = rw (put-field cell_widths vs cell_index.changed 1 size) (clear-run cell_widths (set vs cell_index.changed 1) cell_index.talker_leaves 2 (simp length-set size) (omega arith))

  failing-numbers : (first : List ℕ) → failing attribute.Failed first (packed cell_widths vs) ≡ packed cell_widths (set (set vs cell_index.bridge (be_at 8 first in_first_value.bridge)) cell_index.code (get_or first in_first_value.code 0))
  unfolding failing width pick
  failing-numbers first =
      rw (put-field cell_widths vs cell_index.bridge (be_at 8 first in_first_value.bridge) size)
      (put-field cell_widths (set vs cell_index.bridge (be_at 8 first in_first_value.bridge)) cell_index.code (get_or first in_first_value.code 0) (simp length-set size))

  advertise-numbers : (first : List ℕ) → failing attribute.Advertise first (packed cell_widths vs) ≡ packed cell_widths (patch cell_index.bridge 2 (zeros 2) vs)
  unfolding failing width part pick
  advertise-numbers first = clear-run cell_widths vs cell_index.bridge 2 size (omega arith)

  -- before a failure is written
  varied-numbers : (kind latency : ℕ) → patch in_cell.latency 4 (be 4 latency) (patch in_cell.changed (1 + leaving_size) (zeros (1 + leaving_size)) (patch 0 1 (be 1 kind) (packed cell_widths vs)))
      ≡ packed cell_widths (set (patch cell_index.changed 3 (zeros 3) (set vs 0 kind)) cell_index.latency latency)
  unfolding width part
  varied-numbers kind latency =
      let one : length (set vs 0 kind) ≡ cell_fields = simp length-set size in
      let two : length (patch cell_index.changed 3 (zeros 3) (set vs 0 kind)) ≡ cell_fields = length-patch cell_index.changed 3 (zeros 3) (set vs 0 kind) refl (omega arith) ∙ one in
      rw (put-field cell_widths vs 0 kind size, clear-run cell_widths (set vs 0 kind) cell_index.changed 3 one (omega arith))
      (put-field cell_widths (patch cell_index.changed 3 (zeros 3) (set vs 0 kind)) cell_index.latency latency two)

  varied-size : (kind latency : ℕ) → length (set (patch cell_index.changed 3 (zeros 3) (set vs 0 kind)) cell_index.latency latency) ≡ cell_fields
  varied-size kind latency =
      let one : length (set vs 0 kind) ≡ cell_fields = simp length-set size in
      simp length-set (length-patch cell_index.changed 3 (zeros 3) (set vs 0 kind) refl (omega arith) ∙ one)

  -- VLAN, MaxFrameSize and MaxIntervalFrames as one number
  fixed-numbers : (first : List ℕ) (n : ℕ) → advertise_length ≤ length first → ((i : ℕ) → get_or first i 0 < 256)
      → fixed first n (packed cell_widths vs)
      ≡ packed cell_widths
      (set (set (patch cell_index.vlan 3 (fields (2 ∷ 2 ∷ 2 ∷ []) in_first_value.vlan first) (set vs cell_index.fixed (be_at 6 first in_first_value.destination + n))) cell_index.priority (get_or first in_first_value.priority 0 / 16 * 16)) cell_index.first_latency (be_at 4 first in_first_value.latency))
  unfolding fixed width part
  fixed-numbers first n l o =
      let ws : List ℕ = 2 ∷ 2 ∷ 2 ∷ [] in
      let there : List ℕ = set vs cell_index.fixed (be_at 6 first in_first_value.destination + n) in
      let one : length there ≡ cell_fields = simp length-set size in
      let spec : length (fields ws in_first_value.vlan first) ≡ 3 = unfold fields in refl in
      let two : length (patch cell_index.vlan 3 (fields ws in_first_value.vlan first) there) ≡ cell_fields = length-patch cell_index.vlan 3 (fields ws in_first_value.vlan first) there spec (omega arith) ∙ one in
      let octets : be 6 (be_at 6 first in_first_value.vlan) ≡ packed ws (fields ws in_first_value.vlan first) =
      be-be_at 6 first in_first_value.vlan (omega arith) o ∙ sym (packed-fields ws in_first_value.vlan first (omega arith) o) in
      let three : List ℕ = set (patch cell_index.vlan 3 (fields ws in_first_value.vlan first) there) cell_index.priority (get_or first in_first_value.priority 0 / 16 * 16) in
      rw (
        put-field cell_widths vs cell_index.fixed (be_at 6 first in_first_value.destination + n) size,
        octets,
        put-run cell_widths there cell_index.vlan 3 one (omega arith) (fields ws in_first_value.vlan first) spec,
        put-field cell_widths (patch cell_index.vlan 3 (fields ws in_first_value.vlan first) there) cell_index.priority (get_or first in_first_value.priority 0 / 16 * 16) two,
      )
      (put-field cell_widths three cell_index.first_latency (be_at 4 first in_first_value.latency) (simp length-set two))

-- The numbers of a cell; what is held, whose numbers behind the kind are zero without a Talker.

cell-size : (t : Talker) (h : Listener) → length (cell_numbers (both t h)) ≡ cell_fields
unfolding cell_numbers talker_numbers listener_numbers fixed_numbers
cell-size no_talker no_listener = refl
cell-size no_talker (listener r l) = refl
cell-size (talker k) no_listener = refl
cell-size (talker k) (listener r l) = refl

held : Talker → Registration
held no_talker = first_join no_fixed record { type = talker_advertise; latency = 0 }
held (talker r) = r

-- A Listener's join.

listener-joined : (four : ℕ) → 1 ≤ four → four ≤ 3 → (t : Talker) (h : Listener)
    → patch cell_index.listener_leaves 2 (zeros 2) (set (cell_numbers (both t h)) cell_index.listener four) ≡ cell_numbers (both t (listener (to_ready four) stays))
unfolding cell_numbers talker_numbers listener_numbers fixed_numbers leaving_number since_number patch
listener-joined four low high no_talker no_listener = rw (ready-forth four low high)
listener-joined four low high no_talker (listener r l) = rw (ready-forth four low high)
listener-joined four low high (talker k) no_listener = rw (ready-forth four low high)
listener-joined four low high (talker k) (listener r l) = rw (ready-forth four low high)

pub listens : (four : ℕ) → 1 ≤ four → four ≤ 3 → (clock id : ℕ) (s : List ℕ) → LaidCell s
    → heard four s ≡ cell_octets (does clock (listen id (to_ready four)) (to_cell s))
unfolding does cell_octets
listens four low high clock id =
    laid (λ s c. heard four s ≡ cell_octets (both c.talks (listener (to_ready four) stays)))
    (λ c fit. heard-numbers (cell_numbers c) (cell-size c.talks c.hears) four ∙ ap (packed cell_widths) (listener-joined four low high c.talks c.hears))

-- A Talker's: the held one is marked.

marks : (r : Registration) (h : Listener) → marked (cell_octets (both (talker r) h)) ≡ cell_octets (both (talker (other_join r)) h)
unfolding other_join cell_octets cell_numbers talker_numbers leaving_number since_number bit patch
marks r h = marked-numbers (cell_numbers (both (talker r) h)) (cell-size (talker r) h)

-- Or it takes what may vary.

-- the numbers before a failure is written
module _ (t : Talker) (h : Listener) (kind latency : ℕ) where
  begins : List ℕ
  begins = set (patch cell_index.changed 3 (zeros 3) (set (cell_numbers (both t h)) 0 kind)) cell_index.latency latency

advertise-again : (t : Talker) (h : Listener) (latency : ℕ)
    → patch cell_index.bridge 2 (zeros 2) (begins t h 1 latency) ≡ cell_numbers (both (talker (same_join record { type = talker_advertise; latency = latency } (held t))) h)
unfolding begins first_join same_join held cell_numbers talker_numbers fixed_numbers priority_octet no_fixed leaving_number since_number talker_type_number bridge_number code_number bit patch
advertise-again no_talker h latency = refl
advertise-again (talker r) h latency = refl

failed-again : (t : Talker) (h : Listener) (latency bridge code : ℕ)
    → set (set (begins t h 2 latency) cell_index.bridge bridge) cell_index.code code
    ≡ cell_numbers (both (talker (same_join record { type = talker_failed bridge code; latency = latency } (held t))) h)
unfolding begins first_join same_join held cell_numbers talker_numbers fixed_numbers priority_octet no_fixed leaving_number since_number talker_type_number bridge_number code_number bit patch
failed-again no_talker h latency bridge code = refl
failed-again (talker r) h latency bridge code = refl

-- FirstValue's numbers, and what varies in them
first_numbers : TalkerAttribute → List ℕ → List ℕ
first_numbers a first = fields (first_widths (registers (talker_kind_of a))) 0 first

varying : TalkerAttribute → List ℕ → Varying
varying a first = record { type = talker_type_value (talker_kind_of a) (first_numbers a first); latency = get_or (first_numbers a first) 6 0 }

varies : (a : TalkerAttribute) (first : List ℕ) (t : Talker) (h : Listener)
    → varied a first (cell_octets (both t h)) ≡ cell_octets (both (talker (same_join (varying a first) (held t))) h)
unfolding cell_octets varied varying first_numbers first_widths fields talker_type_value begins
varies attribute.Advertise first t h =
    let vs = cell_numbers (both t h) in
    let z = cell-size t h in
    let n = be_at 4 first in_first_value.latency in
    ap (failing attribute.Advertise first) (varied-numbers vs z 1 n)
    ∙ advertise-numbers (begins t h 1 n) (varied-size vs z 1 n) first
    ∙ ap (packed cell_widths) (advertise-again t h n)
varies attribute.Failed first t h =
    let vs = cell_numbers (both t h) in
    let z = cell-size t h in
    let n = be_at 4 first in_first_value.latency in
    ap (failing attribute.Failed first) (varied-numbers vs z 2 n)
    ∙ failing-numbers (begins t h 2 n) (varied-size vs z 2 n) first
    ∙ ap (packed cell_widths) (failed-again t h n (be_at 8 first in_first_value.bridge) (get_or first in_first_value.code 0) ∙ rw (be_at-one first in_first_value.code))

-- Where nothing is held, what is fixed is taken too.

module _ (first : List ℕ) (long : advertise_length ≤ length first) (octets : (i : ℕ) → get_or first i 0 < 256) (n : ℕ) where
  -- FirstValue's first seven fields, and any behind them
  talker_numbers_of : List ℕ → List ℕ
  talker_numbers_of more = fields (talker_widths more) 0 first

  takes : (more : List ℕ) (v : Varying) (h : Listener) → be_at 4 first in_first_value.latency ≡ v.latency
      → fixed first n (cell_octets (both (talker (same_join v (held no_talker))) h)) ≡ cell_octets (both (talker (first_join (fixed_value (talker_numbers_of more) n) v)) h)
  unfolding first_join same_join held cell_octets cell_numbers talker_numbers fixed_numbers fixed_value talker_numbers_of fields priority_octet priority_of rank_of patch
  takes more v h e =
      let o : get_or first in_first_value.priority 0 / 16 * 16 ≡ be_at 1 first in_first_value.priority / 32 * 32 + be_at 1 first in_first_value.priority / 16 % 2 * 16 = omega (arith, be_at-one first in_first_value.priority) in
      fixed-numbers (cell_numbers (both (talker (same_join v (held no_talker))) h)) (cell-size (talker (same_join v (held no_talker))) h) first n long octets ∙ rw (o, e)

-- Whether what is fixed is the same: as three numbers of octets, and field by field.

-- two tests that hold together
alike : (a b : Bool) → (a ≡ true → b ≡ true) → (b ≡ true → a ≡ true) → a ≡ b
alike true b p q = sym (p refl)
alike false true p q = q refl
alike false false p q = refl

-- three tests, one after another
three-all : (a b c : Bool) → pick a (pick b c false) false ≡ true → (a ≡ true) × (b ≡ true) × (c ≡ true)
unfolding pick
three-all true true c e = (refl, refl, e)
three-all true false c e = absurd (false≢true e)
three-all false b c e = absurd (false≢true e)

all_three : (a b c : Bool) → a ≡ true → b ≡ true → c ≡ true → pick a (pick b c false) false ≡ true
unfolding pick
all_three a b c p q r = rw (p, q) r

six : (a b c d e f : Bool) → (a && b && c && d && e && f) ≡ true
    → (a ≡ true) × (b ≡ true) × (c ≡ true) × (d ≡ true) × (e ≡ true) × (f ≡ true)
six true true true true true f h = (refl, refl, refl, refl, refl, h)
six true true true true false f h = absurd (false≢true h)
six true true true false e f h = absurd (false≢true h)
six true true false d e f h = absurd (false≢true h)
six true false c d e f h = absurd (false≢true h)
six false b c d e f h = absurd (false≢true h)

module _ (f g : Fixed) where
  same-each : same_fixed f g ≡ true
      → (f.destination ≡ g.destination) × (f.vlan ≡ g.vlan) × (f.size ≡ g.size) × (f.frames ≡ g.frames)
      × (f.priority ≡ g.priority) × (f.rank ≡ g.rank)
  unfolding same_fixed
  same-each e =
      let (d, v, z, n, p, r) =
      six (eqb f.destination g.destination) (eqb f.vlan g.vlan) (eqb f.size g.size) (eqb f.frames g.frames)
      (eqb f.priority g.priority) (eqb f.rank g.rank) e in (
        eqb-true f.destination g.destination d,
        eqb-true f.vlan g.vlan v,
        eqb-true f.size g.size z,
        eqb-true f.frames g.frames n,
        eqb-true f.priority g.priority p,
        eqb-true f.rank g.rank r,
      )

  each_same : (f.destination ≡ g.destination) → (f.vlan ≡ g.vlan) → (f.size ≡ g.size) → (f.frames ≡ g.frames)
      → (f.priority ≡ g.priority) → (f.rank ≡ g.rank) → same_fixed f g ≡ true
  unfolding same_fixed
  each_same d v z n p r =
      rw (
        eq-eqb f.destination g.destination d,
        eq-eqb f.vlan g.vlan v,
        eq-eqb f.size g.size z,
        eq-eqb f.frames g.frames n,
        eq-eqb f.priority g.priority p,
        eq-eqb f.rank g.rank r,
      )

-- fixed values, and the octets of a cell that has them
record Has (s : List ℕ) (g : Fixed) : Type 0 where
  destination : be_at 6 s in_cell.fixed ≡ g.destination
  between : be_at 6 s in_cell.vlan ≡ (g.vlan * 65536 + g.size) * 65536 + g.frames
  priority : get_or s in_cell.priority 0 ≡ g.priority * 32 + g.rank * 16
  vlan : g.vlan < 65536
  size : g.size < 65536
  frames : g.frames < 65536
  rank : g.rank < 2

-- three numbers of two octets as one
three-pairs : (s : List ℕ) (at : ℕ) → be_at 6 s at ≡ (be_at 2 s at * 65536 + be_at 2 s (at + 2)) * 65536 + be_at 2 s (at + 2 + 2)
three-pairs s at = omega (arith, be_at-add 2 4 s at, be_at-add 2 2 s (at + 2))

numbers-have : (vs : List ℕ) → Fit cell_widths vs → (g : Fixed) → get_or vs cell_index.fixed 0 ≡ g.destination → get_or vs cell_index.vlan 0 ≡ g.vlan → get_or vs (cell_index.vlan + 1) 0 ≡ g.size
    → get_or vs (cell_index.vlan + 2) 0 ≡ g.frames → get_or vs cell_index.priority 0 ≡ g.priority * 32 + g.rank * 16 → g.rank < 2 → Has (packed cell_widths vs) g
unfolding width
numbers-have vs fit g d v z n p r =
    let s = packed cell_widths vs in
    let get = get-field cell_widths vs fit in
    let a : be_at 2 s in_cell.vlan ≡ get_or vs cell_index.vlan 0 = get cell_index.vlan in
    let b : be_at 2 s (in_cell.vlan + 2) ≡ get_or vs (cell_index.vlan + 1) 0 = get (cell_index.vlan + 1) in
    let c : be_at 2 s (in_cell.vlan + 4) ≡ get_or vs (cell_index.vlan + 2) 0 = get (cell_index.vlan + 2) in
    record {
      destination = get cell_index.fixed ∙ d;
      between = omega (arith, three-pairs s in_cell.vlan);
      priority = get-octet cell_widths vs fit cell_index.priority refl ∙ p;
      vlan = omega (arith, fit_at cell_widths vs fit cell_index.vlan);
      size = omega (arith, fit_at cell_widths vs fit (cell_index.vlan + 1));
      frames = omega (arith, fit_at cell_widths vs fit (cell_index.vlan + 2));
      rank = r;
    }

has : (t : Talker) (h : Listener) → FitCell (both t h) → Has (cell_octets (both t h)) (held t).fixed
unfolding cell_octets cell_numbers talker_numbers fixed_numbers priority_octet held first_join no_fixed
has no_talker h fit = numbers-have (cell_numbers (both no_talker h)) fit.numbers no_fixed refl refl refl refl refl (omega arith)
has (talker r) h fit = numbers-have (cell_numbers (both (talker r) h)) fit.numbers r.fixed refl refl refl refl refl fit.rank

module _ (first : List ℕ) (octets : (i : ℕ) → get_or first i 0 < 256) (n : ℕ) (more : List ℕ) where
  new : Fixed
  new = fixed_value (fields (talker_widths more) 0 first) n

  same-fixed : (s : List ℕ) (g : Fixed) → Has s g → same first n s ≡ same_fixed new g
  unfolding same new fixed_value fields priority_of rank_of
  same-fixed s g w = alike (same first n s) (same_fixed new g) forth back
    where
      small : (at : ℕ) → be_at 2 first at < 256 ^ 2
      small at = be_at-fits 2 first at octets

      forth : same first n s ≡ true → same_fixed new g ≡ true
      forth e =
          let (a, b, c) = three-all (eqb (be_at 6 s in_cell.fixed) (be_at 6 first in_first_value.destination + n)) (eqb (be_at 6 s in_cell.vlan) (be_at 6 first in_first_value.vlan)) (eqb (get_or s in_cell.priority 0 / 16) (get_or first in_first_value.priority 0 / 16)) e in
          let d = eqb-true (be_at 6 s in_cell.fixed) (be_at 6 first in_first_value.destination + n) a in
          let v = eqb-true (be_at 6 s in_cell.vlan) (be_at 6 first in_first_value.vlan) b in
          let p = eqb-true (get_or s in_cell.priority 0 / 16) (get_or first in_first_value.priority 0 / 16) c in
          let pairs = three-pairs first in_first_value.vlan in
          let x = small in_first_value.vlan in
          let y = small (in_first_value.vlan + 2) in
          let z = small (in_first_value.vlan + 4) in
          let o = be_at-one first in_first_value.priority in
          each_same new g (omega arith) (omega arith) (omega arith) (omega arith) (omega arith) (omega arith)

      back : same_fixed new g ≡ true → same first n s ≡ true
      back e =
          let (d, v, z, m, p, r) = same-each new g e in
          let a : be_at 6 s in_cell.fixed ≡ be_at 6 first in_first_value.destination + n = omega arith in
          let b : be_at 6 s in_cell.vlan ≡ be_at 6 first in_first_value.vlan = omega (arith, three-pairs first in_first_value.vlan) in
          let c : get_or s in_cell.priority 0 / 16 ≡ get_or first in_first_value.priority 0 / 16 = omega (arith, be_at-one first in_first_value.priority) in
          all_three (eqb (be_at 6 s in_cell.fixed) (be_at 6 first in_first_value.destination + n)) (eqb (be_at 6 s in_cell.vlan) (be_at 6 first in_first_value.vlan)) (eqb (get_or s in_cell.priority 0 / 16) (get_or first in_first_value.priority 0 / 16))
          (eq-eqb (be_at 6 s in_cell.fixed) (be_at 6 first in_first_value.destination + n) a) (eq-eqb (be_at 6 s in_cell.vlan) (be_at 6 first in_first_value.vlan) b)
          (eq-eqb (get_or s in_cell.priority 0 / 16) (get_or first in_first_value.priority 0 / 16) c)

-- A Talker's join, of an AttributeType.

first-widths : (a : TalkerAttribute)
    → first_widths (registers (talker_kind_of a)) ≡ talker_widths (drop 7 (first_widths (registers (talker_kind_of a))))
unfolding first_widths
first-widths attribute.Advertise = refl
first-widths attribute.Failed = refl

-- the octets of a FirstValue: 25 at least
pub first_long : (a : TalkerAttribute) → advertise_length ≤ first_length (registers (talker_kind_of a))
unfolding first_length
first_long attribute.Advertise = omega arith
first_long attribute.Failed = omega arith

-- a held Talker's kind is not 0
some-kind : (h : TalkerType) → eqb (talker_type_number h) 0 ≡ false
unfolding talker_type_number
some-kind talker_advertise = refl
some-kind (talker_failed b c) = refl

module _ (a : TalkerAttribute) (first : List ℕ) (long : advertise_length ≤ length first) (octets : (i : ℕ) → get_or first i 0 < 256) (n : ℕ) where
  more : List ℕ
  more = drop 7 (first_widths (registers (talker_kind_of a)))

  joining : Fixed
  joining = fixed_value (first_numbers a first) n

  takes-fixed : (v : Varying) (h : Listener) → be_at 4 first in_first_value.latency ≡ v.latency
      → fixed first n (cell_octets (both (talker (same_join v (held no_talker))) h)) ≡ cell_octets (both (talker (first_join joining v)) h)
  unfolding joining first_numbers talker_numbers_of more
  takes-fixed v h e = rw (first-widths a) (takes first long octets n more v h e)

  latency-read : be_at 4 first in_first_value.latency ≡ (varying a first).latency
  unfolding varying first_numbers fields
  latency-read = rw (first-widths a)

  is_same : (t : Talker) (h : Listener) → FitCell (both t h) → same first n (cell_octets (both t h)) ≡ same_fixed joining (held t).fixed
  unfolding joining first_numbers new more
  is_same t h fit = rw (first-widths a) (same-fixed first octets n more (cell_octets (both t h)) (held t).fixed (has t h fit))

  joins-to : (t : Talker) (h : Listener) → FitCell (both t h)
      → joined a first n (cell_octets (both t h)) ≡ cell_octets (both (join_talker joining (varying a first) t) h)
  unfolding joined join_talker held cell_numbers talker_numbers pick
  joins-to no_talker h fit =
      rw (talker-kind (both no_talker h) fit, varies a first no_talker h)
      (takes-fixed (varying a first) h latency-read)
  joins-to (talker r) h fit =
      rw (talker-kind (both (talker r) h) fit, some-kind r.varying.type, is_same (talker r) h fit, varies a first (talker r) h, marks r h)
      (go (same_fixed joining r.fixed))
    where
      go : (t : Bool) → pick t (cell_octets (both (talker (same_join (varying a first) r)) h)) (cell_octets (both (talker (other_join r)) h))
          ≡ cell_octets (both (talker (cond t (same_join (varying a first) r) (other_join r))) h)
      go true = refl
      go false = refl

  pub joins : (clock : ℕ) (s : List ℕ) → LaidCell s → joined a first n s ≡ cell_octets (does clock (talk_of (talker_kind_of a) first n) (to_cell s))
  unfolding does talk_of joining varying first_numbers
  joins clock =
      laid (λ s c. joined a first n s ≡ cell_octets (both (join_talker joining (varying a first) c.talks) c.hears))
      (λ c. joins-to c.talks c.hears)

-- the three ways of a Talker's join
module _ (a : TalkerAttribute) (first : List ℕ) (n : ℕ) (s : List ℕ) where
  pub joined-new : get_or s 0 0 ≡ 0 → fixed first n (varied a first s) ≡ joined a first n s
  unfolding joined pick
  joined-new p = rw (eq-eqb (get_or s 0 0) 0 p)

  module _ (p : get_or s 0 0 ≡ 0 → ⊥) where
    pub joined_same : same first n s ≡ true → varied a first s ≡ joined a first n s
    unfolding joined pick
    joined_same q = rw (ne_eqb (get_or s 0 0) 0 p, q)

    pub joined-changed : same first n s ≡ false → marked s ≡ joined a first n s
    unfolding joined pick
    joined-changed q = rw (ne_eqb (get_or s 0 0) 0 p, q)

-- for the search at `join_talker`
pub ruleset joining_ways = (joined-new, joined_same, joined-changed, joins, first_long)
