-- A cell in its 43 octets: it is read back as it was written, well-formed octets are written back as they were read, and they
-- are well-formed exactly when the cell is valid.
use mathlib.Core.Path.{◌≡◌, refl, sym, ap, ◌∙◌}
use mathlib.Core.List.{List, [], ◌∷◌, ◌++◌}
use mathlib.Core.Bool.{Bool, true, false, cond, not, ◌||◌, or_assoc, false≢true}
use Prim.Native.Nat.{ℕ, zero, suc, ◌+◌, ◌-◌, ◌*◌, ◌%◌, ◌^◌, ◌≤◌, ◌<◌}
use native.Mathlib.Omega.{arith}
use lib.ListN.{length, get_or, take, drop, length-append}
use lib.Seq.{get_or-take, get_or-append_seam, get_or-append-add}
use lib.Dec.{eqb, leb, ltb}
use borrow.Author.Tests.{eqb-true, leb-true, ltb-true, eq-eqb, ne_eqb, le-leb, lt-ltb}
use Rattle.octets.specs.Be.{be_at}
use Rattle.octets.specs.Parts.{zeros}
use Rattle.octets.specs.Fields.{fields, Fit, width}
use Rattle.octets.proofs.Fields.{length-packed-any, fields-of-packed, fields_fit, fit_at, fit_append, fit-zeros, packed-zeros}
use Rattle.model.specs.Layout.{cell_fields, cell_index, cell_size, cell_widths, fixed_widths, in_cell}
use Rattle.model.specs.Lists.{All, all_true, implies, tabulate, parts, Octets, bit, is_one, all_zero}
use Rattle.model.specs.State.{Leaving, stays, since, Fixed, TalkerType, talker_advertise, talker_failed, Registration, Talker, no_talker, talker, Ready, asking_failed, ready, ready_failed, Listener, no_listener, listener, Cell, empty, ready_number}
use Rattle.model.specs.Frames.{priority_of, rank_of}
use Rattle.model.specs.WrittenFrames.{priority_octet, fixed_numbers, fixed_from, to_ready}
use Rattle.model.specs.Settling.{is_talking, is_hearing, held}
use Rattle.model.specs.Table.{leaving_number, since_number, to_leaving, talker_type_number, bridge_number, code_number, to_talker_type, talker_numbers, listener_numbers, cell_numbers, registration_from, talker_from, listener_from, cell_from, cell_octets, to_cell, between, leaving_rule, cell_rules, cell_formed, holds}
use Rattle.model.proofs.Lists.{all-each, and_left, and_right, and_both, implied, all_true_lem, true-all}
use Rattle.model.proofs.Valid.{ValidLeaving, ValidFixed, ValidTalkerType, ValidTalker, ValidListener, ValidCell}
use Rattle.model.proofs.Parts.{◌also◌, octets-at, octets-packed, zero-run, two-zero, packed-whole, Sized}

-- Fixed values: five numbers, the last of them priority and rank.

pub priority-back : (f : Fixed) → ValidFixed f → priority_of (priority_octet f) ≡ f.priority
unfolding priority_of priority_octet
priority-back f v = omega (arith, v.priority, v.rank)

pub rank-back : (f : Fixed) → ValidFixed f → rank_of (priority_octet f) ≡ f.rank
unfolding rank_of priority_octet
rank-back f v = omega (arith, v.priority, v.rank)

-- four of its bits are zero
pub priority-forth : (o : ℕ) → o % 16 ≡ 0 → priority_of o * 32 + rank_of o * 16 ≡ o
unfolding priority_of rank_of
priority-forth o h = omega arith

pub priority-spare : (f : Fixed) → priority_octet f % 16 ≡ 0
unfolding priority_octet
priority-spare f = omega arith

pub fixed_back : (f : Fixed) → ValidFixed f → (before after : List ℕ) → fixed_from (length before) (before ++ (fixed_numbers f ++ after)) ≡ f
unfolding fixed_from fixed_numbers
fixed_back f v before after =
    rw (
      get_or-append_seam before f.destination (f.vlan ∷ f.size ∷ f.frames ∷ priority_octet f ∷ after) 0,
      get_or-append-add before (fixed_numbers f ++ after) 1 0,
      get_or-append-add before (fixed_numbers f ++ after) 2 0,
      get_or-append-add before (fixed_numbers f ++ after) 3 0,
      get_or-append-add before (fixed_numbers f ++ after) 4 0,
      priority-back f v,
      rank-back f v,
    )

pub fixed-forth : (i : ℕ) (vs : List ℕ) → get_or vs (i + 4) 0 % 16 ≡ 0
    → fixed_numbers (fixed_from i vs) ≡ get_or vs i 0 ∷ get_or vs (i + 1) 0 ∷ get_or vs (i + 2) 0 ∷ get_or vs (i + 3) 0 ∷ get_or vs (i + 4) 0 ∷ []
unfolding fixed_from fixed_numbers priority_octet
fixed-forth i vs h = rw (priority-forth (get_or vs (i + 4) 0) h)

-- the widths of their fields
pub fixed-fit : (f : Fixed) → ValidFixed f → Fit fixed_widths (fixed_numbers f)
unfolding Fit fixed_numbers priority_octet
fixed-fit f v = v.destination also v.vlan also v.size also v.frames also omega (arith, v.priority, v.rank) also tt

pub fixed-valid : (i : ℕ) (vs : List ℕ) → get_or vs i 0 < 256 ^ 6 → get_or vs (i + 1) 0 < 256 ^ 2 → get_or vs (i + 2) 0 < 256 ^ 2
    → get_or vs (i + 3) 0 < 256 ^ 2 → get_or vs (i + 4) 0 < 256 ^ 1 → ValidFixed (fixed_from i vs)
unfolding fixed_from priority_of rank_of
fixed-valid i vs d v z n o = record {
  destination = d;
  vlan = v;
  size = z;
  frames = n;
  priority = omega arith;
  rank = omega arith;
}

-- Leaving: whether, and since when.

pub leaving-back : (l : Leaving) → to_leaving (leaving_number l) (since_number l) ≡ l
unfolding to_leaving leaving_number since_number
leaving-back stays = refl
leaving-back (since t) = refl

pub leaving-few : (l : Leaving) → leaving_number l < 256
unfolding leaving_number
leaving-few stays = omega arith
leaving-few (since t) = omega arith

pub since-within : (clock leave : ℕ) (l : Leaving) → ValidLeaving clock leave l → clock < 2 ^ 32 → since_number l < 2 ^ 32
unfolding since_number
since-within clock leave stays v h = omega arith
since-within clock leave (since t) v h = omega (arith, v.0)

pub leaving-formed : (clock leave : ℕ) (l : Leaving) → ValidLeaving clock leave l → leaving_rule clock leave (leaving_number l) (since_number l) ≡ true
unfolding leaving_rule leaving_number since_number
leaving-formed clock leave stays v = refl
leaving-formed clock leave (since t) v = and_both (leb t clock) (ltb clock (t + leave)) (le-leb t clock v.0) (lt-ltb clock (t + leave) v.1)

-- what the rule says of two numbers
pub record Left (clock leave k t : ℕ) : Type 0 where
  pub forth : (leaving_number (to_leaving k t) ≡ k) × (since_number (to_leaving k t) ≡ t)
  pub valid : ValidLeaving clock leave (to_leaving k t)

pub left : (clock leave k t : ℕ) → leaving_rule clock leave k t ≡ true → Left clock leave k t
unfolding leaving_rule to_leaving leaving_number since_number
left clock leave zero t h = record { forth = (refl, sym (eqb-true t 0 h)); valid = tt }
left clock leave (suc zero) t h = record {
  forth = (refl, refl);
  valid = (leb-true t clock (and_left (leb t clock) (ltb clock (t + leave)) h), ltb-true clock (t + leave) (and_right (leb t clock) (ltb clock (t + leave)) h));
}
left clock leave (suc (suc k)) t h =
    absurd (false≢true (rw (ne_eqb (suc (suc k)) 0 (λ e. omega arith), ne_eqb (suc (suc k)) 1 (λ e. omega arith)) at h))

-- Health: Advertise, or Failed with a Bridge ID and a code.

type-back : (h : TalkerType) → to_talker_type (talker_type_number h) (bridge_number h) (code_number h) ≡ h
unfolding to_talker_type talker_type_number bridge_number code_number
type-back talker_advertise = refl
type-back (talker_failed b c) = refl

type-forth : (k b c : ℕ) → 1 ≤ k → k ≤ 2 → (k ≡ 1 → (b ≡ 0) × (c ≡ 0))
    → (talker_type_number (to_talker_type k b c) ≡ k) × (bridge_number (to_talker_type k b c) ≡ b) × (code_number (to_talker_type k b c) ≡ c)
unfolding talker_type_number bridge_number code_number to_talker_type
type-forth zero b c l h z = absurd (omega arith)
type-forth (suc zero) b c l h z = (refl, sym (z refl).0, sym (z refl).1)
type-forth (suc (suc zero)) b c l h z = (refl, refl, refl)
type-forth (suc (suc (suc k))) b c l h z = absurd (omega arith)

type-valid : (k b c : ℕ) → b < 2 ^ 64 → c < 256 → ValidTalkerType (to_talker_type k b c)
unfolding to_talker_type
type-valid k b c p q = go (eqb k 1)
  where
    go : (t : Bool) → ValidTalkerType (cond t talker_advertise (talker_failed b c))
    go true = tt
    go false = (p, q)

-- One bit, and a Listener's kind.

pub bit-back : (m : Bool) → is_one (bit m) ≡ m
unfolding is_one bit
bit-back true = refl
bit-back false = refl

pub bit-forth : (k : ℕ) → k ≤ 1 → bit (is_one k) ≡ k
unfolding bit is_one
bit-forth zero h = refl
bit-forth (suc zero) h = refl
bit-forth (suc (suc k)) h = absurd (omega arith)

pub bit-few : (m : Bool) → bit m ≤ 1
unfolding bit
bit-few true = omega arith
bit-few false = omega arith

pub ready-back : (r : Ready) → to_ready (ready_number r) ≡ r
unfolding to_ready ready_number
ready-back asking_failed = refl
ready-back ready = refl
ready-back ready_failed = refl

pub ready-forth : (k : ℕ) → 1 ≤ k → k ≤ 3 → ready_number (to_ready k) ≡ k
unfolding ready_number to_ready
ready-forth zero l h = absurd (omega arith)
ready-forth (suc zero) l h = refl
ready-forth (suc (suc zero)) l h = refl
ready-forth (suc (suc (suc zero))) l h = refl
ready-forth (suc (suc (suc (suc k)))) l h = absurd (omega arith)

pub ready-number : (r : Ready) → (1 ≤ ready_number r) × (ready_number r ≤ 3)
unfolding ready_number
ready-number asking_failed = (omega arith, omega arith)
ready-number ready = (omega arith, omega arith)
ready-number ready_failed = (omega arith, omega arith)

-- A valid cell: its numbers fit, come back, and keep the rules.

talker_size : (t : Talker) → length (talker_numbers t) ≡ cell_index.listener
unfolding talker_numbers fixed_numbers
talker_size no_talker = refl
talker_size (talker r) = refl

listener-size : (h : Listener) → length (listener_numbers h) ≡ cell_fields - cell_index.listener
unfolding listener_numbers
listener-size no_listener = refl
listener-size (listener r l) = refl

type-rules : (h : TalkerType) → (leb (talker_type_number h) 2 ≡ true) × (eqb (talker_type_number h) 0 ≡ false)
    × (implies (eqb (talker_type_number h) 1) (all_zero (bridge_number h ∷ code_number h ∷ [])) ≡ true)
unfolding talker_type_number bridge_number code_number all_zero
type-rules talker_advertise = (refl, refl, refl)
type-rules (talker_failed b c) = (refl, refl, refl)

pub type-fit : (h : TalkerType) → ValidTalkerType h → (talker_type_number h < 256) × (bridge_number h < 256 ^ 8) × (code_number h < 256)
unfolding talker_type_number bridge_number code_number
type-fit talker_advertise v = (omega arith, omega arith, omega arith)
type-fit (talker_failed b c) v = (omega arith, v.0, v.1)

pub ready-rules : (r : Ready) → (leb (ready_number r) 3 ≡ true) × (eqb (ready_number r) 0 ≡ false)
unfolding ready_number
ready-rules asking_failed = (refl, refl)
ready-rules ready = (refl, refl)
ready-rules ready_failed = (refl, refl)

listener-back : (t : Talker) (h : Listener) → listener_from (talker_numbers t ++ listener_numbers h) ≡ h
unfolding listener_from talker_numbers listener_numbers fixed_numbers
listener-back no_talker no_listener = refl
listener-back no_talker (listener r l) = rw ((ready-rules r).1, ready-back r, leaving-back l)
listener-back (talker k) no_listener = refl
listener-back (talker k) (listener r l) = rw ((ready-rules r).1, ready-back r, leaving-back l)

module _ (clock leave : ℕ) where
  talker-fit : (t : Talker) → ValidTalker clock leave t → clock < 2 ^ 32 → Fit (take cell_index.listener cell_widths) (talker_numbers t)
  unfolding Fit talker_numbers
  talker-fit no_talker v h = fit-zeros (take cell_index.listener cell_widths)
  talker-fit (talker r) v h =
      let w = r.varying in
      let (k, b, c) = type-fit w.type v.varying.type in
      k
      also omega (arith, bit-few r.changed)
      also leaving-few r.leaving
      also since-within clock leave r.leaving v.leaving h
      also fit_append fixed_widths (fixed_numbers r.fixed) (between cell_index.latency cell_index.listener cell_widths)
      (w.latency ∷ bridge_number w.type ∷ code_number w.type ∷ r.first_latency ∷ [])
      (fixed-fit r.fixed v.fixed) (v.varying.latency also b also c also v.first_latency also tt)

  listener-fit : (h : Listener) → ValidListener clock leave h → clock < 2 ^ 32 → Fit (drop cell_index.listener cell_widths) (listener_numbers h)
  unfolding Fit listener_numbers
  listener-fit no_listener v h = fit-zeros (drop cell_index.listener cell_widths)
  listener-fit (listener r l) v h = omega (arith, (ready-number r).1) also leaving-few l also since-within clock leave l v h also tt

  pub cell-fit : (c : Cell) → ValidCell clock leave c → clock < 2 ^ 32 → Fit cell_widths (cell_numbers c)
  unfolding cell_numbers
  cell-fit c v h =
      fit_append (take cell_index.listener cell_widths) (talker_numbers c.talks) (drop cell_index.listener cell_widths) (listener_numbers c.hears)
      (talker-fit c.talks v.talks h) (listener-fit c.hears v.hears h)

  talker-back : (t : Talker) → ValidTalker clock leave t → (after : List ℕ) → talker_from (talker_numbers t ++ after) ≡ t
  unfolding talker_from registration_from talker_numbers fixed_numbers
  talker-back no_talker v after = refl
  talker-back (talker r) v after =
      let w = r.varying in
      rw (
        (type-rules w.type).1,
        bit-back r.changed,
        leaving-back r.leaving,
        type-back w.type,
        fixed_back r.fixed v.fixed (talker_type_number w.type ∷ bit r.changed ∷ leaving_number r.leaving ∷ since_number r.leaving ∷ [])
            (w.latency ∷ bridge_number w.type ∷ code_number w.type ∷ r.first_latency ∷ after),
      )

  hearing-rules : (h : Listener) → ValidListener clock leave h
      → let at : ℕ → ℕ = λ i. get_or (listener_numbers h) i 0 in
      All (λ b. b ≡ true)
      (leb (at 0) 3 ∷ leaving_rule clock leave (at 1) (at 2) ∷ implies (eqb (at 0) 0) (all_zero (at 1 ∷ at 2 ∷ [])) ∷ [])
  unfolding listener_numbers leaving_rule all_zero
  hearing-rules no_listener v = refl also refl also refl also tt
  hearing-rules (listener r l) v = (ready-rules r).0 also leaving-formed clock leave l v also rw (ready-rules r).1 refl also tt

  cell-rules : (t : Talker) → ValidTalker clock leave t → (h : Listener) → ValidListener clock leave h
      → all_true (cell_rules clock leave (talker_numbers t ++ listener_numbers h)) ≡ true
  unfolding cell_rules talker_numbers fixed_numbers leaving_rule all_zero
  cell-rules no_talker v h u =
      true-all (cell_rules clock leave (talker_numbers no_talker ++ listener_numbers h))
      (refl also refl also refl also refl also refl also refl also hearing-rules h u)
  cell-rules (talker r) v h u =
      let (few, there, whole) = type-rules r.varying.type in
      true-all (cell_rules clock leave (talker_numbers (talker r) ++ listener_numbers h))
      (few
      also le-leb (bit r.changed) 1 (bit-few r.changed)
      also leaving-formed clock leave r.leaving v.leaving
      also eq-eqb (priority_octet r.fixed % 16) 0 (priority-spare r.fixed)
      also rw there refl
      also whole
      also hearing-rules h u)

-- Numbers that keep the rules: what they say is valid, and is written with the same numbers.

record Kept (clock leave : ℕ) (vs : List ℕ) : Type 0 where
  kind : get_or vs cell_index.talker 0 ≤ 2
  mark : get_or vs cell_index.changed 0 ≤ 1
  leaves : leaving_rule clock leave (get_or vs cell_index.talker_leaves 0) (get_or vs cell_index.talker_since 0) ≡ true
  spare : get_or vs cell_index.priority 0 % 16 ≡ 0
  gone : get_or vs cell_index.talker 0 ≡ 0
      → tabulate (cell_index.listener - cell_index.changed) cell_index.changed (λ i. get_or vs i 0) ≡ zeros (cell_index.listener - cell_index.changed)
  no-failure : get_or vs cell_index.talker 0 ≡ 1 → (get_or vs cell_index.bridge 0 ≡ 0) × (get_or vs cell_index.code 0 ≡ 0)
  hearing : get_or vs cell_index.listener 0 ≤ 3
  quits : leaving_rule clock leave (get_or vs cell_index.listener_leaves 0) (get_or vs cell_index.listener_since 0) ≡ true
  deaf : get_or vs cell_index.listener 0 ≡ 0 → (get_or vs cell_index.listener_leaves 0 ≡ 0) × (get_or vs cell_index.listener_since 0 ≡ 0)

kept : (clock leave : ℕ) (vs : List ℕ) → all_true (cell_rules clock leave vs) ≡ true → Kept clock leave vs
unfolding cell_rules
kept clock leave vs h =
    let at : ℕ → ℕ = λ i. get_or vs i 0 in
    let r = all_true_lem (cell_rules clock leave vs) h in
    record {
      kind = leb-true (at cell_index.talker) 2 r.0;
      mark = leb-true (at cell_index.changed) 1 r.1.0;
      leaves = r.1.1.0;
      spare = eqb-true (at cell_index.priority % 16) 0 r.1.1.1.0;
      gone = λ e.
          zero-run cell_index.changed (cell_index.listener - cell_index.changed) vs
          (implied (eqb (at cell_index.talker) 0) (all_zero (between cell_index.changed cell_index.listener vs)) r.1.1.1.1.0 (eq-eqb (at cell_index.talker) 0 e));
      no-failure = λ e. two-zero (at cell_index.bridge) (at cell_index.code) (implied (eqb (at cell_index.talker) 1) _ r.1.1.1.1.1.0 (eq-eqb (at cell_index.talker) 1 e));
      hearing = leb-true (at cell_index.listener) 3 r.1.1.1.1.1.1.0;
      quits = r.1.1.1.1.1.1.1.0;
      deaf = λ e.
          two-zero (at cell_index.listener_leaves) (at cell_index.listener_since)
          (implied (eqb (at cell_index.listener) 0) _ r.1.1.1.1.1.1.1.1.0 (eq-eqb (at cell_index.listener) 0 e));
    }

module _ (clock leave : ℕ) (vs : List ℕ) (k : Kept clock leave vs) where
  talker-forth : talker_numbers (talker_from vs) ≡ tabulate cell_index.listener cell_index.talker (λ i. get_or vs i 0)
  unfolding talker_numbers talker_from registration_from tabulate
  talker-forth = go (get_or vs cell_index.talker 0) refl
    where
      at : ℕ → ℕ
      at i = get_or vs i 0

      go : (n : ℕ) → at cell_index.talker ≡ n → talker_numbers (talker_from vs) ≡ tabulate cell_index.listener cell_index.talker at
      go zero e = rw (eq-eqb (at cell_index.talker) 0 e, e) (ap (λ (l : List ℕ). 0 ∷ l) (sym (k.gone e)))
      go (suc n) e =
          let (kind, bridge, code) = type-forth (at cell_index.talker) (at cell_index.bridge) (at cell_index.code) (omega arith) k.kind k.no-failure in
          let (whether, when) = (left clock leave (at cell_index.talker_leaves) (at cell_index.talker_since) k.leaves).forth in
          rw (ne_eqb (at cell_index.talker) 0 (omega arith), kind, bridge, code, whether, when, bit-forth (at cell_index.changed) k.mark, fixed-forth cell_index.fixed vs k.spare)

  listener-forth : listener_numbers (listener_from vs) ≡ tabulate 3 cell_index.listener (λ i. get_or vs i 0)
  unfolding listener_numbers listener_from tabulate
  listener-forth = go (get_or vs cell_index.listener 0) refl
    where
      at : ℕ → ℕ
      at i = get_or vs i 0

      go : (n : ℕ) → at cell_index.listener ≡ n → listener_numbers (listener_from vs) ≡ tabulate 3 cell_index.listener at
      go zero e = rw (eq-eqb (at cell_index.listener) 0 e, e, (k.deaf e).0, (k.deaf e).1)
      go (suc n) e =
          let (whether, when) = (left clock leave (at cell_index.listener_leaves) (at cell_index.listener_since) k.quits).forth in
          rw (ne_eqb (at cell_index.listener) 0 (omega arith), whether, when, ready-forth (at cell_index.listener) (omega arith) k.hearing)

  module _ (fit : Fit cell_widths vs) where
    talker-valid : ValidTalker clock leave (talker_from vs)
    unfolding talker_from registration_from
    talker-valid = go (eqb (get_or vs cell_index.talker 0) 0)
      where
        at : (i : ℕ) → get_or vs i 0 < 256 ^ get_or cell_widths i 0
        at = fit_at cell_widths vs fit

        go : (t : Bool) → ValidTalker clock leave (cond t no_talker (talker (registration_from vs)))
        go true = tt
        go false = record {
          fixed = fixed-valid cell_index.fixed vs (at cell_index.fixed) (at (cell_index.fixed + 1)) (at (cell_index.fixed + 2)) (at (cell_index.fixed + 3)) (at cell_index.priority);
          varying = record { type = type-valid (get_or vs cell_index.talker 0) (get_or vs cell_index.bridge 0) (get_or vs cell_index.code 0) (at cell_index.bridge) (at cell_index.code); latency = at cell_index.latency };
          first_latency = at cell_index.first_latency;
          leaving = (left clock leave (get_or vs cell_index.talker_leaves 0) (get_or vs cell_index.talker_since 0) k.leaves).valid;
        }

  listener-valid : ValidListener clock leave (listener_from vs)
  unfolding listener_from
  listener-valid = go (eqb (get_or vs cell_index.listener 0) 0)
    where
      go : (t : Bool) → ValidListener clock leave (cond t no_listener (listener (to_ready (get_or vs cell_index.listener 0)) (to_leaving (get_or vs cell_index.listener_leaves 0) (get_or vs cell_index.listener_since 0))))
      go true = tt
      go false = (left clock leave (get_or vs cell_index.listener_leaves 0) (get_or vs cell_index.listener_since 0) k.quits).valid

-- The octets of a cell.

pub cell-length : (c : Cell) → length (cell_octets c) ≡ cell_size
unfolding cell_octets cell_numbers width
cell-length c =
    length-packed-any cell_widths (cell_numbers c)
    (omega (arith, length-append (talker_numbers c.talks) (listener_numbers c.hears), talker_size c.talks, listener-size c.hears))

pub cell-octets : (c : Cell) → Octets (cell_octets c)
unfolding cell_octets
cell-octets c = octets-packed cell_widths (cell_numbers c)

-- cells that are all 43 octets long
pub cells-sized : (cells : List Cell) → All (Sized cell_size cell_octets) cells
cells-sized = all-each (Sized cell_size cell_octets) cell-length

module _ (clock leave : ℕ) (small : clock < 2 ^ 32) (c : Cell) (v : ValidCell clock leave c) where
  pub cell-back : to_cell (cell_octets c) ≡ c
  unfolding to_cell cell_octets cell_from cell_numbers
  cell-back =
      rw (
        fields-of-packed cell_widths (cell_numbers c) (cell-fit clock leave c v small),
        talker-back clock leave c.talks v.talks (listener_numbers c.hears),
        listener-back c.talks c.hears,
      )

  pub cell-formed : cell_formed clock leave (cell_octets c) ≡ true
  unfolding cell_formed cell_octets cell_numbers
  cell-formed =
      rw (fields-of-packed cell_widths (cell_numbers c) (cell-fit clock leave c v small))
      (cell-rules clock leave c.talks v.talks c.hears v.hears)

-- the numbers in a cell's fields, one by one
numbers : (s : List ℕ) → let at : ℕ → ℕ = λ i. get_or (fields cell_widths 0 s) i 0 in tabulate cell_index.listener cell_index.talker at ++ tabulate 3 cell_index.listener at ≡ fields cell_widths 0 s
unfolding tabulate fields
numbers s = refl

module _ (clock leave : ℕ) (s : List ℕ) (l : length s ≡ cell_size) (o : Octets s) (h : cell_formed clock leave s ≡ true) where
  pub cell-forth : cell_octets (to_cell s) ≡ s
  unfolding cell_octets cell_numbers to_cell cell_from cell_formed
  cell-forth =
      let vs = fields cell_widths 0 s in
      let k = kept clock leave vs h in
      rw (talker-forth clock leave vs k, listener-forth clock leave vs k, numbers s)
      (packed-whole cell_widths s (l ∙ unfold width in refl) o)

  pub cell-valid : ValidCell clock leave (to_cell s)
  unfolding to_cell cell_from cell_formed
  cell-valid =
      let vs = fields cell_widths 0 s in
      let k = kept clock leave vs h in
      record {
        talks = talker-valid clock leave vs k (fields_fit cell_widths 0 s (octets-at s o));
        hears = listener-valid clock leave vs k;
      }

-- Nothing registered is 43 zeros.

pub cell-zeros : cell_octets empty ≡ zeros cell_size
unfolding cell_octets cell_numbers talker_numbers listener_numbers empty width
cell-zeros = packed-zeros cell_widths

-- A stream is held: as the octets of its cells say, and as the cells do.

pub held-append : (l m : List Cell) → held (l ++ m) ≡ (held l || held m)
unfolding held
held-append [] m = refl
held-append (c ∷ l) m = rw (held-append l m) (sym (or_assoc (is_talking c || is_hearing c) (held l) (held m)))

pub held-empty : (l : List Cell) → All (λ c. c ≡ empty) l → held l ≡ false
unfolding held is_talking is_hearing empty
held-empty [] a = refl
held-empty (c ∷ l) a = rw a.0 (held-empty l a.1)

kinds : (s : List ℕ) → (get_or (fields cell_widths 0 s) cell_index.talker 0 ≡ get_or s 0 0) × (get_or (fields cell_widths 0 s) cell_index.listener 0 ≡ get_or s in_cell.listener 0)
unfolding fields be_at
kinds s = (omega arith, omega arith)

-- a Talker, and a Listener, that is there unless its kind is 0
talking-unless : (t : Bool) (r : Registration) (h : Listener) → is_talking record { talks = cond t no_talker (talker r); hears = h } ≡ not t
unfolding is_talking
talking-unless true r h = refl
talking-unless false r h = refl

hearing-unless : (t : Bool) (r : Ready) (l : Leaving) (k : Talker) → is_hearing record { talks = k; hears = cond t no_listener (listener r l) } ≡ not t
unfolding is_hearing
hearing-unless true r l k = refl
hearing-unless false r l k = refl

pub talking-read : (s : List ℕ) → is_talking (to_cell s) ≡ not (eqb (get_or s 0 0) 0)
unfolding to_cell cell_from talker_from
talking-read s =
    let vs = fields cell_widths 0 s in
    talking-unless (eqb (get_or vs cell_index.talker 0) 0) (registration_from vs) (listener_from vs) ∙ ap (λ (k : ℕ). not (eqb k 0)) (kinds s).0

pub hearing-read : (s : List ℕ) → is_hearing (to_cell s) ≡ not (eqb (get_or s in_cell.listener 0) 0)
unfolding to_cell cell_from listener_from
hearing-read s =
    let vs = fields cell_widths 0 s in
    hearing-unless (eqb (get_or vs cell_index.listener 0) 0) (to_ready (get_or vs cell_index.listener 0)) (to_leaving (get_or vs cell_index.listener_leaves 0) (get_or vs cell_index.listener_since 0)) (talker_from vs)
    ∙ ap (λ (k : ℕ). not (eqb k 0)) (kinds s).1

-- the test on octets is the test on the cells read from them
pub holds_parts : (k : ℕ) (s : List ℕ) → holds k s ≡ held (parts cell_size to_cell k s)
unfolding holds held parts
holds_parts zero s = refl
holds_parts (suc k) s =
    rw (
      talking-read (take cell_size s),
      hearing-read (take cell_size s),
      get_or-take cell_size s 0 0 (omega arith),
      get_or-take cell_size s in_cell.listener 0 (omega arith),
      holds_parts k (drop cell_size s),
    )
