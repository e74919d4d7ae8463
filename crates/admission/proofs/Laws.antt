-- Each step of stage 2, from the octets that the code reads and writes to the definitions.
use Rattle.std.specs.Prelude.{Option, Some, None}
use Rattle.std.specs.Option.{option_eq}
use Prim.Native.Nat.{ℕ, zero, suc, ◌+◌, ◌*◌, ◌/◌, ◌%◌, ◌<◌}
use mathlib.Core.Path.{◌≡◌, refl, sym, ap, ◌∙◌}
use mathlib.Core.List.{List, [], ◌∷◌, ◌++◌, append_assoc, append-nil}
use mathlib.Core.Bool.{Bool, true, false, cond, not}
use native.Mathlib.Omega.{arith}
use native.Mathlib.Numerals.{add-one}
use lib.ListN.{length, get_or, set, take, drop}
use lib.Seq.{drop-cons, drop-length, take-suc-set}
use lib.Dec.{eqb, leb}
use borrow.Author.Tests.{eq-eqb, ne_eqb}
use Rattle.octets.specs.Be.{be_at, be}
use Rattle.octets.specs.Parts.{patch}
use Rattle.octets.specs.Fields.{fields, width}
use Rattle.octets.proofs.Fields.{put-field}
use Rattle.model.specs.Layout.{in_result, before, fixed_widths, in_cell, result_widths, in_totals, totals_widths}
use Rattle.model.specs.Lists.{keep}
use Rattle.model.specs.State.{Settings, Class, class_a, class_b, class_of, same_class, Fixed, Result, Stream, Totals, port_at, result_at, fresh}
use Rattle.model.specs.Frames.{priority_of, rank_of}
use Rattle.model.specs.Bandwidth.{PerInterval, demand, rate_of}
use Rattle.model.specs.Settling.{registered, is_ready, is_advertise}
use Rattle.model.specs.Table.{to_port, to_cell, to_column, column_number, column_bridge, column_code, entry_number, result_numbers, result_from, result_octets, to_result, totals_octets}
use Rattle.model.specs.Laid.{LaidResult}
use Rattle.model.proofs.SettingsOctets.{octet-field}
use Rattle.model.proofs.Fits.{laid-result-is}
use Rattle.table.specs.Reads.{to_fixed}
use Rattle.streams.specs.declared.Class as code
use Rattle.streams.specs.declared.Class.TheVariants.{A, B}
use Rattle.streams.specs.contracts.ClassPartialEq.TheImpl.{eq-value}
use Rattle.streams.specs.Answers.{named, class_shown}
use Rattle.columns.specs.Stages.{settled_class, waits, lacking, with_total}
use Rattle.columns.proofs.Entries.{registered-read, ready-number}
use Rattle.admission.specs.Sharing.{order, order_of, orders, demand_in}
use Rattle.model.specs.WrittenFrames.{fixed_from}

-- Whether a priority has a class.
pub same-class : (r : Option code.Class) (c : code.Class) → option_eq eq-value.it r (Some c) ≡ same_class (class_shown r) (named c)
unfolding same_class class_shown named
same-class None A = refl
same-class None B = refl
same-class (Some A) A = refl
same-class (Some A) B = refl
same-class (Some B) A = refl
same-class (Some B) B = refl

-- The class shared out is B, or else A.
module _ (b : Bool) where
  pub class-a : not b ≡ same_class (class_shown (Some A)) (named (cond b B A))
  unfolding same_class class_shown named
  class-a = elim b as (λ k. not k ≡ same_class (class_shown (Some A)) (named (cond k B A))) [ true ↦ refl | false ↦ refl ]

  pub class-b : b ≡ same_class (class_shown (Some B)) (named (cond b B A))
  unfolding same_class class_shown named
  class-b = elim b as (λ k. k ≡ same_class (class_shown (Some B)) (named (cond k B A))) [ true ↦ refl | false ↦ refl ]

-- A stream x on the port at place p, by the octets of its result there and of its settled values.

-- where priority and rank stand among these
abbrev priority_in : ℕ
priority_in = before 4 fixed_widths

advertised-number : (k b n : ℕ) → is_advertise (to_column k b n) ≡ eqb k 1
unfolding is_advertise to_column
advertised-number zero b n = refl
advertised-number (suc zero) b n = refl
advertised-number (suc (suc k)) b n =
    rw (ne_eqb (suc (suc k)) 0 (λ e. omega (arith, e)), ne_eqb (suc (suc k)) 1 (λ e. omega (arith, e)))

module _ (p : ℕ) (x : Stream) (r : List ℕ) (shown : to_result r ≡ result_at x p) where
  advertise-read : is_advertise (result_at x p).column ≡ eqb (get_or r 0 0) 1
  unfolding to_result result_from fields
  advertise-read = rw (← shown, advertised-number, octet-field r 0)

  -- another column than Advertise
  pub waits-out : (st : Settings) (c : Class) → (get_or r 0 0 ≡ 1 → ⊥) → false ≡ waits st p c x
  unfolding waits
  waits-out st c n = rw (advertise-read, ne_eqb (get_or r 0 0) 1 n)

  module _ (f : List ℕ) (settled : to_fixed f ≡ x.settled) (octet : ℕ) (e : octet ≡ be_at 1 f priority_in) where
    pub waits_in : (st : Settings) (c d : Class) → d ≡ class_of st (octet / 32) → get_or r 0 0 ≡ 1 → same_class d c ≡ waits st p c x
    unfolding waits settled_class to_fixed fixed_from fields priority_of
    waits_in st c d g h = rw (advertise-read, eq-eqb (get_or r 0 0) 1 h, g, e, ← settled)

    pub order-read : (k age : ℕ) → age ≡ be_at 4 r in_result.age → (octet / 16 % 2 * 4294967296 + age) * 64 + k ≡ order_of p x k
    order-read k age g = unfold order_of order in (rw (← second, ← rank, e, g))
      where
        rank : be_at 1 f priority_in / 16 % 2 ≡ x.settled.rank
        rank = unfold to_fixed fixed_from fields rank_of in (ap (λ (v : Fixed). v.rank) settled)

        second : be_at 4 r in_result.age ≡ (result_at x p).age
        second = unfold to_result result_from fields in (ap (λ (v : Result). v.age) shown)

pub heard-read : (s : List ℕ) → leb 2 (get_or s in_cell.listener 0) ≡ is_ready (registered (to_cell s))
heard-read s = sym (ap is_ready (registered-read s) ∙ ready-number (be_at 1 s in_cell.listener) ∙ ap (leb 2) (octet-field s in_cell.listener))

-- its demand there, from that of an interval
module _ (st : Settings) (p : ℕ) (x : Stream) (port fixed : List ℕ) (q : to_port port ≡ port_at st p) (f : to_fixed fixed ≡ x.settled)
    (d : ℕ) (e : d ≡ (demand (to_port port) (to_fixed fixed)).octets) where
  per-interval : record { octets = d } ≡ demand (port_at st p) x.settled
  per-interval = ap (λ (n : ℕ). record { octets = n }) (rw (q, f) at e)

  pub rate-of : (c : Class) → (rate_of c record { octets = d }).bits ≡ demand_in st p c x
  unfolding demand_in
  rate-of c = ap (λ (n : PerInterval). (rate_of c n).bits) per-interval

-- The numbers of those that wait.

-- the number v behind the first n, where r says that the stream waits
module _ (l : List ℕ) (n v : ℕ) (r t : Bool) (e : r ≡ t) where
  pub noted : n < length l → r ≡ true → take (n + 1) (set l n v) ≡ take n l ++ keep t v []
  noted h g = rw (← e, g, add-one n) (take-suc-set l n v h)

  pub not_noted : r ≡ false → take n l ≡ take n l ++ keep t v []
  not_noted g = rw (← e, g) (sym (append-nil (take n l)))

module _ (st : Settings) (p : ℕ) (c : Class) (k : ℕ) (s : List Stream) where
  pub gather-more : (front more : List ℕ) → k < length s →
      more ≡ front ++ keep (waits st p c (get_or s k (fresh 0))) (order_of p (get_or s k (fresh 0)) k) [] →
      more ++ orders st p c (k + 1) (drop (k + 1) s) ≡ front ++ orders st p c k (drop k s)
  gather-more front more h e =
      let x = get_or s k (fresh 0) in
      let rest = orders st p c (k + 1) (drop (k + 1) s) in
      let whole : orders st p c k (drop k s) ≡ keep (waits st p c x) (order_of p x k) rest =
      rw (drop-cons s k (fresh 0) h) (unfold orders in rw (add-one k)) in
      rw (e, whole, append_assoc) (ap (λ (l : List ℕ). front ++ l) (put-before (waits st p c x) (order_of p x k) rest))
    where
      put-before : (t : Bool) (v : ℕ) (l : List ℕ) → keep t v [] ++ l ≡ keep t v l
      put-before true v l = refl
      put-before false v l = refl

  pub gather_none : (front : List ℕ) → k ≡ length s → front ++ orders st p c k (drop k s) ≡ front
  gather_none front e = rw (ap (λ (n : ℕ). drop n s) e ∙ drop-length s) (unfold orders in (append-nil front))

-- Failing with code 1.

lack-result : (st : Settings) (r : Result)
    → patch in_result.entry 1 (be 1 1) (patch in_result.code 1 (be 1 1) (patch in_result.bridge 8 (be 8 st.bridge_id) (patch 0 1 (be 1 2) (result_octets r))))
    ≡ result_octets (lacking st r)
unfolding result_octets result_numbers width lacking column_number column_bridge column_code entry_number
lack-result st r =
    let vs = result_numbers r in
    rw (
      put-field result_widths vs 0 2 refl,
      put-field result_widths (set vs 0 2) 2 st.bridge_id refl,
      put-field result_widths (set (set vs 0 2) 2 st.bridge_id) 3 1 refl,
      put-field result_widths (set (set (set vs 0 2) 2 st.bridge_id) 3 1) 4 1 refl,
    )

pub lack-octets : (st : Settings) (id : ℕ) (s : List ℕ) → LaidResult s → st.bridge_id ≡ id
    → patch in_result.entry 1 (be 1 1) (patch in_result.code 1 (be 1 1) (patch in_result.bridge 8 (be 8 id) (patch 0 1 (be 1 2) s)))
    ≡ result_octets (lacking st (to_result s))
lack-octets st id s l e =
    rw (← e) (ap
    (λ (r : List ℕ). patch in_result.entry 1 (be 1 1) (patch in_result.code 1 (be 1 1) (patch in_result.bridge 8 (be 8 st.bridge_id) (patch 0 1 (be 1 2) r))))
    (laid-result-is s l)
    ∙ lack-result st (to_result s))

-- The total.

pub total_a : (t : Totals) (n : ℕ) → patch 0 5 (be 5 n) (totals_octets t) ≡ totals_octets (with_total class_a n t)
unfolding totals_octets with_total width
total_a t n = put-field totals_widths (t.total_a ∷ t.total_b ∷ []) 0 n refl

pub total_b : (t : Totals) (n : ℕ) → patch in_totals.total_b 6 (be 6 n) (totals_octets t) ≡ totals_octets (with_total class_b n t)
unfolding totals_octets with_total width
total_b t n = put-field totals_widths (t.total_a ∷ t.total_b ∷ []) 1 n refl
