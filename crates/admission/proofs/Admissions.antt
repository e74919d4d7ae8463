-- After the steps before h, the admissions of every port and class leave on every port the column, latency, entry and age that
-- advance decides there, and the class totals: what is missing of the decision is the Listener declared.
use Prim.Native.Nat.{ℕ, zero, suc, ◌+◌, ◌*◌, ◌≤◌, ◌<◌}
use mathlib.Core.Path.{◌≡◌, refl, sym, ◌∙◌, ap}
use mathlib.Core.List.{List, [], ◌∷◌, map}
use mathlib.Core.Bool.{Bool, true, false, cond, not, ◌&&◌, true≢false, false≢true}
use native.Mathlib.Omega.{arith}
use native.Mathlib.Nat.{add-zero, zero-add}
use lib.ListN.{get_or, set, length, replicate, length-set}
use lib.Seq.{ext_get_or, get_or-set_same, get_or-set_other}
use lib.Dec.{ltb, eqb}
use borrow.Author.Tests.{lt-ltb, le-ltb, eqb-true, eqb-false}
use Rattle.model.specs.Lists.{keep, tabulate}
use Rattle.model.specs.State.{Settings, Column, advertise, failed, filters, forwards, Result, Sender, Stream, Totals, Bridge, no_totals, unsettled, in_force, port_at, is_port, cell_at, result_at, Class, no_class, class_a, class_b, class_of, is_no_class, same_class}
use Rattle.model.specs.Bandwidth.{Claim, remains, admitted, sort, reserved, total}
use Rattle.model.specs.Settling.{Scene, Source, nowhere, from, source_of, fixed_of, stream_class, registered, is_ready, clear, steps, steps_from, age_of, claim, claims, limit_on, left_for, by_bandwidth, column_of, entry_of, age_kept, latency_kept, total_on, totals_on, is_advertise, bandwidth_steps, first, outcome_column}
use Rattle.model.proofs.Lists.{and-true, and-false}
use Rattle.model.proofs.AdvanceKeepsForm.{length-tabulate}
use Rattle.model.proofs.Admission.{Two, lo, hi, two}
use Rattle.model.proofs.ColumnRule.{at_place, tabulate-same, same_class_lem, first-clear, first-decided, advertised, reserved-a}
use Rattle.columns.specs.Stages.{shown_as, early_column, early_at, early, settled_class, waits, claim_shown, claims_shown, limit_shown, lacking, with_result, admit, with_total, admission, admissions}

-- a place set in a list of eight
set-tabulate : {A : Type 0} (f g : ℕ → A) (p : ℕ) (v : A) → p < 8 → v ≡ g p → ((q : ℕ) → q < 8 → (q ≡ p → ⊥) → f q ≡ g q) →
    set (tabulate 8 0 f) p v ≡ tabulate 8 0 g
set-tabulate f g p v h here else =
    let n : length (tabulate 8 0 f) ≡ 8 = length-tabulate 8 0 f in
    let l : length (set (tabulate 8 0 f) p v) ≡ 8 = length-set (tabulate 8 0 f) p v ∙ n in
    ext_get_or v (set (tabulate 8 0 f) p v) (tabulate 8 0 g) (l ∙ sym (length-tabulate 8 0 g))
    (λ i b. at i (omega (arith, l)) (eqb i p) refl ∙ sym (at_place g i v (omega (arith, l))))
  where
    at : (i : ℕ) → i < 8 → (t : Bool) → eqb i p ≡ t → get_or (set (tabulate 8 0 f) p v) i v ≡ g i
    at i b true e =
        let same : i ≡ p = eqb-true i p e in
        rw same (get_or-set_same (tabulate 8 0 f) p v v (omega (arith, length-tabulate 8 0 f)) ∙ here)
    at i b false e =
        let n = eqb-false i p e in
        get_or-set_other (tabulate 8 0 f) p i v v n ∙ at_place f i v b ∙ else i b n

map_same : {A B : Type 0} (f g : A → B) (l : List A) → ((x : A) → f x ≡ g x) → map f l ≡ map g l
map_same f g [] h = refl
map_same f g (x ∷ l) h = rw (h x, map_same f g l h)

a-not-b : class_a ≡ class_b → ⊥
a-not-b e = let z : ◌≡◌ {A = ℕ} 0 1 = cc in omega arith

-- the stream x where its column on each port is known
unfoldable pub showing : Settings → ℕ → (ℕ → Stream → Column) → Stream → Stream
showing st now col x = record {
  id = x.id;
  settled = fixed_of (source_of x);
  cells = x.cells;
  results = tabulate 8 0 (λ q. shown_as st now x q (col q x));
  sends = x.sends;
}

-- The steps before h alone.

module _ (sc : Scene) (q : ℕ) (x : Stream) where
  -- they leave Advertise where none of them applies
  early-advertised : is_advertise (early_column sc q x) ≡ clear (steps sc q x)
  unfolding early_column by_bandwidth bandwidth_steps first outcome_column
  early-advertised = advertised sc q x 0 0 ∙ and-true (clear (steps sc q x))

  -- one of them applies to a priority that is no class, and at a place that is no port
  no-class : stream_class sc.settings x ≡ no_class → clear (steps sc q x) ≡ false
  unfolding steps steps_from stream_class fixed_of is_no_class clear
  no-class e = simp (go (source_of x) e, and-false)
    where
      go : (t : Source) → class_of sc.settings (fixed_of t).priority ≡ no_class → clear (steps_from sc q (cell_at x q) x.id t) ≡ false
      go nowhere e = refl
      go (from o) e = simp (e, and-false)

  no-port : is_port sc.settings q ≡ false → clear (steps sc q x) ≡ false
  unfolding steps clear
  no-port e = rw e

  -- where one of them applies, the rest of the streams does not matter
  decided-early : (now : ℕ) (s : List Stream) → clear (steps sc q x) ≡ false → early_column sc q x ≡ column_of sc now s q x
  unfolding early_column column_of
  decided-early now s e = first-decided _ (steps sc q x) advertise _ e

-- After some of the ports and classes.

module _ (sc : Scene) (now : ℕ) (s : List Stream) where
  showing-same : (f g : ℕ → Stream → Column) (x : Stream) → ((q : ℕ) → q < 8 → f q x ≡ g q x) → showing sc.settings now f x ≡ showing sc.settings now g x
  unfolding showing
  showing-same f g x h =
      rw (tabulate-same (λ q. shown_as sc.settings now x q (f q x)) (λ q. shown_as sc.settings now x q (g q x)) 8 0 (λ q a b. rw (h q (omega arith))))

  module _ (done : ℕ → Class → Bool) where
    column_by : ℕ → Stream → Column
    column_by q x = cond (done q (stream_class sc.settings x)) (column_of sc now s q x) (early_column sc q x)

    totals_by : ℕ → Totals
    totals_by q = record {
      total_a = cond (done q class_a) (total_on sc now s q class_a) 0;
      total_b = cond (done q class_b) (total_on sc now s q class_b) 0;
    }

    shared : ℕ → List Sender → Bridge
    shared clock senders = record {
      settings = sc.settings;
      clock = clock;
      totals = tabulate 8 0 totals_by;
      owns = sc.owns;
      senders = senders;
      streams = map (showing sc.settings now column_by) s;
    }

  -- an Advertise has an entry, and so an age
  age-at : (p : ℕ) (x : Stream) → (shown_as sc.settings now x p advertise).age ≡ age_of now (result_at x p)
  unfolding shown_as entry_of age_kept
  age-at p x = go (is_ready (registered (cell_at x p)))
    where
      go : (t : Bool) → age_kept (cond t forwards filters) (age_of now (result_at x p)) ≡ age_of now (result_at x p)
      go true = refl
      go false = refl

  -- what fails with code 1 keeps latency and age
  lacks-at : (p : ℕ) (x : Stream) → lacking sc.settings (shown_as sc.settings now x p advertise) ≡ shown_as sc.settings now x p (failed sc.settings.bridge_id 1)
  unfolding lacking latency_kept
  lacks-at p x = rw (age-at p x) (unfold shown_as latency_kept entry_of age_kept in refl)

  -- what stands on a port where the columns are known
  module _ (col : ℕ → Stream → Column) (p : ℕ) (h : p < 8) (x : Stream) where
    shown-at : result_at (showing sc.settings now col x) p ≡ shown_as sc.settings now x p (col p x)
    unfolding showing result_at
    shown-at = at_place (λ q. shown_as sc.settings now x q (col q x)) p unsettled h

    waits-at : (c : Class) → waits sc.settings p c (showing sc.settings now col x) ≡ (is_advertise (col p x) && same_class (stream_class sc.settings x) c)
    unfolding waits settled_class stream_class
    waits-at c = rw shown-at (unfold shown_as showing in refl)

    claim-at : col p x ≡ advertise → claim_shown sc.settings p (showing sc.settings now col x) ≡ claim sc.settings now p x
    unfolding claim_shown claim
    claim-at e = rw (shown-at, e, age-at p x) (unfold showing settled_class cell_at in refl)

  -- one port in one class, which was not done and now is
  module _ (p : ℕ) (h : p < 8) (c : Class) (real : same_class c c ≡ true) (done then : ℕ → Class → Bool) (open-before : done p c ≡ false)
      (done-now : then p c ≡ true) (a_first : c ≡ class_b → done p class_a ≡ true) (else : (q : ℕ) (d : Class) → (q ≡ p → d ≡ c → ⊥) → done q d ≡ then q d) where
    old : ℕ → Stream → Column
    old = column_by done

    new : ℕ → Stream → Column
    new = column_by then

    stays : (q : ℕ) (x : Stream) → (q ≡ p → stream_class sc.settings x ≡ c → ⊥) → old q x ≡ new q x
    unfolding old new column_by
    stays q x n = rw (else q (stream_class sc.settings x) n)

    -- a stream of the class
    module _ (x : Stream) (e : stream_class sc.settings x ≡ c) where
      was : old p x ≡ early_column sc p x
      unfolding old column_by
      was = rw (e, open-before)

      becomes : new p x ≡ column_of sc now s p x
      unfolding new column_by
      becomes = rw (e, done-now)

    other-class : (x : Stream) → same_class (stream_class sc.settings x) c ≡ false → stream_class sc.settings x ≡ c → ⊥
    other-class x e f = true≢false (sym real ∙ ap (λ (d : Class). same_class d c) (sym f) ∙ e)

    waiting : (x : Stream) → waits sc.settings p c (showing sc.settings now old x) ≡ (clear (steps sc p x) && same_class (stream_class sc.settings x) c)
    waiting x = waits-at old p h x c ∙ go (same_class (stream_class sc.settings x) c) refl
      where
        go : (t : Bool) → same_class (stream_class sc.settings x) c ≡ t → (is_advertise (old p x) && t) ≡ (clear (steps sc p x) && t)
        go true e =
            ap (λ (t : Bool). t && true)
            (ap is_advertise (was x (same_class_lem (stream_class sc.settings x) c e)) ∙ early-advertised sc p x)
        go false e = and-false (is_advertise (old p x)) ∙ sym (and-false (clear (steps sc p x)))

    -- a stream that waits
    module _ (x : Stream) (free : clear (steps sc p x) ≡ true) (e : stream_class sc.settings x ≡ c) where
      was-advertise : old p x ≡ advertise
      unfolding early_column
      was-advertise = was x e ∙ first-clear _ (steps sc p x) advertise free

      claimed : claim_shown sc.settings p (showing sc.settings now old x) ≡ claim sc.settings now p x
      claimed = claim-at old p h x was-advertise

    claims-same : (l : List Stream) → claims_shown sc.settings p c (map (showing sc.settings now old) l) ≡ claims sc now p c l
    unfolding claims_shown claims
    claims-same [] = refl
    claims-same (x ∷ l) = rw (waiting x, claims-same l) (go (clear (steps sc p x)) (same_class (stream_class sc.settings x) c) refl refl)
      where
        go : (t u : Bool) → clear (steps sc p x) ≡ t → same_class (stream_class sc.settings x) c ≡ u →
            keep (t && u) (claim_shown sc.settings p (showing sc.settings now old x)) (claims sc now p c l) ≡ keep (t && u) (claim sc.settings now p x) (claims sc now p c l)
        go true true f e = rw (claimed x f (same_class_lem (stream_class sc.settings x) c e))
        go true false f e = refl
        go false u f e = refl

    l : ℕ
    l = limit_on sc now s p c

    cs : List Claim
    cs = claims sc now p c s

    -- what bandwidth decides
    module _ (x : Stream) (free : clear (steps sc p x) ≡ true) (e : stream_class sc.settings x ≡ c) where
      by-claims : column_of sc now s p x ≡ by_bandwidth sc.settings (claim sc.settings now p x).demand (remains l cs (claim sc.settings now p x))
      unfolding column_of left_for l cs
      by-claims = first-clear _ (steps sc p x) _ free ∙ rw e

      fits : admitted l cs (claim sc.settings now p x) ≡ true → column_of sc now s p x ≡ advertise
      unfolding admitted by_bandwidth bandwidth_steps first outcome_column
      fits a = by-claims ∙ rw a

      lacks : admitted l cs (claim sc.settings now p x) ≡ false → column_of sc now s p x ≡ failed sc.settings.bridge_id 1
      unfolding admitted by_bandwidth bandwidth_steps first outcome_column
      lacks a = by-claims ∙ rw a

    same_if : (x : Stream) → old p x ≡ new p x → showing sc.settings now old x ≡ showing sc.settings now new x
    same_if x e = showing-same old new x (λ q b. go q (eqb q p) refl)
      where
        go : (q : ℕ) (t : Bool) → eqb q p ≡ t → old q x ≡ new q x
        go q true f = rw (eqb-true q p f) e
        go q false f = stays q x (λ i j. eqb-false q p f i)

    fails-with : (x : Stream) → old p x ≡ advertise → new p x ≡ failed sc.settings.bridge_id 1 →
        with_result p (lacking sc.settings (result_at (showing sc.settings now old x) p)) (showing sc.settings now old x) ≡ showing sc.settings now new x
    unfolding with_result
    fails-with x e f =
        rw (shown-at old p h x, e, lacks-at p x)
        (unfold showing in ap (λ (r : List Result). record { id = x.id; settled = fixed_of (source_of x); cells = x.cells; results = r; sends = x.sends })
        (set-tabulate (λ q. shown_as sc.settings now x q (old q x)) (λ q. shown_as sc.settings now x q (new q x)) p (shown_as sc.settings now x p (failed sc.settings.bridge_id 1)) h (rw f)
        (λ q b n. rw (stays q x (λ i j. n i)))))

    admit-one : (x : Stream) → admit sc.settings p c l cs (showing sc.settings now old x) ≡ showing sc.settings now new x
    unfolding admit
    admit-one x = rw (waiting x) (go (clear (steps sc p x)) (same_class (stream_class sc.settings x) c) refl refl)
      where
        go : (t u : Bool) → clear (steps sc p x) ≡ t → same_class (stream_class sc.settings x) c ≡ u →
            cond ((t && u) && not (admitted l cs (claim_shown sc.settings p (showing sc.settings now old x))))
            (with_result p (lacking sc.settings (result_at (showing sc.settings now old x) p)) (showing sc.settings now old x)) (showing sc.settings now old x)
            ≡ showing sc.settings now new x
        go true true f e =
            let d = same_class_lem (stream_class sc.settings x) c e in
            rw (claimed x f d) (decides (admitted l cs (claim sc.settings now p x)) refl)
          where
            decides : (v : Bool) → admitted l cs (claim sc.settings now p x) ≡ v →
                cond (not v) (with_result p (lacking sc.settings (result_at (showing sc.settings now old x) p)) (showing sc.settings now old x)) (showing sc.settings now old x)
                ≡ showing sc.settings now new x
            decides true a =
                let d = same_class_lem (stream_class sc.settings x) c e in
                same_if x (was-advertise x f d ∙ sym (becomes x d ∙ fits x f d a))
            decides false a =
                let d = same_class_lem (stream_class sc.settings x) c e in
                fails-with x (was-advertise x f d) (becomes x d ∙ lacks x f d a)
        go true false f e = showing-same old new x (λ q b. stays q x (λ i j. other-class x e j))
        go false true f e =
            let d = same_class_lem (stream_class sc.settings x) c e in
            same_if x (was x d ∙ decided-early sc p x now s f ∙ sym (becomes x d))
        go false false f e = showing-same old new x (λ q b. stays q x (λ i j. other-class x e j))

    admit-all : (m : List Stream) → map (admit sc.settings p c l cs) (map (showing sc.settings now old) m) ≡ map (showing sc.settings now new) m
    admit-all [] = refl
    admit-all (x ∷ m) = rw (admit-one x, admit-all m)

    total-set : (t : Class) → t ≡ c → with_total t (total l cs) (totals_by done p) ≡ totals_by then p
    unfolding with_total totals_by l cs total_on same_class
    total-set no_class e = absurd (false≢true (ap (λ (d : Class). same_class d d) e ∙ real))
    total-set class_a e = rw (ap (then p) e ∙ done-now, else p class_b (λ i j. a-not-b (e ∙ sym j)), e)
    total-set class_b e = rw (ap (then p) e ∙ done-now, else p class_a (λ i j. a-not-b (j ∙ sym e)), e)

    totals-set : set (tabulate 8 0 (totals_by done)) p (with_total c (total l cs) (get_or (tabulate 8 0 (totals_by done)) p no_totals))
        ≡ tabulate 8 0 (totals_by then)
    totals-set =
        rw (at_place (totals_by done) p no_totals h)
        (set-tabulate (totals_by done) (totals_by then) p (with_total c (total l cs) (totals_by done p)) h (total-set c refl) other-port)
      where
        other-port : (q : ℕ) → q < 8 → (q ≡ p → ⊥) → totals_by done q ≡ totals_by then q
        other-port q b n = unfold totals_by in (rw (else q class_a (λ i j. n i), else q class_b (λ i j. n i)))

    -- the limit in force is read off the total that class A left
    limit-same : (clock : ℕ) (senders : List Sender) → limit_shown sc.settings (shared done clock senders) p c ≡ l
    unfolding limit_shown limit_on shared totals_by l
    limit-same clock senders =
        rw (at_place (totals_by done) p no_totals h, reserved-a sc now s p) (go c refl)
      where
        go : (d : Class) → c ≡ d → in_force (port_at sc.settings p) (cond (done p class_a) (total_on sc now s p class_a) 0) d
            ≡ in_force (port_at sc.settings p) (total_on sc now s p class_a) d
        go no_class e = unfold in_force in refl
        go class_a e = unfold in_force in refl
        go class_b e = rw (a_first e)

    admission-one : (clock : ℕ) (senders : List Sender) → admission p c (shared done clock senders) ≡ shared then clock senders
    unfolding admission shared old new cs
    admission-one clock senders = rw (limit-same clock senders, claims-same s, totals-set, admit-all s)

-- All of them: on each port class A, then class B.

-- what is done of ports and classes before the turn n
done_before : ℕ → ℕ → Class → Bool
done_before n q no_class = false
done_before n q class_a = ltb (2 * q) n
done_before n q class_b = ltb (2 * q + 1) n

-- between two turns
ltb_next : (m n : ℕ) → (m ≡ n → ⊥) → ltb m n ≡ ltb m (suc n)
ltb_next m n h = go (two m n)
  where
    go : Two m n → ltb m n ≡ ltb m (suc n)
    go (lo g) = rw (lt-ltb m n g, lt-ltb m (suc n) (omega arith))
    go (hi g) = rw (le-ltb m n g, le-ltb m (suc n) (omega (arith, h)))

module _ (sc : Scene) (now : ℕ) (s : List Stream) (clock : ℕ) (senders : List Sender) where
  turn-a : (p : ℕ) → p < 8 → admission p class_a (shared sc now s (done_before (2 * p)) clock senders) ≡ shared sc now s (done_before (suc (2 * p))) clock senders
  unfolding done_before same_class
  turn-a p h =
      admission-one sc now s p h class_a refl (done_before (2 * p)) (done_before (suc (2 * p)))
      (le-ltb (2 * p) (2 * p) (omega arith)) (lt-ltb (2 * p) (suc (2 * p)) (omega arith)) (λ e. absurd (a-not-b e)) else clock senders
    where
      else : (q : ℕ) (d : Class) → (q ≡ p → d ≡ class_a → ⊥) → done_before (2 * p) q d ≡ done_before (suc (2 * p)) q d
      else q no_class n = refl
      else q class_a n = ltb_next (2 * q) (2 * p) (λ e. n (omega (arith, e)) refl)
      else q class_b n = ltb_next (2 * q + 1) (2 * p) (λ e. omega (arith, e))

  turn-b : (p : ℕ) → p < 8 → admission p class_b (shared sc now s (done_before (suc (2 * p))) clock senders) ≡ shared sc now s (done_before (2 * suc p)) clock senders
  unfolding done_before same_class
  turn-b p h =
      admission-one sc now s p h class_b refl (done_before (suc (2 * p))) (done_before (2 * suc p))
      (le-ltb (2 * p + 1) (suc (2 * p)) (omega arith)) (lt-ltb (2 * p + 1) (2 * suc p) (omega arith)) (λ e. lt-ltb (2 * p) (suc (2 * p)) (omega arith)) else clock senders
    where
      next : 2 * suc p ≡ suc (suc (2 * p))
      next = omega arith

      else : (q : ℕ) (d : Class) → (q ≡ p → d ≡ class_b → ⊥) → done_before (suc (2 * p)) q d ≡ done_before (2 * suc p) q d
      else q no_class n = refl
      else q class_a n = rw next (ltb_next (2 * q) (suc (2 * p)) (λ e. omega (arith, e)))
      else q class_b n = rw next (ltb_next (2 * q + 1) (suc (2 * p)) (λ e. n (omega (arith, e)) refl))

  turns : (n p : ℕ) → p + n ≤ 8 → admissions n p (shared sc now s (done_before (2 * p)) clock senders) ≡ shared sc now s (done_before (2 * (p + n))) clock senders
  unfolding admissions
  turns zero p h = rw (add-zero p)
  turns (suc n) p h =
      let e : p + suc n ≡ suc p + n = omega arith in
      ap (λ (b : Bridge). admissions n (suc p) (admission p class_b b)) (turn-a p (omega arith))
      ∙ ap (admissions n (suc p)) (turn-b p (omega arith))
      ∙ turns n (suc p) (omega arith)
      ∙ rw e

  -- before the first
  none_done : (q : ℕ) (d : Class) → done_before 0 q d ≡ false
  unfolding done_before
  none_done q no_class = refl
  none_done q class_a = le-ltb (2 * q) 0 (omega arith)
  none_done q class_b = le-ltb (2 * q + 1) 0 (omega arith)

  at_first : record { settings = sc.settings; clock = clock; totals = replicate 8 no_totals; owns = sc.owns; senders = senders; streams = map (early sc now) s } ≡ shared sc now s (done_before 0) clock senders
  unfolding shared
  at_first =
      rw (
        tabulate-same (totals_by sc now s (done_before 0)) (λ q. no_totals) 8 0 no-total,
        map_same (early sc now) (showing sc.settings now (column_by sc now s (done_before 0))) s early-shown,
      )
      (unfold tabulate in refl)
    where
      no-total : (q : ℕ) → 0 ≤ q → q < 0 + 8 → totals_by sc now s (done_before 0) q ≡ no_totals
      no-total q a b = unfold totals_by no_totals in (rw (none_done q class_a, none_done q class_b))

      early-shown : (x : Stream) → early sc now x ≡ showing sc.settings now (column_by sc now s (done_before 0)) x
      early-shown x =
          let alone : early sc now x ≡ showing sc.settings now (early_column sc) x = unfold early early_at showing in refl in
          alone
          ∙ showing-same sc now s (early_column sc) (column_by sc now s (done_before 0)) x
          (λ q b. unfold column_by in (rw (none_done q (stream_class sc.settings x))))

  -- after the last
  module _ (ports : length sc.settings.ports ≤ 8) where
    n : ℕ
    n = length sc.settings.ports

    past : (q : ℕ) → n ≤ q → is_port sc.settings q ≡ false
    unfolding is_port n
    past q h = le-ltb q n h

    decided-column : (q : ℕ) (x : Stream) → column_by sc now s (done_before (2 * n)) q x ≡ column_of sc now s q x
    unfolding column_by
    decided-column q x = go (stream_class sc.settings x) refl (two q n)
      where
        nothing-applies : clear (steps sc q x) ≡ false → early_column sc q x ≡ column_of sc now s q x
        nothing-applies = decided-early sc q x now s

        go : (d : Class) → stream_class sc.settings x ≡ d → Two q n →
            cond (done_before (2 * n) q d) (column_of sc now s q x) (early_column sc q x) ≡ column_of sc now s q x
        go no_class e w = unfold done_before in (nothing-applies (no-class sc q x e))
        go class_a e (lo h) = unfold done_before in (rw (lt-ltb (2 * q) (2 * n) (omega arith)))
        go class_a e (hi h) = unfold done_before in (rw (le-ltb (2 * q) (2 * n) (omega arith)) (nothing-applies (no-port sc q x (past q h))))
        go class_b e (lo h) = unfold done_before in (rw (lt-ltb (2 * q + 1) (2 * n) (omega arith)))
        go class_b e (hi h) = unfold done_before in (rw (le-ltb (2 * q + 1) (2 * n) (omega arith)) (nothing-applies (no-port sc q x (past q h))))

    -- no stream waits at a place that is no port
    no-claims : (q : ℕ) (c : Class) → n ≤ q → (l : List Stream) → claims sc now q c l ≡ []
    unfolding claims
    no-claims q c h [] = refl
    no-claims q c h (x ∷ l) = rw (no-port sc q x (past q h)) (no-claims q c h l)

    no-total : (q : ℕ) (c : Class) → n ≤ q → total_on sc now s q c ≡ 0
    unfolding total_on total sort reserved
    no-total q c h = rw (no-claims q c h s)

    decided-totals : (q : ℕ) → totals_by sc now s (done_before (2 * n)) q ≡ totals_on sc now s q
    unfolding totals_by totals_on done_before
    decided-totals q = go (two q n)
      where
        go : Two q n → totals_by sc now s (done_before (2 * n)) q ≡ totals_on sc now s q
        go (lo h) = rw (lt-ltb (2 * q) (2 * n) (omega arith), lt-ltb (2 * q + 1) (2 * n) (omega arith))
        go (hi h) =
            rw (
              le-ltb (2 * q) (2 * n) (omega arith),
              le-ltb (2 * q + 1) (2 * n) (omega arith),
              no-total q class_a h,
              no-total q class_b h,
            )

    at_last : shared sc now s (done_before (2 * n)) clock senders
        ≡ record { settings = sc.settings; clock = clock; totals = tabulate 8 0 (totals_on sc now s); owns = sc.owns; senders = senders; streams = map (showing sc.settings now (column_of sc now s)) s }
    unfolding shared
    at_last =
        rw (
          tabulate-same (totals_by sc now s (done_before (2 * n))) (totals_on sc now s) 8 0 (λ q a b. decided-totals q),
          map_same (showing sc.settings now (column_by sc now s (done_before (2 * n)))) (showing sc.settings now (column_of sc now s)) s
              (λ x. showing-same sc now s (column_by sc now s (done_before (2 * n))) (column_of sc now s) x (λ q b. decided-column q x)),
        )

    -- After the steps before h the admissions of all ports leave what advance decides, but for the Listeners declared.
    pub admissions-decide :
        admissions (length sc.settings.ports) 0 record { settings = sc.settings; clock = clock; totals = replicate 8 no_totals; owns = sc.owns; senders = senders; streams = map (early sc now) s }
        ≡ record {
          settings = sc.settings;
          clock = clock;
          totals = tabulate 8 0 (totals_on sc now s);
          owns = sc.owns;
          senders = senders;
          streams = map (showing sc.settings now (column_of sc now s)) s;
        }
    unfolding n
    admissions-decide = ap (admissions n 0) at_first ∙ (rw (zero-add n) at (turns n 0 (omega arith))) ∙ at_last
