-- Laws of what the last advance stored, beside the registrations: rules port by port, and ports counted.
use mathlib.Core.Path.{◌≡◌, refl, ap}
use mathlib.Core.List.{List, [], ◌∷◌}
use mathlib.Core.Bool.{Bool, true, false, not, ◌&&◌, false≢true}
use Prim.Native.Nat.{ℕ, zero, suc, ◌+◌, ◌≤◌, ◌<◌}
use native.Mathlib.Omega.{arith}
use lib.ListN.{length, get_or, replicate}
use lib.Dec.{ltb, eqb}
use borrow.Author.Tests.{ltb-true, lt-ltb, eqb-true, eqb-false}
use Rattle.model.specs.Lists.{implies, tabulate, bit}
use Rattle.model.specs.State.{Cell, Result, empty, unsettled}
use Rattle.model.specs.Registrations.{at}
use Rattle.model.specs.Settling.{is_talking, is_hearing}
use Rattle.model.specs.Table.{talkers, has_column, declares, declarers, for_listener, stored_rules, stored_formed, every_port}
use Rattle.model.proofs.Lists.{and_left, and_right, and_both, implied, implies_true, all_true_lem, true-all}
use Rattle.model.proofs.Parts.{◌also◌}

-- Rules port by port.

module _ {A B : Type 0} (rule : A → B → Bool) (a : A) (b : B) where
  pub port-kept : (k : ℕ) (cs : List A) (rs : List B) → every_port rule k cs rs ≡ true
      → (p : ℕ) → p < k → p < length cs → p < length rs → rule (get_or cs p a) (get_or rs p b) ≡ true
  unfolding every_port
  port-kept zero cs rs e p h l m = absurd (omega arith)
  port-kept (suc k) [] rs e p h l m = absurd (omega arith)
  port-kept (suc k) (c ∷ cs) [] e p h l m = absurd (omega arith)
  port-kept (suc k) (c ∷ cs) (r ∷ rs) e zero h l m = and_left (rule c r) (every_port rule k cs rs) e
  port-kept (suc k) (c ∷ cs) (r ∷ rs) e (suc p) h l m =
      port-kept k cs rs (and_right (rule c r) (every_port rule k cs rs) e) p (omega arith) (omega arith) (omega arith)

  pub ports-kept : (k : ℕ) (cs : List A) (rs : List B)
      → ((p : ℕ) → p < k → rule (get_or cs p a) (get_or rs p b) ≡ true) → every_port rule k cs rs ≡ true
  unfolding every_port
  ports-kept zero cs rs h = refl
  ports-kept (suc k) [] rs h = refl
  ports-kept (suc k) (c ∷ cs) [] h = refl
  ports-kept (suc k) (c ∷ cs) (r ∷ rs) h =
      and_both (rule c r) (every_port rule k cs rs) (h 0 (omega arith)) (ports-kept k cs rs (λ p l. h (suc p) (omega arith)))

-- Talkers counted: one is counted, one besides another, and one that an act puts there.

silent : is_talking empty ≡ true → ⊥
unfolding is_talking empty
silent e = false≢true e

pub talker-counts : (k p : ℕ) (cs : List Cell) → p < k → is_talking (get_or cs p empty) ≡ true → 1 ≤ talkers k cs
unfolding talkers bit
talker-counts zero p cs h e = absurd (omega arith)
talker-counts (suc k) p [] h e = absurd (silent e)
talker-counts (suc k) zero (c ∷ cs) h e = rw e (omega arith)
talker-counts (suc k) (suc p) (c ∷ cs) h e = omega (arith, talker-counts k p cs (omega arith) e)

own-counts : (k p : ℕ) (cs : List Cell) → p < k → bit (is_talking (get_or cs p empty)) ≤ talkers k cs
unfolding bit
own-counts k p cs h = go (is_talking (get_or cs p empty)) refl
  where
    go : (t : Bool) → is_talking (get_or cs p empty) ≡ t → bit t ≤ talkers k cs
    go true e = talker-counts k p cs h e
    go false e = omega arith

pub other-counts : (k p q : ℕ) (cs : List Cell) → (p ≡ q → ⊥) → p < k → q < k → is_talking (get_or cs q empty) ≡ true
    → bit (is_talking (get_or cs p empty)) < talkers k cs
unfolding talkers bit
other-counts zero p q cs n h g e = absurd (omega arith)
other-counts (suc k) p q [] n h g e = absurd (silent e)
other-counts (suc k) zero zero (c ∷ cs) n h g e = absurd (n refl)
other-counts (suc k) zero (suc q) (c ∷ cs) n h g e = omega (arith, talker-counts k q cs (omega arith) e)
other-counts (suc k) (suc p) zero (c ∷ cs) n h g e = rw e (omega (arith, own-counts k p cs (omega arith)))
other-counts (suc k) (suc p) (suc q) (c ∷ cs) n h g e =
    omega (arith, other-counts k p q cs (λ x. n (ap suc x)) (omega arith) (omega arith) e)

module _ (u : Cell → Cell) where
  talkers-changed : (k p : ℕ) (cs : List Cell) → p < k → p < length cs
      → talkers k cs + bit (is_talking (u (get_or cs p empty))) ≤ talkers k (at p u cs) + bit (is_talking (get_or cs p empty))
  unfolding talkers at
  talkers-changed zero p cs h l = absurd (omega arith)
  talkers-changed (suc k) p [] h l = absurd (omega arith)
  talkers-changed (suc k) zero (c ∷ cs) h l = omega arith
  talkers-changed (suc k) (suc p) (c ∷ cs) h l = omega (arith, talkers-changed k p cs (omega arith) (omega arith))

  changed-here : (p : ℕ) (cs : List Cell) → p < length cs → get_or (at p u cs) p empty ≡ u (get_or cs p empty)
  unfolding at
  changed-here p [] h = absurd (omega arith)
  changed-here zero (c ∷ cs) h = refl
  changed-here (suc p) (c ∷ cs) h = changed-here p cs (omega arith)

  changed-elsewhere : (p q : ℕ) (cs : List Cell) → (p ≡ q → ⊥) → get_or (at p u cs) q empty ≡ get_or cs q empty
  unfolding at
  changed-elsewhere p q [] n = refl
  changed-elsewhere zero zero (c ∷ cs) n = absurd (n refl)
  changed-elsewhere zero (suc q) (c ∷ cs) n = refl
  changed-elsewhere (suc p) zero (c ∷ cs) n = refl
  changed-elsewhere (suc p) (suc q) (c ∷ cs) n = changed-elsewhere p q cs (λ e. n (ap suc e))

-- What is stored still goes with registrations that stayed, and with those that came.

-- of cells before and after: a Talker, and a Listener, stays
pub record Stays (c d : Cell) : Type 0 where
  pub talks : is_talking c ≡ true → is_talking d ≡ true
  pub hears : is_hearing c ≡ true → is_hearing d ≡ true

same-stays : (c d : Cell) → c ≡ d → Stays c d
same-stays c d e = record { talks = λ h. rw e at h; hears = λ h. rw e at h }

bit-stays : (s t : Bool) → (s ≡ true → t ≡ true) → bit s ≤ bit t
unfolding bit
bit-stays true t h = rw (h refl) (omega arith)
bit-stays false t h = omega arith

implies-more : (a b c : Bool) → (b ≡ true → c ≡ true) → implies a b ≡ true → implies a c ≡ true
implies-more a b c f h = implies_true a c (λ e. f (implied a b h e))

stored-stays : (n m : ℕ) (c d : Cell) (r : Result) → Stays c d → n + bit (is_talking d) ≤ m + bit (is_talking c)
    → stored_formed n c r ≡ true → stored_formed m d r ≡ true
unfolding stored_formed stored_rules
stored-stays n m c d r s h e =
    let a = all_true_lem (stored_rules n c r) e in
    let column = not (has_column r.column) in
    true-all (stored_rules m d r)
    (implies-more (has_column r.column) (ltb (bit (is_talking c)) n) (ltb (bit (is_talking d)) m)
    (λ l. let before : bit (is_talking c) < n = ltb-true (bit (is_talking c)) n l in lt-ltb (bit (is_talking d)) m (omega arith)) a.0
    also implies-more (declares r.declares) (column && is_talking c) (column && is_talking d)
    (λ l. and_both column (is_talking d) (and_left column (is_talking c) l) (s.talks (and_right column (is_talking c) l))) a.1.0
    also implies-more (for_listener r.column r.entry) (is_hearing c) (is_hearing d) s.hears a.1.1.0
    also tt)

-- the cell at place p changed, and all results as they were
module _ (u : Cell → Cell) (stays : (c : Cell) → Stays c (u c)) (k p : ℕ) (cs : List Cell) (here : p < k) (there : p < length cs) where
  pub talkers-stay : talkers k cs ≤ talkers k (at p u cs)
  talkers-stay =
      let c = get_or cs p empty in
      omega (arith, talkers-changed u k p cs here there, bit-stays (is_talking c) (is_talking (u c)) (stays c).talks)

  pub stored-kept : (rs : List Result) → ((q : ℕ) → q < k → stored_formed (talkers k cs) (get_or cs q empty) (get_or rs q unsettled) ≡ true)
      → (q : ℕ) → q < k → stored_formed (talkers k (at p u cs)) (get_or (at p u cs) q empty) (get_or rs q unsettled) ≡ true
  stored-kept rs before q h = go (eqb p q) refl
    where
      n : ℕ
      n = talkers k cs

      m : ℕ
      m = talkers k (at p u cs)

      go : (t : Bool) → eqb p q ≡ t → stored_formed m (get_or (at p u cs) q empty) (get_or rs q unsettled) ≡ true
      go true e =
          let same : p ≡ q = eqb-true p q e in
          let c = get_or cs p empty in
          rw (← same, changed-here u p cs there)
          (stored-stays n m c (u c) (get_or rs p unsettled) (stays c) (talkers-changed u k p cs here there) (before p here))
      go false e =
          rw (changed-elsewhere u p q cs (eqb-false p q e))
          (stored-stays n m (get_or cs q empty) (get_or cs q empty) (get_or rs q unsettled) (same-stays _ _ refl) (omega (arith, talkers-stay)) (before q h))

-- Nothing stored goes with any registrations.

pub unsettled-stored : (n : ℕ) (c : Cell) → stored_formed n c unsettled ≡ true
unfolding stored_formed stored_rules unsettled has_column declares for_listener
unsettled-stored n c = true-all (stored_rules n c unsettled) (refl also refl also refl also tt)

-- Ports that declare a Listener, counted.

none-declare : (k m p : ℕ) (f : ℕ → Result) → ((q : ℕ) → p ≤ q → declares (f q).declares ≡ false) → declarers k (tabulate m p f) ≡ 0
unfolding declarers tabulate bit
none-declare zero m p f h = refl
none-declare (suc k) zero p f h = refl
none-declare (suc k) (suc m) p f h = rw (h p (omega arith)) (omega (arith, none-declare k m (suc p) f (λ q l. h q (omega arith))))

bit-one : (t : Bool) → bit t ≤ 1
unfolding bit
bit-one true = omega arith
bit-one false = omega arith

pub one-declares : (k m p o : ℕ) (f : ℕ → Result) → ((q : ℕ) → (q ≡ o → ⊥) → declares (f q).declares ≡ false) → declarers k (tabulate m p f) ≤ 1
unfolding declarers tabulate
one-declares zero m p o f h = omega arith
one-declares (suc k) zero p o f h = omega arith
one-declares (suc k) (suc m) p o f h = go (eqb p o) refl (one-declares k m (suc p) o f h)
  where
    go : (t : Bool) → eqb p o ≡ t → declarers k (tabulate m (suc p) f) ≤ 1 → bit (declares (f p).declares) + declarers k (tabulate m (suc p) f) ≤ 1
    go true e ih =
        let here : p ≡ o = eqb-true p o e in
        omega (arith, bit-one (declares (f p).declares), none-declare k m (suc p) f (λ q l. h q (λ x. omega arith)))
    go false e ih = rw (h p (eqb-false p o e)) (unfold bit in omega arith)

pub unsettled-declare : (k m : ℕ) → declarers k (replicate m unsettled) ≡ 0
unfolding declarers unsettled declares bit
unsettled-declare zero m = refl
unsettled-declare (suc k) zero = refl
unsettled-declare (suc k) (suc m) = omega (arith, unsettled-declare k m)
