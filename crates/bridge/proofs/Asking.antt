-- What why answers, by the tests of the code: the stream by its StreamID, and a refusal by its number.
use mathlib.Core.Path.{◌≡◌, refl, sym, ap, ◌∙◌}
use mathlib.Core.List.{List, [], ◌∷◌}
use mathlib.Core.Bool.{Bool, true, false, cond}
use Prim.Native.Nat.{ℕ, suc, ◌-◌, ◌≤◌, ◌<◌}
use native.Mathlib.Omega.{arith}
use lib.ListN.{length, get_or}
use lib.Dec.{ltb, eqb}
use borrow.Author.Tests.{ltb-true, eq-eqb, ne_eqb, eqb-true, eqb-false}
use Rattle.model.specs.Lists.{All}
use Rattle.model.specs.State.{Stream, fresh}
use Rattle.model.specs.Registrations.{ids}
use Rattle.model.specs.Laid.{Ascending}
use Rattle.model.specs.Why.{not_held, held_as, seek}
use Rattle.model.specs.Calls.{refused_why, why_on}
use Rattle.model.specs.Frames.{wrong_port}
use Rattle.model.specs.Table.{formed, decode}
use Rattle.model.proofs.Lists.{all_map}
use Rattle.model.proofs.WhyRefusals.{why-refused}
use Rattle.table.specs.Find.{found_at}
use Rattle.std.specs.Prelude.{Result, Ok, Err}
use Rattle.bridge.specs.Promises.{port_refusal}

-- The stream by its StreamID, among ascending ones.

pub record HeldAt (id j k : ℕ) (s : List Stream) : Type 0 where
  pub after : j ≤ k
  pub within : k - j < length s
  pub is : seek id s ≡ held_as (get_or s (k - j) (fresh 0))

at-is : (j k : ℕ) → ◌≡◌ {A = Result ℕ ℕ} (Ok j) (Ok k) → j ≡ k
at-is j k e = cc

not-both : (j k : ℕ) → ◌≡◌ {A = Result ℕ ℕ} (Err j) (Ok k) → ⊥
not-both j k e = let z : ◌≡◌ {A = ℕ} 0 1 = cc in absurd (omega arith)

pub found-held : (id : ℕ) (s : List Stream) (j k : ℕ) → found_at id j (ids s) ≡ Ok k → HeldAt id j k s
unfolding found_at ids seek
found-held id [] j k e = absurd (not-both j k e)
found-held id (x ∷ s) j k e = go (ltb id x.id) (eqb id x.id) refl e (found-held id s (suc j) k)
  where
    go : (a b : Bool) → eqb id x.id ≡ b → cond a (Err j) (cond b (Ok j) (found_at id (suc j) (ids s))) ≡ Ok k
        → (found_at id (suc j) (ids s) ≡ Ok k → HeldAt id (suc j) k s) → HeldAt id j k (x ∷ s)
    go true b f e ih = absurd (not-both j k e)
    go false true f e ih =
        let q : j ≡ k = at-is j k e in
        let z : k - j ≡ 0 = omega arith in
        record { after = omega arith; within = rw z (omega arith); is = rw (z, eq-eqb x.id id (sym (eqb-true id x.id f))) }
    go false false f e ih =
        let w = ih e in
        let z : k - j ≡ suc (k - suc j) = omega (arith, w.after) in
        record { after = omega (arith, w.after); within = rw z (omega (arith, w.within)); is = rw (z, ne_eqb x.id id (λ q. eqb-false id x.id f (sym q))) w.is }

none-lower : (id : ℕ) (s : List Stream) → All (λ i. id < i) (ids s) → seek id s ≡ not_held
unfolding ids seek
none-lower id [] a = refl
none-lower id (x ∷ s) a = rw (ne_eqb x.id id (λ q. omega (arith, q, a.0))) (none-lower id s a.1)

pub not_found : (id : ℕ) (s : List Stream) → Ascending (ids s) → (j k : ℕ) → found_at id j (ids s) ≡ Err k → seek id s ≡ not_held
unfolding found_at ids seek
not_found id [] r j k e = refl
not_found id (x ∷ s) r j k e = go (ltb id x.id) (eqb id x.id) refl refl e (not_found id s r.1 (suc j) k)
  where
    go : (a b : Bool) → ltb id x.id ≡ a → eqb id x.id ≡ b → cond a (Err j) (cond b (Ok j) (found_at id (suc j) (ids s))) ≡ Err k
        → (found_at id (suc j) (ids s) ≡ Err k → seek id s ≡ not_held) → cond (eqb x.id id) (held_as x) (seek id s) ≡ not_held
    go true b l f e ih =
        let low = ltb-true id x.id l in
        rw (ne_eqb x.id id (λ q. omega (arith, q, low)))
        (none-lower id s (all_map (λ i. x.id < i) (λ i. id < i) (λ i h. omega (arith, low)) (ids s) r.0))
    go false true l f e ih = absurd (not-both k j (sym e))
    go false false l f e ih = rw (ne_eqb x.id id (λ q. eqb-false id x.id f (sym q))) (ih e)

-- A refusal, by its number.
pub refuses : (t : List ℕ) (id p : ℕ) (buffer : List ℕ) (n : ℕ) → (n ≡ 0 → ⊥) → (why_on t id p buffer).number ≡ n → refused_why n buffer ≡ why_on t id p buffer
refuses t id p buffer n z e = sym (why-refused t id p buffer (λ q. z (sym e ∙ q)) ∙ ap (λ (m : ℕ). refused_why m buffer) e)

-- A port that is refused, before the stream is sought.
pub why-of-port : (t : List ℕ) (id p : ℕ) (buffer : List ℕ) (n : ℕ) → n ≡ port_refusal t p → (n ≡ 0 → ⊥) → refused_why n buffer ≡ why_on t id p buffer
unfolding why_on port_refusal
why-of-port t id p buffer n e z = go (formed t) (wrong_port (decode t).settings p) refl refl
  where
    go : (h w : Bool) → formed t ≡ h → wrong_port (decode t).settings p ≡ w → refused_why n buffer ≡ why_on t id p buffer
    go true true h w = let q : n ≡ 1 = e ∙ rw (h, w) in rw (h, w, q)
    go true false h w = absurd (z (e ∙ rw (h, w)))
    go false w h v = let q : n ≡ 12 = e ∙ rw h in rw (h, q)
