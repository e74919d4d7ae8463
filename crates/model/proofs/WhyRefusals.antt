-- Demand 1 for why: what it answers for every input. A refusal leaves every octet of the buffer, with zero or none for all else, and
-- each number is given exactly when 02's text says so: "12 and 1 as before; then 15 where the stream isn't held; then 10 where the
-- buffer is below 63 x 16 octets". (why gives back no table: it is a function of the table that it is handed.)
use mathlib.Core.Path.{◌≡◌, refl, sym, ◌∙◌, ap}
use mathlib.Core.Logic.{◌↔◌, inl, inr}
use mathlib.Core.List.{List, [], ◌∷◌}
use mathlib.Core.Bool.{Bool, true, false, cond, not}
use Prim.Native.Nat.{ℕ, suc, ◌-◌, ◌≤◌, ◌<◌}
use native.Mathlib.Omega.{arith}
use lib.ListN.{length, get_or}
use lib.Dec.{ltb, eqb}
use borrow.Author.Tests.{eqb-true, eqb-false, le-ltb}
use Rattle.model.specs.Lists.{All}
use Rattle.model.specs.State.{Stream, fresh}
use Rattle.model.specs.Frames.{wrong_port}
use Rattle.model.specs.Why.{Sought, not_held, held_as, seek, reason, list_size}
use Rattle.model.specs.Table.{decode, formed}
use Rattle.model.specs.Calls.{WhyCall, refused_why, explained, why_held, why_on}
use Rattle.model.proofs.Refusals.{cond_either, cond_of, OneOf, is_below, is-at-least, given, not-given, last, OnPort, fronted, fronted-12, fronted-1, fronted-past, fronted-all}

-- The stream by its StreamID.

held_none : (x : Stream) → held_as x ≡ not_held → ⊥
held_none x e = let z : ◌≡◌ {A = ℕ} 0 1 = cc in omega arith

-- one that is held, at some place
pub record SoughtAt (id : ℕ) (s : List Stream) (x : Stream) : Type 0 where
  pub place : ℕ
  pub within : place < length s
  pub there : get_or s place (fresh 0) ≡ x
  pub named : x.id ≡ id

same-held : (x y : Stream) → held_as x ≡ held_as y → x ≡ y
same-held x y e = cc

pub seek-held : (id : ℕ) (s : List Stream) (x : Stream) → seek id s ≡ held_as x → SoughtAt id s x
unfolding seek
seek-held id [] x e = absurd (held_none x (sym e))
seek-held id (y ∷ s) x e = go (eqb y.id id) refl e (seek-held id s x)
  where
    go : (b : Bool) → eqb y.id id ≡ b → cond b (held_as y) (seek id s) ≡ held_as x → (seek id s ≡ held_as x → SoughtAt id s x) → SoughtAt id (y ∷ s) x
    go true f e ih =
        let q : y ≡ x = same-held y x e in
        record { place = 0; within = omega arith; there = q; named = rw (← q) (eqb-true y.id id f) }
    go false f e ih =
        let w = ih e in
        record { place = suc w.place; within = omega (arith, w.within); there = w.there; named = w.named }

-- and none exactly where every stream has another StreamID
pub seek-none : (id : ℕ) (s : List Stream) → (seek id s ≡ not_held) ↔ All (λ x. x.id ≡ id → ⊥) s
unfolding seek
seek-none id [] = (λ e. tt, λ a. refl)
seek-none id (y ∷ s) = go (eqb y.id id) refl (seek-none id s)
  where
    go : (b : Bool) → eqb y.id id ≡ b → (seek id s ≡ not_held) ↔ All (λ x. x.id ≡ id → ⊥) s
        → (cond b (held_as y) (seek id s) ≡ not_held) ↔ ((y.id ≡ id → ⊥) × All (λ x. x.id ≡ id → ⊥) s)
    go true f ih = (λ e. absurd (held_none y e), λ a. absurd (a.0 (eqb-true y.id id f)))
    go false f ih = (λ e. (eqb-false y.id id f, ih.0 e), λ a. ih.1 a.1)

-- A refusal leaves the buffer, and gives zero or none for all else.

Unexplained : List ℕ → WhyCall → Type 0
Unexplained buffer r = (r.number ≡ 0 → ⊥) → r ≡ refused_why r.number buffer

pub why-refused : (t : List ℕ) (id p : ℕ) (buffer : List ℕ) → ((why_on t id p buffer).number ≡ 0 → ⊥) → why_on t id p buffer ≡ refused_why (why_on t id p buffer).number buffer
unfolding why_on why_held refused_why explained Unexplained
why-refused t id p buffer =
    cond_either (Unexplained buffer) (not (formed t)) _ _ (λ n. refl)
    (cond_either (Unexplained buffer) (wrong_port (decode t).settings p) _ _ (λ n. refl) (sought (seek id (decode t).streams)))
  where
    sought : (r : Sought) → Unexplained buffer (why_held (decode t) p buffer r)
    sought not_held = λ n. refl
    sought (held_as x) = cond_either (Unexplained buffer) (ltb (length buffer) list_size) _ _ (λ n. refl) (λ n. absurd (n refl))

-- 15, then 10
module _ (t : List ℕ) (id p : ℕ) (buffer : List ℕ) where
  buffer_number : ℕ
  buffer_number = cond (ltb (length buffer) list_size) 10 0

  sought_number : Sought → ℕ
  sought_number not_held = 15
  sought_number (held_as x) = buffer_number

  no_buffer : (n : ℕ) → (10 ≡ n → ⊥) → (0 ≡ n → ⊥) → buffer_number ≡ n → ⊥
  unfolding buffer_number
  no_buffer n h k = not-given (ltb (length buffer) list_size) 10 0 n h k

  no_stream : (r : Sought) (n : ℕ) → (15 ≡ n → ⊥) → (10 ≡ n → ⊥) → (0 ≡ n → ⊥) → sought_number r ≡ n → ⊥
  unfolding sought_number
  no_stream not_held n h k l = h
  no_stream (held_as x) n h k l = no_buffer n k l

  why-number : (why_on t id p buffer).number ≡ fronted t p (sought_number (seek id (decode t).streams))
  unfolding why_on why_held explained refused_why fronted sought_number buffer_number
  why-number = go (not (formed t)) (wrong_port (decode t).settings p) _ ∙ ap (fronted t p) (sought (seek id (decode t).streams))
    where
      go : (a b : Bool) (r : WhyCall) → (cond a (refused_why 12 buffer) (cond b (refused_why 1 buffer) r)).number ≡ cond a 12 (cond b 1 r.number)
      go true b r = refl
      go false true r = refl
      go false false r = refl

      sought : (r : Sought) → (why_held (decode t) p buffer r).number ≡ sought_number r
      sought not_held = refl
      sought (held_as x) = cond_of (λ (r : WhyCall). r.number) (ltb (length buffer) list_size) _ _

  pub why-12 : ((why_on t id p buffer).number ≡ 12) ↔ (formed t ≡ false)
  why-12 = rw why-number (fronted-12 t p _ (no_stream (seek id (decode t).streams) 12 (λ e. omega arith) (λ e. omega arith) (λ e. omega arith)))

  pub why-1 : ((why_on t id p buffer).number ≡ 1) ↔ ((formed t ≡ true) × (wrong_port (decode t).settings p ≡ true))
  why-1 = rw why-number (fronted-1 t p _ (no_stream (seek id (decode t).streams) 1 (λ e. omega arith) (λ e. omega arith) (λ e. omega arith)))

  sought-none : (r : Sought) → (sought_number r ≡ 15) ↔ (r ≡ not_held)
  unfolding sought_number
  sought-none not_held = (λ e. refl, λ e. refl)
  sought-none (held_as x) = (λ e. absurd (no_buffer 15 (λ e. omega arith) (λ e. omega arith) e), λ e. absurd (held_none x e))

  pub why-15 : ((why_on t id p buffer).number ≡ 15) ↔ (OnPort t p × (seek id (decode t).streams ≡ not_held))
  why-15 = rw why-number (fronted-past t p _ 15 _ (λ e. omega arith) (λ e. omega arith) (sought-none (seek id (decode t).streams)))

  -- once the stream is found, the buffer's number
  sought-held : (r : Sought) (n : ℕ) (P : Type 0) → (15 ≡ n → ⊥) → (buffer_number ≡ n) ↔ P → (sought_number r ≡ n) ↔ ((x : Stream) × (r ≡ held_as x) × P)
  unfolding sought_number
  sought-held not_held n P h i = (λ e. absurd (h e), λ a. absurd (held_none a.0 (sym a.1)))
  sought-held (held_as x) n P h i = (λ e. (x, refl, i.0 e), λ a. i.1 a.2)

  why-held : (n : ℕ) (P : Type 0) → (12 ≡ n → ⊥) → (1 ≡ n → ⊥) → (15 ≡ n → ⊥) → (buffer_number ≡ n) ↔ P →
      ((why_on t id p buffer).number ≡ n) ↔ (OnPort t p × ((x : Stream) × (seek id (decode t).streams ≡ held_as x) × P))
  why-held n P h k l i = rw why-number (fronted-past t p _ n _ h k (sought-held (seek id (decode t).streams) n P l i))

  pub why-10 : ((why_on t id p buffer).number ≡ 10) ↔
      (OnPort t p × ((x : Stream) × (seek id (decode t).streams ≡ held_as x) × (length buffer < list_size)))
  unfolding buffer_number
  why-10 = why-held 10 _ (λ e. omega arith) (λ e. omega arith) (λ e. omega arith) (given _ 10 0 _ (λ e. omega arith) (is_below (length buffer) list_size))

  pub why-0 : ((why_on t id p buffer).number ≡ 0) ↔
      (OnPort t p × ((x : Stream) × (seek id (decode t).streams ≡ held_as x) × (list_size ≤ length buffer)))
  unfolding buffer_number
  why-0 = why-held 0 _ (λ e. omega arith) (λ e. omega arith) (λ e. omega arith) (last _ 10 (λ e. omega arith) (is-at-least (length buffer) list_size))

  pub why-numbers : OneOf (0 ∷ 1 ∷ 10 ∷ 12 ∷ 15 ∷ []) (why_on t id p buffer).number
  why-numbers =
      rw why-number
      (fronted-all (OneOf (0 ∷ 1 ∷ 10 ∷ 12 ∷ 15 ∷ [])) t p _ (inr (inr (inr (inl refl)))) (inr (inl refl)) (sought (seek id (decode t).streams)))
    where
      sought : (r : Sought) → OneOf (0 ∷ 1 ∷ 10 ∷ 12 ∷ 15 ∷ []) (sought_number r)
      sought not_held = unfold sought_number in (inr (inr (inr (inr (inl refl)))))
      sought (held_as x) =
          unfold sought_number buffer_number in
          (cond_either (OneOf (0 ∷ 1 ∷ 10 ∷ 12 ∷ 15 ∷ [])) (ltb (length buffer) list_size) 10 0 (inr (inr (inl refl))) (inl refl))

  -- What it answers where it is accepted.
  pub why-tells : OnPort t p → (x : Stream) → seek id (decode t).streams ≡ held_as x → list_size ≤ length buffer → why_on t id p buffer ≡ explained buffer (reason (decode t) (p - 1) x)
  unfolding why_on why_held
  why-tells o x e l = rw (o.0, o.1, e, le-ltb (length buffer) list_size l)
