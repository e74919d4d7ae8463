-- Latency that grows (02, v): the first latency of a Talker registration is that of the join that made it, and stays until the
-- registration is removed; an own failure has code 7 exactly where no earlier step applies and the present latency is above the
-- first; once it has fallen back, the next advance gives another column.
use mathlib.Core.Path.{◌≡◌, refl, sym, ◌∙◌}
use mathlib.Core.List.{List, map}
use mathlib.Core.Logic.{◌⊎◌, inl, inr}
use mathlib.Core.Bool.{Bool, true, false, cond}
use Prim.Native.Nat.{ℕ, ◌≤◌, ◌<◌}
use native.Mathlib.Omega.{arith}
use lib.Dec.{ltb}
use borrow.Author.Tests.{lt-ltb, ltb-true}
use Rattle.model.specs.Lists.{All}
use Rattle.model.specs.State.{Settings, Fixed, Varying, Talker, no_talker, talker, Cell, failed, Stream, Bridge, unsettled, cell_at, result_at}
use Rattle.model.specs.Registrations.{Kind, Act, leave_all, leave, talk, listen, hear_all, hear, of_domain, with_leaving, quit_talker, quit, same_fixed, first_join, same_join, other_join, join_talker, does}
use Rattle.model.specs.Settling.{expired, expire_talker, remain, Source, nowhere, from, source_of, latency_of, first_latency_of, talker_type_of, decide_owns, Scene, clear, is_talker_failed, steps_from, steps, column_of, decide_at, decide, declare, deciding, declaring, settle, inbounds_of}
use Rattle.model.specs.Table.{column_code}
use Rattle.model.proofs.OwnCodes.{gives, earlier, asked, never, once, steps_of, own-decided, own-only}
use Rattle.model.proofs.AdvanceKeepsForm.{all-mapped, all-dropped}
use Rattle.model.proofs.ColumnRule.{all-image}
use Rattle.model.proofs.Lists.{at_place}

-- The first latency. A Talker that is held has the first latency n.
abbrev pub First : ℕ → Talker → Type 0
First n no_talker = ⊥
First n (talker r) = r.first_latency ≡ n

-- the join that makes a registration gives it
pub first_made : (f : Fixed) (v : Varying) → First v.latency (join_talker f v no_talker)
unfolding join_talker first_join
first_made f v = refl

-- Every act leaves it: a join of either type, with the same values or with others, also of a Talker that is leaving; Lv and LeaveAll.

module _ (n now : ℕ) where
  quit-stays : (k : Kind) (t : Talker) → First n t → First n (quit_talker now k t)
  unfolding quit_talker with_leaving
  quit-stays k no_talker h = h
  quit-stays k (talker r) h = h

  join-stays : (f : Fixed) (v : Varying) (t : Talker) → First n t → First n (join_talker f v t)
  unfolding join_talker
  join-stays f v no_talker h = absurd h
  join-stays f v (talker r) h = go (same_fixed f r.fixed)
    where
      go : (b : Bool) → First n (talker (cond b (same_join v r) (other_join r)))
      go true = unfold same_join in h
      go false = unfold other_join in h

  pub first-stays : (a : Act) (c : Cell) → First n c.talks → First n (does now a c).talks
  unfolding does quit
  first-stays (leave_all k) c h = quit-stays k c.talks h
  first-stays (leave k i) c h = quit-stays k c.talks h
  first-stays (talk i f v) c h = join-stays f v c.talks h
  first-stays (listen i r) c h = h
  first-stays (hear_all k) c h = h
  first-stays (hear k i e) c h = h
  first-stays (of_domain d) c h = h

  -- an advance leaves it too, or removes the registration
  pub first-expires : (st : Settings) (t : Talker) → First n t → First n (expire_talker st now t) ⊎ (expire_talker st now t ≡ no_talker)
  unfolding expire_talker
  first-expires st no_talker h = absurd h
  first-expires st (talker r) h = go (expired st now r.leaving)
    where
      go : (b : Bool) → First n (cond b no_talker (talker r)) ⊎ (cond b no_talker (talker r) ≡ no_talker)
      go true = inr refl
      go false = inl h

-- Code 7: what step k tests is whether the latency is above the first.

module _ (sc : Scene) (p : ℕ) (here : Cell) (n : ℕ) where
  seven-asked : (o : Source) → asked 7 (steps_of sc p here n o) ≡ ltb (first_latency_of o) (latency_of o)
  unfolding steps_from asked gives first_latency_of latency_of
  seven-asked nowhere = refl
  seven-asked (from o) = refl

  seven-once : (o : Source) → once 7 (steps_of sc p here n o) ≡ true
  unfolding steps_from once never gives
  seven-once nowhere = refl
  seven-once (from o) = refl

module _ (sc : Scene) (now : ℕ) (s : List Stream) (p : ℕ) (x : Stream) where
  -- where no step before k applies and the latency is above the first, the column is Failed with this Bridge ID and code 7
  pub seven-decided : clear (earlier 7 (steps sc p x)) ≡ true → first_latency_of (source_of x) < latency_of (source_of x)
      → column_of sc now s p x ≡ failed sc.settings.bridge_id 7
  unfolding steps
  seven-decided free grown = own-decided sc now s p x 7 free (seven-asked sc p (cell_at x p) x.id (source_of x) ∙ lt-ltb _ _ grown)

  -- and code 7 of a stream that is not registered as Failed says so
  pub seven-only : is_talker_failed (talker_type_of (source_of x)) ≡ false → column_code (column_of sc now s p x) ≡ 7
      → (clear (earlier 7 (steps sc p x)) ≡ true) × (first_latency_of (source_of x) < latency_of (source_of x))
  unfolding steps
  seven-only whole e =
      let o = own-only sc now s p x 7 (omega arith) (seven-once sc p (cell_at x p) x.id (source_of x)) whole e in
      (o.0, ltb-true _ _ (sym (seven-asked sc p (cell_at x p) x.id (source_of x)) ∙ o.1))

-- The latency of an Advertise that is not above the first: on no port has the stream code 7.
abbrev pub Fallen : Stream → Type 0
Fallen x =
    is_talker_failed (talker_type_of (source_of x)) ≡ false → latency_of (source_of x) ≤ first_latency_of (source_of x)
    → (p : ℕ) → p < 8 → column_code (result_at x p).column ≡ 7 → ⊥

-- So it is after every advance, whatever was declared before.
pub fallen-back : (now : ℕ) (b : Bridge) → All Fallen (settle now b).streams
unfolding settle declaring deciding declare decide decide_at source_of result_at
fallen-back now b =
    all-dropped Fallen Fallen (λ y h f. f) (map declare (map (decide sc now s) s))
    (all-mapped Fallen Fallen declare (λ y f. f) (map (decide sc now s) s) (all-image Fallen (decide sc now s) fallen s))
  where
    s : List Stream
    s = remain b.settings now b.streams

    sc : Scene
    sc = record { settings = b.settings; owns = decide_owns b.settings now b.owns; inbound = inbounds_of s }

    fallen : (x : Stream) → Fallen (decide sc now s x)
    fallen x whole low p h e = omega (arith, (seven-only sc now s p x whole (rw (at_place (decide_at sc now s x) p unsettled h) at e)).1)
