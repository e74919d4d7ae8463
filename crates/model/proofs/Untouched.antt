-- What an unimportant stream can't touch (02, xii): two bridges, whatever else they hold, are advanced to one time. Where they agree on
-- what is named here of a stream and a port, its column, code and entry on that port are equal in both, however the less important
-- streams differ.
use mathlib.Core.Path.{◌≡◌, refl, sym, ◌∙◌, ap}
use mathlib.Core.List.{List}
use mathlib.Core.Bool.{Bool, true, false, not, ◌&&◌}
use Prim.Native.Nat.{ℕ, ◌<◌}
use lib.ListN.{length, get_or}
use Rattle.model.specs.State.{Settings, Fixed, Own, Stream, Bridge, fresh, unsettled, stream_at, result_at, Class, no_class, class_a, class_b, class_of, in_force, port_at, cell_at, own_at}
use Rattle.model.specs.Bandwidth.{key, above, remains}
use Rattle.model.specs.Settling.{Scene, Inbound, inbounds_of, decide_owns, remain, Source, nowhere, from, source_of, fixed_of, stream_class, boundary, holds_address, is_pruned, steps_from, steps, claim, claims, reserved_a, limit_on, left_for, column_of, decide_at, decide, total_on, deciding}
use Rattle.model.specs.Table.{column_code}
use Rattle.model.proofs.Lists.{get_or_map, at_place}
use Rattle.model.proofs.ColumnRule.{reserved-a}
use Rattle.model.proofs.ComingIn.{at_talker, sharing, kept_out}

-- The streams that an advance of b to the time now decides, and what their columns are decided by.
abbrev pub remaining : ℕ → Bridge → List Stream
remaining now b = remain b.settings now b.streams

abbrev pub scene_at : ℕ → Bridge → Scene
scene_at now b = record { settings = b.settings; owns = decide_owns b.settings now b.owns; inbound = inbounds_of (remaining now b) }

-- What two bridges agree on: of the stream x of one and x' of the other, on the port at place p.
pub record Alike (now : ℕ) (b b' : Bridge) (p : ℕ) (x x' : Stream) : Type 0 where
  pub settings : b.settings ≡ b'.settings
  -- "on that stream's registrations at every port"
  pub registrations : x.cells ≡ x'.cells
  -- "on all streams of that class which are more important there, with the same column steps before bandwidth, the same demands, the
  -- same ranks, the same age starts and the same Listeners": those that reach step h, each with StreamID, rank, age start, demand and
  -- whether its Listener is ready
  pub important : above (key (claim b.settings now p x)) (claims (scene_at now b) now p (stream_class b.settings x) (remaining now b))
      ≡ above (key (claim b'.settings now p x')) (claims (scene_at now b') now p (stream_class b'.settings x') (remaining now b'))
  -- "Where class B borrows, they must agree on class A's total on that port too"
  pub borrowed : stream_class b.settings x ≡ class_b → total_on (scene_at now b) now (remaining now b) p class_a ≡ total_on (scene_at now b') now (remaining now b') p class_a
  -- "For codes 5, 8 and 15 .. the facts that those tests read": whether a lower StreamID has its address, whether the port is at the
  -- edge of its class's domain, whether its Talker port may bring streams in
  pub address : sharing (inbounds_of (remaining now b)) x.id (source_of x) ≡ sharing (inbounds_of (remaining now b')) x'.id (source_of x')
  pub edge : boundary (own_at (scene_at now b).owns p) (stream_class b.settings x) ≡ boundary (own_at (scene_at now b').owns p) (stream_class b'.settings x')
  pub inbound : kept_out b.settings.fan_in (inbounds_of (remaining now b)) (source_of x) ≡ kept_out b'.settings.fan_in (inbounds_of (remaining now b')) (source_of x')
  -- "and for pruning": where it is on, whether the port holds the stream's destination
  pub wanted : b.settings.pruning ≡ true →
      holds_address (fixed_of (source_of x)).destination (own_at (scene_at now b).owns p).addresses
      ≡ holds_address (fixed_of (source_of x')).destination (own_at (scene_at now b').owns p).addresses

-- The same of scenes with one setting.

abbrev scene : Settings → List Own → List Inbound → Scene
scene st o i = record { settings = st; owns = o; inbound = i }

module _ (st : Settings) (o o' : List Own) (i i' : List Inbound) (now p : ℕ) (s s' : List Stream) (x x' : Stream) (cells : x.cells ≡ x'.cells)
    (important : above (key (claim st now p x)) (claims (scene st o i) now p (stream_class st x) s)
    ≡ above (key (claim st now p x')) (claims (scene st o' i') now p (stream_class st x') s'))
    (borrowed : stream_class st x ≡ class_b → total_on (scene st o i) now s p class_a ≡ total_on (scene st o' i') now s' p class_a)
    (address : sharing i x.id (source_of x) ≡ sharing i' x'.id (source_of x'))
    (edge : boundary (own_at o p) (stream_class st x) ≡ boundary (own_at o' p) (stream_class st x'))
    (inbound : kept_out st.fan_in i (source_of x) ≡ kept_out st.fan_in i' (source_of x'))
    (wanted : st.pruning ≡ true → holds_address (fixed_of (source_of x)).destination (own_at o p).addresses
    ≡ holds_address (fixed_of (source_of x')).destination (own_at o' p).addresses) where
  same_source : source_of x ≡ source_of x'
  unfolding source_of
  same_source = rw cells

  same_class : stream_class st x ≡ stream_class st x'
  unfolding stream_class
  same_class = rw same_source

  same-limit : limit_on (scene st o i) now s p (stream_class st x) ≡ limit_on (scene st o' i') now s' p (stream_class st x')
  unfolding limit_on
  same-limit = rw (← same_class) (go (stream_class st x) refl)
    where
      go : (c : Class) → stream_class st x ≡ c
          → in_force (port_at st p) (reserved_a (scene st o i) now s p) c ≡ in_force (port_at st p) (reserved_a (scene st o' i') now s' p) c
      go no_class e = unfold in_force in refl
      go class_a e = unfold in_force in refl
      go class_b e =
          ap (λ (n : ℕ). in_force (port_at st p) n class_b)
          (reserved-a (scene st o i) now s p ∙ borrowed e ∙ sym (reserved-a (scene st o' i') now s' p))

  same-pruning : (f : Fixed) → (st.pruning ≡ true → holds_address f.destination (own_at o p).addresses ≡ holds_address f.destination (own_at o' p).addresses)
      → is_pruned st (own_at o p) f ≡ is_pruned st (own_at o' p) f
  unfolding is_pruned
  same-pruning f h = go st.pruning h
    where
      go : (t : Bool) → (t ≡ true → holds_address f.destination (own_at o p).addresses ≡ holds_address f.destination (own_at o' p).addresses)
          → (t && not (holds_address f.destination (own_at o p).addresses)) ≡ (t && not (holds_address f.destination (own_at o' p).addresses))
      go true k = ap not (k refl)
      go false k = refl

  same-steps : steps_from (scene st o i) p (cell_at x p) x.id (source_of x) ≡ steps_from (scene st o' i') p (cell_at x' p) x'.id (source_of x')
  unfolding stream_class
  same-steps =
      unfold cell_at in
      (rw (same_source, cells)
      (go (source_of x') (rw same_source at edge) (same-pruning (fixed_of (source_of x')) (rw same_source at wanted)) (rw same_source at address) (rw same_source at inbound)))
    where
      go : (t : Source) → boundary (own_at o p) (class_of st (fixed_of t).priority) ≡ boundary (own_at o' p) (class_of st (fixed_of t).priority)
          → is_pruned st (own_at o p) (fixed_of t) ≡ is_pruned st (own_at o' p) (fixed_of t) → sharing i x.id t ≡ sharing i' x'.id t
          → kept_out st.fan_in i t ≡ kept_out st.fan_in i' t
          → steps_from (scene st o i) p (cell_at x' p) x.id t ≡ steps_from (scene st o' i') p (cell_at x' p) x'.id t
      go nowhere e k a b = unfold steps_from in refl
      go (from q) e k a b = unfold steps_from fixed_of at_talker in (rw (e, k, a, b))

  same-column : column_of (scene st o i) now s p x ≡ column_of (scene st o' i') now s' p x'
  unfolding column_of steps left_for remains claim stream_class
  same-column = rw (same-steps, same-limit, important, same_source)

-- Any two bridges that agree so give the stream the same column, the same code and the same entry on the port.
pub untouched : (now : ℕ) (b b' : Bridge) (p : ℕ) (x x' : Stream) → Alike now b b' p x x' →
    let r = decide_at (scene_at now b) now (remaining now b) x p in
    let r' = decide_at (scene_at now b') now (remaining now b') x' p in
    (r.column ≡ r'.column) × (column_code r.column ≡ column_code r'.column) × (r.entry ≡ r'.entry)
unfolding decide_at
untouched now b b' p x x' a = (column, ap column_code column, unfold cell_at in (rw (column, a.registrations)))
  where
    column : column_of (scene_at now b) now (remaining now b) p x ≡ column_of (scene_at now b') now (remaining now b') p x'
    column =
        rw a.settings
        (same-column b'.settings _ _ _ _ now p _ _ x x' a.registrations (rw a.settings at a.important) (rw a.settings at a.borrowed)
        (rw a.settings at a.address) (rw a.settings at a.edge) (rw a.settings at a.inbound) (rw a.settings at a.wanted))

-- What the bridge decided holds of the stream at place k is what is decided of the one that remained there.
pub settled-result : (now : ℕ) (b : Bridge) (k p : ℕ) → k < length (remaining now b) → p < 8 →
    result_at (stream_at k (deciding now b)) p ≡ decide_at (scene_at now b) now (remaining now b) (get_or (remaining now b) k (fresh 0)) p
unfolding deciding
settled-result now b k p h port =
    ap (λ (y : Stream). result_at y p) (get_or_map (decide (scene_at now b) now (remaining now b)) (remaining now b) k (fresh 0) (fresh 0) h)
    ∙ (unfold decide result_at in (at_place (decide_at (scene_at now b) now (remaining now b) (get_or (remaining now b) k (fresh 0))) p unsettled port))
