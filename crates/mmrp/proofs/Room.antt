-- The two walks over an MMRP frame: the first makes room for all addresses joined or stops, the second then does what the acts ask
-- for. Where the first stops, dropping the vacant records restores what was held. Assumes nothing.
use Prim.Native.Nat.{ℕ, ◌≤◌, ◌<◌}
use mathlib.Core.Path.{◌≡◌, refl, sym, ap, ◌∙◌}
use mathlib.Core.List.{List, [], ◌∷◌, ◌++◌, map}
use mathlib.Core.Bool.{Bool, true, false}
use native.Mathlib.Omega.{arith}
use lib.ListN.{length}
use Rattle.model.specs.Lists.{All}
use Rattle.model.specs.State.{Address}
use Rattle.model.specs.Registrations.{AddressAct, leave_all_addresses, leave_address, join_address, quit_presence, quit_address, joined_address, with_joined, with_left, does_address, does_addresses, together, macs, address_joins}
use Rattle.model.specs.Laid.{Ascending}
use Rattle.model.proofs.Lists.{all_map}
use Rattle.model.proofs.Parts.{ascending-rises, rising-ascends}
use Rattle.model.proofs.Commute.{Tri, less, same, more, tri}
use Rattle.model.proofs.FrameOrder.{rising-together, together-grows}
use Rattle.model.proofs.AddressesKept.{acts-macs, held-macs}
use Rattle.addresses.specs.Room.{vacant_at, with_room, is_held, present_only}
use Rattle.addresses.proofs.Searching.{room-before, room-here, room-past, join-before, join-here, join-past, left_here, left-past}
use Rattle.addresses.proofs.Keeps.{joined-macs}
use Rattle.mmrp.specs.Run.{room, effect, effects}

pub effects-append : (m : Bool) (now : ℕ) (es fs : List AddressAct) (l : List Address) → effects m now (es ++ fs) l ≡ effects m now fs (effects m now es l)
unfolding effects
effects-append m now [] fs l = refl
effects-append m now (a ∷ es) fs l = effects-append m now es fs (effect m now a l)

pub effects-applied : (now : ℕ) (es : List AddressAct) (l : List Address) → effects true now es l ≡ does_addresses now es l
unfolding effects effect does_addresses
effects-applied now [] l = refl
effects-applied now (a ∷ es) l = effects-applied now es (does_address now a l)

-- The addresses held after acts, done or only made room for.

effect-macs : (m : Bool) (now : ℕ) (a : AddressAct) (l : List Address) → macs (effect m now a l) ≡ together (macs l) (address_joins (a ∷ []))
unfolding effect room
effect-macs true now a l = unfold does_addresses in (acts-macs now (a ∷ []) l)
effect-macs false now leave_all_addresses l = unfold address_joins together in refl
effect-macs false now (leave_address m) l = unfold address_joins together in refl
effect-macs false now (join_address m) l = sym (joined-macs m l) ∙ unfold does_addresses does_address in (acts-macs now (join_address m ∷ []) l)

joins-cons : (a : AddressAct) (es : List AddressAct) (l : List ℕ) → together (together l (address_joins (a ∷ []))) (address_joins es) ≡ together l (address_joins (a ∷ es))
unfolding address_joins together
joins-cons leave_all_addresses es l = refl
joins-cons (leave_address m) es l = refl
joins-cons (join_address m) es l = refl

effects-macs : (m : Bool) (now : ℕ) (es : List AddressAct) (l : List Address) → macs (effects m now es l) ≡ together (macs l) (address_joins es)
unfolding effects
effects-macs m now [] l = unfold address_joins together in refl
effects-macs m now (a ∷ es) l =
    effects-macs m now es (effect m now a l)
    ∙ ap (λ (x : List ℕ). together x (address_joins es)) (effect-macs m now a l)
    ∙ joins-cons a es (macs l)

-- they ascend, and are never fewer
ascends : (m : Bool) (now : ℕ) (a : AddressAct) (l : List Address) → Ascending (macs l) → Ascending (macs (effect m now a l))
ascends m now a l h =
    rw (effect-macs m now a l) (rising-ascends _ (rising-together (address_joins (a ∷ [])) (macs l) (ascending-rises (macs l) h)))

pub effects-grow : (m : Bool) (now : ℕ) (es : List AddressAct) (l : List Address) → length l ≤ length (effects m now es l)
effects-grow m now es l = rw (held-macs l, held-macs (effects m now es l), effects-macs m now es l) (together-grows (address_joins es) (macs l))

pub same_length : (now : ℕ) (es : List AddressAct) (l : List Address) → length (effects false now es l) ≡ length (does_addresses now es l)
same_length now es l = rw (held-macs (effects false now es l), held-macs (does_addresses now es l), effects-macs false now es l, acts-macs now es l)

-- Room is made without a registration.

vacant-drops : (m : ℕ) (l : List Address) → present_only (vacant_at m ∷ l) ≡ present_only l
unfolding present_only is_held vacant_at
vacant-drops m l = refl

room-drops : (m : ℕ) (l : List Address) → present_only (with_room m l) ≡ present_only l
room-drops m [] = unfold with_room in (vacant-drops m [])
room-drops m (a ∷ l) = go (tri m a.mac) (room-drops m l)
  where
    go : Tri m a.mac → present_only (with_room m l) ≡ present_only l → present_only (with_room m (a ∷ l)) ≡ present_only (a ∷ l)
    go (less q) ih = rw (room-before m a l q) (vacant-drops m (a ∷ l))
    go (same q) ih = rw (room-here m a l q)
    go (more q) ih = rw (room-past m a l q) (unfold present_only in rw ih)

effect-drops : (now : ℕ) (a : AddressAct) (l : List Address) → present_only (effect false now a l) ≡ present_only l
unfolding effect room
effect-drops now leave_all_addresses l = refl
effect-drops now (leave_address m) l = refl
effect-drops now (join_address m) l = room-drops m l

pub effects-drop : (now : ℕ) (es : List AddressAct) (l : List Address) → present_only (effects false now es l) ≡ present_only l
unfolding effects
effects-drop now [] l = refl
effects-drop now (a ∷ es) l = effects-drop now es (effect false now a l) ∙ effect-drops now a l

-- Acts where room was made do what they do without it.

pub joined-again : (m : ℕ) (l : List Address) → with_joined m (with_room m l) ≡ with_joined m l
joined-again m [] = unfold with_room in (join-here m (vacant_at m) [] (unfold vacant_at in refl)) ∙ (unfold with_joined in refl)
joined-again m (a ∷ l) = go (tri m a.mac) (joined-again m l)
  where
    go : Tri m a.mac → with_joined m (with_room m l) ≡ with_joined m l → with_joined m (with_room m (a ∷ l)) ≡ with_joined m (a ∷ l)
    go (less q) ih = rw (room-before m a l q, join-before m a l q) (join-here m (vacant_at m) (a ∷ l) (unfold vacant_at in refl))
    go (same q) ih = rw (room-here m a l q)
    go (more q) ih = rw (room-past m a l q, join-past m a l q, join-past m a (with_room m l) q) (ap (λ (x : List Address). a ∷ x) ih)

act-again : (now : ℕ) (a : AddressAct) (l : List Address) → does_address now a (effect false now a l) ≡ does_address now a l
unfolding effect room does_address
act-again now leave_all_addresses l = refl
act-again now (leave_address m) l = refl
act-again now (join_address m) l = joined-again m l

-- Room for one address, before or after another act.

room_nil : (m : ℕ) → with_room m [] ≡ vacant_at m ∷ []
unfolding with_room
room_nil m = refl

join-nil : (m : ℕ) → with_joined m [] ≡ joined_address m ∷ []
unfolding with_joined
join-nil m = refl

left-nil : (now m : ℕ) → with_left now m [] ≡ []
unfolding with_left
left-nil now m = refl

quit-vacant : (now m : ℕ) → quit_address now (vacant_at m) ≡ vacant_at m
unfolding quit_address vacant_at quit_presence
quit-vacant now m = refl

-- of LeaveAll
room-quits : (now m : ℕ) (l : List Address) → map (quit_address now) (with_room m l) ≡ with_room m (map (quit_address now) l)
room-quits now m [] = rw (room_nil m) (rw (quit-vacant now m) refl)
room-quits now m (a ∷ l) = go (tri m a.mac) (room-quits now m l)
  where
    go : Tri m a.mac → map (quit_address now) (with_room m l) ≡ with_room m (map (quit_address now) l)
        → map (quit_address now) (with_room m (a ∷ l)) ≡ with_room m (quit_address now a ∷ map (quit_address now) l)
    go (less q) ih =
        rw (room-before m a l q, quit-vacant now m) (sym (room-before m (quit_address now a) (map (quit_address now) l) (unfold quit_address in q)))
    go (same q) ih = rw (room-here m a l q) (sym (room-here m (quit_address now a) (map (quit_address now) l) (unfold quit_address in q)))
    go (more q) ih =
        rw (room-past m a l q) (ap (λ (x : List Address). quit_address now a ∷ x) ih)
        ∙ sym (room-past m (quit_address now a) (map (quit_address now) l) (unfold quit_address in q))

-- of Lv: an address below all that are held is not among them
lacked : (now m : ℕ) (l : List Address) → All (λ j. m < j) (macs l) → with_left now m l ≡ l
unfolding macs
lacked now m [] h = left-nil now m
lacked now m (a ∷ l) h = left-past m a l (λ e. omega (arith, h.0)) now ∙ ap (λ (x : List Address). a ∷ x) (lacked now m l h.1)

-- what Lv leaves first has the address that was first
left-first : (now n : ℕ) (a : Address) (l : List Address) → (b : Address) × (r : List Address) × (with_left now n (a ∷ l) ≡ b ∷ r) × (b.mac ≡ a.mac)
left-first now n a l = go (tri n a.mac)
  where
    go : Tri n a.mac → (b : Address) × (r : List Address) × (with_left now n (a ∷ l) ≡ b ∷ r) × (b.mac ≡ a.mac)
    go (less q) = (a, with_left now n l, left-past n a l (λ e. omega arith) now, refl)
    go (same q) = (quit_address now a, l, left_here n a l q now, unfold quit_address in refl)
    go (more q) = (a, with_left now n l, left-past n a l (λ e. omega arith) now, refl)

module _ (now m n : ℕ) where
  -- a vacant one stays vacant
  left-vacant : (l : List Address) → (m ≡ n → with_left now n l ≡ l) → with_left now n (vacant_at m ∷ l) ≡ vacant_at m ∷ with_left now n l
  left-vacant l h = go (tri n m)
    where
      go : Tri n m → with_left now n (vacant_at m ∷ l) ≡ vacant_at m ∷ with_left now n l
      go (less q) = left-past n (vacant_at m) l (unfold vacant_at in (λ e. omega arith)) now
      go (same q) =
          left_here n (vacant_at m) l (unfold vacant_at in q) now
          ∙ ap (λ (a : Address). a ∷ l) (quit-vacant now m)
          ∙ ap (λ (x : List Address). vacant_at m ∷ x) (sym (h (sym q)))
      go (more q) = left-past n (vacant_at m) l (unfold vacant_at in (λ e. omega arith)) now

  room-leaves : (l : List Address) → Ascending (macs l) → with_left now n (with_room m l) ≡ with_room m (with_left now n l)
  unfolding macs
  room-leaves [] h =
      rw (room_nil m, left-nil now n, room_nil m)
      (left-vacant [] (λ e. left-nil now n) ∙ ap (λ (x : List Address). vacant_at m ∷ x) (left-nil now n))
  room-leaves (a ∷ l) h = go (tri m a.mac) (tri n a.mac) (room-leaves l h.1)
    where
      first : (b : Address) × (r : List Address) × (with_left now n (a ∷ l) ≡ b ∷ r) × (b.mac ≡ a.mac)
      first = left-first now n a l

      past : a.mac < m → (n ≡ a.mac → ⊥) → with_left now n (with_room m l) ≡ with_room m (with_left now n l)
          → with_left now n (with_room m (a ∷ l)) ≡ with_room m (with_left now n (a ∷ l))
      past q d ih =
          rw (room-past m a l q, left-past n a l d now, left-past n a (with_room m l) d now)
          (ap (λ (x : List Address). a ∷ x) ih ∙ sym (room-past m a (with_left now n l) q))

      go : Tri m a.mac → Tri n a.mac → with_left now n (with_room m l) ≡ with_room m (with_left now n l)
          → with_left now n (with_room m (a ∷ l)) ≡ with_room m (with_left now n (a ∷ l))
      go (less q) t ih =
          let low : m ≡ n → with_left now n (a ∷ l) ≡ a ∷ l =
          λ e. lacked now n (a ∷ l) (omega arith, all_map (λ j. a.mac < j) (λ j. n < j) (λ j p. omega arith) (macs l) h.0) in
          rw (room-before m a l q, first.2)
          (left-vacant (a ∷ l) low ∙ ap (λ (x : List Address). vacant_at m ∷ x) first.2 ∙ sym (room-before m first.0 first.1 (omega (arith, first.3))))
      go (same q) t ih = rw (room-here m a l q) (rw first.2 (sym (room-here m first.0 first.1 (q ∙ sym first.3))))
      go (more q) (same t) ih =
          rw (room-past m a l q, left_here n a l t now, left_here n a (with_room m l) t now)
          (sym (room-past m (quit_address now a) l (unfold quit_address in q)))
      go (more q) (less t) ih = past q (λ e. omega arith) ih
      go (more q) (more t) ih = past q (λ e. omega arith) ih

-- of a join
module _ (m n : ℕ) where
  -- a vacant one before a higher address that is joined
  join-after : m < n → (l : List Address) → with_joined n (vacant_at m ∷ l) ≡ vacant_at m ∷ with_joined n l
  join-after h l = join-past n (vacant_at m) l (unfold vacant_at in h)

  -- room before all that a join leaves
  room-first : m < n → (a : Address) (l : List Address) → m < a.mac → with_room m (with_joined n (a ∷ l)) ≡ vacant_at m ∷ with_joined n (a ∷ l)
  room-first h a l q = go (tri n a.mac)
    where
      go : Tri n a.mac → with_room m (with_joined n (a ∷ l)) ≡ vacant_at m ∷ with_joined n (a ∷ l)
      go (less t) = rw (join-before n a l t) (room-before m (joined_address n) (a ∷ l) (unfold joined_address in h))
      go (same t) = rw (join-here n a l t) (room-before m (joined_address n) l (unfold joined_address in h))
      go (more t) = rw (join-past n a l t) (room-before m a (with_joined n l) q)

  -- room for an address below all that are held, and a join
  join-below : (l : List Address) → with_room m l ≡ vacant_at m ∷ l → (m < n → with_room m (with_joined n l) ≡ vacant_at m ∷ with_joined n l)
      → (n ≤ m → with_joined n l ≡ joined_address n ∷ l) → with_joined n (vacant_at m ∷ l) ≡ with_room m (with_joined n l)
  join-below l first higher lower = go (tri m n)
    where
      go : Tri m n → with_joined n (vacant_at m ∷ l) ≡ with_room m (with_joined n l)
      go (less q) = join-after q l ∙ sym (higher q)
      go (same q) =
          join-here n (vacant_at m) l (unfold vacant_at in (sym q))
          ∙ rw (lower (omega arith)) (sym (room-here m (joined_address n) l (unfold joined_address in q)))
      go (more q) =
          join-before n (vacant_at m) l (unfold vacant_at in q)
          ∙ rw (lower (omega arith)) (sym (room-past m (joined_address n) l (unfold joined_address in q) ∙ ap (λ (x : List Address). joined_address n ∷ x) first))

  -- where the address has a record
  join-here-too : (a : Address) (l : List Address) → m ≡ a.mac → with_joined n (a ∷ l) ≡ with_room m (with_joined n (a ∷ l))
  join-here-too a l q = go (tri n a.mac)
    where
      go : Tri n a.mac → with_joined n (a ∷ l) ≡ with_room m (with_joined n (a ∷ l))
      go (less t) =
          rw (join-before n a l t)
          (sym (room-past m (joined_address n) (a ∷ l) (unfold joined_address in (omega arith)) ∙ ap (λ (x : List Address). joined_address n ∷ x) (room-here m a l q)))
      go (same t) = rw (join-here n a l t) (sym (room-here m (joined_address n) l (unfold joined_address in (q ∙ sym t))))
      go (more t) = rw (join-past n a l t) (sym (room-here m a (with_joined n l) q))

  -- and where it is above the first
  join-above : (a : Address) (l : List Address) → a.mac < m → with_joined n (with_room m l) ≡ with_room m (with_joined n l)
      → with_joined n (a ∷ with_room m l) ≡ with_room m (with_joined n (a ∷ l))
  join-above a l q ih = go (tri n a.mac)
    where
      go : Tri n a.mac → with_joined n (a ∷ with_room m l) ≡ with_room m (with_joined n (a ∷ l))
      go (less t) =
          rw (join-before n a l t, join-before n a (with_room m l) t)
          (sym (room-past m (joined_address n) (a ∷ l) (unfold joined_address in (omega arith)) ∙ ap (λ (x : List Address). joined_address n ∷ x) (room-past m a l q)))
      go (same t) = rw (join-here n a l t, join-here n a (with_room m l) t) (sym (room-past m (joined_address n) l (unfold joined_address in (omega arith))))
      go (more t) =
          rw (join-past n a l t, join-past n a (with_room m l) t)
          (ap (λ (x : List Address). a ∷ x) ih ∙ sym (room-past m a (with_joined n l) q))

  room-joins : (l : List Address) → with_joined n (with_room m l) ≡ with_room m (with_joined n l)
  room-joins [] = rw (room_nil m) (join-below [] (room_nil m) (λ q. rw (join-nil n) (room-before m (joined_address n) [] (unfold joined_address in q))) (λ q. join-nil n))
  room-joins (a ∷ l) = go (tri m a.mac) (room-joins l)
    where
      go : Tri m a.mac → with_joined n (with_room m l) ≡ with_room m (with_joined n l)
          → with_joined n (with_room m (a ∷ l)) ≡ with_room m (with_joined n (a ∷ l))
      go (less q) ih =
          rw (room-before m a l q)
          (join-below (a ∷ l) (room-before m a l q) (λ t. room-first t a l q) (λ t. join-before n a l (omega arith)))
      go (same q) ih = rw (room-here m a l q) (join-here-too a l q)
      go (more q) ih = rw (room-past m a l q) (join-above a l q ih)

-- An act, and room for others.

module _ (now : ℕ) (a : AddressAct) where
  room-commutes : (m : ℕ) (l : List Address) → Ascending (macs l) → does_address now a (with_room m l) ≡ with_room m (does_address now a l)
  unfolding does_address
  room-commutes m l h = go a
    where
      go : (a : AddressAct) → does_address now a (with_room m l) ≡ with_room m (does_address now a l)
      go leave_all_addresses = room-quits now m l
      go (leave_address n) = room-leaves now m n l h
      go (join_address n) = room-joins m n l

  act-commutes : (b : AddressAct) (l : List Address) → Ascending (macs l) → does_address now a (effect false now b l) ≡ effect false now b (does_address now a l)
  unfolding effect room
  act-commutes leave_all_addresses l h = refl
  act-commutes (leave_address m) l h = refl
  act-commutes (join_address m) l h = room-commutes m l h

  act-past : (es : List AddressAct) (l : List Address) → Ascending (macs l) → does_address now a (effects false now es l) ≡ effects false now es (does_address now a l)
  unfolding effects
  act-past [] l h = refl
  act-past (b ∷ es) l h = act-past es (effect false now b l) (ascends false now b l h) ∙ ap (effects false now es) (act-commutes b l h)

pub applied-after-room : (now : ℕ) (es : List AddressAct) (l : List Address) → Ascending (macs l) → does_addresses now es (effects false now es l) ≡ does_addresses now es l
unfolding does_addresses effects
applied-after-room now [] l h = refl
applied-after-room now (a ∷ es) l h =
    ap (does_addresses now es) (act-past now a es (effect false now a l) (ascends false now a l h) ∙ ap (effects false now es) (act-again now a l))
    ∙ applied-after-room now es (does_address now a l) (unfold effect in (ascends true now a l h))
