-- What is done about an address, by the place where it was found or is missing.
use mathlib.Core.Path.{◌≡◌, refl, sym, ap, ◌∙◌}
use mathlib.Core.Bool.{true, false, true≢false}
use mathlib.Core.List.{List, [], ◌∷◌}
use Prim.Native.Nat.{ℕ, suc, ◌+◌, ◌≤◌, ◌<◌}
use native.Mathlib.Omega.{arith}
use native.Mathlib.Numerals.{add-one}
use lib.ListN.{length, get_or, drop, drop_of_length-le}
use lib.Seq.{drop-cons}
use borrow.Author.Tests.{lt-ltb, le-ltb, eq-eqb, ne_eqb}
use Rattle.model.specs.Lists.{All}
use Rattle.model.specs.State.{Address}
use Rattle.model.specs.Registrations.{at, joined_address, macs, quit_address, with_joined, with_left}
use Rattle.model.specs.Settling.{holds_address}
use Rattle.model.specs.Table.{to_own}
use Rattle.model.specs.Laid.{Ascending, LaidOwn}
use Rattle.model.proofs.Lists.{all_map}
use Rattle.model.proofs.Commute.{Tri, less, same, more, tri}
use Rattle.std.specs.Prelude.{Ok, Err, is_ok}
use Rattle.table.specs.Find.{found_at}
use Rattle.table.proofs.Finding.{found_before, found_here, found-past}
use Rattle.table.proofs.Places.{not-both}
use Rattle.table.proofs.OwnParts.{laid-own-fits}
use Rattle.addresses.specs.Room.{vacant_at, with_room, put_in}

-- The arms of the definitions, by how an address compares with the first one held.

module _ (m : ℕ) (a : Address) (l : List Address) where
  module _ (h : m < a.mac) where
    pub room-before : with_room m (a ∷ l) ≡ vacant_at m ∷ a ∷ l
    unfolding with_room
    room-before = rw (lt-ltb m a.mac h)

    pub join-before : with_joined m (a ∷ l) ≡ joined_address m ∷ a ∷ l
    unfolding with_joined
    join-before = rw (lt-ltb m a.mac h)

  module _ (h : m ≡ a.mac) where
    pub room-here : with_room m (a ∷ l) ≡ a ∷ l
    unfolding with_room
    room-here = let n : a.mac ≤ m = omega arith in rw (le-ltb m a.mac n, eq-eqb m a.mac h)

    pub join-here : with_joined m (a ∷ l) ≡ joined_address m ∷ l
    unfolding with_joined
    join-here = let n : a.mac ≤ m = omega arith in rw (le-ltb m a.mac n, eq-eqb m a.mac h)

    pub left_here : (now : ℕ) → with_left now m (a ∷ l) ≡ quit_address now a ∷ l
    unfolding with_left
    left_here now = rw (eq-eqb m a.mac h)

    holds-here : holds_address m (a ∷ l) ≡ true
    unfolding holds_address
    holds-here = rw (eq-eqb m a.mac h)

  module _ (h : a.mac < m) where
    pub room-past : with_room m (a ∷ l) ≡ a ∷ with_room m l
    unfolding with_room
    room-past = let n : a.mac ≤ m = omega arith in let d : m ≡ a.mac → ⊥ = λ e. omega arith in rw (le-ltb m a.mac n, ne_eqb m a.mac d)

    pub join-past : with_joined m (a ∷ l) ≡ a ∷ with_joined m l
    unfolding with_joined
    join-past = let n : a.mac ≤ m = omega arith in let d : m ≡ a.mac → ⊥ = λ e. omega arith in rw (le-ltb m a.mac n, ne_eqb m a.mac d)

  module _ (d : m ≡ a.mac → ⊥) where
    pub left-past : (now : ℕ) → with_left now m (a ∷ l) ≡ a ∷ with_left now m l
    unfolding with_left
    left-past now = rw (ne_eqb m a.mac d)

    holds-past : holds_address m (a ∷ l) ≡ holds_address m l
    unfolding holds_address
    holds-past = rw (ne_eqb m a.mac d)

-- A turn of the search, at the address x of place k.

module _ (m k : ℕ) (ms : List ℕ) where
  pub look-end : length ms ≤ k → found_at m k (drop k ms) ≡ Err k
  look-end h = rw (drop_of_length-le ms {i = k} h) (unfold found_at in refl)

  module _ (x : ℕ) (h : k < length ms) (e : x ≡ get_or ms k 0) where
    opened : drop k ms ≡ x ∷ drop (suc k) ms
    opened = drop-cons ms k 0 h ∙ ap (λ (y : ℕ). y ∷ drop (suc k) ms) (sym e)

    pub look-before : m < x → found_at m k (drop k ms) ≡ Err k
    look-before q = rw opened (found_before m k x (drop (suc k) ms) q)

    pub look-here : m ≡ x → found_at m k (drop k ms) ≡ Ok k
    look-here q = rw opened (found_here m k x (drop (suc k) ms) q)

    pub look-past : x < m → found_at m k (drop k ms) ≡ found_at m (k + 1) (drop (k + 1) ms)
    look-past q = rw (add-one k, opened) (found-past m k x (drop (suc k) ms) q)

-- Found, or missing.

pub record HeldAt (m k : ℕ) (l : List Address) : Type 0 where
  pub within : k < length l
  pub room : with_room m l ≡ l
  pub joins : with_joined m l ≡ at k (λ a. joined_address m) l
  pub leaves : (now : ℕ) → with_left now m l ≡ at k (quit_address now) l
  pub holds : holds_address m l ≡ true

pub record Lacks (m : ℕ) (l : List Address) : Type 0 where
  pub leaves : (now : ℕ) → with_left now m l ≡ l
  pub holds : holds_address m l ≡ false

pub record MissingAt (m k : ℕ) (l : List Address) : Type 0 where
  pub within : k ≤ length l
  pub room : with_room m l ≡ put_in k m l
  pub joins : with_joined m l ≡ at k (λ a. joined_address m) (put_in k m l)
  pub lacks : Ascending (macs l) → Lacks m l

-- where all are higher
lower : (m : ℕ) (l : List Address) → All (λ j. m < j) (macs l) → Lacks m l
unfolding macs
lower m [] h = record { leaves = λ now. unfold with_left in refl; holds = unfold holds_address in refl }
lower m (a ∷ l) h =
    let d : m ≡ a.mac → ⊥ = λ e. omega (arith, h.0) in
    let r = lower m l h.1 in
    record { leaves = λ now. left-past m a l d now ∙ ap (λ (x : List Address). a ∷ x) (r.leaves now); holds = holds-past m a l d ∙ r.holds }

data Search (m n : ℕ) (l : List Address) : Type 0 where
  there : (k : ℕ) → found_at m n (macs l) ≡ Ok (n + k) → HeldAt m k l → Search m n l
  missing : (k : ℕ) → found_at m n (macs l) ≡ Err (n + k) → MissingAt m k l → Search m n l

search-for : (m n : ℕ) (l : List Address) → Search m n l
unfolding macs
search-for m n [] =
    missing 0 (unfold found_at in ap Err (omega arith)) record {
      within = omega arith;
      room = unfold with_room put_in in refl;
      joins = unfold with_joined put_in at in refl;
      lacks = λ r. lower m [] tt;
    }
search-for m n (a ∷ l) = go (tri m a.mac) (search-for m (suc n) l)
  where
    go : Tri m a.mac → Search m (suc n) l → Search m n (a ∷ l)
    go (less h) s =
        missing 0 (found_before m n a.mac (macs l) h ∙ ap Err (omega arith)) record {
          within = omega arith;
          room = room-before m a l h ∙ unfold put_in in refl;
          joins = join-before m a l h ∙ unfold put_in at in refl;
          lacks = λ r. lower m (a ∷ l) (h, all_map (λ j. a.mac < j) (λ j. m < j) (λ j q. omega arith) (macs l) r.0);
        }
    go (same h) s =
        there 0 (found_here m n a.mac (macs l) h ∙ ap Ok (omega arith)) record {
          within = omega arith;
          room = room-here m a l h;
          joins = join-here m a l h ∙ unfold at in refl;
          leaves = λ now. left_here m a l h now ∙ unfold at in refl;
          holds = holds-here m a l h;
        }
    go (more h) (there k f r) =
        let d : m ≡ a.mac → ⊥ = λ e. omega arith in
        there (suc k) (found-past m n a.mac (macs l) h ∙ f ∙ ap Ok (omega arith)) record {
          within = omega (arith, r.within);
          room = room-past m a l h ∙ ap (λ (x : List Address). a ∷ x) r.room;
          joins = join-past m a l h ∙ unfold at in ap (λ (x : List Address). a ∷ x) r.joins;
          leaves = λ now. left-past m a l d now ∙ unfold at in ap (λ (x : List Address). a ∷ x) (r.leaves now);
          holds = holds-past m a l d ∙ r.holds;
        }
    go (more h) (missing k f r) =
        let d : m ≡ a.mac → ⊥ = λ e. omega arith in
        missing (suc k) (found-past m n a.mac (macs l) h ∙ f ∙ ap Err (omega arith)) record {
          within = omega (arith, r.within);
          room = room-past m a l h ∙ unfold put_in in ap (λ (x : List Address). a ∷ x) r.room;
          joins = join-past m a l h ∙ unfold put_in at in ap (λ (x : List Address). a ∷ x) r.joins;
          lacks = λ s.
              let q = r.lacks s.1 in
              record { leaves = λ now. left-past m a l d now ∙ ap (λ (x : List Address). a ∷ x) (q.leaves now); holds = holds-past m a l d ∙ q.holds };
        }

pub held_at : (m k : ℕ) (l : List Address) → found_at m 0 (macs l) ≡ Ok k → HeldAt m k l
held_at m k l f = go (search-for m 0 l)
  where
    go : Search m 0 l → HeldAt m k l
    go (there j g r) =
        let p : k ≡ 0 + j = cc in
        let q : j ≡ k = omega arith in
        rw (← q) r
    go (missing j g r) = absurd (not-both f g)

pub missing_at : (m k : ℕ) (l : List Address) → found_at m 0 (macs l) ≡ Err k → MissingAt m k l
missing_at m k l f = go (search-for m 0 l)
  where
    go : Search m 0 l → MissingAt m k l
    go (there j g r) = absurd (not-both g f)
    go (missing j g r) =
        let p : k ≡ 0 + j = cc in
        let q : j ≡ k = omega arith in
        rw (← q) r

-- whether it is found is whether it is held
pub is_found : (s : List ℕ) → LaidOwn s → (m : ℕ) → is_ok (found_at m 0 (macs (to_own s).addresses)) ≡ holds_address m (to_own s).addresses
is_found s d m = go (search-for m 0 (to_own s).addresses)
  where
    go : Search m 0 (to_own s).addresses → is_ok (found_at m 0 (macs (to_own s).addresses)) ≡ holds_address m (to_own s).addresses
    go (there k f r) = rw f (sym r.holds)
    go (missing k f r) = rw f (sym (r.lacks (laid-own-fits s d).addresses.ascending).holds)

-- one that has a record is found
pub held-somewhere : (m : ℕ) (l : List Address) → Ascending (macs l) → holds_address m l ≡ true → (k : ℕ) → found_at m 0 (macs l) ≡ Err k → ⊥
held-somewhere m l a h k f = true≢false (sym h ∙ ((missing_at m k l f).lacks a).holds)

pub room-holds : (m : ℕ) (l : List Address) → holds_address m (with_room m l) ≡ true
room-holds m [] = unfold with_room in (holds-here m (vacant_at m) [] (unfold vacant_at in refl))
room-holds m (a ∷ l) = go (tri m a.mac) (room-holds m l)
  where
    go : Tri m a.mac → holds_address m (with_room m l) ≡ true → holds_address m (with_room m (a ∷ l)) ≡ true
    go (less h) r = rw (room-before m a l h) (holds-here m (vacant_at m) (a ∷ l) (unfold vacant_at in refl))
    go (same h) r = rw (room-here m a l h) (holds-here m a l h)
    go (more h) r = rw (room-past m a l h) (holds-past m a (with_room m l) (λ e. omega arith) ∙ r)
