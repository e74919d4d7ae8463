-- An MMRP frame: it changes the addresses of its own port and nothing else, whether it is accepted is decided by what that port
-- holds, and a refusal changes nothing.
use mathlib.Core.Path.{◌≡◌, refl, ap}
use mathlib.Core.Logic.{◌⊎◌, inl, inr}
use mathlib.Core.List.{List, [], ◌∷◌}
use mathlib.Core.Bool.{Bool, true, false, cond}
use Prim.Native.Nat.{ℕ, zero, suc, ◌-◌}
use lib.ListN.{length, get_or}
use lib.Dec.{leb}
use Rattle.model.specs.Layout.{most_addresses}
use Rattle.model.specs.State.{Own, Bridge, no_own, own_at}
use Rattle.model.specs.Registrations.{at, AddressAct, AddressReading, refused_frame, address_acts, Answer, does_addresses, change_addresses, owning, received_addresses}
use Rattle.model.specs.AddressFrames.{address_reading}
use Rattle.model.specs.Calls.{receive_mmrp}

-- whether there is room on a port for what acts leave, and what they leave where there is
unfoldable pub has_room : ℕ → List AddressAct → Own → Bool
has_room now es o = leb (length (does_addresses now es o.addresses)) most_addresses

unfoldable pub with_room : ℕ → List AddressAct → Own → Own
with_room now es o = cond (has_room now es o) (change_addresses (does_addresses now es) o) o

-- what a frame does to the ports' own, and its number
unfoldable pub address_effect : ℕ → ℕ → AddressReading → List Own → List Own
address_effect now p (refused_frame n) o = o
address_effect now p (address_acts es) o = at p (with_room now es) o

unfoldable pub address_number : ℕ → ℕ → AddressReading → List Own → ℕ
address_number now p (refused_frame n) o = n
address_number now p (address_acts es) o = cond (has_room now es (own_at o p)) 0 14

-- a test of what stands at a place may stand in the change there
at_test : {A : Type 0} (test : A → Bool) (u : A → A) (d : A) (p : ℕ) (l : List A) →
    cond (test (get_or l p d)) (at p u l) l ≡ at p (λ x. cond (test x) (u x) x) l
unfolding at
at_test {A = A} test u d p [] = go (test (get_or [] p d))
  where
    go : (b : Bool) → cond {A = List A} b [] [] ≡ []
    go true = refl
    go false = refl
at_test {A = A} test u d zero (x ∷ l) = go (test x)
  where
    go : (b : Bool) → cond b (u x ∷ l) (x ∷ l) ≡ cond b (u x) x ∷ l
    go true = refl
    go false = refl
at_test {A = A} test u d (suc p) (x ∷ l) = go (test (get_or l p d)) (at_test test u d p l)
  where
    go : (b : Bool) → cond b (at p u l) l ≡ at p (λ y. cond (test y) (u y) y) l → cond b (x ∷ at p u l) (x ∷ l) ≡ x ∷ at p (λ y. cond (test y) (u y) y) l
    go true e = ap (λ (m : List A). x ∷ m) e
    go false e = ap (λ (m : List A). x ∷ m) e

pub received_is : (b : Bridge) (p : ℕ) (x : AddressReading) →
    received_addresses b p x ≡ record { number = address_number b.clock (p - 1) x b.owns; bridge = owning b (address_effect b.clock (p - 1) x b.owns) }
unfolding received_addresses address_number address_effect owning
received_is b p (refused_frame n) = refl
received_is b p (address_acts es) =
    unfold has_room with_room in
    (go (leb (length (does_addresses b.clock es (own_at b.owns (p - 1)).addresses)) most_addresses)
    (at_test (has_room b.clock es) (change_addresses (does_addresses b.clock es)) no_own (p - 1) b.owns))
  where
    go : (t : Bool) → cond t (at (p - 1) (change_addresses (does_addresses b.clock es)) b.owns) b.owns ≡ at (p - 1) (with_room b.clock es) b.owns
        → cond {A = Answer} t record { number = 0; bridge = owning b (at (p - 1) (change_addresses (does_addresses b.clock es)) b.owns) } record { number = 14; bridge = b }
        ≡ record { number = cond t 0 14; bridge = owning b (at (p - 1) (with_room b.clock es) b.owns) }
    go true e = ap (λ (o : List Own). record { number = 0; bridge = owning b o }) e
    go false e = ap (λ (o : List Own). record { number = 14; bridge = owning b o }) e

-- a refusal changes nothing
pub received-unchanged : (b : Bridge) (p : ℕ) (x : AddressReading) → ((received_addresses b p x).number ≡ 0) ⊎ ((received_addresses b p x).bridge ≡ b)
unfolding received_addresses
received-unchanged b p (refused_frame n) = inr refl
received-unchanged b p (address_acts es) = go (leb (length (does_addresses b.clock es (own_at b.owns (p - 1)).addresses)) most_addresses) _
  where
    go : (t : Bool) (c : Bridge) → ((cond {A = Answer} t record { number = 0; bridge = c } record { number = 14; bridge = b }).number ≡ 0)
        ⊎ ((cond {A = Answer} t record { number = 0; bridge = c } record { number = 14; bridge = b }).bridge ≡ b)
    go true c = inl refl
    go false c = inr refl

module _ (b : Bridge) (p : ℕ) (pdu : List ℕ) where
  pub mmrp-unchanged : ((receive_mmrp b p pdu).number ≡ 0 → ⊥) → (receive_mmrp b p pdu).bridge ≡ b
  unfolding receive_mmrp
  mmrp-unchanged h = go (received-unchanged b p (address_reading b.settings p pdu))
    where
      go : ((received_addresses b p (address_reading b.settings p pdu)).number ≡ 0) ⊎ ((received_addresses b p (address_reading b.settings p pdu)).bridge ≡ b)
          → (received_addresses b p (address_reading b.settings p pdu)).bridge ≡ b
      go (inl e) = absurd (h e)
      go (inr e) = e

  -- settings, clock, totals and streams stay
  pub mmrp-same : {A : Type 0} (f : Bridge → A) → ((o : List Own) → f (owning b o) ≡ f b) → f (receive_mmrp b p pdu).bridge ≡ f b
  unfolding receive_mmrp
  mmrp-same f h = rw (received_is b p (address_reading b.settings p pdu)) (h _)
