-- What the code does to the octets of an address, `quit_address` and `lapse_address` do to the address; and what is done fits its fields.
use mathlib.Core.Path.{◌≡◌, refl, sym, ap, ◌∙◌, subst}
use mathlib.Core.List.{List, [], ◌∷◌, ◌++◌}
use mathlib.Core.Bool.{Bool, true, false, cond}
use Prim.Native.Nat.{ℕ, ◌+◌, ◌^◌, ◌<◌}
use native.Mathlib.Omega.{arith}
use lib.ListN.{length, get_or, set}
use lib.Dec.{eqb, leb}
use Rattle.octets.specs.Be.{be}
use Rattle.octets.specs.Parts.{part, patch, zeros}
use Rattle.octets.specs.Pick.{pick}
use Rattle.octets.specs.Fields.{Fit, packed, width}
use Rattle.octets.proofs.Fields.{get-octet, put-field, packed-zeros}
use Rattle.model.specs.Layout.{in_address, address_size, address_widths, address_index}
use Rattle.model.specs.State.{Leaving, stays, since, Presence, vacant, present, Address}
use Rattle.model.specs.Registrations.{begin, quit_presence, quit_address, joined_address}
use Rattle.model.specs.Table.{leaving_number, since_number, presence_numbers, address_numbers, address_octets, to_address}
use Rattle.model.specs.Laid.{LaidAddress}
use Rattle.model.proofs.Parts.{◌also◌}
use Rattle.model.proofs.Cells.{leaving-few}
use Rattle.model.proofs.Addresses.{address-back}
use Rattle.table.proofs.Lens.{patch-whole}
use Rattle.cells.specs.Steps.{begun, lapsed}
use Rattle.cells.proofs.Leaving.{begun-numbers, lapsed-numbers}
use Rattle.addresses.specs.Room.{vacant_at, is_held, lapse_presence, lapse_address}
use Rattle.addresses.proofs.Records.{FitAddress}

-- an address and its presence
abbrev pub with : ℕ → Presence → Address
with m p = record { mac = m; presence = p }

-- what holds of the octets of an address holds of octets that are laid out as one
pub laid : (P : List ℕ → Address → Type 0) → ((m : ℕ) (p : Presence) → FitAddress (with m p) → P (address_octets (with m p)) (with m p)) → (s : List ℕ) → LaidAddress s → P s (to_address s)
laid P h s l =
    let a = l.thing in
    let back : to_address s ≡ a = ap to_address l.is ∙ address-back a l.fits in
    subst (λ (t : List ℕ). P t (to_address s)) (sym l.is) (subst (P (address_octets a)) (sym back) (h a.mac a.presence l.fits))

-- the octet that says whether it is registered
registered-octet : (a : Address) → FitAddress a → get_or (address_octets a) 0 0 ≡ get_or (address_numbers a) address_index.registered 0
unfolding address_octets width
registered-octet a f = get-octet address_widths (address_numbers a) f address_index.registered refl

-- Lv and LeaveAll.

module _ (clock m : ℕ) where
  begun-is : (l : Leaving) → FitAddress (with m (present l)) → begun in_address.leaves clock (address_octets (with m (present l))) ≡ address_octets (with m (present (begin clock l)))
  unfolding address_octets width
  begun-is l f =
      begun-numbers address_widths (address_numbers (with m (present l))) f address_index.leaves in_address.leaves refl refl refl refl clock
      ∙ ap (packed address_widths) (go l)
    where
      go : (l : Leaving)
          → let vs = address_numbers (with m (present l)) in
          pick (eqb (get_or vs address_index.leaves 0) 0) (set (set vs address_index.leaves 1) address_index.since clock) vs ≡ address_numbers (with m (present (begin clock l)))
      go stays = unfold address_numbers presence_numbers leaving_number since_number begin pick in refl
      go (since t) = unfold address_numbers presence_numbers leaving_number since_number begin pick in refl

  held-begins : (p : Presence) → FitAddress (with m p) → 0 < get_or (address_octets (with m p)) 0 0 → begun in_address.leaves clock (address_octets (with m p)) ≡ address_octets (quit_address clock (with m p))
  unfolding address_numbers presence_numbers quit_address quit_presence
  held-begins vacant f h = absurd (omega (arith, registered-octet (with m vacant) f))
  held-begins (present l) f h = begun-is l f

  vacant-stays : (p : Presence) → FitAddress (with m p) → get_or (address_octets (with m p)) 0 0 ≡ 0 → address_octets (with m p) ≡ address_octets (quit_address clock (with m p))
  unfolding address_numbers presence_numbers quit_address quit_presence
  vacant-stays vacant f h = refl
  vacant-stays (present l) f h = absurd (omega (arith, registered-octet (with m (present l)) f))

module _ (clock : ℕ) where
  pub quits : (s : List ℕ) → LaidAddress s → 0 < get_or s 0 0 → begun in_address.leaves clock s ≡ address_octets (quit_address clock (to_address s))
  quits = laid (λ s a. 0 < get_or s 0 0 → begun in_address.leaves clock s ≡ address_octets (quit_address clock a)) (held-begins clock)

  pub quits-none : (s : List ℕ) → LaidAddress s → get_or s 0 0 ≡ 0 → s ≡ address_octets (quit_address clock (to_address s))
  quits-none = laid (λ s a. get_or s 0 0 ≡ 0 → s ≡ address_octets (quit_address clock a)) (vacant-stays clock)

-- A join.

address-zeros : address_octets (vacant_at 0) ≡ zeros address_size
unfolding address_octets address_numbers presence_numbers vacant_at width
address-zeros = packed-zeros address_widths

pub joins : (m : ℕ) (s : List ℕ) → length s ≡ address_size
    → patch in_address.mac 6 (be 6 m) (patch 0 1 (be 1 1) (patch 0 address_size (zeros address_size) s)) ≡ address_octets (joined_address m)
unfolding address_octets width
joins m s e =
    let none = address_numbers (vacant_at 0) in
    ap (λ (t : List ℕ). patch in_address.mac 6 (be 6 m) (patch 0 1 (be 1 1) t)) (patch-whole address_size (zeros address_size) s e ∙ sym address-zeros)
    ∙ unfold address_numbers presence_numbers vacant_at joined_address leaving_number since_number in (ap (patch in_address.mac 6 (be 6 m)) (put-field address_widths none address_index.registered 1 refl)
    ∙ put-field address_widths (set none address_index.registered 1) address_index.mac m refl)

-- Expiry.

lapsed-is : (leave now m : ℕ) (p : Presence) → FitAddress (with m p)
    → lapsed 0 in_address.mac in_address.leaves leave now (address_octets (with m p)) ≡ address_octets (lapse_address leave now (with m p))
unfolding address_octets lapse_address width part
lapsed-is leave now m p f =
    lapsed-numbers address_widths (address_numbers (with m p)) f address_index.leaves in_address.leaves refl refl refl refl 0 address_index.mac leave now (omega arith)
    ∙ ap (packed address_widths) (go p)
  where
    over : (t : ℕ) (b : Bool)
        → let vs = address_numbers (with m (present (since t))) in
        pick b (patch 0 3 (zeros 3) vs) vs ≡ address_numbers (with m (cond b vacant (present (since t))))
    over t true = unfold address_numbers presence_numbers pick patch in refl
    over t false = unfold pick in refl

    go : (p : Presence)
        → let vs = address_numbers (with m p) in
        pick (eqb (get_or vs address_index.leaves 0) 0) vs (pick (leb (get_or vs address_index.since 0 + leave) now) (patch 0 3 (zeros 3) vs) vs) ≡ address_numbers (with m (lapse_presence leave now p))
    go vacant = unfold address_numbers presence_numbers pick lapse_presence in refl
    go (present stays) = unfold address_numbers presence_numbers leaving_number pick lapse_presence in refl
    go (present (since t)) = unfold address_numbers presence_numbers leaving_number since_number pick lapse_presence in over t (leb (t + leave) now)

pub lapses : (leave now : ℕ) (s : List ℕ) → LaidAddress s → lapsed 0 in_address.mac in_address.leaves leave now s ≡ address_octets (lapse_address leave now (to_address s))
lapses leave now = laid (λ s a. lapsed 0 in_address.mac in_address.leaves leave now s ≡ address_octets (lapse_address leave now a)) (lapsed-is leave now)

-- The address itself stays.

pub quit-mac : (clock : ℕ) (a : Address) → (quit_address clock a).mac ≡ a.mac
unfolding quit_address
quit-mac clock a = refl

pub lapse-mac : (leave now : ℕ) (a : Address) → (lapse_address leave now a).mac ≡ a.mac
unfolding lapse_address
lapse-mac leave now a = refl

-- What is done fits its fields.

abbrev FitPresence : Presence → Type 0
FitPresence vacant = Unit {0}
FitPresence (present l) = since_number l < 2 ^ 32

module _ (m : ℕ) where
  mac-fits : (p : Presence) → FitAddress (with m p) → m < 2 ^ 48
  unfolding Fit address_numbers presence_numbers
  mac-fits vacant f = f.1.1.1.0
  mac-fits (present l) f = f.1.1.1.0

  presence-fits : (p : Presence) → FitAddress (with m p) → FitPresence p
  unfolding Fit address_numbers presence_numbers
  presence-fits vacant f = tt
  presence-fits (present l) f = f.1.1.0

  fits : (p : Presence) → m < 2 ^ 48 → FitPresence p → FitAddress (with m p)
  unfolding Fit address_numbers presence_numbers
  fits vacant h q = omega arith also omega arith also omega arith also h also tt
  fits (present l) h q = omega arith also leaving-few l also q also h also tt

address-small : (a : Address) → FitAddress a → a.mac < 2 ^ 48
address-small a f = mac-fits a.mac a.presence f

pub vacant-fits : (m : ℕ) → m < 2 ^ 48 → FitAddress (vacant_at m)
unfolding vacant_at
vacant-fits m h = fits m vacant h tt

pub joined-fits : (m : ℕ) → m < 2 ^ 48 → FitAddress (joined_address m)
unfolding joined_address since_number
joined-fits m h = fits m (present stays) h (omega arith)

pub quit-fits : (clock : ℕ) → clock < 2 ^ 32 → (a : Address) → FitAddress a → FitAddress (quit_address clock a)
unfolding quit_address
quit-fits clock small a f = fits a.mac (quit_presence clock a.presence) (address-small a f) (go a.presence (presence-fits a.mac a.presence f))
  where
    begins : (l : Leaving) → since_number l < 2 ^ 32 → since_number (begin clock l) < 2 ^ 32
    begins stays h = unfold begin since_number in small
    begins (since t) h = unfold begin since_number in h

    go : (p : Presence) → FitPresence p → FitPresence (quit_presence clock p)
    go vacant h = unfold quit_presence in tt
    go (present l) h = unfold quit_presence in (begins l h)

pub lapse-fits : (leave now : ℕ) (a : Address) → FitAddress a → FitAddress (lapse_address leave now a)
unfolding lapse_address
lapse-fits leave now a f = fits a.mac (lapse_presence leave now a.presence) (address-small a f) (go a.presence (presence-fits a.mac a.presence f))
  where
    may : (l : Leaving) (b : Bool) → since_number l < 2 ^ 32 → FitPresence (cond b vacant (present l))
    may l true h = tt
    may l false h = h

    go : (p : Presence) → FitPresence p → FitPresence (lapse_presence leave now p)
    go vacant h = unfold lapse_presence in tt
    go (present stays) h = unfold lapse_presence in h
    go (present (since t)) h = unfold lapse_presence in (may (since t) (leb (t + leave) now) h)

-- The octet that the code looks at to drop the vacant ones.

module _ (a : Address) where
  held_number : (p : Presence) → get_or (presence_numbers p ++ (a.mac ∷ [])) address_index.registered 0 ≡ 0 → is_held p ≡ false
  unfolding presence_numbers is_held
  held_number vacant h = refl
  held_number (present l) h = absurd (omega arith)

  pub vacant-number : get_or (address_numbers a) address_index.registered 0 ≡ 0 → is_held a.presence ≡ false
  unfolding address_numbers
  vacant-number = held_number a.presence

  some_number : (p : Presence) → (get_or (presence_numbers p ++ (a.mac ∷ [])) address_index.registered 0 ≡ 0 → ⊥) → is_held p ≡ true
  unfolding presence_numbers is_held
  some_number vacant h = absurd (h refl)
  some_number (present l) h = refl

  pub present-number : (get_or (address_numbers a) address_index.registered 0 ≡ 0 → ⊥) → is_held a.presence ≡ true
  unfolding address_numbers
  present-number = some_number a.presence
