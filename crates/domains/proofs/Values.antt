-- What the code does to the octets of a Domain value, `quit_domain`, a join and `expire_domain` do to the value.
use mathlib.Core.Path.{◌≡◌, refl, sym, ap, ◌∙◌, subst}
use mathlib.Core.List.{List}
use mathlib.Core.Bool.{Bool, true, false, cond}
use Prim.Native.Nat.{ℕ, ◌+◌, ◌<◌}
use native.Mathlib.Omega.{arith}
use lib.ListN.{length, get_or, set}
use lib.Dec.{eqb, leb}
use Rattle.octets.specs.Be.{be}
use Rattle.octets.specs.Parts.{part, patch, zeros}
use Rattle.octets.specs.Pick.{pick}
use Rattle.octets.specs.Fields.{packed, width}
use Rattle.octets.proofs.Fields.{get-octet, put-field}
use Rattle.model.specs.Layout.{slot_index, in_slot, slot_size, slot_widths}
use Rattle.model.specs.State.{Settings, Leaving, stays, since, Domain, no_domain, domain}
use Rattle.model.specs.Registrations.{begin, quit_domain}
use Rattle.model.specs.Settling.{expired, expire_domain}
use Rattle.model.specs.Table.{leaving_number, since_number, domain_numbers, domain_octets, to_domain}
use Rattle.model.specs.Laid.{LaidDomain}
use Rattle.model.proofs.Owns.{fit-back, domain-zeros}
use Rattle.table.proofs.Lens.{patch-whole}
use Rattle.cells.specs.Steps.{begun, lapsed}
use Rattle.cells.proofs.Leaving.{begun-numbers, lapsed-numbers}
use Rattle.domains.proofs.Keeps.{FitDomain}

-- what holds of the octets of a Domain value holds of octets that are laid out as one
laid : (P : List ℕ → Domain → Type 0) → ((d : Domain) → FitDomain d → P (domain_octets d) d) → (s : List ℕ) → LaidDomain s → P s (to_domain s)
laid P h s l =
    let back : to_domain s ≡ l.thing = ap to_domain l.is ∙ fit-back l.thing l.fits in
    subst (λ (t : List ℕ). P t (to_domain s)) (sym l.is) (subst (P (domain_octets l.thing)) (sym back) (h l.thing l.fits))

-- the octet that says whether it is registered
pub held-octet : (d : Domain) → FitDomain d → get_or (domain_octets d) slot_index.registered 0 ≡ get_or (domain_numbers d) slot_index.registered 0
unfolding domain_octets width
held-octet d f = get-octet slot_widths (domain_numbers d) f slot_index.registered refl

-- Lv and LeaveAll.

begun-is : (clock v : ℕ) (l : Leaving) → FitDomain (domain v l) → begun in_slot.leaves clock (domain_octets (domain v l)) ≡ domain_octets (domain v (begin clock l))
unfolding domain_octets width
begun-is clock v l f =
    begun-numbers slot_widths (domain_numbers (domain v l)) f slot_index.leaves in_slot.leaves refl refl refl refl clock
    ∙ ap (packed slot_widths) (go l)
  where
    go : (l : Leaving)
        → let vs = domain_numbers (domain v l) in
        pick (eqb (get_or vs slot_index.leaves 0) 0) (set (set vs slot_index.leaves 1) slot_index.since clock) vs ≡ domain_numbers (domain v (begin clock l))
    go stays = unfold domain_numbers leaving_number since_number begin pick in refl
    go (since t) = unfold domain_numbers leaving_number since_number begin pick in refl

module _ (clock : ℕ) where
  held-begins : (d : Domain) → FitDomain d → 0 < get_or (domain_octets d) slot_index.registered 0 → begun in_slot.leaves clock (domain_octets d) ≡ domain_octets (quit_domain clock d)
  unfolding domain_numbers quit_domain
  held-begins no_domain f h = absurd (omega (arith, held-octet no_domain f))
  held-begins (domain v l) f h = begun-is clock v l f

  free_stays : (d : Domain) → FitDomain d → get_or (domain_octets d) slot_index.registered 0 ≡ 0 → domain_octets d ≡ domain_octets (quit_domain clock d)
  unfolding domain_numbers quit_domain
  free_stays no_domain f h = refl
  free_stays (domain v l) f h = absurd (omega (arith, held-octet (domain v l) f))

  pub quits : (s : List ℕ) → LaidDomain s → 0 < get_or s slot_index.registered 0 → begun in_slot.leaves clock s ≡ domain_octets (quit_domain clock (to_domain s))
  quits = laid (λ s d. 0 < get_or s slot_index.registered 0 → begun in_slot.leaves clock s ≡ domain_octets (quit_domain clock d)) held-begins

  pub quits-none : (s : List ℕ) → LaidDomain s → get_or s slot_index.registered 0 ≡ 0 → s ≡ domain_octets (quit_domain clock (to_domain s))
  quits-none = laid (λ s d. get_or s slot_index.registered 0 ≡ 0 → s ≡ domain_octets (quit_domain clock d)) free_stays

-- Joins.

pub joins : (v : ℕ) (s : List ℕ) → length s ≡ slot_size
    → patch in_slot.vlan 2 (be 2 v) (patch 0 1 (be 1 1) (patch 0 slot_size (zeros slot_size) s)) ≡ domain_octets (domain v stays)
unfolding domain_octets width
joins v s e =
    let none = domain_numbers no_domain in
    ap (λ (t : List ℕ). patch in_slot.vlan 2 (be 2 v) (patch 0 1 (be 1 1) t)) (patch-whole slot_size (zeros slot_size) s e ∙ sym domain-zeros)
    ∙ unfold domain_numbers leaving_number since_number in (ap (patch in_slot.vlan 2 (be 2 v)) (put-field slot_widths none slot_index.registered 1 refl)
    ∙ put-field slot_widths (set none slot_index.registered 1) slot_index.vlan v refl)

-- Expiry.

expired-is : (st : Settings) (now : ℕ) (d : Domain) → FitDomain d → lapsed 0 slot_size in_slot.leaves st.leave_time now (domain_octets d) ≡ domain_octets (expire_domain st now d)
unfolding domain_octets width part
expired-is st now d f =
    lapsed-numbers slot_widths (domain_numbers d) f slot_index.leaves in_slot.leaves refl refl refl refl 0 (length slot_widths) st.leave_time now (omega arith)
    ∙ ap (packed slot_widths) (go d)
  where
    over : (v t : ℕ) (b : Bool)
        → let vs = domain_numbers (domain v (since t)) in
        pick b (patch 0 4 (zeros 4) vs) vs ≡ domain_numbers (cond b no_domain (domain v (since t)))
    over v t true = unfold domain_numbers pick patch in refl
    over v t false = unfold pick in refl

    go : (d : Domain)
        → let vs = domain_numbers d in
        pick (eqb (get_or vs slot_index.leaves 0) 0) vs (pick (leb (get_or vs slot_index.since 0 + st.leave_time) now) (patch 0 4 (zeros 4) vs) vs) ≡ domain_numbers (expire_domain st now d)
    go no_domain = unfold domain_numbers pick expire_domain in refl
    go (domain v stays) = unfold domain_numbers leaving_number pick expire_domain expired in refl
    go (domain v (since t)) = unfold domain_numbers leaving_number since_number pick expire_domain expired in over v t (leb (t + st.leave_time) now)

pub expires : (st : Settings) (leave now : ℕ) → st.leave_time ≡ leave → (s y : List ℕ) → LaidDomain s → y ≡ lapsed 0 slot_size in_slot.leaves leave now s
    → y ≡ domain_octets (expire_domain st now (to_domain s))
expires st leave now e s y l q =
    rw (q, ← e) (laid (λ s d. lapsed 0 slot_size in_slot.leaves st.leave_time now s ≡ domain_octets (expire_domain st now d)) (expired-is st now) s l)
