-- What a port decides by itself: its Domain values and addresses expired, and whether it is at the edge of each class's domain.
use mathlib.Core.Path.{◌≡◌, refl, ap, ◌∙◌}
use mathlib.Core.List.{List, [], ◌∷◌, map}
use mathlib.Core.Bool.{Bool, true, false}
use Prim.Native.Nat.{ℕ, ◌+◌, ◌≤◌, ◌<◌}
use native.Mathlib.Nat.{le_trans}
use native.Mathlib.Numerals.{add-one}
use native.Mathlib.Omega.{arith}
use lib.ListN.{length, drop, length-drop}
use lib.Seq.{drop-cons, drop-length, take_all, get_or-set_same, set-set}
use borrow.Author.Tests.{lt-ltb, le-ltb}
use Rattle.octets.specs.Fields.{Fit}
use Rattle.model.specs.Layout.{address_widths, own_size, slots}
use Rattle.model.specs.Lists.{All, keep}
use Rattle.model.specs.State.{Settings, Domain, no_domain, Address, Own, no_own, Bridge, no_port, port_at, is_port, own_at, Class, class_a, class_b, supports}
use Rattle.model.specs.Registrations.{change_addresses, change_domains, macs, owning}
use Rattle.model.specs.Settling.{expire_domain, outlasts, remain_addresses, domains_of, any_supports, is_edge, flag_of, decide_own, decide_owns}
use Rattle.model.specs.Table.{address_numbers, to_own, own_octets, encode, decode}
use Rattle.model.specs.Laid.{Ascending, FitAddresses, FitOwn, LaidOwn, Laid}
use Rattle.model.proofs.Lists.{all_get_or, all_replicate, all-tabulate}
use Rattle.model.proofs.AdvanceKeepsForm.{length-tabulate, fewer-addresses, macs-remain}
use Rattle.model.proofs.Owns.{own-length, own-fit-back}
use Rattle.model.proofs.Fits.{laid-fits}
use Rattle.table.specs.Places.{PortIn}
use Rattle.table.specs.Updates.{with_own}
use Rattle.table.proofs.ByPlace.{encoded-read}
use Rattle.table.proofs.OwnParts.{own-fits, with-own-fits, own-replaced-laid}
use Rattle.domains.specs.Classes.{class_from}
use Rattle.domains.proofs.Keeps.{FitDomain, no-domain-fits}
use Rattle.domains.proofs.Ports.{laid-own-fits, expired-own-fits}
use Rattle.settling.specs.Removed.{unmatched_of, expired_own, flagged_own}

-- Some port supports the class.

module _ (st : Settings) (c : Class) where
  module _ (p : ℕ) (h : p < length st.ports) where
    one-port : drop p st.ports ≡ port_at st p ∷ drop (p + 1) st.ports
    unfolding port_at
    one-port = rw (add-one p) (drop-cons st.ports p no_port h)

    pub supported-here : supports (port_at st p) c ≡ true → any_supports c (drop p st.ports) ≡ true
    unfolding any_supports
    supported-here e = rw (one-port, e)

    pub unsupported-next : supports (port_at st p) c ≡ false → any_supports c (drop p st.ports) ≡ any_supports c (drop (p + 1) st.ports)
    unsupported-next e = rw one-port (unfold any_supports in rw e)

  pub no-port-left : any_supports c (drop (length st.ports) st.ports) ≡ false
  unfolding any_supports
  no-port-left = rw (drop-length st.ports)

-- The values of a class by their first slot.

pub a-from : (ds : List Domain) → length ds ≡ slots → class_from 8 ds ≡ domains_of class_a ds
unfolding class_from domains_of
a-from ds e = take_all 8 (drop 8 ds) (omega (arith, length-drop 8 ds))

pub b-from : (ds : List Domain) → class_from 0 ds ≡ domains_of class_b ds
unfolding class_from domains_of
b-from ds = refl

-- The flag.

module _ (st : Settings) (p : ℕ) (c : Class) (ds : List Domain) where
  pub no_flag : length st.ports ≤ p → flag_of st p c ds ≡ false
  unfolding flag_of is_port
  no_flag h = rw (le-ltb p (length st.ports) h)

  module _ (h : p < length st.ports) where
    pub supported-flag : supports (port_at st p) c ≡ true → flag_of st p c ds ≡ unmatched_of st c ds
    unfolding flag_of is_port is_edge
    supported-flag e = rw (lt-ltb p (length st.ports) h, e)

    pub unsupported-flag : supports (port_at st p) c ≡ false → flag_of st p c ds ≡ any_supports c st.ports
    unfolding flag_of is_port is_edge
    unsupported-flag e = rw (lt-ltb p (length st.ports) h, e)

-- The addresses that remain fit.

module _ (st : Settings) (now : ℕ) where
  -- what holds of each address holds of those that remain
  those-remain : (P : Address → Type 0) (l : List Address) → All P l → All P (remain_addresses st now l)
  unfolding remain_addresses
  those-remain P [] a = tt
  those-remain P (x ∷ l) a = go (outlasts st now x.presence) (those-remain P l a.1)
    where
      go : (t : Bool) → All P (remain_addresses st now l) → All P (keep t x (remain_addresses st now l))
      go true ih = (a.0, ih)
      go false ih = ih

  addresses-ascend : (l : List Address) → Ascending (macs l) → Ascending (macs (remain_addresses st now l))
  unfolding macs remain_addresses
  addresses-ascend [] r = tt
  addresses-ascend (x ∷ l) r = go (outlasts st now x.presence) (addresses-ascend l r.1)
    where
      go : (t : Bool) → Ascending (macs (remain_addresses st now l)) → Ascending (macs (keep t x (remain_addresses st now l)))
      go true ih = (macs-remain st now (λ j. x.mac < j) l r.0, ih)
      go false ih = ih

  remaining-fits : (l : List Address) → FitAddresses l → FitAddresses (remain_addresses st now l)
  remaining-fits l f = record {
    at_most_64 = le_trans (fewer-addresses st now l) f.at_most_64;
    each = those-remain (λ a. Fit address_widths (address_numbers a)) l f.each;
    ascending = addresses-ascend l f.ascending;
  }

  pub expired-fits : (o : Own) → FitOwn o → FitOwn (expired_own st now o)
  unfolding change_addresses change_domains
  expired-fits o f =
      let d = expired-own-fits st now o f in
      record { slotted = d.slotted; domains = d.domains; addresses = remaining-fits o.addresses f.addresses }

-- What both removals leave, the second by what the first left.
module _ (st : Settings) (now : ℕ) (s : List ℕ) (l : LaidOwn s) (t : List ℕ) (e : t ≡ own_octets (change_domains (map (expire_domain st now)) (to_own s))) where
  abbrev first : Own
  first = change_domains (map (expire_domain st now)) (to_own s)

  first_fits : FitOwn first
  first_fits = expired-own-fits st now (to_own s) (laid-own-fits s l)

  pub first-laid : LaidOwn t × (length t ≡ own_size)
  first-laid = (record { thing = first; fits = first_fits; is = e }, ap length e ∙ own-length first first_fits.slotted first_fits.addresses.at_most_64)

  pub both-expired : (u : List ℕ) → u ≡ own_octets (change_addresses (remain_addresses st now) (to_own t)) → u ≡ own_octets (expired_own st now (to_own s))
  both-expired u q = q ∙ ap (λ (o : Own). own_octets (change_addresses (remain_addresses st now) o)) (ap to_own e ∙ own-fit-back first first_fits)

-- One port: the removals, then the flags.

pub decided-own : (st : Settings) (now : ℕ) (o : List Own) (p : ℕ) → flagged_own st p (expired_own st now (own_at o p)) ≡ decide_own st now o p
unfolding decide_own change_addresses change_domains
decided-own st now o p = refl

-- it hangs on what the port held
pub same-decision : (st : Settings) (now : ℕ) (o r : List Own) (p : ℕ) → own_at o p ≡ own_at r p → decide_own st now o p ≡ decide_own st now r p
unfolding decide_own
same-decision st now o r p e = rw e

flagged-fits : (st : Settings) (p : ℕ) (o : Own) → FitOwn o → FitOwn (flagged_own st p o)
flagged-fits st p o f = record { slotted = f.slotted; domains = f.domains; addresses = f.addresses }

module _ (st : Settings) (now : ℕ) (t : List ℕ) (p : ℕ) (s : PortIn t p) (t₁ : List ℕ) (e₁ : t₁ ≡ encode (with_own p (expired_own st now (own_at (decode t).owns p)) (decode t))) where
  abbrev o : Own
  o = expired_own st now (own_at (decode t).owns p)

  fits : FitOwn o
  fits = expired-fits st now (own_at (decode t).owns p) (own-fits s)

  pub expired-own-in : PortIn t₁ p
  expired-own-in = record { laid = own-replaced-laid s o fits t₁ e₁; port = s.port }

  read : decode t₁ ≡ with_own p o (decode t)
  read = encoded-read (with_own p o (decode t)) (with-own-fits s o fits) t₁ e₁

  here : own_at (decode t₁).owns p ≡ o
  here =
      ap (λ (b : Bridge). own_at b.owns p) read
      ∙ unfold owning in get_or-set_same (decode t).owns p o no_own (omega (arith, s.port, (laid-fits t s.laid).eight_owns))

  pub decided-octets : (decode t).settings ≡ st → (t₂ : List ℕ) → t₂ ≡ encode (with_own p (flagged_own (decode t₁).settings p (own_at (decode t₁).owns p)) (decode t₁))
      → t₂ ≡ encode (with_own p (decide_own st now (decode t).owns p) (decode t))
  decided-octets k t₂ e₂ =
      let same : (decode t₁).settings ≡ st = ap (λ (b : Bridge). b.settings) read ∙ unfold owning in k in
      e₂
      ∙ ap (λ (v : Settings). encode (with_own p (flagged_own v p (own_at (decode t₁).owns p)) (decode t₁))) same
      ∙ ap (λ (x : Own). encode (with_own p (flagged_own st p x) (decode t₁))) here
      ∙ ap (λ (b : Bridge). encode (with_own p (flagged_own st p o) b)) read
      ∙ ap (λ (x : Own). encode (with_own p x (with_own p o (decode t)))) (decided-own st now (decode t).owns p)
      ∙ unfold owning in ap (λ (l : List Own). encode (owning (decode t) l)) (set-set (decode t).owns p o (decide_own st now (decode t).owns p))

-- Every port.

no-own-fits : FitOwn no_own
unfolding no_own macs
no-own-fits = record {
  slotted = refl;
  domains = all_replicate FitDomain slots no_domain no-domain-fits;
  addresses = record { at_most_64 = omega arith; each = tt; ascending = tt };
}

module _ (st : Settings) (now : ℕ) (l : List Own) (a : All FitOwn l) where
  pub decision-fits : (p : ℕ) → FitOwn (decide_own st now l p)
  decision-fits p =
      rw (decided-own st now l p) at
      (flagged-fits st p (expired_own st now (own_at l p)) (expired-fits st now (own_at l p) (all_get_or FitOwn l a no_own no-own-fits p)))

  pub decisions-fit : All FitOwn (decide_owns st now l)
  unfolding decide_owns
  decisions-fit = all-tabulate FitOwn 8 0 (decide_own st now l) decision-fits

-- what is decided at each place, from what the table was
abbrev pub decision : List ℕ → ℕ → ℕ → Own
decision t time = decide_own (decode t).settings time (decode t).owns

pub decided-fits : (t : List ℕ) → Laid t → (time p : ℕ) → FitOwn (decision t time p)
decided-fits t l time = decision-fits (decode t).settings time (decode t).owns (laid-fits t l).owns

pub decisions-eight : (st : Settings) (now : ℕ) (l : List Own) → length (decide_owns st now l) ≡ 8
unfolding decide_owns
decisions-eight st now l = length-tabulate 8 0 (decide_own st now l)
