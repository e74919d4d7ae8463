-- Registrations follow Table 10-4: what a join, an Lv or LeaveAll, and the leave time do to one is the Registrar's entry.
use mathlib.Core.Path.{◌≡◌, refl}
use mathlib.Core.Bool.{Bool, true, false, cond}
use Prim.Native.Nat.{ℕ}
use Rattle.model.specs.State.{Settings, Leaving, stays, since, Fixed, Varying, Registration, Talker, no_talker, talker, Ready, Listener, no_listener, listener, Domain, no_domain, domain}
use Rattle.model.specs.Registrations.{Kind, listeners, begin, talks_as, hears_as, with_leaving, quit_talker, quit_listener, quit_domain, same_fixed, first_join, same_join, other_join, join_talker}
use Rattle.model.specs.Settling.{expired, expire_talker, expire_listener, expire_domain}
use Rattle.model.specs.Registrar.{r_new, r_join_in, r_join_mt, r_lv, r_la, tx_la, leavetimer, registrar_to, only, leaving_row, joining_row, registrar_row, registrar_column, registrar_entry, Registered, unheld, held_with, registrar_of, timed, leaving_of, registered_as, registrar_next}

-- to open the table
unfoldable pub registrars : Unit {0}
unfolding registrar_next registrar_entry registrar_row registrar_column leaving_row joining_row registrar_to only registrar_of timed leaving_of registered_as
registrars = tt

-- rLv!, rLA! and txLA! start leaving at the held clock, and what is leaving keeps its time
pub leaves : (now : ℕ) (l : Leaving)
    → (registrar_next now r_lv (held_with l) ≡ held_with (begin now l)) × (registrar_next now r_la (held_with l) ≡ held_with (begin now l))
    × (registrar_next now tx_la (held_with l) ≡ held_with (begin now l))
unfolding registrars begin
leaves now stays = (refl, refl, refl)
leaves now (since t) = (refl, refl, refl)

-- New, JoinIn and JoinMt register, and end a leaving
pub joins : (now : ℕ) (x : Registered)
    → (registrar_next now r_new x ≡ held_with stays) × (registrar_next now r_join_in x ≡ held_with stays) × (registrar_next now r_join_mt x ≡ held_with stays)
unfolding registrars
joins now unheld = (refl, refl, refl)
joins now (held_with stays) = (refl, refl, refl)
joins now (held_with (since t)) = (refl, refl, refl)

-- the leave timer ends a registration that is leaving
pub times-out : (now t : ℕ) → registrar_next now leavetimer (held_with (since t)) ≡ unheld
unfolding registrars
times-out now t = refl

-- Of what a port holds.

unfoldable pub of_talker : Talker → Registered
of_talker no_talker = unheld
of_talker (talker r) = held_with r.leaving

unfoldable pub of_listener : Listener → Registered
of_listener no_listener = unheld
of_listener (listener r l) = held_with l

unfoldable pub of_domain : Domain → Registered
of_domain no_domain = unheld
of_domain (domain v l) = held_with l

-- nothing is registered by an Lv
nothing-leaves : (now : ℕ) → registrar_next now r_lv unheld ≡ unheld
unfolding registrars
nothing-leaves now = refl

pub talker-leaves : (now : ℕ) (k : Kind) (r : Registration) → talks_as k r.varying.type ≡ true
    → of_talker (quit_talker now k (talker r)) ≡ registrar_next now r_lv (of_talker (talker r))
unfolding of_talker quit_talker with_leaving
talker-leaves now k r h = rw (h, (leaves now r.leaving).0)

pub listener-leaves : (now : ℕ) (x : Listener) → of_listener (quit_listener now listeners x) ≡ registrar_next now r_lv (of_listener x)
unfolding of_listener quit_listener hears_as
listener-leaves now no_listener = rw (nothing-leaves now)
listener-leaves now (listener r l) = rw (leaves now l).0

pub domain-leaves : (now : ℕ) (d : Domain) → of_domain (quit_domain now d) ≡ registrar_next now r_lv (of_domain d)
unfolding of_domain quit_domain
domain-leaves now no_domain = rw (nothing-leaves now)
domain-leaves now (domain v l) = rw (leaves now l).0

-- a join of equal values and one of others
pub talker-joins : (now : ℕ) (f : Fixed) (v : Varying) (x : Talker) → of_talker (join_talker f v x) ≡ registrar_next now r_join_mt (of_talker x)
unfolding of_talker join_talker first_join same_join other_join
talker-joins now f v no_talker = rw (joins now unheld).2
talker-joins now f v (talker r) = rw (joins now (held_with r.leaving)).2 (go (same_fixed f r.fixed))
  where
    go : (b : Bool) → held_with (cond b (same_join v r) (other_join r)).leaving ≡ held_with stays
    go true = refl
    go false = refl

-- the leave time has run out
pub talker-times-out : (st : Settings) (now t : ℕ) (r : Registration) → r.leaving ≡ since t → expired st now (since t) ≡ true
    → of_talker (expire_talker st now (talker r)) ≡ registrar_next now leavetimer (of_talker (talker r))
unfolding of_talker expire_talker
talker-times-out st now t r e h = rw (e, h, times-out now t) refl

pub listener-times-out : (st : Settings) (now t : ℕ) (r : Ready) → expired st now (since t) ≡ true
    → of_listener (expire_listener st now (listener r (since t))) ≡ registrar_next now leavetimer (of_listener (listener r (since t)))
unfolding of_listener expire_listener
listener-times-out st now t r h = rw (h, times-out now t) refl

pub domain-times-out : (st : Settings) (now t v : ℕ) → expired st now (since t) ≡ true
    → of_domain (expire_domain st now (domain v (since t))) ≡ registrar_next now leavetimer (of_domain (domain v (since t)))
unfolding of_domain expire_domain
domain-times-out st now t v h = rw (h, times-out now t) refl
