-- What a walk over the acts of an MMRP frame does to the addresses of its port. A frame is walked twice: first room is made, a
-- vacant record for each address that it joins and that is not held; then the acts are done. A walk stops where a 65th record
-- would be needed.
use Rattle.std.specs.Prelude.{ℕ, ◌<◌, ◌≡◌, List, [], ◌∷◌, Bool, true, false, length}
use Rattle.model.specs.Layout.{most_addresses}
use Rattle.model.specs.State.{Address}
use Rattle.model.specs.Registrations.{AddressAct, leave_all_addresses, leave_address, join_address, does_address, change_addresses}
use Rattle.model.specs.Table.{own_octets, to_own}
use Rattle.model.specs.Laid.{FitAddresses}
use Rattle.addresses.specs.Room.{with_room, present_only}

unfoldable pub room : AddressAct → List Address → List Address
room leave_all_addresses l = l
room (leave_address m) l = l
room (join_address m) l = with_room m l

-- what one act does on a walk that applies, or that makes room
unfoldable pub effect : Bool → ℕ → AddressAct → List Address → List Address
effect true now a l = does_address now a l
effect false now a l = room a l

unfoldable pub effects : Bool → ℕ → List AddressAct → List Address → List Address
effects m now [] l = l
effects m now (a ∷ es) l = effects m now es (effect m now a l)

-- the addresses in the octets s of what a port holds by itself, and those octets with other addresses
unfoldable pub held : List ℕ → List Address
held s = (to_own s).addresses

unfoldable pub having : List ℕ → List Address → List ℕ
having s l = own_octets (change_addresses (λ _. l) (to_own s))

-- a walk to its end leaves the octets u
pub record Went (m : Bool) (now : ℕ) (es : List AddressAct) (s u : List ℕ) : Type 0 where
  pub octets : u ≡ having s (effects m now es (held s))
  pub fits : FitAddresses (effects m now es (held s))

-- one that stops found no room for all, and where it makes room it has only put in vacant records
pub record Stopped (m : Bool) (now : ℕ) (es : List AddressAct) (s u : List ℕ) : Type 0 where
  pub left : List Address
  pub octets : u ≡ having s left
  pub fits : FitAddresses left
  pub many : most_addresses < length (effects m now es (held s))
  pub restored : m ≡ false → present_only left ≡ present_only (held s)

-- its answer tells which
abbrev pub Walked : Bool → ℕ → List AddressAct → List ℕ → Bool → List ℕ → Type 0
Walked m now es s true u = Went m now es s u
Walked m now es s false u = Stopped m now es s u
