-- What the walk reads of a frame, and what it leaves.
use Rattle.std.specs.Prelude.{ℕ, suc, ◌≡◌, List, [], Bool, false, cond, length, leb, Option, Some, None}
use Rattle.model.specs.Layout.{most_addresses}
use Rattle.model.specs.Registrations.{AddressAct, AddressReading, refused_frame, address_acts, does_addresses, change_addresses}
use Rattle.model.specs.Table.{own_octets, to_own}
use Rattle.model.specs.Frames.{Asking, nothing_asked, join, withdraw}
use Rattle.model.specs.AddressFrames as frames
use Rattle.mmrpdu.specs.Reader.{list_named}
use Rattle.mmrpdu.specs.declared.MessageHead.{MessageHead}
use Rattle.model.specs.declared.event.Asked.{Asked}
use Rattle.model.specs.declared.event.Asked.TheVariants.{Join, Leave}
use Rattle.mmrp.specs.Run.{held, Went, Stopped}

unfoldable pub asked_of : Asking → Option Asked
asked_of nothing_asked = None
asked_of join = Some Join
asked_of withdraw = Some Leave

-- a vector by the parts that its values are read from
unfoldable pub vector_of : List ℕ → List ℕ → frames.AddressVector
vector_of first three = record { leaves_all = false; values = 0; first = first; three = three }

-- the acts of a frame, and of a list with the place behind it
unfoldable pub acts_of : AddressReading → List AddressAct
acts_of (refused_frame n) = []
acts_of (address_acts es) = es

-- the list of a Message
unfoldable pub list_read : List ℕ → ℕ → MessageHead → frames.ListWalk
list_read s version m = frames.address_vectors (suc (length s)) version (list_named m.kind m.octets) s m.list

unfoldable pub list_acts_of : frames.ListWalk → List AddressAct
list_acts_of (frames.list_fault n) = []
list_acts_of (frames.list_acts es end) = es

unfoldable pub list_end_of : frames.ListWalk → ℕ
list_end_of (frames.list_fault n) = 0
list_end_of (frames.list_acts es end) = end

-- a walk over a list comes to its end, or stops
abbrev pub Reaches : Bool → ℕ → frames.ListWalk → List ℕ → Option ℕ → List ℕ → Type 0
Reaches m now w s (Some e) u = (e ≡ list_end_of w) × Went m now (list_acts_of w) s u
Reaches m now w s None u = Stopped m now (list_acts_of w) s u

-- A frame: 14 "where a port would need a 65th address", or its acts are done.

unfoldable pub taken : ℕ → List ℕ → List ℕ → List ℕ
taken now pdu s = own_octets (change_addresses (does_addresses now (acts_of (frames.address_walk pdu))) (to_own s))

-- from the octets s it leaves the octets u, and its answer r tells whether it is accepted
pub record Receives (now : ℕ) (pdu s : List ℕ) (r : Bool) (u : List ℕ) : Type 0 where
  pub answer : r ≡ leb (length (does_addresses now (acts_of (frames.address_walk pdu)) (held s))) most_addresses
  pub octets : u ≡ cond r (taken now pdu s) s
