-- A declarer of a type that registers is a stream, one of Domain values a slot.
use mathlib.Core.Path.{◌≡◌, refl, subst}
use mathlib.Core.List.{List}
use Prim.Native.Nat.{ℕ, ◌<◌}
use lib.ListN.{length}
use Rattle.model.specs.Layout.{slots}
use Rattle.model.specs.Registrations.{Kind}
use Rattle.model.specs.Frames.{registers, domain_type}
use Rattle.model.specs.State.{sender_at}
use Rattle.model.specs.Table.{decode}
use Rattle.std.specs.Prelude.{Some, None}
use Rattle.model.specs.Attributes.{type_of, kind_of, of_stream}
use Rattle.model.specs.declared.attribute.Attribute as code
use Rattle.model.specs.declared.attribute.Attribute.TheVariants.{Advertise, Failed, Listener, Domain}
use Rattle.model.specs.declared.attribute.StreamAttribute.{StreamAttribute}
use Rattle.model.specs.declared.attribute.StreamAttribute.TheVariants.{Talker}
use Rattle.model.specs.declared.attribute.StreamAttribute.TheVariants as registered
use Rattle.model.specs.declared.attribute.TalkerAttribute.TheVariants as talker
use Rattle.table.specs.Places.{StandsOn, PortIn, SlotIn}
use Rattle.table.proofs.SenderParts.{sender-fits}
use Rattle.declarations.specs.Passes.{declarers, Declarer}

pub stream : {t : List ℕ} {k p : ℕ} {j : Kind} → Declarer t k p (registers j) → StandsOn t k p
unfolding declarers
stream d = record { laid = d.laid; held = d.held; port = d.port }

pub slot : {t : List ℕ} {k p : ℕ} → Declarer t k p domain_type → SlotIn t p k
unfolding declarers
slot {k = k} d = record {
  laid = d.laid;
  port = d.port;
  slot = subst (λ (n : ℕ). k < n) (sender-fits record { laid = d.laid; port = d.port }).slotted d.held;
}

-- the slots of a port
pub slots_held : {t : List ℕ} {p : ℕ} → PortIn t p → length (sender_at (decode t).senders p).domains ≡ slots
slots_held w = (sender-fits w).slotted

-- What registers a stream, and what none.

pub stream_type : (a : code.Attribute) (s : StreamAttribute) → of_stream a ≡ Some s → type_of a ≡ registers (kind_of s)
stream_type Advertise s e = let h : Talker talker.Advertise ≡ s = cc in rw (← h) refl
stream_type Failed s e = let h : Talker talker.Failed ≡ s = cc in rw (← h) refl
stream_type Listener s e = let h : registered.Listener ≡ s = cc in rw (← h) refl
stream_type Domain s e = cc

pub domain-type : (a : code.Attribute) → of_stream a ≡ None → type_of a ≡ domain_type
domain-type Advertise e = cc
domain-type Failed e = cc
domain-type Listener e = cc
domain-type Domain e = refl
