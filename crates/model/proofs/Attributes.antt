-- The octets of AttributeTypes.
use Rattle.std.proofs.Common.{◌≡◌, ◌+◌, refl, Some, None}
use Rattle.model.specs.Frames.{registers, domain_type, type_number}
use Rattle.model.specs.Frames as frames
use Rattle.model.specs.Registrations.{advertises, faileds, listeners}
use Rattle.model.specs.Attributes.{type_of, code_of, kind_of, of_stream, talker_number}
use Rattle.model.specs.declared.attribute.Attribute.{Attribute}
use Rattle.model.specs.declared.attribute.Attribute.TheVariants.{Advertise, Failed, Listener, Domain}
use Rattle.model.specs.contracts.attribute.Attribute as contracts
use Rattle.model.specs.declared.attribute.StreamAttribute.{StreamAttribute}
use Rattle.model.specs.declared.attribute.TalkerAttribute.{TalkerAttribute}
use Rattle.model.specs.declared.attribute.TalkerAttribute.TheVariants as talker
use Rattle.model.specs.contracts.attribute.TalkerAttribute as talkers
use denote.Enum.Declared.{tag_of}

pub octets_of : (a : Attribute) → tag_of contracts.the_type a + 1 ≡ type_number (type_of a)
unfolding type_number
octets_of Advertise = refl
octets_of Failed = refl
octets_of Listener = refl
octets_of Domain = refl

pub talkers_octets_of : (t : TalkerAttribute) → tag_of talkers.the_type t + 1 ≡ talker_number t
talkers_octets_of talker.Advertise = refl
talkers_octets_of talker.Failed = refl

-- what an AttributeType registers a stream as

pub stream_type : (a : Attribute) (s : StreamAttribute) → of_stream a ≡ Some s → type_of a ≡ registers (kind_of s)
stream_type Advertise s e = cc
stream_type Failed s e = cc
stream_type Listener s e = cc
stream_type Domain s e = cc

pub no_stream_type : (a : Attribute) → of_stream a ≡ None → type_of a ≡ domain_type
no_stream_type Advertise e = cc
no_stream_type Failed e = cc
no_stream_type Listener e = cc
no_stream_type Domain e = refl

-- there and back

pub code_type : (k : frames.Attribute) → type_of (code_of k) ≡ k
code_type (registers advertises) = refl
code_type (registers faileds) = refl
code_type (registers listeners) = refl
code_type domain_type = refl
