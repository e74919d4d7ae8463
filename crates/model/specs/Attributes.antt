-- The AttributeTypes of the code as the model has them.
use Rattle.std.specs.Prelude.{ℕ, zero, suc, Option, Some, None}
use Rattle.model.specs.Registrations.{Kind, advertises, faileds, listeners}
use Rattle.model.specs.Frames.{registers, domain_type}
use Rattle.model.specs.Frames as frames
use Rattle.model.specs.declared.attribute.Attribute.{Attribute}
use Rattle.model.specs.declared.attribute.Attribute.TheVariants.{Advertise, Failed, Listener, Domain}
use Rattle.model.specs.declared.attribute.TalkerAttribute.{TalkerAttribute}
use Rattle.model.specs.declared.attribute.TalkerAttribute.TheVariants as talker
use Rattle.model.specs.declared.attribute.StreamAttribute.{StreamAttribute}
use Rattle.model.specs.declared.attribute.StreamAttribute.TheVariants as stream

abbrev pub type_of : Attribute → frames.Attribute
type_of Advertise = registers advertises
type_of Failed = registers faileds
type_of Listener = registers listeners
type_of Domain = domain_type

abbrev pub code_of : frames.Attribute → Attribute
code_of (registers advertises) = Advertise
code_of (registers faileds) = Failed
code_of (registers listeners) = Listener
code_of domain_type = Domain

abbrev pub talker_kind_of : TalkerAttribute → Kind
talker_kind_of talker.Advertise = advertises
talker_kind_of talker.Failed = faileds

-- its octet
abbrev pub talker_number : TalkerAttribute → ℕ
talker_number talker.Advertise = 1
talker_number talker.Failed = 2

abbrev pub kind_of : StreamAttribute → Kind
kind_of (stream.Talker t) = talker_kind_of t
kind_of stream.Listener = listeners

-- what an octet says
abbrev pub attribute_at : ℕ → Option Attribute
attribute_at zero = None
attribute_at (suc zero) = Some Advertise
attribute_at (suc (suc zero)) = Some Failed
attribute_at (suc (suc (suc zero))) = Some Listener
attribute_at (suc (suc (suc (suc zero)))) = Some Domain
attribute_at (suc (suc (suc (suc (suc n))))) = None

-- what registers a stream
abbrev pub of_stream : Attribute → Option StreamAttribute
of_stream Advertise = Some (stream.Talker talker.Advertise)
of_stream Failed = Some (stream.Talker talker.Failed)
of_stream Listener = Some stream.Listener
of_stream Domain = None
