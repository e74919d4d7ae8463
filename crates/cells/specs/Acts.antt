-- What a frame's octets ask of a cell.
use Rattle.std.specs.Prelude.{List, ℕ, zero, suc, get_or}
use Rattle.octets.specs.Fields.{fields}
use Rattle.model.specs.Registrations.{Kind, advertises, faileds, listeners, Act, talk}
use Rattle.model.specs.Frames.{registers, first_widths, id_value, fixed_value, talker_type_value}

-- what the octet of an AttributeType that registers is registered as: any but those of a Talker is the Listener's
unfoldable pub kind_at : ℕ → Kind
kind_at zero = listeners
kind_at (suc zero) = advertises
kind_at (suc (suc zero)) = faileds
kind_at (suc (suc (suc k))) = listeners

-- a Talker's join: value n of a FirstValue
unfoldable pub talk_of : Kind → List ℕ → ℕ → Act
talk_of k first n =
    let vs = fields (first_widths (registers k)) 0 first in
    talk (id_value vs n) (fixed_value vs n) record { type = talker_type_value k vs; latency = get_or vs 6 0 }
