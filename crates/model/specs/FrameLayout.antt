-- The layout of an MSRPDU (01, "The PDU"; Tables 35-1, 35-2): the widths of FirstValues' fields, and every length and place
-- computed from them; and the lengths of MMRP.
use Rattle.std.specs.Prelude.{ℕ, List, [], ◌∷◌}
use Rattle.model.specs.Layout.{before, sum}

-- Talker: StreamID, destination, VLAN, MaxFrameSize, MaxIntervalFrames, priority and rank, AccumulatedLatency, and more behind it
abbrev pub talker_widths : List ℕ → List ℕ
talker_widths more = 8 ∷ 6 ∷ 2 ∷ 2 ∷ 2 ∷ 1 ∷ 4 ∷ more

abbrev pub advertise_widths : List ℕ
advertise_widths = talker_widths []

-- Failed adds Bridge ID and code
abbrev pub failed_widths : List ℕ
failed_widths = talker_widths (8 ∷ 1 ∷ [])

-- StreamID
abbrev pub listener_widths : List ℕ
listener_widths = 8 ∷ []

-- class ID, priority, VLAN
abbrev pub domain_widths : List ℕ
domain_widths = 1 ∷ 1 ∷ 2 ∷ []

-- 25, 34, 8 and 4 octets
abbrev pub advertise_length : ℕ
advertise_length = sum advertise_widths

abbrev pub failed_length : ℕ
failed_length = sum failed_widths

abbrev pub listener_length : ℕ
listener_length = sum listener_widths

abbrev pub domain_length : ℕ
domain_length = sum domain_widths

-- MMRP: "Service Requirement is type 1 of length 1, read and dropped; MAC is type 2 of length 6" (02, vi)
abbrev pub service_length : ℕ
service_length = 1

abbrev pub mac_length : ℕ
mac_length = 6

-- Places in a FirstValue: the Unique ID behind the MAC of a StreamID, then a Talker's fields.
abbrev pub in_first_value : record { unique : ℕ; destination : ℕ; vlan : ℕ; priority : ℕ; latency : ℕ; bridge : ℕ; code : ℕ }
in_first_value = record {
  unique = 6;
  destination = before 1 advertise_widths;
  vlan = before 2 advertise_widths;
  priority = before 5 advertise_widths;
  latency = before 6 advertise_widths;
  bridge = before 7 failed_widths;
  code = before 8 failed_widths;
}

-- the octets of the longest PDU
abbrev pub longest_pdu : ℕ
longest_pdu = 1500
