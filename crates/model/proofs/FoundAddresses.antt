-- What holds of every MMRP frame that is read: the numbers that it may be refused with, and that each address asked for is one of
-- 48 bits; and what the walk gives, by its parts.
use mathlib.Core.Path.{◌≡◌, refl, ap, subst, ◌∙◌}
use mathlib.Core.List.{List, ◌++◌}
use mathlib.Core.Bool.{Bool, true, false}
use Prim.Native.Nat.{ℕ, zero, suc, ◌+◌, ◌-◌, ◌%◌, ◌^◌, ◌≤◌, ◌<◌}
use native.Mathlib.Omega.{arith}
use lib.ListN.{length, get_or}
use lib.Dec.{ltb, eqb}
use borrow.Author.Tests.{ltb-false, ne_eqb}
use Rattle.octets.specs.Be.{be_at}
use Rattle.octets.specs.Parts.{part}
use Rattle.model.specs.FrameLayout.{longest_pdu, mac_length, service_length}
use Rattle.model.specs.Lists.{All}
use Rattle.model.specs.State.{Settings}
use Rattle.model.specs.Registrations.{AddressAct, leave_all_addresses, leave_address, join_address, AddressReading, refused_frame, address_acts}
use Rattle.model.specs.Frames.{InList, bad_vector, list_end, vector_head, passed_over, vector_in, end_mark, Asking, nothing_asked, join, withdraw, wrong_port}
use Rattle.model.specs.AddressFrames.{AddressList, service_list, mac_list, unknown_list, first_octets, InAddressPdu, bad_header, no_message, address_list_of, address_header, address_message_in, runs_out, overruns, addresses_checked, address_vector_in, AddressVector, address_vector_at, address_of, address_act, address_asking, address_values, all_addresses, address_vector_acts, ListWalk, list_fault, list_acts, then_list, addresses_from, address_vectors, then_frame, after_list, address_messages_from, address_messages, address_walk, address_reading}
use Rattle.model.proofs.Lists.{all_append}
use Rattle.model.proofs.FoundVectors.{passed, bad-vector, no_end, bad-over, Fitting, fitting}
use Rattle.model.proofs.Refusals.{cond_either, ListFaults, vector-faults}

-- The numbers: 2 to 7.

abbrev pub Within : AddressReading → Type 0
Within (refused_frame n) = (3 ≤ n) × (n ≤ 7)
Within (address_acts es) = Unit {0}

abbrev WithinList : ListWalk → Type 0
WithinList (list_fault n) = (3 ≤ n) × (n ≤ 7)
WithinList (list_acts es end) = Unit {0}

abbrev WithinPdu : InAddressPdu → Type 0
WithinPdu (bad_header n) = (3 ≤ n) × (n ≤ 7)
WithinPdu no_message = Unit {0}
WithinPdu (address_list_of t) = Unit {0}

then-within : (es : List AddressAct) (w : ListWalk) → WithinList w → WithinList (then_list es w)
unfolding then_list
then-within es (list_fault n) h = h
then-within es (list_acts ds end) h = tt

checked-within : (t : AddressList) (s : List ℕ) (at : ℕ) (r : InList) → ListFaults r → ListFaults (addresses_checked t s at r)
unfolding addresses_checked
checked-within t s at (bad_vector n) h = h
checked-within t s at list_end h = tt
checked-within t s at (vector_head h) _ = cond_either ListFaults (overruns t (part (at + 2) (first_octets t) s) (h % 8192)) _ _ (omega arith, omega arith) tt
checked-within t s at (passed_over h) _ = tt

from-within : (t : AddressList) (s : List ℕ) (at : ℕ) (r : InList) (rest : ℕ → ListWalk) → ListFaults r → ((e : ℕ) → WithinList (rest e))
    → WithinList (addresses_from t s at r rest)
unfolding addresses_from
from-within t s at (bad_vector n) rest h g = h
from-within t s at list_end rest h g = tt
from-within t s at (vector_head h) rest _ g = then-within _ _ (g _)
from-within t s at (passed_over h) rest _ g = g _

addresses-within : (f version : ℕ) (t : AddressList) (s : List ℕ) (at : ℕ) → WithinList (address_vectors f version t s at)
unfolding address_vectors address_vector_in
addresses-within zero version t s at = (omega arith, omega arith)
addresses-within (suc f) version t s at =
    from-within t s at _ (address_vectors f version t s) (checked-within t s at _ (vector-faults version (first_octets t) false s at)) (addresses-within f version t s)

header-within : (version kind octets : ℕ) → WithinPdu (address_header version kind octets)
unfolding address_header
header-within version zero octets = (omega arith, omega arith)
header-within version (suc zero) octets = cond_either WithinPdu (eqb octets service_length) _ _ tt (omega arith, omega arith)
header-within version (suc (suc zero)) octets = cond_either WithinPdu (eqb octets mac_length) _ _ tt (omega arith, omega arith)
header-within version (suc (suc (suc t))) octets = cond_either WithinPdu (eqb version 0) _ _ (omega arith, omega arith) tt

message-within : (version : ℕ) (s : List ℕ) (at : ℕ) → WithinPdu (address_message_in version s at)
unfolding address_message_in
message-within version s at =
    cond_either WithinPdu (eqb at (length s)) _ _ tt
    (cond_either WithinPdu (end_mark s at) _ _ tt
    (cond_either WithinPdu (ltb (length s) (at + 2)) _ _ (omega arith, omega arith) (header-within version (get_or s at 0) (get_or s (at + 1) 0))))

frame-within : (es : List AddressAct) (r : AddressReading) → Within r → Within (then_frame es r)
unfolding then_frame
frame-within es (refused_frame n) h = h
frame-within es (address_acts ds) h = tt

after-within : (w : ListWalk) (rest : ℕ → AddressReading) → WithinList w → ((e : ℕ) → Within (rest e)) → Within (after_list w rest)
unfolding after_list
after-within (list_fault n) rest h g = h
after-within (list_acts es end) rest h g = frame-within es _ (g end)

messages-from-within : (version : ℕ) (s : List ℕ) (at : ℕ) (r : InAddressPdu) (rest : ℕ → AddressReading) → WithinPdu r → ((e : ℕ) → Within (rest e))
    → Within (address_messages_from version s at r rest)
unfolding address_messages_from
messages-from-within version s at (bad_header n) rest h g = h
messages-from-within version s at no_message rest h g = tt
messages-from-within version s at (address_list_of t) rest h g = after-within _ rest (addresses-within (suc (length s)) version t s (at + 2)) g

pub messages-within : (f version : ℕ) (s : List ℕ) (at : ℕ) → Within (address_messages f version s at)
unfolding address_messages
messages-within zero version s at = (omega arith, omega arith)
messages-within (suc f) version s at =
    messages-from-within version s at _ (address_messages f version s) (message-within version s at) (messages-within f version s)

-- "MMRP uses 1 to 7 in the same order": 2 to 7 of the walk
pub address-faults : (s : List ℕ) (n : ℕ) → address_walk s ≡ refused_frame n → (2 ≤ n) × (n ≤ 7)
unfolding address_walk
address-faults s =
    let P : AddressReading → Type 0 = λ r. (n : ℕ) → r ≡ refused_frame n → (2 ≤ n) × (n ≤ 7) in
    let two : P (refused_frame 2) = λ n e. let k : 2 ≡ n = cc in (omega arith, omega arith) in
    let rest : AddressReading = address_messages (suc (length s)) (get_or s 0 0) s 1 in
    let later : P rest = λ n e. let k : (3 ≤ n) × (n ≤ 7) = subst Within e (messages-within (suc (length s)) (get_or s 0 0) s 1) in (omega arith, omega arith) in
    cond_either P (eqb (length s) 0) _ _ two (cond_either P (ltb longest_pdu (length s)) _ _ two later)

-- A walk that gives acts has met no fault.

pub no-refusal : (n : ℕ) (es : List AddressAct) → refused_frame n ≡ address_acts es → ⊥
no-refusal n es e = let z : ◌≡◌ {A = ℕ} 0 1 = cc in omega arith

pub no-list-fault : (n : ℕ) (es : List AddressAct) (end : ℕ) → list_fault n ≡ list_acts es end → ⊥
no-list-fault n es end e = let z : ◌≡◌ {A = ℕ} 0 1 = cc in omega arith

-- what comes before the acts left, and those
pub record ThenList (es : List AddressAct) (w : ListWalk) (ds : List AddressAct) (end : ℕ) : Type 0 where
  pub rest : List AddressAct
  pub left : w ≡ list_acts rest end
  pub split : ds ≡ es ++ rest

pub then-list : (es : List AddressAct) (w : ListWalk) (ds : List AddressAct) (end : ℕ) → then_list es w ≡ list_acts ds end → ThenList es w ds end
unfolding then_list
then-list es (list_fault n) ds end e = absurd (no-list-fault n ds end e)
then-list es (list_acts rest m) ds end e = let i : m ≡ end = cc in record { rest = rest; left = ap (list_acts rest) i; split = cc }

-- the acts and the end of a list, and the acts left
pub record AfterList (w : ListWalk) (rest : ℕ → AddressReading) (es : List AddressAct) : Type 0 where
  pub own : List AddressAct
  pub end : ℕ
  pub others : List AddressAct
  pub list : w ≡ list_acts own end
  pub left : rest end ≡ address_acts others
  pub split : es ≡ own ++ others

pub after_list_lem : (w : ListWalk) (rest : ℕ → AddressReading) (es : List AddressAct) → after_list w rest ≡ address_acts es → AfterList w rest es
unfolding after_list then_frame
after_list_lem (list_fault n) rest es e = absurd (no-refusal n es e)
after_list_lem (list_acts own end) rest es e = go (rest end) refl e
  where
    go : (r : AddressReading) → rest end ≡ r → then_frame own r ≡ address_acts es → AfterList (list_acts own end) rest es
    go (refused_frame n) i h = absurd (no-refusal n es h)
    go (address_acts others) i h = record { own = own; end = end; others = others; list = refl; left = i; split = cc }

-- A vector that stands in a list has passed every check.

module _ (version : ℕ) (t : AddressList) (s : List ℕ) (at h : ℕ) where
  pub record PassedAddresses : Type 0 where
    pub there : vector_in version (first_octets t) false s at ≡ vector_head h
    pub fitting : Fitting (first_octets t) false s at h
    pub within : overruns t (part (at + 2) (first_octets t) s) (h % 8192) ≡ false

  pub passed-addresses : address_vector_in version t s at ≡ vector_head h → PassedAddresses
  unfolding address_vector_in addresses_checked
  passed-addresses = go (vector_in version (first_octets t) false s at) refl
    where
      go : (r : InList) → vector_in version (first_octets t) false s at ≡ r → addresses_checked t s at r ≡ vector_head h → PassedAddresses
      go (bad_vector n) i e = absurd (bad-vector n h e)
      go list_end i e = absurd (no_end h e)
      go (vector_head m) i e =
          let a = passed (overruns t (part (at + 2) (first_octets t) s) (m % 8192)) _ _ _ (bad-vector 7 h) e in
          let q : m ≡ h = cc in
          let there : vector_in version (first_octets t) false s at ≡ vector_head h = rw q at i in
          record { there = there; fitting = fitting version (first_octets t) false s at h there; within = rw q at a.0 }
      go (passed_over m) i e = let z : ◌≡◌ {A = ℕ} 0 1 = cc in absurd (omega arith)

  -- one that is passed over is so of every type: its values are not looked at
  pub over-addresses : address_vector_in version t s at ≡ passed_over h → vector_in version (first_octets t) false s at ≡ passed_over h
  unfolding address_vector_in addresses_checked
  over-addresses = go (vector_in version (first_octets t) false s at) refl
    where
      go : (r : InList) → vector_in version (first_octets t) false s at ≡ r → addresses_checked t s at r ≡ passed_over h
          → vector_in version (first_octets t) false s at ≡ passed_over h
      go (bad_vector n) i e = i ∙ e
      go list_end i e = i ∙ e
      go (vector_head m) i e =
          let a = passed (overruns t (part (at + 2) (first_octets t) s) (m % 8192)) _ _ _ (bad-over 7 h) e in
          let z : ◌≡◌ {A = ℕ} 0 1 = cc in
          absurd (omega arith)
      go (passed_over m) i e = i ∙ e

-- Addresses of 48 bits.

abbrev pub FitsAddress : AddressAct → Type 0
FitsAddress leave_all_addresses = Unit {0}
FitsAddress (leave_address m) = m < 2 ^ 48
FitsAddress (join_address m) = m < 2 ^ 48

act-fits : (m : ℕ) (a : Asking) → m < 2 ^ 48 → All FitsAddress (address_act m a)
unfolding address_act
act-fits m nothing_asked h = tt
act-fits m join h = (h, tt)
act-fits m withdraw h = (h, tt)

-- the last of so many values is within FirstValue's octets, and so is each
pub each_within : (first : List ℕ) (values n : ℕ) → runs_out mac_length first values ≡ false → n < values → address_of first n < 2 ^ 48
unfolding runs_out address_of
each_within first values n e h =
    let a : ltb (256 ^ 6 - 1) (be_at 6 first 0 + (values - 1)) ≡ false = rw (ne_eqb values 0 (omega arith)) at e in
    omega (arith, ltb-false (256 ^ 6 - 1) (be_at 6 first 0 + (values - 1)) a)

values-fit : (v : AddressVector) (n k : ℕ) → runs_out mac_length v.first v.values ≡ false → n + k ≤ v.values → All FitsAddress (address_values v n k)
unfolding address_values
values-fit v n zero e h = tt
values-fit v n (suc k) e h =
    all_append FitsAddress (address_act (address_of v.first n) (address_asking v.three n)) (address_values v (suc n) k)
    (act-fits (address_of v.first n) (address_asking v.three n) (each_within v.first v.values n e (omega arith))) (values-fit v (suc n) k e (omega arith))

vector-fits : (t : AddressList) (v : AddressVector) → overruns t v.first v.values ≡ false → All FitsAddress (address_vector_acts t v)
unfolding address_vector_acts overruns all_addresses
vector-fits service_list v e = tt
vector-fits mac_list v e = all_append FitsAddress (all_addresses v.leaves_all) (address_values v 0 v.values) (go v.leaves_all) (values-fit v 0 v.values e (omega arith))
  where
    go : (b : Bool) → All FitsAddress (all_addresses b)
    go true = (tt, tt)
    go false = tt
vector-fits (unknown_list first) v e = tt

abbrev FitsList : ListWalk → Type 0
FitsList (list_fault n) = Unit {0}
FitsList (list_acts es end) = All FitsAddress es

-- of a frame on a port, too
abbrev pub FitsAddresses : AddressReading → Type 0
FitsAddresses (refused_frame n) = Unit {0}
FitsAddresses (address_acts es) = All FitsAddress es

then-fits : (es : List AddressAct) (w : ListWalk) → All FitsAddress es → FitsList w → FitsList (then_list es w)
unfolding then_list
then-fits es (list_fault n) a b = tt
then-fits es (list_acts ds end) a b = all_append FitsAddress es ds a b

from-fits : (version : ℕ) (t : AddressList) (s : List ℕ) (at : ℕ) (r : InList) → address_vector_in version t s at ≡ r
    → (rest : ℕ → ListWalk) → ((e : ℕ) → FitsList (rest e)) → FitsList (addresses_from t s at r rest)
unfolding addresses_from address_vector_at
from-fits version t s at (bad_vector n) i rest g = tt
from-fits version t s at list_end i rest g = tt
from-fits version t s at (vector_head h) i rest g =
    then-fits (address_vector_acts t (address_vector_at t s at h)) _ (vector-fits t (address_vector_at t s at h) (passed-addresses version t s at h i).within) (g _)
from-fits version t s at (passed_over h) i rest g = g _

addresses-fit : (f version : ℕ) (t : AddressList) (s : List ℕ) (at : ℕ) → FitsList (address_vectors f version t s at)
unfolding address_vectors
addresses-fit zero version t s at = tt
addresses-fit (suc f) version t s at = from-fits version t s at _ refl (address_vectors f version t s) (addresses-fit f version t s)

after-fits : (w : ListWalk) (rest : ℕ → AddressReading) → FitsList w → ((e : ℕ) → FitsAddresses (rest e)) → FitsAddresses (after_list w rest)
unfolding after_list then_frame
after-fits (list_fault n) rest a g = tt
after-fits (list_acts es end) rest a g = go (rest end) (g end)
  where
    go : (r : AddressReading) → FitsAddresses r → FitsAddresses (then_frame es r)
    go (refused_frame n) b = tt
    go (address_acts ds) b = all_append FitsAddress es ds a b

messages-from-fit : (version : ℕ) (s : List ℕ) (at : ℕ) (r : InAddressPdu) (rest : ℕ → AddressReading) → ((e : ℕ) → FitsAddresses (rest e))
    → FitsAddresses (address_messages_from version s at r rest)
unfolding address_messages_from
messages-from-fit version s at (bad_header n) rest g = tt
messages-from-fit version s at no_message rest g = tt
messages-from-fit version s at (address_list_of t) rest g = after-fits _ rest (addresses-fit (suc (length s)) version t s (at + 2)) g

messages-fit : (f version : ℕ) (s : List ℕ) (at : ℕ) → FitsAddresses (address_messages f version s at)
unfolding address_messages
messages-fit zero version s at = tt
messages-fit (suc f) version s at = messages-from-fit version s at _ (address_messages f version s) (messages-fit f version s)

-- every act of a PDU has an address of 48 bits
pub addresses-fit-walk : (s : List ℕ) → FitsAddresses (address_walk s)
unfolding address_walk
addresses-fit-walk s =
    cond_either FitsAddresses (eqb (length s) 0) _ _ tt
    (cond_either FitsAddresses (ltb longest_pdu (length s)) _ _ tt (messages-fit (suc (length s)) (get_or s 0 0) s 1))

pub address-reading-fits : (st : Settings) (p : ℕ) (s : List ℕ) → FitsAddresses (address_reading st p s)
unfolding address_reading
address-reading-fits st p s = cond_either FitsAddresses (wrong_port st p) _ _ tt (addresses-fit-walk s)
