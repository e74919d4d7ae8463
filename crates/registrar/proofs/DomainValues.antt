-- What a Domain value asks for, and that it is done on its slot.
use Prim.Native.Nat.{ℕ, ◌+◌, ◌/◌, ◌%◌, ◌≤◌, ◌<◌, ◌^◌}
use mathlib.Core.Path.{◌≡◌, refl, sym, ◌∙◌, ap, ap₂, subst}
use mathlib.Core.List.{List, [], ◌∷◌, ◌++◌}
use mathlib.Core.Bool.{Bool, true, false, cond}
use native.Mathlib.Omega.{arith}
use lib.ListN.{length, get_or}
use lib.Dec.{ltb}
use borrow.Author.Tests.{le-ltb}
use Rattle.octets.specs.Be.{be_at}
use Rattle.octets.specs.Fields.{fields}
use Rattle.octets.proofs.Fields.{be_at-fits}
use Rattle.model.specs.Layout.{slots}
use Rattle.model.specs.FrameLayout.{domain_length}
use Rattle.model.specs.State.{stays, domain, slot_of}
use Rattle.model.specs.Registrations.{Kind, of_domain, leave_domain, join_domain, hear_domain, quit_domain, does_domain}
use Rattle.model.specs.Frames.{Attribute, registers, domain_type, has_four, first_widths, first_length, has_slot, slot_act, slot_heard, domain_act, value_acts, event_of, asking, three_packed}
use Rattle.model.specs.Table.{encode, decode}
use Rattle.model.specs.Laid.{Laid}
use Rattle.model.proofs.FoundVectors.{slot-within}
use Rattle.model.specs.Frames as frames
use Rattle.msrpdu.specs.Reader.{event_meant, four_in, domain_in}
use Rattle.std.specs.Prelude.{Option, Some, None}
use Rattle.model.specs.Events.{asked_by}
use Rattle.model.specs.declared.event.Asked.{Asked}
use Rattle.model.specs.declared.event.Asked.TheVariants.{Join, Leave}
use Rattle.model.specs.declared.event.Event.{Event}
use Rattle.msrpdu.proofs.Laws.{event-there}
use Rattle.table.specs.Updates.{with_slot}
use Rattle.hearing.specs.Hears.{meant}
use Rattle.hearing.specs.declared.Heard.{Heard}
use Rattle.registrar.specs.Acts.{HasValue, vector_of, event_for, slot_asked, register_acts, overheard_by, slot_hears, acts_heard, hear_acts, event_acts}
use Rattle.registrar.specs.Walked.{Walked}
use Rattle.registrar.proofs.Walks.{walked_none, domain-done, domain-room}
use Rattle.registrar.proofs.Touched.{heard-room}
use Rattle.registrar.proofs.ValueActs.{heard-acts, value-acts, stream-hears, value-id-fits}

-- What the reader gives of it: its slot, or that it is dropped.

module _ (first : List ℕ) (n : ℕ) where
  abbrev class : ℕ
  class = be_at 1 first 0 + n

  abbrev priority : ℕ
  priority = be_at 1 first 1 + n

  record Slotted (i : ℕ) : Type 0 where
    has : has_slot class priority ≡ true
    is : slot_of class priority ≡ i

  slotted : (i : ℕ) → domain_in first n ≡ Some i → Slotted i
  unfolding domain_in
  slotted i e = go (ltb (length first) domain_length) (has_slot class priority) refl e
    where
      go : (s t : Bool) → has_slot class priority ≡ t → cond s None (cond t (Some (slot_of class priority)) None) ≡ Some i → Slotted i
      go true t h e = let z : ◌≡◌ {A = ℕ} 0 1 = cc in absurd (omega arith)
      go false true h e = record { has = h; is = cc }
      go false false h e = let z : ◌≡◌ {A = ℕ} 0 1 = cc in absurd (omega arith)

  pub slot-below : (i : ℕ) → domain_in first n ≡ Some i → i < slots
  slot-below i e = let s = slotted i e in subst (λ (j : ℕ). j < slots) s.is (slot-within class priority s.has)

  none-slotted : HasValue domain_type first n → domain_in first n ≡ None → has_slot class priority ≡ false
  unfolding domain_in first_length
  none-slotted v e = go (has_slot class priority) refl (rw (le-ltb (length first) domain_length (omega (arith, v.octets))) at e)
    where
      go : (t : Bool) → has_slot class priority ≡ t → cond t (Some (slot_of class priority)) None ≡ None → has_slot class priority ≡ false
      go true h e = let z : ◌≡◌ {A = ℕ} 0 1 = cc in absurd (omega arith)
      go false h e = h

-- its VLAN is the last field
pub vlan-within : (first : List ℕ) (n : ℕ) → HasValue domain_type first n → 2 + 2 ≤ length first
unfolding first_length
vlan-within first n v = omega (arith, v.octets)

-- Its acts.

slot-asks : (i vlan : ℕ) (e : frames.Event) → slot_act i vlan (asking e) ≡ slot_asked (Some i) vlan (asked_by (event_meant e))
unfolding slot_act asking slot_asked event_meant
slot-asks i vlan frames.new = refl
slot-asks i vlan frames.join_in = refl
slot-asks i vlan frames.is_in = refl
slot-asks i vlan frames.join_mt = refl
slot-asks i vlan frames.mt = refl
slot-asks i vlan frames.lv = refl

module _ (first : List ℕ) (n : ℕ) where
  pub register-slot : (e : Event) (four i : ℕ) → domain_in first n ≡ Some i → register_acts domain_type first e four n ≡ slot_asked (Some i) (be_at 2 first 2) (asked_by e)
  unfolding register_acts
  register-slot e four i d = rw d

  pub slot-asked : (e : Event) (four i : ℕ) (a : Option Asked) → domain_in first n ≡ Some i → asked_by e ≡ a → register_acts domain_type first e four n ≡ slot_asked (Some i) (be_at 2 first 2) a
  slot-asked e four i a d q = register-slot e four i d ∙ ap (slot_asked (Some i) (be_at 2 first 2)) q

  pub register-dropped : (e : Event) (four : ℕ) → domain_in first n ≡ None → register_acts domain_type first e four n ≡ []
  unfolding register_acts slot_asked
  register-dropped e four d = rw d

  pub slot-hears : (i : ℕ) → domain_in first n ≡ Some i → (h : Heard) → acts_heard domain_type first n (Some h) ≡ of_domain (hear_domain i (meant h)) ∷ []
  unfolding acts_heard slot_hears
  slot-hears i d h = rw d

  pub dropped-hears : domain_in first n ≡ None → (o : Option Heard) → acts_heard domain_type first n o ≡ []
  unfolding acts_heard slot_hears
  dropped-hears d None = refl
  dropped-hears d (Some h) = rw d

module _ (leaves : Bool) (values : ℕ) (first three four : List ℕ) (n : ℕ) where
  abbrev read : frames.Event
  read = frames.event (three_packed (get_or three (n / 3) 0) (n % 3))

  by-slot : value_acts (vector_of domain_type leaves values first three four) n
      ≡ cond (has_slot (class first n) (priority first n))
      (slot_act (slot_of (class first n) (priority first n)) (be_at 2 first 2) (asking read) ++ slot_heard (slot_of (class first n) (priority first n)) read)
      []
  unfolding value_acts vector_of domain_act first_widths fields event_of
  by-slot = refl

  pub domain-acts : HasValue domain_type first n → n / 3 < length three →
      value_acts (vector_of domain_type leaves values first three four) n
      ≡ event_acts domain_type first (event_for domain_type three four n) (four_in four n) n
  unfolding event_for has_four event_acts hear_acts
  domain-acts v there = rw (event-there three n there) (by-slot ∙ go (domain_in first n) refl)
    where
      go : (r : Option ℕ) → domain_in first n ≡ r → cond (has_slot (class first n) (priority first n))
          (slot_act (slot_of (class first n) (priority first n)) (be_at 2 first 2) (asking read) ++ slot_heard (slot_of (class first n) (priority first n)) read)
          []
          ≡ register_acts domain_type first (event_meant read) (four_in four n) n ++ acts_heard domain_type first n (overheard_by (event_meant read))
      go (Some i) d =
          let s = slotted first n i d in
          rw (s.has, s.is)
          (ap₂ ◌++◌ (slot-asks i (be_at 2 first 2) read ∙ sym (register-slot first n (event_meant read) (four_in four n) i d))
          (unfold slot_heard in heard-acts (λ h. of_domain (hear_domain i h)) (acts_heard domain_type first n) (unfold acts_heard in refl) (slot-hears first n i d) read))
      go None d =
          rw (none-slotted first n v d, register-dropped first n (event_meant read) (four_in four n) d, dropped-hears first n d (overheard_by (event_meant read)))

-- those of any value
pub both-acts : (leaves : Bool) (values : ℕ) (first three four : List ℕ) (n : ℕ) → n / 3 < length three → (k : Attribute) → HasValue k first n →
    value_acts (vector_of k leaves values first three four) n
    ≡ event_acts k first (event_for k three four n) (four_in four n) n
both-acts leaves values first three four n there (registers k) v = value-acts leaves values first three four n there k
both-acts leaves values first three four n there domain_type v = domain-acts leaves values first three four n v there

module _ (first three four : List ℕ) (n : ℕ) (there : n / 3 < length three) (k : Attribute) (v : HasValue k first n) where
  pub acts-without : event_for k three four n ≡ None → value_acts (vector_of k false 0 first three four) n ≡ []
  unfolding event_acts
  acts-without q = both-acts false 0 first three four n there k v ∙ rw q

  -- by its event and its four-packed event as they are read
  pub events-acts : (e : Event) (f : ℕ) → event_for k three four n ≡ Some e → f ≡ four_in four n
      → value_acts (vector_of k false 0 first three four) n ≡ register_acts k first e f n ++ hear_acts k first e n
  unfolding event_acts
  events-acts e f p q = both-acts false 0 first three four n there k v ∙ rw (p, q)

-- Done on its slot.

module _ (p i : ℕ) (t u : List ℕ) (l : Laid t) (h : i < slots) where
  pub slot-left : (now : ℕ) → now ≡ (decode t).clock → u ≡ encode (with_slot p i (quit_domain now) (decode t)) →
      Walked true p (of_domain (leave_domain i) ∷ []) t true u
  unfolding does_domain
  slot-left now c q = domain-done p (leave_domain i) t l h tt u (rw c at q)

  pub slot-joined : (v : ℕ) → v < 65536 → u ≡ encode (with_slot p i (λ d. domain v stays) (decode t)) →
      Walked true p (of_domain (join_domain i v) ∷ []) t true u
  unfolding does_domain
  slot-joined v small q = domain-done p (join_domain i v) t l (h, small) tt u q

-- It asks for no room.

module _ (first : List ℕ) (n : ℕ) (p : ℕ) (t : List ℕ) (l : Laid t) where
  slot-room : ((i : ℕ) → get_or first i 0 < 256) → (i : ℕ) → i < slots → (a : Option Asked) → Walked false p (slot_asked (Some i) (be_at 2 first 2) a) t true t
  unfolding slot_asked
  slot-room octets i h None = walked_none false p t l
  slot-room octets i h (Some Join) = domain-room p (join_domain i (be_at 2 first 2)) t l (h, omega (arith, be_at-fits 2 first 2 octets))
  slot-room octets i h (Some Leave) = domain-room p (leave_domain i) t l h

  pub register-room : ((i : ℕ) → get_or first i 0 < 256) → (e : Event) (four : ℕ) → Walked false p (register_acts domain_type first e four n) t true t
  register-room octets e four = go (domain_in first n) refl
    where
      go : (r : Option ℕ) → domain_in first n ≡ r → Walked false p (register_acts domain_type first e four n) t true t
      go (Some i) d = rw (register-slot first n e four i d) (slot-room octets i (slot-below first n i d) (asked_by e))
      go None d = rw (register-dropped first n e four d) (walked_none false p t l)

  -- nor does what is heard, of it or of a stream
  domain-hear-room : (o : Option Heard) → Walked false p (acts_heard domain_type first n o) t true t
  domain-hear-room None = unfold acts_heard in walked_none false p t l
  domain-hear-room (Some h) = go (domain_in first n) refl
    where
      go : (r : Option ℕ) → domain_in first n ≡ r → Walked false p (acts_heard domain_type first n (Some h)) t true t
      go (Some i) d = rw (slot-hears first n i d h) (domain-room p (hear_domain i (meant h)) t l (slot-below first n i d))
      go None d = rw (dropped-hears first n d (Some h)) (walked_none false p t l)

  stream-hear-room : (k : Kind) → be_at 8 first 0 + n < 2 ^ 64 → (o : Option Heard) → Walked false p (acts_heard (registers k) first n o) t true t
  stream-hear-room k small None = unfold acts_heard in walked_none false p t l
  stream-hear-room k small (Some h) = rw (stream-hears k first n h) (heard-room p k t l (be_at 8 first 0 + n) small (meant h))

  pub hear-room : ((i : ℕ) → get_or first i 0 < 256) → (k : Attribute) → HasValue k first n → (e : Event) → Walked false p (hear_acts k first e n) t true t
  unfolding hear_acts
  hear-room octets (registers k) v e = stream-hear-room k (value-id-fits k first n v octets) (overheard_by e)
  hear-room octets domain_type v e = domain-hear-room (overheard_by e)
