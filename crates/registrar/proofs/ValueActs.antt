-- What a value asks for, by its AttributeType octet.
use Prim.Native.Nat.{ℕ, zero, suc, ◌+◌, ◌/◌, ◌%◌, ◌≤◌, ◌<◌, ◌^◌}
use mathlib.Core.Path.{◌≡◌, refl, sym, ◌∙◌, ap, ap₂}
use mathlib.Core.List.{List, [], ◌∷◌, ◌++◌, map}
use mathlib.Core.Bool.{Bool, true, false, cond}
use native.Mathlib.Omega.{arith}
use lib.ListN.{length, get_or}
use lib.Dec.{ltb, eqb}
use borrow.Author.Tests.{eqb-true, eqb-false, ne_eqb}
use Rattle.octets.specs.Be.{be_at}
use Rattle.octets.specs.Fields.{fields}
use Rattle.octets.proofs.Fields.{be_at-fits}
use Rattle.model.specs.Registrations.{Kind, advertises, faileds, listeners, Act, leave_all, leave, talk, listen, hear_all, hear, of_domain}
use Rattle.model.specs.Attributes.{talker_kind_of}
use Rattle.model.specs.declared.attribute.TalkerAttribute.{TalkerAttribute}
use Rattle.model.specs.declared.attribute.TalkerAttribute.TheVariants as talker
use Rattle.model.specs.Frames.{Attribute, registers, domain_type, has_four, first_widths, first_length, runs_past, talker_type_value, id_value, value_acts, talker_act, listener_act, hearing, heard_of, talker_heard, listener_heard, event_of, four_of, asking, three_packed, four_packed, Asking, nothing_asked, join, withdraw}
use Rattle.model.specs.Lists.{Octets}
use Rattle.model.proofs.Parts.{octets-at, octets-of}
use Rattle.model.proofs.Valid.{ValidTalkerType}
use Rattle.model.proofs.FoundVectors.{Fits, unique-within, id-fits, talker_values, fixed-fits, latency-fits, destination-within}
use Rattle.model.specs.Machines as machines
use Rattle.model.specs.Frames as frames
use Rattle.msrpdu.specs.Reader.{event_meant, event_in, four_in, stream_id_in}
use Rattle.std.specs.Prelude.{Option, Some, None}
use Rattle.model.specs.Events.{asked_by}
use Rattle.model.specs.declared.event.Asked.{Asked}
use Rattle.model.specs.declared.event.Event.{Event}
use Rattle.msrpdu.proofs.Laws.{event-there, value_read}
use Rattle.cells.specs.Acts.{talk_of}
use Rattle.hearing.specs.Hears.{meant}
use Rattle.hearing.specs.declared.Heard.{Heard}
use Rattle.hearing.specs.declared.Heard.TheVariants as heard
use Rattle.registrar.specs.Acts.{HasValue, Declares, vector_of, join_of, event_for, acts_asked, register_acts, overheard_by, acts_heard, hear_acts, event_acts}
use Rattle.model.specs.WrittenFrames.{to_ready}

-- A join, of a Listener or of a Talker.

pub join-listens : (first : List ℕ) (four n : ℕ) →
    join_of listeners first four n ≡ listen (id_value (fields (first_widths (registers listeners)) 0 first) n) (to_ready four)
unfolding join_of
join-listens first four n = refl

pub join-talks : (a : TalkerAttribute) (first : List ℕ) (four n : ℕ) → join_of (talker_kind_of a) first four n ≡ talk_of (talker_kind_of a) first n
unfolding join_of
join-talks talker.Advertise first four n = refl
join-talks talker.Failed first four n = refl

-- StreamID is FirstValue's first field
pub id-is : (k : Kind) (first : List ℕ) (n : ℕ) → id_value (fields (first_widths (registers k)) 0 first) n ≡ be_at 8 first 0 + n
unfolding id_value fields first_widths
id-is advertises first n = refl
id-is faileds first n = refl
id-is listeners first n = refl

-- an act that joins the stream i
abbrev pub Joins : ℕ → Act → Type 0
Joins i (leave_all k) = ⊥
Joins i (leave k j) = ⊥
Joins i (talk j f v) = i ≡ j
Joins i (listen j r) = i ≡ j
Joins i (hear_all k) = ⊥
Joins i (hear k j h) = ⊥
Joins i (of_domain d) = ⊥

pub join-joins : (k : Kind) (first : List ℕ) (four n i : ℕ) → i ≡ be_at 8 first 0 + n → Joins i (join_of k first four n)
unfolding join_of talk_of
join-joins advertises first four n i e = e ∙ sym (id-is advertises first n)
join-joins faileds first four n i e = e ∙ sym (id-is faileds first n)
join-joins listeners first four n i e = e ∙ sym (id-is listeners first n)

-- The acts of a value, by what its events ask for.

module _ (first : List ℕ) (n four : ℕ) where
  talker-asks : (k : Kind) → join_of k first four n ≡ talk_of k first n → (e : frames.Event) →
      talker_act k (fields (first_widths (registers k)) 0 first) n (asking e) ≡ acts_asked k first four n (asked_by (event_meant e))
  unfolding talker_act asking acts_asked event_meant talk_of
  talker-asks k j frames.new = rw j
  talker-asks k j frames.join_in = rw j
  talker-asks k j frames.is_in = refl
  talker-asks k j frames.join_mt = rw j
  talker-asks k j frames.mt = refl
  talker-asks k j frames.lv = rw (id-is k first n)

  -- Ignore
  listener-ignores : (a : Asking) → listener_act (fields (first_widths (registers listeners)) 0 first) n a 0 ≡ []
  unfolding listener_act hearing
  listener-ignores nothing_asked = refl
  listener-ignores join = refl
  listener-ignores withdraw = refl

  hearing-joins : (i f : ℕ) → (f ≡ 0 → ⊥) → hearing i f ≡ listen i (to_ready f) ∷ []
  unfolding hearing to_ready
  hearing-joins i zero p = absurd (p refl)
  hearing-joins i (suc zero) p = refl
  hearing-joins i (suc (suc zero)) p = refl
  hearing-joins i (suc (suc (suc f))) p = rw (ne_eqb (suc (suc (suc f))) 1 (λ e. omega arith), ne_eqb (suc (suc (suc f))) 2 (λ e. omega arith))

  listener-asks : (four ≡ 0 → ⊥) → (e : frames.Event) →
      listener_act (fields (first_widths (registers listeners)) 0 first) n (asking e) four ≡ acts_asked listeners first four n (asked_by (event_meant e))
  unfolding listener_act asking acts_asked event_meant join_of
  listener-asks p frames.new = hearing-joins _ four p
  listener-asks p frames.join_in = hearing-joins _ four p
  listener-asks p frames.is_in = refl
  listener-asks p frames.join_mt = hearing-joins _ four p
  listener-asks p frames.mt = refl
  listener-asks p frames.lv = rw (ne_eqb four 0 p, id-is listeners first n)

-- What is heard of it.

pub heard-acts : (f : machines.Heard → Act) (g : Option Heard → List Act) → g None ≡ [] → ((h : Heard) → g (Some h) ≡ f (meant h) ∷ [])
    → (e : frames.Event) → map f (heard_of e) ≡ g (overheard_by (event_meant e))
unfolding heard_of overheard_by event_meant meant
heard-acts f g u v frames.new = sym u
heard-acts f g u v frames.join_in = sym (v heard.In)
heard-acts f g u v frames.is_in = sym (v heard.In)
heard-acts f g u v frames.join_mt = sym (v heard.Empty)
heard-acts f g u v frames.mt = sym (v heard.Empty)
heard-acts f g u v frames.lv = sym (v heard.Leave)

-- by what its event tells
pub hears-overheard : (k : Attribute) (first : List ℕ) (e : Event) (n : ℕ) (o : Option Heard) → overheard_by e ≡ o → hear_acts k first e n ≡ acts_heard k first n o
unfolding hear_acts
hears-overheard k first e n o q = ap (acts_heard k first n) q

-- Both, of a value of a stream.

-- what it asks for, by what its event asks
pub stream-asks : (k : Kind) (first : List ℕ) (e : Event) (four n : ℕ) (r : Option Asked) → asked_by e ≡ r → register_acts (registers k) first e four n ≡ acts_asked k first four n r
unfolding register_acts
stream-asks k first e four n r q = ap (acts_asked k first four n) q

module _ (k : Kind) (first : List ℕ) (n : ℕ) where
  pub register-stream : (e : Event) (four : ℕ) → register_acts (registers k) first e four n ≡ acts_asked k first four n (asked_by e)
  unfolding register_acts
  register-stream e four = refl

  pub stream-hears : (h : Heard) → acts_heard (registers k) first n (Some h) ≡ hear k (be_at 8 first 0 + n) (meant h) ∷ []
  unfolding acts_heard
  stream-hears h = refl

  heard-stream : (e : frames.Event)
      → map (hear k (id_value (fields (first_widths (registers k)) 0 first) n)) (heard_of e) ≡ hear_acts (registers k) first (event_meant e) n
  unfolding hear_acts
  heard-stream e =
      rw (id-is k first n)
      (heard-acts (hear k (be_at 8 first 0 + n)) (acts_heard (registers k) first n) (unfold acts_heard in refl) stream-hears e)

  talker-value : (four : ℕ) → join_of k first four n ≡ talk_of k first n → (e : frames.Event)
      → talker_act k (fields (first_widths (registers k)) 0 first) n (asking e)
      ++ talker_heard k (id_value (fields (first_widths (registers k)) 0 first) n) e
      ≡ register_acts (registers k) first (event_meant e) four n ++ hear_acts (registers k) first (event_meant e) n
  unfolding talker_heard
  talker-value four j e = ap₂ ◌++◌ (talker-asks first n four k j e ∙ sym (register-stream (event_meant e) four)) (heard-stream e)

listener-value : (first : List ℕ) (n four : ℕ) (e : frames.Event) →
    listener_act (fields (first_widths (registers listeners)) 0 first) n (asking e) four
    ++ listener_heard (id_value (fields (first_widths (registers listeners)) 0 first) n) e four
    ≡ event_acts (registers listeners) first (cond (eqb four 0) None (Some (event_meant e))) four n
unfolding listener_heard
listener-value first n four e = go (eqb four 0) refl
  where
    vs : List ℕ
    vs = fields (first_widths (registers listeners)) 0 first

    go : (t : Bool) → eqb four 0 ≡ t → listener_act vs n (asking e) four ++ cond t [] (map (hear listeners (id_value vs n)) (heard_of e))
        ≡ event_acts (registers listeners) first (cond t None (Some (event_meant e))) four n
    go true q = rw (eqb-true four 0 q, listener-ignores first n 0 (asking e)) (unfold event_acts in refl)
    go false q =
        unfold event_acts in
        (ap₂ ◌++◌ (listener-asks first n four (eqb-false four 0 q) e ∙ sym (register-stream listeners first n (event_meant e) four)) (heard-stream listeners first n e))

-- the acts of a value that registers a stream
module _ (leaves : Bool) (values : ℕ) (first three four : List ℕ) (n : ℕ) (there : n / 3 < length three) where
  pub value-acts : (k : Kind) →
      value_acts (vector_of (registers k) leaves values first three four) n
      ≡ event_acts (registers k) first (event_for (registers k) three four n) (four_in four n) n
  unfolding value_acts vector_of event_for has_four event_of event_acts
  value-acts advertises = rw (event-there three n there) (talker-value advertises first n (four_in four n) (join-talks talker.Advertise first (four_in four n) n) _)
  value-acts faileds = rw (event-there three n there) (talker-value faileds first n (four_in four n) (join-talks talker.Failed first (four_in four n) n) _)
  value-acts listeners = rw (event-there three n there) (unfold four_of four_in in (listener-value first n _ _))

four-of-octet : (o i : ℕ) → o < 256 → four_packed o i ≤ 3
unfolding four_packed
four-of-octet o zero h = omega arith
four-of-octet o (suc zero) h = omega arith
four-of-octet o (suc (suc zero)) h = omega arith
four-of-octet o (suc (suc (suc i))) h = omega arith

pub four-most : (four : List ℕ) → ((i : ℕ) → get_or four i 0 < 256) → (n : ℕ) → four_in four n ≤ 3
unfolding four_in
four-most four h n = four-of-octet (get_or four (n / 4) 0) (n % 4) (h (n / 4))

-- a Listener with an event has a declaration type
pub declared : (k : Attribute) (three four : List ℕ) → ((i : ℕ) → get_or four i 0 < 256) → (n : ℕ) (e : Event) → event_for k three four n ≡ Some e
    → Declares k (four_in four n)
unfolding event_for has_four
declared (registers advertises) three four h n e q = tt
declared (registers faileds) three four h n e q = tt
declared (registers listeners) three four h n e q = go (eqb (four_in four n) 0) refl q
  where
    go : (t : Bool) → eqb (four_in four n) 0 ≡ t → cond t None (event_in three n) ≡ Some e → (1 ≤ four_in four n) × (four_in four n ≤ 3)
    go true i q = let z : ◌≡◌ {A = ℕ} 0 1 = cc in absurd (omega arith)
    go false i q = let z = eqb-false (four_in four n) 0 i in (omega arith, four-most four h n)
declared domain_type three four h n e q = tt

-- A value within its fields.

pub destination-fits : (a : TalkerAttribute) (first : List ℕ) (n : ℕ) → HasValue (registers (talker_kind_of a)) first n → be_at 6 first 8 + n < 256 ^ 6
unfolding runs_past
destination-fits talker.Advertise first n v = destination-within (ltb 65535 (be_at 2 first 6 + n)) (be_at 6 first 8 + n) v.within
destination-fits talker.Failed first n v = destination-within (ltb 65535 (be_at 2 first 6 + n)) (be_at 6 first 8 + n) v.within

-- a join of it has its values within their fields
module _ (first : List ℕ) (n four : ℕ) (o : Octets first) where
  fits-talker : (k : Kind) (more : List ℕ) → first_widths (registers k) ≡ 8 ∷ 6 ∷ 2 ∷ 2 ∷ 2 ∷ 1 ∷ 4 ∷ more →
      ValidTalkerType (talker_type_value k (fields (first_widths (registers k)) 0 first)) → be_at 6 first 8 + n < 256 ^ 6 →
      runs_past (registers k) first n ≡ false → Fits (talk_of k first n)
  unfolding talk_of talker_values
  fits-talker k more e h d r = (
    rw (id-is k first n) (id-fits first o n n (omega arith) k r),
    rw e (fixed-fits first o n n (omega arith) more d),
    record { type = h; latency = rw e (latency-fits first o n n (omega arith) more d) },
  )

  joins-within : (k : Kind) → runs_past (registers k) first n ≡ false → Fits (join_of k first four n)
  unfolding join_of runs_past talker_type_value fields first_widths
  joins-within advertises r =
      fits-talker advertises [] refl tt (destination-within (ltb 65535 (be_at 2 first 6 + n)) (be_at 6 first 8 + n) r) r
  joins-within faileds r =
      let at = octets-at first o in
      fits-talker faileds (8 ∷ 1 ∷ []) refl (be_at-fits 8 first 25 at, be_at-fits 1 first 33 at)
      (destination-within (ltb 65535 (be_at 2 first 6 + n)) (be_at 6 first 8 + n) r) r
  joins-within listeners r = rw (id-is listeners first n) (id-fits first o n n (omega arith) listeners r)

pub join-fits : (k : Kind) (first : List ℕ) (n : ℕ) → HasValue (registers k) first n → ((i : ℕ) → get_or first i 0 < 256) → (four : ℕ) →
    Fits (join_of k first four n)
join-fits k first n v o four = joins-within first n four (octets-of first o) k v.within

-- What the reader gives of it: its StreamID.

has-id : (k : Kind) → 8 ≤ first_length (registers k)
unfolding first_length
has-id advertises = omega arith
has-id faileds = omega arith
has-id listeners = omega arith

module _ (k : Kind) (first : List ℕ) (n : ℕ) (v : HasValue (registers k) first n) where
  value-id : stream_id_in first n ≡ Some (be_at 8 first 0 + n)
  unfolding stream_id_in
  value-id =
      let l : 0 + 8 ≤ length first = omega (arith, has-id k, v.octets) in
      let u : be_at 2 first 6 + n ≤ 65535 = omega (arith, unique-within k first n v.within) in
      value_read 8 2 0 first n l _ refl u _ refl

  -- of eight octets
  pub value-id-fits : ((i : ℕ) → get_or first i 0 < 256) → be_at 8 first 0 + n < 2 ^ 64
  value-id-fits o = id-fits first (octets-of first o) n n (omega arith) k v.within

  pub value-id-is : (i : ℕ) → stream_id_in first n ≡ Some i → i ≡ be_at 8 first 0 + n
  value-id-is i e = let p = value-id in cc

  pub not-past : stream_id_in first n ≡ None → ⊥
  not-past e = let p = value-id in let z : ◌≡◌ {A = ℕ} 0 1 = cc in omega arith
