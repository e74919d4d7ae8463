-- What holds of every vector that the walk over a PDU finds, and of the acts that such vectors ask for: each value is within
-- its field.
use mathlib.Core.Path.{◌≡◌, refl, subst, ◌∙◌}
use mathlib.Core.List.{List, [], ◌∷◌, ◌++◌, map}
use mathlib.Core.Bool.{Bool, true, false, cond, ◌&&◌, ◌||◌, true≢false}
use Prim.Native.Nat.{ℕ, zero, suc, ◌+◌, ◌*◌, ◌-◌, ◌%◌, ◌^◌, ◌≤◌, ◌<◌}
use native.Mathlib.Omega.{arith}
use lib.ListN.{length, get_or}
use lib.Dec.{ltb, leb, eqb}
use borrow.Author.Tests.{ltb-false, eqb-false, leb-true, ne_eqb}
use Rattle.octets.specs.Be.{be_at}
use Rattle.octets.specs.Parts.{part}
use Rattle.octets.specs.Fields.{fields}
use Rattle.octets.proofs.Parts.{length_part}
use Rattle.model.specs.Layout.{slots}
use Rattle.model.specs.FrameLayout.{longest_pdu}
use Rattle.model.specs.Lists.{All, Octets}
use Rattle.model.specs.State.{Settings, slot_of}
use Rattle.model.specs.Machines.{Heard}
use Rattle.model.specs.Registrations.{Kind, advertises, faileds, listeners, Act, leave_all, leave, talk, listen, hear_all, hear, of_domain, DomainAct, leave_all_domains, leave_domain, join_domain, hear_all_domains, hear_domain, Reading, refused, acts}
use Rattle.model.specs.Frames.{Attribute, registers, domain_type, first_widths, first_length, three_length, has_four, four_length, Vector, vector_at, vector_end, overpacked, runs_past, overflows, InList, bad_vector, list_end, vector_head, passed_over, strange_leave, strange_vector, vector_in, checked_in, typed_in, InPdu, bad_message, pdu_end, list_skipped, list_of, list_length, list_at, message_end, Walk, fault, found, also, both, vectors_from, vectors, messages_from, messages, walk, Event, Asking, nothing_asked, join, withdraw, asking, priority_of, rank_of, fixed_value, talker_type_value, id_value, hearing, talker_act, listener_act, heard_of, talker_heard, listener_heard, has_slot, slot_act, slot_heard, domain_act, value_acts, values_acts, leave_all_acts, vector_acts, frame_acts, walked, wrong_port, reading}
use Rattle.model.proofs.Lists.{all_append, and_left, and_right}
use Rattle.model.proofs.Parts.{octets-at, octets-part}
use Rattle.octets.proofs.Fields.{be_at-fits}
use Rattle.model.proofs.Valid.{ValidFixed, ValidTalkerType, ValidVarying}

-- the number in the octets at a place
be_at-below-width : (n : ℕ) (s : List ℕ) (at : ℕ) → Octets s → be_at n s at < 256 ^ n
be_at-below-width n s at o = be_at-fits n s at (octets-at s o)

-- A test over all vectors of a walk.

module _ (P : Vector → Type 0) where
  Every : Walk → Type 0
  Every (fault n) = Unit {0}
  Every (found vs) = All P vs

  every-found : (w : Walk) (vs : List Vector) → w ≡ found vs → Every w → All P vs
  unfolding Every
  every-found w vs e a = subst Every e a

  every-also : (v : Vector) (w : Walk) → P v → Every w → Every (also v w)
  unfolding Every also
  every-also v (fault n) p a = tt
  every-also v (found vs) p a = (p, a)

  every-both : (w x : Walk) → Every w → Every x → Every (both w x)
  unfolding Every both
  every-both (fault n) x a b = tt
  every-both (found vs) (fault n) a b = tt
  every-both (found vs) (found ws) a b = all_append P vs ws a b

  -- a test that finds a fault, or passes
  passing : (t : Bool) (n : ℕ) (w : Walk) → Every w → Every (cond t (fault n) w)
  unfolding Every
  passing true n w a = tt
  passing false n w a = a

  -- P of each vector that stands in an AttributeList
  module _ (version : ℕ) (k : Attribute) (l : List ℕ) (each : (at h : ℕ) → typed_in version k l at ≡ vector_head h → P (vector_at k l at h)) where
    every-from : (at : ℕ) (r : InList) → typed_in version k l at ≡ r → (rest : ℕ → Walk) → ((e : ℕ) → Every (rest e)) → Every (vectors_from k l at r rest)
    unfolding Every vectors_from
    every-from at (bad_vector n) e rest a = tt
    every-from at list_end e rest a = tt
    every-from at (vector_head h) e rest a = every-also (vector_at k l at h) _ (each at h e) (a _)
    every-from at (passed_over h) e rest a = a _

    every-vectors : (f at : ℕ) → Every (vectors f version k l at)
    unfolding vectors
    every-vectors zero at = unfold Every in tt
    every-vectors (suc f) at = every-from at _ refl (vectors f version k l) (every-vectors f)

  -- and in each list of a PDU
  module _ (s : List ℕ)
      (each : (version : ℕ) (k : Attribute) (place at h : ℕ) → typed_in version k (list_at s place) at ≡ vector_head h → P (vector_at k (list_at s place) at h)) where
    every-message : (version at : ℕ) (r : InPdu) (rest : Walk) → Every rest → Every (messages_from version s at r rest)
    unfolding Every messages_from
    every-message version at (bad_message n) rest a = tt
    every-message version at pdu_end rest a = tt
    every-message version at list_skipped rest a = a
    every-message version at (list_of k) rest a = every-both _ rest (every-vectors version k (list_at s at) (each version k at) (suc (list_length s at)) 0) a

    every-messages : (f version at : ℕ) → Every (messages f version s at)
    unfolding messages
    every-messages zero version at = unfold Every in tt
    every-messages (suc f) version at = every-message version at _ _ (every-messages f version (message_end s at))

    every-walk : (vs : List Vector) → walk s ≡ found vs → All P vs
    unfolding walk
    every-walk vs e =
        every-found (walk s) vs e
        (passing (eqb (length s) 0) 2 _ (passing (ltb longest_pdu (length s)) 2 _ (every-messages (suc (length s)) (get_or s 0 0) 1)))

-- A walk that finds vectors has met no fault.

pub no-fault : (n : ℕ) (vs : List Vector) → fault n ≡ found vs → ⊥
no-fault n vs e = let z : ◌≡◌ {A = ℕ} 0 1 = cc in omega arith

pub also-found : (v : Vector) (w : Walk) (vs : List Vector) → also v w ≡ found vs → (rest : List Vector) × (w ≡ found rest) × (vs ≡ v ∷ rest)
unfolding also
also-found v (fault n) vs e = absurd (no-fault n vs e)
also-found v (found rest) vs e = (rest, refl, cc)

pub both_found : (w x : Walk) (vs : List Vector) → both w x ≡ found vs
    → (us ws : List Vector) × (w ≡ found us) × (x ≡ found ws) × (vs ≡ us ++ ws)
unfolding both
both_found (fault n) x vs e = absurd (no-fault n vs e)
both_found (found us) (fault n) vs e = absurd (no-fault n vs e)
both_found (found us) (found ws) vs e = (us, ws, refl, refl, cc)

-- A vector that stands in an AttributeList has passed every check.

-- a test that does not lead to an answer was false
pub passed : {A : Type 0} (t : Bool) (x y z : A) → (x ≡ z → ⊥) → cond t x y ≡ z → (t ≡ false) × (y ≡ z)
passed true x y z p e = absurd (p e)
passed false x y z p e = (refl, e)

pub or_left : (a b : Bool) → (a || b) ≡ false → a ≡ false
or_left true b e = e
or_left false b e = refl

pub or_right : (a b : Bool) → (a || b) ≡ false → b ≡ false
or_right true b e = absurd (true≢false e)
or_right false b e = e

pub bad-vector : (n h : ℕ) → bad_vector n ≡ vector_head h → ⊥
bad-vector n h e = let z : ◌≡◌ {A = ℕ} 0 1 = cc in omega arith

pub no_end : (h : ℕ) → list_end ≡ vector_head h → ⊥
no_end h e = let z : ◌≡◌ {A = ℕ} 0 1 = cc in omega arith

-- a vector of any MRP application, read or passed over: what stands there is neither a fault nor the EndMark
module _ (version first : ℕ) (four : Bool) (l : List ℕ) (at : ℕ) (r : InList) (bad : (n : ℕ) → bad_vector n ≡ r → ⊥) (end : list_end ≡ r → ⊥) where
  record Measured : Type 0 where
    header : at + 2 ≤ length l
    some : be_at 2 l at ≡ 0 → ⊥
    fits : vector_end first four at (be_at 2 l at) ≤ length l
    known : (eqb version 0 && strange_leave (be_at 2 l at)) ≡ false
    is : cond (strange_leave (be_at 2 l at) || overpacked (part (at + 2 + first) (three_length (be_at 2 l at % 8192)) l))
        (strange_vector version (be_at 2 l at)) (vector_head (be_at 2 l at)) ≡ r

  measured : vector_in version first four l at ≡ r → Measured
  unfolding vector_in
  measured e =
      let h = be_at 2 l at in
      let a = passed (ltb (length l) (at + 2)) _ _ _ (bad 3) e in
      let b = passed (eqb h 0) _ _ _ end a.1 in
      let c = passed (eqb version 0 && strange_leave h) _ _ _ (bad 6) b.1 in
      let d = passed (ltb (length l) (vector_end first four at h)) _ _ _ (bad 3) c.1 in
      record { header = ltb-false _ _ a.0; some = eqb-false _ _ b.0; fits = ltb-false _ _ d.0; known = c.0; is = d.1 }

-- one that is passed over is not read
no-strange : (version m h : ℕ) → strange_vector version m ≡ vector_head h → ⊥
unfolding strange_vector
no-strange version m h = go (eqb version 0)
  where
    go : (t : Bool) → cond t (bad_vector 6) (passed_over m) ≡ vector_head h → ⊥
    go true e = bad-vector 6 h e
    go false e = let z : ◌≡◌ {A = ℕ} 0 1 = cc in omega arith

-- read
pub record Fitting (first : ℕ) (four : Bool) (l : List ℕ) (at h : ℕ) : Type 0 where
  pub header : at + 2 ≤ length l
  pub is : be_at 2 l at ≡ h
  pub some : h ≡ 0 → ⊥
  pub fits : vector_end first four at h ≤ length l
  pub leave : strange_leave h ≡ false
  pub packed : overpacked (part (at + 2 + first) (three_length (h % 8192)) l) ≡ false

pub fitting : (version first : ℕ) (four : Bool) (l : List ℕ) (at h : ℕ) → vector_in version first four l at ≡ vector_head h → Fitting first four l at h
fitting version first four l at h e =
    let n = be_at 2 l at in
    let x = overpacked (part (at + 2 + first) (three_length (n % 8192)) l) in
    let a = measured version first four l at (vector_head h) (λ m. bad-vector m h) (no_end h) e in
    let f = passed (strange_leave n || x) _ _ _ (no-strange version n h) a.is in
    let i : n ≡ h = cc in
    record {
      header = a.header;
      is = i;
      some = rw i at a.some;
      fits = rw i at a.fits;
      leave = rw i at (or_left (strange_leave n) x f.0);
      packed = rw i at (or_right (strange_leave n) x f.0);
    }

-- passed over, which is for versions above 0
pub record PassedOver (version first : ℕ) (four : Bool) (l : List ℕ) (at h : ℕ) : Type 0 where
  pub newer : eqb version 0 ≡ false
  pub header : at + 2 ≤ length l
  pub is : be_at 2 l at ≡ h
  pub fits : vector_end first four at h ≤ length l
  pub strange : (strange_leave h || overpacked (part (at + 2 + first) (three_length (h % 8192)) l)) ≡ true

end-over : (h : ℕ) → list_end ≡ passed_over h → ⊥
end-over h e = let z : ◌≡◌ {A = ℕ} 0 1 = cc in omega arith

pub bad-over : (n h : ℕ) → bad_vector n ≡ passed_over h → ⊥
bad-over n h e = let z : ◌≡◌ {A = ℕ} 0 1 = cc in omega arith

pub passing-over : (version first : ℕ) (four : Bool) (l : List ℕ) (at h : ℕ) → vector_in version first four l at ≡ passed_over h
    → PassedOver version first four l at h
passing-over version first four l at h e = go (eqb version 0) refl (strange_leave n || x) refl (unfold strange_vector in a.is)
  where
    n : ℕ
    n = be_at 2 l at

    x : Bool
    x = overpacked (part (at + 2 + first) (three_length (n % 8192)) l)

    a : Measured version first four l at (passed_over h) (λ m. bad-over m h) (end-over h)
    a = measured version first four l at (passed_over h) (λ m. bad-over m h) (end-over h) e

    go : (v : Bool) → eqb version 0 ≡ v → (t : Bool) → (strange_leave n || x) ≡ t
        → cond t (cond v (bad_vector 6) (passed_over n)) (vector_head n) ≡ passed_over h → PassedOver version first four l at h
    go v p false q i = let z : ◌≡◌ {A = ℕ} 0 1 = cc in absurd (omega arith)
    go true p true q i = absurd (bad-over 6 h i)
    go false p true q i =
        let j : n ≡ h = cc in
        record { newer = p; header = a.header; is = j; fits = rw j at a.fits; strange = rw j at q }

-- and of a type
module _ (version : ℕ) (k : Attribute) (l : List ℕ) (at h : ℕ) where
  pub record Passed : Type 0 where
    pub there : vector_in version (first_length k) (has_four k) l at ≡ vector_head h
    pub fitting : Fitting (first_length k) (has_four k) l at h
    pub within : overflows (vector_at k l at h) ≡ false

  pub passed-all : typed_in version k l at ≡ vector_head h → Passed
  unfolding typed_in checked_in
  passed-all = go (vector_in version (first_length k) (has_four k) l at) refl
    where
      go : (r : InList) → vector_in version (first_length k) (has_four k) l at ≡ r → checked_in k l at r ≡ vector_head h → Passed
      go (bad_vector n) i e = absurd (bad-vector n h e)
      go list_end i e = let a = passed (eqb (at + 2) (length l)) _ _ _ (no_end h) e in absurd (bad-vector 3 h a.1)
      go (vector_head m) i e =
          let a = passed (overflows (vector_at k l at m)) _ _ _ (bad-vector 7 h) e in
          let q : m ≡ h = cc in
          let there : vector_in version (first_length k) (has_four k) l at ≡ vector_head h = rw q at i in
          record { there = there; fitting = fitting version (first_length k) (has_four k) l at h there; within = rw q at a.0 }
      go (passed_over m) i e = let z : ◌≡◌ {A = ℕ} 0 1 = cc in absurd (omega arith)

  -- one that is passed over is so of every type: its values are not looked at
  pub over-typed : typed_in version k l at ≡ passed_over h → vector_in version (first_length k) (has_four k) l at ≡ passed_over h
  unfolding typed_in checked_in
  over-typed = go (vector_in version (first_length k) (has_four k) l at) refl
    where
      go : (r : InList) → vector_in version (first_length k) (has_four k) l at ≡ r → checked_in k l at r ≡ passed_over h
          → vector_in version (first_length k) (has_four k) l at ≡ passed_over h
      go (bad_vector n) i e = i ∙ e
      go list_end i e =
          let a = passed (eqb (at + 2) (length l)) list_end _ _ (end-over h) e in
          absurd (bad-over 3 h a.1)
      go (vector_head m) i e =
          let a = passed (overflows (vector_at k l at m)) _ _ _ (bad-over 7 h) e in
          let z : ◌≡◌ {A = ℕ} 0 1 = cc in
          absurd (omega arith)
      go (passed_over m) i e = i ∙ e

-- The facts of a vector found.

pub record Sound (v : Vector) : Type 0 where
  pub values : v.values < 8192
  pub first : length v.first ≡ first_length v.attribute
  pub three : length v.three ≡ three_length v.values
  pub four : length v.four ≡ four_length (has_four v.attribute) v.values
  pub packed : overpacked v.three ≡ false
  pub within : overflows v ≡ false

-- its parts are octets
pub record InOctets (v : Vector) : Type 0 where
  pub first : Octets v.first
  pub three : Octets v.three
  pub four : Octets v.four

pub sound-at : (version : ℕ) (k : Attribute) (l : List ℕ) (at h : ℕ) → typed_in version k l at ≡ vector_head h → Sound (vector_at k l at h)
unfolding vector_at vector_end
sound-at version k l at h e =
    let p = passed-all version k l at h e in
    let f = p.fitting.fits in
    record {
      values = omega arith;
      first = length_part (at + 2) (first_length k) l (omega arith);
      three = length_part (at + 2 + first_length k) (three_length (h % 8192)) l (omega arith);
      four = length_part (at + 2 + first_length k + three_length (h % 8192)) (four_length (has_four k) (h % 8192)) l f;
      packed = p.fitting.packed;
      within = p.within;
    }

pub walk-sound : (s : List ℕ) (vs : List Vector) → walk s ≡ found vs → All Sound vs
walk-sound s vs e = every-walk Sound s (λ version k place at h. sound-at version k (list_at s place) at h) vs e

pub walk-octets : (s : List ℕ) (vs : List Vector) → Octets s → walk s ≡ found vs → All InOctets vs
walk-octets s vs o e = every-walk InOctets s (λ version k place at h _. vector-octets k at h (list_at s place) (unfold list_at in (octets-part _ _ s o))) vs e
  where
    vector-octets : (k : Attribute) (at h : ℕ) (l : List ℕ) → Octets l → InOctets (vector_at k l at h)
    vector-octets k at h l o = unfold vector_at in record { first = octets-part _ _ l o; three = octets-part _ _ l o; four = octets-part _ _ l o }

-- What they ask for.

-- the values of an act are within their fields, and a slot is one of a port's
abbrev pub FitsDomain : DomainAct → Type 0
FitsDomain leave_all_domains = Unit {0}
FitsDomain (leave_domain i) = i < slots
FitsDomain (join_domain i v) = (i < slots) × (v < 65536)
FitsDomain hear_all_domains = Unit {0}
FitsDomain (hear_domain i h) = i < slots

abbrev pub Fits : Act → Type 0
Fits (leave_all k) = Unit {0}
Fits (leave k i) = i < 2 ^ 64
Fits (talk i f v) = (i < 2 ^ 64) × ValidFixed f × ValidVarying v
Fits (listen i r) = i < 2 ^ 64
Fits (hear_all k) = Unit {0}
Fits (hear k i h) = i < 2 ^ 64
Fits (of_domain a) = FitsDomain a

-- the last value of a vector runs past no field
pub last_within : (v : Vector) → overflows v ≡ false → 1 ≤ v.values → runs_past v.attribute v.first (v.values - 1) ≡ false
unfolding overflows
last_within v e h = rw (ne_eqb v.values 0 (omega arith)) at e

-- StreamID is the MAC address, 6 octets, and Unique ID, 2
pub id-split : (s : List ℕ) → be_at 8 s 0 ≡ be_at 6 s 0 * 65536 + be_at 2 s 6
unfolding be_at
id-split s = omega arith

-- a Unique ID with m more values behind it, none of which runs past its field
pub unique-within : (k : Kind) (s : List ℕ) (m : ℕ) → runs_past (registers k) s m ≡ false → be_at 2 s 6 + m < 65536
unfolding runs_past
unique-within advertises s m e = omega (arith, ltb-false 65535 (be_at 2 s 6 + m) (or_left _ _ e))
unique-within faileds s m e = omega (arith, ltb-false 65535 (be_at 2 s 6 + m) (or_left _ _ e))
unique-within listeners s m e = omega (arith, ltb-false 65535 (be_at 2 s 6 + m) e)

-- FirstValue with m more values behind it, none of which runs past its field, and the one at n
module _ (s : List ℕ) (o : Octets s) (m n : ℕ) (h : n ≤ m) where
  pub id-fits : (k : Kind) → runs_past (registers k) s m ≡ false → be_at 8 s 0 + n < 2 ^ 64
  id-fits k e =
      let u : be_at 2 s 6 + m < 65536 = unique-within k s m e in
      let a : be_at 6 s 0 < 256 ^ 6 = be_at-below-width 6 s 0 o in
      omega (arith, id-split s)

  -- of a Talker, Advertise or Failed
  module _ (more : List ℕ) (d : be_at 6 s 8 + m < 256 ^ 6) where
    unfoldable pub talker_values : List ℕ
    talker_values = fields (8 ∷ 6 ∷ 2 ∷ 2 ∷ 2 ∷ 1 ∷ 4 ∷ more) 0 s

    pub fixed-fits : ValidFixed (fixed_value talker_values n)
    unfolding fixed_value talker_values fields priority_of rank_of
    fixed-fits =
        let q : be_at 1 s 20 < 256 ^ 1 = be_at-below-width 1 s 20 o in
        record {
          destination = omega arith;
          vlan = omega (arith, be_at-below-width 2 s 14 o);
          size = omega (arith, be_at-below-width 2 s 16 o);
          frames = omega (arith, be_at-below-width 2 s 18 o);
          priority = omega arith;
          rank = omega arith;
        }

    pub latency-fits : get_or talker_values 6 0 < 2 ^ 32
    unfolding talker_values fields
    latency-fits = omega (arith, be_at-below-width 4 s 21 o)

talker-fits : (k : Kind) (vs : List ℕ) (n : ℕ) (a : Asking) → id_value vs n < 2 ^ 64 → ValidFixed (fixed_value vs n) →
    ValidTalkerType (talker_type_value k vs) → get_or vs 6 0 < 2 ^ 32 → All Fits (talker_act k vs n a)
unfolding talker_act
talker-fits k vs n nothing_asked i f h l = tt
talker-fits k vs n join i f h l = ((i, f, record { type = h; latency = l }), tt)
talker-fits k vs n withdraw i f h l = (i, tt)

-- what Applicants hear
heard-fit : (f : Heard → Act) → ((h : Heard) → Fits (f h)) → (l : List Heard) → All Fits (map f l)
heard-fit f g [] = tt
heard-fit f g (h ∷ l) = (g h, heard-fit f g l)

talker-heard : (k : Kind) (i : ℕ) (e : Event) → i < 2 ^ 64 → All Fits (talker_heard k i e)
unfolding talker_heard
talker-heard k i e h = heard-fit (hear k i) (λ x. h) (heard_of e)

talker-value : (k : Kind) (vs : List ℕ) (n : ℕ) (e : Event) → id_value vs n < 2 ^ 64 → ValidFixed (fixed_value vs n) →
    ValidTalkerType (talker_type_value k vs) → get_or vs 6 0 < 2 ^ 32 → All Fits (talker_act k vs n (asking e) ++ talker_heard k (id_value vs n) e)
talker-value k vs n e i f h l =
    all_append Fits (talker_act k vs n (asking e)) (talker_heard k (id_value vs n) e) (talker-fits k vs n (asking e) i f h l) (talker-heard k (id_value vs n) e i)

hearing-fits : (i f : ℕ) → i < 2 ^ 64 → All Fits (hearing i f)
unfolding hearing
hearing-fits i zero h = tt
hearing-fits i (suc zero) h = (h, tt)
hearing-fits i (suc (suc zero)) h = (h, tt)
hearing-fits i (suc (suc (suc f))) h = (h, tt)

listener-fits : (vs : List ℕ) (n : ℕ) (a : Asking) (f : ℕ) → id_value vs n < 2 ^ 64 → All Fits (listener_act vs n a f)
unfolding listener_act
listener-fits vs n nothing_asked f i = tt
listener-fits vs n join f i = hearing-fits (id_value vs n) f i
listener-fits vs n withdraw f i = go (eqb f 0)
  where
    go : (t : Bool) → All Fits (cond t [] (leave listeners (id_value vs n) ∷ []))
    go true = tt
    go false = (i, tt)

listener-heard : (i : ℕ) (e : Event) (f : ℕ) → i < 2 ^ 64 → All Fits (listener_heard i e f)
unfolding listener_heard
listener-heard i e f h = go (eqb f 0)
  where
    go : (t : Bool) → All Fits (cond t [] (map (hear listeners i) (heard_of e)))
    go true = tt
    go false = heard-fit (hear listeners i) (λ x. h) (heard_of e)

listener-value : (vs : List ℕ) (n : ℕ) (e : Event) (f : ℕ) → id_value vs n < 2 ^ 64 →
    All Fits (listener_act vs n (asking e) f ++ listener_heard (id_value vs n) e f)
listener-value vs n e f i =
    all_append Fits (listener_act vs n (asking e) f) (listener_heard (id_value vs n) e f) (listener-fits vs n (asking e) f i) (listener-heard (id_value vs n) e f i)

-- class IDs 5 and 6 and priorities up to 7 give 16 slots
pub slot-within : (c q : ℕ) → has_slot c q ≡ true → slot_of c q < slots
unfolding has_slot slot_of
slot-within c q e =
    let a : 5 ≤ c = leb-true 5 c (and_left (leb 5 c) _ e) in
    let b : c ≤ 6 = leb-true c 6 (and_left (leb c 6) (leb q 7) (and_right (leb 5 c) _ e)) in
    let d : q ≤ 7 = leb-true q 7 (and_right (leb c 6) (leb q 7) (and_right (leb 5 c) _ e)) in
    omega arith

slot-fits : (i v : ℕ) (a : Asking) → i < slots → v < 65536 → All Fits (slot_act i v a)
unfolding slot_act
slot-fits i v nothing_asked h k = tt
slot-fits i v join h k = ((h, k), tt)
slot-fits i v withdraw h k = (h, tt)

slot-heard : (i : ℕ) (e : Event) → i < slots → All Fits (slot_heard i e)
unfolding slot_heard
slot-heard i e h = heard-fit (λ x. of_domain (hear_domain i x)) (λ x. h) (heard_of e)

domain-fits : (vs : List ℕ) (n : ℕ) (e : Event) → get_or vs 2 0 < 65536 → All Fits (domain_act vs n e)
unfolding domain_act
domain-fits vs n e k = go (has_slot c q) refl
  where
    c : ℕ
    c = get_or vs 0 0 + n

    q : ℕ
    q = get_or vs 1 0 + n

    go : (t : Bool) → has_slot c q ≡ t → All Fits (cond t (slot_act (slot_of c q) (get_or vs 2 0) (asking e) ++ slot_heard (slot_of c q) e) [])
    go true h =
        all_append Fits (slot_act (slot_of c q) (get_or vs 2 0) (asking e)) (slot_heard (slot_of c q) e)
        (slot-fits (slot_of c q) (get_or vs 2 0) (asking e) (slot-within c q h) k) (slot-heard (slot_of c q) e (slot-within c q h))
    go false h = tt

pub destination-within : (t : Bool) (d : ℕ) → (t || ltb 281474976710655 d) ≡ false → d < 256 ^ 6
destination-within t d e = omega (arith, ltb-false 281474976710655 d (or_right t _ e))

value-fits : (v : Vector) (n : ℕ) → Octets v.first → overflows v ≡ false → n < v.values → All Fits (value_acts v n)
unfolding value_acts id_value fields first_widths talker_type_value runs_past talker_values
value-fits v n o e h = go v.attribute (last_within v e (omega arith))
  where
    s : List ℕ
    s = v.first

    m : ℕ
    m = v.values - 1

    l : n ≤ m
    l = omega arith

    of : Attribute → Vector
    of k = record { attribute = k; leaves_all = v.leaves_all; values = v.values; first = v.first; three = v.three; four = v.four }

    go : (k : Attribute) → runs_past k s m ≡ false → All Fits (value_acts (of k) n)
    go (registers advertises) r =
        let d : be_at 6 s 8 + m < 256 ^ 6 = destination-within (ltb 65535 (be_at 2 s 6 + m)) (be_at 6 s 8 + m) r in
        talker-value advertises _ n _ (id-fits s o m n l advertises r) (fixed-fits s o m n l [] d) tt (latency-fits s o m n l [] d)
    go (registers faileds) r =
        let d : be_at 6 s 8 + m < 256 ^ 6 = destination-within (ltb 65535 (be_at 2 s 6 + m)) (be_at 6 s 8 + m) r in
        let b : be_at 8 s 25 < 2 ^ 64 = omega (arith, be_at-below-width 8 s 25 o) in
        let c : be_at 1 s 33 < 256 = omega (arith, be_at-below-width 1 s 33 o) in
        talker-value faileds _ n _ (id-fits s o m n l faileds r) (fixed-fits s o m n l (8 ∷ 1 ∷ []) d) (b, c) (latency-fits s o m n l (8 ∷ 1 ∷ []) d)
    go (registers listeners) r = listener-value _ n _ _ (id-fits s o m n l listeners r)
    go domain_type r = domain-fits _ n _ (omega (arith, be_at-below-width 2 s 2 o))

values-fit : (v : Vector) (n k : ℕ) → Octets v.first → overflows v ≡ false → n + k ≤ v.values → All Fits (values_acts v n k)
unfolding values_acts
values-fit v n zero o e h = tt
values-fit v n (suc k) o e h =
    all_append Fits (value_acts v n) (values_acts v (suc n) k) (value-fits v n o e (omega arith)) (values-fit v (suc n) k o e (omega arith))

vector-fits : (v : Vector) → Octets v.first → overflows v ≡ false → All Fits (vector_acts v)
unfolding vector_acts leave_all_acts
vector-fits v o e =
    all_append Fits (leave_all_acts v.attribute v.leaves_all) (values_acts v 0 v.values) (go v.attribute v.leaves_all)
    (values-fit v 0 v.values o e (omega arith))
  where
    go : (k : Attribute) (t : Bool) → All Fits (leave_all_acts k t)
    go (registers k) true = (tt, (tt, tt))
    go (registers k) false = tt
    go domain_type true = (tt, (tt, tt))
    go domain_type false = tt

vectors-fit : (vs : List Vector) → All Sound vs → All InOctets vs → All Fits (frame_acts vs)
unfolding frame_acts
vectors-fit [] a o = tt
vectors-fit (v ∷ vs) a o =
    all_append Fits (vector_acts v) (frame_acts vs) (vector-fits v o.0.first a.0.within) (vectors-fit vs a.1 o.1)

-- every act of a PDU has its values within their fields
pub acts-fit : (s : List ℕ) (vs : List Vector) → Octets s → walk s ≡ found vs → All Fits (frame_acts vs)
acts-fit s vs o e = vectors-fit vs (walk-sound s vs e) (walk-octets s vs o e)

-- and so of a frame on a port
abbrev pub FitsReading : Reading → Type 0
FitsReading (refused n) = Unit {0}
FitsReading (acts es) = All Fits es

pub reading-fits : (st : Settings) (p : ℕ) (pdu : List ℕ) → Octets pdu → FitsReading (reading st p pdu)
unfolding reading
reading-fits st p pdu o = go (wrong_port st p) (walk pdu) refl
  where
    go : (t : Bool) (w : Walk) → walk pdu ≡ w → FitsReading (cond t (refused 1) (walked w))
    go true w e = tt
    go false (fault n) e = unfold walked in tt
    go false (found vs) e = unfold walked in acts-fit pdu vs o e
