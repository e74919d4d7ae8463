-- What the walk reads is what is left to do: of a list from a place on, of a frame, and of the two walks over a frame. Assumes
-- nothing.
use Prim.Native.Nat.{ℕ, zero, suc, ◌+◌, ◌*◌, ◌-◌, ◌/◌, ◌%◌, ◌≤◌, ◌<◌}
use mathlib.Core.Path.{◌≡◌, refl, sym, ap, ◌∙◌}
use mathlib.Core.List.{List, [], ◌∷◌, ◌++◌}
use mathlib.Core.Bool.{Bool, true, false}
use native.Mathlib.Omega.{arith}
use native.Mathlib.Numerals.{add-one}
use lib.ListN.{length, get_or, take, drop}
use borrow.Author.Tests.{le-leb, lt-leb, lt-ltb}
use Rattle.octets.specs.Parts.{part}
use Rattle.model.specs.Layout.{most_addresses}
use Rattle.model.specs.State.{Address}
use Rattle.model.specs.Registrations.{AddressAct, leave_address, join_address, address_acts, does_addresses, change_addresses}
use Rattle.model.specs.Table.{own_octets, to_own}
use Rattle.model.specs.Laid.{LaidOwn}
use Rattle.model.specs.Frames.{Asking, nothing_asked, join, withdraw, three_length, event, three_packed, asking}
use Rattle.model.specs.Frames as msrp
use Rattle.model.specs.AddressFrames as frames
use Rattle.model.proofs.FoundAddresses.{no-refusal, no-list-fault}
use Rattle.msrpdu.specs.Reader.{first_part, event_meant, event_in}
use Rattle.std.specs.Prelude.{Option, Some, None, Result, Ok, Err}
use Rattle.model.specs.Events.{asked_by}
use Rattle.model.specs.declared.refusal.Refusal.{Refusal}
use Rattle.model.specs.declared.event.Asked.{Asked}
use Rattle.model.specs.declared.event.Asked.TheVariants.{Join, Leave}
use Rattle.model.specs.declared.event.Event.{Event}
use Rattle.msrpdu.proofs.Laws.{event-there}
use Rattle.msrpdu.specs.declared.VectorHead.{VectorHead}
use Rattle.msrpdu.specs.declared.VectorRead.TheVariants as vector
use Rattle.mmrpdu.specs.Reader.{list_named, head_vector, typed_read, message_read}
use Rattle.mmrpdu.specs.declared.MessageHead.{MessageHead}
use Rattle.mmrpdu.proofs.Walking.{within, over-within, ahead-list}
use Rattle.mmrpdu.proofs.Applying.{Sound, sound, address_read, other-acts, macs-named, NextVector, found-next, found-over, found-end, found-accepted, list-ends, NextList, found-list, found-done, found-allowed, accepted-messages, accepted-length}
use Rattle.addresses.specs.Room.{present_only}
use Rattle.mmrp.specs.Run.{effects, held, having, Walked}
use Rattle.mmrp.specs.Walked.{asked_of, vector_of, acts_of, list_read, list_acts_of, list_end_of, taken, Receives}
use Rattle.mmrp.specs.Asks.{HasAddress}
use Rattle.mmrp.proofs.Room.{effects-applied, same_length, applied-after-room}
use Rattle.mmrp.proofs.Walks.{held_fits, having-same, walked_none, went-held, went-having, left-octets, Going, going_start, going_on, going-stopped, going_end}

-- Values.

-- what an event asks for
asked-meant : (e : msrp.Event) → asked_by (event_meant e) ≡ asked_of (asking e)
unfolding event_meant asked_of asking
asked-meant msrp.new = refl
asked-meant msrp.join_in = refl
asked-meant msrp.is_in = refl
asked-meant msrp.join_mt = refl
asked-meant msrp.mt = refl
asked-meant msrp.lv = refl

-- of a value that has one
pub asked-read : (three : List ℕ) (n : ℕ) (e : Event) → n / 3 < length three → event_in three n ≡ Some e → asked_by e ≡ asked_of (frames.address_asking three n)
unfolding frames.address_asking
asked-read three n e h i =
    let j : ◌≡◌ {A = Option Event} (Some (event_meant (event (three_packed (get_or three (n / 3) 0) (n % 3))))) (Some e) = sym (event-there three n h) ∙ i in
    let k : event_meant (event (three_packed (get_or three (n / 3) 0) (n % 3))) ≡ e = cc in
    ap asked_by (sym k) ∙ asked-meant (event (three_packed (get_or three (n / 3) 0) (n % 3)))

pub event-missed : (three : List ℕ) (n : ℕ) → n / 3 < length three → event_in three n ≡ None → ⊥
event-missed three n h e = let i = event-there three n h in let z : ◌≡◌ {A = ℕ} 0 1 = cc in omega arith

-- what the address reader gave
pub not-past : (x : ℕ) → Some x ≡ None → ⊥
not-past x e = let z : ◌≡◌ {A = ℕ} 0 1 = cc in omega arith

pub value-is : (x y : ℕ) → Some x ≡ Some y → x ≡ y
value-is x y e = cc

-- the acts of a value, by what is asked for
pub acts-nothing : (mac : ℕ) (a : Asking) → asked_of a ≡ None → frames.address_act mac a ≡ []
unfolding asked_of frames.address_act
acts-nothing mac nothing_asked e = refl
acts-nothing mac join e = let z : ◌≡◌ {A = ℕ} 0 1 = cc in absurd (omega arith)
acts-nothing mac withdraw e = let z : ◌≡◌ {A = ℕ} 0 1 = cc in absurd (omega arith)

pub acts-join : (mac : ℕ) (a : Asking) → asked_of a ≡ Some Join → frames.address_act mac a ≡ join_address mac ∷ []
unfolding asked_of frames.address_act
acts-join mac nothing_asked e = let z : ◌≡◌ {A = ℕ} 0 1 = cc in absurd (omega arith)
acts-join mac join e = refl
acts-join mac withdraw e = let z : ◌≡◌ {A = ℕ} 0 1 = cc in absurd (omega arith)

pub acts-leave : (mac : ℕ) (a : Asking) → asked_of a ≡ Some Leave → frames.address_act mac a ≡ leave_address mac ∷ []
unfolding asked_of frames.address_act
acts-leave mac nothing_asked e = let z : ◌≡◌ {A = ℕ} 0 1 = cc in absurd (omega arith)
acts-leave mac join e = let z : ◌≡◌ {A = ℕ} 0 1 = cc in absurd (omega arith)
acts-leave mac withdraw e = refl

module _ (v : frames.AddressVector) (n count : ℕ) where
  pub values-next : n < count
      → frames.address_values v n (count - n) ≡ frames.address_act (frames.address_of v.first n) (frames.address_asking v.three n) ++ frames.address_values v (n + 1) (count - (n + 1))
  unfolding frames.address_values
  values-next h = let e : count - n ≡ suc (count - (n + 1)) = omega arith in rw (e, add-one n)

  pub values-done : n ≡ count → frames.address_values v n (count - n) ≡ []
  unfolding frames.address_values
  values-done h = let e : count - n ≡ 0 = omega arith in rw e

-- A vector of MAC addresses that was read.

module _ (version : ℕ) (s : List ℕ) (at : ℕ) (w : VectorHead) (e : typed_read version frames.mac_list s at ≡ Ok (vector.Vector w)) where
  sounds : Sound frames.mac_list (head_vector s w)
  sounds = sound version frames.mac_list s at w e

  pub enough-events : w.values ≤ 3 * length (take (w.four - w.three) (drop w.three s))
  unfolding head_vector part three_length
  enough-events = let m = sounds.three in omega arith

  pub has-addresses : (n : ℕ) → n < w.values → HasAddress (first_part s w) n
  unfolding head_vector
  has-addresses n h = let a = address_read (head_vector s w) n h sounds in record { read = a.0; small = a.1 }

-- its values ask for the same in any vector with its parts
same-values : (v : frames.AddressVector) (n k : ℕ) → frames.address_values v n k ≡ frames.address_values (vector_of v.first v.three) n k
unfolding frames.address_values vector_of
same-values v n zero = refl
same-values v n (suc k) =
    ap (λ (es : List AddressAct). frames.address_act (frames.address_of v.first n) (frames.address_asking v.three n) ++ es) (same-values v (suc n) k)

pub vector-acts : (s : List ℕ) (w : VectorHead) →
    frames.address_vector_acts frames.mac_list (head_vector s w)
    ≡ frames.all_addresses w.leaves
    ++ frames.address_values (vector_of (first_part s w) (take (w.four - w.three) (drop w.three s))) 0 w.values
unfolding frames.address_vector_acts head_vector part
vector-acts s w = ap (λ (es : List AddressAct). frames.all_addresses w.leaves ++ es) (same-values (head_vector s w) 0 w.values)

-- A list: what is left from a place on.

pub list-found : (w : frames.ListWalk) (es : List AddressAct) (end : ℕ) → w ≡ frames.list_acts es end → w ≡ frames.list_acts (list_acts_of w) (list_end_of w)
unfolding list_acts_of list_end_of
list-found w es end e = rw e

-- a turn was left for what was found
turn : (f version : ℕ) (t : frames.AddressList) (s : List ℕ) (at : ℕ) (es : List AddressAct) (end : ℕ) → frames.address_vectors f version t s at ≡ frames.list_acts es end
    → frames.address_vectors (suc (f - 1)) version t s at ≡ frames.list_acts es end
turn zero version t s at es end e = absurd (no-list-fault 3 es end (unfold frames.address_vectors in e))
turn (suc f) version t s at es end e = let z : suc f - 1 ≡ f = omega arith in rw z e

module _ (pdu : List ℕ) (version : ℕ) (m : MessageHead) (applying : Bool) (now : ℕ) (s : List ℕ) where
  abbrev type : frames.AddressList
  type = list_named m.kind m.octets

  abbrev whole : frames.ListWalk
  whole = list_read pdu version m

  pub record ListGoing (at : ℕ) (u : List ℕ) : Type 0 where
    pub within : at ≤ length pdu
    pub turns : ℕ
    pub left : List AddressAct
    pub finds : frames.address_vectors (suc turns) version type pdu at ≡ frames.list_acts left (list_end_of whole)
    pub going : Going applying now (list_acts_of whole) s left u

  pub list-start : (es : List AddressAct) (end : ℕ) → list_read pdu version m ≡ frames.list_acts es end → m.list ≤ length pdu → LaidOwn s → ListGoing m.list s
  unfolding list_read
  list-start es end e h l = record {
    within = h;
    turns = length pdu;
    left = list_acts_of whole;
    finds = list-found whole es end e;
    going = going_start applying now (list_acts_of whole) s l;
  }

  module _ (at : ℕ) (u : List ℕ) (g : ListGoing at u) where
    pub list-refused : (n : Refusal) → typed_read version type pdu at ≡ Err n → ⊥
    list-refused n r = found-accepted g.turns version type pdu at g.left _ g.finds n r

    pub list-end : typed_read version type pdu at ≡ Ok vector.EndMark → (at + 2 ≡ list_end_of whole) × Walked applying now (list_acts_of whole) s true u
    list-end r =
        let a = found-end g.turns version type pdu at g.left _ g.finds r in
        (sym a.1, going_end applying now (list_acts_of whole) s g.left u g.going a.0)

    pub list_over : (next : ℕ) → typed_read version type pdu at ≡ Ok (vector.PassedOver next) → ListGoing next u
    list_over next r = record {
      within = (over-within version type pdu at next r).1;
      turns = g.turns - 1;
      left = g.left;
      finds = turn g.turns version type pdu next g.left _ (found-over g.turns version type pdu at g.left _ g.finds next r);
      going = g.going;
    }

    module _ (w : VectorHead) (r : typed_read version type pdu at ≡ Ok (vector.Vector w)) where
      next : NextVector g.turns version type pdu w g.left (list_end_of whole)
      next = found-next g.turns version type pdu at g.left _ g.finds w r

      list-vector : (v : List ℕ) → Walked applying now (frames.address_vector_acts type (head_vector pdu w)) u true v → ListGoing w.next v
      list-vector v x = record {
        within = (within version type pdu at w r).pdu;
        turns = g.turns - 1;
        left = next.rest;
        finds = turn g.turns version type pdu w.next next.rest _ next.left;
        going = going_on applying now (list_acts_of whole) s g.left u g.going _ next.rest v next.split x;
      }

      list_full : (v : List ℕ) → Walked applying now (frames.address_vector_acts type (head_vector pdu w)) u false v → Walked applying now (list_acts_of whole) s false v
      list_full v x = going-stopped applying now (list_acts_of whole) s g.left u g.going _ next.rest v next.split x

      -- it is of MAC addresses
      module _ (k : m.kind ≡ 2) (v : List ℕ) where
        pub list-macs : Walked applying now (frames.address_vector_acts frames.mac_list (head_vector pdu w)) u true v → ListGoing w.next v
        list-macs x = list-vector v (rw (macs-named m.kind m.octets k) x)

        pub list-macs-full : Walked applying now (frames.address_vector_acts frames.mac_list (head_vector pdu w)) u false v → Walked applying now (list_acts_of whole) s false v
        list-macs-full x = list_full v (rw (macs-named m.kind m.octets k) x)

      -- or of another type
      pub list-dropped : (m.kind ≡ 2 → ⊥) → ListGoing w.next u
      list-dropped p = list-vector u (rw (other-acts m.kind m.octets (head_vector pdu w) p) (walked_none applying now u g.going.laid))

-- A frame: what is left from a place on.

messages-turn : (f version : ℕ) (s : List ℕ) (at : ℕ) (es : List AddressAct) → frames.address_messages f version s at ≡ address_acts es
    → frames.address_messages (suc (f - 1)) version s at ≡ address_acts es
messages-turn zero version s at es e = absurd (no-refusal 3 es (unfold frames.address_messages in e))
messages-turn (suc f) version s at es e = let z : suc f - 1 ≡ f = omega arith in rw z e

module _ (pdu : List ℕ) (applying : Bool) (now : ℕ) (s : List ℕ) where
  abbrev version : ℕ
  version = get_or pdu 0 0

  abbrev acts : List AddressAct
  acts = acts_of (frames.address_walk pdu)

  pub record FrameGoing (at : ℕ) (u : List ℕ) : Type 0 where
    pub within : at ≤ length pdu
    pub turns : ℕ
    pub left : List AddressAct
    pub finds : frames.address_messages (suc turns) version pdu at ≡ address_acts left
    pub going : Going applying now acts s left u

  pub frame-start : (es : List AddressAct) → frames.address_walk pdu ≡ address_acts es → LaidOwn s → FrameGoing 1 s
  unfolding acts_of
  frame-start es e l = record {
    within = (accepted-length pdu es e).0;
    turns = length pdu;
    left = es;
    finds = accepted-messages pdu es e;
    going = rw e (going_start applying now es s l);
  }

  module _ (at : ℕ) (u : List ℕ) (g : FrameGoing at u) where
    pub frame_refused : (n : Refusal) → message_read version pdu at ≡ Err n → ⊥
    frame_refused n r = found-allowed g.turns version pdu at g.left g.finds n r

    pub frame-end : message_read version pdu at ≡ Ok None → Walked applying now acts s true u
    frame-end r = going_end applying now acts s g.left u g.going (found-done g.turns version pdu at g.left g.finds r)

    module _ (m : MessageHead) (r : message_read version pdu at ≡ Ok (Some m)) where
      pub next-list : NextList g.turns version pdu m g.left
      next-list = found-list g.turns version pdu at g.left g.finds m r

      pub list-is : list_read pdu version m ≡ frames.list_acts next-list.own next-list.end
      unfolding list_read
      list-is = next-list.list

      own-acts : list_acts_of (list_read pdu version m) ≡ next-list.own
      unfolding list_acts_of
      own-acts = rw list-is

      own-end : list_end_of (list_read pdu version m) ≡ next-list.end
      unfolding list_end_of
      own-end = rw list-is

      split : g.left ≡ list_acts_of (list_read pdu version m) ++ next-list.rest
      split = next-list.split ∙ ap (λ (es : List AddressAct). es ++ next-list.rest) (sym own-acts)

      ends : (m.list + 2 ≤ next-list.end) × (next-list.end ≤ length pdu)
      ends = list-ends (suc (length pdu)) version (list_named m.kind m.octets) pdu m.list next-list.own next-list.end next-list.list

      pub end-ahead : (e : ℕ) → e ≡ list_end_of (list_read pdu version m) → at < e
      end-ahead e q = omega (arith, ends, q, own-end, ahead-list version pdu at m r)

      pub end-inside : (e : ℕ) → e ≡ list_end_of (list_read pdu version m) → e ≤ length pdu
      end-inside e q = omega (arith, ends, q, own-end)

      pub frame-list : (e : ℕ) (v : List ℕ) → e ≡ list_end_of (list_read pdu version m) → Walked applying now (list_acts_of (list_read pdu version m)) u true v → FrameGoing e v
      frame-list e v q x = record {
        within = end-inside e q;
        turns = g.turns - 1;
        left = next-list.rest;
        finds = messages-turn g.turns version pdu e next-list.rest (rw (q, own-end) next-list.left);
        going = going_on applying now acts s g.left u g.going _ next-list.rest v split x;
      }

      pub frame-full : (v : List ℕ) → Walked applying now (list_acts_of (list_read pdu version m)) u false v → Walked applying now acts s false v
      frame-full v x = going-stopped applying now acts s g.left u g.going _ next-list.rest v split x

-- The two walks.

module _ (now : ℕ) (pdu s : List ℕ) (laid : LaidOwn s) where
  abbrev es : List AddressAct
  es = acts_of (frames.address_walk pdu)

  -- the first stopped, and the vacant records went again
  pub received-not : present_only (held s) ≡ held s → (t u : List ℕ) → Walked false now es s false t → u ≡ own_octets (change_addresses present_only (to_own t))
      → Receives now pdu s false u
  received-not p t u w e = record {
    answer = sym (lt-leb (length (does_addresses now es (held s))) most_addresses (omega (arith, w.many, same_length now es (held s))));
    octets = restored;
  }
    where
      restored : u ≡ s
      restored =
          e ∙ left-octets s laid t w.left w.fits w.octets present_only
          ∙ ap (having s) (w.restored refl ∙ p) ∙ sym (having-same s laid)

  -- the first made room, and the second applied
  pub received-all : (t : List ℕ) → Walked false now es s true t → (r : Bool) (u : List ℕ) → Walked true now es t r u → Receives now pdu s r u
  received-all t w r u x = go r x
    where
      l : List Address
      l = held s

      done : effects true now es (held t) ≡ does_addresses now es l
      done =
          ap (effects true now es) (went-held false now s laid es [] t w)
          ∙ effects-applied now es (effects false now es l)
          ∙ applied-after-room now es l (held_fits s laid).ascending

      few : length (does_addresses now es l) ≤ most_addresses
      few = omega (arith, w.fits.at_most_64, same_length now es l)

      go : (r : Bool) → Walked true now es t r u → Receives now pdu s r u
      go true y = record {
        answer = sym (le-leb (length (does_addresses now es l)) most_addresses few);
        octets = unfold taken in (y.octets ∙ went-having false now s laid es [] t w _ ∙ ap (having s) done ∙ (unfold having held change_addresses in refl));
      }
      go false y = absurd (omega (arith, few, y.many, ap length done))
