-- A frame that is received: room is made and its acts are done, or there is no room and the table is as it was.
use Prim.Native.Nat.{ℕ, ◌≤◌}
use mathlib.Core.Path.{◌≡◌, refl, sym, ◌∙◌, ap}
use mathlib.Core.List.{List}
use mathlib.Core.Bool.{Bool, true, false, true≢false}
use lib.ListN.{length}
use lib.Dec.{leb}
use borrow.Author.Tests.{leb-true, leb-false}
use Rattle.model.specs.Lists.{All, Octets}
use Rattle.model.specs.State.{Bridge}
use Rattle.model.specs.Settling.{is_held, drop_unheld}
use Rattle.model.specs.Registrations.{Act, apply_all, holding, owning, sending}
use Rattle.model.specs.Frames.{walk}
use Rattle.model.specs.Table.{encode, decode, formed}
use Rattle.model.specs.Laid.{Laid}
use Rattle.model.proofs.Fits.{laid-is, laid-fits}
use Rattle.model.proofs.Lists.{all_map}
use Rattle.model.proofs.Valid.{ValidStream}
use Rattle.model.proofs.Tables.{valid-decode}
use Rattle.model.proofs.Dropping.{dropped-none}
use Rattle.msrpdu.specs.Reader.{number_of}
use Rattle.msrpdu.proofs.Applying.{accepted}
use Rattle.registrar.specs.Acts.{is_found, acts_of}
use Rattle.registrar.specs.Run.{Registered, registered_of, keeping, Ran, ran, effects, run, left_by, went}
use Rattle.registrar.specs.Walked.{run_on, Walked, taken, Receives}
use Rattle.registrar.proofs.FrameWalk.{is_found_lem}
use Rattle.registrar.proofs.Room.{streaming, applied, room-made, all-applied, Lacking, room-lacking}
use Rattle.registrar.proofs.Walks.{walked-read}

module _ (p : ℕ) (pdu t : List ℕ) (l : Laid t) where
  abbrev es : List Act
  es = acts_of (walk pdu)

  abbrev now : ℕ
  now = (decode t).clock

  -- what is registered
  abbrev x : Registered
  x = registered_of (decode t)

  taken-applied : taken p pdu t ≡ applied now p es x
  unfolding taken applied
  taken-applied = refl

  -- the first walk stops exactly where there is no room
  stops : (u : List ℕ) → Walked false p es t false u → leb (length (taken p pdu t).streams) 64 ≡ false
  unfolding taken run_on
  stops u w = go (leb (length (apply_all now p es x.streams)) 64) refl
    where
      go : (b : Bool) → leb (length (apply_all now p es x.streams)) 64 ≡ b → b ≡ false
      go true e = absurd (true≢false (sym (w.answer ∙ ap went (room-made now p es x (leb-true _ 64 e)) ∙ unfold went in refl)))
      go false e = refl

  goes : (u : List ℕ) → Walked false p es t true u → leb (length (taken p pdu t).streams) 64 ≡ true
  unfolding taken run_on
  goes u w = go (leb (length (apply_all now p es x.streams)) 64) refl
    where
      go : (b : Bool) → leb (length (apply_all now p es x.streams)) 64 ≡ b → b ≡ true
      go true e = refl
      go false e =
          let k = room-lacking now p es x (laid-fits t l).at_most_64 (leb-false _ 64 e) in
          absurd (true≢false (w.answer ∙ ap went k.stops ∙ unfold went in refl))

  -- no room: what was made for the frame is dropped
  pub received-not : (u v : List ℕ) → All (λ x. is_held x ≡ true) (decode t).streams → Walked false p (acts_of (walk pdu)) t false u →
      v ≡ encode (holding (decode u) (drop_unheld (decode u).streams)) → Receives p pdu t false v
  unfolding keeping holding owning sending
  received-not u v h w q = record { answer = sym (stops u w); table = q ∙ ap encode back ∙ sym (laid-is t l) }
    where
      lacking : Lacking now p es x
      lacking = room-lacking now p es x (laid-fits t l).at_most_64 (leb-false _ 64 (unfold taken in stops u w))

      left : left_by (run_on false p es t) ≡ streaming lacking.left x
      left = unfold run_on left_by in (ap left_by lacking.stops)

      back : holding (decode u) (drop_unheld (decode u).streams) ≡ decode t
      back =
          ap (λ (b : Bridge). holding b (drop_unheld b.streams)) (walked-read w ∙ ap (keeping (decode t)) left)
          ∙ ap (holding (decode t)) (lacking.restored ∙ dropped-none x.streams h)

  -- room: the second walk does all
  pub received-all : (u v : List ℕ) (r : Bool) → Walked false p (acts_of (walk pdu)) t true u → Walked true p (acts_of (walk pdu)) u r v → Receives p pdu t r v
  unfolding keeping holding owning sending
  received-all u v r w y =
      let e : r ≡ true = y.answer ∙ ap went second ∙ unfold went in refl in
      record { answer = e ∙ sym (goes u w); table = rw e (y.table ∙ ap encode whole) }
    where
      few : length (apply_all now p es x.streams) ≤ 64
      few = leb-true _ 64 (unfold taken in goes u w)

      made : decode u ≡ keeping (decode t) (streaming (effects false now p es x.streams) x)
      made = walked-read w ∙ unfold run_on left_by in (ap (λ (q : Ran). keeping (decode t) (left_by q)) (room-made now p es x few))

      second : run_on true p es u ≡ ran (taken p pdu t)
      second =
          unfold run_on in
          (ap (λ (b : Bridge). run true b.clock p es (registered_of b)) made ∙ all-applied now p es x few ∙ ap ran (sym taken-applied))

      whole : keeping (decode u) (left_by (run_on true p es u)) ≡ keeping (decode t) (taken p pdu t)
      whole =
          unfold left_by in
          (ap (λ (q : Ran). keeping (decode u) (left_by q)) second ∙ ap (λ (b : Bridge). keeping b (taken p pdu t)) made)

-- For callers: a frame of number 0 is well-formed, and a table that keeps the form rules holds every stream that it has.

pub accepted-found : (pdu : List ℕ) → number_of (walk pdu) ≡ 0 → is_found (walk pdu) ≡ true
accepted-found pdu e = let a = accepted pdu e in is_found_lem (walk pdu) a.0 a.1

pub formed-held : (t : List ℕ) → Octets t → formed t ≡ true → All (λ x. is_held x ≡ true) (decode t).streams
formed-held t o f =
    all_map (ValidStream (length (decode t).settings.ports) (decode t).clock (decode t).settings.leave_time) (λ x. is_held x ≡ true)
    (λ x v. v.is-held) (decode t).streams (valid-decode t o f).streams
