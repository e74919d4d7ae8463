-- What is sent, of the code (02, xiv): the machines are the settled declarations; three passes and a port is quiet; a machine ends by its Lv;
-- and two bridges on a link. The premises are the contracts of the calls (specs/Promises).
use mathlib.Core.Path.{◌≡◌, ◌∙◌, ap}
use mathlib.Core.List.{List, [], ◌∷◌, ◌++◌, map, Memᴰ}
use mathlib.Core.Bool.{Bool, false}
use Prim.Native.Nat.{ℕ, suc, ◌-◌}
use native.Mathlib.Omega.{arith}
use native.Mathlib.Decide.{ℕ_discrete}
use lib.ListN.{length, take, drop}
use Rattle.model.specs.Lists.{All, Octets}
use Rattle.model.specs.Applicant.{tx}
use Rattle.model.specs.Places.{each, reached, behind}
use Rattle.model.specs.Machines.{Listed, after, way}
use Rattle.model.specs.State.{Bridge, started}
use Rattle.model.specs.Registrations.{holding, owning, sending}
use Rattle.model.specs.Frames.{frame_acts}
use Rattle.model.specs.Declarations.{Declaration, declarations, is_registered}
use Rattle.model.specs.Writing.{leaves_all, takes_on, say_on, wrote_on}
use Rattle.model.specs.Table.{decode}
use Rattle.model.proofs.Quieting.{Quiet}
use Rattle.model.proofs.Passing.{taken}
use Rattle.model.proofs.WritingPasses.{declared}
use Rattle.model.proofs.PortPasses.{Calm, pass, few-to-say}
use Rattle.model.proofs.QuietPort.{quiet-after-three, quiet-octets}
use Rattle.model.proofs.SettledSends.{Sent, settled-sends, all-applied-sent}
use Rattle.model.proofs.WrittenSends.{write-sent, others-stay, ended-by-lv}
use Rattle.bridge.specs.Promises.{Writes}
use Rattle.bridge.proofs.Demand1.{Left, begun, received, registered, advanced, wrote, left-formed, receive-answers, mmrp-answers, advance-answers, write-answers}
use Rattle.bridge.proofs.Demand2.{start-leaves, receive-registers, mmrp-registers, advance-decides, write-tells}
use Rattle.bridge.proofs.Demand2 as calls
use Rattle.bridge.proofs.Passing.{Written, last, more, Passes, calm, as_it_was, write-passes, pass-leaves}

-- Of every table that start and the calls after it leave: the machines that stand are the declarations that the last advance settled, with
-- the octets that it settled, of each stream on each port.
pub left-sent : (u : List ℕ) → Left u → All Sent (decode u).streams
unfolding holding owning sending
left-sent _ (begun t s n u o call z) = rw (start-leaves t s n u o call z).1 (unfold started in tt)
left-sent _ (received t p pdu n u l o call) = go (ℕ_discrete n 0) (left-sent t l)
  where
    octets : Octets t
    octets = (left-formed t l).0

    go : Dec (n ≡ 0) → All Sent (decode t).streams → All Sent (decode u).streams
    go (yes z) a =
        let r = receive-registers t p pdu n u octets o call z in
        rw r.bridge (all-applied-sent (decode t).clock (p - 1) (frame_acts r.vectors) (decode t).streams a)
    go (no refused) a = rw ((receive-answers t p pdu n u octets o call).unaltered refused) a
left-sent _ (registered t p pdu n u l call) = go (ℕ_discrete n 0) (left-sent t l)
  where
    octets : Octets t
    octets = (left-formed t l).0

    go : Dec (n ≡ 0) → All Sent (decode t).streams → All Sent (decode u).streams
    go (yes z) a = rw (mmrp-registers t p pdu n u octets call z).bridge a
    go (no refused) a = rw ((mmrp-answers t p pdu n u octets call).unaltered refused) a
left-sent _ (advanced t time n u l small call) = go (ℕ_discrete n 0) (left-sent t l)
  where
    octets : Octets t
    octets = (left-formed t l).0

    go : Dec (n ≡ 0) → All Sent (decode t).streams → All Sent (decode u).streams
    go (yes z) a = rw (advance-decides t time n u octets small call z).bridge (settled-sends time (decode t))
    go (no refused) a = rw ((advance-answers t time n u octets small call).unaltered refused) a
left-sent _ (wrote t p place buffer n long next u v l call) = go (ℕ_discrete n 0) (left-sent t l)
  where
    octets : Octets t
    octets = (left-formed t l).0

    go : Dec (n ≡ 0) → All Sent (decode t).streams → All Sent (decode v).streams
    go (yes z) a = rw (write-tells t p place buffer n long next u v octets call z).bridge (write-sent (decode t) (p - 1) place a)
    go (no refused) a = rw ((write-answers t p place buffer n long next u v octets call).unaltered refused).3 a

-- Quiet: with no LeaveAll due, three passes from place 0, with nothing received between and no time moved, leave every machine of the port in
-- QA, and a write then, from any place, gives 3 octets and leaves the table as it is.
module _ (p : ℕ) (t₀ t₁ t₂ t₃ : List ℕ) (a b c : List (List ℕ)) (octets : Octets t₀) (none : leaves_all (decode t₀) (p - 1) ≡ false)
    (first : Written p t₀ 0 a t₁) (second : Written p t₁ 0 b t₂) (third : Written p t₂ 0 c t₃) where
  passed_first : Passes t₀ p 0 a t₁
  passed_first = write-passes p t₀ 0 a t₁ octets none first

  passed-second : Passes t₁ p 0 b t₂
  passed-second = write-passes p t₁ 0 b t₂ passed_first.kept.0 passed_first.none second

  passed-third : Passes t₂ p 0 c t₃
  passed-third = write-passes p t₂ 0 c t₃ passed-second.kept.0 passed-second.none third

  one-pass : (t : List ℕ) (pdus : List (List ℕ)) (u : List ℕ) → Octets t → leaves_all (decode t) (p - 1) ≡ false → Written p t 0 pdus u → decode u ≡ pass (decode t) p
  unfolding pass
  one-pass t pdus u o k run = pass-leaves p t 0 pdus u o k run (suc (length (declared (decode t) p))) (omega (arith, few-to-say (decode t) p 0))

  after-three : decode t₃ ≡ pass (pass (pass (decode t₀) p) p) p
  after-three =
      one-pass t₂ c t₃ passed-second.kept.0 passed-second.none third
      ∙ ap (λ (d : Bridge). pass d p)
      (one-pass t₁ b t₂ passed_first.kept.0 passed_first.none second ∙ ap (λ (d : Bridge). pass d p) (one-pass t₀ a t₁ octets none first))

  -- a port of a bridge that keeps the form rules
  started-calm : Calm (decode t₀) p 0
  started-calm = pass-calm t₀ 0 a t₁ octets none first
    where
      pass-calm : (t : List ℕ) (place : ℕ) (pdus : List (List ℕ)) (w : List ℕ) → Octets t → leaves_all (decode t) (p - 1) ≡ false → Written p t place pdus w → Calm (decode t) p place
      pass-calm _ _ _ _ o k (last t place buffer n long next u v call z e) = calm t p place buffer n long next u v o k call z
      pass-calm _ _ _ _ o k (more t place buffer n long next u v pdus w call z e rest) = calm t p place buffer n long next u v o k call z

  pub quiet-code : All Quiet (declared (decode t₃) p)
  quiet-code = rw after-three (quiet-after-three (decode t₀) p started-calm.valid started-calm.port)

  pub quiet-writes : (place : ℕ) (buffer : List ℕ) (n long next : ℕ) (u v : List ℕ) → Writes t₃ p place buffer n long next u v → n ≡ 0 →
      (long ≡ 3) × (take long u ≡ 0 ∷ 0 ∷ 0 ∷ []) × (decode v ≡ decode t₃)
  quiet-writes place buffer n long next u v call z =
      let o = passed-third.kept.0 in
      let k = passed-third.none in
      let w = calls.wrote t₃ p place buffer n long next u v o call z in
      let s = quiet-octets (decode t₃) p place (calm t₃ p place buffer n long next u v o k call z) quiet-code in
      let three : long ≡ 3 = w.long-is ∙ ap length s in
      (three, w.pdu ∙ s, as_it_was t₃ p place buffer n long next u v o k call z three)

-- With no LeaveAll due, a write leaves of the port's list what its PDU does not reach as it is; and each machine that ends is in the PDU, with
-- the event Lv.
module _ (t : List ℕ) (p place : ℕ) (buffer : List ℕ) (n long next : ℕ) (u v : List ℕ) (octets : Octets t) (none : leaves_all (decode t) (p - 1) ≡ false)
    (call : Writes t p place buffer n long next u v) (z : n ≡ 0) where
  abbrev registered_here : Declaration → Bool
  registered_here = is_registered (decode t) (p - 1)

  abbrev list_here : List (Listed Declaration)
  list_here = declarations (decode t) (p - 1)

  abbrev taken_here : ℕ
  taken_here = taken (way false registered_here) (takes_on (decode t) (p - 1)) place list_here

  -- those that the PDU reaches, and those behind them
  abbrev pub reached_here : List (Listed Declaration)
  reached_here = reached (way false registered_here).says taken_here (drop place list_here)

  abbrev pub behind_here : List (Listed Declaration)
  behind_here = behind (way false registered_here).says taken_here (drop place list_here)

  pub others-stay-code : declared (decode v) p ≡ take place list_here ++ (each (after registered_here tx) reached_here ++ behind_here)
  others-stay-code = (write-tells t p place buffer n long next u v octets call z).list ∙ others-stay (decode t) (p - 1) place none

  pub ended-by-lv-code : All (λ x. after registered_here tx x ≡ []
      → Memᴰ (say_on (decode t) (p - 1) x) (map (say_on (decode t) (p - 1)) (wrote_on (decode t) (p - 1) place).run) × ((say_on (decode t) (p - 1) x).event ≡ 5)) reached_here
  ended-by-lv-code = ended-by-lv (decode t) (p - 1) place none
