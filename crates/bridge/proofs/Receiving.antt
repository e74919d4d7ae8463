-- What receive hands to the registrar, and what it then answers.
use mathlib.Core.Path.{◌≡◌, sym, ◌∙◌, ap}
use mathlib.Core.List.{List}
use mathlib.Core.Bool.{Bool, true, false}
use Prim.Native.Nat.{ℕ, ◌-◌}
use borrow.Author.Tests.{leb-true, leb-false}
use Rattle.model.specs.Frames.{walk, frame_acts, wrong_port}
use Rattle.model.specs.Table.{formed, encode, decode}
use Rattle.model.specs.Calls.{receive_on}
use Rattle.msrpdu.specs.Reader.{number_of}
use Rattle.msrpdu.proofs.Applying.{accepted}
use Rattle.registrar.specs.Walked.{Receives, taken}
use Rattle.registrar.specs.Run.{keeping}
use Rattle.registrar.specs.Acts.{acts_of}
use Rattle.bridge.proofs.OnTables.{acted, receive-full, receive-taken}

module _ (t : List ℕ) (p : ℕ) (pdu : List ℕ) (h : formed t ≡ true) (w : wrong_port (decode t).settings p ≡ false) (z : number_of (walk pdu) ≡ 0)
    (r : Bool) (u : List ℕ) (g : Receives (p - 1) pdu t r u) where
  pub receive-done : r ≡ true → receive_on t p pdu ≡ record { number = 0; table = u }
  unfolding taken acts_of keeping
  receive-done e =
      let v = accepted pdu z in
      let a = rw v.1 at (sym g.answer ∙ e) in
      let q : u ≡ encode (acted (decode t) p (frame_acts v.0)) = rw (e, v.1) at g.table in
      receive-taken t p pdu h w v.0 v.1 (leb-true _ 64 a) ∙ ap (λ (x : List ℕ). record { number = 0; table = x }) (sym q)

  pub receive-no-room : r ≡ false → receive_on t p pdu ≡ record { number = 8; table = u }
  unfolding taken acts_of
  receive-no-room e =
      let v = accepted pdu z in
      let a = rw v.1 at (sym g.answer ∙ e) in
      let q : u ≡ t = rw e at g.table in
      receive-full t p pdu h w v.0 v.1 (leb-false _ 64 a) ∙ ap (λ (x : List ℕ). record { number = 8; table = x }) (sym q)
