-- The edge of the domain, of the code: the flags that an accepted advance leaves, and code 8. The premise is the contract of advance
-- (specs/Promises). All is said of the table u that it left.
use mathlib.Core.Path.{◌≡◌}
use mathlib.Core.Logic.{◌↔◌}
use mathlib.Core.List.{List}
use mathlib.Core.Bool.{true, false}
use Prim.Native.Nat.{ℕ, ◌^◌, ◌<◌}
use native.Mathlib.Omega.{arith}
use lib.ListN.{length, get_or}
use Rattle.model.specs.Lists.{Octets}
use Rattle.model.specs.State.{no_domain, Own, own_at, stream_at, Class, is_no_class, supports, port_at, class_priority}
use Rattle.model.specs.Settling.{stream_class, is_domain, domains_of, boundary, scene_of, deciding, declaring, settle}
use Rattle.model.specs.Table.{decode}
use Rattle.model.proofs.Boundaries.{Outside, flag-exactly, no_flag, eight-decided, eight-only}
use Rattle.model.proofs.StepOrder.{classed-before-eight}
use Rattle.bridge.specs.Promises.{Advances}
use Rattle.bridge.proofs.Demand2.{advance-decides}
use Rattle.bridge.proofs.OwnCodes.{GivenWhere, left-valid, given-where}

module _ (u : List ℕ) (p : ℕ) where
  -- what the port holds by itself
  abbrev pub own_held : Own
  own_held = own_at (decode u).owns p

  -- 35.2.1.4 h) holds of the port and a class, by the Domain values that the port holds
  abbrev pub OutsideHeld : Class → Type 0
  OutsideHeld c = Outside (decode u).settings p c own_held.domains

module _ (t : List ℕ) (time n : ℕ) (u : List ℕ) (octets : Octets t) (small : time < 2 ^ 32) (call : Advances t time n u) (accepted : n ≡ 0) (p : ℕ) (port : p < length (decode u).settings.ports) where
  here : p < 8
  here = omega (arith, port, (left-valid t time n u octets small call accepted).settings.eight_ports)

  module _ (c : Class) (some : is_no_class c ≡ false) where
    -- The flag of a class is set exactly where one of h)'s conditions holds.
    pub flag-code : (boundary (own_held u p) c ≡ true) ↔ OutsideHeld u p c
    flag-code =
        let e = (advance-decides t time n u octets small call accepted).bridge in
        rw e (unfold settle declaring deciding in (flag-exactly time (decode t) p (unfold settle declaring deciding in (rw e at port)) here c some))

    -- Where the port hears only the bridge's own value of a class that it supports, its flag is clear.
    pub no-flag-code : supports (port_at (decode u).settings p) c ≡ true →
        is_domain (get_or (domains_of c (own_held u p).domains) (class_priority (decode u).settings c) no_domain) ≡ true →
        ((q : ℕ) → is_domain (get_or (domains_of c (own_held u p).domains) q no_domain) ≡ true → q ≡ class_priority (decode u).settings c) →
        boundary (own_held u p) c ≡ false
    no-flag-code =
        let e = (advance-decides t time n u octets small call accepted).bridge in
        rw e (unfold settle declaring deciding in (no_flag time (decode t) p (unfold settle declaring deciding in (rw e at port)) here c some))

  -- Code 8 is given exactly where no earlier step applies and one of h)'s conditions holds of the stream's class.
  pub eight-code : (k : ℕ) → k < length (decode u).streams → GivenWhere u p k 8 (OutsideHeld u p (stream_class (decode u).settings (stream_at k (decode u))))
  eight-code k held =
      let b = decode u in
      let x = stream_at k b in
      let c = stream_class b.settings x in
      given-where t time n u octets small call accepted p here k held 8 _
      (λ free o. eight-decided (scene_of b) b.clock b.streams p x free ((flag-code c (classed-before-eight (scene_of b) p x free)).1 o))
      (λ whole e.
      let w = eight-only (scene_of b) b.clock b.streams p x whole e in
      (w.0, (flag-code c (classed-before-eight (scene_of b) p x w.0)).0 w.1))
