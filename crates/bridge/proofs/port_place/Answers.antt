-- The tests, way by way.
use Rattle.std.proofs.Common.{◌≡◌, sym, ◌∙◌, refl, true, arith}
use Rattle.model.specs.Lists.{Octets}
use Rattle.model.specs.Table.{formed, decode}
use Rattle.model.proofs.Parts.{octets-of}
use Rattle.model.proofs.Fits.{formed-laid}
use Rattle.bridge.specs.Promises.{port_refusal}
use Rattle.bridge.proofs.OnTables.{Passed, port-in, port-zero, port-above, port-right}
use Rattle.bridge.proofs.port_place.Goals as goal
use Rattle.bridge.proofs.port_place.Goals.{then-port-eq0-via-then-port-eq0, then-port-eq0-via-else-port-eq0+then-ports-port}

pub returns-then-not-is_formed : goal.returns-then-not-is_formed
unfolding port_refusal
returns-then-not-is_formed c = rw (sym c.is_formed.ensures ∙ c.if-not-is_formed.true)

pub ports-requires : goal.ports-requires
ports-requires c =
    let t = c.args.table.now in
    formed-laid t (octets-of t (λ i. omega (arith, c.type_inv.table i))) (sym c.is_formed.ensures ∙ c.if-not-is_formed.false)

pub returns-then-port-eq0 : goal.returns-then-port-eq0
unfolding port_refusal
returns-then-port-eq0 c =
    let st = (decode c.args.table.now).settings in
    let well : formed c.args.table.now ≡ true = sym c.is_formed.ensures ∙ c.if-not-is_formed.false in
    elim c.then-port-eq0.branch [
      | then-port-eq0-via-then-port-eq0 w ↦ rw (well, port-zero st _ w.if-port-eq0.true)
      | then-port-eq0-via-else-port-eq0+then-ports-port w ↦ rw (well, port-above st _ (rw w.ports.ensures.0 at w.if-ports-port.true))
    ]

pub returns : goal.returns
returns c =
    let t = c.args.table.now in
    let p = c.args.port in
    let octets : Octets t = octets-of t (λ i. omega (arith, c.type_inv.table i)) in
    let well : formed t ≡ true = sym c.is_formed.ensures ∙ c.if-not-is_formed.false in
    let right = port-right (decode t).settings p c.if-port-eq0.false (rw c.ports.ensures.0 at c.if-ports-port.false) in
    let passed : Passed t p = record { octets = octets; formed = well; port = right } in
    record { formed = well; right = right; place_is = refl; next = omega (arith, c.if-port-eq0.false); here = port-in t p passed }
