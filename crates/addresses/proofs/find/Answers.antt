use Rattle.std.proofs.Common.{ℕ, List, ◌+◌, ◌≡◌, ◌≤◌, ◌<◌, length, get_or, sym, ap, ◌∙◌, arith, Err}
use Rattle.octets.specs.Be.{be_at}
use Rattle.model.specs.Layout.{address_in, in_address}
use Rattle.model.specs.Registrations.{macs}
use Rattle.model.specs.Table.{to_own}
use Rattle.model.specs.Laid.{LaidOwn}
use Rattle.model.proofs.AddressesKept.{held-macs}
use Rattle.table.proofs.OwnParts.{laid-own-is, laid-own-fits}
use Rattle.addresses.proofs.Records.{mac-read}
use Rattle.addresses.proofs.Searching.{look-before, look-here, look-past, look-end}
use Rattle.addresses.proofs.find.Goals as goal

-- the address of place k, as it is read
read : (s : List ℕ) → LaidOwn s → (k : ℕ) → k < length (to_own s).addresses
    → be_at 6 s (address_in k + in_address.mac) ≡ get_or (macs (to_own s).addresses) k 0
read s d k h = mac-read (to_own s) (laid-own-fits s d) s (laid-own-is s d) k h

pub returns-then-mac-x : goal.returns-then-mac-x
returns-then-mac-x c =
    let s = c.args.own.now in
    let k = c.loop-k.k in
    let o = to_own s in
    let h : k < length o.addresses = omega (arith, c.count-held.ensures.0) in
    let n : k < length (macs o.addresses) = omega (arith, h, held-macs o.addresses) in
    sym (look-before c.args.mac k (macs o.addresses) c.get-x.result n (c.get-x.ensures.0 ∙ read s c.requires.0 k h) c.if-mac-x.true)
    ∙ c.loop-k.invariant

pub returns-then-mac-x-2 : goal.returns-then-mac-x-2
returns-then-mac-x-2 c =
    let s = c.args.own.now in
    let k = c.loop-k.k in
    let o = to_own s in
    let h : k < length o.addresses = omega (arith, c.count-held.ensures.0) in
    let n : k < length (macs o.addresses) = omega (arith, h, held-macs o.addresses) in
    sym (look-here c.args.mac k (macs o.addresses) c.get-x.result n (c.get-x.ensures.0 ∙ read s c.requires.0 k h) c.if-mac-x-2.true)
    ∙ c.loop-k.invariant

pub loop-k-preserved : goal.loop-k-preserved
loop-k-preserved c =
    let s = c.args.own.now in
    let k = c.loop-k.k in
    let o = to_own s in
    let h : k < length o.addresses = omega (arith, c.count-held.ensures.0) in
    let n : k < length (macs o.addresses) = omega (arith, h, held-macs o.addresses) in
    let past : c.get-x.result < c.args.mac = omega (arith, c.if-mac-x-2.false, c.if-mac-x.false) in
    sym (look-past c.args.mac k (macs o.addresses) c.get-x.result n (c.get-x.ensures.0 ∙ read s c.requires.0 k h) past)
    ∙ c.loop-k.invariant

pub returns : goal.returns
returns c =
    let o = to_own c.args.own.now in
    let k = c.loop-k.k in
    let e : k ≡ c.count-held.result = omega arith in
    let h : length (macs o.addresses) ≤ k = omega (arith, c.count-held.ensures.0, held-macs o.addresses) in
    ap Err (sym e) ∙ sym (look-end c.args.mac k (macs o.addresses) h) ∙ c.loop-k.invariant
