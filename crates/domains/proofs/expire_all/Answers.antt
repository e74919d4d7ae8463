use Rattle.std.proofs.Common.{◌≡◌, ◌∙◌, refl, sym, ap, arith}
use Rattle.model.specs.Layout.{slots}
use Rattle.model.specs.Settling.{expire_domain}
use Rattle.model.specs.Table.{own_octets, to_own}
use Rattle.domains.proofs.Ports.{laid-own-is, laid-own-fits, lent-slot, left-slot, leaving, lapsed_to, lapsed-fits, lapsed-none, lapsed-next, lapsed-all}
use Rattle.domains.proofs.expire_all.Goals as goal

pub loop-i-init : goal.loop-i-init
loop-i-init c = λ st e.
    let s = c.args.own.now in
    laid-own-is s c.requires.0 ∙ ap own_octets (sym (lapsed-none st c.args.time (to_own s) (laid-own-fits s c.requires.0)))

pub expire-requires : goal.expire-requires
expire-requires c =
    let l = c.loop-i in
    let s = c.args.own.now in
    let st = leaving c.args.leave in
    let f = lapsed-fits st c.args.time (to_own s) (laid-own-fits s c.requires.0) l.i in
    let r = lent-slot (lapsed_to st c.args.time l.i (to_own s)) f l.own (l.invariant st refl) l.i (omega arith) in
    (r.laid, r.size)

pub loop-i-preserved : goal.loop-i-preserved
loop-i-preserved c = λ st e.
    let l = c.loop-i in
    let s = c.args.own.now in
    let time = c.args.time in
    let fits = laid-own-fits s c.requires.0 in
    left-slot (lapsed_to st time l.i (to_own s)) (lapsed-fits st time (to_own s) fits l.i) l.own (l.invariant st e) l.i (omega arith) (expire_domain st time) _ (c.expire.ensures st e)
    ∙ ap own_octets (lapsed-next st time (to_own s) fits l.i)

pub returns : goal.returns
returns c = λ st e.
    let l = c.loop-i in
    let s = c.args.own.now in
    let done : l.i ≡ slots = omega arith in
    (rw done at (l.invariant st e)) ∙ ap own_octets (lapsed-all st c.args.time (to_own s) (laid-own-fits s c.requires.0))
