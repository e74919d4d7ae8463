use mathlib.Core.Path.{◌≡◌, refl, ap, ◌∙◌}
use mathlib.Core.List.{List}
use Prim.Native.Nat.{ℕ, ◌+◌, ◌-◌, ◌*◌, ◌/◌, ◌%◌, ◌<◌}
use native.Mathlib.Omega.{arith}
use lib.ListN.{length, get_or, take, set, length-set}
use lib.Seq.{take_all}
use Rattle.model.specs.Frames.{three_length}
use Rattle.model.specs.Cutting.{Part, values}
use Rattle.cutting.specs.Named.{ids_of}
use Rattle.cutting.proofs.Named.{ids-length, part-ends}
use Rattle.declarations.specs.Packed.{listeners_at, Telling, three_unit, four_unit, events_by, events_of}
use Rattle.declarations.proofs.Packed.{listeners-ids, listeners-length, listeners-events}
use Rattle.declarations.proofs.Packing.{Turn, turn, first_below, events-none, cleared}
use Rattle.declarations.proofs.write_values.Goals as goal

-- the turn of a Listener
turns : (t : List ℕ) (p : ℕ) (places : List ℕ) → Telling t p places → Part (ids_of t places) → (i : ℕ) → i < length places → (first here n : ℕ)
    → first ≡ get_or (ids_of t places) 0 0 → here ≡ get_or (ids_of t places) i 0 → n ≡ values (ids_of t places) → (out : List ℕ)
    → out ≡ events_by (listeners_at p t places) (take i (listeners_at p t places)) → Turn t p places out i (here - first) ((n + 2) / 3)
turns t p places w q i h first here n ef eh en out so_far =
    let after = first_below t p places w q i h in
    let at : get_or (ids_of t places) 0 0 + (here - first) ≡ get_or (ids_of t places) i 0 = omega (arith, after, ef, eh) in
    let threes : (n + 2) / 3 ≡ three_length (values (ids_of t places)) = unfold three_length in (ap (λ (m : ℕ). (m + 2) / 3) en) in
    turn t p places w q i h (listeners-events t p places) _ _ at threes out so_far

pub id_of-first-requires : goal.id_of-first-requires
id_of-first-requires c =
    let a = c.args in
    let pre = c.requires in
    (pre.telling.named, omega (arith, ids-length a.table.now a.places.now, (part-ends (ids_of a.table.now a.places.now) pre.part pre.telling.named.ascending).some))

pub loop-i-init : goal.loop-i-init
loop-i-init c =
    let a = c.args in
    let g = listeners_at a.p a.table.now a.places.now in
    let room : length a.out.now ≡ _ = rw (← (listeners-ids a.table.now a.p a.places.now)) at c.requires.room in
    c.clear.ensures ∙ cleared a.out.now ∙ events-none g (length a.out.now) room

pub overflow_sub-at : goal.overflow_sub-at
overflow_sub-at c =
    let a = c.args in
    let pre = c.requires in
    omega (arith, c.id_of.ensures, c.id_of-first.ensures, first_below a.table.now a.p a.places.now pre.telling pre.part c.loop-i.i c.loop-i-test.true)

pub bounds-out-three : goal.bounds-out-three
bounds-out-three c =
    let a = c.args in
    let l = c.loop-i in
    let o : ℕ = c.id_of.result - c.id_of-first.result in
    let turn = turns a.table.now a.p a.places.now c.requires.telling c.requires.part l.i c.loop-i-test.true _ _ _ c.id_of-first.ensures c.id_of.ensures c.values_of.ensures.0 l.out l.invariant in
    omega (arith, turn.three-in)

pub overflow_add-out : goal.overflow_add-out
overflow_add-out c =
    let a = c.args in
    let l = c.loop-i in
    let o : ℕ = c.id_of.result - c.id_of-first.result in
    let turn = turns a.table.now a.p a.places.now c.requires.telling c.requires.part l.i c.loop-i-test.true _ _ _ c.id_of-first.ensures c.id_of.ensures c.values_of.ensures.0 l.out l.invariant in
    let event = c.event_at.ensures ∙ ap (λ (m : ℕ). m * three_unit (o % 3)) c.listener_event-event.ensures in
    omega (arith, turn.three-fits, event)

pub bounds-out-three-in-loop-i : goal.bounds-out-three-in-loop-i
bounds-out-three-in-loop-i c =
    let a = c.args in
    let l = c.loop-i in
    let o : ℕ = c.id_of.result - c.id_of-first.result in
    let turn = turns a.table.now a.p a.places.now c.requires.telling c.requires.part l.i c.loop-i-test.true _ _ _ c.id_of-first.ensures c.id_of.ensures c.values_of.ensures.0 l.out l.invariant in
    omega (arith, turn.three-in)

pub bounds-out-four : goal.bounds-out-four
bounds-out-four c =
    let a = c.args in
    let l = c.loop-i in
    let o : ℕ = c.id_of.result - c.id_of-first.result in
    let turn = turns a.table.now a.p a.places.now c.requires.telling c.requires.part l.i c.loop-i-test.true _ _ _ c.id_of-first.ensures c.id_of.ensures c.values_of.ensures.0 l.out l.invariant in
    omega (arith, turn.four-in, length-set l.out (o / 3) (get_or l.out (o / 3) 0 + c.event_at.result))

pub overflow_add-out-in-loop-i : goal.overflow_add-out-in-loop-i
overflow_add-out-in-loop-i c =
    let a = c.args in
    let l = c.loop-i in
    let o : ℕ = c.id_of.result - c.id_of-first.result in
    let turn = turns a.table.now a.p a.places.now c.requires.telling c.requires.part l.i c.loop-i-test.true _ _ _ c.id_of-first.ensures c.id_of.ensures c.values_of.ensures.0 l.out l.invariant in
    let event = c.event_at.ensures ∙ ap (λ (m : ℕ). m * three_unit (o % 3)) c.listener_event-event.ensures in
    let x = ap (λ (m : ℕ). get_or l.out (o / 3) 0 + m) event in
    let number = c.type_at.ensures ∙ ap (λ (m : ℕ). m * four_unit (o % 4)) c.listener_number-number.ensures.0 in
    omega (arith, turn.four-fits _ x, number)

pub bounds-out-four-in-loop-i : goal.bounds-out-four-in-loop-i
bounds-out-four-in-loop-i c =
    let a = c.args in
    let l = c.loop-i in
    let o : ℕ = c.id_of.result - c.id_of-first.result in
    let turn = turns a.table.now a.p a.places.now c.requires.telling c.requires.part l.i c.loop-i-test.true _ _ _ c.id_of-first.ensures c.id_of.ensures c.values_of.ensures.0 l.out l.invariant in
    omega (arith, turn.four-in, length-set l.out (o / 3) (get_or l.out (o / 3) 0 + c.event_at.result))

pub loop-i-preserved : goal.loop-i-preserved
loop-i-preserved c =
    let a = c.args in
    let l = c.loop-i in
    let o : ℕ = c.id_of.result - c.id_of-first.result in
    let turn = turns a.table.now a.p a.places.now c.requires.telling c.requires.part l.i c.loop-i-test.true _ _ _ c.id_of-first.ensures c.id_of.ensures c.values_of.ensures.0 l.out l.invariant in
    let event = c.event_at.ensures ∙ ap (λ (m : ℕ). m * three_unit (o % 3)) c.listener_event-event.ensures in
    let x = ap (λ (m : ℕ). get_or l.out (o / 3) 0 + m) event in
    let number = c.type_at.ensures ∙ ap (λ (m : ℕ). m * four_unit (o % 4)) c.listener_number-number.ensures.0 in
    let threes : ℕ = (c.values_of.result + 2) / 3 in
    let set-x = set l.out (o / 3) (get_or l.out (o / 3) 0 + c.event_at.result) in
    turn.is _ _ x (ap (λ (m : ℕ). get_or set-x (threes + o / 4) 0 + m) number)

pub returns : goal.returns
returns c =
    let a = c.args in
    let l = c.loop-i in
    let g = listeners_at a.p a.table.now a.places.now in
    let all = take_all l.i g (omega (arith, listeners-length a.table.now a.p a.places.now)) in
    l.invariant ∙ ap (events_by g) all ∙ unfold events_of in refl
