use Rattle.std.proofs.Common.{arith, refl, sym, ◌∙◌}
use Rattle.model.specs.Frames.{strange_leave}
use Rattle.msrpdu.proofs.Laws.{head-rises, vector-short, vector-end, vector-event, first_past, vector-long, vector-strange, vector-read}
use Rattle.msrpdu.proofs.vector.Goals as goal

pub returns-then-n-lt2 : goal.returns-then-n-lt2
returns-then-n-lt2 c = sym (vector-short _ _ _ _ _ (omega arith))

pub returns-then-n-at : goal.returns-then-n-at
returns-then-n-at c = sym (vector-short _ _ _ _ _ (omega arith))

pub returns-then-h-eq0 : goal.returns-then-h-eq0
returns-then-h-eq0 c = sym (vector-end _ _ _ _ _ (omega arith) _ c.get-h.ensures.0 c.if-h-eq0.true)

pub returns-then-version-strange : goal.returns-then-version-strange
unfolding strange_leave
returns-then-version-strange c = sym (vector-event _ _ _ _ _ (omega arith) _ c.get-h.ensures.0 c.if-h-eq0.false _ refl c.if-version-strange.true)

pub returns-then-n-at-2 : goal.returns-then-n-at-2
unfolding strange_leave
returns-then-n-at-2 c = sym (first_past _ _ _ _ _ (omega arith) _ c.get-h.ensures.0 c.if-h-eq0.false _ refl c.if-version-strange.false (omega arith))

pub returns-then-n-head : goal.returns-then-n-head
unfolding strange_leave
returns-then-n-head c =
    sym (vector-long _ _ _ _ _ (omega arith) _ c.get-h.ensures.0 c.if-h-eq0.false _ refl c.if-version-strange.false
    _ c.head_of-head.ensures (omega arith))

pub slice_bounds-any_overpacked-count : goal.slice_bounds-any_overpacked-count
slice_bounds-any_overpacked-count c = omega (arith, head-rises _ _ _ _ _ c.head_of-head.ensures)

pub slice_bounds-any_overpacked-start : goal.slice_bounds-any_overpacked-start
slice_bounds-any_overpacked-start c = omega (arith, head-rises _ _ _ _ _ c.head_of-head.ensures)

pub slice_bounds-any_overpacked-end : goal.slice_bounds-any_overpacked-end
slice_bounds-any_overpacked-end c = omega (arith, head-rises _ _ _ _ _ c.head_of-head.ensures)

pub returns-then-strange-over : goal.returns-then-strange-over
unfolding strange_leave
returns-then-strange-over c =
    c.strange_vector.ensures ∙
    sym (vector-strange _ _ _ _ _ (omega arith) _ c.get-h.ensures.0 c.if-h-eq0.false _ refl c.if-version-strange.false
    _ c.head_of-head.ensures (omega arith) _ c.any_overpacked-over.ensures c.if-strange-over.true)

pub returns : goal.returns
unfolding strange_leave
returns c =
    sym (vector-read _ _ _ _ _ (omega arith) _ c.get-h.ensures.0 c.if-h-eq0.false _ refl c.if-version-strange.false
    _ c.head_of-head.ensures (omega arith) _ c.any_overpacked-over.ensures c.if-strange-over.false)
