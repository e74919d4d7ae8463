use Rattle.std.proofs.Common.{rules}
use Rattle.model.specs.Attributes.{type_of}
use Rattle.model.specs.Frames.{known}
use Rattle.msrpdu.proofs.Reading.{within}
use Rattle.registrar.proofs.Walks.{walked-laid, walked_on}
use Rattle.registrar.proofs.VectorActs.{enough-events, has-values, vector-acts}
use Rattle.registrar.proofs.vector.Goals as goal

pub slice_bounds-values-count : goal.slice_bounds-values-count
slice_bounds-values-count c = let h = within c.args.walk.version (known (type_of c.args.walk.attribute)) c.args.list.now c.requires.at c.args.head c.requires.read in search rules

pub slice_bounds-values-start : goal.slice_bounds-values-start
slice_bounds-values-start c = let h = within c.args.walk.version (known (type_of c.args.walk.attribute)) c.args.list.now c.requires.at c.args.head c.requires.read in search rules

pub slice_bounds-values-end : goal.slice_bounds-values-end
slice_bounds-values-end c = let h = within c.args.walk.version (known (type_of c.args.walk.attribute)) c.args.list.now c.requires.at c.args.head c.requires.read in search rules

pub slice_bounds-values-count-2 : goal.slice_bounds-values-count-2
slice_bounds-values-count-2 c = let h = within c.args.walk.version (known (type_of c.args.walk.attribute)) c.args.list.now c.requires.at c.args.head c.requires.read in search rules

pub slice_bounds-values-start-2 : goal.slice_bounds-values-start-2
slice_bounds-values-start-2 c = let h = within c.args.walk.version (known (type_of c.args.walk.attribute)) c.args.list.now c.requires.at c.args.head c.requires.read in search rules

pub slice_bounds-values-end-2 : goal.slice_bounds-values-end-2
slice_bounds-values-end-2 c = let h = within c.args.walk.version (known (type_of c.args.walk.attribute)) c.args.list.now c.requires.at c.args.head c.requires.read in search rules

pub values-requires : goal.values-requires
values-requires c =
    let a = c.args in
    let p = c.requires in
    let k = type_of a.walk.attribute in
    record {
      walk = record { laid = walked-laid c.begin_all.ensures; port = p.walk.port };
      events = enough-events a.walk.version k a.list.now p.at a.head p.read;
      values = rw c.first_value_at-first.ensures (has-values a.walk.version k a.list.now p.at a.head p.read);
    }

pub returns : goal.returns
returns c =
    let a = c.args in
    rw (vector-acts (type_of a.walk.attribute) a.list.now a.head)
    (walked_on a.walk.applying a.walk.p _ _ a.table.now _ c.begin_all.ensures (rw c.first_value_at-first.ensures at c.values.ensures))
