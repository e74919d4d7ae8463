use mathlib.Core.Path.{sym, ◌∙◌}
use lib.ListN.{get_or}
use Rattle.model.specs.Table.{decode}
use Rattle.model.proofs.Lists.{all-at}
use Rattle.cutting.proofs.Named.{named-at}
use Rattle.declarations.specs.Passes.{declarers}
use Rattle.declarations.specs.Packed.{Tells}
use Rattle.declarations.proofs.Vectors.{listener_said}
use Rattle.declarations.proofs.listener_event.Goals as goal

pub event_of-requires : goal.event_of-requires
unfolding declarers
event_of-requires c =
    let a = c.args in
    let pre = c.requires in
    let there = named-at a.table.now a.places.now a.i pre.0.named pre.1 in
    record {
      places = record { laid = there.laid; held = there.held; port = pre.0.port };
      one = all-at (Tells a.table.now a.p) a.places.now pre.0.each a.i 0 pre.1;
    }

pub returns : goal.returns
returns c =
    let a = c.args in
    let pre = c.requires in
    let told = listener_said a.p (decode a.table.now) (get_or a.places.now a.i 0) (all-at (Tells a.table.now a.p) a.places.now pre.0.each a.i 0 pre.1) in
    c.event_of.ensures ∙ sym told.3
