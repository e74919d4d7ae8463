-- The rules of settings in terms of the word that has the ports, the class priorities and the leave time.
use mathlib.Core.Path.{◌≡◌, sym}
use mathlib.Core.List.{List, [], ◌∷◌}
use mathlib.Core.Bool.{false, not, and-false}
use Prim.Native.Nat.{ℕ, ◌/◌, ◌%◌, ◌≤◌, ◌<◌}
use lib.ListN.{drop}
use lib.Dec.{leb, eqb}
use borrow.Author.Tests.{le-leb, lt-leb}
use Rattle.octets.specs.Be.{be_at}
use Rattle.model.specs.Layout.{in_head, port_size, in_table, ports_unit, priority_a_unit, priority_b_unit, pruning_unit}
use Rattle.model.specs.Lists.{all_true}
use Rattle.model.specs.Table.{every_part, ports_field, port_rule, settings_rules}

module _ (s : List ℕ) (w : ℕ) (e : w ≡ be_at 3 s in_head.word) where
  pub too-many-ports : 8 < w / ports_unit → false ≡ all_true (settings_rules s)
  unfolding settings_rules ports_field all_true
  too-many-ports h = rw (← e, lt-leb (w / ports_unit) 8 h) (sym (and-false (leb 1 (w / ports_unit))))

  pub settings-tests : w / ports_unit ≤ 8
      → all_true (leb 1 (w / ports_unit)
      ∷ not (eqb (w / priority_a_unit % 8) (w / priority_b_unit % 8))
      ∷ leb 1 (w % priority_b_unit)
      ∷ every_part port_size port_rule (w / ports_unit) (drop in_table.ports s)
      ∷ leb 1 (be_at 2 s in_head.vlan % pruning_unit)
      ∷ leb (be_at 2 s in_head.vlan % pruning_unit) 4094
      ∷ leb (be_at 1 s in_head.fan_in) 8
      ∷ [])
      ≡ all_true (settings_rules s)
  unfolding settings_rules ports_field all_true
  settings-tests h = rw (← e, le-leb (w / ports_unit) 8 h)
