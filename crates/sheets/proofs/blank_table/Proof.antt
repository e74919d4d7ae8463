-- `sheets::blank_table` meets its contract. Assumes nothing.
use Prim.Native.Nat.{ℕ}
use mathlib.Core.Path.{sym}
use lib.ListN.{length-replicate}
use Rattle.model.specs.Layout.{table_length}
use Rattle.sheets.proofs.blank_table.Statement.{statement}
use Rattle.sheets.proofs.blank_table.Tie as tie

returns : tie.Need-returns
returns c = sym {A = ℕ} (length-replicate {0} {A = ℕ} table_length 0)

pub blank_table_spec : {M : Type 1} → statement M
blank_table_spec =
    tie.close
    (tie.spec returns)
