-- `sheets::blank_text` meets its contract. Assumes nothing.
use Prim.Native.Nat.{ℕ}
use mathlib.Core.Path.{sym}
use lib.ListN.{length-replicate}
use Rattle.sheets.specs.Sheet.{text_octets}
use Rattle.sheets.proofs.blank_text.Statement.{statement}
use Rattle.sheets.proofs.blank_text.Tie as tie

returns : tie.Need-returns
returns c = sym {A = ℕ} (length-replicate {0} {A = ℕ} text_octets 0)

pub blank_text_spec : {M : Type 1} → statement M
blank_text_spec =
    tie.close
    (tie.spec returns)
