-- A text grown within the octets that are lent to it. Assumes nothing.
use Rattle.std.specs.Prelude.{◌≡◌, List, ℕ}
use Rattle.console.specs.declared.text.Text.{Text}
use Rattle.console.specs.Text.{Put}

-- what putting a text behind one leaves, in the same octets
pub record Puts (before : Text) (text : List ℕ) (after : Text) : Type 0 where
  pub same : after.octets.ghost_name ≡ before.octets.ghost_name
  pub put : Put before.octets.now before.end text after.end after.octets.now
