-- Texts put one behind the other. Assumes nothing.
use Prim.Native.Nat.{ℕ, ◌≤◌}
use native.Mathlib.Omega.{arith}
use mathlib.Core.Path.{refl, ◌∙◌}
use mathlib.Core.List.{List, [], ◌++◌}
use lib.ListN.{length}
use Rattle.console.specs.declared.text.Text.{Text}
use Rattle.console.specs.Texts.{Puts}
use Rattle.console.proofs.Laws.{put-none, put-append}

-- nothing
pub puts-none : (t : Text) → Puts t [] t
puts-none t = let h : t.end ≤ length t.octets.now = t.within in record { same = refl; put = put-none _ _ _ (omega arith) }

-- a text, and another behind it
pub puts-append : {a b c : Text} {x y : List ℕ} → Puts a x b → Puts b y c → Puts a (x ++ y) c
puts-append p q = record { same = q.same ∙ p.same; put = put-append p.put q.put }
