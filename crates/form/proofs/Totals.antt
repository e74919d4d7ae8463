-- The class totals of ports beside their settings, and those of places that are no port.
use mathlib.Core.Path.{◌≡◌, refl, sym, ap, ◌∙◌}
use mathlib.Core.List.{List, [], ◌∷◌}
use mathlib.Core.Bool.{Bool, ◌&&◌, and_assoc, and-true}
use Prim.Native.Nat.{ℕ, zero, suc, ◌*◌, ◌≤◌}
use native.Mathlib.Omega.{arith}
use lib.ListN.{length, take, drop, length-drop, take-append-drop}
use lib.Seq.{take_all, length-take-le}
use lib.Dec.{eqb}
use Rattle.octets.specs.Be.{be_at}
use Rattle.octets.specs.Parts.{part}
use Rattle.octets.specs.Fields.{fields, width}
use Rattle.model.specs.Layout.{port_size, in_totals, total_size, totals_widths}
use Rattle.model.specs.Lists.{all_zero, parts}
use Rattle.model.specs.Table.{to_totals, to_port, totals_within}
use Rattle.form.specs.Asks.{all_pairs, within}
use Rattle.form.proofs.Parts.{same, drop-parts}
use Rattle.form.proofs.Zeros.{zero-append, zero-fields}

both_zero : (x y : ℕ) → (eqb x 0 && eqb y 0) ≡ all_zero (x ∷ y ∷ [])
unfolding all_zero
both_zero x y = rw and-true

-- totals are zero where their octets are
none-reserved : (s : List ℕ) → length s ≡ total_size → (eqb (to_totals s).total_a 0 && eqb (to_totals s).total_b 0) ≡ all_zero s
unfolding to_totals fields width part
none-reserved s h =
    both_zero (be_at 5 s 0) (be_at 6 s in_totals.total_b) ∙ zero-fields totals_widths 0 s (omega arith) ∙ ap all_zero (take_all total_size s (omega arith))

no-ports : (some : Bool) (k : ℕ) (s : List ℕ) → length s ≡ k * total_size → totals_within some (parts total_size to_totals k s) [] ≡ all_zero s
unfolding totals_within parts
no-ports some zero [] h = unfold all_zero in refl
no-ports some zero (b ∷ s) h = absurd (omega arith)
no-ports some (suc k) s h =
    rw (
      none-reserved (take total_size s) (length-take-le total_size s (omega arith)),
      no-ports some k (drop total_size s) (omega (arith, length-drop total_size s)),
      ← (zero-append (take total_size s) (drop total_size s)),
      take-append-drop total_size s,
    )

pub pairs-totals : (some : Bool) (k j : ℕ) (ts qs : List ℕ) → k ≤ j → length ts ≡ j * total_size
    → (all_pairs (within some) (parts total_size same k ts) (parts port_size same k qs) && all_zero (drop (k * total_size) ts))
    ≡ totals_within some (parts total_size to_totals j ts) (parts port_size to_port k qs)
unfolding within parts totals_within
pairs-totals some zero j ts qs h l = sym (no-ports some j ts l)
pairs-totals some (suc k) zero ts qs h l = absurd (omega arith)
pairs-totals some (suc k) (suc j) ts qs h l =
    rw (
      ← (pairs-totals some k j (drop total_size ts) (drop port_size qs) (omega arith) (omega (arith, length-drop total_size ts))),
      drop-parts total_size k ts,
      and-true,
      and_assoc,
    )
