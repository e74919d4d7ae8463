-- Start, way by way: what it answers, and what it leaves of the table.
use mathlib.Core.Path.{◌≡◌, sym, ◌∙◌, ap}
use mathlib.Core.List.{List, [], ◌++◌, append-nil}
use mathlib.Core.Bool.{true, false}
use Prim.Native.Nat.{ℕ, ◌+◌, ◌-◌, ◌≤◌}
use native.Mathlib.Omega.{arith}
use lib.ListN.{length, drop}
use lib.Seq.{drop_at}
use borrow.Author.Tests.{eq-eqb, ne_eqb}
use Rattle.octets.specs.Parts.{patch, zeros}
use Rattle.model.specs.Layout.{settings_size, table_length}
use Rattle.model.specs.State.{started}
use Rattle.model.specs.Table.{encode, to_settings, settings_formed}
use Rattle.model.specs.Calls.{start_on}
use Rattle.model.proofs.Parts.{zeros-add, length-zeros}
use Rattle.model.proofs.SettingsOctets.{formed-length, formed-rules, eight_ports}

module _ (t s : List ℕ) where
  pub start-wrong-table : (length t ≡ table_length → ⊥) → start_on t s ≡ record { number = 12; table = t }
  unfolding start_on
  start-wrong-table h = rw (ne_eqb (length t) table_length h)

  pub start-wrong-settings : length t ≡ table_length → settings_formed s ≡ false → start_on t s ≡ record { number = 11; table = t }
  unfolding start_on
  start-wrong-settings h f = rw (eq-eqb (length t) table_length h, f)

  pub start-accepted : length t ≡ table_length → settings_formed s ≡ true →
      start_on t s ≡ record { number = 0; table = encode (started (to_settings s)) }
  unfolding start_on
  start-accepted h f = rw (eq-eqb (length t) table_length h, f)

-- settings are shorter than a table
pub settings-short : (s : List ℕ) → settings_formed s ≡ true → length s ≤ settings_size
settings-short s f = omega (arith, formed-length s f, eight_ports s (formed-rules s f))

-- the settings put in front of a table of zeros of any length
pub settings-put : (n : ℕ) (s t z : List ℕ) → length t ≡ n → length s ≤ n → z ≡ patch 0 n (zeros n) t →
    s ++ drop (length s) z ≡ s ++ zeros (n - length s)
unfolding patch
settings-put n s t z h l e =
    let m : ℕ = length s in
    let all : drop n (drop 0 t) ≡ [] = ap (drop n) (sym (append-nil t)) ∙ drop_at t [] n h in
    let zs : z ≡ zeros n = e ∙ ap (λ (r : List ℕ). zeros n ++ r) all ∙ append-nil (zeros n) in
    let rest : n ≡ m + (n - m) = omega arith in
    let split : zeros n ≡ zeros m ++ zeros (n - m) = ap zeros rest ∙ zeros-add m (n - m) in
    ap (λ (r : List ℕ). s ++ r) (ap (drop m) (zs ∙ split) ∙ drop_at (zeros m) (zeros (n - m)) m (length-zeros m))
