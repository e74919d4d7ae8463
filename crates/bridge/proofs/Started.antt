-- A table of the settings and zeros is a bridge that declares nothing yet; with the Domain values of each port declared it is started.
use mathlib.Core.Path.{◌≡◌, refl, sym, ◌∙◌, ap, ap₂}
use mathlib.Core.List.{List, [], ◌∷◌, ◌++◌}
use mathlib.Core.Bool.{true}
use Prim.Native.Nat.{ℕ, ◌+◌, ◌*◌, ◌-◌}
use native.Mathlib.Omega.{arith}
use lib.ListN.{length, replicate}
use Rattle.octets.specs.Parts.{zeros}
use Rattle.octets.specs.Fields.{flat, packed, width}
use Rattle.octets.proofs.Fields.{packed-zeros}
use Rattle.model.specs.Layout.{clock_size, clock_widths, own_size, owns_size, port_size, records_size, sender_size, senders_size, table_length, total_size, totals_size}
use Rattle.model.specs.Lists.{All, Octets, tabulate}
use Rattle.model.specs.State.{Settings, Totals, no_totals, Own, no_own, Sender, no_sender, Bridge, started}
use Rattle.model.specs.Registrations.{sending}
use Rattle.model.specs.Sending.{sender_octets}
use Rattle.model.specs.Table.{encode, decode, to_settings, settings_formed, totals_octets, own_octets}
use Rattle.model.specs.Laid.{FitSender, FitBridge, Laid}
use Rattle.model.proofs.Lists.{all_replicate}
use Rattle.model.proofs.Parts.{zeros-add, flat-zeros}
use Rattle.model.proofs.Owns.{own-zeros}
use Rattle.model.proofs.SenderOctets.{sender-coded}
use Rattle.model.proofs.Tables.{no-totals, valid-started}
use Rattle.model.proofs.Fits.{valid-fits}
use Rattle.model.proofs.SettingsOctets.{settings-forth, settings-ports, formed-length, formed-rules, eight_ports}
use Rattle.table.proofs.Fitting.{sending-fits}
use Rattle.table.proofs.ByPlace.{encoded-laid, encoded-read}
use Rattle.bridge.specs.Joining.{joined_at}
use Rattle.bridge.proofs.Joining.{all-started}

totals-zeros : (l : List Totals) → All (λ t. t ≡ no_totals) l → flat totals_octets l ≡ zeros (length l * total_size)
totals-zeros l h = flat-zeros total_size totals_octets no_totals no-totals l h

clock-and-count : packed clock_widths (0 ∷ 0 ∷ []) ≡ zeros 5
unfolding width
clock-and-count = packed-zeros clock_widths

zeros-six : (a b c d e f : ℕ) → zeros a ++ (zeros b ++ (zeros c ++ (zeros d ++ (zeros e ++ zeros f)))) ≡ zeros (a + (b + (c + (d + (e + f)))))
zeros-six a b c d e f = simp zeros-add refl

-- behind the settings stand the other ports' settings, clock and count, totals, what the ports hold, what they send, and records, of these
-- numbers of octets
all-zeros : (a r : ℕ) (ts : List Totals) → All (λ t. t ≡ no_totals) ts → length ts ≡ 8 → (os : List Own) → All (λ o. o ≡ no_own) os → length os ≡ 8 →
    (l : List Sender) → All (λ x. x ≡ no_sender) l → length l ≡ 8 →
    zeros a ++ (packed clock_widths (0 ∷ 0 ∷ []) ++ (flat totals_octets ts ++ (flat own_octets os ++ (flat sender_octets l ++ zeros r))))
    ≡ zeros (a + (clock_size + (totals_size + (owns_size + (senders_size + r)))))
all-zeros a r ts h e os g f l k n =
    rw (clock-and-count, totals-zeros ts h, e, flat-zeros own_size own_octets no_own own-zeros os g, f, flat-zeros sender_size sender_octets no_sender sender-coded.blank l k, n)
    (zeros-six a clock_size totals_size owns_size senders_size r)

-- a bridge that declares nothing yet
abbrev pub undeclared : Settings → Bridge
undeclared st = sending (started st) (replicate 8 no_sender)

module _ (s : List ℕ) (o : Octets s) (f : settings_formed s ≡ true) where
  pub undeclared-table : encode (undeclared (to_settings s)) ≡ s ++ zeros (table_length - length s)
  unfolding encode started sending flat
  undeclared-table =
      let st = to_settings s in
      let a : ℕ = (8 - length st.ports) * port_size in
      let l = formed-length s f in
      let b = eight_ports s (formed-rules s f) in
      let e : a + (clock_size + (totals_size + (owns_size + (senders_size + records_size)))) ≡ table_length - length s = omega (arith, l, b, settings-ports s) in
      ap₂ (λ (x y : List ℕ). x ++ y) (settings-forth s o f)
      (all-zeros a records_size (replicate 8 no_totals) (all_replicate (λ t. t ≡ no_totals) 8 no_totals refl) refl
      (replicate 8 no_own) (all_replicate (λ o. o ≡ no_own) 8 no_own refl) refl
      (replicate 8 no_sender) (all_replicate (λ x. x ≡ no_sender) 8 no_sender refl) refl
      ∙ ap zeros e)

  undeclared-fits : FitBridge (undeclared (to_settings s))
  undeclared-fits =
      sending-fits (started (to_settings s)) (valid-fits (started (to_settings s)) (valid-started s o f)) (replicate 8 no_sender) refl
      (all_replicate FitSender 8 no_sender sender-coded.good)

  -- the settings put in front of zeros are laid out; with each port's Domain values declared they are the started bridge
  module _ (z : List ℕ) (e : z ≡ s ++ zeros (table_length - length s)) where
    is-undeclared : z ≡ encode (undeclared (to_settings s))
    is-undeclared = e ∙ sym undeclared-table

    pub undeclared-laid : Laid z
    undeclared-laid = encoded-laid (undeclared (to_settings s)) undeclared-fits z is-undeclared

    pub declared-started : encode (sending (decode z) (tabulate 8 0 (joined_at (decode z).settings (decode z).senders))) ≡ encode (started (to_settings s))
    unfolding sending started
    declared-started =
        ap (λ (b : Bridge). encode (sending b (tabulate 8 0 (joined_at b.settings b.senders))))
        (encoded-read (undeclared (to_settings s)) undeclared-fits z is-undeclared)
        ∙ ap (λ (l : List Sender). encode (sending (started (to_settings s)) l)) (all-started (to_settings s))
