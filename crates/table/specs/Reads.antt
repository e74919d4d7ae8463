-- Octets that are a part of a table: how many they are, how they are laid out, and what they read as.
use Rattle.std.specs.Prelude.{◌≡◌, List, ℕ, ◌<◌, length}
use Rattle.octets.specs.Fields.{Fit, fields, packed}
use Rattle.model.specs.Layout.{cell_size, fixed_size, fixed_widths, own_size, port_size, result_size, sender_size, sends_size, slot_size, total_size}
use Rattle.model.specs.State.{Port, Fixed, Cell, Domain, Own, Result, Sends, Sender, Totals}
use Rattle.model.specs.WrittenFrames.{fixed_numbers, fixed_from}
use Rattle.model.specs.Sending.{to_sends, to_sender}
use Rattle.model.specs.Table.{port_octets, to_port, to_cell, to_result, totals_octets, to_totals, to_domain, to_own}
use Rattle.model.specs.Laid.{LaidCell, LaidResult, LaidSends, LaidSender, LaidDomain, LaidOwn}

-- A Talker's fixed values, as a stream's settled ones stand.

unfoldable pub fixed_octets : Fixed → List ℕ
fixed_octets f = packed fixed_widths (fixed_numbers f)

unfoldable pub to_fixed : List ℕ → Fixed
to_fixed s = fixed_from 0 (fields fixed_widths 0 s)

pub record FitFixed (f : Fixed) : Type 0 where
  pub numbers : Fit fixed_widths (fixed_numbers f)
  pub rank : f.rank < 2

-- The parts.

-- n octets of a thing, laid out as it is, and read as it is
pub record Reads {A : Type 0} (n : ℕ) (Of : List ℕ → A → Type 0) (from : List ℕ → A) (s : List ℕ) (a : A) : Type 0 where
  pub size : length s ≡ n
  pub laid : Of s a
  pub is : from s ≡ a

abbrev pub ReadsCell : List ℕ → Cell → Type 0
ReadsCell = Reads cell_size (λ s _. LaidCell s) to_cell

abbrev pub ReadsResult : List ℕ → Result → Type 0
ReadsResult = Reads result_size (λ s _. LaidResult s) to_result

abbrev pub ReadsSends : List ℕ → Sends → Type 0
ReadsSends = Reads sends_size (λ s _. LaidSends s) to_sends

abbrev pub ReadsFixed : List ℕ → Fixed → Type 0
ReadsFixed = Reads fixed_size (λ s f. s ≡ fixed_octets f) to_fixed

abbrev pub ReadsPort : List ℕ → Port → Type 0
ReadsPort = Reads port_size (λ s q. s ≡ port_octets q) to_port

abbrev pub ReadsTotals : List ℕ → Totals → Type 0
ReadsTotals = Reads total_size (λ s t. s ≡ totals_octets t) to_totals

abbrev pub ReadsDomain : List ℕ → Domain → Type 0
ReadsDomain = Reads slot_size (λ s _. LaidDomain s) to_domain

abbrev pub ReadsOwn : List ℕ → Own → Type 0
ReadsOwn = Reads own_size (λ s _. LaidOwn s) to_own

abbrev pub ReadsSender : List ℕ → Sender → Type 0
ReadsSender = Reads sender_size (λ s _. LaidSender s) to_sender
