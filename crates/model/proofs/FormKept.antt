-- Start, and every call on a table that keeps the form rules, leaves a table that keeps them.
use mathlib.Core.Path.{◌≡◌}
use mathlib.Core.List.{List}
use mathlib.Core.Bool.{true}
use Prim.Native.Nat.{ℕ, ◌^◌, ◌<◌}
use lib.ListN.{length}
use lib.Dec.{eqb}
use borrow.Author.Tests.{eq-eqb}
use Rattle.model.specs.Layout.{table_length}
use Rattle.model.specs.Lists.{Octets}
use Rattle.model.specs.State.{Bridge, started}
use Rattle.model.specs.Registrations.{Answer}
use Rattle.model.specs.Settling.{advance}
use Rattle.model.specs.Table.{encode, decode, formed, to_settings}
use Rattle.model.specs.Calls.{Call, start_on, leaves, on_table, receive, receive_on, receive_mmrp, receive_mmrp_on, advance_on}
use Rattle.model.proofs.Valid.{Valid}
use Rattle.model.proofs.Refusals.{start-0, cond_either}
use Rattle.model.proofs.Tables.{formed-encode, valid-decode, valid-started, octets-encode}
use Rattle.model.proofs.ReceiveKeepsForm.{receive-keeps}
use Rattle.model.proofs.AddressesKept.{mmrp-keeps}
use Rattle.model.proofs.AdvanceKeepsForm.{advance-keeps}

-- an octet table that keeps the form rules
abbrev pub Kept : List ℕ → Type 0
Kept t = Octets t × (formed t ≡ true)

kept-encode : (b : Bridge) → Valid b → Kept (encode b)
kept-encode b v = (octets-encode b, formed-encode b v)

module _ (t : List ℕ) (k : Kept t) where
  on-table-kept : (f : Bridge → Answer) → Valid (f (decode t)).bridge → Kept (on_table t f).table
  unfolding on_table leaves
  on-table-kept f v =
      cond_either (λ (c : Call). Kept c.table) (formed t) _ _
      (cond_either (λ (c : Call). Kept c.table) (eqb (f (decode t)).number 0) _ _ (kept-encode (f (decode t)).bridge v) k) k

  pub receive-formed : (p : ℕ) (pdu : List ℕ) → Octets pdu → Kept (receive_on t p pdu).table
  unfolding receive_on
  receive-formed p pdu o = on-table-kept (λ b. receive b p pdu) (receive-keeps (decode t) p pdu o (valid-decode t k.0 k.1))

  pub mmrp-formed : (p : ℕ) (pdu : List ℕ) → Kept (receive_mmrp_on t p pdu).table
  unfolding receive_mmrp_on
  mmrp-formed p pdu = on-table-kept (λ b. receive_mmrp b p pdu) (mmrp-keeps (decode t) p pdu (valid-decode t k.0 k.1))

  pub advance-formed : (now : ℕ) → now < 2 ^ 32 → Kept (advance_on t now).table
  unfolding advance_on
  advance-formed now h = on-table-kept (λ b. advance b now) (advance-keeps (decode t) now h (valid-decode t k.0 k.1))

-- whatever was in the table before
pub start-formed : (t s : List ℕ) → Octets s → (start_on t s).number ≡ 0 → Kept (start_on t s).table
unfolding start_on
start-formed t s o e =
    let h = (start-0 t s).0 e in
    rw (eq-eqb (length t) table_length h.0, h.1) (kept-encode (started (to_settings s)) (valid-started s o h.1))
