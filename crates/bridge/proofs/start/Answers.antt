-- The tests, way by way.
use Rattle.std.proofs.Common.{◌≡◌, sym, ap, ◌∙◌, List, ℕ, ◌++◌, ◌-◌, ◌≤◌, true, length, drop, arith}
use lib.Seq.{length-take-le}
use Rattle.octets.specs.Parts.{patch, zeros}
use Rattle.model.specs.Layout.{table_length}
use Rattle.model.specs.Table.{settings_formed}
use Rattle.model.specs.Calls.{Call}
use Rattle.model.proofs.Parts.{octets-of}
use Rattle.bridge.proofs.OnTables.{answers}
use Rattle.bridge.proofs.Started.{undeclared-laid, declared-started}
use Rattle.bridge.proofs.Starting.{start-wrong-table, start-wrong-settings, start-accepted, settings-short, settings-put}
use Rattle.bridge.proofs.start.Goals as goal

pub returns-then-table-ne-TABLE : goal.returns-then-table-ne-TABLE
returns-then-table-ne-TABLE c = answers _ _ _ (start-wrong-table _ c.args.settings.now c.if-table-ne-TABLE.true)

pub returns-then-not-settings_formed : goal.returns-then-not-settings_formed
returns-then-not-settings_formed c =
    answers _ _ _ (start-wrong-settings _ _ c.if-table-ne-TABLE.false (sym c.settings_formed.ensures ∙ c.if-not-settings_formed.true))

pub slice_bounds-copy_from_slice-end : goal.slice_bounds-copy_from_slice-end
slice_bounds-copy_from_slice-end c =
    omega (arith, settings-short _ (sym c.settings_formed.ensures ∙ c.if-not-settings_formed.false))

pub slice_bounds-copy_from_slice-end-2 : goal.slice_bounds-copy_from_slice-end-2
slice_bounds-copy_from_slice-end-2 c =
    sym (length-take-le _ _ (omega (arith, settings-short _ (sym c.settings_formed.ensures ∙ c.if-not-settings_formed.false))))

pub copy_from_slice-requires : goal.copy_from_slice-requires
copy_from_slice-requires c =
    length-take-le _ _ (omega (arith, settings-short _ (sym c.settings_formed.ensures ∙ c.if-not-settings_formed.false)))

-- the settings stand in front of zeros
put : (s t z y : List ℕ) → settings_formed s ≡ true → length t ≡ table_length → z ≡ patch 0 table_length (zeros table_length) t → y ≡ s
    → y ++ drop (length s) z ≡ s ++ zeros (table_length - length s)
put s t z y f h e q =
    let short : length s ≤ table_length = omega (arith, settings-short s f) in
    ap (λ (x : List ℕ). x ++ drop (length s) z) q ∙ settings-put table_length s t z h short e

pub join_all-requires : goal.join_all-requires
join_all-requires c =
    let s = c.args.settings.now in
    let f : settings_formed s ≡ true = sym c.settings_formed.ensures ∙ c.if-not-settings_formed.false in
    undeclared-laid s (octets-of s (λ i. omega (arith, c.type_inv.settings i))) f _
    (put s _ _ _ f c.if-table-ne-TABLE.false c.clear.ensures c.copy_from_slice.ensures.after)

pub returns : goal.returns
returns c =
    let s = c.args.settings.now in
    let f : settings_formed s ≡ true = sym c.settings_formed.ensures ∙ c.if-not-settings_formed.false in
    let e = start-accepted c.args.table.now s c.if-table-ne-TABLE.false f in (
      ap (λ (a : Call). a.number) (sym e),
      c.join_all.ensures
          ∙ declared-started s (octets-of s (λ i. omega (arith, c.type_inv.settings i))) f _
          (put s _ _ _ f c.if-table-ne-TABLE.false c.clear.ensures c.copy_from_slice.ensures.after)
          ∙ ap (λ (a : Call). a.table) (sym e),
    )
