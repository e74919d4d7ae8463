-- Own failures, of the code: which codes an accepted advance leaves. The premise is the contract of advance (specs/Promises). All is said
-- of the table u that it left: of the stream at place k of it, on the port at place p.
use mathlib.Core.Path.{◌≡◌, sym, ◌∙◌, ap}
use mathlib.Core.List.{List}
use mathlib.Core.Bool.{true, false}
use Prim.Native.Nat.{ℕ, ◌^◌, ◌<◌}
use lib.ListN.{length}
use Rattle.model.specs.Lists.{Octets}
use Rattle.model.specs.State.{Column, failed, fresh, stream_at, result_at}
use Rattle.model.specs.Settling.{source_of, talker_type_of, scene_of, clear, is_talker_failed, steps, column_of}
use Rattle.model.specs.Table.{decode, column_code}
use Rattle.model.proofs.Lists.{all_map, all-at}
use Rattle.model.proofs.Valid.{Valid}
use Rattle.model.proofs.Tables.{valid-decode}
use Rattle.model.proofs.ColumnRule.{ruled, column_at, Settled, SettledStream}
use Rattle.model.proofs.OneSolution.{unique-columns}
use Rattle.model.proofs.OwnCodes.{earlier}
use Rattle.model.proofs.Demand3.{ids-small}
use Rattle.bridge.specs.Promises.{Advances}
use Rattle.bridge.proofs.Demand1.{advance-answers}
use Rattle.bridge.proofs.Demand2.{advance-decides}

module _ (u : List ℕ) (p k : ℕ) where
  -- the column that the table holds
  abbrev pub column_held : Column
  column_held = (result_at (stream_at k (decode u)) p).column

  -- the column that the rules give, from what the table itself holds
  abbrev pub column_decided : Column
  column_decided = column_of (scene_of (decode u)) (decode u).clock (decode u).streams p (stream_at k (decode u))

  -- no step before the one that gives the code applies
  abbrev pub NoneBefore : ℕ → Type 0
  NoneBefore code = clear (earlier code (steps (scene_of (decode u)) p (stream_at k (decode u)))) ≡ true

-- A code is given exactly where no earlier step applies and a fact holds: the column is Failed then, with this Bridge ID and the code; and
-- the code of a stream that is not registered as Failed says so.
pub record GivenWhere (u : List ℕ) (p k code : ℕ) (fact : Type 0) : Type 0 where
  pub given : NoneBefore u p k code → fact → column_held u p k ≡ failed (decode u).settings.bridge_id code
  pub only : is_talker_failed (talker_type_of (source_of (stream_at k (decode u)))) ≡ false → column_code (column_held u p k) ≡ code → NoneBefore u p k code × fact

module _ (t : List ℕ) (time n : ℕ) (u : List ℕ) (octets : Octets t) (small : time < 2 ^ 32) (call : Advances t time n u) (accepted : n ≡ 0) where
  pub left-valid : Valid (decode u)
  left-valid = let kept = (advance-answers t time n u octets small call).form accepted in valid-decode u kept.0 kept.1

  module _ (p : ℕ) (here : p < 8) (k : ℕ) (held : k < length (decode u).streams) where
    pub left-column : column_held u p k ≡ column_decided u p k
    unfolding column_at
    left-column =
        let b = decode u in
        let s : Settled b = (advance-decides t time n u octets small call accepted).rules.settled in
        all-at (λ x. column_at p x ≡ column_of (scene_of b) b.clock b.streams p x) b.streams
        (unique-columns (scene_of b) b.clock b.streams p left-valid.ascending (ids-small _ _ _ b.streams left-valid.streams) (column_at p)
        (all_map (SettledStream b) (λ x. column_at p x ≡ ruled (scene_of b) b.clock b.streams p (column_at p) x) (λ x y. (y.shows p here).column) b.streams s.streams))
        k (fresh 0) held

    -- what holds of the decided column holds of the one held
    pub given-where : (code : ℕ) (fact : Type 0) → (NoneBefore u p k code → fact → column_decided u p k ≡ failed (decode u).settings.bridge_id code) →
        (is_talker_failed (talker_type_of (source_of (stream_at k (decode u)))) ≡ false → column_code (column_decided u p k) ≡ code → NoneBefore u p k code × fact) →
        GivenWhere u p k code fact
    given-where code fact gives says = record {
      given = λ free holds. left-column ∙ gives free holds;
      only = λ whole e. says whole (sym (ap column_code left-column) ∙ e);
    }
