-- Removal: every number of a bridge still fits its field, and what the code leaves of a table is that bridge.
use mathlib.Core.Path.{◌≡◌, refl, ◌∙◌, ap}
use mathlib.Core.List.{List, [], ◌∷◌, map}
use Prim.Native.Nat.{ℕ, ◌+◌, ◌^◌, ◌<◌}
use lib.ListN.{replicate, length-map}
use Rattle.model.specs.Lists.{All}
use Rattle.model.specs.State.{Settings, Cell, Stream, Bridge, no_totals, stream_at}
use Rattle.model.specs.Registrations.{at, change, holding, owning}
use Rattle.model.specs.Settling.{expire_cell, expire, remain, decide_owns}
use Rattle.model.specs.Table.{encode, decode}
use Rattle.model.specs.Laid.{FitCell, FitStream, FitBridge, Laid}
use Rattle.model.proofs.Fits.{laid-fits}
use Rattle.cells.proofs.Keeps.{expire-fits}
use Rattle.table.specs.Places.{Stands, StandsOn}
use Rattle.table.specs.Updates.{clocked, totalled, with_cell}
use Rattle.table.proofs.Fitting.{map-fits, clocked-fits, cleared-fits, owning-fits}
use Rattle.table.proofs.ByPlace.{encoded-laid, encoded-read, stands_on, stream-fits}
use Rattle.table.proofs.EachStream.{partly_at, partly_at-stands, one-turn-more, cells_to, cells-next, cells-id, cells_fit}
use Rattle.settling.specs.Removed.{removed}
use Rattle.settling.proofs.Edges.{decisions-fit, decisions-eight}

-- Expiry of one stream.

module _ (st : Settings) (time : ℕ) where
  pub expire-cells : (x : Stream) → change (map (expire_cell st time)) (λ m. m) x ≡ expire st time x
  unfolding change expire
  expire-cells x = refl

  all_cells_fit : (l : List Cell) → All FitCell l → All FitCell (map (expire_cell st time) l)
  all_cells_fit [] a = tt
  all_cells_fit (c ∷ l) a = (expire-fits st time c a.0, all_cells_fit l a.1)

  pub expired-fits : (x : Stream) → FitStream x → FitStream (expire st time x)
  unfolding expire
  expired-fits x w = record {
    name = w.name;
    rank = w.rank;
    eight_cells = length-map x.cells (expire_cell st time) ∙ w.eight_cells;
    cells = all_cells_fit x.cells w.cells;
    eight_results = w.eight_results;
    results = w.results;
    eight_sends = w.eight_sends;
    sends = w.sends;
  }

  pub same_id : (x : Stream) → (expire st time x).id ≡ x.id
  unfolding expire
  same_id x = refl

-- What a turn does to a cell; after p turns stream k is still there, and fits.

abbrev pub lapses : List ℕ → ℕ → Cell → Cell
lapses t time = expire_cell (decode t).settings time

module _ {t₀ : List ℕ} {k : ℕ} (s : Stands t₀ k) (time p : ℕ) where
  turns-fit : FitStream (cells_to (lapses t₀ time) p (stream_at k (decode t₀)))
  turns-fit = cells_fit (lapses t₀ time) (expire-fits (decode t₀).settings time) p (stream_at k (decode t₀)) (stream-fits s)

  module _ (t : List ℕ) (e : t ≡ encode (partly_at (cells_to (lapses t₀ time)) t₀ k p)) where
    pub lapses-here : p < 8 → StandsOn t k p
    lapses-here =
        stands_on (partly_at-stands (cells_to (lapses t₀ time)) s p t e turns-fit (cells-id (lapses t₀ time) p (stream_at k (decode t₀)))) p

    pub lapses-next : (y : List ℕ) → y ≡ encode (with_cell k p (lapses t₀ time) (decode t)) → y ≡ encode (partly_at (cells_to (lapses t₀ time)) t₀ k (p + 1))
    lapses-next =
        one-turn-more (cells_to (lapses t₀ time)) s p t e turns-fit (cells-id (lapses t₀ time) p (stream_at k (decode t₀)))
        (change (at p (lapses t₀ time)) (λ m. m)) (cells-next (lapses t₀ time) p (stream_at k (decode t₀)))

-- The whole.

module _ (time : ℕ) (small : time < 2 ^ 32) (b : Bridge) (w : FitBridge b) where
  abbrev left : Bridge
  left = holding b (remain b.settings time b.streams)

  left-fits : FitBridge left
  unfolding remain
  left-fits = map-fits b w (expire b.settings time) (expired-fits b.settings time) (same_id b.settings time)

  clocked-left-fits : FitBridge (clocked time left)
  clocked-left-fits = clocked-fits left left-fits time small

  abbrev cleared : Bridge
  cleared = totalled (replicate 8 no_totals) (clocked time left)

  all-cleared-fits : FitBridge cleared
  all-cleared-fits = cleared-fits (clocked time left) clocked-left-fits

  pub removed-fits : FitBridge (removed time b)
  removed-fits =
      owning-fits cleared all-cleared-fits (decide_owns b.settings time b.owns) (decisions-eight b.settings time b.owns)
      (decisions-fit b.settings time b.owns w.owns)

-- the octets after each step
module _ (t : List ℕ) (l : Laid t) (time : ℕ) (small : time < 2 ^ 32) (t₁ : List ℕ)
    (e₁ : t₁ ≡ encode (holding (decode t) (map (expire (decode t).settings time) (decode t).streams))) where
  abbrev w : FitBridge (decode t)
  w = laid-fits t l

  expired-is : t₁ ≡ encode (left time small (decode t) w)
  unfolding remain
  expired-is = e₁

  pub expired-laid : Laid t₁
  expired-laid = encoded-laid (left time small (decode t) w) (left-fits time small (decode t) w) t₁ expired-is

  module _ (t₂ : List ℕ) (e₂ : t₂ ≡ encode (clocked time (decode t₁))) where
    clocked-is : t₂ ≡ encode (clocked time (left time small (decode t) w))
    clocked-is = e₂ ∙ ap (λ (c : Bridge). encode (clocked time c)) (encoded-read (left time small (decode t) w) (left-fits time small (decode t) w) t₁ expired-is)

    pub clocked-laid : Laid t₂
    clocked-laid = encoded-laid (clocked time (left time small (decode t) w)) (clocked-left-fits time small (decode t) w) t₂ clocked-is

    module _ (t₃ : List ℕ) (e₃ : t₃ ≡ encode (totalled (replicate 8 no_totals) (decode t₂))) where
      cleared-is : t₃ ≡ encode (cleared time small (decode t) w)
      cleared-is =
          e₃
          ∙ ap (λ (c : Bridge). encode (totalled (replicate 8 no_totals) c))
          (encoded-read (clocked time (left time small (decode t) w)) (clocked-left-fits time small (decode t) w) t₂ clocked-is)

      pub cleared-laid : Laid t₃
      cleared-laid = encoded-laid (cleared time small (decode t) w) (all-cleared-fits time small (decode t) w) t₃ cleared-is

      pub removed-octets : (t₄ : List ℕ) → t₄ ≡ encode (owning (decode t₃) (decide_owns (decode t₃).settings time (decode t₃).owns)) → t₄ ≡ encode (removed time (decode t))
      removed-octets t₄ e₄ =
          e₄
          ∙ ap (λ (c : Bridge). encode (owning c (decide_owns c.settings time c.owns)))
          (encoded-read (cleared time small (decode t) w) (all-cleared-fits time small (decode t) w) t₃ cleared-is)
          ∙ unfold holding in refl
