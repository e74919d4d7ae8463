-- The parts of a laid-out table by the place k of a stream and the place p of a port. Of each: what is read there, what the table
-- is once it is replaced, and that the table stays laid out; and the same as a call sees it and leaves it.
use Prim.Native.Nat.{ℕ, zero, suc, ◌+◌, ◌-◌, ◌<◌, ◌≤◌}
use native.Mathlib.Omega.{arith}
use mathlib.Core.Path.{◌≡◌, refl, sym, ap, ◌∙◌}
use mathlib.Core.List.{List, [], ◌∷◌, ◌++◌}
use lib.ListN.{length, get_or, set, take, drop, length-set}
use lib.Seq.{get_or-set_same, set-get_or, set-set}
use Rattle.octets.specs.Parts.{part, patch}
use Rattle.octets.specs.Fields.{Fit}
use Rattle.octets.proofs.Parts.{lent-part}
use Rattle.octets.proofs.Frame.{part-part}
use Rattle.octets.proofs.Fields.{fields-of-packed}
use Rattle.octets.proofs.Patches.{lent-patch, patch-within}
use Rattle.model.specs.Layout.{cell_in, cell_place, cell_size, fixed_size, fixed_widths, port_place, port_size, record_place, record_size, result_in, result_place, result_size, sends_in, sends_place, sends_size, settled_of, in_record, total_place, total_size}
use Rattle.model.specs.State.{Fixed, Cell, Result, Sends, Stream, Totals, Bridge, port_at, cell_at, result_at, sends_at, no_totals, fresh}
use Rattle.model.specs.Registrations.{at, change, holding}
use Rattle.model.specs.Settling.{scene_of, Inbound, inbounds_of, source_of, add_inbound}
use Rattle.model.specs.WrittenFrames.{fixed_numbers, fixed_from}
use Rattle.model.specs.Sending.{sends_octets, to_sends}
use Rattle.model.specs.Table.{port_octets, cell_octets, to_cell, result_octets, to_result, stream_octets, totals_octets, encode, decode}
use Rattle.model.specs.Laid.{FitCell, FitResult, FitSends, FitStream, FitTotals, FitBridge, Laid}
use Rattle.model.proofs.Lists.{all-at}
use Rattle.model.proofs.Parts.{◌also◌}
use Rattle.model.proofs.Cells.{fixed_back, cell-length}
use Rattle.model.proofs.Results.{result-length}
use Rattle.model.proofs.SendsOctets.{sends-length}
use Rattle.model.proofs.SettingsOctets.{port-length, port-back}
use Rattle.model.proofs.Tables.{totals-length, totals-back}
use Rattle.model.proofs.Fits.{fit-fixed, cell-read, result-read, sends-read, id-fits, settled-fits, bridge-read, laid-is, laid-fits}
use Rattle.table.specs.Updates.{settled_as, resulting, stream_at, totals_at, with_stream, with_settled, with_cell, with_result, with_sends, with_totals}
use Rattle.table.specs.Places.{Stands, PortIn, StandsOn}
use Rattle.table.specs.Reads.{fixed_octets, to_fixed, FitFixed, Reads, ReadsCell, ReadsResult, ReadsSends, ReadsFixed, ReadsPort, ReadsTotals}
use Rattle.table.proofs.Header.{table-length, laid-few, port-fits, port-part, totals-part, totals-patch}
use Rattle.table.proofs.Records.{record-part, record-patch}
use Rattle.table.proofs.StreamParts.{fixed-length, settled-part, settled-patch, cell-part, cell-patch, cell-fits, result-part, result-patch, result_fits, sends-part, sends-patch, sends-fit}
use Rattle.table.proofs.Fitting.{set-fits}

-- What a stream is replaced by comes in as the stream did, if it has its StreamID and its cells.
inbound-set : (s : List Stream) (k : ℕ) (x : Stream) → x.id ≡ (get_or s k (fresh 0)).id → x.cells ≡ (get_or s k (fresh 0)).cells
    → inbounds_of (set s k x) ≡ inbounds_of s
unfolding inbounds_of source_of
inbound-set [] k x i c = refl
inbound-set (y ∷ s) zero x i c = rw (i, c)
inbound-set (y ∷ s) (suc k) x i c = ap (add_inbound y.id (source_of y)) (inbound-set s k x i c)

-- Octets that encode a bridge whose numbers fit are laid out, and read as that bridge.

module _ (b : Bridge) (w : FitBridge b) (s : List ℕ) (e : s ≡ encode b) where
  pub encoded-laid : Laid s
  encoded-laid = record { thing = b; fits = w; is = e }

  pub encoded-read : decode s ≡ b
  encoded-read = ap decode e ∙ bridge-read b w

-- The places that are asked for, one by another.

pub stands : {t : List ℕ} {k p : ℕ} → StandsOn t k p → Stands t k
stands s = record { laid = s.laid; held = s.held }

pub stands_on : {t : List ℕ} {k : ℕ} → Stands t k → (p : ℕ) → p < 8 → StandsOn t k p
stands_on s p h = record { laid = s.laid; held = s.held; port = h }

-- A stream.

module _ {t : List ℕ} {k : ℕ} (s : Stands t k) where
  pub few-before : k < 64
  few-before = omega (arith, s.held, laid-few t s.laid)

  pub stream-fits : FitStream (stream_at k (decode t))
  stream-fits = all-at FitStream (decode t).streams (laid-fits t s.laid).streams k (fresh 0) s.held

  -- replaced by itself
  pub stream-same : t ≡ encode (with_stream k (stream_at k (decode t)) (decode t))
  unfolding holding
  stream-same = laid-is t s.laid ∙ sym (ap (λ (l : List Stream). encode (holding (decode t) l)) (set-get_or (decode t).streams k (fresh 0)))

  -- replaced by one of its StreamID
  module _ (x : Stream) (f : FitStream x) (i : x.id ≡ (stream_at k (decode t)).id) where
    pub with-stream-fits : FitBridge (with_stream k x (decode t))
    with-stream-fits = set-fits (decode t) (laid-fits t s.laid) k x f i

    module _ (u : List ℕ) (e : u ≡ encode (with_stream k x (decode t))) where
      pub stream-replaced-laid : Laid u
      stream-replaced-laid = encoded-laid (with_stream k x (decode t)) with-stream-fits u e

      pub stream-replaced-read : decode u ≡ with_stream k x (decode t)
      stream-replaced-read = encoded-read (with_stream k x (decode t)) with-stream-fits u e

      pub stream-replaced-stands : Stands u k
      unfolding holding
      stream-replaced-stands = record {
        laid = stream-replaced-laid;
        held = omega (arith, ap (λ (b : Bridge). length b.streams) stream-replaced-read, length-set (decode t).streams k x, s.held);
      }

      -- read, and replaced again
      pub stream-replaced-at : stream_at k (decode u) ≡ x
      unfolding holding
      stream-replaced-at = ap (stream_at k) stream-replaced-read ∙ get_or-set_same (decode t).streams k x (fresh 0) s.held

      pub stream-replaced-settings : (decode u).settings ≡ (decode t).settings
      unfolding holding
      stream-replaced-settings = ap (λ (b : Bridge). b.settings) stream-replaced-read

      pub stream-replaced-scene : x.cells ≡ (stream_at k (decode t)).cells → scene_of (decode u) ≡ scene_of (decode t)
      unfolding holding
      stream-replaced-scene c =
          ap scene_of stream-replaced-read
          ∙ ap (λ (l : List Inbound). record { settings = (decode t).settings; owns = (decode t).owns; inbound = l })
          (inbound-set (decode t).streams k x i c)

      pub stream-replaced-again : (y : Stream) (v : List ℕ) → v ≡ encode (with_stream k y (decode u)) → v ≡ encode (with_stream k y (decode t))
      unfolding holding
      stream-replaced-again y v q =
          q
          ∙ ap (λ (b : Bridge). encode (with_stream k y b)) stream-replaced-read
          ∙ ap (λ (l : List Stream). encode (holding (decode t) l)) (set-set (decode t).streams k x y)

  -- any part of m octets, at place b of the record
  module _ (b m : ℕ) (w : b + m ≤ record_size) where
    room : record_place k + record_size ≤ length (encode (decode t))
    room = omega (arith, table-length (decode t) (laid-fits t s.laid), few-before)

    in-record : part (record_place k + b) m t ≡ part b m (stream_octets (stream_at k (decode t)))
    in-record =
        ap (part (record_place k + b) m) (laid-is t s.laid)
        ∙ sym (part-part (record_place k) record_size b m (encode (decode t)) room w)
        ∙ ap (part b m) (record-part (decode t) (laid-fits t s.laid) k (record_place k) s.held refl)

    in-record-replaced : (y : List ℕ) (x : Stream) → patch b m y (stream_octets (stream_at k (decode t))) ≡ stream_octets x
        → patch (record_place k + b) m y t ≡ encode (with_stream k x (decode t))
    in-record-replaced y x e =
        ap (patch (record_place k + b) m y) (laid-is t s.laid)
        ∙ patch-within (record_place k) record_size b m y (encode (decode t)) room w
        ∙ ap (λ (r : List ℕ). patch (record_place k) record_size (patch b m y r) (encode (decode t)))
        (record-part (decode t) (laid-fits t s.laid) k (record_place k) s.held refl)
        ∙ ap (λ (r : List ℕ). patch (record_place k) record_size r (encode (decode t))) e
        ∙ record-patch (decode t) (laid-fits t s.laid) k (record_place k) s.held refl x

-- Octets of a thing that comes back from them.

reads : {A : Type 0} {n : ℕ} {Of : List ℕ → A → Type 0} {from : List ℕ → A} (octets : A → List ℕ) (a : A) → length (octets a) ≡ n
    → from (octets a) ≡ a → (s : List ℕ) → s ≡ octets a → Of s a → Reads n Of from s a
reads {from = from} octets a size back s e of = record { size = ap length e ∙ size; laid = of; is = ap from e ∙ back }

-- Its settled values.

pub reads-fixed : (f : Fixed) → FitFixed f → (s : List ℕ) → s ≡ fixed_octets f → ReadsFixed s f
unfolding fixed_octets to_fixed fixed_numbers
reads-fixed f w s e =
    let back : to_fixed (fixed_octets f) ≡ f =
    ap (fixed_from 0) (fields-of-packed fixed_widths (fixed_numbers f) w.numbers) ∙ fixed_back f (fit-fixed f w.numbers w.rank) [] [] in
    reads fixed_octets f (fixed-length f) back s e e

module _ {t : List ℕ} {k : ℕ} (s : Stands t k) where
  settled-fixed : FitFixed (stream_at k (decode t)).settled
  settled-fixed = record { numbers = settled-fits (stream_at k (decode t)) (stream-fits s); rank = (stream-fits s).rank }

  -- read
  pub settled_at : ReadsFixed (part (settled_of k) fixed_size t) (stream_at k (decode t)).settled
  settled_at =
      reads-fixed (stream_at k (decode t)).settled settled-fixed (part (settled_of k) fixed_size t)
      (in-record s in_record.settled fixed_size (omega arith) ∙ settled-part (stream_at k (decode t)))

  -- replaced, and still laid out
  module _ (f : Fixed) where
    pub settled-replaced : patch (settled_of k) fixed_size (fixed_octets f) t ≡ encode (with_settled k f (decode t))
    settled-replaced = in-record-replaced s in_record.settled fixed_size (omega arith) (fixed_octets f) (settled_as f (stream_at k (decode t))) (settled-patch (stream_at k (decode t)) f)

    pub settled-as-fits : FitFixed f → FitStream (settled_as f (stream_at k (decode t)))
    unfolding Fit
    settled-as-fits w =
        let x = stream-fits s in
        record {
          name = id-fits (stream_at k (decode t)) x also w.numbers;
          rank = w.rank;
          eight_cells = x.eight_cells;
          cells = x.cells;
          eight_results = x.eight_results;
          results = x.results;
          eight_sends = x.eight_sends;
          sends = x.sends;
        }

  -- lent as `&t[a..a + fixed_size]`, and left
  module _ (a : ℕ) (e : a ≡ settled_of k) where
    pub lent-settled-at : ReadsFixed (take (a + fixed_size - a) (drop a t)) (stream_at k (decode t)).settled
    lent-settled-at = rw (e, lent-part (settled_of k) fixed_size t) settled_at

-- Its cell on the port.

pub reads-cell : (c : Cell) → FitCell c → (s : List ℕ) → s ≡ cell_octets c → ReadsCell s c
reads-cell c w s e = reads cell_octets c (cell-length c) (cell-read c w) s e record { thing = c; fits = w; is = e }

module _ {t : List ℕ} {k p : ℕ} (s : StandsOn t k p) where
  abbrev x : Stream
  x = stream_at k (decode t)

  x_fits : FitStream x
  x_fits = stream-fits (stands s)

  pub cell-at : ReadsCell (part (cell_place k p) cell_size t) (cell_at x p)
  cell-at =
      reads-cell (cell_at x p) (cell-fits x x_fits p (cell_in p) s.port refl) (part (cell_place k p) cell_size t)
      (in-record (stands s) (cell_in p) cell_size (omega arith) ∙ cell-part x x_fits p (cell_in p) s.port refl)

  module _ (u : Cell → Cell) where
    pub cell-replaced : patch (cell_place k p) cell_size (cell_octets (u (cell_at x p))) t ≡ encode (with_cell k p u (decode t))
    cell-replaced =
        in-record-replaced (stands s) (cell_in p) cell_size (omega arith) (cell_octets (u (cell_at x p))) (change (at p u) (λ m. m) x)
        (cell-patch x x_fits p (cell_in p) s.port refl u)

  module _ (a : ℕ) (e : a ≡ cell_place k p) where
    pub lent-cell-at : ReadsCell (take (a + cell_size - a) (drop a t)) (cell_at x p)
    lent-cell-at = rw (e, lent-part (cell_place k p) cell_size t) cell-at

    -- by a call that ensures `c.new ≡ cell_octets (u (to_cell c.old))`
    pub left-cell-at : (u : Cell → Cell) (y : List ℕ) → y ≡ cell_octets (u (to_cell (take (a + cell_size - a) (drop a t))))
        → take a t ++ (y ++ drop (a + cell_size - a) (drop a t)) ≡ encode (with_cell k p u (decode t))
    left-cell-at u y q =
        lent-patch a cell_size y t
        ∙ ap (λ (z : List ℕ). patch a cell_size z t) (q ∙ ap (λ (c : Cell). cell_octets (u c)) lent-cell-at.is)
        ∙ rw e (cell-replaced u)

-- Its result there.

pub reads-result : (r : Result) → FitResult r → (s : List ℕ) → s ≡ result_octets r → ReadsResult s r
reads-result r w s e = reads result_octets r (result-length r) (result-read r w) s e record { thing = r; fits = w; is = e }

module _ {t : List ℕ} {k p : ℕ} (s : StandsOn t k p) where
  pub result-at : ReadsResult (part (result_place k p) result_size t) (result_at (x s) p)
  result-at =
      reads-result (result_at (x s) p) (result_fits (x s) (x_fits s) p (result_in p) s.port refl) (part (result_place k p) result_size t)
      (in-record (stands s) (result_in p) result_size (omega arith) ∙ result-part (x s) (x_fits s) p (result_in p) s.port refl)

  module _ (r : Result) where
    pub result-replaced : patch (result_place k p) result_size (result_octets r) t ≡ encode (with_result k p r (decode t))
    result-replaced =
        in-record-replaced (stands s) (result_in p) result_size (omega arith) (result_octets r) (resulting (λ l. set l p r) (x s))
        (result-patch (x s) (x_fits s) p (result_in p) s.port refl r)

  module _ (a : ℕ) (e : a ≡ result_place k p) where
    pub lent-result-at : ReadsResult (take (a + result_size - a) (drop a t)) (result_at (x s) p)
    lent-result-at = rw (e, lent-part (result_place k p) result_size t) result-at

    pub left-result-at : (r : Result) (y : List ℕ) → y ≡ result_octets r
        → take a t ++ (y ++ drop (a + result_size - a) (drop a t)) ≡ encode (with_result k p r (decode t))
    left-result-at r y q = lent-patch a result_size y t ∙ rw (e, q) (result-replaced r)

    -- by a call that ensures `r.new ≡ result_octets (u (to_result r.old))`
    pub changed-result-at : (u : Result → Result) (y : List ℕ) → y ≡ result_octets (u (to_result (take (a + result_size - a) (drop a t))))
        → take a t ++ (y ++ drop (a + result_size - a) (drop a t)) ≡ encode (with_result k p (u (result_at (x s) p)) (decode t))
    changed-result-at u y q =
        left-result-at (u (result_at (x s) p)) y (q ∙ ap (λ (r : Result). result_octets (u r)) lent-result-at.is)

-- What is sent of it there.

pub reads-sends : (y : Sends) → FitSends y → (s : List ℕ) → s ≡ sends_octets y → ReadsSends s y
reads-sends y w s e = reads sends_octets y (sends-length y) (sends-read y w) s e record { thing = y; fits = w; is = e }

module _ {t : List ℕ} {k p : ℕ} (s : StandsOn t k p) where
  pub sends-at : ReadsSends (part (sends_place k p) sends_size t) (sends_at (x s) p)
  sends-at =
      reads-sends (sends_at (x s) p) (sends-fit (x s) (x_fits s) p (sends_in p) s.port refl) (part (sends_place k p) sends_size t)
      (in-record (stands s) (sends_in p) sends_size (omega arith) ∙ sends-part (x s) (x_fits s) p (sends_in p) s.port refl)

  module _ (u : Sends → Sends) where
    pub sends-replaced : patch (sends_place k p) sends_size (sends_octets (u (sends_at (x s) p))) t ≡ encode (with_sends k p u (decode t))
    sends-replaced =
        in-record-replaced (stands s) (sends_in p) sends_size (omega arith) (sends_octets (u (sends_at (x s) p))) (change (λ l. l) (at p u) (x s))
        (sends-patch (x s) (x_fits s) p (sends_in p) s.port refl u)

  module _ (a : ℕ) (e : a ≡ sends_place k p) where
    pub lent-sends-at : ReadsSends (take (a + sends_size - a) (drop a t)) (sends_at (x s) p)
    lent-sends-at = rw (e, lent-part (sends_place k p) sends_size t) sends-at

    -- by a call that ensures `y.new ≡ sends_octets (u (to_sends y.old))`
    pub left-sends-at : (u : Sends → Sends) (y : List ℕ) → y ≡ sends_octets (u (to_sends (take (a + sends_size - a) (drop a t))))
        → take a t ++ (y ++ drop (a + sends_size - a) (drop a t)) ≡ encode (with_sends k p u (decode t))
    left-sends-at u y q =
        lent-patch a sends_size y t
        ∙ ap (λ (z : List ℕ). patch a sends_size z t) (q ∙ ap (λ (c : Sends). sends_octets (u c)) lent-sends-at.is)
        ∙ rw e (sends-replaced u)

-- The settings of the port, and its totals.

pub reads-totals : (t : Totals) → FitTotals t → (s : List ℕ) → s ≡ totals_octets t → ReadsTotals s t
reads-totals t w s e = reads totals_octets t (totals-length t) (totals-back t w) s e e

module _ {t : List ℕ} {p : ℕ} (s : PortIn t p) where
  b-fits : FitBridge (decode t)
  b-fits = laid-fits t s.laid

  pub port-there : ReadsPort (part (port_place p) port_size t) (port_at (decode t).settings p)
  port-there =
      let q = port_at (decode t).settings p in
      let e : part (port_place p) port_size t ≡ port_octets q =
      ap (part (port_place p) port_size) (laid-is t s.laid) ∙ port-part (decode t) b-fits p (port_place p) s.port refl in
      reads port_octets q (port-length q) (port-back q (port-fits (decode t).settings b-fits.settings p)) _ e e

  pub lent-port-at : (a : ℕ) → a ≡ port_place p → ReadsPort (take (a + port_size - a) (drop a t)) (port_at (decode t).settings p)
  lent-port-at a e = rw (e, lent-part (port_place p) port_size t) port-there

  pub totals-there : ReadsTotals (part (total_place p) total_size t) (totals_at p (decode t))
  totals-there =
      reads-totals (totals_at p (decode t)) (all-at FitTotals (decode t).totals b-fits.totals p no_totals (omega (arith, b-fits.eight_totals)))
      (part (total_place p) total_size t)
      (ap (part (total_place p) total_size) (laid-is t s.laid) ∙ totals-part (decode t) b-fits p (total_place p) s.port refl)

  module _ (c : Totals) where
    pub totals-replaced : patch (total_place p) total_size (totals_octets c) t ≡ encode (with_totals p c (decode t))
    totals-replaced =
        ap (patch (total_place p) total_size (totals_octets c)) (laid-is t s.laid) ∙ totals-patch (decode t) b-fits p (total_place p) s.port refl c

  module _ (a : ℕ) (e : a ≡ total_place p) where
    pub lent-totals-at : ReadsTotals (take (a + total_size - a) (drop a t)) (totals_at p (decode t))
    lent-totals-at = rw (e, lent-part (total_place p) total_size t) totals-there

    pub left-totals-at : (c : Totals) (y : List ℕ) → y ≡ totals_octets c
        → take a t ++ (y ++ drop (a + total_size - a) (drop a t)) ≡ encode (with_totals p c (decode t))
    left-totals-at c y q = lent-patch a total_size y t ∙ rw (e, q) (totals-replaced c)
