-- What is sent of a stream, port by port: what the code reads for it, and the stream with the first places declared.
use mathlib.Core.Path.{◌≡◌, refl, sym, ◌∙◌, ap, ap₂, subst}
use mathlib.Core.List.{List, ◌++◌}
use Prim.Native.Nat.{ℕ, ◌+◌, ◌-◌, ◌<◌}
use native.Mathlib.Omega.{arith}
use lib.ListN.{length, get_or}
use Rattle.octets.specs.Parts.{part, patch}
use Rattle.octets.proofs.Patches.{patch-next, patch-part}
use Rattle.model.specs.Layout.{failed_size, fixed_size, in_result, result_in, sends_place, sends_size}
use Rattle.model.specs.State.{Fixed, Result, Sends, Stream, no_sends, unsettled, result_at, sends_at, stream_at}
use Rattle.model.specs.Registrations.{at, change}
use Rattle.model.specs.Sending.{sends_octets, to_sends}
use Rattle.model.specs.Settling.{declare_sends, declare}
use Rattle.model.specs.Table.{result_octets, encode, decode}
use Rattle.model.specs.Laid.{FitResult, FitSends, FitStream}
use Rattle.model.proofs.Lists.{all_get_or}
use Rattle.model.proofs.Fits.{fit-fixed, fit-sends, laid-sends-is, settled-fits, valid-sends-fit}
use Rattle.table.specs.Places.{Stands, StandsOn}
use Rattle.table.specs.Reads.{fixed_octets, ReadsFixed, ReadsResult, ReadsSends}
use Rattle.table.specs.Updates.{with_sends}
use Rattle.table.proofs.ReadOctets.{result-is, column-octet, declared-octet}
use Rattle.table.proofs.Fitting.{no-sends-fit, unsettled-fits}
use Rattle.table.proofs.Lens.{patch-whole}
use Rattle.table.proofs.StreamParts.{fixed-length, result_fits}
use Rattle.table.proofs.ByPlace.{stands, stands_on, stream-fits, sends-at, sends-replaced}
use Rattle.table.proofs.EachStream.{partly_at, partly_at-stands, one-turn-more}
use Rattle.table.proofs.EachPort.{sends_to, sends-next, sends-done, sends-fit}
use Rattle.declaring.specs.Octets.{offered_octets, Offered, Told}
use Rattle.declaring.proofs.Sent.{sent-valid}

-- the settled values copied, and those of the result behind them
pub offered-put : (f : Fixed) (r : Result) (v y z : List ℕ) → length v ≡ failed_size → y ≡ fixed_octets f
    → z ≡ part in_result.latency (failed_size - fixed_size) (result_octets r) → patch fixed_size (failed_size - fixed_size) z (patch 0 fixed_size y v) ≡ offered_octets f r
unfolding offered_octets fixed_octets
offered-put f r v y z n e g =
    let long : length y ≡ fixed_size = ap length e ∙ fixed-length f in
    patch-next 0 fixed_size (failed_size - fixed_size) y z v long (omega (arith, n)) ∙ patch-whole failed_size (y ++ z) v n ∙ rw (e, g)

-- what is read of a stream's result on a port, with the values offered
pub offered-there : {t : List ℕ} {k p : ℕ} (s : StandsOn t k p) (v : List ℕ) → v ≡ offered_octets (stream_at k (decode t)).settled (result_at (stream_at k (decode t)) p)
    → {y : List ℕ} → ReadsResult y (result_at (stream_at k (decode t)) p)
    → Offered v (get_or y 0 0) (get_or y in_result.declared 0) (stream_at k (decode t)).settled (result_at (stream_at k (decode t)) p)
offered-there {t} {k} {p} s v e r =
    let x = stream_at k (decode t) in
    let w : FitStream x = stream-fits (stands s) in
    record {
      fixed = settled-fits x w;
      rank = w.rank;
      result = result_fits x w p (result_in p) s.port refl;
      values = e;
      column = column-octet r;
      listener = declared-octet r;
    }

-- the same, of the octets where they stand
pub told-there : {t : List ℕ} {k p : ℕ} (s : StandsOn t k p) {y z : List ℕ} → ReadsFixed y (stream_at k (decode t)).settled
    → ReadsResult z (result_at (stream_at k (decode t)) p) → Told y z (stream_at k (decode t)).settled (result_at (stream_at k (decode t)) p)
unfolding offered_octets fixed_octets
told-there s {y} {z} f r =
    offered-there s (y ++ part in_result.latency (failed_size - fixed_size) z)
    (ap₂ (λ (v w : List ℕ). v ++ part in_result.latency (failed_size - fixed_size) w) f.laid (result-is r)) r

-- where what is sent is left as it is, so is the table
pub left-steady : {t : List ℕ} {k p : ℕ} (s : StandsOn t k p) (u : Sends → Sends) {y : List ℕ} → ReadsSends y (sends_at (stream_at k (decode t)) p)
    → y ≡ sends_octets (u (to_sends y)) → t ≡ encode (with_sends k p u (decode t))
left-steady {t} {k} {p} s u {y} w e =
    let here = sends-at s in
    let same : part (sends_place k p) sends_size t ≡ sends_octets (u (sends_at (stream_at k (decode t)) p)) =
    laid-sends-is (part (sends_place k p) sends_size t) here.laid ∙ ap sends_octets (here.is ∙ sym w.is) ∙ sym (laid-sends-is y w.laid) ∙ e
    ∙ ap (λ (x : Sends). sends_octets (u x)) w.is in
    sym (patch-part (sends_place k p) sends_size t) ∙ ap (λ (x : List ℕ). patch (sends_place k p) sends_size x t) same ∙ sends-replaced s u

-- what a port sends of a stream after it was declared
abbrev pub declared_at : Stream → ℕ → Sends
declared_at x q = declare_sends x.settled (result_at x q) (sends_at x q)

module _ (x : Stream) (w : FitStream x) where
  pub declared-at-fits : (q : ℕ) → FitSends (declared_at x q)
  unfolding result_at sends_at
  declared-at-fits q =
      let r = all_get_or FitResult x.results w.results unsettled unsettled-fits q in
      let y = all_get_or FitSends x.sends w.sends no_sends no-sends-fit q in
      valid-sends-fit (declared_at x q)
      (sent-valid x.settled (result_at x q) (fit-fixed x.settled (settled-fits x w) w.rank) r (sends_at x q) (fit-sends (sends_at x q) y))

  pub declared-all : sends_to (declared_at x) 8 x ≡ declare x
  unfolding change declare
  declared-all = sends-done (declared_at x) x w.eight_sends

pub declare-fits : (x : Stream) → FitStream x → FitStream (declare x)
declare-fits x w = subst FitStream (declared-all x w) (sends-fit (declared_at x) (declared-at-fits x w) 8 (omega arith) x w)

pub declare-id : (x : Stream) → (declare x).id ≡ x.id
unfolding declare
declare-id x = refl

-- stream k after p places
module _ {t₀ : List ℕ} {k : ℕ} (s : Stands t₀ k) (p : ℕ) (h : p < 8) where
  abbrev x₀ : Stream
  x₀ = stream_at k (decode t₀)

  abbrev to : ℕ → Stream → Stream
  to = sends_to (declared_at (stream_at k (decode t₀)))

  fits : FitStream (to p x₀)
  fits = sends-fit (declared_at x₀) (declared-at-fits x₀ (stream-fits s)) p (omega arith) x₀ (stream-fits s)

  same_id : (to p x₀).id ≡ x₀.id
  unfolding change
  same_id = refl

  module _ (t : List ℕ) (e : t ≡ encode (partly_at to t₀ k p)) where
    pub declares-here : StandsOn t k p
    declares-here = stands_on (partly_at-stands to s p t e fits same_id) p h

    abbrev turn : Stream → Stream
    turn y = change (λ l. l) (at p (declare_sends y.settled (result_at y p))) y

    next : turn (to p x₀) ≡ to (p + 1) x₀
    unfolding change result_at
    next =
        let n : p < length x₀.sends = omega (arith, (stream-fits s).eight_sends) in
        unfold change in (sends-next (declared_at x₀) p x₀ n (declare_sends x₀.settled (result_at x₀ p)) refl)

    pub declares-next : (y : List ℕ)
        → y ≡ encode (with_sends k p (declare_sends (stream_at k (decode t)).settled (result_at (stream_at k (decode t)) p)) (decode t)) → y ≡ encode (partly_at to t₀ k (p + 1))
    declares-next = one-turn-more to s p t e fits same_id turn next
