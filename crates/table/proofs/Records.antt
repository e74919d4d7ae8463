-- The stream records of a table: one of them read, or replaced.
use Prim.Native.Nat.{ℕ, ◌-◌, ◌*◌, ◌<◌}
use mathlib.Core.Path.{◌≡◌, sym, ap, ◌∙◌}
use mathlib.Core.List.{List, ◌++◌}
use lib.ListN.{length, get_or, set, length-set}
use Rattle.octets.specs.Parts.{part, patch, zeros}
use Rattle.octets.specs.Fields.{flat}
use Rattle.model.specs.Layout.{record_place, record_size, in_table}
use Rattle.model.specs.Lists.{All}
use Rattle.model.specs.State.{Stream, Bridge, fresh}
use Rattle.model.specs.Registrations.{holding}
use Rattle.model.specs.Table.{stream_octets, encode}
use Rattle.model.specs.Laid.{FitStream, FitBridge}
use Rattle.model.proofs.Lists.{all_map}
use Rattle.model.proofs.Parts.{Sized}
use Rattle.model.proofs.Fits.{stream-size}
use Rattle.table.proofs.Lens.{part-one, patch-one}
use Rattle.table.proofs.Header.{header, header-records, header-length}

-- what follows the records in use
abbrev pub unused : ℕ → List ℕ
unused n = zeros ((64 - n) * record_size)

-- the same number of other streams
same-header : (b : Bridge) (s : List Stream) → length s ≡ length b.streams → header (holding b s) ≡ header b
unfolding header holding
same-header b s e = rw e

same_count : (b : Bridge) (s : List Stream) → length s ≡ length b.streams
    → header b ++ (flat stream_octets s ++ unused (length b.streams)) ≡ encode (holding b s)
same_count b s e = sym (header-records (holding b s) ∙ rw (same-header b s e) (unfold holding in rw e))

module _ (b : Bridge) (w : FitBridge b) where
  pub records-sized : All (Sized record_size stream_octets) b.streams
  records-sized = all_map FitStream (Sized record_size stream_octets) stream-size b.streams w.streams

  module _ (k a : ℕ) (h : k < length b.streams) (e : a ≡ record_place k) where
    pub record-part : part a record_size (encode b) ≡ stream_octets (get_or b.streams k (fresh 0))
    record-part =
        ap (part a record_size) (header-records b)
        ∙ part-one record_size stream_octets in_table.records (header b) (unused (length b.streams)) (header-length b w) b.streams records-sized k a h e (fresh 0)

    pub record-patch : (x : Stream) → patch a record_size (stream_octets x) (encode b) ≡ encode (holding b (set b.streams k x))
    record-patch x =
        ap (patch a record_size (stream_octets x)) (header-records b)
        ∙ patch-one record_size stream_octets in_table.records (header b) (unused (length b.streams)) (header-length b w) b.streams records-sized k a h e x
        ∙ same_count b (set b.streams k x) (length-set b.streams k x)
