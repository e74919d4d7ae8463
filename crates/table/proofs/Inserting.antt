-- A record put in: the octets moved, cleared and written are those of the bridge that holds one stream more.
use Prim.Native.Nat.{ℕ, ◌+◌, ◌-◌, ◌*◌, ◌≤◌, ◌<◌}
use native.Mathlib.Omega.{arith}
use mathlib.Core.Path.{◌≡◌, refl, sym, ap, ◌∙◌}
use mathlib.Core.List.{List, ◌∷◌, ◌++◌, append_assoc}
use lib.ListN.{length, take, drop, replicate, length-append, length-drop, take-append-drop}
use lib.Seq.{length-take-le}
use Rattle.octets.specs.Be.{be}
use Rattle.octets.specs.Parts.{patch, zeros}
use Rattle.octets.specs.Fields.{width, flat}
use Rattle.octets.proofs.Fields.{flat_append, packed-zeros}
use Rattle.model.specs.Layout.{all_sends_size, cell_size, cells_size, in_table, fixed_size, fixed_widths, record_place, record_size, result_size, results_size, sends_size, in_record}
use Rattle.model.specs.State.{Stream, Bridge, empty, unsettled, no_fixed, no_sends, blank, fresh}
use Rattle.model.specs.Registrations.{holding}
use Rattle.model.specs.WrittenFrames.{priority_octet, fixed_numbers}
use Rattle.model.specs.Sending.{sends_octets}
use Rattle.model.specs.Table.{cell_octets, result_octets, stream_octets, encode}
use Rattle.model.specs.Laid.{FitBridge}
use Rattle.model.proofs.Lists.{all_replicate, all_take, all_drop}
use Rattle.model.proofs.Parts.{Sized, length-zeros, zeros-add, length-flat-sized, flat-zeros}
use Rattle.model.proofs.Cells.{cell-zeros}
use Rattle.model.proofs.Results.{result-zeros}
use Rattle.model.proofs.SendsOctets.{sends-coded}
use Rattle.table.specs.Octets.{record_put}
use Rattle.table.specs.Updates.{inserted}
use Rattle.table.specs.Reads.{fixed_octets}
use Rattle.table.proofs.Lens.{patch-between}
use Rattle.table.proofs.Header.{header, header-records, header-length, count-patch}
use Rattle.table.proofs.Records.{records-sized}
use Rattle.table.proofs.StreamParts.{settled-laid}
use Rattle.table.proofs.Moving.{gap-made}

-- A stream without registrations is its StreamID and zeros.

fixed-zeros : fixed_octets no_fixed ≡ zeros fixed_size
unfolding fixed_octets fixed_numbers priority_octet no_fixed width
fixed-zeros = packed-zeros fixed_widths

blank-zeros : flat cell_octets blank ≡ zeros cells_size
unfolding blank
blank-zeros = flat-zeros cell_size cell_octets empty cell-zeros (replicate 8 empty) (all_replicate (λ c. c ≡ empty) 8 empty refl)

unsettled-zeros : flat result_octets (replicate 8 unsettled) ≡ zeros results_size
unsettled-zeros = flat-zeros result_size result_octets unsettled result-zeros (replicate 8 unsettled) (all_replicate (λ r. r ≡ unsettled) 8 unsettled refl)

unsent-zeros : flat sends_octets (replicate 8 no_sends) ≡ zeros all_sends_size
unsent-zeros = flat-zeros sends_size sends_octets no_sends sends-coded.blank (replicate 8 no_sends) (all_replicate (λ s. s ≡ no_sends) 8 no_sends refl)

pub fresh-octets : (id : ℕ) → stream_octets (fresh id) ≡ be 8 id ++ zeros (record_size - in_record.settled)
unfolding fresh
fresh-octets id =
    settled-laid (fresh id)
    ∙ ap (λ (s : List ℕ). be 8 id ++ s)
    (rw (fixed-zeros, blank-zeros, unsettled-zeros, unsent-zeros)
    (sym (zeros-add fixed_size (cells_size + (results_size + all_sends_size))
    ∙ ap (λ (s : List ℕ). zeros fixed_size ++ s)
    (zeros-add cells_size (results_size + all_sends_size) ∙ ap (λ (s : List ℕ). zeros cells_size ++ s) (zeros-add results_size all_sends_size)))))

module _ (b : Bridge) (w : FitBridge b) (k id : ℕ) (h : k ≤ length b.streams) (few : length b.streams < 64) where
  abbrev n : ℕ
  n = length b.streams

  lower : List Stream
  lower = take k b.streams

  higher : List Stream
  higher = drop k b.streams

  before : List ℕ
  before = header b ++ flat stream_octets lower

  in-front : (r : List ℕ) → before ++ r ≡ header b ++ (flat stream_octets lower ++ r)
  unfolding before
  in-front r = append_assoc (header b) (flat stream_octets lower) r

  -- what stays unused
  rest : List ℕ
  rest = zeros ((63 - n) * record_size)

  split : encode b ≡ before ++ (flat stream_octets higher ++ (zeros record_size ++ rest))
  unfolding lower higher before rest
  split =
      let e : (64 - n) * record_size ≡ record_size + (63 - n) * record_size = omega arith in
      header-records b
      ∙ ap (λ (s : List Stream). header b ++ (flat stream_octets s ++ zeros ((64 - n) * record_size))) (sym (take-append-drop k b.streams))
      ∙ rw (flat_append stream_octets lower higher, e, zeros-add record_size ((63 - n) * record_size)) (simp append_assoc)

  more : List Stream
  more = lower ++ (fresh id ∷ higher)

  length_more : length more ≡ n + 1
  unfolding more lower higher
  length_more =
      length-append lower (fresh id ∷ higher) ∙ omega (arith, length-take-le k b.streams h, length-drop k b.streams)

  joined : header (holding b more) ++ (flat stream_octets lower ++ (stream_octets (fresh id) ++ (flat stream_octets higher ++ rest))) ≡ encode (holding b more)
  unfolding more rest holding flat
  joined =
      let e : 64 - length more ≡ 63 - n = omega (arith, length_more) in
      sym (header-records (holding b more) ∙ rw (e, flat_append stream_octets lower (fresh id ∷ higher)) (simp append_assoc))

  abbrev at : ℕ
  at = record_place k

  abbrev m : ℕ
  m = (n - k) * record_size

  before-length : length before ≡ at
  unfolding before lower
  before-length =
      let c : length (take k b.streams) ≡ k = length-take-le k b.streams h in
      let z = length-flat-sized record_size stream_octets lower (all_take (Sized record_size stream_octets) k b.streams (records-sized b w)) in
      length-append (header b) (flat stream_octets lower) ∙ omega (arith, header-length b w)

  moved_length : length (flat stream_octets higher) ≡ m
  unfolding higher
  moved_length =
      let z = length-flat-sized record_size stream_octets higher (all_drop (Sized record_size stream_octets) k b.streams (records-sized b w)) in
      omega (arith, length-drop k b.streams)

  behind : List ℕ
  behind = flat stream_octets higher ++ rest

  named : patch at 8 (be 8 id) (before ++ (zeros record_size ++ behind)) ≡ before ++ (stream_octets (fresh id) ++ behind)
  named =
      let eight : zeros record_size ++ behind ≡ zeros in_record.settled ++ (zeros (record_size - in_record.settled) ++ behind) =
      ap (λ (s : List ℕ). s ++ behind) (zeros-add in_record.settled (record_size - in_record.settled)) ∙ append_assoc (zeros in_record.settled) (zeros (record_size - in_record.settled)) behind in
      ap (λ (s : List ℕ). patch at 8 (be 8 id) (before ++ s)) eight
      ∙ patch-between before (zeros in_record.settled) (zeros (record_size - in_record.settled) ++ behind) (be 8 id) at 8 before-length (length-zeros in_record.settled)
      ∙ ap (λ (s : List ℕ). before ++ s)
      (sym (append_assoc (be 8 id) (zeros (record_size - in_record.settled)) behind) ∙ ap (λ (s : List ℕ). s ++ behind) (sym (fresh-octets id)))

  counted : patch in_table.count 1 (be 1 (n + 1)) (before ++ (stream_octets (fresh id) ++ behind))
      ≡ header (holding b more) ++ (flat stream_octets lower ++ (stream_octets (fresh id) ++ behind))
  counted =
      let after = flat stream_octets lower ++ (stream_octets (fresh id) ++ behind) in
      rw (← length_more)
      (ap (patch in_table.count 1 (be 1 (length more))) (in-front (stream_octets (fresh id) ++ behind)) ∙ count-patch b w more after)

  -- the octets that the code leaves are those of the bridge with the stream put in
  pub record-put : record_put n k id (encode b) ≡ encode (inserted k id b)
  unfolding record_put more lower higher behind
  record-put =
      rw split
      (rw (gap-made before (flat stream_octets higher) (zeros record_size) rest at m record_size before-length moved_length (length-zeros record_size), named, counted) joined)
