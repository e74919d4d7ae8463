-- Records dropped: the octets that the code moves, clears and writes are those of the bridge that holds the others.
use Prim.Native.Nat.{ℕ, suc, ◌+◌, ◌-◌, ◌*◌, ◌≤◌, ◌<◌}
use native.Mathlib.Omega.{arith}
use native.Mathlib.Numerals.{add-one}
use mathlib.Core.Path.{◌≡◌, refl, sym, ap, ◌∙◌, subst}
use mathlib.Core.Bool.{Bool, true, false}
use mathlib.Core.List.{List, [], ◌∷◌, ◌++◌, append_assoc, append-nil}
use lib.ListN.{length, get_or, take, drop, length-append, length-drop, take-append-drop}
use lib.Seq.{take-suc, drop-cons, take-length, drop-length, length-take-le}
use Rattle.octets.specs.Be.{be}
use Rattle.octets.specs.Parts.{part, patch, zeros}
use Rattle.octets.specs.Fields.{flat}
use Rattle.octets.proofs.Parts.{lent-part}
use Rattle.octets.proofs.Fields.{flat_append}
use Rattle.octets.proofs.Patches.{patch-part}
use Rattle.model.specs.Layout.{in_table, record_place, record_size}
use Rattle.model.specs.Lists.{keep}
use Rattle.model.specs.State.{Stream, Bridge, fresh}
use Rattle.model.specs.Registrations.{holding}
use Rattle.model.specs.Settling.{is_held, drop_unheld}
use Rattle.model.specs.Table.{stream_octets, to_stream, encode, decode}
use Rattle.model.specs.Laid.{FitStream, FitBridge, Laid}
use Rattle.model.proofs.Lists.{all_take}
use Rattle.model.proofs.AdvanceKeepsForm.{all-dropped}
use Rattle.model.proofs.Parts.{Sized, zeros-add, length-flat-sized, part-between}
use Rattle.model.proofs.Fits.{stream-size, stream-read, laid-is}
use Rattle.table.specs.Octets.{record_kept}
use Rattle.table.proofs.Lens.{all-at, patch-between}
use Rattle.table.proofs.Header.{header, header-records, header-length, count-patch}
use Rattle.table.proofs.Records.{unused, records-sized}

-- A record moved to where it is, which leaves all as it is.

pub kept_there : (i j : ℕ) (s : List ℕ) → i ≡ j → s ≡ record_kept i j s
unfolding record_kept
kept_there i j s e = sym (ap (λ (k : ℕ). patch (record_place j) record_size (part (record_place k) record_size s) s) e ∙ patch-part (record_place j) record_size s)

-- The loop over the records.

held-append : (l m : List Stream) → drop_unheld (l ++ m) ≡ drop_unheld l ++ drop_unheld m
unfolding drop_unheld
held-append [] m = refl
held-append (x ∷ l) m = go (is_held x) (held-append l m)
  where
    go : (t : Bool) → drop_unheld (l ++ m) ≡ drop_unheld l ++ drop_unheld m → keep t x (drop_unheld (l ++ m)) ≡ keep t x (drop_unheld l) ++ drop_unheld m
    go true e = ap (λ (s : List Stream). x ∷ s) e
    go false e = e

one-held : (x : Stream) → is_held x ≡ true → drop_unheld (x ∷ []) ≡ x ∷ []
unfolding drop_unheld
one-held x e = rw e

none-held : (x : Stream) → is_held x ≡ false → drop_unheld (x ∷ []) ≡ []
unfolding drop_unheld
none-held x e = rw e

-- after i records, of which j are held: these stand first, then octets that no record needs, then the records from i on
pub record Closing (b : Bridge) (t : List ℕ) (i j : ℕ) : Type 0 where
  pub within : i ≤ length b.streams
  pub fewer : j ≤ i
  pub count : j ≡ length (drop_unheld (take i b.streams))
  pub between : List ℕ
  pub size : length between ≡ (i - j) * record_size
  pub is : t ≡ (header b ++ flat stream_octets (drop_unheld (take i b.streams)))
      ++ (between ++ (flat stream_octets (drop i b.streams) ++ unused (length b.streams)))

closing-whole : (b : Bridge) → Closing b (encode b) 0 0
unfolding drop_unheld flat
closing-whole b = record {
  within = omega arith;
  fewer = omega arith;
  count = refl;
  between = [];
  size = refl;
  is = header-records b ∙ rw (append-nil (header b));
}

pub closing-start : (t : List ℕ) → Laid t → Closing (decode t) t 0 0
closing-start t l = subst (λ (s : List ℕ). Closing (decode t) s 0 0) (sym (laid-is t l)) (closing-whole (decode t))

module _ (b : Bridge) (w : FitBridge b) (t : List ℕ) (i j : ℕ) (c : Closing b t i j) where
  kept-streams : List Stream
  kept-streams = drop_unheld (take i b.streams)

  front : List ℕ
  front = header b ++ flat stream_octets kept-streams

  front_length : length front ≡ record_place j
  unfolding front kept-streams
  front_length =
      let l = kept-streams in
      let e : length l ≡ j = sym c.count in
      let z =
      length-flat-sized record_size stream_octets l
      (all-dropped (Sized record_size stream_octets) (Sized record_size stream_octets) (λ x h f. f) (take i b.streams) (all_take (Sized record_size stream_octets) i b.streams (records-sized b w))) in
      length-append (header b) (flat stream_octets l) ∙ omega (arith, header-length b w)

  module _ (h : i < length b.streams) where
    x : Stream
    x = get_or b.streams i (fresh 0)

    x_fits : FitStream x
    unfolding x
    x_fits = all-at FitStream b.streams w.streams i (fresh 0) h

    rest : List ℕ
    rest = flat stream_octets (drop (suc i) b.streams) ++ unused (length b.streams)

    opened : t ≡ front ++ (c.between ++ (stream_octets x ++ rest))
    unfolding front kept-streams x rest flat
    opened =
        c.is
        ∙ ap (λ (s : List Stream). front ++ (c.between ++ (flat stream_octets s ++ unused (length b.streams)))) (drop-cons b.streams i (fresh 0) h)
        ∙ simp append_assoc

    -- the record at place i is still as it was
    seen : part (record_place i) record_size t ≡ stream_octets x
    seen =
        ap (part (record_place i) record_size) (opened ∙ sym (append_assoc front c.between (stream_octets x ++ rest)))
        ∙ part-between (front ++ c.between) (stream_octets x) rest (record_place i) record_size
        (length-append front c.between ∙ omega (arith, front_length, c.size, c.fewer)) (stream-size x x_fits)

    -- what a call sees of it
    pub seen-held : is_held (to_stream (take (record_place i + record_size - record_place i) (drop (record_place i) t)))
        ≡ is_held (get_or b.streams i (fresh 0))
    unfolding x
    seen-held = ap (λ (s : List ℕ). is_held (to_stream s)) (lent-part (record_place i) record_size t ∙ seen) ∙ ap is_held (stream-read x x_fits)

    kept_next : drop_unheld (take (suc i) b.streams) ≡ kept-streams ++ drop_unheld (x ∷ [])
    unfolding kept-streams x
    kept_next = ap drop_unheld (take-suc b.streams i (fresh 0) h) ∙ held-append (take i b.streams) (x ∷ [])

    -- a stream that is not held
    pub closing-drop : is_held (get_or b.streams i (fresh 0)) ≡ false → Closing b t (i + 1) j
    unfolding x front rest kept-streams
    closing-drop e =
        let f : drop_unheld (take (suc i) b.streams) ≡ kept-streams = kept_next ∙ rw (none-held x e) (append-nil kept-streams) in
        rw (add-one i) record {
          within = omega arith;
          fewer = omega (arith, c.fewer);
          count = c.count ∙ ap length (sym f);
          between = c.between ++ stream_octets x;
          size = length-append c.between (stream_octets x) ∙ omega (arith, c.size, c.fewer, stream-size x x_fits);
          is =
              opened
              ∙ ap (λ (s : List ℕ). front ++ s) (sym (append_assoc c.between (stream_octets x) rest))
              ∙ ap (λ (l : List Stream). (header b ++ flat stream_octets l) ++ ((c.between ++ stream_octets x) ++ rest)) (sym f);
        }

    -- one that is held moves to place j
    gathered : List ℕ
    gathered = c.between ++ stream_octets x

    gathered-length : length gathered ≡ (i - j) * record_size + record_size
    unfolding gathered
    gathered-length = length-append c.between (stream_octets x) ∙ omega (arith, c.size, stream-size x x_fits)

    moved : record_kept i j t ≡ front ++ (stream_octets x ++ (drop record_size gathered ++ rest))
    unfolding record_kept gathered
    moved =
        let split : t ≡ front ++ (take record_size gathered ++ (drop record_size gathered ++ rest)) =
        opened
        ∙ ap (λ (s : List ℕ). front ++ s)
        (sym (append_assoc c.between (stream_octets x) rest)
        ∙ ap (λ (s : List ℕ). s ++ rest) (sym (take-append-drop record_size gathered))
        ∙ append_assoc (take record_size gathered) (drop record_size gathered) rest) in
        ap (λ (s : List ℕ). patch (record_place j) record_size s t) seen
        ∙ ap (patch (record_place j) record_size (stream_octets x)) split
        ∙ patch-between front (take record_size gathered) (drop record_size gathered ++ rest) (stream_octets x) (record_place j) record_size (omega (arith, front_length))
        (length-take-le record_size gathered (omega (arith, gathered-length)))

    pub closing-keep : is_held (get_or b.streams i (fresh 0)) ≡ true → Closing b (record_kept i j t) (i + 1) (j + 1)
    unfolding x front rest kept-streams flat
    closing-keep e =
        let f : drop_unheld (take (suc i) b.streams) ≡ kept-streams ++ (x ∷ []) = kept_next ∙ rw (one-held x e) in
        let g : header b ++ flat stream_octets (kept-streams ++ (x ∷ [])) ≡ front ++ stream_octets x =
        ap (λ (s : List ℕ). header b ++ s) (flat_append stream_octets kept-streams (x ∷ []) ∙ ap (λ (s : List ℕ). flat stream_octets kept-streams ++ s) (append-nil (stream_octets x)))
        ∙ sym (append_assoc (header b) (flat stream_octets kept-streams) (stream_octets x)) in
        rw (add-one i, add-one j) record {
          within = omega arith;
          fewer = omega (arith, c.fewer);
          count = sym (ap length f ∙ length-append kept-streams (x ∷ []) ∙ omega (arith, c.count));
          between = drop record_size gathered;
          size = length-drop record_size gathered ∙ omega (arith, gathered-length, c.fewer);
          is =
              moved
              ∙ sym (append_assoc front (stream_octets x) (drop record_size gathered ++ rest))
              ∙ ap (λ (s : List ℕ). s ++ (drop record_size gathered ++ rest)) (sym g)
              ∙ ap (λ (l : List Stream). (header b ++ flat stream_octets l) ++ (drop record_size gathered ++ rest)) (sym f);
        }

  -- all records seen: what lies behind the held ones is cleared, and their number is stored
  pub closing_end : (n : ℕ) → n ≡ length b.streams → i ≡ n
      → patch in_table.count 1 (be 1 j) (patch (record_place j) ((n - j) * record_size) (zeros ((n - j) * record_size)) t) ≡ encode (holding b (drop_unheld b.streams))
  unfolding front kept-streams flat holding
  closing_end n a all =
      let e : i ≡ length b.streams = all ∙ a in
      let s = drop_unheld b.streams in
      let m : ℕ = (n - j) * record_size in
      let k : drop_unheld (take i b.streams) ≡ s = ap drop_unheld (ap (λ (l : ℕ). take l b.streams) e ∙ take-length b.streams) in
      let d : drop i b.streams ≡ [] = ap (λ (l : ℕ). drop l b.streams) e ∙ drop-length b.streams in
      let q : j ≡ length s = c.count ∙ ap length k in
      let there : t ≡ front ++ (c.between ++ unused n) = c.is ∙ rw (d, a) in
      let o : m + (64 - n) * record_size ≡ (64 - length s) * record_size = omega (arith, q, c.fewer, w.at_most_64) in
      let z : zeros m ++ unused n ≡ unused (length s) = sym (zeros-add m ((64 - n) * record_size)) ∙ ap zeros o in
      let cleared : patch (record_place j) m (zeros m) t ≡ header b ++ (flat stream_octets s ++ unused (length s)) =
      ap (patch (record_place j) m (zeros m)) there
      ∙ patch-between front c.between (unused n) (zeros m) (record_place j) m (omega (arith, front_length)) (omega (arith, c.size))
      ∙ append_assoc (header b) (flat stream_octets kept-streams) (zeros m ++ unused n)
      ∙ rw (z, k) in
      ap (λ (l : ℕ). patch in_table.count 1 (be 1 l) (patch (record_place j) m (zeros m) t)) q
      ∙ ap (patch in_table.count 1 (be 1 (length s))) cleared
      ∙ count-patch b w s (flat stream_octets s ++ unused (length s))
      ∙ sym (header-records (holding b s))
