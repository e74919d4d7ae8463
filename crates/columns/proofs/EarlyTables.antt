-- Stage 1 on a table: a stream's result on a port, its settled values, its places one after another, and every stream.
use mathlib.Core.Path.{◌≡◌, refl, sym, ap, ◌∙◌}
use mathlib.Core.List.{List, ◌++◌}
use mathlib.Core.Bool.{Bool, true, false}
use Prim.Native.Nat.{ℕ, ◌+◌, ◌-◌, ◌^◌, ◌≤◌, ◌<◌}
use native.Mathlib.Omega.{arith}
use lib.ListN.{length, get_or, take, drop}
use lib.Dec.{ltb}
use lib.Seq.{get_or-set_other}
use borrow.Author.Tests.{ltb-true, ltb-false}
use Rattle.std.specs.Prelude.{Option}
use Rattle.octets.specs.Parts.{part, patch}
use Rattle.octets.proofs.Frame.{part-part}
use Rattle.model.specs.Layout.{cell_place, cell_size, in_cell, fixed_size, result_place, result_size, settled_of}
use Rattle.model.specs.State.{Declared, Fixed, Cell, Result, Stream, Column, cell_at, result_at, stream_at, fresh}
use Rattle.model.specs.Settling.{Scene, scene_of, Source, source, source_of, fixed_of, is_inbound, latency_out}
use Rattle.model.specs.Table.{to_declared, to_result, result_octets, encode, decode}
use Rattle.model.specs.Registrations.{holding}
use Rattle.model.specs.Laid.{FitStream, Laid}
use Rattle.model.proofs.Fits.{laid-fits}
use Rattle.table.specs.Updates.{settled_as, with_stream, with_result, with_settled}
use Rattle.table.specs.Places.{Stands, StandsOn}
use Rattle.table.specs.Reads.{ReadsCell, fixed_octets}
use Rattle.table.proofs.ByPlace.{stands, stands_on, stream-fits, stream-same, stream-replaced-stands, stream-replaced-read, stream-replaced-at, stream-replaced-scene, stream-replaced-again, settled-as-fits, cell-at, settled-replaced, changed-result-at}
use Rattle.table.proofs.EachStream.{partly, partly-scene, partly-stands, partly-laid, partly-many, partly-before, one_more, all_done}
use Rattle.streams.specs.Answers.{talker_port, source_in}
use Rattle.streams.proofs.Sources.{source-at}
use Rattle.model.proofs.SettingsOctets.{octet-field}
use Rattle.fanin.specs.declared.CommonFailure.{CommonFailure}
use Rattle.fanin.specs.Sets.{set_to}
use Rattle.fanin.specs.Places.{SettledTo}
use Rattle.columns.specs.Stages.{shown_by, shown_as, early_column, early_at, early, early_all}
use Rattle.columns.specs.Places.{TalkerAt, FailureAt, changed_at, early_one, early_to}
use Rattle.columns.proofs.Entries.{registered-read}
use Rattle.columns.proofs.Talkers.{fixed-part}
use Rattle.columns.proofs.EarlyFits.{settled-values, early-fits}
use Rattle.columns.proofs.EarlyPorts.{none-decided, next-decided, all-decided, decided-fits}
pub use Rattle.columns.proofs.EarlyFits.{early-all-fits}

-- the result of stream k on the port at place p, written from what was read of its column, latency out and Listener
module _ {table : List ℕ} {k p : ℕ} (s : StandsOn table k p) where
  abbrev x : Stream
  x = stream_at k (decode table)

  pub result-written : (now latency a : ℕ) (heard : Declared) (column : Column) (here y : List ℕ) → a ≡ result_place k p
      → column ≡ early_column (scene_of (decode table)) p x → latency ≡ latency_out (decode table).settings p x
      → ReadsCell here (cell_at x p) → heard ≡ to_declared (get_or here in_cell.listener 0)
      → y ≡ result_octets (shown_by column latency heard now (to_result (take (a + result_size - a) (drop a table))))
      → take a table ++ (y ++ drop (a + result_size - a) (drop a table)) ≡ encode (changed_at k (early_one p now) (decode table))
  unfolding early_one
  result-written now latency a heard column here y e f g c h q =
      let shown : shown_by column latency heard now (result_at x p) ≡ early_at (scene_of (decode table)) now x p =
      unfold early_at shown_as in rw (f, g, h, ← octet-field here in_cell.listener, ← registered-read here, c.is) in
      changed-result-at s a e (shown_by column latency heard now) y q ∙ ap (λ (r : Result). encode (with_result k p r (decode table))) shown

-- the fixed values that a stream has registered at place t, taken over as its settled values
pub values-copied : {table : List ℕ} {k t : ℕ} (s : StandsOn table k t) → cell_place k t + cell_size ≤ length table → (a : ℕ) → a ≡ cell_place k t + in_cell.fixed
    → patch (settled_of k) fixed_size (part a fixed_size table) table
    ≡ encode (with_settled k (fixed_of (source_in t (cell_at (stream_at k (decode table)) t))) (decode table))
values-copied {table} {k} {t} s room a e =
    let c = cell_at (stream_at k (decode table)) t in
    let r = cell-at s in
    let q : part a fixed_size table ≡ fixed_octets (fixed_of (source_in t c)) =
    ap (λ (i : ℕ). part i fixed_size table) e
    ∙ sym (part-part (cell_place k t) cell_size in_cell.fixed fixed_size table room (omega arith))
    ∙ fixed-part (part (cell_place k t) cell_size table) r.laid t
    ∙ ap (λ (d : Cell). fixed_octets (fixed_of (source_in t d))) r.is in
    ap (λ (y : List ℕ). patch (settled_of k) fixed_size y table) q ∙ settled-replaced (stands s) (fixed_of (source_in t c))

-- Stream k replaced by x, which has its cells: its Talker stands where it stood, and what is made of x next is made of the table.

module _ {table : List ℕ} {k : ℕ} (s : Stands table k) (x : Stream) (w : FitStream x) (same : x.id ≡ (stream_at k (decode table)).id)
    (cells : x.cells ≡ (stream_at k (decode table)).cells) (u : List ℕ) (e : u ≡ encode (with_stream k x (decode table))) where
  pub talker-kept : {t : ℕ} → TalkerAt table k t → TalkerAt u k t
  unfolding source_of
  talker-kept {t} i = record {
    stands = stands_on (stream-replaced-stands s x w same u e) t i.stands.port;
    is = i.is ∙ ap (λ (l : List Cell). talker_port (source 0 l)) (sym (ap (λ (y : Stream). y.cells) (stream-replaced-at s x w same u e) ∙ cells));
  }

  pub failure-kept : {t : ℕ} {common : Option CommonFailure} → FailureAt table k t common → FailureAt u k t common
  unfolding source_of
  failure-kept i = record {
    talker = talker-kept i.talker;
    is =
        rw (
          stream-replaced-scene s x w same u e cells,
          stream-replaced-at s x w same u e,
          same,
          cells,
        )
        i.is;
  }

  -- the inbound ports are the same
  pub inbound-kept : (set : ℕ) → set ≡ set_to (is_inbound (scene_of (decode table)).inbound) 8 → set ≡ set_to (is_inbound (scene_of (decode u)).inbound) 8
  inbound-kept set h = h ∙ ap (λ (sc : Scene). set_to (is_inbound sc.inbound) 8) (sym (stream-replaced-scene s x w same u e cells))

  pub changed-again : (g : Scene → Stream → Stream) (z : Stream) → g (scene_of (decode table)) x ≡ z
      → (y : List ℕ) → y ≡ encode (changed_at k g (decode u)) → y ≡ encode (with_stream k z (decode table))
  changed-again g z n y q =
      stream-replaced-again s x w same u e z y
      (q ∙ ap (λ (v : Stream). encode (with_stream k v (decode u))) (rw (stream-replaced-scene s x w same u e cells, stream-replaced-at s x w same u e) n))

-- The settled values taken over.

module _ {table : List ℕ} {k t : ℕ} (i : TalkerAt table k t) where
  abbrev x₀ : Stream
  x₀ = stream_at k (decode table)

  abbrev f : Fixed
  f = fixed_of (source_of x₀)

  settled-fits : FitStream (settled_as f x₀)
  settled-fits = settled-as-fits (stands i.stands) f (settled-values x₀ (stream-fits (stands i.stands)))

  module _ (u : List ℕ) (e : u ≡ encode (with_settled k (fixed_of (source_in t (cell_at x₀ t))) (decode table))) where
    settled-there : u ≡ encode (with_settled k f (decode table))
    settled-there = e ∙ ap (λ (o : Source). encode (with_settled k (fixed_of o) (decode table))) (rw i.is (sym (source-at x₀)))

    pub settled-talker : TalkerAt u k t
    settled-talker = talker-kept (stands i.stands) (settled_as f x₀) settled-fits refl refl u settled-there i

    pub settled-inbound : (set : ℕ) → set ≡ set_to (is_inbound (scene_of (decode table)).inbound) 8 → set ≡ set_to (is_inbound (scene_of (decode u)).inbound) 8
    settled-inbound = inbound-kept (stands i.stands) (settled_as f x₀) settled-fits refl refl u settled-there

    settled_at : (j : ℕ) → j < k + 1 → SettledTo table k → (stream_at j (decode u)).settled ≡ fixed_of (source_of (stream_at j (decode u)))
    unfolding holding source_of
    settled_at j h w = go (ltb j k) refl
      where
        read : decode u ≡ with_settled k f (decode table)
        read = stream-replaced-read (stands i.stands) (settled_as f x₀) settled-fits refl u settled-there

        go : (b : Bool) → ltb j k ≡ b → (stream_at j (decode u)).settled ≡ fixed_of (source_of (stream_at j (decode u)))
        go true e =
            let n = ltb-true j k e in
            let same : stream_at j (decode u) ≡ stream_at j (decode table) =
            ap (stream_at j) read ∙ get_or-set_other (decode table).streams k j (settled_as f x₀) (fresh 0) (λ q. omega (arith, q, n)) in
            rw same (w.values j n)
        go false e =
            let q : j ≡ k = omega (arith, ltb-false j k e) in
            rw (q, stream-replaced-at (stands i.stands) (settled_as f x₀) settled-fits refl u settled-there) refl

    pub settled-next : SettledTo table k → SettledTo u (k + 1)
    settled-next w =
        let s = stream-replaced-stands (stands i.stands) (settled_as f x₀) settled-fits refl u settled-there in
        record { laid = s.laid; within = omega (arith, s.held); values = λ j h. settled_at j h w }

    -- and after them the places
    pub settled-ports : (now : ℕ) (y : List ℕ) → y ≡ encode (changed_at k (early_to 8 now) (decode u)) → y ≡ encode (changed_at k (λ sc. early sc now) (decode table))
    settled-ports now =
        changed-again (stands i.stands) (settled_as f x₀) settled-fits refl refl u settled-there (early_to 8 now) (early (scene_of (decode table)) now x₀)
        (all-decided (scene_of (decode table)) now x₀ (stream-fits (stands i.stands)).eight_results)

-- The places, one after another.

module _ {table : List ℕ} {k t : ℕ} (i : TalkerAt table k t) (now : ℕ) (soon : now < 2 ^ 32) where
  pub ports-start : table ≡ encode (changed_at k (early_to 0 now) (decode table))
  ports-start =
      stream-same (stands i.stands)
      ∙ ap (λ (x : Stream). encode (with_stream k x (decode table))) (sym (none-decided (scene_of (decode table)) now (x₀ i)))

  module _ (n : ℕ) (few : n ≤ 8) (s : List ℕ) (e : s ≡ encode (changed_at k (early_to n now) (decode table))) where
    abbrev xₙ : Stream
    xₙ = early_to n now (scene_of (decode table)) (x₀ i)

    ports-fit-here : FitStream xₙ
    ports-fit-here =
        decided-fits (scene_of (decode table)) now (x₀ i) (laid-fits table i.stands.laid).settings.bridge_id soon (stream-fits (stands i.stands)) n few

    pub ports-failure : {common : Option CommonFailure} → FailureAt table k t common → FailureAt s k t common
    unfolding early_to
    ports-failure j = failure-kept (stands i.stands) xₙ ports-fit-here refl refl s e j

    pub ports-turn : n < 8 → (y : List ℕ) → y ≡ encode (changed_at k (early_one n now) (decode s)) → y ≡ encode (changed_at k (early_to (n + 1) now) (decode table))
    ports-turn h =
        changed-again (stands i.stands) xₙ ports-fit-here (unfold early_to in refl) (unfold early_to in refl) s e (early_one n now)
        (early_to (n + 1) now (scene_of (decode table)) (x₀ i))
        (next-decided (scene_of (decode table)) now (x₀ i) n (omega (arith, (stream-fits (stands i.stands)).eight_results)))

-- Every stream, one after another.

module _ (table : List ℕ) (l : Laid table) (now : ℕ) (soon : now < 2 ^ 32) where
  abbrev pub stage : Stream → Stream
  stage = early (scene_of (decode table)) now

  stage-fits : (x : Stream) → FitStream x → FitStream (stage x)
  stage-fits = early-fits (scene_of (decode table)) (laid-fits table l).settings.bridge_id now soon

  stage-id : (x : Stream) → (stage x).id ≡ x.id
  unfolding early
  stage-id x = refl

  module _ (k : ℕ) (s : List ℕ) (e : s ≡ encode (partly stage table k)) where
    pub next-stands : k < length (decode table).streams → Stands s k
    next-stands = partly-stands stage stage-fits stage-id table l k s e

    stage-cells : (x : Stream) → (stage x).cells ≡ x.cells
    unfolding early
    stage-cells x = refl

    same-scene : scene_of (decode s) ≡ scene_of (decode table)
    same-scene = partly-scene stage stage-fits stage-id table l k s e stage-cells

    pub next-settled : k ≤ length (decode table).streams → SettledTo s k
    unfolding early source_of
    next-settled h = record {
      laid = partly-laid stage stage-fits stage-id table l k s e;
      within = omega (arith, partly-many stage stage-fits stage-id table l k s e);
      values = λ j g. rw (partly-before stage stage-fits stage-id table l k s e j g h) refl;
    }

    pub next-inbound : (set : ℕ) → set ≡ set_to (is_inbound (scene_of (decode table)).inbound) 8 → set ≡ set_to (is_inbound (scene_of (decode s)).inbound) 8
    next-inbound set h = h ∙ ap (λ (sc : Scene). set_to (is_inbound sc.inbound) 8) (sym same-scene)

    pub next-done : (y : List ℕ) → y ≡ encode (changed_at k (λ sc. early sc now) (decode s)) → y ≡ encode (partly stage table (k + 1))
    next-done y q =
        one_more stage stage-fits stage-id table l k s e y
        (q ∙ ap (λ (sc : Scene). encode (with_stream k (early sc now (stream_at k (decode s))) (decode s))) same-scene)

    pub every-done : k ≡ length (decode table).streams → s ≡ encode (early_all now (decode table))
    unfolding early_all
    every-done = all_done stage table s k e
