-- What the cell at a stream's Talker port says in fields that are zero without a Talker: latency, destination, MaxFrameSize,
-- priority, and the fixed values' octets.
use mathlib.Core.Path.{◌≡◌, refl, sym, ap, ◌∙◌}
use mathlib.Core.List.{List}
use mathlib.Core.Bool.{Bool, true, false}
use Prim.Native.Nat.{ℕ, ◌+◌, ◌/◌, ◌≤◌, ◌<◌}
use native.Mathlib.Omega.{arith}
use lib.ListN.{get_or}
use lib.Dec.{eqb}
use borrow.Author.Tests.{eq-eqb, ne_eqb, eqb-true, eqb-false, lt-ltb, le-ltb}
use Rattle.octets.specs.Be.{be_at}
use Rattle.octets.specs.Fields.{fields}
use Rattle.model.specs.Layout.{in_cell, cell_index}
use Rattle.model.specs.State.{Settings, none, failed, is_no_class, Talker, no_talker, talker, Cell, Stream, no_fixed, port_at, cell_at, class_of, class_latency}
use Rattle.model.specs.WrittenFrames.{priority_octet, fixed_numbers}
use Rattle.model.specs.Settling.{Source, source_of, fixed_of, latency_of, talker_type_of, failed_column, stream_class, capped, latency_out}
use Rattle.model.specs.Table.{to_port, port_from, cell_numbers, talker_numbers, registration_from, to_talker_type, to_cell}
use Rattle.model.specs.Laid.{FitRank}
use Rattle.model.proofs.Fits.{laid-cell-fits}
use Rattle.table.specs.Reads.{ReadsCell, ReadsPort}
use Rattle.streams.specs.declared.Class.{Class}
use Rattle.streams.specs.declared.Class.TheVariants.{A, B}
use Rattle.streams.specs.Answers.{named, talker_port, source_in}
use Rattle.model.proofs.SettingsOctets.{octet-field}
use Rattle.streams.proofs.Sources.{no-talker, a-talker}
pub use Rattle.streams.proofs.Fixed.{fixed-part, source-read}
use Rattle.streams.proofs.Fixed.{numbers-laid}
use Rattle.columns.specs.Answers.{latency_place_of, size_place}

-- Of the numbers of any cell.

latency-number : (t : ℕ) (k : Talker) (c : Cell) → c.talks ≡ k → get_or (cell_numbers c) cell_index.latency 0 ≡ latency_of (source_in t c)
unfolding latency_of source_in cell_numbers talker_numbers fixed_numbers
latency-number t no_talker c e = rw e
latency-number t (talker r) c e = rw e

priority-number : (t : ℕ) (k : Talker) (c : Cell) → c.talks ≡ k → FitRank k → get_or (cell_numbers c) cell_index.priority 0 / 32 ≡ (fixed_of (source_in t c)).priority
unfolding fixed_of no_fixed source_in cell_numbers talker_numbers fixed_numbers priority_octet
priority-number t no_talker c e r = rw e
priority-number t (talker k) c e r = rw e (omega arith)

size_number : (t : ℕ) (k : Talker) (c : Cell) → c.talks ≡ k → get_or (cell_numbers c) (cell_index.fixed + 2) 0 ≡ (fixed_of (source_in t c)).size
unfolding fixed_of no_fixed source_in cell_numbers talker_numbers fixed_numbers
size_number t no_talker c e = rw e
size_number t (talker r) c e = rw e

destination-number : (t : ℕ) (k : Talker) (c : Cell) → c.talks ≡ k → get_or (cell_numbers c) cell_index.fixed 0 ≡ (fixed_of (source_in t c)).destination
unfolding fixed_of no_fixed source_in cell_numbers talker_numbers fixed_numbers
destination-number t no_talker c e = rw e
destination-number t (talker r) c e = rw e

-- The failure that the octets of a cell say, by their kind.

module _ (s : List ℕ) (t : ℕ) where
  pub no-failure : get_or s 0 0 < 2 → none ≡ failed_column (talker_type_of (source_in t (to_cell s)))
  unfolding source_in talker_type_of failed_column registration_from to_talker_type fields
  no-failure h = go (eqb (get_or s 0 0) 0) refl
    where
      go : (b : Bool) → eqb (get_or s 0 0) 0 ≡ b → none ≡ failed_column (talker_type_of (source_in t (to_cell s)))
      go true e = rw (no-talker s (eqb-true (get_or s 0 0) 0 e))
      go false e =
          let n = eqb-false (get_or s 0 0) 0 e in
          rw (a-talker s n, octet-field s 0, eq-eqb (get_or s 0 0) 1 (omega (arith, n)))

  pub a-failure : 2 ≤ get_or s 0 0 → failed (be_at 8 s in_cell.bridge) (get_or s in_cell.code 0) ≡ failed_column (talker_type_of (source_in t (to_cell s)))
  unfolding source_in talker_type_of failed_column registration_from to_talker_type fields
  a-failure h =
      rw (a-talker s (λ e. omega (arith, e)), octet-field s 0, octet-field s in_cell.code, ne_eqb (get_or s 0 0) 1 (λ e. omega (arith, e)))

-- Of a class.

pub a-class : (c : Class) → is_no_class (named c) ≡ false
unfolding is_no_class named
a-class A = refl
a-class B = refl

pub latency_of_class : (port : List ℕ) (c : Class) → class_latency (to_port port) (named c) ≡ be_at 4 port (latency_place_of c)
unfolding latency_place_of named class_latency to_port port_from fields
latency_of_class port A = refl
latency_of_class port B = refl

-- The cell at place t of a stream whose Talker stands there, in the octets s.

module _ (x : Stream) (t : ℕ) (e : t ≡ talker_port (source_of x)) (s : List ℕ) (r : ReadsCell s (cell_at x t)) where
  latency-read : be_at 4 s in_cell.latency ≡ latency_of (source_of x)
  unfolding fields
  latency-read =
      ap (λ (vs : List ℕ). get_or vs cell_index.latency 0) (numbers-laid s r.laid)
      ∙ latency-number t (to_cell s).talks (to_cell s) refl
      ∙ ap latency_of (source-read x t e s r)

  pub size-read : be_at 2 s size_place ≡ (fixed_of (source_of x)).size
  unfolding fields
  size-read =
      ap (λ (vs : List ℕ). get_or vs (cell_index.fixed + 2) 0) (numbers-laid s r.laid)
      ∙ size_number t (to_cell s).talks (to_cell s) refl
      ∙ ap (λ (o : Source). (fixed_of o).size) (source-read x t e s r)

  pub destination-read : be_at 6 s in_cell.fixed ≡ (fixed_of (source_of x)).destination
  unfolding fields
  destination-read =
      ap (λ (vs : List ℕ). get_or vs cell_index.fixed 0) (numbers-laid s r.laid)
      ∙ destination-number t (to_cell s).talks (to_cell s) refl
      ∙ ap (λ (o : Source). (fixed_of o).destination) (source-read x t e s r)

  priority-read : be_at 1 s in_cell.priority / 32 ≡ (fixed_of (source_of x)).priority
  unfolding fields
  priority-read =
      ap (λ (vs : List ℕ). get_or vs cell_index.priority 0 / 32) (numbers-laid s r.laid)
      ∙ priority-number t (to_cell s).talks (to_cell s) refl (laid-cell-fits s r.laid).rank
      ∙ ap (λ (o : Source). (fixed_of o).priority) (source-read x t e s r)

  -- latency out, from the latency in and the class latency that were read
  module _ (st : Settings) (p : ℕ) (port : List ℕ) (q : ReadsPort port (port_at st p)) (taken class : ℕ) (f : taken ≡ be_at 4 s in_cell.latency)
      (g : class ≡ class_latency (to_port port) (class_of st (be_at 1 s in_cell.priority / 32))) where
    latency-sum : latency_out st p x ≡ capped (taken + class)
    unfolding latency_out stream_class
    latency-sum = rw (f, g, q.is, latency-read, priority-read)

    pub latency-capped : 4294967295 < taken + class → 4294967295 ≡ latency_out st p x
    unfolding capped
    latency-capped h = sym (latency-sum ∙ rw (lt-ltb 4294967295 (taken + class) h))

    pub latency-whole : taken + class ≤ 4294967295 → taken + class ≡ latency_out st p x
    unfolding capped
    latency-whole h = sym (latency-sum ∙ rw (le-ltb 4294967295 (taken + class) h))
