-- The Talker port: the lowest place with a Talker, found by the cells' first octets.
use mathlib.Core.Path.{◌≡◌, refl, sym, ap, ◌∙◌}
use mathlib.Core.List.{List, [], ◌∷◌}
use Prim.Native.Nat.{ℕ, zero, suc, ◌+◌, ◌-◌, ◌≤◌, ◌<◌}
use native.Mathlib.Omega.{arith}
use lib.ListN.{length, get_or, drop}
use lib.Seq.{drop-cons, drop-length}
use borrow.Author.Tests.{eq-eqb, ne_eqb}
use Rattle.std.specs.Prelude.{Option, Some, unwrap_or}
use Rattle.octets.specs.Be.{be_at}
use Rattle.octets.specs.Fields.{fields}
use Rattle.model.specs.Layout.{cell_widths}
use Rattle.model.specs.State.{Registration, Talker, no_talker, talker, Cell, Stream, empty, cell_at}
use Rattle.model.specs.Settling.{Origin, Source, nowhere, from, source, source_of}
use Rattle.model.specs.Table.{decode, to_cell, cell_from, registration_from, talker_from}
use Rattle.model.proofs.SettingsOctets.{octet-field}
use Rattle.table.specs.Updates.{stream_at}
use Rattle.table.specs.Places as places
use Rattle.table.proofs.ByPlace.{stream-fits}
use Rattle.streams.specs.Answers.{source_port, talker_port, source_in}

-- The Talker that a cell's octets say.

pub no-talker : (s : List ℕ) → get_or s 0 0 ≡ 0 → (to_cell s).talks ≡ no_talker
unfolding to_cell cell_from talker_from fields
no-talker s e = rw (eq-eqb (be_at 1 s 0) 0 (octet-field s 0 ∙ e))

pub a-talker : (s : List ℕ) → (get_or s 0 0 ≡ 0 → ⊥) → (to_cell s).talks ≡ talker (registration_from (fields cell_widths 0 s))
unfolding to_cell cell_from talker_from fields
a-talker s n = rw (ne_eqb (be_at 1 s 0) 0 (λ e. n (sym (octet-field s 0) ∙ e)))

-- The search, from place p on, where s are the octets of the cell.

module _ (x : Stream) (l : length x.cells ≡ 8) where
  pub source-none : source 8 (drop 8 x.cells) ≡ nowhere
  unfolding source
  source-none = rw (← l, drop-length)

  module _ (p : ℕ) (h : p < 8) (s : List ℕ) (e : to_cell s ≡ cell_at x p) where
    from-here : source p (drop p x.cells) ≡ source p (to_cell s ∷ drop (suc p) x.cells)
    unfolding cell_at
    from-here =
        ap (source p) (drop-cons x.cells p empty (omega (arith, l))) ∙ ap (λ (c : Cell). source p (c ∷ drop (suc p) x.cells)) (sym e)

    pub source-here : (get_or s 0 0 ≡ 0 → ⊥) → Some p ≡ source_port (source p (drop p x.cells))
    unfolding source source_port
    source-here n = sym (ap source_port from-here ∙ rw (a-talker s n))

    pub source-past : get_or s 0 0 ≡ 0 → source (suc p) (drop (suc p) x.cells) ≡ source p (drop p x.cells)
    unfolding source
    source-past n = sym (from-here ∙ rw (no-talker s n))

-- What is registered at the Talker port.

-- one cell more: its own Talker, or what the next ones have
source-talker : (p : ℕ) (c : Cell) (cs : List Cell) (r : Registration) → c.talks ≡ talker r
    → source p (c ∷ cs) ≡ from record { port = p; registration = r }
unfolding source
source-talker p c cs r e = rw e

source-next : (p : ℕ) (c : Cell) (cs : List Cell) → c.talks ≡ no_talker → source p (c ∷ cs) ≡ source (suc p) cs
unfolding source
source-next p c cs e = rw e

-- with no Talker port no place has a Talker
nowhere-in : (p : ℕ) (cs : List Cell) → source p cs ≡ nowhere → (i t : ℕ) → source_in t (get_or cs i empty) ≡ nowhere
unfolding source_in empty
nowhere-in p [] e i t = refl
nowhere-in p (c ∷ cs) e i t = go c.talks refl (nowhere-in (suc p) cs) i
  where
    go : (k : Talker) → c.talks ≡ k → (source (suc p) cs ≡ nowhere → (i t : ℕ) → source_in t (get_or cs i empty) ≡ nowhere)
        → (i : ℕ) → source_in t (get_or (c ∷ cs) i empty) ≡ nowhere
    go no_talker q ih zero = rw q
    go no_talker q ih (suc i) = ih (sym (source-next p c cs q) ∙ e) i t
    go (talker r) q ih i =
        let b : from record { port = p; registration = r } ≡ nowhere = sym (source-talker p c cs r q) ∙ e in
        let z : ◌≡◌ {A = ℕ} 0 1 = cc in
        absurd (omega arith)

-- the place at which a source stands, among those from p on
record Stands (p : ℕ) (cs : List Cell) (o : Origin) : Type 0 where
  after : p ≤ o.port
  within : o.port < p + length cs
  is : source_in o.port (get_or cs (o.port - p) empty) ≡ from o

stands : (p : ℕ) (cs : List Cell) (o : Origin) → source p cs ≡ from o → Stands p cs o
unfolding source_in
stands p [] o e =
    let b : nowhere ≡ from o = unfold source in e in
    let z : ◌≡◌ {A = ℕ} 0 1 = cc in
    absurd (omega arith)
stands p (c ∷ cs) o e = go c.talks refl (stands (suc p) cs o)
  where
    go : (k : Talker) → c.talks ≡ k → (source (suc p) cs ≡ from o → Stands (suc p) cs o) → Stands p (c ∷ cs) o
    go no_talker q ih =
        let w = ih (sym (source-next p c cs q) ∙ e) in
        let n : o.port - p ≡ suc (o.port - suc p) = omega (arith, w.after) in
        record { after = omega (arith, w.after); within = omega (arith, w.within); is = rw n w.is }
    go (talker r) q ih =
        let b : from record { port = p; registration = r } ≡ from o = sym (source-talker p c cs r q) ∙ e in
        let z : p ≡ o.port = cc in
        let y : o.port - p ≡ 0 = omega arith in
        record { after = omega arith; within = omega arith; is = rw y (rw q (rw z at b)) }

module _ (x : Stream) where
  by-source : (r : Source) → source_of x ≡ r → source_of x ≡ source_in (talker_port r) (cell_at x (talker_port r))
  unfolding source_of cell_at source_port
  by-source nowhere e = e ∙ sym (nowhere-in 0 x.cells e 0 0)
  by-source (from o) e =
      let z : o.port - 0 ≡ o.port = omega arith in
      e ∙ sym (rw z at (stands 0 x.cells o e).is)

  -- the source of a stream is what its Talker port has registered; without one, what place 0 has
  pub source-at : source_of x ≡ source_in (talker_port (source_of x)) (cell_at x (talker_port (source_of x)))
  source-at = by-source (source_of x) refl

  pub port_bound : length x.cells ≡ 8 → talker_port (source_of x) < 8
  unfolding source_of source_port
  port_bound l = go (source_of x) refl
    where
      go : (r : Source) → source 0 x.cells ≡ r → talker_port r < 8
      go nowhere e = omega arith
      go (from o) e = omega (arith, (stands 0 x.cells o e).within)

-- a stream that is held has eight ports
pub port_below : (t : List ℕ) (k : ℕ) → places.Stands t k → talker_port (source_of (stream_at k (decode t))) < 8
port_below t k s = port_bound (stream_at k (decode t)) (stream-fits s).eight_cells

pub port-is : (r : Source) (t : ℕ) → source_port r ≡ Some t → t ≡ talker_port r
port-is r t e = sym (ap (λ (o : Option ℕ). unwrap_or o 0) e)
