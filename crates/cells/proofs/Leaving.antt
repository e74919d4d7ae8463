-- What `begun` does to a cell's octets, `quit` does to the cell; what `lapsed` does, `expire_cell` does.
use mathlib.Core.Path.{◌≡◌, refl, sym, ap, ◌∙◌, subst}
use mathlib.Core.List.{List, ◌++◌}
use mathlib.Core.Bool.{Bool, true, false, cond}
use Prim.Native.Nat.{ℕ, suc, ◌+◌, ◌≤◌, ◌<◌}
use native.Mathlib.Omega.{arith}
use lib.ListN.{length, get_or, set, take, length-set}
use lib.Dec.{eqb, leb}
use borrow.Author.Tests.{eq-eqb, ne_eqb}
use Rattle.octets.specs.Be.{be_at, be}
use Rattle.octets.specs.Parts.{part, patch, zeros}
use Rattle.octets.specs.Pick.{pick}
use Rattle.octets.specs.Fields.{packed, Fit, width}
use Rattle.octets.proofs.Fields.{length-fit, get-field, get-octet, put-field, clear-run}
use Rattle.model.specs.Layout.{cell_widths, cell_index, in_cell, listener_size}
use Rattle.model.specs.State.{Settings, Leaving, stays, since, TalkerType, talker_advertise, talker_failed, Registration, Talker, no_talker, talker, Ready, Listener, no_listener, listener, Cell}
use Rattle.model.specs.Registrations.{Kind, listeners, begin, talks_as, hears_as, with_leaving, quit_talker, quit_listener, quit}
use Rattle.model.specs.WrittenFrames.{fixed_numbers}
use Rattle.model.specs.Settling.{expired, expire_talker, expire_listener, expire_cell}
use Rattle.model.specs.Table.{leaving_number, since_number, talker_type_number, talker_numbers, listener_numbers, cell_numbers, cell_octets, to_cell}
use Rattle.model.specs.Laid.{FitCell, LaidCell}
use Rattle.model.proofs.Cells.{ready-number}
use Rattle.model.proofs.Fits.{laid-cell-is, laid-cell-fits}
use Rattle.model.specs.Attributes.{talker_kind_of, talker_number}
use Rattle.model.proofs.Attributes.{talkers_octets_of}
use Rattle.model.specs.declared.attribute.TalkerAttribute.{TalkerAttribute}
use Rattle.model.specs.declared.attribute.TalkerAttribute.TheVariants as attribute
use Rattle.cells.proofs.Keeps.{expire-first-fits}
use Rattle.cells.specs.Steps.{begun, lapsed}

-- what holds of the octets of a cell holds of octets that are laid out as one
pub laid : (P : List ℕ → Cell → Type 0) → ((c : Cell) → FitCell c → P (cell_octets c) c) → (s : List ℕ) → LaidCell s → P s (to_cell s)
laid P h s l = subst (λ (t : List ℕ). P t (to_cell s)) (sym (laid-cell-is s l)) (h (to_cell s) (laid-cell-fits s l))

-- the two ways of `begun`
module _ (at clock : ℕ) (s : List ℕ) where
  pub begun-now : get_or s at 0 ≡ 0 → patch (at + 1) 4 (be 4 clock) (patch at 1 (be 1 1) s) ≡ begun at clock s
  unfolding begun pick
  begun-now p = rw (eq-eqb (get_or s at 0) 0 p)

  pub begun-before : (get_or s at 0 ≡ 0 → ⊥) → s ≡ begun at clock s
  unfolding begun pick
  begun-before p = rw (ne_eqb (get_or s at 0) 0 p)

-- for the search at `begin`, whose goals are named after the test that an edit changes
pub ruleset begun_ways = (begun-now, begun-before)

-- Numbers in fields, a mark of one octet at field i and a time of four behind it.

module _ (ws vs : List ℕ) (fit : Fit ws vs) (i at : ℕ) (place : width (take i ws) ≡ at) (mark : get_or ws i 0 ≡ 1) (time : get_or ws (suc i) 0 ≡ 4)
    (next : width (take (suc i) ws) ≡ at + 1) where
  marks : get_or (packed ws vs) at 0 ≡ get_or vs i 0
  marks = rw place at (get-octet ws vs fit i mark)

  times : be_at 4 (packed ws vs) (at + 1) ≡ get_or vs (suc i) 0
  times = rw (time, next) at (get-field ws vs fit (suc i))

  pub begun-numbers : (clock : ℕ) → begun at clock (packed ws vs) ≡ packed ws (pick (eqb (get_or vs i 0) 0) (set (set vs i 1) (suc i) clock) vs)
  unfolding begun
  begun-numbers clock = rw marks (go (eqb (get_or vs i 0) 0))
    where
      size : length vs ≡ length ws
      size = length-fit ws vs fit

      first : patch at 1 (be 1 1) (packed ws vs) ≡ packed ws (set vs i 1)
      first = rw (place, mark) at (put-field ws vs i 1 size)

      second : patch (at + 1) 4 (be 4 clock) (packed ws (set vs i 1)) ≡ packed ws (set (set vs i 1) (suc i) clock)
      second = rw (next, time) at (put-field ws (set vs i 1) (suc i) clock (simp length-set size))

      go : (t : Bool) → pick t (patch (at + 1) 4 (be 4 clock) (patch at 1 (be 1 1) (packed ws vs))) (packed ws vs)
          ≡ packed ws (pick t (set (set vs i 1) (suc i) clock) vs)
      go true = unfold pick in rw first second
      go false = unfold pick in refl

  -- the k fields from field j on, cleared
  pub lapsed-numbers : (j k leave now : ℕ) → j + k ≤ length ws → lapsed (width (take j ws)) (width (part j k ws)) at leave now (packed ws vs)
      ≡ packed ws (pick (eqb (get_or vs i 0) 0) vs (pick (leb (get_or vs (suc i) 0 + leave) now) (patch j k (zeros k) vs) vs))
  unfolding lapsed
  lapsed-numbers j k leave now h = rw (marks, times) (go (eqb (get_or vs i 0) 0) (leb (get_or vs (suc i) 0 + leave) now))
    where
      gone : List ℕ
      gone = patch (width (take j ws)) (width (part j k ws)) (zeros (width (part j k ws))) (packed ws vs)

      go : (t u : Bool) → pick t (packed ws vs) (pick u gone (packed ws vs)) ≡ packed ws (pick t vs (pick u (patch j k (zeros k) vs) vs))
      go true u = unfold pick in refl
      go false true = unfold pick in clear-run ws vs j k (length-fit ws vs fit) h
      go false false = unfold pick in refl

-- Lv and LeaveAll.

-- the numbers after a leaving is begun: those of a Talker, and those of a Listener
talker-numbers : (clock : ℕ) (r : Registration) (l : Leaving) (h : Listener)
    → let vs = talker_numbers (talker (with_leaving l r)) ++ listener_numbers h in
    pick (eqb (get_or vs cell_index.talker_leaves 0) 0) (set (set vs cell_index.talker_leaves 1) cell_index.talker_since clock) vs ≡ talker_numbers (talker (with_leaving (begin clock l) r)) ++ listener_numbers h
unfolding with_leaving talker_numbers leaving_number since_number begin pick
talker-numbers clock r stays h = refl
talker-numbers clock r (since t) h = refl

listener-numbers : (clock : ℕ) (t : Talker) (r : Ready) (l : Leaving)
    → let vs = talker_numbers t ++ listener_numbers (listener r l) in
    pick (eqb (get_or vs cell_index.listener_leaves 0) 0) (set (set vs cell_index.listener_leaves 1) cell_index.listener_since clock) vs ≡ talker_numbers t ++ listener_numbers (listener r (begin clock l))
unfolding talker_numbers listener_numbers leaving_number since_number begin pick fixed_numbers
listener-numbers clock no_talker r stays = refl
listener-numbers clock no_talker r (since t) = refl
listener-numbers clock (talker k) r stays = refl
listener-numbers clock (talker k) r (since t) = refl

module _ (clock : ℕ) (c : Cell) (fit : FitCell c) where
  talker-begun : begun in_cell.talker_leaves clock (cell_octets c) ≡ packed cell_widths (pick (eqb (get_or (cell_numbers c) cell_index.talker_leaves 0) 0) (set (set (cell_numbers c) cell_index.talker_leaves 1) cell_index.talker_since clock) (cell_numbers c))
  unfolding cell_octets width
  talker-begun = begun-numbers cell_widths (cell_numbers c) fit.numbers cell_index.talker_leaves in_cell.talker_leaves refl refl refl refl clock

  listener-begun : begun in_cell.listener_leaves clock (cell_octets c) ≡ packed cell_widths (pick (eqb (get_or (cell_numbers c) cell_index.listener_leaves 0) 0) (set (set (cell_numbers c) cell_index.listener_leaves 1) cell_index.listener_since clock) (cell_numbers c))
  unfolding cell_octets width
  listener-begun = begun-numbers cell_widths (cell_numbers c) fit.numbers cell_index.listener_leaves in_cell.listener_leaves refl refl refl refl clock

-- what is held of one kind does not stop the other
talker-stays : (clock : ℕ) (t : Talker) → quit_talker clock listeners t ≡ t
unfolding quit_talker with_leaving talks_as
talker-stays clock no_talker = refl
talker-stays clock (talker r) = refl

listener-stays : (clock : ℕ) (k : Kind) → hears_as k ≡ false → (h : Listener) → quit_listener clock k h ≡ h
unfolding quit_listener
listener-stays clock k e no_listener = refl
listener-stays clock k e (listener r l) = rw e

-- the kinds, as a cell's octets have them
pub talker-kind : (c : Cell) → FitCell c → get_or (cell_octets c) 0 0 ≡ get_or (cell_numbers c) 0 0
unfolding cell_octets width
talker-kind c fit = get-octet cell_widths (cell_numbers c) fit.numbers 0 refl

listener-kind : (c : Cell) → FitCell c → get_or (cell_octets c) in_cell.listener 0 ≡ get_or (cell_numbers c) cell_index.listener 0
unfolding cell_octets width
listener-kind c fit = get-octet cell_widths (cell_numbers c) fit.numbers cell_index.listener refl

no-listener : (t : Talker) → get_or (talker_numbers t ++ listener_numbers no_listener) cell_index.listener 0 ≡ 0
unfolding talker_numbers listener_numbers fixed_numbers
no-listener no_talker = refl
no-listener (talker r) = refl

some-listener : (t : Talker) (r : Ready) (l : Leaving) → 1 ≤ get_or (talker_numbers t ++ listener_numbers (listener r l)) cell_index.listener 0
unfolding talker_numbers listener_numbers fixed_numbers
some-listener no_talker r l = (ready-number r).0
some-listener (talker k) r l = (ready-number r).0

-- a cell of a Talker and a Listener
abbrev pub both : Talker → Listener → Cell
both t h = record { talks = t; hears = h }

-- a held Talker's kind is that octet of its AttributeType
as-kind : (a : TalkerAttribute) (h : TalkerType)
    → (talker_number a ≡ talker_type_number h → talks_as (talker_kind_of a) h ≡ true) × ((talker_number a ≡ talker_type_number h → ⊥) → talks_as (talker_kind_of a) h ≡ false)
unfolding talks_as talker_type_number
as-kind attribute.Advertise talker_advertise = (λ e. refl, λ n. absurd (n refl))
as-kind attribute.Advertise (talker_failed b d) = (λ e. absurd (omega arith), λ n. refl)
as-kind attribute.Failed talker_advertise = (λ e. absurd (omega arith), λ n. refl)
as-kind attribute.Failed (talker_failed b d) = (λ e. refl, λ n. absurd (n refl))

some-number : (a : TalkerAttribute) → 1 ≤ talker_number a
some-number attribute.Advertise = omega arith
some-number attribute.Failed = omega arith

no-hearing : (a : TalkerAttribute) → hears_as (talker_kind_of a) ≡ false
unfolding hears_as
no-hearing attribute.Advertise = refl
no-hearing attribute.Failed = refl

module _ (clock : ℕ) where
  hears-begins : (t : Talker) (h : Listener) → FitCell (both t h) → 0 < get_or (cell_octets (both t h)) in_cell.listener 0
      → begun in_cell.listener_leaves clock (cell_octets (both t h)) ≡ cell_octets (quit clock listeners (both t h))
  unfolding cell_octets cell_numbers quit quit_listener hears_as
  hears-begins t no_listener fit p = absurd (omega (arith, listener-kind (both t no_listener) fit, no-listener t))
  hears-begins t (listener r l) fit p =
      rw (talker-stays clock t) (listener-begun clock (both t (listener r l)) fit ∙ ap (packed cell_widths) (listener-numbers clock t r l))

  hears-none : (t : Talker) (h : Listener) → FitCell (both t h) → get_or (cell_octets (both t h)) in_cell.listener 0 ≡ 0
      → cell_octets (both t h) ≡ cell_octets (quit clock listeners (both t h))
  unfolding cell_numbers quit quit_listener hears_as
  hears-none t no_listener fit p = rw (talker-stays clock t)
  hears-none t (listener r l) fit p = absurd (omega (arith, listener-kind (both t (listener r l)) fit, some-listener t r l))

  module _ (a : TalkerAttribute) where
    talks-begins : (t : Talker) (h : Listener) → FitCell (both t h) → get_or (cell_octets (both t h)) 0 0 ≡ talker_number a
        → begun in_cell.talker_leaves clock (cell_octets (both t h)) ≡ cell_octets (quit clock (talker_kind_of a) (both t h))
    unfolding cell_octets cell_numbers quit quit_talker with_leaving talker_numbers
    talks-begins no_talker h fit p = absurd (omega (arith, talker-kind (both no_talker h) fit, some-number a))
    talks-begins (talker r) h fit p =
        rw (listener-stays clock (talker_kind_of a) (no-hearing a) h, (as-kind a r.varying.type).0 (sym p ∙ talker-kind (both (talker r) h) fit))
        (talker-begun clock (both (talker r) h) fit ∙ ap (packed cell_widths) (talker-numbers clock r r.leaving h))

    talks-other : (t : Talker) (h : Listener) → FitCell (both t h) → (get_or (cell_octets (both t h)) 0 0 ≡ talker_number a → ⊥)
        → cell_octets (both t h) ≡ cell_octets (quit clock (talker_kind_of a) (both t h))
    unfolding cell_octets cell_numbers quit quit_talker with_leaving talker_numbers
    talks-other no_talker h fit p = rw (listener-stays clock (talker_kind_of a) (no-hearing a) h)
    talks-other (talker r) h fit p =
        rw (listener-stays clock (talker_kind_of a) (no-hearing a) h, (as-kind a r.varying.type).1 (λ e. p (talker-kind (both (talker r) h) fit ∙ sym e)))

-- of octets that are laid out as a cell, at the octets that the code looks at
module _ (s : List ℕ) (l : LaidCell s) (clock : ℕ) where
  pub quits-listener : 0 < get_or s in_cell.listener 0 → begun in_cell.listener_leaves clock s ≡ cell_octets (quit clock listeners (to_cell s))
  quits-listener =
      laid (λ s c. 0 < get_or s in_cell.listener 0 → begun in_cell.listener_leaves clock s ≡ cell_octets (quit clock listeners c)) (λ c. hears-begins clock c.talks c.hears) s l

  pub quits-no-listener : get_or s in_cell.listener 0 ≡ 0 → s ≡ cell_octets (quit clock listeners (to_cell s))
  quits-no-listener =
      laid (λ s c. get_or s in_cell.listener 0 ≡ 0 → s ≡ cell_octets (quit clock listeners c)) (λ c. hears-none clock c.talks c.hears) s l

  module _ (a : TalkerAttribute) where
    pub quits-talker : get_or s 0 0 ≡ talker_number a → begun in_cell.talker_leaves clock s ≡ cell_octets (quit clock (talker_kind_of a) (to_cell s))
    quits-talker =
        laid (λ s c. get_or s 0 0 ≡ talker_number a → begun in_cell.talker_leaves clock s ≡ cell_octets (quit clock (talker_kind_of a) c)) (λ c. talks-begins clock a c.talks c.hears) s l

    pub quits-no-talker : (get_or s 0 0 ≡ talker_number a → ⊥) → s ≡ cell_octets (quit clock (talker_kind_of a) (to_cell s))
    quits-no-talker =
        laid (λ s c. (get_or s 0 0 ≡ talker_number a → ⊥) → s ≡ cell_octets (quit clock (talker_kind_of a) c)) (λ c. talks-other clock a c.talks c.hears) s l

-- for the search at `quit`
pub ruleset quits = (quits-listener, quits-no-listener, quits-talker, quits-no-talker, talkers_octets_of)

-- Expiry.

module _ (st : Settings) (now : ℕ) where
  talker-expired : (t : Talker) (h : Listener)
      → let vs = talker_numbers t ++ listener_numbers h in
      pick (eqb (get_or vs cell_index.talker_leaves 0) 0) vs (pick (leb (get_or vs cell_index.talker_since 0 + st.leave_time) now) (patch 0 cell_index.listener (zeros cell_index.listener) vs) vs)
      ≡ talker_numbers (expire_talker st now t) ++ listener_numbers h
  unfolding talker_numbers leaving_number since_number fixed_numbers expire_talker expired with_leaving pick patch
  talker-expired no_talker h = refl
  talker-expired (talker r) h = by-leaving r.leaving
    where
      vs : Leaving → List ℕ
      vs l = talker_numbers (talker (with_leaving l r)) ++ listener_numbers h

      over : (l : Leaving) (u : Bool) → pick u (patch 0 cell_index.listener (zeros cell_index.listener) (vs l)) (vs l) ≡ talker_numbers (cond u no_talker (talker (with_leaving l r))) ++ listener_numbers h
      over l true = refl
      over l false = refl

      by-leaving : (l : Leaving)
          → pick (eqb (get_or (vs l) cell_index.talker_leaves 0) 0) (vs l) (pick (leb (get_or (vs l) cell_index.talker_since 0 + st.leave_time) now) (patch 0 cell_index.listener (zeros cell_index.listener) (vs l)) (vs l))
          ≡ talker_numbers (expire_talker st now (talker (with_leaving l r))) ++ listener_numbers h
      by-leaving stays = refl
      by-leaving (since t) = over (since t) (leb (t + st.leave_time) now)

  listener-over : (t : Talker) (r : Ready) (x : ℕ) (u : Bool)
      → let vs = talker_numbers t ++ listener_numbers (listener r (since x)) in
      pick u (patch cell_index.listener 3 (zeros 3) vs) vs ≡ talker_numbers t ++ listener_numbers (cond u no_listener (listener r (since x)))
  unfolding talker_numbers listener_numbers fixed_numbers pick patch
  listener-over no_talker r x true = refl
  listener-over (talker k) r x true = refl
  listener-over t r x false = refl

  listener-expired : (t : Talker) (h : Listener)
      → let vs = talker_numbers t ++ listener_numbers h in
      pick (eqb (get_or vs cell_index.listener_leaves 0) 0) vs (pick (leb (get_or vs cell_index.listener_since 0 + st.leave_time) now) (patch cell_index.listener 3 (zeros 3) vs) vs)
      ≡ talker_numbers t ++ listener_numbers (expire_listener st now h)
  unfolding talker_numbers listener_numbers leaving_number since_number fixed_numbers expire_listener expired pick
  listener-expired no_talker no_listener = refl
  listener-expired no_talker (listener r stays) = refl
  listener-expired no_talker (listener r (since x)) = listener-over no_talker r x (leb (x + st.leave_time) now)
  listener-expired (talker k) no_listener = refl
  listener-expired (talker k) (listener r stays) = refl
  listener-expired (talker k) (listener r (since x)) = listener-over (talker k) r x (leb (x + st.leave_time) now)

  module _ (t : Talker) (h : Listener) (fit : FitCell (both t h)) where
    expires-talker : lapsed 0 in_cell.listener in_cell.talker_leaves st.leave_time now (cell_octets (both t h)) ≡ cell_octets (both (expire_talker st now t) h)
    unfolding cell_octets cell_numbers width part
    expires-talker =
        lapsed-numbers cell_widths (cell_numbers (both t h)) fit.numbers cell_index.talker_leaves in_cell.talker_leaves refl refl refl refl 0 cell_index.listener st.leave_time now (omega arith)
        ∙ ap (packed cell_widths) (talker-expired t h)

    expires-listener : lapsed in_cell.listener listener_size in_cell.listener_leaves st.leave_time now (cell_octets (both t h)) ≡ cell_octets (both t (expire_listener st now h))
    unfolding cell_octets cell_numbers width part
    expires-listener =
        lapsed-numbers cell_widths (cell_numbers (both t h)) fit.numbers cell_index.listener_leaves in_cell.listener_leaves refl refl refl refl cell_index.listener 3 st.leave_time now (omega arith)
        ∙ ap (packed cell_widths) (listener-expired t h)

  expires : (c : Cell) → FitCell c → lapsed in_cell.listener listener_size in_cell.listener_leaves st.leave_time now (lapsed 0 in_cell.listener in_cell.talker_leaves st.leave_time now (cell_octets c)) ≡ cell_octets (expire_cell st now c)
  unfolding expire_cell
  expires c fit =
      rw (expires-talker c.talks c.hears fit)
      (expires-listener (expire_talker st now c.talks) c.hears (expire-first-fits st now c fit))

-- first the Talker, then the Listener
pub expires_both : (st : Settings) (leave now : ℕ) → st.leave_time ≡ leave → (s y z : List ℕ) → LaidCell s
    → y ≡ lapsed 0 in_cell.listener in_cell.talker_leaves leave now s → z ≡ lapsed in_cell.listener listener_size in_cell.listener_leaves leave now y → z ≡ cell_octets (expire_cell st now (to_cell s))
expires_both st leave now e s y z l p q =
    rw (q, p, ← e)
    (laid (λ s c. lapsed in_cell.listener listener_size in_cell.listener_leaves st.leave_time now (lapsed 0 in_cell.listener in_cell.talker_leaves st.leave_time now s) ≡ cell_octets (expire_cell st now c)) (expires st now) s l)
