-- Changes of a bridge after which every number still fits its field: a cell, a result, what is sent, a record, a stream put in, streams
-- dropped, the clock, the totals, what a port holds and sends by itself.
use Prim.Native.Nat.{ℕ, zero, suc, ◌^◌, ◌≤◌, ◌<◌}
use native.Mathlib.Omega.{arith}
use mathlib.Core.Path.{◌≡◌, refl, sym, ap, ◌∙◌, subst}
use mathlib.Core.List.{List, [], ◌∷◌, ◌++◌, map}
use lib.ListN.{length, get_or, set, take, drop, replicate, length-set, length-map}
use Rattle.octets.specs.Fields.{Fit}
use Rattle.octets.proofs.Fields.{fit-zeros}
use Rattle.model.specs.Layout.{cell_widths, fixed_widths, result_widths}
use Rattle.model.specs.Lists.{All}
use Rattle.model.specs.State.{Cell, Own, Result, Sends, Sender, Stream, Totals, Bridge, empty, unsettled, no_fixed, no_sends, blank, fresh, no_totals}
use Rattle.model.specs.Registrations.{at, change, holding, owning, sending, together, ids}
use Rattle.model.specs.Settling.{drop_unheld}
use Rattle.model.specs.WrittenFrames.{priority_octet, fixed_numbers}
use Rattle.model.specs.Table.{cell_numbers, talker_numbers, listener_numbers, result_numbers, column_number, column_bridge, column_code, entry_number, declared_number}
use Rattle.model.specs.Laid.{FitCell, FitResult, FitSends, FitSender, FitStream, FitTotals, FitOwn, FitBridge, Ascending}
use Rattle.model.proofs.Lists.{all_replicate, all_append, all_take, all_drop, all_set, length_at, all_changed}
use Rattle.model.proofs.Parts.{◌also◌, rising-ascends, ascending-rises}
use Rattle.model.proofs.AdvanceKeepsForm.{all-dropped, fewer-dropped, dropped-rising}
use Rattle.model.proofs.FrameOrder.{joined, rising-together}
use Rattle.std.specs.Prelude.{Err}
use Rattle.table.specs.Find.{found_at}
use Rattle.table.specs.Updates.{clocked, totalled, inserted, resulting}
use Rattle.table.proofs.Places.{at_gap, length-put-in, room-gap}

-- A stream with its cell at a place changed.

pub changed-fits : (p : ℕ) (u : Cell → Cell) → ((c : Cell) → FitCell c → FitCell (u c)) → (x : Stream) → FitStream x
    → FitStream (change (at p u) (λ m. m) x)
unfolding change
changed-fits p u k x w = record {
  name = w.name;
  rank = w.rank;
  eight_cells = length_at p u x.cells ∙ w.eight_cells;
  cells = all_changed FitCell p u x.cells k w.cells;
  eight_results = w.eight_results;
  results = w.results;
  eight_sends = w.eight_sends;
  sends = w.sends;
}

-- A stream with what is sent of it at a place changed.

pub changed-sends-fit : (p : ℕ) (u : Sends → Sends) → ((y : Sends) → FitSends y → FitSends (u y)) → (x : Stream) → FitStream x
    → FitStream (change (λ l. l) (at p u) x)
unfolding change
changed-sends-fit p u k x w = record {
  name = w.name;
  rank = w.rank;
  eight_cells = w.eight_cells;
  cells = w.cells;
  eight_results = w.eight_results;
  results = w.results;
  eight_sends = length_at p u x.sends ∙ w.eight_sends;
  sends = all_changed FitSends p u x.sends k w.sends;
}

-- A stream with its result at a place replaced.

pub set-result-fits : (p : ℕ) (r : Result) → FitResult r → (x : Stream) → FitStream x → FitStream (resulting (λ l. set l p r) x)
set-result-fits p r f x w = record {
  name = w.name;
  rank = w.rank;
  eight_cells = w.eight_cells;
  cells = w.cells;
  eight_results = length-set x.results p r ∙ w.eight_results;
  results = all_set FitResult x.results p r w.results f;
  eight_sends = w.eight_sends;
  sends = w.sends;
}

-- A stream without registrations.

pub empty-fits : FitCell empty
unfolding empty cell_numbers talker_numbers listener_numbers
empty-fits = record { numbers = fit-zeros cell_widths; rank = tt }

pub unsettled-fits : FitResult unsettled
unfolding unsettled result_numbers column_number column_bridge column_code entry_number declared_number
unsettled-fits = fit-zeros result_widths

pub no-sends-fit : FitSends no_sends
unfolding no_sends
no-sends-fit = record { advertising = tt; failing = tt }

pub fresh-fits : (id : ℕ) → id < 2 ^ 64 → FitStream (fresh id)
unfolding fresh blank no_fixed fixed_numbers priority_octet Fit
fresh-fits id h = record {
  name = h also fit-zeros fixed_widths;
  rank = omega arith;
  eight_cells = refl;
  cells = all_replicate FitCell 8 empty empty-fits;
  eight_results = refl;
  results = all_replicate FitResult 8 unsettled unsettled-fits;
  eight_sends = refl;
  sends = all_replicate FitSends 8 no_sends no-sends-fit;
}

-- Other streams held.

pub holding-fits : (b : Bridge) → FitBridge b → (s : List Stream) → length s ≤ 64 → All FitStream s → Ascending (ids s) → FitBridge (holding b s)
unfolding holding
holding-fits b w s few all rise = record {
  settings = w.settings;
  clock = w.clock;
  eight_totals = w.eight_totals;
  totals = w.totals;
  eight_owns = w.eight_owns;
  owns = w.owns;
  eight_senders = w.eight_senders;
  senders = w.senders;
  at_most_64 = few;
  streams = all;
  ascending = rise;
}

-- one replaced by one of its StreamID
pub ids_set : (s : List Stream) (k : ℕ) (d y : Stream) → y.id ≡ (get_or s k d).id → ids (set s k y) ≡ ids s
unfolding ids
ids_set [] k d y e = refl
ids_set (x ∷ s) zero d y e = ap (λ (i : ℕ). i ∷ ids s) e
ids_set (x ∷ s) (suc k) d y e = ap (λ (l : List ℕ). x.id ∷ l) (ids_set s k d y e)

pub set-fits : (b : Bridge) → FitBridge b → (k : ℕ) (y : Stream) → FitStream y → y.id ≡ (get_or b.streams k (fresh 0)).id
    → FitBridge (holding b (set b.streams k y))
set-fits b w k y f e =
    holding-fits b w (set b.streams k y) (omega (arith, length-set b.streams k y, w.at_most_64)) (all_set FitStream b.streams k y w.streams f)
    (subst Ascending (sym (ids_set b.streams k (fresh 0) y e)) w.ascending)

-- each changed, its StreamID kept
ids-map : (g : Stream → Stream) → ((x : Stream) → (g x).id ≡ x.id) → (s : List Stream) → ids (map g s) ≡ ids s
unfolding ids
ids-map g same [] = refl
ids-map g same (x ∷ s) = rw (same x, ids-map g same s)

all-mapped : (g : Stream → Stream) → ((x : Stream) → FitStream x → FitStream (g x)) → (s : List Stream) → All FitStream s → All FitStream (map g s)
all-mapped g keeps [] a = tt
all-mapped g keeps (x ∷ s) a = (keeps x a.0, all-mapped g keeps s a.1)

pub map-fits : (b : Bridge) → FitBridge b → (g : Stream → Stream) → ((x : Stream) → FitStream x → FitStream (g x)) → ((x : Stream) → (g x).id ≡ x.id)
    → FitBridge (holding b (map g b.streams))
map-fits b w g keeps same =
    holding-fits b w (map g b.streams) (omega (arith, length-map b.streams g, w.at_most_64)) (all-mapped g keeps b.streams w.streams)
    (subst Ascending (sym (ids-map g same b.streams)) w.ascending)

-- one put in, where it is missing
ids-put-in : (k id : ℕ) (s : List Stream) → found_at id 0 (ids s) ≡ Err k → ids (take k s ++ (fresh id ∷ drop k s)) ≡ together (ids s) (id ∷ [])
unfolding together
ids-put-in k id s f = ap ids (sym (room-gap id k s f)) ∙ joined (λ x. x) (λ x. refl) id s

all-put-in : (k : ℕ) (y : Stream) (s : List Stream) → FitStream y → All FitStream s → All FitStream (take k s ++ (y ∷ drop k s))
all-put-in k y s f a = all_append FitStream (take k s) (y ∷ drop k s) (all_take FitStream k s a) (f, all_drop FitStream k s a)

pub inserted-fits : (b : Bridge) → FitBridge b → (k id : ℕ) → found_at id 0 (ids b.streams) ≡ Err k → id < 2 ^ 64 → length b.streams < 64
    → FitBridge (inserted k id b)
inserted-fits b w k id f h few =
    let s = b.streams in
    holding-fits b w (take k s ++ (fresh id ∷ drop k s)) (omega (arith, length-put-in id k s (at_gap id k s f).within))
    (all-put-in k (fresh id) s (fresh-fits id h) w.streams)
    (subst Ascending (sym (ids-put-in k id s f))
    (rising-ascends (together (ids s) (id ∷ [])) (rising-together (id ∷ []) (ids s) (ascending-rises (ids s) w.ascending))))

-- those that are not held dropped
pub held_fits : (b : Bridge) → FitBridge b → FitBridge (holding b (drop_unheld b.streams))
held_fits b w =
    let s = b.streams in
    holding-fits b w (drop_unheld s) (omega (arith, fewer-dropped s, w.at_most_64)) (all-dropped FitStream FitStream (λ x h f. f) s w.streams)
    (rising-ascends (ids (drop_unheld s)) (dropped-rising s (ascending-rises (ids s) w.ascending)))

-- Clock and totals.

pub clocked-fits : (b : Bridge) → FitBridge b → (now : ℕ) → now < 2 ^ 32 → FitBridge (clocked now b)
clocked-fits b w now h = record {
  settings = w.settings;
  clock = h;
  eight_totals = w.eight_totals;
  totals = w.totals;
  eight_owns = w.eight_owns;
  owns = w.owns;
  eight_senders = w.eight_senders;
  senders = w.senders;
  at_most_64 = w.at_most_64;
  streams = w.streams;
  ascending = w.ascending;
}

pub totalled-fits : (b : Bridge) → FitBridge b → (ts : List Totals) → length ts ≡ 8 → All FitTotals ts → FitBridge (totalled ts b)
totalled-fits b w ts e f = record {
  settings = w.settings;
  clock = w.clock;
  eight_totals = e;
  totals = f;
  eight_owns = w.eight_owns;
  owns = w.owns;
  eight_senders = w.eight_senders;
  senders = w.senders;
  at_most_64 = w.at_most_64;
  streams = w.streams;
  ascending = w.ascending;
}

pub owning-fits : (b : Bridge) → FitBridge b → (o : List Own) → length o ≡ 8 → All FitOwn o → FitBridge (owning b o)
unfolding owning
owning-fits b w o e f = record {
  settings = w.settings;
  clock = w.clock;
  eight_totals = w.eight_totals;
  totals = w.totals;
  eight_owns = e;
  owns = f;
  eight_senders = w.eight_senders;
  senders = w.senders;
  at_most_64 = w.at_most_64;
  streams = w.streams;
  ascending = w.ascending;
}

pub sending-fits : (b : Bridge) → FitBridge b → (l : List Sender) → length l ≡ 8 → All FitSender l → FitBridge (sending b l)
unfolding sending
sending-fits b w l e f = record {
  settings = w.settings;
  clock = w.clock;
  eight_totals = w.eight_totals;
  totals = w.totals;
  eight_owns = w.eight_owns;
  owns = w.owns;
  eight_senders = e;
  senders = f;
  at_most_64 = w.at_most_64;
  streams = w.streams;
  ascending = w.ascending;
}

-- with nothing reserved
pub no-totals-fit : FitTotals no_totals
unfolding no_totals
no-totals-fit = (omega arith, omega arith)

pub cleared-fits : (b : Bridge) → FitBridge b → FitBridge (totalled (replicate 8 no_totals) b)
cleared-fits b w = totalled-fits b w (replicate 8 no_totals) refl (all_replicate FitTotals 8 no_totals no-totals-fit)
