-- Settling in stages, as the code takes them after removal: (1) every stream gets its settled values and, on every port, the
-- result of the steps before h, as if step h admitted it; (2) for each port and class, those that h does not admit become failed with
-- code 1; (3) the Talker port declares the merged Listener. Each stage reads what the one before left in the table.
use Rattle.std.specs.Prelude.{Option, Some, None, List, [], ◌∷◌, map, Bool, cond, not, ◌&&◌, ℕ, zero, suc, get_or, set, ltb}
use Rattle.model.specs.Lists.{keep, tabulate}
use Rattle.model.specs.State.{Settings, Column, advertise, failed, filters, Declared, nothing, Result, Stream, Totals, Bridge, no_totals, port_at, cell_at, result_at, Class, no_class, class_a, class_b, class_of, same_class, in_force, Port}
use Rattle.model.specs.Registrations.{holding}
use Rattle.model.specs.Bandwidth.{Claim, demand, rate_of, admitted, total}
use Rattle.model.specs.Settling.{Scene, scene_of, source_of, fixed_of, is_source, registered, is_ready, is_advertise, first, outcome_column, StepName, step_g, step_i, step_l, step_m, steps, age_of, latency_out, entry_of, age_kept, latency_kept, passed, merge_all}
use Rattle.table.specs.Updates.{resulting}
use Rattle.fanin.specs.declared.CommonFailure.{CommonFailure}
use Rattle.fanin.specs.declared.CommonFailure.TheVariants.{SharedAddress, FanIn}

-- (1)

-- the result on a port, from its column, latency out and Listener, and from the result that the port had
abbrev pub shown_by : Column → ℕ → Declared → ℕ → Result → Result
shown_by column latency heard now old =
    let entry = entry_of column heard in
    record {
      column = column;
      latency = latency_kept column latency;
      entry = entry;
      age = age_kept entry (age_of now old);
      declares = nothing;
    }

-- of a stream, where its column is known
unfoldable pub shown_as : Settings → ℕ → Stream → ℕ → Column → Result
shown_as st now x p column = shown_by column (latency_out st p x) (registered (cell_at x p)) now (result_at x p)

-- steps 5, 15 and g, from the own failure that the stream has on every port, a port and MaxFrameSize; i where none applies
unfoldable pub last_step : Option CommonFailure → Port → ℕ → StepName
last_step (Some SharedAddress) q size = step_l
last_step (Some FanIn) q size = step_m
last_step None q size = cond (ltb q.largest size) step_g step_i

-- the column of the steps before h, and Advertise where none of them applies
unfoldable pub early_column : Scene → ℕ → Stream → Column
early_column sc p x = first (outcome_column sc.settings (source_of x)) (steps sc p x) advertise

unfoldable pub early_at : Scene → ℕ → Stream → ℕ → Result
early_at sc now x p = shown_as sc.settings now x p (early_column sc p x)

unfoldable pub early : Scene → ℕ → Stream → Stream
early sc now x = record {
  id = x.id;
  settled = fixed_of (source_of x);
  cells = x.cells;
  results = tabulate 8 0 (early_at sc now x);
  sends = x.sends;
}

-- the whole of (1)
unfoldable pub early_all : ℕ → Bridge → Bridge
early_all now b = holding b (map (early (scene_of b) now) b.streams)

-- (2), on the port at place p, in class c

unfoldable pub settled_class : Settings → Stream → Class
settled_class st x = class_of st x.settled.priority

-- the stream stands at step h
unfoldable pub waits : Settings → ℕ → Class → Stream → Bool
waits st p c x = is_advertise (result_at x p).column && same_class (settled_class st x) c

unfoldable pub claim_shown : Settings → ℕ → Stream → Claim
claim_shown st p x = record {
  id = x.id;
  rank = x.settled.rank;
  age = (result_at x p).age;
  demand = (rate_of (settled_class st x) (demand (port_at st p) x.settled)).bits;
  ready = is_ready (registered (cell_at x p));
}

unfoldable pub claims_shown : Settings → ℕ → Class → List Stream → List Claim
claims_shown st p c [] = []
claims_shown st p c (x ∷ s) = keep (waits st p c x) (claim_shown st p x) (claims_shown st p c s)

-- the limit in force, on the bridge as the classes shared out before left it
unfoldable pub limit_shown : Settings → Bridge → ℕ → Class → ℕ
limit_shown st b p c = in_force (port_at st p) (get_or b.totals p no_totals).total_a c

-- code 1: a failed column filters
unfoldable pub lacking : Settings → Result → Result
lacking st r = record {
  column = failed st.bridge_id 1;
  latency = r.latency;
  entry = filters;
  age = r.age;
  declares = r.declares;
}

unfoldable pub with_result : ℕ → Result → Stream → Stream
with_result p r = resulting (λ l. set l p r)

-- a stream that waits and is not admitted
unfoldable pub admit : Settings → ℕ → Class → ℕ → List Claim → Stream → Stream
admit st p c limit cs x =
    cond (waits st p c x && not (admitted limit cs (claim_shown st p x))) (with_result p (lacking st (result_at x p)) x) x

unfoldable pub with_total : Class → ℕ → Totals → Totals
with_total no_class n t = t
with_total class_a n t = record { total_a = n; total_b = t.total_b }
with_total class_b n t = record { total_a = t.total_a; total_b = n }

-- the whole of (2) for one port and class, with the class total
unfoldable pub admission : ℕ → Class → Bridge → Bridge
admission p c b =
    let st = b.settings in
    let cs = claims_shown st p c b.streams in
    let l = limit_shown st b p c in
    record {
      settings = st;
      clock = b.clock;
      totals = set b.totals p (with_total c (total l cs) (get_or b.totals p no_totals));
      owns = b.owns;
      senders = b.senders;
      streams = map (admit st p c l cs) b.streams;
    }

-- the ports from place p on, n of them, A before B
unfoldable pub admissions : ℕ → ℕ → Bridge → Bridge
admissions zero p b = b
admissions (suc n) p b = admissions n (suc p) (admission p class_b (admission p class_a b))

-- (3)

unfoldable pub merged_shown : Stream → Declared
merged_shown x = merge_all (tabulate 8 0 (λ q. passed (result_at x q).column (registered (cell_at x q))))

unfoldable pub declaring : Declared → Result → Result
declaring d r = record { column = r.column; latency = r.latency; entry = r.entry; age = r.age; declares = d }

-- the result on the port at place p declares the merged Listener where that is the Talker port
unfoldable pub merged_at : Stream → ℕ → Result
merged_at x p = cond (is_source (source_of x) p) (declaring (merged_shown x) (result_at x p)) (result_at x p)

unfoldable pub merging : Stream → Stream
merging x = resulting (λ l. tabulate 8 0 (merged_at x)) x
