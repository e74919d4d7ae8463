-- Why a stream was refused (02, ix): "names the step (a to i, or a later one) that would decide in an advance to the held clock".
use Rattle.std.specs.Prelude.{List, [], ◌∷◌, ◌++◌, Bool, cond, ◌&&◌, ℕ, ◌*◌, ◌-◌, eqb}
use Rattle.octets.specs.Be.{be}
use Rattle.model.specs.Lists.{keep}
use Rattle.model.specs.State.{Settings, Stream, Bridge, Column}
use Rattle.model.specs.Bandwidth.{Claim, key, above, sort, fits, reserved}
use Rattle.model.specs.Settling.{Scene, decide_owns, inbounds_of, Source, Outcome, column_none, as_registered, as_advertise, own_failure, outcome_column, stream_class, StepName, no_step, step_h, about, Step, steps, bandwidth_steps, claim, claims, limit_on, left_for}

-- A step's letter; 0 for none.
unfoldable pub letter : StepName → ℕ
letter n = (about n).letter

unfoldable pub same_step : StepName → StepName → Bool
same_step m n = eqb (letter m) (letter n)

-- The code of its own failure; 0 where the step gives none, or the registered one.
unfoldable pub own_code : Outcome → ℕ
own_code column_none = 0
own_code as_registered = 0
own_code as_advertise = 0
own_code (own_failure code) = code

unfoldable pub code : StepName → ℕ
code n = own_code (about n).outcome

-- The column that it gives.
unfoldable pub column_by : Settings → Source → StepName → Column
column_by st s n = outcome_column st s (about n).outcome

-- The name of the first step that applies, or what follows where none does.
unfoldable pub first_name : List Step → StepName → StepName
first_name [] n = n
first_name (s ∷ l) n = cond s.test s.name (first_name l n)

-- h or i
unfoldable pub last_name : ℕ → ℕ → StepName
last_name demand left = first_name (bandwidth_steps demand left) no_step

-- The deciding step of the stream x on the port at place p.
unfoldable pub step_on : Scene → ℕ → List Stream → ℕ → Stream → StepName
step_on sc now s p x = first_name (steps sc p x) (last_name (claim sc.settings now p x).demand (left_for sc now s p x))

-- Of claims, the least important first, those that reserve, the most important first: ready, and fitting in what the more important leave.
unfoldable pub reserving : ℕ → List Claim → List Claim
reserving limit [] = []
reserving limit (c ∷ more) = reserving limit more ++ keep (fits c.demand (limit - reserved limit more) && c.ready) c []

-- "it lists the more important reserving streams with their demands"; "in order of importance"
unfoldable pub listed : Scene → ℕ → List Stream → ℕ → Stream → List Claim
listed sc now s p x =
    let c = stream_class sc.settings x in
    reserving (limit_on sc now s p c) (sort (above (key (claim sc.settings now p x)) (claims sc now p c s)))

-- The step, and "For code 1" those streams, "the limit in force, and the shortfall in bits per second".
pub record Reason : Type 0 where
  pub step : StepName
  pub streams : List Claim
  pub limit : ℕ
  pub shortfall : ℕ

unfoldable pub plainly : StepName → Reason
plainly n = record { step = n; streams = []; limit = 0; shortfall = 0 }

unfoldable pub reason_on : Scene → ℕ → List Stream → ℕ → Stream → Reason
reason_on sc now s p x =
    let n = step_on sc now s p x in
    cond (same_step n step_h)
    record {
      step = n;
      streams = listed sc now s p x;
      limit = limit_on sc now s p (stream_class sc.settings x);
      shortfall = (claim sc.settings now p x).demand - left_for sc now s p x;
    }
    (plainly n)

-- What the columns of an advance to the held clock are decided by: flags and inbound ports anew, from what is registered now.
-- Nothing expires, by the form rules.
unfoldable pub scene_now : Bridge → Scene
scene_now b = record {
  settings = b.settings;
  owns = decide_owns b.settings b.clock b.owns;
  inbound = inbounds_of b.streams;
}

unfoldable pub reason : Bridge → ℕ → Stream → Reason
reason b p x = reason_on (scene_now b) b.clock b.streams p x

-- A stream by its StreamID; "15 where the stream isn't held".
pub data Sought : Type 0 where
  not_held : Sought
  held_as : Stream → Sought

unfoldable pub seek : ℕ → List Stream → Sought
seek id [] = not_held
seek id (x ∷ s) = cond (eqb x.id id) (held_as x) (seek id s)

-- "8 octets StreamID, 8 demand"
unfoldable pub listed_octets : List Claim → List ℕ
listed_octets [] = []
listed_octets (c ∷ l) = be 8 c.id ++ (be 8 c.demand ++ listed_octets l)

-- "63 x 16 octets": all other streams may be listed
abbrev pub list_size : ℕ
list_size = 63 * 16
