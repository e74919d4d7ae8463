-- What stage 1 is asked of: parts of a table, and a stream with its Talker's place; and a stream on its way through it, one place
-- after another.
use Rattle.std.specs.Prelude.{◌≡◌, Option, List, ◌++◌, Bool, ℕ, ◌<◌, length, set, drop}
use Rattle.model.specs.Layout.{cell_size}
use Rattle.model.specs.Lists.{tabulate}
use Rattle.model.specs.State.{Stream, Bridge, own_at}
use Rattle.model.specs.Settling.{Scene, scene_of, Source, source_of, fixed_of, is_pruned, inbounds_of}
use Rattle.model.specs.Table.{decode}
use Rattle.model.specs.Laid.{Laid}
use Rattle.table.specs.Updates.{resulting, stream_at, with_stream}
use Rattle.table.specs.Places.{StandsOn}
use Rattle.streams.specs.Answers.{talker_port}
use Rattle.fanin.specs.declared.CommonFailure.{CommonFailure}
use Rattle.fanin.specs.Failures.{common_failure}
use Rattle.columns.specs.declared.Edges.{Edges}
use Rattle.columns.specs.Steps.{EdgesOf}
use Rattle.columns.specs.Stages.{early_at}

-- a table, a port's place and two cells
pub record Asked (table here talker : List ℕ) (p : ℕ) : Type 0 where
  pub laid : Laid table
  pub place : p < 8
  pub here_size : length here ≡ cell_size
  pub talker_size : length talker ≡ cell_size

-- a Talker is pruned on the port at place p
abbrev pub pruned_on : Bridge → ℕ → Source → Bool
pruned_on b p o = is_pruned b.settings (own_at b.owns p) (fixed_of o)

-- a scene of the bridge b in which the port at place p has these flags; there is one for any two flags, since of the scene's own parts
-- nothing else is asked but that the port has the bridge's addresses
pub record SceneOn (b : Bridge) (p : ℕ) (e : Edges) (sc : Scene) : Type 0 where
  pub settings : sc.settings ≡ b.settings
  pub inbound : sc.inbound ≡ inbounds_of b.streams
  pub edges : EdgesOf e (own_at sc.owns p)
  pub addresses : (own_at sc.owns p).addresses ≡ (own_at b.owns p).addresses

-- stream k of a table, and the place t of its Talker, which is 0 where it has none
pub record TalkerAt (s : List ℕ) (k t : ℕ) : Type 0 where
  pub stands : StandsOn s k t
  pub is : t ≡ talker_port (source_of (stream_at k (decode s)))

-- with the own failure that it has on every port
pub record FailureAt (s : List ℕ) (k t : ℕ) (common : Option CommonFailure) : Type 0 where
  pub talker : TalkerAt s k t
  pub is : common ≡ common_failure (scene_of (decode s)) (stream_at k (decode s))

-- stream k changed by what g makes of the scene and the stream
abbrev pub changed_at : ℕ → (Scene → Stream → Stream) → Bridge → Bridge
changed_at k g b = with_stream k (g (scene_of b) (stream_at k b)) b

-- the result at place p decided
unfoldable pub early_one : ℕ → ℕ → Scene → Stream → Stream
early_one p now sc x = resulting (λ l. set l p (early_at sc now x p)) x

-- the results at the first n places decided, each from what the stream was before
unfoldable pub early_to : ℕ → ℕ → Scene → Stream → Stream
early_to n now sc x = resulting (λ l. tabulate n 0 (early_at sc now x) ++ drop n l) x
