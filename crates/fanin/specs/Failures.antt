-- What the search for a shared address finds, and the own failure that a stream has on every port alike.
use Rattle.std.specs.Prelude.{Option, Some, None, Bool, false, cond, ◌||◌, ℕ, zero, suc, ◌+◌, ◌*◌, ◌^◌, eqb}
use Rattle.model.specs.State.{Fixed, Stream, Bridge, stream_at}
use Rattle.fanin.specs.declared.CommonFailure.{CommonFailure}
use Rattle.fanin.specs.declared.CommonFailure.TheVariants.{SharedAddress, FanIn}
use Rattle.model.specs.Settling.{Scene, Source, nowhere, from, source_of, fixed_of, shares, is_kept_out}

-- destination and VLAN as they stand beside each other
unfoldable pub address_of : Fixed → ℕ
address_of f = f.destination * 2 ^ 16 + f.vlan

unfoldable pub has_address : ℕ → Source → Bool
has_address a nowhere = false
has_address a (from o) = eqb (address_of o.registration.fixed) a

-- one of the n places from k on passes a test
unfoldable pub any_from : (ℕ → Bool) → ℕ → ℕ → Bool
any_from f k zero = false
any_from f k (suc n) = f k || any_from f (suc k) n

-- the stream at place j has a Talker with the address of the one at place k
abbrev pub shares_with : Bridge → ℕ → ℕ → Bool
shares_with b k j = has_address (address_of (fixed_of (source_of (stream_at k b)))) (source_of (stream_at j b))

-- one before it has
abbrev pub is_taken : Bridge → ℕ → Bool
is_taken b k = any_from (shares_with b k) 0 k

-- "Test 5, then 15": that of the stream with StreamID n, if it has one
unfoldable pub failure_from : Scene → ℕ → Source → Option CommonFailure
failure_from sc n nowhere = None
failure_from sc n (from o) =
    cond (shares sc.inbound record { id = n; origin = o }) (Some SharedAddress)
    (cond (is_kept_out sc.settings.fan_in sc.inbound o) (Some FanIn) None)

abbrev pub common_failure : Scene → Stream → Option CommonFailure
common_failure sc x = failure_from sc x.id (source_of x)
