-- A bridge with its clock or its totals replaced, with one stream more, or with a part of it replaced by the place k of a stream
-- and the place p of a port; a stream with its settled values or its results replaced.
use Rattle.std.specs.Prelude.{List, ◌∷◌, ◌++◌, ℕ, set, take, drop}
use Rattle.model.specs.State.{Fixed, Cell, Domain, Own, Result, Sends, Sender, Stream, Totals, Bridge, fresh}
pub use Rattle.model.specs.State.{stream_at, totals_at}
use Rattle.model.specs.Registrations.{at, change, change_domains, holding, owning, sending}

abbrev pub clocked : ℕ → Bridge → Bridge
clocked now b = record { settings = b.settings; clock = now; totals = b.totals; owns = b.owns; senders = b.senders; streams = b.streams }

abbrev pub totalled : List Totals → Bridge → Bridge
totalled ts b = record { settings = b.settings; clock = b.clock; totals = ts; owns = b.owns; senders = b.senders; streams = b.streams }

-- a stream without registrations at place k
abbrev pub inserted : ℕ → ℕ → Bridge → Bridge
inserted k id b = holding b (take k b.streams ++ (fresh id ∷ drop k b.streams))

abbrev pub settled_as : Fixed → Stream → Stream
settled_as f x = record { id = x.id; settled = f; cells = x.cells; results = x.results; sends = x.sends }

abbrev pub resulting : (List Result → List Result) → Stream → Stream
resulting u x = record { id = x.id; settled = x.settled; cells = x.cells; results = u x.results; sends = x.sends }

-- One part replaced: the stream, its settled values, its cell, its result and what is sent of it on the port; the totals of the port,
-- what it holds by itself, its Domain value in slot i, and what it sends by itself.

abbrev pub with_stream : ℕ → Stream → Bridge → Bridge
with_stream k x b = holding b (set b.streams k x)

abbrev pub with_settled : ℕ → Fixed → Bridge → Bridge
with_settled k f b = with_stream k (settled_as f (stream_at k b)) b

abbrev pub with_cell : ℕ → ℕ → (Cell → Cell) → Bridge → Bridge
with_cell k p u b = with_stream k (change (at p u) (λ m. m) (stream_at k b)) b

abbrev pub with_result : ℕ → ℕ → Result → Bridge → Bridge
with_result k p r b = with_stream k (resulting (λ l. set l p r) (stream_at k b)) b

abbrev pub with_sends : ℕ → ℕ → (Sends → Sends) → Bridge → Bridge
with_sends k p u b = with_stream k (change (λ l. l) (at p u) (stream_at k b)) b

abbrev pub with_totals : ℕ → Totals → Bridge → Bridge
with_totals p t b = totalled (set b.totals p t) b

abbrev pub with_own : ℕ → Own → Bridge → Bridge
with_own p o b = owning b (set b.owns p o)

abbrev pub with_slot : ℕ → ℕ → (Domain → Domain) → Bridge → Bridge
with_slot p i u b = owning b (at p (change_domains (at i u)) b.owns)

abbrev pub with_sender : ℕ → (Sender → Sender) → Bridge → Bridge
with_sender p u b = sending b (at p u b.senders)
