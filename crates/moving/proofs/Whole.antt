-- What a write does to a table as a whole: the machines of the three types, those of Domain values, and what LeaveAll begins.
use mathlib.Core.Path.{◌≡◌, refl, ◌∙◌, ap, ap₂, subst}
use mathlib.Core.List.{List, [], ◌∷◌, ◌++◌}
use mathlib.Core.Bool.{Bool, true, false}
use Prim.Native.Nat.{ℕ, ◌+◌, ◌-◌, ◌≤◌}
use native.Mathlib.Omega.{arith}
use lib.ListN.{length, take, drop, length-map}
use Rattle.model.specs.Layout.{sender_place, sender_size}
use Rattle.model.specs.Applicant.{Standing}
use Rattle.model.specs.State.{Domain, Sends, Sender, Stream, Bridge, no_sends, cell_at, sends_at, sender_at, own_at}
use Rattle.model.specs.Registrations.{Kind, advertises, faileds, listeners, leave_all, of_domain, leave_all_domains, at, change, move_kind, registered_in, reach, apply, apply_all, apply_owns, moves_sender, apply_senders, holding, owning, sending}
use Rattle.model.specs.Settling.{drop_unheld}
use Rattle.model.specs.Writing.{machines, machines_of, moved_kind, moved_streams, moved_sender, own_leave_all}
use Rattle.model.specs.Sending.{sender_octets, to_sender}
use Rattle.model.specs.Table.{encode, decode}
use Rattle.model.specs.Laid.{FitSender, FitBridge, Laid}
use Rattle.model.proofs.Lists.{at_each}
use Rattle.model.proofs.Fits.{laid-fits}
use Rattle.model.proofs.WriteKeepsForm.{own-leaving}
use Rattle.table.specs.Updates.{with_sender}
use Rattle.table.specs.Places.{PortIn}
use Rattle.table.proofs.ByPlace.{encoded-laid, encoded-read}
use Rattle.table.proofs.SenderParts.{with-sender-fits, left-sender-at}
use Rattle.registrar.specs.Run.{registered_of, keeping, Ran, ran, room, effect, effects, left_by}
use Rattle.registrar.specs.Walked.{run_on, Walked}
use Rattle.registrar.proofs.Changed.{at_none, at_again}
use Rattle.registrar.proofs.Room.{applied, all-applied}
use Rattle.registrar.proofs.Walks.{walked_on}
use Rattle.moving.specs.declared.Span.{Span}
use Rattle.moving.specs.declared.Met.{Met}
use Rattle.moving.specs.Moves.{moved_by, met_by, met_sends, met_stream, met_kind, none_met, met_types, met_slots, slots_moved, all_sent, own_left, leave_all_sent, after_moves, left_before, Encodes, Few, MovedKind, MovedTypes, MovedDomains, ListMoved}
use Rattle.moving.proofs.EachType.{kind-few}
use Rattle.moving.proofs.OfPort.{sent}

module _ {b : Bridge} {u : List ℕ} (e : Encodes b u) where
  pub encodes-laid : Laid u
  encodes-laid = encoded-laid b e.fits u e.is

  pub encodes-read : decode u ≡ b
  encodes-read = encoded-read b e.fits u e.is

pub none-few : Few none_met 0
none-few = record { count = omega arith; left = omega arith }

pub few-more : (m : Met) (n k : ℕ) → Few m n → n ≤ k → Few m k
few-more m n k f h = record { count = omega (arith, f.count, h); left = omega (arith, f.left, h) }

-- How many machines are met.

kind-count : (w : Span) (j : Kind) (p : ℕ) (m : Met) (s : List Stream) → (met_kind w m j p s).count ≡ m.count + machines_of j p s
unfolding met_kind machines_of met_stream met_sends met_by
kind-count w j p m [] = omega arith
kind-count w j p m (x ∷ s) = kind-count w j p (met_stream w m j p x) s ∙ omega arith

-- the moves of one type leave the machines of another
module _ (k j : Kind) (apart : (g : Standing → List Standing) (y : Sends) → machines k (move_kind j g y) ≡ machines k y) where
  others-stay : (w : Span) (p i : ℕ) (s : List Stream) → machines_of k p (moved_kind (moved_by w) j p i s) ≡ machines_of k p s
  unfolding machines_of moved_kind change sends_at
  others-stay w p i [] = refl
  others-stay w p i (x ∷ s) =
      let g = moved_by w i (registered_in j (cell_at x p)) in
      ap₂ (λ (a c : ℕ). a + c) (at_each (machines k) p (move_kind j g) (apart g) x.sends p no_sends) (others-stay w p (i + machines j (sends_at x p)) s)

module _ (w : Span) (p : ℕ) (s : List Stream) where
  abbrev a : Met
  a = met_kind w none_met advertises p s

  abbrev s₁ : List Stream
  s₁ = moved_kind (moved_by w) advertises p 0 s

  abbrev f : Met
  f = met_kind w a faileds p s₁

  abbrev s₂ : List Stream
  s₂ = moved_kind (moved_by w) faileds p a.count s₁

  a-count : a.count ≡ machines_of advertises p s
  a-count = kind-count w advertises p none_met s ∙ omega arith

  f-count : f.count ≡ machines_of advertises p s + machines_of faileds p s
  f-count =
      kind-count w faileds p a s₁
      ∙ ap₂ (λ (i k : ℕ). i + k) a-count (others-stay faileds advertises (λ g y. unfold machines move_kind in refl) w p 0 s)

  types-count : (met_types w p s).count ≡ machines_of advertises p s + machines_of faileds p s + machines_of listeners p s
  unfolding met_types
  types-count =
      kind-count w listeners p f s₂
      ∙ ap₂ (λ (i k : ℕ). i + k) f-count
      (others-stay listeners faileds (λ g y. unfold machines move_kind in refl) w p a.count s₁
      ∙ others-stay listeners advertises (λ g y. unfold machines move_kind in refl) w p 0 s)

  in-turn : moved_kind (moved_by w) listeners p f.count s₂ ≡ moved_streams (moved_by w) p s
  unfolding moved_streams
  in-turn = rw (f-count, a-count)

-- The three types, one after another.

module _ (w : Span) (p : ℕ) {m : Met} {j : Kind} {t : List ℕ} {r : Met} {u : List ℕ} (k : MovedKind w m j p t r u) where
  -- from a table that reads as a bridge
  kind-from : (b : Bridge) → decode t ≡ b → Encodes (holding b (moved_kind (moved_by w) j p m.count b.streams)) u × (r ≡ met_kind w m j p b.streams)
  kind-from b e =
      subst (λ (c : Bridge). Encodes (holding c (moved_kind (moved_by w) j p m.count c.streams)) u × (r ≡ met_kind w m j p c.streams)) e
      (k.table, k.met)

  pub then-few : Laid t → (n : ℕ) → Few m n → Few r (n + 64)
  then-few l n g = rw k.met (kind-few w j p m (decode t).streams n g (laid-fits t l).at_most_64)

module _ (w : Span) (p : ℕ) (t : List ℕ) (l : Laid t) {ma mf ml : Met} {t₁ t₂ t₃ : List ℕ}
    (ka : MovedKind w none_met advertises p t ma t₁) (kf : MovedKind w ma faileds p t₁ mf t₂) (kl : MovedKind w mf listeners p t₂ ml t₃) where
  abbrev s : List Stream
  s = (decode t).streams

  ma-is : ma ≡ a w p s
  ma-is = ka.met

  read_first : decode t₁ ≡ holding (decode t) (s₁ w p s)
  read_first = encodes-read ka.table

  second : Encodes (holding (decode t) (moved_kind (moved_by w) faileds p ma.count (s₁ w p s))) t₂ × (mf ≡ met_kind w ma faileds p (s₁ w p s))
  unfolding holding
  second = kind-from w p kf (holding (decode t) (s₁ w p s)) read_first

  third : Encodes (holding (decode t) (moved_kind (moved_by w) listeners p mf.count (moved_kind (moved_by w) faileds p ma.count (s₁ w p s)))) t₃
      × (ml ≡ met_kind w mf listeners p (moved_kind (moved_by w) faileds p ma.count (s₁ w p s)))
  unfolding holding
  third = kind-from w p kl (holding (decode t) (moved_kind (moved_by w) faileds p ma.count (s₁ w p s))) (encodes-read second.0)

  streams-are : moved_kind (moved_by w) listeners p mf.count (moved_kind (moved_by w) faileds p ma.count (s₁ w p s)) ≡ moved_streams (moved_by w) p s
  streams-are =
      ap (λ (z : Met). moved_kind (moved_by w) listeners p z.count (moved_kind (moved_by w) faileds p ma.count (s₁ w p s))) second.1
      ∙ ap (λ (z : Met). moved_kind (moved_by w) listeners p (met_kind w z faileds p (s₁ w p s)).count (moved_kind (moved_by w) faileds p z.count (s₁ w p s))) ma-is
      ∙ in-turn w p s

  met-are : ml ≡ met_types w p s
  unfolding met_types
  met-are =
      third.1
      ∙ ap (λ (z : Met). met_kind w z listeners p (moved_kind (moved_by w) faileds p ma.count (s₁ w p s))) second.1
      ∙ ap (λ (z : Met). met_kind w (met_kind w z faileds p (s₁ w p s)) listeners p (moved_kind (moved_by w) faileds p z.count (s₁ w p s))) ma-is

  pub types-moved : MovedTypes w p t ml t₃
  types-moved = record {
    table = subst (λ (z : List Stream). Encodes (holding (decode t) z) t₃) streams-are third.0;
    met = met-are;
    few = then-few w p kl (encodes-laid kf.table) 128 (then-few w p kf (encodes-laid ka.table) 64 (then-few w p ka l 0 none-few));
  }

-- What LeaveAll begins.

-- the acts of each type, walked one after another
pub four-left : (p : ℕ) {t t₁ t₂ t₃ u : List ℕ} → Walked true p (leave_all advertises ∷ []) t true t₁ → Walked true p (leave_all faileds ∷ []) t₁ true t₂
    → Walked true p (leave_all listeners ∷ []) t₂ true t₃ → Walked true p (of_domain leave_all_domains ∷ []) t₃ true u → Walked true p (own_leave_all true) t true u
unfolding own_leave_all
four-left p {t} {t₁} {t₂} {t₃} {u} a f l d =
    let two = walked_on true p (leave_all advertises ∷ []) (leave_all faileds ∷ []) t t₁ a f in
    let three = walked_on true p (leave_all advertises ∷ leave_all faileds ∷ []) (leave_all listeners ∷ []) t t₂ two l in
    walked_on true p (leave_all advertises ∷ leave_all faileds ∷ leave_all listeners ∷ []) (of_domain leave_all_domains ∷ []) t t₃ three d

left-count : (now p : ℕ) (k : Kind) (s : List Stream) → length (apply now p (leave_all k) s) ≡ length s
unfolding apply reach
left-count now p k s = length-map s _

module _ (p : ℕ) (t : List ℕ) (l : Laid t) where
  abbrev now : ℕ
  now = (decode t).clock

  few-left : length (apply_all now p (own_leave_all true) (decode t).streams) ≤ 64
  few-left =
      let x = (decode t).streams in
      let y = apply now p (leave_all advertises) x in
      let z = apply now p (leave_all faileds) y in
      omega (arith, ap length (own-leaving now p x), left-count now p listeners z, left-count now p faileds y, left-count now p advertises x, (laid-fits t l).at_most_64)

  ran-all : run_on true p (own_leave_all true) t ≡ ran (applied now p (own_leave_all true) (registered_of (decode t)))
  unfolding run_on effects effect room own_leave_all
  ran-all = all-applied now p (own_leave_all true) (registered_of (decode t)) few-left

  senders-still : (x : List Sender) → apply_senders now p (own_leave_all true) x ≡ x
  unfolding apply_senders own_leave_all moves_sender
  senders-still x =
      let still : (m : List Sender) → at p (λ (y : Sender). y) m ≡ m = at_none p (λ (y : Sender). y) (λ y. refl) in
      still _ ∙ still _ ∙ still _ ∙ still x

  left_is : keeping (decode t) (left_by (run_on true p (own_leave_all true) t)) ≡ own_left p (decode t)
  unfolding left_by applied keeping own_left holding owning sending
  left_is =
      ap (λ (q : Ran). keeping (decode t) (left_by q)) ran-all
      ∙ ap (λ (x : List Sender). sending (own_left p (decode t)) x) (senders-still (decode t).senders)

  pub own-left : (u : List ℕ) → Walked true p (own_leave_all true) t true u → Encodes (own_left p (decode t)) u
  own-left u w = record { fits = subst FitBridge left_is w.fits; is = w.table ∙ ap encode left_is }

-- the LeaveAll machine's octets, and then the registrations
module _ (p : ℕ) (t : List ℕ) (s : PortIn t p) where
  all-sent-fits : (clock : ℕ) (x : Sender) → FitSender x → FitSender (all_sent clock x)
  unfolding all_sent
  all-sent-fits clock x f = record { slotted = f.slotted; start = rw (sent clock x.leave_all) f.start }

  module _ (a : ℕ) (e : a ≡ sender_place p) (y t₁ : List ℕ)
      (q : (clock : ℕ) → y ≡ sender_octets (all_sent clock (to_sender (take (a + sender_size - a) (drop a t)))))
      (r : t₁ ≡ take a t ++ (y ++ drop (a + sender_size - a) (drop a t))) where
    pub machine-left : Encodes (with_sender p (all_sent (decode t).clock) (decode t)) t₁
    machine-left = record {
      fits = with-sender-fits s (all_sent (decode t).clock) (all-sent-fits (decode t).clock);
      is = r ∙ left-sender-at s a e (all_sent (decode t).clock) y (q (decode t).clock);
    }

    pub all_left : (u : List ℕ) → Walked true p (own_leave_all true) t₁ true u → Encodes (leave_all_sent true p (decode t)) u
    unfolding leave_all_sent
    all_left u w = subst (λ (b : Bridge). Encodes (own_left p b) u) (encodes-read machine-left) (own-left p t₁ (encodes-laid machine-left) u w)

-- All.

module _ (w : Span) (p : ℕ) (t : List ℕ) {m d : Met} {t₁ t₂ t₃ : List ℕ} (k : MovedTypes w p t m t₁) (ds : MovedDomains w m p t₁ d t₂)
    (l : Encodes (leave_all_sent w.all p (decode t₂)) t₃) where
  abbrev b : Bridge
  b = decode t

  abbrev moved : List Stream
  moved = moved_streams (moved_by w) p b.streams

  abbrev domains : List Domain
  domains = (own_at b.owns p).domains

  slots-from : Encodes (with_sender p (slots_moved w m.count domains) (holding b moved)) t₂ × (d ≡ met_slots w m domains (sender_at b.senders p).domains)
  unfolding holding
  slots-from =
      subst
      (λ (c : Bridge). Encodes (with_sender p (slots_moved w m.count (own_at c.owns p).domains) c) t₂
      × (d ≡ met_slots w m (own_at c.owns p).domains (sender_at c.senders p).domains))
      (encodes-read k.table) (ds.table, ds.met)

  read-last : decode t₃ ≡ leave_all_sent w.all p (with_sender p (slots_moved w m.count domains) (holding b moved))
  read-last = encodes-read l ∙ ap (leave_all_sent w.all p) (encodes-read slots-from.0)

  abbrev total : ℕ
  total = machines_of advertises p b.streams + machines_of faileds p b.streams + machines_of listeners p b.streams

  total-met : m.count ≡ total
  total-met = ap (λ (z : Met). z.count) k.met ∙ types-count w p b.streams

  abbrev before : Bool → ℕ → Bridge
  before all n = leave_all_sent all p (with_sender p (slots_moved w n domains) (holding b moved))

  abbrev after : Bool → Bridge
  after all = record {
    settings = b.settings;
    clock = b.clock;
    totals = b.totals;
    owns = apply_owns b.clock p (own_leave_all all) b.owns;
    senders = at p (moved_sender (moved_by w) b.clock all (own_at b.owns p) total) b.senders;
    streams = drop_unheld (apply_all b.clock p (own_leave_all all) moved);
  }

  -- the LeaveAll machine behind the moves of Domain values
  senders-are : at p (all_sent b.clock) (at p (slots_moved w total domains) b.senders) ≡ (after true).senders
  unfolding all_sent slots_moved moved_sender
  senders-are = at_again p (all_sent b.clock) (slots_moved w total domains) b.senders

  dropped : (all : Bool) → holding (before all total) (drop_unheld (before all total).streams) ≡ after all
  unfolding leave_all_sent own_left holding owning sending
  dropped true =
      ap (λ (x : List Sender). record {
        settings = b.settings;
        clock = b.clock;
        totals = b.totals;
        owns = apply_owns b.clock p (own_leave_all true) b.owns;
        senders = x;
        streams = drop_unheld (apply_all b.clock p (own_leave_all true) moved);
      })
      senders-are
  dropped false = unfold own_leave_all apply_owns apply_all slots_moved moved_sender in refl

  pub list-moved : (u : List ℕ) → u ≡ encode (holding (decode t₃) (drop_unheld (decode t₃).streams)) → ListMoved w p t d.left u
  unfolding after_moves left_before
  list-moved u q = record {
    table =
        q
        ∙ ap (λ (c : Bridge). encode (holding c (drop_unheld c.streams))) (read-last ∙ ap (before w.all) total-met)
        ∙ ap encode (dropped w.all);
    next =
        ap (λ (z : Met). z.left) slots-from.1
        ∙ ap (λ (z : Met). (met_slots w z domains (sender_at b.senders p).domains).left) k.met;
  }
