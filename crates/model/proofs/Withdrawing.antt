-- What was sent is withdrawn by an Lv or a LeaveAll, other content in between or not: of one machine through any history, and of any list.
use mathlib.Core.Path.{◌≡◌, refl, sym, ◌∙◌}
use mathlib.Core.List.{List, [], ◌∷◌, map}
use mathlib.Core.Bool.{Bool, true, false, cond, ◌&&◌, false≢true}
use Rattle.model.specs.Lists.{All, all_true, implies}
use Rattle.model.specs.Applicant.{ApplicantEvent, join, lv, tx, tx_la, tx_laf, Message, silent, s_n, s_j, s, s_l, optional, Standing, very_anxious_passive, very_anxious_new, anxious_new, anxious_active, quiet_active, leaving_active, becomes, sent, speaks}
use Rattle.model.specs.Machines.{Listed, Applicant, no_applicant, applicant, Decided, undeclared, declared, other_content, Heard, heard_in, heard_empty, heard_leave, heard_event, with, applicant_of, after, decided, moved, heard, way}
use Rattle.model.proofs.Lists.{all-each, implied, and_both, implies_true}
use Rattle.model.proofs.ApplicantEntries.{tables, written, every_standing, each-standing}
use Rattle.model.proofs.PlaceLists.{cons-apart}

-- What may happen to a declaration of a port: an advance decides it or withdraws it; an event of its key is received; a write reaches it,
-- its Registrar being IN or not; a write with LeaveAll reaches it, or finds no room for it.
pub data Happening (D : Type 0) : Type 0 where
  advanced : Decided D → Happening D
  is_heard : Heard → Happening D
  is_reached : (registered : Bool) → Happening D
  is_reached_leaving_all is_left_out : Happening D

-- a New or a Join tells of a declaration, an Lv takes it back
unfoldable pub told_by : Message → Bool → Bool
told_by silent t = t
told_by s_n t = true
told_by s_j t = true
told_by s t = t
told_by s_l t = false
told_by (optional m) t = t

-- the neighbour's own Lv and LeaveAll take it back too
unfoldable pub heard_by : Heard → Bool → Bool
heard_by heard_in t = t
heard_by heard_empty t = t
heard_by heard_leave t = false

-- a machine that still owes an Lv or a LeaveAll: not one in VP, which goes without
unfoldable pub owing : Standing → Bool
owing very_anxious_passive = false
owing very_anxious_new = true
owing anxious_new = true
owing anxious_active = true
owing quiet_active = true
owing leaving_active = true

unfoldable pub owing_left : List Standing → Bool
owing_left [] = false
owing_left (q ∷ l) = owing q

-- By the table: a machine that owes what was told still owes it after an event, or it was taken back.
unfoldable pub keeps_owing : Bool → (Standing → ApplicantEvent) → (Standing → Bool → Bool) → Bool → Standing → Bool
keeps_owing r e then t q = implies (implies t (owing q) && then q t) (owing_left (becomes r (e q) q))

abbrev Table : Bool → (Standing → ApplicantEvent) → (Standing → Bool → Bool) → Type 0
Table r e then = (t : Bool) → every_standing (keeps_owing r e then t) ≡ true

abbrev as_before : Standing → Bool → Bool
as_before q t = t

by-join : Table false (λ q. join) as_before
unfolding every_standing all_true keeps_owing owing owing_left tables
by-join true = refl
by-join false = refl

by-other-content : Table false other_content as_before
unfolding every_standing all_true keeps_owing owing owing_left other_content tables
by-other-content true = refl
by-other-content false = refl

by-lv : Table false (λ q. lv) as_before
unfolding every_standing all_true keeps_owing owing owing_left tables
by-lv true = refl
by-lv false = refl

by-heard : (h : Heard) → Table false (λ q. heard_event h) (λ q. heard_by h)
unfolding every_standing all_true keeps_owing heard_by owing owing_left heard_event tables
by-heard heard_in true = refl
by-heard heard_in false = refl
by-heard heard_empty true = refl
by-heard heard_empty false = refl
by-heard heard_leave true = refl
by-heard heard_leave false = refl

by-tx : (r : Bool) → Table r (λ q. tx) (λ q. told_by (sent r tx q))
unfolding every_standing all_true keeps_owing told_by owing owing_left tables
by-tx true true = refl
by-tx true false = refl
by-tx false true = refl
by-tx false false = refl

by-tx-leaving-all : Table false (λ q. tx_la) (λ q t. told_by (sent false tx_la q) false)
unfolding every_standing all_true keeps_owing told_by owing owing_left tables
by-tx-leaving-all true = refl
by-tx-leaving-all false = refl

module _ {D : Type 0} (same : D → D → Bool) where
  unfoldable pub happens : Happening D → Applicant D → Applicant D
  happens (advanced d) a = decided same d a
  happens (is_heard h) a = heard h a
  happens (is_reached r) a = moved (becomes r tx) a
  happens is_reached_leaving_all a = moved (becomes false tx_la) a
  happens is_left_out a = moved (becomes false tx_laf) a

-- Whether the neighbour was told of a declaration, and neither an Lv nor a LeaveAll has taken it back, of this port or of its own.
module _ {D : Type 0} where
  unfoldable pub told : Happening D → Applicant D → Bool → Bool
  told (advanced d) a t = t
  told (is_heard h) a t = heard_by h t
  told (is_reached r) no_applicant t = t
  told (is_reached r) (applicant x) t = told_by (sent r tx x.state) t
  told is_reached_leaving_all no_applicant t = false
  told is_reached_leaving_all (applicant x) t = told_by (sent false tx_la x.state) false
  told is_left_out a t = false

  unfoldable pub owes : Applicant D → Bool
  owes no_applicant = false
  owes (applicant x) = owing x.state

  owes-left : (v : D) (l : List Standing) → owes (applicant_of (map (with v) l)) ≡ owing_left l
  unfolding owes applicant_of with owing_left
  owes-left v [] = refl
  owes-left v (q ∷ l) = refl

  -- one event on a machine
  one-event : (r : Bool) (e : Standing → ApplicantEvent) (then : Standing → Bool → Bool) → Table r e then → (t : Bool) (v : D) (q : Standing)
      → (t ≡ true → owing q ≡ true) → then q t ≡ true → owes (applicant_of (map (with v) (becomes r (e q) q))) ≡ true
  one-event r e then table t v q h k =
      owes-left v (becomes r (e q) q)
      ∙ implied (implies t (owing q) && then q t) (owing_left (becomes r (e q) q)) (unfold keeps_owing in (each-standing (keeps_owing r e then t) (table t) q))
      (and_both (implies t (owing q)) (then q t) (implies_true t (owing q) h) k)

  -- Any history of a declaration, the first happening first, from no machine: the machine, and whether the neighbour was told.
  module _ (same : D → D → Bool) where
    one-step : (x : Happening D) (a : Applicant D) (t : Bool) → (t ≡ true → owes a ≡ true) → told x a t ≡ true → owes (happens same x a) ≡ true
    unfolding told happens owes decided heard moved after
    one-step (advanced d) no_applicant t h e = absurd (false≢true (h e))
    one-step (advanced undeclared) (applicant y) t h e = one-event false (λ q. lv) as_before by-lv t y.value y.state h e
    one-step (advanced (declared v)) (applicant y) t h e = go (same v y.value)
      where
        go : (b : Bool) → owes (applicant_of (map (with v) (becomes false (cond b join (other_content y.state)) y.state))) ≡ true
        go true = one-event false (λ q. join) as_before by-join t v y.state h e
        go false = one-event false other_content as_before by-other-content t v y.state h e
    one-step (is_heard heard_in) no_applicant t h e = absurd (false≢true (h (unfold heard_by in e)))
    one-step (is_heard heard_empty) no_applicant t h e = absurd (false≢true (h (unfold heard_by in e)))
    one-step (is_heard heard_leave) no_applicant t h e = absurd (false≢true (unfold heard_by in e))
    one-step (is_heard g) (applicant y) t h e = one-event false (λ q. heard_event g) (λ q. heard_by g) (by-heard g) t y.value y.state h e
    one-step (is_reached r) no_applicant t h e = absurd (false≢true (h e))
    one-step (is_reached r) (applicant y) t h e = one-event r (λ q. tx) (λ q. told_by (sent r tx q)) (by-tx r) t y.value y.state h e
    one-step is_reached_leaving_all no_applicant t h e = absurd (false≢true e)
    one-step is_reached_leaving_all (applicant y) t h e = one-event false (λ q. tx_la) (λ q t. told_by (sent false tx_la q) false) by-tx-leaving-all t y.value y.state h e
    one-step is_left_out a t h e = absurd (false≢true e)

    unfoldable pub machine_after : List (Happening D) → Applicant D → Applicant D
    machine_after [] a = a
    machine_after (x ∷ h) a = machine_after h (happens same x a)

    unfoldable pub told_after : List (Happening D) → Applicant D → Bool → Bool
    told_after [] a t = t
    told_after (x ∷ h) a t = told_after h (happens same x a) (told x a t)

    still-owes : (h : List (Happening D)) (a : Applicant D) (t : Bool) → (t ≡ true → owes a ≡ true) → told_after h a t ≡ true → owes (machine_after h a) ≡ true
    unfolding machine_after told_after
    still-owes [] a t k e = k e
    still-owes (x ∷ h) a t k e = still-owes h (happens same x a) (told x a t) (one-step x a t k) e

    -- What was sent, and neither an Lv nor a LeaveAll has taken back, is in the list, in a state that it leaves by one of the two alone.
    pub withdrawn : (h : List (Happening D)) → told_after h no_applicant false ≡ true → owes (machine_after h no_applicant) ≡ true
    withdrawn h e = still-owes h no_applicant false (λ f. absurd (false≢true f)) e

-- Such a machine ends by an Lv that is written, or by a LeaveAll: an advance and what is heard keep it, and a write without LeaveAll ends LA
-- alone, whose entry is Lv.
pub ends-by-lv : (r : Bool) (q : Standing) → becomes r tx q ≡ [] → (sent r tx q ≡ s_l) × (speaks tx q ≡ true)
unfolding tables
ends-by-lv r very_anxious_passive e = absurd (cons-apart e)
ends-by-lv r very_anxious_new e = absurd (cons-apart e)
ends-by-lv r anxious_new e = absurd (cons-apart (sym (written r).2 ∙ e))
ends-by-lv r anxious_active e = absurd (cons-apart e)
ends-by-lv r quiet_active e = absurd (cons-apart e)
ends-by-lv r leaving_active e = (refl, refl)

module _ {D : Type 0} where
  map-none : (v : D) (m : List Standing) → map (with v) m ≡ [] → m ≡ []
  map-none v [] e = refl
  map-none v (q ∷ m) e = absurd (cons-apart e)

  -- Of any list: what a write without LeaveAll ends has something to say, and it is an Lv.
  pub ended-said : (g : D → Bool) (l : List (Listed D)) → All (λ x. after g tx x ≡ [] → (sent (g x.value) tx x.state ≡ s_l) × ((way false g).says x ≡ true)) l
  unfolding after way
  ended-said g l = all-each _ (λ x e. ends-by-lv (g x.value) x.state (map-none x.value (becomes (g x.value) tx x.state) e)) l
