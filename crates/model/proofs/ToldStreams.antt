-- What a pass tells a neighbour of one stream: what acts on one of its ports do to the stream's cell there, and what the machines of the
-- port that sends them ask for (02, xiv).
use mathlib.Core.Path.{◌≡◌, refl, sym, ◌∙◌, ap}
use mathlib.Core.List.{List, [], ◌∷◌, ◌++◌, map, flat_map, append-nil, append_assoc}
use mathlib.Core.Bool.{Bool, true, false, cond, false≢true, true≢false}
use Prim.Native.Nat.{ℕ, suc, ◌+◌, ◌/◌, ◌%◌, ◌<◌}
use native.Mathlib.Omega.{arith}
use lib.ListN.{length, get_or, replicate}
use lib.Dec.{eqb}
use borrow.Author.Tests.{eq-eqb, ne_eqb, eqb-true, eqb-false}
use Rattle.model.specs.Lists.{All, keep}
use Rattle.model.specs.Applicant.{tx, Standing, very_anxious_passive, very_anxious_new, anxious_new, anxious_active, quiet_active, leaving_active, speaks, spoken, opportunity}
use Rattle.model.specs.Places.{saying}
use Rattle.model.specs.Machines.{Heard, Listed, Applicant, no_applicant, applicant}
use Rattle.model.specs.State.{Cell, Sends, Stream, Settings, Bridge, empty, blank, fresh, no_sends, sends_at, sender_at}
use Rattle.model.specs.Registrations.{Kind, advertises, faileds, listeners, Act, leave_all, leave, talk, listen, hear_all, hear, of_domain, quit_talker, quit_listener, quit, does, moves, at, change, touch, begun, reach, apply, apply_all, ids, joins}
use Rattle.model.specs.Frames.{Asking, nothing_asked, join, withdraw, asking, event, heard_of}
use Rattle.model.specs.Declarations.{Declaration, talker_declaration, listener_declaration, domain_declaration, join_of, listed_as, advertise_of, failed_of, declarations_of, of_kind, domain_of, domain_values, declarations, say, leave_of, hear_of, asked_of, said_acts, declared_id}
use Rattle.model.proofs.Lists.{all_map, all_replicate, all_get_or, at_here, length_at}
use Rattle.model.proofs.Valid.{Rising}
use Rattle.model.proofs.ApplicantEntries.{tables}
use Rattle.model.proofs.Commute.{Keeps, fresh-id, touch-nil, touch-before, touch-here, touch-past, Tri, less, same, more, tri, acted, acted-keeps, at-fixed}
use Rattle.model.proofs.FrameOrder.{acts-ids, rising-together}

-- The neighbour: what acts on one port do to the registrations of one stream there.

-- the stream of a StreamID, as it is held or as it begins
unfoldable pub stream_for : ℕ → List Stream → Stream
stream_for i [] = fresh i
stream_for i (x ∷ s) = cond (eqb x.id i) x (stream_for i s)

module _ (i : ℕ) where
  found_here : (x : Stream) (s : List Stream) → x.id ≡ i → stream_for i (x ∷ s) ≡ x
  unfolding stream_for
  found_here x s e = rw (eq-eqb x.id i e)

  found-past : (x : Stream) (s : List Stream) → (x.id ≡ i → ⊥) → stream_for i (x ∷ s) ≡ stream_for i s
  unfolding stream_for
  found-past x s n = rw (ne_eqb x.id i n)

  none_above : (s : List Stream) → All (λ j. i < j) (ids s) → stream_for i s ≡ fresh i
  unfolding ids
  none_above [] a = unfold stream_for in refl
  none_above (x ∷ s) a = found-past x s (λ e. omega (arith, a.0)) ∙ none_above s a.1

abbrev cells_of : Stream → List Cell
cells_of x = x.cells

-- a stream changed at its place: its cells
module _ (i : ℕ) (u : List Cell → List Cell) (m : List Sends → List Sends) where
  changed : Stream → Stream
  changed = change u m

  changed-id : (x : Stream) → (changed x).id ≡ x.id
  unfolding changed change
  changed-id x = refl

  changed-cells : (x : Stream) → (changed x).cells ≡ u x.cells
  unfolding changed change
  changed-cells x = refl

  -- where it is not held: a join begins it; what else is received leaves the cells of a stream that begins
  begun-cells : (b : Bool) → (b ≡ false → u blank ≡ blank) → (s : List Stream) → stream_for i s ≡ fresh i
      → (stream_for i (begun b i changed s)).cells ≡ u (stream_for i s).cells
  unfolding begun
  begun-cells true fix s e =
      ap cells_of (found_here i (changed (fresh i)) s (changed-id (fresh i) ∙ fresh-id i)) ∙ changed-cells (fresh i) ∙ ap (λ (x : Stream). u x.cells) (sym e)
  begun-cells false fix s e =
      let start : (fresh i).cells ≡ u (fresh i).cells = unfold fresh in (sym (fix refl)) in
      ap cells_of e ∙ start ∙ ap (λ (x : Stream). u x.cells) (sym e)

  touch-cells : (b : Bool) → (b ≡ false → u blank ≡ blank) → (s : List Stream) → Rising (ids s)
      → (stream_for i (touch b i changed s)).cells ≡ u (stream_for i s).cells
  unfolding Rising ids
  touch-cells b fix [] r = rw (touch-nil b i changed) (begun-cells b fix [] (unfold stream_for in refl))
  touch-cells b fix (x ∷ s) r = go (tri i x.id) (touch-cells b fix s r.1)
    where
      go : Tri i x.id → (stream_for i (touch b i changed s)).cells ≡ u (stream_for i s).cells
          → (stream_for i (touch b i changed (x ∷ s))).cells ≡ u (stream_for i (x ∷ s)).cells
      go (less h) ih =
          rw (touch-before b i changed x s h)
          (begun-cells b fix (x ∷ s) (none_above i (x ∷ s) (h, all_map (λ j. x.id < j) (λ j. i < j) (λ j q. omega arith) (ids s) r.0)))
      go (same h) ih =
          rw (touch-here b i changed x s h, found_here i (changed x) s (changed-id x ∙ sym h), found_here i x s (sym h)) (changed-cells x)
      go (more h) ih =
          rw (touch-past b i changed x s h, found-past i x (touch b i changed s) (λ e. omega arith), found-past i x s (λ e. omega arith)) ih

  -- every stream changed
  map-cells : u blank ≡ blank → (s : List Stream) → (stream_for i (map changed s)).cells ≡ u (stream_for i s).cells
  unfolding stream_for
  map-cells fix [] = unfold fresh in (sym fix)
  map-cells fix (x ∷ s) =
      ap (λ (n : ℕ). cells_of (cond (eqb n i) (changed x) (stream_for i (map changed s)))) (changed-id x) ∙ go (eqb x.id i) (map-cells fix s)
    where
      go : (t : Bool) → (stream_for i (map changed s)).cells ≡ u (stream_for i s).cells
          → (cond t (changed x) (stream_for i (map changed s))).cells ≡ u (cond t x (stream_for i s)).cells
      go true ih = changed-cells x
      go false ih = ih

-- another stream changed
module _ (i j : ℕ) (other : j ≡ i → ⊥) (u : Stream → Stream) (k : Keeps u) where
  begun-other : (b : Bool) (s : List Stream) → stream_for i (begun b j u s) ≡ stream_for i s
  unfolding begun
  begun-other true s = found-past i (u (fresh j)) s (λ e. other (sym (k (fresh j) ∙ fresh-id j) ∙ e))
  begun-other false s = refl

  touch-other : (b : Bool) (s : List Stream) → stream_for i (touch b j u s) ≡ stream_for i s
  touch-other b [] = rw (touch-nil b j u) (begun-other b [])
  touch-other b (x ∷ s) = go (tri j x.id) (touch-other b s)
    where
      go : Tri j x.id → stream_for i (touch b j u s) ≡ stream_for i s → stream_for i (touch b j u (x ∷ s)) ≡ stream_for i (x ∷ s)
      go (less h) ih = rw (touch-before b j u x s h) (begun-other b (x ∷ s))
      go (same h) ih =
          rw (touch-here b j u x s h) (found-past i (u x) s (λ e. other (h ∙ sym (k x) ∙ e)) ∙ sym (found-past i x s (λ e. other (h ∙ e))))
      go (more h) ih = rw (touch-past b j u x s h) (unfold stream_for in (ap (cond (eqb x.id i) x) ih))

-- whether an act is about the stream i
unfoldable pub about : ℕ → Act → Bool
about i (leave_all k) = true
about i (leave k j) = eqb j i
about i (talk j f v) = eqb j i
about i (listen j r) = eqb j i
about i (hear_all k) = true
about i (hear k j h) = eqb j i
about i (of_domain a) = false

-- what it does to the stream's cells at a place, or to its cell there
unfoldable pub cells_on : ℕ → ℕ → ℕ → Act → List Cell → List Cell
cells_on now q i a cs = cond (about i a) (at q (does now a) cs) cs

unfoldable pub cell_on : ℕ → ℕ → Act → Cell → Cell
cell_on now i a c = cond (about i a) (does now a c) c

module _ (now q : ℕ) where
  blank-stays : (a : Act) → does now a empty ≡ empty → at q (does now a) blank ≡ blank
  unfolding blank
  blank-stays a h = at-fixed (does now a) empty h q 8

  -- an act that is about one stream
  one-cells : (i j : ℕ) (a : Act) (b : Bool) → (b ≡ false → does now a empty ≡ empty) → (s : List Stream) → Rising (ids s)
      → (stream_for i (touch b j (acted now q a) s)).cells ≡ cond (eqb j i) (at q (does now a) (stream_for i s).cells) (stream_for i s).cells
  unfolding changed
  one-cells i j a b fix s r = go (eqb j i) refl
    where
      go : (t : Bool) → eqb j i ≡ t
          → (stream_for i (touch b j (acted now q a) s)).cells ≡ cond t (at q (does now a) (stream_for i s).cells) (stream_for i s).cells
      go true e = rw (eqb-true j i e) (touch-cells i (at q (does now a)) (at q (moves a)) b (λ f. blank-stays a (fix f)) s r)
      go false e = ap cells_of (touch-other i j (eqb-false j i e) (acted now q a) (acted-keeps now q a) b s)

  act-cells : (i : ℕ) (a : Act) (s : List Stream) → Rising (ids s) → (stream_for i (apply now q a s)).cells ≡ cells_on now q i a (stream_for i s).cells
  unfolding apply reach cells_on about changed does quit quit_talker quit_listener empty
  act-cells i (leave_all k) s r = map-cells i (at q (does now (leave_all k))) (at q (moves (leave_all k))) (blank-stays (leave_all k) refl) s
  act-cells i (leave k j) s r = one-cells i j (leave k j) false (λ e. refl) s r
  act-cells i (talk j f v) s r = one-cells i j (talk j f v) true (λ e. absurd (true≢false e)) s r
  act-cells i (listen j f) s r = one-cells i j (listen j f) true (λ e. absurd (true≢false e)) s r
  act-cells i (hear_all k) s r = map-cells i (at q (does now (hear_all k))) (at q (moves (hear_all k))) (blank-stays (hear_all k) refl) s
  act-cells i (hear k j h) s r = one-cells i j (hear k j h) false (λ e. refl) s r
  act-cells i (of_domain a) s r = refl

  act-rises : (a : Act) (s : List Stream) → Rising (ids s) → Rising (ids (apply now q a s))
  act-rises a s r = unfold apply_all in (rw (acts-ids now q (a ∷ []) s) (rising-together (joins (a ∷ [])) (ids s) r))

-- the acts of a frame, or of several, one after another
unfoldable pub cell_after : ℕ → ℕ → List Act → Cell → Cell
cell_after now i [] c = c
cell_after now i (a ∷ es) c = cell_after now i es (cell_on now i a c)

-- the cell of a stream on a port
unfoldable pub cell_for : ℕ → ℕ → List Stream → Cell
cell_for q i s = get_or (stream_for i s).cells q empty

module _ (now q i : ℕ) where
  act-cell : (a : Act) (cs : List Cell) → q < length cs
      → (get_or (cells_on now q i a cs) q empty ≡ cell_on now i a (get_or cs q empty)) × (q < length (cells_on now q i a cs))
  unfolding cells_on cell_on
  act-cell a cs h = go (about i a)
    where
      go : (t : Bool) → (get_or (cond t (at q (does now a) cs) cs) q empty ≡ cond t (does now a (get_or cs q empty)) (get_or cs q empty))
          × (q < length (cond t (at q (does now a) cs) cs))
      go true = (at_here q (does now a) cs empty h, omega (arith, length_at q (does now a) cs))
      go false = (refl, h)

  pub cell-after : (es : List Act) (s : List Stream) → Rising (ids s) → q < length (stream_for i s).cells
      → (cell_for q i (apply_all now q es s) ≡ cell_after now i es (cell_for q i s)) × (q < length (stream_for i (apply_all now q es s)).cells)
  unfolding apply_all cell_after cell_for
  cell-after [] s r h = (refl, h)
  cell-after (a ∷ es) s r h =
      let e : (stream_for i (apply now q a s)).cells ≡ cells_on now q i a (stream_for i s).cells = act-cells now q i a s r in
      let c = act-cell a (stream_for i s).cells h in
      let rest = cell-after es (apply now q a s) (act-rises now q a s r) (rw e c.1) in
      (rest.0 ∙ ap (cell_after now i es) (rw e c.0), rest.1)

-- What acts do to a registration of any kind: one after another; what Applicants hear does nothing.
pub record Effect (X : Type 0) : Type 0 where
  pub after : List Act → X → X
  pub none : (c : X) → after [] c ≡ c
  pub append : (es fs : List Act) (c : X) → after (es ++ fs) c ≡ after fs (after es c)
  pub unheard : (d : Declaration) (hs : List Heard) (c : X) → after (map (hear_of d) hs) c ≡ c

module _ (now i : ℕ) where
  pub after_none : (c : Cell) → cell_after now i [] c ≡ c
  unfolding cell_after
  after_none c = refl

  pub after-append : (es fs : List Act) (c : Cell) → cell_after now i (es ++ fs) c ≡ cell_after now i fs (cell_after now i es c)
  unfolding cell_after
  after-append [] fs c = refl
  after-append (a ∷ es) fs c = after-append es fs (cell_on now i a c)

  pub heard-nothing : (d : Declaration) (hs : List Heard) (c : Cell) → cell_after now i (map (hear_of d) hs) c ≡ c
  unfolding cell_after
  heard-nothing d [] c = refl
  heard-nothing d (h ∷ hs) c = ap (cell_after now i (map (hear_of d) hs)) (one d) ∙ heard-nothing d hs c
    where
      either : (t : Bool) → cond t c c ≡ c
      either true = refl
      either false = refl

      one : (e : Declaration) → cell_on now i (hear_of e h) c ≡ c
      one (talker_declaration id f v) = unfold cell_on hear_of about does in (either (eqb id i))
      one (listener_declaration id r) = unfold cell_on hear_of about does in (either (eqb id i))
      one (domain_declaration id q v) = unfold cell_on hear_of about does in refl

  unfoldable pub on_cell : Effect Cell
  on_cell = record { after = cell_after now i; none = after_none; append = after-append; unheard = heard-nothing }

-- This side: what the machines of a port say.

-- what a machine asks of the neighbour's Registrar at an opportunity to transmit
unfoldable pub asks_for : Standing → Asking
asks_for very_anxious_passive = join
asks_for very_anxious_new = join
asks_for anxious_new = join
asks_for anxious_active = join
asks_for quiet_active = nothing_asked
asks_for leaving_active = withdraw

unfoldable pub asks_acts : Listed Declaration → List Act
asks_acts x = asked_of x.value (asks_for x.state)

silent : (d : Declaration) (q : Standing) → speaks tx q ≡ false → asks_acts record { state = q; value = d } ≡ []
unfolding tables asks_acts asks_for asked_of
silent d very_anxious_passive e = absurd (true≢false e)
silent d very_anxious_new e = absurd (true≢false e)
silent d anxious_new e = absurd (true≢false e)
silent d anxious_active e = absurd (true≢false e)
silent d quiet_active e = refl
silent d leaving_active e = absurd (true≢false e)

pub flat_append : {A : Type 0} (f : A → List Act) (l m : List A) → flat_map f (l ++ m) ≡ flat_map f l ++ flat_map f m
unfolding flat_map
flat_append f [] m = refl
flat_append f (x ∷ l) m = rw (flat_append f l m, append_assoc)

-- a quiet one asks nothing
pub saying-asks : (l : List (Listed Declaration)) → flat_map asks_acts (saying (λ x. speaks tx x.state) l) ≡ flat_map asks_acts l
unfolding saying flat_map
saying-asks [] = refl
saying-asks (x ∷ l) = go x.state (saying-asks l)
  where
    rest : List (Listed Declaration)
    rest = saying (λ y. speaks tx y.state) l

    go : (q : Standing) → flat_map asks_acts rest ≡ flat_map asks_acts l
        → flat_map asks_acts (keep (speaks tx q) record { state = q; value = x.value } rest) ≡ asks_acts record { state = q; value = x.value } ++ flat_map asks_acts l
    go q ih = one (speaks tx q) refl
      where
        one : (t : Bool) → speaks tx q ≡ t
            → flat_map asks_acts (keep t record { state = q; value = x.value } rest) ≡ asks_acts record { state = q; value = x.value } ++ flat_map asks_acts l
        one true e = ap (λ (es : List Act). asks_acts record { state = q; value = x.value } ++ es) ih
        one false e = rw (silent x.value q e) ih

-- what a machine, where there is one, does to a cell of the neighbour
unfoldable pub tells : {A : Type 0} → (A → Declaration) → ℕ → ℕ → Applicant A → Cell → Cell
tells f now i no_applicant c = c
tells f now i (applicant x) c = cell_after now i (asked_of (f x.value) (asks_for x.state)) c

-- a stream's machine of a type
unfoldable pub tells_kind : Kind → ℕ → ℕ → ℕ → Sends → Cell → Cell
tells_kind advertises now i j s c = tells (advertise_of j) now i s.advertising c
tells_kind faileds now i j s c = tells (failed_of j) now i s.failing c
tells_kind listeners now i j s c = tells (listener_declaration j) now i s.listening c

module _ (now i : ℕ) where
  -- a declaration of another StreamID asks nothing of it, and a Domain value nothing of any
  asked-other : (d : Declaration) → (declared_id d ≡ i → ⊥) → (a : Asking) (c : Cell) → cell_after now i (asked_of d a) c ≡ c
  unfolding cell_after cell_on
  asked-other d n nothing_asked c = unfold asked_of in refl
  asked-other (talker_declaration id f v) n join c = unfold asked_of join_of about in (rw (ne_eqb id i (unfold declared_id in n)))
  asked-other (listener_declaration id q) n join c = unfold asked_of join_of about in (rw (ne_eqb id i (unfold declared_id in n)))
  asked-other (domain_declaration id q v) n join c = unfold asked_of join_of about in refl
  asked-other (talker_declaration id f v) n withdraw c = unfold asked_of leave_of about in (rw (ne_eqb id i (unfold declared_id in n)))
  asked-other (listener_declaration id q) n withdraw c = unfold asked_of leave_of about in (rw (ne_eqb id i (unfold declared_id in n)))
  asked-other (domain_declaration id q v) n withdraw c = unfold asked_of leave_of about in refl

  asked-domain : (id q v : ℕ) (a : Asking) (c : Cell) → cell_after now i (asked_of (domain_declaration id q v) a) c ≡ c
  unfolding cell_after cell_on asked_of join_of leave_of about
  asked-domain id q v nothing_asked c = refl
  asked-domain id q v join c = refl
  asked-domain id q v withdraw c = refl

  tells-other : {A : Type 0} (f : A → Declaration) → ((v : A) → declared_id (f v) ≡ i → ⊥) → (a : Applicant A) (c : Cell) → tells f now i a c ≡ c
  unfolding tells
  tells-other f n no_applicant c = refl
  tells-other f n (applicant x) c = asked-other (f x.value) (n x.value) (asks_for x.state) c

  kind-other : (k : Kind) (j : ℕ) → (j ≡ i → ⊥) → (s : Sends) (c : Cell) → tells_kind k now i j s c ≡ c
  unfolding tells_kind advertise_of failed_of declared_id
  kind-other advertises j n s c = tells-other (advertise_of j) (λ v. n) s.advertising c
  kind-other faileds j n s c = tells-other (failed_of j) (λ v. n) s.failing c
  kind-other listeners j n s c = tells-other (listener_declaration j) (λ v. n) s.listening c

-- a stream that is not held says nothing
fresh-sends : (i p : ℕ) → sends_at (fresh i) p ≡ no_sends
unfolding sends_at fresh
fresh-sends i p = all_get_or (λ s. s ≡ no_sends) (replicate 8 no_sends) (all_replicate (λ s. s ≡ no_sends) 8 no_sends refl) no_sends refl p

silent-kind : (k : Kind) (now i : ℕ) (c : Cell) → c ≡ tells_kind k now i i no_sends c
unfolding tells_kind tells no_sends
silent-kind advertises now i c = refl
silent-kind faileds now i c = refl
silent-kind listeners now i c = refl

module _ {X : Type 0} (effect : Effect X) where
  abbrev made : List Act → X → X
  made = effect.after

  -- a message's event asks for what its entry says, with the Registrar IN or not: New and a Join for a join, Lv for a leave
  said-asks : (r : Declaration → Bool) (x : Listed Declaration) → speaks tx x.state ≡ true → (c : X) → made (said_acts (say false r x)) c ≡ made (asks_acts x) c
  unfolding say tables asks_acts asks_for event asking opportunity
  said-asks r x h c = go x.state (r x.value) h
    where
      d : Declaration
      d = x.value

      said-only : (n : ℕ) → made (said_acts record { declaration = d; event = n }) c ≡ made (asked_of d (asking (event n))) c
      said-only n =
          unfold said_acts in (effect.append (asked_of d (asking (event n))) (map (hear_of d) (heard_of (event n))) c
          ∙ effect.unheard d (heard_of (event n)) (made (asked_of d (asking (event n))) c))

      go : (w : Standing) (t : Bool) → speaks tx w ≡ true
          → made (said_acts record { declaration = d; event = spoken t (opportunity false) w }) c ≡ made (asked_of d (asks_for w)) c
      go very_anxious_passive true e = said-only 1
      go very_anxious_passive false e = said-only 3
      go very_anxious_new t e = said-only 0
      go anxious_new t e = said-only 0
      go anxious_active true e = said-only 1
      go anxious_active false e = said-only 3
      go quiet_active t e = absurd (false≢true e)
      go leaving_active t e = said-only 5

  pub run-asks : (r : Declaration → Bool) (l : List (Listed Declaration)) → All (λ x. speaks tx x.state ≡ true) l → (c : X)
      → made (flat_map said_acts (map (say false r) l)) c ≡ made (flat_map asks_acts l) c
  unfolding flat_map
  run-asks r [] a c = refl
  run-asks r (x ∷ l) a c =
      effect.append (said_acts (say false r x)) (flat_map said_acts (map (say false r) l)) c
      ∙ ap (made (flat_map said_acts (map (say false r) l))) (said-asks r x a.0 c)
      ∙ run-asks r l a.1 (made (asks_acts x) c)
      ∙ sym (effect.append (asks_acts x) (flat_map asks_acts l) c)

  -- what is said of one list, then of another
  pub both-tell : (l m : List (Listed Declaration)) (c : X) → made (flat_map asks_acts (l ++ m)) c ≡ made (flat_map asks_acts m) (made (flat_map asks_acts l) c)
  both-tell l m c = rw (flat_append asks_acts l m) (effect.append (flat_map asks_acts l) (flat_map asks_acts m) c)

module _ (now i : ℕ) where
  listed-tells : {A : Type 0} (f : A → Declaration) (a : Applicant A) (c : Cell) → cell_after now i (flat_map asks_acts (listed_as f a)) c ≡ tells f now i a c
  unfolding listed_as flat_map tells asks_acts
  listed-tells f no_applicant c = unfold cell_after in refl
  listed-tells f (applicant x) c = rw append-nil

  kind-tells : (k : Kind) (j : ℕ) (s : Sends) (c : Cell) → cell_after now i (flat_map asks_acts (declarations_of k j s)) c ≡ tells_kind k now i j s c
  unfolding declarations_of tells_kind
  kind-tells advertises j s c = listed-tells (advertise_of j) s.advertising c
  kind-tells faileds j s c = listed-tells (failed_of j) s.failing c
  kind-tells listeners j s c = listed-tells (listener_declaration j) s.listening c

  module _ (k : Kind) (p : ℕ) where
    none-tell : (s : List Stream) → All (λ j. i < j) (ids s) → (c : Cell) → cell_after now i (flat_map asks_acts (of_kind k p s)) c ≡ c
    unfolding of_kind ids on_cell
    none-tell [] a c = unfold flat_map cell_after in refl
    none-tell (x ∷ s) a c =
        both-tell (on_cell now i) (declarations_of k x.id (sends_at x p)) (of_kind k p s) c
        ∙ none-tell s a.1 _ ∙ kind-tells k x.id (sends_at x p) c ∙ kind-other now i k x.id (λ e. omega (arith, a.0)) (sends_at x p) c

    -- of the streams in ascending order just the one with that StreamID
    streams-tell : (s : List Stream) → Rising (ids s) → (c : Cell)
        → cell_after now i (flat_map asks_acts (of_kind k p s)) c ≡ tells_kind k now i i (sends_at (stream_for i s) p) c
    unfolding of_kind ids Rising on_cell
    streams-tell [] o c = unfold flat_map cell_after stream_for in (rw (fresh-sends i p) (silent-kind k now i c))
    streams-tell (x ∷ s) o c =
        both-tell (on_cell now i) (declarations_of k x.id (sends_at x p)) (of_kind k p s) c
        ∙ ap (cell_after now i (flat_map asks_acts (of_kind k p s))) (kind-tells k x.id (sends_at x p) c)
        ∙ go (eqb x.id i) refl (streams-tell s o.1 c)
      where
        go : (t : Bool) → eqb x.id i ≡ t
            → cell_after now i (flat_map asks_acts (of_kind k p s)) c ≡ tells_kind k now i i (sends_at (stream_for i s) p) c
            → cell_after now i (flat_map asks_acts (of_kind k p s)) (tells_kind k now i x.id (sends_at x p) c) ≡ tells_kind k now i i (sends_at (stream_for i (x ∷ s)) p) c
        go true e ih =
            let q : x.id ≡ i = eqb-true x.id i e in
            none-tell s (all_map (λ j. x.id < j) (λ j. i < j) (λ j h. omega arith) (ids s) o.0) _
            ∙ rw (found_here i x s q) (ap (λ (n : ℕ). tells_kind k now i n (sends_at x p) c) q)
        go false e ih =
            let n : x.id ≡ i → ⊥ = eqb-false x.id i e in
            rw (found-past i x s n, kind-other now i k x.id n (sends_at x p) c) ih

  domains-tell : (st : Settings) (j : ℕ) (l : List (Applicant (Unit {0}))) (c : Cell) → cell_after now i (flat_map asks_acts (domain_values st j l)) c ≡ c
  unfolding domain_values on_cell
  domains-tell st j [] c = unfold flat_map cell_after in refl
  domains-tell st j (a ∷ l) c =
      both-tell (on_cell now i) (listed_as (λ u. domain_of st j) a) (domain_values st (suc j) l) c
      ∙ domains-tell st (suc j) l _ ∙ listed-tells (λ u. domain_of st j) a c ∙ go a
    where
      go : (b : Applicant (Unit {0})) → tells (λ u. domain_of st j) now i b c ≡ c
      go no_applicant = unfold tells in refl
      go (applicant x) = unfold tells domain_of in (asked-domain now i (5 + j / 8) (j % 8) st.vlan (asks_for x.state) c)

-- what all machines of a stream on a port make of the neighbour's cell, in the order of the types
unfoldable pub tells_cell : ℕ → ℕ → Sends → Cell → Cell
tells_cell now i s c = tells_kind listeners now i i s (tells_kind faileds now i i s (tells_kind advertises now i i s c))

pub port-tells : (now i : ℕ) (b : Bridge) → Rising (ids b.streams) → (p : ℕ) (c : Cell)
    → cell_after now i (flat_map asks_acts (declarations b p)) c ≡ tells_cell now i (sends_at (stream_for i b.streams) p) c
unfolding declarations tells_cell on_cell
port-tells now i b o p c =
    let s = b.streams in
    let domains = domain_values b.settings 0 (sender_at b.senders p).domains in
    both-tell (on_cell now i) (of_kind advertises p s) (of_kind faileds p s ++ (of_kind listeners p s ++ domains)) c
    ∙ both-tell (on_cell now i) (of_kind faileds p s) (of_kind listeners p s ++ domains) _
    ∙ both-tell (on_cell now i) (of_kind listeners p s) domains _
    ∙ domains-tell now i b.settings 0 (sender_at b.senders p).domains _
    ∙ streams-tell now i listeners p s o _
    ∙ ap (tells_kind listeners now i i (sends_at (stream_for i s) p)) (streams-tell now i faileds p s o _)
    ∙ ap (λ (d : Cell). tells_kind listeners now i i (sends_at (stream_for i s) p) (tells_kind faileds now i i (sends_at (stream_for i s) p) d)) (streams-tell now i advertises p s o c)
