-- The machines left of those before the end, counted place by place in the port's list of declarations.
use mathlib.Core.Path.{◌≡◌, refl, sym, ◌∙◌, ap, ap₂}
use mathlib.Core.List.{List, [], ◌∷◌, ◌++◌, map}
use mathlib.Core.Bool.{Bool, true, false, cond}
use Prim.Native.Nat.{ℕ, suc, ◌+◌, ◌≤◌, ◌<◌}
use native.Mathlib.Nat.{add-zero}
use native.Mathlib.Omega.{arith}
use lib.ListN.{length, get_or, length-append}
use lib.Dec.{ltb}
use Rattle.model.specs.Lists.{All, bit}
use Rattle.model.specs.Applicant.{Standing}
use Rattle.model.specs.Machines.{Listed, Applicant, no_applicant, applicant, with, applicant_of, moved}
use Rattle.model.specs.State.{Settings, Domain, no_domain, Ready, Offer, Failure, Sends, Stream, no_sends, cell_at, sends_at}
use Rattle.model.specs.Registrations.{Kind, advertises, faileds, listeners, at, change, move_kind, registered_in, domain_stays}
use Rattle.model.specs.Settling.{is_applicant}
use Rattle.model.specs.Declarations.{Declaration, listener_declaration, listed_as, advertise_of, failed_of, declarations_of, of_kind, domain_of, domain_values}
use Rattle.model.specs.Writing.{machines, moved_kind}
use Rattle.model.proofs.Lists.{at_each}
use Rattle.model.proofs.WrittenList.{each_at, at-append, moved-one}
use Rattle.moving.specs.declared.Span.{Span}
use Rattle.moving.specs.declared.Met.{Met}
use Rattle.moving.specs.Moves.{moved_by, met_by, met_sends, met_stream, met_kind, met_slot, met_slots, none_met, met_types}
use Rattle.moving.proofs.One.{none-met}

-- The moves of one type change nothing of another's.
module _ (w : Span) (k j : Kind) (apart : (m : Met) (r : Bool) (g : Standing → List Standing) (y : Sends) → met_sends w m k r (move_kind j g y) ≡ met_sends w m k r y) where
  met-past : (p i : ℕ) (m : Met) (s : List Stream) → met_kind w m k p (moved_kind (moved_by w) j p i s) ≡ met_kind w m k p s
  unfolding met_kind moved_kind met_stream change sends_at cell_at
  met-past p i m [] = refl
  met-past p i m (x ∷ s) =
      let r = registered_in k (cell_at x p) in
      let g = moved_by w i (registered_in j (cell_at x p)) in
      let e : met_stream w m k p (change (λ cs. cs) (at p (move_kind j g)) x) ≡ met_stream w m k p x =
      at_each (met_sends w m k r) p (move_kind j g) (λ y. apart m r g y) x.sends p no_sends in
      ap (λ (n : Met). met_kind w n k p (moved_kind (moved_by w) j p (i + machines j (sends_at x p)) s)) e
      ∙ met-past p (i + machines j (sends_at x p)) (met_stream w m k p x) s

module _ (w : Span) (p : ℕ) (s : List Stream) where
  -- so that each type's machines may be counted in the streams as they were
  pub types-met : met_types w p s ≡ met_kind w (met_kind w (met_kind w none_met advertises p s) faileds p s) listeners p s
  unfolding met_types
  types-met =
      let a = met_kind w none_met advertises p s in
      let s₁ = moved_kind (moved_by w) advertises p 0 s in
      let f = met_kind w a faileds p s₁ in
      met-past w listeners faileds (λ m r g y. unfold met_sends machines move_kind in refl) p a.count f s₁
      ∙ met-past w listeners advertises (λ m r g y. unfold met_sends machines move_kind in refl) p 0 f s
      ∙ ap (λ (n : Met). met_kind w n listeners p s) (met-past w faileds advertises (λ m r g y. unfold met_sends machines move_kind in refl) p 0 a s)

module _ (w : Span) (reg : Declaration → Bool) where
  -- what is left of a declaration at place i, where it stands before the end
  unfoldable pub kept_at : ℕ → Listed Declaration → List (Listed Declaration)
  kept_at i x = cond (ltb i w.end) (map (with x.value) (moved_by w i (reg x.value) x.state)) []

  -- how far the moves are behind a list
  unfoldable pub met_list : Met → List (Listed Declaration) → Met
  met_list m l = record { count = m.count + length l; left = m.left + length (each_at kept_at m.count l) }

  abbrev met : ℕ → ℕ → Met
  met a c = record { count = a; left = c }

  list-none : (m : Met) → met_list m [] ≡ m
  unfolding met_list each_at
  list-none m = ap₂ met (add-zero m.count) (add-zero m.left)

  pub list-append : (m : Met) (k l : List (Listed Declaration)) → met_list m (k ++ l) ≡ met_list (met_list m k) l
  unfolding met_list
  list-append m k l =
      let x = each_at kept_at m.count k in
      let y = each_at kept_at (m.count + length k) l in
      let c : m.count + length (k ++ l) ≡ m.count + length k + length l = omega (arith, length-append k l) in
      let f : m.left + length (each_at kept_at m.count (k ++ l)) ≡ m.left + length x + length y =
      omega (arith, ap length (at-append kept_at m.count k l), length-append x y) in
      ap₂ met c f

  -- one machine
  module _ {A : Type 0} (h : A → Declaration) (r : Bool) (e : (v : A) → reg (h v) ≡ r) (m : Met) where
    abbrev g : Standing → List Standing
    g = moved_by w m.count r

    left_one : (x : Listed A) (l : List Standing) → length l ≤ 1 → bit (is_applicant (applicant_of (map (with x.value) l))) ≡ length (map (with (h x.value)) l ++ [])
    unfolding applicant_of is_applicant bit
    left_one x [] f = refl
    left_one x (q ∷ []) f = refl
    left_one x (q ∷ t ∷ l) f = absurd (omega arith)

    few-left : (q : Standing) → length (g q) ≤ 1
    unfolding moved_by
    few-left q = moved-one w.all w.place w.end m.count r q

    one-met : (a : Applicant A) → met_by w m (bit (is_applicant a)) (bit (is_applicant (moved g a))) ≡ met_list m (listed_as h a)
    one-met no_applicant = unfold is_applicant moved bit listed_as in (sym (none-met w m) ∙ sym (list-none m))
    one-met (applicant x) =
        unfold is_applicant moved bit listed_as met_by met_list each_at kept_at in
        rw (e x.value) (ap (λ (n : ℕ). met (m.count + 1) (m.left + n)) (go (ltb m.count w.end)))
      where
        go : (t : Bool) → cond t (bit (is_applicant (applicant_of (map (with x.value) (g x.state))))) 0 ≡ length (cond t (map (with (h x.value)) (g x.state)) [] ++ [])
        go true = left_one x (g x.state) (few-left x.state)
        go false = refl

  -- those of a type, of each stream
  abbrev pub Asked : Kind → ℕ → Bool → Type 0
  Asked advertises id r = (v : Offer) → reg (advertise_of id v) ≡ r
  Asked faileds id r = (v : Offer × Failure) → reg (failed_of id v) ≡ r
  Asked listeners id r = (v : Ready) → reg (listener_declaration id v) ≡ r

  sends-met : (k : Kind) (id : ℕ) (r : Bool) → Asked k id r → (m : Met) (y : Sends) → met_sends w m k r y ≡ met_list m (declarations_of k id y)
  unfolding met_sends machines move_kind declarations_of
  sends-met advertises id r e m y = one-met (advertise_of id) r e m y.advertising
  sends-met faileds id r e m y = one-met (failed_of id) r e m y.failing
  sends-met listeners id r e m y = one-met (listener_declaration id) r e m y.listening

  pub kind-met : (k : Kind) (p : ℕ) (m : Met) (s : List Stream) → All (λ x. Asked k x.id (registered_in k (cell_at x p))) s
      → met_kind w m k p s ≡ met_list m (of_kind k p s)
  unfolding met_kind of_kind met_stream
  kind-met k p m [] a = sym (list-none m)
  kind-met k p m (x ∷ s) a =
      let d = declarations_of k x.id (sends_at x p) in
      kind-met k p (met_stream w m k p x) s a.1
      ∙ ap (λ (n : Met). met_list n (of_kind k p s)) (sends-met k x.id (registered_in k (cell_at x p)) a.0 m (sends_at x p))
      ∙ sym (list-append m d (of_kind k p s))

  -- those of Domain values, slot by slot
  pub slots-met : (st : Settings) (j : ℕ) (m : Met) (ds : List Domain) (l : List (Applicant (Unit {0}))) → length ds ≡ length l
      → ((n : ℕ) → n < length ds → reg (domain_of st (j + n)) ≡ domain_stays (get_or ds n no_domain)) → met_slots w m ds l ≡ met_list m (domain_values st j l)
  unfolding met_slots domain_values met_slot
  slots-met st j m [] [] e h = sym (list-none m)
  slots-met st j m [] (a ∷ l) e h = absurd (omega arith)
  slots-met st j m (d ∷ ds) [] e h = absurd (omega arith)
  slots-met st j m (d ∷ ds) (a ∷ l) e h =
      slots-met st (suc j) (met_slot w m (domain_stays d) a) ds l (omega arith) later
      ∙ ap (λ (n : Met). met_list n (domain_values st (suc j) l)) (one-met (λ (u : Unit {0}). domain_of st j) (domain_stays d) (λ u. own) m a)
      ∙ sym (list-append m (listed_as (λ (u : Unit {0}). domain_of st j) a) (domain_values st (suc j) l))
    where
      own : reg (domain_of st j) ≡ domain_stays d
      own =
          let z : j + 0 ≡ j = omega arith in
          rw z at (h 0 (omega arith))

      later : (n : ℕ) → n < length ds → reg (domain_of st (suc j + n)) ≡ domain_stays (get_or ds n no_domain)
      later n k =
          let z : j + suc n ≡ suc j + n = omega arith in
          rw z at (h (suc n) (omega arith))
