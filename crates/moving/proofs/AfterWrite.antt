-- Where the span of a write is what the model says, what its moves leave is what the model's write leaves.
use mathlib.Core.Path.{◌≡◌, refl, sym, ◌∙◌, ap, ap₂}
use mathlib.Core.List.{List, [], ◌∷◌, ◌++◌, map}
use mathlib.Core.Bool.{Bool, true, false, cond, ◌&&◌}
use Prim.Native.Nat.{ℕ, suc, ◌+◌, ◌/◌, ◌%◌, ◌≤◌, ◌<◌}
use native.Mathlib.Nat.{add-zero, zero-add}
use native.Mathlib.Omega.{arith}
use lib.ListN.{length, get_or, take, drop, take-append-drop, length-append}
use lib.Seq.{length-take-le}
use lib.Dec.{leb, ltb}
use borrow.Author.Tests.{lt-ltb, le-ltb, le-leb, lt-leb}
use Rattle.model.specs.Lists.{All}
use Rattle.model.specs.Applicant.{tx_laf, opportunity, becomes}
use Rattle.model.specs.Places as places
use Rattle.model.specs.Places.{Way, itself, each, saying, reached, behind, write_from}
use Rattle.model.specs.Machines.{Listed, with, after, way}
use Rattle.model.specs.State.{Bridge, no_domain, cell_at, sender_at, own_at, slot_of}
use Rattle.model.specs.Registrations.{Kind, advertises, faileds, listeners, registered_in, domain_stays}
use Rattle.model.specs.Declarations.{Declaration, talker_kind, advertise_of, failed_of, of_kind, domain_of, domain_values, declarations, is_registered}
use Rattle.model.specs.Writing.{leaves_all, port_way, takes_on, wrote_on, end_on, moved_at, after_write}
use Rattle.model.proofs.Lists.{all_map}
use Rattle.model.proofs.PlaceLists.{reached-behind}
use Rattle.model.proofs.WrittenList.{each_at, at-append, at_same, at_place, registered-self, ListedPort}
use Rattle.moving.specs.declared.Span.{Span}
use Rattle.moving.specs.declared.Met.{Met}
use Rattle.moving.specs.Moves.{moved_by, met_kind, met_slots, none_met, after_moves, left_before}
use Rattle.moving.proofs.LeftBefore.{types-met, kept_at, met_list, list-append, Asked, kind-met, slots-met}

-- the span of a write of the port at place p from a place
pub record SpanOf (b : Bridge) (p place : ℕ) (w : Span) : Type 0 where
  pub place_is : w.place ≡ place
  pub end_is : w.end ≡ end_on b p place
  pub all-is : w.all ≡ leaves_all b p

abbrev span : ℕ → ℕ → Bool → Span
span place end all = record { place = place; end = end; all = all }

module _ (b : Bridge) (p place : ℕ) where
  span-is : (w : Span) → SpanOf b p place w → w ≡ span place (end_on b p place) (leaves_all b p)
  span-is w s =
      ap (λ (x : ℕ). span x w.end w.all) s.place_is
      ∙ ap (λ (x : ℕ). span place x w.all) s.end_is
      ∙ ap (span place (end_on b p place)) s.all-is

  moves-are : after_moves (span place (end_on b p place) (leaves_all b p)) p b ≡ after_write b p place
  unfolding after_moves after_write moved_by
  moves-are = refl

  pub moves-written : (w : Span) → SpanOf b p place w → after_moves w p b ≡ after_write b p place
  moves-written w s = ap (λ (x : Span). after_moves x p b) (span-is w s) ∙ moves-are

-- The next place: what is left of the declarations before the end.

module _ {A : Type 0} where
  -- where all from a place on are moved alike
  each-alike : (f : ℕ → A → List A) (g : A → List A) (i : ℕ) (l : List A) → ((j : ℕ) → i ≤ j → j < i + length l → (x : A) → f j x ≡ g x)
      → length (each_at f i l) ≡ length (each g l)
  unfolding each_at each
  each-alike f g i [] h = refl
  each-alike f g i (x ∷ l) h =
      ap (λ (m : List A). length (m ++ each_at f (suc i) l)) (h i (omega arith) (omega arith) x)
      ∙ length-append (g x) (each_at f (suc i) l)
      ∙ ap (λ (n : ℕ). length (g x) + n) (each-alike f g (suc i) l (λ j p q y. h j (omega arith) (omega arith) y))
      ∙ sym (length-append (g x) (each g l))

  each_none : (l : List A) → length (each (λ (x : A). []) l) ≡ 0
  unfolding each
  each_none [] = refl
  each_none (x ∷ l) = each_none l

  -- what a write leaves at place i, where it stands before the end
  unfoldable before_end : Way A → ℕ → ℕ → ℕ → A → List A
  before_end w place end i x = cond (ltb i end) (at_place w place end i x) []

  before-three : (w : Way A) (a b c : List A)
      → length (each_at (before_end w (length a) (length a + length b)) 0 (a ++ (b ++ c))) ≡ length (each w.outside a ++ each w.inside b)
  before-three w a b c =
      ap length (at-append f 0 a (b ++ c))
      ∙ length-append (each_at f 0 a) (each_at f (0 + length a) (b ++ c))
      ∙ ap₂ (λ (m n : ℕ). m + n) (each-alike f w.outside 0 a first)
      (ap length (at-append f (0 + length a) b c)
      ∙ length-append (each_at f (0 + length a) b) (each_at f (0 + length a + length b) c)
      ∙ ap₂ (λ (m n : ℕ). m + n) (each-alike f w.inside (0 + length a) b within) (each-alike f (λ (x : A). []) (0 + length a + length b) c past ∙ each_none c)
      ∙ add-zero (length (each w.inside b)))
      ∙ sym (length-append (each w.outside a) (each w.inside b))
    where
      f : ℕ → A → List A
      f = before_end w (length a) (length a + length b)

      first : (j : ℕ) → 0 ≤ j → j < 0 + length a → (x : A) → f j x ≡ w.outside x
      first j p q x = unfold before_end at_place in (rw (lt-ltb j (length a + length b) (omega arith), lt-leb (length a) j (omega arith)))

      within : (j : ℕ) → 0 + length a ≤ j → j < 0 + length a + length b → (x : A) → f j x ≡ w.inside x
      within j p q x = unfold before_end at_place in (rw (lt-ltb j (length a + length b) (omega arith), le-leb (length a) j (omega arith)))

      past : (j : ℕ) → 0 + length a + length b ≤ j → j < 0 + length a + length b + length c → (x : A) → f j x ≡ []
      past j p q x = unfold before_end in (rw (le-ltb j (length a + length b) (omega arith)))

  before-next : (w : Way A) (takes : List A → ℕ) (place : ℕ) (l : List A) → place ≤ length l
      → length (each_at (before_end w place (place + length (reached w.says (takes (saying w.says (drop place l))) (drop place l)))) 0 l) ≡ (write_from w takes place l).next
  unfolding write_from places.left_before
  before-next w takes place l h =
      ap (λ (z : List A). length (each_at (before_end w place (place + length b)) 0 z)) (sym whole) ∙ rw long at (before-three w a b c)
    where
      n : ℕ
      n = takes (saying w.says (drop place l))

      a : List A
      a = take place l

      b : List A
      b = reached w.says n (drop place l)

      c : List A
      c = behind w.says n (drop place l)

      long : length a ≡ place
      long = length-take-le place l h

      whole : a ++ (b ++ c) ≡ l
      whole = ap (λ (r : List A). a ++ r) (reached-behind w.says n (drop place l)) ∙ take-append-drop place l

module _ (b : Bridge) (p place : ℕ) (w : Span) (s : SpanOf b p place w) (v : ListedPort b p) (h : place ≤ length (declarations b p)) where
  abbrev reg : Declaration → Bool
  reg = is_registered b p

  kept-is : (i : ℕ) (x : Listed Declaration) → kept_at w reg i x ≡ before_end (port_way b p) place (end_on b p place) i x
  unfolding kept_at moved_by moved_at before_end at_place port_way
  kept-is i x = rw (s.place_is, s.end_is, s.all-is) (ap (λ (l : List (Listed Declaration)). cond (ltb i (end_on b p place)) l []) (go (leaves_all b p) (leb place i && ltb i (end_on b p place))))
    where
      r : Bool
      r = reg x.value

      go : (all t : Bool)
          → map (with x.value) (cond t (becomes r (opportunity all) x.state) (cond all (becomes r tx_laf x.state) (x.state ∷ [])))
          ≡ cond t ((way all reg).inside x) ((way all reg).outside x)
      go false true = unfold way after opportunity in refl
      go true true = unfold way after opportunity in refl
      go true false = unfold way after in refl
      go false false = unfold way itself with in refl

  asks : (k : Kind) → All (λ x. Asked w reg k x.id (registered_in k (cell_at x p))) b.streams
  asks advertises = unfold is_registered advertise_of talker_kind in all_map _ _ (λ x e v. e) b.streams (registered-self advertises p b.streams v.ascending)
  asks faileds = unfold is_registered failed_of talker_kind in all_map _ _ (λ x e v. e) b.streams (registered-self faileds p b.streams v.ascending)
  asks listeners = unfold is_registered in all_map _ _ (λ x e v. e) b.streams (registered-self listeners p b.streams v.ascending)

  domain-slot : (n : ℕ) → slot_of (5 + n / 8) (n % 8) ≡ n
  unfolding slot_of
  domain-slot n = omega arith

  asks-domains : (n : ℕ) → n < length (own_at b.owns p).domains → reg (domain_of b.settings (0 + n)) ≡ domain_stays (get_or (own_at b.owns p).domains n no_domain)
  unfolding is_registered domain_of
  asks-domains n k =
      let z : 0 + n ≡ n = omega arith in
      rw (z, domain-slot n)

  -- all of the list, type by type
  list-met : left_before w p b ≡ (met_list w reg none_met (declarations b p)).left
  unfolding left_before declarations
  list-met =
      let x = b.streams in
      let fa = of_kind advertises p x in
      let ff = of_kind faileds p x in
      let fl = of_kind listeners p x in
      let ds = (own_at b.owns p).domains in
      let l = (sender_at b.senders p).domains in
      let fd = domain_values b.settings 0 l in
      let ma = met_kind w none_met advertises p x in
      let mf = met_kind w ma faileds p x in
      let ml = met_kind w mf listeners p x in
      let m = met_list w reg in
      ap (λ (z : Met). (met_slots w z ds l).left) (types-met w p x)
      ∙ ap (λ (z : Met). z.left)
      (slots-met w reg b.settings 0 ml ds l v.slots asks-domains
      ∙ ap (λ (z : Met). m z fd) (kind-met w reg listeners p mf x (asks listeners))
      ∙ ap (λ (z : Met). m (m z fl) fd) (kind-met w reg faileds p ma x (asks faileds))
      ∙ ap (λ (z : Met). m (m (m z ff) fl) fd) (kind-met w reg advertises p none_met x (asks advertises))
      ∙ sym (list-append w reg (m (m none_met fa) ff) fl fd)
      ∙ sym (list-append w reg (m none_met fa) ff (fl ++ fd))
      ∙ sym (list-append w reg none_met fa (ff ++ (fl ++ fd))))

  pub left-written : left_before w p b ≡ (wrote_on b p place).next
  unfolding met_list wrote_on end_on
  left-written =
      list-met
      ∙ zero-add (length (each_at (kept_at w reg) 0 (declarations b p)))
      ∙ ap length (at_same (kept_at w reg) (before_end (port_way b p) place (end_on b p place)) kept-is 0 (declarations b p))
      ∙ before-next (port_way b p) (takes_on b p) place (declarations b p) h
