-- A port falls silent: three passes over its list leave every machine in QA, two where none is in VN or AN, with LeaveAll due too; and
-- then a pass writes nothing, 5.4.3 f): "Not redeclare its attributes unless responding to a LeaveAll event".
use mathlib.Core.Path.{◌≡◌, refl, sym, ◌∙◌, ap}
use mathlib.Core.List.{List, [], ◌∷◌, ◌++◌, map, flatten}
use mathlib.Core.Bool.{Bool, true, false, cond, true≢false}
use Prim.Native.Nat.{ℕ, suc, ◌≤◌}
use native.Mathlib.Omega.{arith}
use lib.ListN.{length, take, drop}
use Rattle.model.specs.Lists.{All, keep}
use Rattle.model.specs.Applicant.{ApplicantEvent, tx, tx_la, tx_laf, Standing, very_anxious_passive, very_anxious_new, anxious_new, anxious_active, quiet_active, leaving_active, becomes, speaks}
use Rattle.model.specs.Places.{each, saying, reached, behind, left_before, write_from, runs, left}
use Rattle.model.specs.Machines.{Listed, with, after, way}
use Rattle.model.proofs.Lists.{all_map, all-each, all_append, all_drop}
use Rattle.model.proofs.ApplicantEntries.{written, written-leaving-all, left_out, speaking}
use Rattle.model.proofs.PlaceLists.{cons-apart, each-itself, each_all, all-saying, none-saying, fewer-saying, all-reached}
use Rattle.model.proofs.Passing.{Takes, left-to-say, taken, from_next, to-next, says_all, list_left, all_left}

-- how many writes a machine has before it is quiet or gone
unfoldable pub to_quiet : Standing → ℕ
to_quiet very_anxious_passive = 2
to_quiet very_anxious_new = 3
to_quiet anxious_new = 2
to_quiet anxious_active = 1
to_quiet quiet_active = 0
to_quiet leaving_active = 1

pub three-most : (q : Standing) → to_quiet q ≤ 3
unfolding to_quiet
three-most very_anxious_passive = omega arith
three-most very_anxious_new = omega arith
three-most anxious_new = omega arith
three-most anxious_active = omega arith
three-most quiet_active = omega arith
three-most leaving_active = omega arith

none_left : (q : Standing) → to_quiet q ≤ 0 → q ≡ quiet_active
unfolding to_quiet
none_left very_anxious_passive h = absurd (omega (arith, h))
none_left very_anxious_new h = absurd (omega (arith, h))
none_left anxious_new h = absurd (omega (arith, h))
none_left anxious_active h = absurd (omega (arith, h))
none_left quiet_active h = refl
none_left leaving_active h = absurd (omega (arith, h))

-- each write is one of them
one_less : (r : Bool) (n : ℕ) (q : Standing) → to_quiet q ≤ suc n → All (λ z. to_quiet z ≤ n) (becomes r tx q)
unfolding to_quiet
one_less r n very_anxious_passive h = rw (written r).0 (omega (arith, h), tt)
one_less r n very_anxious_new h = rw (written r).1 (omega (arith, h), tt)
one_less r n anxious_new h = rw (written r).2 (go r, tt)
  where
    go : (b : Bool) → to_quiet (cond b quiet_active anxious_active) ≤ n
    go true = omega arith
    go false = omega (arith, h)
one_less r n anxious_active h = rw (written r).3 (omega arith, tt)
one_less r n quiet_active h = rw (written r).4 (omega arith, tt)
one_less r n leaving_active h = rw (written r).5 tt

-- a machine that New! has moved, and not yet both News away
abbrev pub Old : Standing → Type 0
Old very_anxious_passive = Unit {0}
Old very_anxious_new = ⊥
Old anxious_new = ⊥
Old anxious_active = Unit {0}
Old quiet_active = Unit {0}
Old leaving_active = Unit {0}

old-two : (q : Standing) → Old q → to_quiet q ≤ 2
unfolding to_quiet
old-two very_anxious_passive u = omega arith
old-two very_anxious_new u = absurd u
old-two anxious_new u = absurd u
old-two anxious_active u = omega arith
old-two quiet_active u = omega arith
old-two leaving_active u = omega arith

-- left out of a LeaveAll: it stays so
old-left-out : (r : Bool) (q : Standing) → Old q → All (λ z. to_quiet z ≤ 2) (becomes r tx_laf q)
unfolding to_quiet
old-left-out r very_anxious_passive u = rw (left_out r).0 (omega arith, tt)
old-left-out r very_anxious_new u = absurd u
old-left-out r anxious_new u = absurd u
old-left-out r anxious_active u = rw (left_out r).3 (omega arith, tt)
old-left-out r quiet_active u = rw (left_out r).4 (omega arith, tt)
old-left-out r leaving_active u = rw (left_out r).5 tt

-- what was left out has something to say
out-speaks : (r : Bool) (q : Standing) → All (λ z. speaks tx z ≡ true) (becomes r tx_laf q)
out-speaks r very_anxious_passive = rw (left_out r).0 (speaking.0, tt)
out-speaks r very_anxious_new = rw (left_out r).1 (speaking.1, tt)
out-speaks r anxious_new = rw (left_out r).2 (speaking.1, tt)
out-speaks r anxious_active = rw (left_out r).3 (speaking.0, tt)
out-speaks r quiet_active = rw (left_out r).4 (speaking.0, tt)
out-speaks r leaving_active = rw (left_out r).5 tt

-- a write with LeaveAll is one of them too
one-less-all : (r : Bool) (n : ℕ) (q : Standing) → to_quiet q ≤ suc n → All (λ z. to_quiet z ≤ n) (becomes r tx_la q)
one-less-all r n q h = rw (written-leaving-all r q) (one_less true n q h)

module _ {D : Type 0} where
  abbrev pub In : (Standing → Type 0) → Listed D → Type 0
  In P x = P x.state

  -- at most so many writes, of each machine
  abbrev pub Within : ℕ → Listed D → Type 0
  Within n x = to_quiet x.state ≤ n

  abbrev pub Quiet : Listed D → Type 0
  Quiet x = x.state ≡ quiet_active

  -- what is left of a declaration, from what the table says of its state
  left-of : (Q : Standing → Type 0) (g : D → Bool) (e : ApplicantEvent) (x : Listed D) → All Q (becomes (g x.value) e x.state) → All (In Q) (after g e x)
  unfolding after with
  left-of Q g e x a = go (becomes (g x.value) e x.state) a
    where
      go : (m : List Standing) → All Q m → All (In Q) (map (λ (y : Standing). record { state = y; value = x.value }) m)
      go [] b = tt
      go (y ∷ m) b = (b.0, go m b.1)

  -- of a list
  moved_all : (P Q : Standing → Type 0) (g : D → Bool) (e : ApplicantEvent) → ((r : Bool) (y : Standing) → P y → All Q (becomes r e y))
      → (l : List (Listed D)) → All (In P) l → All (In Q) (each (after g e) l)
  moved_all P Q g e h l a = each_all (In P) (In Q) (after g e) (λ x p. left-of Q g e x (h (g x.value) x.state p)) l a

  -- at most three at first
  at_first : (l : List (Listed D)) → All (Within 3) l
  at_first l = all-each (Within 3) (λ x. three-most x.state) l

  all_quiet : (l : List (Listed D)) → All (Within 0) l → All Quiet l
  all_quiet l a = all_map (Within 0) Quiet (λ x. none_left x.state) l a

  -- quiet ones have nothing to say, and one that has nothing to say is quiet and stays
  pub silence : (g : D → Bool) (l : List (Listed D)) → All Quiet l → saying (way false g).says l ≡ []
  unfolding way
  silence g l a =
      none-saying (λ (x : Listed D). speaks tx x.state) l
      (all_map Quiet (λ x. speaks tx x.state ≡ false) (λ x e. ap (speaks tx) e ∙ speaking.4) l a)

  silent-stays : (g : D → Bool) (x : Listed D) → speaks tx x.state ≡ false → after g tx x ≡ x ∷ []
  unfolding after with
  silent-stays g x e = go x.state e
    where
      go : (y : Standing) → speaks tx y ≡ false → map (with x.value) (becomes (g x.value) tx y) ≡ with x.value y ∷ []
      go very_anxious_passive e = absurd (true≢false (sym speaking.0 ∙ e))
      go very_anxious_new e = absurd (true≢false (sym speaking.1 ∙ e))
      go anxious_new e = absurd (true≢false (sym speaking.2 ∙ e))
      go anxious_active e = absurd (true≢false (sym speaking.3 ∙ e))
      go quiet_active e = rw (written (g x.value)).4
      go leaving_active e = absurd (true≢false (sym speaking.5 ∙ e))

  pub nothing-moves : (g : D → Bool) (l : List (Listed D)) → saying (way false g).says l ≡ [] → each (way false g).inside l ≡ l
  unfolding way each saying
  nothing-moves g [] e = refl
  nothing-moves g (x ∷ l) e = go (speaks tx x.state) refl e (nothing-moves g l)
    where
      go : (b : Bool) → speaks tx x.state ≡ b → keep b x (saying (λ (y : Listed D). speaks tx y.state) l) ≡ []
          → (saying (λ (y : Listed D). speaks tx y.state) l ≡ [] → each (after g tx) l ≡ l) → after g tx x ++ each (after g tx) l ≡ x ∷ l
      go true d e ih = absurd (cons-apart e)
      go false d e ih = ap (λ (r : List (Listed D)). r ++ each (after g tx) l) (silent-stays g x d) ∙ ap (λ (r : List (Listed D)). x ∷ r) (ih e)

  still : (g : D → Bool) (l : List (Listed D)) → each (way false g).outside l ≡ l
  unfolding way
  still g l = each-itself l

  -- Passes: a write's place and list are what the one before gave back. Between two of them registrations may change.
  module _ (takes : List (Listed D) → ℕ) (t : Takes takes) where
    -- the list after a pass from place 0 (as many PDUs as declarations are enough)
    unfoldable pub pass : (D → Bool) → List (Listed D) → List (Listed D)
    pass g l = left (way false g) takes (length l) 0 l

    enough : (g : D → Bool) (place : ℕ) (l : List (Listed D)) → length (left-to-say (way false g) takes place l) ≤ length (drop place l)
    unfolding left-to-say
    enough g place l = fewer-saying (way false g).says (drop place l)

    -- each machine moved once by tx!
    pub one-pass : (g : D → Bool) (l : List (Listed D)) → pass g l ≡ each (after g tx) l
    unfolding pass
    one-pass g l = unfold way in (all_left (way false g) takes t (still g) (nothing-moves g) (length l) l (enough g 0 l))

    -- what is written in it: those with something to say, each once, in the list's order
    pub pass-says : (g : D → Bool) (l : List (Listed D)) → flatten (runs (way false g) takes (length l) 0 l) ≡ saying (way false g).says l
    pass-says g l = says_all (way false g) takes t (still g) (length l) 0 l (enough g 0 l) ∙ unfold left-to-say in refl

    lowers : (g : D → Bool) (n : ℕ) (l : List (Listed D)) → All (Within (suc n)) l → All (Within n) (pass g l)
    lowers g n l a = rw (one-pass g l) (moved_all (λ y. to_quiet y ≤ suc n) (λ y. to_quiet y ≤ n) g tx (λ r y. one_less r n y) l a)

    -- after three every machine is QA
    pub three-passes : (g h k : D → Bool) (l : List (Listed D)) → All Quiet (pass k (pass h (pass g l)))
    three-passes g h k l =
        all_quiet (pass k (pass h (pass g l))) (lowers k 0 (pass h (pass g l)) (lowers h 1 (pass g l) (lowers g 2 l (at_first l))))

    -- after two, where none was in VN or AN
    pub two-passes : (g h : D → Bool) (l : List (Listed D)) → All (In Old) l → All Quiet (pass h (pass g l))
    two-passes g h l a =
        all_quiet (pass h (pass g l)) (lowers h 0 (pass g l) (lowers g 1 l (all_map (In Old) (Within 2) (λ x. old-two x.state) l a)))

    -- then the port is silent: from every place a PDU says nothing
    pub further-pass : (g : D → Bool) (l : List (Listed D)) → All Quiet l → (place : ℕ) → left-to-say (way false g) takes place l ≡ []
    unfolding left-to-say
    further-pass g l a place = silence g (drop place l) (all_drop Quiet place l a)

    -- LeaveAll: the first write of a pass has it, with a room of its own; then registrations are leaving.
    module _ (room : List (Listed D) → ℕ) (g h : D → Bool) (l : List (Listed D)) where
      abbrev rest : List (Listed D)
      rest = behind (way true g).says (taken (way true g) room 0 l) l

      abbrev front : List (Listed D)
      front = reached (way true g).says (taken (way true g) room 0 l) l

      -- those that found no room, and LA gone
      unfoldable pub out : List (Listed D)
      out = each (after g tx_laf) rest

      unfoldable pub next : ℕ
      next = (write_from (way true g) room 0 l).next

      unfoldable pub list : List (Listed D)
      list = (write_from (way true g) room 0 l).list

      unfoldable pub pass_leaving_all : List (Listed D)
      pass_leaving_all = left (way false h) takes (length out) next list

      from_list : drop next list ≡ out
      unfolding next list out
      from_list = unfold way in (from_next (way true g) room 0 l)

      to-list : take next list ≡ each (after g tx_la) front
      unfolding next list
      to-list = to-next (way true g) room 0 l ∙ unfold left_before way each in refl

      -- all of them are said in what follows
      all-speak : All (λ x. speaks tx x.state ≡ true) out
      unfolding out
      all-speak = moved_all (λ y. Unit {0}) (λ y. speaks tx y ≡ true) g tx_laf (λ r y u. out-speaks r y) rest (all-each (λ x. Unit {0}) (λ x. tt) rest)

      pub out-said : left-to-say (way false h) takes next list ≡ out
      unfolding left-to-say
      out-said = ap (saying (way false h).says) from_list ∙ unfold way in (all-saying (λ (x : Listed D). speaks tx x.state) out all-speak)

      pub rest-said : flatten (runs (way false h) takes (length out) next list) ≡ out
      rest-said = says_all (way false h) takes t (still h) (length out) next list (rw out-said (omega arith)) ∙ out-said

      -- the list after the pass: what was reached by txLA!, what was not by txLAF! and then tx!
      leave-all-list : pass_leaving_all ≡ each (after g tx_la) front ++ each (after h tx) out
      unfolding pass_leaving_all
      leave-all-list =
          list_left (way false h) takes t (still h) (nothing-moves h) (length out) next list (rw out-said (omega arith))
          ∙ ap (λ (r : List (Listed D)). r ++ each (way false h).inside (drop next list)) to-list
          ∙ ap (λ (r : List (Listed D)). each (after g tx_la) front ++ each (way false h).inside r) from_list ∙ unfold way in refl

      parted : (P : Listed D → Type 0) → All P l → All P front × All P rest
      parted P a = all-reached (way true g).says P (taken (way true g) room 0 l) l a

      -- so it counts as one of the three, or of the two
      leave-all-lowers : (n : ℕ) → All (Within (suc n)) front → All (Within (suc n)) out → All (Within n) pass_leaving_all
      leave-all-lowers n a b =
          rw leave-all-list
          (all_append (Within n) (each (after g tx_la) front) (each (after h tx) out)
          (moved_all (λ y. to_quiet y ≤ suc n) (λ y. to_quiet y ≤ n) g tx_la (λ r y. one-less-all r n y) front a)
          (moved_all (λ y. to_quiet y ≤ suc n) (λ y. to_quiet y ≤ n) h tx (λ r y. one_less r n y) out b))

      pub three-with-leave-all : (j k : D → Bool) → All Quiet (pass k (pass j pass_leaving_all))
      three-with-leave-all j k =
          all_quiet (pass k (pass j pass_leaving_all)) (lowers k 0 (pass j pass_leaving_all) (lowers j 1 pass_leaving_all (leave-all-lowers 2 (at_first front) (at_first out))))

      pub two-with-leave-all : (k : D → Bool) → All (In Old) l → All Quiet (pass k pass_leaving_all)
      two-with-leave-all k a =
          all_quiet (pass k pass_leaving_all) (lowers k 0 pass_leaving_all (leave-all-lowers 1 (all_map (In Old) (Within 2) (λ x. old-two x.state) front (parted (In Old) a).0) out-two))
        where
          out-two : All (Within 2) out
          out-two = unfold out in (moved_all Old (λ y. to_quiet y ≤ 2) g tx_laf old-left-out rest (parted (In Old) a).1)
