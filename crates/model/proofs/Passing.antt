-- Passing from place to place, while declarations leave the list: what is to say is said once, in the list's order, and it ends; and
-- what is left of the list.
use mathlib.Core.Path.{◌≡◌, refl, sym, ◌∙◌, ap}
use mathlib.Core.List.{List, [], ◌∷◌, ◌++◌, flatten, append-nil, append_assoc}
use mathlib.Core.Bool.{Bool, true, false, cond}
use Prim.Native.Nat.{ℕ, zero, suc, ◌≤◌}
use native.Mathlib.Omega.{arith}
use lib.ListN.{length, take, drop, take-append-drop, length-drop}
use lib.Seq.{length-take-le, take-append_seam, drop-append_seam}
use Rattle.model.specs.Places.{is_none, Way, each, saying, reached, behind, left_before, write_from, runs, left}
use Rattle.model.proofs.PlaceLists.{each_append, reached-behind, saying-behind, none-behind, no_length, none-there, some-there}

-- How many one PDU takes: not more than there are, and at least one where there is one.
pub record Takes {A : Type 0} (takes : List A → ℕ) : Type 0 where
  pub within : (l : List A) → takes l ≤ length l
  pub some : (l : List A) → 1 ≤ length l → 1 ≤ takes l

-- Any write, from any place.
module _ {A : Type 0} (w : Way A) (takes : List A → ℕ) (place : ℕ) (l : List A) where
  -- those with something to say from the place on, and how many of them the PDU takes
  unfoldable pub left-to-say : List A
  left-to-say = saying w.says (drop place l)

  unfoldable pub taken : ℕ
  taken = takes (saying w.says (drop place l))

  pub run_is : (write_from w takes place l).run ≡ take taken left-to-say
  unfolding write_from taken left-to-say
  run_is = refl

  -- from the next place on stands what was behind the run, and nothing else; before it what was reached
  pub from_next : drop (write_from w takes place l).next (write_from w takes place l).list ≡ each w.outside (behind w.says taken (drop place l))
  unfolding write_from taken
  from_next = drop-append_seam (left_before w (takes (saying w.says (drop place l))) place l) _

  pub to-next : take (write_from w takes place l).next (write_from w takes place l).list ≡ left_before w taken place l
  unfolding write_from taken
  to-next = take-append_seam (left_before w (takes (saying w.says (drop place l))) place l) _

  pub list-is : (write_from w takes place l).list ≡ left_before w taken place l ++ each w.outside (behind w.says taken (drop place l))
  unfolding write_from taken
  list-is = refl

-- Writes in which those that the PDU doesn't reach stay as they are: without LeaveAll.
module _ {A : Type 0} (w : Way A) (takes : List A → ℕ) (t : Takes takes) (same : (l : List A) → each w.outside l ≡ l) where
  -- what is left to say from the next place on
  pub say-next : (place : ℕ) (l : List A)
      → left-to-say w takes (write_from w takes place l).next (write_from w takes place l).list ≡ drop (taken w takes place l) (left-to-say w takes place l)
  unfolding left-to-say
  say-next place l =
      ap (saying w.says) (from_next w takes place l ∙ same _) ∙ saying-behind w.says (taken w takes place l) (drop place l)

  -- a PDU that says nothing: nothing was left to say
  pub nothing_left : (place : ℕ) (l : List A) → is_none (write_from w takes place l).run ≡ true → left-to-say w takes place l ≡ []
  unfolding taken left-to-say
  nothing_left place l e = go (saying w.says (drop place l)) (none-there (take (takes (saying w.says (drop place l))) (saying w.says (drop place l))) (rw (run_is w takes place l) at e))
    where
      go : (s : List A) → length (take (takes s) s) ≤ 0 → s ≡ []
      go [] h = refl
      go (x ∷ s) h = absurd (omega (arith, t.some (x ∷ s) (omega arith), length-take-le (takes (x ∷ s)) (x ∷ s) (t.within (x ∷ s))))

  -- one that says something takes at least one
  pub takes_one : (place : ℕ) (l : List A) → is_none (write_from w takes place l).run ≡ false
      → (1 ≤ taken w takes place l) × (taken w takes place l ≤ length (left-to-say w takes place l))
  takes_one place l e =
      let s = left-to-say w takes place l in
      let k : taken w takes place l ≤ length s = unfold taken left-to-say in (t.within (saying w.says (drop place l))) in
      let some : 1 ≤ length (take (taken w takes place l) s) = some-there (take (taken w takes place l) s) (rw (run_is w takes place l) at e) in
      (rw (length-take-le (taken w takes place l) s k) at some, k)

  -- The PDUs from a place on say what is to say from there on, once, in order; there are not more of them than declarations.
  pub says_all : (f place : ℕ) (l : List A) → length (left-to-say w takes place l) ≤ f
      → flatten (runs w takes f place l) ≡ left-to-say w takes place l
  unfolding runs flatten
  says_all zero place l h = sym (no_length (left-to-say w takes place l) h)
  says_all (suc f) place l h =
      go (is_none (write_from w takes place l).run) refl (says_all f (write_from w takes place l).next (write_from w takes place l).list)
    where
      s : List A
      s = left-to-say w takes place l

      n : ℕ
      n = taken w takes place l

      next : ℕ
      next = (write_from w takes place l).next

      list : List A
      list = (write_from w takes place l).list

      go : (b : Bool) → is_none (write_from w takes place l).run ≡ b
          → (length (left-to-say w takes next list) ≤ f → flatten (runs w takes f next list) ≡ left-to-say w takes next list)
          → flatten (cond b [] ((write_from w takes place l).run ∷ runs w takes f next list)) ≡ s
      go true e ih = sym (nothing_left place l e)
      go false e ih =
          let some = takes_one place l e in
          let fewer : length (left-to-say w takes next list) ≤ f = rw (say-next place l, length-drop n s) (omega (arith, some.0, some.1, h)) in
          rw (ih fewer, say-next place l, run_is w takes place l) (take-append-drop n s)

  -- What is left of the list: each declaration from the place on moved once, those before it as they were.
  pub list_left : ((l : List A) → saying w.says l ≡ [] → each w.inside l ≡ l) → (f place : ℕ) (l : List A)
      → length (left-to-say w takes place l) ≤ f → left w takes f place l ≡ take place l ++ each w.inside (drop place l)
  unfolding left
  list_left quiet zero place l h =
      sym (take-append-drop place l)
      ∙ ap (λ (r : List A). take place l ++ r) (sym (quiet (drop place l) (unfold left-to-say in (no_length (left-to-say w takes place l) h))))
  list_left quiet (suc f) place l h =
      go (is_none (write_from w takes place l).run) refl (list_left quiet f (write_from w takes place l).next (write_from w takes place l).list)
    where
      n : ℕ
      n = taken w takes place l

      next : ℕ
      next = (write_from w takes place l).next

      list : List A
      list = (write_from w takes place l).list

      reach : List A
      reach = reached w.says n (drop place l)

      rest : List A
      rest = behind w.says n (drop place l)

      whole : reach ++ rest ≡ drop place l
      whole = reached-behind w.says n (drop place l)

      front : left_before w n place l ≡ take place l ++ each w.inside reach
      front = unfold left_before in (ap (λ (r : List A). r ++ each w.inside reach) (same (take place l)))

      go : (b : Bool) → is_none (write_from w takes place l).run ≡ b
          → (length (left-to-say w takes next list) ≤ f → left w takes f next list ≡ take next list ++ each w.inside (drop next list))
          → cond b list (left w takes f next list) ≡ take place l ++ each w.inside (drop place l)
      go true e ih =
          let none : rest ≡ [] = none-behind w.says n (drop place l) (unfold left-to-say in (nothing_left place l e)) in
          let all : reach ≡ drop place l = sym (append-nil reach) ∙ ap (λ (r : List A). reach ++ r) (sym none) ∙ whole in
          list-is w takes place l
          ∙ ap (λ (r : List A). left_before w n place l ++ r) (same rest ∙ none)
          ∙ append-nil (left_before w n place l) ∙ front ∙ ap (λ (r : List A). take place l ++ each w.inside r) all
      go false e ih =
          let some = takes_one place l e in
          let s = left-to-say w takes place l in
          let fewer : length (left-to-say w takes next list) ≤ f = rw (say-next place l, length-drop n s) (omega (arith, some.0, some.1, h)) in
          ih fewer
          ∙ ap (λ (r : List A). r ++ each w.inside (drop next list)) (to-next w takes place l ∙ front)
          ∙ ap (λ (r : List A). (take place l ++ each w.inside reach) ++ each w.inside r) (from_next w takes place l ∙ same rest)
          ∙ append_assoc (take place l) (each w.inside reach) (each w.inside rest)
          ∙ ap (λ (r : List A). take place l ++ r) (sym (each_append w.inside reach rest) ∙ ap (each w.inside) whole)

  -- from place 0: all of the list
  pub all_left : ((l : List A) → saying w.says l ≡ [] → each w.inside l ≡ l) → (f : ℕ) (l : List A)
      → length (left-to-say w takes 0 l) ≤ f → left w takes f 0 l ≡ each w.inside l
  all_left quiet f l h = list_left quiet f 0 l h
