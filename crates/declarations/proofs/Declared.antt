-- A declarer has one declaration of a type on a port or none, and says one thing of it or nothing; how a walk over the declarers passes,
-- counts and takes these.
use Prim.Native.Nat.{ℕ, zero, suc, ◌+◌, ◌-◌, ◌≤◌, ◌<◌}
use native.Mathlib.Numerals.{add-one}
use native.Mathlib.Omega.{arith}
use mathlib.Core.Path.{◌≡◌, refl, sym, ap, ◌∙◌}
use mathlib.Core.Bool.{Bool, true, false, false≢true}
use mathlib.Core.List.{List, [], ◌∷◌, ◌++◌, map, map-append}
use lib.ListN.{length, length-append, length-map, get_or, take, drop}
use Rattle.model.specs.Lists.{keep}
use Rattle.model.specs.Machines.{Listed, Applicant, no_applicant, applicant}
use Rattle.model.specs.Places.{saying, reached, behind}
use Rattle.model.specs.State.{Settings, Sends, Stream, Bridge, fresh, sends_at, sender_at, stream_at}
use Rattle.model.specs.Registrations.{Kind, advertises, faileds, listeners}
use Rattle.model.specs.Frames.{Attribute, registers, domain_type}
use Rattle.model.specs.Declarations.{Declaration, Said, listed_as, advertise_of, failed_of, declarations_of, of_kind, domain_of, domain_values}
use Rattle.model.specs.Writing.{port_way, say_on}
use Rattle.model.proofs.PlaceLists.{fewer-saying, reached-behind}
use Rattle.declarations.specs.Vectors.{some}
use Rattle.declarations.specs.Passes.{declarers, machine_by, said_of, said_by, gathered, machines_from, said_from, all_of}

-- One or none.

one-listed : {A : Type 0} (f : A → Declaration) (a : Applicant A) → length (listed_as f a) ≤ 1
unfolding listed_as
one-listed f no_applicant = omega arith
one-listed f (applicant x) = omega arith

one-sent : (j : Kind) (id : ℕ) (s : Sends) → length (declarations_of j id s) ≤ 1
unfolding declarations_of
one-sent advertises id s = one-listed (advertise_of id) s.advertising
one-sent faileds id s = one-listed (failed_of id) s.failing
one-sent listeners id s = one-listed _ s.listening

module _ (j : Attribute) (p : ℕ) (b : Bridge) where
  pub one-machine : (k : ℕ) → length (machine_by j p b k) ≤ 1
  unfolding machine_by
  one-machine k = go j
    where
      go : (i : Attribute) → length (machine_by i p b k) ≤ 1
      go (registers i) = one-sent i (stream_at k b).id (sends_at (stream_at k b) p)
      go domain_type = one-listed _ (get_or (sender_at b.senders p).domains k no_applicant)

  pub one-said : (k : ℕ) → length (said_by j p b k) ≤ 1
  unfolding said_by said_of
  one-said k =
      let l = saying (port_way b p).says (machine_by j p b k) in
      omega (arith, length-map l (say_on b p), fewer-saying (port_way b p).says (machine_by j p b k), one-machine k)

-- what is said of some and of others
saying-append : {A : Type 0} (f : A → Bool) (l m : List A) → saying f (l ++ m) ≡ saying f l ++ saying f m
unfolding saying
saying-append f [] m = refl
saying-append f (x ∷ l) m = rw (saying-append f l m) (go (f x))
  where
    go : (t : Bool) → keep t x (saying f l ++ saying f m) ≡ keep t x (saying f l) ++ saying f m
    go true = refl
    go false = refl

pub said-append : (b : Bridge) (p : ℕ) (l m : List (Listed Declaration)) → said_of b p (l ++ m) ≡ said_of b p l ++ said_of b p m
unfolding said_of
said-append b p l m =
    rw (saying-append (port_way b p).says l m) (map-append (say_on b p) (saying (port_way b p).says l) (saying (port_way b p).says m))

-- One or none in front of others: passed, taken, counted.

module _ {A : Type 0} where
  pub none-there : (l : List A) → some l ≡ false → l ≡ []
  unfolding some
  none-there [] e = refl
  none-there (x ∷ l) e = cc

  pass-one : (l m : List A) (n : ℕ) → length l ≤ 1 → some l ≡ true → 0 < n → drop n (l ++ m) ≡ drop (n - 1) m
  unfolding some
  pass-one [] m n f e h = cc
  pass-one (x ∷ []) m zero f e h = absurd (omega arith)
  pass-one (x ∷ []) m (suc n) f e h = let i : suc n - 1 ≡ n = omega arith in rw i
  pass-one (x ∷ y ∷ l) m n f e h = absurd (omega arith)

  take-one : (l m : List A) (n : ℕ) → length l ≤ 1 → some l ≡ true → 0 < n → take n (l ++ m) ≡ l ++ take (n - 1) m
  unfolding some
  take-one [] m n f e h = cc
  take-one (x ∷ []) m zero f e h = absurd (omega arith)
  take-one (x ∷ []) m (suc n) f e h = let i : suc n - 1 ≡ n = omega arith in rw i
  take-one (x ∷ y ∷ l) m n f e h = absurd (omega arith)

  count-one : (l m : List A) → length l ≤ 1 → some l ≡ true → length (l ++ m) ≡ length m + 1
  unfolding some
  count-one [] m f e = cc
  count-one (x ∷ []) m f e = omega arith
  count-one (x ∷ y ∷ l) m f e = absurd (omega arith)

-- A walk over places of which each gives one or none.
module _ {A : Type 0} (here : ℕ → List A) (count : ℕ) (few : (k : ℕ) → length (here k) ≤ 1) where
  abbrev from : ℕ → List A
  from k = gathered here (count - k) k

  walk_ends : (k : ℕ) → count ≤ k → from k ≡ []
  walk_ends k h = let e : count - k ≡ 0 = omega arith in rw e (unfold gathered in refl)

  walk-few : (k : ℕ) → length (from k) ≤ count - k
  unfolding gathered
  walk-few k = go (count - k) k
    where
      go : (n k : ℕ) → length (gathered here n k) ≤ n
      go zero k = omega arith
      go (suc n) k = more (here k) (few k) (go n (suc k))
        where
          more : (l : List A) → length l ≤ 1 → length (gathered here n (suc k)) ≤ n → length (l ++ gathered here n (suc k)) ≤ suc n
          more [] f g = omega arith
          more (x ∷ []) f g = omega arith
          more (x ∷ y ∷ l) f g = absurd (omega arith)

  module _ (k : ℕ) (h : k < count) where
    walk-next : from k ≡ here k ++ from (k + 1)
    unfolding gathered
    walk-next =
        let e : count - k ≡ suc (count - (k + 1)) = omega arith in
        rw (e, add-one)

    walk_none : some (here k) ≡ false → from k ≡ from (k + 1)
    walk_none q = walk-next ∙ ap (λ (m : List A). m ++ from (k + 1)) (none-there (here k) q)

    module _ (q : some (here k) ≡ true) where
      walk-counts : length (from k) ≡ length (from (k + 1)) + 1
      walk-counts = ap length walk-next ∙ count-one (here k) (from (k + 1)) (few k) q

      walk-passes : (n : ℕ) → 0 < n → drop n (from k) ≡ drop (n - 1) (from (k + 1))
      walk-passes n g = ap (drop n) walk-next ∙ pass-one (here k) (from (k + 1)) n (few k) q g

      walk-takes : (n : ℕ) → 0 < n → take n (from k) ≡ here k ++ take (n - 1) (from (k + 1))
      walk-takes n g = ap (take n) walk-next ∙ take-one (here k) (from (k + 1)) n (few k) q g

-- The declarations of a type, and what is said of them.

module _ {A : Type 0} where
  shift : (here : ℕ → List A) (n k : ℕ) → gathered (λ i. here (suc i)) n k ≡ gathered here n (suc k)
  unfolding gathered
  shift here zero k = refl
  shift here (suc n) k = ap (λ (m : List A). here (suc k) ++ m) (shift here n (suc k))

streams-gathered : (j : Kind) (p : ℕ) (s : List Stream)
    → gathered (λ k. declarations_of j (get_or s k (fresh 0)).id (sends_at (get_or s k (fresh 0)) p)) (length s) 0 ≡ of_kind j p s
unfolding gathered of_kind
streams-gathered j p [] = refl
streams-gathered j p (x ∷ s) =
    ap (λ (m : List (Listed Declaration)). declarations_of j x.id (sends_at x p) ++ m)
    (sym (shift (λ k. declarations_of j (get_or (x ∷ s) k (fresh 0)).id (sends_at (get_or (x ∷ s) k (fresh 0)) p)) (length s) 0) ∙ streams-gathered j p s)

slots-gathered : (st : Settings) (i : ℕ) (l : List (Applicant (Unit {0})))
    → gathered (λ k. listed_as (λ u. domain_of st (i + k)) (get_or l k no_applicant)) (length l) 0 ≡ domain_values st i l
unfolding gathered domain_values
slots-gathered st i [] = refl
slots-gathered st i (a ∷ l) =
    let e : i + 0 ≡ i = omega arith in
    let here : ℕ → List (Listed Declaration) = λ k. listed_as (λ u. domain_of st (i + k)) (get_or (a ∷ l) k no_applicant) in
    rw e
    (ap (λ (m : List (Listed Declaration)). listed_as (λ u. domain_of st i) a ++ m)
    (sym (shift here (length l) 0) ∙ same (length l) 0 ∙ slots-gathered st (suc i) l))
  where
    same : (n k : ℕ) → gathered (λ j. listed_as (λ u. domain_of st (i + suc j)) (get_or l j no_applicant)) n k
        ≡ gathered (λ j. listed_as (λ u. domain_of st (suc i + j)) (get_or l j no_applicant)) n k
    same zero k = refl
    same (suc n) k =
        let s : i + suc k ≡ suc i + k = omega arith in
        rw (s, same n (suc k))

module _ (j : Attribute) (p : ℕ) (b : Bridge) where
  pub machines-first : machines_from j p b 0 ≡ all_of j p b
  unfolding machines_from machine_by declarers all_of gathered
  machines-first = let e : declarers j p b - 0 ≡ declarers j p b = omega arith in rw e (go j)
    where
      zeroth : (l : List (Applicant (Unit {0}))) (n k : ℕ) → gathered (λ i. listed_as (λ u. domain_of b.settings i) (get_or l i no_applicant)) n k
          ≡ gathered (λ i. listed_as (λ u. domain_of b.settings (0 + i)) (get_or l i no_applicant)) n k
      zeroth l zero k = refl
      zeroth l (suc n) k = let s : 0 + k ≡ k = omega arith in rw (s, zeroth l n (suc k))

      go : (i : Attribute) → gathered (machine_by i p b) (declarers i p b) 0 ≡ all_of i p b
      go (registers k) = streams-gathered k p b.streams
      go domain_type =
          zeroth (sender_at b.senders p).domains (length (sender_at b.senders p).domains) 0
          ∙ slots-gathered b.settings 0 (sender_at b.senders p).domains

  -- what is said of those from a place on
  pub said-is : (k : ℕ) → said_from j p b k ≡ said_of b p (machines_from j p b k)
  unfolding said_from machines_from gathered
  said-is k = go (declarers j p b - k) k
    where
      go : (n k : ℕ) → gathered (said_by j p b) n k ≡ said_of b p (gathered (machine_by j p b) n k)
      go zero k = unfold said_of saying in refl
      go (suc n) k =
          ap (λ (m : List Said). said_by j p b k ++ m) (go n (suc k))
          ∙ sym (said-append b p (machine_by j p b k) (gathered (machine_by j p b) n (suc k)) ∙ unfold said_by in refl)

  pub machines-end : (k : ℕ) → declarers j p b ≤ k → machines_from j p b k ≡ []
  unfolding machines_from
  machines-end k h = walk_ends (machine_by j p b) (declarers j p b) one-here k h
    where
      one-here : (i : ℕ) → length (machine_by j p b i) ≤ 1
      one-here i = one-machine j p b i

  pub said-end : (k : ℕ) → declarers j p b ≤ k → said_from j p b k ≡ []
  unfolding said_from
  said-end k h = walk_ends (said_by j p b) (declarers j p b) (one-said j p b) k h

  pub said-few : (k : ℕ) → length (said_from j p b k) ≤ declarers j p b - k
  unfolding said_from
  said-few k = walk-few (said_by j p b) (declarers j p b) (one-said j p b) k

  pub machines-few : (k : ℕ) → length (machines_from j p b k) ≤ declarers j p b - k
  unfolding machines_from
  machines-few k = walk-few (machine_by j p b) (declarers j p b) (one-machine j p b) k

  module _ (k : ℕ) (h : k < declarers j p b) where
    pub machines-next : machines_from j p b k ≡ machine_by j p b k ++ machines_from j p b (k + 1)
    unfolding machines_from
    machines-next = walk-next (machine_by j p b) (declarers j p b) (one-machine j p b) k h

    pub no-machine : some (machine_by j p b k) ≡ false → machines_from j p b k ≡ machines_from j p b (k + 1)
    unfolding machines_from
    no-machine q = walk_none (machine_by j p b) (declarers j p b) (one-machine j p b) k h q

    pub machine-counted : some (machine_by j p b k) ≡ true → length (machines_from j p b k) ≡ length (machines_from j p b (k + 1)) + 1
    unfolding machines_from
    machine-counted q = walk-counts (machine_by j p b) (declarers j p b) (one-machine j p b) k h q

    pub machine-passed : some (machine_by j p b k) ≡ true → (n : ℕ) → 0 < n → drop n (machines_from j p b k) ≡ drop (n - 1) (machines_from j p b (k + 1))
    unfolding machines_from
    machine-passed q n g = walk-passes (machine_by j p b) (declarers j p b) (one-machine j p b) k h q n g

    pub nothing_said : some (said_by j p b k) ≡ false → said_from j p b k ≡ said_from j p b (k + 1)
    unfolding said_from
    nothing_said q = walk_none (said_by j p b) (declarers j p b) (one-said j p b) k h q

    pub said-counted : some (said_by j p b k) ≡ true → length (said_from j p b k) ≡ length (said_from j p b (k + 1)) + 1
    unfolding said_from
    said-counted q = walk-counts (said_by j p b) (declarers j p b) (one-said j p b) k h q

    pub said-taken : some (said_by j p b k) ≡ true → (n : ℕ) → 0 < n → take n (said_from j p b k) ≡ said_by j p b k ++ take (n - 1) (said_from j p b (k + 1))
    unfolding said_from
    said-taken q n g = walk-takes (said_by j p b) (declarers j p b) (one-said j p b) k h q n g

-- How far those reach of which n find room.
module _ {A : Type 0} (f : A → Bool) where
  pub reached-quiet : (x : A) (n : ℕ) (l : List A) → f x ≡ false → reached f n (x ∷ l) ≡ x ∷ reached f n l
  unfolding reached
  reached-quiet x zero l q = rw q
  reached-quiet x (suc n) l q = rw q

  pub reached-said : (x : A) (n : ℕ) (l : List A) → f x ≡ true → reached f (suc n) (x ∷ l) ≡ x ∷ reached f n l
  unfolding reached
  reached-said x n l q = rw q

  pub reached-none : (x : A) (l : List A) → f x ≡ true → reached f 0 (x ∷ l) ≡ []
  unfolding reached
  reached-none x l q = rw q

-- A walk over the declarers.
module _ (j : Attribute) (p : ℕ) (b : Bridge) where
  abbrev says_it : Listed Declaration → Bool
  says_it = (port_way b p).says

  abbrev pub far : ℕ → ℕ → ℕ
  far n k = length (reached says_it n (machines_from j p b k))

  -- whether something is said of the one declaration there
  said-one : (l : List (Listed Declaration)) → length l ≤ 1 → some l ≡ true → (x : Listed Declaration) × (l ≡ x ∷ [])
  unfolding some
  said-one [] f q = absurd (false≢true q)
  said-one (x ∷ []) f q = (x, refl)
  said-one (x ∷ y ∷ l) f q = absurd (omega arith)

  says-one : (x : Listed Declaration) → some (said_of b p (x ∷ [])) ≡ says_it x
  unfolding said_of saying some
  says-one x = go (says_it x)
    where
      go : (t : Bool) → some (map (say_on b p) (keep t x [])) ≡ t
      go true = refl
      go false = refl

  pub far-few : (n k : ℕ) → far n k ≤ declarers j p b - k
  far-few n k =
      let l = machines_from j p b k in
      omega (arith, ap length (reached-behind says_it n l), length-append (reached says_it n l) (behind says_it n l), machines-few j p b k)

  pub far-end : (n k : ℕ) → declarers j p b ≤ k → far n k ≡ 0
  unfolding reached
  far-end n k h = rw (machines-end j p b k h)

  module _ (k : ℕ) (h : k < declarers j p b) where
    pub far-skips : some (machine_by j p b k) ≡ false → (n : ℕ) → far n k ≡ far n (k + 1)
    far-skips q n = ap (λ (l : List (Listed Declaration)). length (reached says_it n l)) (no-machine j p b k h q)

    module _ (q : some (machine_by j p b k) ≡ true) where
      one : (x : Listed Declaration) × (machine_by j p b k ≡ x ∷ [])
      one = said-one (machine_by j p b k) (one-machine j p b k) q

      whole : machines_from j p b k ≡ one.0 ∷ machines_from j p b (k + 1)
      whole = machines-next j p b k h ∙ ap (λ (l : List (Listed Declaration)). l ++ machines_from j p b (k + 1)) one.1

      says-it : some (said_by j p b k) ≡ says_it one.0
      unfolding said_by
      says-it = ap (λ (l : List (Listed Declaration)). some (said_of b p l)) one.1 ∙ says-one one.0

      pub far-quiet : some (said_by j p b k) ≡ false → (n : ℕ) → far n k ≡ far n (k + 1) + 1
      far-quiet s n =
          ap (λ (l : List (Listed Declaration)). length (reached says_it n l)) whole
          ∙ ap length (reached-quiet says_it one.0 n (machines_from j p b (k + 1)) (sym says-it ∙ s))
          ∙ omega arith

      pub far-said : some (said_by j p b k) ≡ true → (n : ℕ) → 0 < n → far n k ≡ far (n - 1) (k + 1) + 1
      far-said s n g =
          let e : n ≡ suc (n - 1) = omega arith in
          ap (λ (l : List (Listed Declaration)). length (reached says_it n l)) whole
          ∙ ap (λ (i : ℕ). length (reached says_it i (one.0 ∷ machines_from j p b (k + 1)))) e
          ∙ ap length (reached-said says_it one.0 (n - 1) (machines_from j p b (k + 1)) (sym says-it ∙ s))
          ∙ omega arith

      pub far-stops : some (said_by j p b k) ≡ true → far 0 k ≡ 0
      far-stops s =
          ap (λ (l : List (Listed Declaration)). length (reached says_it 0 l)) whole
          ∙ ap length (reached-none says_it one.0 (machines_from j p b (k + 1)) (sym says-it ∙ s))
