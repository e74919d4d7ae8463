-- How many declarations of one type fit, and that the passes, one for each type, take the declarations that a PDU takes and reach as far.
use Prim.Native.Nat.{ℕ, zero, suc, ◌+◌, ◌-◌, ◌*◌, ◌/◌, ◌≤◌, ◌<◌}
use native.Mathlib.Nat.{suc-mul, one-mul, div-eq_of_lt, div-eq-sub-div, div-mul-le_self, mul-le-mul_right}
use native.Mathlib.Omega.{arith}
use mathlib.Core.Path.{◌≡◌, refl, sym, ap, ◌∙◌}
use mathlib.Core.Bool.{Bool, true, false, cond}
use mathlib.Core.List.{List, [], ◌∷◌, ◌++◌, append-nil}
use lib.ListN.{length, length-append, length-map, get_or, take, drop}
use lib.Seq.{take_all, take-nil, drop-nil, take-append-le, take-append-add, length-take-le}
use lib.Dec.{ltb, leb}
use borrow.Author.Tests.{ltb-true, ltb-false, lt-ltb, le-ltb, leb-true, leb-false}
use Rattle.model.specs.FrameLayout.{longest_pdu}
use Rattle.model.specs.Lists.{All, keep, longest}
use Rattle.model.specs.Machines.{Listed, no_applicant}
use Rattle.model.specs.Places.{saying, reached}
use Rattle.model.specs.State.{Bridge, sends_at, sender_at, stream_at}
use Rattle.model.specs.Registrations.{advertises, faileds, listeners}
use Rattle.model.specs.Frames.{Attribute, registers, domain_type, type_number}
use Rattle.model.specs.Declarations as model
use Rattle.model.specs.Declarations.{Declaration, talker_kind, attribute_of, listener_declaration, advertise_of, failed_of, declarations_of, domain_of, Said, say, having, vector_size, vectors_size, empty_size, message_size, messages_size}
use Rattle.model.specs.Writing.{leaves_all, port_way, say_on}
use Rattle.model.proofs.Lists.{all_append, all_take, all_drop, longest-ends, longest-stops, longest-goes, longest-within, longest-same, longest-from}
use Rattle.model.proofs.WritingPasses.{Typed, listed_type, OfAttribute, fits_with, more_size, others_size, others-size, all-of-saying, all_said, all_listed, length-message, message-least, message-some, fitting-types, fitting-single}
use Rattle.declarations.specs.declared.Progress.{Progress}
use Rattle.declarations.specs.Passes.{declarers, machine_by, said_of, gathered, machines_from, said_from, all_of, Single, fits, earlier, later, fitting, message, fit, rest, taken, said, passed}
use Rattle.declarations.proofs.Declared.{machines-first, said-is, said-append, reached-quiet, reached-said, reached-none}

-- The number that fits.

module _ (used size : ℕ) where
  pub fits-within : (left : ℕ) → fits used size left ≤ left
  unfolding fits
  fits-within left = go (ltb longest_pdu used) (ltb ((longest_pdu - used) / size) left) refl
    where
      go : (s t : Bool) → ltb ((longest_pdu - used) / size) left ≡ t → cond s 0 (cond t ((longest_pdu - used) / size) left) ≤ left
      go true t e = omega arith
      go false true e = omega (arith, ltb-true ((longest_pdu - used) / size) left e)
      go false false e = omega arith

  -- where some fit, they do not run past 1,500 octets
  pub fits-room : (left : ℕ) → 0 < fits used size left → used + fits used size left * size ≤ longest_pdu
  unfolding fits
  fits-room left = go (ltb longest_pdu used) (ltb ((longest_pdu - used) / size) left) refl refl
    where
      q : ℕ
      q = (longest_pdu - used) / size

      go : (s t : Bool) → ltb longest_pdu used ≡ s → ltb q left ≡ t → 0 < cond s 0 (cond t q left) → used + cond s 0 (cond t q left) * size ≤ longest_pdu
      go true t d e h = absurd (omega arith)
      go false true d e h = omega (arith, ltb-false longest_pdu used d, div-mul-le_self (longest_pdu - used) size)
      go false false d e h =
          let f : left * size ≤ q * size = mul-le-mul_right size (ltb-false q left e) in
          omega (arith, ltb-false longest_pdu used d, div-mul-le_self (longest_pdu - used) size)

  pub fits-none : fits used size 0 ≡ 0
  fits-none = omega (arith, fits-within 0)

  module _ (some : 0 < size) (n : ℕ) where
    pub fits-over : longest_pdu < used + size → fits used size (suc n) ≡ 0
    unfolding fits
    fits-over h = go (ltb longest_pdu used) refl
      where
        go : (s : Bool) → ltb longest_pdu used ≡ s → cond s 0 (cond (ltb ((longest_pdu - used) / size) (suc n)) ((longest_pdu - used) / size) (suc n)) ≡ 0
        go true d = refl
        go false d =
            let less : longest_pdu - used < size = omega (arith, ltb-false longest_pdu used d) in
            rw (div-eq_of_lt less, lt-ltb 0 (suc n) (omega arith))

    pub fits_more : used + size ≤ longest_pdu → fits used size (suc n) ≡ suc (fits (used + size) size n)
    unfolding fits
    fits_more h =
        let e : longest_pdu - (used + size) ≡ longest_pdu - used - size = omega arith in
        let m : size ≤ longest_pdu - used = omega arith in
        rw (le-ltb longest_pdu used (omega arith), le-ltb longest_pdu (used + size) h, e, div-eq-sub-div some m) (go (ltb q n) refl)
      where
        q : ℕ
        q = (longest_pdu - used - size) / size

        go : (t : Bool) → ltb q n ≡ t → cond (ltb (q + 1) (suc n)) (q + 1) (suc n) ≡ suc (cond t q n)
        go true e = rw (lt-ltb (q + 1) (suc n) (omega (arith, ltb-true q n e))) (omega arith)
        go false e = rw (le-ltb (q + 1) (suc n) (omega (arith, ltb-false q n e))) refl

-- It is the longest run of declarations that stand one per vector.

longest-fits : (size : ℕ) → 0 < size → (left used : ℕ) → longest (λ n. leb (used + n * size) longest_pdu) 0 left ≡ fits used size left
longest-fits size some zero used = longest-ends _ 0 ∙ sym (fits-none used size)
longest-fits size some (suc left) used = go (leb (used + size) longest_pdu) refl (longest-fits size some left (used + size))
  where
    test : ℕ → Bool
    test n = leb (used + n * size) longest_pdu

    one : test 1 ≡ leb (used + size) longest_pdu
    one = ap (λ (n : ℕ). leb (used + n) longest_pdu) (one-mul size)

    behind : (i : ℕ) → test (1 + i) ≡ leb (used + size + i * size) longest_pdu
    behind i =
        let s : 1 + i ≡ suc i = omega arith in
        let m : used + suc i * size ≡ used + size + i * size = omega (arith, suc-mul i size) in
        rw s (ap (λ (n : ℕ). leb n longest_pdu) m)

    go : (t : Bool) → leb (used + size) longest_pdu ≡ t
        → longest (λ n. leb (used + size + n * size) longest_pdu) 0 left ≡ fits (used + size) size left → longest test 0 (suc left) ≡ fits used size (suc left)
    go true e ih =
        longest-goes test 0 left (one ∙ e)
        ∙ longest-from test 1 0 left
        ∙ ap (λ (n : ℕ). 1 + n) (longest-same (λ i. test (1 + i)) (λ n. leb (used + size + n * size) longest_pdu) 0 left (λ i a b. behind i) ∙ ih)
        ∙ omega (arith, fits_more used size some left (leb-true (used + size) longest_pdu e))
    go false e ih = longest-stops test 0 left (one ∙ e) ∙ sym (fits-over used size some left (leb-false (used + size) longest_pdu e))

pub vector-least : (k : Attribute) → 7 ≤ vector_size k
unfolding vector_size
vector-least (registers advertises) = omega arith
vector-least (registers faileds) = omega arith
vector-least (registers listeners) = omega arith
vector-least domain_type = omega arith

not-listeners : (k : Attribute) → Single k → k ≡ registers listeners → ⊥
not-listeners k s e = rw e at s

single-size : (k : Attribute) → Single k → (l : List Said) → vectors_size k l ≡ length l * vector_size k
unfolding vectors_size
single-size (registers advertises) s l = refl
single-size (registers faileds) s l = refl
single-size (registers listeners) s l = absurd s
single-size domain_type s l = refl

-- With LeaveAll, the Messages of the other types.

others-split : (all : Bool) (k : Attribute) → others_size all k ≡ earlier all k + later all k
others-split all k = omega (arith, others-size all k, none k)
  where
    none : (k : Attribute) → messages_size all [] ≡ earlier all k + later all k + empty_size all k
    none (registers advertises) = unfold messages_size message_size having earlier later in (omega arith)
    none (registers faileds) = unfold messages_size message_size having earlier later in (omega arith)
    none (registers listeners) = unfold messages_size message_size having earlier later in (omega arith)
    none domain_type = unfold messages_size message_size having earlier later in (omega arith)

pub used-is : (all : Bool) (k : Attribute) (at : ℕ) → earlier all k ≤ at → at + 2 - earlier all k + others_size all k + 6 ≡ at + 8 + later all k
used-is all k at h = omega (arith, others-split all k)

-- n of those of a type, behind so many octets
module _ (all : Bool) (k : Attribute) (one : Single k) (l : List Said) (own : All (OfAttribute k) l) (at : ℕ) (after : earlier all k ≤ at) (n size left : ℕ)
    (z : size ≡ vector_size k) (d : length l ≡ left) (f : n ≡ fits (at + 8 + later all k) size left) where
  pub single-number : n ≡ fitting all k at l
  unfolding fitting
  single-number =
      (rw (z, ← d, ← used-is all k at after) at f)
      ∙ sym (fitting-single all (at + 2 - earlier all k) k l own (not-listeners k one)
      ∙ longest-fits (vector_size k) (omega (arith, vector-least k)) (length l) (at + 2 - earlier all k + others_size all k + 6))

  -- the octets of their Message
  pub single-length : (n ≡ 0 → ⊥) → length (message all k (take n l)) ≡ 6 + n * size
  unfolding message
  single-length h =
      let within : n ≤ length l = omega (arith, f, fits-within (at + 8 + later all k) size left) in
      let long : length (take n l) ≡ n = length-take-le n l within in
      length-message all k (take n l) (all_take (OfAttribute k) n l own)
      ∙ message-some all k (take n l) (omega arith)
      ∙ ap (λ (m : ℕ). 6 + m) (single-size k one (take n l) ∙ rw (long, z))

pub fitting-within : (all : Bool) (used : ℕ) (l : List Said) → model.fitting all used l ≤ length l
unfolding model.fitting
fitting-within all used l = omega (arith, (longest-within (fits_with all used l) 0 (length l)).1)

pub fit-long : (all : Bool) (k : Attribute) (at : ℕ) (l : List Said) → length (fit all k at l) ≡ fitting all k at l
unfolding fit fitting
fit-long all k at l = length-take-le (model.fitting all (at + 2 - earlier all k) l) l (fitting-within all (at + 2 - earlier all k) l)

-- nothing to say
pub fit_none : (all : Bool) (k : Attribute) (at : ℕ) → (fitting all k at [] ≡ 0) × (fit all k at [] ≡ [])
unfolding fitting fit
fit_none all k at = (omega (arith, fitting-within all (at + 2 - earlier all k) []), take-nil (fitting all k at []))

-- The passes.

drop-append : {A : Type 0} (n : ℕ) (l m : List A) → drop n (l ++ m) ≡ drop n l ++ drop (n - length l) m
drop-append n [] m = let e : n - 0 ≡ n = omega arith in rw (e, drop-nil n)
drop-append zero (x ∷ l) m = let e : 0 - suc (length l) ≡ 0 = omega arith in rw e
drop-append (suc n) (x ∷ l) m = let e : suc n - suc (length l) ≡ n - length l = omega arith in rw e (drop-append n l m)

filled-or-not : {P : Type 0} (s : Progress) → (s.full ≡ true → P) → (s.full ≡ false → P) → P
filled-or-not {P = P} s = go s.full
  where
    go : (b : Bool) → (b ≡ true → P) → (b ≡ false → P) → P
    go true f g = f refl
    go false f g = g refl

pub if-open : {A : Type 0} {t : Bool} (x y : A) → t ≡ false → cond t x y ≡ y
if-open x y e = rw e

pub if-full : {A : Type 0} {t : Bool} (x y : A) → t ≡ true → cond t x y ≡ x
if-full x y e = rw e

-- how far those reach of which some find room: past all of the first where all of these do
module _ {A : Type 0} (f : A → Bool) where
  reach-past : (l m : List A) (i : ℕ) → reached f (length (saying f l) + i) (l ++ m) ≡ l ++ reached f i m
  unfolding saying
  reach-past [] m i = let e : 0 + i ≡ i = omega arith in rw e
  reach-past (x ∷ l) m i = go (f x) refl (reach-past l m i)
    where
      go : (t : Bool) → f x ≡ t → reached f (length (saying f l) + i) (l ++ m) ≡ l ++ reached f i m
          → reached f (length (keep t x (saying f l)) + i) (x ∷ (l ++ m)) ≡ x ∷ (l ++ reached f i m)
      go true e r =
          let s : suc (length (saying f l)) + i ≡ suc (length (saying f l) + i) = omega arith in
          rw s (reached-said f x (length (saying f l) + i) (l ++ m) e ∙ ap (λ (t : List A). x ∷ t) r)
      go false e r = reached-quiet f x (length (saying f l) + i) (l ++ m) e ∙ ap (λ (t : List A). x ∷ t) r

  reach-stops : (l m : List A) (n : ℕ) → n < length (saying f l) → reached f n (l ++ m) ≡ reached f n l
  unfolding saying
  reach-stops [] m n h = absurd (omega arith)
  reach-stops (x ∷ l) m n h = go (f x) refl n h (λ i j. reach-stops l m i j)
    where
      go : (t : Bool) → f x ≡ t → (n : ℕ) → n < length (keep t x (saying f l)) → ((i : ℕ) → i < length (saying f l) → reached f i (l ++ m) ≡ reached f i l)
          → reached f n (x ∷ (l ++ m)) ≡ reached f n (x ∷ l)
      go true e zero h r = reached-none f x (l ++ m) e ∙ sym (reached-none f x l e)
      go true e (suc n) h r = reached-said f x n (l ++ m) e ∙ ap (λ (t : List A). x ∷ t) (r n (omega arith)) ∙ sym (reached-said f x n l e)
      go false e n h r = reached-quiet f x n (l ++ m) e ∙ ap (λ (t : List A). x ∷ t) (r n h) ∙ sym (reached-quiet f x n l e)

  reach-all : (l : List A) → reached f (length (saying f l)) l ≡ l
  reach-all l =
      let e : length (saying f l) + 0 ≡ length (saying f l) = omega arith in
      sym (ap (λ (r : List A). reached f (length (saying f l)) r) (append-nil l))
      ∙ (rw e at (reach-past l [] 0))
      ∙ unfold reached in (append-nil l)

-- the types of what is said
module _ (b : Bridge) (p : ℕ) where
  said-types : (P : Attribute → Type 0) (l : List (Listed Declaration)) → All (λ x. P (attribute_of x.value)) l
      → All (λ d. P (attribute_of d.declaration)) (said_of b p l)
  unfolding said_of say_on say
  said-types P l a =
      all_said (λ d. P (attribute_of d.declaration)) (say_on b p) (saying (port_way b p).says l) (all-of-saying (λ x. P (attribute_of x.value)) (port_way b p).says l a)

  machine-type : (k : Attribute) (i : ℕ) → All (Typed listed_type k) (machine_by k p b i)
  unfolding machine_by declarations_of advertise_of failed_of domain_of attribute_of talker_kind
  machine-type (registers advertises) i =
      all_listed (Typed listed_type (registers advertises)) (advertise_of (stream_at i b).id) (λ q v. refl) (sends_at (stream_at i b) p).advertising
  machine-type (registers faileds) i = all_listed (Typed listed_type (registers faileds)) (failed_of (stream_at i b).id) (λ q v. refl) (sends_at (stream_at i b) p).failing
  machine-type (registers listeners) i =
      all_listed (Typed listed_type (registers listeners)) (listener_declaration (stream_at i b).id) (λ q v. refl) (sends_at (stream_at i b) p).listening
  machine-type domain_type i =
      all_listed (Typed listed_type domain_type) (λ u. domain_of b.settings i) (λ q v. refl) (get_or (sender_at b.senders p).domains i no_applicant)

  machines-type : (k : Attribute) (i : ℕ) → All (Typed listed_type k) (machines_from k p b i)
  unfolding machines_from gathered
  machines-type k i = go (declarers k p b - i) i
    where
      go : (n i : ℕ) → All (Typed listed_type k) (gathered (machine_by k p b) n i)
      go zero i = tt
      go (suc n) i = all_append (Typed listed_type k) (machine_by k p b i) (gathered (machine_by k p b) n (suc i)) (machine-type k i) (go n (suc i))

  pub of-type : (k : Attribute) → All (Typed listed_type k) (all_of k p b)
  of-type k = rw (← machines-first k p b) (machines-type k 0)

  pub from-type : (k : Attribute) (i : ℕ) → All (OfAttribute k) (said_from k p b i)
  from-type k i = rw (said-is k p b i) (said-types (λ j. j ≡ k) (machines_from k p b i) (machines-type k i))

  pub said-type : (k : Attribute) (n : ℕ) → All (OfAttribute k) (said_of b p (drop n (all_of k p b)))
  said-type k n = said-types (λ j. j ≡ k) (drop n (all_of k p b)) (all_drop (Typed listed_type k) n (all_of k p b) (of-type k))

  pub taken-type : (k : Attribute) (s : Progress) → All (OfAttribute k) (taken b p k s)
  unfolding taken fit
  taken-type k s = all_take (OfAttribute k) (fitting (leaves_all b p) k s.at (rest b p k s)) (rest b p k s) of-rest
    where
      of-rest : All (OfAttribute k) (rest b p k s)
      of-rest = filled-or-not s (λ e. unfold rest in (rw e tt)) (λ e. unfold rest in (rw e (said-type k s.skip)))

  -- the octets go on by the Message
  pub passed-at : (k : Attribute) (s : Progress) → (passed b p k s).at ≡ s.at + message_size (leaves_all b p) k (taken b p k s)
  unfolding passed said message
  passed-at k s = ap (λ (n : ℕ). s.at + n) (length-message (leaves_all b p) k (taken b p k s) (taken-type k s))

  -- the Messages of the types so far
  pub pass-after : (k : Attribute) (s : Progress) → earlier (leaves_all b p) k ≤ s.at → earlier (leaves_all b p) k + empty_size (leaves_all b p) k ≤ (passed b p k s).at
  pass-after k s h = omega (arith, passed-at k s, message-least (leaves_all b p) k (taken b p k s))

-- What a PDU still takes of declarations, and how far it reaches, as far as it is; so many octets are those of the earlier Messages, empty.
module _ (b : Bridge) (p : ℕ) where
  abbrev all : Bool
  all = leaves_all b p

  abbrev says : Listed Declaration → Bool
  says = (port_way b p).says

  unfoldable pub run_from : ℕ → List Said → List Said
  run_from used l = take (model.fitting all used l) l

  unfoldable pub remaining : Progress → ℕ → List (Listed Declaration) → List Said
  remaining s before l = cond s.full [] (run_from (s.at + 2 - before) (said_of b p (drop s.skip l)))

  unfoldable pub reaching : Progress → ℕ → List (Listed Declaration) → ℕ
  reaching s before l = cond s.full 0 (length (reached says (length (remaining s before l)) (drop s.skip l)))

  module _ (k : Attribute) (m : List (Listed Declaration)) (behind : All (λ x. type_number k < type_number (attribute_of x.value)) m) (s : Progress)
      (after : earlier all k ≤ s.at) where
    abbrev l : List (Listed Declaration)
    l = all_of k p b

    abbrev first : List Said
    first = said_of b p (drop s.skip l)

    abbrev second : List Said
    second = said_of b p (drop (s.skip - length l) m)

    abbrev used : ℕ
    used = s.at + 2 - earlier all k

    abbrev n : ℕ
    n = model.fitting all used first

    abbrev next : Progress
    next = passed b p k s

    abbrev before : ℕ
    before = earlier all k + empty_size all k

    both : said_of b p (drop s.skip (l ++ m)) ≡ first ++ second
    both = ap (said_of b p) (drop-append s.skip l m) ∙ said-append b p (drop s.skip l) (drop (s.skip - length l) m)

    total : model.fitting all used (first ++ second) ≡ cond (ltb n (length first)) n (length first + model.fitting all (used + more_size all k first) second)
    total =
        fitting-types all used k first second (said-type b p k s.skip)
        (said-types b p (λ j. type_number k < type_number j) (drop (s.skip - length l) m) (all_drop (λ x. type_number k < type_number (attribute_of x.value)) (s.skip - length l) m behind))

    n_within : n ≤ length first
    n_within = fitting-within all used first

    n-long : length (take n first) ≡ n
    n-long = length-take-le n first n_within

    module _ (e : s.full ≡ false) where
      rest-open : rest b p k s ≡ first
      unfolding rest
      rest-open = if-open [] first e

      taken-open : taken b p k s ≡ take n first
      unfolding taken fitting
      taken-open = ap (fit all k s.at) rest-open ∙ unfold fit in refl

      taken-long : length (taken b p k s) ≡ n
      taken-long = ap length taken-open ∙ n-long

      full-open : next.full ≡ ltb n (length first)
      unfolding passed
      full-open =
          if-open true (ltb (length (taken b p k s)) (length (rest b p k s))) e
          ∙ ap (λ (i : ℕ). ltb i (length (rest b p k s))) taken-long
          ∙ ap (λ (r : List Said). ltb n (length r)) rest-open

      skip-open : next.skip ≡ s.skip - length l
      unfolding passed
      skip-open = if-open 0 (s.skip - length l) e

      end-open : next.end ≡ s.end + length (reached says n (drop s.skip l))
      unfolding passed
      end-open =
          ap (λ (i : ℕ). s.end + i) (if-open 0 (length (reached says (length (taken b p k s)) (drop s.skip l))) e)
          ∙ ap (λ (i : ℕ). s.end + length (reached says i (drop s.skip l))) taken-long

      -- all of the first find room
      module _ (t : ltb n (length first) ≡ false) where
        n-all : n ≡ length first
        n-all = omega (arith, ltb-false n (length first) t, n_within)

        whole : taken b p k s ≡ first
        whole = taken-open ∙ take_all n first (omega (arith, n-all))

        used-next : next.at + 2 - before ≡ used + more_size all k first
        unfolding more_size
        used-next = omega (arith, passed-at b p k s, ap (message_size all k) whole, message-least all k first)

        next-all : remaining next before m ≡ run_from (used + more_size all k first) second
        unfolding remaining
        next-all = rw (full-open, t, skip-open, used-next)

        takes_all : run_from used (first ++ second) ≡ taken b p k s ++ remaining next before m
        takes_all =
            unfold run_from in
            (ap (λ (i : ℕ). take i (first ++ second)) (total ∙ if-open n (length first + model.fitting all (used + more_size all k first) second) t)
            ∙ take-append-add first second (model.fitting all (used + more_size all k first) second)
            ∙ sym (rw (whole, next-all) refl))

      -- one finds none
      module _ (t : ltb n (length first) ≡ true) where
        next-none : remaining next before m ≡ []
        unfolding remaining
        next-none = rw (full-open, t)

        takes-some : run_from used (first ++ second) ≡ taken b p k s ++ remaining next before m
        takes-some =
            unfold run_from in
            (ap (λ (i : ℕ). take i (first ++ second)) (total ∙ if-full n (length first + model.fitting all (used + more_size all k first) second) t)
            ∙ take-append-le n first second n_within
            ∙ sym (rw (next-none, append-nil) taken-open))

      remaining-open : remaining s (earlier all k) (l ++ m) ≡ run_from used (first ++ second)
      unfolding remaining
      remaining-open = if-open [] (run_from used (said_of b p (drop s.skip (l ++ m)))) e ∙ ap (run_from used) both

      takes-open : remaining s (earlier all k) (l ++ m) ≡ taken b p k s ++ remaining next before m
      takes-open = remaining-open ∙ go (ltb n (length first)) refl
        where
          go : (t : Bool) → ltb n (length first) ≡ t → run_from used (first ++ second) ≡ taken b p k s ++ remaining next before m
          go true t = takes-some t
          go false t = takes_all t

      -- and reach past all of them, or stop among them
      abbrev says_first : ℕ
      says_first = length (saying says (drop s.skip l))

      first-long : length first ≡ says_first
      unfolding said_of
      first-long = length-map (saying says (drop s.skip l)) (say_on b p)

      abbrev still : ℕ
      still = length (remaining next before m)

      remaining-long : length (remaining s (earlier all k) (l ++ m)) ≡ n + still
      remaining-long = ap length takes-open ∙ length-append (taken b p k s) (remaining next before m) ∙ omega (arith, taken-long)

      reaches-open : s.end + length (reached says (length (remaining s (earlier all k) (l ++ m))) (drop s.skip (l ++ m))) ≡ next.end + reaching next before m
      reaches-open =
          ap (λ (i : ℕ). s.end + length (reached says i (drop s.skip (l ++ m)))) remaining-long
          ∙ ap (λ (r : List (Listed Declaration)). s.end + length (reached says (n + still) r)) (drop-append s.skip l m)
          ∙ go (ltb n (length first)) refl
          ∙ ap (λ (i : ℕ). i + reaching next before m) (sym end-open)
        where
          m₂ : List (Listed Declaration)
          m₂ = drop (s.skip - length l) m

          l₂ : List (Listed Declaration)
          l₂ = drop s.skip l

          go : (t : Bool) → ltb n (length first) ≡ t
              → s.end + length (reached says (n + still) (l₂ ++ m₂)) ≡ s.end + length (reached says n l₂) + reaching next before m
          go true t =
              let none : still ≡ 0 = ap length (next-none t) in
              let some : n + still ≡ n = omega (arith, none) in
              let stops : reaching next before m ≡ 0 = unfold reaching in (if-full 0 _ (full-open ∙ t)) in
              let short : n < says_first = omega (arith, first-long, ltb-true n (length first) t) in
              rw some (omega (arith, stops, ap length (reach-stops says l₂ m₂ n short)))
          go false t =
              let all-of : n ≡ says_first = n-all t ∙ first-long in
              let goes : reaching next before m ≡ length (reached says still m₂) =
              unfold reaching in (if-open 0 _ (full-open ∙ t) ∙ ap (λ (i : ℕ). length (reached says still (drop i m))) skip-open) in
              rw all-of
              (omega (arith, goes, ap length (reach-past says l₂ m₂ still), ap length (reach-all says l₂), length-append l₂ (reached says still m₂)))

    module _ (e : s.full ≡ true) where
      taken-full : taken b p k s ≡ []
      unfolding taken rest
      taken-full = ap (fit all k s.at) (if-full [] first e) ∙ (fit_none all k s.at).1

      full-still : next.full ≡ true
      unfolding passed
      full-still = if-full true (ltb (length (taken b p k s)) (length (rest b p k s))) e

      nothing-more : (t : Progress) (i : ℕ) (r : List (Listed Declaration)) → t.full ≡ true → (remaining t i r ≡ []) × (reaching t i r ≡ 0)
      unfolding remaining reaching
      nothing-more t i r q = (if-full [] (run_from (t.at + 2 - i) (said_of b p (drop t.skip r))) q, if-full 0 (length (reached says (length (remaining t i r)) (drop t.skip r))) q)

      end-full : next.end ≡ s.end
      unfolding passed
      end-full = ap (λ (i : ℕ). s.end + i) (if-full 0 (length (reached says (length (taken b p k s)) (drop s.skip l))) e) ∙ omega arith

    pub pass-takes : remaining s (earlier all k) (l ++ m) ≡ taken b p k s ++ remaining next before m
    pass-takes =
        filled-or-not s (λ e. (nothing-more e s (earlier all k) (l ++ m) e).0 ∙ sym (rw (taken-full e, (nothing-more e next before m (full-still e)).0) refl)) takes-open

    pub pass-reaches : s.end + reaching s (earlier all k) (l ++ m) ≡ next.end + reaching next before m
    pass-reaches =
        filled-or-not s
        (λ e. omega (arith, (nothing-more e s (earlier all k) (l ++ m) e).1, (nothing-more e next before m (full-still e)).1, end-full e))
        (λ e. ap (λ (i : ℕ). s.end + i) (opened e) ∙ reaches-open e)
      where
        opened : s.full ≡ false
            → reaching s (earlier all k) (l ++ m) ≡ length (reached says (length (remaining s (earlier all k) (l ++ m))) (drop s.skip (l ++ m)))
        opened e = unfold reaching in (if-open 0 (length (reached says (length (remaining s (earlier all k) (l ++ m))) (drop s.skip (l ++ m)))) e)
