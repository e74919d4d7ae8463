-- A port falls silent: after three passes, two where no machine is in VN or AN, every machine of the port is in QA, LeaveAll having been due
-- or not; then a write says nothing, 5.4.3 f): "Not redeclare its attributes unless responding to a LeaveAll event".
use mathlib.Core.Path.{◌≡◌, refl, sym, ◌∙◌, ap}
use mathlib.Core.List.{List, [], ◌∷◌, ◌++◌, map, flatten}
use mathlib.Core.Bool.{Bool, true, false, cond, not, ◌&&◌}
use Prim.Native.Nat.{ℕ, zero, suc, ◌+◌, ◌-◌, ◌≤◌, ◌<◌}
use native.Mathlib.Omega.{arith}
use lib.ListN.{length, length-map, take, drop, length-append, length-drop, take-append-drop}
use Rattle.model.specs.Lists.{All}
use Rattle.model.specs.Applicant.{ApplicantEvent, tx, tx_la, tx_laf, standing, applicant_entry, named, becomes}
use Rattle.model.specs.Places.{is_none, Way, Wrote, itself, each, saying, reached, behind, left_before, write_from, left}
use Rattle.model.specs.Machines.{Listed, with, after, way}
use Rattle.model.specs.State.{Bridge}
use Rattle.model.specs.Declarations.{Declaration, is_registered, Said}
use Rattle.model.specs.WrittenFrames.{pdu_octets}
use Rattle.model.specs.Writing.{leaves_all, port_way, say_on, takes_on, wrote_on, Written, write}
use Rattle.model.proofs.Lists.{and-false}
use Rattle.model.proofs.Valid.{Valid}
use Rattle.model.proofs.PlaceLists.{each-itself, reached-behind, fewer-saying}
use Rattle.model.proofs.Passing.{Takes, left-to-say, list_left}
use Rattle.model.proofs.Quieting as quieting
use Rattle.model.proofs.Quieting.{Old, In, Quiet, nothing-moves, one-pass, three-passes, two-passes, further-pass, out, out-said, next, list, pass_leaving_all, three-with-leave-all, two-with-leave-all}
use Rattle.model.proofs.WrittenList.{standing-one}
use Rattle.model.proofs.WritingPasses.{declared, to_say, port-takes}
use Rattle.model.proofs.PortPasses.{says_nothing, write_all, left_all, Calm, calm-way, write-gives, then-declared, then-calm, left-are, pass, left-calm, few-to-say, passes-all, ends, pass-ends, calm_pass, said-none, three-octets}

-- Of a list: tx! thrice, or twice where none is in VN or AN.

all_take : {A : Type 0} → Takes (λ (l : List A). length l)
all_take = record { within = λ l. omega arith; some = λ l h. h }

module _ {D : Type 0} where
  abbrev T : List (Listed D) → ℕ
  T l = length l

  moved-thrice : (g h k : D → Bool) (l : List (Listed D)) → All Quiet (each (after k tx) (each (after h tx) (each (after g tx) l)))
  moved-thrice g h k l =
      rw (one-pass T all_take k (quieting.pass T all_take h (quieting.pass T all_take g l)), one-pass T all_take h (quieting.pass T all_take g l), one-pass T all_take g l) at
      (three-passes T all_take g h k l)

  moved_twice : (g h : D → Bool) (l : List (Listed D)) → All (In Old) l → All Quiet (each (after h tx) (each (after g tx) l))
  moved_twice g h l a =
      rw (one-pass T all_take h (quieting.pass T all_take g l), one-pass T all_take g l) at (two-passes T all_take g h l a)

-- A write makes no machine.

module _ {A : Type 0} where
  each_fewer : (f : A → List A) → ((x : A) → length (f x) ≤ 1) → (l : List A) → length (each f l) ≤ length l
  unfolding each
  each_fewer f h [] = omega arith
  each_fewer f h (x ∷ l) = omega (arith, h x, each_fewer f h l, length-append (f x) (each f l))

  list-fewer : (w : Way A) → ((x : A) → length (w.inside x) ≤ 1) → ((x : A) → length (w.outside x) ≤ 1) → (takes : List A → ℕ) (place : ℕ) (l : List A)
      → length (write_from w takes place l).list ≤ length l
  unfolding write_from left_before
  list-fewer w i o takes place l =
      let n = takes (saying w.says (drop place l)) in
      let a : List A = take place l in
      let r : List A = reached w.says n (drop place l) in
      let c : List A = behind w.says n (drop place l) in
      let whole : length a + length (drop place l) ≡ length l = sym (length-append a (drop place l)) ∙ ap length (take-append-drop place l) in
      let rest : length r + length c ≡ length (drop place l) = sym (length-append r c) ∙ ap length (reached-behind w.says n (drop place l)) in
      omega (
        arith,
        whole,
        rest,
        each_fewer w.outside o a,
        each_fewer w.inside i r,
        each_fewer w.outside o c,
        length-append (each w.outside a) (each w.inside r),
        length-append (each w.outside a ++ each w.inside r) (each w.outside c),
      )

module _ {D : Type 0} (g : D → Bool) where
  after_one : (e : ApplicantEvent) (x : Listed D) → length (after g e x) ≤ 1
  unfolding after becomes
  after_one e x =
      rw (length-map (standing (applicant_entry (g x.value) e (named x.state)).next) (with x.value))
      (standing-one (applicant_entry (g x.value) e (named x.state)).next)

  way-one : (all : Bool) (x : Listed D) → (length ((way all g).inside x) ≤ 1) × (length ((way all g).outside x) ≤ 1)
  unfolding way itself
  way-one true x = (after_one tx_la x, after_one tx_laf x)
  way-one false x = (after_one tx x, omega arith)

-- The first pass, with LeaveAll due.
module _ (b : Bridge) (p : ℕ) (v : Valid b) (port : p - 1 < length b.settings.ports) (due : leaves_all b (p - 1) ≡ true) where
  abbrev c : Bridge
  c = (write b p 0).bridge

  abbrev g : Declaration → Bool
  g = is_registered b (p - 1)

  abbrev h : Declaration → Bool
  h = is_registered c (p - 1)

  abbrev room : List (Listed Declaration) → ℕ
  room = takes_on b (p - 1)

  abbrev takes : List (Listed Declaration) → ℕ
  takes = takes_on c (p - 1)

  some : 0 ≤ length (declared b p)
  some = omega arith

  pub calm-then : Calm c p (write b p 0).next
  calm-then = then-calm b p 0 v port some

  due-way : port_way b (p - 1) ≡ way true g
  due-way = unfold port_way in (ap (λ (a : Bool). way a g) due)

  first : wrote_on b (p - 1) 0 ≡ write_from (way true g) room 0 (declared b p)
  first = unfold wrote_on declared in (ap (λ (w : Way (Listed Declaration)). write_from w room 0 (declared b p)) due-way)

  list-is : declared c p ≡ list takes (port-takes c (p - 1)) room g h (declared b p)
  list-is = then-declared b p 0 v port some ∙ ap (λ (r : Wrote (Listed Declaration)). r.list) first ∙ unfold list in refl

  next_is : (write b p 0).next ≡ next takes (port-takes c (p - 1)) room g h (declared b p)
  next_is = ap (λ (w : Written). w.next) (write-gives b p 0 some) ∙ ap (λ (r : Wrote (Listed Declaration)). r.next) first ∙ unfold next in refl

  -- LeaveAll says something
  pub due-says : says_nothing (write b p 0) ≡ false
  unfolding says_nothing
  due-says =
      ap (λ (t : Bool). is_none (write b p 0).run && not t) (ap (λ (w : Written). w.all) (write-gives b p 0 some) ∙ due)
      ∙ and-false (is_none (write b p 0).run)

  pass-is : pass b p ≡ left_all (length (declared b p)) c p (write b p 0).next
  unfolding pass left_all
  pass-is = ap (λ (t : Bool). cond t c (left_all (length (declared b p)) c p (write b p 0).next)) due-says

  fewer : length (declared c p) ≤ length (declared b p)
  fewer =
      rw (then-declared b p 0 v port some ∙ ap (λ (r : Wrote (Listed Declaration)). r.list) first)
      (list-fewer (way true g) (λ x. (way-one g true x).0) (λ x. (way-one g true x).1) room 0 (declared b p))

  abbrev t : Takes takes
  t = port-takes c (p - 1)

  abbrev N : ℕ
  N = next takes t room g h (declared b p)

  abbrev L : List (Listed Declaration)
  L = list takes t room g h (declared b p)

  stays-there : (l : List (Listed Declaration)) → each (way false h).outside l ≡ l
  stays-there l = unfold way in (each-itself l)

  few : length L ≤ length (declared b p)
  few = rw (← list-is) fewer

  enough : length (left-to-say (way false h) takes N L) ≤ length (declared b p)
  unfolding left-to-say
  enough = omega (arith, fewer-saying (way false h).says (drop N L), length-drop N L, few)

  -- the list after it is the one found for any list
  due-pass : declared (pass b p) p ≡ pass_leaving_all takes t room g h (declared b p)
  due-pass =
      ap (λ (d : Bridge). declared d p) pass-is
      ∙ left-are (length (declared b p)) c p (write b p 0).next calm-then
      ∙ on_list
      ∙ list_left (way false h) takes t stays-there (nothing-moves h) (length (declared b p)) N L enough
      ∙ sym (list_left (way false h) takes t stays-there (nothing-moves h) (length (out takes t room g h (declared b p))) N L (rw (out-said takes t room g h (declared b p)) (omega arith)))
      ∙ unfold pass_leaving_all in refl
    where
      on_list : left (port_way c (p - 1)) takes (length (declared b p)) (write b p 0).next (declared c p) ≡ left (way false h) takes (length (declared b p)) N L
      on_list = rw (calm-way c (p - 1) calm-then.none, next_is, list-is)

  -- What it says: the run beside LeaveAll, then all that found no room there, in order.
  said-then : saying (port_way c (p - 1)).says (drop (write b p 0).next (declared c p)) ≡ out takes t room g h (declared b p)
  said-then = rw (calm-way c (p - 1) calm-then.none, next_is, list-is) (unfold left-to-say in (out-said takes t room g h (declared b p)))

  pub out-in-pass : to_say c p (write b p 0).next ≡ map (say_on c (p - 1)) (out takes t room g h (declared b p))
  unfolding to_say
  out-in-pass = ap (map (say_on c (p - 1))) said-then

  pub due-says-all : (n : ℕ) → length (to_say c p (write b p 0).next) ≤ n
      → flatten (write_all (suc n) b p 0) ≡ (write b p 0).run ++ map (say_on c (p - 1)) (out takes t room g h (declared b p))
  due-says-all n k = written ∙ ap (λ (l : List Said). (write b p 0).run ++ l) (passes-all n c p (write b p 0).next calm-then k ∙ out-in-pass)
    where
      written : flatten (write_all (suc n) b p 0) ≡ (write b p 0).run ++ flatten (write_all n c p (write b p 0).next)
      written = unfold write_all in (ap (λ (t : Bool). flatten (cond t [] ((write b p 0).run ∷ write_all n c p (write b p 0).next))) due-says ∙ unfold flatten in refl)

  due-ends : (n : ℕ) → length (to_say c p (write b p 0).next) ≤ n → ends (suc (suc n)) b p 0 ≡ true
  due-ends n k =
      unfold ends in (ap (λ (t : Bool). cond t true (ends (suc n) c p (write b p 0).next)) due-says ∙ pass-ends n c p (write b p 0).next calm-then k)

  few-then : length (to_say c p (write b p 0).next) ≤ length (declared b p)
  few-then = omega (arith, few-to-say c p (write b p 0).next, fewer)

  due-thrice : (j k : Declaration → Bool) → All Quiet (each (after k tx) (each (after j tx) (declared (pass b p) p)))
  due-thrice j k =
      rw (due-pass, ← one-pass takes t j (pass_leaving_all takes t room g h (declared b p)), ← one-pass takes t k (quieting.pass takes t j (pass_leaving_all takes t room g h (declared b p))))
      (three-with-leave-all takes t room g h (declared b p) j k)

  due-twice : (k : Declaration → Bool) → All (In Old) (declared b p) → All Quiet (each (after k tx) (declared (pass b p) p))
  due-twice k a =
      rw (due-pass, ← one-pass takes t k (pass_leaving_all takes t room g h (declared b p)))
      (two-with-leave-all takes t room g h (declared b p) k a)

-- Passes of a port, LeaveAll due at the first or not; nothing is received between, nor is time moved.
module _ (b : Bridge) (p : ℕ) (v : Valid b) (port : p - 1 < length b.settings.ports) where
  pub pass-calm : Calm (pass b p) p 0
  pass-calm = go (leaves_all b (p - 1)) refl
    where
      go : (t : Bool) → leaves_all b (p - 1) ≡ t → Calm (pass b p) p 0
      go true e = rw (pass-is b p v port e) (left-calm (length (declared b p)) (write b p 0).bridge p (write b p 0).next (calm-then b p v port e))
      go false e = unfold pass in (left-calm (suc (length (declared b p))) b p 0 record { valid = v; port = port; none = e; within = omega arith })

  -- a pass ends: within two writes more than there are declarations one has 3 octets
  pub pass-ends-so : ends (suc (suc (length (declared b p)))) b p 0 ≡ true
  pass-ends-so = go (leaves_all b (p - 1)) refl
    where
      go : (t : Bool) → leaves_all b (p - 1) ≡ t → ends (suc (suc (length (declared b p)))) b p 0 ≡ true
      go true e = due-ends b p v port e (length (declared b p)) (few-then b p v port e)
      go false e =
          let bound : length (to_say b p 0) ≤ suc (length (declared b p)) = omega (arith, few-to-say b p 0) in
          pass-ends (suc (length (declared b p))) b p 0 record { valid = v; port = port; none = e; within = omega arith } bound

  abbrev twice : Bridge
  twice = pass (pass b p) p

  abbrev thrice : Bridge
  thrice = pass (pass (pass b p) p) p

  twice-calm : Calm twice p 0
  twice-calm = unfold pass in (left-calm (suc (length (declared (pass b p) p))) (pass b p) p 0 pass-calm)

  second : declared twice p ≡ each (after (is_registered (pass b p) (p - 1)) tx) (declared (pass b p) p)
  second = calm_pass (pass b p) p pass-calm

  third : declared thrice p ≡ each (after (is_registered twice (p - 1)) tx) (declared twice p)
  third = calm_pass twice p twice-calm

  -- after three every machine of the port is in QA
  pub quiet-after-three : All Quiet (declared (pass (pass (pass b p) p) p) p)
  quiet-after-three = rw (third, second) (go (leaves_all b (p - 1)) refl)
    where
      g : Declaration → Bool
      g = is_registered (pass b p) (p - 1)

      k : Declaration → Bool
      k = is_registered twice (p - 1)

      go : (t : Bool) → leaves_all b (p - 1) ≡ t → All Quiet (each (after k tx) (each (after g tx) (declared (pass b p) p)))
      go true e = due-thrice b p v port e g k
      go false e =
          rw (calm_pass b p record { valid = v; port = port; none = e; within = omega arith })
          (moved-thrice (is_registered b (p - 1)) g k (declared b p))

  -- after two, where none was in VN or AN
  pub quiet-after-two : All (In Old) (declared b p) → All Quiet (declared (pass (pass b p) p) p)
  quiet-after-two a = rw second (go (leaves_all b (p - 1)) refl)
    where
      g : Declaration → Bool
      g = is_registered (pass b p) (p - 1)

      go : (t : Bool) → leaves_all b (p - 1) ≡ t → All Quiet (each (after g tx) (declared (pass b p) p))
      go true e = due-twice b p v port e g a
      go false e =
          rw (calm_pass b p record { valid = v; port = port; none = e; within = omega arith })
          (moved_twice (is_registered b (p - 1)) g (declared b p) a)

-- Then a write from any place says nothing, and its PDU is 00 00 00.
module _ (b : Bridge) (p place : ℕ) (c : Calm b p place) (quiet : All Quiet (declared b p)) where
  none-saying : saying (port_way b (p - 1)).says (drop place (declared b p)) ≡ []
  none-saying =
      rw (calm-way b (p - 1) c.none)
      (unfold left-to-say in (further-pass (takes_on b (p - 1)) (port-takes b (p - 1)) (is_registered b (p - 1)) (declared b p) quiet place))

  nothing-to-say : to_say b p place ≡ []
  unfolding to_say
  nothing-to-say = ap (map (say_on b (p - 1))) none-saying

  pub quiet-says-nothing : says_nothing (write b p place) ≡ true
  quiet-says-nothing = said-none b p place c nothing-to-say

  pub quiet-octets : pdu_octets (write b p place).all (write b p place).run ≡ 0 ∷ 0 ∷ 0 ∷ []
  quiet-octets = three-octets (write b p place) quiet-says-nothing

  -- so a further pass writes nothing
  pub further-none : (n : ℕ) → write_all n b p place ≡ []
  further-none zero = unfold write_all in refl
  further-none (suc n) =
      unfold write_all in (ap (λ (t : Bool). cond t [] ((write b p place).run ∷ write_all n (write b p place).bridge p (write b p place).next)) quiet-says-nothing)
