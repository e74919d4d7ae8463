-- The Message of Listeners: how many of them fit, and how long it is.
use mathlib.Core.Path.{◌≡◌, sym, ◌∙◌, ap}
use mathlib.Core.Path.{refl}
use mathlib.Core.Bool.{Bool, true}
use mathlib.Core.List.{List}
use Prim.Native.Nat.{ℕ, ◌+◌, ◌-◌, ◌/◌, ◌≤◌, ◌<◌}
use native.Mathlib.Omega.{arith}
use lib.ListN.{length, get_or, take}
use lib.Seq.{length-take-le}
use borrow.Author.Tests.{leb-true}
use Rattle.model.specs.FrameLayout.{longest_pdu}
use Rattle.model.specs.Lists.{All}
use Rattle.model.specs.Registrations.{listeners}
use Rattle.model.specs.Frames.{Attribute, registers, first_length}
use Rattle.model.specs.Best.{least, run}
use Rattle.model.specs.Declarations.{Said, declared_ids, vectors_size, empty_size}
use Rattle.model.specs.Writing.{leaves_all}
use Rattle.model.specs.Table.{decode}
use Rattle.model.proofs.Lists.{all_take}
use Rattle.model.proofs.Ascents.{ascending-rising}
use Rattle.model.proofs.LongestRun.{length_cut, run-longest}
use Rattle.model.proofs.WritingPasses.{OfAttribute, ids-take, length-message, message-least, message-some, fitting-listeners}
use Rattle.cutting.specs.Named.{ids_of}
use Rattle.cutting.specs.Plan.{Packed}
use Rattle.cutting.proofs.Named.{ids-length, ids-take as named-ids, named-take}
use Rattle.cutting.proofs.Loops.{planned-octets}
use Rattle.declarations.specs.Passes.{earlier, later, fitting, message}
use Rattle.declarations.specs.Packed.{listeners_at, CutIn, PackedIn}
use Rattle.declarations.proofs.Packed.{listeners-own, listeners-ids, listeners-length, telling-take}
use Rattle.declarations.proofs.Fitting.{used-is}

module _ (t : List ℕ) (p : ℕ) (places : List ℕ) (at : ℕ) (b : List ℕ) (w : PackedIn t p places at b) where
  abbrev all : Bool
  all = leaves_all (decode t) p

  abbrev k : Attribute
  k = registers listeners

  abbrev rest : List Said
  rest = listeners_at p t places

  -- the octets before the vectors, with all that must follow
  abbrev used : ℕ
  used = at + 8 + later all k

  own : All (OfAttribute k) rest
  own = listeners-own t p places

  rest-ids : declared_ids rest ≡ ids_of t places
  rest-ids = listeners-ids t p places

  pub packed-number : (n : ℕ) → n ≡ run (longest_pdu - used) (ids_of t places) → n ≡ fitting all k at rest
  unfolding fitting
  packed-number n e =
      let u = used-is all k at w.message.after in
      (rw (← rest-ids, ← u) at e) ∙ sym (fitting-listeners all (at + 2 - earlier all k) rest own (omega (arith, u, w.room)))

  few : length (ids_of t places) ≤ 64
  few = omega (arith, ids-length t places, w.telling.named.few)

  -- the plan of those that fit: how long their vectors are, and that there is room
  module _ (n : ℕ) (weighs firsts : List ℕ) (made : Packed (longest_pdu - used) (ids_of t places) n weighs firsts) where
    pub planned-within : n ≤ length places
    planned-within = omega (arith, made.within, ids-length t places)

    planned-size : get_or weighs 0 0 / 65 ≡ least (take n (ids_of t places))
    planned-size =
        let short : length (take n (ids_of t places)) ≤ 64 = omega (arith, length_cut n (ids_of t places), few) in
        planned-octets (take n (ids_of t places)) weighs short made.weighed

    pub planned-room : used + get_or weighs 0 0 / 65 ≤ longest_pdu
    planned-room =
        let rising = ascending-rising (ids_of t places) w.telling.named.ascending in
        let longest = run-longest (longest_pdu - used) (ids_of t places) few rising in
        let fits = leb-true (least (take n (ids_of t places))) (longest_pdu - used) (rw (← made.number) at longest.passes) in
        omega (arith, planned-size, fits, w.room)

    pub planned-message : 0 < n → length (message all k (take n rest)) ≡ 6 + get_or weighs 0 0 / 65
    unfolding message
    planned-message some =
        let long : length (take n rest) ≡ n = length-take-le n rest (omega (arith, listeners-length t p places, planned-within)) in
        length-message all k (take n rest) (all_take (OfAttribute k) n rest own)
        ∙ message-some all k (take n rest) (omega arith)
        ∙ ap (λ (m : ℕ). 6 + m) (unfold vectors_size in (ap least (ids-take n rest ∙ ap (take n) rest-ids)) ∙ sym planned-size)

    -- a vector has a header at least
    pub planned-some : 0 < n → 2 ≤ get_or weighs 0 0 / 65
    planned-some some =
        let long : length (take n rest) ≡ n = length-take-le n rest (omega (arith, listeners-length t p places, planned-within)) in
        let empty : empty_size true k ≡ 16 = unfold empty_size first_length in refl in
        let size : vectors_size k (take n rest) ≡ get_or weighs 0 0 / 65 = unfold vectors_size in (ap least (ids-take n rest ∙ ap (take n) rest-ids)) ∙ sym planned-size in
        omega (arith, message-least true k (take n rest), message-some true k (take n rest) (omega arith), empty, size)

    -- what the writer asks
    pub planned-cut : (room : ℕ) → length firsts ≡ 65 → room ≡ get_or weighs 0 0 / 65 → CutIn t p (take n places) firsts room
    planned-cut room long e = record {
      telling = telling-take t p n places w.telling (named-take t n places w.telling.named);
      long = long;
      planned = rw (named-ids t n places) made.counted;
      fits = e ∙ planned-size ∙ ap least (sym (named-ids t n places));
    }
