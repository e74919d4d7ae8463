-- The acts of a vector: LeaveAll, then those of its values, one after another.
use Prim.Native.Nat.{ℕ, zero, suc, ◌+◌, ◌*◌, ◌-◌, ◌≤◌, ◌<◌}
use mathlib.Core.Path.{◌≡◌, refl, ap, ap₂}
use mathlib.Core.List.{List, [], ◌∷◌, ◌++◌}
use mathlib.Core.Bool.{Bool, true, false, ◌||◌}
use native.Mathlib.Omega.{arith}
use native.Mathlib.Numerals.{add-one}
use lib.ListN.{length, get_or, take, drop}
use lib.Dec.{ltb}
use borrow.Author.Tests.{ltb-false, le-ltb}
use Rattle.octets.specs.Be.{be_at}
use Rattle.octets.specs.Parts.{part}
use Rattle.model.specs.Registrations.{Kind, Act, advertises, faileds, listeners, leave_all, hear_all, of_domain, leave_all_domains, hear_all_domains}
use Rattle.model.specs.Frames.{Attribute, registers, domain_type, known, three_length, runs_past, Vector, vector_at, event_of, four_of, value_acts, values_acts, leave_all_acts, vector_acts}
use Rattle.model.specs.Laid.{Laid}
use Rattle.model.proofs.FoundVectors.{Sound, last_within, or_left, or_right}
use Rattle.msrpdu.specs.declared.VectorHead.{VectorHead}
use Rattle.std.specs.Prelude.{Ok}
use Rattle.msrpdu.specs.Reader.{typed_read, first_part, head_vector}
use Rattle.msrpdu.proofs.Applying.{meant, sound}
use Rattle.msrpdu.specs.declared.VectorRead.TheVariants as vector
use Rattle.registrar.specs.Acts.{vector_of, HasValue}
use Rattle.registrar.specs.Run.{room}
use Rattle.registrar.specs.Walked.{Walked}
use Rattle.registrar.proofs.Walks.{walked_none, walked_on, room-walked, domain-room}

-- Values.

module _ (v : Vector) (n count : ℕ) where
  pub values-next : n < count → values_acts v n (count - n) ≡ value_acts v n ++ values_acts v (n + 1) (count - (n + 1))
  unfolding values_acts
  values-next h = let e : count - n ≡ suc (count - (n + 1)) = omega arith in rw (e, add-one n)

  pub values-done : n ≡ count → values_acts v n (count - n) ≡ []
  unfolding values_acts
  values-done h = let e : count - n ≡ 0 = omega arith in rw e

-- LeaveAll.

pub domain-leaves : (b : Bool) → b ≡ true → leave_all_acts domain_type b ≡ of_domain leave_all_domains ∷ of_domain hear_all_domains ∷ []
unfolding leave_all_acts
domain-leaves b d = rw d

pub none-leaves : (k : Attribute) (b : Bool) → b ≡ false → leave_all_acts k b ≡ []
unfolding leave_all_acts
none-leaves (registers k) b e = rw e
none-leaves domain_type b e = rw e

pub all-leaves : (k : Kind) (b : Bool) → b ≡ true → leave_all_acts (registers k) b ≡ leave_all k ∷ hear_all k ∷ []
unfolding leave_all_acts
all-leaves k b e = rw e

-- it asks for no room
pub leaves-room : (p : ℕ) (k : Attribute) (b : Bool) (t : List ℕ) → Laid t → Walked false p (leave_all_acts k b) t true t
unfolding leave_all_acts
leaves-room p domain_type false t l = walked_none false p t l
leaves-room p domain_type true t l =
    walked_on false p (of_domain leave_all_domains ∷ []) (of_domain hear_all_domains ∷ []) t t (domain-room p leave_all_domains t l tt) (domain-room p hear_all_domains t l tt)
leaves-room p (registers k) false t l = walked_none false p t l
leaves-room p (registers k) true t l =
    unfold room in
    (walked_on false p (leave_all k ∷ []) (hear_all k ∷ []) t t (room-walked p (leave_all k) t l tt (λ s. refl)) (room-walked p (hear_all k) t l tt (λ s. refl)))

-- A vector that was read.

-- its values ask for what they ask for in any vector of its type with its parts
same-values : (v : Vector) (n k : ℕ) →
    values_acts v n k ≡ values_acts (vector_of v.attribute false 0 v.first v.three v.four) n k
unfolding values_acts
same-values v n zero = refl
same-values v n (suc k) = ap₂ ◌++◌ here (same-values v (suc n) k)
  where
    here : value_acts v n ≡ value_acts (vector_of v.attribute false 0 v.first v.three v.four) n
    here = unfold value_acts event_of four_of vector_of in refl

-- fewer values run past no field either
less : (a b c d m n : ℕ) → n ≤ m → (ltb a (b + m) || ltb c (d + m)) ≡ false → (ltb a (b + n) || ltb c (d + n)) ≡ false
less a b c d m n h e =
    let p = ltb-false a (b + m) (or_left _ _ e) in
    let q = ltb-false c (d + m) (or_right (ltb a (b + m)) _ e) in
    rw (le-ltb a (b + n) (omega arith)) (le-ltb c (d + n) (omega arith))

runs-less : (k : Attribute) (s : List ℕ) (m n : ℕ) → n ≤ m → runs_past k s m ≡ false → runs_past k s n ≡ false
unfolding runs_past
runs-less (registers advertises) s m n h e = less 65535 (be_at 2 s 6) 281474976710655 (be_at 6 s 8) m n h e
runs-less (registers faileds) s m n h e = less 65535 (be_at 2 s 6) 281474976710655 (be_at 6 s 8) m n h e
runs-less (registers listeners) s m n h e = le-ltb 65535 (be_at 2 s 6 + n) (omega (arith, ltb-false 65535 (be_at 2 s 6 + m) e))
runs-less domain_type s m n h e = less 255 (get_or s 0 0) 255 (get_or s 1 0) m n h e

module _ (version : ℕ) (k : Attribute) (l : List ℕ) (at : ℕ) (w : VectorHead)
    (read : typed_read version (known k) l at ≡ Ok (vector.Vector w)) where
  abbrev v : Vector
  v = head_vector k l w

  pub vector-meant : vector_at k l at (be_at 2 l at) ≡ v
  vector-meant = meant version k l at w read

  sounds : Sound v
  sounds = sound version k l at w read

  pub enough-events : w.values ≤ 3 * length (take (w.four - w.three) (drop w.three l))
  unfolding head_vector part three_length
  enough-events = let m = sounds.three in omega arith

  pub has-values : (n : ℕ) → n < w.values → HasValue k (first_part l w) n
  unfolding head_vector
  has-values n h = record {
    octets = sounds.first;
    within = runs-less k v.first (w.values - 1) n (omega arith) (last_within v sounds.within (omega arith));
  }

-- its acts, with its parts as they are lent
pub vector-acts : (k : Attribute) (l : List ℕ) (w : VectorHead) →
    vector_acts (head_vector k l w)
    ≡ leave_all_acts k w.leaves
    ++ values_acts (vector_of k false 0 (first_part l w) (take (w.four - w.three) (drop w.three l)) (take (w.next - w.four) (drop w.four l))) 0 w.values
unfolding vector_acts head_vector part
vector-acts k l w = ap (λ (es : List Act). leave_all_acts k w.leaves ++ es) (same-values (head_vector k l w) 0 w.values)
