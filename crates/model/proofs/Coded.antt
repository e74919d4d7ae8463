-- Things that stand in the table one after another, each in as many octets, where those behind the first k are blank: cells,
-- results, Domain values, what each port holds.
use mathlib.Core.Path.{◌≡◌, refl, sym, ◌∙◌, ap}
use mathlib.Core.List.{List, [], ◌++◌, append-nil}
use mathlib.Core.Bool.{Bool, true, false, ◌||◌}
use Prim.Native.Nat.{ℕ, ◌*◌, ◌≤◌}
use native.Mathlib.Omega.{arith}
use lib.ListN.{length, take, drop, take-append-drop}
use lib.Seq.{take_all}
use Rattle.octets.specs.Fields.{flat}
use Rattle.octets.specs.Parts.{zeros}
use Rattle.model.specs.Lists.{All, parts, Octets, all_zero}
use Rattle.model.specs.Table.{every_part}
use Rattle.model.proofs.Lists.{all_map}
use Rattle.model.proofs.Parts.{Sized, parts-take, many_read, every-read, every-forth, every-fewer, every-padded, parts-padded, zero-padded, every-flat}

-- m things of n octets each, of which those after the first k are the blank one, written as zeros: cells, and results.

pub record Coded {A : Type 0} (n : ℕ) (to : A → List ℕ) (from : List ℕ → A) (rule : List ℕ → Bool) (Good : A → Type 0) (e : A) : Type 0 where
  pub size : (a : A) → Good a → length (to a) ≡ n
  pub back : (a : A) → Good a → from (to a) ≡ a
  pub keeps : (a : A) → Good a → rule (to a) ≡ true
  pub forth : (s : List ℕ) → length s ≡ n → Octets s → rule s ≡ true → to (from s) ≡ s
  pub valid : (s : List ℕ) → length s ≡ n → Octets s → rule s ≡ true → Good (from s)
  pub blank : to e ≡ zeros n
  pub good : Good e

module _ {A : Type 0} {n : ℕ} {to : A → List ℕ} {from : List ℕ → A} {rule : List ℕ → Bool} {Good : A → Type 0} {e : A}
    (c : Coded n to from rule Good e) where
  all-sized : (l : List A) → All Good l → All (Sized n to) l
  all-sized = all_map Good (Sized n to) c.size

  zeros-keep : rule (zeros n) ≡ true
  zeros-keep = ap rule (sym c.blank) ∙ c.keeps e c.good

  zeros-say : from (zeros n) ≡ e
  zeros-say = ap from (sym c.blank) ∙ c.back e c.good

  module _ (k m : ℕ) (h : k ≤ m) (l : List A) (q : length l ≡ m) (g : All Good l) where
    pub many-back : parts n from m (flat to l) ≡ l
    many-back = many_read n to m from l q (all-sized l g) (all_map Good (λ a. from (to a) ≡ a) c.back l g)

    pub many-keep : every_part n rule k (flat to l) ≡ true
    many-keep =
        every-fewer n rule k (length l) (flat to l) (omega arith)
        (ap (every_part n rule (length l)) (sym (append-nil (flat to l)))
        ∙ every-flat n to rule l [] (all-sized l g) (all_map Good (λ a. rule (to a) ≡ true) c.keeps l g))

    pub many-rest : All (λ a. a ≡ e) (drop k l) → all_zero (drop (k * n) (flat to l)) ≡ true
    many-rest z = zero-padded n to e c.blank k l (all-sized l g) (omega arith) z

  module _ (k m : ℕ) (h : k ≤ m) (s : List ℕ) (q : length s ≡ m * n) (o : Octets s)
      (r : every_part n rule k s ≡ true) (z : all_zero (drop (k * n) s) ≡ true) where
    all_keep : every_part n rule m s ≡ true
    all_keep = every-padded n rule zeros-keep k m s h q r z

    pub many-forth : flat to (parts n from m s) ≡ s
    many-forth = every-forth n rule from to c.forth m s (omega arith) o all_keep ∙ take_all (m * n) s (omega arith)

    pub many-valid : All Good (parts n from m s)
    many-valid = every-read n rule from Good c.valid m s (omega arith) o all_keep

    pub many-others : All (λ a. a ≡ e) (drop k (parts n from m s))
    many-others = all_map (λ a. a ≡ from (zeros n)) (λ a. a ≡ e) (λ a p. p ∙ zeros-say) (drop k (parts n from m s)) (parts-padded n from k m s h q z)

-- A test that some of the first k things passes, on octets and on what they say, where a blank one fails it.
module _ {A : Type 0} (n : ℕ) (from : List ℕ → A) (e : A) (test : ℕ → List ℕ → Bool) (some : List A → Bool)
    (read : (k : ℕ) (s : List ℕ) → test k s ≡ some (parts n from k s)) (append : (l m : List A) → some (l ++ m) ≡ (some l || some m))
    (none : (l : List A) → All (λ a. a ≡ e) l → some l ≡ false) where
  or-none : (b : Bool) → (b || false) ≡ b
  or-none true = refl
  or-none false = refl

  pub some_is : (k m : ℕ) (s : List ℕ) → k ≤ m → All (λ a. a ≡ e) (drop k (parts n from m s)) → test k s ≡ some (parts n from m s)
  some_is k m s h z =
      let l = parts n from m s in
      let whole : some l ≡ some (take k l) =
      ap some (sym (take-append-drop k l)) ∙ append (take k l) (drop k l) ∙ ap (λ (b : Bool). some (take k l) || b) (none (drop k l) z)
      ∙ or-none (some (take k l)) in
      read k s ∙ ap some (sym (parts-take n from k m s h)) ∙ sym whole
