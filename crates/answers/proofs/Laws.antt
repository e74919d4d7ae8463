-- A turn and the end of the loop over octets; and what is printed of an answer, by its parts. Assumes nothing.
use Prim.Native.Nat.{ℕ, ◌+◌, ◌*◌, ◌%◌, ◌≤◌, ◌<◌}
use mathlib.Core.Path.{◌≡◌, ap}
use mathlib.Core.List.{List}
use native.Mathlib.Numerals.{add-one}
use lib.ListN.{length, get_or, drop, drop_of_length-le}
use lib.Seq.{drop-cons}
use Rattle.std.specs.Prelude.{Result, Ok, Err}
use Rattle.std.specs.Result.{ResultUnwrapsOrElse}
use Rattle.model.specs.declared.refusal.Refusal.{Refusal}
use Rattle.bridge.specs.declared.Wrote.{Wrote}
use Rattle.bridge.specs.Promises.{length_of, next_of}
use Rattle.answers.specs.Sums.{adler_from}

module _ (a b i : ℕ) (s : List ℕ) where
  pub adler-more : i < length s → adler_from a b (drop i s) ≡ adler_from ((a + get_or s i 0) % 65521) ((b + (a + get_or s i 0) % 65521) % 65521) (drop (i + 1) s)
  unfolding adler_from
  adler-more p = rw (add-one, drop-cons s i 0 p)

  pub adler-none : length s ≤ i → adler_from a b (drop i s) ≡ b * 65536 + a
  unfolding adler_from
  adler-none p = rw (drop_of_length-le s p)

-- a write's parts: those of the answer, or of a default
pub wrote-parts : (D : Wrote → Type 0) (a : Result Wrote Refusal) (w : Wrote) → ((v : Wrote) → D v → (v.length ≡ 0) × (v.next ≡ 0)) → ResultUnwrapsOrElse a D w
    → (w.length ≡ length_of a) × (w.next ≡ next_of a)
wrote-parts D (Ok v) w d u = (ap (λ (x : Wrote). x.length) u, ap (λ (x : Wrote). x.next) u)
wrote-parts D (Err e) w d u = d w u
