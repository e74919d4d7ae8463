-- Importance as 01 says it and as one number are the same order (01, "Settling": "rank 0 before 1, then older, then lower
-- StreamID").
use mathlib.Core.Path.{◌≡◌, sym, ◌∙◌}
use mathlib.Core.Bool.{◌&&◌, ◌||◌}
use Prim.Native.Nat.{◌^◌, ◌<◌}
use native.Mathlib.Omega.{arith}
use lib.Dec.{ltb, eqb}
use borrow.Author.Tests.{lt-ltb, le-ltb, eq-eqb, ne_eqb}
use Rattle.model.specs.Bandwidth.{Claim, more_important, key}
use Rattle.model.proofs.Commute.{Tri, less, same, more, tri}
use Rattle.model.proofs.Admission.{by_rank_lem, by-age, by-id}

-- for seconds of 32 bits and StreamIDs of 64
pub importance : (c d : Claim) → c.age < 2 ^ 32 → d.age < 2 ^ 32 → c.id < 2 ^ 64 → d.id < 2 ^ 64 → more_important c d ≡ ltb (key c) (key d)
unfolding more_important
importance c d a b i j = ranks (tri c.rank d.rank)
  where
    streams : c.rank ≡ d.rank → c.age ≡ d.age → Tri c.id d.id → ltb c.id d.id ≡ ltb (key c) (key d)
    streams r e (less h) = lt-ltb _ _ h ∙ sym (lt-ltb (key c) (key d) (by-id c d r e h))
    streams r e (same h) = le-ltb c.id d.id (omega arith) ∙ sym (le-ltb (key c) (key d) (unfold key in omega arith))
    streams r e (more h) = le-ltb c.id d.id (omega arith) ∙ sym (le-ltb (key c) (key d) (omega (arith, by-id d c (sym r) (sym e) h)))

    ages : c.rank ≡ d.rank → Tri c.age d.age
        → (ltb c.age d.age || (eqb c.age d.age && ltb c.id d.id)) ≡ ltb (key c) (key d)
    ages r (less h) = rw (lt-ltb c.age d.age h) (sym (lt-ltb (key c) (key d) (by-age c d i r h)))
    ages r (same h) = rw (le-ltb c.age d.age (omega arith), eq-eqb c.age d.age h) (streams r h (tri c.id d.id))
    ages r (more h) =
        rw (le-ltb c.age d.age (omega arith), ne_eqb c.age d.age (λ e. omega arith))
        (sym (le-ltb (key c) (key d) (omega (arith, by-age d c j (sym r) h))))

    ranks : Tri c.rank d.rank
        → (ltb c.rank d.rank
        || (eqb c.rank d.rank && (ltb c.age d.age || (eqb c.age d.age && ltb c.id d.id))))
        ≡ ltb (key c) (key d)
    ranks (less h) = rw (lt-ltb c.rank d.rank h) (sym (lt-ltb (key c) (key d) (by_rank_lem c d a i h)))
    ranks (same h) = rw (le-ltb c.rank d.rank (omega arith), eq-eqb c.rank d.rank h) (ages h (tri c.age d.age))
    ranks (more h) =
        rw (le-ltb c.rank d.rank (omega arith), ne_eqb c.rank d.rank (λ e. omega arith))
        (sym (le-ltb (key c) (key d) (omega (arith, by_rank_lem d c b j h))))
