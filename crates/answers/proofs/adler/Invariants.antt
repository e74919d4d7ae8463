-- The sum of the octets that are left, from these sums on, is the sum of all.
use Rattle.std.proofs.Common.{ℕ, ◌<◌, ◌≡◌, List, drop}
use Rattle.answers.specs.Sums.{adler_from, adler32}
use Rattle.answers.proofs.adler.Given as goal

pub record Summing (octets : List ℕ) (a b i : ℕ) : Type 0 where
  pub low : a < 65521
  pub high : b < 65521
  pub left : adler_from a b (drop i octets) ≡ adler32 octets

abbrev pub invariant-loop-octet : goal.invariant-loop-octet
invariant-loop-octet l = Summing l.octets l.a l.b l.octet-index
