-- A stream's demand, in the numbers that the code reads and multiplies.
use mathlib.Core.Path.{◌≡◌, refl, sym, ◌∙◌}
use mathlib.Core.List.{List}
use mathlib.Core.Bool.{cond}
use Prim.Native.Nat.{ℕ, ◌+◌, ◌*◌, ◌/◌, ◌%◌, ◌≤◌, ◌<◌}
use native.Mathlib.Nat.{mul-le-mul, mul-one}
use native.Mathlib.Omega.{arith}
use lib.Dec.{eqb}
use borrow.Author.Tests.{eq-eqb, ne_eqb}
use Rattle.octets.specs.Be.{be_at}
use Rattle.octets.specs.Fields.{fields}
use Rattle.model.specs.Layout.{before, fixed_widths, in_port}
use Rattle.model.specs.Lists.{is_one}
use Rattle.model.specs.Bandwidth.{demand, rate, rate_of, rate_of_a, rate_of_b}
use Rattle.model.specs.Table.{port_from, to_port}
use Rattle.table.specs.Reads.{to_fixed}
use Rattle.model.specs.WrittenFrames.{fixed_from}
use Rattle.streams.specs.declared.Class.{Class}
use Rattle.streams.specs.declared.Class.TheVariants.{A, B}
use Rattle.streams.specs.Answers.{named, intervals_of}

-- MaxFrameSize, MaxIntervalFrames, overhead and flags as they are read
module _ (port fixed : List ℕ) (size frames overhead flags : ℕ)
    (s : size ≡ be_at 2 fixed (before 2 fixed_widths)) (n : frames ≡ be_at 2 fixed (before 3 fixed_widths))
    (o : overhead ≡ be_at 1 port in_port.overhead) (f : flags ≡ be_at 1 port 0) where
  demand-read : (demand (to_port port) (to_fixed fixed)).octets ≡ (size + overhead + 1) * frames * cond (eqb (flags / 32 % 2) 1) 2 1
  unfolding demand to_port to_fixed port_from fixed_from fields is_one
  demand-read = rw (s, n, o, f)

  pub demand-twice : flags / 32 % 2 ≡ 1 → (size + overhead + 1) * frames * 2 ≡ (demand (to_port port) (to_fixed fixed)).octets
  demand-twice t = sym (demand-read ∙ rw (eq-eqb (flags / 32 % 2) 1 t))

  pub demand-once : (flags / 32 % 2 ≡ 1 → ⊥) → (size + overhead + 1) * frames ≡ (demand (to_port port) (to_fixed fixed)).octets
  demand-once t = sym (demand-read ∙ rw (ne_eqb (flags / 32 % 2) 1 t) (mul-one ((size + overhead + 1) * frames)))

-- the octets of frames that are sent once
pub once-bound : (size overhead frames : ℕ) → size < 65536 → overhead < 256 → frames < 65536 → (size + overhead + 1) * frames ≤ 65791 * 65535
once-bound size overhead frames s o n =
    let a : size + overhead + 1 ≤ 65791 = omega arith in
    let b : frames ≤ 65535 = omega arith in
    mul-le-mul a b

-- the bits of a demand in a second
pub rate_is : (c : Class) (d : ℕ) → d * 8 * intervals_of c ≡ (rate_of (named c) record { octets = d }).bits
unfolding intervals_of named rate_of rate_of_a rate_of_b rate
rate_is A d = refl
rate_is B d = refl

pub bits_bound : (d intervals : ℕ) → d < 17179869184 → intervals ≤ 8000 → d * 8 * intervals ≤ 137438953472 * 8000
bits_bound d intervals h i =
    let a : d * 8 ≤ 137438953472 = omega arith in
    mul-le-mul a i
