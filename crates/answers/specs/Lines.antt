-- The lines of srpcalls (docs/SRPCALLS.md), as octets. Assumes nothing.
use Rattle.std.specs.Prelude.{ℕ, ◌*◌, min, Bool, List, [], ◌∷◌, ◌++◌, length, take, drop, eqb, Result}
use Rattle.std.specs.Int.{w32, to_be_bytes}
use Rattle.octets.specs.Pick.{pick}
use Rattle.octets.specs.Fields.{flat}
use Rattle.io.specs.Digits.{last_digits}
use Rattle.model.specs.Why.{letter}
use Rattle.model.specs.Calls.{WhyCall}
use Rattle.model.specs.Numbers.{answer_number}
use Rattle.model.specs.declared.refusal.Refusal.{Refusal}
use Rattle.model.specs.Reports.{Report}
use Rattle.bridge.specs.declared.Wrote.{Wrote}
use Rattle.bridge.specs.Promises.{length_of, next_of}
use Rattle.console.specs.Text.{spaced}
use Rattle.console.specs.Words.{shown_text}
use Rattle.answers.specs.Sums.{adler32, filled}

-- a word, and numbers in decimal with a space before each
unfoldable pub numbers_text : List ℕ → List ℕ → List ℕ
numbers_text word numbers = word ++ flat spaced numbers

-- a space and octets in hexadecimal; nothing where there are none
unfoldable pub octets_text : List ℕ → List ℕ
octets_text s = pick (eqb (length s) 0) [] (32 ∷ flat (last_digits 16 2) s)

-- kept or spoiled, a space before it
unfoldable pub kept_text : Bool → List ℕ
kept_text kept = pick kept (32 ∷ 107 ∷ 101 ∷ 112 ∷ 116 ∷ []) (32 ∷ 115 ∷ 112 ∷ 111 ∷ 105 ∷ 108 ∷ 101 ∷ 100 ∷ [])

-- whether a buffer still has A5 in every octet behind the first so many, and these
unfoldable pub buffer_text : ℕ → List ℕ → List ℕ
buffer_text n s = kept_text (filled (drop (min n (length s)) s)) ++ octets_text (take (min n (length s)) s)

-- write N LENGTH NEXT KEPT HEX
unfoldable pub write_text : ℕ → ℕ → ℕ → List ℕ → List ℕ
write_text number long next s = numbers_text (119 ∷ 114 ∷ 105 ∷ 116 ∷ 101 ∷ []) (number ∷ long ∷ next ∷ []) ++ buffer_text long s

-- the same of an answer
unfoldable pub written_text : Result Wrote Refusal → List ℕ → List ℕ
written_text a s = write_text (answer_number a) (length_of a) (next_of a) s

-- report N COUNT TOTALA LIMITA TOTALB LIMITB ID COLUMN CODE LISTENER ENTRY
unfoldable pub reported_text : Report → List ℕ
reported_text r =
    (numbers_text (114 ∷ 101 ∷ 112 ∷ 111 ∷ 114 ∷ 116 ∷ []) (r.number ∷ r.count ∷ r.total_a ∷ r.limit_a ∷ r.total_b ∷ r.limit_b ∷ []) ++ (32 ∷ last_digits 16 16 r.id))
    ++ shown_text r.column r.code r.listener r.entry

-- the letter of a step, or none where there is no letter, a space before it
unfoldable pub step_text : ℕ → List ℕ
step_text l = pick (eqb l 0) (32 ∷ 110 ∷ 111 ∷ 110 ∷ 101 ∷ []) (32 ∷ l ∷ [])

-- why N STEP COUNT LIMIT SHORTFALL KEPT HEX
unfoldable pub explained_text : WhyCall → List ℕ
explained_text y =
    (numbers_text (119 ∷ 104 ∷ 121 ∷ []) (y.number ∷ []) ++ numbers_text (step_text (letter y.step)) (y.count ∷ y.limit ∷ y.shortfall ∷ []))
    ++ buffer_text (min y.count 63 * 16) y.buffer

-- table, and the Adler-32 of its octets
unfoldable pub sum_text : List ℕ → List ℕ
sum_text s = (116 ∷ 97 ∷ 98 ∷ 108 ∷ 101 ∷ []) ++ octets_text (to_be_bytes w32 (adler32 s))
