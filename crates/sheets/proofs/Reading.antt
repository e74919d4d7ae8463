-- Records read one behind the other, and what a turn of the loop over them does. Assumes nothing.
use Prim.Native.Nat.{ℕ, zero, suc, ◌+◌, ◌-◌, ◌/◌, ◌%◌, ◌≤◌, ◌<◌}
use mathlib.Core.Bool.{Bool, true, false}
use mathlib.Core.Path.{◌≡◌, refl, sym, ap, ◌∙◌}
use mathlib.Core.List.{List, [], ◌∷◌, ◌++◌, append-nil, append_assoc}
use native.Mathlib.Nat.{add-zero}
use native.Mathlib.Omega.{arith}
use lib.ListN.{length, get_or, take, drop, length-drop, drop_of_length-le}
use lib.Dec.{eqb, ltb}
use lib.Seq.{get_or-drop, take_all}
use borrow.Author.Tests.{ltb-false, lt-ltb, le-ltb, eq-eqb, ne_eqb}
use Rattle.octets.specs.Be.{be_at}
use Rattle.octets.specs.Parts.{part}
use Rattle.octets.specs.Pick.{pick}
use Rattle.octets.proofs.Pick.{pick-keeps}
use Rattle.octets.proofs.Parts.{length_part}
use Rattle.model.specs.Table.{ports_field}
use Rattle.bridge.specs.Promises.{Receives, Advances}
use Rattle.console.specs.declared.text.Text.{Text}
use Rattle.console.specs.Texts.{Puts}
use Rattle.console.proofs.Texts.{puts-none, puts-append}
use Rattle.sheets.specs.Lines.{stop_line}
use Rattle.sheets.specs.Records.{Record, frame, time, stop, frame_of, time_of, record_of, size_of, followed, records_from, records_of, called, answer_text, record_text, table_after, records_text}
use Rattle.sheets.specs.Promises.{Called, CalledAll}

-- past the end of a list there are zeros
past : (s : List ℕ) (i : ℕ) → length s ≤ i → get_or s i 0 ≡ 0
past s i h = ap (λ (k : ℕ). get_or s k 0) (sym (add-zero i)) ∙ sym (get_or-drop i s 0 0) ∙ ap (λ (l : List ℕ). get_or l 0 0) (drop_of_length-le s h)

-- settings that end before it have no ports field
pub ports-none : (input : List ℕ) → length input ≤ 8 → ports_field input ≡ 0
unfolding ports_field be_at
ports-none input h = omega (arith, past input 8 (omega arith), past input 9 (omega arith), past input 10 (omega arith))

-- the ports field of settings is four bits of an octet
module _ (input : List ℕ) (octets : (i : ℕ) → get_or input i 0 < 256) where
  pub ports-is : ports_field input ≡ get_or input 8 0 / 16
  unfolding ports_field be_at
  ports-is = omega (arith, octets 8, octets 9, octets 10)

  pub ports-few : ports_field input ≤ 15
  ports-few = omega (arith, ports-is, octets 8)

-- a record is within what is left
frame-within : (s : List ℕ) → size_of (frame_of s) ≤ length s
unfolding frame_of size_of pick
frame-within s = go (ltb (length s) (3 + be_at 2 s 1)) refl
  where
    go : (b : Bool) → ltb (length s) (3 + be_at 2 s 1) ≡ b → size_of (frame_of s) ≤ length s
    go true e = rw e (omega arith)
    go false e = rw e (omega (arith, length_part 3 (be_at 2 s 1) s (ltb-false (length s) (3 + be_at 2 s 1) e), ltb-false (length s) (3 + be_at 2 s 1) e))

time-within : (s : List ℕ) → size_of (time_of s) ≤ length s
unfolding time_of size_of pick
time-within s = go (ltb (length s) 5) refl
  where
    go : (b : Bool) → ltb (length s) 5 ≡ b → size_of (time_of s) ≤ length s
    go true e = rw e (omega arith)
    go false e = rw e (ltb-false (length s) 5 e)

pub size-within : (s : List ℕ) → size_of (record_of s) ≤ length s
unfolding record_of
size-within s =
    pick-keeps (λ (r : Record). size_of r ≤ length s) (eqb (get_or s 0 0 / 16) 1) (frame_of s) (pick (eqb (get_or s 0 0) 32) (time_of s) stop) (frame-within s)
    (pick-keeps (λ (r : Record). size_of r ≤ length s) (eqb (get_or s 0 0) 32) (time_of s) stop (time-within s) (unfold size_of in omega arith))

-- The call of a record, way by way.

-- what ends the reading, as a cut record or another octet does
pub stopped-called : (t : List ℕ) (r : Record) (left number size : ℕ) → r ≡ stop → number ≡ 0 → size ≡ 0 → Called t r left number size t
unfolding called size_of
stopped-called t r left number size e a b = rw e record { number_is = a; size_is = b; table_is = refl; within = omega arith }

module _ (s : List ℕ) where
  pub frame-cut : length s < 3 + be_at 2 s 1 → frame_of s ≡ stop
  unfolding frame_of pick
  frame-cut h = rw (lt-ltb (length s) (3 + be_at 2 s 1) h)

  frame-whole : 3 + be_at 2 s 1 ≤ length s → frame_of s ≡ frame (get_or s 0 0 % 16) (part 3 (be_at 2 s 1) s)
  unfolding frame_of pick
  frame-whole h = rw (le-ltb (length s) (3 + be_at 2 s 1) h)

  -- a PDU of n octets behind the first three
  pub frame-called : (t : List ℕ) (n number : ℕ) (after : List ℕ) → n ≡ be_at 2 s 1 → 3 + n ≤ length s
      → Receives t (get_or s 0 0 % 16) (take (3 + n - 3) (drop 3 s)) number after → Called t (frame_of s) (length s) number (3 + n) after
  unfolding called size_of part
  frame-called t n number after e h r =
      let m : 3 + n - 3 ≡ n = omega arith in
      rw (frame-whole (rw e at h), ← e)
      record {
        number_is = rw m at r.0;
        size_is = omega (arith, length_part 3 n s h);
        table_is = rw m at r.1;
        within = h;
      }

  pub time-cut : length s < 5 → time_of s ≡ stop
  unfolding time_of pick
  time-cut h = rw (lt-ltb (length s) 5 h)

  pub time-called : (t : List ℕ) (number : ℕ) (after : List ℕ) → 5 ≤ length s → Advances t (be_at 4 s 1) number after
      → Called t (time_of s) (length s) number 5 after
  unfolding time_of pick called size_of
  time-called t number after h a = rw (le-ltb (length s) 5 h) record { number_is = a.0; size_is = refl; table_is = a.1; within = h }

  pub of-frame : get_or s 0 0 / 16 ≡ 1 → record_of s ≡ frame_of s
  unfolding record_of pick
  of-frame e = rw (eq-eqb (get_or s 0 0 / 16) 1 e)

  pub of-time : (get_or s 0 0 / 16 ≡ 1 → ⊥) → get_or s 0 0 ≡ 32 → record_of s ≡ time_of s
  unfolding record_of pick
  of-time a e = rw (ne_eqb (get_or s 0 0 / 16) 1 a, eq-eqb (get_or s 0 0) 32 e)

  pub of_other : (get_or s 0 0 / 16 ≡ 1 → ⊥) → (get_or s 0 0 ≡ 32 → ⊥) → record_of s ≡ stop
  unfolding record_of pick
  of_other a b = rw (ne_eqb (get_or s 0 0 / 16) 1 a, ne_eqb (get_or s 0 0) 32 b)

-- only what ends the reading takes no octets
pub only-stop : (r : Record) → size_of r ≡ 0 → r ≡ stop
unfolding size_of
only-stop (frame p pdu) e = absurd (omega arith)
only-stop (time now) e = absurd (omega arith)
only-stop stop e = refl

-- no more records behind no octets
pub records-none : (f : ℕ) (s : List ℕ) → length s ≡ 0 → records_from f s ≡ []
unfolding records_from pick
records-none zero s e = refl
records-none (suc f) s e = rw (eq-eqb (length s) 0 e)

module _ (f : ℕ) (s : List ℕ) (h : 0 < length s) where
  records-next : records_from (suc f) s ≡ followed (record_of s) (records_from f (drop (size_of (record_of s)) s))
  unfolding records_from pick
  records-next = rw (ne_eqb (length s) 0 (λ e. omega arith))

  -- what ends the reading
  pub records-stop : record_of s ≡ stop → records_from (suc f) s ≡ stop ∷ []
  unfolding followed
  records-stop e = records-next ∙ rw e

  -- a record, and those behind it
  pub records-more : (r : Record) → record_of s ≡ r → (size_of r ≡ 0 → ⊥) → records_from (suc f) s ≡ r ∷ records_from f (drop (size_of r) s)
  unfolding followed size_of
  records-more (frame p pdu) e n = records-next ∙ rw e
  records-more (time now) e n = records-next ∙ rw e
  records-more stop e n = absurd (n refl)

-- what is printed for a record that does not end the reading
text-answer : (r : Record) (number : ℕ) → (size_of r ≡ 0 → ⊥) → record_text r number ≡ answer_text number
unfolding record_text size_of
text-answer (frame p pdu) number n = refl
text-answer (time now) number n = refl
text-answer stop number n = absurd (n refl)

-- what is left of a slice from a place on
pub rest-whole : (s : List ℕ) (from : ℕ) → take (length s - from) (drop from s) ≡ drop from s
rest-whole s from = take_all (length s - from) (drop from s) (omega (arith, length-drop from s))

-- where the loop over records stands: what is left of them, the table and the text as they began, and what was printed so far
pub record Calling (table₀ records : List ℕ) (text₀ : Text) (table : List ℕ) (text : Text) (rest : List ℕ) : Type 0 where
  pub fuel : ℕ
  pub enough : length rest ≤ fuel
  pub said : List ℕ
  pub put : Puts text₀ said text
  pub text-left : said ++ records_text (records_from fuel rest) table ≡ records_text (records_of records) table₀
  pub table-left : table_after (records_from fuel rest) table ≡ table_after (records_of records) table₀

-- before the first record
pub calling-none : (table records : List ℕ) (text : Text) → Calling table records text table text records
unfolding records_of
calling-none table records text = record {
  fuel = length records;
  enough = omega arith;
  said = [];
  put = puts-none text;
  text-left = refl;
  table-left = refl;
}

module _ {table₀ records table rest : List ℕ} {text₀ text : Text} (c : Calling table₀ records text₀ table text rest) where
  -- behind the last one
  pub calling-end : length rest ≡ 0 → CalledAll table₀ records text₀ table text
  unfolding records_text table_after
  calling-end h =
      let none = records-none c.fuel rest h in
      let said : c.said ≡ records_text (records_of records) table₀ = sym (append-nil c.said) ∙ (rw none at c.text-left) in
      record { table_is = rw none at c.table-left; text_is = rw (← said) c.put }

  module _ (h : 0 < length rest) where
    some : c.fuel ≡ suc (c.fuel - 1)
    some = omega (arith, c.enough)

    -- what ends the reading
    pub calling-stop : {table' : List ℕ} {text' : Text} {number size : ℕ} → Called table (record_of rest) (length rest) number size table' → size ≡ 0
        → Puts text stop_line text' → CalledAll table₀ records text₀ table' text'
    unfolding records_text table_after record_text called
    calling-stop d e p =
        let is = only-stop (record_of rest) (sym d.size_is ∙ e) in
        let last : records_from c.fuel rest ≡ stop ∷ [] = ap (λ (f : ℕ). records_from f rest) some ∙ records-stop (c.fuel - 1) rest h is in
        let text : c.said ++ stop_line ≡ records_text (records_of records) table₀ = ap (λ (l : List ℕ). c.said ++ l) (sym (append-nil stop_line)) ∙ (rw last at c.text-left) in
        record { table_is = d.table_is ∙ rw is (rw last at c.table-left); text_is = rw (← text) (puts-append c.put p) }

    -- a record, and its line
    pub calling-more : {table' : List ℕ} {text' : Text} {number size : ℕ} → Called table (record_of rest) (length rest) number size table' → (size ≡ 0 → ⊥)
        → Puts text (answer_text number) text' → Calling table₀ records text₀ table' text' (drop size rest)
    unfolding records_text table_after
    calling-more {number = number} {size = size} d n p =
        let r = record_of rest in
        let one : size_of r ≡ 0 → ⊥ = λ e. n (d.size_is ∙ e) in
        let behind : drop (size_of r) rest ≡ drop size rest = rw (← d.size_is) refl in
        let more : records_from c.fuel rest ≡ r ∷ records_from (c.fuel - 1) (drop size rest) =
        ap (λ (f : ℕ). records_from f rest) some ∙ records-more (c.fuel - 1) rest h r refl one ∙ ap (λ (s : List ℕ). r ∷ records_from (c.fuel - 1) s) behind in
        record {
          fuel = c.fuel - 1;
          enough = omega (arith, c.enough, length-drop size rest, d.within);
          said = c.said ++ answer_text number;
          put = puts-append c.put p;
          text-left =
              append_assoc c.said (answer_text number) _
              ∙ ap (λ (l : List ℕ). c.said ++ l) (rw (d.number_is, d.table_is, ← (text-answer r (called r table).number one)))
              ∙ (rw more at c.text-left);
          table-left = rw d.table_is (rw more at c.table-left);
        }
