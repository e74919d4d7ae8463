-- Entries and their ages, by the numbers that the code tests.
use mathlib.Core.Path.{◌≡◌, refl, sym}
use mathlib.Core.List.{List}
use mathlib.Core.Bool.{Bool, true, false, cond, true≢false, false≢true}
use Prim.Native.Nat.{ℕ, zero, suc, ◌+◌, ◌/◌}
use native.Mathlib.Omega.{arith}
use lib.ListN.{get_or}
use lib.Dec.{eqb, leb}
use borrow.Author.Tests.{eq-eqb, ne_eqb, le-leb}
use Rattle.std.specs.Prelude.{Option, Some, None}
use Rattle.std.specs.Option.{is_some}
use denote.Enum.Declared.{tag_of}
use Rattle.columns.specs.declared.Entry as code
use Rattle.columns.specs.declared.Entry.TheVariants.{Filter, Forward}
use Rattle.columns.specs.contracts.Entry as entry_contracts
use Rattle.columns.specs.Answers.{entry_shown, talker_number}
use Rattle.model.specs.declared.attribute.TalkerAttribute.{TalkerAttribute}
use Rattle.model.specs.declared.attribute.TalkerAttribute.TheVariants as talker
use Rattle.model.specs.contracts.attribute.TalkerAttribute as talker_contracts
use Rattle.octets.specs.Be.{be_at}
use Rattle.octets.specs.Fields.{fields}
use Rattle.model.specs.Layout.{in_result, in_cell}
use Rattle.model.specs.State.{Leaving, Talker, Ready, ready, ready_failed, no_listener, listener, no_entry, filters, forwards, nothing, tells}
use Rattle.model.specs.Settling.{is_ready, registered, age_of, age_kept}
use Rattle.model.specs.Table.{to_leaving, to_declared, to_entry, entry_number, to_cell, cell_from, listener_from, to_result, result_from}
use Rattle.model.proofs.SettingsOctets.{octet-field}
use Rattle.model.specs.WrittenFrames.{to_ready}

-- The Listener registered in a cell, as its octets say it.

heard : (t : Talker) (e : Bool) (r : Ready) (l : Leaving)
    → registered record { talks = t; hears = cond e no_listener (listener r l) } ≡ cond e nothing (tells r)
unfolding registered
heard t true r l = refl
heard t false r l = refl

pub registered-read : (s : List ℕ) → registered (to_cell s) ≡ to_declared (be_at 1 s in_cell.listener)
unfolding to_cell cell_from listener_from to_declared fields
registered-read s =
    heard (to_cell s).talks (eqb (be_at 1 s in_cell.listener) 0) (to_ready (be_at 1 s in_cell.listener)) (to_leaving (be_at 1 s in_cell.listener_leaves) (be_at 4 s in_cell.listener_since))

-- Table 35-12.

-- Ready and Ready Failed
pub ready-number : (k : ℕ) → is_ready (to_declared k) ≡ leb 2 k
unfolding is_ready to_declared to_ready
ready-number zero = refl
ready-number (suc zero) = refl
ready-number (suc (suc k)) =
    rw (ne_eqb (suc (suc k)) 0 (λ e. omega (arith, e)), ne_eqb (suc (suc k)) 1 (λ e. omega (arith, e)), le-leb 2 (suc (suc k)) (omega arith)) (go (eqb (suc (suc k)) 2))
  where
    go : (e : Bool) → is_ready (tells (cond e ready ready_failed)) ≡ true
    go true = refl
    go false = refl

-- the numbers of the code
pub entry_numbers : (e : code.Entry) → tag_of entry_contracts.the_type e + 1 ≡ entry_number (entry_shown (Some e))
unfolding entry_number entry_shown
entry_numbers Filter = refl
entry_numbers Forward = refl

pub talker_numbers : (k : TalkerAttribute) → tag_of talker_contracts.the_type k + 1 ≡ talker_number (Some k)
unfolding talker_number
talker_numbers talker.Advertise = refl
talker_numbers talker.Failed = refl

-- Ages.

module _ (s : List ℕ) (now : ℕ) where
  pub age-begins : get_or s in_result.entry 0 ≡ 0 → now / 100 ≡ age_of now (to_result s)
  unfolding age_of to_result result_from to_entry fields
  age-begins h = sym (rw (octet-field s in_result.entry, eq-eqb (get_or s in_result.entry 0) 0 h))

  pub age-stays : (get_or s in_result.entry 0 ≡ 0 → ⊥) → be_at 4 s in_result.age ≡ age_of now (to_result s)
  unfolding age_of to_result result_from to_entry fields
  age-stays h = sym (rw (octet-field s in_result.entry, ne_eqb (get_or s in_result.entry 0) 0 h) (held (eqb (get_or s in_result.entry 0) 1)))
    where
      held : (t : Bool) → elim (cond t filters forwards) [ no_entry ↦ now / 100 | filters ↦ be_at 4 s in_result.age | forwards ↦ be_at 4 s in_result.age ] ≡ be_at 4 s in_result.age
      held true = refl
      held false = refl

-- of an entry, and of none
pub kept_age : (e : Option code.Entry) (a : ℕ) → is_some e ≡ true → a ≡ age_kept (entry_shown e) a
unfolding age_kept entry_shown
kept_age None a h = absurd (false≢true h)
kept_age (Some Filter) a h = refl
kept_age (Some Forward) a h = refl

pub no_age : (e : Option code.Entry) (a : ℕ) → is_some e ≡ false → 0 ≡ age_kept (entry_shown e) a
unfolding age_kept entry_shown
no_age None a h = refl
no_age (Some e) a h = absurd (true≢false h)
