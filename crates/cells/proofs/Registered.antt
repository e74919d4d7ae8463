-- Whether an AttributeType is registered and not leaving, read from the octets of a cell.
use mathlib.Core.Path.{◌≡◌, refl, ◌∙◌}
use mathlib.Core.List.{List}
use mathlib.Core.Bool.{Bool, true, false, cond, ◌&&◌}
use Prim.Native.Nat.{ℕ, ◌+◌}
use lib.ListN.{get_or}
use lib.Dec.{eqb}
use Rattle.octets.specs.Be.{be_at}
use Rattle.octets.specs.Fields.{width, fields}
use Rattle.octets.proofs.Fields.{be_at-one, get-octet}
use Rattle.model.specs.Layout.{cell_index, cell_widths, in_cell}
use Rattle.model.specs.State.{Leaving, stays, since, TalkerType, talker_advertise, talker_failed, Talker, no_talker, talker, Ready, Listener, no_listener, listener, Cell}
use Rattle.model.specs.Registrations.{listeners, talks_as, is_staying, talker_stays, listener_stays, registered_in}
use Rattle.model.specs.WrittenFrames.{to_ready}
use Rattle.model.specs.Table.{leaving_number, to_leaving, talker_type_number, talker_numbers, cell_numbers, cell_octets, cell_from, listener_from, to_cell}
use Rattle.model.specs.Laid.{FitCell, LaidCell}
use Rattle.model.specs.Attributes.{talker_kind_of, talker_number}
use Rattle.model.proofs.Attributes.{talkers_octets_of}
use Rattle.model.specs.declared.attribute.TalkerAttribute.{TalkerAttribute}
use Rattle.model.specs.declared.attribute.TalkerAttribute.TheVariants as attribute
use Rattle.cells.proofs.Leaving.{laid, both, talker-kind}

-- A Listener's: whether it is there, and then whether its leaving is unmarked.

listener-read : (r : Ready) (t : ℕ) (none staying : Bool) → listener_stays (cond none no_listener (listener r (cond staying stays (since t)))) ≡ cond none false staying
unfolding listener_stays is_staying
listener-read r t true staying = refl
listener-read r t false true = refl
listener-read r t false false = refl

pub listener-registered : (s : List ℕ) → registered_in listeners (to_cell s) ≡ cond (eqb (get_or s in_cell.listener 0) 0) false (eqb (get_or s in_cell.listener_leaves 0) 0)
unfolding registered_in to_cell cell_from listener_from to_leaving fields
listener-registered s = rw (be_at-one s in_cell.listener, be_at-one s in_cell.listener_leaves) (listener-read (to_ready (be_at 1 s in_cell.listener)) (be_at 4 s (in_cell.listener_leaves + 1)) (eqb (be_at 1 s in_cell.listener) 0) (eqb (be_at 1 s in_cell.listener_leaves) 0))

-- A Talker's: whether its kind is that of the AttributeType.

staying-number : (l : Leaving) → is_staying l ≡ eqb (leaving_number l) 0
unfolding is_staying leaving_number
staying-number stays = refl
staying-number (since t) = refl

both-tests : (a b : Bool) → (a && b) ≡ cond a b false
both-tests true b = refl
both-tests false b = refl

talks-number : (a : TalkerAttribute) (y : TalkerType) → talks_as (talker_kind_of a) y ≡ eqb (talker_type_number y) (talker_number a)
unfolding talks_as talker_type_number
talks-number attribute.Advertise talker_advertise = refl
talks-number attribute.Advertise (talker_failed b c) = refl
talks-number attribute.Failed talker_advertise = refl
talks-number attribute.Failed (talker_failed b c) = refl

of-talker : (a : TalkerAttribute) (c : Cell) → registered_in (talker_kind_of a) c ≡ talker_stays (talker_kind_of a) c.talks
unfolding registered_in
of-talker attribute.Advertise c = refl
of-talker attribute.Failed c = refl

some-number : (a : TalkerAttribute) → eqb 0 (talker_number a) ≡ false
some-number attribute.Advertise = refl
some-number attribute.Failed = refl

module _ (a : TalkerAttribute) where
  talker-mark : (c : Cell) → FitCell c → get_or (cell_octets c) in_cell.talker_leaves 0 ≡ get_or (cell_numbers c) cell_index.talker_leaves 0
  unfolding cell_octets width
  talker-mark c fit = get-octet cell_widths (cell_numbers c) fit.numbers cell_index.talker_leaves refl

  talker-read : (t : Talker) (h : Listener) → FitCell (both t h)
      → talker_stays (talker_kind_of a) t ≡ cond (eqb (get_or (cell_octets (both t h)) 0 0) (talker_number a)) (eqb (get_or (cell_octets (both t h)) in_cell.talker_leaves 0) 0) false
  unfolding talker_stays cell_numbers talker_numbers
  talker-read no_talker h fit = rw (talker-kind (both no_talker h) fit, some-number a)
  talker-read (talker r) h fit =
      rw (talker-kind (both (talker r) h) fit, talker-mark (both (talker r) h) fit, talks-number a r.varying.type, staying-number r.leaving)
      (both-tests (eqb (talker_type_number r.varying.type) (talker_number a)) (eqb (leaving_number r.leaving) 0))

  pub talker-registered : (s : List ℕ) → LaidCell s
      → registered_in (talker_kind_of a) (to_cell s) ≡ cond (eqb (get_or s 0 0) (talker_number a)) (eqb (get_or s in_cell.talker_leaves 0) 0) false
  talker-registered =
      laid (λ s c. registered_in (talker_kind_of a) c ≡ cond (eqb (get_or s 0 0) (talker_number a)) (eqb (get_or s in_cell.talker_leaves 0) 0) false)
      (λ c fit. of-talker a c ∙ talker-read c.talks c.hears fit)

-- for the search at `is_registered`
pub ruleset registered = (listener-registered, talker-registered, talkers_octets_of)
