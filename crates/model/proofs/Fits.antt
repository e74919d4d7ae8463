-- What fits its fields is read back from its octets; octets that are laid out are those of what is read from them; and what
-- keeps the form rules fits.
use mathlib.Core.Path.{◌≡◌, sym, ap, ◌∙◌, subst}
use mathlib.Core.List.{List, [], ◌∷◌, ◌++◌}
use mathlib.Core.Bool.{true}
use Prim.Native.Nat.{ℕ, ◌+◌, ◌*◌, ◌-◌, ◌^◌, ◌<◌}
use native.Mathlib.Omega.{arith}
use lib.ListN.{length, get_or}
use Rattle.octets.specs.Parts.{zeros}
use Rattle.octets.specs.Fields.{fields, Fit}
use Rattle.octets.proofs.Fields.{fields-of-packed, fit_at}
use Rattle.model.specs.Layout.{cell_index, cell_size, cell_widths, failure_widths, fixed_widths, name_widths, offer_widths, record_size, result_size, result_widths, sends_size}
use Rattle.model.specs.Lists.{parts, Octets}
use Rattle.model.specs.State.{Leaving, stays, since, Fixed, TalkerType, talker_advertise, talker_failed, Talker, no_talker, talker, Listener, no_listener, listener, Cell, Result, Offer, Failure, Sends, Stream, Bridge}
use Rattle.model.specs.Machines.{Applicant, no_applicant, applicant}
use Rattle.model.specs.Sending.{offer_numbers, sends_octets, to_sends, sender_octets, to_sender}
use Rattle.model.specs.Registrations.{ids}
use Rattle.model.specs.WrittenFrames.{priority_octet, fixed_numbers, fixed_from}
use Rattle.model.specs.Table.{since_number, bridge_number, code_number, talker_numbers, listener_numbers, cell_numbers, cell_octets, to_cell, result_numbers, result_octets, to_result, stream_octets, to_stream, count_field, records_part, id_of, encode, decode, formed}
use Rattle.model.specs.Laid.{FitRank, FitCell, FitOwn, FitResult, FitOffer, FitFailure, FitApplicant, FitSends, FitSender, FitStream, FitBridge, LaidOut, LaidCell, LaidResult, LaidSends, LaidSender, Laid}
use Rattle.model.proofs.Lists.{all_map}
use Rattle.model.proofs.Valid.{ValidLeaving, ValidFixed, ValidTalkerType, ValidTalker, ValidListener, ValidCell, ValidOwn, ValidResult, GoodApplicant, ValidOffer, ValidFailure, ValidFailed, ValidSends, ValidStream, Valid}
use Rattle.model.proofs.Parts.{◌also◌, parts-flat, many_read, rising-ascends}
use Rattle.model.proofs.Cells.{fixed-fit, fixed_back, cell-fit, cell-back, cells-sized}
use Rattle.model.proofs.Results.{result-fit, numbers-back, results-sized}
use Rattle.model.proofs.SendsOctets.{offer-fit, failure-fit, sends-coded}
use Rattle.model.proofs.SenderOctets.{sender-coded}
use Rattle.model.proofs.Owns.{valid-own-fits}
use Rattle.model.proofs.SettingsOctets.{settings-fit}
use Rattle.model.proofs.Tables.{Eights, sends-sized, stream-length, cells_of, results-of, sends-of, name-read, id-read, totals-fit, fit-whole, clock-read, count-read, records-read, settings-decoded, totals-decoded, owns-decoded, senders-decoded, senders-fit, valid-decode, encode-decode}

-- Read back: a cell. With the latest clock and the longest leave time that a field holds, every time that fits is valid.

abbrev pub latest : ℕ
latest = 4294967295

abbrev pub longest : ℕ
longest = 4294967296

fit-leaving : (l : Leaving) → since_number l < 2 ^ 32 → ValidLeaving latest longest l
unfolding since_number
fit-leaving stays h = tt
fit-leaving (since t) h = (omega arith, omega arith)

pub fit-type : (h : TalkerType) → bridge_number h < 256 ^ 8 → code_number h < 256 ^ 1 → ValidTalkerType h
unfolding bridge_number code_number
fit-type talker_advertise p q = tt
fit-type (talker_failed b c) p q = (p, q)

-- five numbers, the last of them priority and rank
pub fit-fixed : (f : Fixed) → Fit fixed_widths (fixed_numbers f) → f.rank < 2 → ValidFixed f
unfolding Fit fixed_numbers priority_octet
fit-fixed f w r = record {
  destination = w.0;
  vlan = w.1.0;
  size = w.1.1.0;
  frames = w.1.1.1.0;
  priority = omega (arith, w.1.1.1.1.0);
  rank = r;
}

fit-talker : (t : Talker) (after : List ℕ) → ((i : ℕ) → get_or (talker_numbers t ++ after) i 0 < 256 ^ get_or cell_widths i 0)
    → FitRank t → ValidTalker latest longest t
unfolding talker_numbers fixed_numbers Fit
fit-talker no_talker after at rank = tt
fit-talker (talker r) after at rank = record {
  fixed = fit-fixed r.fixed (at cell_index.fixed also at cell_index.vlan also at (cell_index.vlan + 1) also at (cell_index.vlan + 2) also at cell_index.priority also tt) rank;
  varying = record { type = fit-type r.varying.type (at cell_index.bridge) (at cell_index.code); latency = at cell_index.latency };
  first_latency = at cell_index.first_latency;
  leaving = fit-leaving r.leaving (at cell_index.talker_since);
}

fit-listener : (t : Talker) (h : Listener) → ((i : ℕ) → get_or (talker_numbers t ++ listener_numbers h) i 0 < 256 ^ get_or cell_widths i 0)
    → ValidListener latest longest h
unfolding talker_numbers listener_numbers fixed_numbers
fit-listener t no_listener at = tt
fit-listener no_talker (listener r l) at = fit-leaving l (at cell_index.listener_since)
fit-listener (talker k) (listener r l) at = fit-leaving l (at cell_index.listener_since)

pub fit-cell : (c : Cell) → FitCell c → ValidCell latest longest c
unfolding cell_numbers
fit-cell c w =
    let at = fit_at cell_widths (cell_numbers c) w.numbers in
    record {
      talks = fit-talker c.talks (listener_numbers c.hears) at w.rank;
      hears = fit-listener c.talks c.hears at;
    }

pub cell-read : (c : Cell) → FitCell c → to_cell (cell_octets c) ≡ c
cell-read c w = cell-back latest longest (omega arith) c (fit-cell c w)

-- A result.

pub result-read : (r : Result) → FitResult r → to_result (result_octets r) ≡ r
unfolding to_result result_octets
result-read r w = rw (fields-of-packed result_widths (result_numbers r) w) (numbers-back r)

-- What a port sends of a stream.

fit-applicant : {D : Type 0} (Fits Good : D → Type 0) → ((d : D) → Fits d → Good d) → (x : Applicant D) → FitApplicant Fits x → GoodApplicant Good x
fit-applicant Fits Good h no_applicant f = tt
fit-applicant Fits Good h (applicant x) f = h x.value f

pub fit-offer : (x : Offer) → FitOffer x → ValidOffer x
unfolding offer_numbers fixed_numbers Fit
fit-offer x w =
    let at = fit_at offer_widths (offer_numbers x) w.numbers in
    record { fixed = fit-fixed x.fixed (at 0 also at 1 also at 2 also at 3 also at 4 also tt) w.rank; latency = at 5 }

abbrev FitFailed : Offer × Failure → Type 0
FitFailed y = FitOffer y.0 × FitFailure y.1

fit-failure : (x : Failure) → FitFailure x → ValidFailure x
fit-failure x w = let at = fit_at failure_widths (x.bridge ∷ x.code ∷ []) w in record { bridge = at 0; code = at 1 }

pub fit-sends : (x : Sends) → FitSends x → ValidSends x
fit-sends x w = record {
  advertising = fit-applicant FitOffer ValidOffer fit-offer x.advertising w.advertising;
  failing = fit-applicant FitFailed ValidFailed (λ y f. (fit-offer y.0 f.0, fit-failure y.1 f.1)) x.failing w.failing;
}

pub sends-read : (x : Sends) → FitSends x → to_sends (sends_octets x) ≡ x
sends-read x w = sends-coded.back x (fit-sends x w)

-- A stream.

module _ (x : Stream) (w : FitStream x) where
  eight : Eights x
  eight = record { cells = w.eight_cells; results = w.eight_results; sends = w.eight_sends }

  pub stream-size : length (stream_octets x) ≡ record_size
  stream-size = stream-length x eight

  pub id-fits : x.id < 2 ^ 64
  unfolding Fit
  id-fits = w.name.0

  pub settled-fits : Fit fixed_widths (fixed_numbers x.settled)
  unfolding Fit
  settled-fits = w.name.1

  settled-read : fixed_from 1 (fields name_widths 0 (stream_octets x)) ≡ x.settled
  unfolding fixed_numbers
  settled-read =
      ap (fixed_from 1) (name-read x w.name) ∙ fixed_back x.settled (fit-fixed x.settled settled-fits w.rank) (x.id ∷ []) []

  pub stream-read : to_stream (stream_octets x) ≡ x
  unfolding to_stream id_of
  stream-read =
      let cs = all_map FitCell (λ c. to_cell (cell_octets c) ≡ c) cell-read x.cells w.cells in
      let rs = all_map FitResult (λ r. to_result (result_octets r) ≡ r) result-read x.results w.results in
      let ss = all_map FitSends (λ y. to_sends (sends_octets y) ≡ y) sends-read x.sends w.sends in
      rw (
        id-read x w.name,
        settled-read,
        cells_of x eight,
        results-of x eight,
        sends-of x eight,
        many_read cell_size cell_octets 8 to_cell x.cells w.eight_cells (cells-sized x.cells) cs,
        many_read result_size result_octets 8 to_result x.results w.eight_results (results-sized x.results) rs,
        many_read sends_size sends_octets 8 to_sends x.sends w.eight_sends (sends-sized x.sends) ss,
      )

-- A bridge.

module _ (b : Bridge) (w : FitBridge b) where
  streams-read : parts record_size to_stream (count_field (encode b)) (records_part (encode b)) ≡ b.streams
  streams-read =
      let o = fit-whole b w in
      rw (count-read b o w.clock, records-read b o)
      (parts-flat record_size stream_octets to_stream b.streams (zeros ((64 - length b.streams) * record_size)) o.streams
      (all_map FitStream (λ x. to_stream (stream_octets x) ≡ x) stream-read b.streams w.streams))

  pub bridge-read : decode (encode b) ≡ b
  unfolding decode
  bridge-read =
      let o = fit-whole b w in
      rw (settings-decoded b o w.settings, clock-read b o w.clock, totals-decoded b o w.totals, owns-decoded b o w.owns, senders-decoded b o w.senders, streams-read)

-- Laid out: the octets are those of what is read from them, and that fits.

module _ {A : Type 0} (octets : A → List ℕ) (from : List ℕ → A) (Fits : A → Type 0) (back : (a : A) → Fits a → from (octets a) ≡ a)
    (s : List ℕ) (l : LaidOut octets Fits s) where
  laid-read : from s ≡ l.thing
  laid-read = ap from l.is ∙ back l.thing l.fits

  laid_out : s ≡ octets (from s)
  laid_out = l.is ∙ ap octets (sym laid-read)

  laid-fit : Fits (from s)
  laid-fit = subst Fits (sym laid-read) l.fits

pub laid-cell-is : (s : List ℕ) → LaidCell s → s ≡ cell_octets (to_cell s)
laid-cell-is = laid_out cell_octets to_cell FitCell cell-read

pub laid-cell-fits : (s : List ℕ) → LaidCell s → FitCell (to_cell s)
laid-cell-fits = laid-fit cell_octets to_cell FitCell cell-read

pub laid-result-is : (s : List ℕ) → LaidResult s → s ≡ result_octets (to_result s)
laid-result-is = laid_out result_octets to_result FitResult result-read

pub laid-result-fits : (s : List ℕ) → LaidResult s → FitResult (to_result s)
laid-result-fits = laid-fit result_octets to_result FitResult result-read

pub laid-sends-is : (s : List ℕ) → LaidSends s → s ≡ sends_octets (to_sends s)
laid-sends-is = laid_out sends_octets to_sends FitSends sends-read

pub laid-sends-fits : (s : List ℕ) → LaidSends s → FitSends (to_sends s)
laid-sends-fits = laid-fit sends_octets to_sends FitSends sends-read

pub laid-sender-is : (s : List ℕ) → LaidSender s → s ≡ sender_octets (to_sender s)
laid-sender-is = laid_out sender_octets to_sender FitSender sender-coded.back

pub laid-sender-fits : (s : List ℕ) → LaidSender s → FitSender (to_sender s)
laid-sender-fits = laid-fit sender_octets to_sender FitSender sender-coded.back

pub laid-is : (s : List ℕ) → Laid s → s ≡ encode (decode s)
laid-is = laid_out encode decode FitBridge bridge-read

pub laid-fits : (s : List ℕ) → Laid s → FitBridge (decode s)
laid-fits = laid-fit encode decode FitBridge bridge-read

-- What keeps the form rules fits.

talker-rank : (clock leave : ℕ) (t : Talker) → ValidTalker clock leave t → FitRank t
talker-rank clock leave no_talker v = tt
talker-rank clock leave (talker r) v = v.fixed.rank

applicant-fits : {D : Type 0} (Fits Good : D → Type 0) → ((d : D) → Good d → Fits d) → (x : Applicant D) → GoodApplicant Good x → FitApplicant Fits x
applicant-fits Fits Good h no_applicant f = tt
applicant-fits Fits Good h (applicant x) f = h x.value f

pub valid-offer-fits : (x : Offer) → ValidOffer x → FitOffer x
valid-offer-fits x v = record { numbers = offer-fit x v; rank = v.fixed.rank }

pub valid-sends-fit : (x : Sends) → ValidSends x → FitSends x
valid-sends-fit x v = record {
  advertising = applicant-fits FitOffer ValidOffer valid-offer-fits x.advertising v.advertising;
  failing = applicant-fits FitFailed ValidFailed (λ y g. (valid-offer-fits y.0 g.0, failure-fit y.1 g.1)) x.failing v.failing;
}

-- at a bridge with this clock and leave time
module _ (ports clock leave : ℕ) (small : clock < 2 ^ 32) where
  pub valid-cell-fits : (c : Cell) → ValidCell clock leave c → FitCell c
  valid-cell-fits c v = record { numbers = cell-fit clock leave c v small; rank = talker-rank clock leave c.talks v.talks }

  pub valid-result-fits : (r : Result) → ValidResult clock r → FitResult r
  valid-result-fits r v = result-fit clock r v small

  pub valid-stream-fits : (x : Stream) → ValidStream ports clock leave x → FitStream x
  unfolding Fit
  valid-stream-fits x v = record {
    name = v.id also fixed-fit x.settled v.settled;
    rank = v.settled.rank;
    eight_cells = v.eight_cells;
    cells = all_map (ValidCell clock leave) FitCell valid-cell-fits x.cells v.cells;
    eight_results = v.eight_results;
    results = all_map (ValidResult clock) FitResult valid-result-fits x.results v.results;
    eight_sends = v.eight_sends;
    sends = all_map ValidSends FitSends valid-sends-fit x.sends v.sends;
  }

pub valid-fits : (b : Bridge) → Valid b → FitBridge b
valid-fits b v =
    let n = length b.settings.ports in
    let t = b.settings.leave_time in
    record {
      settings = settings-fit b.settings v.settings;
      clock = v.clock;
      eight_totals = v.eight_totals;
      totals = totals-fit _ b.totals b.settings.ports v.settings.ports v.totals;
      eight_owns = v.eight_owns;
      owns = all_map (ValidOwn b.clock t) FitOwn (valid-own-fits b.clock t v.clock) b.owns v.owns;
      eight_senders = v.eight_senders;
      senders = senders-fit b v;
      at_most_64 = v.at_most_64;
      streams = all_map (ValidStream n b.clock t) FitStream (valid-stream-fits n b.clock t v.clock) b.streams v.streams;
      ascending = rising-ascends (ids b.streams) v.ascending;
    }

-- octets that keep the form rules are laid out
pub formed-laid : (t : List ℕ) → Octets t → formed t ≡ true → Laid t
formed-laid t o f = record {
  thing = decode t;
  fits = valid-fits (decode t) (valid-decode t o f);
  is = sym (encode-decode t o f);
}
