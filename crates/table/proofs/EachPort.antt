-- A loop that decides what stands at one place of a list after another: what one port after another holds by itself, what it sends by
-- itself, what it sends of a stream. At each turn the table is laid out, and what the loop has not come to is as it was; a turn; the end.
use Prim.Native.Nat.{ℕ, zero, suc, ◌+◌, ◌≤◌, ◌<◌}
use native.Mathlib.Nat.{add-zero}
use native.Mathlib.Numerals.{add-one}
use native.Mathlib.Omega.{arith}
use mathlib.Core.Path.{◌≡◌, refl, sym, ap, ◌∙◌}
use mathlib.Core.List.{List, [], ◌∷◌, ◌++◌, append_assoc, append-nil}
use lib.ListN.{length, get_or, set, drop, length-append, length-drop}
use lib.Seq.{drop-cons, drop-length, set_at, get_or-append-add, get_or-drop}
use Rattle.model.specs.Lists.{All, tabulate}
use Rattle.model.specs.State.{Own, Sends, Sender, Stream, Bridge, no_own, own_at, no_sends, sends_at, no_sender, sender_at}
use Rattle.model.specs.Registrations.{at, change, owning, sending}
use Rattle.model.specs.Table.{encode, decode}
use Rattle.model.specs.Laid.{FitOwn, FitSends, FitSender, FitStream, FitBridge, Laid}
use Rattle.model.proofs.Lists.{all_append, all_drop, all-tabulate}
use Rattle.model.proofs.AdvanceKeepsForm.{length-tabulate}
use Rattle.model.proofs.Fits.{laid-is, laid-fits}
use Rattle.table.specs.Updates.{with_own, with_sender}
use Rattle.table.specs.Places.{PortIn}
use Rattle.table.proofs.Lens.{at_set}
use Rattle.table.proofs.Fitting.{owning-fits, sending-fits}
use Rattle.table.proofs.ByPlace.{encoded-laid, encoded-read}

-- The first n of a list decided by f.

tabulate-last : {A : Type 0} (n p : ℕ) (f : ℕ → A) → tabulate (suc n) p f ≡ tabulate n p f ++ (f (p + n) ∷ [])
unfolding tabulate
tabulate-last zero p f = ap (λ (q : ℕ). f q ∷ []) (omega arith)
tabulate-last {A = A} (suc n) p f =
    ap (λ (l : List A). f p ∷ l) (tabulate-last n (suc p) f ∙ ap (λ (q : ℕ). tabulate n (suc p) f ++ (f q ∷ [])) (omega arith))

module _ {A : Type 0} (f : ℕ → A) (l : List A) where
  abbrev pub up_to : ℕ → List A
  up_to n = tabulate n 0 f ++ drop n l

  pub up-to-length : (n : ℕ) → n ≤ length l → length (up_to n) ≡ length l
  up-to-length n h = length-append (tabulate n 0 f) (drop n l) ∙ omega (arith, length-tabulate n 0 f, length-drop n l)

  -- the next is as it was
  pub up-to-here : (n : ℕ) (d : A) → get_or (up_to n) n d ≡ get_or l n d
  up-to-here n d =
      ap (λ (i : ℕ). get_or (up_to n) i d) (sym (length-tabulate n 0 f) ∙ sym (add-zero (length (tabulate n 0 f))))
      ∙ get_or-append-add (tabulate n 0 f) (drop n l) 0 d
      ∙ get_or-drop n l 0 d
      ∙ ap (λ (i : ℕ). get_or l i d) (add-zero n)

  pub up-to-next : (n : ℕ) (d : A) → n < length l → set (up_to n) n (f n) ≡ up_to (suc n)
  up-to-next n d h =
      let e : 0 + n ≡ n = omega arith in
      ap (λ (r : List A). set (tabulate n 0 f ++ r) n (f n)) (drop-cons l n d h)
      ∙ set_at (tabulate n 0 f) (get_or l n d) (drop (suc n) l) (f n) n (length-tabulate n 0 f)
      ∙ sym (ap (λ (r : List A). r ++ drop (suc n) l) (tabulate-last n 0 f)
      ∙ append_assoc (tabulate n 0 f) (f (0 + n) ∷ []) (drop (suc n) l)
      ∙ ap (λ (q : ℕ). tabulate n 0 f ++ (f q ∷ drop (suc n) l)) e)

  -- by a turn that changes what it finds there
  pub up-to-changed : (n : ℕ) (d : A) → n < length l → (u : A → A) → u (get_or l n d) ≡ f n → at n u (up_to n) ≡ up_to (suc n)
  up-to-changed n d h u q =
      sym (at_set n u (up_to n) d (omega (arith, up-to-length n (omega arith))))
      ∙ ap (λ (y : A). set (up_to n) n y) (ap u (up-to-here n d) ∙ q)
      ∙ up-to-next n d h

  pub up-to-eight : length l ≡ 8 → up_to 8 ≡ tabulate 8 0 f
  up-to-eight e = rw (← e, drop-length l, append-nil)

  pub up-to-keep : (P : A → Type 0) → ((q : ℕ) → P (f q)) → All P l → (n : ℕ) → All P (up_to n)
  up-to-keep P decided a n = all_append P (tabulate n 0 f) (drop n l) (all-tabulate P n 0 f decided) (all_drop P n l a)

-- What one port after another holds by itself.

module _ (f : ℕ → Own) where
  -- the bridge of t₀ with what its first n places hold decided
  unfoldable pub owns_to : List ℕ → ℕ → Bridge
  owns_to t₀ n = owning (decode t₀) (up_to f (decode t₀).owns n)

  module _ (t₀ : List ℕ) (l : Laid t₀) where
    pub no-own-yet : t₀ ≡ encode (owns_to t₀ 0)
    unfolding owns_to tabulate owning
    no-own-yet = laid-is t₀ l

    pub all_own : (t : List ℕ) → t ≡ encode (owns_to t₀ 8) → t ≡ encode (owning (decode t₀) (tabulate 8 0 f))
    unfolding owns_to
    all_own t e = e ∙ ap (λ (o : List Own). encode (owning (decode t₀) o)) (up-to-eight f (decode t₀).owns (laid-fits t₀ l).eight_owns)

    module _ (fits : (q : ℕ) → FitOwn (f q)) (n : ℕ) (h : n < 8) (t : List ℕ) (e : t ≡ encode (owns_to t₀ n)) where
      w : FitBridge (decode t₀)
      w = laid-fits t₀ l

      owns-fit : FitBridge (owns_to t₀ n)
      unfolding owns_to
      owns-fit =
          let o = (decode t₀).owns in
          owning-fits (decode t₀) w (up_to f o n) (up-to-length f o n (omega (arith, w.eight_owns)) ∙ w.eight_owns) (up-to-keep f o FitOwn fits w.owns n)

      pub own-next-in : PortIn t n
      own-next-in = record { laid = encoded-laid (owns_to t₀ n) owns-fit t e; port = h }

      owns-read : decode t ≡ owns_to t₀ n
      owns-read = encoded-read (owns_to t₀ n) owns-fit t e

      pub owns-settings : (decode t).settings ≡ (decode t₀).settings
      owns-settings = ap (λ (b : Bridge). b.settings) owns-read ∙ unfold owns_to owning in refl

      -- the next place
      pub own-next : own_at (decode t).owns n ≡ own_at (decode t₀).owns n
      own-next = ap (λ (b : Bridge). own_at b.owns n) owns-read ∙ unfold owns_to owning in up-to-here f (decode t₀).owns n no_own

      pub one-own-more : (y : List ℕ) → y ≡ encode (with_own n (f n) (decode t)) → y ≡ encode (owns_to t₀ (n + 1))
      one-own-more y q =
          q
          ∙ ap (λ (b : Bridge). encode (with_own n (f n) b)) owns-read
          ∙ unfold owns_to owning in rw (add-one n) (ap (λ (o : List Own). encode (owning (decode t₀) o)) (up-to-next f (decode t₀).owns n no_own (omega (arith, w.eight_owns))))

-- What one port after another sends by itself.

module _ (f : ℕ → Sender) where
  -- the bridge of t₀ with what its first n places send decided
  unfoldable pub senders_to : List ℕ → ℕ → Bridge
  senders_to t₀ n = sending (decode t₀) (up_to f (decode t₀).senders n)

  module _ (t₀ : List ℕ) (l : Laid t₀) where
    pub no-sender-yet : t₀ ≡ encode (senders_to t₀ 0)
    unfolding senders_to tabulate sending
    no-sender-yet = laid-is t₀ l

    pub all-senders : (t : List ℕ) → t ≡ encode (senders_to t₀ 8) → t ≡ encode (sending (decode t₀) (tabulate 8 0 f))
    unfolding senders_to
    all-senders t e =
        e ∙ ap (λ (o : List Sender). encode (sending (decode t₀) o)) (up-to-eight f (decode t₀).senders (laid-fits t₀ l).eight_senders)

    module _ (fits : (q : ℕ) → FitSender (f q)) (n : ℕ) (h : n < 8) (t : List ℕ) (e : t ≡ encode (senders_to t₀ n)) where
      s-fits : FitBridge (decode t₀)
      s-fits = laid-fits t₀ l

      senders-fit : FitBridge (senders_to t₀ n)
      unfolding senders_to
      senders-fit =
          let o = (decode t₀).senders in
          sending-fits (decode t₀) s-fits (up_to f o n) (up-to-length f o n (omega (arith, s-fits.eight_senders)) ∙ s-fits.eight_senders)
          (up-to-keep f o FitSender fits s-fits.senders n)

      pub sender-next-in : PortIn t n
      sender-next-in = record { laid = encoded-laid (senders_to t₀ n) senders-fit t e; port = h }

      pub senders-read : decode t ≡ senders_to t₀ n
      senders-read = encoded-read (senders_to t₀ n) senders-fit t e

      pub senders-settings : (decode t).settings ≡ (decode t₀).settings
      senders-settings = ap (λ (b : Bridge). b.settings) senders-read ∙ unfold senders_to sending in refl

      pub senders-clock : (decode t).clock ≡ (decode t₀).clock
      senders-clock = ap (λ (b : Bridge). b.clock) senders-read ∙ unfold senders_to sending in refl

      -- the next place
      pub sender-next : sender_at (decode t).senders n ≡ sender_at (decode t₀).senders n
      sender-next = ap (λ (b : Bridge). sender_at b.senders n) senders-read ∙ unfold senders_to sending sender_at in up-to-here f (decode t₀).senders n no_sender

      pub one-sender-more : (u : Sender → Sender) → u (sender_at (decode t₀).senders n) ≡ f n
          → (y : List ℕ) → y ≡ encode (with_sender n u (decode t)) → y ≡ encode (senders_to t₀ (n + 1))
      unfolding sender_at
      one-sender-more u d y q =
          q
          ∙ ap (λ (b : Bridge). encode (with_sender n u b)) senders-read
          ∙ unfold senders_to sending in rw (add-one n)
          (ap (λ (o : List Sender). encode (sending (decode t₀) o)) (up-to-changed f (decode t₀).senders n no_sender (omega (arith, s-fits.eight_senders)) u d))

-- What one port after another sends of a stream.

module _ (f : ℕ → Sends) where
  -- the first n places decided
  abbrev pub sends_to : ℕ → Stream → Stream
  sends_to n = change (λ l. l) (λ m. up_to f m n)

  pub sends_none : (x : Stream) → sends_to 0 x ≡ x
  unfolding change tabulate
  sends_none x = refl

  pub sends-next : (n : ℕ) (x : Stream) → n < length x.sends → (u : Sends → Sends) → u (sends_at x n) ≡ f n
      → change (λ l. l) (at n u) (sends_to n x) ≡ sends_to (n + 1) x
  unfolding change sends_at
  sends-next n x h u q = rw (add-one n, up-to-changed f x.sends n no_sends h u q)

  pub sends-done : (x : Stream) → length x.sends ≡ 8 → sends_to 8 x ≡ change (λ l. l) (λ m. tabulate 8 0 f) x
  unfolding change
  sends-done x e = rw (up-to-eight f x.sends e)

  pub sends-fit : ((q : ℕ) → FitSends (f q)) → (n : ℕ) → n ≤ 8 → (x : Stream) → FitStream x → FitStream (sends_to n x)
  unfolding change
  sends-fit fits n h x w = record {
    name = w.name;
    rank = w.rank;
    eight_cells = w.eight_cells;
    cells = w.cells;
    eight_results = w.eight_results;
    results = w.results;
    eight_sends = up-to-length f x.sends n (omega (arith, w.eight_sends)) ∙ w.eight_sends;
    sends = up-to-keep f x.sends FitSends fits w.sends n;
  }
