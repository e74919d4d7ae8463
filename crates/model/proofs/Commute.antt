-- Acts at two different places, hence the frames of two different ports, commute on the streams held, on what the ports hold and on
-- what they send by themselves. Of what acts do to a stream this needs only that one that makes no stream leaves a fresh one as it is.
use mathlib.Core.Path.{◌≡◌, refl, sym, ◌∙◌, ap, ap₂}
use mathlib.Core.List.{List, [], ◌∷◌, map}
use mathlib.Core.Bool.{Bool, true, false, true≢false}
use Prim.Native.Nat.{ℕ, zero, suc, ◌<◌}
use native.Mathlib.Omega.{arith}
use native.Mathlib.Decide.{ℕ_discrete, dec_lt}
use lib.ListN.{get_or, replicate}
use borrow.Author.Tests.{lt-ltb, le-ltb, eq-eqb, ne_eqb}
use Rattle.model.specs.Machines.{Heard, moved}
use Rattle.model.specs.State.{Cell, Sends, Stream, fresh, empty, no_sends, blank}
use Rattle.model.specs.Registrations.{Act, leave_all, leave, talk, listen, hear_all, hear, of_domain, Kind, advertises, faileds, listeners, at, change, begun, touch, apply, apply_all, quit, quit_talker, quit_listener, does, move_kind, hears, moves, reach, change_domains, does_domain, apply_own, apply_owns, moves_sender, apply_senders}
use Rattle.model.proofs.Lists.{at-commute, at_other}

-- a change of a stream; that it leaves the StreamID, and a fresh stream; that two commute
abbrev pub Change : Type 0
Change = Stream → Stream

abbrev pub Keeps : Change → Type 0
Keeps u = (x : Stream) → (u x).id ≡ x.id

abbrev pub Fixes : Change → Type 0
Fixes u = (i : ℕ) → u (fresh i) ≡ fresh i

abbrev pub Commute : Change → Change → Type 0
Commute u v = (x : Stream) → u (v x) ≡ v (u x)

pub fresh-id : (i : ℕ) → (fresh i).id ≡ i
unfolding fresh
fresh-id i = refl

pub touch-nil : (b : Bool) (i : ℕ) (u : Change) → touch b i u [] ≡ begun b i u []
unfolding touch
touch-nil b i u = refl

-- the three ways in which touch goes on
module _ (b : Bool) (i : ℕ) (u : Change) (x : Stream) (s : List Stream) where
  pub touch-before : i < x.id → touch b i u (x ∷ s) ≡ begun b i u (x ∷ s)
  unfolding touch
  touch-before h = rw (lt-ltb i x.id h)

  pub touch-here : i ≡ x.id → touch b i u (x ∷ s) ≡ u x ∷ s
  unfolding touch
  touch-here h = rw (le-ltb i x.id (omega arith), eq-eqb i x.id h)

  pub touch-past : x.id < i → touch b i u (x ∷ s) ≡ x ∷ touch b i u s
  unfolding touch
  touch-past h = rw (le-ltb i x.id (omega arith), ne_eqb i x.id (omega arith))

-- the order of two numbers
pub data Tri (m n : ℕ) : Type 0 where
  less : m < n → Tri m n
  same : m ≡ n → Tri m n
  more : n < m → Tri m n

pub tri : (m n : ℕ) → Tri m n
tri m n = go (dec_lt m n) (ℕ_discrete m n)
  where
    go : Dec (m < n) → Dec (m ≡ n) → Tri m n
    go (yes h) e = less h
    go (no h) (yes e) = same e
    go (no h) (no e) = more (omega arith)

-- Acts about two streams: the walk for the lower is not changed by what the other did.
module _ (a b : Bool) (i j : ℕ) (u v : Change) (ku : Keeps u) (kv : Keeps v) (h : i < j) where
  begun-past : (s : List Stream) → touch b j v (begun a i u s) ≡ begun a i u (touch b j v s)
  unfolding begun
  begun-past s = go a
    where
      go : (a : Bool) → touch b j v (begun a i u s) ≡ begun a i u (touch b j v s)
      go true = touch-past b j v (u (fresh i)) s (omega (arith, h, ku (fresh i), fresh-id i))
      go false = refl

  before-touched : (x : Stream) (s : List Stream) → i < x.id → touch a i u (touch b j v (x ∷ s)) ≡ begun a i u (touch b j v (x ∷ s))
  unfolding begun
  before-touched x s k = go (tri j x.id) b
    where
      go : Tri j x.id → (b : Bool) → touch a i u (touch b j v (x ∷ s)) ≡ begun a i u (touch b j v (x ∷ s))
      go (less m) true = rw (touch-before true j v x s m) (touch-before a i u (v (fresh j)) (x ∷ s) (omega (arith, h, kv (fresh j), fresh-id j)))
      go (less m) false = rw (touch-before false j v x s m) (touch-before a i u x s k)
      go (same m) b = rw (touch-here b j v x s m) (touch-before a i u (v x) s (omega (arith, k, kv x)))
      go (more m) b = rw (touch-past b j v x s m) (touch-before a i u x (touch b j v s) k)

  before-touched-nil : touch a i u (touch b j v []) ≡ begun a i u (touch b j v [])
  unfolding touch begun
  before-touched-nil = go b
    where
      go : (b : Bool) → touch a i u (begun b j v []) ≡ begun a i u (begun b j v [])
      go true = touch-before a i u (v (fresh j)) [] (omega (arith, h, kv (fresh j), fresh-id j))
      go false = refl

  two-streams : (s : List Stream) → touch a i u (touch b j v s) ≡ touch b j v (touch a i u s)
  two-streams [] = before-touched-nil ∙ sym (rw (touch-nil a i u) (begun-past []))
  two-streams (x ∷ s) = go (tri i x.id) (two-streams s)
    where
      go : Tri i x.id → touch a i u (touch b j v s) ≡ touch b j v (touch a i u s) → touch a i u (touch b j v (x ∷ s)) ≡ touch b j v (touch a i u (x ∷ s))
      go (less m) ih = before-touched x s m ∙ sym (rw (touch-before a i u x s m) (begun-past (x ∷ s)))
      go (same m) ih =
          rw (touch-past b j v x s (omega arith), touch-here a i u x s m, touch-here a i u x (touch b j v s) m)
          (sym (touch-past b j v (u x) s (omega (arith, h, m, ku x))))
      go (more m) ih =
          rw (touch-past b j v x s (omega arith), touch-past a i u x s m, touch-past b j v x (touch a i u s) (omega arith), touch-past a i u x (touch b j v s) m)
          (ap (λ (l : List Stream). x ∷ l) ih)

-- Acts about one stream: it is changed in two ways that commute, and a change that makes no stream leaves a fresh one.
module _ (i : ℕ) (u v : Change) (ku : Keeps u) (kv : Keeps v) (uv : Commute u v) where
  begun-begun : (s : List Stream) (a b : Bool) → (a ≡ false → Fixes u) → (b ≡ false → Fixes v) →
      touch a i u s ≡ begun a i u s → touch b i v s ≡ begun b i v s →
      touch a i u (begun b i v s) ≡ touch b i v (begun a i u s)
  unfolding begun
  begun-begun s true true ua vb hu hv =
      touch-here true i u (v (fresh i)) s (sym (kv (fresh i) ∙ fresh-id i)) ∙ ap (λ (x : Stream). x ∷ s) (uv (fresh i))
      ∙ sym (touch-here true i v (u (fresh i)) s (sym (ku (fresh i) ∙ fresh-id i)))
  begun-begun s true false ua vb hu hv =
      hu ∙ ap (λ (x : Stream). x ∷ s) (sym (sym (uv (fresh i)) ∙ ap u (vb refl i)))
      ∙ sym (touch-here false i v (u (fresh i)) s (sym (ku (fresh i) ∙ fresh-id i)))
  begun-begun s false true ua vb hu hv =
      touch-here false i u (v (fresh i)) s (sym (kv (fresh i) ∙ fresh-id i)) ∙ ap (λ (x : Stream). x ∷ s) (uv (fresh i) ∙ ap v (ua refl i)) ∙ sym hv
  begun-begun s false false ua vb hu hv = hu ∙ sym hv

  one-stream : (a b : Bool) → (a ≡ false → Fixes u) → (b ≡ false → Fixes v) →
      (s : List Stream) → touch a i u (touch b i v s) ≡ touch b i v (touch a i u s)
  one-stream a b ua vb [] = rw (touch-nil a i u, touch-nil b i v) (begun-begun [] a b ua vb (touch-nil a i u) (touch-nil b i v))
  one-stream a b ua vb (x ∷ s) = go (tri i x.id) (one-stream a b ua vb s)
    where
      go : Tri i x.id → touch a i u (touch b i v s) ≡ touch b i v (touch a i u s) → touch a i u (touch b i v (x ∷ s)) ≡ touch b i v (touch a i u (x ∷ s))
      go (less m) ih =
          let p = touch-before a i u x s m in
          let q = touch-before b i v x s m in
          rw (p, q) (begun-begun (x ∷ s) a b ua vb p q)
      go (same m) ih =
          rw (touch-here a i u x s m, touch-here b i v x s m, touch-here a i u (v x) s (m ∙ sym (kv x)), touch-here b i v (u x) s (m ∙ sym (ku x)))
          (ap (λ (y : Stream). y ∷ s) (uv x))
      go (more m) ih =
          rw (touch-past a i u x s m, touch-past b i v x s m, touch-past a i u x (touch b i v s) m, touch-past b i v x (touch a i u s) m)
          (ap (λ (l : List Stream). x ∷ l) ih)

-- An act about every stream (LeaveAll), and another.
module _ (u v : Change) (ku : Keeps u) (uv : Commute u v) where
  every-begun : (b : Bool) (i : ℕ) → Fixes u → (s : List Stream) → map u (begun b i v s) ≡ begun b i v (map u s)
  unfolding begun
  every-begun true i uf s = ap (λ (x : Stream). x ∷ map u s) (uv (fresh i) ∙ ap v (uf i))
  every-begun false i uf s = refl

  every-touch : (b : Bool) (i : ℕ) → Fixes u → (s : List Stream) → map u (touch b i v s) ≡ touch b i v (map u s)
  every-touch b i uf [] = rw (touch-nil b i v) (every-begun b i uf [])
  every-touch b i uf (x ∷ s) = go (tri i x.id) (every-touch b i uf s)
    where
      go : Tri i x.id → map u (touch b i v s) ≡ touch b i v (map u s) → map u (touch b i v (x ∷ s)) ≡ touch b i v (map u (x ∷ s))
      go (less m) ih = rw (touch-before b i v x s m, touch-before b i v (u x) (map u s) (omega (arith, m, ku x))) (every-begun b i uf (x ∷ s))
      go (same m) ih =
          rw (touch-here b i v x s m, touch-here b i v (u x) (map u s) (m ∙ sym (ku x)))
          (ap (λ (y : Stream). y ∷ map u s) (uv x))
      go (more m) ih =
          rw (touch-past b i v x s m, touch-past b i v (u x) (map u s) (omega (arith, m, ku x)))
          (ap (λ (l : List Stream). u x ∷ l) ih)

  every-every : (s : List Stream) → map u (map v s) ≡ map v (map u s)
  every-every [] = refl
  every-every (x ∷ s) = ap₂ (λ (y : Stream) (l : List Stream). y ∷ l) (uv x) (every-every s)

-- what an act does to the streams is one of three things
pub data Does (u : Change) : (List Stream → List Stream) → Type 0 where
  every : Fixes u → Does u (map u)
  single : (b : Bool) (i : ℕ) → (b ≡ false → Fixes u) → Does u (touch b i u)
  untouched : Does u (λ s. s)

pub does-commute : (u v : Change) {f g : List Stream → List Stream} → Keeps u → Keeps v → Does u f → Does v g → Commute u v →
    (s : List Stream) → f (g s) ≡ g (f s)
does-commute u v ku kv untouched g uv s = refl
does-commute u v ku kv (every p) untouched uv s = refl
does-commute u v ku kv (single a i p) untouched uv s = refl
does-commute u v ku kv (every p) (every q) uv s = every-every u v ku uv s
does-commute u v ku kv (every p) (single b j q) uv s = every-touch u v ku uv b j p s
does-commute u v ku kv (single a i p) (every q) uv s = sym (every-touch v u kv (λ x. sym (uv x)) a i q s)
does-commute u v ku kv (single a i p) (single b j q) uv s = go (tri i j)
  where
    go : Tri i j → touch a i u (touch b j v s) ≡ touch b j v (touch a i u s)
    go (less h) = two-streams a b i j u v ku kv h s
    go (same h) = rw (← h) (one-stream i u v ku kv uv a b p q s)
    go (more h) = sym (two-streams b a j i v u kv ku h s)

-- What an act does to one stream, at a place: to its cell there, and to what is sent of it there.
abbrev pub acted : ℕ → ℕ → Act → Change
acted now p a = change (at p (does now a)) (at p (moves a))

pub acted-keeps : (now p : ℕ) (a : Act) → Keeps (acted now p a)
unfolding change
acted-keeps now p a x = refl

acted-apart : (now p q : ℕ) (a b : Act) → (p ≡ q → ⊥) → Commute (acted now p a) (acted now q b)
unfolding change
acted-apart now p q a b n x =
    ap₂ (λ (c : List Cell) (s : List Sends). record { id = x.id; settled = x.settled; cells = c; results = x.results; sends = s })
    (at-commute p q (does now a) (does now b) n x.cells) (at-commute p q (moves a) (moves b) n x.sends)

pub at-fixed : {A : Type 0} (u : A → A) (c : A) → u c ≡ c → (p n : ℕ) → at p u (replicate n c) ≡ replicate n c
unfolding at
at-fixed u c h p zero = refl
at-fixed {A} u c h zero (suc n) = ap (λ (d : A). d ∷ replicate n c) h
at-fixed {A} u c h (suc p) (suc n) = ap (λ (l : List A). c ∷ l) (at-fixed u c h p n)

quit-empty : (now : ℕ) (k : Kind) → quit now k empty ≡ empty
unfolding quit quit_talker quit_listener empty
quit-empty now k = refl

hears-none : (k : Kind) (h : Heard) → hears k h no_sends ≡ no_sends
unfolding hears move_kind moved no_sends
hears-none advertises h = refl
hears-none faileds h = refl
hears-none listeners h = refl

moves-none : (a : Act) → moves a no_sends ≡ no_sends
unfolding moves
moves-none (leave_all k) = refl
moves-none (leave k i) = refl
moves-none (talk i f v) = refl
moves-none (listen i r) = refl
moves-none (hear_all k) = hears-none k _
moves-none (hear k i h) = hears-none k h
moves-none (of_domain d) = refl

acted-fixes : (now p : ℕ) (a : Act) → does now a empty ≡ empty → Fixes (acted now p a)
unfolding change fresh blank
acted-fixes now p a h i =
    ap₂ (λ (c : List Cell) (s : List Sends). record { id = i; settled = (fresh i).settled; cells = c; results = (fresh i).results; sends = s })
    (at-fixed (does now a) empty h p 8) (at-fixed (moves a) no_sends (moves-none a) p 8)

pub act-does : (now p : ℕ) (a : Act) → Does (acted now p a) (apply now p a)
unfolding does apply reach
act-does now p (leave_all k) = every (acted-fixes now p (leave_all k) (quit-empty now k))
act-does now p (leave k i) = single false i (λ e. acted-fixes now p (leave k i) (quit-empty now k))
act-does now p (talk i f v) = single true i (λ e. absurd (true≢false e))
act-does now p (listen i d) = single true i (λ e. absurd (true≢false e))
act-does now p (hear_all k) = every (acted-fixes now p (hear_all k) refl)
act-does now p (hear k i h) = single false i (λ e. acted-fixes now p (hear k i h) refl)
act-does now p (of_domain d) = untouched

-- Acts one after another, at two places where single ones commute.
module _ {S : Type 0} (one : ℕ → Act → S → S) (many : ℕ → List Act → S → S) (none : (p : ℕ) (s : S) → many p [] s ≡ s)
    (more : (p : ℕ) (a : Act) (es : List Act) (s : S) → many p (a ∷ es) s ≡ many p es (one p a s))
    (p q : ℕ) (commute : (a b : Act) (s : S) → one p a (one q b s) ≡ one q b (one p a s)) where
  one-past : (a : Act) (fs : List Act) (s : S) → one p a (many q fs s) ≡ many q fs (one p a s)
  one-past a [] s = rw (none q s, none q (one p a s))
  one-past a (b ∷ fs) s = rw (more q b fs s, more q b fs (one p a s)) (one-past a fs (one q b s) ∙ ap (many q fs) (commute a b s))

  many-commute : (es fs : List Act) (s : S) → many p es (many q fs s) ≡ many q fs (many p es s)
  many-commute [] fs s = rw (none p s, none p (many q fs s))
  many-commute (a ∷ es) fs s =
      rw (more p a es s, more p a es (many q fs s)) (ap (many p es) (one-past a fs s) ∙ many-commute es fs (one p a s))

module _ (now p q : ℕ) (n : p ≡ q → ⊥) where
  acts-commute : (a b : Act) (s : List Stream) → apply now p a (apply now q b s) ≡ apply now q b (apply now p a s)
  acts-commute a b s =
      does-commute (acted now p a) (acted now q b) (acted-keeps now p a) (acted-keeps now q b) (act-does now p a) (act-does now q b) (acted-apart now p q a b n) s

  pub frames-commute : (es fs : List Act) (s : List Stream) → apply_all now p es (apply_all now q fs s) ≡ apply_all now q fs (apply_all now p es s)
  unfolding apply_all
  frames-commute es fs s = many-commute (apply now) (apply_all now) (λ p s. refl) (λ p a es s. refl) p q acts-commute es fs s

-- What is done to what the ports hold, and send, by themselves is one change at a place.
pub record ChangesAt {A : Type 0} (p : ℕ) (f : List A → List A) : Type 0 where
  pub change : A → A
  pub is : (o : List A) → f o ≡ at p change o

module _ {A : Type 0} where
  at_same : (p : ℕ) (o : List A) → o ≡ at p (λ x. x) o
  unfolding at
  at_same p [] = refl
  at_same zero (x ∷ o) = refl
  at_same (suc p) (x ∷ o) = ap (λ (l : List A). x ∷ l) (at_same p o)

  at-twice : (p : ℕ) (u v : A → A) (o : List A) → at p v (at p u o) ≡ at p (λ x. v (u x)) o
  unfolding at
  at-twice p u v [] = refl
  at-twice zero u v (x ∷ o) = refl
  at-twice (suc p) u v (x ∷ o) = ap (λ (l : List A). x ∷ l) (at-twice p u v o)

  pub no_change : (p : ℕ) → ChangesAt {A = A} p (λ o. o)
  no_change p = record { change = λ x. x; is = at_same p }

  -- one change, then another
  then-change : (p : ℕ) (f g : List A → List A) → ChangesAt p f → ChangesAt p g → ChangesAt p (λ o. g (f o))
  then-change p f g c d = record {
    change = λ x. d.change (c.change x);
    is = λ o. d.is (f o) ∙ ap (at p d.change) (c.is o) ∙ at-twice p c.change d.change o;
  }

  -- changes at two places commute, and leave each what it finds
  pub changes-apart : {f g : List A → List A} (p q : ℕ) → ChangesAt p f → ChangesAt q g → (p ≡ q → ⊥) → (o : List A) → f (g o) ≡ g (f o)
  changes-apart {f} {g} p q c d n o =
      c.is (g o) ∙ ap (at p c.change) (d.is o) ∙ at-commute p q c.change d.change n o
      ∙ sym (d.is (f o) ∙ ap (at q d.change) (c.is o))

  pub changes-other : {f : List A → List A} (p : ℕ) (c : ChangesAt p f) (q : ℕ) → (p ≡ q → ⊥) → (o : List A) (d : A) → get_or (f o) q d ≡ get_or o q d
  changes-other p c q n o d = rw (c.is o) (at_other p c.change o q d n)

-- acts of a frame: of what a port holds only those about Domain values change anything
act-change : (now p : ℕ) (a : Act) → ChangesAt p (apply_own now p a)
unfolding apply_own
act-change now p (leave_all k) = no_change p
act-change now p (leave k i) = no_change p
act-change now p (talk i f v) = no_change p
act-change now p (listen i r) = no_change p
act-change now p (hear_all k) = no_change p
act-change now p (hear k i h) = no_change p
act-change now p (of_domain d) = record { change = change_domains (does_domain now d); is = λ o. refl }

pub acts-change : (now p : ℕ) (es : List Act) → ChangesAt p (apply_owns now p es)
unfolding apply_owns
acts-change now p [] = no_change p
acts-change now p (a ∷ es) = then-change p (apply_own now p a) (apply_owns now p es) (act-change now p a) (acts-change now p es)

pub acts-send : (now p : ℕ) (es : List Act) → ChangesAt p (apply_senders now p es)
unfolding apply_senders
acts-send now p [] = no_change p
acts-send now p (a ∷ es) =
    then-change p (at p (moves_sender now a)) (apply_senders now p es) record { change = moves_sender now a; is = λ l. refl } (acts-send now p es)
