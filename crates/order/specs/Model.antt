-- A ring of TRBs with its producer and its controller: the definitions that the order theorem (proofs/Order.antt) is about.
--
-- The ring has L = K + 1 slots. Slots 0 to K - 1 take TRBs, and slot K takes the link. A state changes by six moves only: a TD is begun,
-- its next store is made, the controller takes one step, TRBs are freed, the controller is stopped, it is set going again.
-- `Run s` says that s is reached from a zeroed ring by moves in any order, each made when it may be made.
-- The controller may so take any steps between two stores.
-- Assumes nothing.
use Rattle.std.specs.Prelude.{◌≡◌, ◌≢◌, Bool, true, false, not, List, [], ◌∷◌, ◌++◌, ℕ, zero, suc, ◌+◌, ◌-◌, ◌≤◌, ◌<◌, eqb, length, take}
use Rattle.std.specs.Bool.{beq}
use Rattle.std.proofs.Math.Option.{Option, none, some}

-- ---- slots: any memory with these operations and laws will do. `Flat` has the one of a program: a list of words, four a slot

pub record Slots (K : ℕ) : Type 1 where
  pub Ring : Type 0
  pub Trb : Type 0
  -- the memory has all of its K + 1 slots
  pub Fits : Ring → Type 0
  pub read : Ring → ℕ → Trb
  pub write : Ring → ℕ → Trb → Ring
  -- the cycle bit of a TRB, the TRB with that cycle bit, and whether its type is Link
  pub cycle_of : Trb → Bool
  pub with_cycle : Bool → Trb → Trb
  pub is_link : Trb → Bool
  -- a store lands whole, and changes one slot only
  pub fits_write : (r : Ring) (i : ℕ) (t : Trb) → Fits r → Fits (write r i t)
  pub read_same : (r : Ring) (i : ℕ) (t : Trb) → Fits r → i ≤ K → read (write r i t) i ≡ t
  pub read_other : (r : Ring) (i j : ℕ) (t : Trb) → j ≢ i → read (write r i t) j ≡ read r j
  -- the cycle bit is the one that was asked for, and has no part in the type
  pub cycle_with : (c : Bool) (t : Trb) → cycle_of (with_cycle c t) ≡ c
  pub link_with : (c : Bool) (t : Trb) → is_link (with_cycle c t) ≡ is_link t

-- ---- positions: the producer has one, and so has the controller

pub record Position : Type 0 where
  pub place : ℕ
  pub cycle : Bool

abbrev pub choose : {A : Type 0} → Bool → A → A → A
choose true a b = a
choose false a b = b

-- one slot on
abbrev pub advance : Position → Position
advance p = record { place = suc p.place; cycle = p.cycle }

-- past the link: slot 0, and the cycle toggled
abbrev pub around : Position → Position
around p = record { place = 0; cycle = not p.cycle }

-- past the link, if it stands at the link's slot K
unfoldable pub settle : ℕ → Position → Position
settle K p = choose (eqb p.place K) (around p) p

-- where the TRB after the one at p goes
abbrev pub next : ℕ → Position → Position
next K p = settle K (advance p)

-- slot 0 with cycle 1: the producer and the controller start there
abbrev pub origin : Position
origin = record { place = 0; cycle = true }

-- ---- TDs and states

-- a TRB, and the slot that it is stored in or read from
pub record Placed (Trb : Type 0) : Type 0 where
  pub at : ℕ
  pub trb : Trb

module _ {K : ℕ} (S : Slots K) where
  abbrev pub Entry : Type 0
  Entry = Placed S.Trb

  -- a TD of one TRB or more. `deferred`: its first TRB becomes visible last. `link`: the link to store, should its stores come to slot K
  pub record Td : Type 0 where
    pub first : S.Trb
    pub rest : List S.Trb
    pub link : S.Trb
    pub deferred : Bool

  -- what is left of the TD under way
  pub data Work : Type 0 where
    -- no TD is under way
    idle : Work
    -- a deferred TD, of which nothing is stored
    opening : (first : S.Trb) (rest : List S.Trb) (link : S.Trb) → Work
    -- the TRBs still to be stored, the link, and what a deferred TD stores last of all: its first TRB again
    busy : (rest : List S.Trb) (link : S.Trb) (again : Option Entry) → Work

  pub record State : Type 0 where
    pub ring : S.Ring
    pub producer : Position
    pub work : Work
    pub controller : Position
    -- the controller is not stopped
    pub live : Bool
    -- what the controller has consumed, in order, as it read it
    pub consumed : List Entry
    -- the TRBs of the TDs begun, in order, each with its slot and final words; without those that a stop took out
    pub admitted : List Entry
    -- how many were admitted before the last TD that was begun
    pub before : ℕ
    -- TRBs admitted and not freed
    pub outstanding : ℕ

  -- a TRB stored at p with p's cycle bit
  abbrev pub placed : Position → S.Trb → Entry
  placed p x = record { at = p.place; trb = S.with_cycle p.cycle x }

  -- the TRBs of a TD that starts at p, each in its slot and with the cycle bit of its lap: their final words
  abbrev pub layout : Position → List S.Trb → List Entry
  layout p [] = []
  layout p (x ∷ xs) = placed p x ∷ layout (next K p) xs

  -- none of these is a link
  abbrev pub Plain : List S.Trb → Type 0
  Plain [] = Unit {0}
  Plain (x ∷ xs) = (S.is_link x ≡ false) × Plain xs

  -- a zeroed ring: of it only the cycle bits count
  pub record Zeroed (r : S.Ring) : Type 0 where
    pub fits : S.Fits r
    pub clear : (i : ℕ) → i ≤ K → S.cycle_of (S.read r i) ≡ false

  -- the state that is made of a zeroed ring
  unfoldable pub made : S.Ring → State
  made r =
      record { ring = r; producer = origin; work = idle; controller = origin; live = true; consumed = []; admitted = []; before = 0; outstanding = 0 }

  -- the six moves
  pub data Move : Type 0 where
    to_begin : Td → Move
    to_store : Move
    to_step : Move
    to_free : ℕ → Move
    to_stop : Move
    to_resume : Move

-- ---- what each move does

module _ {K : ℕ} {S : Slots K} where
  -- The four ways in which a move changes a state: the producer stores t in slot i, and is then at p with w left to do;
  abbrev pub put : State S → ℕ → S.Trb → Position → Work S → State S
  put s i t p w =
      record {
        ring =
            S.write s.ring i t;
        producer = p;
        work = w;
        controller = s.controller;
        live = s.live;
        consumed = s.consumed;
        admitted = s.admitted;
        before = s.before;
        outstanding = s.outstanding;
      }

  -- the controller goes to c, with l consumed;
  abbrev pub moved : State S → Position → List (Entry S) → State S
  moved s c l =
      record {
        ring =
            s.ring;
        producer = s.producer;
        work = s.work;
        controller = c;
        live = s.live;
        consumed = l;
        admitted = s.admitted;
        before = s.before;
        outstanding = s.outstanding;
      }

  -- the work and the books change;
  abbrev pub booked : State S → Work S → List (Entry S) → ℕ → ℕ → State S
  booked s w l b n =
      record {
        ring =
            s.ring;
        producer = s.producer;
        work = w;
        controller = s.controller;
        live = s.live;
        consumed = s.consumed;
        admitted = l;
        before = b;
        outstanding = n;
      }

  -- the controller is stopped or set going, at c.
  abbrev pub switched : State S → Position → Bool → List (Entry S) → State S
  switched s c b l =
      record {
        ring =
            s.ring;
        producer = s.producer;
        work = s.work;
        controller = c;
        live = b;
        consumed = s.consumed;
        admitted = l;
        before = s.before;
        outstanding = s.outstanding;
      }

  -- BEGIN a TD: nothing is stored yet
  abbrev pub starts : Td S → Bool → Work S
  starts td true = opening td.first td.rest td.link
  starts td false = busy (td.first ∷ td.rest) td.link none

  unfoldable pub begin : State S → Td S → State S
  begin s td =
      booked s (starts td td.deferred) (s.admitted ++ layout S s.producer (td.first ∷ td.rest)) (length s.admitted) (s.outstanding + suc (length td.rest))

  -- STORE, the next store of the TD under way. What is left after it, with the producer at p: nothing, once all is stored and no link is due
  abbrev pub leaves : Position → List S.Trb → S.Trb → Option (Entry S) → Work S
  leaves p [] link none = choose (eqb p.place K) (busy [] link none) idle
  leaves p [] link (some e) = busy [] link (some e)
  leaves p (x ∷ xs) link again = busy (x ∷ xs) link again

  -- by what is left, and whether the producer, at p, stands at the link's slot
  abbrev pub store_as : State S → Position → Work S → Bool → State S
  store_as s p idle at-link = s
  store_as s p (opening first rest link) at-link =
      put s p.place (S.with_cycle (not p.cycle) first) (advance p) (busy rest link (some (placed S p first)))
  store_as s p (busy rest link again) true = put s K (S.with_cycle p.cycle link) (around p) (leaves (around p) rest link again)
  store_as s p (busy (x ∷ xs) link again) false = put s p.place (S.with_cycle p.cycle x) (advance p) (leaves (advance p) xs link again)
  store_as s p (busy [] link (some e)) false = put s e.at e.trb p idle
  store_as s p (busy [] link none) false = s

  unfoldable pub store : State S → State S
  store s = store_as s s.producer s.work (eqb s.producer.place K)

  -- STEP, of the controller. At c it has read t, which has its own cycle bit or not, and is a link or not
  abbrev pub step_as : State S → Position → S.Trb → Bool → Bool → State S
  step_as s c t false link = s
  step_as s c t true true = moved s (around c) s.consumed
  step_as s c t true false = moved s (advance c) (s.consumed ++ record { at = c.place; trb = t } ∷ [])

  abbrev pub step_live : State S → Bool → State S
  step_live s false = s
  step_live s true =
      let t = S.read s.ring s.controller.place in
      step_as s s.controller t (beq (S.cycle_of t) s.controller.cycle) (S.is_link t)

  unfoldable pub step : State S → State S
  step s = step_live s s.live

  -- FREE n TRBs: they leave flight
  unfoldable pub free : State S → ℕ → State S
  free s n = booked s s.work s.admitted s.before (s.outstanding - n)

  -- STOP the controller: what it has not consumed is taken out
  unfoldable pub stop : State S → State S
  stop s = switched s s.controller false (take (length s.consumed) s.admitted)

  -- RESUME: the controller goes on at the producer's place, with its cycle
  unfoldable pub resume : State S → State S
  resume s = switched s s.producer true s.admitted

  abbrev pub act : State S → Move S → State S
  act s (to_begin td) = begin s td
  act s to_store = store s
  act s to_step = step s
  act s (to_free n) = free s n
  act s to_stop = stop s
  act s to_resume = resume s

  -- ---- when a move may be made

  -- a TD may be begun: none is under way, the controller is not stopped, and at most L - 2 TRBs are outstanding after
  pub record MayBegin (s : State S) (td : Td S) : Type 0 where
    pub none_under_way : s.work ≡ idle
    pub running : s.live ≡ true
    pub room : s.outstanding + suc (length td.rest) < K
    pub plain : Plain S (td.first ∷ td.rest)
    pub linked : S.is_link td.link ≡ true

  -- n TRBs may be freed: those that stay outstanding are at least as many as are admitted and not consumed
  pub record MayFree (s : State S) (n : ℕ) : Type 0 where
    pub covers : length s.admitted + n ≤ length s.consumed + s.outstanding

  abbrev pub May : State S → Move S → Type 0
  May s (to_begin td) = MayBegin s td
  May s to_store = Unit {0}
  May s to_step = Unit {0}
  May s (to_free n) = MayFree s n
  May s to_stop = s.work ≡ idle
  May s to_resume = s.live ≡ false

  -- ---- runs

  pub data Run : State S → Type 0 where
    at_first : (r : S.Ring) → Zeroed S r → Run (made S r)
    and_then : {s : State S} → Run s → (m : Move S) → May s m → Run (act s m)

  -- many moves
  unfoldable pub play : State S → List (Move S) → State S
  play s [] = s
  play s (m ∷ ms) = play (act s m) ms

  -- each of them may be made in its turn
  abbrev pub Allowed : State S → List (Move S) → Type 0
  Allowed s [] = Unit {0}
  Allowed s (m ∷ ms) = May s m × Allowed (act s m) ms

  -- many steps of the controller
  unfoldable pub steps : ℕ → State S → State S
  steps zero s = s
  steps (suc n) s = steps n (step s)

  -- a deferred TD is under way
  abbrev pub Deferring : Work S → Type 0
  Deferring idle = ⊥
  Deferring (opening first rest link) = Unit {0}
  Deferring (busy rest link none) = ⊥
  Deferring (busy rest link (some e)) = Unit {0}
