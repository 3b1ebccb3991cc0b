-- The endpoint as words, one a field, in the order of its declaration. They are words of an endpoint where each fits its field; a flag is set by any
-- word but 0. Each part of an endpoint stands here twice, as its words and as what words say of it, from the word on that follows the part before.
use Rattle.std.specs.Prelude.{ℕ, ◌+◌, ◌^◌, ◌<◌, Bool, ◌&&◌, ◌||◌, List, [], ◌∷◌, ◌++◌, ◌≡◌, eqb, leb, ltb, length, get_or, Result, Ok, Err}
use Rattle.base.specs.Fields.{flag}
use Rattle.base.specs.First.{pick}
use Rattle.ring.specs.declared.Position.{Position}
use Rattle.records.specs.Records.{is_set}
use Rattle.dock.specs.declared.Account.{Account}
use Rattle.dock.specs.declared.Endpoint.{Endpoint}
use Rattle.dock.specs.declared.Flags.{Flags}
use Rattle.dock.specs.declared.Identity.{Identity}
use Rattle.dock.specs.declared.Periodic.{Periodic}
use Rattle.dock.specs.declared.Refusal.{Refusal}
use Rattle.dock.specs.declared.Refusal.TheVariants.{Unfit}
use Rattle.dock.specs.declared.Shape.{Shape}
use Rattle.dock.specs.declared.Work.{Work}

-- ---- position

abbrev pub position_from : ℕ
position_from = 0

abbrev pub position_words : Position → List ℕ
position_words p = p.place ∷ flag p.cycle ∷ []

abbrev pub position_at : List ℕ → Position
position_at w = record { place = get_or w position_from 0; cycle = is_set (get_or w (position_from + 1) 0) }

-- ---- shape

abbrev pub shape_from : ℕ
shape_from = position_from + 2

abbrev pub shape_words : Shape → List ℕ
shape_words s = s.slots ∷ s.base ∷ []

abbrev pub shape_at : List ℕ → Shape
shape_at w = record { slots = get_or w shape_from 0; base = get_or w (shape_from + 1) 0 }

-- ---- identity

abbrev pub identity_from : ℕ
identity_from = shape_from + 2

abbrev pub identity_words : Identity → List ℕ
identity_words i = i.slot ∷ i.dci ∷ i.mask ∷ []

abbrev pub identity_at : List ℕ → Identity
identity_at w = record { slot = get_or w identity_from 0; dci = get_or w (identity_from + 1) 0; mask = get_or w (identity_from + 2) 0 }

-- ---- periodic

abbrev pub periodic_from : ℕ
periodic_from = identity_from + 3

abbrev pub periodic_words : Periodic → List ℕ
periodic_words p = p.packet ∷ p.burst ∷ p.interval ∷ p.frame ∷ []

abbrev pub periodic_at : List ℕ → Periodic
periodic_at w =
    record {
      packet = get_or w periodic_from 0;
      burst = get_or w (periodic_from + 1) 0;
      interval = get_or w (periodic_from + 2) 0;
      frame = get_or w (periodic_from + 3) 0;
    }

-- ---- account

abbrev pub account_from : ℕ
account_from = periodic_from + 4

abbrev pub account_words : Account → List ℕ
account_words a = a.next ∷ a.occupancy.bits ∷ a.outstanding ∷ []

abbrev pub account_at : List ℕ → Account
account_at w =
    record {
      next = get_or w account_from 0;
      occupancy = record { bits = get_or w (account_from + 1) 0 };
      outstanding = get_or w (account_from + 2) 0;
    }

-- ---- flags

abbrev pub flags_from : ℕ
flags_from = account_from + 3

abbrev pub flags_words : Flags → List ℕ
flags_words f = flag f.halted ∷ flag f.reset ∷ []

abbrev pub flags_at : List ℕ → Flags
flags_at w = record { halted = is_set (get_or w flags_from 0); reset = is_set (get_or w (flags_from + 1) 0) }

-- ---- work

abbrev pub work_from : ℕ
work_from = flags_from + 2

abbrev pub work_words : Work → List ℕ
work_words w = flag w.busy ∷ w.number ∷ w.stored ∷ w.address ∷ w.place ∷ flag w.cycle ∷ []

abbrev pub work_at : List ℕ → Work
work_at w =
    record {
      busy = is_set (get_or w work_from 0);
      number = get_or w (work_from + 1) 0;
      stored = get_or w (work_from + 2) 0;
      address = get_or w (work_from + 3) 0;
      place = get_or w (work_from + 4) 0;
      cycle = is_set (get_or w (work_from + 5) 0);
    }

-- ---- the endpoint

abbrev pub state_words : ℕ
state_words = work_from + 6

-- The endpoint that words say,
unfoldable pub load : List ℕ → Endpoint
load w =
    record {
      at = position_at w;
      shape = shape_at w;
      who = identity_at w;
      periodic = periodic_at w;
      account = account_at w;
      flags = flags_at w;
      work = work_at w;
    }

-- and the words of an endpoint.
unfoldable pub save : Endpoint → List ℕ
save e =
    position_words e.at
    ++ shape_words e.shape
    ++ identity_words e.who
    ++ periodic_words e.periodic
    ++ account_words e.account
    ++ flags_words e.flags
    ++ work_words e.work

-- ---- which words are an endpoint's

-- The fields that are narrower than a word are so: true of every endpoint that a program holds.
pub record Narrow (e : Endpoint) : Type 0 where
  pub slot : e.who.slot < 2 ^ 8
  pub dci : e.who.dci < 2 ^ 8
  pub packet : e.periodic.packet < 2 ^ 16
  pub burst : e.periodic.burst < 2 ^ 8
  pub interval : e.periodic.interval < 2 ^ 8
  pub frame : e.periodic.frame < 2 ^ 16

-- The words of such fields fit them: slot id and dci one byte each,
abbrev pub identity_fits : List ℕ → Bool
identity_fits w = ltb (get_or w identity_from 0) (2 ^ 8) && ltb (get_or w (identity_from + 1) 0) (2 ^ 8)

-- max packet size and next frame two, burst and interval one.
abbrev pub periodic_fits : List ℕ → Bool
periodic_fits w =
    ltb (get_or w periodic_from 0) (2 ^ 16) && ltb (get_or w (periodic_from + 1) 0) (2 ^ 8)
    && ltb (get_or w (periodic_from + 2) 0) (2 ^ 8) && ltb (get_or w (periodic_from + 3) 0) (2 ^ 16)

-- As many words as an endpoint has, and each fits its field.
unfoldable pub is_state : List ℕ → Bool
is_state w = eqb (length w) state_words && identity_fits w && periodic_fits w

-- The endpoint of words that are an endpoint's; else the refusal that answers 1.
unfoldable pub parsed : List ℕ → Result Endpoint Refusal
parsed w = pick (is_state w) (Ok (load w)) (Err Unfit)

-- The test of the words, as facts.
pub record Fitting (w : List ℕ) : Type 0 where
  pub size : length w ≡ state_words
  pub slot : get_or w identity_from 0 < 2 ^ 8
  pub dci : get_or w (identity_from + 1) 0 < 2 ^ 8
  pub packet : get_or w periodic_from 0 < 2 ^ 16
  pub burst : get_or w (periodic_from + 1) 0 < 2 ^ 8
  pub interval : get_or w (periodic_from + 2) 0 < 2 ^ 8
  pub frame : get_or w (periodic_from + 3) 0 < 2 ^ 16

-- ---- what a call leaves

-- The answers that change the endpoint. Document 01, "When the dock says no": row 0, and rows 7, 8 and 9, which free a record.
unfoldable pub moves : ℕ → Bool
moves row = eqb row 0 || (leb 7 row && ltb row 10)

-- The words after an answer.
unfoldable pub kept : ℕ → List ℕ → Endpoint → List ℕ
kept row words e = pick (moves row) (save e) words
