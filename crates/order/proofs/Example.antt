-- The definitions compute: a ring of 5 slots at 10000, and a control TD across its end, as the document's W10. Three bulk TDs come first, so
-- that the TD starts at slot 3. Between any two of its stores the controller takes four steps, and consumes nothing.
-- Assumes nothing.
use mathlib.Core.Path.{◌≡◌, refl}
use mathlib.Core.Bool.{true, false}
use mathlib.Core.List.{List, [], ◌∷◌, ◌++◌}
use Prim.Native.Nat.{ℕ, zero, suc}
use lib.Dec.{lit<, lit≤}
use lib.ListN.{length, replicate}
use Rattle.base.specs.Part.{put}
use Rattle.trb.specs.Cycle.{cycle_of, type_of}
use Rattle.trb.specs.Layouts.{words_at, put_words}
use Rattle.trb.specs.declared.Words.{Words}
use Rattle.order.specs.Flat.{flat, set_slot, set_cycle, link_type, zeroed}
use Rattle.order.proofs.Order.{run_play}
use Rattle.order.specs.Model.{Slots, settle, Allowed, Run, at_first, Entry, Td, State, idle, made, begin, store, step, free, stop, resume, play, steps, Move, to_begin, to_store, to_step, to_free, to_stop, to_resume}

abbrev words : ℕ → ℕ → ℕ → ℕ → Words
words a b c d = record { w0 = a; w1 = b; w2 = c; w3 = d }

abbrev S : Slots 4
S = flat 4

abbrev link : Words
link = words 0x10000 0 0 0x1802

-- a bulk request of 64 bytes, and the control request of W10
abbrev bulk : Td S
bulk = record { first = words 0x30000 0 64 0x424; rest = []; link = link; deferred = false }

abbrev control : Td S
control =
    record { first = words 0x01000680 0x00120000 8 0x00030840; rest = words 0x20000 0 0x12 0x00010c04 ∷ words 0 0 0 0x00001020 ∷ []; link = link; deferred = true }

-- a bulk request from its begin to its end
abbrev one : List (Move S)
one = to_begin bulk ∷ to_store ∷ to_step ∷ to_free 1 ∷ []

-- n stores of the TD under way, with four steps of the controller after each
abbrev stores : ℕ → List (Move S)
stores zero = []
stores (suc n) = to_store ∷ to_step ∷ to_step ∷ to_step ∷ to_step ∷ stores n

-- the state after n stores of the control TD
abbrev moves : ℕ → List (Move S)
moves n = one ++ one ++ one ++ to_begin control ∷ [] ++ stores n

after : ℕ → State S
unfolding play made begin store step free settle cycle_of type_of words_at put put_words set_slot set_cycle link_type
after n = play (made S (replicate 20 0)) (moves n)

-- each move may be made in its turn, so this state is one of those that the theorem speaks of
allowed : Allowed (made S (replicate 20 0)) (moves 5)
unfolding after
allowed = (
  record { none_under_way = refl; running = refl; room = lit< tt; plain = (refl, tt); linked = refl },
  (
    tt,
    (
      tt,
      (
        record { covers = lit≤ tt },
        (
          record { none_under_way = refl; running = refl; room = lit< tt; plain = (refl, tt); linked = refl },
          (
            tt,
            (
              tt,
              (
                record { covers = lit≤ tt },
                (
                  record { none_under_way = refl; running = refl; room = lit< tt; plain = (refl, tt); linked = refl },
                  (
                    tt,
                    (
                      tt,
                      (
                        record { covers = lit≤ tt },
                        (
                          record { none_under_way = refl; running = refl; room = lit< tt; plain = (refl, (refl, (refl, tt))); linked = refl },
                          (tt, (tt, (tt, (tt, (tt, (tt, (tt, (tt, (tt, (tt, (tt, (tt, (tt, (tt, (tt, (tt, (tt, (tt, (tt, (tt, (tt, (tt, (tt, (tt, (tt, tt))))))))))))))))))))))))),
                        ),
                      ),
                    ),
                  ),
                ),
              ),
            ),
          ),
        ),
      ),
    ),
  ),
)

reached : Run (after 5)
unfolding after
reached = run_play (made S (replicate 20 0)) (moves 5) (at_first (replicate 20 0) (zeroed 4)) allowed

begun : ((after 0).producer ≡ record { place = 3; cycle = true }) × (length (after 0).consumed ≡ 3) × ((after 0).before ≡ 3)
unfolding after
begun = (refl, refl, refl)

-- the stores of W10, one by one, and what is consumed by then
first_store : (words_at (after 1).ring 3 ≡ words 0x01000680 0x00120000 8 0x00030840) × (length (after 1).consumed ≡ 3)
unfolding after
first_store = (refl, refl)

second_store : (words_at (after 2).ring 4 ≡ words 0x10000 0 0 0x1803) × (length (after 2).consumed ≡ 3)
unfolding after
second_store = (refl, refl)

third_store : (words_at (after 3).ring 0 ≡ words 0x20000 0 0x12 0x00010c04) × (length (after 3).consumed ≡ 3)
unfolding after
third_store = (refl, refl)

fourth_store : (words_at (after 4).ring 1 ≡ words 0 0 0 0x00001020) × (length (after 4).consumed ≡ 3)
unfolding after
fourth_store = (refl, refl)

fifth_store : (words_at (after 5).ring 3 ≡ words 0x01000680 0x00120000 8 0x00030841) × ((after 5).work ≡ idle) × ((after 5).producer ≡ record {
  place =
      2;
  cycle = false;
})
unfolding after
fifth_store = (refl, refl, refl)

-- with the last store made, four steps consume the whole TD, the link's step among them
abbrev entry : ℕ → Words → Entry S
entry i t = record { at = i; trb = t }

abbrev six : List (Entry S)
six =
    entry 0 (words 0x30000 0 64 0x425) ∷ entry 1 (words 0x30000 0 64 0x425) ∷ entry 2 (words 0x30000 0 64 0x425)
    ∷ entry 3 (words 0x01000680 0x00120000 8 0x00030841) ∷ entry 0 (words 0x20000 0 0x12 0x00010c04) ∷ entry 1 (words 0 0 0 0x00001020) ∷ []

all_consumed : (after 5).consumed ≡ six
unfolding after
all_consumed = refl

all_admitted : (after 5).admitted ≡ six
unfolding after
all_admitted = refl

-- Why at most L - 2. Four TDs of one TRB are consumed, and the controller stands at the link. Then four more, L - 1, are stored, with the next
-- lap's link among them: the controller's cycle bit is gone from the link's slot, and it waits there for ever. `MayBegin` rules this out.
abbrev two_stores : List (Move S)
two_stores = to_begin bulk ∷ to_store ∷ to_store ∷ []

overfull : State S
unfolding play steps made begin store step free settle cycle_of type_of words_at put put_words set_slot set_cycle link_type
overfull = play (made S (replicate 20 0)) (one ++ one ++ one ++ one ++ to_store ∷ two_stores ++ two_stores ++ two_stores ++ two_stores ++ stores 5)

stuck : (length overfull.admitted ≡ 8) × (length overfull.consumed ≡ 4)
unfolding overfull
stuck = (refl, refl)

-- Why only what is consumed may be freed. Three TDs are stored, and freed unconsumed; three more then overwrite the first: the controller finds
-- the other cycle bit at slot 0, and consumes nothing for ever. `MayFree` rules this out.
overwritten : State S
unfolding play made begin store step free settle cycle_of type_of words_at put put_words set_slot set_cycle link_type
overwritten =
    play (made S (replicate 20 0)) (two_stores ++ two_stores ++ two_stores ++ to_free 3 ∷ two_stores ++ two_stores ++ two_stores ++ stores 5)

lost : (length overwritten.admitted ≡ 6) × (overwritten.consumed ≡ [])
unfolding overwritten
lost = (refl, refl)

-- Stop and resume: the first request is not consumed before the stop, and is taken out. What comes after the resume is consumed
resumed : State S
unfolding play made begin store step free stop resume settle cycle_of type_of words_at put put_words set_slot set_cycle link_type
resumed = play (made S (replicate 20 0)) (to_begin bulk ∷ to_store ∷ to_stop ∷ to_step ∷ to_free 1 ∷ to_resume ∷ to_step ∷ one)

goes_on : (resumed.consumed ≡ entry 1 (words 0x30000 0 64 0x425) ∷ []) × (resumed.admitted ≡ entry 1 (words 0x30000 0 64 0x425) ∷ []) × (resumed.outstanding ≡ 0)
unfolding resumed
goes_on = (refl, refl, refl)
