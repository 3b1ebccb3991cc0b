-- Retiring: every record that was in flight is stopped, ids and counts stay, and outstanding falls to 0. Assumes nothing.
use Prim.Native.Nat.{ℕ, zero, suc, ◌+◌, ◌-◌, ◌*◌, ◌<◌, ◌≤◌}
use mathlib.Core.Bool.{Bool, true, false}
use mathlib.Core.List.{List}
use mathlib.Core.Logic.{inr, ⊎_elim}
use mathlib.Core.Path.{◌≡◌, refl, sym, ap, ◌∙◌}
use native.Mathlib.Nat.{eq-or-lt_of_le, le_of_suc-le-suc}
use native.Mathlib.Omega.{arith}
use lib.ListN.{length}
use lib.Seq.{get_or-set_other}
use Rattle.base.specs.First.{pick}
use Rattle.base.proofs.Decide.{if_so, if_not}
use Rattle.mask.specs.Bit.{sum}
use Rattle.mask.specs.Occupancy.{held}
use Rattle.mask.specs.declared.Occupancy.{Occupancy}
use Rattle.sizes.specs.Sizes.{record_count, record_words, records_size}
use Rattle.ids.specs.Free.{id_at}
use Rattle.ids.proofs.AnyLaws.{true_or_false, never_both}
use Rattle.records.specs.States.{in_flight, stopped}
use Rattle.records.proofs.StateLaws.{flying_not_stopped}
use Rattle.records.specs.Records.{state_word, record_at, set_word}
use Rattle.records.proofs.RecordLaws.{word_set, set_length}
use Rattle.dock.specs.declared.Account.{Account}
use Rattle.dock.specs.RowOne.{flies}
use Rattle.dock.specs.Retire.{retired_below}
use Rattle.dock.proofs.Reached.{flight_part, flight_sum, Books}
use Rattle.dock.proofs.ReachedBookLaws.{by_flies, part_flies, part_none}

-- A choice has a property that both sides have, each where the test leads to it.
pub picked : {A : Type 0} (P : A → Type 0) (b : Bool) (x y : A) → (b ≡ true → P x) → (b ≡ false → P y) → P (pick b x y)
picked P true x y p q = p refl
picked P false x y p q = q refl

-- A sum of nothing.
pub sum_none : (n : ℕ) (f : ℕ → ℕ) → ((k : ℕ) → k < n → f k ≡ 0) → sum n f ≡ 0
unfolding sum
sum_none zero f h = refl
sum_none (suc n) f h = omega (arith, sum_none n f (λ k l. h k (omega arith)), h n (omega arith))

-- ---- one record set to stopped

module _ (records : List ℕ) (r : ℕ) where
  stop_id : (q : ℕ) → id_at (set_word records r state_word stopped) q ≡ id_at records q
  unfolding set_word
  stop_id q = get_or-set_other records (record_words * r + 3) (record_words * q) stopped 0 (λ e. omega arith)

  stop_count : (q : ℕ) → (record_at (set_word records r state_word stopped) q).count ≡ (record_at records q).count
  unfolding set_word record_at
  stop_count q = get_or-set_other records (record_words * r + 3) (record_words * q + 9) stopped 0 (λ e. omega arith)

  stop_other : (q : ℕ) → (q ≡ r → ⊥) → (record_at (set_word records r state_word stopped) q).state ≡ (record_at records q).state
  unfolding set_word record_at
  stop_other q d = get_or-set_other records (record_words * r + 3) (record_words * q + 3) stopped 0 (λ e. d (omega arith))

  stop_here : r < record_count → length records ≡ records_size → (record_at (set_word records r state_word stopped) r).state ≡ stopped
  unfolding record_at
  stop_here l long = word_set records r state_word stopped (omega arith)

-- ---- the records below n

pub record Retiring (n : ℕ) (occupancy : Occupancy) (outstanding : ℕ) (records : List ℕ) (s : ℕ × List ℕ) : Type 0 where
  pub long : length s.1 ≡ length records
  pub id : (r : ℕ) → id_at s.1 r ≡ id_at records r
  pub count : (r : ℕ) → (record_at s.1 r).count ≡ (record_at records r).count
  pub ahead : (r : ℕ) → n ≤ r → (record_at s.1 r).state ≡ (record_at records r).state
  pub stops : (r : ℕ) → r < n → flies records occupancy r ≡ true → (record_at s.1 r).state ≡ stopped
  pub others : (r : ℕ) → flies records occupancy r ≡ false → (record_at s.1 r).state ≡ (record_at records r).state
  pub rest : sum n (flight_part records occupancy) ≤ outstanding → s.0 + sum n (flight_part records occupancy) ≡ outstanding

module _ (occupancy : Occupancy) (outstanding : ℕ) (records : List ℕ) (sized : length records ≡ records_size) where
  module _ (n : ℕ) (l : n < record_count) (s : ℕ × List ℕ) (i : Retiring n occupancy outstanding records s) where
    same_flight : flies s.1 occupancy n ≡ flies records occupancy n
    same_flight =
        ⊎_elim
        (λ (t : flies records occupancy n ≡ true).
        let f = (by_flies records occupancy n).so t in
        if_so (by_flies s.1 occupancy n) (f.0, i.ahead n (omega arith) ∙ f.1) ∙ sym t)
        (λ (t : flies records occupancy n ≡ false).
        if_not (by_flies s.1 occupancy n) (λ h. (by_flies records occupancy n).not_so t (h.0, sym (i.ahead n (omega arith)) ∙ h.1)) ∙ sym t)
        (true_or_false (flies records occupancy n))

    -- The record flies: it is stopped, and its count leaves.
    flying_step : flies s.1 occupancy n ≡ true
        → Retiring (suc n) occupancy outstanding records (s.0 - (record_at s.1 n).count, set_word s.1 n state_word stopped)
    unfolding sum
    flying_step t =
        let f = (by_flies records occupancy n).so (sym same_flight ∙ t) in
        let part = part_flies records occupancy n f.0 f.1 in
        record {
          long = set_length s.1 n state_word stopped ∙ i.long;
          id = λ r. stop_id s.1 n r ∙ i.id r;
          count = λ r. stop_count s.1 n r ∙ i.count r;
          ahead = λ r h. stop_other s.1 n r (λ e. omega arith) ∙ i.ahead r (omega arith);
          stops = λ r h g. ⊎_elim
              (λ (e : r ≡ n). ap (λ (x : ℕ). (record_at (set_word s.1 n state_word stopped) x).state) e ∙ stop_here s.1 n l (i.long ∙ sized))
              (λ (e : r < n). stop_other s.1 n r (λ d. omega arith) ∙ i.stops r e g)
              (eq-or-lt_of_le (le_of_suc-le-suc h));
          others = λ r g. stop_other s.1 n r
              (λ e. never_both (ap (flies records occupancy) e ∙ sym same_flight ∙ t) g)
              ∙ i.others r g;
          rest = λ h. let before = i.rest (omega arith) in omega (arith, i.count n);
        }

    -- It does not: all stays.
    staying_step : flies s.1 occupancy n ≡ false → Retiring (suc n) occupancy outstanding records s
    unfolding sum
    staying_step t =
        let none = part_none records occupancy n ((by_flies records occupancy n).not_so (sym same_flight ∙ t)) in
        record {
          long = i.long;
          id = i.id;
          count = i.count;
          ahead = λ r h. i.ahead r (omega arith);
          stops = λ r h g. ⊎_elim
              (λ (e : r ≡ n). absurd (never_both g (ap (flies records occupancy) e ∙ sym same_flight ∙ t)))
              (λ (e : r < n). i.stops r e g)
              (eq-or-lt_of_le (le_of_suc-le-suc h));
          others = i.others;
          rest = λ h. let before = i.rest (omega arith) in omega arith;
        }

  pub retiring : (n : ℕ) → n ≤ record_count → Retiring n occupancy outstanding records (retired_below n occupancy outstanding records)
  unfolding retired_below sum
  retiring zero l = record {
    long = refl;
    id = λ r. refl;
    count = λ r. refl;
    ahead = λ r h. refl;
    stops = λ r h g. absurd (omega arith);
    others = λ r g. refl;
    rest = λ h. omega arith;
  }
  retiring (suc n) l =
      let s = retired_below n occupancy outstanding records in
      let i = retiring n (omega arith) in
      picked (Retiring (suc n) occupancy outstanding records) (flies s.1 occupancy n) _ _
      (flying_step n l s i) (staying_step n l s i)

-- ---- all records

-- The account after a retire.
abbrev pub retired_account : Account → ℕ → Account
retired_account a left = record { next = a.next; occupancy = a.occupancy; outstanding = left }

module _ (a : Account) (records : List ℕ) (sized : length records ≡ records_size) where
  all : Retiring record_count a.occupancy a.outstanding records (retired_below record_count a.occupancy a.outstanding records)
  all = retiring a.occupancy a.outstanding records sized record_count (omega arith)

  -- Nothing flies afterwards,
  pub none_flies : (r : ℕ) → r < record_count
      → (held a.occupancy r ≡ true) × ((record_at (retired_below record_count a.occupancy a.outstanding records).1 r).state ≡ in_flight) → ⊥
  none_flies r l h =
      ⊎_elim
      (λ (t : flies records a.occupancy r ≡ true). flying_not_stopped _ h.1 (all.stops r l t))
      (λ (t : flies records a.occupancy r ≡ false). (by_flies records a.occupancy r).not_so t (h.0, sym (all.others r t) ∙ h.1))
      (true_or_false (flies records a.occupancy r))

  module _ (b : Books a records) where
    -- outstanding is 0,
    pub retired_none : (retired_below record_count a.occupancy a.outstanding records).0 ≡ 0
    unfolding flight_sum
    retired_none =
        let sums = b.outstanding_sum in
        let rest = all.rest (omega arith) in
        omega arith

    -- every held record is stopped,
    pub retired_stopped : (r : ℕ) → r < record_count → held a.occupancy r ≡ true
        → (record_at (retired_below record_count a.occupancy a.outstanding records).1 r).state ≡ stopped
    retired_stopped r l h =
        ⊎_elim
        (λ (t : flies records a.occupancy r ≡ true). all.stops r l t)
        (λ (t : flies records a.occupancy r ≡ false).
        ⊎_elim
        (λ e. absurd ((by_flies records a.occupancy r).not_so t (h, e)))
        (λ e. all.others r t ∙ e)
        (b.states r l h))
        (true_or_false (flies records a.occupancy r))

    -- and account and records agree.
    pub books_retired :
        Books (retired_account a (retired_below record_count a.occupancy a.outstanding records).0)
        (retired_below record_count a.occupancy a.outstanding records).1
    unfolding flight_sum
    books_retired =
        let after = (retired_below record_count a.occupancy a.outstanding records).1 in
        record {
          next_above = b.next_above;
          next_below = b.next_below;
          occupancy_sized = b.occupancy_sized;
          states = λ r l h. inr (retired_stopped r l h);
          id_above = λ r l h. omega (arith, all.id r, b.id_above r l h);
          id_below = λ r l h. omega (arith, all.id r, b.id_below r l h);
          distinct = λ r q l m h g e. b.distinct r q l m h g (sym (all.id r) ∙ e ∙ all.id q);
          outstanding_sum =
              retired_none
              ∙ sym (sum_none record_count (flight_part after a.occupancy) (λ r l. part_none after a.occupancy r (none_flies r l)));
        }
