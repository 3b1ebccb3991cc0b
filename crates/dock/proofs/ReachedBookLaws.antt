-- The account and the records go on agreeing when a record is taken, when one is freed, and when words change that are no id, state, count or
-- place. Assumes nothing.
use Prim.Native.Nat.{ℕ, zero, suc, ◌+◌, ◌-◌, ◌*◌, ◌^◌, ◌<◌, ◌≤◌}
use mathlib.Core.Bool.{Bool, true, false, ◌&&◌}
use mathlib.Core.List.{List}
use mathlib.Core.Logic.{◌⊎◌, inl, inr, ⊎_elim}
use mathlib.Core.Path.{◌≡◌, refl, sym, ap, ap₂, ◌∙◌}
use native.Mathlib.Nat.{eq-or-lt_of_le}
use native.Mathlib.Omega.{arith}
use lib.ListN.{length}
use lib.Seq.{get_or-set_other}
use Rattle.base.specs.First.{pick}
use Rattle.base.specs.Part.{put}
use Rattle.base.proofs.Compare.{same_or_not}
use Rattle.base.proofs.Decide.{Decides, both, by_true, if_so, if_not}
use Rattle.base.proofs.Lent.{put_length}
use Rattle.mask.specs.Occupancy.{held, HeldIs}
use Rattle.mask.specs.Occupancy as masks
use Rattle.mask.specs.declared.Occupancy.{Occupancy}
use Rattle.mask.proofs.SumLaws.{sum_same, sum_change}
use Rattle.mask.proofs.OccupancyLaws.{taken_is, taken_sized, freed_is, freed_sized}
use Rattle.sizes.specs.Sizes.{record_count, record_words, records_size}
use Rattle.ids.specs.Free.{id_at, free_in}
use Rattle.ids.specs.Order.{after_id, after_n}
use Rattle.ids.proofs.AnyLaws.{never_both, after_last, after_more}
use Rattle.ids.proofs.SearchLaws.{answer_other, answer_first}
use Rattle.records.specs.States.{state_is, in_flight, stopped}
use Rattle.records.specs.Records.{record_at, record_list, set_word}
use Rattle.records.proofs.StateLaws.{by_state}
use Rattle.records.specs.declared.Record.{Record}
use Rattle.records.proofs.RecordLaws.{id_is, record_put, record_other, set_length}
use Rattle.dock.specs.declared.Account.{Account}
use Rattle.dock.specs.RowOne.{flies}
use Rattle.dock.specs.Reclaim.{freed}
use Rattle.dock.specs.Start.{charged}
use Rattle.dock.proofs.Reached.{flight_part, flight_sum, Books}

-- ---- what a record adds to outstanding

pub by_flies : (records : List ℕ) (occupancy : Occupancy) (r : ℕ) → Decides (flies records occupancy r) ((held occupancy r ≡ true) × ((record_at records r).state ≡ in_flight))
by_flies records occupancy r = both (by_true (held occupancy r)) (by_state (record_at records r).state in_flight)

-- A held record in flight adds its count,
pub part_flies : (records : List ℕ) (occupancy : Occupancy) (r : ℕ) → held occupancy r ≡ true → (record_at records r).state ≡ in_flight
    → flight_part records occupancy r ≡ (record_at records r).count
unfolding flight_part
part_flies records occupancy r held flying =
    ap (λ (b : Bool). pick b (record_at records r).count 0) (if_so (by_flies records occupancy r) (held, flying))

-- and every other nothing.
pub part_none : (records : List ℕ) (occupancy : Occupancy) (r : ℕ) → ((held occupancy r ≡ true) × ((record_at records r).state ≡ in_flight) → ⊥) → flight_part records occupancy r ≡ 0
unfolding flight_part
part_none records occupancy r other = ap (λ (b : Bool). pick b (record_at records r).count 0) (if_not (by_flies records occupancy r) other)

-- What a record adds goes by whether it is held, its state and its count.
pub part_same : (records after : List ℕ) (occupancy other : Occupancy) (r : ℕ) → held other r ≡ held occupancy r
    → (record_at after r).state ≡ (record_at records r).state → (record_at after r).count ≡ (record_at records r).count
    → flight_part after other r ≡ flight_part records occupancy r
unfolding flight_part
part_same records after occupancy other r b s c =
    ap (λ (h : Bool). pick (h && state_is (record_at after r).state in_flight) (record_at after r).count 0) b
    ∙ ap₂ (λ (x y : ℕ). pick (held occupancy r && state_is x in_flight) y 0) s c

-- ---- words change that are no id, state, count or place

pub record Alike (records after : List ℕ) : Type 0 where
  pub long : length after ≡ length records
  pub id : (r : ℕ) → id_at after r ≡ id_at records r
  pub state : (r : ℕ) → (record_at after r).state ≡ (record_at records r).state
  pub count : (r : ℕ) → (record_at after r).count ≡ (record_at records r).count
  pub place : (r : ℕ) → (record_at after r).place ≡ (record_at records r).place

pub alike_same : (records : List ℕ) → Alike records records
alike_same records = record { long = refl; id = λ r. refl; state = λ r. refl; count = λ r. refl; place = λ r. refl }

-- A word that is set, none of those.
pub alike_set : (records : List ℕ) (r k value : ℕ) → k < record_words → (k ≡ 0 → ⊥) → (k ≡ 3 → ⊥) → (k ≡ 8 → ⊥) → (k ≡ 9 → ⊥)
    → Alike records (set_word records r k value)
unfolding set_word record_at
alike_set records r k value small a b p c = record {
  long = set_length records r k value;
  id = λ s. get_or-set_other records (record_words * r + k) (record_words * s) value 0 (λ e. a (omega arith));
  state = λ s. get_or-set_other records (record_words * r + k) (record_words * s + 3) value 0 (λ e. b (omega arith));
  count = λ s. get_or-set_other records (record_words * r + k) (record_words * s + 9) value 0 (λ e. c (omega arith));
  place = λ s. get_or-set_other records (record_words * r + k) (record_words * s + 8) value 0 (λ e. p (omega arith));
}

pub flies_alike : (records after : List ℕ) (occupancy : Occupancy) (r : ℕ) → Alike records after → flies after occupancy r ≡ flies records occupancy r
flies_alike records after occupancy r k = ap (λ (x : ℕ). held occupancy r && state_is x in_flight) (k.state r)

pub books_alike : (a : Account) (records after : List ℕ) → Books a records → Alike records after → Books a after
unfolding flight_sum
books_alike a records after b k = record {
  next_above = b.next_above;
  next_below = b.next_below;
  occupancy_sized = b.occupancy_sized;
  states = λ r l h. ⊎_elim (λ e. inl (k.state r ∙ e)) (λ e. inr (k.state r ∙ e)) (b.states r l h);
  id_above = λ r l h. omega (arith, k.id r, b.id_above r l h);
  id_below = λ r l h. omega (arith, k.id r, b.id_below r l h);
  distinct = λ r q l m h g e. b.distinct r q l m h g (sym (k.id r) ∙ e ∙ k.id q);
  outstanding_sum =
      b.outstanding_sum
      ∙ sym (sum_same record_count (flight_part after a.occupancy) (flight_part records a.occupancy)
      (λ r l. part_same records after a.occupancy a.occupancy r refl (k.state r) (k.count r)));
}

-- ---- a record is freed

module _ (a : Account) (records : List ℕ) (r : ℕ) (within : r < record_count) where
  clears : HeldIs a.occupancy r false (masks.freed a.occupancy r)
  clears = freed_is a.occupancy r within

  -- The record is then held no more, and every other is held that was.
  pub freed_here : held (masks.freed a.occupancy r) r ≡ false
  freed_here = clears.here

  pub freed_other : (q : ℕ) → (q ≡ r → ⊥) → held (masks.freed a.occupancy r) q ≡ held a.occupancy q
  freed_other q differs = clears.others q differs

  pub still_held : (q : ℕ) → held (masks.freed a.occupancy r) q ≡ true → held a.occupancy q ≡ true
  still_held q h =
      ⊎_elim
      (λ (e : q ≡ r). absurd (never_both (sym (ap (held (masks.freed a.occupancy r)) e) ∙ h) freed_here))
      (λ (d : q ≡ r → ⊥). sym (freed_other q d) ∙ h)
      (same_or_not q r)

  -- The sum falls by what the record added.
  pub freed_sum : flight_sum records (masks.freed a.occupancy r) + flight_part records a.occupancy r ≡ flight_sum records a.occupancy
  unfolding flight_sum
  freed_sum =
      let none : flight_part records (masks.freed a.occupancy r) r ≡ 0 = part_none records (masks.freed a.occupancy r) r (λ h. never_both h.0 freed_here) in
      let change = sum_change record_count r (flight_part records (masks.freed a.occupancy r)) (flight_part records a.occupancy) within
      (λ q l d. part_same records records a.occupancy (masks.freed a.occupancy r) q (freed_other q d) refl refl) in
      omega (arith, none, change)

  -- "takes a request's TRB count off outstanding, never below 0": the count is part of the sum, so that the difference does not stop at 0.
  pub freed_exact : Books a records → flight_part records a.occupancy r ≤ a.outstanding
  freed_exact b = omega (arith, b.outstanding_sum, freed_sum)

  pub books_freed : (count : ℕ) → count ≡ flight_part records a.occupancy r → Books a records → Books (freed a r count) records
  books_freed count e b = record {
    next_above = b.next_above;
    next_below = b.next_below;
    occupancy_sized = freed_sized a.occupancy r within b.occupancy_sized;
    states = λ q l h. b.states q l (still_held q h);
    id_above = λ q l h. b.id_above q l (still_held q h);
    id_below = λ q l h. b.id_below q l (still_held q h);
    distinct = λ p q l m h g s. b.distinct p q l m (still_held p h) (still_held q g) s;
    outstanding_sum = omega (arith, b.outstanding_sum, freed_sum);
  }

-- ---- ids

-- The id after an id is an id, and so is the k-th.
pub after_range : (x : ℕ) → x < 2 ^ 64 → (0 < after_id x) × (after_id x < 2 ^ 64)
after_range x g =
    ⊎_elim
    (λ (q : x ≡ 2 ^ 64 - 1). omega (arith, after_last x q))
    (λ (q : x < 2 ^ 64 - 1). omega (arith, after_more x (λ z. omega arith)))
    (eq-or-lt_of_le (omega arith))

pub steps_range : (k x : ℕ) → 0 < x → x < 2 ^ 64 → (0 < after_n k x) × (after_n k x < 2 ^ 64)
unfolding after_n
steps_range zero x h g = (h, g)
steps_range (suc k) x h g = let n = after_range x g in steps_range k (after_id x) n.0 n.1

-- The id that a search takes is one.
pub taken_range : (records : List ℕ) (occupancy : Occupancy) (next : ℕ) → 0 < next → next < 2 ^ 64
    → (0 < free_in records occupancy next) × (free_in records occupancy next < 2 ^ 64)
taken_range records occupancy next h g =
    let f = answer_first record_count (held occupancy) (id_at records) next (omega arith) h g in
    let n = steps_range f.steps next h g in
    omega (arith, f.reached, n.0, n.1)

-- ---- a record is taken

module _ (a : Account) (records : List ℕ) (r : ℕ) (v : Record) (within : r < record_count) (clear : held a.occupancy r ≡ false)
    (long : length records ≡ records_size) (flying : v.state ≡ in_flight) (fresh : v.id ≡ free_in records a.occupancy a.next) where
  after : List ℕ
  after = put record_words records r (record_list v)

  fits : record_words * r + record_words ≤ length records
  fits = omega arith

  here : record_at after r ≡ v
  unfolding after
  here = record_put records r v fits

  other : (q : ℕ) → (q ≡ r → ⊥) → record_at after q ≡ record_at records q
  unfolding after
  other q d = record_other records r v fits q d

  id_here : id_at after r ≡ v.id
  id_here = sym (id_is after r) ∙ ap (λ (x : Record). x.id) here

  id_other : (q : ℕ) → (q ≡ r → ⊥) → id_at after q ≡ id_at records q
  id_other q d = sym (id_is after q) ∙ ap (λ (x : Record). x.id) (other q d) ∙ id_is records q

  sets : HeldIs a.occupancy r true (masks.taken a.occupancy r)
  sets = taken_is a.occupancy r within

  was_held : (q : ℕ) → (q ≡ r → ⊥) → held (masks.taken a.occupancy r) q ≡ true → held a.occupancy q ≡ true
  was_held q d h = sym (sets.others q d) ∙ h

  -- The sum rises by the count.
  taken_sum : flight_sum after (masks.taken a.occupancy r) ≡ flight_sum records a.occupancy + v.count
  unfolding flight_sum
  taken_sum =
      let mine : flight_part after (masks.taken a.occupancy r) r ≡ v.count =
      part_flies after (masks.taken a.occupancy r) r sets.here (ap (λ (x : Record). x.state) here ∙ flying) ∙ ap (λ (x : Record). x.count) here in
      let before : flight_part records a.occupancy r ≡ 0 = part_none records a.occupancy r (λ h. never_both h.0 clear) in
      let change = sum_change record_count r (flight_part after (masks.taken a.occupancy r)) (flight_part records a.occupancy) within
      (λ q l d. part_same records after a.occupancy (masks.taken a.occupancy r) q (sets.others q d)
      (ap (λ (x : Record). x.state) (other q d)) (ap (λ (x : Record). x.count) (other q d))) in
      omega (arith, mine, before, change)

  -- No held record has the new id.
  module _ (b : Books a records) where
    new_id : (q : ℕ) → q < record_count → held a.occupancy q ≡ true → v.id ≡ id_at records q → ⊥
    new_id q l h e = answer_other record_count (held a.occupancy) (id_at records) a.next (omega arith) b.next_above b.next_below q l h (sym fresh ∙ e)

    range : (0 < v.id) × (v.id < 2 ^ 64)
    range = let n = taken_range records a.occupancy a.next b.next_above b.next_below in omega (arith, fresh, n.0, n.1)

    states_after : (q : ℕ) → q < record_count → held (masks.taken a.occupancy r) q ≡ true → ((record_at after q).state ≡ in_flight) ⊎ ((record_at after q).state ≡ stopped)
    states_after q l h =
        ⊎_elim
        (λ (e : q ≡ r). inl (ap (λ (x : ℕ). (record_at after x).state) e ∙ ap (λ (x : Record). x.state) here ∙ flying))
        (λ (d : q ≡ r → ⊥).
        let same = ap (λ (x : Record). x.state) (other q d) in
        ⊎_elim (λ e. inl (same ∙ e)) (λ e. inr (same ∙ e)) (b.states q l (was_held q d h)))
        (same_or_not q r)

    range_after : (q : ℕ) → q < record_count → held (masks.taken a.occupancy r) q ≡ true → (0 < id_at after q) × (id_at after q < 2 ^ 64)
    range_after q l h =
        ⊎_elim
        (λ (e : q ≡ r). omega (arith, ap (id_at after) e, id_here, range))
        (λ (d : q ≡ r → ⊥). omega (arith, id_other q d, b.id_above q l (was_held q d h), b.id_below q l (was_held q d h)))
        (same_or_not q r)

    distinct_after : (p q : ℕ) → p < record_count → q < record_count → held (masks.taken a.occupancy r) p ≡ true → held (masks.taken a.occupancy r) q ≡ true
        → id_at after p ≡ id_at after q → p ≡ q
    distinct_after p q l m h g s =
        ⊎_elim
        (λ (e : p ≡ r).
        ⊎_elim
        (λ (f : q ≡ r). e ∙ sym f)
        (λ (d : q ≡ r → ⊥). absurd (new_id q m (was_held q d g) (sym (ap (id_at after) e ∙ id_here) ∙ s ∙ id_other q d)))
        (same_or_not q r))
        (λ (c : p ≡ r → ⊥).
        ⊎_elim
        (λ (f : q ≡ r). absurd (new_id p l (was_held p c h) (sym (ap (id_at after) f ∙ id_here) ∙ sym s ∙ id_other p c)))
        (λ (d : q ≡ r → ⊥). b.distinct p q l m (was_held p c h) (was_held q d g) (sym (id_other p c) ∙ s ∙ id_other q d))
        (same_or_not q r))
        (same_or_not p r)

    pub books_taken : Books (charged a v.id r v.count) (put record_words records r (record_list v))
    unfolding charged after
    books_taken =
        let next = after_range v.id range.1 in
        record {
          next_above = next.0;
          next_below = next.1;
          occupancy_sized = taken_sized a.occupancy r within b.occupancy_sized;
          states = states_after;
          id_above = λ q l h. (range_after q l h).0;
          id_below = λ q l h. (range_after q l h).1;
          distinct = distinct_after;
          outstanding_sum = omega (arith, b.outstanding_sum, taken_sum);
        }

    pub taken_long : length (put record_words records r (record_list v)) ≡ records_size
    taken_long = put_length record_words records r (record_list v) refl fits ∙ long

    pub taken_flies : flies (put record_words records r (record_list v)) (masks.taken a.occupancy r) r ≡ true
    unfolding after
    taken_flies = if_so (by_flies after (masks.taken a.occupancy r) r) (sets.here, ap (λ (x : Record). x.state) here ∙ flying)
