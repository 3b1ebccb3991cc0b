-- The records in flight, where words of records change that say nothing of a request's TRBs, and where a record whose TRBs have all been passed by an event
-- is freed. A change of nothing but such words, with no submission under way, keeps the invariant (`idle_changes`): a configuring and a cancel are such
-- changes. Assumes nothing.
use Rattle.std.specs.Prelude.{Option, Some, None}
use Prim.Native.Nat.{ℕ, ◌+◌, ◌<◌, ◌≤◌}
use mathlib.Core.Bool.{true, false, false≢true}
use mathlib.Core.List.{List}
use mathlib.Core.Logic.{⊎_elim}
use mathlib.Core.Path.{◌≡◌, refl, sym, ap, ◌∙◌, subst}
use native.Mathlib.Omega.{arith}
use lib.Dec.{eqb}
use lib.ListN.{length}
use Rattle.base.specs.First.{pick}
use Rattle.base.proofs.Compare.{same_or_not}
use Rattle.base.proofs.Decide.{if_so}
use Rattle.sizes.specs.Sizes.{record_count, record_words}
use Rattle.ids.specs.Lookup.{find_in}
use Rattle.mask.specs.Occupancy as masks
use Rattle.mask.specs.declared.Occupancy.{Occupancy}
use Rattle.records.specs.Records.{cancelled_word, recorded_word, record_at, set_word}
use Rattle.records.proofs.RecordLaws.{word_kept}
use Rattle.dock.specs.declared.Account.{Account}
use Rattle.dock.specs.declared.Endpoint.{Endpoint}
use Rattle.dock.specs.Cancel.{marked, cancel_no, cancel_tests}
use Rattle.dock.specs.Configure.{plain_no, plain_tests}
use Rattle.dock.specs.RowOne.{flies}
use Rattle.dock.proofs.ReachedBookLaws.{by_flies, Alike, alike_same, alike_set, flies_alike, still_held, freed_other}
use Rattle.dock.proofs.ReachedSoundLaws.{marked_alike}
use Rattle.dock.proofs.ReclaimLeaveLaws.{RecordsAfter}
use Rattle.dock.specs.Run.{state_of, configures, cancels}
use Rattle.dock.proofs.RefusalLaws.{plain_exact, configure_acts, configure_refuses, cancel_exact, cancel_acts, cancel_refuses}
use Rattle.promise.specs.Run.{World, with_dock, calls, act}
use Rattle.promise.proofs.Agreed.{configure_yes, configure_no}
use Rattle.promise.proofs.Handed.{idle_kept}
use Rattle.promise.proofs.Kept.{Kept, rests, Holds, Owner, Flights}

-- ---- words that say nothing of a request's TRBs

-- Ids, states, counts and places are as they were, and so are kinds and lengths.
pub record Same (records after : List ℕ) : Type 0 where
  pub alike : Alike records after
  pub kind : (r : ℕ) → (record_at after r).kind ≡ (record_at records r).kind
  pub length : (r : ℕ) → (record_at after r).length ≡ (record_at records r).length

pub same_same : (records : List ℕ) → Same records records
same_same records = record { alike = alike_same records; kind = λ r. refl; length = λ r. refl }

same_set : (records : List ℕ) (r k value : ℕ) → k < record_words → (k ≡ 1 → ⊥) → (k ≡ 6 → ⊥)
    → Alike records (set_word records r k value) → Same records (set_word records r k value)
unfolding record_at
same_set records r k value small a b alike = record {
  alike = alike;
  kind = λ s. word_kept records r k value s 1 (λ e. a (omega arith));
  length = λ s. word_kept records r k value s 6 (λ e. b (omega arith));
}

-- A cancel,
pub same_marked : (records : List ℕ) (f : Option ℕ) → Same records (marked records f)
same_marked records None = same_same records
same_marked records (Some r) =
    same_set records r cancelled_word 1 (omega arith) (λ e. omega arith) (λ e. omega arith) (marked_alike records (Some r))

-- and a reclaim.
pub same_after : (f : Option ℕ) (records after : List ℕ) → RecordsAfter f records after → Same records after
same_after None records after q = subst (λ (x : List ℕ). Same records x) (sym q) (same_same records)
same_after (Some r) records after q =
    ⊎_elim
    (λ (u : after ≡ records). subst (λ (x : List ℕ). Same records x) (sym u) (same_same records))
    (λ (u : (value : ℕ) × (after ≡ set_word records r recorded_word value)).
    subst (λ (x : List ℕ). Same records x) (sym u.1)
    (same_set records r recorded_word u.0 (omega arith) (λ e. omega arith) (λ e. omega arith)
    (alike_set records r recorded_word u.0 (omega arith) (λ e. omega arith) (λ e. omega arith) (λ e. omega arith) (λ e. omega arith))))
    q

module _ (K : ℕ) (records : List ℕ) (occupancy : Occupancy) (first : ℕ → ℕ) (total heard : ℕ) (f : Flights K records occupancy first total heard) where
  pub flights_same : (after : List ℕ) → Same records after → Flights K after occupancy first total heard
  flights_same after s = record { each = each; all = all }
    where
      each : (r : ℕ) → r < record_count → flies after occupancy r ≡ true → Holds K total (first r) (record_at after r)
      each r l fly =
          let h = f.each r l (sym (flies_alike records after occupancy r s.alike) ∙ fly) in
          let count = s.alike.count r in
          let c = h.counts in
          record {
            begins = h.begins ∙ sym (s.alike.place r);
            ends = omega (arith, h.ends);
            counts = record {
              some = omega (arith, c.some);
              of_control = λ q. count ∙ c.of_control (sym (s.kind r) ∙ q) ∙ ap (λ (n : ℕ). pick (eqb n 0) 2 3) (sym (s.length r));
              of_bulk = λ q. count ∙ c.of_bulk (sym (s.kind r) ∙ q);
              of_interrupt = λ q. count ∙ c.of_interrupt (sym (s.kind r) ∙ q);
            };
          }

      all : (j : ℕ) → heard ≤ j → j < total → Owner after occupancy first j
      all j h l =
          let o = f.all j h l in
          record {
            owner = o.owner;
            within = o.within;
            flying = flies_alike records after occupancy o.owner s.alike ∙ o.flying;
            from = o.from;
            to = omega (arith, o.to, s.alike.count o.owner);
          }

  -- ---- a record is freed, all of whose TRBs an event has passed

  pub flights_freed : (a : Account) → a.occupancy ≡ occupancy → (r : ℕ) → r < record_count
      → (flies records occupancy r ≡ true → first r + (record_at records r).count ≤ heard)
      → Flights K records (masks.freed occupancy r) first total heard
  flights_freed a same r l passed = record { each = each; all = all }
    where
      each : (q : ℕ) → q < record_count → flies records (masks.freed occupancy r) q ≡ true → Holds K total (first q) (record_at records q)
      each q m fly =
          let b = (by_flies records (masks.freed occupancy r) q).so fly in
          let kept = rw same at (still_held a records r l q (rw same b.0)) in
          f.each q m (if_so (by_flies records occupancy q) (kept, b.1))

      all : (j : ℕ) → heard ≤ j → j < total → Owner records (masks.freed occupancy r) first j
      all j h m =
          let o = f.all j h m in
          let b = (by_flies records occupancy o.owner).so o.flying in
          ⊎_elim
          (λ (q : o.owner ≡ r).
          let gone = passed (subst (λ (x : ℕ). flies records occupancy x ≡ true) q o.flying) in
          let to = subst (λ (x : ℕ). j < first x + (record_at records x).count) q o.to in
          absurd (omega arith))
          (λ (d : o.owner ≡ r → ⊥).
          record {
            owner = o.owner;
            within = o.within;
            flying = if_so (by_flies records (masks.freed occupancy r) o.owner) ((rw same at (freed_other a records r l o.owner d)) ∙ b.0, b.1);
            from = o.from;
            to = o.to;
          })
          (same_or_not o.owner r)

-- ---- changes with no submission under way

-- Position, shape, outstanding and held records are as they were, and none is under way before or after.
pub record Idle (e after : Endpoint) : Type 0 where
  pub at : after.at ≡ e.at
  pub shape : after.shape ≡ e.shape
  pub account : after.account ≡ e.account
  pub free : e.work.busy ≡ false
  pub still : after.work.busy ≡ false

pub idle_changes : (w : World) → Kept w → (e : Endpoint) (records packets : List ℕ) → Idle w.dock.endpoint e → Same w.dock.records records
    → Kept (with_dock w (state_of e w.dock.ring w.dock.finished records packets))
idle_changes w k e records packets i s = record {
  K = k.K;
  some_slot = k.some_slot;
  shape = rw i.shape k.shape;
  link_slot = rw i.shape k.link_slot;
  before = k.before;
  work = k.work;
  inv = rw (i.at, i.account) k.inv;
  numbered = rw (i.at, i.account) k.numbered;
  under = rests (record { free = i.still; is = idle_kept w k i.free });
  begun = λ b. absurd (false≢true (sym i.still ∙ b));
  stored = k.stored;
  split = k.split;
  heard_consumed = k.heard_consumed;
  places = k.places;
  flights = rw i.account
      (flights_same k.K w.dock.records w.dock.endpoint.account.occupancy w.first (length w.trbs)
      w.heard k.flights records s);
}

pub configured_kept : (w : World) (packet burst interval : ℕ) → Kept w → Kept (act w (calls (configures packet burst interval)))
unfolding plain_tests
configured_kept w packet burst interval k =
    let e = w.dock.endpoint in
    ⊎_elim
    (λ (p : plain_no e ≡ 0).
    let free : e.work.busy ≡ false = (plain_exact e).passed p 1 (omega arith) in
    rw (configure_yes w packet burst interval p, configure_acts e packet burst interval p)
    (idle_changes w k _ w.dock.records w.dock.packets (record { at = refl; shape = refl; account = refl; free = free; still = free })
    (same_same w.dock.records)))
    (λ (p : plain_no e ≡ 0 → ⊥). rw (configure_no w packet burst interval p, configure_refuses e packet burst interval p) k)
    (same_or_not (plain_no e) 0)

pub cancelled_kept : (w : World) (id : ℕ) → Kept w → Kept (act w (calls (cancels id)))
unfolding cancel_tests
cancelled_kept w id k =
    let e = w.dock.endpoint in
    let records = w.dock.records in
    ⊎_elim
    (λ (p : cancel_no e records id ≡ 0).
    let free : e.work.busy ≡ false = (cancel_exact e records id).passed p 1 (omega arith) in
    rw (cancel_acts e records id p)
    (idle_changes w k e (marked records (find_in records e.account.occupancy id)) w.dock.packets
    (record { at = refl; shape = refl; account = refl; free = free; still = free })
    (same_marked records (find_in records e.account.occupancy id))))
    (λ (p : cancel_no e records id ≡ 0 → ⊥). rw (cancel_refuses e records id p) k)
    (same_or_not (cancel_no e records id) 0)
