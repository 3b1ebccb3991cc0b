-- The TRBs that the stores of a submission will store: they are as many as are asked for, the link's store does not change them, and the next store of a
-- TRB takes the first. Assumes nothing.
use Prim.Native.Nat.{ℕ, zero, suc, ◌+◌, ◌-◌, ◌<◌, ◌≤◌}
use mathlib.Core.Bool.{true, false}
use mathlib.Core.List.{List, ◌∷◌}
use mathlib.Core.Logic.{◌⊎◌, ⊎_elim}
use mathlib.Core.Path.{◌≡◌, refl, ap, ap₂, ◌∙◌}
use lib.ListN.{length}
use Rattle.base.proofs.Compare.{same_or_not}
use Rattle.trb.specs.declared.Trb.{Trb}
use Rattle.records.specs.Records.{record_at}
use Rattle.records.specs.declared.Record.{Record}
use Rattle.dock.specs.declared.Endpoint.{Endpoint}
use Rattle.dock.specs.RowOne.{the_link, the_trb, the_first, next_of, is_none}
use Rattle.dock.specs.RowOne as fit
use Rattle.dock.specs.NextStore.{stepped}
use Rattle.dock.specs.Trbs.{trb_count, trb_of, deferred}
use Rattle.dock.proofs.StoreNextLaws.{is_next}
use Rattle.promise.proofs.Kept.{upcoming, left}
use Rattle.promise.proofs.Laid.{bared_length}

pub upcoming_length : (n : ℕ) (e : Endpoint) (v : Record) (packets : List ℕ) → length (upcoming n e v packets) ≡ n
unfolding upcoming
upcoming_length zero e v packets = refl
upcoming_length (suc n) e v packets = ap suc (upcoming_length n (stepped the_trb e v packets) v packets)

pub left_count : (K : ℕ) (e : Endpoint) (records packets : List ℕ)
    → length (left K e records packets) ≡ trb_count (record_at records e.work.number) - e.work.stored
left_count K e records packets =
    let v = record_at records e.work.number in
    bared_length (upcoming (trb_count v - e.work.stored) e v packets) ∙ upcoming_length (trb_count v - e.work.stored) e v packets

-- What the TRBs of a submission go by, of the endpoint.
pub record Alike (a b : Endpoint) : Type 0 where
  pub stored : a.work.stored ≡ b.work.stored
  pub address : a.work.address ≡ b.work.address
  pub number : a.work.number ≡ b.work.number
  pub packet : a.periodic.packet ≡ b.periodic.packet
  pub burst : a.periodic.burst ≡ b.periodic.burst

module _ (v : Record) (packets : List ℕ) where
  same_trb : (a b : Endpoint) → Alike a b → trb_of a v packets a.work.stored ≡ trb_of b v packets b.work.stored
  unfolding trb_of
  same_trb a b s = rw (s.stored, s.address, s.number, s.packet, s.burst)

  alike_next : (a b : Endpoint) → Alike a b → Alike (stepped the_trb a v packets) (stepped the_trb b v packets)
  unfolding stepped
  alike_next a b s = record {
    stored = rw s.stored;
    address = rw (s.stored, s.address, s.number);
    number = s.number;
    packet = s.packet;
    burst = s.burst;
  }

  pub same_upcoming : (n : ℕ) (a b : Endpoint) → Alike a b → upcoming n a v packets ≡ upcoming n b v packets
  unfolding upcoming
  same_upcoming zero a b s = refl
  same_upcoming (suc n) a b s =
      ap₂ (λ (t : Trb) (ts : List Trb). t ∷ ts) (same_trb a b s)
      (same_upcoming n (stepped the_trb a v packets) (stepped the_trb b v packets) (alike_next a b s))

-- ---- whether a store follows

-- At L-1 the link does; else a TRB, where one is left; else, for a deferred TD, the first TRB again.
pub goes_on : (e : Endpoint) (v : Record)
    → (e.at.place + 1 ≡ e.shape.slots) ⊎ ((e.work.stored < trb_count v) ⊎ ((deferred v ≡ true) × (e.work.stored ≡ trb_count v)))
    → is_none (next_of e v) ≡ false
goes_on e v more =
    ⊎_elim
    (λ (q : e.at.place + 1 ≡ e.shape.slots). ap is_none (is_next e v the_link q))
    (λ (d : e.at.place + 1 ≡ e.shape.slots → ⊥).
    ⊎_elim
    (λ (q : e.at.place + 1 ≡ e.shape.slots). absurd (d q))
    (λ m.
    ⊎_elim
    (λ (l : e.work.stored < trb_count v). ap is_none (is_next e v the_trb (d, l)))
    (λ (c : (deferred v ≡ true) × (e.work.stored ≡ trb_count v)). ap is_none (is_next e v the_first (d, c.0, c.1)))
    m)
    more)
    (same_or_not (e.at.place + 1) e.shape.slots)

-- Else none does.
pub ends_here : (e : Endpoint) (v : Record) → (e.at.place + 1 ≡ e.shape.slots → ⊥) → trb_count v ≤ e.work.stored
    → ((deferred v ≡ true) × (e.work.stored ≡ trb_count v) → ⊥)
    → is_none (next_of e v) ≡ true
ends_here e v off all other = ap is_none (is_next e v fit.none (off, all, other))
